-- A temperature and settings, from the bytes of their fields. Definitions only.
use Rattle.std.specs.Prelude.{ℕ, Bool, false, cond, List, [], ◌∷◌, eqb, Float, length, get_or, take, drop, Option, Some, None}
use Rattle.linear_transformation.specs.declared.LinearTransformation.{LinearTransformation}
use Rattle.linear_transformation.specs.Line.{line}
use Rattle.rf_channel.specs.declared.ChannelSettings.{ChannelSettings}
use Rattle.rf_channel.specs.declared.ChannelState.{ChannelState}
use Rattle.rf_channel.specs.declared.ChannelState.TheVariants.{Off, Powered, Enabled}
use Rattle.field.specs.Field.{float_of}

-- ---- a temperature: `-` (45) is one that failed, and otherwise it is a float

abbrev pub celsius : Option Float → Option (Option Float)
celsius (Some degrees) = Some (Some degrees)
celsius None = None

-- the one byte `-`
abbrev pub is_dash : List ℕ → Bool
is_dash [] = false
is_dash (b ∷ []) = eqb b 45
is_dash (b ∷ c ∷ more) = false

unfoldable pub warmth_of : List ℕ → Option (Option Float)
warmth_of l = cond (is_dash l) (Some None) (celsius (float_of l))

-- ---- a transform: sixteen digits, the slope and then the offset

abbrev pub on_slope : Option Float → Option Float → Option LinearTransformation
on_slope None offset = None
on_slope (Some slope) None = None
on_slope (Some slope) (Some offset) = Some (line slope offset)

unfoldable pub pair_of : List ℕ → Option LinearTransformation
pair_of l = cond (eqb (length l) 16) (on_slope (float_of (take 8 l)) (float_of (take 8 (drop 8 l)))) None

-- ---- the state that is wanted: 0, 1 or 2 (48, 49, 50)

abbrev pub wanted_of : ℕ → Option ChannelState
wanted_of b = cond (eqb b 48) (Some Off) (cond (eqb b 49) (Some Powered) (cond (eqb b 50) (Some Enabled) None))

-- ---- settings: threshold, bias, the input's, the output's and the reflected power's transform, the state: 65 digits

abbrev pub on_real : (Float → Option ChannelSettings) → Option Float → Option ChannelSettings
on_real k (Some x) = k x
on_real k None = None

abbrev pub on_pair : (LinearTransformation → Option ChannelSettings) → Option LinearTransformation → Option ChannelSettings
on_pair k (Some l) = k l
on_pair k None = None

abbrev pub on_wanted : (ChannelState → Option ChannelSettings) → Option ChannelState → Option ChannelSettings
on_wanted k (Some s) = k s
on_wanted k None = None

abbrev pub settings : Float → Float → LinearTransformation → LinearTransformation → LinearTransformation → ChannelState → ChannelSettings
settings threshold bias input output reflected state =
    record {
      output_interlock_threshold = threshold;
      bias_voltage = bias;
      state = state;
      input_power_transform = input;
      output_power_transform = output;
      reflected_power_transform = reflected;
    }

unfoldable pub settings_of : List ℕ → Option ChannelSettings
settings_of l =
    cond (eqb (length l) 65)
    (on_real (λ threshold. on_real (λ bias. on_pair (λ input. on_pair (λ output. on_pair (λ reflected. on_wanted (λ state.
    Some (settings threshold bias input output reflected state))
    (wanted_of (get_or l 64 0)))
    (pair_of (take 16 (drop 48 l))))
    (pair_of (take 16 (drop 32 l))))
    (pair_of (take 16 (drop 16 l))))
    (float_of (take 8 (drop 8 l))))
    (float_of (take 8 l)))
    None
