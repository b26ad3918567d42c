-- A line of a trace, as document 01 has it: tick, call, temp, alert, out, refl, dog, replies, settings. Definitions only.
use Rattle.std.specs.Prelude.{ℕ, Bool, true, cond, List, [], ◌∷◌, eqb, leb, length, Option, Some, None, Float}
use Rattle.rf_channel.specs.declared.ChannelSettings.{ChannelSettings}
use Rattle.rf_call.specs.declared.Givens.{Givens}
use Rattle.rf_calls.specs.declared.Request.{Request}
use Rattle.rf_calls.specs.declared.Request.TheVariants as R
use Rattle.entry.specs.declared.Call.{Call}
use Rattle.entry.specs.declared.Call.TheVariants.{Start, Ask}
use Rattle.field.specs.Field.{decimal_of}
use Rattle.names.specs.declared.Name.{Name}
use Rattle.names.specs.declared.Name.TheVariants as N
use Rattle.names.specs.Names.{flag_of, name_of}
use Rattle.columns.specs.Columns.{count_of, column_of}
use Rattle.given_field.specs.Given.{warmth_of, settings_of}
use Rattle.reply_field.specs.Replies.{fits_of}

-- ---- what is given: one field that does not fit, and nothing is

abbrev pub on_number : (ℕ → Option Givens) → Option ℕ → Option Givens
on_number k (Some n) = k n
on_number k None = None

abbrev pub on_warmth : (Option Float → Option Givens) → Option (Option Float) → Option Givens
on_warmth k (Some t) = k t
on_warmth k None = None

abbrev pub on_flag : (Bool → Option Givens) → Option Bool → Option Givens
on_flag k (Some b) = k b
on_flag k None = None

abbrev pub givens : ℕ → Option Float → Bool → Bool → Bool → Bool → Givens
givens tick temperature alert output reflected dog = record { tick = tick; alert = alert; output_overdrive = output; reflected_overdrive = reflected; watchdog = dog; temperature = temperature }

unfoldable pub givens_of : List ℕ → Option Givens
givens_of l =
    on_number (λ tick. on_warmth (λ temperature. on_flag (λ alert. on_flag (λ output. on_flag (λ reflected. on_flag (λ dog.
    Some (givens tick temperature alert output reflected dog))
    (flag_of (column_of 6 l)))
    (flag_of (column_of 5 l)))
    (flag_of (column_of 4 l)))
    (flag_of (column_of 3 l)))
    (warmth_of (column_of 2 l)))
    (decimal_of (column_of 0 l))

-- ---- the call

-- those that come without settings; a status is given no millivolts
abbrev pub request_of : Name → Option Request
request_of N.Start = None
request_of N.Startup = Some R.Startup
request_of N.Update = Some R.Update
request_of N.Reset = Some R.Reset
request_of N.Standby = Some R.Standby
request_of N.Settings = None
request_of N.Status = Some (R.Status (record { output = 0; reflected = 0 }))

-- those that come with settings; a start finds its module present
abbrev pub filled_of : Name → ChannelSettings → Givens → Option Call
filled_of N.Start s g = Some (Start s true)
filled_of N.Startup s g = None
filled_of N.Update s g = None
filled_of N.Reset s g = None
filled_of N.Standby s g = None
filled_of N.Settings s g = Some (Ask (R.Settings s) g)
filled_of N.Status s g = None

abbrev pub on_plain : Givens → Option Request → Option Call
on_plain g (Some r) = Some (Ask r g)
on_plain g None = None

abbrev pub on_fields : (ChannelSettings → Option Call) → Option ChannelSettings → Option Call
on_fields k (Some s) = k s
on_fields k None = None

-- a start and settings have to fill the last column, and no other call may
unfoldable pub call_of : Name → List ℕ → Givens → Option Call
call_of name [] g = on_plain g (request_of name)
call_of name (b ∷ last) g = on_fields (λ s. filled_of name s g) (settings_of (b ∷ last))

-- ---- the line

abbrev pub on_given : (Givens → Option Call) → Option Givens → Option Call
on_given k (Some g) = k g
on_given k None = None

abbrev pub on_name : (Name → Option Call) → Option Name → Option Call
on_name k (Some n) = k n
on_name k None = None

-- at most 512 bytes, nine columns, and every field as it has to be
unfoldable pub parsed_of : List ℕ → Option Call
parsed_of l =
    cond (leb (length l) 512)
    (cond (eqb (count_of l) 9) (cond (fits_of (column_of 7 l)) (on_given (λ g. on_name (λ name. call_of name (column_of 8 l) g) (name_of (column_of 1 l))) (givens_of l)) None) None)
    None
