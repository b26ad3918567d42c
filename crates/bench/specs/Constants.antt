-- Every decimal constant of document 01 is the nearest f32 in the definitions. Definitions only.
use Rattle.std.specs.Prelude.{◌≡◌, ℕ, ◌*◌, ◌^◌, false, List, [], ◌∷◌, pos, Float}
use Rattle.std.specs.Float.{binary32}
use Rattle.std.specs.Float.Ieee.{round, mul, div, of_int}
use Rattle.steps.specs.Steps.{unit}
use Rattle.steps.specs.Rounding.{Rounded}
use Rattle.linear_transformation.specs.declared.LinearTransformation.{LinearTransformation}
use Rattle.linear_transformation.specs.Line.{map_of}
use Rattle.conversions.specs.Constants.{zero, codes, v2_5, v3_3, v3_434}
use Rattle.rf_channel.specs.Guards.{tenth}
use Rattle.rf_machine.specs.Hardware.{v3_2}
use Rattle.rf_devices.specs.Devices.{highest_reflected}
use Rattle.rf_tests.specs.Tests.{hottest, coldest, strongest}
use Rattle.rf_status.specs.Numbers.{p28v_current_of, p5v_current_of, p5v_voltage_of}
use Rattle.rf_methods.specs.Methods.{detected}

-- ---- the constants that have a name: each beside its decimal, which is `digits` with so many of them after the point

pub record Decimal : Type 0 where
  pub constant : Float
  pub digits : ℕ
  pub places : ℕ

infix 40 ◌is◌shifted◌
abbrev pub ◌is◌shifted◌ : Float → ℕ → ℕ → Decimal
x is n shifted k = record { constant = x; digits = n; places = k }

abbrev pub constants : List Decimal
constants =
    (zero is 0 shifted 0)
    ∷ (codes is 4096 shifted 0)
    ∷ (v2_5 is 25 shifted 1)
    ∷ (v3_3 is 33 shifted 1)
    ∷ (v3_434 is 3434 shifted 3)
    ∷ (v3_2 is 32 shifted 1)
    ∷ (tenth is 1 shifted 1)
    ∷ (highest_reflected is 30 shifted 0)
    ∷ (hottest is 60 shifted 0)
    ∷ (coldest is 5 shifted 0)
    ∷ (strongest is 20 shifted 0)
    ∷ []

-- digits / 10 ^ places, which is digits x 2 ^ 149 / 10 ^ places steps, rounded
abbrev pub Right : Decimal → Type 0
Right c = Rounded false (c.digits * unit) (10 ^ c.places) c.constant

abbrev pub Each : List Decimal → Type 0
Each [] = Unit
Each (c ∷ l) = Right c × Each l

-- ---- the constants of a status, which stand in its expressions: these are the expressions of document 01 over the rounded decimals

abbrev pub decimal : ℕ → ℕ → Float
decimal n k = round binary32 false n (10 ^ k)

pub record Decimals : Type 0 where
  pub each : Each constants
  -- volts x (100.0 / 0.100 / 4300.0), and / 6200.0
  pub p28v_current_lem : (v : Float) → p28v_current_of v ≡ mul binary32 v (div binary32 (div binary32 (decimal 1000 1) (decimal 100 3)) (decimal 43000 1))
  pub p5v_current_lem : (v : Float) → p5v_current_of v ≡ mul binary32 v (div binary32 (div binary32 (decimal 1000 1) (decimal 100 3)) (decimal 62000 1))
  -- volts x 2.5
  pub p5v_voltage_lem : (v : Float) → p5v_voltage_of v ≡ mul binary32 v (decimal 25 1)
  -- millivolts / 1000.0, mapped
  pub detector : (t : LinearTransformation) (m : ℕ) → detected t m ≡ map_of t (div binary32 (of_int binary32 (pos m)) (decimal 10000 1))
