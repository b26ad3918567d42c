-- What the bytes of a field of a trace's line mean, as one of a few texts: a flag, a call's name. Definitions only.
use Rattle.std.specs.Prelude.{ℕ, Bool, true, false, ◌&&◌, cond, List, [], ◌∷◌, eqb, Option, Some, None}
use Rattle.names.specs.declared.Name.{Name}
use Rattle.names.specs.declared.Name.TheVariants as N

-- the same bytes, as many of them
unfoldable pub same : List ℕ → List ℕ → Bool
same [] [] = true
same [] (y ∷ ys) = false
same (x ∷ xs) [] = false
same (x ∷ xs) (y ∷ ys) = eqb x y && same xs ys

-- ---- a flag: 0 or 1

-- the flag: the byte 48 alone is false, 49 alone is true
abbrev pub flag_of : List ℕ → Option Bool
flag_of l = cond (same l (48 ∷ [])) (Some false) (cond (same l (49 ∷ [])) (Some true) None)

-- ---- a call's name

-- a name's bytes, and the name
pub record Named : Type 0 where
  pub bytes : List ℕ
  pub name : Name

infix 30 ◌names◌
abbrev pub ◌names◌ : List ℕ → Name → Named
l names n = record { bytes = l; name = n }

-- the seven: start, startup, update, reset, standby, settings, status
abbrev pub calls : List Named
calls =
    (115 ∷ 116 ∷ 97 ∷ 114 ∷ 116 ∷ [] names N.Start) ∷
    (115 ∷ 116 ∷ 97 ∷ 114 ∷ 116 ∷ 117 ∷ 112 ∷ [] names N.Startup) ∷
    (117 ∷ 112 ∷ 100 ∷ 97 ∷ 116 ∷ 101 ∷ [] names N.Update) ∷
    (114 ∷ 101 ∷ 115 ∷ 101 ∷ 116 ∷ [] names N.Reset) ∷
    (115 ∷ 116 ∷ 97 ∷ 110 ∷ 100 ∷ 98 ∷ 121 ∷ [] names N.Standby) ∷
    (115 ∷ 101 ∷ 116 ∷ 116 ∷ 105 ∷ 110 ∷ 103 ∷ 115 ∷ [] names N.Settings) ∷
    (115 ∷ 116 ∷ 97 ∷ 116 ∷ 117 ∷ 115 ∷ [] names N.Status) ∷
    []

-- the first of them that has these bytes
abbrev pub among : List Named → List ℕ → Option Name
among [] l = None
among (c ∷ cs) l = cond (same l c.bytes) (Some c.name) (among cs l)

-- the name
abbrev pub name_of : List ℕ → Option Name
name_of l = among calls l
