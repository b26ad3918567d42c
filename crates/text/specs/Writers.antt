-- What a writer writes. Definitions only.
use Rattle.std.specs.Prelude.{ℕ, List}
use Rattle.text.specs.Texts.{Wrote}
use Rattle.text.specs.declared.Writer.{Writer}

-- w' is w with the text in its buffer, at the place past it
abbrev pub Writes : Writer → Writer → List ℕ → Type 0
Writes w w' text = Wrote w.out.now w.at w'.out.now w'.at text
