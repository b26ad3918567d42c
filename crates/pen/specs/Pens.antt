-- What a writer inks. Definitions only.
use Rattle.std.specs.Prelude.{ℕ, List}
use Rattle.text.specs.declared.Writer.{Writer}
use Rattle.pen.specs.Ink.{Inked}

-- w' is w with as much of the text in its buffer as there is room for, at the place past it
abbrev pub Inks : Writer → Writer → List ℕ → Type 0
Inks w w' text = Inked w.out.now w.at w'.out.now w'.at text
