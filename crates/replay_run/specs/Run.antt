-- What one read of a trace comes to, where the bytes that are left of it are known. Definitions only.
use Rattle.std.specs.Prelude.{◌≡◌, ℕ, List, [], ◌++◌, Option, Some, replicate}
use Rattle.std.specs.Io.KnownBytes.{Appends}
use Rattle.text.specs.Texts.{Wrote}
use Rattle.replay_feed.specs.Feed.{Reading, fresh, reading, ran, ran_text, finished_text}
use Rattle.replay_theorems.specs.Whole.{log}
use Rattle.replay_turn.specs.declared.Moved.{Moved}
use Rattle.replay_turn.specs.declared.Moved.TheVariants.{More, Ended, Failed}

-- the read took some bytes of the rest, and left others. What these give is done, and stands in the buffer
pub record Brought (rest : List ℕ) (after : Option (List ℕ)) (r next : Reading) (o o' : List ℕ) (past : ℕ) : Type 0 where
  pub bytes : List ℕ
  pub left : List ℕ
  pub of_rest : rest ≡ bytes ++ left
  pub is_left : after ≡ Some left
  pub done : next ≡ ran r bytes
  pub text : Wrote o 0 o' past (ran_text r bytes)

abbrev pub Moves : List ℕ → Option (List ℕ) → Reading → List ℕ → List ℕ → List ℕ → List ℕ → Moved → Type 0
Moves rest after r rows held o o' (More fed) = Brought rest after r (reading fed.replay rows held) o o' fed.past
Moves rest after r rows held o o' (Ended fed) = (rest ≡ []) × Wrote o 0 o' fed.past (finished_text r)
Moves rest after r rows held o o' Failed = Unit {0}

-- what is still to be written where these bytes are left
unfoldable pub rest_text : Reading → List ℕ → List ℕ
rest_text r rest = ran_text r rest ++ finished_text (ran r rest)

-- of the rest some bytes came, and what these give is written behind the front. A line that has not ended gives nothing
pub record Partly (front : List ℕ) (r : Reading) (rest : List ℕ) (old now : Option (List ℕ)) : Type 0 where
  pub came : List ℕ
  pub left : List ℕ
  pub of_rest : rest ≡ came ++ left
  pub text : Appends old now (front ++ ran_text r came)

-- where a trace begins: nothing is held
abbrev pub begun : Reading
begun = reading fresh log (replicate 514 0)
