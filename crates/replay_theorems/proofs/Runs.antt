-- Chunks that are fed one after another are read as if they came at once. Assumes nothing.
use Prim.Native.Nat.{ℕ}
use mathlib.Core.Path.{◌≡◌, refl}
use mathlib.Core.List.{List, [], ◌∷◌, ◌++◌, append_assoc}
use lib.Seq.{take_all}
use Rattle.replay_feed.specs.Feed.{Reading, ran, ran_text, finished_text}
use Rattle.replay_feed.proofs.Laws.{ran_append, text_append}
use Rattle.replay_theorems.specs.Whole.{joined, Short, fed_text}

-- what is written for an input that comes at once
abbrev pub ran_whole : Reading → List ℕ → List ℕ
ran_whole r input = ran_text r input ++ finished_text (ran r input)

pub fed_whole : (r : Reading) (chunks : List (List ℕ)) → Short chunks → fed_text r chunks ≡ ran_whole r (joined chunks)
unfolding ran ran_text fed_text
fed_whole r [] h = refl
fed_whole r (chunk ∷ chunks) h =
    rw (take_all 1024 chunk h.0, text_append r chunk (joined chunks), ran_append r chunk (joined chunks), append_assoc, fed_whole (ran r chunk) chunks h.1)
