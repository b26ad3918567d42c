-- What comes of one read. `read` answers none where it failed, 0 at the end of the trace, and otherwise how many bytes it put in front of the chunk. Definitions only.
use Rattle.std.specs.Prelude.{ℕ, zero, suc, Bool, true, false, List, [], Option, None, Some, take}
use Rattle.replay_feed.specs.Feed.{Reading, ran, ran_text, finished, finished_text}

-- the reading afterwards: a count above the chunk's length, which no read answers, stands for all of the chunk
unfoldable pub turned : Reading → Option ℕ → List ℕ → Reading
turned r None chunk = r
turned r (Some zero) chunk = finished r
turned r (Some (suc n)) chunk = ran r (take (suc n) chunk)

-- what is written
unfoldable pub turned_text : Reading → Option ℕ → List ℕ → List ℕ
turned_text r None chunk = []
turned_text r (Some zero) chunk = finished_text r
turned_text r (Some (suc n)) chunk = ran_text r (take (suc n) chunk)

-- whether there may be more to read
unfoldable pub more_after : Option ℕ → Bool
more_after None = false
more_after (Some zero) = false
more_after (Some (suc n)) = true

-- whether the read failed
unfoldable pub failed_of : Option ℕ → Bool
failed_of None = true
failed_of (Some n) = false
