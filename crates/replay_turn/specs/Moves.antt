-- What `turn` answers, taken apart. Definitions only.
use Rattle.std.specs.Prelude.{ℕ, Bool, true, false}
use Rattle.replay_feed.specs.declared.Replay.{Replay}
use Rattle.replay_turn.specs.declared.Moved.{Moved}
use Rattle.replay_turn.specs.declared.Moved.TheVariants.{More, Ended, Failed}

-- the replay afterwards: a read that failed leaves it as it was
abbrev pub replay_after : Replay → Moved → Replay
replay_after r (More fed) = fed.replay
replay_after r (Ended fed) = fed.replay
replay_after r Failed = r

-- the place past what is to be written
abbrev pub past_of : Moved → ℕ
past_of (More fed) = fed.past
past_of (Ended fed) = fed.past
past_of Failed = 0

-- whether there may be more to read
abbrev pub goes_on : Moved → Bool
goes_on (More fed) = true
goes_on (Ended fed) = false
goes_on Failed = false

abbrev pub has_failed : Moved → Bool
has_failed (More fed) = false
has_failed (Ended fed) = false
has_failed Failed = true
