-- What all reads of a trace come to: `any_reads`, `any_failure`. Assumes nothing.
use Prim.Native.Nat.{ℕ, ◌<◌}
use native.Mathlib.Nat.{le_refl}
use native.Mathlib.Omega.{arith}
use mathlib.Core.Path.{◌≡◌, refl, sym, ap, ◌∙◌}
use mathlib.Core.Bool.{true, false}
use mathlib.Core.List.{List, [], ◌∷◌, ◌++◌, append-nil, append_assoc}
use Rattle.std.proofs.Common.{None, Some}
use lib.ListN.{length, take, length-append}
use lib.Seq.{take-length, take-append-le}
use Rattle.replay_feed.specs.Feed.{Reading, fresh, reading, ran, ran_text}
use Rattle.replay_feed.proofs.Laws.{ran_append, text_append}
use Rattle.replay_theorems.specs.Whole.{log, Short, chunked}
use Rattle.replay_theorems.proofs.Runs.{fed_whole}
use Rattle.replay_theorems.proofs.Cut.{any_cut}
use Rattle.replay_turn.specs.Turn.{turned, turned_text, more_after}
use Rattle.replay_turn.specs.Turns.{Read, turns_text, Part, Parted, chunks_of, bytes_of, reads_of, AnyReads, AnyFailure}

-- a read that brings bytes feeds these
record Feeds (r : Reading) (bytes behind : List ℕ) : Type 0 where
  reads : turned r (Some (length bytes)) (bytes ++ behind) ≡ ran r bytes
  writes : turned_text r (Some (length bytes)) (bytes ++ behind) ≡ ran_text r bytes
  goes_on : more_after (Some (length bytes)) ≡ true

feeds : (r : Reading) (bytes behind : List ℕ) → 0 < length bytes → Feeds r bytes behind
unfolding turned turned_text more_after
feeds r [] behind h = absurd (omega arith)
feeds r (b ∷ l) behind h =
    let bytes : List ℕ = b ∷ l in
    let front : take (length bytes) (bytes ++ behind) ≡ bytes = take-append-le (length bytes) bytes behind (le_refl (length bytes)) ∙ take-length bytes in
    record { reads = ap (ran r) front; writes = ap (ran_text r) front; goes_on = refl }

-- the bytes of all parts are fed as if they came at once, and then the last turn is made
module _ (last : Read) (later : List Read) (stops : more_after last.got ≡ false) where
  parts_fed : (r : Reading) (parts : List Part) → Parted parts
      → turns_text r (reads_of parts last later) ≡ ran_text r (bytes_of parts) ++ turned_text (ran r (bytes_of parts)) last.got last.chunk
  unfolding turns_text ran ran_text
  parts_fed r [] h = rw (stops, append-nil)
  parts_fed r (p ∷ parts) h =
      let f = feeds r p.bytes p.behind h.0 in
      rw (f.goes_on, f.reads, f.writes, parts_fed (ran r p.bytes) parts h.2, text_append r p.bytes (bytes_of parts), ran_append r p.bytes (bytes_of parts), append_assoc)

-- no part is longer than what is fed at a time
parts_short : (parts : List Part) → Parted parts → Short (chunks_of parts)
parts_short [] h = tt
parts_short (p ∷ parts) h = (omega (arith, sym (length-append p.bytes p.behind) ∙ h.1), parts_short parts h.2)

pub any_reads : AnyReads
unfolding chunked turned_text more_after
any_reads hold size parts h few chunk later =
    let short : Short (chunks_of parts) = parts_short parts h in
    rw (parts_fed (record { got = Some 0; chunk = chunk }) later refl (reading fresh log hold) parts h, sym (fed_whole (reading fresh log hold) (chunks_of parts) short)) (any_cut hold size (chunks_of parts) short few)

pub any_failure : AnyFailure
unfolding turned_text more_after
any_failure hold parts h chunk later = rw (parts_fed (record { got = None; chunk = chunk }) later refl (reading fresh log hold) parts h, append-nil)
