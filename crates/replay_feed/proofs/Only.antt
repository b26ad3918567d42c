-- The promises of `begin`, `feed` and `finish`, as the prover reads them, have one replay, one place, and one content of each buffer that is lent. Assumes nothing.
use Rattle.std.proofs.Common.{◌≡◌, ℕ, List, ◌++◌, take, drop, sym, ap, ◌∙◌, take-append-drop}
use contract.Lifetimes.{Lfts}
use denote.Triple.Clauses.{AtExit}
use borrow.Fn.World.{ArgsD, ResD}
use borrow.Fn.Kinds.{ended_of}
use Rattle.text.specs.Texts.{Wrote}
use Rattle.replay_feed.specs.declared.Replay.{Replay}
use Rattle.replay_feed.specs.declared.Fed.{Fed}
use Rattle.replay_feed.specs.Feed.{Reading, reading}
use Rattle.replay_feed.specs.contracts.begin as begin
use Rattle.replay_feed.proofs.begin.Kinds as begin-kinds
use Rattle.replay_feed.proofs.begin.Reads as begin-reads
use Rattle.replay_feed.specs.contracts.feed as feed
use Rattle.replay_feed.proofs.feed.Kinds as feed-kinds
use Rattle.replay_feed.proofs.feed.Reads as feed-reads
use Rattle.replay_feed.specs.contracts.finish as finish
use Rattle.replay_feed.proofs.finish.Kinds as finish-kinds
use Rattle.replay_feed.proofs.finish.Reads as finish-reads

-- what is written stands in front, and what stood behind it stays
pub wrote_only : {o o' o'' : List ℕ} {n r s : ℕ} {text : List ℕ} → Wrote o n o' r text → Wrote o n o'' s text → (o' ≡ o'') × (r ≡ s)
wrote_only {o} {o'} {o''} {n} {r} {s} {text} v w =
    let place : r ≡ s = v.past ∙ sym w.past in
    let first : o' ≡ (take n o ++ text) ++ drop r o = sym (take-append-drop r o') ∙ rw (v.front, v.rest) in
    let second : o'' ≡ (take n o ++ text) ++ drop s o = sym (take-append-drop s o'') ∙ rw (w.front, w.rest) in
    (first ∙ rw place (sym second), place)

fed : Replay → ℕ → Fed
fed replay past = record { replay = replay; past = past }

fed_same : (r r' : Fed) → r.replay ≡ r'.replay → r.past ≡ r'.past → r ≡ r'
unfolding fed
fed_same r r' e f = ap (λ (x : Replay). fed x r.past) e ∙ ap (fed r'.replay) f

-- a reading tells the replay and the two buffers
replay_of : Reading → Replay
replay_of x = record { rack = x.place.state.rack; used = x.place.state.used; line = x.place.line; held = x.held }

module _ {r r' : Replay} {log log' hold hold' : List ℕ} {now : Reading} where
  pub reading_only : reading r log hold ≡ now → reading r' log' hold' ≡ now → (log ≡ log') × (hold ≡ hold') × (r ≡ r')
  unfolding replay_of
  reading_only e f =
      let same : reading r log hold ≡ reading r' log' hold' = e ∙ sym f in
      (ap (λ (x : Reading). x.place.state.log) same, ap (λ (x : Reading). x.hold) same, ap replay_of same)

module _ {r r' : Fed} {log log' hold hold' o out out' text : List ℕ} {now : Reading} where
  fed_only : reading r.replay log hold ≡ now → Wrote o 0 out r.past text → reading r'.replay log' hold' ≡ now → Wrote o 0 out' r'.past text
      → (log ≡ log') × (hold ≡ hold') × (out ≡ out') × (r ≡ r')
  fed_only e v f w =
      let read = reading_only e f in
      let written = wrote_only v w in
      (read.0, read.1, written.0, fed_same r r' read.2 written.1)

module _ (κs : Lfts 1) (a : ArgsD begin.signature κs) (r r' : ResD begin.signature κs) (s s' : AtExit (ended_of 1 begin-kinds.ps begin-kinds.r) κs) where
  pub only_begin : begin-reads.Post κs a r s → begin-reads.Post κs a r' s' → (s.0.now ≡ s'.0.now) × (r ≡ r')
  only_begin p q =
      let written = wrote_only p.1 q.1 in
      (written.0, fed_same r r' (p.0 ∙ sym q.0) written.1)

module _ (κs : Lfts 4) (a : ArgsD feed.signature κs) (r r' : ResD feed.signature κs) (s s' : AtExit (ended_of 4 feed-kinds.ps feed-kinds.r) κs) where
  pub only_feed : feed-reads.Post κs a r s → feed-reads.Post κs a r' s'
      → (s.1.0.now ≡ s'.1.0.now) × (s.1.1.0.now ≡ s'.1.1.0.now) × (s.1.1.1.1.0.now ≡ s'.1.1.1.1.0.now) × (r ≡ r')
  only_feed p q = fed_only p.0 p.1 q.0 q.1

module _ (κs : Lfts 3) (a : ArgsD finish.signature κs) (r r' : ResD finish.signature κs) (s s' : AtExit (ended_of 3 finish-kinds.ps finish-kinds.r) κs) where
  pub only_finish : finish-reads.Post κs a r s → finish-reads.Post κs a r' s' → (s.1.0.now ≡ s'.1.0.now) × (s.1.1.1.0.now ≡ s'.1.1.1.0.now) × (r ≡ r')
  only_finish p q = let only = fed_only p.0 p.1 q.0 q.1 in (only.0, only.2, only.3)
