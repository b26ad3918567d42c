-- What a read that brought bytes comes to: `bytes_came`. Assumes nothing.
use Rattle.std.proofs.Common.{◌≡◌, ℕ, zero, suc, List, Some, length, take, refl, ap, ◌∙◌, arith, length-take, take_all}
use Rattle.replay_feed.specs.Feed.{Reading, ran, ran_text}
use Rattle.replay_turn.specs.Turn.{turned, turned_text}

-- what is fed of the part that came is what came. What is made of it is for the definitions: nothing here says whether the trace goes on
pub record Came (r : Reading) (n : ℕ) (chunk part : List ℕ) : Type 0 where
  pub k : ℕ
  pub is : n ≡ suc k
  pub reads : ran r (take 1024 part) ≡ turned r (Some n) chunk
  pub writes : ran_text r (take 1024 part) ≡ turned_text r (Some n) chunk

-- the chunk is no longer than what is fed at a time, so that nothing is cut off
pub bytes_came : (r : Reading) (n : ℕ) (chunk : List ℕ) {part : List ℕ} → length chunk ≡ 1024 → (n ≡ 0 → ⊥) → part ≡ take n chunk → Came r n chunk part
unfolding turned turned_text
bytes_came r zero chunk size some is = absurd (some refl)
bytes_came r (suc k) chunk {part} size some is =
    let fed : take 1024 part ≡ take (suc k) chunk = take_all 1024 part (rw is (omega (arith, length-take (suc k) chunk))) ∙ is in
    record { k = k; is = refl; reads = ap (ran r) fed; writes = ap (ran_text r) fed }
