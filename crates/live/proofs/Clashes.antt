-- A clash at a commit, by what is seen: of something that the transaction wrote, the last writer of now is not the one that it sees.
use mathlib.Core.Path.{◌≡◌}
use mathlib.Core.Bool.{true}
use mathlib.Core.Logic.{inr}
use mathlib.Core.List.{List}
use Prim.Native.Nat.{ℕ, suc, ◌≤◌, ◌<◌}
use native.Mathlib.Omega.{arith}
use Rattle.words.specs.Tests.{◌is◌, ◌below◌, ◌and◌, fails, some}
use Rattle.words.proofs.Truth.{same_test, and→, →and, fails→, →fails, is→, isnt→, →isnt, below→, →below, some→, →some}
use Rattle.verdict.specs.Limits.{objects}
use Rattle.verdict.specs.Log.{steps, obj, begun, writes, committed, writer, begin_step, commit_step, write_one_object}
use Rattle.verdict.proofs.Versions.{share, shared}
use Rattle.live.specs.Inner.Seen.{last_writer, seen, clashes}
use Rattle.live.specs.Inner.Accepted.{Accepted}
use Rattle.live.proofs.Accepted.{committed_range}
use Rattle.live.proofs.SeenEdges.{last_since, since_last}

module _ {most : ℕ} {log : List ℕ} (ok : Accepted most log) where
  written_object : (x t : ℕ) → writer log x t ≡ true → x < objects
  unfolding writer writes
  written_object x t w = let r = some→ w in let a = and→ r.2 in rw (is→ {m = obj log r.0} {n = x} a.1) at (ok.object r.0 r.1 (inr (is→ (and→ a.0).0)))

  pub clashes_seen : (t : ℕ) → begun log (steps log) t ≡ true → clashes most log t ≡ some objects (λ x. writer log x t and fails (last_writer log (steps log) x is seen log t x))
  unfolding clashes
  clashes_seen t b = same_test (λ h. forth (some→ h)) (λ h. back (some→ h))
    where
      forth : (p : ℕ) × (p < suc most) × ((committed log p and begin_step log t below commit_step log p and write_one_object log t p) ≡ true) → some objects (λ x. writer log x t and fails (last_writer log (steps log) x is seen log t x)) ≡ true
      forth r =
          let a = and→ r.2 in
          let c = and→ a.0 in
          let o = shared log t r.0 a.1 in
          →some _ o.0 (written_object o.0 t o.1) (→and o.1 (→fails (→isnt (since_last ok t b o.0 r.0 c.0 o.2 (below→ c.1)))))

      back : (x : ℕ) × (x < objects) × ((writer log x t and fails (last_writer log (steps log) x is seen log t x)) ≡ true) → some (suc most) (λ p. committed log p and begin_step log t below commit_step log p and write_one_object log t p) ≡ true
      back r =
          let a = and→ r.2 in
          let v = last_since ok t b r.0 (isnt→ (fails→ a.1)) in
          let l : v.0 ≤ most = (committed_range ok v.0 v.1).1 in
          →some _ v.0 (omega arith) (→and (→and v.1 (→below v.3)) (share log r.0 t v.0 a.0 v.2))
