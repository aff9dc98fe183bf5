-- The aborts behind the log end whoever is open and change nothing else: the verdicts over the log so far are those over the steps accepted.
use mathlib.Core.Path.{◌≡◌, refl, sym, ap, subst, fun_ext, ◌∙◌}
use mathlib.Core.Bool.{Bool, true, false}
use mathlib.Core.Logic.{◌⊎◌, inl, inr, ⊎_elim}
use mathlib.Core.List.{List}
use Prim.Native.Nat.{ℕ, zero, suc, ◌≤◌, ◌<◌}
use native.Mathlib.Omega.{arith}
use native.Mathlib.Nat.{not-suc-le-zero}
use Rattle.words.specs.Tests.{◌is◌, ◌upto◌, provided◌then◌else◌}
use Rattle.words.proofs.Truth.{decide, to_false, and→, is→, isnt→, upto→, not_upto→, provided_true, provided_false, some→}
use Rattle.verdict.specs.Log.{steps, tx, begins, begun}
use Rattle.verdict.specs.Version.{version_edge}
use Rattle.live.specs.SoFar.{more, is_open, shut, so_far}
use Rattle.live.specs.Answers.{Breach, CycleClosed, Yes}
use Rattle.live.specs.Breach.{breached}
use Rattle.live.specs.Closed.{round, closed}
use Rattle.live.specs.Says.{commit_says}
use Rattle.live.specs.Inner.Seen.{seen_edge}
use Rattle.live.proofs.Grows.{Grows, more_grows, more_whole}
use Rattle.live.specs.Inner.Accepted.{Whole, Accepted}
use Rattle.live.proofs.Accepted.{Good, open→, accepted_more}
use Rattle.live.proofs.Breaches.{breached_same}
use Rattle.live.proofs.StepFacts.{open_other, open_ended}
use Rattle.live.proofs.SeenEdges.{log_edge}
use Rattle.live.proofs.SeenGrows.{edge_same}

-- the numbers of those that have begun
pub begun_range : {most : ℕ} {log : List ℕ} → Accepted most log → (t : ℕ) → begun log (steps log) t ≡ true → (1 ≤ t) × (t ≤ most)
unfolding begun begins
begun_range {log = log} ok t b = let r = some→ b in rw (is→ {m = tx log r.0} {n = t} (and→ r.2).1) at (ok.range r.0 r.1)

-- l is the log with aborts behind it, of open transactions below m
record Behind (most : ℕ) (log : List ℕ) (m : ℕ) (l : List ℕ) : Type 0 where
  fine : Accepted most l
  breaches : breached most l ≡ breached most log
  edges : (a b : ℕ) → seen_edge l a b ≡ seen_edge log a b
  still : (u : ℕ) → m ≤ u → is_open l u ≡ is_open log u
  ended : (u : ℕ) → u < m → is_open l u ≡ false

module _ {most : ℕ} {log : List ℕ} (ok : Accepted most log) where
  abort_more : (m : ℕ) (l : List ℕ) → Behind most log m l → is_open log m ≡ true → Behind most log (suc m) (more l 5 m 0 0)
  abort_more m l b o =
      record {
        fine = accepted_more 0 b.fine good;
        breaches = breached_same b.fine good g w no_commit ∙ b.breaches;
        edges = λ x y. edge_same b.fine good g no_commit x y ∙ b.edges x y;
        still = λ (u : ℕ) (h : suc m ≤ u). open_other g u (λ (e : m ≡ u). omega arith) ∙ b.still u (omega arith);
        ended = λ u h. gone u h (decide (m is u));
      }
    where
      no_commit : ◌≡◌ {A = ℕ} 5 4 → ⊥
      no_commit e = omega arith

      alive : is_open l m ≡ true
      alive = b.still m (omega arith) ∙ o

      good : Good most l 5 m 0
      good =
          record {
            in_range = begun_range b.fine m (open→ l m alive).0;
            in_objects = λ e. absurd (⊎_elim (λ (q : ◌≡◌ {A = ℕ} 5 2). omega arith) (λ (q : ◌≡◌ {A = ℕ} 5 3). omega arith) e);
            above = λ e. absurd (omega arith);
            alive = λ n. alive;
          }

      g : Grows l 5 m 0 0 (more l 5 m 0 0)
      g = more_grows l b.fine.whole 5 m 0 0

      w : Whole (more l 5 m 0 0)
      w = more_whole l b.fine.whole 5 m 0 0

      gone : (u : ℕ) → u < suc m → ((m is u) ≡ true) ⊎ ((m is u) ≡ false) → is_open (more l 5 m 0 0) u ≡ false
      gone u h (inl e) = subst (λ (v : ℕ). is_open (more l 5 m 0 0) v ≡ false) (is→ e) (open_ended b.fine good g (inr refl))
      gone u h (inr e) = let d : m ≡ u → ⊥ = isnt→ e in open_other g u d ∙ b.ended u (omega arith)

  behind : (m : ℕ) → Behind most log m (shut log m)
  unfolding shut
  behind zero = record { fine = ok; breaches = refl; edges = λ a b. refl; still = λ u h. refl; ended = λ u h. absurd (not-suc-le-zero h) }
  behind (suc m) = go (decide (is_open log m)) (behind m)
    where
      go : (is_open log m ≡ true) ⊎ (is_open log m ≡ false) → Behind most log m (shut log m) → Behind most log (suc m) (provided is_open log m then more (shut log m) 5 m 0 0 else shut log m)
      go (inl o) b = rw (provided_true (more (shut log m) 5 m 0 0) (shut log m) o) (abort_more m (shut log m) b o)
      go (inr o) b =
          rw (provided_false (more (shut log m) 5 m 0 0) (shut log m) o)
          (record { fine = b.fine; breaches = b.breaches; edges = b.edges; still = λ (u : ℕ) (h : suc m ≤ u). b.still u (omega arith); ended = λ u h. gone b u h (decide (u is m)) })
        where
          gone : Behind most log m (shut log m) → (u : ℕ) → u < suc m → ((u is m) ≡ true) ⊎ ((u is m) ≡ false) → is_open (shut log m) u ≡ false
          gone b u h (inl e) = let z : u ≡ m = is→ e in subst (λ (v : ℕ). is_open (shut log m) v ≡ false) (sym z) (b.still m (omega arith) ∙ o)
          gone b u h (inr e) = let d : u ≡ m → ⊥ = isnt→ e in b.ended u (omega arith)

  -- nobody is open in the log so far
  pub so_far_ended : (t : ℕ) → is_open (so_far most log) t ≡ false
  unfolding so_far
  so_far_ended t = go (decide (t upto most)) (behind (suc most))
    where
      go : ((t upto most) ≡ true) ⊎ ((t upto most) ≡ false) → Behind most log (suc most) (shut log (suc most)) → is_open (shut log (suc most)) t ≡ false
      go (inl l) b = b.ended t (omega (arith, upto→ l))
      go (inr l) b = to_false _ (λ o. let r : t ≤ most = (begun_range b.fine t (open→ (shut log (suc most)) t o).0).1 in omega (arith, not_upto→ l))

  pub so_far_accepted : Accepted most (so_far most log)
  unfolding so_far
  so_far_accepted = (behind (suc most)).fine

  pub so_far_breached : breached most (so_far most log) ≡ breached most log
  unfolding so_far
  so_far_breached = (behind (suc most)).breaches

  module _ (right : breached most log ≡ false) where
    pub so_far_edge : (a b : ℕ) → version_edge (so_far most log) a b ≡ version_edge log a b
    unfolding so_far
    so_far_edge a b = log_edge so_far_accepted (so_far_breached ∙ right) a b ∙ (behind (suc most)).edges a b ∙ sym (log_edge ok right a b)

    pub so_far_closed : closed most (so_far most log) ≡ closed most log
    unfolding closed
    so_far_closed = ap (λ (e : ℕ → ℕ → Bool). round e (suc most)) (fun_ext (λ a. fun_ext (so_far_edge a)))

  -- what a commit is told, by the steps accepted alone
  pub commit_told : (full : List ℕ → Bool) → commit_says most full log ≡ (provided breached most log then Breach else provided closed most log then CycleClosed else Yes)
  unfolding commit_says
  commit_told full = go (decide (breached most log))
    where
      go : (breached most log ≡ true) ⊎ (breached most log ≡ false)
          → (provided breached most (so_far most log) then Breach else provided closed most (so_far most log) then CycleClosed else Yes) ≡ (provided breached most log then Breach else provided closed most log then CycleClosed else Yes)
      go (inl b) = provided_true _ _ (so_far_breached ∙ b) ∙ sym (provided_true _ _ b)
      go (inr b) = rw (so_far_breached, so_far_closed b) refl
