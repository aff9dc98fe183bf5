-- What the last committed writer before a step is, and so what a read should name.
use mathlib.Core.Path.{◌≡◌, refl, sym, subst, ◌∙◌}
use mathlib.Core.Bool.{true, false}
use mathlib.Core.Logic.{◌⊎◌, inl, inr, ⊎_elim}
use mathlib.Core.List.{List}
use Prim.Native.Nat.{ℕ, zero, suc, ◌≤◌, ◌<◌}
use native.Mathlib.Omega.{arith}
use native.Mathlib.Nat.{not-suc-le-zero}
use Rattle.words.specs.Tests.{◌is◌, ◌and◌, fails}
use Rattle.words.proofs.Truth.{decide, not_both, same_test, and→, →and, or→, →or_left, →or_right, fails→, →fails, is→, →is, isnt→, →isnt, provided_true, provided_false, some→, →some}
use Rattle.verdict.specs.Log.{steps, kind, tx, obj, src, reads, commits, committed, writer, begin_step, commit_step, commits_writer}
use Rattle.verdict.specs.Log.{begun, wrote}
use Rattle.verdict.specs.Clean.{judged, judged_other}
use Rattle.verdict.specs.Snapshot.{wrong_read}
use Rattle.live.specs.Breach.{no_writer, misread}
use Rattle.live.specs.Inner.Seen.{last_writer, source_wanted}
use Rattle.live.proofs.Grows.{begin_before, writer_none, writer_here, writer_before, wanted_is}
use Rattle.live.specs.Inner.Accepted.{Accepted}
use Rattle.live.proofs.Accepted.{commit_step_at, tx_at, kind_at, writes_first}

-- v is the last committed writer of x before step b; and there is none
pub record Last (log : List ℕ) (x b v : ℕ) : Type 0 where
  pub commit : committed log v ≡ true
  pub write : writer log x v ≡ true
  pub early : commit_step log v < b
  pub latest : (z : ℕ) → committed log z ≡ true → writer log x z ≡ true → commit_step log z < b → commit_step log z ≤ commit_step log v

abbrev pub None : List ℕ → ℕ → ℕ → Type 0
None log x b = (z : ℕ) → committed log z ≡ true → writer log x z ≡ true → commit_step log z < b → ⊥

-- t wrote x before a later step too
pub wrote_later : (log : List ℕ) (i m t x : ℕ) → i ≤ m → wrote log i t x ≡ true → wrote log m t x ≡ true
unfolding wrote
wrote_later log i m t x h w = let r = some→ w in →some _ r.0 (omega (arith, r.1)) r.2

pub commits_writer→ : (log : List ℕ) (x j : ℕ) → commits_writer log x j ≡ true → (commits log (tx log j) j ≡ true) × (writer log x (tx log j) ≡ true)
unfolding commits_writer commits
commits_writer→ log x j h = (→and (and→ h).0 (→is refl), (and→ h).1)

pub commit_committed : (log : List ℕ) (t j : ℕ) → j < steps log → commits log t j ≡ true → committed log t ≡ true
unfolding committed
commit_committed log t j h c = →some _ j h c

module _ {most : ℕ} {log : List ℕ} (ok : Accepted most log) where
  pub writer_commits : (x z : ℕ) → committed log z ≡ true → writer log x z ≡ true → commits_writer log x (commit_step log z) ≡ true
  unfolding commits_writer
  writer_commits x z c w = →and (→is (kind_at ok z c)) (rw (tx_at ok z c) w)

  pub last_cases : (x b : ℕ) → b ≤ steps log → Last log x b (last_writer log b x) ⊎ ((last_writer log b x ≡ 0) × None log x b)
  last_cases x zero h = inr (writer_none log x, λ z c w l. not-suc-le-zero l)
  last_cases x (suc b) h = go (decide (commits_writer log x b)) (last_cases x b (omega arith))
    where
      Result : ℕ → Type 0
      Result v = Last log x (suc b) v ⊎ ((v ≡ 0) × None log x (suc b))

      here : commits_writer log x b ≡ true → Last log x (suc b) (tx log b)
      here e =
          let c : commits log (tx log b) b ≡ true = (commits_writer→ log x b e).0 in
          let s : commit_step log (tx log b) ≡ b = commit_step_at ok (tx log b) b (omega arith) c in
          record { commit = commit_committed log (tx log b) b (omega arith) c; write = (commits_writer→ log x b e).1; early = omega arith; latest = λ z p w l. omega arith }

      before : commits_writer log x b ≡ false → (z : ℕ) → committed log z ≡ true → writer log x z ≡ true → commit_step log z < suc b → commit_step log z < b
      before e z c w l =
          let n : commit_step log z ≡ b → ⊥ = λ (q : commit_step log z ≡ b). not_both (subst (λ (j : ℕ). commits_writer log x j ≡ true) q (writer_commits x z c w)) e in
          omega arith

      go : (commits_writer log x b ≡ true) ⊎ (commits_writer log x b ≡ false) → Last log x b (last_writer log b x) ⊎ ((last_writer log b x ≡ 0) × None log x b)
          → Result (last_writer log (suc b) x)
      go (inl e) rec = inl (rw (writer_here log x b e) (here e))
      go (inr e) (inl r) =
          inl (rw (writer_before log x b e) (record { commit = r.commit; write = r.write; early = (let q : commit_step log (last_writer log b x) < b = r.early in omega arith); latest = λ z c w l. r.latest z c w (before e z c w l) }))
      go (inr e) (inr r) = inr (writer_before log x b e ∙ r.0, λ z c w l. r.1 z c w (before e z c w l))

  -- a wrong source, 9 and 10 and the snapshot's rule taken together: not the one wanted
  module _ (i : ℕ) (h : i < steps log) (read : kind log i ≡ 2) where
    begun_here : begun log i (tx log i) ≡ true
    begun_here = ok.has_begun i h (λ (q : kind log i ≡ 1). omega arith)

    begin_early : begin_step log (tx log i) < i
    begin_early = begin_before log i (tx log i) (omega arith) begun_here

    own : wrote log i (tx log i) (obj log i) ≡ true → source_wanted log i ≡ tx log i
    own w = wanted_is log i ∙ provided_true _ _ w

    other : wrote log i (tx log i) (obj log i) ≡ false → source_wanted log i ≡ last_writer log (begin_step log (tx log i)) (obj log i)
    other w = wanted_is log i ∙ provided_false _ _ w

    -- the source wanted is 0, or wrote the object before
    wanted_wrote : (source_wanted log i ≡ 0 → ⊥) → wrote log i (source_wanted log i) (obj log i) ≡ true
    wanted_wrote n = go (decide (wrote log i (tx log i) (obj log i)))
      where
        b : begin_step log (tx log i) < i
        b = begin_early

        found : (v : ℕ) → (v ≡ 0 → ⊥) → Last log (obj log i) (begin_step log (tx log i)) v ⊎ ((v ≡ 0) × None log (obj log i) (begin_step log (tx log i))) → wrote log i v (obj log i) ≡ true
        found v n (inl r) = wrote_later log (commit_step log v) i v (obj log i) (let q : commit_step log v < begin_step log (tx log i) = r.early in omega (arith, b)) (writes_first ok v (obj log i) r.commit r.write)
        found v n (inr r) = absurd (n r.0)

        go : (wrote log i (tx log i) (obj log i) ≡ true) ⊎ (wrote log i (tx log i) (obj log i) ≡ false) → wrote log i (source_wanted log i) (obj log i) ≡ true
        go (inl w) = rw (own w) w
        go (inr w) = rw (other w) (found _ (λ z. n (other w ∙ z)) (last_cases (obj log i) (begin_step log (tx log i)) (omega (arith, b))))

    misread→ : misread log i ≡ true → src log i ≡ source_wanted log i → ⊥
    unfolding misread no_writer wrong_read source_wanted
    misread→ m e = ⊎_elim (λ a. nine (and→ a).1) (λ q. isnt→ (fails→ (and→ q).1) e) (or→ m)
      where
        nine : (fails (src log i is 0) and fails (wrote log i (src log i) (obj log i))) ≡ true → ⊥
        nine q = not_both (subst (λ (z : ℕ). wrote log i z (obj log i) ≡ true) (sym e) (wanted_wrote (λ z. isnt→ (fails→ (and→ q).0) (e ∙ z)))) (fails→ (and→ q).1)

    -- a wrong source that is the reader itself wrote nothing before
    →misread : judged log i ≡ true → (src log i ≡ source_wanted log i → ⊥) → misread log i ≡ true
    unfolding misread no_writer wrong_read judged_other source_wanted
    →misread j n = go (decide (src log i is tx log i)) (decide (wrote log i (tx log i) (obj log i)))
      where
        go : ((src log i is tx log i) ≡ true) ⊎ ((src log i is tx log i) ≡ false) → (wrote log i (tx log i) (obj log i) ≡ true) ⊎ (wrote log i (tx log i) (obj log i) ≡ false) → misread log i ≡ true
        go (inr c) w = →or_right _ (→and (→and j (→fails c)) (→fails (→isnt n)))
        go (inl c) (inl w) = absurd (n (is→ c ∙ sym (own w)))
        go (inl c) (inr w) =
            let e : src log i ≡ tx log i = is→ c in
            let r : 1 ≤ tx log i = (ok.range i h).0 in
            →or_left _ (→and j (→and (→fails (→isnt (λ (z : src log i ≡ 0). omega arith))) (→fails (rw e w))))

  judged_kind : (i : ℕ) → judged log i ≡ true → kind log i ≡ 2
  unfolding judged reads
  judged_kind i j = is→ (and→ j).0

  misread_judged : (i : ℕ) → misread log i ≡ true → judged log i ≡ true
  unfolding misread wrong_read judged_other
  misread_judged i m = ⊎_elim (λ a. (and→ a).0) (λ a. (and→ (and→ a).0).0) (or→ m)

  pub misread_wanted : (i : ℕ) → i < steps log → misread log i ≡ (judged log i and fails (src log i is source_wanted log i))
  misread_wanted i h =
      same_test (λ m. let j = misread_judged i m in →and j (→fails (→isnt (misread→ i h (judged_kind i j) m))))
      (λ q. let j = (and→ q).0 in →misread i h (judged_kind i j) j (isnt→ (fails→ (and→ q).1)))
