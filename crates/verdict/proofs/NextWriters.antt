-- The table of the writers of the next versions, filled from the last commit to the first, and the walk over the marks of one commit.
use mathlib.Core.Path.{◌≡◌, refl, sym, ap, ◌∙◌}
use mathlib.Core.Bool.{true, false}
use mathlib.Core.Logic.{◌⊎◌, inl, inr}
use mathlib.Core.List.{List}
use Prim.Native.Nat.{ℕ, zero, suc, ◌+◌, ◌-◌, ◌*◌, ◌≤◌, ◌<◌}
use native.Mathlib.Omega.{arith}
use lib.ListN.{length, get_or, set, replicate, length-set, length-replicate, get_or-replicate}
use lib.Seq.{get_or-set_same, get_or-set_other}
use Rattle.words.specs.Tests.{◌is◌, ◌below◌, ◌upto◌, ◌and◌, ◌or◌, provided◌then◌else◌, some, lowest}
use Rattle.words.proofs.Truth.{decide, not_both, →and, and_no_left, and_no_right, →or_left, →or_right, or_false, is→, →is, isnt→, →isnt, →below, →not_below, provided_true, provided_false, →some, none→, lowest_is, lowest_passes}
use Rattle.words.proofs.From.{from_here, from_next, from_end}
use Rattle.bits.specs.Word.{marked, less}
use Rattle.bits.proofs.Walks.{turned, unturned}
use Rattle.verdict.specs.Limits.{transactions, objects}
use Rattle.verdict.specs.Log.{steps, kind, tx, obj, src, commits, writes, writer, commit_step, commits_writer}
use Rattle.verdict.specs.Version.{versions_from, next_commit}
use Rattle.verdict.specs.Inner.VersionEdges.{next_writer}
use Rattle.verdict.specs.Inner.NextWriters.{at, PutBefore, NextWriters}
use Rattle.verdict.specs.Inner.WriteTable.{WriteTable}
use Rattle.verdict.specs.Inner.Checking.{committer}
use Rattle.verdict.proofs.WellFormed.{Well}
use Rattle.verdict.proofs.CommitOrders.{LastCommit, last_commit, none_committed}
use Rattle.verdict.proofs.Versions.{versions_from_zero, versions_from_other, commit_step_at}

-- THE WRITER OF THE FIRST VERSION THAT IS COMMITTED FROM A STEP ON
module _ (log : List ℕ) (x : ℕ) where
  first_from : ℕ → ℕ
  first_from j = lowest (steps log) (λ i. j upto i and commits_writer log x i)

  -- 0 where there is none
  pub writer_from : ℕ → ℕ
  writer_from j = provided first_from j below steps log then tx log (first_from j) else 0

  pub next_from : (v : ℕ) → next_writer log x v ≡ writer_from (versions_from log v)
  unfolding next_writer next_commit writer_from first_from
  next_from v = refl

  from_last : (j : ℕ) → steps log ≤ j → writer_from j ≡ 0
  unfolding writer_from first_from
  from_last j h = provided_false _ _ (→not_below (omega (arith, from_end (steps log) (commits_writer log x) j h)))

  from_commit : (j : ℕ) → j < steps log → commits_writer log x j ≡ true → writer_from j ≡ tx log j
  unfolding writer_from first_from
  from_commit j h c = let e = from_here (steps log) (commits_writer log x) j h c in rw e (provided_true _ _ (→below h))

  from_other : (j : ℕ) → commits_writer log x j ≡ false → writer_from j ≡ writer_from (suc j)
  unfolding writer_from first_from
  from_other j c = rw (from_next (steps log) (commits_writer log x) j c) refl

-- THE TABLE, from the last step back to step j: the store's entry has the first writer from there on, and those who commit there or later
-- have the writers of their next versions
pub record Coming (log : List ℕ) (j : ℕ) (table : List ℕ) : Type 0 where
  pub size : length table ≡ suc transactions * objects
  pub store : (x : ℕ) → x < objects → at table 0 x ≡ writer_from log x j
  pub entry : (v x : ℕ) → v ≤ transactions → x < objects → (v ≡ 0 → ⊥) → writer log x v ≡ true → j ≤ commit_step log v → at table v x ≡ next_writer log x v

module _ (log : List ℕ) where
  pub none_coming : (n j : ℕ) → n ≡ suc transactions * objects → j ≡ steps log → Coming log j (replicate n 0)
  none_coming n j e f =
      record {
        size = length-replicate n 0 ∙ e;
        store = λ (x : ℕ) (h : x < objects). get_or-replicate n (0 * objects + x) 0 0 (omega arith) ∙ sym (from_last log x j (omega arith));
        entry = λ (v x : ℕ) (h : v ≤ transactions) (k : x < objects) (z : v ≡ 0 → ⊥) (w : writer log x v ≡ true) (l : j ≤ commit_step log v).
            get_or-replicate n (v * objects + x) 0 0 (omega arith) ∙ sym (next_from log x v ∙ ap (writer_from log x) (versions_from_other log v z) ∙ from_last log x (suc (commit_step log v)) (omega arith));
      }

  module _ (well : Well transactions log) (j : ℕ) (h : j < steps log) {table : List ℕ} (known : Coming log (suc j) table) where
    -- whoever commits at step j or later, and is not its transaction, commits later
    later : (v : ℕ) → j ≤ commit_step log v → commits log v j ≡ false → suc j ≤ commit_step log v
    unfolding commit_step
    later v l n = go (decide (commit_step log v is j))
      where
        go : ((commit_step log v is j) ≡ true) ⊎ ((commit_step log v is j) ≡ false) → suc j ≤ commit_step log v
        go (inl q) =
            let e : lowest (steps log) (commits log v) ≡ j = is→ q in
            let c : commits log v (lowest (steps log) (commits log v)) ≡ true = found (lowest_passes (commits log v) (omega arith)) in
            absurd (not_both (rw e at c) n)
          where
            found : some (steps log) (commits log v) ≡ true → commits log v (lowest (steps log) (commits log v)) ≡ true
            found s = (lowest_is (commits log v) s).1
        go (inr q) = let z : commit_step log v ≡ j → ⊥ = isnt→ q in omega arith

    -- step j commits nothing
    pub coming_skip : (kind log j ≡ 4 → ⊥) → Coming log j table
    unfolding commits_writer commits
    coming_skip k =
        record {
          size = known.size;
          store = λ x l. known.store x l ∙ sym (from_other log x j (and_no_left _ (→isnt k)));
          entry = λ v x a b z w l. known.entry v x a b z w (later v l (and_no_left _ (→isnt k)));
        }

    -- step j commits t
    pub coming_more : {writes after : List ℕ} → WriteTable log writes → kind log j ≡ 4 → PutBefore table (get_or writes (tx log j) 0) (tx log j) after → Coming log j after
    unfolding commits_writer commits
    coming_more {writes} {after} table_of k put =
        record {
          size = put.size ∙ known.size;
          store = λ x l. store x l (decide (writer log x (tx log j)));
          entry = λ v x a b z w l. entry v x a b z w l (decide (v is tx log j));
        }
      where
        t : ℕ
        t = tx log j

        t_in : t ≤ transactions
        t_in = (well.range j h).1

        store : (x : ℕ) → x < objects → (writer log x t ≡ true) ⊎ (writer log x t ≡ false) → at after 0 x ≡ writer_from log x j
        store x l (inl w) =
            put.entry 0 x (omega arith) l ∙ provided_true _ _ (→and (table_of.mark t x t_in l ∙ w) (→is refl)) ∙ sym (from_commit log x j h (→and (→is k) w))
        store x l (inr w) =
            let m : marked (get_or writes t 0) x ≡ false = table_of.mark t x t_in l ∙ w in
            put.entry 0 x (omega arith) l ∙ provided_false _ _ (and_no_left _ m) ∙ provided_false _ _ (and_no_left _ m) ∙ known.store x l ∙ sym (from_other log x j (and_no_right _ w))

        entry : (v x : ℕ) → v ≤ transactions → x < objects → (v ≡ 0 → ⊥) → writer log x v ≡ true → j ≤ commit_step log v → ((v is t) ≡ true) ⊎ ((v is t) ≡ false) → at after v x ≡ next_writer log x v
        entry v x a b z w l (inl q) =
            let e : v ≡ t = is→ q in
            let m : marked (get_or writes t 0) x ≡ true = table_of.mark t x t_in b ∙ rw e at w in
            let c : commit_step log t ≡ j = commit_step_at log well t j h (→and (→is k) (→is refl)) in
            put.entry v x a b ∙ provided_false _ _ (and_no_right _ (→isnt z)) ∙ provided_true _ _ (→and m q) ∙ known.store x b
            ∙ sym (next_from log x v ∙ ap (writer_from log x) (versions_from_other log v z ∙ ap suc (ap (commit_step log) e ∙ c)))
        entry v x a b z w l (inr q) =
            put.entry v x a b ∙ provided_false _ _ (and_no_right _ (→isnt z)) ∙ provided_false _ _ (and_no_right _ q)
            ∙ known.entry v x a b z w (later v l (and_no_right _ (→isnt (λ e. isnt→ q (sym e)))))

  -- steps that commit nothing are passed over
  pub coming_down : Well transactions log → (i d : ℕ) {table : List ℕ} → i + d ≤ steps log → ((j : ℕ) → i ≤ j → j < i + d → kind log j ≡ 4 → ⊥) → Coming log (i + d) table → Coming log i table
  coming_down well i zero h none known = let e : i + 0 ≡ i = omega arith in rw e at known
  coming_down well i (suc d) h none known =
      let e : i + suc d ≡ suc (i + d) = omega arith in
      coming_down well i d (omega arith) (λ (j : ℕ) (a : i ≤ j) (b : j < i + d). none j a (omega arith)) (coming_skip well (i + d) (omega arith) (rw e at known) (none (i + d) (omega arith) (omega arith)))

  -- the last commit before the steps that are done, and that there is none
  pub coming_last : Well transactions log → {j : ℕ} {table writes after : List ℕ} {u : ℕ} → j ≤ steps log → Coming log j table → (c : LastCommit log j) → WriteTable log writes → u ≡ tx log c.step → PutBefore table (get_or writes u 0) u after → Coming log c.step after
  coming_last well {j} h known c marks e put =
      let d : suc c.step + (j - suc c.step) ≡ j = omega (arith, c.below) in
      coming_more well c.step (omega (arith, c.below))
      (coming_down well (suc c.step) (j - suc c.step) (rw d h) (λ (i : ℕ) (a : suc c.step ≤ i) (b : i < suc c.step + (j - suc c.step)). c.none_since i (omega arith) (omega (arith, c.below))) (rw d known))
      marks c.commits (rw e at put)

  pub coming_first : Well transactions log → {j : ℕ} {table : List ℕ} → j ≤ steps log → committer log j ≡ 0 → Coming log j table → Coming log 0 table
  coming_first well {j} h e known =
      let z : 0 + j ≡ j = omega arith in
      coming_down well 0 j (rw z h) (λ (i : ℕ) a (b : i < 0 + j) k. none_committed log j e (λ (l : ℕ) (m : l < j) n. (well.range l (omega arith)).0) i (omega arith) k) (rw z known)

  -- how much of the log is left: up to the commit of t
  pub left : ℕ → ℕ
  left t = provided t is 0 then 0 else suc (commit_step log t)

  pub left_less : Well transactions log → {j : ℕ} {t u : ℕ} → j ≤ steps log → (c : LastCommit log j) → t ≡ tx log c.step → u ≡ committer log c.step → left u < left t
  unfolding left
  left_less well {j} {t} {u} h c e f = rw (here ∙ ap suc (ap (commit_step log) e ∙ commit_is c.step (omega (arith, c.below)) c.commits)) (go (decide (u is 0)))
    where
      commit_is : (s : ℕ) → s < steps log → kind log s ≡ 4 → commit_step log (tx log s) ≡ s
      commit_is s l k = commit_step_at log well (tx log s) s l (commits_here s k)
        where
          commits_here : (s : ℕ) → kind log s ≡ 4 → commits log (tx log s) s ≡ true
          commits_here s k = unfold commits in (→and (→is k) (→is refl))

      here : (provided t is 0 then 0 else suc (commit_step log t)) ≡ suc (commit_step log t)
      here = provided_false _ _ (→isnt (λ (z : t ≡ 0). omega (arith, z, e, (well.range c.step (omega (arith, c.below))).0)))

      go : ((u is 0) ≡ true) ⊎ ((u is 0) ≡ false) → (provided u is 0 then 0 else suc (commit_step log u)) < suc c.step
      go (inl q) = rw (provided_true 0 (suc (commit_step log u)) q) (omega arith)
      go (inr q) =
          let b = last_commit log c.step (λ z. isnt→ q (f ∙ z)) in
          let w : commit_step log u ≡ b.step = ap (commit_step log) (f ∙ sym b.by) ∙ commit_is b.step (omega (arith, b.below, c.below)) b.commits in
          rw (provided_false 0 (suc (commit_step log u)) q) (omega (arith, w, b.below))

  -- all steps
  pub coming_all : {table : List ℕ} → Coming log 0 table → NextWriters log table
  coming_all {table} known = record { entry = λ v x a b c. go v x a b c (decide (v is 0)) }
    where
      go : (v x : ℕ) → v ≤ transactions → x < objects → (v is 0 or writer log x v) ≡ true → ((v is 0) ≡ true) ⊎ ((v is 0) ≡ false) → at table v x ≡ next_writer log x v
      go v x a b c (inl q) =
          let e : v ≡ 0 = is→ q in
          ap (λ (u : ℕ). at table u x) e ∙ known.store x b ∙ sym (ap (next_writer log x) e ∙ next_from log x 0 ∙ ap (writer_from log x) (versions_from_zero log))
      go v x a b c (inr q) = known.entry v x a b (isnt→ q) (sym (or_false q) ∙ c) (omega arith)

-- what was read of the table for v and x tells the writer of the next version
by_table : {log table : List ℕ} {v u x y r : ℕ} → NextWriters log table → v ≤ transactions → x < objects → (v is 0 or writer log x v) ≡ true → u ≡ v → y ≡ x → r ≡ get_or table (u * objects + y) 0 → r ≡ next_writer log x v
by_table {v} {x} t h k w a b e = rw (a, b) at e ∙ t.entry v x h k w

-- .. where v writes x, as for a write, or for the source of a read
of_write : (log : List ℕ) (i : ℕ) → i < steps log → kind log i ≡ 3 → (tx log i is 0 or writer log (obj log i) (tx log i)) ≡ true
unfolding writer writes
of_write log i h k = →or_right _ (→some _ i h (→and (→and (→is k) (→is refl)) (→is refl)))

of_source : (log : List ℕ) → Well transactions log → (i : ℕ) → i < steps log → kind log i ≡ 2 → (src log i is 0 or writer log (obj log i) (src log i)) ≡ true
of_source log well i h k = go (decide (src log i is 0))
  where
    go : ((src log i is 0) ≡ true) ⊎ ((src log i is 0) ≡ false) → (src log i is 0 or writer log (obj log i) (src log i)) ≡ true
    go (inl q) = →or_left _ q
    go (inr q) = →or_right _ (well.source i h k (isnt→ q))

pub next_read : {log table : List ℕ} {s x r : ℕ} → Well transactions log → NextWriters log table → (i : ℕ) → i < steps log → kind log i ≡ 2
    → s ≡ src log i → x ≡ obj log i → r ≡ get_or table (s * objects + x) 0 → r ≡ next_writer log (obj log i) (src log i)
next_read {log} well known i h k = by_table known (well.sources i h k) (well.object i h (inl k)) (of_source log well i h k)

pub next_write : {log table : List ℕ} {t x r : ℕ} → Well transactions log → NextWriters log table → (i : ℕ) → i < steps log → kind log i ≡ 3
    → t ≡ tx log i → x ≡ obj log i → r ≡ get_or table (t * objects + x) 0 → r ≡ next_writer log (obj log i) (tx log i)
next_write {log} well known i h k = by_table known (well.range i h).1 (well.object i h (inr k)) (of_write log i h k)

-- THE WALK over the marks of one commit: what the marks that are left will still do to the table is what all of them do to the first one
unfoldable pub put_at : ℕ → ℕ → List ℕ → ℕ → ℕ → ℕ
put_at marks t table v x = provided marked marks x and v is 0 then t else provided marked marks x and v is t then at table 0 x else at table v x

pub record Putting (first : List ℕ) (marks t left : ℕ) (table : List ℕ) : Type 0 where
  pub size : length table ≡ length first
  pub entry : (v x : ℕ) → v ≤ transactions → x < objects → put_at left t table v x ≡ put_at marks t first v x

pub put_none : (first : List ℕ) (marks t : ℕ) → Putting first marks t marks first
put_none first marks t = record { size = refl; entry = λ v x h k. refl }

pub put_all : {first : List ℕ} {marks t left : ℕ} {table : List ℕ} → Putting first marks t left table → some 64 (marked left) ≡ false → PutBefore first marks t table
unfolding put_at
put_all {marks} {left} p n =
    record {
      size = p.size;
      entry = λ v x h k. let m : marked left x ≡ false = none→ (marked left) n x k in sym (provided_false _ _ (and_no_left _ m) ∙ provided_false _ _ (and_no_left _ m)) ∙ p.entry v x h k;
    }

-- the mark of y has its turn
module _ {first : List ℕ} {marks t left : ℕ} {table : List ℕ} (p : Putting first marks t left table) (y : ℕ) (y_in : y < 64) (m : marked left y ≡ true) (t_in : (1 ≤ t) × (t ≤ transactions)) (room : length first ≡ 129 * objects) where
  abbrev put_row : List ℕ
  put_row = set table (t * objects + y) (get_or table y 0)

  abbrev pub put_both : List ℕ
  put_both = set put_row y t

  zero_row : (x : ℕ) → 0 * objects + x ≡ x
  zero_row x = omega arith

  -- elsewhere nothing has changed
  same_entry : (v x : ℕ) → x < objects → (v * objects + x ≡ y → ⊥) → (v * objects + x ≡ t * objects + y → ⊥) → at put_both v x ≡ at table v x
  same_entry v x h a b = get_or-set_other put_row y (v * objects + x) t 0 a ∙ get_or-set_other table (t * objects + y) (v * objects + x) (get_or table y 0) 0 b

  pub put_more : Putting first marks t (less left y) put_both
  unfolding put_at
  put_more =
      record {
        size = length-set put_row y t ∙ length-set table (t * objects + y) (get_or table y 0) ∙ p.size;
        entry = λ v x h k. step v x h k (decide (x is y)) ∙ p.entry v x h k;
      }
    where
      other : (v x : ℕ) → x < objects → (x ≡ y → ⊥) → at put_both v x ≡ at table v x
      other v x h n = same_entry v x h (λ (e : v * objects + x ≡ y). n (omega arith)) (λ (e : v * objects + x ≡ t * objects + y). n (omega arith))

      here : (v : ℕ) → v ≤ transactions → ((v is 0) ≡ true) ⊎ ((v is 0) ≡ false) → ((v is t) ≡ true) ⊎ ((v is t) ≡ false) → at put_both v y ≡ put_at left t table v y
      here v h (inl q) b =
          let e : v ≡ 0 = is→ q in
          let f : v * objects + y ≡ y = omega arith in
          ap (λ (k : ℕ). get_or put_both k 0) f ∙ get_or-set_same put_row y t 0 (omega (arith, length-set table (t * objects + y) (get_or table y 0), p.size)) ∙ sym (provided_true _ _ (→and m q))
      here v h (inr q) (inl b) =
          let e : v ≡ t = is→ b in
          let f : v * objects + y ≡ t * objects + y = ap (λ (k : ℕ). k * objects + y) e in
          ap (λ (k : ℕ). get_or put_both k 0) f ∙ get_or-set_other put_row y (t * objects + y) t 0 (λ (z : t * objects + y ≡ y). omega (arith, t_in.0))
          ∙ get_or-set_same table (t * objects + y) (get_or table y 0) 0 (omega (arith, p.size, t_in.1)) ∙ sym (ap (λ (k : ℕ). get_or table k 0) (zero_row y))
          ∙ sym (provided_false _ _ (and_no_right _ q) ∙ provided_true _ _ (→and m b))
      here v h (inr q) (inr b) =
          let a : v ≡ 0 → ⊥ = isnt→ q in
          let c : v ≡ t → ⊥ = isnt→ b in
          same_entry v y y_in (λ (z : v * objects + y ≡ y). a (omega arith)) (λ (z : v * objects + y ≡ t * objects + y). c (omega arith))
          ∙ sym (provided_false _ _ (and_no_right _ q) ∙ provided_false _ _ (and_no_right _ b))

      step : (v x : ℕ) → v ≤ transactions → x < objects → ((x is y) ≡ true) ⊎ ((x is y) ≡ false) → put_at (less left y) t put_both v x ≡ put_at left t table v x
      step v x h k (inl q) =
          let e : x ≡ y = is→ q in
          let g : marked (less left y) y ≡ false = turned left y in
          rw e (provided_false _ _ (and_no_left _ g) ∙ provided_false _ _ (and_no_left _ g) ∙ here v h (decide (v is 0)) (decide (v is t)))
      step v x h k (inr q) = rw (unturned left y x q, other v x k (isnt→ q), other 0 x k (isnt→ q)) refl
