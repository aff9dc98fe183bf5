-- One step more: what a log says of its first steps stays, and what it says of the last is what came.
use mathlib.Core.Path.{◌≡◌, refl, sym, ap, ◌∙◌}
use mathlib.Core.Bool.{Bool, true, false}
use mathlib.Core.List.{List, [], ◌∷◌, ◌++◌}
use mathlib.Core.Logic.{◌⊎◌, inl, inr}
use Prim.Native.Nat.{ℕ, zero, suc, ◌+◌, ◌*◌, ◌≤◌, ◌<◌}
use native.Mathlib.Omega.{arith}
use lib.ListN.{length, get_or, length-append, get_or-append}
use lib.Seq.{get_or-append-add}
use Rattle.words.specs.Tests.{◌is◌, ◌and◌, ◌or◌, provided◌then◌else◌, some, lowest}
use Rattle.words.proofs.Truth.{decide, not_both, →and, and_no_left, and_no_right, or_no, →is, →isnt, some→, →some, none→, some_same, lowest_is, lowest_at, lowest_le}
use Rattle.verdict.specs.Log.{steps, kind, tx, obj, src, begins, reads, writes, commits, aborts, committed, writer, begin_step, commit_step, commits_writer}
use Rattle.verdict.specs.Log.{begun, ended, wrote}
use Rattle.verdict.specs.Clean.{after_own_write}
use Rattle.verdict.specs.Snapshot.{writer_number, snapshot_step, last_committed, wanted}
use Rattle.verdict.specs.declared.answers.Writer.TheVariants.{Reader}
use Rattle.verdict.proofs.SnapshotLaws.{last_none, last_here, last_before}
use Rattle.live.specs.SoFar.{more}
use Rattle.live.specs.Inner.Accepted.{Whole}
use Rattle.live.specs.Inner.Seen.{last_writer, source_wanted}

-- BEGINS
module _ (log : List ℕ) where
  pub begun_later : (i m u : ℕ) → i ≤ m → begun log i u ≡ true → begun log m u ≡ true
  unfolding begun
  begun_later i m u h b = let r = some→ b in →some _ r.0 (omega (arith, r.1)) r.2

  pub begin_before : (i u : ℕ) → i ≤ steps log → begun log i u ≡ true → begin_step log u < i
  unfolding begun begin_step
  begin_before i u h b =
      let r = some→ b in
      let l : lowest (steps log) (begins log u) ≤ r.0 = lowest_le (begins log u) r.0 (omega (arith, r.1)) r.2 in
      omega (arith, r.1)

-- THE LAST WRITER, by its number
module _ (log : List ℕ) (x : ℕ) where
  pub writer_none : last_writer log 0 x ≡ 0
  unfolding last_writer writer_number
  writer_none = ap writer_number (last_none log x)

  pub writer_here : (b : ℕ) → commits_writer log x b ≡ true → last_writer log (suc b) x ≡ tx log b
  unfolding last_writer writer_number
  writer_here b h = ap writer_number (last_here log x b h)

  pub writer_before : (b : ℕ) → commits_writer log x b ≡ false → last_writer log (suc b) x ≡ last_writer log b x
  unfolding last_writer
  writer_before b h = ap writer_number (last_before log x b h)

-- what a read should name: the reader itself after its own write, else what it sees
pub wanted_is : (log : List ℕ) (i : ℕ) → source_wanted log i ≡ (provided wrote log i (tx log i) (obj log i) then tx log i else last_writer log (begin_step log (tx log i)) (obj log i))
unfolding source_wanted wanted after_own_write snapshot_step last_writer
wanted_is log i = go (wrote log i (tx log i) (obj log i))
  where
    go : (b : Bool) → writer_number (provided b then Reader (tx log i) else last_committed log (begin_step log (tx log i)) (obj log i)) ≡ (provided b then tx log i else writer_number (last_committed log (begin_step log (tx log i)) (obj log i)))
    go true = unfold provided◌then◌else◌ writer_number in refl
    go false = unfold provided◌then◌else◌ in refl

-- log' is log and one step more
pub record Grows (log : List ℕ) (k t x s : ℕ) (log' : List ℕ) : Type 0 where
  pub size : steps log' ≡ suc (steps log)
  pub kinds : (i : ℕ) → i < steps log → kind log' i ≡ kind log i
  pub txs : (i : ℕ) → i < steps log → tx log' i ≡ tx log i
  pub objs : (i : ℕ) → i < steps log → obj log' i ≡ obj log i
  pub srcs : (i : ℕ) → i < steps log → src log' i ≡ src log i
  pub kind_here : kind log' (steps log) ≡ k
  pub tx_here : tx log' (steps log) ≡ t
  pub obj_here : obj log' (steps log) ≡ x
  pub src_here : src log' (steps log) ≡ s

module _ (log : List ℕ) (whole : Whole log) (k t x s : ℕ) where
  last : List ℕ
  last = k ∷ t ∷ x ∷ s ∷ []

  longer : length (log ++ last) ≡ length log + 4
  unfolding last
  longer = length-append log last

  at : (j m v : ℕ) → j ≡ length log + m → get_or last m 0 ≡ v → get_or (log ++ last) j 0 ≡ v
  at j m v e h = rw e (get_or-append-add log last m 0 ∙ h)

  pub more_grows : Grows log k t x s (more log k t x s)
  unfolding more steps kind tx obj src last
  more_grows =
      record {
        size = let e : length (log ++ last) ≡ length log + 4 = longer in omega arith;
        kinds = λ (i : ℕ) (h : i < steps log). get_or-append log last 0 (4 * i) (omega arith);
        txs = λ (i : ℕ) (h : i < steps log). get_or-append log last 0 (4 * i + 1) (omega arith);
        objs = λ (i : ℕ) (h : i < steps log). get_or-append log last 0 (4 * i + 2) (omega arith);
        srcs = λ (i : ℕ) (h : i < steps log). get_or-append log last 0 (4 * i + 3) (omega arith);
        kind_here = at (4 * steps log) 0 k (omega arith) refl;
        tx_here = at (4 * steps log + 1) 1 t (omega arith) refl;
        obj_here = at (4 * steps log + 2) 2 x (omega arith) refl;
        src_here = at (4 * steps log + 3) 3 s (omega arith) refl;
      }

  pub more_whole : Whole (more log k t x s)
  unfolding more steps last
  more_whole = let e : length (log ++ last) ≡ length log + 4 = longer in omega arith

module _ {log log' : List ℕ} {k t x s : ℕ} (g : Grows log k t x s log') where
  -- QUESTIONS OVER ALL STEPS
  pub some_grows : (p p' : ℕ → Bool) → ((i : ℕ) → i < steps log → p' i ≡ p i) → some (steps log') p' ≡ (some (steps log) p or p' (steps log))
  unfolding some
  some_grows p p' f = rw g.size (ap (λ (b : Bool). b or p' (steps log)) (some_same (steps log) p' p f))

  pub lowest_grows : (p p' : ℕ → Bool) → ((i : ℕ) → i < steps log → p' i ≡ p i) → some (steps log) p ≡ true → lowest (steps log') p' ≡ lowest (steps log) p
  lowest_grows p p' f h =
      let r = lowest_is p h in
      let e : steps log' ≡ suc (steps log) = g.size in
      let l : lowest (steps log) p < steps log = r.0 in
      lowest_at p' (lowest (steps log) p) (omega arith) (f _ l ∙ r.1) (λ (j : ℕ) (z : j < lowest (steps log) p). f j (omega arith) ∙ r.2 j z)

  -- WHAT AN EARLIER STEP IS
  module _ (i : ℕ) (h : i < steps log) where
    pub begins_same : (u : ℕ) → begins log' u i ≡ begins log u i
    unfolding begins
    begins_same u = rw (g.kinds i h, g.txs i h) refl

    pub reads_same : reads log' i ≡ reads log i
    unfolding reads
    reads_same = rw (g.kinds i h) refl

    pub writes_same : (u y : ℕ) → writes log' u y i ≡ writes log u y i
    unfolding writes
    writes_same u y = rw (g.kinds i h, g.txs i h, g.objs i h) refl

    pub commits_same : (u : ℕ) → commits log' u i ≡ commits log u i
    unfolding commits
    commits_same u = rw (g.kinds i h, g.txs i h) refl

    pub ends_same : (u : ℕ) → (commits log' u i or aborts log' u i) ≡ (commits log u i or aborts log u i)
    unfolding commits aborts
    ends_same u = rw (g.kinds i h, g.txs i h) refl

  -- BEFORE AN EARLIER STEP
  module _ (i : ℕ) (h : i ≤ steps log) where
    pub begun_same : (u : ℕ) → begun log' i u ≡ begun log i u
    unfolding begun
    begun_same u = some_same i _ _ (λ (j : ℕ) (l : j < i). begins_same j (omega arith) u)

    pub ended_same : (u : ℕ) → ended log' i u ≡ ended log i u
    unfolding ended
    ended_same u = some_same i _ _ (λ (j : ℕ) (l : j < i). ends_same j (omega arith) u)

    pub wrote_same : (u y : ℕ) → wrote log' i u y ≡ wrote log i u y
    unfolding wrote
    wrote_same u y = some_same i _ _ (λ (j : ℕ) (l : j < i). writes_same j (omega arith) u y)

  -- IN THE WHOLE LOG
  pub committed_grows : (u : ℕ) → committed log' u ≡ (committed log u or (k is 4 and t is u))
  unfolding committed commits
  committed_grows u = some_grows (commits log u) (commits log' u) (λ i h. commits_same i h u) ∙ rw (g.kind_here, g.tx_here) refl

  pub writer_grows : (y u : ℕ) → writer log' y u ≡ (writer log y u or (k is 3 and t is u and x is y))
  unfolding writer writes
  writer_grows y u = some_grows (writes log u y) (writes log' u y) (λ i h. writes_same i h u y) ∙ rw (g.kind_here, g.tx_here, g.obj_here) refl

  pub begin_step_same : (u : ℕ) → begun log (steps log) u ≡ true → begin_step log' u ≡ begin_step log u
  unfolding begun begin_step
  begin_step_same u h = lowest_grows (begins log u) (begins log' u) (λ i l. begins_same i l u) h

  pub commit_step_same : (u : ℕ) → committed log u ≡ true → commit_step log' u ≡ commit_step log u
  unfolding committed commit_step
  commit_step_same u h = lowest_grows (commits log u) (commits log' u) (λ i l. commits_same i l u) h

  pub commit_step_here : k ≡ 4 → committed log t ≡ false → commit_step log' t ≡ steps log
  unfolding committed commit_step commits
  commit_step_here e n =
      let z : steps log' ≡ suc (steps log) = g.size in
      lowest_at (commits log' t) (steps log) (omega arith) (→and (→is (g.kind_here ∙ e)) (→is g.tx_here)) (λ i h. commits_same i h t ∙ none→ (commits log t) n i h)

  pub begin_step_here : k ≡ 1 → begun log (steps log) t ≡ false → begin_step log' t ≡ steps log
  unfolding begun begin_step begins
  begin_step_here e n =
      let z : steps log' ≡ suc (steps log) = g.size in
      lowest_at (begins log' t) (steps log) (omega arith) (→and (→is (g.kind_here ∙ e)) (→is g.tx_here)) (λ i h. begins_same i h t ∙ none→ (begins log t) n i h)

  -- VERSIONS, where the step is of one that has not committed
  module _ (uncommitted : committed log t ≡ false) where
    pub writer_same : (y u : ℕ) → committed log u ≡ true → writer log' y u ≡ writer log y u
    writer_same y u c = writer_grows y u ∙ or_no _ (and_no_left _ (and_no_right _ (→isnt (λ (e : t ≡ u). not_both (rw e c) uncommitted))))

    pub commits_writer_same : (y j : ℕ) → j < steps log → commits_writer log' y j ≡ commits_writer log y j
    unfolding commits_writer committed commits
    commits_writer_same y j h = rw (g.kinds j h, g.txs j h) (go (decide (kind log j is 4)))
      where
        go : ((kind log j is 4) ≡ true) ⊎ ((kind log j is 4) ≡ false) → (kind log j is 4 and writer log' y (tx log j)) ≡ (kind log j is 4 and writer log y (tx log j))
        go (inl e) = ap (λ (b : Bool). kind log j is 4 and b) (writer_same y (tx log j) (→some _ j h (→and e (→is refl))))
        go (inr e) = and_no_left _ e ∙ sym (and_no_left _ e)

    pub last_same : (y b : ℕ) → b ≤ steps log → last_writer log' b y ≡ last_writer log b y
    last_same y zero h = writer_none log' y ∙ sym (writer_none log y)
    last_same y (suc b) h = go (decide (commits_writer log y b)) (last_same y b (omega arith))
      where
        go : (commits_writer log y b ≡ true) ⊎ (commits_writer log y b ≡ false) → last_writer log' b y ≡ last_writer log b y
            → last_writer log' (suc b) y ≡ last_writer log (suc b) y
        go (inl e) rec = writer_here log' y b (commits_writer_same y b (omega arith) ∙ e) ∙ g.txs b (omega arith) ∙ sym (writer_here log y b e)
        go (inr e) rec = writer_before log' y b (commits_writer_same y b (omega arith) ∙ e) ∙ rec ∙ sym (writer_before log y b e)

    -- C1: what a read should name is decided when it is made
    pub wanted_same : (i : ℕ) → i < steps log → begun log i (tx log i) ≡ true → source_wanted log' i ≡ source_wanted log i
    wanted_same i h b =
        let e : begin_step log' (tx log i) ≡ begin_step log (tx log i) = begin_step_same (tx log i) (begun_later log i (steps log) (tx log i) (omega arith) b) in
        let l : begin_step log (tx log i) < i = begin_before log i (tx log i) (omega arith) b in
        let w : wrote log' i (tx log i) (obj log i) ≡ wrote log i (tx log i) (obj log i) = wrote_same i (omega arith) (tx log i) (obj log i) in
        let q : last_writer log' (begin_step log (tx log i)) (obj log i) ≡ last_writer log (begin_step log (tx log i)) (obj log i) = last_same (obj log i) (begin_step log (tx log i)) (omega arith) in
        rw (wanted_is log' i, wanted_is log i, g.txs i h, g.objs i h, e, w, q) refl
