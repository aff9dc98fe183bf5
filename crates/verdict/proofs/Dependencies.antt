-- The edges of a well_formed log, by the kind and the object of a dependency and without them.
use mathlib.Core.Path.{◌≡◌, refl, sym, ◌∙◌}
use mathlib.Core.Bool.{Bool, true}
use mathlib.Core.Logic.{◌⊎◌, inl, inr, ⊎_elim}
use mathlib.Core.List.{List}
use Prim.Native.Nat.{ℕ, ◌<◌}
use native.Mathlib.Omega.{arith}
use Rattle.words.specs.Tests.{◌is◌, ◌and◌, ◌or◌, some}
use Rattle.words.proofs.Truth.{same_test, and→, →and, or→, →or_left, →or_right, →fails, fails→, is→, →is, isnt→, →isnt, some→, →some}
use Rattle.verdict.specs.Limits.{objects}
use Rattle.verdict.specs.Log.{steps, kind, tx, obj, src, reads, writes, committed, writer}
use Rattle.verdict.specs.Clean.{judged, judged_other, is_clean}
use Rattle.verdict.specs.Dependency.{some_dependency}
use Rattle.verdict.specs.Conflict.{meet, conflict_on, conflict_edge}
use Rattle.verdict.specs.Version.{writer_to_next, source_to_reader, reader_to_next, version_on, version_edge}
use Rattle.verdict.specs.Inner.ConflictEdges.{touches, meet_somehow, plain_conflict}
use Rattle.verdict.specs.Inner.VersionEdges.{from_writer, from_source, from_reader, plain_version}
use Rattle.verdict.proofs.Cleanly.{source_committed}
use Rattle.verdict.proofs.WellFormed.{Well}
use Rattle.verdict.proofs.Versions.{next→}

-- A DEPENDENCY OF SOME KIND ON SOME OBJECT
module _ (on : ℕ → ℕ → Bool) where
  pub dependency→ : some_dependency on ≡ true → (x : ℕ) × (k : ℕ) × (x < objects) × (k < 4) × (on x k ≡ true)
  unfolding some_dependency
  dependency→ h = let r = some→ h in let s = some→ r.2 in (r.0, s.0, r.1, s.1, s.2)

  pub →dependency : (x k : ℕ) → x < objects → k < 4 → on x k ≡ true → some_dependency on ≡ true
  unfolding some_dependency
  →dependency x k h l q = →some _ x h (→some _ k l q)

module _ (log : List ℕ) where
  -- CONFLICTS
  -- a step of a and a later one of b that meet
  pub record Pair (meets : ℕ → ℕ → Bool) (a b : ℕ) : Type 0 where
    pub earlier : ℕ
    pub later : ℕ
    pub inside : later < steps log
    pub first : earlier < later
    pub from : tx log earlier ≡ a
    pub to : tx log later ≡ b
    pub meeting : meets earlier later ≡ true

  -- the same steps, by another test
  pub met : {meets other : ℕ → ℕ → Bool} {a b : ℕ} (p : Pair meets a b) → other p.earlier p.later ≡ true → Pair other a b
  met p m = record { earlier = p.earlier; later = p.later; inside = p.inside; first = p.first; from = p.from; to = p.to; meeting = m }

  abbrev pub pairs : (ℕ → ℕ → Bool) → ℕ → ℕ → Bool
  pairs meets a b = some (steps log) (λ j. tx log j is b and some j (λ i. tx log i is a and meets i j))

  pub pair→ : (meets : ℕ → ℕ → Bool) (a b : ℕ) → pairs meets a b ≡ true → Pair meets a b
  pair→ meets a b h =
      let r = some→ h in
      let s = some→ (and→ r.2).1 in
      record { earlier = s.0; later = r.0; inside = r.1; first = s.1; from = is→ (and→ s.2).0; to = is→ (and→ r.2).0; meeting = (and→ s.2).1 }

  pub →pair : (meets : ℕ → ℕ → Bool) (a b : ℕ) → Pair meets a b → pairs meets a b ≡ true
  →pair meets a b p = →some _ p.later p.inside (→and (→is p.to) (→some _ p.earlier p.first (→and (→is p.from) p.meeting)))

  pub conflict_on→ : (a b x k : ℕ) → conflict_on log a b x k ≡ true → Pair (meet log x k) a b
  unfolding conflict_on
  conflict_on→ a b x k h = pair→ (meet log x k) a b h

  pub →conflict_on : (a b x k : ℕ) → Pair (meet log x k) a b → conflict_on log a b x k ≡ true
  unfolding conflict_on
  →conflict_on a b x k p = →pair (meet log x k) a b p

  -- steps that meet on an object in one of the kinds meet somehow
  pub meet→ : (x k i j : ℕ) → meet log x k i j ≡ true → (obj log i ≡ x) × (obj log j ≡ x) × (meet_somehow log i j ≡ true)
  unfolding meet meet_somehow touches
  meet→ x k i j h = (
    e,
    f,
    ⊎_elim (λ q. ⊎_elim (λ c. writing (and→ (and→ c).0).1 (→or_right _ (and→ c).1)) (λ c. writing (and→ (and→ c).0).1 (→or_left _ (and→ c).1)) (or→ q))
        (λ c. reading (and→ (and→ c).0).1 (and→ c).1) (or→ (and→ h).1),
  )
    where
      e : obj log i ≡ x
      e = is→ (and→ (and→ h).0).0

      f : obj log j ≡ x
      f = is→ (and→ (and→ h).0).1

      writing : (kind log i is 3) ≡ true → (kind log j is 2 or kind log j is 3) ≡ true → meet_somehow log i j ≡ true
      writing w t = →and (→and (→and (→or_right _ w) t) (→is (e ∙ sym f))) (→or_left _ w)

      reading : (kind log i is 2) ≡ true → (kind log j is 3) ≡ true → meet_somehow log i j ≡ true
      reading r w = →and (→and (→and (→or_left _ r) (→or_right _ w)) (→is (e ∙ sym f))) (→or_right _ w)

  -- .. and those that meet somehow do so on the object of either, in the kind that they say
  pub →meet : (i j : ℕ) → meet_somehow log i j ≡ true → (k : ℕ) × (k < 4) × (meet log (obj log i) k i j ≡ true)
  unfolding meet meet_somehow touches
  →meet i j h = ⊎_elim reading writing (or→ (and→ (and→ (and→ h).0).0).0)
    where
      same : (obj log i is obj log i and obj log j is obj log i) ≡ true
      same = →and (→is refl) (→is (sym (is→ (and→ (and→ h).0).1)))

      j_touches : (kind log j is 2 or kind log j is 3) ≡ true
      j_touches = (and→ (and→ (and→ h).0).0).1

      reading : (kind log i is 2) ≡ true → (k : ℕ) × (k < 4) × (meet log (obj log i) k i j ≡ true)
      reading r =
          let no : kind log i ≡ 3 → ⊥ = λ (w : kind log i ≡ 3). let e : kind log i ≡ 2 = is→ r in omega arith in
          let w : (kind log j is 3) ≡ true = ⊎_elim (λ k. absurd (no (is→ k))) (λ k. k) (or→ (and→ h).1) in
          (3, omega arith, →and same (→or_right _ (→and (→and (→is refl) r) w)))

      writing : (kind log i is 3) ≡ true → (k : ℕ) × (k < 4) × (meet log (obj log i) k i j ≡ true)
      writing w =
          ⊎_elim (λ r. (2, omega arith, →and same (→or_left _ (→or_right _ (→and (→and (→is refl) w) r)))))
          (λ v. (1, omega arith, →and same (→or_left _ (→or_left _ (→and (→and (→is refl) w) v))))) (or→ j_touches)

module _ {most : ℕ} (log : List ℕ) (well : Well most log) where
  -- a step that meets another has an object
  touched : (i j : ℕ) → i < steps log → meet_somehow log i j ≡ true → obj log i < objects
  unfolding meet_somehow touches
  touched i j h m = well.object i h (⊎_elim (λ r. inl (is→ r)) (λ w. inr (is→ w)) (or→ (and→ (and→ (and→ m).0).0).0))

  some_conflict : (a b : ℕ) → some_dependency (conflict_on log a b) ≡ pairs log (meet_somehow log) a b
  some_conflict a b =
      same_test
      (λ h. let r = dependency→ _ h in
      let p = conflict_on→ log a b r.0 r.1 r.4 in
      →pair log (meet_somehow log) a b (met log p (meet→ log r.0 r.1 _ _ p.meeting).2))
      (λ h. let p = pair→ log (meet_somehow log) a b h in
      let m = →meet log p.earlier p.later p.meeting in
      →dependency (conflict_on log a b) (obj log p.earlier) m.0 (touched _ _ (omega (arith, p.first, p.inside)) p.meeting) m.1
      (→conflict_on log a b _ m.0 (met log p m.2)))

  pub plain_conflict_edge : (a b : ℕ) → conflict_edge log a b ≡ plain_conflict log a b
  unfolding conflict_edge plain_conflict
  plain_conflict_edge a b = rw (some_conflict a b) refl

-- VERSIONS
module _ (log : List ℕ) (a b : ℕ) where
  -- a dependency on x of one of the kinds, and those of each kind
  pub version_on→ : (x k : ℕ) → version_on log a b x k ≡ true
      → ((k ≡ 1) × (writer_to_next log a b x ≡ true)) ⊎ ((k ≡ 2) × (source_to_reader log a b x ≡ true)) ⊎ ((k ≡ 3) × (reader_to_next log a b x ≡ true))
  unfolding version_on
  version_on→ x k h =
      ⊎_elim (λ q. ⊎_elim (λ w. inl (is→ (and→ w).0, (and→ w).1)) (λ w. inr (inl (is→ (and→ w).0, (and→ w).1))) (or→ q))
      (λ w. inr (inr (is→ (and→ w).0, (and→ w).1))) (or→ h)

  pub →version_on_writer : (x : ℕ) → writer_to_next log a b x ≡ true → version_on log a b x 1 ≡ true
  unfolding version_on
  →version_on_writer x h = →or_left _ (→or_left _ (→and (→is refl) h))

  pub →version_on_source : (x : ℕ) → source_to_reader log a b x ≡ true → version_on log a b x 2 ≡ true
  unfolding version_on
  →version_on_source x h = →or_left _ (→or_right _ (→and (→is refl) h))

  pub →version_on_reader : (x : ℕ) → reader_to_next log a b x ≡ true → version_on log a b x 3 ≡ true
  unfolding version_on
  →version_on_reader x h = →or_right _ (→and (→is refl) h)

  -- without the object
  pub writer_to_next→ : (x : ℕ) → writer_to_next log a b x ≡ true → from_writer log a b ≡ true
  unfolding writer_to_next from_writer writer writes
  writer_to_next→ x h =
      let r = some→ (and→ (and→ h).0).1 in
      let e : obj log r.0 ≡ x = is→ (and→ r.2).1 in
      →and (and→ (and→ h).0).0 (→some _ r.0 r.1 (→and (and→ r.2).0 (rw e (and→ h).1)))

  pub source_to_reader→ : (x : ℕ) → source_to_reader log a b x ≡ true → from_source log a b ≡ true
  unfolding source_to_reader from_source
  source_to_reader→ x h =
      let r = some→ h in
      let q = and→ (and→ r.2).0 in
      →some _ r.0 r.1 (→and (→and (and→ q.0).0 q.1) (and→ r.2).1)

  pub reader_to_next→ : (x : ℕ) → reader_to_next log a b x ≡ true → from_reader log a b ≡ true
  unfolding reader_to_next from_reader
  reader_to_next→ x h =
      let r = some→ h in
      let q = and→ (and→ r.2).0 in
      let e : obj log r.0 ≡ x = is→ (and→ q.0).1 in
      →some _ r.0 r.1 (→and (→and (and→ q.0).0 q.1) (rw e (and→ r.2).1))

  -- .. which a well_formed log has
  module _ {most : ℕ} (well : Well most log) where
    -- a judged read has an object
    judged_object : (i : ℕ) → i < steps log → judged log i ≡ true → obj log i < objects
    unfolding judged reads
    judged_object i h j = well.object i h (inl (is→ (and→ j).0))

    pub →writer_to_next : from_writer log a b ≡ true → (x : ℕ) × (x < objects) × (writer_to_next log a b x ≡ true)
    unfolding writer_to_next from_writer writer writes
    →writer_to_next h =
        let r = some→ (and→ h).1 in
        let w = and→ r.2 in
        (obj log r.0, well.object r.0 r.1 (inr (is→ (and→ w.0).0)), →and (→and (and→ h).0 (→some _ r.0 r.1 (→and w.0 (→is refl)))) w.1)

    pub →source_to_reader : from_source log a b ≡ true → (x : ℕ) × (x < objects) × (source_to_reader log a b x ≡ true)
    unfolding source_to_reader from_source
    →source_to_reader h =
        let r = some→ h in
        let q = and→ (and→ r.2).0 in
        (obj log r.0, judged_object r.0 r.1 q.0, →some _ r.0 r.1 (→and (→and (→and q.0 (→is refl)) q.1) (and→ r.2).1))

    pub →reader_to_next : from_reader log a b ≡ true → (x : ℕ) × (x < objects) × (reader_to_next log a b x ≡ true)
    unfolding reader_to_next from_reader
    →reader_to_next h =
        let r = some→ h in
        let q = and→ (and→ r.2).0 in
        (obj log r.0, judged_object r.0 r.1 q.0, →some _ r.0 r.1 (→and (→and (→and q.0 (→is refl)) q.1) (and→ r.2).1))

    some_version : some_dependency (version_on log a b) ≡ (from_writer log a b or from_source log a b or from_reader log a b)
    some_version = same_test there back
      where
        there : some_dependency (version_on log a b) ≡ true → (from_writer log a b or from_source log a b or from_reader log a b) ≡ true
        there h =
            let r = dependency→ _ h in
            ⊎_elim (λ w. →or_left _ (→or_left _ (writer_to_next→ r.0 w.1)))
            (⊎_elim (λ w. →or_left _ (→or_right _ (source_to_reader→ r.0 w.1))) (λ w. →or_right _ (reader_to_next→ r.0 w.1)))
            (version_on→ r.0 r.1 r.4)

        on : (x k : ℕ) → x < objects → k < 4 → version_on log a b x k ≡ true → some_dependency (version_on log a b) ≡ true
        on = →dependency (version_on log a b)

        back : (from_writer log a b or from_source log a b or from_reader log a b) ≡ true → some_dependency (version_on log a b) ≡ true
        back h =
            ⊎_elim (λ q. ⊎_elim (λ w. let r = →writer_to_next w in on r.0 1 r.1 (omega arith) (→version_on_writer r.0 r.2))
            (λ w. let r = →source_to_reader w in on r.0 2 r.1 (omega arith) (→version_on_source r.0 r.2)) (or→ q))
            (λ w. let r = →reader_to_next w in on r.0 3 r.1 (omega arith) (→version_on_reader r.0 r.2)) (or→ h)

module _ {most : ℕ} (log : List ℕ) (well : Well most log) (a b : ℕ) where
  pub plain_version_edge : version_edge log a b ≡ plain_version log a b
  unfolding version_edge plain_version
  plain_version_edge = rw (some_version log a b well) refl

  -- AN EDGE OF A CLEAN LOG JOINS COMMITTED TRANSACTIONS
  module _ (edge : version_edge log a b ≡ true) where
    plain : plain_version log a b ≡ true
    plain = sym plain_version_edge ∙ edge

    pub version_leaves : is_clean log ≡ true → committed log a ≡ true
    unfolding plain_version from_writer from_source from_reader judged judged_other
    version_leaves clean = ⊎_elim (λ k. ⊎_elim (λ l. (and→ l).0) source (or→ k)) reader (or→ (and→ plain).1)
      where
        source : from_source log a b ≡ true → committed log a ≡ true
        source k =
            let r = some→ k in
            let i : ℕ = r.0 in
            let e : src log i ≡ a = is→ (and→ (and→ r.2).0).1 in
            let f : tx log i ≡ b = is→ (and→ r.2).1 in
            let n : a ≡ b → ⊥ = isnt→ (fails→ (and→ (and→ (and→ plain).0).0).0) in
            let z : a ≡ 0 → ⊥ = isnt→ (fails→ (and→ (and→ (and→ plain).0).0).1) in
            let j : judged_other log i ≡ true = →and (and→ (and→ r.2).0).0 (→fails (→isnt (λ (l : src log i ≡ tx log i). n (sym e ∙ l ∙ f)))) in
            rw e at (source_committed log clean i r.1 j (λ (l : src log i ≡ 0). z (sym e ∙ l)))

        reader : from_reader log a b ≡ true → committed log a ≡ true
        reader k = let r = some→ k in rw (is→ {m = tx log r.0} {n = a} (and→ (and→ r.2).0).1) at (and→ (and→ (and→ r.2).0).0).1

    pub version_enters : committed log b ≡ true
    unfolding plain_version from_writer from_source from_reader judged
    version_enters =
        ⊎_elim (λ k. ⊎_elim (λ l. let r = some→ (and→ l).1 in (next→ log well _ _ b (and→ r.2).1).wrote.commit) source (or→ k))
        (λ l. let r = some→ l in (next→ log well _ _ b (and→ r.2).1).wrote.commit) (or→ (and→ plain).1)
      where
        source : from_source log a b ≡ true → committed log b ≡ true
        source k = let r = some→ k in rw (is→ {m = tx log r.0} {n = b} (and→ r.2).1) at (and→ (and→ (and→ r.2).0).0).1
