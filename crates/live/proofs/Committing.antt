-- What the rows say at a commit is what the log says: breach, the edges around the transaction, and whether a cycle is closed.
use mathlib.Core.Path.{◌≡◌, refl, sym, ap, ap₂, subst, ◌∙◌}
use mathlib.Core.Bool.{Bool, true, false}
use mathlib.Core.Logic.{◌⊎◌, inl, inr, ⊎_elim}
use mathlib.Core.List.{List}
use Prim.Native.Nat.{ℕ, ◌≤◌, ◌<◌}
use native.Mathlib.Omega.{arith}
use Rattle.words.specs.Tests.{◌is◌, ◌below◌, ◌upto◌, ◌and◌, ◌or◌, fails, some}
use Rattle.words.proofs.Truth.{decide, not_both, to_true, to_false, same_test, and→, →and, and_no_left, or→, →or_left, →or_right, or_false, fails→, →fails, not_fails→, →not_fails, below→, →below, not_below→, →not_below, upto→, →upto, some→, →some, some_same}
use Rattle.bits.specs.Word.{marked}
use Rattle.graph.specs.Matrix.{takes_part, in_row}
use Rattle.graph.specs.Reach.{Way, stay, onward, row_edge, Reaches}
use Rattle.verdict.specs.Limits.{objects}
use Rattle.verdict.specs.Log.{steps, committed, begin_step, commit_step}
use Rattle.live.specs.SoFar.{numbers}
use Rattle.live.specs.Breach.{breached}
use Rattle.live.specs.Closed.{closed}
use Rattle.live.specs.Inner.Accepted.{Whole, Accepted}
use Rattle.live.specs.Inner.Chain.{chain_edge}
use Rattle.live.specs.Inner.Table.{Table, name_at, status_at, sees_at, until_at, writes_at, reads_at}
use Rattle.live.specs.Kept.{places}
use Rattle.live.specs.Inner.Held.{Row, Place, Held, Keeping}
use Rattle.live.specs.Inner.Around.{writes_touched, reads_written, earlier, into_place, out_of_place, Finds}
use Rattle.live.proofs.Grows.{Grows}
use Rattle.live.proofs.Accepted.{Good, committed_range, commit_step_is, good_uncommitted, accepted_grows}
use Rattle.live.proofs.Breaches.{breached_commit}
use Rattle.live.proofs.SeenEdges.{begin_no_commit}
use Rattle.live.proofs.ChainGrows.{into_on, out_on, chain_ends, chain_into, chain_out}
use Rattle.live.proofs.Begins.{passed_begun}
use Rattle.live.proofs.Shut.{begun_range}
use Rattle.live.proofs.Clashes.{clashes_seen}
use Rattle.live.proofs.Cycles.{Round, →closes, closes→}
use Rattle.live.proofs.Forgetting.{forgotten_free}
use Rattle.live.proofs.ForgetGrows.{chain_kept, out_overlaps}
use Rattle.live.proofs.Holding.{wide, used_low, done_is, AtCommit}

some_or : (n : ℕ) (p q : ℕ → Bool) → (some n p or some n q) ≡ some n (λ x. p x or q x)
some_or n p q =
    same_test (λ h. ⊎_elim (λ a. let r = some→ a in →some _ r.0 r.1 (→or_left _ r.2)) (λ a. let r = some→ a in →some _ r.0 r.1 (→or_right _ r.2)) (or→ h))
    (λ h. let r = some→ h in ⊎_elim (λ a. →or_left _ (→some p r.0 r.1 a)) (λ a. →or_right _ (→some q r.0 r.1 a)) (or→ r.2))

some_and : (n : ℕ) (q : ℕ → Bool) (e : Bool) → (some n q and e) ≡ some n (λ x. q x and e)
some_and n q e =
    same_test (λ h. let a = and→ h in let r = some→ a.0 in →some _ r.0 r.1 (→and r.2 a.1))
    (λ h. let r = some→ h in let a = and→ r.2 in →and (→some q r.0 r.1 a.0) a.1)

module _ {log : List ℕ} {top count : ℕ} {b : Table} (h : Held log top count b) where
  -- EDGES BETWEEN PLACES, read off their rows; p is in use
  module _ (p : ℕ) (u : Place places p) (used : 1 ≤ name_at b.rows p) (q : ℕ) (v : Place places q) where
    abbrev T : ℕ
    T = name_at b.rows p

    abbrev Q : ℕ
    Q = name_at b.rows q

    -- whether q committed before p began
    module _ (done : committed log Q ≡ true) where
      used_q : 1 ≤ Q
      used_q = (committed_range h.accepted Q done).0

      until_begins : (T upto until_at b.rows q) ≡ (begin_step log T below commit_step log Q)
      until_begins =
          let l : commit_step log Q < steps log = (commit_step_is h.accepted Q done).0 in
          sym (h.until q v done T (begun_range h.accepted T (h.row p u used).began).0) ∙ passed_begun h.accepted T (h.row p u used).began (commit_step log Q) (omega arith)

      later_is : fails (earlier b.rows p q) ≡ (begin_step log T below commit_step log Q)
      unfolding earlier
      later_is = same_test (λ e. →upto (not_below→ (fails→ e))) (λ e. →fails (→not_below (upto→ e))) ∙ until_begins

      earlier_is : earlier b.rows p q ≡ (commit_step log Q below begin_step log T)
      earlier_is =
          same_test (λ e. →below (let z : commit_step log Q ≤ begin_step log T = not_below→ (sym later_is ∙ →not_fails e) in omega (arith, apart)))
          (λ e. not_fails→ (later_is ∙ →not_below (let z : commit_step log Q < begin_step log T = below→ e in omega arith)))
        where
          apart : commit_step log Q ≡ begin_step log T → ⊥
          apart = begin_no_commit h.accepted T Q (h.row p u used).began done

    into_is : into_place b.rows b.marks p q ≡ (committed log Q and some objects (into_on log Q T))
    unfolding into_place writes_touched reads_written into_on
    into_is = ap (λ (d : Bool). d and (writes_touched b.marks p q or (reads_written b.marks p q and earlier b.rows p q))) (done_is h q v) ∙ go (decide (committed log Q))
      where
        go : (committed log Q ≡ true) ⊎ (committed log Q ≡ false) → (committed log Q and (writes_touched b.marks p q or (reads_written b.marks p q and earlier b.rows p q))) ≡ (committed log Q and some objects (into_on log Q T))
        go (inl d) =
            ap (λ (e : Bool). committed log Q and e) (ap (λ (e : Bool). writes_touched b.marks p q or (reads_written b.marks p q and e)) (earlier_is d)
            ∙ ap (λ (e : Bool). writes_touched b.marks p q or e) (some_and 64 _ _) ∙ some_or 64 _ _
            ∙ some_same 64 _ _ (λ x l. rw ((h.row p u used).writing x l, (h.row p u used).reading x l, (h.row q v (used_q d)).writing x l, (h.row q v (used_q d)).reading x l) refl))
        go (inr d) = and_no_left _ d ∙ sym (and_no_left _ d)

    out_is : out_of_place b.rows b.marks p q ≡ (committed log Q and some objects (out_on log T Q))
    unfolding out_of_place reads_written out_on
    out_is = ap (λ (d : Bool). d and (reads_written b.marks p q and fails (earlier b.rows p q))) (done_is h q v) ∙ go (decide (committed log Q))
      where
        go : (committed log Q ≡ true) ⊎ (committed log Q ≡ false) → (committed log Q and (reads_written b.marks p q and fails (earlier b.rows p q))) ≡ (committed log Q and some objects (out_on log T Q))
        go (inl d) =
            ap (λ (e : Bool). committed log Q and e) (ap (λ (e : Bool). reads_written b.marks p q and e) (later_is d) ∙ some_and 64 _ _ ∙ some_same 64 _ _ (λ x l. rw ((h.row p u used).reading x l, (h.row q v (used_q d)).writing x l) refl))
        go (inr d) = and_no_left _ d ∙ sym (and_no_left _ d)

  -- an edge in the rows is one between the transactions of two places
  pub edge_names : (a c : ℕ) → row_edge b.edges a c ≡ true → Place places a × Place places c × (chain_edge log (name_at b.rows a) (name_at b.rows c) ≡ true)
  unfolding row_edge in_row
  edge_names a c e = (first, second, sym (h.edges a c first second) ∙ e)
    where
      low : ((1 upto c and c upto 128 and 1 upto a) ≡ true) × ((a upto 128) ≡ true)
      low = and→ (and→ e).0

      first : Place places a
      first = (upto→ (and→ low.0).1, upto→ low.1)

      second : Place places c
      second = (upto→ (and→ (and→ low.0).0).0, upto→ (and→ (and→ low.0).0).1)

  edge_places : (a c : ℕ) → Place places a → Place places c → chain_edge log (name_at b.rows a) (name_at b.rows c) ≡ true → row_edge b.edges a c ≡ true
  unfolding row_edge
  edge_places a c u v e = h.edges a c u v ∙ e

  -- A COMMIT at place p
  module _ {k t x s : ℕ} {log' : List ℕ} (good : Good numbers log k t x) (g : Grows log k t x s log') (whole : Whole log') (commit : k ≡ 4) (p : ℕ) (u : Place places p) (is_t : name_at b.rows p ≡ t) where
    used : 1 ≤ name_at b.rows p
    used = subst (λ (z : ℕ). 1 ≤ z) (sym is_t) good.in_range.0

    row : Row log t (status_at b.rows p) (sees_at b.rows p) (writes_at b.marks p) (reads_at b.marks p)
    row = subst (λ (z : ℕ). Row log z (status_at b.rows p) (sees_at b.rows p) (writes_at b.marks p) (reads_at b.marks p)) is_t (h.row p u used)

    -- breach: a wrong read, or of something written the last writer of now is not the one seen
    pub breach_is : breached numbers log' ≡ (status_at b.rows p is 1 or some 64 (λ y. marked (writes_at b.marks p) y and fails (sees_at b.rows 0 y is sees_at b.rows p y)))
    breach_is =
        breached_commit h.accepted good g whole commit ∙ or_false h.fine
        ∙ ap₂ (λ (m n : Bool). m or n) (sym (row.wrong (good.alive (λ (q : k ≡ 1). omega arith))))
        (clashes_seen h.accepted t row.began ∙ some_same 64 _ _ (λ y l. rw (row.writing y l, h.last y l, row.seeing y l) refl))

    -- the edges around it
    module _ (before after : List ℕ) (finds_before : Finds (into_place b.rows b.marks p) count before) (finds_after : Finds (out_of_place b.rows b.marks p) count after) where
      pub at_commit : AtCommit log (name_at b.rows) t (takes_part 128 before) (takes_part 128 after)
      at_commit =
          record {
            into_it = λ q v. found q v _ _ before finds_before (subst (λ (z : ℕ). into_place b.rows b.marks p q ≡ (committed log (name_at b.rows q) and some objects (into_on log (name_at b.rows q) z))) is_t (into_is p u used q v));
            out_of = λ q v. found q v _ _ after finds_after (subst (λ (z : ℕ). out_of_place b.rows b.marks p q ≡ (committed log (name_at b.rows q) and some objects (out_on log z (name_at b.rows q)))) is_t (out_is p u used q v));
            inside = λ q e. ⊎_elim (λ z. place q _ (sym (finds_before q) ∙ z)) (λ z. place q _ (sym (finds_after q) ∙ z)) e;
          }
        where
          place : (q : ℕ) (passes : Bool) → (1 upto q and q upto count and passes) ≡ true → Place places q
          place q passes e = let a = and→ (and→ e).0 in wide h q (upto→ a.0, upto→ a.1)

          -- behind the first `count` places nobody has committed
          found : (q : ℕ) → Place places q → (passes : ℕ → Bool) (o : Bool) (those : List ℕ) → Finds passes count those → passes q ≡ (committed log (name_at b.rows q) and o) → takes_part 128 those q ≡ (committed log (name_at b.rows q) and o)
          found q v passes o those finds e =
              finds q ∙ same_test (λ z. sym e ∙ (and→ z).1) (λ z. let r = used_low h q v (committed_range h.accepted _ (and→ z).0).0 in →and (→and (→upto r.0) (→upto r.1)) (e ∙ z))

      -- a cycle is closed exactly where what comes after it reaches what comes before it
      module _ (fine : breached numbers log' ≡ false) {keeps : ℕ → Bool} (m : Keeping log b keeps) where
        ok' : Accepted numbers log'
        ok' = accepted_grows h.accepted good g whole

        other : (q : ℕ) → committed log (name_at b.rows q) ≡ true → t ≡ name_at b.rows q → ⊥
        other q c e = not_both (rw e c) (good_uncommitted h.accepted good)

        edge_before : (q : ℕ) → takes_part 128 before q ≡ true → chain_edge log' (name_at b.rows q) t ≡ true
        edge_before q e =
            let v = at_commit.inside q (inl e) in
            let w = sym (at_commit.into_it q v) ∙ e in
            chain_into h.accepted good g commit (name_at b.rows q) (other q (and→ w).0) ∙ w

        edge_after : (q : ℕ) → takes_part 128 after q ≡ true → chain_edge log' t (name_at b.rows q) ≡ true
        edge_after q e =
            let v = at_commit.inside q (inr e) in
            let w = sym (at_commit.out_of q v) ∙ e in
            chain_out h.accepted good g commit (name_at b.rows q) (other q (and→ w).0) ∙ w

        -- a way between places is one between their transactions
        way_names : {a c : ℕ} → Way (row_edge b.edges) a c → Way (chain_edge log) (name_at b.rows a) (name_at b.rows c)
        way_names stay = stay
        way_names (onward {a} {b = d} e w) = onward (edge_names a d e).2 (way_names w)

        -- .. and back, from the place of a kept one: the edges lead from there to kept ones only
        way_places : {a c : ℕ} → Way (chain_edge log) a c → keeps a ≡ true → (q : ℕ) → Place places q → name_at b.rows q ≡ a → (r : ℕ) × Place places r × (name_at b.rows r ≡ c) × Way (row_edge b.edges) q r
        way_places stay n q v e = (q, v, e, stay)
        way_places (onward {a} {b = d} f w) n q v e =
            let kept = chain_kept h.accepted h.fine m.forgot a d n f in
            let y = m.placed d (→or_right _ kept) in
            let r = way_places w kept y.0 y.1 y.2 in
            (r.0, r.1, r.2, onward (edge_places q y.0 v y.1 (rw (e, y.2) f)) r.3)

        -- one to which an edge leads from t is kept: t overlapped it
        kept_after : (v : ℕ) → (t ≡ v → ⊥) → chain_edge log' t v ≡ true → keeps v ≡ true
        kept_after v d e =
            let r = out_overlaps h.accepted good g ok' h.fine fine commit v d e in
            to_true _ (λ n. not_both r.1 (forgotten_free m.forgot v r.0 n))

        comes_after : (q : ℕ) → Place places q → (t ≡ name_at b.rows q → ⊥) → chain_edge log' t (name_at b.rows q) ≡ true → takes_part 128 after q ≡ true
        comes_after q v d e = at_commit.out_of q v ∙ sym (chain_out h.accepted good g commit (name_at b.rows q) d) ∙ e

        comes_before : (q : ℕ) → Place places q → (t ≡ name_at b.rows q → ⊥) → chain_edge log' (name_at b.rows q) t ≡ true → takes_part 128 before q ≡ true
        comes_before q v d e = at_commit.into_it q v ∙ sym (chain_into h.accepted good g commit (name_at b.rows q) d) ∙ e

        no_round : ((a c : ℕ) → takes_part 128 after a ≡ true → takes_part 128 before c ≡ true → Way (row_edge b.edges) a c → ⊥) → Round h.accepted good g ok' h.fine h.acyclic fine → ⊥
        no_round none r =
            let e = chain_ends log' t r.next r.out in
            let f = chain_ends log' r.last t r.into in
            let n = kept_after r.next e.2 r.out in
            let y = m.placed r.next (→or_right _ n) in
            let w = way_places r.between n y.0 y.1 y.2 in
            let d : t ≡ name_at b.rows w.0 → ⊥ = λ z. f.2 (sym (z ∙ w.2)) in
            none y.0 w.0 (comes_after y.0 y.1 (λ z. e.2 (z ∙ y.2)) (rw y.2 r.out)) (comes_before w.0 w.1 d (rw w.2 r.into)) w.3

        pub closed_is : (r : Bool) → Reaches b.edges after before r → closed numbers log' ≡ r
        closed_is true c =
            let f = c.found refl in
            →closes h.accepted good g ok' h.fine h.acyclic fine (record { next = name_at b.rows f.0; last = name_at b.rows f.1; out = edge_after f.0 f.2; between = way_names f.4; into = edge_before f.1 f.3 })
        closed_is false c = to_false _ (λ z. no_round (c.none refl) (closes→ h.accepted good g ok' h.fine h.acyclic fine z))
