-- A commit is taken: breach, a cycle closed, or one more that committed.
use mathlib.Core.Path.{◌≡◌, refl, sym, ap, ◌∙◌}
use mathlib.Core.Bool.{Bool, true, false}
use mathlib.Core.Logic.{inl}
use mathlib.Core.List.{List}
use Prim.Native.Nat.{ℕ, ◌+◌, ◌-◌, ◌≤◌}
use native.Mathlib.Omega.{arith}
use lib.ListN.{length, length-set}
use Rattle.words.specs.Tests.{◌is◌, ◌upto◌, ◌and◌, ◌or◌, provided◌then◌else◌}
use Rattle.words.proofs.Truth.{same_test, and→, →and, provided_false}
use Rattle.graph.specs.Matrix.{takes_part, in_row}
use Rattle.graph.specs.Reach.{Reaches}
use Rattle.live.specs.Answers.{Yes, Breach, CycleClosed, stands, answer_number}
use Rattle.live.specs.SoFar.{numbers, more, is_open}
use Rattle.live.specs.Breach.{breached}
use Rattle.live.specs.Closed.{closed}
use Rattle.live.specs.Kept.{places, full}
use Rattle.live.specs.declared.step.Live.{Live}
use Rattle.live.specs.Inner.Accepted.{Accepted}
use Rattle.live.specs.Inner.Table.{Table, Sized, name_at, status_at, sees_at, until_at, open_at, writes_at, reads_at}
use Rattle.live.specs.Inner.Held.{Row, Place, Held, Keeping, Tidy}
use Rattle.live.specs.Inner.Forgetting.{GivesBack}
use Rattle.live.specs.Inner.Around.{into_place, out_of_place, Finds}
use Rattle.live.specs.Inner.Took.{range_number, rows_breach, Settles, Took}
use Rattle.live.proofs.Accepted.{accepted_grows}
use Rattle.live.proofs.StepFacts.{open_ended}
use Rattle.live.proofs.RowSteps.{row_as, row_commit}
use Rattle.live.proofs.Holding.{wide, Touched, held_commit}
use Rattle.live.proofs.KeepingLaws.{keeping_commit}
use Rattle.live.proofs.Committing.{breach_is, at_commit, closed_is}
use Rattle.live.proofs.Cells.{open_here, open_away}
use Rattle.live.proofs.Answering.{says_breach, says_closed, says_yes, took_last, took_yes}
use Rattle.live.proofs.TookInside.{At, step_at}

pub settled_sized : {b b' : Table} {before after : List ℕ} {p t top n : ℕ} → Sized b → Settles b before after p t top n b' → b'.marks ≡ b.marks → Sized b'
settled_sized {b} {p = p} size c m =
    record {
      opened = ap length c.closes ∙ length-set b.opened (p - 1) 0 ∙ size.opened;
      rows = c.size ∙ size.rows;
      marks = ap length m ∙ size.marks;
      edges = c.joins.size ∙ size.edges;
    }

module _ {log : List ℕ} {top count : ℕ} {b : Table} {k t x s p : ℕ} (h : Held log top count b) (a : At log b k t x s p) (place : Place places p) (commit : k ≡ 4) where
  pub later_accepted : Accepted numbers (more log k t x s)
  later_accepted = accepted_grows h.accepted a.good a.grows a.whole

  pub breach_there : breached numbers (more log k t x s) ≡ rows_breach b.rows b.marks p
  unfolding rows_breach
  breach_there = breach_is h a.good a.grows a.whole commit p place a.named

  module _ (before after : List ℕ) (finds_before : Finds (into_place b.rows b.marks p) count before) (finds_after : Finds (out_of_place b.rows b.marks p) count after)
      (fine : breached numbers (more log k t x s) ≡ false) where
    pub closed_there : {keeps : ℕ → Bool} → Keeping log b keeps → (r : Bool) → Reaches b.edges after before r → closed numbers (more log k t x s) ≡ r
    closed_there = closed_is h a.good a.grows a.whole commit p place a.named before after finds_before finds_after fine

    module _ {b' : Table} (c : Settles b before after p t top count b') (same_marks : b'.marks ≡ b.marks) (open_edges : closed numbers (more log k t x s) ≡ false) where
      high : p ≤ 128
      high = place.1

      touched : Touched b b' p
      unfolding name_at status_at sees_at until_at
      touched =
          record {
            sizes = settled_sized h.sized c same_marks;
            names = λ q v. c.others q 0 v.0 (omega arith) (λ _ (z : ◌≡◌ {A = ℕ} 0 1). omega arith) (λ _ (z : ◌≡◌ {A = ℕ} 0 66). omega arith);
            statuses = λ q v d. c.others q 1 v.0 (omega arith) (λ z _. d z) (λ z _. d z);
            seeings = λ q v y l. c.others q (2 + y) v.0 (omega arith) (λ _ (z : 2 + y ≡ 1). omega arith) (λ _ (z : 2 + y ≡ 66). omega arith);
            untils = λ q v d. c.others q 66 v.0 (omega arith) (λ z _. d z) (λ z _. d z);
            writings = λ q v d. ap (λ (m : List ℕ). writes_at m q) same_marks;
            readings = λ q v d. ap (λ (m : List ℕ). reads_at m q) same_marks;
            opens = λ q v d. ap (λ (o : List ℕ). open_at o q) c.closes ∙ open_away b.opened p 0 q place.0 v.0 d;
          }

      row : Row (more log k t x s) t (status_at b'.rows p) (sees_at b'.rows p) (writes_at b'.marks p) (reads_at b'.marks p)
      row =
          row_as (row_commit h.accepted a.good a.grows a.row commit) refl c.status (touched.seeings p place) (ap (λ (m : List ℕ). writes_at m p) same_marks) (ap (λ (m : List ℕ). reads_at m p) same_marks)

      opened : open_at b'.opened p ≡ (provided is_open (more log k t x s) t then t else 0)
      opened = ap (λ (o : List ℕ). open_at o p) c.closes ∙ open_here b.opened p 0 h.sized.opened place.0 high ∙ sym (provided_false _ _ (open_ended h.accepted a.good a.grows (inl commit)))

      -- those after it are among the places in use
      after_there : (r : ℕ) → (1 upto r and r upto count and takes_part 128 after r) ≡ takes_part 128 after r
      after_there r = same_test (λ z. (and→ z).1) (λ z. →and (and→ (sym (finds_after r) ∙ z)).0 z)

      edges : (q r : ℕ) → in_row b'.edges r q ≡ (in_row b.edges r q or (r is p and takes_part 128 before q) or (q is p and takes_part 128 after r))
      edges q r = c.joins.each r q ∙ ap (λ (z : Bool). in_row b.edges r q or (r is p and takes_part 128 before q) or (q is p and z)) (after_there r)

      pub held_settled : Held (more log k t x s) top count b'
      held_settled =
          held_commit h a.good a.grows a.whole p place a.named touched row opened (λ (z : k ≡ 1). omega arith) commit
          (at_commit h a.good a.grows a.whole commit p place a.named before after finds_before finds_after) edges fine open_edges c.until c.bar
          (λ y l. c.last y l ∙ ap (λ (z : Bool). provided z then t else sees_at b.rows 0 y) (a.row.writing y l))

      pub kept_settled : {keeps : ℕ → Bool} → Keeping log b keeps → Keeping (more log k t x s) b' (λ v. keeps v or t is v)
      kept_settled m = keeping_commit h m a.good a.grows held_settled.accepted fine place a.named commit touched.names

no_begin : {k : ℕ} → k ≡ 4 → k ≡ 1 → ⊥
no_begin e f = omega arith

-- the three answers
module _ (l : Live) {b : Table} {k t : ℕ} (x s : ℕ) {p : ℕ} (size : Sized b) (room : l.count ≤ places) (low : 1 ≤ t) (fine : 0 ≡ range_number k t x s) (commit : k ≡ 4) (place : Place l.count p) (here : open_at b.opened p ≡ t) where
  -- the step, where the table holds a log
  there : {log : List ℕ} → Tidy log l.top l.count b → At log b k t x s p
  there y = step_at p y.held low fine (no_begin commit) (wide y.held p place) here

  breach_told : {log : List ℕ} (y : Tidy log l.top l.count b) {r : Bool} → r ≡ rows_breach b.rows b.marks p → breached numbers (more log k t x s) ≡ r
  breach_told y e = breach_there y.held (there y) (wide y.held p place) commit ∙ sym e

  later : {log : List ℕ} → Tidy log l.top l.count b → Accepted numbers (more log k t x s)
  later y = later_accepted y.held (there y) (wide y.held p place) commit

  pub commit_breach : true ≡ rows_breach b.rows b.marks p → Took l b k t x s (record { live = record { standing = 66; top = l.top; count = l.count }; said = Breach }) b
  unfolding stands answer_number
  commit_breach e = took_last Breach 66 refl refl size room (λ log y. says_breach numbers (full numbers places) log k t x s (there y).numbered commit (later y) (breach_told y e))

  module _ (no_breach : false ≡ rows_breach b.rows b.marks p) (before after : List ℕ) (finds_before : Finds (into_place b.rows b.marks p) l.count before) (finds_after : Finds (out_of_place b.rows b.marks p) l.count after) where
    closed_told : {log : List ℕ} (y : Tidy log l.top l.count b) (r : Bool) → Reaches b.edges after before r → closed numbers (more log k t x s) ≡ r
    closed_told y r c = closed_there y.held (there y) (wide y.held p place) commit before after finds_before finds_after (breach_told y no_breach) y.keeping r c

    pub commit_closed : Reaches b.edges after before true → Took l b k t x s (record { live = record { standing = 67; top = l.top; count = l.count }; said = CycleClosed }) b
    unfolding stands answer_number
    commit_closed r = took_last CycleClosed 67 refl refl size room (λ log y. says_closed numbers (full numbers places) log k t x s (there y).numbered commit (later y) (breach_told y no_breach) (closed_told y true r))

    pub commit_yes : {b' b'' : Table} {count : ℕ} → Reaches b.edges after before false → Settles b before after p t l.top l.count b' → b'.marks ≡ b.marks → GivesBack l.count b' b'' count
        → Took l b k t x s (record { live = record { standing = l.standing; top = l.top; count = count }; said = Yes }) b''
    commit_yes {count = count} r c m d = took_yes count (d.sized (settled_sized size c m)) (omega (arith, d.room)) (λ log y.
        let h = y.held in
        let a = there y in
        let u = wide h p place in
        let f = breach_told y no_breach in
        let n = closed_told y false r in (
          a.numbered,
          says_yes numbers (full numbers places) log k t x s a.numbered commit (later y) f n,
          d.tidy (more log k t x s) l.top _ (held_settled h a u commit before after finds_before finds_after f c m n) (kept_settled h a u commit before after finds_before finds_after f c m n y.keeping),
        ))
