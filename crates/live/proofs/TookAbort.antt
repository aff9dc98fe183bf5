-- An abort is taken: its place is given back, and whoever can go then is forgotten.
use mathlib.Core.Path.{◌≡◌, refl, sym, ap, subst, ◌∙◌}
use mathlib.Core.Bool.{Bool, false}
use mathlib.Core.Logic.{inr, ⊎_elim}
use mathlib.Core.List.{List}
use Prim.Native.Nat.{ℕ, ◌-◌, ◌≤◌}
use native.Mathlib.Omega.{arith}
use lib.ListN.{set, length-set}
use Rattle.words.proofs.Truth.{not_both, to_false, provided_false}
use Rattle.verdict.specs.Log.{committed}
use Rattle.live.specs.Answers.{Taken}
use Rattle.live.specs.SoFar.{more}
use Rattle.live.specs.Kept.{places}
use Rattle.live.specs.declared.step.Live.{Live}
use Rattle.live.specs.Inner.Table.{Table, Sized, name_at, open_at}
use Rattle.live.specs.Inner.Held.{Place, Held, Keeping}
use Rattle.live.specs.Inner.Forgetting.{freed, GivesBack}
use Rattle.live.specs.Inner.Took.{range_number, table, Took}
use Rattle.live.proofs.Accepted.{good_uncommitted}
use Rattle.live.proofs.StepFacts.{open_ended}
use Rattle.live.proofs.SeenGrows.{committed_same}
use Rattle.live.proofs.ChainGrows.{chain_ends}
use Rattle.live.proofs.RowSteps.{row_abort}
use Rattle.live.proofs.Holding.{wide, Touched, held_inside}
use Rattle.live.proofs.HeldFreed.{GivenBack, freed_size, name_gone, name_stays, held_freed}
use Rattle.live.proofs.KeepingLaws.{keeping_abort}
use Rattle.live.proofs.Cells.{open_here, open_away}
use Rattle.live.proofs.Answering.{took_taken}
use Rattle.live.proofs.TookInside.{At, step_at}

module _ {log : List ℕ} {top count : ℕ} {b : Table} {k t x s p : ℕ} (h : Held log top count b) (a : At log b k t x s p) (place : Place places p) (abort : k ≡ 5) where
  no_commit : k ≡ 4 → ⊥
  no_commit e = omega arith

  -- the table while the place has its number still, and after it was given back
  abbrev Ended : Table
  Ended = table (set b.opened (p - 1) 0) b.rows b.marks b.edges

  abbrev pub Back : Table
  Back = table (set b.opened (p - 1) 0) (freed b.rows p) b.marks b.edges

  ended : Held (more log k t x s) top count Ended
  ended =
      held_inside h a.good a.grows a.whole p place a.named touched (row_abort h.accepted a.good a.grows a.row abort)
      (open_here b.opened p 0 h.sized.opened place.0 place.1 ∙ sym (provided_false _ _ (open_ended h.accepted a.good a.grows (inr abort)))) (λ (z : k ≡ 1). omega arith) no_commit refl (λ y l. refl) refl refl
    where
      touched : Touched b Ended p
      touched =
          record {
            sizes = record { opened = length-set b.opened (p - 1) 0 ∙ h.sized.opened; rows = h.sized.rows; marks = h.sized.marks; edges = h.sized.edges };
            names = λ q v. refl;
            statuses = λ q v d. refl;
            seeings = λ q v y l. refl;
            untils = λ q v d. refl;
            writings = λ q v d. refl;
            readings = λ q v d. refl;
            opens = λ q v d. open_away b.opened p 0 q place.0 v.0 d;
          }

  -- one that has not committed has no edges
  uncommitted : committed (more log k t x s) t ≡ false
  uncommitted = committed_same h.accepted a.good a.grows no_commit t ∙ good_uncommitted h.accepted a.good

  given_back : GivenBack Ended Back p
  given_back =
      record {
        sizes = record { opened = ended.sized.opened; rows = freed_size b.rows p h.sized.rows place.1; marks = h.sized.marks; edges = h.sized.edges };
        rows = refl;
        marks = refl;
        opens = λ q v d. refl;
        opened = open_here b.opened p 0 h.sized.opened place.0 place.1;
        edges = λ q r d e. refl;
        none = λ q r v w e. ended.edges q r v w ∙ to_false _ (λ c. let y = chain_ends (more log k t x s) _ _ c in ⊎_elim (λ z. not_both y.0 (is_t q z)) (λ z. not_both y.1 (is_t r z)) e);
      }
    where
      is_t : (q : ℕ) → q ≡ p → committed (more log k t x s) (name_at b.rows q) ≡ false
      is_t q e = subst (λ (v : ℕ). committed (more log k t x s) v ≡ false) (sym (ap (name_at b.rows) e ∙ a.named)) uncommitted

  pub held_abort : Held (more log k t x s) top count Back
  held_abort = held_freed ended place given_back

  pub kept_abort : {keeps : ℕ → Bool} → Keeping log b keeps → Keeping (more log k t x s) Back keeps
  kept_abort m = keeping_abort h m a.good a.grows held_abort.accepted held_abort.fine place a.named abort (name_gone ended place given_back) (name_stays ended place given_back)

-- WHAT IS TAKEN
pub abort_taken : {l : Live} {b b' : Table} {k t x s p r : ℕ} → Sized b → l.count ≤ places → Place l.count p → 1 ≤ t → open_at b.opened p ≡ t → k ≡ 5 → 0 ≡ range_number k t x s
    → {rows : List ℕ} → rows ≡ freed b.rows p → GivesBack l.count (table (set b.opened (p - 1) 0) rows b.marks b.edges) b' r → Took l b k t x s (record { live = record { standing = l.standing; top = l.top; count = r }; said = Taken }) b'
abort_taken {l} {b} {b'} {k} {t} {x} {s} {p} {r} size room place low here abort fine e d =
    let c : GivesBack l.count (table (set b.opened (p - 1) 0) (freed b.rows p) b.marks b.edges) b' r = subst (λ (v : List ℕ). GivesBack l.count (table (set b.opened (p - 1) 0) v b.marks b.edges) b' r) e d in
    took_taken l.top r (λ (z : k ≡ 4). omega arith) (c.sized (record { opened = length-set b.opened (p - 1) 0 ∙ size.opened; rows = freed_size b.rows p size.rows (omega (arith, place.1)); marks = size.marks; edges = size.edges }))
    (omega (arith, c.room)) (λ log y.
    let h = y.held in
    let u = wide h p place in
    let a = step_at p h low fine (λ (z : k ≡ 1). omega arith) u here in
    (a.numbered, c.tidy (more log k t x s) l.top y.keeps (held_abort h a u abort) (kept_abort h a u abort y.keeping)))
