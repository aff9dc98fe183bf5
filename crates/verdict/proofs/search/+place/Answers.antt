-- `place` meets its contract.
use mathlib.Core.Path.{◌≡◌, refl, sym, ◌∙◌}
use mathlib.Core.Bool.{true, false}
use mathlib.Core.List.{List, [], ◌∷◌, ◌++◌}
use Prim.Native.Nat.{ℕ}
use native.Mathlib.Omega.{arith}
use borrow.Author.Rules.{rules}
use lib.ListN.{length, get_or, set}
use Rattle.words.specs.Tests.{◌is◌, some}
use Rattle.words.proofs.Truth.{→is, →isnt}
use Rattle.bits.specs.Word.{marked}
use Rattle.verdict.specs.Limits.{most_searched}
use Rattle.verdict.specs.Inner.Placing.{may_follow, placed_of, OneMore, Searchable, Placed, Searched}
use Rattle.verdict.specs.declared.search.Run.{Run}
use Rattle.verdict.proofs.Loosely.{Tried, tried_more}
use Rattle.verdict.proofs.Placements.{behind_placed, on_list, tried_none, not_next, room, one_placed}
use Rattle.verdict.proofs.Placements.{search_found, search_missed, search_over, missed_all}
use Rattle.verdict.proofs.search.+place.Goals as goal

-- the one at place i, which may follow, stands behind those that are placed
longer : {log need writes ones asks last : List ℕ} {n i : ℕ} {run next : Run} (placed : List ℕ)
    → Searchable log need writes ones asks n
    → Placed log ones n run (placed_of run placed) last
    → length placed ≡ most_searched
    → marked run.free i ≡ true
    → may_follow need ones last i ≡ true
    → OneMore i run next
    → placed_of next (set placed run.at (get_or ones i 0)) ≡ placed_of run placed ++ get_or ones i 0 ∷ []
longer placed known so_far wide free follows one =
    behind_placed one _ _ _ (omega (arith, known.few, room known so_far _ free follows, wide)) refl

-- all have had their turn
over : {log need writes ones asks last : List ℕ} {n rest : ℕ} {run : Run} (placed : List ℕ)
    → Searchable log need writes ones asks n
    → Placed log ones n run (placed_of run placed) last
    → Tried log (placed_of run placed) ones run.free rest
    → some 64 (marked rest) ≡ false
    → Searched log (placed_of run placed) n (run.at is n) placed
over placed known so_far tried none = search_over known so_far tried none refl

pub loop-i-init : goal.loop-i-init
loop-i-init t c = let q = c.requires in (rw c.into_iter-i-iterator.ensures.into_iter_gives (tried_none q.0 q.1), q.2)

pub may_follow-requires : goal.may_follow-requires
may_follow-requires t c =
    let known = c.requires.0 in
    let mine = c.in-Some.ensures.steps in
    let listed = c.requires.1.within _ (c.loop-i.invariant.0.part _ mine.mark) in
    (omega (arith, known.few, listed), on_list known _ listed, known.asked _ listed)

pub with_placed-next-requires : goal.with_placed-next-requires
with_placed-next-requires t c =
    let q = c.requires in
    let mine = c.in-Some.ensures.steps in
    let free = c.loop-i.invariant.0.part _ mine.mark in
    omega (arith, q.0.few, room q.0 q.1 _ free (sym c.may_follow.ensures ∙ c.if-may_follow.true))

pub offset_bounds-ones-i : goal.offset_bounds-ones-i
offset_bounds-ones-i t c =
    let mine = c.in-Some.ensures.steps in
    omega (arith, mine.size)

pub bounds-ones-i : goal.bounds-ones-i
bounds-ones-i t c =
    let mine = c.in-Some.ensures.steps in
    omega (arith, c.requires.0.few, c.requires.1.within _ (c.loop-i.invariant.0.part _ mine.mark))

pub bounds-more-at : goal.bounds-more-at
bounds-more-at t c =
    let q = c.requires in
    let mine = c.in-Some.ensures.steps in
    let free = c.loop-i.invariant.0.part _ mine.mark in
    omega (arith, q.0.few, room q.0 q.1 _ free (sym c.may_follow.ensures ∙ c.if-may_follow.true))

pub note_last-requires : goal.note_last-requires
note_last-requires t c =
    let q = c.requires in
    let mine = c.in-Some.ensures.steps in
    let listed = q.1.within _ (c.loop-i.invariant.0.part _ mine.mark) in
    (q.1.so_far.size, omega (arith, q.0.few, listed), on_list q.0 _ listed)

pub place-requires : goal.place-requires
place-requires t c =
    let q = c.requires in
    let mine = c.in-Some.ensures.steps in
    let free = c.loop-i.invariant.0.part _ mine.mark in
    let follows = sym c.may_follow.ensures ∙ c.if-may_follow.true in
    let one = c.with_placed-next.ensures in
    let wide : length c.args.placed ≡ most_searched = search rules in (
      omega (arith, one.more, room q.0 q.1 _ free follows),
      (
        q.0,
        rw (longer c.args.placed q.0 q.1 wide free follows one) (one_placed q.0 q.1 _ free follows one c.note_last.ensures),
        c.loop-i.invariant.1,
      ),
    )

pub returns-then-place : goal.returns-then-place
returns-then-place t c =
    let q = c.requires in
    let mine = c.in-Some.ensures.steps in
    let tried = c.loop-i.invariant.0 in
    let free = tried.part _ mine.mark in
    let follows = sym c.may_follow.ensures ∙ c.if-may_follow.true in
    let wide : length c.args.placed ≡ most_searched = search rules in (
      search_found q.0 q.1 _ free follows tried mine.first
          (rw (longer c.args.placed q.0 q.1 wide free follows c.with_placed-next.ensures, c.if-place.true) at c.place.ensures.0),
      c.place.ensures.1,
    )

pub loop-i-preserved-else-place : goal.loop-i-preserved-else-place
loop-i-preserved-else-place t c =
    let q = c.requires in
    let mine = c.in-Some.ensures.steps in
    let tried = c.loop-i.invariant.0 in
    let free = tried.part _ mine.mark in
    let follows = sym c.may_follow.ensures ∙ c.if-may_follow.true in
    let wide : length c.args.placed ≡ most_searched = search rules in (
      rw mine.after
          (tried_more _ tried _
          (search_missed q.0 q.1 _ free follows (rw (longer c.args.placed q.0 q.1 wide free follows c.with_placed-next.ensures, c.if-place.false) at c.place.ensures.0))),
      c.place.ensures.1,
    )

pub loop-i-preserved : goal.loop-i-preserved
loop-i-preserved t c =
    let q = c.requires in
    let mine = c.in-Some.ensures.steps in
    let tried = c.loop-i.invariant.0 in
    let free = tried.part _ mine.mark in
    (rw mine.after (tried_more _ tried _ (not_next q.0 q.1 _ free (sym c.may_follow.ensures ∙ c.if-may_follow.false))), c.loop-i.invariant.1)

pub returns-then-at-n : goal.returns-then-at-n
returns-then-at-n t c =
    let q = c.requires in
    let none = c.in-None.ensures.steps in
    (missed_all (rw (→isnt c.if-at-n.true) at (over c.args.placed q.0 q.1 c.loop-i.invariant.0 none)), c.loop-i.invariant.1)

pub returns : goal.returns
returns t c =
    let q = c.requires in
    let none = c.in-None.ensures.steps in
    (rw (→is c.if-at-n.false) at (over c.args.placed q.0 q.1 c.loop-i.invariant.0 none), search rules)
