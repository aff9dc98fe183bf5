-- `follow` meets its contract.
use mathlib.Core.Path.{◌≡◌, refl, ◌∙◌}
use Prim.Native.Nat.{◌≤◌, ◌<◌}
use native.Mathlib.Omega.{arith}
use lib.ListN.{length}
use Rattle.std.proofs.Common.{rules, tests}
use Rattle.std.proofs.lemmas.Grind.{get_or_default_zero}
use Rattle.graph.proofs.Turn.{at_end, at_vertex, at_rest, at_room, at_same, at_higher}
use Rattle.graph.proofs.onward.+follow.Goals as goal

pub returns-in_err-a : goal.returns-in_err-a
returns-in_err-a t c =
    let size : length c.args.left ≡ 2 = search rules in
    let end : length c.args.given.now ≤ c.args.i = search (rules, tests) in
    rw c.from_residual.ensures (at_end _ _ size _ _ c.requires.2 end, refl)

pub dropped-requires : goal.dropped-requires
dropped-requires t c =
    let size : length c.args.left ≡ 2 = search rules in
    let within : c.args.i < length c.args.given.now = search (rules, tests) in
    let entry = c.from-v.ensures ∙ c.in_ok-a.ensures.lookup.1 ∙ get_or_default_zero _ _ _ within in
    rw entry (let p = at_vertex _ _ size c.args.given.now c.args.i c.requires.2 within in (p.low, p.high))

pub follow-requires : goal.follow-requires
follow-requires t c =
    let size : length c.args.left ≡ 2 = search rules in
    let within : c.args.i < length c.args.given.now = search (rules, tests) in
    let entry = c.from-v.ensures ∙ c.in_ok-a.ensures.lookup.1 ∙ get_or_default_zero _ _ _ within in
    (omega arith, (c.requires.0, omega arith, rw (c.dropped.ensures, entry) (at_rest _ _ size c.args.given.now c.args.i c.requires.2 within)))

pub higher-requires : goal.higher-requires
higher-requires t c =
    let size : length c.args.left ≡ 2 = search rules in
    let within : c.args.i < length c.args.given.now = search (rules, tests) in
    let entry = c.from-v.ensures ∙ c.in_ok-a.ensures.lookup.1 ∙ get_or_default_zero _ _ _ within in
    (rw entry (at_vertex _ _ size c.args.given.now c.args.i c.requires.2 within).high, at_room _ _ size _ _ c.requires.2 within c.requires.0)

pub returns-in-None : goal.returns-in-None
returns-in-None t c =
    let size : length c.args.left ≡ 2 = search rules in
    let within : c.args.i < length c.args.given.now = search (rules, tests) in
    let entry = c.from-v.ensures ∙ c.in_ok-a.ensures.lookup.1 ∙ get_or_default_zero _ _ _ within in
    let none = rw (c.dropped.ensures, entry) at c.in-None.ensures in
    at_higher _ _ size _ _ c.requires.2 within none.0 _ _ _ none.1 _ (rw entry at c.higher.ensures)

pub returns-in-Some : goal.returns-in-Some
returns-in-Some t c =
    let size : length c.args.left ≡ 2 = search rules in
    let within : c.args.i < length c.args.given.now = search (rules, tests) in
    let entry = c.from-v.ensures ∙ c.in_ok-a.ensures.lookup.1 ∙ get_or_default_zero _ _ _ within in
    rw (c.in_ok-a.ensures.lookup.1 ∙ get_or_default_zero _ _ _ within) (at_same _ _ size _ _ c.requires.2 within _ _ _ (rw (c.dropped.ensures, entry) at c.in-Some.ensures))
