-- Demand 3, over the contracts of `version` and `next`: whatever results they allow, the listing has every order that explains the log,
-- once each, in dictionary order, and no other. It is empty exactly when a read is unclean or the version verdict shows a cycle.
-- Asking is never turned away, and it comes to an end.
use Rattle.std.specs.Prelude.{Result, Ok}
use mathlib.Core.Path.{◌≡◌, refl, sym, ap, subst, ◌∙◌}
use mathlib.Core.Bool.{Bool, true}
use mathlib.Core.Logic.{◌⊎◌, inl, inr, ⊎_elim, ◌↔◌}
use mathlib.Core.List.{List, [], ◌∷◌}
use Prim.Native.Nat.{ℕ, ◌<◌}
use native.Mathlib.Omega.{arith}
use lib.ListN.{length, length-replicate}
use Rattle.words.specs.Lists.{zeros}
use Rattle.words.specs.First.{dictionary, First, Never, later}
use Rattle.words.specs.Listed.{here, Listed}
use Rattle.graph.specs.Order.{once_each, is_order}
use Rattle.graph.specs.Cycle.{is_cycle}
use Rattle.graph.specs.Shows as shows
use Rattle.verdict.specs.Limits.{transactions, work_bytes, witness_buffer}
use Rattle.verdict.specs.Refusal.{◌else_try◌, order_refusal, log_refusal}
use Rattle.verdict.specs.Clean.{is_clean}
use Rattle.verdict.specs.Reason.{Entry}
use Rattle.verdict.specs.Outcome.{Outcome, order, cycle, none, unclean, said, shows_order, shows_cycle}
use Rattle.verdict.specs.Version.{version_edge, Version, version, version_unclean}
use Rattle.verdict.specs.Replay.{serial, explains_loosely, explains}
use Rattle.verdict.specs.Next.{Next, next, next_none, up_to_zero, list_refusal}
use Rattle.verdict.specs.Witness.{read_off, handed}
use Rattle.verdict.specs.Witness as lent
use Rattle.verdict.specs.Call.{turned_away, answered, leaves_witness, WitnessCall, NextCall}
use Rattle.verdict.specs.Listing.{VersionOrder, version_order, NextOrder, next_order, Asked, ends, brings, Listing, from_first, empty_cycle, empty_unclean, Brought, by_version, by_next}
use Rattle.verdict.specs.Answers.{Answer, Refusal, Checked, Passed}
use Rattle.verdict.specs.declared.answers.Fault.{Fault}
use Rattle.verdict.specs.declared.answers.Answer.TheVariants.{Order, None}
use Rattle.words.proofs.Truth.{not_both, to_false, and→, →and, implies→, every→}
use Rattle.words.proofs.Dictionary.{dictionary_same, dictionary_trans, first_one}
use Rattle.words.proofs.Search.{listed_first, listed_none, listed_later, →listed, →listed_none, listed_one}
use Rattle.graph.proofs.Exclude.{no_cycle}
use Rattle.verdict.proofs.WellFormed.{refused≢passed, else_try→, Well, well_formed}
use Rattle.verdict.proofs.Cleanly.{cleanness_clean, clean_cleanness, clean≢unclean}
use Rattle.verdict.proofs.Frame.{work_passed, witness_passed, order_passed, both_passed}
use Rattle.verdict.proofs.Center.{centre}
use Rattle.verdict.proofs.Computed.{version_ends, orders, orders_listed, explains_serial}
use Rattle.verdict.proofs.Some.{version_some}
use Rattle.verdict.proofs.Held.{call_order, call_none, call_cycle, call_unclean, read_back, handed_length, handed_passed, taken_off}

pub explains→ : (most : ℕ) (log w : List ℕ) → explains most log w ≡ true → (is_clean log ≡ true) × (serial most log w ≡ true)
unfolding explains explains_loosely
explains→ most log w h = and→ (and→ (and→ h).0).0

-- WHAT THE VERSION VERDICT SAYS OF THE EXPLAINING ORDERS
module _ {most : ℕ} (log : List ℕ) (well : Well most log) where
  -- its order is the first of them
  pub version_first : (w : List ℕ) → Version most log (order w) → First dictionary (explains most log) w
  unfolding serial is_order
  version_first w (version c (shows_order (shows.shows_order n f))) =
      let cl : is_clean log ≡ true = cleanness_clean log c in
      let r = and→ f.one in
      record {
        one = (centre log well cl w r.0).1 r.1;
        none_earlier = λ v h. let s = (explains→ most log v h).1 in f.none_earlier v (→and s ((centre log well cl v s).0 h));
      }

  -- an unclean read, and a cycle, leave none
  pub unclean_never : (f : Fault) → Version most log (unclean f) → Never (explains most log)
  unclean_never f (version _ x) v = elim x [ ]
  unclean_never f (version_unclean u) v = to_false _ (λ h. clean≢unclean (clean_cleanness log (explains→ most log v h).0) u)

  pub cycle_never : (c : List Entry) → Version most log (cycle c) → Never (explains most log)
  unfolding serial once_each
  cycle_never c (version cl (shows_cycle {c = ring} (shows.shows_cycle f))) v = to_false _ (λ h. not_both f.one (none_here v h ring))
    where
      none_here : (v : List ℕ) → explains most log v ≡ true → Never (is_cycle (version_edge log))
      none_here v h =
          let s = explains→ most log v h in
          no_cycle (version_edge log) v (and→ (and→ s.1).0).0 ((centre log well s.0 v s.1).0 h)
          (λ a b e. let k = version_ends log well s.0 a b e in implies→ (every→ _ (and→ s.1).1 a k.0) k.1)

-- it is never none
not_none : {most : ℕ} {log : List ℕ} {a : Outcome} → Version most log a → a ≡ none → ⊥
not_none (version c (shows_order s)) e = let z : ◌≡◌ {A = ℕ} 0 1 = cc in omega arith
not_none (version c (shows_cycle s)) e = let z : ◌≡◌ {A = ℕ} 0 1 = cc in omega arith
not_none (version_unclean u) e = let z : ◌≡◌ {A = ℕ} 0 1 = cc in omega arith

-- ASKING "NEXT" AGAIN AND AGAIN
-- what comes later than a later one comes later
later_again : (p : List ℕ → Bool) (v w : List ℕ) (ws : List (List ℕ)) → dictionary v w ≡ true → Listed (later p w) ws → Listed (later (later p v) w) ws
unfolding later
later_again p v w ws d l =
    record {
      only = λ u a. let r = and→ (l.only u a) in →and (→and r.0 (dictionary_trans v w u d r.1)) r.1;
      every = λ u h. l.every u (→and (and→ (and→ h).0).0 (and→ h).1);
      rises = l.rises;
    }

again_later : (p : List ℕ → Bool) (v w : List ℕ) (ws : List (List ℕ)) → dictionary v w ≡ true → Listed (later (later p v) w) ws → Listed (later p w) ws
unfolding later
again_later p v w ws d l =
    record {
      only = λ u a. let r = and→ (l.only u a) in →and (and→ r.0).0 r.1;
      every = λ u h. l.every u (→and (→and (and→ h).0 (dictionary_trans v w u d (and→ h).1)) (and→ h).1);
      rises = l.rises;
    }

-- the order that "next" brings is the first later one
next_first : {most : ℕ} {log v w : List ℕ} → Next most log v (order w) → First dictionary (later (explains most log) v) w
next_first (next f) = f

none_later : {most : ℕ} {log v : List ℕ} → Next most log v none → Never (later (explains most log) v)
none_later (next_none n) = n

-- what turns a call of `next` away, when its buffers have the right length
abbrev pub order_turned : List ℕ → List ℕ → Checked
order_turned log handed_in = order_refusal handed_in else_try log_refusal log else_try list_refusal transactions log handed_in

-- AN EXPLAINING ORDER OF A WELL-FORMED LOG
record Explaining (log w : List ℕ) : Type 0 where
  well : log_refusal log ≡ Passed
  right : explains transactions log w ≡ true

module _ {log w : List ℕ} (x : Explaining log w) where
  -- handed in, "next" reads it back, and does not turn it away
  front : up_to_zero (handed w) ≡ w
  front = read_back log x.well w x.right

  not_turned : order_turned log (handed w) ≡ Passed
  not_turned = both_passed (order_passed (handed w) (handed_length log x.well w x.right)) (both_passed x.well (handed_passed log x.well w x.right))

module _ (log : List ℕ) where
  -- the order of `version` is the first that explains
  version_order_first : {w : List ℕ} → VersionOrder log w → First dictionary (explains transactions log) w
  version_order_first (version_order c) =
      let o = call_order (log_refusal log) c in
      subst (First dictionary (explains transactions log)) (sym o.taken_out) (version_first log (well_formed log o.well) o.w o.right)

  version_order_explains : {w : List ℕ} → VersionOrder log w → Explaining log w
  version_order_explains (version_order c) = record { well = (call_order (log_refusal log) c).well; right = (version_order_first (version_order c)).one }

  -- that of `next` is the first that explains and comes later
  called_first : (handed_in : List ℕ) {work witness work' witness' : List ℕ} {n : ℕ} → NextCall log handed_in work witness (Ok (Order n)) work' witness'
      → First dictionary (later (explains transactions log) (up_to_zero handed_in)) (read_off n witness')
  called_first handed_in c =
      let o = call_order (order_turned log handed_in) c in
      subst (First dictionary (later (explains transactions log) (up_to_zero handed_in))) (sym o.taken_out) (next_first o.right)

  next_order_first : {v w : List ℕ} → Explaining log v → NextOrder log v w → First dictionary (later (explains transactions log) v) w
  next_order_first {v} x (next_order c) = rw (front x) at (called_first (handed v) c)

  next_order_explains : {v w : List ℕ} → NextOrder log v w → Explaining log w
  unfolding later
  next_order_explains {v} (next_order c) =
      record { well = (else_try→ (else_try→ (call_order (order_turned log (handed v)) c).well).1).0; right = (and→ (called_first (handed v) c).one).0 }

  brought_explains : {w : List ℕ} → Brought log w → Explaining log w
  brought_explains (by_version o) = version_order_explains o
  brought_explains (by_next o) = next_order_explains o

  -- asking brings what comes later
  asked_listed : {v : List ℕ} {ws : List (List ℕ)} → Explaining log v → Asked log v ws → Listed (later (explains transactions log) v) ws
  unfolding later
  asked_listed {v} x (ends c) = →listed_none (none_later (rw (front x) at (call_none (order_turned log (handed v)) c)))
  asked_listed {v} x (brings {w} {ws} o a) =
      let f = next_order_first x o in
      →listed f (later_again (explains transactions log) v w ws (and→ f.one).1 (asked_listed (next_order_explains o) a))

  -- THE LISTING
  -- it has every explaining order and no other, each once, in dictionary order
  pub listing_right : {ws : List (List ℕ)} → Listing log ws → Listed (explains transactions log) ws
  listing_right (from_first o a) = →listed (version_order_first o) (asked_listed (version_order_explains o) a)
  listing_right (empty_cycle c) = let r = call_cycle (log_refusal log) c in →listed_none (cycle_never log (well_formed log r.0) r.1.0 r.1.1)
  listing_right (empty_unclean {f} c) = let r = call_unclean (log_refusal log) c in →listed_none (unclean_never log (well_formed log r.0) f r.1)

  -- so there is one
  pub listing_one : {vs ws : List (List ℕ)} → Listing log vs → Listing log ws → vs ≡ ws
  listing_one {vs} {ws} k l = listed_one vs ws (listing_right k) (listing_right l)

  -- it is empty exactly when a read is unclean or the version verdict shows a cycle
  pub listing_empty : {ws : List (List ℕ)} → Listing log ws
      → (ws ≡ []) ↔ (((f : Fault) × Version transactions log (unclean f)) ⊎ ((c : List Entry) × Version transactions log (cycle c)))
  listing_empty {ws} l =
      let well = well_formed log (listing_well l) in
      (λ e. from l e, λ r. ⊎_elim (λ u. nothing (unclean_never log well u.0 u.1) ws (listing_right l)) (λ c. nothing (cycle_never log well c.0 c.1) ws (listing_right l)) r)
    where
      listing_well : {ws : List (List ℕ)} → Listing log ws → log_refusal log ≡ Passed
      listing_well (from_first o a) = (version_order_explains o).well
      listing_well (empty_cycle c) = (call_cycle (log_refusal log) c).0
      listing_well (empty_unclean c) = (call_unclean (log_refusal log) c).0

      nothing : Never (explains transactions log) → (ws : List (List ℕ)) → Listed (explains transactions log) ws → ws ≡ []
      nothing n [] k = refl
      nothing n (w ∷ ws) k = absurd (not_both (k.only w here) (n w))

      from : {ws : List (List ℕ)} → Listing log ws → ws ≡ [] → ((f : Fault) × Version transactions log (unclean f)) ⊎ ((c : List Entry) × Version transactions log (cycle c))
      from (from_first o a) e = let z : ◌≡◌ {A = ℕ} 0 1 = cc in absurd (omega arith)
      from (empty_cycle c) e = inr (call_cycle (log_refusal log) c).1
      from (empty_unclean {f} c) e = inl (f, (call_unclean (log_refusal log) c).1)

  -- ASKING GOES ON TO THE END
  -- with buffers of the right length, "next" is not turned away: it answers none, or an order
  pub asking_goes_on : {v : List ℕ} → Brought log v → {work witness work' witness' : List ℕ} {r : Result Answer Refusal} → length work ≡ work_bytes → length witness ≡ witness_buffer
      → NextCall log (handed v) work witness r work' witness' → (r ≡ Ok None) ⊎ ((n : ℕ) × (r ≡ Ok (Order n)))
  unfolding said
  asking_goes_on o {work} {witness} p q (turned_away m k g e f) =
      absurd (refused≢passed (g ∙ both_passed (work_passed work p) (both_passed (witness_passed witness q) (not_turned (brought_explains o)))))
  asking_goes_on o p q (answered a g (next {w} f) e k) = inr (length w, e)
  asking_goes_on o p q (answered a g (next_none n) e k) = inl e

  -- how many orders are still to come after v
  unfoldable pub to_come : List ℕ → ℕ
  to_come v = length (orders transactions log (later (explains transactions log) v))

  later_listed : (v : List ℕ) → Listed (later (explains transactions log) v) (orders transactions log (later (explains transactions log) v))
  unfolding later
  later_listed v = orders_listed transactions log _ (λ u h. explains_serial transactions log u (and→ h).0)

  -- each order that is brought leaves fewer
  pub fewer_to_come : (handed_in : List ℕ) {work witness work' witness' : List ℕ} {n : ℕ} → NextCall log handed_in work witness (Ok (Order n)) work' witness'
      → to_come (read_off n witness') < to_come (up_to_zero handed_in)
  unfolding to_come later
  fewer_to_come handed_in {witness'} {n} c =
      let p = explains transactions log in
      let v = up_to_zero handed_in in
      let w = read_off n witness' in
      let f = called_first handed_in c in
      let us = orders transactions log (later p w) in
      let k : Listed (later p v) (w ∷ us) = →listed f (later_again p v w us (and→ f.one).1 (later_listed w)) in
      let e : orders transactions log (later p v) ≡ w ∷ us = listed_one _ (w ∷ us) (later_listed v) k in
      let g : to_come v ≡ length (w ∷ us) = ap length e in
      omega arith

  -- a listing is there
  module _ (well : log_refusal log ≡ Passed) where
    -- a call with empty buffers, where nothing turns it away
    call_of : (refusal : Checked) {verdict : Outcome → Type 0} (a : Outcome) → refusal ≡ Passed → verdict a
        → WitnessCall refusal verdict (zeros work_bytes) (zeros witness_buffer) (Ok (said a)) (zeros work_bytes) (lent.witness a)
    unfolding leaves_witness zeros
    call_of refusal a e v =
        answered a (sym (both_passed (work_passed (zeros work_bytes) (length-replicate {A = ℕ} work_bytes 0)) (both_passed (witness_passed (zeros witness_buffer) (length-replicate {A = ℕ} witness_buffer 0)) e))) v refl refl

    -- the order that a call shows, and the one that it brings
    version_order_of : (w : List ℕ) → Version transactions log (order w) → VersionOrder log w
    unfolding said
    version_order_of w v = subst (VersionOrder log) (taken_off w refl).0 (version_order (call_of (log_refusal log) (order w) well v))

    module _ (v : List ℕ) (h : explains transactions log v ≡ true) where
      explaining : Explaining log v
      explaining = record { well = well; right = h }

      next_order_of : (w : List ℕ) → First dictionary (later (explains transactions log) v) w → NextOrder log v w
      unfolding said
      next_order_of w f =
          subst (NextOrder log v) (taken_off w refl).0
          (next_order (call_of (order_turned log (handed v)) (order w) (not_turned explaining) (rw (front explaining) (next f))))

      none_asked : Never (later (explains transactions log) v) → Asked log v []
      unfolding said
      none_asked n = ends (call_of (order_turned log (handed v)) none (not_turned explaining) (rw (front explaining) (next_none n)))

    listed_asked : (v : List ℕ) → explains transactions log v ≡ true → (ws : List (List ℕ)) → Listed (later (explains transactions log) v) ws → Asked log v ws
    unfolding later
    listed_asked v h [] l = none_asked v h (listed_none l)
    listed_asked v h (w ∷ ws) l =
        let f = listed_first l in
        brings (next_order_of v h w f) (listed_asked w (and→ f.one).0 ws (again_later (explains transactions log) v w ws (and→ f.one).1 (listed_later l)))

    pub listing_some : (ws : List (List ℕ)) × Listing log ws
    unfolding said
    listing_some = go (version_some log (well_formed log well)).0 (version_some log (well_formed log well)).1
      where
        all_orders : Listed (explains transactions log) (orders transactions log (explains transactions log))
        all_orders = orders_listed transactions log (explains transactions log) (explains_serial transactions log)

        from : (w : List ℕ) → Version transactions log (order w) → (ws : List (List ℕ)) → Listed (explains transactions log) ws → (ws : List (List ℕ)) × Listing log ws
        from w v [] l = absurd (not_both (version_first log (well_formed log well) w v).one (listed_none l w))
        from w v (u ∷ ws) l =
            let f = version_first log (well_formed log well) w v in
            let e : u ≡ w = first_one dictionary dictionary_same _ u w (listed_first l) f in
            (w ∷ ws, from_first (version_order_of w v) (listed_asked w f.one ws (rw e at (listed_later l))))

        go : (a : Outcome) → Version transactions log a → (ws : List (List ℕ)) × Listing log ws
        go (order w) v = from w v (orders transactions log (explains transactions log)) all_orders
        go none v = absurd (not_none v refl)
        go (cycle c) v = ([], empty_cycle (call_of (log_refusal log) (cycle c) well v))
        go (unclean f) v = ([], empty_unclean (call_of (log_refusal log) (unclean f) well v))
