-- The sample logs of 01 that are marked to be proved: one table, one computed equation, and what it means at each entry.
use Rattle.std.specs.Prelude.{Ok, Err}
use mathlib.Core.Path.{◌≡◌, refl, sym, ap, ◌∙◌}
use mathlib.Core.List.{List, [], ◌∷◌, map}
use mathlib.Core.Option.{Option, none, some as just}
use Prim.Native.Nat.{ℕ}
use lib.ListN.{get_or, get_or-map}
use native.Mathlib.Omega.{arith}
use Rattle.words.specs.Tests.{◌is◌, ◌below◌, ◌upto◌, ◌and◌, ◌or◌, ◌implies◌, fails, provided◌then◌else◌, some, every, count, lowest, highest}
use Rattle.words.specs.Lists.{member, all, distinct, before, zeros, entries}
use Rattle.words.specs.First.{dictionary, shorter, later}
use Rattle.words.specs.Listed.{Listed}
use Rattle.graph.specs.Order.{once_each, keeps, is_order}
use Rattle.graph.specs.Cycle.{leads, is_cycle}
use Rattle.verdict.specs.Reason.{Entry, first_object, first_kind, leading, leading_on, with_reasons}
use Rattle.verdict.specs.Outcome.{order, cycle, Outcome, unclean}
use Rattle.verdict.specs.Limits.{transactions}
use Rattle.verdict.specs.Log.{steps, kind, tx, obj, src, begins, reads, writes, commits, aborts, committed, aborted, writer, write_one_object, begin_step, commit_step, commits_writer, committed_count, begun, ended, wrote}
use Rattle.verdict.specs.Answers.{Checked, Passed, Refused}
use Rattle.verdict.specs.Refusal.{◌at◌when◌, ◌else_try◌, tried, object_allowed, source_allowed, range_refusal, life_refusal, source_refusal, step_refusal, open_refusal, log_refusal}
use Rattle.verdict.specs.declared.answers.Fault.{Fault}
use Rattle.verdict.specs.declared.answers.Fault.TheVariants.{Own, Aborted, Unfinal}
use Rattle.verdict.specs.declared.answers.Cleanness.{Cleanness}
use Rattle.verdict.specs.declared.answers.Cleanness.TheVariants.{Yes, Unclean}
use Rattle.verdict.specs.Clean.{judged, judged_other, after_own_write, writes_later, final_source, own_fault, source_fault, faulty_read, is_clean, fault_at, cleanness}
use Rattle.verdict.specs.declared.answers.Writer.TheVariants.{Store, Committed, Reader}
use Rattle.verdict.specs.declared.answers.Snapshot.{Snapshot}
use Rattle.verdict.specs.declared.answers.Snapshot.TheVariants as snapshot_is
use Rattle.verdict.specs.declared.answers.Snapshot.TheVariants.{Read, Write}
use Rattle.verdict.specs.Snapshot.{writer_number, snapshot_step, last_commit, last_committed, wanted, wrong_read, overlap, clash, wrong_commit, wrong_step, snapshot_fault, snapshot_verdict}
use Rattle.verdict.specs.Inner.ConflictEdges.{touches, meet_somehow, plain_conflict}
use Rattle.verdict.specs.Conflict.{meet, conflict_on, Conflict}
use Rattle.verdict.specs.Version.{versions_from, next_commit, next_version, writer_to_next, source_to_reader, reader_to_next, version_on, Version}
use Rattle.verdict.specs.Inner.VersionEdges.{from_writer, from_source, from_reader, plain_version}
use Rattle.verdict.specs.Replay.{finds, reads_right, writers_in_order, serial, explains_loosely, explains}
use Rattle.verdict.specs.Exact.{Exact}
use Rattle.verdict.specs.Witness.{handed}
use Rattle.verdict.specs.Next.{up_to_zero, from_zero, list_refusal, Next}
use Rattle.words.proofs.Search.{ascending, put_before, each_before, tuples, short_tuples, sift}
use Rattle.graph.proofs.Judge.{shown_by, nodes, judge_graph}
use Rattle.verdict.proofs.WellFormed.{well_formed}
use Rattle.verdict.proofs.Computed.{first_or_none, outcome_of, outcome_shown, if_clean, orders, judge_conflict, judge_version, judge_exact, judge_next, conflict_right, version_right, exact_right, next_right, orders_listed, loosely_serial, explains_serial}

-- THE SHORT FORM OF A STEP
pub b : ℕ → List ℕ → List ℕ
b t l = 1 ∷ t ∷ 0 ∷ 0 ∷ l

pub r : ℕ → ℕ → ℕ → List ℕ → List ℕ
r t x s l = 2 ∷ t ∷ x ∷ s ∷ l

pub w : ℕ → ℕ → List ℕ → List ℕ
w t x l = 3 ∷ t ∷ x ∷ 0 ∷ l

pub c : ℕ → List ℕ → List ℕ
c t l = 4 ∷ t ∷ 0 ∷ 0 ∷ l

pub a : ℕ → List ℕ → List ℕ
a t l = 5 ∷ t ∷ 0 ∷ 0 ∷ l

abbrev pub x : ℕ
x = 0

abbrev pub y : ℕ
y = 1

-- ALL THAT IS SAID OF A LOG
pub data Expected : Type 0 where
  turned_away : ℕ → ℕ → Expected
  -- clean, snapshot, conflict, version, exact; every explaining order and every loosely explaining one;
  -- and what "next" says after each order handed in, `none` for number 14
  answered : Cleanness → Snapshot → Option Outcome → Option Outcome → Outcome → List (List ℕ) → List (List ℕ) → List (Option Outcome) → Expected

pub record Sample : Type 0 where
  pub log : List ℕ
  pub handed_in : List (List ℕ)
  pub expected : Expected

unfoldable pub next_by : Checked → Outcome → Option Outcome
next_by (Ok _) n = just n
next_by (Err _) n = none

unfoldable pub next_after : List ℕ → List ℕ → Option Outcome
next_after log given = next_by (list_refusal transactions log given) (judge_next transactions log (up_to_zero given))

unfoldable pub outcome_by : Checked → List ℕ → List (List ℕ) → Expected
outcome_by (Err e) log given = turned_away e.0 e.1
outcome_by (Ok _) log given =
    answered (cleanness log) (snapshot_verdict transactions log) (judge_conflict transactions log) (judge_version transactions log) (judge_exact transactions log)
    (orders transactions log (explains transactions log)) (orders transactions log (explains_loosely transactions log)) (map (λ v. next_after log (handed v)) given)

unfoldable pub outcome : Sample → Expected
outcome s = outcome_by (log_refusal s.log) s.log s.handed_in

-- THE TABLE
sample : List ℕ → List (List ℕ) → Expected → Sample
sample l g o = record { log = l; handed_in = g; expected = o }

ordered : List ℕ → Option Outcome
ordered l = just (order l)

-- a cycle of two, each with the kind and the object that lead on
abbrev pub led : ℕ → ℕ → ℕ → Entry
led t k o = record { transaction = t; kind = k; object = o }

ring : Entry → Entry → Option Outcome
ring d e = just (cycle (d ∷ e ∷ []))

abbrev ww : ℕ
ww = 1

abbrev wr : ℕ
wr = 2

abbrev rw' : ℕ
rw' = 3

no_order : Option Outcome
no_order = just Outcome.none

fault : Fault → Option Outcome
fault f = just (unclean f)

1' : List ℕ
1' = 1 ∷ []

12' : List ℕ
12' = 1 ∷ 2 ∷ []

21' : List ℕ
21' = 2 ∷ 1 ∷ []

123' : List ℕ
123' = 1 ∷ 2 ∷ 3 ∷ []

132' : List ℕ
132' = 1 ∷ 3 ∷ 2 ∷ []

213' : List ℕ
213' = 2 ∷ 1 ∷ 3 ∷ []

312' : List ℕ
312' = 3 ∷ 1 ∷ 2 ∷ []

pub table : List Sample
table =
    -- the empty log
    sample [] ([] ∷ 1' ∷ [])
    (answered Yes snapshot_is.Yes (ordered []) (ordered []) (order []) ([] ∷ []) ([] ∷ []) (no_order ∷ none ∷ []))
    -- the log that 01 prints
    ∷ sample (b 1 (b 2 (r 1 y 0 (r 2 x 0 (w 1 x (w 2 y (c 1 (c 2 [])))))))) ([] ∷ 12' ∷ [])
    (answered Yes snapshot_is.Yes (ring (led 1 rw' y) (led 2 rw' x)) (ring (led 1 rw' y) (led 2 rw' x)) Outcome.none [] [] (none ∷ none ∷ []))
    -- example 2.12
    ∷ sample (b 1 (w 1 x (c 1 (b 2 (w 2 x (c 2 (b 3 (r 3 x 1 (c 3 []))))))))) (132' ∷ 123' ∷ 213' ∷ (1 ∷ 3 ∷ 2 ∷ 0 ∷ 5 ∷ []) ∷ [] ∷ [])
    (answered Yes (Read 7 (Committed 2 5)) (ordered 123') (ordered 132') (order 132') (132' ∷ []) (132' ∷ 213' ∷ []) (no_order ∷ none ∷ none ∷ none ∷ none ∷ []))
    -- example 2.13
    ∷ sample (b 1 (w 1 x (w 1 y (c 1 (b 2 (w 2 x (w 2 y (c 2 (b 3 (r 3 x 2 (r 3 y 1 (c 3 [])))))))))))) (123' ∷ [])
    (answered Yes (Read 10 (Committed 2 7)) (ordered 123') (ring (led 2 wr x) (led 3 rw' y)) Outcome.none [] [] (none ∷ []))
    -- a lost update
    ∷ sample (b 1 (b 2 (r 1 x 0 (r 2 x 0 (w 1 x (w 2 x (c 1 (c 2 [])))))))) []
    (answered Yes (Write 7 1) (ring (led 1 ww x) (led 2 rw' x)) (ring (led 1 ww x) (led 2 rw' x)) Outcome.none [] [] [])
    -- ours: of two dependencies the one on the lower object, whatever their kinds
    ∷ sample (b 1 (b 2 (r 2 2 0 (w 1 2 (w 1 x (w 1 y (r 2 x 1 (w 2 y (c 1 (c 2 [])))))))))) []
    (answered Yes (Read 6 Store) (ring (led 1 wr x) (led 2 rw' 2)) (ring (led 1 wr x) (led 2 rw' 2)) Outcome.none [] [] [])
    -- a read from a transaction that aborts
    ∷ sample (b 1 (w 1 x (b 2 (r 2 x 1 (c 2 (a 1 [])))))) ((2 ∷ []) ∷ [])
    (answered (Unclean (Aborted 3)) (Read 3 Store) (ordered (2 ∷ [])) (fault (Aborted 3)) (unclean (Aborted 3)) [] [] (none ∷ []))
    -- a read of a value that is overwritten
    ∷ sample (b 1 (w 1 x (b 2 (r 2 x 1 (w 1 x (c 1 (c 2 []))))))) []
    (answered (Unclean (Unfinal 3)) (Read 3 Store) (ring (led 1 wr x) (led 2 rw' x)) (fault (Unfinal 3)) (unclean (Unfinal 3)) [] [] [])
    -- three orders
    ∷ sample (b 1 (w 1 x (c 1 (b 2 (r 2 x 1 (c 2 (b 3 (w 3 y (c 3 []))))))))) (123' ∷ 132' ∷ 312' ∷ 213' ∷ [])
    (answered Yes snapshot_is.Yes (ordered 123') (ordered 123') (order 123') (123' ∷ 132' ∷ 312' ∷ []) (123' ∷ 132' ∷ 312' ∷ []) (ordered 132' ∷ ordered 312' ∷ no_order ∷ none ∷ []))
    -- ours: commit order is not the order of the writes
    ∷ sample (b 1 (b 2 (w 1 x (w 2 x (c 2 (c 1 [])))))) []
    (answered Yes (Write 5 2) (ordered 12') (ordered 21') (order 12') (21' ∷ []) (12' ∷ 21' ∷ []) [])
    -- ours: a transaction that reads and then writes has no edge to itself
    ∷ sample (b 1 (r 1 x 0 (w 1 x (c 1 [])))) []
    (answered Yes snapshot_is.Yes (ordered 1') (ordered 1') (order 1') (1' ∷ []) (1' ∷ []) [])
    -- a read that misses its own write
    ∷ sample (b 1 (w 1 x (r 1 x 0 (c 1 [])))) (1' ∷ [] ∷ [])
    (answered (Unclean (Own 2)) (Read 2 (Reader 1)) (ordered 1') (fault (Own 2)) (unclean (Own 2)) [] [] (none ∷ none ∷ []))
    -- ours: the same, of a transaction that aborts
    ∷ sample (b 1 (w 1 x (r 1 x 0 (a 1 [])))) ([] ∷ [])
    (answered Yes snapshot_is.Yes (ordered []) (ordered []) (order []) ([] ∷ []) ([] ∷ []) (no_order ∷ []))
    -- ours: on one read own comes before aborted
    ∷ sample (b 2 (w 2 x (b 1 (w 1 x (r 1 x 2 (c 1 (a 2 []))))))) (1' ∷ [])
    (answered (Unclean (Own 4)) (Read 4 (Reader 1)) (ordered 1') (fault (Own 4)) (unclean (Own 4)) [] [] (none ∷ []))
    -- turned away
    ∷ sample (b 1 (r 1 x 1 (c 1 []))) [] (turned_away 9 1)
    ∷ sample (b 1 []) [] (turned_away 11 1)
    ∷ []

-- the one computed equation
pub table_right : map outcome table ≡ map (λ s. s.expected) table
unfolding b r w c a sample ordered ring no_order fault 1' 12' 21' 123' 132' 213' 312' table outcome outcome_by next_by next_after
    ◌is◌ ◌below◌ ◌upto◌ ◌and◌ ◌or◌ ◌implies◌ fails provided◌then◌else◌ some every count lowest highest
    member all distinct before zeros entries handed dictionary shorter later once_each keeps is_order leads is_cycle
    steps kind tx obj src begins reads writes commits aborts committed aborted writer write_one_object begin_step commit_step commits_writer committed_count
    ◌at◌when◌ ◌else_try◌ tried object_allowed source_allowed begun ended wrote range_refusal life_refusal source_refusal step_refusal open_refusal log_refusal
    judged judged_other after_own_write writes_later final_source own_fault source_fault faulty_read is_clean fault_at cleanness
    writer_number snapshot_step last_commit last_committed wanted wrong_read overlap clash wrong_commit wrong_step snapshot_fault snapshot_verdict
    touches meet_somehow plain_conflict versions_from next_commit next_version from_writer from_source from_reader plain_version
    meet conflict_on writer_to_next source_to_reader reader_to_next version_on first_object first_kind leading leading_on with_reasons
    finds reads_right writers_in_order serial explains_loosely explains up_to_zero from_zero list_refusal
    ascending put_before each_before tuples short_tuples sift shown_by nodes judge_graph
    first_or_none outcome_of outcome_shown if_clean orders judge_conflict judge_version judge_exact judge_next
table_right = refl

-- WHAT IT SAYS OF ENTRY k
pub no_sample : Sample
no_sample = record { log = []; handed_in = []; expected = outcome (record { log = []; handed_in = []; expected = turned_away 0 0 }) }

pub sample_right : (k : ℕ) → outcome (get_or table k no_sample) ≡ (get_or table k no_sample).expected
unfolding no_sample outcome
sample_right k =
    sym (get_or-map outcome table k no_sample) ∙ ap (λ (l : List Expected). get_or l k (outcome no_sample)) table_right
    ∙ get_or-map (λ s. s.expected) table k no_sample

-- an answered outcome, in the terms of the definitions
pub record Means (log : List ℕ) (cl : Cleanness) (sn : Snapshot) (co ve ex : Outcome) (li lo : List (List ℕ)) : Type 0 where
  pub passed : log_refusal log ≡ Passed
  pub clean_part : cleanness log ≡ cl
  pub snapshot_part : snapshot_verdict transactions log ≡ sn
  pub conflict_part : Conflict transactions log co
  pub version_part : Version transactions log ve
  pub exact_part : Exact transactions log ex
  pub list_part : Listed (explains transactions log) li
  pub loose_part : Listed (explains_loosely transactions log) lo

pub outcome_means : (s : Sample) {cl : Cleanness} {sn : Snapshot} {co ve ex : Outcome} {li lo : List (List ℕ)} {ne : List (Option Outcome)}
    → outcome s ≡ answered cl sn (just co) (just ve) ex li lo ne → Means s.log cl sn co ve ex li lo
unfolding outcome outcome_by
outcome_means s {cl} {sn} {co} {ve} {ex} {li} {lo} {ne} e = go (log_refusal s.log) refl e
  where
    log : List ℕ
    log = s.log

    go : (o : Checked) → log_refusal log ≡ o → outcome_by o log s.handed_in ≡ answered cl sn (just co) (just ve) ex li lo ne → Means log cl sn co ve ex li lo
    go (Err _) h f = let z : ◌≡◌ {A = ℕ} 0 1 = cc in absurd (omega arith)
    go (Ok _) h f =
        let z : judge_exact transactions log ≡ ex = cc in
        let u : orders transactions log (explains transactions log) ≡ li = cc in
        let v : orders transactions log (explains_loosely transactions log) ≡ lo = cc in
        record {
          passed = h;
          clean_part = cc;
          snapshot_part = cc;
          conflict_part = conflict_right log (well_formed log h) co cc;
          version_part = version_right log (well_formed log h) ve cc;
          exact_part = rw z at (exact_right transactions log);
          list_part = rw u at (orders_listed transactions log (explains transactions log) (explains_serial transactions log));
          loose_part = rw v at (orders_listed transactions log (explains_loosely transactions log) (loosely_serial transactions log));
        }

-- a refused one
pub refused_means : (s : Sample) (n place : ℕ) → outcome s ≡ turned_away n place → log_refusal s.log ≡ Refused n place
unfolding outcome outcome_by
refused_means s n place e = go (log_refusal s.log) e
  where
    go : (o : Checked) → outcome_by o s.log s.handed_in ≡ turned_away n place → o ≡ Refused n place
    go (Err e) f = let x : e.0 ≡ n = cc in let y : e.1 ≡ place = cc in ap (λ (k : ℕ). Refused k e.1) x ∙ ap (Refused n) y
    go (Ok _) f = let z : ◌≡◌ {A = ℕ} 0 1 = cc in absurd (omega arith)

-- an order handed in that is on the list gets the answer that "next" asks for
pub next_means : (log given : List ℕ) (n : Outcome) → next_after log given ≡ just n → (list_refusal transactions log given ≡ Passed) × Next transactions log (up_to_zero given) n
unfolding next_after next_by
next_means log given n e = go (list_refusal transactions log given) refl e
  where
    go : (o : Checked) → list_refusal transactions log given ≡ o → next_by o (judge_next transactions log (up_to_zero given)) ≡ just n
        → (list_refusal transactions log given ≡ Passed) × Next transactions log (up_to_zero given) n
    go (Ok _) h f = let z : judge_next transactions log (up_to_zero given) ≡ n = cc in (h, rw z at (next_right transactions log (up_to_zero given)))
    go (Err _) h f = let z : ◌≡◌ {A = ℕ} 0 1 = cc in absurd (omega arith)

-- the log that 01 prints, entry 1 of the table, for whoever prints its report
pub printed_means :
    Means (1 ∷ 1 ∷ 0 ∷ 0 ∷ 1 ∷ 2 ∷ 0 ∷ 0 ∷ 2 ∷ 1 ∷ 1 ∷ 0 ∷ 2 ∷ 2 ∷ 0 ∷ 0 ∷ 3 ∷ 1 ∷ 0 ∷ 0 ∷ 3 ∷ 2 ∷ 1 ∷ 0 ∷ 4 ∷ 1 ∷ 0 ∷ 0 ∷ 4 ∷ 2 ∷ 0 ∷ 0 ∷ [])
    Yes snapshot_is.Yes (cycle (led 1 3 1 ∷ led 2 3 0 ∷ [])) (cycle (led 1 3 1 ∷ led 2 3 0 ∷ [])) Outcome.none [] []
unfolding table sample b r w c ring
printed_means = outcome_means (get_or table 1 no_sample) (sample_right 1)
