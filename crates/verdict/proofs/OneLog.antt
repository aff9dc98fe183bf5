-- The log that docs/READING.md takes through the definitions: what that page says of it, computed.
use mathlib.Core.Path.{◌≡◌, refl}
use mathlib.Core.Bool.{true, false}
use mathlib.Core.List.{List, [], ◌∷◌}
use Prim.Native.Nat.{ℕ}
use Rattle.words.specs.Tests.{◌is◌, ◌below◌, ◌upto◌, ◌and◌, ◌or◌, ◌implies◌, fails, provided◌then◌else◌, some, every, lowest, highest}
use Rattle.words.specs.Lists.{member, all, distinct}
use Rattle.graph.specs.Cycle.{leads, is_cycle}
use Rattle.verdict.specs.Limits.{transactions}
use Rattle.verdict.specs.Log.{steps, kind, tx, obj, src, begins, reads, writes, commits, aborts, begun, ended, wrote, committed, aborted, writer, write_one_object, begin_step, commit_step, commits_writer}
use Rattle.verdict.specs.Answers.{Passed}
use Rattle.verdict.specs.Refusal.{◌at◌when◌, ◌else_try◌, tried, object_allowed, source_allowed, range_refusal, life_refusal, source_refusal, step_refusal, open_refusal, log_refusal}
use Rattle.verdict.specs.declared.answers.Cleanness.TheVariants as cleanness_is
use Rattle.verdict.specs.Clean.{judged, judged_other, after_own_write, writes_later, final_source, own_fault, source_fault, faulty_read, is_clean, fault_at, cleanness}
use Rattle.verdict.specs.declared.answers.Writer.TheVariants.{Store}
use Rattle.verdict.specs.declared.answers.Snapshot.TheVariants as snapshot_is
use Rattle.verdict.specs.Snapshot.{writer_number, snapshot_step, last_commit, last_committed, wanted, wrong_read, overlap, clash, wrong_commit, wrong_step, snapshot_fault, snapshot_verdict}
use Rattle.verdict.specs.Reason.{Entry, first_object, first_kind, leading, leading_on, with_reasons}
use Rattle.verdict.specs.Dependency.{some_dependency}
use Rattle.verdict.specs.Version.{versions_from, next_commit, next_version, writer_to_next, source_to_reader, reader_to_next, version_on, version_edge}
use Rattle.verdict.specs.Replay.{finds, reads_right}

abbrev log : List ℕ
log =
    1 ∷ 1 ∷ 0 ∷ 0
    ∷ 1 ∷ 2 ∷ 0 ∷ 0
    ∷ 2 ∷ 1 ∷ 1 ∷ 0
    ∷ 2 ∷ 2 ∷ 0 ∷ 0
    ∷ 3 ∷ 1 ∷ 0 ∷ 0
    ∷ 3 ∷ 2 ∷ 1 ∷ 0
    ∷ 4 ∷ 1 ∷ 0 ∷ 0
    ∷ 4 ∷ 2 ∷ 0 ∷ 0
    ∷ []

pub its_steps : (steps log ≡ 8) × (kind log 2 ≡ 2) × (tx log 2 ≡ 1) × (obj log 2 ≡ 1) × (src log 2 ≡ 0)
unfolding steps kind tx obj src
its_steps = (refl, refl, refl, refl, refl)

pub its_transactions : (committed log 1 ≡ true) × (committed log 2 ≡ true) × (commit_step log 1 ≡ 6) × (commit_step log 2 ≡ 7) × (writer log 0 1 ≡ true) × (writer log 1 2 ≡ true)
unfolding ◌is◌ ◌and◌ ◌or◌ provided◌then◌else◌ some lowest steps kind tx obj commits committed writes writer commit_step
its_transactions = (refl, refl, refl, refl, refl, refl)

pub its_check : (step_refusal log 2 ≡ Passed) × (log_refusal log ≡ Passed)
unfolding ◌is◌ ◌below◌ ◌upto◌ ◌and◌ ◌or◌ fails provided◌then◌else◌ some lowest steps kind tx obj src begins writes commits aborts begun ended wrote
    ◌at◌when◌ ◌else_try◌ tried object_allowed source_allowed range_refusal life_refusal source_refusal step_refusal open_refusal log_refusal
its_check = (refl, refl)

pub its_reads : (judged_other log 2 ≡ true) × (judged_other log 3 ≡ true) × (after_own_write log 2 ≡ false) × (final_source log 2 ≡ true) × (faulty_read log 2 ≡ false) × (is_clean log ≡ true) × (cleanness log ≡ cleanness_is.Yes)
unfolding ◌is◌ ◌below◌ ◌upto◌ ◌and◌ ◌or◌ ◌implies◌ fails provided◌then◌else◌ some every lowest steps kind tx obj src reads writes commits aborts wrote committed aborted
    judged judged_other after_own_write writes_later final_source own_fault source_fault faulty_read is_clean fault_at cleanness
its_reads = (refl, refl, refl, refl, refl, refl, refl)

pub its_snapshots : (wanted log 2 ≡ Store) × (wrong_read log 2 ≡ false) × (wrong_read log 3 ≡ false) × (overlap log 1 2 ≡ true) × (write_one_object log 1 2 ≡ false) × (snapshot_verdict transactions log ≡ snapshot_is.Yes)
unfolding ◌is◌ ◌below◌ ◌upto◌ ◌and◌ ◌or◌ ◌implies◌ fails provided◌then◌else◌ some every lowest highest steps kind tx obj src begins reads writes commits wrote committed writer write_one_object begin_step commit_step commits_writer
    judged judged_other after_own_write writer_number snapshot_step last_commit last_committed wanted wrong_read overlap clash wrong_commit wrong_step snapshot_fault snapshot_verdict
its_snapshots = (refl, refl, refl, refl, refl, refl)

pub its_edges : (next_commit log 1 0 ≡ 7) × (next_version log 1 0 2 ≡ true) × (reader_to_next log 1 2 1 ≡ true) × (version_edge log 1 2 ≡ true) × (next_commit log 0 0 ≡ 6) × (version_edge log 2 1 ≡ true)
unfolding ◌is◌ ◌below◌ ◌upto◌ ◌and◌ ◌or◌ ◌implies◌ fails provided◌then◌else◌ some every lowest steps kind tx obj src reads writes commits committed writer commit_step commits_writer judged
    versions_from next_commit next_version writer_to_next source_to_reader reader_to_next version_on some_dependency version_edge
its_edges = (refl, refl, refl, refl, refl, refl)

pub its_cycle : is_cycle (version_edge log) (1 ∷ 2 ∷ []) ≡ true
unfolding ◌is◌ ◌below◌ ◌upto◌ ◌and◌ ◌or◌ ◌implies◌ fails provided◌then◌else◌ some every lowest member all distinct steps kind tx obj src reads writes commits committed writer commit_step commits_writer judged
    versions_from next_commit next_version writer_to_next source_to_reader reader_to_next version_on some_dependency version_edge leads is_cycle
its_cycle = refl

abbrev entry : ℕ → ℕ → ℕ → Entry
entry t k o = record { transaction = t; kind = k; object = o }

pub its_reasons : with_reasons (version_on log) (1 ∷ 2 ∷ []) ≡ entry 1 3 1 ∷ entry 2 3 0 ∷ []
unfolding ◌is◌ ◌below◌ ◌upto◌ ◌and◌ ◌or◌ ◌implies◌ fails provided◌then◌else◌ some every lowest steps kind tx obj src reads writes commits committed writer commit_step commits_writer judged
    versions_from next_commit next_version writer_to_next source_to_reader reader_to_next version_on first_object first_kind leading leading_on with_reasons
its_reasons = refl

pub its_replay : (finds log 0 2 0 (1 ∷ 2 ∷ []) ≡ 1) × (finds log 1 1 0 (2 ∷ 1 ∷ []) ≡ 2) × (reads_right log (1 ∷ 2 ∷ []) ≡ false) × (reads_right log (2 ∷ 1 ∷ []) ≡ false)
unfolding ◌is◌ ◌below◌ ◌upto◌ ◌and◌ ◌or◌ ◌implies◌ fails provided◌then◌else◌ some every steps kind tx obj src reads writes commits committed writer judged judged_other finds reads_right
its_replay = (refl, refl, refl, refl)
