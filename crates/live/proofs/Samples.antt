-- Samples of the live judge, computed: few transactions and places, the same definitions.
use mathlib.Core.Path.{◌≡◌, refl, sym, ap, ◌∙◌}
use mathlib.Core.List.{List, [], ◌∷◌, map}
use Prim.Native.Nat.{ℕ}
use lib.ListN.{get_or, get_or-map}
use Rattle.words.specs.Tests.{◌is◌, ◌below◌, ◌upto◌, ◌and◌, ◌or◌, fails, provided◌then◌else◌, some, count, lowest, highest}
use Rattle.verdict.specs.Log.{steps, kind, tx, obj, src, begins, reads, writes, commits, aborts, begun, ended, wrote, committed, writer, write_one_object, begin_step, commit_step, commits_writer}
use Rattle.verdict.specs.Refusal.{object_allowed}
use Rattle.verdict.specs.Clean.{judged, judged_other, after_own_write}
use Rattle.verdict.specs.Snapshot.{writer_number, snapshot_step, last_commit, last_committed, wanted, wrong_read, overlap, clash, wrong_commit}
use Rattle.verdict.specs.Dependency.{some_dependency}
use Rattle.verdict.specs.Version.{versions_from, next_commit, next_version, writer_to_next, source_to_reader, reader_to_next, version_on, version_edge}
use Rattle.live.specs.Answers.{Said, Taken, Yes, Breach, CycleClosed, stands}
use Rattle.live.specs.SoFar.{more, is_open, passed, shut, so_far}
use Rattle.live.specs.Breach.{no_writer, misread, breached}
use Rattle.live.specs.Closed.{walk, round, closed}
use Rattle.live.specs.Says.{fresh, number, commit_says, good_says, says, after, all_says}
use Rattle.live.specs.Forgotten.{overlapped, pointed_at, may_go, left, kept}
use Rattle.live.specs.Kept.{in_use, full}

-- the short form of a step
b : ℕ → List ℕ → List ℕ
b t l = 1 ∷ t ∷ 0 ∷ 0 ∷ l

r : ℕ → ℕ → ℕ → List ℕ → List ℕ
r t o s l = 2 ∷ t ∷ o ∷ s ∷ l

w : ℕ → ℕ → List ℕ → List ℕ
w t o l = 3 ∷ t ∷ o ∷ 0 ∷ l

c : ℕ → List ℕ → List ℕ
c t l = 4 ∷ t ∷ 0 ∷ 0 ∷ l

a : ℕ → List ℕ → List ℕ
a t l = 5 ∷ t ∷ 0 ∷ 0 ∷ l

abbrev x : ℕ
x = 0

abbrev y : ℕ
y = 1

-- a judge over transactions up to `most`, with room for so many; a log, and the answers
pub record Sample : Type 0 where
  pub most : ℕ
  pub room : ℕ
  pub log : List ℕ
  pub expected : List Said

unfoldable pub outcome : Sample → List Said
outcome s = all_says s.most (full s.most s.room) fresh s.log

sample : ℕ → ℕ → List ℕ → List Said → Sample
sample most room l e = record { most = most; room = room; log = l; expected = e }

abbrev bad : ℕ → Said
bad n = Said.Refused n

pub table : List Sample
table =
    -- an own read before any own write is wrong, even if the write follows
    sample 1 128 (b 1 (r 1 x 1 (w 1 x (c 1 [])))) (Taken ∷ Taken ∷ Taken ∷ Breach ∷ [])
    ∷ sample 1 128 (b 1 (w 1 x (r 1 x 1 (c 1 [])))) (Taken ∷ Taken ∷ Taken ∷ Yes ∷ [])
    -- a source that writes later stays wrong
    ∷ sample 2 128 (b 1 (r 1 x 2 (b 2 (w 2 x (c 2 (c 1 [])))))) (Taken ∷ Taken ∷ Taken ∷ Taken ∷ Yes ∷ Breach ∷ [])
    -- a read that misses its own write
    ∷ sample 1 128 (b 1 (w 1 x (r 1 x 0 (c 1 [])))) (Taken ∷ Taken ∷ Taken ∷ Breach ∷ [])
    -- a wrong read of one that aborts; its source may be any number
    ∷ sample 2 128 (b 1 (r 1 x 500 (a 1 (b 2 (c 2 []))))) (Taken ∷ Taken ∷ Taken ∷ Taken ∷ Yes ∷ [])
    -- a begin without room leaves no trace
    ∷ sample 2 1 (b 1 (b 2 (w 2 x (c 2 (c 1 (b 2 [])))))) (Taken ∷ bad 18 ∷ bad 8 ∷ bad 8 ∷ Yes ∷ Taken ∷ [])
    -- numbers rise
    ∷ sample 6 128 (b 5 (b 5 (b 4 (c 4 (b 6 []))))) (Taken ∷ bad 7 ∷ bad 7 ∷ bad 8 ∷ Taken ∷ [])
    -- on a begin 6 goes before 7, and 7 before 18
    ∷ sample 2 1 (b 1 (1 ∷ 2 ∷ 0 ∷ 1 ∷ b 1 (b 2 []))) (Taken ∷ bad 6 ∷ bad 7 ∷ bad 18 ∷ [])
    -- objects stay 0..63 (the decided one has 300 for 3)
    ∷ sample 3 128 (b 3 (w 3 64 (w 3 63 (r 3 x 65535 [])))) (Taken ∷ bad 5 ∷ Taken ∷ Taken ∷ [])
    -- those that aborted are forgotten at once
    ∷ sample 3 1 (b 1 (a 1 (b 2 (a 2 (b 3 []))))) (Taken ∷ Taken ∷ Taken ∷ Taken ∷ Taken ∷ [])
    -- no kept one has a version edge to 1, though a conflict edge leads to it
    ∷ sample 4 3 (b 1 (b 2 (w 2 x (r 1 x 0 (c 1 (b 3 (c 2 (b 4 [])))))))) (Taken ∷ Taken ∷ Taken ∷ Taken ∷ Yes ∷ Taken ∷ Yes ∷ Taken ∷ [])
    -- one that overlapped 2 is open, and then it has ended
    ∷ sample 3 2 (b 1 (b 2 (c 2 (b 3 [])))) (Taken ∷ Taken ∷ Yes ∷ bad 18 ∷ [])
    ∷ sample 4 2 (b 1 (b 2 (c 2 (c 1 (b 3 (b 4 [])))))) (Taken ∷ Taken ∷ Yes ∷ Yes ∷ Taken ∷ Taken ∷ [])
    -- 7 and 8 after forgetting
    ∷ sample 6 128 (b 5 (c 5 (b 5 (w 5 x (b 4 (b 6 [])))))) (Taken ∷ Yes ∷ bad 7 ∷ bad 8 ∷ bad 7 ∷ Taken ∷ [])
    -- one after another in one place, and reads of forgotten sources are right
    ∷ sample 3 1 (b 1 (w 1 x (c 1 (b 2 (r 2 x 1 (w 2 x (c 2 (b 3 (r 3 x 2 (c 3 [])))))))))) (Taken ∷ Taken ∷ Yes ∷ Taken ∷ Taken ∷ Taken ∷ Yes ∷ Taken ∷ Taken ∷ Yes ∷ [])
    -- 2 is kept while 1 has an edge to it, and so the cycle is seen
    ∷ sample 3 3 (b 1 (r 1 y 0 (b 2 (w 2 y (c 2 (b 3 (r 3 y 2 (r 3 x 0 (w 1 x (c 1 (c 3 []))))))))))) (Taken ∷ Taken ∷ Taken ∷ Taken ∷ Yes ∷ Taken ∷ Taken ∷ Taken ∷ Taken ∷ Yes ∷ CycleClosed ∷ [])
    -- a source open at the reader's commit counts as aborted; breach then stands
    ∷ sample 2 128 (b 1 (w 1 x (b 2 (r 2 x 1 (c 2 (c 1 [])))))) (Taken ∷ Taken ∷ Taken ∷ Taken ∷ Breach ∷ Breach ∷ [])
    -- cycle closed stands, for bad steps too
    ∷ sample 2 128 (b 1 (b 2 (r 1 y 0 (r 2 x 0 (w 1 x (w 2 y (c 1 (c 2 (c 7 (b 0 [])))))))))) (Taken ∷ Taken ∷ Taken ∷ Taken ∷ Taken ∷ Taken ∷ Yes ∷ CycleClosed ∷ CycleClosed ∷ CycleClosed ∷ [])
    -- ours: on one commit breach goes before cycle closed
    ∷ sample 2 128 (b 1 (b 2 (r 1 x 0 (r 2 x 0 (w 1 x (w 2 x (c 1 (c 2 [])))))))) (Taken ∷ Taken ∷ Taken ∷ Taken ∷ Taken ∷ Taken ∷ Yes ∷ Breach ∷ [])
    -- ours: 3 and 4, each before the others
    ∷ sample 1 0 (0 ∷ 0 ∷ 64 ∷ 1 ∷ 6 ∷ 1 ∷ 0 ∷ 0 ∷ 1 ∷ 0 ∷ 64 ∷ 1 ∷ []) (bad 3 ∷ bad 3 ∷ bad 4 ∷ [])
    ∷ []

-- the one computed equation
pub table_right : map outcome table ≡ map (λ s. s.expected) table
unfolding b r w c a sample table outcome ◌is◌ ◌below◌ ◌upto◌ ◌and◌ ◌or◌ fails provided◌then◌else◌ some count lowest highest
    steps kind tx obj src begins reads writes commits aborts begun ended wrote committed writer write_one_object begin_step commit_step commits_writer
    object_allowed judged judged_other after_own_write writer_number snapshot_step last_commit last_committed wanted wrong_read overlap clash wrong_commit
    some_dependency versions_from next_commit next_version writer_to_next source_to_reader reader_to_next version_on version_edge
    more is_open passed shut so_far no_writer misread breached walk round closed overlapped pointed_at may_go left kept in_use full
    stands number commit_says good_says says after all_says
table_right = refl

-- what it says of entry k
pub no_sample : Sample
no_sample = record { most = 0; room = 0; log = []; expected = [] }

pub sample_right : (k : ℕ) → all_says (get_or table k no_sample).most (full (get_or table k no_sample).most (get_or table k no_sample).room) fresh (get_or table k no_sample).log ≡ (get_or table k no_sample).expected
unfolding no_sample outcome all_says
sample_right k =
    sym (get_or-map outcome table k no_sample) ∙ ap (λ (l : List (List Said)). get_or l k (outcome no_sample)) table_right
    ∙ get_or-map (λ s. s.expected) table k no_sample
