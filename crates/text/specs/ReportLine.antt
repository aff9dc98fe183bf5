-- The lines of a report, each with its LF: how 01 prints every answer, and what 02 adds to a wrong read and to a cycle.
use Rattle.std.specs.Prelude.{List, [], ◌∷◌, ◌++◌, ℕ}
use Rattle.verdict.specs.Clean.{fault_step}
use Rattle.words.specs.Tests.{◌is◌, provided◌then◌else◌}
use Rattle.verdict.specs.Reason.{Entry, without_reasons}
use Rattle.verdict.specs.Outcome.{Outcome, order, cycle, none, unclean}
use Rattle.verdict.specs.declared.answers.Fault.{Fault}
use Rattle.verdict.specs.declared.answers.Cleanness.{Cleanness}
use Rattle.verdict.specs.declared.answers.Writer.{Writer}
use Rattle.verdict.specs.declared.answers.Snapshot.{Snapshot}
use Rattle.text.specs.Bytes.{bytes, blank, line_end}
use Rattle.text.specs.Decimal.{decimal}
use Rattle.text.specs.Line.{item}

-- `refused=C at=P`
unfoldable pub refused_line : ℕ → ℕ → List ℕ
refused_line number place = item (bytes "refused=") (decimal number) blank ++ item (bytes "at=") (decimal place) line_end

-- `committed=N`; the line `steps=N` is a text's header
unfoldable pub committed_line : ℕ → List ℕ
committed_line n = item (bytes "committed=") (decimal n) line_end

-- `clean=`: yes, own at K, aborted at K, unfinal at K
unfoldable pub clean_line : Cleanness → List ℕ
clean_line Cleanness.Yes = bytes "clean=yes\n"
clean_line (Cleanness.Unclean (Fault.Own k)) = item (bytes "clean=own at ") (decimal k) line_end
clean_line (Cleanness.Unclean (Fault.Aborted k)) = item (bytes "clean=aborted at ") (decimal k) line_end
clean_line (Cleanness.Unclean (Fault.Unfinal k)) = item (bytes "clean=unfinal at ") (decimal k) line_end

-- behind a wrong read: wants T from S, where S is the step of T's commit; wants 0, if the store's version was right; wants T, if the reader's own was
unfoldable pub wants : Writer → List ℕ
wants Writer.Store = bytes "wants 0\n"
wants (Writer.Committed t s) = item (bytes "wants ") (decimal t) blank ++ item (bytes "from ") (decimal s) line_end
wants (Writer.Reader t) = item (bytes "wants ") (decimal t) line_end

-- `snapshot=`: yes, read at K wants T from S, write at K with T
unfoldable pub snapshot_line : Snapshot → List ℕ
snapshot_line Snapshot.Yes = bytes "snapshot=yes\n"
snapshot_line (Snapshot.Read k w) = item (bytes "snapshot=read at ") (decimal k) blank ++ wants w
snapshot_line (Snapshot.Write k t) = item (bytes "snapshot=write at ") (decimal k) blank ++ item (bytes "with ") (decimal t) line_end

-- the reason behind a member of a cycle: its kind, and its object; a member of an order has none
unfoldable pub reason : ℕ → ℕ → List ℕ
reason k x =
    provided k is 1 then bytes " ww:" ++ decimal x
    else provided k is 2 then bytes " wr:" ++ decimal x
    else provided k is 3 then bytes " rw:" ++ decimal x
    else []

-- a member, a blank before it
unfoldable pub spelled : Entry → List ℕ
spelled e = bytes " " ++ decimal e.transaction ++ reason e.kind e.object

-- the members of an order or a cycle
unfoldable pub spelled_all : List Entry → List ℕ
spelled_all [] = []
spelled_all (e ∷ w) = spelled e ++ spelled_all w

-- behind the key of a verdict with a witness: order N N .., cycle N KIND:X N KIND:X .., none, unclean at K
unfoldable pub value : Outcome → List ℕ
value (order w) = bytes "order" ++ spelled_all (without_reasons w)
value (cycle c) = bytes "cycle" ++ spelled_all c
value none = bytes "none"
value (unclean f) = bytes "unclean at " ++ decimal (fault_step f)

-- the line of such a verdict
unfoldable pub outcome_line : List ℕ → Outcome → List ℕ
outcome_line key a = item key (value a) line_end

-- `exact=over`, where number 13 turns the search away
unfoldable pub over_line : List ℕ
over_line = bytes "exact=over\n"
