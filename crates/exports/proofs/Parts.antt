-- The parts that the header's macros take of a C call's number: they are the numbers of an answer that the call allows, and these tell the answer.
use mathlib.Core.Path.{◌≡◌, refl, sym, ap, ◌∙◌}
use mathlib.Core.List.{List}
use Prim.Native.Nat.{ℕ, suc, ◌/◌, ◌%◌}
use native.Mathlib.Omega.{arith}
use Rattle.words.specs.Tests.{◌is◌, provided◌then◌else◌}
use Rattle.words.proofs.Truth.{provided_false, →isnt}
use Rattle.verdict.specs.Limits.{transactions, most_steps}
use Rattle.verdict.specs.Snapshot.{snapshot_verdict}
use Rattle.std.specs.Prelude.{Result, Ok, Err}
use Rattle.verdict.specs.Answers.{Refused}
use Rattle.verdict.specs.declared.answers.Refusal.{Refusal}
use Rattle.verdict.specs.declared.answers.Cleanness.{Cleanness}
use Rattle.verdict.specs.declared.answers.Snapshot.{Snapshot}
use Rattle.verdict.specs.declared.answers.Answer.{Answer}
use Rattle.verdict.specs.Call.{turned_away, answered, CleanCall, SnapshotCall, ConflictCall, VersionCall, ExactCall, NextCall}
use Rattle.verdict.specs.declared.answers.Fault.{Fault}
use Rattle.verdict.specs.declared.answers.Fault.TheVariants.{Own, Aborted, Unfinal}
use Rattle.verdict.specs.declared.answers.Cleanness.TheVariants as cleanness
use Rattle.verdict.specs.declared.answers.Snapshot.TheVariants as snapshot
use Rattle.verdict.specs.declared.answers.Writer.{Writer}
use Rattle.verdict.specs.declared.answers.Writer.TheVariants.{Store, Committed, Reader}
use Rattle.verdict.specs.declared.answers.Answer.TheVariants as answer
use Rattle.verdict.proofs.WellFormed.{else_try→}
use Rattle.verdict.proofs.Bounds.{WriterUpto, store_fine, committed_upto, reader_upto, SnapshotUpto, read_upto, snapshot_few}
use Rattle.text.specs.ReadCall.{ReadCall}
use Rattle.text.specs.ReportCall.{ReportCall}
use Rattle.text.specs.WriteCall.{WriteCall}
use Rattle.live.specs.LiveCall.{Buffers, LiveCall}
use Rattle.plan.specs.AcceptsCall.{AcceptsCall}
use Rattle.plan.specs.RedoCall.{RedoCall}
use Rattle.plan.specs.declared.answers.Acceptance.{Acceptance}
use Rattle.exports.specs.Packed.{Numbers, fault_numbers, clean_numbers, read_numbers, snapshot_numbers, witness_numbers, count_numbers, live_numbers, accepts_numbers, packed, Packs, packs}
use Rattle.exports.proofs.Values.{Short, clean_short, snapshot_short, conflict_short, version_short, exact_short, next_short, read_short, report_short, write_short, live_short, accepts_short, redo_short}

-- the header's macros
unfoldable pub kind_of : ℕ → ℕ
kind_of r = r % 65536

unfoldable pub first_of : ℕ → ℕ
first_of r = r / 65536 % 65536

unfoldable pub second_of : ℕ → ℕ
second_of r = r / 65536 / 65536 % 65536

unfoldable pub third_of : ℕ → ℕ
third_of r = r / 65536 / 65536 / 65536 % 65536

-- THE PARTS ARE THE NUMBERS OF AN ANSWER THAT THE CALL ALLOWS
abbrev pub Parts : {A : Type 0} → (A → Type 0) → (A → Numbers) → ℕ → Type 0
Parts {A} call numbers r =
    (a : A) × call a × (kind_of r ≡ (numbers a).kind) × (first_of r ≡ (numbers a).first) × (second_of r ≡ (numbers a).second) × (third_of r ≡ (numbers a).third)

pub parts_told : {A : Type 0} {call : A → Type 0} {numbers : A → Numbers} {r : ℕ} → ((a : A) → call a → Short (numbers a)) → Packs call numbers r → Parts call numbers r
unfolding kind_of first_of second_of third_of packed
parts_told {numbers} short (packs a c e) =
    let h = short a c in
    let i = h.kind_short in
    let j = h.first_short in
    let k = h.second_short in
    let l = h.third_short in
    (a, c, omega arith, omega arith, omega arith, omega arith)

module _ (log : List ℕ) {work work' : List ℕ} {r : ℕ} where
  pub clean_parts : Packs (λ a. CleanCall log work a work') clean_numbers r → Parts (λ a. CleanCall log work a work') clean_numbers r
  clean_parts = parts_told (λ a c. clean_short log work c)

  pub snapshot_parts : Packs (λ a. SnapshotCall log work a work') snapshot_numbers r → Parts (λ a. SnapshotCall log work a work') snapshot_numbers r
  snapshot_parts = parts_told (λ a c. snapshot_short log work c)

module _ (log : List ℕ) {work witness work' witness' : List ℕ} {r : ℕ} where
  pub conflict_parts : Packs (λ a. ConflictCall log work witness a work' witness') witness_numbers r → Parts (λ a. ConflictCall log work witness a work' witness') witness_numbers r
  conflict_parts = parts_told (λ a c. conflict_short work witness log c)

  pub version_parts : Packs (λ a. VersionCall log work witness a work' witness') witness_numbers r → Parts (λ a. VersionCall log work witness a work' witness') witness_numbers r
  version_parts = parts_told (λ a c. version_short work witness log c)

  pub exact_parts : Packs (λ a. ExactCall log work witness a work' witness') witness_numbers r → Parts (λ a. ExactCall log work witness a work' witness') witness_numbers r
  exact_parts = parts_told (λ a c. exact_short work witness log c)

  pub next_parts : (handed_in : List ℕ) → Packs (λ a. NextCall log handed_in work witness a work' witness') witness_numbers r
      → Parts (λ a. NextCall log handed_in work witness a work' witness') witness_numbers r
  next_parts handed_in = parts_told (λ a c. next_short work witness log handed_in c)

module _ {text buffer buffer' : List ℕ} {r : ℕ} where
  pub read_parts : Packs (λ a. ReadCall text buffer a buffer') count_numbers r → Parts (λ a. ReadCall text buffer a buffer') count_numbers r
  read_parts = parts_told (λ a c. read_short c)

  pub report_parts : Packs (λ a. ReportCall text buffer a buffer') count_numbers r → Parts (λ a. ReportCall text buffer a buffer') count_numbers r
  report_parts = parts_told (λ a c. report_short buffer c)

module _ (log : List ℕ) {out out' : List ℕ} {r : ℕ} where
  pub write_parts : Packs (λ a. WriteCall log out a out') count_numbers r → Parts (λ a. WriteCall log out a out') count_numbers r
  write_parts = parts_told (λ a c. write_short log out c)

pub live_parts : {part answers answers' : List ℕ} {b left : Buffers} {r : ℕ} → Packs (λ a. LiveCall b part answers a left answers') live_numbers r → Parts (λ a. LiveCall b part answers a left answers') live_numbers r
live_parts = parts_told (λ a c. live_short c)

pub accepts_parts : (log proposal : List ℕ) {work work' : List ℕ} {r : ℕ} → Packs (λ a. AcceptsCall log proposal work a work') accepts_numbers r → Parts (λ a. AcceptsCall log proposal work a work') accepts_numbers r
accepts_parts log proposal {work} = parts_told (λ a c. accepts_short log proposal work c)

pub redo_parts : (log : List ℕ) {work proposal work' proposal' : List ℕ} {r : ℕ} → Packs (λ a. RedoCall log work proposal a work' proposal') count_numbers r → Parts (λ a. RedoCall log work proposal a work' proposal') count_numbers r
redo_parts log {work} {proposal} = parts_told (λ a c. redo_short log work proposal c)

-- THE NUMBERS TELL THE ANSWER
-- what has a way back is told apart
apart : {A : Type 0} (numbers : A → Numbers) (back : Numbers → A) → ((a : A) → back (numbers a) ≡ a) → {a b : A} → numbers a ≡ numbers b → a ≡ b
apart numbers back h {a} {b} e = sym (h a) ∙ ap back e ∙ h b

fault_back : Numbers → Fault
fault_back n = provided n.kind is 4 then Aborted n.first else provided n.kind is 5 then Unfinal n.first else Own n.first

pub clean_numbers_one : {a b : Result Cleanness Refusal} → clean_numbers a ≡ clean_numbers b → a ≡ b
unfolding clean_numbers fault_numbers fault_back provided◌then◌else◌ ◌is◌
clean_numbers_one = apart clean_numbers back told
  where
    back : Numbers → Result Cleanness Refusal
    back n =
        provided n.kind is 0 then Refused n.first n.second
        else provided n.kind is 7 then Ok cleanness.Yes else Ok (cleanness.Unclean (fault_back n))

    told : (a : Result Cleanness Refusal) → back (clean_numbers a) ≡ a
    told (Err e) = refl
    told (Ok cleanness.Yes) = refl
    told (Ok (cleanness.Unclean (Own k))) = refl
    told (Ok (cleanness.Unclean (Aborted k))) = refl
    told (Ok (cleanness.Unclean (Unfinal k))) = refl

-- a transaction that a wrong read should have found is not 0, which stands for the store, and the step of its commit is not 0, which stands for the reader
abbrev pub Named : Result Snapshot Refusal → Type 0
Named a = (k : ℕ) (w : Writer) → a ≡ Ok (snapshot.Read k w) → WriterUpto most_steps (suc transactions) w

upto_named : {n m k : ℕ} {w : Writer} → SnapshotUpto n m (snapshot.Read k w) → WriterUpto n m w
upto_named (read_upto h w) = w

pub snapshot_named : (log work : List ℕ) {a : Result Snapshot Refusal} {work' : List ℕ} → SnapshotCall log work a work' → Named a
snapshot_named log work (turned_away n p e x y) k w h = let z : ◌≡◌ {A = ℕ} 0 1 = cc in absurd (omega arith)
snapshot_named log work (answered v e j x y) k w h =
    let z : snapshot_verdict transactions log ≡ snapshot.Read k w = cc in
    upto_named {n = most_steps} {m = suc transactions} (rw z at (snapshot_few log (else_try→ (sym e)).1))

writer_back : Numbers → Writer
writer_back n = provided n.second is 0 then Store else provided n.third is 0 then Reader n.second else Committed n.second n.third

writer_told : {n m : ℕ} (k : ℕ) {w : Writer} → WriterUpto n m w → writer_back (read_numbers k w) ≡ w
unfolding read_numbers writer_back provided◌then◌else◌ ◌is◌
writer_told k store_fine = refl
writer_told k (committed_upto {t} {s} o h p i) = provided_false _ _ (→isnt {m = t} {n = 0} (λ z. omega (arith, z, o))) ∙ provided_false _ _ (→isnt {m = s} {n = 0} (λ z. omega (arith, z, p)))
writer_told k (reader_upto {t} o h) = provided_false _ _ (→isnt {m = t} {n = 0} (λ z. omega (arith, z, o)))

pub snapshot_numbers_one : {a b : Result Snapshot Refusal} → Named a → Named b → snapshot_numbers a ≡ snapshot_numbers b → a ≡ b
unfolding snapshot_numbers read_numbers provided◌then◌else◌ ◌is◌
snapshot_numbers_one {a} {b} f g e = sym (told a f) ∙ ap back e ∙ told b g
  where
    back : Numbers → Result Snapshot Refusal
    back n =
        provided n.kind is 0 then Refused n.first n.second
        else provided n.kind is 7 then Ok snapshot.Yes
        else provided n.kind is 8 then Ok (snapshot.Read n.first (writer_back n)) else Ok (snapshot.Write n.first n.second)

    -- a wrong read is told by its kind, its step and its writer
    read_told : (k : ℕ) (w : Writer) → back (read_numbers k w) ≡ Ok (snapshot.Read k (writer_back (read_numbers k w)))
    read_told k Store = refl
    read_told k (Committed t s) = refl
    read_told k (Reader t) = refl

    told : (a : Result Snapshot Refusal) → Named a → back (snapshot_numbers a) ≡ a
    told (Err e) f = refl
    told (Ok snapshot.Yes) f = refl
    told (Ok (snapshot.Read k w)) f = read_told k w ∙ ap (λ (v : Writer). Ok (snapshot.Read k v)) (writer_told k (f k w refl))
    told (Ok (snapshot.Write k t)) f = refl

pub witness_numbers_one : {a b : Result Answer Refusal} → witness_numbers a ≡ witness_numbers b → a ≡ b
unfolding witness_numbers fault_numbers fault_back provided◌then◌else◌ ◌is◌
witness_numbers_one = apart witness_numbers back told
  where
    back : Numbers → Result Answer Refusal
    back n =
        provided n.kind is 0 then Refused n.first n.second
        else provided n.kind is 1 then Ok (answer.Order n.first)
        else provided n.kind is 2 then Ok (answer.Cycle n.first)
        else provided n.kind is 3 then Ok answer.None else Ok (answer.Unclean (fault_back n))

    told : (a : Result Answer Refusal) → back (witness_numbers a) ≡ a
    told (Err e) = refl
    told (Ok (answer.Order n)) = refl
    told (Ok (answer.Cycle n)) = refl
    told (Ok answer.None) = refl
    told (Ok (answer.Unclean (Own k))) = refl
    told (Ok (answer.Unclean (Aborted k))) = refl
    told (Ok (answer.Unclean (Unfinal k))) = refl

pub count_numbers_one : {a b : Result ℕ Refusal} → count_numbers a ≡ count_numbers b → a ≡ b
unfolding count_numbers provided◌then◌else◌ ◌is◌
count_numbers_one = apart count_numbers back told
  where
    back : Numbers → Result ℕ Refusal
    back n = provided n.kind is 0 then Refused n.first n.second else Ok n.first

    told : (a : Result ℕ Refusal) → back (count_numbers a) ≡ a
    told (Err e) = refl
    told (Ok n) = refl

pub live_numbers_one : {a b : Result (Unit {0}) Refusal} → live_numbers a ≡ live_numbers b → a ≡ b
unfolding live_numbers provided◌then◌else◌ ◌is◌
live_numbers_one = apart live_numbers back told
  where
    back : Numbers → Result (Unit {0}) Refusal
    back n = provided n.kind is 0 then Refused n.first n.second else Ok tt

    told : (a : Result (Unit {0}) Refusal) → back (live_numbers a) ≡ a
    told (Err e) = refl
    told (Ok u) = refl

pub accepts_numbers_one : {a b : Result Acceptance Refusal} → accepts_numbers a ≡ accepts_numbers b → a ≡ b
unfolding accepts_numbers provided◌then◌else◌ ◌is◌
accepts_numbers_one = apart accepts_numbers back told
  where
    back : Numbers → Result Acceptance Refusal
    back n = provided n.kind is 0 then Refused n.first n.second else provided n.kind is 7 then Ok Acceptance.Yes else Ok Acceptance.No

    told : (a : Result Acceptance Refusal) → back (accepts_numbers a) ≡ a
    told (Err e) = refl
    told (Ok Acceptance.Yes) = refl
    told (Ok Acceptance.No) = refl
