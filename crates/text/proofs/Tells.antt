-- How an answer by value that a verdict allows is told: as the outcome that it holds. Its line is put where it has room.
use Rattle.std.specs.Prelude.{Ok}
use mathlib.Core.Path.{◌≡◌, refl, sym, ap, ◌∙◌}
use mathlib.Core.List.{List, ◌++◌}
use Prim.Native.Nat.{ℕ, ◌+◌, ◌-◌, ◌*◌, ◌≤◌}
use native.Mathlib.Omega.{arith}
use lib.ListN.{length, length-append}
use Rattle.words.specs.Lists.{zeros, entries}
use Rattle.verdict.specs.Limits.{transactions, witness_buffer}
use Rattle.verdict.specs.Reason.{Entry}
use Rattle.verdict.specs.Witness.{in_threes, witness, entries_in}
use Rattle.verdict.specs.Outcome.{Outcome, order, cycle, none, unclean, said, members}
use Rattle.verdict.specs.Judgement.{Holds, ExactIs, over, searched, Judges, JudgeAnswer, refused, judged}
use Rattle.verdict.specs.Refusal.{log_refusal, search_refusal}
use Rattle.verdict.specs.Exact.{Exact}
use Rattle.verdict.specs.Answers.{Passed, Refused}
use Rattle.verdict.specs.declared.answers.Answer.{Answer}
use Rattle.verdict.specs.declared.answers.Exactness.TheVariants.{Over, Searched}
use Rattle.verdict.specs.declared.answers.Witnessed.{Witnessed}
use Rattle.verdict.specs.declared.answers.ExactWitnessed.{ExactWitnessed}
use Rattle.verdict.specs.declared.answers.Judgement.{Judgement}
use Rattle.verdict.proofs.Refused.{one_number, one_place}
use Rattle.verdict.proofs.Threes.{plain_length, threes_length, read_entries}
use Rattle.text.specs.Bytes.{bytes, line_end}
use Rattle.text.specs.Line.{item}
use Rattle.text.specs.ReportLine.{spelled_all, value, outcome_line, over_line}
use Rattle.text.specs.Report.{ExactLine, exact_over}
use Rattle.text.specs.Inner.Put.{Fits, Puts, PutsLine}
use Rattle.text.specs.Inner.Told.{told, told_entries}
use Rattle.text.proofs.Puts.{known_fits, known_puts}

-- where the members of an outcome stand first in a list, its answer tells it
said_told : (a : Outcome) (list : List ℕ) → entries_in (length (members a)) list ≡ members a → told (said a) list ≡ value a
unfolding told said members value
said_told (order w) list e = ap (λ (n : ℕ). bytes "order" ++ spelled_all (entries_in n list)) (sym (plain_length w)) ∙ ap (λ (u : List Entry). bytes "order" ++ spelled_all u) e
said_told (cycle c) list e = ap (λ (u : List Entry). bytes "cycle" ++ spelled_all u) e
said_told none list e = refl
said_told (unclean f) list e = refl

said_entries : (a : Outcome) → told_entries (said a) ≡ length (members a)
unfolding told_entries said members
said_entries (order w) = sym (plain_length w)
said_entries (cycle c) = refl
said_entries none = refl
said_entries (unclean f) = refl

module _ {verdict : Outcome → Type 0} {found : Witnessed} (h : Holds verdict found) where
  abbrev its : List Entry
  its = members h.outcome

  first_members : entries_in (length its) found.list ≡ its
  unfolding witness entries
  first_members = ap (entries_in (length its)) h.listed ∙ read_entries its (zeros (witness_buffer - length (in_threes its)))

  tells : told found.answer found.list ≡ value h.outcome
  tells = ap (λ (x : Answer). told x found.list) h.says ∙ said_told h.outcome found.list first_members

  tells_there : 3 * told_entries found.answer ≤ length found.list
  unfolding witness entries
  tells_there =
      let z = zeros (witness_buffer - length (in_threes its)) in
      let e : length found.list ≡ length (in_threes its) + length z = ap length h.listed ∙ length-append (in_threes its) z in
      let f : told_entries found.answer ≡ length its = ap told_entries h.says ∙ said_entries h.outcome in
      omega (arith, threes_length its)

  -- its line behind a key: it has room where `most` bytes have, and is put
  module _ (most : ℕ) (passes : List ℕ → Type 0) (key : List ℕ) (line : passes (outcome_line key h.outcome)) (short : length (outcome_line key h.outcome) ≤ most)
      (l : List ℕ) (place : ℕ) where
    pub line_fits : place + most ≤ length l
        → (3 * told_entries found.answer ≤ length found.list) × Fits (item key (told found.answer found.list) line_end) place l
    unfolding outcome_line
    line_fits k = (tells_there, known_fits (λ (v : List ℕ). item key v line_end) (sym tells) l place (omega arith))

    pub line_puts : {next : ℕ} {l' : List ℕ} → Puts (item key (told found.answer found.list) line_end) place l next l' → PutsLine most passes place l next l'
    unfolding outcome_line
    line_puts p = (outcome_line key h.outcome, line, short, known_puts (λ (v : List ℕ). item key v line_end) (sym tells) l place p)

-- THE EXACT VERDICT, WHERE ITS CASE IS KNOWN
module _ {log : List ℕ} {found : ExactWitnessed} (is : ExactIs log found) where
  pub over_line_told : {n : ℕ} → found.exactness ≡ Over n → ExactLine log over_line
  over_line_told k = go is
    where
      go : ExactIs log found → ExactLine log over_line
      go (over m e f) = exact_over m e
      go (searched a e f h) = let z : ◌≡◌ {A = ℕ} 0 1 = cc in absurd (omega arith)

  module _ {a : Answer} (k : found.exactness ≡ Searched a) where
    pub exact_told : (search_refusal log ≡ Passed) × Holds (Exact transactions log) (record { answer = a; list = found.list })
    exact_told = go is
      where
        go : ExactIs log found → (search_refusal log ≡ Passed) × Holds (Exact transactions log) (record { answer = a; list = found.list })
        go (over m e f) = let z : ◌≡◌ {A = ℕ} 0 1 = cc in absurd (omega arith)
        go (searched b e f h) = let i : b ≡ a = cc in (e, rw i at h)

-- WHAT `judge` ANSWERS, WHERE ITS CASE IS KNOWN
pub judge_refused : {log : List ℕ} {n p : ℕ} → JudgeAnswer log (Refused n p) → log_refusal log ≡ Refused n p
judge_refused {n} {p} (refused m q e f) = e ∙ ap (λ (k : ℕ). Refused k q) (sym (one_number f)) ∙ ap (Refused n) (sym (one_place f))
judge_refused (judged j e f h) = let z : ◌≡◌ {A = ℕ} 0 1 = cc in absurd (omega arith)

pub judge_passed : {log : List ℕ} {j : Judgement} → JudgeAnswer log (Ok j) → (log_refusal log ≡ Passed) × Judges log j
judge_passed (refused m q e f) = let z : ◌≡◌ {A = ℕ} 0 1 = cc in absurd (omega arith)
judge_passed {log} {j} (judged i e f h) = let g : i ≡ j = cc in (e, rw g at h)
