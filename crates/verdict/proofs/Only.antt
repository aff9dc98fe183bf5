-- The statements fix the answers: any two that they allow are equal. The one statement of a call fixes every lent entry too.
use Rattle.std.specs.Prelude.{Result, Ok}
use mathlib.Core.Path.{◌≡◌, refl, sym, ap, ◌∙◌}
use mathlib.Core.Bool.{Bool}
use mathlib.Core.List.{List, [], ◌∷◌}
use Prim.Native.Nat.{ℕ}
use native.Mathlib.Omega.{arith}
use Rattle.words.specs.First.{dictionary, First}
use Rattle.words.specs.Lists.{zeros}
use Rattle.verdict.specs.Limits.{witness_buffer}
use Rattle.verdict.specs.Outcome.{Outcome, order, cycle, unclean, said, OfGraph, shows_order, shows_cycle}
use Rattle.verdict.specs.Reason.{with_reasons}
use Rattle.verdict.specs.Witness.{witness}
use Rattle.verdict.specs.Judgement.{Holds, ExactIs, over, searched, Judges, JudgeAnswer, refused, judged}
use Rattle.verdict.specs.declared.answers.Witnessed.{Witnessed}
use Rattle.verdict.specs.declared.answers.Exactness.TheVariants.{Over, Searched}
use Rattle.verdict.specs.declared.answers.ExactWitnessed.{ExactWitnessed}
use Rattle.verdict.specs.declared.answers.Judgement.{Judgement}
use Rattle.verdict.specs.Answers.{Answer, Snapshot, Refusal, Checked, Passed, Refused}
use Rattle.verdict.specs.declared.answers.Fault.{Fault}
use Rattle.verdict.specs.declared.answers.Cleanness.{Cleanness}
use Rattle.verdict.specs.declared.answers.Cleanness.TheVariants.{Unclean}
use Rattle.verdict.specs.Clean.{cleanness}
use Rattle.verdict.specs.Conflict.{Conflict}
use Rattle.verdict.specs.Version.{Version, version, version_unclean}
use Rattle.verdict.specs.Replay.{explains_loosely}
use Rattle.verdict.specs.Exact.{Exact, exact, exact_none, exact_unclean}
use Rattle.verdict.specs.Next.{Next, next, next_none}
use Rattle.verdict.specs.Call.{Call, turned_away, answered, CleanCall, SnapshotCall, WitnessCall, ConflictCall, VersionCall, ExactCall, NextCall}
use Rattle.graph.specs.Shows as shape
use Rattle.words.proofs.Truth.{and→}
use Rattle.words.proofs.Dictionary.{dictionary_same, first_one}
use Rattle.graph.proofs.Only.{never_first, shows_one}
use Rattle.verdict.proofs.Refused.{one_number, one_place}
use Rattle.verdict.proofs.Cleanly.{clean_cleanness, clean≢unclean}

order≢cycle : shape.Order ≡ shape.Cycle → ⊥
order≢cycle e = let z : ◌≡◌ {A = ℕ} 0 1 = cc in omega arith

same_fault : {c : Cleanness} {f g : Fault} → c ≡ Unclean f → c ≡ Unclean g → f ≡ g
same_fault p q = cc

same_order : {p : List ℕ → Bool} (v w : List ℕ) → First dictionary p v → First dictionary p w → order v ≡ order w
same_order v w f g = ap order (first_one dictionary dictionary_same _ v w f g)

-- what explains loosely explains a clean log
loosely_clean : (most : ℕ) (log : List ℕ) {w : List ℕ} {f : Fault} → First dictionary (explains_loosely most log) w → cleanness log ≡ Unclean f → ⊥
unfolding explains_loosely
loosely_clean most log f c = clean≢unclean (clean_cleanness log (and→ (and→ f.one).0).0) c

module _ {most : ℕ} {log : List ℕ} where
  -- what is shown of a graph is one
  graph_one : {edge : ℕ → ℕ → Bool} {on : ℕ → ℕ → ℕ → ℕ → Bool} {a b : Outcome} → OfGraph most log edge on a → OfGraph most log edge on b → a ≡ b
  graph_one (shows_order s) (shows_order t) = ap order (shows_one s t).1
  graph_one (shows_order s) (shows_cycle t) = absurd (order≢cycle (shows_one s t).0)
  graph_one (shows_cycle s) (shows_order t) = absurd (order≢cycle (sym (shows_one s t).0))
  graph_one {on} (shows_cycle s) (shows_cycle t) = ap (λ (c : List ℕ). cycle (with_reasons on c)) (shows_one s t).1

  pub conflict_one : {a b : Outcome} → Conflict most log a → Conflict most log b → a ≡ b
  conflict_one = graph_one

  pub version_one : {a b : Outcome} → Version most log a → Version most log b → a ≡ b
  version_one (version c s) (version d t) = graph_one s t
  version_one (version c s) (version_unclean d) = absurd (clean≢unclean c d)
  version_one (version_unclean c) (version d t) = absurd (clean≢unclean d c)
  version_one (version_unclean c) (version_unclean d) = ap unclean (same_fault c d)

  pub exact_one : {a b : Outcome} → Exact most log a → Exact most log b → a ≡ b
  exact_one (exact {w = v} f) (exact {w} g) = same_order v w f g
  exact_one (exact f) (exact_none c n) = absurd (never_first n f)
  exact_one (exact f) (exact_unclean c) = absurd (loosely_clean most log f c)
  exact_one (exact_none c n) (exact f) = absurd (never_first n f)
  exact_one (exact_none c n) (exact_none d m) = refl
  exact_one (exact_none c n) (exact_unclean d) = absurd (clean≢unclean c d)
  exact_one (exact_unclean c) (exact f) = absurd (loosely_clean most log f c)
  exact_one (exact_unclean c) (exact_none d m) = absurd (clean≢unclean d c)
  exact_one (exact_unclean c) (exact_unclean d) = ap unclean (same_fault c d)

  pub next_one : {v : List ℕ} {a b : Outcome} → Next most log v a → Next most log v b → a ≡ b
  next_one (next {w = v} f) (next {w} g) = same_order v w f g
  next_one (next f) (next_none n) = absurd (never_first n f)
  next_one (next_none n) (next f) = absurd (never_first n f)
  next_one (next_none n) (next_none m) = refl

-- BY VALUE
-- answers with the same words and members are one
pub same_witnessed : (a b : Witnessed) → a.answer ≡ b.answer → a.list ≡ b.list → a ≡ b
same_witnessed a b p q = λ i. record { answer = p i; list = q i }

pub holds_one : {verdict : Outcome → Type 0} → ((o u : Outcome) → verdict o → verdict u → o ≡ u) → {a b : Witnessed} → Holds verdict a → Holds verdict b → a ≡ b
holds_one one {a} {b} h k =
    let e : h.outcome ≡ k.outcome = one _ _ h.right k.right in
    same_witnessed a b (h.says ∙ ap said e ∙ sym k.says) (h.listed ∙ ap witness e ∙ sym k.listed)

exact_is_one : (log : List ℕ) (e f : ExactWitnessed) → ExactIs log e → ExactIs log f → e ≡ f
exact_is_one log e f (over n s x) (over m t y) =
    let z : n ≡ m = one_place (sym s ∙ t) in
    x ∙ ap (λ (k : ℕ). record { exactness = Over k; list = zeros witness_buffer }) z ∙ sym y
exact_is_one log e f (over n s x) (searched a t y h) = let z : ◌≡◌ {A = ℕ} 0 1 = cc in absurd (omega arith)
exact_is_one log e f (searched a s x h) (over m t y) = let z : ◌≡◌ {A = ℕ} 0 1 = cc in absurd (omega arith)
exact_is_one log e f (searched a s x h) (searched b t y k) =
    let same = holds_one (λ o u p q. exact_one p q) h k in
    let said : e.exactness ≡ f.exactness = x ∙ ap (λ (w : Witnessed). Searched w.answer) same ∙ sym y in
    let list : e.list ≡ f.list = ap (λ (w : Witnessed). w.list) same in
    λ i. record { exactness = said i; list = list i }

-- `judge` has one answer: equal verdicts, and so equal results
judges_one : (log : List ℕ) {i j : Judgement} → Judges log i → Judges log j → i ≡ j
judges_one log {i} {j} h l =
    let b : i.clean ≡ j.clean = h.clean_is ∙ sym l.clean_is in
    let c : i.snapshot ≡ j.snapshot = h.snapshot_is ∙ sym l.snapshot_is in
    let d : i.conflict ≡ j.conflict = holds_one (λ o u p q. conflict_one p q) h.conflict_is l.conflict_is in
    let e : i.version ≡ j.version = holds_one (λ o u p q. version_one p q) h.version_is l.version_is in
    let f : i.exact ≡ j.exact = exact_is_one log _ _ h.exact_is l.exact_is in
    λ t. record { clean = b t; snapshot = c t; conflict = d t; version = e t; exact = f t }

pub judge_one : (log : List ℕ) {r s : Result Judgement Refusal} → JudgeAnswer log r → JudgeAnswer log s → r ≡ s
judge_one log (refused n p g e) (refused m q h f) =
    let same = sym g ∙ h in
    let x = one_number same in
    let y = one_place same in
    e ∙ ap (λ (k : ℕ). Refused k p) x ∙ ap (Refused m) y ∙ sym f
judge_one log (refused n p g e) (judged j h x k) = let z : ◌≡◌ {A = ℕ} 0 1 = cc in absurd (omega arith)
judge_one log (judged j h x k) (refused n p g e) = let z : ◌≡◌ {A = ℕ} 0 1 = cc in absurd (omega arith)
judge_one log (judged i g x h) (judged j k y l) = x ∙ ap Ok (judges_one log h l) ∙ sym y

-- what a call answers and leaves is one, where one refusal is given and its verdict allows one answer
pub call_one : {A R : Type 0} {applies : Checked → Type 0} {verdict : A → Type 0} {says : A → R} {leaves : A → List (List ℕ)} {lent : List (List ℕ)}
    → ((f g : Checked) → applies f → applies g → f ≡ g) → ((a b : A) → verdict a → verdict b → a ≡ b) → {r s : Result R Refusal} {left left' : List (List ℕ)}
    → Call applies verdict says leaves lent r left → Call applies verdict says leaves lent s left' → (r ≡ s) × (left ≡ left')
call_one sole one (turned_away n p e x y) (turned_away m q g u v) =
    let h : Refused n p ≡ Refused m q = sole _ _ e g in
    let i = one_number h in
    let j = one_place h in
    (x ∙ ap (λ (z : ℕ). Refused z p) i ∙ ap (Refused m) j ∙ sym u, y ∙ sym v)
call_one sole one (turned_away n p e x y) (answered a g h u v) = let i : Refused n p ≡ Passed = sole _ _ e g in let k : ◌≡◌ {A = ℕ} 0 1 = cc in absurd (omega arith)
call_one sole one (answered a g h u v) (turned_away n p e x y) = let i : Refused n p ≡ Passed = sole _ _ e g in let k : ◌≡◌ {A = ℕ} 0 1 = cc in absurd (omega arith)
call_one {says} {leaves} sole one (answered a g h u v) (answered b g' h' u' v') =
    let z : a ≡ b = one a b h h' in
    (u ∙ ap (λ (k : _). Ok (says k)) z ∙ sym u', v ∙ ap leaves z ∙ sym v')

-- EACH ENTRY POINT: ITS ANSWER, ITS WORK AREA AND ITS WITNESS
-- equal buffers, one by one
pub buffer_one : {v w : List ℕ} → v ∷ [] ≡ w ∷ [] → v ≡ w
buffer_one e = cc

pub buffers_one : {v w x y : List ℕ} → v ∷ x ∷ [] ≡ w ∷ y ∷ [] → (v ≡ w) × (x ≡ y)
buffers_one e = (cc, cc)

module _ (log : List ℕ) {work : List ℕ} where
  pub clean_call_one : {r s : Result Cleanness Refusal} {v w : List ℕ} → CleanCall log work r v → CleanCall log work s w → (r ≡ s) × (v ≡ w)
  clean_call_one p q = let e = call_one (λ f g h k. h ∙ sym k) (λ a b h k. h ∙ sym k) p q in (e.0, buffer_one e.1)

  pub snapshot_call_one : {r s : Result Snapshot Refusal} {v w : List ℕ} → SnapshotCall log work r v → SnapshotCall log work s w → (r ≡ s) × (v ≡ w)
  snapshot_call_one p q = let e = call_one (λ f g h k. h ∙ sym k) (λ a b h k. h ∙ sym k) p q in (e.0, buffer_one e.1)

-- the calls with a witness, where the verdict allows one answer
pub witness_call_one : (refusal : Checked) {verdict : Outcome → Type 0} {work witness : List ℕ} → ((a b : Outcome) → verdict a → verdict b → a ≡ b)
    → {r s : Result Answer Refusal} {v w x y : List ℕ} → WitnessCall refusal verdict work witness r v x → WitnessCall refusal verdict work witness s w y → (r ≡ s) × (v ≡ w) × (x ≡ y)
witness_call_one refusal one p q = let e = call_one (λ f g h k. h ∙ sym k) one p q in let f = buffers_one e.1 in (e.0, f.0, f.1)

module _ (log : List ℕ) {work witness : List ℕ} {r s : Result Answer Refusal} {v w x y : List ℕ} where
  pub conflict_call_one : ConflictCall log work witness r v x → ConflictCall log work witness s w y → (r ≡ s) × (v ≡ w) × (x ≡ y)
  conflict_call_one = witness_call_one _ (λ a b h k. conflict_one h k)

  pub version_call_one : VersionCall log work witness r v x → VersionCall log work witness s w y → (r ≡ s) × (v ≡ w) × (x ≡ y)
  version_call_one = witness_call_one _ (λ a b h k. version_one h k)

  pub exact_call_one : ExactCall log work witness r v x → ExactCall log work witness s w y → (r ≡ s) × (v ≡ w) × (x ≡ y)
  exact_call_one = witness_call_one _ (λ a b h k. exact_one h k)

  pub next_call_one : (order : List ℕ) → NextCall log order work witness r v x → NextCall log order work witness s w y → (r ≡ s) × (v ≡ w) × (x ≡ y)
  next_call_one handed_in = witness_call_one _ (λ a b h k. next_one h k)
