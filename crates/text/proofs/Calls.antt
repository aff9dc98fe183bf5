-- What the parts of `read` answer and leave, put together to its statement.
use Rattle.std.specs.Prelude.{Result, Ok, Err}
use mathlib.Core.Path.{◌≡◌, refl, sym, ap, ◌∙◌}
use mathlib.Core.List.{List, [], ◌∷◌, ◌++◌, append-nil, append_assoc}
use Prim.Native.Nat.{ℕ, ◌+◌, ◌≤◌, ◌<◌}
use native.Mathlib.Numerals.{add-one}
use lib.ListN.{length, get_or, drop, drop_of_length-le}
use Rattle.words.specs.Lists.{zeros}
use Rattle.words.proofs.Entries.{into_zeros}
use Rattle.verdict.specs.Limits.{most_steps}
use Rattle.verdict.specs.Answers.{Checked, Refused}
use Rattle.verdict.specs.declared.answers.Refusal.{Refusal}
use Rattle.verdict.specs.Call.{turned_away, answered}
use Rattle.text.specs.Line.{header}
use Rattle.text.specs.Text.{lines, text_of}
use Rattle.text.specs.Reading.{Says, Reading, bad_line, extra, in_form}
use Rattle.text.specs.ReadCall.{most_bytes, step_entries, by_line, leaves_steps, ReadCall}
use Rattle.text.specs.Inner.ReadsCall.{ReadsCall}
use Rattle.text.specs.Inner.Finds.{kept, Passes}
use Rattle.text.proofs.Fronts.{one_byte}
use Rattle.text.proofs.Only.{steps_count, text_parts}

-- a refusal leaves the buffer
pub away : {applies : Checked → Type 0} (text buffer : List ℕ) {buffer' : List ℕ} (number place : ℕ) → applies (Refused number place) → buffer' ≡ buffer
    → ReadsCall applies text buffer (Refused number place) buffer'
away text buffer number place g e = turned_away number place g refl (ap (λ (u : List ℕ). u ∷ []) e)

-- a call that the lines decide
pub lines_decide : {text buffer : List ℕ} {r : Result ℕ Refusal} {buffer' : List ℕ} → length buffer ≡ step_entries → length text ≤ most_bytes
    → ReadsCall (Reading text) text buffer r buffer' → ReadCall text buffer r buffer'
lines_decide p q (turned_away n place g x y) = turned_away n place (by_line p q g) x y
lines_decide p q (answered a g h x y) = answered a (by_line p q g) h x y

-- behind a header in form, whose number is not above the limit
module _ (text : List ℕ) (at n : ℕ) (head : text ≡ header n ++ drop at text) (few : n ≤ most_steps) (buffer : List ℕ) where
  behind_header : (i : ℕ) (log rest : List ℕ) → drop at text ≡ lines i log ++ rest → text ≡ header n ++ lines i log ++ rest
  behind_header i log rest e = head ∙ ap (λ (u : List ℕ). header n ++ u) e ∙ sym (append_assoc (header n) (lines i log) rest)

  -- a pass over the lines into a run of its own leaves the buffer
  pub a_bad_line : (i : ℕ) → Passes text at n [] (Err i) [] → ReadsCall (Reading text) text buffer (Refused 16 (i + 1)) buffer
  a_bad_line i p = away text buffer 16 (i + 1) (rw (add-one i) (bad_line n i p.0 p.1 few p.2 p.3 (behind_header i p.0 p.1 p.4) p.5)) refl

  pub extra_bytes : (found found' : List ℕ) (next : ℕ) → Passes text at n found (Ok next) found' → next < length text
      → ReadsCall (Reading text) text buffer (Refused 16 (n + 1)) buffer
  extra_bytes found found' next p h =
      let e : drop at text ≡ lines n p.0 ++ get_or text next 0 ∷ drop (next + 1) text = p.3 ∙ ap (λ (u : List ℕ). lines n p.0 ++ u) (one_byte text next h) in
      away text buffer 16 (n + 1) (rw (add-one n) (extra n (get_or text next 0) p.0 (drop (next + 1) text) few p.1 (behind_header n p.0 _ e))) refl

  -- the steps, and zeros behind them
  pub all_read : {found buffer' : List ℕ} (next : ℕ) → Passes text at n (zeros step_entries) (Ok next) found → length text ≤ next → buffer' ≡ found
      → ReadsCall (Reading text) text buffer (Ok n) buffer'
  unfolding leaves_steps kept
  all_read next p h e =
      let log = p.0 in
      let s = p.1 in
      let w : text ≡ text_of log =
      head
      ∙ ap (λ (u : List ℕ). header n ++ u) (p.3 ∙ ap (λ (u : List ℕ). lines n log ++ u) (drop_of_length-le text h) ∙ append-nil (lines n log))
      ∙ sym (text_parts s)
      in
      let says : Says text log = record { n = n; few = few; each = s; whole = w } in
      answered log (in_form log says) says (ap Ok (sym (steps_count s)))
      (ap (λ (u : List ℕ). u ∷ []) (e ∙ p.4 ∙ into_zeros step_entries log))
