-- The steps of a part, taken one after another.
use mathlib.Core.Path.{◌≡◌, refl, sym, ap, subst, ◌∙◌}
use mathlib.Core.List.{List, [], ◌∷◌, ◌++◌, map, append_assoc, append-nil}
use Prim.Native.Nat.{ℕ, suc, ◌+◌, ◌*◌, ◌≤◌, ◌<◌}
use native.Mathlib.Omega.{arith}
use native.Mathlib.Numerals.{add-one}
use lib.ListN.{length, get_or, set, take, drop, length-set, drop_of_length-le}
use lib.Seq.{take_all, take-suc, take-set-le, drop-cons, get_or-set_same}
use Rattle.live.specs.Answers.{answer_number}
use Rattle.live.specs.SoFar.{numbers}
use Rattle.live.specs.Says.{State, says, after, all_says, after_all}
use Rattle.live.specs.Kept.{places, full}
use Rattle.live.specs.declared.step.Live.{Live}
use Rattle.live.specs.declared.step.Told.{Told}
use Rattle.live.specs.Inner.Table.{Table, Sized}
use Rattle.live.specs.Inner.Held.{Holds}
use Rattle.live.specs.Inner.Took.{Takes}
use Rattle.live.specs.Inner.Parts.{TakesPart}

-- the numbers of the answers to a run, from a state
unfoldable pub told : State → List ℕ → List ℕ
told j run = map answer_number (all_says numbers (full numbers places) j run)

unfoldable pub ends : State → List ℕ → State
ends j run = after_all numbers (full numbers places) j run

-- the first step of a run
told_more : (j : State) (k t x s : ℕ) (rest : List ℕ) → told j (k ∷ t ∷ x ∷ s ∷ rest) ≡ answer_number (says numbers (full numbers places) j k t x s) ∷ told (after numbers (full numbers places) j k t x s) rest
unfolding told all_says
told_more j k t x s rest = refl

ends_more : (j : State) (k t x s : ℕ) (rest : List ℕ) → ends j (k ∷ t ∷ x ∷ s ∷ rest) ≡ ends (after numbers (full numbers places) j k t x s) rest
unfolding ends after_all
ends_more j k t x s rest = refl

-- four numbers stand at a place of a run
step_there : (run : List ℕ) (i : ℕ) → 4 * i + 4 ≤ length run
    → drop (4 * i) run ≡ get_or run (4 * i) 0 ∷ get_or run (4 * i + 1) 0 ∷ get_or run (4 * i + 2) 0 ∷ get_or run (4 * i + 3) 0 ∷ drop (4 * (i + 1)) run
step_there run i h =
    let p : 4 * i + 1 ≡ suc (4 * i) = omega arith in
    let q : 4 * i + 2 ≡ suc (suc (4 * i)) = omega arith in
    let r : 4 * i + 3 ≡ suc (suc (suc (4 * i))) = omega arith in
    let w : 4 * (i + 1) ≡ suc (suc (suc (suc (4 * i)))) = omega arith in
    rw (p, q, r, w) (drop-cons run (4 * i) 0 (omega arith)
    ∙ ap (λ (z : List ℕ). get_or run (4 * i) 0 ∷ z) (drop-cons run (suc (4 * i)) 0 (omega arith)
    ∙ ap (λ (z : List ℕ). get_or run (suc (4 * i)) 0 ∷ z) (drop-cons run (suc (suc (4 * i))) 0 (omega arith)
    ∙ ap (λ (z : List ℕ). get_or run (suc (suc (4 * i))) 0 ∷ z) (drop-cons run (suc (suc (suc (4 * i)))) 0 (omega arith)))))

-- from state j the first i steps led to another one, which the rows hold, and their answers stand first
pub record Reached (l : Live) (b : Table) (part answers : List ℕ) (i : ℕ) (j : State) : Type 0 where
  pub now : State
  pub holds : Holds l.standing l.top l.count b now
  pub ending : ends j part ≡ ends now (drop (4 * i) part)
  pub telling : told j part ≡ take i answers ++ told now (drop (4 * i) part)

pub record Taking (l : Live) (b : Table) (part : List ℕ) (n i : ℕ) (l' : Live) (b' : Table) (answers : List ℕ) : Type 0 where
  pub sized : Sized b'
  pub room : l'.count ≤ places
  pub size : length answers ≡ n
  pub whole : length part ≡ 4 * n
  pub far : i ≤ n
  pub reached : (j : State) → Holds l.standing l.top l.count b j → Reached l' b' part answers i j

pub taking_none : {l : Live} {b : Table} (part answers : List ℕ) → Sized b → l.count ≤ places → length part ≡ 4 * length answers → Taking l b part (length answers) 0 l b answers
taking_none part answers size room whole = record { sized = size; room = room; size = refl; whole = whole; far = omega arith; reached = λ j h. record { now = j; holds = h; ending = refl; telling = refl } }

module _ {l l' : Live} {b b' : Table} {part answers : List ℕ} {n i : ℕ} (c : Taking l b part n i l' b' answers) where
  pub taking_more : i < n → {k t x s a v : ℕ} {r : Told} {b'' : Table} → a ≡ 4 * i → k ≡ get_or part a 0 → t ≡ get_or part (a + 1) 0 → x ≡ get_or part (a + 2) 0 → s ≡ get_or part (a + 3) 0
      → Takes l' b' k t x s r b'' → v ≡ answer_number r.said → Taking l b part n (i + 1) r.live b'' (set answers i v)
  taking_more short {k} {t} {x} {s} {a} {v} {r} {b''} e f g h w d m =
      record { sized = d.sized; room = d.room; size = length-set answers i v ∙ c.size; whole = c.whole; far = omega arith; reached = λ j z. one_more (c.reached j z) }
    where
      here : drop (4 * i) part ≡ k ∷ t ∷ x ∷ s ∷ drop (4 * (i + 1)) part
      here = step_there part i (omega (arith, c.whole)) ∙ rw (f, g, h, w, e) refl

      stored : take (i + 1) (set answers i v) ≡ take i answers ++ v ∷ []
      stored =
          ap (λ (z : ℕ). take z (set answers i v)) (add-one i) ∙ take-suc (set answers i v) i 0 (omega (arith, length-set answers i v, c.size))
          ∙ rw (take-set-le i answers i v (omega arith), get_or-set_same answers i v 0 (omega (arith, c.size))) refl

      one_more : {j : State} → Reached l' b' part answers i j → Reached r.live b'' part (set answers i v) (i + 1) j
      one_more q =
          record {
            now = after numbers (full numbers places) q.now k t x s;
            holds = d.holds q.now q.holds;
            ending = q.ending ∙ ap (ends q.now) here ∙ ends_more q.now k t x s (drop (4 * (i + 1)) part);
            telling = q.telling ∙ ap (λ (z : List ℕ). take i answers ++ z) (ap (told q.now) here ∙ told_more q.now k t x s (drop (4 * (i + 1)) part)
                ∙ ap (λ (z : ℕ). z ∷ told (after numbers (full numbers places) q.now k t x s) (drop (4 * (i + 1)) part)) (ap answer_number (sym (d.answers q.now q.holds)) ∙ sym m))
                ∙ sym (append_assoc (take i answers) (v ∷ []) _) ∙ ap (λ (z : List ℕ). z ++ told (after numbers (full numbers places) q.now k t x s) (drop (4 * (i + 1)) part)) (sym stored);
          }

  pub taking_all : n ≤ i → (before : List ℕ) → length before ≡ n → TakesPart l b part before l' b' answers
  unfolding told ends all_says after_all
  taking_all done before e =
      record {
        sized = c.sized;
        room = c.room;
        size = c.size ∙ sym e;
        answered = λ j h. sym (let q = c.reached j h in q.telling ∙ rw (nothing, take_all i answers (omega (arith, c.size))) (append-nil answers));
        holds = λ j h. let q = c.reached j h in subst (Holds l'.standing l'.top l'.count b') (sym (q.ending ∙ ap (after_all numbers (full numbers places) q.now) nothing)) q.holds;
      }
    where
      nothing : drop (4 * i) part ≡ []
      nothing = drop_of_length-le part {i = 4 * i} (omega (arith, c.whole))
