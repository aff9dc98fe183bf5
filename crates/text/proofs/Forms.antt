-- Forms that follow one another in a text, and the line of a step as four of them.
use Rattle.std.specs.Prelude.{Option, None, Some}
use mathlib.Core.Path.{◌≡◌, refl, sym, ap, subst, ◌∙◌}
use mathlib.Core.Bool.{Bool, true, false}
use mathlib.Core.List.{List, [], ◌∷◌, ◌++◌, append_assoc}
use Prim.Native.Nat.{ℕ}
use Rattle.words.specs.Tests.{◌upto◌, ◌and◌}
use Rattle.words.proofs.Truth.{not_both, and→, →and}
use Rattle.text.specs.Bytes.{bytes, blank, line_end}
use Rattle.text.specs.Decimal.{decimal}
use Rattle.text.specs.Line.{item, op, line, sayable, has_word, sayable_step}
use Rattle.text.specs.Reading.{NoLine}
use Rattle.text.specs.Inner.Finds.{is_digit, Finds}
use Rattle.text.proofs.Spelling.{Beyond, the_same, longer, decimal_beyond}
use Rattle.text.proofs.Items.{item_front, same_front}
use Rattle.text.proofs.Words.{op_one}

-- at the front of a text a form has one value that passes, and leaves one rest
abbrev pub Free : (ℕ → List ℕ) → (ℕ → Bool) → Type 0
Free form passes = (a b : ℕ) (x y : List ℕ) → passes a ≡ true → passes b ≡ true → form a ++ x ≡ form b ++ y → (a ≡ b) × (x ≡ y)

pub op_free : Free op has_word
op_free a b x y p q e =
    let i : a ≡ b = op_one a b x y p q e in
    (i, same_front (op b) x y (sym (ap (λ (k : ℕ). op k ++ x) i) ∙ e))

pub item_free : (key : List ℕ) (behind : ℕ) → is_digit behind ≡ false → Free (λ (n : ℕ). item key (decimal n) behind) sayable
item_free key behind apart a b x y p q e =
    let f : decimal a ++ behind ∷ [] ++ x ≡ decimal b ++ behind ∷ [] ++ y =
    same_front key _ _ (sym (item_front key (decimal a) behind x) ∙ e ∙ item_front key (decimal b) behind y)
    in
    go (decimal_beyond a b behind (behind ∷ x) y apart (sym (tail a x) ∙ f ∙ tail b y))
  where
    tail : (n : ℕ) (z : List ℕ) → decimal n ++ behind ∷ [] ++ z ≡ decimal n ++ behind ∷ z
    tail n z = append_assoc (decimal n) (behind ∷ []) z

    go : Beyond a b behind (behind ∷ x) y → (a ≡ b) × (x ≡ y)
    go (the_same i j) = (sym i, (cc))
    go (longer d z i j k l) = let m : behind ≡ d = cc in absurd (not_both j (rw m at apart))

-- what a function that finds a form has said, once its answer is known
module _ (form : ℕ → List ℕ) (passes : ℕ → Bool) (text : List ℕ) (at : ℕ) {r : Option (ℕ × ℕ)} (f : Finds form passes text at r) where
  pub found : {n next : ℕ} → r ≡ Some (n, next) → Finds form passes text at (Some (n, next))
  found e = subst (Finds form passes text at) e f

  pub not_found : r ≡ None → Finds form passes text at None
  not_found e = subst (Finds form passes text at) e f

-- the text begins with this form and goes on as `more` says
pub record Begins (form : ℕ → List ℕ) (passes : ℕ → Bool) (more : List ℕ → Type 0) (bytes : List ℕ) : Type 0 where
  pub a : ℕ
  pub rest : List ℕ
  pub fine : passes a ≡ true
  pub is : bytes ≡ form a ++ rest
  pub on : more rest

pub begins_not : {form : ℕ → List ℕ} {passes : ℕ → Bool} {more : List ℕ → Type 0} {bytes : List ℕ}
    → ((a : ℕ) (rest : List ℕ) → passes a ≡ true → bytes ≡ form a ++ rest → ⊥) → Begins form passes more bytes → ⊥
begins_not f h = f h.a h.rest h.fine h.is

pub goes_not_on : {form : ℕ → List ℕ} {passes : ℕ → Bool} {more : List ℕ → Type 0} {bytes : List ℕ} (a : ℕ) (rest : List ℕ) → Free form passes
    → passes a ≡ true → bytes ≡ form a ++ rest → (more rest → ⊥) → Begins form passes more bytes → ⊥
goes_not_on {more} a rest free p e f h =
    let i : rest ≡ h.rest = (free a h.a rest h.rest p h.fine (sym e ∙ h.is)).1 in
    f (subst more (sym i) h.on)

pub blank_apart : is_digit blank ≡ false
unfolding is_digit ◌and◌ ◌upto◌
blank_apart = refl

pub line_end_apart : is_digit line_end ≡ false
unfolding is_digit ◌and◌ ◌upto◌
line_end_apart = refl

-- the four parts of a line
unfoldable pub tx_item : ℕ → List ℕ
tx_item t = item (bytes "tx=") (decimal t) blank

unfoldable pub obj_item : ℕ → List ℕ
obj_item x = item (bytes "obj=") (decimal x) blank

unfoldable pub from_item : ℕ → List ℕ
from_item s = item (bytes "from=") (decimal s) line_end

pub line_parts : (k t x s : ℕ) (rest : List ℕ) → line k t x s ++ rest ≡ op k ++ (tx_item t ++ (obj_item x ++ (from_item s ++ rest)))
unfolding line tx_item obj_item from_item
line_parts k t x s rest = simp append_assoc

pub tx_free : Free tx_item sayable
unfolding tx_item
tx_free = item_free (bytes "tx=") blank blank_apart

pub obj_free : Free obj_item sayable
unfolding obj_item
obj_free = item_free (bytes "obj=") blank blank_apart

pub from_free : Free from_item sayable
unfolding from_item
from_free = item_free (bytes "from=") line_end line_end_apart

-- a line's parts, one after another
abbrev pub Parts : List ℕ → Type 0
Parts = Begins op has_word (Begins tx_item sayable (Begins obj_item sayable (Begins from_item sayable (λ (rest : List ℕ). Unit {0}))))

pub no_parts : {bytes : List ℕ} → (Parts bytes → ⊥) → NoLine bytes
unfolding sayable_step
no_parts f k t x s rest p e =
    let q = and→ p in
    let r = and→ q.0 in
    let u = and→ r.0 in
    f
    (record {
      a = k;
      rest = tx_item t ++ (obj_item x ++ (from_item s ++ rest));
      fine = u.0;
      is = e ∙ line_parts k t x s rest;
      on = record {
        a = t;
        rest = obj_item x ++ (from_item s ++ rest);
        fine = u.1;
        is = refl;
        on = record {
          a = x;
          rest = from_item s ++ rest;
          fine = r.1;
          is = refl;
          on = record { a = s; rest = rest; fine = q.1; is = refl; on = tt };
        };
      };
    })

-- four parts that follow one another are a line
pub a_line : {bytes y z w : List ℕ} (k t x s : ℕ) (rest : List ℕ) → bytes ≡ op k ++ y → y ≡ tx_item t ++ z → z ≡ obj_item x ++ w → w ≡ from_item s ++ rest
    → bytes ≡ line k t x s ++ rest
a_line k t x s rest a b c d =
    a
    ∙ ap (λ (u : List ℕ). op k ++ u) (b ∙ ap (λ (u : List ℕ). tx_item t ++ u) (c ∙ ap (λ (u : List ℕ). obj_item x ++ u) d))
    ∙ sym (line_parts k t x s rest)

pub →step : (k t x s : ℕ) → has_word k ≡ true → sayable t ≡ true → sayable x ≡ true → sayable s ≡ true → sayable_step k t x s ≡ true
unfolding sayable_step
→step k t x s a b c d = →and (→and (→and a b) c) d
