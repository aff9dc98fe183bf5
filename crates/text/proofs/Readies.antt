-- Bytes that stand ready in a number, put whole into a run of bytes: as many as count lead on, and what comes next goes over the others.
use native.Mathlib.Omega.{arith}
use native.Mathlib.Numerals.{add-one}
use mathlib.Core.Path.{◌≡◌, refl, sym, ap, ◌∙◌}
use mathlib.Core.List.{List, [], ◌∷◌, ◌++◌, map, append-nil, append_assoc}
use Prim.Native.Nat.{ℕ, zero, suc, ◌+◌, ◌/◌, ◌%◌, ◌≤◌, ◌<◌}
use lib.ListN.{length, get_or, take, drop, set, length-append, get_or-map}
use lib.Seq.{length-take-le, take_at, take-append-le, take-append-add}
use Rattle.text.specs.Decimal.{decimal}
use Rattle.text.specs.Line.{item}
use Rattle.text.specs.Inner.Put.{put_at, Fits, Puts, Leads}
use Rattle.text.specs.Inner.Ready.{low_bytes, Ready, ReadyDigits}
use Rattle.text.proofs.Puts.{put_more, put_length, puts_nothing}

-- THE BYTES OF A NUMBER
pub low_length : (n w : ℕ) → length (low_bytes n w) ≡ n
unfolding low_bytes
low_length zero w = refl
low_length (suc n) w = omega (arith, low_length n (w / 256))

-- what is left of w without its lowest i bytes
unfoldable pub rest_of : ℕ → ℕ → ℕ
rest_of zero w = w
rest_of (suc i) w = rest_of i (w / 256)

pub rest_first : (w : ℕ) → w ≡ rest_of 0 w
unfolding rest_of
rest_first w = refl

rest_next' : (i w : ℕ) → rest_of i w / 256 ≡ rest_of (suc i) w
unfolding rest_of
rest_next' zero w = refl
rest_next' (suc i) w = rest_next' i (w / 256)

pub rest_next : (i w : ℕ) → rest_of i w / 256 ≡ rest_of (i + 1) w
rest_next i w = rw (add-one i) (rest_next' i w)

low_more : (i w : ℕ) → low_bytes (suc i) w ≡ low_bytes i w ++ rest_of i w % 256 ∷ []
unfolding low_bytes rest_of
low_more zero w = refl
low_more (suc i) w = ap (λ (u : List ℕ). w % 256 ∷ u) (low_more i (w / 256))

-- put one after another
module _ (l : List ℕ) (at w : ℕ) where
  pub low_none : l ≡ put_at at (low_bytes 0 w) l
  unfolding low_bytes
  low_none = (puts_nothing l at).1

  pub low_put : (l' : List ℕ) (i : ℕ) → at + i < length l → l' ≡ put_at at (low_bytes i w) l
      → set l' (at + i) (rest_of i w % 256) ≡ put_at at (low_bytes (i + 1) w) l
  low_put l' i h e =
      let b = rest_of i w % 256 in
      let n : length (low_bytes i w) ≡ i = low_length i w in
      ap (λ (u : List ℕ). set u (at + i) b) e
      ∙ ap (λ (m : ℕ). set (put_at at (low_bytes i w) l) (at + m) b) (sym n)
      ∙ put_more l (low_bytes i w) at b (omega arith)
      ∙ ap (λ (u : List ℕ). put_at at u l) (sym (ap (λ (m : ℕ). low_bytes m w) (add-one i) ∙ low_more i w))

-- WHAT LEADS ON
-- a word that is put, with nothing spoilt
pub puts_lead : (w l : List ℕ) (at : ℕ) → Fits w at l → {next : ℕ} {l' : List ℕ} → Puts w at l next l' → Leads w at l next l'
unfolding put_at
puts_lead w l at fits {next} p =
    let n : length (take at l ++ w) ≡ next = length-append (take at l) w ∙ ap (λ (m : ℕ). m + length w) (length-take-le at l (omega arith)) ∙ sym p.0 in
    record {
      reaches = p.0;
      size = ap length p.1 ∙ put_length w l at fits;
      front = ap (take next) p.1 ∙ take_at (take at l ++ w) (drop (at + length w) l) next n;
    }

pub leads_nothing : (l : List ℕ) (at : ℕ) → Leads [] at l at l
leads_nothing l at = record { reaches = omega arith; size = refl; front = sym (append-nil (take at l)) }

-- two words
pub both_lead : (v w l : List ℕ) (at : ℕ) {next : ℕ} {l' : List ℕ} {end : ℕ} {l'' : List ℕ} → Leads v at l next l' → Leads w next l' end l'' → Leads (v ++ w) at l end l''
both_lead v w l at p q =
    record {
      reaches = omega (arith, length-append v w, p.reaches, q.reaches);
      size = q.size ∙ p.size;
      front = q.front ∙ ap (λ (u : List ℕ). u ++ w) p.front ∙ append_assoc (take at l) v w;
    }

-- a key, its value, and the byte behind them
pub item_leads : (key v : List ℕ) (behind : ℕ) (l : List ℕ) (at : ℕ) {a : ℕ} {l₁ : List ℕ} {b : ℕ} {l₂ : List ℕ} {end : ℕ} {l₃ : List ℕ}
    → Leads key at l a l₁ → Leads v a l₁ b l₂ → Leads (behind ∷ []) b l₂ end l₃ → Leads (item key v behind) at l end l₃
unfolding item
item_leads key v behind l at p q r = both_lead (key ++ v) (behind ∷ []) l at (both_lead key v l at p q) r

-- what stands ready in a number that is put whole
pub ready_leads : (most top w : ℕ) (v l l' : List ℕ) (at : ℕ) → Ready most top w v → length v ≤ most → at + most ≤ length l
    → l' ≡ put_at at (low_bytes most w) l → Leads v at l (at + w / top) l'
unfolding put_at
ready_leads most top w v l l' at r few h e =
    let b = low_bytes most w in
    let c = w / top in
    let n : length b ≡ most = low_length most w in
    let m : length (take at l) ≡ at = length-take-le at l (omega arith) in
    let k : length (take at l ++ b) ≡ at + most = length-append (take at l) b ∙ omega arith in
    record {
      reaches = ap (λ (d : ℕ). at + d) r.counts;
      size = ap length e ∙ put_length b l at (omega arith);
      front =
          ap (take (at + c)) e
          ∙ take-append-le (at + c) (take at l ++ b) (drop (at + length b) l) (omega (arith, r.counts))
          ∙ ap (λ (d : ℕ). take (d + c) (take at l ++ b)) (sym m)
          ∙ take-append-add (take at l) b c
          ∙ ap (λ (u : List ℕ). take at l ++ u) r.says;
    }

-- THE TABLE OF NUMBERS
-- what a function says of n, n + 1, .., so many
unfoldable pub told : {A : Type 0} → (ℕ → A) → ℕ → ℕ → List A
told f zero n = []
told f (suc k) n = f n ∷ told f k (suc n)

told_at : {A : Type 0} (f : ℕ → A) (k n i : ℕ) (d : A) → i < k → get_or (told f k n) i d ≡ f (n + i)
unfolding told
told_at f zero n i d h = absurd (omega arith)
told_at f (suc k) n zero d h = let e : n ≡ n + 0 = omega arith in ap f e
told_at f (suc k) n (suc i) d h = let e : suc n + i ≡ n + suc i = omega arith in told_at f k (suc n) i d (omega arith) ∙ ap f e

-- a table that says of each entry what a function says of its place
by_table : {A : Type 0} (g f : ℕ → A) (table : List ℕ) (k : ℕ) → map g table ≡ told f k 0 → (i : ℕ) → i < k → g (get_or table i 0) ≡ f i
by_table g f table k e i h =
    let z : 0 + i ≡ i = omega arith in
    sym (get_or-map g table i 0) ∙ ap (λ (u : List _). get_or u i (g 0)) e ∙ told_at f k 0 i (g 0) h ∙ ap f z

pub table_ready : (table : List ℕ) → map (λ (w : ℕ). take (w / 16777216) (low_bytes 4 w)) table ≡ told decimal 129 0
    → map (λ (w : ℕ). w / 16777216) table ≡ told (λ (n : ℕ). length (decimal n)) 129 0 → ReadyDigits table
table_ready table e f =
    record {
      each = λ n h. record {
        says = by_table (λ (w : ℕ). take (w / 16777216) (low_bytes 4 w)) decimal table 129 e n h;
        counts = by_table (λ (w : ℕ). w / 16777216) (λ (m : ℕ). length (decimal m)) table 129 f n h;
      };
    }
