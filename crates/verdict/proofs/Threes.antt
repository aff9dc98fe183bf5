-- The entries of a witness: three numbers each, how they are put in, and how an order is read off.
use mathlib.Core.Path.{◌≡◌, refl, sym, ap, subst, ◌∙◌}
use mathlib.Core.Bool.{Bool}
use mathlib.Core.List.{List, [], ◌∷◌, ◌++◌, map}
use Prim.Native.Nat.{ℕ, zero, suc, ◌+◌, ◌-◌, ◌*◌, ◌≤◌, ◌<◌}
use native.Mathlib.Omega.{arith}
use native.Mathlib.Numerals.{add-one}
use lib.ListN.{length, get_or, set, take, drop, replicate, length-append, length-set, length-map, get_or-map}
use lib.Seq.{take_at, take-suc, take_all, length-take-le, get_or-drop}
use Rattle.words.specs.Lists.{zeros, entries}
use Rattle.verdict.specs.Limits.{transactions, witness_buffer}
use Rattle.verdict.specs.Reason.{Entry, leading_on, with_reasons, without_reasons}
use Rattle.verdict.specs.Outcome.{Outcome}
use Rattle.verdict.specs.Witness.{in_threes, entries_in, read_off}
use Rattle.verdict.specs.Judgement.{Holds}
use Rattle.verdict.specs.Inner.Reasons.{by_value, entry_put}
use Rattle.verdict.specs.declared.answers.Witnessed.{Witnessed}

-- HOW MANY
pub reasons_length : (on : ℕ → ℕ → ℕ → ℕ → Bool) (c : List ℕ) → length (with_reasons on c) ≡ length c
unfolding with_reasons leading_on
reasons_length on [] = refl
reasons_length on (a ∷ c) = go a (a ∷ c)
  where
    go : (home : ℕ) (c : List ℕ) → length (leading_on on home c) ≡ length c
    go home [] = refl
    go home (a ∷ []) = refl
    go home (a ∷ b ∷ c) = ap suc (go home (b ∷ c))

pub plain_length : (w : List ℕ) → length (without_reasons w) ≡ length w
unfolding without_reasons
plain_length w = length-map w _

pub threes_length : (w : List Entry) → length (in_threes w) ≡ 3 * length w
unfolding in_threes
threes_length [] = refl
threes_length (e ∷ w) = let r : length (in_threes w) ≡ 3 * length w = threes_length w in omega arith

threes_more : (w : List Entry) (e : Entry) → in_threes (w ++ e ∷ []) ≡ ((in_threes w ++ e.transaction ∷ []) ++ e.kind ∷ []) ++ e.object ∷ []
unfolding in_threes
threes_more [] e = refl
threes_more (f ∷ w) e = ap (λ (l : List ℕ). f.transaction ∷ f.kind ∷ f.object ∷ l) (threes_more w e)

-- PUT INTO A LIST OF ZEROS
more_length : (w : List ℕ) (v : ℕ) → length (w ++ v ∷ []) ≡ suc (length w)
more_length w v = let e : length (w ++ v ∷ []) ≡ length w + 1 = length-append w (v ∷ []) in omega arith

-- one number more
put_number : (n : ℕ) (w : List ℕ) (v : ℕ) → length w < n → set (entries n w) (length w) v ≡ entries n (w ++ v ∷ [])
unfolding entries zeros
put_number n w v h =
    let e : n - length w ≡ suc (n - suc (length w)) = omega arith in
    let f : n - length (w ++ v ∷ []) ≡ n - suc (length w) = let l : length (w ++ v ∷ []) ≡ suc (length w) = more_length w v in omega arith in
    rw (e, f) (put w (n - suc (length w)))
  where
    put : (w : List ℕ) (k : ℕ) → set (w ++ replicate (suc k) 0) (length w) v ≡ (w ++ v ∷ []) ++ replicate k 0
    put [] k = refl
    put (a ∷ w) k = ap (λ (l : List ℕ). a ∷ l) (put w k)

-- .. at the place behind those that are there
put_behind : (n : ℕ) {l : List ℕ} (w : List ℕ) (v i : ℕ) → l ≡ entries n w → i ≡ length w → i < n → set l i v ≡ entries n (w ++ v ∷ [])
put_behind n {l} w v i e f h = rw (e, f) (put_number n w v (rw (← f) h))

pub put_length : (l : List ℕ) (i t k x : ℕ) → length (entry_put l i t k x) ≡ length l
unfolding entry_put
put_length l i t k x =
    length-set (set (set l (3 * i) t) (3 * i + 1) k) (3 * i + 2) x ∙ length-set (set l (3 * i) t) (3 * i + 1) k ∙ length-set l (3 * i) t

-- the first i numbers, and one more
pub number_more : (n i : ℕ) (w : List ℕ) → i < length w → length w ≤ n → set (entries n (take i w)) i (get_or w i 0) ≡ entries n (take (i + 1) w)
number_more n i w h k =
    let e : length (take i w) ≡ i = length-take-le i w (omega arith) in
    rw (add-one i, take-suc w i 0 h) (put_behind n (take i w) (get_or w i 0) i refl (sym e) (omega arith))

-- an entry more
entry_more : (w : List Entry) (e : Entry) → length w < transactions
    → entry_put (entries witness_buffer (in_threes w)) (length w) e.transaction e.kind e.object ≡ entries witness_buffer (in_threes (w ++ e ∷ []))
unfolding entry_put
entry_more w e h =
    let n : length (in_threes w) ≡ 3 * length w = threes_length w in
    let m : length (in_threes w ++ e.transaction ∷ []) ≡ suc (length (in_threes w)) = more_length (in_threes w) e.transaction in
    let o : length ((in_threes w ++ e.transaction ∷ []) ++ e.kind ∷ []) ≡ suc (length (in_threes w ++ e.transaction ∷ [])) = more_length (in_threes w ++ e.transaction ∷ []) e.kind in
    put_behind witness_buffer _ e.object (3 * length w + 2)
    (put_behind witness_buffer _ e.kind (3 * length w + 1)
    (put_behind witness_buffer (in_threes w) e.transaction (3 * length w) refl (omega arith) (omega arith)) (omega arith) (omega arith)) (omega arith) (omega arith)
    ∙ ap (entries witness_buffer) (sym (threes_more w e))

-- the entries of the first i members, and of one more
module _ (f : ℕ → Entry) (c : List ℕ) where
  abbrev pub first_entries : ℕ → List ℕ
  first_entries i = entries witness_buffer (in_threes (take i (map f c)))

  pub member_more : (i : ℕ) → i < length c → length c ≤ transactions → (e : Entry) → e ≡ f (get_or c i 0)
      → entry_put (first_entries i) i e.transaction e.kind e.object ≡ first_entries (i + 1)
  member_more i h k e same =
      let l : length (map f c) ≡ length c = length-map c f in
      let t : length (take i (map f c)) ≡ i = length-take-le i (map f c) (omega arith) in
      rw (add-one i, take-suc (map f c) i (f 0) (omega arith), get_or-map f c i 0, ← same)
      (subst (λ (j : ℕ). entry_put (first_entries i) j e.transaction e.kind e.object ≡ entries witness_buffer (in_threes (take i (map f c) ++ e ∷ []))) t
      (entry_more (take i (map f c)) e (omega arith)))

  -- all of them
  pub all_entries : (i : ℕ) → i ≡ length c → first_entries i ≡ entries witness_buffer (in_threes (map f c))
  all_entries i e = ap (λ (w : List Entry). entries witness_buffer (in_threes w)) (take_all i (map f c) (omega (arith, length-map c f)))

-- READ OFF A LIST
-- w stands in the first n entries of a list, and is read there as a slice
pub record Front (list : List ℕ) (n : ℕ) (w : List ℕ) : Type 0 where
  pub few : n ≤ transactions
  pub room : n ≤ length list
  pub slice : n ≡ length (take n list)
  pub same : take n list ≡ w

pub front_of : {n : ℕ} {list w : List ℕ} → list ≡ entries transactions w → length list ≡ transactions → n ≡ length w → Front list n w
unfolding entries
front_of {n} {list} {w} e size count =
    let z = zeros (transactions - length w) in
    let g : length list ≡ length (w ++ z) = ap length e in
    let h : length (w ++ z) ≡ length w + length z = length-append w z in
    record { few = omega arith; room = omega arith; slice = sym (length-take-le n list (omega arith)); same = rw e (take_at w z n (sym count)) }

-- entries, where they stand first
pub read_entries : (w : List Entry) (rest : List ℕ) → entries_in (length w) (in_threes w ++ rest) ≡ w
unfolding entries_in in_threes
read_entries [] rest = refl
read_entries (e ∷ w) rest = ap (λ (l : List Entry). e ∷ l) (read_entries w rest)

-- the entries that are read, one by one
pub entries_length : (n : ℕ) (l : List ℕ) → length (entries_in n l) ≡ n
unfolding entries_in
entries_length zero l = refl
entries_length (suc n) l = ap suc (entries_length n (drop 3 l))

pub entry_at : (n : ℕ) (l : List ℕ) (i : ℕ) → i < n → (d : Entry) → get_or (entries_in n l) i d ≡ record { transaction = get_or l (3 * i) 0; kind = get_or l (3 * i + 1) 0; object = get_or l (3 * i + 2) 0 }
unfolding entries_in
entry_at zero l i h d = absurd (omega arith)
entry_at (suc n) l zero h d = refl
entry_at (suc n) l (suc i) h d =
    let later : (m k : ℕ) → 3 + m ≡ k → get_or (drop 3 l) m 0 ≡ get_or l k 0 = λ (m k : ℕ) (e : 3 + m ≡ k). get_or-drop 3 l m 0 ∙ ap (λ (u : ℕ). get_or l u 0) e in
    let t : get_or (drop 3 l) (3 * i) 0 ≡ get_or l (3 * suc i) 0 = later (3 * i) (3 * suc i) (omega arith) in
    let k : get_or (drop 3 l) (3 * i + 1) 0 ≡ get_or l (3 * suc i + 1) 0 = later (3 * i + 1) (3 * suc i + 1) (omega arith) in
    let x : get_or (drop 3 l) (3 * i + 2) 0 ≡ get_or l (3 * suc i + 2) 0 = later (3 * i + 2) (3 * suc i + 2) (omega arith) in
    entry_at n (drop 3 l) i (omega arith) d ∙ (λ j. record { transaction = t j; kind = k j; object = x j })

-- .. and the numbers of their order
pub order_length : (n : ℕ) (l : List ℕ) → length (read_off n l) ≡ n
unfolding read_off
order_length n l = length-map (entries_in n l) _ ∙ entries_length n l

pub order_at : (n : ℕ) (l : List ℕ) (i : ℕ) → i < n → get_or (read_off n l) i 0 ≡ get_or l (3 * i) 0
unfolding read_off
order_at n l i h =
    let d : Entry = record { transaction = 0; kind = 0; object = 0 } in
    get_or-map (λ (e : Entry). e.transaction) (entries_in n l) i d ∙ ap (λ (e : Entry). e.transaction) (entry_at n l i h d)

-- the order of entries that stand first
pub read_order : (w rest : List ℕ) → read_off (length w) (in_threes (without_reasons w) ++ rest) ≡ w
unfolding read_off without_reasons
read_order w rest =
    ap (λ (n : ℕ). map (λ e. e.transaction) (entries_in n (in_threes (without_reasons w) ++ rest))) (sym (plain_length w))
    ∙ ap (map (λ (e : Entry). e.transaction)) (read_entries (without_reasons w) rest) ∙ each w
  where
    each : (w : List ℕ) → map (λ (e : Entry). e.transaction) (without_reasons w) ≡ w
    each [] = refl
    each (t ∷ w) = ap (λ (l : List ℕ). t ∷ l) (each w)

-- an outcome by value
pub held : {verdict : Outcome → Type 0} (o : Outcome) {r : Witnessed} → verdict o → r ≡ by_value o → Holds verdict r
held o v e = record { outcome = o; right = v; says = ap (λ (w : Witnessed). w.answer) e; listed = ap (λ (w : Witnessed). w.list) e }
