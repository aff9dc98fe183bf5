-- Every list over some numbers, tried in order: in dictionary order, or the shorter first. What passes is then found in that order.
use mathlib.Core.Path.{◌≡◌, refl, sym, ap, ◌∙◌}
use mathlib.Core.Bool.{Bool, true, false, false≢true}
use mathlib.Core.Logic.{◌⊎◌, inl, inr, ⊎_elim}
use mathlib.Core.List.{List, [], ◌∷◌, ◌++◌}
use Prim.Native.Nat.{ℕ, zero, suc, ◌<◌}
use native.Mathlib.Nat.{not-suc-le-zero}
use native.Mathlib.Omega.{arith}
use lib.ListN.{length}
use Rattle.words.specs.Tests.{◌below◌, ◌and◌, provided◌then◌else◌}
use Rattle.words.specs.Lists.{member, all}
use Rattle.words.specs.First.{dictionary, shorter, First, Never, later}
use Rattle.words.specs.Listed.{Among, here, further, Rises, rises_none, rises_more, Listed}
use Rattle.words.proofs.Truth.{decide, not_both, to_false, and→, →and, →or_left, →or_right, →is, below→, →below, not_below→, provided_true, provided_false}
use Rattle.words.proofs.Dictionary.{dictionary_same, dictionary_asym, first_one}
use Rattle.words.proofs.Places.{member→, all→, member_head, member_tail}

-- the numbers below n that pass, ascending, and then the list l
unfoldable pub ascending : ℕ → (ℕ → Bool) → List ℕ → List ℕ
ascending zero p l = l
ascending (suc n) p l = ascending n p (provided p n then n ∷ l else l)

-- cs rises
unfoldable pub rising : List ℕ → Bool
rising [] = true
rising (a ∷ l) = all (λ b. a below b) l and rising l

-- c put before each list
unfoldable pub put_before : ℕ → List (List ℕ) → List (List ℕ)
put_before c [] = []
put_before c (w ∷ ws) = (c ∷ w) ∷ put_before c ws

-- each of cs put before each list
unfoldable pub each_before : List ℕ → List (List ℕ) → List (List ℕ)
each_before [] ws = []
each_before (c ∷ cs) ws = put_before c ws ++ each_before cs ws

-- every list of k members of cs, and every list of fewer than k
unfoldable pub tuples : ℕ → List ℕ → List (List ℕ)
tuples zero cs = [] ∷ []
tuples (suc k) cs = each_before cs (tuples k cs)

unfoldable pub short_tuples : ℕ → List ℕ → List (List ℕ)
short_tuples zero cs = []
short_tuples (suc k) cs = short_tuples k cs ++ tuples k cs

-- those that pass
unfoldable pub sift : (List ℕ → Bool) → List (List ℕ) → List (List ℕ)
sift p [] = []
sift p (w ∷ ws) = provided p w then w ∷ sift p ws else sift p ws

-- WHAT IS AMONG THEM
no_list : {v : List ℕ} {ws : List (List ℕ)} → Among v ws → ws ≡ [] → ⊥
no_list here e = let z : ◌≡◌ {A = ℕ} 0 1 = cc in omega arith
no_list (further a) e = let z : ◌≡◌ {A = ℕ} 0 1 = cc in omega arith

pub not_among : {v : List ℕ} → Among v [] → ⊥
not_among a = no_list a refl

pub among→ : {v w : List ℕ} {ws : List (List ℕ)} → Among v (w ∷ ws) → (v ≡ w) ⊎ Among v ws
among→ here = inl refl
among→ (further a) = inr a

among_append→ : (v : List ℕ) (l r : List (List ℕ)) → Among v (l ++ r) → Among v l ⊎ Among v r
among_append→ v [] r a = inr a
among_append→ v (w ∷ l) r a =
    ⊎_elim (λ (e : v ≡ w). inl (rw e here)) (λ k. ⊎_elim (λ b. inl (further b)) inr (among_append→ v l r k)) (among→ a)

among_left : (v : List ℕ) (l r : List (List ℕ)) → Among v l → Among v (l ++ r)
among_left v [] r a = absurd (not_among a)
among_left v (w ∷ l) r a = ⊎_elim (λ (e : v ≡ w). rw e here) (λ k. further (among_left v l r k)) (among→ a)

among_right : (v : List ℕ) (l r : List (List ℕ)) → Among v r → Among v (l ++ r)
among_right v [] r a = a
among_right v (w ∷ l) r a = further (among_right v l r a)

-- a list with c before it
record Behind (c : ℕ) (ws : List (List ℕ)) (v : List ℕ) : Type 0 where
  tail : List ℕ
  split : v ≡ c ∷ tail
  inside : Among tail ws

put→ : (c : ℕ) (ws : List (List ℕ)) (v : List ℕ) → Among v (put_before c ws) → Behind c ws v
unfolding put_before
put→ c [] v a = absurd (not_among a)
put→ c (w ∷ ws) v a =
    ⊎_elim (λ (e : v ≡ c ∷ w). record { tail = w; split = e; inside = here })
    (λ k. let b = put→ c ws v k in record { tail = b.tail; split = b.split; inside = further b.inside }) (among→ a)

→put : (c : ℕ) (ws : List (List ℕ)) (v : List ℕ) → Among v ws → Among (c ∷ v) (put_before c ws)
unfolding put_before
→put c [] v a = absurd (not_among a)
→put c (w ∷ ws) v a = ⊎_elim (λ (e : v ≡ w). rw e here) (λ k. further (→put c ws v k)) (among→ a)

each→ : (cs : List ℕ) (ws : List (List ℕ)) (v : List ℕ) → Among v (each_before cs ws) → (c : ℕ) × (member c cs ≡ true) × Behind c ws v
unfolding each_before
each→ [] ws v a = absurd (not_among a)
each→ (c ∷ cs) ws v a =
    ⊎_elim (λ k. (c, member_head c cs, put→ c ws v k)) (λ k. let r = each→ cs ws v k in (r.0, member_tail r.0 c cs r.1, r.2))
    (among_append→ v (put_before c ws) (each_before cs ws) a)

→each : (cs : List ℕ) (ws : List (List ℕ)) (c : ℕ) (v : List ℕ) → member c cs ≡ true → Among v ws → Among (c ∷ v) (each_before cs ws)
unfolding each_before
→each [] ws c v m a = absurd (false≢true (unfold member in m))
→each (b ∷ cs) ws c v m a =
    ⊎_elim (λ (e : c ≡ b). among_left (c ∷ v) (put_before b ws) (each_before cs ws) (rw e (→put b ws v a)))
    (λ k. among_right (c ∷ v) (put_before b ws) (each_before cs ws) (→each cs ws c v k a)) (member→ c b cs m)

pub →tuples : (k : ℕ) (cs v : List ℕ) → length v ≡ k → all (λ t. member t cs) v ≡ true → Among v (tuples k cs)
unfolding tuples
→tuples zero cs [] l m = here
→tuples zero cs (a ∷ v) l m = absurd (omega arith)
→tuples (suc k) cs [] l m = absurd (omega arith)
→tuples (suc k) cs (a ∷ v) l m =
    let m' : (member a cs and all (λ t. member t cs) v) ≡ true = unfold all in m in
    →each cs (tuples k cs) a v (and→ m').0 (→tuples k cs v (omega arith) (and→ m').1)

tuples_length : (k : ℕ) (cs v : List ℕ) → Among v (tuples k cs) → length v ≡ k
unfolding tuples
tuples_length zero cs v a = ⊎_elim (λ (e : v ≡ []). rw e refl) (λ b. absurd (not_among b)) (among→ a)
tuples_length (suc k) cs v a =
    let r = each→ cs (tuples k cs) v a in
    ap length r.2.split ∙ ap suc (tuples_length k cs r.2.tail r.2.inside)

pub →short : (k : ℕ) (cs v : List ℕ) → length v < k → all (λ t. member t cs) v ≡ true → Among v (short_tuples k cs)
unfolding short_tuples
→short zero cs v l m = absurd (not-suc-le-zero l)
→short (suc k) cs v l m =
    ⊎_elim (λ (h : (length v below k) ≡ true). among_left v (short_tuples k cs) (tuples k cs) (→short k cs v (below→ h) m))
    (λ (h : (length v below k) ≡ false). among_right v (short_tuples k cs) (tuples k cs) (→tuples k cs v (omega (arith, not_below→ h)) m)) (decide (length v below k))

short_length : (k : ℕ) (cs v : List ℕ) → Among v (short_tuples k cs) → length v < k
unfolding short_tuples
short_length zero cs v a = absurd (not_among a)
short_length (suc k) cs v a =
    ⊎_elim (λ (h : Among v (short_tuples k cs)). let z : length v < k = short_length k cs v h in omega arith)
    (λ (h : Among v (tuples k cs)). let z : length v ≡ k = tuples_length k cs v h in omega arith) (among_append→ v (short_tuples k cs) (tuples k cs) a)

-- THEY STAND IN ORDER
module _ (earlier : List ℕ → List ℕ → Bool) where
  rises_append : (l r : List (List ℕ)) → Rises earlier l → Rises earlier r → ((v w : List ℕ) → Among v l → Among w r → earlier v w ≡ true) → Rises earlier (l ++ r)
  rises_append [] r a b f = b
  rises_append (w ∷ l) r (rises_more g a) b f =
      rises_more (λ v h. ⊎_elim (g v) (f w v here) (among_append→ v l r h)) (rises_append l r a b (λ v u p q. f v u (further p) q))

  pub sift→ : (p : List ℕ → Bool) (ws : List (List ℕ)) (v : List ℕ) → Among v (sift p ws) → Among v ws × (p v ≡ true)
  unfolding sift
  sift→ p [] v a = absurd (not_among a)
  sift→ p (w ∷ ws) v a = go (decide (p w)) (sift→ p ws v)
    where
      go : (p w ≡ true) ⊎ (p w ≡ false) → (Among v (sift p ws) → Among v ws × (p v ≡ true)) → Among v (w ∷ ws) × (p v ≡ true)
      go (inl h) rec =
          ⊎_elim (λ (e : v ≡ w). rw e (here, h)) (λ k. (further (rec k).0, (rec k).1)) (among→ (rw (provided_true (w ∷ sift p ws) (sift p ws) h) at a))
      go (inr h) rec = let r = rec (rw (provided_false (w ∷ sift p ws) (sift p ws) h) at a) in (further r.0, r.1)

  pub sift_rises : (p : List ℕ → Bool) (ws : List (List ℕ)) → Rises earlier ws → Rises earlier (sift p ws)
  unfolding sift
  sift_rises p [] r = rises_none
  sift_rises p (w ∷ ws) (rises_more g r) = go (decide (p w)) (sift_rises p ws r)
    where
      go : (p w ≡ true) ⊎ (p w ≡ false) → Rises earlier (sift p ws) → Rises earlier (provided p w then w ∷ sift p ws else sift p ws)
      go (inl h) rec = rw (provided_true (w ∷ sift p ws) (sift p ws) h) (rises_more (λ v a. g v (sift→ p ws v a).0) rec)
      go (inr h) rec = rw (provided_false (w ∷ sift p ws) (sift p ws) h) rec

pub →sift : (p : List ℕ → Bool) (ws : List (List ℕ)) (v : List ℕ) → Among v ws → p v ≡ true → Among v (sift p ws)
unfolding sift
→sift p [] v a h = absurd (not_among a)
→sift p (w ∷ ws) v a h = go (decide (p w)) (among→ a) (λ k. →sift p ws v k h)
  where
    go : (p w ≡ true) ⊎ (p w ≡ false) → (v ≡ w) ⊎ Among v ws → (Among v ws → Among v (sift p ws)) → Among v (provided p w then w ∷ sift p ws else sift p ws)
    go (inl k) (inl e) rec = rw (provided_true (w ∷ sift p ws) (sift p ws) k) (rw e here)
    go (inl k) (inr b) rec = rw (provided_true (w ∷ sift p ws) (sift p ws) k) (further (rec b))
    go (inr k) (inl e) rec = absurd (not_both h (rw e k))
    go (inr k) (inr b) rec = rw (provided_false (w ∷ sift p ws) (sift p ws) k) (rec b)

put_rises : (c : ℕ) (ws : List (List ℕ)) → Rises dictionary ws → Rises dictionary (put_before c ws)
unfolding put_before dictionary
put_rises c [] r = rises_none
put_rises c (w ∷ ws) (rises_more g r) =
    rises_more {w = c ∷ w} (λ v a. apart v (put→ c ws v a)) (put_rises c ws r)
  where
    apart : (v : List ℕ) → Behind c ws v → dictionary (c ∷ w) v ≡ true
    apart v b = rw b.split (→or_right _ (→and (→is refl) (g b.tail b.inside)))

each_rises : (cs : List ℕ) (ws : List (List ℕ)) → rising cs ≡ true → Rises dictionary ws → Rises dictionary (each_before cs ws)
unfolding each_before rising
each_rises [] ws h r = rises_none
each_rises (c ∷ cs) ws h r = rises_append dictionary (put_before c ws) (each_before cs ws) (put_rises c ws r) (each_rises cs ws (and→ h).1 r) apart
  where
    apart : (v w : List ℕ) → Among v (put_before c ws) → Among w (each_before cs ws) → dictionary v w ≡ true
    apart v w a b =
        let x = put→ c ws v a in
        let y = each→ cs ws w b in
        rw (x.split, y.2.split) (unfold dictionary in (→or_left _ (all→ _ cs (and→ h).0 y.0 y.1)))

pub tuples_rise : (k : ℕ) (cs : List ℕ) → rising cs ≡ true → Rises dictionary (tuples k cs)
unfolding tuples
tuples_rise zero cs h = rises_more (λ v a. absurd (not_among a)) rises_none
tuples_rise (suc k) cs h = each_rises cs (tuples k cs) h (tuples_rise k cs h)

-- lists of one length that rise in dictionary order rise by length too
by_length : (k : ℕ) (ws : List (List ℕ)) → ((v : List ℕ) → Among v ws → length v ≡ k) → Rises dictionary ws → Rises shorter ws
unfolding shorter
by_length k [] f r = rises_none
by_length k (w ∷ ws) f (rises_more g r) =
    rises_more (λ v a. →or_right _ (→and (→is (f w here ∙ sym (f v (further a)))) (g v a))) (by_length k ws (λ v a. f v (further a)) r)

pub short_rise : (k : ℕ) (cs : List ℕ) → rising cs ≡ true → Rises shorter (short_tuples k cs)
unfolding short_tuples shorter
short_rise zero cs h = rises_none
short_rise (suc k) cs h =
    rises_append shorter (short_tuples k cs) (tuples k cs) (short_rise k cs h) (by_length k (tuples k cs) (tuples_length k cs) (tuples_rise k cs h))
    (λ v w a b. let x : length v < k = short_length k cs v a in let y : length w ≡ k = tuples_length k cs w b in →or_left _ (→below (omega arith)))

-- THE FIRST OF THEM IS THE FIRST THAT PASSES
module _ (earlier : List ℕ → List ℕ → Bool) (asym : (v w : List ℕ) → earlier v w ≡ true → earlier w v ≡ false) (p : List ℕ → Bool) where
  pub head_first : (w : List ℕ) (ws : List (List ℕ)) → Rises earlier (w ∷ ws) → ((v : List ℕ) → p v ≡ true → Among v (w ∷ ws)) → p w ≡ true → First earlier p w
  head_first w ws (rises_more g r) f h =
      record {
        one = h;
        none_earlier = λ v k. ⊎_elim (λ (e : v ≡ w). rw e (to_false _ (λ q. not_both q (asym w w q)))) (λ a. asym w v (g v a)) (among→ (f v k));
      }

  pub empty_never : ((v : List ℕ) → p v ≡ true → Among v []) → Never p
  empty_never f v = to_false _ (λ h. not_among (f v h))

-- ALL THAT PASS, LISTED
module _ (k : ℕ) (p : List ℕ → Bool) (cs : List ℕ) (rises : rising cs ≡ true)
    (over : (v : List ℕ) → p v ≡ true → all (λ t. member t cs) v ≡ true) (long : (v : List ℕ) → p v ≡ true → length v ≡ k) where
  pub tuples_listed : Listed p (sift p (tuples k cs))
  tuples_listed =
      record {
        only = λ w a. (sift→ dictionary p (tuples k cs) w a).1;
        every = λ w h. →sift p (tuples k cs) w (→tuples k cs w (long w h) (over w h)) h;
        rises = sift_rises dictionary p (tuples k cs) (tuples_rise k cs rises);
      }

-- the first of a list of all that pass is the first that passes, and the others are all that come later
pub listed_first : {p : List ℕ → Bool} {w : List ℕ} {ws : List (List ℕ)} → Listed p (w ∷ ws) → First dictionary p w
listed_first {p} {w} {ws} l = head_first dictionary dictionary_asym p w ws l.rises l.every (l.only w here)

pub listed_none : {p : List ℕ → Bool} → Listed p [] → Never p
listed_none {p} l = empty_never dictionary dictionary_asym p l.every

rises→ : {earlier : List ℕ → List ℕ → Bool} {w : List ℕ} {ws : List (List ℕ)} → Rises earlier (w ∷ ws) → ((v : List ℕ) → Among v ws → earlier w v ≡ true) × Rises earlier ws
rises→ (rises_more g r) = (g, r)

pub listed_later : {p : List ℕ → Bool} {w : List ℕ} {ws : List (List ℕ)} → Listed p (w ∷ ws) → Listed (later p w) ws
unfolding later
listed_later {p} {w} {ws} l =
    let r = rises→ l.rises in
    record {
      only = λ v a. →and (l.only v (further a)) (r.0 v a);
      every = λ v h. ⊎_elim (λ (e : v ≡ w). absurd (let q : dictionary w w ≡ true = rw e at (and→ h).1 in not_both q (dictionary_asym w w q))) (λ a. a) (among→ (l.every v (and→ h).0));
      rises = r.1;
    }

-- and the other way round
pub →listed_none : {p : List ℕ → Bool} → Never p → Listed p []
→listed_none n = record { only = λ w a. absurd (not_among a); every = λ w h. absurd (not_both h (n w)); rises = rises_none }

pub →listed : {p : List ℕ → Bool} {w : List ℕ} {ws : List (List ℕ)} → First dictionary p w → Listed (later p w) ws → Listed p (w ∷ ws)
unfolding later
→listed {p} {w} {ws} f l =
    record {
      only = λ v a. ⊎_elim (λ (e : v ≡ w). rw e f.one) (λ b. (and→ (l.only v b)).0) (among→ a);
      every = λ v h. ⊎_elim (λ (k : dictionary w v ≡ true). further (l.every v (→and h k))) (λ (k : dictionary w v ≡ false). rw (dictionary_same v w (f.none_earlier v h) k) here) (decide (dictionary w v));
      rises = rises_more (λ v a. (and→ (l.only v a)).1) l.rises;
    }

-- there is one such list
pub listed_one : {p : List ℕ → Bool} (vs ws : List (List ℕ)) → Listed p vs → Listed p ws → vs ≡ ws
listed_one {p = p} [] [] k l = refl
listed_one {p = p} [] (w ∷ ws) k l = absurd (not_both (l.only w here) (listed_none k w))
listed_one {p = p} (v ∷ vs) [] k l = absurd (not_both (k.only v here) (listed_none l v))
listed_one {p = p} (v ∷ vs) (w ∷ ws) k l =
    let e : v ≡ w = first_one dictionary dictionary_same p v w (listed_first k) (listed_first l) in
    let f : vs ≡ ws = listed_one {p = later p w} vs ws (rw e at (listed_later k)) (listed_later l) in
    cc
