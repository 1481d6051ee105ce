-- Lists of bytes: classes of all their bytes, the bytes of a class in front, fixed bytes in front, equal lists. Assumes nothing.
use Prim.Native.Nat.{ℕ, zero, suc, ◌≤◌, ◌<◌}
use mathlib.Core.Path.{◌≡◌, refl, sym, ap, ◌∙◌}
use mathlib.Core.Bool.{Bool, true, false, not, ◌&&◌}
use mathlib.Core.List.{List, [], ◌∷◌, ◌++◌, map}
use native.Mathlib.Omega.{arith}
use lib.ListN.{length, drop, replicate, take-append-drop}
use lib.Seq.{take-append_seam, drop-append_seam}
use lib.Dec.{eqb}
use borrow.Author.Tests.{eqb-true, eq-eqb, not-true, not-false, ne_eqb, eqb-false}
use Rattle.paper.specs.Bytes.{all, starts_in, elem, length_in, front, behind, up_to, onward, past, same, starts_with}
use Rattle.paper.proofs.Tests.{split, true_false, apart, either}

-- ---- two tests

pub both : (a b : Bool) → a && b ≡ true → (a ≡ true) × (b ≡ true)
both true b e = (refl, e)
both false b e = true_false (sym e)

pub and : {a b : Bool} → a ≡ true → b ≡ true → a && b ≡ true
and {a} {b} e f = rw (e, f)

pub is_not : {a : Bool} → a ≡ false → not a ≡ true
is_not e = rw e

-- ---- an empty list or its first element

-- what holds of an empty list and of any other holds
pub by_front : {A X : Type 0} (l : List A) → (l ≡ [] → X) → ((a : A) (m : List A) → l ≡ a ∷ m → X) → X
by_front [] none some = none refl
by_front (a ∷ m) none some = some a m refl

-- a list of no length is empty
pub empty_is : {A : Type 0} (l : List A) → eqb (length l) 0 ≡ true → l ≡ []
empty_is [] e = refl
empty_is (a ∷ l) e = absurd (omega (arith, eqb-true (length (a ∷ l)) 0 e))

-- ---- every byte of a class

pub all_head : {A : Type 0} (class : A → Bool) (a : A) (l : List A) → all class (a ∷ l) ≡ true → (class a ≡ true) × (all class l ≡ true)
unfolding all
all_head class a l e = both (class a) (all class l) e

pub all_nil : {A : Type 0} (class : A → Bool) → all class [] ≡ true
unfolding all
all_nil class = refl

pub all_cons : {A : Type 0} (class : A → Bool) (a : A) (l : List A) → class a ≡ true → all class l ≡ true → all class (a ∷ l) ≡ true
unfolding all
all_cons class a l e f = rw (e, f)

-- of a wider class too; of two lists in one; of the images
pub all_weaken : {A : Type 0} (p q : A → Bool) → ((a : A) → p a ≡ true → q a ≡ true) → (l : List A) → all p l ≡ true → all q l ≡ true
all_weaken p q h [] e = all_nil q
all_weaken p q h (a ∷ l) e =
    let k = all_head p a l e in
    all_cons q a l (h a k.0) (all_weaken p q h l k.1)

pub all_append : {A : Type 0} (class : A → Bool) (v w : List A) → all class v ≡ true → all class w ≡ true → all class (v ++ w) ≡ true
all_append class [] w e f = f
all_append class (a ∷ v) w e f = let h = all_head class a v e in all_cons class a (v ++ w) h.0 (all_append class v w h.1 f)

pub all_map : {A B : Type 0} (f : A → B) (class : B → Bool) (l : List A) → all class (map f l) ≡ all (λ a. class (f a)) l
unfolding all
all_map f class [] = refl
all_map f class (a ∷ l) = ap (λ (t : Bool). class (f a) && t) (all_map f class l)

-- ---- a byte that is one of these

-- a byte of a class is none of these if none of these is of the class
pub elem_apart : (class : ℕ → Bool) (b : ℕ) (cs : List ℕ) → class b ≡ true → all (λ c. not (class c)) cs ≡ true → elem b cs ≡ false
unfolding elem
elem_apart class b [] e a = refl
elem_apart class b (c ∷ cs) e a = let h = all_head _ c cs a in rw (apart class b c e (not-true (class c) h.0)) (elem_apart class b cs e h.1)

-- one of these is one of more
-- a byte that is one of these, all of which are of the class
pub all_among : (class : ℕ → Bool) (b : ℕ) (cs : List ℕ) → elem b cs ≡ true → all class cs ≡ true → class b ≡ true
unfolding elem
all_among class b [] e a = true_false (sym e)
all_among class b (c ∷ cs) e a =
    let h = all_head class c cs a in either (eqb b c) (elem b cs) e (λ k. rw (eqb-true b c k) h.0) (λ k. all_among class b cs k h.1)

pub elem_more : (b : ℕ) (cs ds : List ℕ) → elem b cs ≡ true → elem b (cs ++ ds) ≡ true
unfolding elem
elem_more b [] ds e = true_false (sym e)
elem_more b (c ∷ cs) ds e = either (eqb b c) (elem b cs) e (λ f. rw f) (λ f. split (eqb b c) (λ g. rw g) (λ g. rw g (elem_more b cs ds f)))

pub elem_right : (b : ℕ) (cs ds : List ℕ) → elem b ds ≡ true → elem b (cs ++ ds) ≡ true
unfolding elem
elem_right b [] ds e = e
elem_right b (c ∷ cs) ds e = split (eqb b c) (λ f. rw f) (λ f. rw f (elem_right b cs ds e))

-- a byte that is none of these is none of some of them
abbrev pub without : List ℕ → ℕ → Bool
without cs b = not (elem b cs)

pub without_less : (cs ds : List ℕ) (b : ℕ) → without (cs ++ ds) b ≡ true → without ds b ≡ true
without_less cs ds b e = split (elem b ds) (λ f. true_false (sym e ∙ ap not (elem_right b cs ds f))) (λ f. is_not f)

-- ---- the first byte of a class

-- of a wider class too; of more bytes
pub starts_weaken : (p q : ℕ → Bool) → ((b : ℕ) → p b ≡ true → q b ≡ true) → (w : List ℕ) → starts_in p w ≡ true → starts_in q w ≡ true
unfolding starts_in
starts_weaken p q h [] e = true_false (sym e)
starts_weaken p q h (b ∷ w) e = h b e

pub starts_append : (class : ℕ → Bool) (v w : List ℕ) → starts_in class v ≡ true → starts_in class (v ++ w) ≡ true
unfolding starts_in
starts_append class [] w e = true_false (sym e)
starts_append class (b ∷ v) w e = e

-- then there is one; and it is of no class apart, and no byte outside the class
pub starts_some : (class : ℕ → Bool) (w : List ℕ) → starts_in class w ≡ true → 0 < length w
unfolding starts_in
starts_some class [] e = true_false (sym e)
starts_some class (b ∷ w) e = omega arith

pub starts_off : (p q : ℕ → Bool) → ((b : ℕ) → p b ≡ true → q b ≡ false) → (w : List ℕ) → starts_in p w ≡ true → starts_in q w ≡ false
unfolding starts_in
starts_off p q h [] e = refl
starts_off p q h (b ∷ w) e = h b e

pub starts_apart : (class : ℕ → Bool) (c : ℕ) (w : List ℕ) → starts_in class w ≡ true → class c ≡ false → starts_in (λ b. eqb b c) w ≡ false
starts_apart class c w e f = starts_off class _ (λ b h. apart class b c h f) w e

-- ---- the bytes of a class in front

pub front_all : (class : ℕ → Bool) (s : List ℕ) → all class (front class s) ≡ true
unfolding length_in all
front_all class [] = refl
front_all class (b ∷ l) = split (class b) (λ e. rw (e, length_in) (rw (e, front_all class l))) (λ e. rw (e, length_in))

pub front_behind : (class : ℕ → Bool) (s : List ℕ) → front class s ++ behind class s ≡ s
front_behind class s = take-append-drop (length_in class s) s

pub behind_stops : (class : ℕ → Bool) (s : List ℕ) → starts_in class (behind class s) ≡ false
unfolding length_in starts_in
behind_stops class [] = refl
behind_stops class (b ∷ l) = split (class b) (λ e. rw (e, length_in) (behind_stops class l)) (λ e. rw (e, length_in) e)

pub front_length : (class : ℕ → Bool) (w next : List ℕ) → all class w ≡ true → starts_in class next ≡ false → length_in class (w ++ next) ≡ length w
unfolding length_in all starts_in
front_length class [] [] a e = refl
front_length class [] (b ∷ l) a e = rw (e, length_in)
front_length class (c ∷ w) next a e = let h = both (class c) (all class w) a in rw (h.0, length_in) (ap suc (front_length class w next h.1 e))

pub length_in_lem : (class : ℕ → Bool) (s : List ℕ) → length_in class s ≤ length s
unfolding length_in
length_in_lem class [] = omega arith
length_in_lem class (b ∷ l) = split (class b) (λ e. rw (e, length_in) (omega (arith, length_in_lem class l))) (λ e. rw (e, length_in) (omega arith))

same_suc : (m n : ℕ) → eqb (suc m) (suc n) ≡ eqb m n
same_suc m n = split (eqb m n) (λ e. rw (e, eq-eqb (suc m) (suc n) (ap suc (eqb-true m n e))))
    (λ e. rw (e, ne_eqb (suc m) (suc n) (λ q. eqb-false m n e (omega arith))))

-- a list has only bytes of a class where the run of them is as long as the list
pub all_run : (class : ℕ → Bool) (s : List ℕ) → eqb (length_in class s) (length s) ≡ all class s
unfolding length_in all
all_run class [] = refl
all_run class (b ∷ l) =
    split (class b)
    (λ e. rw (e, length_in) (same_suc (length_in class l) (length l) ∙ all_run class l))
    (λ e. rw (e, length_in, ne_eqb 0 (suc (length l)) (λ q. omega arith)))

pub front_of : (class : ℕ → Bool) (w next : List ℕ) → all class w ≡ true → starts_in class next ≡ false → front class (w ++ next) ≡ w
front_of class w next a e = rw (front_length class w next a e) (take-append_seam w next)

pub behind_of : (class : ℕ → Bool) (w next : List ℕ) → all class w ≡ true → starts_in class next ≡ false → behind class (w ++ next) ≡ next
behind_of class w next a e = rw (front_length class w next a e) (drop-append_seam w next)

-- at least those that are known to be
-- in two parts at the first byte of a class
pub marked : (class : ℕ → Bool) (w : List ℕ) (b : ℕ) (l : List ℕ) → onward class w ≡ b ∷ l → (class b ≡ true) × (w ≡ up_to class w ++ (b ∷ l))
unfolding starts_in
marked class w b l e = (
  not-false (class b) (rw e at (behind_stops (λ c. not (class c)) w)),
  sym (front_behind (λ c. not (class c)) w) ∙ ap (λ (x : List ℕ). up_to class w ++ x) e,
)

-- so, or without such a byte
pub by_mark : {X : Type 0} (class : ℕ → Bool) (w : List ℕ) → (onward class w ≡ [] → X)
    → ((b : ℕ) → class b ≡ true → w ≡ up_to class w ++ (b ∷ past class w) → X) → X
by_mark class w none some =
    by_front (onward class w) none (λ b l e. let h = marked class w b l e in some b h.0 (h.1 ∙ ap (λ (x : List ℕ). up_to class w ++ (b ∷ x)) (rw e)))

pub front_least : (class : ℕ → Bool) (w next : List ℕ) → all class w ≡ true → length w ≤ length_in class (w ++ next)
unfolding length_in
front_least class [] next a = omega arith
front_least class (c ∷ w) next a = let h = all_head class c w a in rw (h.0, length_in) (omega (arith, front_least class w next h.1))

-- a run of one byte
pub all_same : (b n : ℕ) → all (λ c. eqb c b) (replicate n b) ≡ true
unfolding all
all_same b zero = refl
all_same b (suc n) = rw (eq-eqb b b refl, all_same b n)

pub same_byte : (b : ℕ) (w : List ℕ) → all (λ c. eqb c b) w ≡ true → w ≡ replicate (length w) b
same_byte b [] e = refl
same_byte b (c ∷ w) e =
    let h = all_head (λ d. eqb d b) c w e in
    rw (eqb-true c b h.0) (ap (λ (l : List ℕ). b ∷ l) (same_byte b w h.1))

-- ---- fixed bytes in front

pub starts_is : (p s : List ℕ) → starts_with p s ≡ true → s ≡ p ++ drop (length p) s
unfolding starts_with
starts_is [] s e = refl
starts_is (b ∷ p) [] e = true_false (sym e)
starts_is (b ∷ p) (c ∷ s) e =
    split (eqb c b) (λ h. rw (eqb-true c b h) (ap (λ (l : List ℕ). b ∷ l) (starts_is p s (rw (h, starts_with) at e)))) (λ h. true_false (sym (rw (h, starts_with) at e)))

pub starts_of : (p next : List ℕ) → starts_with p (p ++ next) ≡ true
unfolding starts_with
starts_of [] next = refl
starts_of (b ∷ p) next = rw (eq-eqb b b refl, starts_with) (starts_of p next)

-- a byte that is not of the class does not stand before a list that begins in it
pub starts_not : (class : ℕ → Bool) (p : ℕ) (w : List ℕ) → starts_in class w ≡ true → class p ≡ false → starts_with (p ∷ []) w ≡ false
unfolding starts_with starts_in
starts_not class p [] e f = refl
starts_not class p (b ∷ w) e f = rw (apart class b p e f, starts_with)

-- ---- equal lists

pub same_is : (v w : List ℕ) → same v w ≡ true → v ≡ w
unfolding same
same_is [] [] e = refl
same_is [] (b ∷ w) e = true_false (sym e)
same_is (a ∷ v) [] e = true_false (sym e)
same_is (a ∷ v) (b ∷ w) e =
    split (eqb a b) (λ h. rw (eqb-true a b h) (ap (λ (l : List ℕ). b ∷ l) (same_is v w (rw (h, same) at e)))) (λ h. true_false (sym (rw (h, same) at e)))

pub same_of : (w : List ℕ) → same w w ≡ true
unfolding same
same_of [] = refl
same_of (b ∷ w) = rw (eq-eqb b b refl, same) (same_of w)
