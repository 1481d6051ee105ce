-- What holds of all that a reading finds, and of the faults that it meets. Assumes nothing.
use Prim.Native.Nat.{ℕ, suc, ◌-◌, ◌≤◌}
use mathlib.Core.Path.{◌≡◌, refl, ap, ◌∙◌}
use mathlib.Core.Logic.{◌⊎◌, inl}
use mathlib.Core.List.{List, [], ◌∷◌, ◌++◌}
use native.Mathlib.Nat.{sub_self}
use native.Mathlib.Omega.{arith}
use lib.ListN.{length, drop}
use Rattle.paper.specs.Found.{Found, found, fault, and_then, place_in, Turn, more, over, stop, turn_of}

-- ---- what is left is a tail of the list

pub data Tail : List ℕ → List ℕ → Type 0 where
  whole : {s : List ℕ} → Tail s s
  past : {b : ℕ} {s left : List ℕ} → Tail s left → Tail (b ∷ s) left

pub tail_length : {s left : List ℕ} → Tail s left → length left ≤ length s
tail_length whole = omega arith
tail_length (past t) = omega (arith, tail_length t)

pub tail_then : {s mid left : List ℕ} → Tail s mid → Tail mid left → Tail s left
tail_then whole u = u
tail_then (past t) u = past (tail_then t u)

pub tail_append : (w left : List ℕ) → Tail (w ++ left) left
tail_append [] left = whole
tail_append (b ∷ w) left = past (tail_append w left)

pub tail_drop : (n : ℕ) (s : List ℕ) → Tail s (drop n s)
tail_drop ℕ.zero s = whole
tail_drop (ℕ.suc n) [] = whole
tail_drop (ℕ.suc n) (b ∷ s) = past (tail_drop n s)

-- what is left behind these bytes, and the end, are tails
pub tail_of : (w : List ℕ) {s left : List ℕ} → s ≡ w ++ left → Tail s left
tail_of w {s} {left} e = rw e (tail_append w left)

pub tail_end : (s : List ℕ) → Tail s []
tail_end [] = whole
tail_end (b ∷ s) = past (tail_end s)

-- a tail is what is left at its place
pub tail_place : (s left : List ℕ) → Tail s left → left ≡ drop (place_in s left) s
tail_place s left whole = rw (sub_self (length s))
tail_place (b ∷ s) left (past t) =
    let l = tail_length t in
    let e : suc (length s) - length left ≡ suc (length s - length left) = omega arith in
    rw e (tail_place s left t)

-- ---- what a reading finds, or its fault

-- whatever is found has the property; of a fault nothing is said
abbrev pub Finds : {A : Type 0} → (A → List ℕ → Type 0) → Found A → Type 0
Finds P (found a left) = P a left
Finds P (fault n left) = Unit {0}

pub finds_then : {A B : Type 0} (P : A → List ℕ → Type 0) (Q : B → List ℕ → Type 0) (next : A → List ℕ → Found B) (x : Found A) → Finds P x
    → ((a : A) (left : List ℕ) → P a left → Finds Q (next a left)) → Finds Q (and_then x next)
finds_then P Q next (found a left) h f = f a left h
finds_then P Q next (fault n left) h f = tt

-- the numbers of a sheet's faults behind these: up to 11, and 18
abbrev pub AtMost : ℕ → Type 0
AtMost n = (n ≤ 11) ⊎ (n ≡ 18)

-- a fault of a list: one of the numbers from 4 to 11, or 18, at a place of the list
pub record Fault (s : List ℕ) (n : ℕ) (left : List ℕ) : Type 0 where
  pub least : 4 ≤ n
  pub most : AtMost n
  pub tail : Tail s left

-- a fault of this number at a tail
pub faults : {s left : List ℕ} (n : ℕ) → (4 ≤ n) × (n ≤ 11) → Tail s left → Fault s n left
faults n h t = record { least = h.0; most = inl h.1; tail = t }

pub fault_in : {s mid left : List ℕ} {n : ℕ} → Tail s mid → Fault mid n left → Fault s n left
fault_in t f = record { least = f.least; most = f.most; tail = tail_then t f.tail }

-- whatever is found has the property, and leaves a tail of the list; a fault is one of the list
abbrev pub Reads : {A : Type 0} → List ℕ → (A → List ℕ → Type 0) → Found A → Type 0
Reads s P (found a left) = Tail s left × P a left
Reads s P (fault n left) = Fault s n left

pub reads_in : {s mid : List ℕ} → Tail s mid → {B : Type 0} (Q : B → List ℕ → Type 0) (x : Found B) → Reads mid Q x → Reads s Q x
reads_in t Q (found b left) g = (tail_then t g.0, g.1)
reads_in t Q (fault n left) g = fault_in t g

pub reads_as : {A : Type 0} (s : List ℕ) (P Q : A → List ℕ → Type 0) (x : Found A) → Reads s P x → ((a : A) (left : List ℕ) → P a left → Q a left) → Reads s Q x
reads_as s P Q (found a left) h f = (h.0, f a left h.1)
reads_as s P Q (fault n left) h f = h

-- one reading after another, where a fault of the second may be at a place that the first passed
pub reads_on : {A B : Type 0} (s : List ℕ) (P : A → List ℕ → Type 0) (Q : B → List ℕ → Type 0) (next : A → List ℕ → Found B) (x : Found A) → Reads s P x
    → ((a : A) (left : List ℕ) → Tail s left → P a left → Reads s Q (next a left)) → Reads s Q (and_then x next)
reads_on s P Q next (found a left) h f = f a left h.0 h.1
reads_on s P Q next (fault n left) h f = h

pub reads_then : {A B : Type 0} (s : List ℕ) (P : A → List ℕ → Type 0) (Q : B → List ℕ → Type 0) (next : A → List ℕ → Found B) (x : Found A) → Reads s P x
    → ((a : A) (left : List ℕ) → P a left → Reads left Q (next a left)) → Reads s Q (and_then x next)
reads_then s P Q next x h f = reads_on s P Q next x h (λ a left t p. reads_in t Q (next a left) (f a left p))

-- one reading after another: how they are grouped, and alike ones
pub then_then : {A B C : Type 0} (x : Found A) (f : A → List ℕ → Found B) (g : B → List ℕ → Found C)
    → and_then (and_then x f) g ≡ and_then x (λ a left. and_then (f a left) g)
then_then (found a left) f g = refl
then_then (fault n left) f g = refl

pub then_alike : {A B : Type 0} (x : Found A) (f g : A → List ℕ → Found B) → ((a : A) (left : List ℕ) → f a left ≡ g a left) → and_then x f ≡ and_then x g
then_alike (found a left) f g e = e a left
then_alike (fault n left) f g e = refl

-- two readings that go on alike after whatever the first one finds
pub then_same : {A B : Type 0} (s : List ℕ) (P : A → List ℕ → Type 0) (x : Found A) (f g : A → List ℕ → Found B) → Reads s P x
    → ((a : A) (left : List ℕ) → Tail s left → P a left → f a left ≡ g a left) → and_then x f ≡ and_then x g
then_same s P (found a left) f g h e = e a left h.0 h.1
then_same s P (fault n left) f g h e = refl

-- something made of what is found
pub reads_map : {A B : Type 0} (s : List ℕ) (P : A → List ℕ → Type 0) (Q : B → List ℕ → Type 0) (f : A → B) (x : Found A) → Reads s P x
    → ((a : A) (left : List ℕ) → P a left → Q (f a) left) → Reads s Q (and_then x (λ a left. found (f a) left))
reads_map s P Q f (found a left) h k = (h.0, k a left h.1)
reads_map s P Q f (fault n left) h k = h

-- two readings after one another, put together
pub reads_two : {A B C : Type 0} (s : List ℕ) (P : A → List ℕ → Type 0) (R : List ℕ → B → List ℕ → Type 0) (Q : C → List ℕ → Type 0) (make : A → B → C) (x : Found A)
    (next : List ℕ → Found B)
    → Reads s P x → ((mid : List ℕ) → Reads mid (R mid) (next mid)) → ((a : A) (mid : List ℕ) (b : B) (left : List ℕ) → P a mid → R mid b left → Q (make a b) left)
    → Reads s Q (and_then x (λ a mid. and_then (next mid) (λ b left. found (make a b) left)))
reads_two s P R Q make x next h k f = reads_then s P Q _ x h (λ a mid p. reads_map mid (R mid) Q (make a) (next mid) (k mid) (λ b left r. f a mid b left p r))

-- two readings after one another that find the same, put together
pub two_same : {A B C : Type 0} (s : List ℕ) (P : A → List ℕ → Type 0) (make : A → B → C) (x y : Found A) (p q : List ℕ → Found B)
    → x ≡ y → Reads s P y → ((a : A) (mid : List ℕ) → P a mid → p mid ≡ q mid)
    → and_then x (λ a mid. and_then (p mid) (λ b left. found (make a b) left)) ≡ and_then y (λ a mid. and_then (q mid) (λ b left. found (make a b) left))
two_same {A} {B} s P make x y p q e r f =
    ap (λ (z : Found A). and_then z (λ a mid. and_then (p mid) (λ b left. found (make a b) left))) e
    ∙ then_same s P y _ _ r (λ a mid t h. ap (λ (z : Found B). and_then z (λ b left. found (make a b) left)) (f a mid h))

-- ---- the same of a turn

abbrev pub Turns : {A : Type 0} → List ℕ → (A → List ℕ → Type 0) → (List ℕ → Type 0) → Turn A → Type 0
Turns s P E (more a left) = Tail s left × P a left
Turns s P E (over left) = Tail s left × E left
Turns s P E (stop n left) = Fault s n left

pub turns_of : {A : Type 0} (s : List ℕ) (P : A → List ℕ → Type 0) (E : List ℕ → Type 0) (x : Found A) → Reads s P x → Turns s P E (turn_of x)
turns_of s P E (found a left) h = h
turns_of s P E (fault n left) h = h
