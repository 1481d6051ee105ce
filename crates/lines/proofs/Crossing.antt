-- Crossing over between what code answers at places and what the paper's readings find in what is left of a list.
-- Over plain lists and any reading. Assumes nothing.
use Prim.Native.Nat.{ℕ, suc, ◌*◌, ◌≤◌, ◌<◌}
use mathlib.Core.Path.{◌≡◌, refl, sym, ap, ◌∙◌}
use mathlib.Core.Bool.{Bool, false}
use mathlib.Core.List.{List, []}
use native.Mathlib.Nat.{sub-zero}
use native.Mathlib.Omega.{arith}
use lib.ListN.{length, drop, length-drop}
use lib.Dec.{leb}
use Rattle.std.specs.Prelude.{Result, Ok, Err}
use Rattle.std.specs.Result.{IsErrAnd}
use borrow.Author.Tests.{leb-false}
use Rattle.paper.specs.Answer.{number_of, refused_at}
use Rattle.paper.specs.declared.Refused.{Refused}
use Rattle.paper.specs.declared.Refusal.{Refusal}
use Rattle.paper.specs.declared.Refusal.TheVariants.{Cut}
use Rattle.paper.specs.Found.{Found, found, fault, and_then}
use Rattle.paper.specs.Entries.{Entry, entry_cells}
use Rattle.paper.proofs.Finds.{Reads}
use Rattle.text.proofs.Places.{place_back}
use Rattle.text.proofs.Answers.{FaultAt, Tells, found_to, fault_to}
use Rattle.entries.specs.Laid.{lay, Fits}
use Rattle.entries.specs.declared.Slot.{Slot}
use Rattle.lines.specs.Parts.{Seen, seen, entryless, reached, seen_of, passed, Makes}
use Rattle.lines.specs.declared.part.Part.{Part}

-- ---- what is left of a list, by its place

-- what is shorter begins further on
pub further : (s : List ℕ) (at end : ℕ) → length (drop end s) < length (drop at s) → at < end
further s at end h = omega (arith, length-drop at s, length-drop end s)

-- ---- the ways out: an answer and what a definition finds

module _ {A : Type 0} (size own : A → ℕ) (s : List ℕ) (x : Found A) (r : Result Part Refused) where
  -- the input is cut
  pub says_cut : r ≡ Err (refused_at Cut (length s)) → x ≡ fault 9 [] → seen r ≡ seen_of size own s x
  says_cut e f = rw (e, f, sub-zero (length s))

  -- the fault is at a place
  pub says_refused : (why : Refusal) (at : ℕ) → r ≡ Err (refused_at why at) → at ≤ length s → x ≡ fault (number_of why) (drop at s)
      → seen r ≡ seen_of size own s x
  says_refused why at e h f = rw (e, f, place_back s at h)

  -- read up to a place
  pub says_read : (a : A) (p : Part) → r ≡ Ok p → p.end ≤ length s → x ≡ found a (drop p.end s) → p.made ≡ size a → p.own ≡ own a
      → seen r ≡ seen_of size own s x
  says_read a p e h f m o = rw (e, f, place_back s p.end h, m, o)

-- read up to a place by a part that makes no entry
pub reaches : {A : Type 0} (s : List ℕ) (x : Found A) (a : A) (end : ℕ) → end ≤ length s → x ≡ found a (drop end s) → reached (Ok end) ≡ passed s x
reaches s x a end h f = says_read (λ a. 0) (λ a. 0) s x (entryless (Ok end)) a (record { end = end; made = 0; own = 0 }) refl h f refl refl

-- something made of what is found, and sizes that are the same
pub seen_map : {A B : Type 0} (size own : B → ℕ) (s : List ℕ) (f : A → B) (x : Found A)
    → seen_of size own s (and_then x (λ a left. found (f a) left)) ≡ seen_of (λ a. size (f a)) (λ a. own (f a)) s x
seen_map size own s f (found a left) = refl
seen_map size own s f (fault n left) = refl

pub seen_same : {A : Type 0} (f g p q : A → ℕ) (s : List ℕ) (x : Found A) → ((a : A) → f a ≡ p a) → ((a : A) → g a ≡ q a) → seen_of f g s x ≡ seen_of p q s x
seen_same f g p q s (found a left) e h = rw (e a, h a)
seen_same f g p q s (fault n left) e h = refl

-- ---- an answer taken apart

-- what is found by a part that is read from a place to an end
pub record FoundAt {A : Type 0} (size own : A → ℕ) (P : A → List ℕ → Type 0) (s : List ℕ) (at : ℕ) (x : Found A) (end made mine : ℕ) : Type 0 where
  pub it : A
  pub finds : x ≡ found it (drop end s)
  pub holds : P it (drop end s)
  pub many : size it ≡ made
  pub owned : own it ≡ mine
  pub ahead : at ≤ end
  pub inside : end ≤ length s

module _ {A : Type 0} (size own : A → ℕ) (s : List ℕ) (r : Result Part Refused) where
  -- the number and the place of an answer are those of what is found
  tells : (x : Found A) → seen r ≡ seen_of size own s x → Tells s x (seen r).number (seen r).place
  tells (found a left) e = (ap (λ (y : Seen). y.number) e, ap (λ (y : Seen). y.place) e)
  tells (fault n left) e = (ap (λ (y : Seen). y.number) e, ap (λ (y : Seen). y.place) e)

  pub found_at_lem : (P : A → List ℕ → Type 0) (at : ℕ) (x : Found A) (p : Part) → seen r ≡ seen_of size own s x → Reads (drop at s) P x → at ≤ length s
      → r ≡ Ok p → FoundAt size own P s at x p.end p.made p.own
  found_at_lem P at x p e h l q =
      let f = found_to P s at x p.end (rw q at (tells x e)) h l in
      let k : seen_of size own s (found f.it (drop p.end s)) ≡ seen (Ok p) = ap (seen_of size own s) (sym f.finds) ∙ sym e ∙ ap seen q in
      record {
        it = f.it;
        finds = f.finds;
        holds = f.holds;
        many = ap (λ (y : Seen). y.made) k;
        owned = ap (λ (y : Seen). y.own) k;
        ahead = f.ahead;
        inside = f.inside;
      }

  pub fault_at : (x : Found A) (e : Refused) → seen r ≡ seen_of size own s x → r ≡ Err e → FaultAt s x e.refusal e.place
  fault_at x e k q = fault_to s x e.refusal e.place (rw q at (tells x k))

-- what is found by a part that makes no entry
pub reached_at : {A : Type 0} (P : A → List ℕ → Type 0) (s : List ℕ) (at : ℕ) (x : Found A) (r : Result ℕ Refused) (end : ℕ) → reached r ≡ passed s x
    → Reads (drop at s) P x → at ≤ length s → r ≡ Ok end → FoundAt (λ a. 0) (λ a. 0) P s at x end 0 0
reached_at P s at x r end e h l q =
    found_at_lem (λ a. 0) (λ a. 0) s (entryless r) P at x (record { end = end; made = 0; own = 0 }) e h l (ap entryless q)

-- it is the refusal of whatever keeps the faults of the part
module _ {A B : Type 0} (size own : A → ℕ) (s : List ℕ) (r : Result Part Refused) (many mine : B → ℕ) where
  pub passed_on : (outer : Found A → Found B) → ((n : ℕ) (left : List ℕ) → outer (fault n left) ≡ fault n left)
      → (x : Found A) (e : Refused) → seen (Err e) ≡ seen_of size own s x → r ≡ Err e → seen r ≡ seen_of many mine s (outer x)
  passed_on outer keeps x e k q =
      let f = fault_at size own s (Err e) x e k refl in
      rw (q, f.faults, keeps (number_of e.refusal) f.left, f.there)

  pub refused_then : (next : A → List ℕ → Found B) (x : Found A) (e : Refused) → seen (Err e) ≡ seen_of size own s x → r ≡ Err e
      → seen r ≡ seen_of many mine s (and_then x next)
  refused_then next x e k q = passed_on (λ x. and_then x next) (λ n left. refl) x e k q

-- ---- the same with entries: a fault says nothing of the cells

-- an entry is left: its cells are there
pub room_left : (cells : List ℕ) (slot : Slot) (o : Bool) → Fits cells slot → o ≡ leb slot.room slot.next → o ≡ false
    → suc slot.next * entry_cells ≤ length cells
room_left cells slot o h asked f = omega (arith, leb-false slot.room slot.next (sym asked ∙ f), h.held)

module _ {A : Type 0} (size own : A → ℕ) (of : A → List Entry) (s cells : List ℕ) (n : ℕ) (x : Found A) (r : Result Part Refused) (after : List ℕ) where
  makes_fault : (k : ℕ) (left : List ℕ) → x ≡ fault k left → seen r ≡ seen_of size own s x → Makes size own of s cells n x r after
  makes_fault k left f e = record { says = e; laid = λ a end g. let z : ◌≡◌ {A = ℕ} 0 1 = cc in absurd (omega arith) }

  pub makes_refused : (why : Refusal) (at : ℕ) → r ≡ Err (refused_at why at) → at ≤ length s → x ≡ fault (number_of why) (drop at s)
      → Makes size own of s cells n x r after
  makes_refused why at e h f = makes_fault (number_of why) (drop at s) f (says_refused size own s x r why at e h f)

  pub makes_passed : {B : Type 0} (many mine : B → ℕ) (outer : Found B → Found A) → ((k : ℕ) (left : List ℕ) → outer (fault k left) ≡ fault k left)
      → (y : Found B) (e : Refused) → seen (Err e) ≡ seen_of many mine s y → r ≡ Err e → x ≡ outer y → Makes size own of s cells n x r after
  makes_passed many mine outer keeps y e k q f =
      let there = fault_at many mine s (Err e) y e k refl in
      makes_fault (number_of e.refusal) there.left (f ∙ ap outer there.faults ∙ keeps (number_of e.refusal) there.left)
      (passed_on many mine s r size own outer keeps y e k q ∙ ap (seen_of size own s) (sym f))

  pub makes_read : (a : A) (p : Part) → r ≡ Ok p → p.end ≤ length s → x ≡ found a (drop p.end s) → p.made ≡ size a → p.own ≡ own a
      → after ≡ lay cells n (of a) → Makes size own of s cells n x r after
  makes_read a p e h f m o l = record {
    says = says_read size own s x r a p e h f m o;
    laid = λ b left g. let q : a ≡ b = cc in l ∙ ap (λ (i : A). lay cells n (of i)) q;
  }

pub makes_same : {A : Type 0} (f g p q : A → ℕ) (of : A → List Entry) (s cells : List ℕ) (n : ℕ) (x : Found A) (r : Result Part Refused) (after : List ℕ)
    → ((a : A) → f a ≡ p a) → ((a : A) → g a ≡ q a) → Makes f g of s cells n x r after → Makes p q of s cells n x r after
makes_same f g p q of s cells n x r after e h k = record { says = k.says ∙ seen_same f g p q s x e h; laid = k.laid }
