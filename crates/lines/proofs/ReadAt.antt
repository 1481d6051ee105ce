-- A byte that is due, fixed bytes and a name, read at a place; and the part of a list that a name is. Over plain lists. Assumes nothing.
use Prim.Native.Nat.{ℕ, ◌+◌, ◌-◌, ◌≤◌, ◌<◌}
use mathlib.Core.Path.{◌≡◌, refl, sym, ap, ◌∙◌}
use mathlib.Core.Bool.{Bool}
use mathlib.Core.List.{List, [], ◌∷◌, ◌++◌}
use native.Mathlib.Omega.{arith}
use lib.ListN.{length, get_or, drop, length-drop, length-append, drop_of_length-le}
use lib.Seq.{take-append_seam}
use lib.Dec.{leb}
use Rattle.std.specs.Prelude.{Result, Ok, Err}
use Rattle.paper.specs.declared.Refused.{Refused}
use Rattle.paper.specs.Found.{Found, found, fault, and_then}
use Rattle.paper.specs.Names.{run, past_run}
use Rattle.paper.specs.Reading.{due, name_of, name}
use Rattle.paper.proofs.Tests.{split}
use Rattle.paper.proofs.Finds.{Reads, whole, reads_as, reads_then}
use Rattle.paper.proofs.Lines.{due_reads, ReadName, name_reads}
use Rattle.text.proofs.Places.{here}
use Rattle.lines.specs.Parts.{seen, reached, passed, due_all, part}
use Rattle.lines.specs.declared.part.Part.{Part}
use Rattle.lines.proofs.Crossing.{reached_at, refused_then, reaches}

-- a byte that is due at a place, and is there
pub record DueAt (c : ℕ) (s : List ℕ) (at end : ℕ) : Type 0 where
  pub it : ℕ
  pub finds : due c (drop at s) ≡ found it (drop end s)
  pub next : end ≡ at + 1
  pub inside : end ≤ length s

pub due_at : (c : ℕ) (s : List ℕ) (at : ℕ) (r : Result ℕ Refused) (end : ℕ) → at ≤ length s → reached r ≡ passed s (due c (drop at s)) → r ≡ Ok end
    → DueAt c s at end
due_at c s at r end h e q =
    let f = reached_at (λ b left. drop at s ≡ c ∷ left) s at (due c (drop at s)) r end e (due_reads c (drop at s)) h q in
    record { it = f.it; finds = f.finds; next = omega (arith, ap length f.holds, length-drop at s, length-drop end s, f.inside); inside = f.inside }

-- ---- fixed bytes that are due

due_all_reads : (fixed s : List ℕ) → Reads s (λ w left. s ≡ fixed ++ left) (due_all fixed s)
unfolding due_all
due_all_reads [] s = (whole, refl)
due_all_reads (b ∷ fixed) s =
    reads_then s (λ c left. s ≡ b ∷ left) (λ w left. s ≡ b ∷ (fixed ++ left)) (λ c left. due_all fixed left) (due b s) (due_reads b s)
    (λ c left e. reads_as left (λ w rest. left ≡ fixed ++ rest) (λ w rest. s ≡ b ∷ (fixed ++ rest)) (due_all fixed left) (due_all_reads fixed left)
    (λ w rest f. e ∙ ap (λ (l : List ℕ). b ∷ l) f))

-- fixed bytes that are due at a place, and are there
pub record AllDueAt (fixed s : List ℕ) (at end : ℕ) : Type 0 where
  pub it : List ℕ
  pub finds : due_all fixed (drop at s) ≡ found it (drop end s)
  pub inside : end ≤ length s

pub all_due_at : (fixed s : List ℕ) (at : ℕ) (r : Result ℕ Refused) (end : ℕ)
    → at ≤ length s → reached r ≡ passed s (due_all fixed (drop at s)) → r ≡ Ok end → AllDueAt fixed s at end
all_due_at fixed s at r end h e q =
    let f = reached_at (λ w left. drop at s ≡ fixed ++ left) s at (due_all fixed (drop at s)) r end e (due_all_reads fixed (drop at s)) h q in
    record { it = f.it; finds = f.finds; inside = f.inside }

-- the bytes from the i-th on, due at a place further on, answer as all of them do
pub record DueFrom (fixed s : List ℕ) (at i place : ℕ) : Type 0 where
  pub inside : place ≤ length s
  pub same : passed s (due_all (drop i fixed) (drop place s)) ≡ passed s (due_all fixed (drop at s))

pub due_begin : (fixed s : List ℕ) (at : ℕ) → at ≤ length s → DueFrom fixed s at 0 at
due_begin fixed s at h = record { inside = h; same = refl }

module _ (fixed s : List ℕ) (at i place : ℕ) (so_far : DueFrom fixed s at i place) where
  pub due_over : length fixed ≤ i → reached (Ok place) ≡ passed s (due_all fixed (drop at s))
  unfolding due_all
  due_over h = reaches s (due_all (drop i fixed) (drop place s)) [] place so_far.inside (rw (drop_of_length-le fixed h)) ∙ so_far.same

  module _ (h : i < length fixed) where
    abbrev onward : ℕ → List ℕ → Found (List ℕ)
    onward c left = due_all (drop (i + 1) fixed) left

    one_more : due_all (drop i fixed) (drop place s) ≡ and_then (due (get_or fixed i 0) (drop place s)) onward
    unfolding due_all
    one_more = rw (here fixed i h)

    pub due_refused : (r : Result Part Refused) (e : Refused) → seen (Err e) ≡ passed s (due (get_or fixed i 0) (drop place s)) → r ≡ Err e
        → seen r ≡ passed s (due_all fixed (drop at s))
    due_refused r e said q =
        refused_then (λ b. 0) (λ b. 0) s r (λ w. 0) (λ w. 0) onward (due (get_or fixed i 0) (drop place s)) e said q
        ∙ ap (λ (x : Found (List ℕ)). passed s x) (sym one_more) ∙ so_far.same

    pub due_on : (end : ℕ) → reached (Ok end) ≡ passed s (due (get_or fixed i 0) (drop place s)) → DueFrom fixed s at (i + 1) end
    due_on end said =
        let d = due_at (get_or fixed i 0) s place (Ok end) end so_far.inside said refl in
        let e : due_all (drop i fixed) (drop place s) ≡ due_all (drop (i + 1) fixed) (drop end s) = one_more ∙ rw d.finds in
        record { inside = d.inside; same = ap (λ (x : Found (List ℕ)). passed s x) (sym e) ∙ so_far.same }

-- a name that is found is the run in front, and something stands behind it
name_run : (rule : List ℕ → Bool) (s w left : List ℕ) → name rule s ≡ found w left → (w ≡ run s) × (0 < length left)
unfolding name_of
name_run rule s w left = go (past_run s)
  where
    go : (r : List ℕ) → name_of rule s r ≡ found w left → (w ≡ run s) × (0 < length left)
    go [] e = let z : ◌≡◌ {A = ℕ} 0 1 = cc in absurd (omega arith)
    go (b ∷ l) e =
        split (leb 1 (length (run s)))
        (λ f. split (rule (run s))
        (λ g.
        let h : found (run s) (b ∷ l) ≡ found w left = rw (f, name_of, g) at e in
        let behind : left ≡ b ∷ l = cc in
        (cc, omega (arith, ap length behind)))
        (λ g. let h : fault 4 s ≡ found w left = rw (f, name_of, g) at e in let z : ◌≡◌ {A = ℕ} 0 1 = cc in absurd (omega arith)))
        (λ f. let h : fault 7 s ≡ found w left = rw (f, name_of) at e in let z : ◌≡◌ {A = ℕ} 0 1 = cc in absurd (omega arith))

-- a name that is read from a place to an end
pub record NameAt (rule : List ℕ → Bool) (s : List ℕ) (at end : ℕ) : Type 0 where
  pub it : List ℕ
  pub is_run : it ≡ run (drop at s)
  pub finds : name rule (drop at s) ≡ found it (drop end s)
  pub covers : drop at s ≡ it ++ drop end s
  pub long : length it ≡ end - at
  pub ahead : at ≤ end
  pub inside : end ≤ length s
  pub goes_on : end < length s

pub name_at_lem : (rule : List ℕ → Bool) (s : List ℕ) (at : ℕ) (r : Result ℕ Refused) (end : ℕ) → at ≤ length s → reached r ≡ passed s (name rule (drop at s))
    → r ≡ Ok end → NameAt rule s at end
name_at_lem rule s at r end h e q =
    let f = reached_at (λ w left. ReadName rule (drop at s) w left) s at (name rule (drop at s)) r end e (name_reads rule (drop at s)) h q in
    let n = name_run rule (drop at s) f.it (drop end s) f.finds in
    record {
      it = f.it;
      is_run = n.0;
      finds = f.finds;
      covers = f.holds.covers;
      long = omega (arith, ap length f.holds.covers, length-append f.it (drop end s), length-drop at s, length-drop end s, f.ahead, f.inside);
      ahead = f.ahead;
      inside = f.inside;
      goes_on = omega (arith, n.1, length-drop end s);
    }

-- bytes that stand at a place are the part from there to their end
pub part_is : (s w left : List ℕ) (from to : ℕ) → drop from s ≡ w ++ left → to ≡ from + length w → part s from to ≡ w
part_is s w left from to e l = let n : to - from ≡ length w = omega arith in rw (n, e) (take-append_seam w left)
