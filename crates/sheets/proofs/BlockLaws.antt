-- The children of a block with its closing marker: a law for each way out of the function that reads and enters them.
-- Over plain lists. Assumes nothing.
use Prim.Native.Nat.{ℕ, ◌+◌, ◌-◌, ◌≤◌}
use mathlib.Core.Path.{◌≡◌, refl, sym, ap, ◌∙◌}
use mathlib.Core.List.{List, []}
use native.Mathlib.Omega.{arith}
use lib.ListN.{length, drop, length-drop}
use Rattle.std.specs.Prelude.{Result, Ok, Err}
use Rattle.paper.specs.declared.Refused.{Refused}
use Rattle.paper.specs.Found.{Found, found, fault, and_then}
use Rattle.paper.specs.Bytes.{length_in, behind}
use Rattle.paper.specs.Modes.{Modes}
use Rattle.paper.specs.Tree.{Blank, Marker, Concept, children, Body}
use Rattle.paper.specs.Grammar.{blank_onto, closing_onto}
use Rattle.paper.specs.Entries.{body_size, body_count, body_entries}
use Rattle.paper.specs.Reading.{bounds, is_tab, line_rest, closing, block_of, body_of}
use Rattle.paper.proofs.Markers.{closing_reads}
use Rattle.paper.proofs.Finds.{Reads, tail_then, tail_drop}
use Rattle.paper.proofs.Concepts.{body_reads}
use Rattle.paper.proofs.Fuel.{block_of_lem}
use Rattle.entries.specs.Laid.{lay}
use Rattle.entries.specs.declared.Slot.{Slot}
use Rattle.lines.specs.Parts.{seen, seen_of, reached, passed, Makes}
use Rattle.lines.specs.declared.part.Part.{Part}
use Rattle.lines.proofs.Crossing.{found_at_lem, reached_at, fault_at, makes_passed, makes_read}
use Rattle.lines.proofs.Ends.{RestAt}
use Rattle.lines.proofs.Lengths.{blank_long}
use Rattle.sheets.specs.Concepts.{Ready, InsideAt, up_to_mark}

-- what is read behind the lines of a body, and with them
abbrev closed : Marker → Blank → Body → List ℕ → Found Concept
closed k rest inner left = and_then (closing k.name (behind is_tab left)) (λ b end. found (children k rest inner (length_in is_tab left)) end)

abbrev bodied : Modes → ℕ → ℕ → Marker → Blank → List ℕ → Found Concept
bodied m deeper room k rest start = and_then (body_of m bounds deeper room start) (closed k rest)

-- a body that is found before the line whose tabs end in front of these bytes
record Lined (x : Found Body) (inner : Body) (left : List ℕ) : Type 0 where
  line : List ℕ
  finds : x ≡ found inner line
  marks : behind is_tab line ≡ left

lined_reads : (s : List ℕ) (P : Body → List ℕ → Type 0) (x : Found Body) → Reads s P x → Reads s (Lined x) (up_to_mark x)
lined_reads s P (found b line) h = (tail_then h.0 (tail_drop (length_in is_tab line) line), record { line = line; finds = refl; marks = refl })
lined_reads s P (fault n left) h = h

-- what is refused up to a mark is refused before it
fault_unmarked : (s : List ℕ) (x : Found Body) (e : Refused) → seen (Err e) ≡ seen_of body_size body_count s (up_to_mark x)
    → seen (Err e) ≡ seen_of body_size body_count s x
fault_unmarked s (found b line) e k =
    let f = fault_at body_size body_count s (Err e) (found b (behind is_tab line)) e k refl in
    let faults = f.faults in
    let no : ◌≡◌ {A = ℕ} 0 1 = cc in
    absurd (omega arith)
fault_unmarked s (fault n left) e k = k

-- children that are read up to the mark behind the tabs of the closing line, and entered
pub record BodyAt (s : List ℕ) (at : ℕ) (cells : List ℕ) (slot : Slot) (m : Modes) (deeper : ℕ) (after : List ℕ) (mark made own : ℕ) : Type 0 where
  pub rest : Blank
  pub it : Body
  pub line : List ℕ
  pub finds : (k : Marker) → block_of m bounds deeper (slot.room - slot.next) k (drop at s) ≡ closed k rest it line
  pub marks : behind is_tab line ≡ drop mark s
  pub many : body_size it ≡ made
  pub owned : body_count it ≡ own
  pub inside : mark ≤ length s
  pub laid : after ≡ lay cells slot.next (body_entries slot.parent slot.next (at + length (blank_onto rest [])) it)

module _ {s : List ℕ} {at : ℕ} {cells : List ℕ} {slot : Slot} (h : Ready s at cells slot) (m : Modes) (deeper : ℕ) where
  abbrev room : ℕ
  room = slot.room - slot.next

  pub rest_refused : (k : Marker) (tabs : ℕ) (e : Refused) → seen (Err e) ≡ passed s (line_rest (drop at s)) → {r : Result Part Refused} → r ≡ Err e
      → InsideAt s at tabs cells slot (block_of m bounds deeper (slot.room - slot.next) k (drop at s)) r cells
  rest_refused k tabs e p {r} q =
      makes_passed _ _ _ _ _ _ _ r cells (λ b. 0) (λ b. 0) (λ x. and_then x (bodied m deeper room k)) (λ n left. refl) (line_rest (drop at s)) e p q
      (block_of_lem m bounds deeper room k (drop at s))

  module _ {start : ℕ} (rest : RestAt s at start) {body : Result Part Refused} {after : List ℕ}
      (b : Makes body_size body_count (body_entries slot.parent slot.next start) s cells slot.next
      (up_to_mark (body_of m bounds deeper room (drop start s))) body after) where
    by_rest : (k : Marker) → block_of m bounds deeper room k (drop at s) ≡ bodied m deeper room k rest.it (drop start s)
    by_rest k = block_of_lem m bounds deeper room k (drop at s) ∙ ap (λ (x : Found Blank). and_then x (bodied m deeper room k)) rest.finds

    pub body_refused : (k : Marker) (tabs : ℕ) {e : Refused} → body ≡ Err e → {r : Result Part Refused} → r ≡ Err e
        → InsideAt s at tabs cells slot (block_of m bounds deeper (slot.room - slot.next) k (drop at s)) r after
    body_refused k tabs {e} p {r} q =
        let inner = body_of m bounds deeper room (drop start s) in
        makes_passed _ _ _ _ _ _ _ r after body_size body_count (λ x. and_then x (closed k rest.it)) (λ n left. refl) inner e
        (fault_unmarked s inner e (ap seen (sym p) ∙ b.says)) q (by_rest k)

    pub body_at : {p : Part} → body ≡ Ok p → BodyAt s at cells slot m deeper after p.end p.made p.own
    body_at {p} q =
        let inner = body_of m bounds deeper room (drop start s) in
        let f = found_at_lem body_size body_count s body (Lined inner) start (up_to_mark inner) p b.says
        (lined_reads (drop start s) _ inner (body_reads m bounds (length (drop start s) + 2) deeper room (drop start s))) rest.inside q in
        let starts : start ≡ at + length (blank_onto rest.it []) =
        omega (arith, ap length rest.covers, blank_long rest.it (drop start s), length-drop at s, length-drop start s, rest.ahead, rest.inside) in
        record {
          rest = rest.it;
          it = f.it;
          line = f.holds.line;
          finds = λ k. by_rest k ∙ ap (λ (x : Found Body). and_then x (closed k rest.it)) f.holds.finds;
          marks = f.holds.marks;
          many = f.many;
          owned = f.owned;
          inside = f.inside;
          laid = b.laid f.it (drop p.end s) f.finds ∙ ap (λ (i : ℕ). lay cells slot.next (body_entries slot.parent slot.next i f.it)) starts;
        }

-- the closing marker of a Concept of this name, due at the mark
module _ {s : List ℕ} {at : ℕ} {cells : List ℕ} {slot : Slot} {m : Modes} {deeper : ℕ} {after : List ℕ} {mark made own : ℕ}
    (body : BodyAt s at cells slot m deeper after mark made own) (k : Marker) {w : List ℕ} (named : k.name ≡ w) (tabs : ℕ) where
  abbrev whole : Concept
  whole = children k body.rest body.it (length_in is_tab body.line)

  by_body : block_of m bounds deeper (slot.room - slot.next) k (drop at s) ≡ and_then (closing w (drop mark s)) (λ b end. found whole end)
  by_body = body.finds k ∙ rw (named, body.marks)

  pub closing_refused : (e : Refused) → seen (Err e) ≡ passed s (closing w (drop mark s)) → {r : Result Part Refused} → r ≡ Err e
      → InsideAt s at tabs cells slot (block_of m bounds deeper (slot.room - slot.next) k (drop at s)) r after
  closing_refused e p {r} q =
      makes_passed _ _ _ _ _ _ _ r after (λ b. 0) (λ b. 0) (λ x. and_then x (λ b end. found whole end)) (λ n left. refl) (closing w (drop mark s)) e p q by_body

  pub block_read : {end : ℕ} → reached (Ok end) ≡ passed s (closing w (drop mark s))
      → InsideAt s at tabs cells slot (block_of m bounds deeper (slot.room - slot.next) k (drop at s)) (Ok (record { end = end; made = made; own = own })) after
  block_read {end} e =
      let f = reached_at (λ b left. drop mark s ≡ closing_onto w left) s mark (closing w (drop mark s)) (Ok end) end e (closing_reads w (drop mark s)) body.inside refl in
      makes_read _ _ _ _ _ _ _ (Ok (record { end = end; made = made; own = own })) after whole _ refl f.inside
      (by_body ∙ ap (λ (x : Found ℕ). and_then x (λ b end. found whole end)) f.finds) (sym body.many) (sym body.owned) body.laid
