-- The annotations of a Concept: a turn of the loop that reads and enters them, and its ends. The entries that are still
-- to be made are those of the rest of the run, laid behind what the turns so far laid. Assumes nothing.
use Prim.Native.Nat.{ℕ, ◌+◌, ◌-◌, ◌≤◌, ◌<◌}
use mathlib.Core.Path.{◌≡◌, refl, sym, ap, ◌∙◌}
use mathlib.Core.Bool.{Bool, true, false}
use mathlib.Core.List.{List, [], ◌∷◌, ◌++◌}
use native.Mathlib.Nat.{zero-add, add-zero}
use native.Mathlib.Omega.{arith}
use lib.ListN.{length, drop, length-drop, length-append}
use lib.Seq.{drop-drop}
use Rattle.std.specs.Prelude.{Result, Ok, Err}
use Rattle.paper.specs.declared.Refused.{Refused}
use Rattle.paper.specs.Found.{Found, turn_of, taking}
use Rattle.paper.specs.Bytes.{byte, bytes, length_in, behind, starts_with}
use Rattle.paper.specs.Tree.{Annotation}
use Rattle.paper.specs.Grammar.{blank_onto, annotation_onto}
use Rattle.paper.specs.Entries.{annotation_entries}
use Rattle.paper.specs.Reading.{is_tab, annotation, annotation_turn, annotations}
use Rattle.paper.proofs.Annotations.{ReadBehind, annotation_reads, annotation_shorter}
use Rattle.entries.specs.Laid.{slot_after, Fits}
use Rattle.entries.specs.declared.Slot.{Slot}
use Rattle.entries.proofs.Slots.{fits_after}
use Rattle.lines.specs.Parts.{Makes, note_entries, MakesNote, MakesNotes}
use Rattle.lines.specs.declared.part.Part.{Part}
use Rattle.text.proofs.Stretch.{Stretch, behind_at}
use Rattle.text.proofs.Compared.{stands_inside}
use Rattle.lines.proofs.Crossing.{FoundAt, found_at_lem, makes_same}
use Rattle.lines.proofs.Turns.{makes_over, makes_stop, makes_more}
use Rattle.lines.proofs.Lengths.{blank_long, note_long}

-- the annotations from i on, where so many are made already
abbrev counted : ℕ → List Annotation → ℕ
counted made notes = made + length notes

abbrev pub Rest : List ℕ → Slot → List ℕ → ℕ → ℕ → Result Part Refused → List ℕ → Type 0
Rest s slot cells i made r after =
    Makes (counted made) (counted made) (annotation_entries slot.parent i) s cells (slot.next + made)
    (annotations (slot.room - (slot.next + made)) (drop i s)) r after

-- what the turns so far leave
pub record Notes (s : List ℕ) (at : ℕ) (lent : List ℕ) (slot : Slot) (cells : List ℕ) (i made : ℕ) : Type 0 where
  pub inside : i ≤ length s
  pub few : slot.next + made ≤ slot.room
  pub held : length cells ≡ length lent
  pub onward : (r : Result Part Refused) (after : List ℕ) → Rest s slot cells i made r after → MakesNotes s at lent slot r after

pub notes_begin : (s : List ℕ) (at : ℕ) (cells : List ℕ) (slot : Slot) → at ≤ length s → slot.next ≤ slot.room → Notes s at cells slot cells at 0
notes_begin s at cells slot h f = record {
  inside = h;
  few = omega arith;
  held = refl;
  onward = λ r after k.
      makes_same (counted 0) (counted 0) length length (annotation_entries slot.parent at) s cells slot.next
      (annotations (slot.room - slot.next) (drop at s)) r after
      (λ notes. zero-add (length notes)) (λ notes. zero-add (length notes)) (rw (add-zero slot.next) at k);
}

-- ---- a turn

-- a turn: the tabs that stand at i end at a mark, where a bracket stands or does not
pub record Turn (s : List ℕ) (at : ℕ) (lent : List ℕ) (slot : Slot) (cells : List ℕ) (i made mark : ℕ) (stands : Bool) : Type 0 where
  pub so_far : Notes s at lent slot cells i made
  pub run : Stretch is_tab s i mark
  pub asked : starts_with (bytes "[") (drop mark s) ≡ stands

-- the entries that are left
abbrev left : Slot → ℕ → ℕ
left slot made = slot.room - (slot.next + made)

module _ {s : List ℕ} {at : ℕ} {lent : List ℕ} {slot : Slot} {cells : List ℕ} {i made mark : ℕ} where
  bracket : {stands : Bool} → Turn s at lent slot cells i made mark stands → starts_with (bytes "[") (behind is_tab (drop i s)) ≡ stands
  bracket turn = ap (starts_with (bytes "[")) (behind_at is_tab s i mark turn.run) ∙ turn.asked

  pub notes_over : Turn s at lent slot cells i made mark false → MakesNotes s at lent slot (Ok (record { end = i; made = made; own = made })) cells
  unfolding annotation_turn annotation_entries
  notes_over turn =
      turn.so_far.onward _ cells
      (makes_over (taking (λ a. 1)) annotation_turn annotation_shorter (left slot made) (drop i s) (counted made) (counted made) (annotation_entries slot.parent i) s cells
      (slot.next + made) _ _ (rw (bracket turn, annotation_turn)) refl turn.so_far.inside (sym (add-zero made)) (sym (add-zero made)) refl)

  module _ (turn : Turn s at lent slot cells i made mark true) where
    pub mark_inside : mark + 1 ≤ length s
    mark_inside = omega (arith, stands_inside (bytes "[") s mark turn.asked)

    a_note : (room : ℕ) → annotation_turn room (drop i s) ≡ turn_of (annotation room (length_in is_tab (drop i s)) (drop (mark + 1) s))
    unfolding annotation_turn
    a_note room =
        rw (bracket turn, annotation_turn)
        (ap (λ (l : List ℕ). turn_of (annotation room (length_in is_tab (drop i s)) l)) (ap (drop 1) (behind_at is_tab s i mark turn.run) ∙ drop-drop 1 mark s))

    -- the slot that is lent for one more
    module _ (next : Slot) (lends : next ≡ slot_after slot made) where
      pub lent_fits : Fits lent slot → Fits cells next
      lent_fits h = fits_after made h turn.so_far.held turn.so_far.few lends

      module _ (r : Result Part Refused) (after : List ℕ) (one : MakesNote s (mark + 1) cells next r after) where
        abbrev reading : Found Annotation
        reading = annotation (left slot made) (length_in is_tab (drop i s)) (drop (mark + 1) s)

        noted : Makes (λ a. 1) (λ a. 1) (note_entries slot.parent (mark + 1)) s cells (slot.next + made) reading r after
        noted = rw lends at (one (length_in is_tab (drop i s)))

        pub notes_refused : (e : Refused) → r ≡ Err e → (outer : Result Part Refused) → outer ≡ Err e → MakesNotes s at lent slot outer after
        notes_refused e q outer p =
            turn.so_far.onward outer after
            (makes_stop (taking (λ a. 1)) annotation_turn annotation_shorter (left slot made) (drop i s) (λ a. 1) (λ a. 1) turn_of (λ k rest. refl) (counted made) (counted made)
            (annotation_entries slot.parent i) s cells (slot.next + made) reading outer after e (rw q at noted.says) p (a_note (left slot made)))

        module _ (p : Part) (q : r ≡ Ok p) where
          it : FoundAt (λ a. 1) (λ a. 1) (λ a rest. ReadBehind (left slot made) (length_in is_tab (drop i s)) (drop (mark + 1) s) a rest) s (mark + 1) reading p.end p.made p.own
          it =
              found_at_lem (λ a. 1) (λ a. 1) s r _ (mark + 1) reading p noted.says
              (annotation_reads (left slot made) (length_in is_tab (drop i s)) (drop (mark + 1) s)) mark_inside q

          pub note_ahead : (i < p.end) × (p.end ≤ length s)
          note_ahead = (omega (arith, it.ahead, turn.run.1), it.inside)

          starts : i + it.it.tabs + 1 ≡ mark + 1
          starts = omega (arith, it.holds.at, turn.run.0)

          ends : i + length (annotation_onto it.it []) ≡ p.end
          ends =
              let a = it.it in
              let rest = byte "]" ∷ blank_onto a.rest (drop p.end s) in
              omega (
                arith,
                starts,
                note_long a [],
                ap length it.holds.covers,
                length-append a.text rest,
                blank_long a.rest (drop p.end s),
                length-drop (mark + 1) s,
                length-drop p.end s,
                mark_inside,
                it.inside,
              )

          entered : (notes : List Annotation)
              → annotation_entries slot.parent i (it.it ∷ notes)
              ≡ note_entries slot.parent (mark + 1) it.it ++ annotation_entries slot.parent p.end notes
          unfolding annotation_entries
          entered notes = rw (starts, ends)

          pub notes_on : length after ≡ length cells → Notes s at lent slot after p.end (made + 1)
          notes_on h =
              let number : slot.next + (made + 1) ≡ slot.next + made + 1 = omega arith in
              let fewer : slot.room - (slot.next + made + 1) ≡ (left slot made) - 1 = omega arith in
              record {
                inside = it.inside;
                few = omega (arith, it.holds.fits);
                held = h ∙ turn.so_far.held;
                onward = λ other cells' k.
                    turn.so_far.onward other cells'
                    (makes_more (taking (λ a. 1)) annotation_turn annotation_shorter (left slot made) (drop i s) (counted made) (counted made) (annotation_entries slot.parent i)
                    (annotation_entries slot.parent p.end) (note_entries slot.parent (mark + 1) it.it) s cells after
                    (slot.next + made) it.it (drop p.end s) other cells'
                    (a_note (left slot made) ∙ ap turn_of it.finds) entered (noted.laid it.it (drop p.end s) it.finds)
                    (makes_same (counted (made + 1)) (counted (made + 1)) _ _ (annotation_entries slot.parent p.end) s after (slot.next + made + 1)
                    (annotations ((left slot made) - 1) (drop p.end s)) other cells'
                    (λ notes. omega arith) (λ notes. omega arith) (rw (number, fewer) at k)));
              }
