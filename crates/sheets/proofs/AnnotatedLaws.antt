-- A Concept with its annotations: a law for each way out of the function that reads and enters both.
-- Over plain lists. Assumes nothing.
use Prim.Native.Nat.{ℕ, ◌+◌, ◌-◌, ◌≤◌}
use mathlib.Core.Path.{◌≡◌, refl, sym, ap, ◌∙◌}
use mathlib.Core.List.{List, [], ◌∷◌}
use native.Mathlib.Omega.{arith}
use lib.ListN.{length, drop, length-drop}
use Rattle.std.specs.Prelude.{Result, Ok, Err}
use Rattle.paper.specs.declared.Refused.{Refused}
use Rattle.paper.specs.Found.{Found, found, and_then}
use Rattle.paper.specs.Bytes.{length_in, behind}
use Rattle.paper.specs.Modes.{Modes}
use Rattle.paper.specs.Tree.{Annotation, Concept, Annotated}
use Rattle.paper.specs.Grammar.{annotations_onto}
use Rattle.paper.specs.Entries.{Entry, annotation_entries, concept_size}
use Rattle.paper.specs.Reading.{is_tab, annotations, concept_of, annotated_of, bounds}
use Rattle.paper.proofs.Annotations.{ReadAnnotations, annotations_reads}
use Rattle.paper.proofs.Concepts.{ReadConcept, concept_reads}
use Rattle.paper.proofs.Sizes.{notes_size}
use Rattle.text.proofs.Stretch.{Stretch, behind_at}
use Rattle.modes.specs.Table.{modes_of}
use Rattle.entries.specs.Laid.{lay, slot_after}
use Rattle.entries.specs.declared.Slot.{Slot}
use Rattle.entries.proofs.Laying.{lay_append}
use Rattle.entries.proofs.Slots.{fits_after}
use Rattle.lines.specs.Parts.{seen, Makes, MakesNotes}
use Rattle.lines.specs.declared.part.Part.{Part}
use Rattle.lines.proofs.Crossing.{FoundAt, found_at_lem, makes_passed, makes_read}
use Rattle.lines.proofs.Lengths.{notes_long}
use Rattle.sheets.specs.Concepts.{Ready, whole_concept, ReadsConcept, annotated_entries, ReadsAnnotated}
use Rattle.sheets.proofs.Slots.{stands_on}

-- what is read behind the annotations
abbrev onward : Modes → ℕ → ℕ → List Annotation → List ℕ → Found Annotated
onward m deeper room notes line =
    and_then (concept_of m bounds deeper (room - length notes) (length_in is_tab line) (behind is_tab line)) (λ c left.
    found (record { notes = notes; tabs = length_in is_tab line; concept = c }) left)

-- annotations that are read from a place to the start of a line, and entered
pub record NotesAt (s : List ℕ) (at : ℕ) (cells : List ℕ) (slot : Slot) (mid : List ℕ) (line made : ℕ) : Type 0 where
  pub stands : Ready s at cells slot
  pub it : List Annotation
  pub finds : annotations (slot.room - slot.next) (drop at s) ≡ found it (drop line s)
  pub covers : drop at s ≡ annotations_onto it (drop line s)
  pub many : length it ≡ made
  pub few : slot.next + made ≤ slot.room
  pub ahead : at ≤ line
  pub inside : line ≤ length s
  pub laid : mid ≡ lay cells slot.next (annotation_entries slot.parent at it)

module _ {s : List ℕ} {at : ℕ} {cells : List ℕ} {slot : Slot} (h : Ready s at cells slot) {mid : List ℕ} where
  pub notes_refused : (table : List ℕ) (deeper : ℕ) {e : Refused} → MakesNotes s at cells slot (Err e) mid → {r : Result Part Refused} → r ≡ Err e
      → ReadsAnnotated table s at deeper cells slot r mid
  notes_refused table deeper {e} n {r} q =
      let room = slot.room - slot.next in
      makes_passed _ _ _ _ _ _ _ r mid length length (λ x. and_then x (onward (modes_of table) deeper room)) (λ k left. refl)
      (annotations room (drop at s)) e n.says q refl

  pub notes_at : {p : Part} → MakesNotes s at cells slot (Ok p) mid → NotesAt s at cells slot mid p.end p.made
  notes_at {p} n =
      let room = slot.room - slot.next in
      let f =
      found_at_lem length length s (Ok p) (λ ns left. ReadAnnotations room (drop at s) ns left) at (annotations room (drop at s)) p n.says
      (annotations_reads room (drop at s)) h.in_sheet.inside refl in
      record {
        stands = h;
        it = f.it;
        finds = f.finds;
        covers = f.holds.covers;
        many = f.many;
        few = omega (arith, f.many, f.holds.fits, h.fits.inside);
        ahead = f.ahead;
        inside = f.inside;
        laid = n.laid f.it (drop p.end s) f.finds;
      }

-- where there are none, the line is the one where they were due, and so are its tabs
module _ {s : List ℕ} {at : ℕ} {cells : List ℕ} {slot : Slot} {mid : List ℕ} {line made : ℕ} (n : NotesAt s at cells slot mid line made) where
  same_line : made ≡ 0 → line ≡ at
  unfolding annotations_onto
  same_line z = go n.it (n.many ∙ z) n.covers
    where
      go : (l : List Annotation) → length l ≡ 0 → drop at s ≡ annotations_onto l (drop line s) → line ≡ at
      go [] e c = omega (arith, ap length c, length-drop at s, length-drop line s, n.ahead, n.inside)
      go (a ∷ l) e c = absurd (omega arith)

  pub tabs_there : {mark : ℕ} → Stretch is_tab s at mark → made ≡ 0 → Stretch is_tab s line mark
  tabs_there run z = rw (same_line z) run

-- the Concept behind them, whose tabs end at a mark
module _ {s : List ℕ} {at : ℕ} {cells : List ℕ} {slot : Slot} {mid : List ℕ} {line made : ℕ} (n : NotesAt s at cells slot mid line made)
    {mark : ℕ} (run : Stretch is_tab s line mark) {next : Slot} (lends : next ≡ slot_after slot made) where
  abbrev room : ℕ
  room = slot.room - slot.next

  pub concept_stands : length mid ≡ length cells → Ready s mark mid next
  concept_stands e = stands_on n.stands run.2 (fits_after made n.stands.fits e n.few lends)

  module _ (table : List ℕ) (deeper : ℕ) {r : Result Part Refused} {after : List ℕ} (k : ReadsConcept table s mark (mark - line) deeper mid next r after) where
    abbrev m : Modes
    m = modes_of table

    abbrev noted : List Annotation
    noted = n.it

    abbrev tabs : ℕ
    tabs = length_in is_tab (drop line s)

    abbrev start : ℕ
    start = at + length (annotations_onto noted []) + tabs

    abbrev reading : Found Concept
    reading = concept_of m bounds deeper (room - length noted) tabs (drop mark s)

    abbrev with_notes : Concept → Annotated
    with_notes c = record { notes = noted; tabs = tabs; concept = c }

    starts : mark ≡ start
    starts = omega (arith, run.0, ap length n.covers, notes_long noted (drop line s), length-drop at s, length-drop line s, n.inside, n.ahead)

    -- what the Concept makes, by the annotations
    made_concept : Makes concept_size (λ c. 1) (whole_concept slot.parent (slot.next + length noted) start tabs) s mid (slot.next + length noted) reading r after
    made_concept =
        go (slot.next + made) (slot.room - (slot.next + made)) mark (mark - line) (omega (arith, n.many)) (omega (arith, n.many)) starts (omega (arith, run.0))
        (rw lends at k)
      where
        go : (number left place back : ℕ) → number ≡ slot.next + length noted → left ≡ room - length noted → place ≡ start → back ≡ tabs
            → Makes concept_size (λ c. 1) (whole_concept slot.parent number place back) s mid number
            (concept_of m bounds deeper left back (drop mark s)) r after
            → Makes concept_size (λ c. 1) (whole_concept slot.parent (slot.next + length noted) start tabs) s mid (slot.next + length noted) reading r after
        go number left place back a b c d made = rw (a, b, c, d) at made

    by_concept : annotated_of m bounds deeper room (drop at s) ≡ and_then reading (λ c left. found (with_notes c) left)
    by_concept =
        ap (λ (x : Found (List Annotation)). and_then x (onward m deeper room)) n.finds
        ∙ ap (λ (l : List ℕ). and_then (concept_of m bounds deeper (room - length noted) tabs l) (λ c left. found (with_notes c) left))
        (behind_at is_tab s line mark run)

    pub concept_refused : {e : Refused} → r ≡ Err e → {last : Result Part Refused} → last ≡ Err e → ReadsAnnotated table s at deeper cells slot last after
    concept_refused {e} p {last} q =
        makes_passed _ _ _ _ _ _ _ last after concept_size (λ c. 1) (λ x. and_then x (λ c left. found (with_notes c) left)) (λ j left. refl) reading e
        (ap seen (sym p) ∙ made_concept.says) q by_concept

    module _ {p : Part} (e : r ≡ Ok p) where
      abbrev end : ℕ
      end = p.end

      the_concept : FoundAt concept_size (λ c. 1)
          (λ c left. ReadConcept m bounds deeper (room - length noted) tabs (drop mark s) c left) s mark reading p.end p.made p.own
      the_concept =
          found_at_lem concept_size (λ c. 1) s r _ mark reading p made_concept.says
          (concept_reads m bounds (length (drop mark s) + 1) deeper (room - length noted) tabs (drop mark s)) run.2 e

      pub all_few : slot.next + made + p.made ≤ slot.room
      all_few = omega (arith, n.few, n.many, the_concept.many, the_concept.holds.fits)

      laid : after ≡ lay cells slot.next (annotated_entries slot.parent slot.next at (with_notes the_concept.it))
      laid =
          let first : List Entry = annotation_entries slot.parent at noted in
          let others = whole_concept slot.parent (slot.next + length noted) start tabs the_concept.it in
          made_concept.laid the_concept.it (drop end s) the_concept.finds
          ∙ ap (λ (l : List ℕ). lay l (slot.next + length noted) others) n.laid
          ∙ ap (λ (i : ℕ). lay (lay cells slot.next first) (slot.next + i) others) (sym (notes_size noted slot.parent at))
          ∙ lay_append cells slot.next first others

      pub annotated_read : ReadsAnnotated table s at deeper cells slot (Ok (record { end = p.end; made = made + p.made; own = made + 1 })) after
      annotated_read =
          makes_read _ _ _ _ _ _ _ (Ok (record { end = p.end; made = made + p.made; own = made + 1 })) after (with_notes the_concept.it) _ refl the_concept.inside
          (by_concept ∙ ap (λ (x : Found Concept). and_then x (λ c left. found (with_notes c) left)) the_concept.finds) (omega (arith, n.many, the_concept.many))
          (omega (arith, n.many)) laid
