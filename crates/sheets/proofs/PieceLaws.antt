-- A piece of a body, and the run of them: a law for each way out of `read_piece`, and for a turn and the ends of the loop
-- in `read_children` (src/concepts.rt). Over plain lists. Assumes nothing.
use Prim.Native.Nat.{ℕ, ◌+◌, ◌-◌, ◌≤◌, ◌<◌}
use mathlib.Core.Path.{◌≡◌, refl, sym, ap, ◌∙◌}
use mathlib.Core.Bool.{Bool, true, false}
use mathlib.Core.List.{List, [], ◌∷◌, ◌++◌, append-nil}
use native.Mathlib.Nat.{zero-add, add-zero}
use native.Mathlib.Omega.{arith}
use lib.ListN.{length, drop, length-drop}
use Rattle.std.specs.Prelude.{Result, Ok, Err}
use Rattle.paper.specs.declared.Refused.{Refused}
use Rattle.paper.specs.Found.{Found, found, fault, and_then}
use Rattle.paper.specs.Bytes.{bytes, behind, starts_with}
use Rattle.paper.specs.Modes.{Modes}
use Rattle.paper.specs.Tree.{Blank, Body, done, Annotated, BodyPiece, blank_piece, element_piece, before}
use Rattle.paper.specs.Grammar.{annotations_onto, body_onto}
use Rattle.paper.specs.Entries.{Entry, annotation_entries, concept_entry, inside_entries, concept_size, body_size, body_count, body_entries}
use Rattle.paper.specs.Reading.{line_rest, is_blank_line, is_tab, tabs_only, is_closing, body_of, annotated_of, piece_of, bounds}
use Rattle.paper.proofs.Tests.{when_true, when_false}
use Rattle.paper.proofs.Lines.{only_reads}
use Rattle.paper.proofs.Concepts.{annotated_reads, ReadPiece, piece_reads}
use Rattle.paper.proofs.Sizes.{body_size_lem}
use Rattle.modes.specs.Table.{modes_of}
use Rattle.entries.specs.Laid.{lay, slot_after}
use Rattle.entries.specs.declared.Slot.{Slot}
use Rattle.entries.proofs.Laying.{lay_none}
use Rattle.text.proofs.Stretch.{Stretch, behind_at}
use Rattle.lines.specs.Parts.{seen, seen_of, reached, passed, Makes}
use Rattle.lines.specs.declared.part.Part.{Part}
use Rattle.lines.proofs.Crossing.{further, says_read, FoundAt, found_at_lem, reached_at, passed_on, seen_same, makes_passed, makes_read, makes_same}
use Rattle.lines.proofs.Ends.{rest_at}
use Rattle.lines.proofs.Turns.{makes_behind}
use Rattle.sheets.specs.Concepts.{Ready, annotated_size, annotated_count, annotated_entries, ReadsAnnotated, ReadsChildren, piece_size, piece_count, piece_entries}
use Rattle.sheets.specs.Concepts.{ReadsPiece, line_ended, up_to_mark}
use Rattle.sheets.proofs.Lengths.{body_long, body_few}
use Rattle.sheets.proofs.Bodies.{before_size, before_count, before_entries, onward, body_over, body_on}

-- ---- what was read, and the rest of its line

module _ (s : List ℕ) (part : Part) where
  pub rest_refused : (e : Refused) → seen (Err e) ≡ passed s (line_rest (drop part.end s)) → {r : Result Part Refused} → r ≡ Err e → seen r ≡ line_ended s part
  rest_refused e k {r} q =
      passed_on (λ b. 0) (λ b. 0) s r (λ b. part.made) (λ b. part.own) (λ x. x) (λ n left. refl) (line_rest (drop part.end s)) e k q

  pub rest_read : part.end ≤ length s → {next : ℕ} → reached (Ok next) ≡ passed s (line_rest (drop part.end s))
      → seen (Ok (record { end = next; made = part.made; own = part.own })) ≡ line_ended s part
  rest_read h {next} e =
      let r = rest_at s part.end (Ok next) next h e refl in
      let p : Part = record { end = next; made = part.made; own = part.own } in
      says_read (λ b. part.made) (λ b. part.own) s (line_rest (drop part.end s)) (Ok p) r.it p refl r.inside r.finds refl refl

-- ---- a piece at a place

-- a Concept with its annotations that is read to an end, and entered; the rest of its line is due there
pub record ConceptAt (table s : List ℕ) (at deeper : ℕ) (cells : List ℕ) (slot : Slot) (after : List ℕ) (end made own : ℕ) : Type 0 where
  pub it : Annotated
  pub finds : piece_of (modes_of table) bounds deeper (slot.room - slot.next) (drop at s) ≡ and_then (line_rest (drop end s))
      (λ rest left. found (element_piece it rest) left)
  pub many : annotated_size it ≡ made
  pub owned : annotated_count it ≡ own
  pub inside : end ≤ length s
  pub laid : after ≡ lay cells slot.next (annotated_entries slot.parent slot.next at it)

-- whatever is found in the rest of its line
module _ {table s : List ℕ} {at deeper : ℕ} {cells : List ℕ} {slot : Slot} {after : List ℕ} {end made own : ℕ}
    (concept : ConceptAt table s at deeper cells slot after end made own) where
  abbrev ended : Blank → BodyPiece
  ended rest = element_piece concept.it rest

  abbrev entries : List Entry
  entries = annotated_entries slot.parent slot.next at concept.it

  same_entries : (rest : Blank) → piece_entries slot.parent slot.next at (ended rest) ≡ entries ++ []
  unfolding inside_entries
  same_entries rest =
      let a = concept.it in
      let start = at + length (annotations_onto a.notes []) + a.tabs in
      ap (λ (es : List Entry). annotation_entries slot.parent at a.notes ++ (concept_entry slot.parent start a.tabs a.concept ∷ es))
      (append-nil (inside_entries (slot.next + length a.notes) start a.tabs a.concept))
      ∙ sym (append-nil entries)

  piece_ended : (last : Result Part Refused) → seen last ≡ seen_of (λ rest. made) (λ rest. own) s (line_rest (drop end s)) → ReadsPiece table s at deeper cells slot last after
  unfolding concept_size body_count
  piece_ended last e =
      makes_behind ended piece_size piece_count (piece_entries slot.parent slot.next at) (λ rest. []) entries s cells after slot.next
      (line_rest (drop end s)) _ last after concept.finds same_entries concept.laid
      (record {
        says = e ∙ seen_same (λ rest. made) (λ rest. own) (λ rest. piece_size (ended rest)) (λ rest. piece_count (ended rest)) s (line_rest (drop end s))
            (λ rest. omega (arith, concept.many)) (λ rest. omega (arith, concept.owned));
        laid = λ rest left f. sym (lay_none after (slot.next + length entries));
      })

-- what follows the tabs of a line that is not blank, and what a Concept with its annotations is followed by
abbrev pub annotated_line : Found Annotated → Found BodyPiece
annotated_line x = and_then x (λ a left. and_then (line_rest left) (λ rest end. found (element_piece a rest) end))

abbrev pub behind_tabs : Found Annotated → Found ℕ → Found BodyPiece
behind_tabs x tabs = and_then tabs (λ n mark. annotated_line x)

module _ (table : List ℕ) {s : List ℕ} {at : ℕ} {cells : List ℕ} {slot : Slot} (h : Ready s at cells slot) (deeper : ℕ) where
  abbrev room : ℕ
  room = slot.room - slot.next

  abbrev Piece : Result Part Refused → List ℕ → Type 0
  Piece r after = ReadsPiece table s at deeper cells slot r after

  abbrev sought : Found BodyPiece
  sought = piece_of (modes_of table) bounds deeper room (drop at s)

  abbrev noted : Found Annotated
  noted = annotated_of (modes_of table) bounds deeper room (drop at s)

  module _ {o : Bool} (asked : o ≡ is_blank_line (drop at s)) where
    pub blank_made : o ≡ true → (r : Result Part Refused) → seen r ≡ passed s (line_rest (drop at s)) → Piece r cells
    unfolding concept_size body_count inside_entries
    blank_made t r e =
        makes_behind blank_piece piece_size piece_count (piece_entries slot.parent slot.next at) (λ b. []) [] s cells cells slot.next
        (line_rest (drop at s)) _ r cells
        (when_true (is_blank_line (drop at s)) _ _ (sym asked ∙ t)) (λ b. refl) (sym (lay_none cells slot.next))
        (record { says = e; laid = λ b left f. sym (lay_none cells (slot.next + 0)) })

    module _ (f : o ≡ false) where
      by_tabs : sought ≡ behind_tabs noted (tabs_only (drop at s))
      by_tabs = when_false (is_blank_line (drop at s)) _ _ (sym asked ∙ f)

      pub tabs_refused : (e : Refused) → seen (Err e) ≡ passed s (tabs_only (drop at s)) → {r : Result Part Refused} → r ≡ Err e → Piece r cells
      tabs_refused e told {r} q =
          makes_passed _ _ _ _ _ _ _ r cells (λ n. 0) (λ n. 0) (behind_tabs noted) (λ k left. refl) (tabs_only (drop at s)) e told q by_tabs

      -- tabs only: annotations, a Concept, and the rest of its line
      pub tabs_passed : {line : ℕ} → reached (Ok line) ≡ passed s (tabs_only (drop at s)) → sought ≡ annotated_line noted
      tabs_passed {line} told =
          let t =
          reached_at (λ n mark. mark ≡ behind is_tab (drop at s)) s at (tabs_only (drop at s)) (Ok line) line told (only_reads (drop at s)) h.in_sheet.inside refl in
          by_tabs ∙ ap (behind_tabs noted) t.finds

  module _ (by : sought ≡ annotated_line noted) {r : Result Part Refused} {after : List ℕ} (one : ReadsAnnotated table s at deeper cells slot r after) where
    concept_at : {p : Part} → r ≡ Ok p → ConceptAt table s at deeper cells slot after p.end p.made p.own
    concept_at {p} q =
        let f = found_at_lem annotated_size annotated_count s r _ at noted p one.says
        (annotated_reads (modes_of table) bounds deeper room (drop at s)) h.in_sheet.inside q in
        record {
          it = f.it;
          finds = by ∙ ap annotated_line f.finds;
          many = f.many;
          owned = f.owned;
          inside = f.inside;
          laid = one.laid f.it (drop p.end s) f.finds;
        }

    pub concept_refused : {e : Refused} → r ≡ Err e → {last : Result Part Refused} → last ≡ Err e → Piece last after
    concept_refused {e} p {last} q =
        makes_passed _ _ _ _ _ _ _ last after annotated_size annotated_count annotated_line (λ n left. refl) noted e (ap seen (sym p) ∙ one.says) q by

    pub line_made : {p : Part} → r ≡ Ok p → (last : Result Part Refused) → seen last ≡ line_ended s p → Piece last after
    line_made q last e = piece_ended (concept_at q) last e

-- ---- the pieces of a body, one after another

-- the body from i on, where so many entries are made already
abbrev Rest : Modes → ℕ → List ℕ → Slot → List ℕ → ℕ → ℕ → ℕ → Result Part Refused → List ℕ → Type 0
Rest m deeper s slot cells i made own r after =
    Makes (λ b. made + body_size b) (λ b. own + body_count b) (body_entries slot.parent (slot.next + made) i) s cells (slot.next + made)
    (up_to_mark (body_of m bounds deeper (slot.room - (slot.next + made)) (drop i s))) r after

-- something made of a body that is read up to a mark
marked_map : (f : Body → Body) (x : Found Body) → up_to_mark (and_then x (λ b left. found (f b) left)) ≡ and_then (up_to_mark x) (λ b left. found (f b) left)
marked_map f (found b left) = refl
marked_map f (fault n left) = refl

-- what the turns so far leave
pub record Pieces (table s : List ℕ) (at deeper : ℕ) (lent : List ℕ) (slot : Slot) (cells : List ℕ) (i made own : ℕ) : Type 0 where
  pub ahead : at ≤ i
  pub inside : i ≤ length s
  pub few : slot.next + made ≤ slot.room
  pub fewer : own ≤ made
  pub held : length cells ≡ length lent
  pub goes_on : (r : Result Part Refused) (after : List ℕ) → Rest (modes_of table) deeper s slot cells i made own r after → ReadsChildren table s at deeper lent slot r after

pub pieces_begin : (table s : List ℕ) (at deeper : ℕ) (cells : List ℕ) (slot : Slot) → at ≤ length s → slot.next ≤ slot.room
    → Pieces table s at deeper cells slot cells at 0 0
pieces_begin table s at deeper cells slot h f = record {
  ahead = omega arith;
  inside = h;
  few = omega arith;
  fewer = omega arith;
  held = refl;
  goes_on = λ r after k.
      makes_same (λ b. 0 + body_size b) (λ b. 0 + body_count b) body_size body_count (body_entries slot.parent slot.next at) s cells slot.next
      (up_to_mark (body_of (modes_of table) bounds deeper (slot.room - slot.next) (drop at s))) r after
      (λ b. zero-add (body_size b)) (λ b. zero-add (body_count b)) (rw (add-zero slot.next) at k);
}

module _ {table s : List ℕ} {at deeper : ℕ} {lent : List ℕ} {slot : Slot} {cells : List ℕ} {i made own : ℕ}
    (so_far : Pieces table s at deeper lent slot cells i made own)
    {mark : ℕ} (run : Stretch is_tab s i mark) {o : Bool} (asked : o ≡ starts_with (bytes "</") (drop mark s)) where
  abbrev m : Modes
  m = modes_of table

  abbrev left : ℕ
  left = slot.room - (slot.next + made)

  abbrev reading : Found Body
  reading = body_of m bounds deeper left (drop i s)

  closing_line : is_closing (drop i s) ≡ o
  closing_line = ap (starts_with (bytes "</")) (behind_at is_tab s i mark run) ∙ sym asked

  pub pieces_over : o ≡ true → ReadsChildren table s at deeper lent slot (Ok (record { end = mark; made = made; own = own })) cells
  unfolding concept_size body_count inside_entries
  pieces_over t =
      so_far.goes_on (Ok (record { end = mark; made = made; own = own })) cells
      (makes_read _ _ _ _ _ _ (up_to_mark reading) (Ok (record { end = mark; made = made; own = own })) cells done _ refl run.2
      (ap up_to_mark (body_over m deeper left (drop i s) (closing_line ∙ t)) ∙ ap (found done) (behind_at is_tab s i mark run))
      (sym (add-zero made)) (sym (add-zero own)) (sym (lay_none cells (slot.next + made))))

  module _ (f : o ≡ false) where
    by_piece : reading ≡ and_then (piece_of m bounds deeper left (drop i s)) (onward m deeper left)
    by_piece = body_on m deeper left (drop i s) (closing_line ∙ f)

    -- one more
    module _ {next : Slot} (lends : next ≡ slot_after slot made) {r : Result Part Refused} {after : List ℕ}
        (one : ReadsPiece table s i deeper cells next r after) where
      abbrev start : ℕ
      start = slot.next + made

      found_one : Makes piece_size piece_count (piece_entries slot.parent start i) s cells start (piece_of m bounds deeper left (drop i s)) r after
      found_one = rw lends at one

      pub pieces_refused : {e : Refused} → r ≡ Err e → {last : Result Part Refused} → last ≡ Err e → ReadsChildren table s at deeper lent slot last after
      pieces_refused {e} p {last} q =
          so_far.goes_on last after
          (makes_passed _ _ _ _ _ _ (up_to_mark reading) last after piece_size piece_count (λ x. up_to_mark (and_then x (onward m deeper left))) (λ k rest. refl)
          (piece_of m bounds deeper left (drop i s)) e (ap seen (sym p) ∙ found_one.says) q (ap up_to_mark by_piece))

      module _ {p : Part} (q : r ≡ Ok p) where
        abbrev end : ℕ
        end = p.end

        abbrev more : ℕ
        more = p.made

        abbrev mine : ℕ
        mine = p.own

        piece : FoundAt piece_size piece_count (λ p rest. ReadPiece m bounds deeper left (drop i s) p rest) s i
            (piece_of m bounds deeper left (drop i s)) p.end p.made p.own
        piece =
            found_at_lem piece_size piece_count s r _ i (piece_of m bounds deeper left (drop i s)) p found_one.says
            (piece_reads m bounds deeper left (drop i s)) so_far.inside q

        pub piece_ahead : (i < end) × (end ≤ length s) × (start + more ≤ slot.room) × (mine ≤ more)
        piece_ahead = (
          further s i end piece.holds.shorter,
          piece.inside,
          omega (arith, piece.many, piece.holds.it.fits, so_far.few),
          omega (arith, piece.many, piece.owned, body_few (before piece.it done)),
        )

        abbrev first : List Entry
        first = piece_entries slot.parent start i piece.it

        ends : i + length (body_onto (before piece.it done) []) ≡ end
        ends = omega (
          arith,
          ap length piece.holds.it.covers,
          body_long (before piece.it done) (drop end s),
          length-drop i s,
          length-drop end s,
          so_far.inside,
          piece.inside,
        )

        entered : (b : Body) → body_entries slot.parent start i (before piece.it b) ≡ first ++ body_entries slot.parent (start + length first) end b
        entered b =
            before_entries piece.it b slot.parent start i
            ∙ ap (λ (k : ℕ). first ++ body_entries slot.parent (start + k) (i + length (body_onto (before piece.it done) [])) b)
            (sym (body_size_lem (before piece.it done) slot.parent start i))
            ∙ ap (λ (k : ℕ). first ++ body_entries slot.parent (start + length first) k b) ends

        pub pieces_on : length after ≡ length cells → Pieces table s at deeper lent slot after end (made + more) (own + mine)
        pieces_on h =
            let on = piece_ahead in
            let long = body_size_lem (before piece.it done) slot.parent start i in
            let number : slot.next + (made + more) ≡ start + length first = omega (arith, piece.many) in
            let next_body = body_of m bounds deeper (left - piece_size piece.it) (drop end s) in
            let less : slot.room - (start + length first) ≡ left - piece_size piece.it = omega (arith, long) in
            record {
              ahead = omega (arith, so_far.ahead, on.0);
              inside = on.1;
              few = omega (arith, on.2);
              fewer = omega (arith, so_far.fewer, on.3);
              held = h ∙ so_far.held;
              goes_on = λ other cells' k.
                  so_far.goes_on other cells'
                  (makes_behind (before piece.it) (λ b. made + body_size b) (λ b. own + body_count b) (body_entries slot.parent start i)
                  (body_entries slot.parent (start + length first) end) first s cells after start
                  (up_to_mark next_body) (up_to_mark reading) other cells'
                  (ap up_to_mark (by_piece ∙ ap (λ (x : Found BodyPiece). and_then x (onward m deeper left)) piece.finds)
                  ∙ marked_map (before piece.it) next_body)
                  entered (found_one.laid piece.it (drop end s) piece.finds)
                  (makes_same (λ b. made + more + body_size b) (λ b. own + mine + body_count b) _ _
                  (body_entries slot.parent (start + length first) end) s after (start + length first)
                  (up_to_mark next_body) other cells'
                  (λ b. omega (arith, before_size piece.it b, piece.many)) (λ b. omega (arith, before_count piece.it b, piece.owned))
                  (rw (number, less) at k)));
            }
