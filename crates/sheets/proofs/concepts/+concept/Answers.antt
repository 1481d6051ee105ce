-- A law for each way out of the functions of the cycle; the entries of each go behind those that were made before.
use Prim.Native.Nat.{ℕ, ◌+◌, ◌-◌, ◌≤◌, ◌<◌}
use mathlib.Core.Path.{◌≡◌, refl, sym, ap, ◌∙◌}
use mathlib.Core.Logic.{◌⊎◌, inl, inr}
use mathlib.Core.List.{List}
use native.Mathlib.Omega.{arith}
use lib.ListN.{length, drop}
use Rattle.text.proofs.Answers.{passes}
use Rattle.std.specs.Prelude.{Ok, Err}
use Rattle.paper.specs.Bytes.{byte, lf}
use Rattle.paper.specs.Forms.{number_of_body}
use Rattle.paper.specs.Reading.{is_tab, line_rest, annotated_of, piece_of, bounds}
use Rattle.paper.proofs.Concepts.{annotated_reads}
use Rattle.text.proofs.Stretch.{Stretch}
use Rattle.modes.specs.Table.{modes_of}
use Rattle.entries.specs.declared.Slot.{Slot}
use Rattle.entries.proofs.Slots.{fits_after}
use Rattle.lines.specs.Parts.{seen, reached, passed}
use Rattle.lines.specs.declared.part.Part.{Part}
use Rattle.lines.proofs.Crossing.{found_at_lem}
use Rattle.lines.proofs.Ends.{RestAt, rest_at}
use Rattle.sheets.specs.declared.opening.Opened.{Opened}
use Rattle.sheets.specs.Opening.{ReadsOpening}
use Rattle.sheets.specs.Concepts.{Ready, ReadsAnnotated, ReadsChildren, annotated_size, annotated_count}
use Rattle.sheets.proofs.ConceptLaws.{inside_closed, inside_block, inside_content, marker_refused, MarkerAt, marker_ahead, lent_stands, inside_refused, may_end, concept_ended}
use Rattle.sheets.proofs.Slots.{stands_on}
use Rattle.sheets.proofs.NameIndex.{names_on, names_end, names_same, names_rest, names_closing, names_content, names_line, names_ended}
use Rattle.sheets.proofs.TraitRuns.{refused_names}
use Rattle.sheets.proofs.PieceLaws.{annotated_line, blank_made, tabs_passed, concept_refused, line_made, pieces_over, pieces_refused, piece_ahead, pieces_on}
use Rattle.sheets.proofs.LineStarts.{Behind, lf_blank, lf_rest, mark_piece}
use Rattle.sheets.proofs.AnnotatedLaws as annotated
use Rattle.sheets.proofs.BlockLaws as block
use Rattle.sheets.proofs.concepts.+concept.Goals as goal
use Rattle.sheets.proofs.concepts.+concept.Goals.{read_children-In_ok-piece, read_piece-After-read_annotated}
use Rattle.sheets.proofs.concepts.+concept.Goals.{read_piece-then-not-starts_with+else-starts_with+else-is_blank_line+in_ok-tabs_only, read_piece-else-not-starts_with}

-- where a part ends that is known
ends : {p q : Part} → p ≡ q → p.end ≡ q.end
ends e = ap (λ (x : Part). x.end) e

-- the tabs of the Concept's line end where it is due: without annotations that is where those of the first line end
tagged : {s : List ℕ} {at : ℕ} {cells : List ℕ} {slot : Slot} {mid : List ℕ} {line made : ℕ}
    → annotated.NotesAt s at cells slot mid line made → {mark : ℕ} → Stretch is_tab s at mark
    → (tag : ℕ) → ((made ≡ 0) × (tag ≡ mark)) ⊎ Stretch is_tab s line tag → Stretch is_tab s line tag
tagged notes run tag (inl none) = rw none.1 (annotated.tabs_there notes run none.0)
tagged notes run tag (inr some) = some

module _ {s : List ℕ} {at : ℕ} {cells : List ℕ} {slot : Slot} (ready : Ready s at cells slot) where
  -- the opening marker of a Concept
  opened : {table : List ℕ} {deeper : ℕ} {mid : List ℕ} {o : Opened} → ReadsOpening table s at deeper cells slot (Ok o) mid
      → MarkerAt table s at cells slot deeper mid o
  opened opens = record { stands = ready; opens = opens }

  -- a Concept that is read with its annotations ends in the sheet
  concept_ends : (table : List ℕ) (deeper : ℕ) {p : Part} {after : List ℕ} → ReadsAnnotated table s at deeper cells slot (Ok p) after → p.end ≤ length s
  concept_ends table deeper {p} one =
      (found_at_lem annotated_size annotated_count s (Ok p) _ at _ p one.says
      (annotated_reads (modes_of table) bounds deeper (slot.room - slot.next) (drop at s)) ready.in_sheet.inside refl).inside

  -- the rest of a block's first line, and the children behind it
  module _ {start : ℕ} (e : reached (Ok start) ≡ passed s (line_rest (drop at s))) where
    rest_behind : RestAt s at start
    rest_behind = rest_at s at (Ok start) start ready.in_sheet.inside e refl

    body_behind : (table : List ℕ) (deeper : ℕ) {p : Part} {after : List ℕ} → ReadsChildren table s start deeper cells slot (Ok p) after
        → block.BodyAt s at cells slot (modes_of table) deeper after p.end p.made p.own
    body_behind table deeper children = block.body_at ready _ deeper rest_behind children refl

pub read_annotated-overflow_sub-tag : goal.read_annotated-overflow_sub-tag
read_annotated-overflow_sub-tag t c =
    let notes = annotated.notes_at c.requires.0 c.in_ok-notes.ensures in
    (tagged notes c.requires.1 c.if-notes-eq0.tag (grind arith)).1

pub read_annotated-after-requires : goal.read_annotated-after-requires
read_annotated-after-requires t c =
    let notes = annotated.notes_at c.requires.0 c.in_ok-notes.ensures in
    omega (arith, notes.few, notes.stands.fits.few)

pub read_annotated-read_concept-requires : goal.read_annotated-read_concept-requires
read_annotated-read_concept-requires t c =
    let notes = annotated.notes_at c.requires.0 c.in_ok-notes.ensures in
    let tabs = tagged notes c.requires.1 c.if-notes-eq0.tag (grind arith) in (
      omega (arith, c.decreases, notes.ahead, tabs),
      (
        annotated.concept_stands notes tabs c.after.ensures c.read_notes.auto.cells,
        names_on c.requires.2 (omega (arith, notes.ahead, tabs.1)),
      ),
    )

pub read_annotated-returns-in_err-concept : goal.read_annotated-returns-in_err-concept
read_annotated-returns-in_err-concept t c =
    let notes = annotated.notes_at c.requires.0 c.in_ok-notes.ensures in
    let tabs = tagged notes c.requires.1 c.if-notes-eq0.tag (grind arith) in
    let e = passes c.from_residual-in_err-concept.ensures.1 in
    (annotated.concept_refused notes tabs c.after.ensures _ _ c.in_err-concept.ensures.0 refl e, refused_names e)

pub read_annotated-overflow_add-result : goal.read_annotated-overflow_add-result
read_annotated-overflow_add-result t c =
    let notes = annotated.notes_at c.requires.0 c.in_ok-notes.ensures in
    let tabs = tagged notes c.requires.1 c.if-notes-eq0.tag (grind arith) in
    omega (arith, annotated.all_few notes tabs c.after.ensures _ _ c.in_ok-concept.ensures.0 refl, notes.stands.fits.few)

pub read_annotated-overflow_add-result-2 : goal.read_annotated-overflow_add-result-2
read_annotated-overflow_add-result-2 t c =
    let notes = annotated.notes_at c.requires.0 c.in_ok-notes.ensures in
    omega (arith, notes.few, notes.stands.fits.few)

pub read_annotated-returns : goal.read_annotated-returns
read_annotated-returns t c =
    let notes = annotated.notes_at c.requires.0 c.in_ok-notes.ensures in
    let tabs = tagged notes c.requires.1 c.if-notes-eq0.tag (grind arith) in (
      annotated.annotated_read notes tabs c.after.ensures _ _ c.in_ok-concept.ensures.0 refl,
      names_same c.in_ok-concept.ensures.1 refl refl,
    )

pub read_block-returns-in_err-start : goal.read_block-returns-in_err-start
read_block-returns-in_err-start t c =
    let e = passes c.from_residual.ensures.1 in
    (λ k tabs named. block.rest_refused c.requires.0 _ _ k tabs _ c.in_err-start.ensures e, refused_names e)

pub read_block-read_children-requires : goal.read_block-read_children-requires
read_block-read_children-requires t c =
    let rest = rest_behind c.requires.0 c.in_ok-start.ensures in (
      omega (arith, c.decreases, rest.ahead, rest.inside),
      (stands_on c.requires.0 rest.inside c.requires.0.fits, names_on c.requires.3 (omega (arith, rest.ahead))),
    )

pub read_block-returns-in_err-body : goal.read_block-returns-in_err-body
read_block-returns-in_err-body t c =
    let rest = rest_behind c.requires.0 c.in_ok-start.ensures in
    let e = passes c.from_residual-in_err-body.ensures.1 in
    (λ k tabs named. block.body_refused c.requires.0 _ _ rest c.in_err-body.ensures.0 k tabs refl e, refused_names e)

pub read_block-returns-in_err-end : goal.read_block-returns-in_err-end
read_block-returns-in_err-end t c =
    let body = body_behind c.requires.0 c.in_ok-start.ensures _ _ c.in_ok-body.ensures.0 in
    let e = passes c.from_residual-in_err-end.ensures.1 in
    (λ k tabs named. block.closing_refused body k named tabs _ c.in_err-end.ensures e, refused_names e)

pub read_block-returns : goal.read_block-returns
read_block-returns t c =
    let body = body_behind c.requires.0 c.in_ok-start.ensures _ _ c.in_ok-body.ensures.0 in (
      λ k tabs named. block.block_read body k named tabs c.in_ok-end.ensures,
      names_same (names_closing _ c.in_ok-end.ensures body.inside (c.in_ok-body.ensures.1 _ refl)) refl refl,
    )

pub read_children-returns-then-starts_with : goal.read_children-returns-then-starts_with
read_children-returns-then-starts_with t c = (
  pieces_over c.loop-nesting.invariant.0 c.tab_end-mark.ensures c.starts_with.ensures c.if-starts_with.true,
  names_end c.loop-nesting.invariant.2 refl c.tab_end-mark.ensures.1,
)

pub read_children-returns-in_err-piece : goal.read_children-returns-in_err-piece
read_children-returns-in_err-piece t c =
    let e = passes c.from_residual.ensures.1 in (
      pieces_refused c.loop-nesting.invariant.0 c.tab_end-mark.ensures c.starts_with.ensures c.if-starts_with.false
          c.after.ensures c.in_err-piece.ensures.0 refl e,
      refused_names e,
    )

-- a piece that is read ends further on, and leaves room
children-ahead : (t : ℕ) (c : read_children-In_ok-piece t) → let piece = c.in_ok-piece.piece in
    (c.loop-nesting.i < piece.end) × (piece.end ≤ length c.args.s.now)
    × (c.args.slot.next + c.loop-nesting.made + piece.made ≤ c.args.slot.room) × (piece.own ≤ piece.made)
children-ahead t c =
    piece_ahead c.loop-nesting.invariant.0 c.tab_end-mark.ensures c.starts_with.ensures c.if-starts_with.false
    c.after.ensures c.in_ok-piece.ensures.0 refl

pub read_children-overflow_add-made : goal.read_children-overflow_add-made
read_children-overflow_add-made t c =
    let on = children-ahead t (goal.at.read_children-overflow_add-made t c).In_ok-piece in
    omega (arith, c.requires.0.fits.few)

pub read_children-overflow_add-own : goal.read_children-overflow_add-own
read_children-overflow_add-own t c =
    let on = children-ahead t (goal.at.read_children-overflow_add-own t c).In_ok-piece in
    omega (arith, c.loop-nesting.invariant.0.fewer, c.requires.0.fits.few)

pub read_children-loop-nesting-smaller : goal.read_children-loop-nesting-smaller
read_children-loop-nesting-smaller t c =
    let on = children-ahead t (goal.at.read_children-loop-nesting-smaller t c).In_ok-piece in
    omega arith

pub read_children-loop-nesting-preserved : goal.read_children-loop-nesting-preserved
read_children-loop-nesting-preserved t c = (
  pieces_on c.loop-nesting.invariant.0 c.tab_end-mark.ensures c.starts_with.ensures c.if-starts_with.false
      c.after.ensures c.in_ok-piece.ensures.0 refl c.read_piece.auto.cells,
  c.read_piece.auto.names ∙ c.loop-nesting.invariant.1,
  c.in_ok-piece.ensures.1 _ refl,
)

pub read_concept-returns-in_err-opened : goal.read_concept-returns-in_err-opened
read_concept-returns-in_err-opened t c =
    let e = passes c.from_residual.ensures.1 in
    (marker_refused _ _ c.in_err-opened.ensures.0 _ e, refused_names e)

pub read_concept-after-next-requires : goal.read_concept-after-next-requires
read_concept-after-next-requires t c =
    let marker = opened c.requires.0 c.in_ok-opened.ensures.0 in
    omega (arith, (marker_ahead marker).4, marker.stands.fits.few, ap (λ (x : Slot). x.next) c.under.ensures)

pub read_concept-read_inside-requires : goal.read_concept-read_inside-requires
read_concept-read_inside-requires t c =
    let marker = opened c.requires.0 c.in_ok-opened.ensures.0 in
    let ahead = marker_ahead marker in (
      omega (arith, ahead.2, ahead.3, c.decreases),
      (
        lent_stands marker c.under.ensures c.after-next.ensures c.read_opening.auto.cells,
        omega (arith, ahead.0),
        ahead.1,
        c.in_ok-opened.ensures.1 _ refl,
      ),
    )

pub read_concept-returns-in_err-body : goal.read_concept-returns-in_err-body
read_concept-returns-in_err-body t c =
    let marker = opened c.requires.0 c.in_ok-opened.ensures.0 in
    let e = passes c.from_residual-in_err-body.ensures.1 in
    (inside_refused marker c.under.ensures c.after-next.ensures _ c.in_err-body.ensures.0 refl e, refused_names e)

pub read_concept-end_concept-requires : goal.read_concept-end_concept-requires
read_concept-end_concept-requires t c =
    let marker = opened c.requires.0 c.in_ok-opened.ensures.0 in
    may_end marker c.under.ensures c.after-next.ensures _ c.in_ok-body.ensures.0 refl (c.read_inside.auto.cells ∙ c.read_opening.auto.cells)

pub read_concept-returns : goal.read_concept-returns
read_concept-returns t c =
    let marker = opened c.requires.0 c.in_ok-opened.ensures.0 in (
      concept_ended marker c.under.ensures c.after-next.ensures _ c.in_ok-body.ensures.0 refl c.end_concept.ensures.0 c.end_concept.ensures.1,
      names_ended c.in_ok-body.ensures.1 _ c.end_concept.ensures.0,
    )

pub read_inside-returns-in-SelfClosed : goal.read_inside-returns-in-SelfClosed
read_inside-returns-in-SelfClosed t c = (
  λ k named. inside_closed c.requires.0 _ _ _ _ k (ap number_of_body c.in-SelfClosed.is) c.entryless.ensures,
  names_end c.requires.3 refl (omega (arith, ends c.entryless.ensures)),
)

pub read_inside-returns-in-Children : goal.read_inside-returns-in-Children
read_inside-returns-in-Children t c = (
  λ k named. inside_block c.requires.0 _ _ _ _ k (ap number_of_body c.in-Children.is) (c.read_block.ensures.0 k _ named),
  c.read_block.ensures.1,
)

pub read_inside-returns-in-Content : goal.read_inside-returns-in-Content
read_inside-returns-in-Content t c =
    let third = ap number_of_body c.in-Content.is in (
      λ k named. inside_content c.requires.0 _ _ _ _ k (λ e. omega arith) (λ e. omega arith) (c.read_content.ensures k named),
      names_content _ c.args.from c.args.to _ _ _ c.read_content.ensures c.requires.0.in_sheet.inside c.requires.3,
    )

pub read_piece-returns-then-starts_with : goal.read_piece-returns-then-starts_with
read_piece-returns-then-starts_with t c =
    let line : Behind lf c.args.s.now c.args.at c.args.mark =
    record { run = c.requires.1; starts = sym c.starts_with-then-not-starts_with.ensures ∙ c.if-starts_with.true } in (
      blank_made _ c.requires.0 _ (lf_blank line) refl _ (ap (λ (p : Part). seen (Ok p)) c.entryless.ensures ∙ lf_rest line),
      names_end c.requires.2 refl (omega (arith, c.requires.1.1, ends c.entryless.ensures)),
    )

pub read_piece-returns-then-is_blank_line : goal.read_piece-returns-then-is_blank_line
read_piece-returns-then-is_blank_line t c = (
  blank_made _ c.requires.0 _ c.is_blank_line.ensures c.if-is_blank_line.true _
      (ap (λ (p : Part). seen (Ok p)) c.entryless-then-is_blank_line.ensures ∙ c.in_ok-line_rest.ensures),
  names_same (names_rest c.in_ok-line_rest.ensures c.requires.0.in_sheet.inside c.requires.2) refl (ends c.entryless-then-is_blank_line.ensures),
)

-- a Concept with its annotations is due: its line has tabs only in front, or "<" behind them
concept_due : (t : ℕ) (c : read_piece-After-read_annotated t) → let top = c.args in
    let room = top.slot.room - top.slot.next in
    let m = modes_of top.modes.now.table.now in
    piece_of m bounds top.nesting.left room (drop top.at top.s.now) ≡ annotated_line (annotated_of m bounds top.nesting.left room (drop top.at top.s.now))
concept_due t c =
    elim c.if-not-starts_with.branch [
      | read_piece-then-not-starts_with+else-starts_with+else-is_blank_line+in_ok-tabs_only w ↦
          tabs_passed _ c.requires.0 _ w.is_blank_line.ensures w.if-is_blank_line.false w.in_ok-tabs_only.ensures
      | read_piece-else-not-starts_with w ↦
          let line : Behind (byte "<") c.args.s.now c.args.at c.args.mark =
          record { run = c.requires.1; starts = sym c.starts_with.ensures ∙ w.if-not-starts_with.false } in
          mark_piece line _ _ _
    ]

pub read_piece-returns-in_err-concept : goal.read_piece-returns-in_err-concept
read_piece-returns-in_err-concept t c =
    let e = passes c.from_residual-in_err-concept.ensures.1 in (
      concept_refused _ c.requires.0 _
          (concept_due t (goal.at.read_piece-returns-in_err-concept t c).After-read_annotated) c.in_err-concept.ensures.0 refl e,
      refused_names e,
    )

pub read_piece-returns : goal.read_piece-returns
read_piece-returns t c = (
  line_made _ c.requires.0 _
      (concept_due t (goal.at.read_piece-returns t c).After-read_annotated) c.in_ok-concept.ensures.0 refl _ c.end_line.ensures,
  names_line (concept_ends c.requires.0 _ _ c.in_ok-concept.ensures.0) c.in_ok-concept.ensures.1 c.end_line.ensures,
)
