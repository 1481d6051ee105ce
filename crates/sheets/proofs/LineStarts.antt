-- A line with "<" or LF behind its tabs: a Concept with no annotations, or a blank line. Over plain lists. Assumes nothing.
use Prim.Native.Nat.{ℕ, ◌+◌, ◌-◌, ◌≤◌, ◌<◌}
use mathlib.Core.Path.{◌≡◌, refl, sym, ap, ◌∙◌}
use mathlib.Core.Bool.{true, false}
use mathlib.Core.List.{List, [], ◌∷◌}
use native.Mathlib.Omega.{arith}
use lib.ListN.{length, get_or, drop}
use lib.Dec.{eqb}
use Rattle.std.specs.Prelude.{Ok}
use Rattle.paper.specs.Found.{found, taking}
use Rattle.paper.specs.Bytes.{byte, lf, space, is_blank, is_line_end, starts_in, starts_with, length_in}
use Rattle.paper.specs.Modes.{Modes}
use Rattle.paper.specs.Entries.{annotation_entries}
use Rattle.paper.specs.Reading.{is_tab, line_rest, is_blank_line, tabs_only, annotation_turn, annotations, annotated_of, piece_of, bounds}
use Rattle.paper.proofs.Tests.{when_false}
use Rattle.paper.proofs.Annotations.{annotation_shorter}
use Rattle.text.proofs.Places.{here}
use Rattle.text.proofs.Stretch.{Stretch, behind_at}
use Rattle.entries.specs.declared.Slot.{Slot}
use Rattle.entries.proofs.Laying.{lay_none}
use Rattle.lines.specs.Parts.{reached, passed, MakesNotes}
use Rattle.lines.specs.declared.part.Part.{Part}
use Rattle.lines.proofs.Ends.{starts_one, stands_one, rest_lf}
use Rattle.lines.proofs.Blanks.{tabs_blanks, line_by, tabs_found}
use Rattle.lines.proofs.Crossing.{makes_read}
use Rattle.lines.proofs.Turns.{turn_over}
use Rattle.sheets.proofs.PieceLaws.{annotated_line, behind_tabs}

-- this byte stands behind the tabs of a line
pub record Behind (b : ℕ) (s : List ℕ) (at mark : ℕ) : Type 0 where
  pub run : Stretch is_tab s at mark
  pub starts : starts_with (b ∷ []) (drop mark s) ≡ true

-- and no other
module _ {b : ℕ} {s : List ℕ} {at mark : ℕ} (line : Behind b s at mark) where
  stands : (mark < length s) × (get_or s mark 0 ≡ b)
  stands = stands_one b s mark line.starts

  no_other : (c : ℕ) → eqb b c ≡ false → starts_with (c ∷ []) (drop mark s) ≡ false
  unfolding starts_in
  no_other c n = starts_one c (drop mark s) ∙ rw (here s mark stands.0, stands.1) n

  blanks : is_blank b ≡ false → Stretch is_blank s at mark
  unfolding starts_in
  blanks n = tabs_blanks s at mark line.run (rw (here s mark stands.0, stands.1) n)

  blank_by : is_blank b ≡ false → is_line_end b ≡ is_blank_line (drop at s)
  blank_by n = sym (ap is_line_end stands.1) ∙ line_by s at mark (blanks n) stands.0

-- LF: a blank line
module _ {s : List ℕ} {at mark : ℕ} (line : Behind lf s at mark) where
  pub lf_blank : true ≡ is_blank_line (drop at s)
  unfolding is_blank is_line_end
  lf_blank = blank_by line refl

  pub lf_rest : reached (Ok (mark + 1)) ≡ passed s (line_rest (drop at s))
  unfolding is_blank
  lf_rest = rest_lf s at mark (blanks line refl) line.starts

-- "<": a Concept
module _ {s : List ℕ} {at mark : ℕ} (line : Behind (byte "<") s at mark) where
  not_blank : is_blank_line (drop at s) ≡ false
  unfolding is_blank is_line_end
  not_blank = sym (blank_by line refl)

  only_tabs : tabs_only (drop at s) ≡ found (length_in is_tab (drop at s)) (drop mark s)
  unfolding is_blank
  only_tabs =
      tabs_found s at mark (blanks line refl) (λ e. let inside = (stands line).0 in omega arith) mark line.run _ refl (no_other line space refl)

  pub mark_piece : (m : Modes) (deeper room : ℕ)
      → piece_of m bounds deeper room (drop at s) ≡ annotated_line (annotated_of m bounds deeper room (drop at s))
  mark_piece m deeper room =
      when_false (is_blank_line (drop at s)) _ _ not_blank ∙ ap (behind_tabs (annotated_of m bounds deeper room (drop at s))) only_tabs

-- another byte than "[": no annotations
pub notes_none : {s : List ℕ} {at mark : ℕ} → Stretch is_tab s at mark → starts_with (byte "[" ∷ []) (drop mark s) ≡ false
    → (cells : List ℕ) (slot : Slot) → at ≤ length s → (p : Part) → p ≡ record { end = at; made = 0; own = 0 } → MakesNotes s at cells slot (Ok p) cells
unfolding annotation_turn annotation_entries
notes_none {s} {at} {mark} run none cells slot h p q =
    let over : annotations (slot.room - slot.next) (drop at s) ≡ found [] (drop at s) =
    turn_over (taking (λ a. 1)) annotation_turn annotation_shorter (slot.room - slot.next) (drop at s) (drop at s)
    (rw (behind_at is_tab s at mark run, annotation_turn, none)) in
    makes_read _ _ _ _ _ _ _ (Ok p) cells [] _ (ap Ok q) h over refl refl (sym (lay_none cells slot.next))
