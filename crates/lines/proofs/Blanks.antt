-- Blank lines, and the tabs and blanks of a line, read at a place: a law for each way out of src/blank.rt.
-- Over plain lists. Assumes nothing.
use Prim.Native.Nat.{ℕ, suc, ◌+◌, ◌≤◌, ◌<◌}
use mathlib.Core.Path.{◌≡◌, refl, sym, ap, ◌∙◌}
use mathlib.Core.Bool.{Bool, true, false}
use mathlib.Core.List.{List, [], ◌∷◌}
use native.Mathlib.Omega.{arith}
use lib.ListN.{length, get_or, drop, drop_of_length-le}
use lib.Dec.{eqb}
use Rattle.std.specs.Prelude.{Result, Ok, Err}
use Rattle.paper.specs.declared.Refused.{Refused}
use Rattle.paper.specs.Found.{found, fault, turn_of, taking}
use Rattle.paper.specs.Bytes.{is_blank, is_line_end, starts_in, length_in, front, behind, starts_with, space, tab, is}
use Rattle.paper.specs.Reading.{line_rest, is_blank_line, blank_turn, blank_lines, is_tab, no_space, tabs_only, last_blanks}
use Rattle.paper.proofs.Tests.{split}
use Rattle.paper.proofs.Lines.{blank_shorter}
use Rattle.text.proofs.Places.{here}
use Rattle.lines.specs.Parts.{seen, reached, passed}
use Rattle.lines.specs.declared.part.Part.{Part}
use Rattle.text.proofs.Stretch.{Stretch, behind_at, behind_none, behind_some}
use Rattle.lines.proofs.Crossing.{reaches}
use Rattle.lines.proofs.Ends.{RestAt, starts_one}
use Rattle.lines.proofs.Turns.{turn_more, turn_over, turn_refused}

-- ---- the blanks that stand from a place to an end

module _ (s : List ℕ) (at end : ℕ) (run : Stretch is_blank s at end) where
  pub no_line : length s ≤ end → false ≡ is_blank_line (drop at s)
  unfolding starts_in
  no_line h = rw (behind_none is_blank s at end run h)

  pub line_by : end < length s → is_line_end (get_or s end 0) ≡ is_blank_line (drop at s)
  unfolding starts_in
  line_by h = rw (behind_some is_blank s at end run h)

  pub last_more : end < length s → last_blanks (front is_blank (drop at s)) (behind is_blank (drop at s)) ≡ fault 7 (drop end s)
  unfolding last_blanks
  last_more h = rw (behind_some is_blank s at end run h) (ap (fault 7) (sym (here s end h)))

  pub last_none : length s ≤ end → last_blanks (front is_blank (drop at s)) (behind is_blank (drop at s)) ≡ found (front is_blank (drop at s)) (drop end s)
  unfolding last_blanks
  last_none h = rw (behind_none is_blank s at end run h) (ap (found (front is_blank (drop at s))) (sym (drop_of_length-le s h)))

-- tabs with no space behind them are all the blanks there are
tab_blank : (b : ℕ) → eqb b tab ≡ true → is_blank b ≡ true
unfolding is_blank
tab_blank b t = split (eqb b space) (λ e. rw e) (λ e. rw (e, t))

as_many : (l : List ℕ) → starts_in is_blank (behind is_tab l) ≡ false → length_in is_blank l ≡ length_in is_tab l
unfolding length_in starts_in
as_many [] e = refl
as_many (b ∷ l) e =
    split (eqb b tab) (λ t. rw (tab_blank b t, length_in, t) (ap suc (as_many l (rw (length_in, t) at e)))) (λ f. rw (length_in, f, rw (length_in, f) at e))

pub tabs_blanks : (s : List ℕ) (at end : ℕ) → Stretch is_tab s at end → starts_in is_blank (drop end s) ≡ false → Stretch is_blank s at end
tabs_blanks s at end run e =
    (run.0 ∙ ap (λ (k : ℕ). at + k) (sym (as_many (drop at s) (ap (starts_in is_blank) (behind_at is_tab s at end run) ∙ e))), run.1, run.2)

-- ---- the tabs of a line on which a blank line may stand too

module _ (s : List ℕ) (at mark : ℕ) (run : Stretch is_blank s at mark) where
  pub tabs_cut : mark ≡ length s → tabs_only (drop at s) ≡ fault 9 []
  unfolding no_space
  tabs_cut e = rw (behind_none is_blank s at mark run (omega arith))

  module _ (more : mark ≡ length s → ⊥) (tabs : ℕ) (ends : Stretch is_tab s at tabs) (o : Bool) (asked : o ≡ starts_with (space ∷ []) (drop tabs s)) where
    inside : mark < length s
    inside = omega (arith, run.2)

    a_space : starts_in (is space) (behind is_tab (drop at s)) ≡ o
    a_space = ap (starts_in (is space)) (behind_at is_tab s at tabs ends) ∙ sym (starts_one space (drop tabs s)) ∙ sym asked

    pub tabs_space : o ≡ true → tabs_only (drop at s) ≡ fault 7 (drop mark s)
    unfolding no_space
    tabs_space t = rw (behind_some is_blank s at mark run inside, no_space, a_space ∙ t) (ap (fault 7) (sym (here s mark inside)))

    pub tabs_found : o ≡ false → tabs_only (drop at s) ≡ found (length_in is_tab (drop at s)) (drop tabs s)
    unfolding no_space
    tabs_found f =
        rw (behind_some is_blank s at mark run inside, no_space, a_space ∙ f) (ap (found (length_in is_tab (drop at s))) (behind_at is_tab s at tabs ends))

-- ---- the loop over blank lines: those from i on end where those from a place on do

pub record Lines (s : List ℕ) (at i : ℕ) : Type 0 where
  pub inside : i ≤ length s
  pub same : passed s (blank_lines (drop i s)) ≡ passed s (blank_lines (drop at s))

pub lines_begin : (s : List ℕ) (at : ℕ) → at ≤ length s → Lines s at at
lines_begin s at h = record { inside = h; same = refl }

module _ (s : List ℕ) (at i : ℕ) (so_far : Lines s at i) (o : Bool) (asked : o ≡ is_blank_line (drop i s)) where
  pub lines_over : o ≡ false → reached (Ok i) ≡ passed s (blank_lines (drop at s))
  unfolding blank_turn
  lines_over f =
      reaches s (blank_lines (drop i s)) [] i so_far.inside
      (turn_over (taking (λ b. 0)) blank_turn blank_shorter 0 (drop i s) (drop i s) (rw (sym asked ∙ f, blank_turn)))
      ∙ so_far.same

  module _ (t : o ≡ true) where
    a_line : blank_turn 0 (drop i s) ≡ turn_of (line_rest (drop i s))
    unfolding blank_turn
    a_line = rw (sym asked ∙ t, blank_turn)

    pub lines_refused : (r : Result Part Refused) (e : Refused) → seen (Err e) ≡ passed s (line_rest (drop i s)) → r ≡ Err e
        → seen r ≡ passed s (blank_lines (drop at s))
    lines_refused r e k q =
        turn_refused (taking (λ b. 0)) blank_turn blank_shorter 0 (drop i s) (λ b. 0) (λ b. 0) s turn_of (λ n left. refl) (λ bs. 0) (λ bs. 0) (line_rest (drop i s)) r e k q a_line
        ∙ so_far.same

    pub lines_on : (end : ℕ) → RestAt s i end → Lines s at end
    lines_on end line = record {
      inside = line.inside;
      same =
          turn_more (taking (λ b. 0)) blank_turn blank_shorter 0 (drop i s) (λ bs. 0) (λ bs. 0) s line.it (drop end s) (a_line ∙ ap turn_of line.finds)
          ∙ so_far.same;
    }
