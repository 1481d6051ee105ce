-- The closing line of Content at a place: a law for each way out of `closing_end` and `is_over` (src/content.rt). Assumes nothing.
-- Document 01, "The grammar", Content.
use Prim.Native.Nat.{ℕ, zero, suc, ◌+◌, ◌-◌, ◌≤◌, ◌<◌}
use mathlib.Core.Path.{◌≡◌, refl, sym, ap, ◌∙◌}
use mathlib.Core.Bool.{Bool, true, false}
use mathlib.Core.List.{List, [], ◌∷◌, append_cancel_left}
use native.Mathlib.Omega.{arith}
use lib.ListN.{length, drop, get_or, replicate, length-append, length-replicate, length-drop}
use lib.Seq.{drop-drop, length-take-le, drop-append_seam}
use lib.Dec.{eqb}
use Rattle.paper.specs.Bytes.{byte, is_blank, is_line_end, starts_in, length_in, behind, starts_with, tab}
use Rattle.paper.specs.Grammar.{tabs_onto, closing_onto}
use Rattle.paper.specs.Reading.{is_tab, at_line_end, closing_mark, closes_line}
use Rattle.paper.proofs.Tests.{split}
use Rattle.paper.proofs.Lists.{starts_is, starts_of}
use Rattle.paper.proofs.Lines.{tabs_length}
use Rattle.paper.proofs.Content.{mark_onto, closes_is}
use Rattle.lines.specs.Parts.{part, Closes}
use Rattle.text.proofs.Stretch.{Stretch, behind_none, behind_some}
use Rattle.std.specs.Bool.{then_some}

-- ---- only blanks up to the end of the line

module _ (s : List ℕ) (at end : ℕ) (run : Stretch is_blank s at end) where
  pub over_end : length s ≤ end → true ≡ at_line_end (behind is_blank (drop at s))
  unfolding at_line_end
  over_end h = rw (behind_none is_blank s at end run h)

  pub over_byte : end < length s → is_line_end (get_or s end 0) ≡ at_line_end (behind is_blank (drop at s))
  unfolding at_line_end
  over_byte h = rw (behind_some is_blank s at end run h)

-- ---- the closing line by its parts

-- it has exactly these tabs
closes_tabs : (tabs : ℕ) (w s : List ℕ) → closes_line tabs w s ≡ true → length_in is_tab s ≡ tabs
unfolding starts_in
closes_tabs tabs w s e = ap (length_in is_tab) (closes_is tabs w s e) ∙ tabs_length tabs (closing_onto w (drop (length (closing_mark tabs w)) s)) refl

-- as many tabs as stand in front, or fewer, are fixed bytes in front; more are not
pub tabs_stand : (n : ℕ) (s : List ℕ) → n ≤ length_in is_tab s → starts_with (replicate n tab) s ≡ true
unfolding starts_with length_in
tabs_stand zero s h = refl
tabs_stand (suc n) [] h = absurd (omega arith)
tabs_stand (suc n) (b ∷ s) h =
    split (eqb b tab) (λ e. rw (e, starts_with) (tabs_stand n s (omega (arith, rw (e, length_in) at h)))) (λ e. absurd (omega (arith, rw (e, length_in) at h)))

pub tabs_fail : (n : ℕ) (s : List ℕ) → length_in is_tab s < n → starts_with (replicate n tab) s ≡ false
unfolding starts_with length_in
tabs_fail zero s h = absurd (omega arith)
tabs_fail (suc n) [] h = refl
tabs_fail (suc n) (b ∷ s) h = split (eqb b tab) (λ e. rw (e, starts_with) (tabs_fail n s (omega (arith, rw (e, length_in) at h)))) (λ e. rw (e, starts_with))

pub mark_length : (tabs : ℕ) (w : List ℕ) → length (closing_mark tabs w) ≡ tabs + 3 + length w
mark_length tabs w = omega (arith, length-append (replicate tabs tab) (closing_onto w []), length-replicate tabs tab, length-append w (byte ">" ∷ []))

pub part_length : (s : List ℕ) (from to : ℕ) → from ≤ to → to ≤ length s → length (part s from to) ≡ to - from
part_length s from to h k = length-take-le (to - from) (drop from s) (omega (arith, length-drop from s))

-- ---- the same at a place, where the tabs end at `mark`

-- the closing mark behind its tabs decides, and what follows it
closes_onto : (tabs : ℕ) (w next : List ℕ) → closes_line tabs w (tabs_onto tabs (closing_onto w next)) ≡ at_line_end (behind is_blank next)
unfolding closes_line
closes_onto tabs w next = rw (mark_onto tabs w next, starts_of (closing_mark tabs w) next, drop-append_seam (closing_mark tabs w) next)

module _ (s w : List ℕ) (at tabs mark : ℕ) (run : Stretch is_tab s at mark) where
  pub other_tabs : (mark - at ≡ tabs → ⊥) → closes_line tabs w (drop at s) ≡ false
  other_tabs f = split (closes_line tabs w (drop at s)) (λ h. absurd (f (omega (arith, run.0, closes_tabs tabs w (drop at s) h)))) (λ h. h)

  module _ (f : mark - at ≡ tabs) where
    behind_tabs : drop at s ≡ tabs_onto tabs (drop mark s)
    behind_tabs =
        let m : at + tabs ≡ mark = omega (arith, run.1) in
        let n : tabs ≤ length_in is_tab (drop at s) = omega (arith, run.0) in
        starts_is (replicate tabs tab) (drop at s) (tabs_stand tabs (drop at s) n)
        ∙ ap (tabs_onto tabs) (rw (length-replicate tabs tab, drop-drop tabs at s, m))

    pub other_mark : ((next : List ℕ) → drop mark s ≡ closing_onto w next → ⊥) → closes_line tabs w (drop at s) ≡ false
    other_mark n =
        split (closes_line tabs w (drop at s))
        (λ e. absurd (n _ (append_cancel_left (replicate tabs tab) _ _ (sym behind_tabs ∙ closes_is tabs w (drop at s) e))))
        (λ e. e)

    -- it stands there with what follows it
    module _ (next : List ℕ) (end : ℕ) (e : drop mark s ≡ closing_onto w next) (k : end ≡ length s - length next) where
      all_of_it : drop at s ≡ tabs_onto tabs (closing_onto w next)
      all_of_it = behind_tabs ∙ ap (tabs_onto tabs) e

      ends : end ≡ at + length (closing_mark tabs w)
      ends = omega (arith, mark_length tabs w, ap length e, length-drop mark s, length-append w (byte ">" ∷ next), run.1, run.2)

      left : drop end s ≡ next
      left =
          ap (λ (n : ℕ). drop n s) ends
          ∙ sym (drop-drop (length (closing_mark tabs w)) at s)
          ∙ ap (drop (length (closing_mark tabs w))) (all_of_it ∙ mark_onto tabs w next)
          ∙ drop-append_seam (closing_mark tabs w) next

      pub this_mark : (over : Bool) → over ≡ at_line_end (behind is_blank (drop end s)) → Closes s at tabs w (then_some over end)
      this_mark over o = go over (ap (closes_line tabs w) all_of_it ∙ closes_onto tabs w next ∙ sym (o ∙ ap (λ (l : List ℕ). at_line_end (behind is_blank l)) left))
        where
          go : (o : Bool) → closes_line tabs w (drop at s) ≡ o → Closes s at tabs w (then_some o end)
          go true d = (d, ends)
          go false d = d
