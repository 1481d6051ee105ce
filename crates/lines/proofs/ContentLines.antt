-- A line of Content at a place: a law for each way out of `read_line` (src/content.rt).
-- Over plain lists. Assumes nothing.
use Prim.Native.Nat.{ℕ, suc, ◌-◌, ◌≤◌, ◌<◌}
use mathlib.Core.Path.{◌≡◌, refl, sym, ap, ◌∙◌}
use mathlib.Core.Bool.{Bool, true, false, not}
use mathlib.Core.List.{List, [], ◌∷◌, append-nil}
use native.Mathlib.Omega.{arith}
use lib.ListN.{drop, replicate}
use Rattle.paper.specs.Found.{Found, found, fault, and_then, stop, turn_of}
use Rattle.paper.specs.Bytes.{is_blank, is_line_end, length_in, starts_in, starts_with, front, behind, tab, lf, cr, up_to}
use Rattle.paper.specs.Tree.{blank, text}
use Rattle.paper.specs.Reading.{is_tab, line_end, line_rest, is_blank_line, closes_line, text_line, other_line, line_turn}
use Rattle.paper.proofs.Tests.{split, apart}
use Rattle.paper.proofs.Lists.{all_nil, front_length}
use Rattle.lines.specs.Parts.{passed, turned}
use Rattle.text.proofs.Stretch.{Stretch, behind_at, length_on, behind_on, skips_some, skips_end, blank_text, tab_text}
use Rattle.lines.proofs.Crossing.{seen_map}
use Rattle.lines.proofs.Closing.{tabs_stand, tabs_fail}
use Rattle.lines.proofs.Ends.{any_blanks}

-- ---- a line that does not close

-- what is no line end
abbrev is_text : ℕ → Bool
is_text b = not (is_line_end b)

-- a turn that is found, and one that is made of what is found
pub turned_found : {A : Type 0} (s : List ℕ) (x : Found A) → turned s (turn_of x) ≡ passed s x
turned_found s (found a left) = refl
turned_found s (fault n left) = refl

turned_made : {A B : Type 0} (s : List ℕ) (make : A → B) (x : Found A) → passed s x ≡ turned s (turn_of (and_then x (λ a left. found (make a) left)))
turned_made s make x = sym (turned_found s (and_then x (λ a left. found (make a) left)) ∙ seen_map (λ b. 0) (λ b. 0) s make x)

-- where a line of no more tabs than the marker is no blank one, its first byte that is no blank is at fault, or the end of input cuts it
rest_fault : (v : List ℕ) (b : ℕ) (mark : List ℕ) → is_line_end b ≡ false → line_end v (b ∷ mark) ≡ fault 7 (b ∷ mark)
unfolding line_end starts_with is_line_end
rest_fault v b mark e = rw (apart is_text b lf (rw e) refl, line_end, apart is_text b cr (rw e) refl, starts_with)

other_stop : (l : List ℕ) (tabs b : ℕ) (mark : List ℕ) → length_in is_tab l < suc tabs → other_line tabs l (b ∷ mark) ≡ stop 7 (b ∷ mark)
unfolding other_line
other_stop l tabs b mark few = rw (other_line, append-nil (replicate (suc tabs) tab), tabs_fail (suc tabs) l few)

rest_other : (s v l : List ℕ) (tabs : ℕ) → length_in is_tab l < suc tabs → (mark : List ℕ) → starts_in is_line_end mark ≡ false
    → passed s (line_end v mark) ≡ turned s (other_line tabs l mark)
unfolding line_end other_line starts_in
rest_other s v l tabs few [] e = refl
rest_other s v l tabs few (b ∷ mark) e = ap (passed s) (rest_fault v b mark e) ∙ ap (turned s) (sym (other_stop l tabs b mark few))

-- blanks are text, so that a line's text ends where its blanks do, if none but they stand on it
text_blanks : (l : List ℕ) → starts_in is_text (behind is_blank l) ≡ false → behind is_text l ≡ behind is_blank l
text_blanks l e =
    let none : length_in is_text (behind is_blank l) ≡ 0 = front_length is_text [] (behind is_blank l) (all_nil is_text) e in
    let same : length_in is_text l ≡ length_in is_blank l = omega (arith, length_on is_blank is_text blank_text l) in
    ap (λ (n : ℕ). drop n l) same

-- a line end is no text
line_end_no_text : (m : List ℕ) → starts_in is_line_end m ≡ true → starts_in is_text m ≡ false
unfolding starts_in
line_end_no_text [] e = refl
line_end_no_text (b ∷ m) e = rw e

module _ (s w l : List ℕ) (tabs : ℕ) (unclosed : closes_line tabs w l ≡ false) where
  turn_blank : is_blank_line l ≡ true → passed s (line_rest l) ≡ turned s (line_turn tabs w 0 l)
  unfolding line_turn
  turn_blank e = rw (line_turn, unclosed, e) (turned_made s blank (line_rest l))

  turn_other : is_blank_line l ≡ false → line_turn tabs w 0 l ≡ other_line tabs l (behind is_blank l)
  unfolding line_turn
  turn_other e = rw (line_turn, unclosed, e)

  turn_shallow : length_in is_tab l < suc tabs → passed s (line_rest l) ≡ turned s (line_turn tabs w 0 l)
  turn_shallow few =
      split (is_blank_line l) turn_blank (λ e. rest_other s (front is_blank l) l tabs few (behind is_blank l) e ∙ ap (turned s) (sym (turn_other e)))

  module _ (many : suc tabs ≤ length_in is_tab l) where
    other_deep : (mark : List ℕ) → behind is_blank l ≡ mark → passed s (line_end [] (behind is_text l)) ≡ turned s (other_line tabs l mark)
    unfolding other_line text_line line_end starts_in
    other_deep [] e = rw (text_blanks l (ap (starts_in is_text) e) ∙ e)
    other_deep (b ∷ mark) e =
        rw (append-nil (replicate (suc tabs) tab), tabs_stand (suc tabs) l many, other_line, ← behind_on is_tab is_text tab_text (suc tabs) l many)
        (turned_made s (λ b. text (up_to is_line_end (drop (suc tabs) l)) b.end) (line_end [] (behind is_text (drop (suc tabs) l))))

    turn_deep : passed s (line_end [] (behind is_text l)) ≡ turned s (line_turn tabs w 0 l)
    turn_deep =
        split (is_blank_line l)
        (λ e. any_blanks s [] (front is_blank l) (behind is_text l)
        ∙ ap (λ (m : List ℕ). passed s (line_end (front is_blank l) m)) (text_blanks l (line_end_no_text (behind is_blank l) e)) ∙ turn_blank e)
        (λ e. other_deep (behind is_blank l) refl ∙ ap (turned s) (sym (turn_other e)))

-- a line whose tabs end at a mark
module _ (s w : List ℕ) (at tabs mark : ℕ) (tabbed : Stretch is_tab s at mark) (unclosed : closes_line tabs w (drop at s) ≡ false) where
  pub line_shallow : mark - at ≤ tabs → passed s (line_rest (drop at s)) ≡ turned s (line_turn tabs w 0 (drop at s))
  line_shallow h = turn_shallow s w (drop at s) tabs unclosed (omega (arith, tabbed.0))

  pub line_deep : (end : ℕ) → tabs < mark - at → Stretch is_text s mark end
      → passed s (line_end [] (drop end s)) ≡ turned s (line_turn tabs w 0 (drop at s))
  line_deep end h e =
      let whole = skips_end is_text s at mark end (skips_some is_tab is_text tab_text s at mark tabbed) e in
      ap (λ (m : List ℕ). passed s (line_end [] m)) (sym (behind_at is_text s at end whole))
      ∙ turn_deep s w (drop at s) tabs unclosed (omega (arith, tabbed.0))
