-- Lines of Content that are printed as they stand: one line, and whole lines one behind the other. Document 01, "Canonical form". Assumes nothing.
use Prim.Native.Nat.{ℕ, suc, ◌+◌, ◌-◌, ◌≤◌, ◌<◌}
use mathlib.Core.Path.{◌≡◌, refl, sym, ap, ◌∙◌}
use mathlib.Core.Bool.{true, false, not}
use mathlib.Core.List.{List, [], ◌∷◌, ◌++◌, map, append_assoc}
use native.Mathlib.Omega.{arith}
use lib.ListN.{length, get_or, take, drop, replicate, length-append, length-replicate, length-drop}
use lib.Seq.{drop-drop, take-add}
use lib.Dec.{eqb}
use borrow.Author.Tests.{ne_eqb}
use Rattle.paper.specs.Bytes.{is_blank, all, starts_in, length_in, behind, lf, cr, tab, space}
use Rattle.paper.specs.Tree.{LineEnd, LF, CRLF, Blank, Line, blank, text}
use Rattle.paper.specs.Grammar.{line_end_onto, line_onto, lines_onto, line_rule}
use Rattle.paper.specs.Reading.{is_tab}
use Rattle.paper.specs.Canonical.{line_sense, print_line, print_lines}
use Rattle.paper.proofs.Tests.{true_false, or_right}
use Rattle.paper.proofs.Lists.{both, all_head, all_nil, front_length, behind_of, behind_stops}
use Rattle.paper.proofs.Fronts.{lines_front, front_append}
use Rattle.text.proofs.Places.{here}
use Rattle.text.proofs.Stretch.{Stretch, stops, behind_at, skips_some}
use Rattle.quoting.proofs.Parts.{part_is}
use Rattle.printing.specs.Texts.{LineStays, Staying, LinesStay}
use Rattle.printing.proofs.LineTexts.{is_text, line_end_lem, end_stops, blanks_text, line_text}

-- ---- a line that LF ends, printed as it is spelt

blank_stays : (t : ℕ) (b : Blank) → b.blanks ≡ [] → b.end ≡ LF → (more : List ℕ) → print_line (suc t) [] more ≡ line_onto t (blank b) more
unfolding print_line
blank_stays t b e f more = rw (e, f)

text_stays : (t : ℕ) (w : List ℕ) (e : LineEnd) → not (all is_blank w) ≡ true → e ≡ LF → (more : List ℕ) → print_line (suc t) w more ≡ line_onto t (text w e) more
unfolding print_line
text_stays t [] e r f more = true_false (sym r ∙ ap not (all_nil is_blank))
text_stays t (b ∷ w) e r f more = rw f

ends_lf : (e : LineEnd) (left rest : List ℕ) → lf ∷ rest ≡ line_end_onto e left → (e ≡ LF) × (rest ≡ left)
ends_lf LF left rest q = (refl, cc)
ends_lf CRLF left rest q = let z : lf ≡ cr = cc in absurd (omega arith)

end_no_blank : (e : LineEnd) (next : List ℕ) → starts_in is_blank (line_end_onto e next) ≡ false
unfolding starts_in is_blank
end_no_blank LF next = refl
end_no_blank CRLF next = refl

tab_blank : (b : ℕ) → is_tab b ≡ true → is_blank b ≡ true
unfolding is_blank
tab_blank b e = or_right (eqb b space) (eqb b tab) e

no_bytes : (w : List ℕ) → length w ≡ 0 → w ≡ []
no_bytes [] e = refl
no_bytes (b ∷ w) e = absurd (omega arith)

-- ---- the line at a place, whose tabs end at a mark

module _
    (s : List ℕ)
    (at mark end : ℕ)
    (tabbed : Stretch is_tab s at mark)
    (run : Stretch is_text s mark end)
    (inside : end < length s)
    (lf_ends : get_or s end 0 ≡ lf)
  where
    whole : Stretch is_text s at end
    whole = line_end_lem s at mark end tabbed run

    -- where its bytes end, and what stands there
    line_ends : (p : List ℕ) (e : LineEnd) (left : List ℕ) → drop at s ≡ p ++ line_end_onto e left → all is_text p ≡ true
        → (end ≡ at + length p) × (e ≡ LF) × (drop (end + 1) s ≡ left)
    line_ends p e left q a =
        let n : length_in is_text (drop at s) ≡ length p = ap (length_in is_text) q ∙ front_length is_text p (line_end_onto e left) a (end_stops e left) in
        let back : drop end s ≡ line_end_onto e left =
        sym (behind_at is_text s at end whole) ∙ ap (behind is_text) q ∙ behind_of is_text p (line_end_onto e left) a (end_stops e left) in
        let f = ends_lf e left (drop (end + 1) s) (ap (λ (b : ℕ). b ∷ drop (end + 1) s) (sym lf_ends) ∙ sym (here s end inside) ∙ back) in
        (omega (arith, whole.0), f.0, f.1)

    blank_ends : (b : Blank) (left : List ℕ) → drop at s ≡ b.blanks ++ line_end_onto b.end left → all is_blank b.blanks ≡ true
        → (end ≡ at + length b.blanks) × (b.end ≡ LF) × (drop (end + 1) s ≡ left)
    blank_ends b left q r = line_ends b.blanks b.end left q (blanks_text b.blanks r)

    text_ends : (t : ℕ) (w : List ℕ) (e : LineEnd) (left : List ℕ) → drop at s ≡ line_onto t (text w e) left → all is_text w ≡ true
        → (end ≡ at + length (replicate (suc t) tab ++ w)) × (e ≡ LF) × (drop (end + 1) s ≡ left)
    text_ends t w e left q r =
        line_ends (replicate (suc t) tab ++ w) e left (q ∙ sym (append_assoc (replicate (suc t) tab) w (line_end_onto e left))) (line_text t w r)

    abbrev AsSpelt : Type 0
    AsSpelt =
        (t : ℕ) (l : Line) (left : List ℕ) → drop at s ≡ line_onto t l left → line_rule l ≡ true
        → (drop (end + 1) s ≡ left) × ((more : List ℕ) → print_line (suc t) (line_sense l) more ≡ line_onto t l more)

    empty_spelt : end ≡ at → AsSpelt
    empty_spelt z t (blank b) left q r =
        let h = blank_ends b left q r in
        (h.2, blank_stays t b (no_bytes b.blanks (omega (arith, h.0))) h.1)
    empty_spelt z t (text w e) left q r =
        let h = text_ends t w e left q (both (not (all is_blank w)) (all is_text w) r).1 in
        absurd (omega (arith, h.0, length-append (replicate (suc t) tab) w, length-replicate (suc t) tab))

    -- its blanks end at the mark, where another byte stands
    no_tab : mark < length s → is_tab (get_or s mark 0) ≡ false
    unfolding starts_in
    no_tab h = ap (starts_in is_tab) (sym (behind_at is_tab s at mark tabbed ∙ here s mark h)) ∙ behind_stops is_tab (drop at s)

    no_blank : mark < length s → (get_or s mark 0 ≡ space → ⊥) → is_blank (get_or s mark 0) ≡ false
    unfolding is_blank
    no_blank h n = rw (ne_eqb (get_or s mark 0) space n) (no_tab h)

    blanks_end : mark < length s → (get_or s mark 0 ≡ space → ⊥) → at + length_in is_blank (drop at s) ≡ mark
    blanks_end h n = sym (skips_some is_tab is_blank tab_blank s at mark tabbed).2 ∙ stops is_blank s mark h (no_blank h n)

    ink_spelt : mark < end → (get_or s mark 0 ≡ space → ⊥) → AsSpelt
    ink_spelt m n t (blank b) left q r =
        let h = blank_ends b left q r in
        let k : length_in is_blank (drop at s) ≡ length b.blanks =
        ap (length_in is_blank) q ∙ front_length is_blank b.blanks (line_end_onto b.end left) r (end_no_blank b.end left) in
        absurd (omega (arith, h.0, blanks_end (omega arith) n))
    ink_spelt m n t (text w e) left q r =
        let rules = both (not (all is_blank w)) (all is_text w) r in
        let h = text_ends t w e left q rules.1 in
        (h.2, text_stays t w e rules.0 h.1)

    spelt : (t : ℕ) (l : Line) (left : List ℕ) → drop at s ≡ line_onto t l left → drop (end + 1) s ≡ left
        → (more : List ℕ) → line_onto t l more ≡ take (end + 1 - at) (drop at s) ++ more
    unfolding lines_onto
    spelt t l left q e more =
        let front : (next : List ℕ) → line_onto t l next ≡ line_onto t l [] ++ next = front_append (lines_onto t (l ∷ [])) (lines_front t (l ∷ [])) in
        let size : end + 1 ≡ at + length (line_onto t l []) =
        omega (
          arith,
          ap length (q ∙ front left),
          length-append (line_onto t l []) left,
          length-drop at s,
          ap length e,
          length-drop (end + 1) s,
          whole.1,
        ) in
        front more ∙ ap (λ (w : List ℕ). w ++ more) (sym (part_is s at (end + 1) (line_onto t l []) left (q ∙ front left) size))

    stays : AsSpelt → LineStays s at (end + 1)
    stays same =
        record {
          inside = omega arith;
          same = λ t l left q r. let k = same t l left q r in (k.0, λ more. k.1 more ∙ spelt t l left q k.0 more);
        }

    -- it is empty, or something else than a space stands behind its tabs
    pub empty_line : end ≡ at → LineStays s at (end + 1)
    empty_line z = stays (empty_spelt z)

    pub ink_line : mark < end → (get_or s mark 0 ≡ space → ⊥) → LineStays s at (end + 1)
    ink_line m n = stays (ink_spelt m n)

-- ---- whole lines, one behind the other

part_join : (s : List ℕ) (at i next : ℕ) → at ≤ i → i ≤ next → take (i - at) (drop at s) ++ take (next - i) (drop i s) ≡ take (next - at) (drop at s)
part_join s at i next h k =
    let a : at + (i - at) ≡ i = omega arith in
    let b : (i - at) + (next - i) ≡ next - at = omega arith in
    ap (λ (l : List ℕ). take (i - at) (drop at s) ++ take (next - i) l) (sym (drop-drop (i - at) at s ∙ ap (λ (n : ℕ). drop n s) a))
    ∙ sym (take-add (i - at) (next - i) (drop at s))
    ∙ ap (λ (n : ℕ). take n (drop at s)) b

module _ (s : List ℕ) (cut tabs at : ℕ) where
  pub stay_none : at ≤ length s → LinesStay s cut tabs at at
  stay_none h =
      let z : at - at ≡ 0 = omega arith in
      record { on = omega arith; inside = h; rest = λ t ls e c r. record { left = ls; stands = e; kept = r; same = λ more. rw z } }

  module _ (i next : ℕ) (so_far : LinesStay s cut tabs at i) (h : i < next) (line : LineStays s i next) where
    one_more : (t : ℕ) (ls : List Line) → suc t ≡ tabs → (left : List Line) → drop i s ≡ lines_onto t left [] → all line_rule left ≡ true
        → ((more : List ℕ) → print_lines tabs (map line_sense ls) more ≡ take (i - at) (drop at s) ++ print_lines tabs (map line_sense left) more)
        → Staying t tabs ls s at next
    unfolding lines_onto print_lines
    one_more t ls d [] e k same = absurd (omega (arith, ap length e, length-drop i s, line.inside))
    one_more t ls d (l ∷ left) e k same =
        let rules = all_head line_rule l left k in
        let f = line.same t l (lines_onto t left []) e rules.0 in
        record {
          left = left;
          stands = f.0;
          kept = rules.1;
          same = λ more.
              let rest = print_lines tabs (map line_sense left) more in
              same more
              ∙ ap (λ (w : List ℕ). take (i - at) (drop at s) ++ w) (ap (λ (n : ℕ). print_line n (line_sense l) rest) (sym d) ∙ f.1 rest)
              ∙ sym (append_assoc (take (i - at) (drop at s)) (take (next - i) (drop i s)) rest)
              ∙ ap (λ (w : List ℕ). w ++ rest) (part_join s at i next so_far.on (omega arith));
        }

    pub stay_on : cut ≡ tabs → LinesStay s cut tabs at next
    stay_on d =
        record {
          on = omega (arith, so_far.on);
          inside = line.inside;
          rest = λ t ls e c r. let x = so_far.rest t ls e c r in one_more t ls (sym c ∙ d) x.left x.stands x.kept x.same;
        }
