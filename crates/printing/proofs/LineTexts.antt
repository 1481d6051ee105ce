-- Lines of Content: where a line ends, its text, and what is put for it. Document 01, "Content" and "Canonical form". Assumes nothing.
use Prim.Native.Nat.{ℕ, zero, suc, ◌+◌, ◌-◌, ◌≤◌, ◌<◌}
use mathlib.Core.Path.{◌≡◌, refl, sym, ap, ◌∙◌}
use mathlib.Core.Bool.{Bool, true, false, not}
use mathlib.Core.List.{List, [], ◌∷◌, ◌++◌, map, append_assoc, append-nil}
use native.Mathlib.Omega.{arith}
use lib.ListN.{length, take, drop, replicate, length-append, length-replicate, length-drop, drop_of_length-le}
use lib.Seq.{drop-append_seam, take-length, take_all}
use lib.Dec.{ltb}
use borrow.Author.Tests.{not-true, lt-ltb, le-ltb, ltb-true, ltb-false}
use Rattle.paper.specs.Bytes.{is_blank, is_line_end, all, starts_in, starts_with, length_in, front, behind, lf, cr, tab}
use Rattle.paper.specs.Tree.{LineEnd, LF, CRLF, Line, blank, text}
use Rattle.paper.specs.Grammar.{line_end_onto, tabs_onto, closing_onto, line_onto, lines_onto, line_rule}
use Rattle.paper.specs.Entries.{Entry, unnamed}
use Rattle.paper.specs.Reading.{is_tab}
use Rattle.paper.specs.Canonical.{line_sense, print_line, print_lines}
use Rattle.paper.proofs.Tests.{split, true_false}
use Rattle.paper.proofs.Lists.{both, all_head, all_weaken, all_append, all_nil, front_all, front_of, front_length, behind_of}
use Rattle.paper.proofs.Lines.{all_tabs, tabs_length}
use Rattle.paper.proofs.Fronts.{lines_front, past_front, front_append}
use Rattle.text.proofs.Places.{front_behind}
use Rattle.text.proofs.Stretch.{Stretch, front_at, behind_at, skips_end, skips_some, blank_text, tab_text}
use Rattle.entries.specs.Laid.{entry_at}
use Rattle.entries.proofs.Standing.{stand_entry}
use Rattle.quoting.specs.declared.page.Page.{Page}
use Rattle.quoting.specs.Page.{Puts}
use Rattle.quoting.proofs.Putting.{puts_as, puts_then, step_then}
use Rattle.printing.specs.Texts.{inked, PastEnd, LinesStay}
use Rattle.printing.specs.Walking.{OfContent}
use Rattle.quoting.proofs.Parts.{part_is}
use Rattle.quoting.proofs.Sequences.{Sequence, Left, left_all, left_on, left_over}

-- ---- text that is blanks only, and other text

pub all_front : (class : ℕ → Bool) (t : List ℕ) → length_in class t ≡ length t → all class t ≡ true
all_front class t e = sym (ap (all class) (ap (λ (n : ℕ). take n t) e ∙ take-length t)) ∙ front_all class t

pub front_whole : (class : ℕ → Bool) (t : List ℕ) → all class t ≡ true → length_in class t ≡ length t
unfolding starts_in
front_whole class t a = ap (length_in class) (sym (append-nil t)) ∙ front_length class t [] a refl

pub no_ink : (t : List ℕ) → all is_blank t ≡ true → inked t ≡ []
no_ink t e = rw e

pub all_ink : (t : List ℕ) → all is_blank t ≡ false → inked t ≡ t
all_ink t e = rw e

-- ---- a line, put

print_text : (tabs : ℕ) (t next : List ℕ) → 0 < length t → print_line tabs t next ≡ tabs_onto tabs (t ++ (lf ∷ next))
unfolding print_line
print_text tabs [] next h = absurd (omega arith)
print_text tabs (b ∷ t) next h = refl

not_false : (b : Bool) → false ≡ not b → b ≡ true
not_false true e = refl
not_false false e = e

-- whether a line has more than blanks behind the cut
module _ (line : List ℕ) (cut : ℕ) where
  pub short_ink : length line ≤ cut → false ≡ not (all is_blank (drop cut line))
  short_ink h = sym (ap not (ap (all is_blank) (drop_of_length-le line h) ∙ all_nil is_blank))

  pub some_ink : (end : ℕ) → Stretch is_blank line cut end → cut < length line → ltb end (length line) ≡ not (all is_blank (drop cut line))
  some_ink end run h =
      split (all is_blank (drop cut line))
      (λ a. let z : length line ≤ end = omega (arith, run.0, front_whole is_blank (drop cut line) a, length-drop cut line) in
      le-ltb end (length line) z ∙ sym (ap not a))
      (λ a.
      let z : end < length line =
      split (ltb end (length line)) (λ q. ltb-true end (length line) q)
      (λ q. let k : length_in is_blank (drop cut line) ≡ length (drop cut line) = omega (arith, run.0, run.1, ltb-false end (length line) q, length-drop cut line) in
      true_false (sym (all_front is_blank (drop cut line) k) ∙ a)) in
      lt-ltb end (length line) z ∙ sym (ap not a))

  pub ink_inside : true ≡ not (all is_blank (drop cut line)) → cut < length line
  ink_inside e =
      split (ltb cut (length line)) (λ q. ltb-true cut (length line) q)
      (λ q. true_false (e ∙ sym (short_ink (ltb-false cut (length line) q))))

module _ (line : List ℕ) (cut tabs : ℕ) {before after : Page} where
  -- nothing stands behind the cut, or only blanks
  pub empty_put : false ≡ not (all is_blank (drop cut line)) → Puts before (λ next. lf ∷ next) after → Puts before (print_line tabs (inked (drop cut line))) after
  unfolding print_line
  empty_put e p = puts_as _ (λ next. ap (λ (t : List ℕ). print_line tabs t next) (no_ink (drop cut line) (not_false (all is_blank (drop cut line)) e))) p

  pub text_put : true ≡ not (all is_blank (drop cut line)) → {started put : Page} → Puts before (tabs_onto tabs) started
      → Puts started (λ next. take (length line - cut) (drop cut line) ++ next) put → Puts put (λ next. lf ∷ next) after
      → Puts before (print_line tabs (inked (drop cut line))) after
  text_put e f g k =
      let some : 0 < length (drop cut line) = omega (arith, length-drop cut line, ink_inside line cut e) in
      let whole : take (length line - cut) (drop cut line) ≡ drop cut line =
      take_all (length line - cut) (drop cut line) (omega (arith, length-drop cut line)) in
      puts_as _
      (λ next. ap (λ (t : List ℕ). print_line tabs t next) (all_ink (drop cut line) (not-true (all is_blank (drop cut line)) (sym e)))
      ∙ print_text tabs (drop cut line) next some ∙ ap (λ (w : List ℕ). tabs_onto tabs (w ++ (lf ∷ next))) (sym whole))
      (puts_then (tabs_onto tabs) (λ next. take (length line - cut) (drop cut line) ++ (lf ∷ next)) f
      (puts_then (λ next. take (length line - cut) (drop cut line) ++ next) (λ next. lf ∷ next) g k))

-- ---- the line end behind a line

pub after_crlf : (s : List ℕ) (at : ℕ) → starts_with (cr ∷ []) (drop at s) ≡ true → (e : LineEnd) (next : List ℕ) → drop at s ≡ line_end_onto e next
    → drop (at + 2) s ≡ next
unfolding starts_with
after_crlf s at f LF next e = true_false (sym (rw e at f))
after_crlf s at f CRLF next e =
    let two : at + 1 + 1 ≡ at + 2 = omega arith in
    ap (λ (n : ℕ). drop n s) (sym two) ∙ sym (front_behind s (at + 1) lf next (sym (front_behind s at cr (lf ∷ next) e)))

pub after_lf : (s : List ℕ) (at : ℕ) → starts_with (cr ∷ []) (drop at s) ≡ false → (e : LineEnd) (next : List ℕ) → drop at s ≡ line_end_onto e next
    → drop (at + 1) s ≡ next
unfolding starts_with
after_lf s at f LF next e = sym (front_behind s at lf next e)
after_lf s at f CRLF next e = true_false (rw e at f)

-- ---- a line that stands at a place

abbrev pub is_text : ℕ → Bool
is_text b = not (is_line_end b)

-- a line goes on behind its tabs
pub line_end_lem : (w : List ℕ) (i mark end : ℕ) → Stretch is_tab w i mark → Stretch is_text w mark end → Stretch is_text w i end
line_end_lem w i mark end tabbed run = skips_end is_text w i mark end (skips_some is_tab is_text tab_text w i mark tabbed) run

pub end_stops : (e : LineEnd) (next : List ℕ) → starts_in is_text (line_end_onto e next) ≡ false
unfolding starts_in is_line_end
end_stops LF next = refl
end_stops CRLF next = refl

drop_blanks : (n : ℕ) (t : List ℕ) → all is_blank t ≡ true → all is_blank (drop n t) ≡ true
drop_blanks zero t a = a
drop_blanks (suc n) [] a = a
drop_blanks (suc n) (b ∷ t) a = drop_blanks n t (all_head is_blank b t a).1

-- what stands in front of a line's end is text
pub blanks_text : (w : List ℕ) → all is_blank w ≡ true → all is_text w ≡ true
blanks_text w r = all_weaken is_blank is_text blank_text w r

pub line_text : (t : ℕ) (w : List ℕ) → all is_text w ≡ true → all is_text (replicate (suc t) tab ++ w) ≡ true
line_text t w r = all_append is_text (replicate (suc t) tab) w (blanks_text (replicate (suc t) tab) (all_tabs (suc t))) r

-- the bytes in front of a line's end
record Shape (t : ℕ) (l : Line) (left : List ℕ) : Type 0 where
  front_bytes : List ℕ
  end : LineEnd
  is : line_onto t l left ≡ front_bytes ++ line_end_onto end left
  on_line : all is_text front_bytes ≡ true
  means : inked (drop (suc t) front_bytes) ≡ line_sense l

shape : (t : ℕ) (l : Line) (left : List ℕ) → line_rule l ≡ true → Shape t l left
shape t (blank b) left r =
    record {
      front_bytes = b.blanks;
      end = b.end;
      is = refl;
      on_line = blanks_text b.blanks r;
      means = no_ink (drop (suc t) b.blanks) (drop_blanks (suc t) b.blanks r);
    }
shape t (text w e) left r =
    let h = both (not (all is_blank w)) (all is_text w) r in
    let tabs = replicate (suc t) tab in
    let past : drop (suc t) (tabs ++ w) ≡ w = ap (λ (n : ℕ). drop n (tabs ++ w)) (sym (length-replicate (suc t) tab)) ∙ drop-append_seam tabs w in
    record {
      front_bytes = tabs ++ w;
      end = e;
      is = sym (append_assoc tabs w (line_end_onto e left));
      on_line = line_text t w h.1;
      means = ap inked past ∙ all_ink w (not-true (all is_blank w) h.0);
    }

line_put : (w : List ℕ) (i t cut tabs : ℕ) {now after : Page} (end n : ℕ) → cut ≡ suc t → Stretch is_text w i end
    → PastEnd w end n
    → Puts now (print_line tabs (inked (drop cut (take (end - i) (drop i w))))) after
    → (l : Line) (left : List ℕ) → drop i w ≡ line_onto t l left → line_rule l ≡ true → (drop n w ≡ left) × Puts now (print_line tabs (line_sense l)) after
line_put w i t cut tabs end n c run f p l left e r =
    let x = shape t l left r in
    let whole = e ∙ x.is in
    let front : take (end - i) (drop i w) ≡ x.front_bytes = sym (front_at is_text w i end run) ∙ ap (front is_text) whole
    ∙ front_of is_text x.front_bytes (line_end_onto x.end left) x.on_line (end_stops x.end left) in
    let back : drop end w ≡ line_end_onto x.end left = sym (behind_at is_text w i end run) ∙ ap (behind is_text) whole
    ∙ behind_of is_text x.front_bytes (line_end_onto x.end left) x.on_line (end_stops x.end left) in
    let sense : inked (drop cut (take (end - i) (drop i w))) ≡ line_sense l = rw (front, c) x.means in
    (f.left x.end left back, rw sense at p)

end_longer : (e : LineEnd) (next : List ℕ) → length next < length (line_end_onto e next)
end_longer LF next = omega arith
end_longer CRLF next = omega arith

pub line_longer : (t : ℕ) (l : Line) (next : List ℕ) → length next < length (line_onto t l next)
line_longer t (blank b) next = omega (arith, length-append b.blanks (line_end_onto b.end next), end_longer b.end next)
line_longer t (text w e) next = omega
    (arith, length-append (replicate (suc t) tab) (w ++ line_end_onto e next), length-append w (line_end_onto e next), end_longer e next)

-- lines one behind the other, put at so many tabs
unfoldable pub line_run : ℕ → ℕ → Sequence Line
unfolding lines_onto print_lines
line_run t tabs =
    record {
      spelt = line_onto t;
      all_spelt = lines_onto t;
      rule = line_rule;
      printed = λ l. print_line tabs (line_sense l);
      all_printed = λ ls. print_lines tabs (map line_sense ls);
      spelt_none = λ next. refl;
      spelt_more = λ l ls next. refl;
      printed_none = λ next. refl;
      printed_more = λ l ls next. refl;
      longer = line_longer t;
    }

-- ---- what is left of the lines

module _ (t tabs : ℕ) (w : List ℕ) {before : Page} (ls : List Line) where
  pub lines_all : w ≡ lines_onto t ls [] → all line_rule ls ≡ true → Left (line_run t tabs) w before ls 0 before
  unfolding line_run
  lines_all e r = left_all (line_run t tabs) w before ls e r

  module _ (i : ℕ) {now : Page} (so_far : Left (line_run t tabs) w before ls i now) where
    pub lines_on : i < length w → (cut end n : ℕ) {after : Page} → cut ≡ suc t → Stretch is_text w i end
        → PastEnd w end n
        → Puts now (print_line tabs (inked (drop cut (take (end - i) (drop i w))))) after
        → Left (line_run t tabs) w before ls n after
    unfolding line_run
    lines_on h cut end n {after} c run f p =
        left_on (line_run t tabs) w before ls i now so_far h n after (line_put w i t cut tabs end n c run f p)

    -- lines that are printed as they stand
    pub lines_stay : (cut next : ℕ) {after : Page} → cut ≡ suc t → LinesStay w cut tabs i next
        → Puts now (λ more. take (next - i) (drop i w) ++ more) after
        → Left (line_run t tabs) w before ls next after
    unfolding line_run
    lines_stay cut next c stay p =
        let x = stay.rest t so_far.more so_far.stands c so_far.kept in
        record {
          more = x.left;
          stands = x.stands;
          kept = x.kept;
          put = step_then (λ more. take (next - i) (drop i w) ++ more) (print_lines tabs (map line_sense x.left)) so_far.put x.same p;
        }

    pub lines_over : length w ≤ i → Puts before (print_lines tabs (map line_sense ls)) now
    unfolding line_run
    lines_over h = left_over (line_run t tabs) w before ls i now so_far h

-- ---- Content

pub no_tabs : (s : List ℕ) (at : ℕ) → length s ≤ at → 0 ≡ length_in is_tab (drop at s)
unfolding length_in
no_tabs s at h = rw (drop_of_length-le s h)

module _ (s cells : List ℕ) (n place t : ℕ) (ls : List Line) (of : OfContent s cells n place t ls) (own : Entry) (is : own ≡ entry_at cells n) where
  content_entry : own ≡ unnamed 5 0 of.parent 0 place (place + length (lines_onto t ls []))
  content_entry = is ∙ stand_entry cells n _ [] of.stand

  pub content_lines : take (own.end - own.start) (drop own.start s) ≡ lines_onto t ls []
  content_lines =
      ap (λ (e : Entry). take (e.end - e.start) (drop e.start s)) content_entry
      ∙ part_is s place (place + length (lines_onto t ls [])) (lines_onto t ls []) (tabs_onto t (closing_onto of.name of.after))
      (of.spelt ∙ front_append (lines_onto t ls) (lines_front t ls) (tabs_onto t (closing_onto of.name of.after))) refl

  pub content_tabs : (tabs cut : ℕ) → tabs ≡ length_in is_tab (drop own.end s) → cut ≡ tabs + 1 → cut ≡ suc t
  unfolding starts_in
  content_tabs tabs cut e f =
      let end : drop own.end s ≡ tabs_onto t (closing_onto of.name of.after) =
      ap (λ (e : Entry). drop e.end s) content_entry
      ∙ past_front s place (lines_onto t ls) (tabs_onto t (closing_onto of.name of.after)) (lines_front t ls) of.spelt in
      let many : tabs ≡ t = e ∙ ap (length_in is_tab) end ∙ tabs_length t (closing_onto of.name of.after) refl in
      omega arith
