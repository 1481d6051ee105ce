-- White space collapsed, put byte by byte, and letters in lower case. Document 01, "Canonical form". Assumes nothing.
use Prim.Native.Nat.{ℕ, ◌+◌, ◌≤◌, ◌<◌}
use mathlib.Core.Path.{◌≡◌, refl, ap, ◌∙◌}
use mathlib.Core.Bool.{true, false}
use mathlib.Core.List.{List, [], ◌∷◌, ◌++◌}
use native.Mathlib.Omega.{arith}
use lib.ListN.{length, drop, get_or, drop_of_length-le}
use lib.Dec.{ltb}
use borrow.Author.Tests.{ltb-true, ltb-false, le-leb, lt-leb}
use Rattle.std.specs.Char.{to_ascii_lowercase}
use Rattle.paper.specs.Bytes.{is_white, is_upper}
use Rattle.paper.specs.Values.{collapse, collapse_on, collapse_gap}
use Rattle.paper.specs.Canonical.{lower}
use Rattle.paper.proofs.Tests.{split}
use Rattle.text.proofs.Places.{here}
use Rattle.quoting.specs.declared.page.Page.{Page}
use Rattle.quoting.specs.declared.spaced.Spacing.{Spacing}
use Rattle.quoting.specs.declared.spaced.Spacing.TheVariants.{Start, Word, Gap}
use Rattle.quoting.specs.Page.{Step, Puts}
use Rattle.quoting.specs.Spacing.{widened, gap_onto}
use Rattle.quoting.proofs.Putting.{puts_then, step_as, step_then}

-- what is left to put behind what stands before it
abbrev pub left : Spacing → List ℕ → List ℕ
left Start l = collapse l
left Word l = collapse_on l
left Gap l = collapse_gap l

pub white_left : (spacing : Spacing) (b : ℕ) (l : List ℕ) → is_white b ≡ true → left spacing (b ∷ l) ≡ left (widened spacing) l
unfolding collapse
white_left Start b l e = rw (e, collapse)
white_left Word b l e = rw (e, collapse_on)
white_left Gap b l e = rw (e, collapse_gap)

pub word_left : (spacing : Spacing) (b : ℕ) (l : List ℕ) → is_white b ≡ false → left spacing (b ∷ l) ≡ gap_onto spacing (b ∷ left Word l)
unfolding collapse
word_left Start b l e = rw (e, collapse)
word_left Word b l e = rw (e, collapse_on)
word_left Gap b l e = rw (e, collapse_gap)

pub none_left : (spacing : Spacing) → left spacing [] ≡ []
unfolding collapse
none_left Start = refl
none_left Word = refl
none_left Gap = refl

gap_append : (spacing : Spacing) (l next : List ℕ) → gap_onto spacing l ++ next ≡ gap_onto spacing (l ++ next)
gap_append Start l next = refl
gap_append Word l next = refl
gap_append Gap l next = refl

module _ (w : List ℕ) (i : ℕ) (spacing : Spacing) {before now : Page} {f : List ℕ → List ℕ} (so_far : Step before f now (λ next. left spacing (drop i w) ++ next)) where
  pub white_on : i < length w → is_white (get_or w i 0) ≡ true → Step before f now (λ next. left (widened spacing) (drop (i + 1) w) ++ next)
  white_on h e = step_as so_far
      (λ next. ap (λ (l : List ℕ). l ++ next) (ap (left spacing) (here w i h) ∙ white_left spacing (get_or w i 0) (drop (i + 1) w) e))

  pub word_on : {mid after : Page} → i < length w → is_white (get_or w i 0) ≡ false → Puts now (gap_onto spacing) mid → Puts mid (λ next. get_or w i 0 ∷ next) after
      → Step before f after (λ next. left Word (drop (i + 1) w) ++ next)
  word_on h e p q =
      let rest = left Word (drop (i + 1) w) in
      step_then (λ next. gap_onto spacing (get_or w i 0 ∷ next)) (λ next. rest ++ next) so_far
      (λ next. ap (λ (l : List ℕ). l ++ next) (ap (left spacing) (here w i h) ∙ word_left spacing (get_or w i 0) (drop (i + 1) w) e)
      ∙ gap_append spacing (get_or w i 0 ∷ rest) next)
      (puts_then (gap_onto spacing) (λ next. get_or w i 0 ∷ next) p q)

  pub over : length w ≤ i → Puts before f now
  over h = step_as so_far (λ next. ap (λ (l : List ℕ). l ++ next) (ap (left spacing) (drop_of_length-le w h) ∙ none_left spacing))

-- ---- lower case

pub lower_is : (b : ℕ) → to_ascii_lowercase b ≡ lower b
unfolding lower is_upper
lower_is b =
    split (ltb b 65)
    (λ e. let h : b < 65 = ltb-true b 65 e in rw (e, lt-leb 65 b h))
    (λ e. let h : 65 ≤ b = ltb-false b 65 e in split (ltb b 91)
    (λ f. let k : b ≤ 90 = omega (arith, ltb-true b 91 f) in rw (e, f, le-leb 65 b h, le-leb b 90 k))
    (λ f. let k : 90 < b = omega (arith, ltb-false b 91 f) in rw (e, f, le-leb 65 b h, lt-leb b 90 k)))
