-- How long what a tree covers is, with what follows it. Assumes nothing.
use Prim.Native.Nat.{ℕ, suc, ◌+◌}
use mathlib.Core.Path.{◌≡◌}
use mathlib.Core.List.{List, [], ◌∷◌, ◌++◌}
use native.Mathlib.Omega.{arith}
use lib.ListN.{length, replicate, length-append, length-replicate}
use Rattle.paper.specs.Bytes.{byte, tab}
use Rattle.paper.specs.Tree.{LineEnd, LF, CRLF, Blank, Annotation, Line, blank, text}
use Rattle.paper.specs.Grammar.{line_end_onto, blank_onto, blanks_onto, tabs_onto, annotation_onto, annotations_onto, lines_onto}

pub tabs_long : (n : ℕ) (next : List ℕ) → length (tabs_onto n next) ≡ n + length next
tabs_long n next = omega (arith, length-append (replicate n tab) next, length-replicate n tab)

end_long : (e : LineEnd) (next : List ℕ) → length (line_end_onto e next) ≡ length (line_end_onto e []) + length next
end_long LF next = omega arith
end_long CRLF next = omega arith

pub blank_long : (b : Blank) (next : List ℕ) → length (blank_onto b next) ≡ length (blank_onto b []) + length next
blank_long b next =
    omega (arith, length-append b.blanks (line_end_onto b.end next), length-append b.blanks (line_end_onto b.end []), end_long b.end next)

pub blanks_long : (bs : List Blank) (next : List ℕ) → length (blanks_onto bs next) ≡ length (blanks_onto bs []) + length next
unfolding blanks_onto
blanks_long [] next = omega arith
blanks_long (b ∷ bs) next = omega (arith, blank_long b (blanks_onto bs next), blank_long b (blanks_onto bs []), blanks_long bs next)

-- tabs, "[", text, "]" and the rest of the line
pub note_long : (a : Annotation) (next : List ℕ) → length (annotation_onto a next) ≡ a.tabs + 1 + length a.text + 1 + length (blank_onto a.rest next)
note_long a next =
    let rest = blank_onto a.rest next in
    omega (arith, tabs_long a.tabs (byte "[" ∷ (a.text ++ (byte "]" ∷ rest))), length-append a.text (byte "]" ∷ rest))

pub notes_long : (notes : List Annotation) (next : List ℕ) → length (annotations_onto notes next) ≡ length (annotations_onto notes []) + length next
unfolding annotations_onto
notes_long [] next = omega arith
notes_long (a ∷ notes) next =
    omega (
      arith,
      note_long a (annotations_onto notes next),
      note_long a (annotations_onto notes []),
      blank_long a.rest (annotations_onto notes next),
      blank_long a.rest (annotations_onto notes []),
      notes_long notes next,
    )

-- the lines of Content
pub lines_long : (tabs : ℕ) (lines : List Line) (next : List ℕ) → length (lines_onto tabs lines next) ≡ length (lines_onto tabs lines []) + length next
unfolding lines_onto
lines_long tabs [] next = omega arith
lines_long tabs (blank b ∷ lines) next =
    omega (arith, lines_long tabs lines next, blank_long b (lines_onto tabs lines next), blank_long b (lines_onto tabs lines []))
lines_long tabs (text t e ∷ lines) next =
    let more = line_end_onto e (lines_onto tabs lines next) in
    let none = line_end_onto e (lines_onto tabs lines []) in
    omega (
      arith,
      lines_long tabs lines next,
      tabs_long (suc tabs) (t ++ more),
      tabs_long (suc tabs) (t ++ none),
      length-append t more,
      length-append t none,
      end_long e (lines_onto tabs lines next),
      end_long e (lines_onto tabs lines []),
    )
