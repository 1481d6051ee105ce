-- What the parts of a tree cover: bytes in front of whatever follows; a Concept is something and ">". Assumes nothing.
-- Document 01, "The grammar".
use Prim.Native.Nat.{ℕ, suc, ◌+◌}
use mathlib.Core.Path.{◌≡◌, refl, sym, ap, ◌∙◌}
use mathlib.Core.List.{List, [], ◌∷◌, ◌++◌, append-nil, append_assoc}
use lib.ListN.{length, drop, replicate}
use lib.Seq.{drop-drop, drop-append_seam}
use Rattle.paper.specs.Bytes.{byte, lf, tab}
use Rattle.paper.specs.Values.{spelling}
use Rattle.paper.specs.Tree.{LineEnd, LF, CRLF, Blank, Trait, Marker, Annotation, Line, blank, text, Concept, self_closed, children, content, Body, done, blank_line}
use Rattle.paper.specs.Tree.{element, block, self}
use Rattle.paper.specs.Grammar.{line_end_onto, blank_onto, blanks_onto, tabs_onto, annotation_onto, annotations_onto, trait_onto, traits_onto, marker_onto, ending_onto}
use Rattle.paper.specs.Grammar.{closing_onto, lines_onto, concept_onto, body_onto}
use Rattle.paper.proofs.ReadValues.{value_append}

-- bytes that stand in front of whatever follows
pub record Front (f : List ℕ → List ℕ) : Type 0 where
  pub bytes : List ℕ
  pub is : (next : List ℕ) → f next ≡ bytes ++ next

pub then : (f g : List ℕ → List ℕ) → Front f → Front g → Front (λ next. f (g next))
then f g a b =
    record { bytes = a.bytes ++ b.bytes; is = λ next. a.is (g next) ∙ ap (λ (l : List ℕ). a.bytes ++ l) (b.is next) ∙ sym (append_assoc a.bytes b.bytes next) }

pub run_front : (w : List ℕ) → Front (λ next. w ++ next)
run_front w = record { bytes = w; is = λ next. refl }

pub byte_front : (b : ℕ) → Front (λ next. b ∷ next)
byte_front b = record { bytes = b ∷ []; is = λ next. refl }

none_front : Front (λ next. next)
none_front = record { bytes = []; is = λ next. refl }

end_front : (e : LineEnd) → Front (line_end_onto e)
end_front LF = byte_front lf
end_front CRLF = record { bytes = 0x0D ∷ lf ∷ []; is = λ next. refl }

pub blank_front : (b : Blank) → Front (blank_onto b)
blank_front b = then _ _ (run_front b.blanks) (end_front b.end)

pub blanks_front : (bs : List Blank) → Front (blanks_onto bs)
unfolding blanks_onto
blanks_front [] = none_front
blanks_front (b ∷ bs) = then _ _ (blank_front b) (blanks_front bs)

pub note_front : (a : Annotation) → Front (annotation_onto a)
note_front a =
    then (tabs_onto a.tabs) _ (run_front (replicate a.tabs tab))
    (then (λ n. byte "[" ∷ n) _ (byte_front (byte "["))
    (then (λ n. a.text ++ n) _ (run_front a.text) (then (λ n. byte "]" ∷ n) _ (byte_front (byte "]")) (blank_front a.rest))))

pub notes_front : (notes : List Annotation) → Front (annotations_onto notes)
unfolding annotations_onto
notes_front [] = none_front
notes_front (a ∷ notes) = then (annotation_onto a) _ (note_front a) (notes_front notes)

pub trait_front : (t : Trait) → Front (trait_onto t)
trait_front t =
    then (λ n. t.white ++ n) _ (run_front t.white)
    (then (λ n. t.name ++ n) _ (run_front t.name)
    (then (λ n. byte "=" ∷ n) _ (byte_front (byte "=")) (record { bytes = spelling t.value; is = value_append t.value })))

pub traits_front : (ts : List Trait) → Front (traits_onto ts)
unfolding traits_onto
traits_front [] = none_front
traits_front (t ∷ ts) = then (trait_onto t) _ (trait_front t) (traits_front ts)

pub marker_front : (k : Marker) → Front (marker_onto k)
marker_front k =
    then (λ n. byte "<" ∷ n) _ (byte_front (byte "<")) (then (λ n. k.name ++ n) _ (run_front k.name)
    (then (traits_onto k.traits) _ (traits_front k.traits) (run_front k.white)))

pub lines_front : (tabs : ℕ) (ls : List Line) → Front (lines_onto tabs ls)
unfolding lines_onto
lines_front tabs [] = none_front
lines_front tabs (blank b ∷ ls) = then _ _ (blank_front b) (lines_front tabs ls)
lines_front tabs (text t e ∷ ls) =
    then (tabs_onto (suc tabs)) _ (run_front (replicate (suc tabs) tab)) (then (λ n. t ++ n) _ (run_front t) (then (line_end_onto e) _ (end_front e) (lines_front tabs ls)))

-- a closing marker without its ">"
open_closing : (w : List ℕ) → Front (λ next. byte "<" ∷ byte "/" ∷ (w ++ next))
open_closing w = then (λ n. byte "<" ∷ n) _ (byte_front (byte "<")) (then (λ n. byte "/" ∷ n) _ (byte_front (byte "/")) (run_front w))

-- a Concept is something and ">"
pub record Ends (f : List ℕ → List ℕ) : Type 0 where
  pub bytes : List ℕ
  pub is : (next : List ℕ) → f next ≡ bytes ++ (byte ">" ∷ next)

pub ends_of : (f g : List ℕ → List ℕ) → Front f → Ends g → Ends (λ next. f (g next))
ends_of f g a b =
    record {
      bytes = a.bytes ++ b.bytes;
      is = λ next. a.is (g next) ∙ ap (λ (l : List ℕ). a.bytes ++ l) (b.is next) ∙ sym (append_assoc a.bytes b.bytes (byte ">" ∷ next));
    }

closing_ends : (w : List ℕ) → Ends (closing_onto w)
closing_ends w = let o = open_closing w in record { bytes = o.bytes; is = λ next. o.is (byte ">" ∷ next) }

pub whole_front : (f : List ℕ → List ℕ) → Ends f → Front f
whole_front f e = record { bytes = e.bytes ++ (byte ">" ∷ []); is = λ next. e.is next ∙ sym (append_assoc e.bytes (byte ">" ∷ []) next) }

mutual
  unfolding concept_onto

  pub concept_ends : (c : Concept) (tabs : ℕ) → Ends (concept_onto tabs c)
  concept_ends (self_closed k) tabs = ends_of (marker_onto k) (ending_onto self) (marker_front k) (record { bytes = byte "/" ∷ []; is = λ next. refl })
  concept_ends (children k rest inner back) tabs =
      ends_of (marker_onto k) _ (marker_front k) (ends_of (ending_onto block) _ (byte_front (byte ">"))
      (ends_of (blank_onto rest) _ (blank_front rest) (ends_of (body_onto inner) _ (body_front inner)
      (ends_of (tabs_onto back) (closing_onto k.name) (run_front (replicate back tab)) (closing_ends k.name)))))
  concept_ends (content k rest lines) tabs =
      ends_of (marker_onto k) _ (marker_front k) (ends_of (ending_onto block) _ (byte_front (byte ">"))
      (ends_of (blank_onto rest) _ (blank_front rest) (ends_of (lines_onto tabs lines) _ (lines_front tabs lines)
      (ends_of (tabs_onto tabs) (closing_onto k.name) (run_front (replicate tabs tab)) (closing_ends k.name)))))

  pub body_front : (b : Body) → Front (body_onto b)
  body_front done = none_front
  body_front (blank_line b inner) = then (blank_onto b) _ (blank_front b) (body_front inner)
  body_front (element notes tabs c rest inner) =
      then (annotations_onto notes) _ (notes_front notes) (then (tabs_onto tabs) _ (run_front (replicate tabs tab))
      (then (concept_onto tabs c) _ (whole_front _ (concept_ends c tabs)) (then (blank_onto rest) _ (blank_front rest) (body_front inner))))

-- ---- places

-- what stands in front at a place ends so much further on
pub past_bytes : (s : List ℕ) (at : ℕ) (w rest : List ℕ) → drop at s ≡ w ++ rest → drop (at + length w) s ≡ rest
past_bytes s at w rest e = sym (drop-drop (length w) at s) ∙ ap (drop (length w)) e ∙ drop-append_seam w rest

pub past_front : (s : List ℕ) (at : ℕ) (f : List ℕ → List ℕ) (rest : List ℕ) → Front f → drop at s ≡ f rest → drop (at + length (f [])) s ≡ rest
past_front s at f rest h e =
    ap (λ (w : List ℕ). drop (at + length w) s) (h.is [] ∙ append-nil h.bytes) ∙ past_bytes s at h.bytes rest (e ∙ h.is rest)

pub front_append : (f : List ℕ → List ℕ) → Front f → (next : List ℕ) → f next ≡ f [] ++ next
front_append f h next = h.is next ∙ ap (λ (w : List ℕ). w ++ next) (sym (h.is [] ∙ append-nil h.bytes))
