-- The derivations: the bytes that a tree covers, and the rules that it keeps under a mode table.
-- Document 01, "The grammar", sentence by sentence as docs/GRAMMAR.md lists them.
use Rattle.std.specs.Prelude.{ℕ, suc, ◌≡◌, Bool, true, false, not, ◌&&◌, ◌||◌, List, [], ◌∷◌, ◌++◌, map, length, replicate, leb, eqb}
use Rattle.paper.specs.declared.Mode.{Mode}
use Rattle.paper.specs.declared.Mode.TheVariants.{Children, Content, Absent}
use Rattle.paper.specs.Found.{found}
use Rattle.paper.specs.Bytes.{byte, bytes, is_upper, is_lower, is_blank, is_white, is_line_end, all, elem, sheet_bytes, lf, cr, tab}
use Rattle.paper.specs.Names.{name_rule, distinct}
use Rattle.paper.specs.Modes.{Modes, mode_of}
use Rattle.paper.specs.Values.{value_onto, value_rule, value_in_slash}
use Rattle.paper.specs.Tree.{LineEnd, LF, CRLF, Blank, Trait, Marker, Annotation, Line, blank, text, Concept, self_closed, children, content, Body, done, blank_line}
use Rattle.paper.specs.Tree.{element, Sheet, Ending, block, self}

-- ---- the bytes of a tree, in front of what follows

abbrev pub line_end_onto : LineEnd → List ℕ → List ℕ
line_end_onto LF next = lf ∷ next
line_end_onto CRLF next = cr ∷ lf ∷ next

abbrev pub blank_onto : Blank → List ℕ → List ℕ
blank_onto b next = b.blanks ++ line_end_onto b.end next

unfoldable pub blanks_onto : List Blank → List ℕ → List ℕ
blanks_onto [] next = next
blanks_onto (b ∷ bs) next = blank_onto b (blanks_onto bs next)

abbrev pub tabs_onto : ℕ → List ℕ → List ℕ
tabs_onto n next = replicate n tab ++ next

abbrev pub annotation_onto : Annotation → List ℕ → List ℕ
annotation_onto a next = tabs_onto a.tabs (byte "[" ∷ (a.text ++ (byte "]" ∷ blank_onto a.rest next)))

unfoldable pub annotations_onto : List Annotation → List ℕ → List ℕ
annotations_onto [] next = next
annotations_onto (a ∷ notes) next = annotation_onto a (annotations_onto notes next)

abbrev pub trait_onto : Trait → List ℕ → List ℕ
trait_onto t next = t.white ++ (t.name ++ (byte "=" ∷ value_onto t.value next))

unfoldable pub traits_onto : List Trait → List ℕ → List ℕ
traits_onto [] next = next
traits_onto (t ∷ ts) next = trait_onto t (traits_onto ts next)

abbrev pub marker_onto : Marker → List ℕ → List ℕ
marker_onto k next = byte "<" ∷ (k.name ++ traits_onto k.traits (k.white ++ next))

abbrev pub ending_onto : Ending → List ℕ → List ℕ
ending_onto block next = byte ">" ∷ next
ending_onto self next = byte "/" ∷ byte ">" ∷ next

abbrev pub closing_onto : List ℕ → List ℕ → List ℕ
closing_onto name next = byte "<" ∷ byte "/" ∷ (name ++ (byte ">" ∷ next))

-- a line of Content whose marker has so many tabs
abbrev pub line_onto : ℕ → Line → List ℕ → List ℕ
line_onto tabs (blank b) next = blank_onto b next
line_onto tabs (text t end) next = tabs_onto (suc tabs) (t ++ line_end_onto end next)

unfoldable pub lines_onto : ℕ → List Line → List ℕ → List ℕ
lines_onto tabs [] next = next
lines_onto tabs (l ∷ ls) next = line_onto tabs l (lines_onto tabs ls next)

-- a Concept from its "<" past its last ">", where its line has so many tabs
unfoldable mutual
  pub concept_onto : ℕ → Concept → List ℕ → List ℕ
  concept_onto tabs (self_closed k) next = marker_onto k (ending_onto self next)
  concept_onto tabs (children k rest body back) next = marker_onto k (ending_onto block (blank_onto rest (body_onto body (tabs_onto back (closing_onto k.name next)))))
  concept_onto tabs (content k rest lines) next = marker_onto k (ending_onto block (blank_onto rest (lines_onto tabs lines (tabs_onto tabs (closing_onto k.name next)))))

  pub body_onto : Body → List ℕ → List ℕ
  body_onto done next = next
  body_onto (blank_line b body) next = blank_onto b (body_onto body next)
  body_onto (element notes tabs c rest body) next = annotations_onto notes (tabs_onto tabs (concept_onto tabs c (blank_onto rest (body_onto body next))))

unfoldable pub sheet_onto : Sheet → List ℕ → List ℕ
sheet_onto t next =
    blanks_onto t.before (annotations_onto t.annotations (tabs_onto t.tabs (concept_onto t.tabs t.root (blanks_onto t.after (t.last ++ next)))))

-- ---- the rules of a tree

abbrev pub blank_rule : Blank → Bool
blank_rule b = all is_blank b.blanks

-- "\]" and "\\" are the only escapes, and it is one line
unfoldable mutual
  pub annotation_text : List ℕ → Bool
  annotation_text [] = true
  annotation_text (b ∷ l) = elim (eqb b (byte "\\")) [ true ↦ annotation_escape l | false ↦ not (eqb b (byte "]") || is_line_end b) && annotation_text l ]

  pub annotation_escape : List ℕ → Bool
  annotation_escape [] = false
  annotation_escape (b ∷ l) = elem b (bytes "]\\") && annotation_text l

unfoldable pub annotation_rule : Annotation → Bool
annotation_rule a = annotation_text a.text && blank_rule a.rest

unfoldable pub trait_rule : Trait → Bool
trait_rule t = leb 1 (length t.white) && all is_white t.white && name_rule is_lower t.name && value_rule [] t.value

-- the names of traits, in their order
abbrev pub trait_names : List Trait → List (List ℕ)
trait_names ts = map (λ t. t.name) ts

-- no two traits of one marker have the same name
unfoldable pub marker_rule : Marker → Bool
marker_rule k = name_rule is_upper k.name && all trait_rule k.traits && distinct (trait_names k.traits) && all is_white k.white

-- a value that ends in "/" stands directly before what follows the traits
unfoldable pub slash_last : List Trait → Bool
slash_last [] = false
slash_last (t ∷ []) = value_in_slash t.value
slash_last (t ∷ u ∷ ts) = slash_last (u ∷ ts)

-- ">" does not follow directly on a value that ends in "/": "/" directly followed by ">" is no part of a word
unfoldable pub opens_block : Marker → Bool
opens_block k = not (eqb (length k.white) 0 && slash_last k.traits)

-- text is not blanks only, and CR and LF are never text
abbrev pub line_rule : Line → Bool
line_rule (blank b) = blank_rule b
line_rule (text t end) = not (all is_blank t) && all (λ b. not (is_line_end b)) t

unfoldable mutual
  pub concept_rule : Concept → Bool
  concept_rule (self_closed k) = marker_rule k
  concept_rule (children k rest body back) = marker_rule k && opens_block k && blank_rule rest && body_rule body
  concept_rule (content k rest lines) = marker_rule k && opens_block k && blank_rule rest && all line_rule lines

  pub body_rule : Body → Bool
  body_rule done = true
  body_rule (blank_line b body) = blank_rule b && body_rule body
  body_rule (element notes tabs c rest body) = all annotation_rule notes && concept_rule c && blank_rule rest && body_rule body

unfoldable pub sheet_rule : Sheet → Bool
sheet_rule t = all blank_rule t.before && all annotation_rule t.annotations && concept_rule t.root && all blank_rule t.after && all is_blank t.last

-- ---- the modes of a tree

unfoldable pub in_mode : Mode → Modes → List ℕ → Bool
in_mode Children m w = elim (mode_of m w) [ Children ↦ true | Content ↦ false | Absent ↦ false ]
in_mode Content m w = elim (mode_of m w) [ Children ↦ false | Content ↦ true | Absent ↦ false ]
in_mode Absent m w = elim (mode_of m w) [ Children ↦ false | Content ↦ false | Absent ↦ true ]

-- a Concept's body holds Concepts with their annotations, if its name is in children mode, and Content, if it is in content mode.
-- One without a body has a name that the table lists
unfoldable mutual
  pub concept_modes : Modes → Concept → Bool
  concept_modes m (self_closed k) = not (in_mode Absent m k.name)
  concept_modes m (children k rest body back) = in_mode Children m k.name && body_modes m body
  concept_modes m (content k rest lines) = in_mode Content m k.name

  pub body_modes : Modes → Body → Bool
  body_modes m done = true
  body_modes m (blank_line b body) = body_modes m body
  body_modes m (element notes tabs c rest body) = concept_modes m c && body_modes m body

abbrev pub sheet_modes : Modes → Sheet → Bool
sheet_modes m t = concept_modes m t.root

-- ---- a derivation of a sheet under a mode table's modes

pub record Derives (m : Modes) (s : List ℕ) (t : Sheet) : Type 0 where
  pub scalars : List ℕ
  pub bytes : sheet_bytes s ≡ found scalars []
  pub covers : sheet_onto t [] ≡ s
  pub rule : sheet_rule t ≡ true
  pub modes : sheet_modes m t ≡ true
