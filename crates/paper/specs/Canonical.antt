-- The meaning of a tree, with no offset and no layout, and the canonical form, which is the printed meaning.
-- Document 01, "Canonical form"; 000 §10.5; document 02, Two and Five.
use Rattle.std.specs.Prelude.{ℕ, suc, ◌+◌, ◌-◌, ◌/◌, ◌%◌, Bool, true, false, ◌||◌, List, [], ◌∷◌, ◌++◌, map, length, leb, ltb, eqb}
use Rattle.paper.specs.Found.{pick}
use Rattle.paper.specs.Bytes.{byte, is_upper, lf, cr, tab, space}
use Rattle.paper.specs.Values.{pieces_mean, collapse, ends_in_slash, Leaf, string, character, backtick, word, temporal, opener}
use Rattle.paper.specs.Values.{closer, Key, bare_key, leaf_key, Label, no_label, label, Value, leaf, empty_bracket, bracket, More, close, comma}
use Rattle.paper.specs.Times.{TimeKind}
use Rattle.paper.specs.declared.brackets.Bracket.{Bracket}
use Rattle.paper.specs.Tree.{Marker, Annotation, Line, blank, text, Concept, self_closed, children, content, Body, done, blank_line, element, Sheet, Ending, block}
use Rattle.paper.specs.Tree.{self}
use Rattle.paper.specs.Grammar.{tabs_onto, ending_onto, closing_onto}

-- ---- meanings

-- the bytes of a string or of a character, the form and spelling of a word, the kind and inside of a time
pub data LeafSense : Type 0 where
  quoted letter : List ℕ → LeafSense
  spelt : ℕ → List ℕ → LeafSense
  timed : TimeKind → List ℕ → LeafSense

-- what stands before an item: nothing, a bare name, or another key; a bare name is not the string of its letters
pub data LabelSense : Type 0 where
  unlabelled : LabelSense
  bare_name : List ℕ → LabelSense
  key_name : LeafSense → LabelSense

mutual
  -- a value without items, or the items of a bracket
  pub data ValueSense : Type 0 where
    single : LeafSense → ValueSense
    held : Bracket → ItemsSense → ValueSense

  pub data ItemsSense : Type 0 where
    none : ItemsSense
    item : LabelSense → ValueSense → ItemsSense → ItemsSense

pub record TraitSense : Type 0 where
  pub name : List ℕ
  pub value : ValueSense

pub record MarkerSense : Type 0 where
  pub name : List ℕ
  pub traits : List TraitSense

mutual
  -- a Concept that is self-closed, one that holds elements, and one that holds lines of Content
  pub data ConceptSense : Type 0 where
    bare : MarkerSense → ConceptSense
    around : MarkerSense → BodySense → ConceptSense
    saying : MarkerSense → List (List ℕ) → ConceptSense

  -- annotations and their Concept, and the elements behind them
  pub data BodySense : Type 0 where
    empty : BodySense
    with : List (List ℕ) → ConceptSense → BodySense → BodySense

pub record SheetSense : Type 0 where
  pub annotations : List (List ℕ)
  pub root : ConceptSense

-- UUIDs are lower case; the other words' spellings stay
unfoldable pub lower : ℕ → ℕ
lower b = pick (is_upper b) (b + 32) b

unfoldable pub leaf_sense : Leaf → LeafSense
leaf_sense (string ps) = quoted (pieces_mean ps)
leaf_sense (character ps) = letter (pieces_mean ps)
leaf_sense (backtick ps) = quoted (collapse (pieces_mean ps))
leaf_sense (word form w) = spelt form (pick (eqb form 10) (map lower w) w)
leaf_sense (temporal kind w) = timed kind w

unfoldable pub key_sense : Key → LabelSense
key_sense (bare_key w) = bare_name w
key_sense (leaf_key v) = key_name (leaf_sense v)

unfoldable pub label_sense : Label → LabelSense
label_sense no_label = unlabelled
label_sense (label key white) = key_sense key

unfoldable mutual
  pub value_sense : Value → ValueSense
  value_sense (leaf v) = single (leaf_sense v)
  value_sense (empty_bracket k) = held k none
  value_sense (bracket k a v more) = held k (item (label_sense a) (value_sense v) (more_sense more))

  pub more_sense : More → ItemsSense
  more_sense close = none
  more_sense (comma white a v more) = item (label_sense a) (value_sense v) (more_sense more)

abbrev pub marker_sense : Marker → MarkerSense
marker_sense k = record { name = k.name; traits = map (λ t. record { name = t.name; value = value_sense t.value }) k.traits }

-- the text of a line of Content; a blank line has none
abbrev pub line_sense : Line → List ℕ
line_sense (blank b) = []
line_sense (text t end) = t

abbrev pub annotation_sense : Annotation → List ℕ
annotation_sense a = collapse a.text

unfoldable mutual
  pub concept_sense : Concept → ConceptSense
  concept_sense (self_closed k) = bare (marker_sense k)
  concept_sense (children k rest body back) = around (marker_sense k) (body_sense body)
  concept_sense (content k rest lines) = saying (marker_sense k) (map line_sense lines)

  pub body_sense : Body → BodySense
  body_sense done = empty
  body_sense (blank_line b body) = body_sense body
  body_sense (element notes tabs c rest body) = with (map annotation_sense notes) (concept_sense c) (body_sense body)

unfoldable pub meaning : Sheet → SheetSense
meaning t = record { annotations = map annotation_sense t.annotations; root = concept_sense t.root }

-- ---- printing, in front of what follows

abbrev pub hex_letter : ℕ → ℕ
hex_letter n = pick (ltb n 10) (byte "0" + n) (byte "a" + n - 10)

-- one or two hex digits
unfoldable pub hex_onto : ℕ → List ℕ → List ℕ
hex_onto b next = pick (ltb b 16) (hex_letter b ∷ next) (hex_letter (b / 16) ∷ hex_letter (b % 16) ∷ next)

-- a byte between two of this quote
unfoldable pub byte_onto : ℕ → ℕ → List ℕ → List ℕ
byte_onto quote b next =
    pick (eqb b quote || eqb b (byte "\\")) (byte "\\" ∷ b ∷ next)
    (pick (eqb b lf) (byte "\\" ∷ byte "n" ∷ next)
    (pick (eqb b cr) (byte "\\" ∷ byte "r" ∷ next)
    (pick (eqb b tab) (byte "\\" ∷ byte "t" ∷ next)
    (pick (ltb b 32 || eqb b 127) (byte "\\" ∷ byte "u" ∷ byte "{" ∷ hex_onto b (byte "}" ∷ next)) (b ∷ next)))))

unfoldable pub bytes_onto : ℕ → List ℕ → List ℕ → List ℕ
bytes_onto quote [] next = next
bytes_onto quote (b ∷ l) next = byte_onto quote b (bytes_onto quote l next)

unfoldable pub print_leaf : LeafSense → List ℕ → List ℕ
print_leaf (quoted l) next = byte "\"" ∷ bytes_onto (byte "\"") l (byte "\"" ∷ next)
print_leaf (letter l) next = byte "'" ∷ bytes_onto (byte "'") l (byte "'" ∷ next)
print_leaf (spelt form w) next = w ++ next
print_leaf (timed kind w) next = byte "{" ∷ (w ++ (byte "}" ∷ next))

-- a key as such a value is written, then colon and one space
unfoldable pub print_label : LabelSense → List ℕ → List ℕ
print_label unlabelled next = next
print_label (bare_name w) next = w ++ (byte ":" ∷ space ∷ next)
print_label (key_name x) next = print_leaf x (byte ":" ∷ space ∷ next)

-- items: comma and one space
unfoldable mutual
  pub print_value : ValueSense → List ℕ → List ℕ
  print_value (single x) next = print_leaf x next
  print_value (held k items) next = opener k ++ print_items items (closer k ∷ next)

  pub print_items : ItemsSense → List ℕ → List ℕ
  print_items none next = next
  print_items (item a v items) next = print_label a (print_value v (print_behind items next))

  pub print_behind : ItemsSense → List ℕ → List ℕ
  print_behind none next = next
  print_behind (item a v items) next = byte "," ∷ space ∷ print_label a (print_value v (print_behind items next))

abbrev pub print_trait : TraitSense → List ℕ → List ℕ
print_trait t next = t.name ++ (byte "=" ∷ print_value t.value next)

-- traits after single spaces; traits on lines of their own, at so many tabs
unfoldable pub print_beside : List TraitSense → List ℕ → List ℕ
print_beside [] next = next
print_beside (t ∷ ts) next = space ∷ print_trait t (print_beside ts next)

unfoldable pub print_below : ℕ → List TraitSense → List ℕ → List ℕ
print_below tabs [] next = next
print_below tabs (t ∷ ts) next = lf ∷ tabs_onto tabs (print_trait t (print_below tabs ts next))

-- the last of the traits ends in "/"
abbrev pub sense_in_slash : ValueSense → Bool
sense_in_slash (single (quoted l)) = false
sense_in_slash (single (letter l)) = false
sense_in_slash (single (spelt form w)) = ends_in_slash w
sense_in_slash (single (timed kind w)) = false
sense_in_slash (held k items) = false

unfoldable pub last_in_slash : List TraitSense → Bool
last_in_slash [] = false
last_in_slash (t ∷ []) = sense_in_slash t.value
last_in_slash (t ∷ u ∷ ts) = last_in_slash (u ∷ ts)

-- a space stands before "/>", and is kept before ">" where that would follow directly on a value that ends in "/"
abbrev pub spaced : Ending → List TraitSense → Bool
spaced block ts = last_in_slash ts
spaced self ts = true

-- a marker at this depth: up to two traits beside the name, three or more below it
unfoldable pub print_marker : ℕ → MarkerSense → Ending → List ℕ → List ℕ
print_marker depth k e next =
    byte "<" ∷ (k.name ++ elim (leb (length k.traits) 2) [
      | true ↦ print_beside k.traits (elim (spaced e k.traits) [ true ↦ space ∷ ending_onto e next | false ↦ ending_onto e next ])
      | false ↦ print_below (suc depth) k.traits (lf ∷ tabs_onto depth (ending_onto e next))
    ])

unfoldable pub print_notes : ℕ → List (List ℕ) → List ℕ → List ℕ
print_notes depth [] next = next
print_notes depth (t ∷ ts) next = tabs_onto depth (byte "[" ∷ (t ++ (byte "]" ∷ lf ∷ print_notes depth ts next)))

-- empty text is an empty line
unfoldable pub print_line : ℕ → List ℕ → List ℕ → List ℕ
print_line depth [] next = lf ∷ next
print_line depth (b ∷ l) next = tabs_onto depth ((b ∷ l) ++ (lf ∷ next))

unfoldable pub print_lines : ℕ → List (List ℕ) → List ℕ → List ℕ
print_lines depth [] next = next
print_lines depth (l ∷ ls) next = print_line depth l (print_lines depth ls next)

-- a Concept at this depth, from its "<" past its last ">"; and the elements of a body, an empty line between them
unfoldable mutual
  pub print_concept : ℕ → ConceptSense → List ℕ → List ℕ
  print_concept depth (bare k) next = print_marker depth k self next
  print_concept depth (around k inner) next = print_marker depth k block (lf ∷ print_body (suc depth) inner (tabs_onto depth (closing_onto k.name next)))
  print_concept depth (saying k ls) next = print_marker depth k block (lf ∷ print_lines (suc depth) ls (tabs_onto depth (closing_onto k.name next)))

  pub print_body : ℕ → BodySense → List ℕ → List ℕ
  print_body depth empty next = next
  print_body depth (with notes c inner) next = print_notes depth notes (tabs_onto depth (print_concept depth c (lf ∷ print_more depth inner next)))

  pub print_more : ℕ → BodySense → List ℕ → List ℕ
  print_more depth empty next = next
  print_more depth (with notes c inner) next = lf ∷ print_notes depth notes (tabs_onto depth (print_concept depth c (lf ∷ print_more depth inner next)))

unfoldable pub print : SheetSense → List ℕ
print d = print_notes 0 d.annotations (print_concept 0 d.root (lf ∷ []))

abbrev pub canonical : Sheet → List ℕ
canonical t = print (meaning t)
