-- What the entries of a sheet tell beside offsets: names, and what keys, values, annotations and Content mean. The entries of its canonical form tell the same.
-- Document 01, "Entries" and "Canonical form"; demand 2. Assumes nothing.
use Prim.Native.Nat.{ℕ, ◌+◌, ◌-◌}
use mathlib.Core.Path.{◌≡◌, refl, sym, ap, ◌∙◌}
use mathlib.Core.Bool.{true, ◌&&◌}
use mathlib.Core.List.{List, [], ◌∷◌, ◌++◌, map}
use native.Mathlib.Omega.{arith}
use lib.ListN.{length, take, drop, replicate, length-replicate}
use lib.Dec.{leb}
use lib.Seq.{take-append_seam}
use Rattle.paper.specs.Bytes.{byte, tab, all, is_blank, is_white, is_lower}
use Rattle.paper.specs.Names.{name_rule}
use Rattle.paper.specs.declared.brackets.Bracket.{Bracket}
use Rattle.paper.specs.Values.{opener, enders, Label, no_label, label, Value, leaf, empty_bracket, bracket, More, close, comma, key_onto, label_onto, value_onto}
use Rattle.paper.specs.Values.{more_onto, spelling, collapse, label_rule, value_rule, more_rule}
use Rattle.paper.specs.Tree.{Blank, Trait, Marker, Annotation, Line, Concept, self_closed, children, content, Body, done, blank_line, element, Sheet, block}
use Rattle.paper.specs.Grammar.{blank_onto, blanks_onto, tabs_onto, annotation_onto, annotations_onto, trait_onto, traits_onto, marker_onto, ending_onto, closing_onto}
use Rattle.paper.specs.Grammar.{lines_onto, concept_onto, body_onto, sheet_onto, blank_rule, annotation_rule, trait_rule, marker_rule, line_rule, opens_block, concept_rule}
use Rattle.paper.specs.Grammar.{body_rule, sheet_rule}
use Rattle.paper.specs.Entries.{Entry, value_width, key_width, label_width, item_entry, item_entries, more_entries, item_size, trait_entries, trait_size, trait_name}
use Rattle.paper.specs.Entries.{trait_value, traits_size, annotation_entries, concept_size, concept_width, marker_name, marker_of, body_start, inside_entries}
use Rattle.paper.specs.Entries.{body_entries, no_parent, root_start, entries}
use Rattle.paper.specs.Canonical.{LabelSense, ValueSense, single, held, ItemsSense, none, item, TraitSense, ConceptSense, bare, around, saying, BodySense}
use Rattle.paper.specs.Canonical.{empty, with, SheetSense, label_sense, value_sense, more_sense, marker_sense, line_sense, annotation_sense, concept_sense, body_sense}
use Rattle.paper.specs.Canonical.{meaning}
use Rattle.paper.proofs.Lists.{both, all_head}
use Rattle.paper.proofs.Concepts.{element_parts, marker_parts}
use Rattle.paper.proofs.Labels.{key_append, label_append}
use Rattle.paper.proofs.ReadValues.{value_append}
use Rattle.paper.proofs.Fronts.{blank_front, blanks_front, note_front, notes_front, trait_front, marker_front}
use Rattle.paper.proofs.Fronts.{lines_front, whole_front, concept_ends, past_bytes, past_front, front_append}

-- ---- what an entry tells

-- a Concept's name; a trait's name and its value; an item's key, if it has one, and its value; an annotation's text, collapsed; Content's lines
pub data Sense : Type 0 where
  named : List ℕ → Sense
  trait : List ℕ → ValueSense → Sense
  member : LabelSense → ValueSense → Sense
  note : List ℕ → Sense
  lines : List (List ℕ) → Sense

-- the part of a sheet between two places
abbrev pub part : List ℕ → ℕ → ℕ → List ℕ
part s from to = take (to - from) (drop from s)

-- these bytes are the spelling of a value by the rules, which means this
pub record Spells (w : List ℕ) (v : ValueSense) : Type 0 where
  pub it : Value
  pub also : List ℕ
  pub rule : value_rule also it ≡ true
  pub is : spelling it ≡ w
  pub means : value_sense it ≡ v

-- the bytes of a label's key; none where there is no label
abbrev pub key_spelling : Label → List ℕ
key_spelling no_label = []
key_spelling (label key white) = key_onto key []

-- these bytes are those of the key of an item by the rules, which means this
pub record SpellsKey (w : List ℕ) (a : LabelSense) : Type 0 where
  pub it : Label
  pub kind : Bracket
  pub rule : label_rule kind it ≡ true
  pub is : key_spelling it ≡ w
  pub means : label_sense it ≡ a

-- these bytes are lines of Content by the rules, whose texts are these
pub record Says (w : List ℕ) (texts : List (List ℕ)) : Type 0 where
  pub tabs : ℕ
  pub them : List Line
  pub rule : all line_rule them ≡ true
  pub is : lines_onto tabs them [] ≡ w
  pub mean : map line_sense them ≡ texts

abbrev pub Tells : List ℕ → Entry → Sense → Type 0
Tells s e (named w) = (e.kind ≡ 1) × (part s e.name_start e.name_end ≡ w)
Tells s e (trait w v) = (e.kind ≡ 2) × (part s e.name_start e.name_end ≡ w) × Spells (part s e.start e.end) v
Tells s e (member a v) = (e.kind ≡ 3) × SpellsKey (part s e.name_start e.name_end) a × Spells (part s e.start e.end) v
Tells s e (note w) = (e.kind ≡ 4) × (collapse (part s e.start e.end) ≡ w)
Tells s e (lines ls) = (e.kind ≡ 5) × Says (part s e.start e.end) ls

pub data AllTell (s : List ℕ) : List Entry → List Sense → Type 0 where
  none_left : AllTell s [] []
  tells : {e : Entry} {es : List Entry} {x : Sense} {xs : List Sense} → Tells s e x → AllTell s es xs → AllTell s (e ∷ es) (x ∷ xs)

-- ---- the senses of a meaning, in the order of entries

unfoldable mutual
  pub item_senses : ValueSense → List Sense
  item_senses (single x) = []
  item_senses (held k items) = items_senses items

  pub items_senses : ItemsSense → List Sense
  items_senses none = []
  items_senses (item a v items) = member a v ∷ (item_senses v ++ items_senses items)

unfoldable pub trait_senses : List TraitSense → List Sense
trait_senses [] = []
trait_senses (t ∷ ts) = trait t.name t.value ∷ (item_senses t.value ++ trait_senses ts)

abbrev pub name_in : ConceptSense → List ℕ
name_in (bare k) = k.name
name_in (around k inner) = k.name
name_in (saying k ls) = k.name

unfoldable mutual
  pub inside_senses : ConceptSense → List Sense
  inside_senses (bare k) = trait_senses k.traits
  inside_senses (around k inner) = trait_senses k.traits ++ body_senses inner
  inside_senses (saying k ls) = trait_senses k.traits ++ (lines ls ∷ [])

  pub body_senses : BodySense → List Sense
  body_senses empty = []
  body_senses (with notes c inner) = map note notes ++ (named (name_in c) ∷ (inside_senses c ++ body_senses inner))

unfoldable pub senses : SheetSense → List Sense
senses d = map note d.annotations ++ (named (name_in d.root) ∷ inside_senses d.root)

-- ---- the entries of a tree that stands at a place of a sheet tell its meaning

tell_append : {s : List ℕ} {es fs : List Entry} {xs ys : List Sense} → AllTell s es xs → AllTell s fs ys → AllTell s (es ++ fs) (xs ++ ys)
tell_append none_left k = k
tell_append (tells h hs) k = tells h (tell_append hs k)

-- bytes that stand at a place are the part from there on
part_is : (s : List ℕ) (at : ℕ) (w rest : List ℕ) → drop at s ≡ w ++ rest → part s at (at + length w) ≡ w
part_is s at w rest e =
    let n : at + length w - at ≡ length w = omega arith in
    ap (λ (k : ℕ). take k (drop at s)) n ∙ ap (take (length w)) e ∙ take-append_seam w rest

-- one byte further
past_byte : (s : List ℕ) (at b : ℕ) (rest : List ℕ) → drop at s ≡ b ∷ rest → drop (at + 1) s ≡ rest
past_byte s at b rest e = past_bytes s at (b ∷ []) rest e

module _ (s : List ℕ) where
  spells : (v : Value) (also : List ℕ) (at : ℕ) (rest : List ℕ) → value_rule also v ≡ true → drop at s ≡ value_onto v rest
      → Spells (part s at (at + value_width v)) (value_sense v)
  spells v also at rest r e =
      record { it = v; also = also; rule = r; is = sym (part_is s at (spelling v) rest (e ∙ value_append v rest)); means = refl }

  past_value : (v : Value) (at : ℕ) (rest : List ℕ) → drop at s ≡ value_onto v rest → drop (at + value_width v) s ≡ rest
  past_value v at rest e = past_bytes s at (spelling v) rest (e ∙ value_append v rest)

  key_is : (a : Label) (at : ℕ) (rest : List ℕ) → drop at s ≡ label_onto a rest → part s at (at + key_width a) ≡ key_spelling a
  unfolding label_onto
  key_is no_label at rest e = part_is s at [] rest e
  key_is (label key white) at rest e = part_is s at (key_onto key []) (byte ":" ∷ (white ++ rest)) (e ∙ key_append key (byte ":" ∷ (white ++ rest)))

  past_label : (a : Label) (at : ℕ) (rest : List ℕ) → drop at s ≡ label_onto a rest → drop (at + label_width a) s ≡ rest
  past_label a at rest e = past_bytes s at (label_onto a []) rest (e ∙ label_append a rest)

  item_tells : (k : Bracket) (a : Label) (v : Value) (parent at : ℕ) (rest : List ℕ) → label_rule k a ≡ true → value_rule (enders k) v ≡ true
      → drop at s ≡ label_onto a (value_onto v rest) → Tells s (item_entry parent at a v) (member (label_sense a) (value_sense v))
  item_tells k a v parent at rest l r e = (
    refl,
    record { it = a; kind = k; rule = l; is = sym (key_is a at (value_onto v rest) e); means = refl },
    spells v (enders k) (at + label_width a) rest r (past_label a at (value_onto v rest) e),
  )

  mutual
    unfolding item_entries item_senses value_sense value_onto value_rule

    items_tell : (v : Value) (also : List ℕ) (parent next at : ℕ) (rest : List ℕ) → value_rule also v ≡ true → drop at s ≡ value_onto v rest
        → AllTell s (item_entries parent next at v) (item_senses (value_sense v))
    items_tell (leaf v) also parent next at rest r e = none_left
    items_tell (empty_bracket k) also parent next at rest r e = none_left
    items_tell (bracket k a v more) also parent next at rest r e =
        let p = both (label_rule k a && value_rule (enders k) v) (more_rule k more) r in
        let q = both (label_rule k a) (value_rule (enders k) v) p.0 in
        let behind = more_onto k more rest in
        let start = at + length (opener k) in
        let first = past_bytes s at (opener k) (label_onto a (value_onto v behind)) e in
        let valued = past_label a start (value_onto v behind) first in
        tells {x = member (label_sense a) (value_sense v)} (item_tells k a v parent start behind q.0 q.1 first)
        (tell_append (items_tell v (enders k) next (next + 1) (start + label_width a) behind q.1 valued)
        (more_tell k more parent (next + 1 + item_size v) (start + label_width a + value_width v) rest p.1 (past_value v (start + label_width a) behind valued)))

    more_tell : (k : Bracket) (more : More) (parent next at : ℕ) (rest : List ℕ) → more_rule k more ≡ true → drop at s ≡ more_onto k more rest
        → AllTell s (more_entries parent next at more) (items_senses (more_sense more))
    more_tell k close parent next at rest r e = none_left
    more_tell k (comma white a v more) parent next at rest r e =
        let p = element_parts (all is_white white) (label_rule k a) (value_rule (enders k) v) (more_rule k more) r in
        let behind = more_onto k more rest in
        let start = at + 1 + length white in
        let labelled = label_onto a (value_onto v behind) in
        let first = past_bytes s (at + 1) white labelled (past_byte s at (byte ",") (white ++ labelled) e) in
        let valued = past_label a start (value_onto v behind) first in
        tells {x = member (label_sense a) (value_sense v)} (item_tells k a v parent start behind p.1 p.2 first)
        (tell_append (items_tell v (enders k) next (next + 1) (start + label_width a) behind p.2 valued)
        (more_tell k more parent (next + 1 + item_size v) (start + label_width a + value_width v) rest p.3 (past_value v (start + label_width a) behind valued)))

  -- the value of a trait stands behind its white space, its name and "="
  traits_tell : (ts : List Trait) (parent next at : ℕ) (rest : List ℕ) → all trait_rule ts ≡ true → drop at s ≡ traits_onto ts rest
      → AllTell s (trait_entries parent next at ts) (trait_senses (map (λ t. record { name = t.name; value = value_sense t.value }) ts))
  unfolding trait_entries trait_senses traits_onto trait_rule
  traits_tell [] parent next at rest r e = none_left
  traits_tell (t ∷ ts) parent next at rest r e =
      let h = all_head trait_rule t ts r in
      let v = t.value in
      let rule = (both (leb 1 (length t.white) && all is_white t.white && name_rule is_lower t.name) (value_rule [] v) h.0).1 in
      let more = traits_onto ts rest in
      let name = past_bytes s at t.white (t.name ++ (byte "=" ∷ value_onto v more)) e in
      let first =
      past_byte s (trait_name at t + length t.name) (byte "=") (value_onto v more) (past_bytes s (trait_name at t) t.name (byte "=" ∷ value_onto v more) name) in
      tells {x = trait t.name (value_sense v)} (
        refl,
        part_is s (trait_name at t) t.name (byte "=" ∷ value_onto v more) name,
        spells v [] (trait_value at t) more rule first,
      )
      (tell_append (items_tell v [] next (next + 1) (trait_value at t) more rule first)
      (traits_tell ts parent (next + trait_size t) (at + length (trait_onto t [])) rest h.1 (past_front s at (trait_onto t) more (trait_front t) e)))

  past_tabs : (n at : ℕ) (rest : List ℕ) → drop at s ≡ tabs_onto n rest → drop (at + n) s ≡ rest
  past_tabs n at rest e = ap (λ (k : ℕ). drop (at + k) s) (sym (length-replicate n tab)) ∙ past_bytes s at (replicate n tab) rest e

  notes_tell : (notes : List Annotation) (parent at : ℕ) (rest : List ℕ) → drop at s ≡ annotations_onto notes rest
      → AllTell s (annotation_entries parent at notes) (map note (map annotation_sense notes))
  unfolding annotation_entries annotations_onto
  notes_tell [] parent at rest e = none_left
  notes_tell (a ∷ notes) parent at rest e =
      let behind = byte "]" ∷ blank_onto a.rest (annotations_onto notes rest) in
      let text = past_byte s (at + a.tabs) (byte "[") (a.text ++ behind) (past_tabs a.tabs at (byte "[" ∷ (a.text ++ behind)) e) in
      tells {x = note (annotation_sense a)} (refl, ap collapse (part_is s (at + a.tabs + 1) a.text behind text))
      (notes_tell notes parent (at + length (annotation_onto a [])) rest (past_front s at (annotation_onto a) (annotations_onto notes rest) (note_front a) e))

  -- ---- markers

  module _ (k : Marker) (at : ℕ) (rest : List ℕ) (e : drop at s ≡ marker_onto k rest) where
    past_mark : drop (at + 1) s ≡ k.name ++ traits_onto k.traits (k.white ++ rest)
    past_mark = past_byte s at (byte "<") (k.name ++ traits_onto k.traits (k.white ++ rest)) e

    marker_named : part s (at + 1) (marker_name at k) ≡ k.name
    marker_named = part_is s (at + 1) k.name (traits_onto k.traits (k.white ++ rest)) past_mark

    marker_tells : (own : ℕ) → marker_rule k ≡ true → AllTell s (trait_entries own (own + 1) (marker_name at k) k.traits) (trait_senses (marker_sense k).traits)
    marker_tells own r =
        traits_tell k.traits own (own + 1) (marker_name at k) (k.white ++ rest) (marker_parts k r).1
        (past_bytes s (at + 1) k.name (traits_onto k.traits (k.white ++ rest)) past_mark)

  past_opening : (k : Marker) (end : Blank) (at : ℕ) (rest : List ℕ) → drop at s ≡ marker_onto k (ending_onto block (blank_onto end rest))
      → drop (body_start at k end) s ≡ rest
  past_opening k end at rest e =
      past_front s (at + length (marker_onto k []) + 1) (blank_onto end) rest (blank_front end)
      (past_byte s (at + length (marker_onto k [])) (byte ">") (blank_onto end rest)
      (past_front s at (marker_onto k) (ending_onto block (blank_onto end rest)) (marker_front k) e))

  -- ---- Concepts

  concept_named : (c : Concept) (at tabs : ℕ) (rest : List ℕ) → drop at s ≡ concept_onto tabs c rest
      → part s (at + 1) (marker_name at (marker_of c)) ≡ name_in (concept_sense c)
  unfolding concept_onto concept_sense
  concept_named (self_closed k) at tabs rest e = marker_named k at _ e
  concept_named (children k end inner back) at tabs rest e = marker_named k at _ e
  concept_named (content k end them) at tabs rest e = marker_named k at _ e

  mutual
    unfolding inside_entries inside_senses concept_sense concept_onto concept_rule

    inside_tell : (c : Concept) (own at tabs : ℕ) (rest : List ℕ) → concept_rule c ≡ true → drop at s ≡ concept_onto tabs c rest
        → AllTell s (inside_entries own at tabs c) (inside_senses (concept_sense c))
    inside_tell (self_closed k) own at tabs rest r e = marker_tells k at _ e own r
    inside_tell (children k end inner back) own at tabs rest r e =
        let p = element_parts (marker_rule k) (opens_block k) (blank_rule end) (body_rule inner) r in
        tell_append (marker_tells k at _ e own p.0)
        (body_tell inner own (own + 1 + traits_size k.traits) (body_start at k end) (tabs_onto back (closing_onto k.name rest)) p.3
        (past_opening k end at (body_onto inner (tabs_onto back (closing_onto k.name rest))) e))
    inside_tell (content k end them) own at tabs rest r e =
        let p = element_parts (marker_rule k) (opens_block k) (blank_rule end) (all line_rule them) r in
        let behind = tabs_onto tabs (closing_onto k.name rest) in
        let start = past_opening k end at (lines_onto tabs them behind) e in
        tell_append (marker_tells k at _ e own p.0)
        (tells {x = lines (map line_sense them)} (
          refl,
          record {
            tabs = tabs;
            them = them;
            rule = p.3;
            is =
                sym (part_is s (body_start at k end) (lines_onto tabs them []) behind (start ∙ front_append (lines_onto tabs them) (lines_front tabs them) behind));
            mean =
                refl;
          },
        )
        none_left)

    body_tell : (b : Body) (parent next at : ℕ) (rest : List ℕ) → body_rule b ≡ true → drop at s ≡ body_onto b rest
        → AllTell s (body_entries parent next at b) (body_senses (body_sense b))
    body_tell done parent next at rest r e = none_left
    body_tell (blank_line b inner) parent next at rest r e =
        body_tell inner parent next (at + length (blank_onto b [])) rest (both (blank_rule b) (body_rule inner) r).1
        (past_front s at (blank_onto b) (body_onto inner rest) (blank_front b) e)
    body_tell (element notes tabs c end inner) parent next at rest r e =
        let p = element_parts (all annotation_rule notes) (concept_rule c) (blank_rule end) (body_rule inner) r in
        let more = blank_onto end (body_onto inner rest) in
        let start = at + length (annotations_onto notes []) + tabs in
        let first =
        past_tabs tabs (at + length (annotations_onto notes [])) (concept_onto tabs c more)
        (past_front s at (annotations_onto notes) (tabs_onto tabs (concept_onto tabs c more)) (notes_front notes) e) in
        tell_append (notes_tell notes parent at (tabs_onto tabs (concept_onto tabs c more)) e)
        (tells {x = named (name_in (concept_sense c))} (refl, concept_named c start tabs more first)
        (tell_append (inside_tell c (next + length notes) start tabs more p.1 first)
        (body_tell inner parent (next + length notes + concept_size c) (start + concept_width tabs c + length (blank_onto end [])) rest p.3
        (past_front s (start + concept_width tabs c) (blank_onto end) (body_onto inner rest) (blank_front end)
        (past_front s start (concept_onto tabs c) more (whole_front _ (concept_ends c tabs)) first)))))

-- ---- a whole sheet

pub entries_tell : (t : Sheet) → sheet_rule t ≡ true → AllTell (sheet_onto t []) (entries t) (senses (meaning t))
unfolding sheet_onto sheet_rule entries senses meaning
entries_tell t r =
    let s = sheet_onto t [] in
    let end = blanks_onto t.after (t.last ++ []) in
    let p = both (all blank_rule t.before && all annotation_rule t.annotations && concept_rule t.root && all blank_rule t.after) (all is_blank t.last) r in
    let q = element_parts (all blank_rule t.before) (all annotation_rule t.annotations) (concept_rule t.root) (all blank_rule t.after) p.0 in
    let c = t.root in
    let line = tabs_onto t.tabs (concept_onto t.tabs c end) in
    let start : length (blanks_onto t.before []) ≡ 0 + length (blanks_onto t.before []) = omega arith in
    let notes = ap (λ (n : ℕ). drop n s) start ∙ past_front s 0 (blanks_onto t.before) (annotations_onto t.annotations line) (blanks_front t.before) refl in
    let first =
    past_tabs s t.tabs _ (concept_onto t.tabs c end)
    (past_front s (length (blanks_onto t.before [])) (annotations_onto t.annotations) line (notes_front t.annotations) notes) in
    tell_append (notes_tell s t.annotations no_parent (length (blanks_onto t.before [])) line notes)
    (tells {x = named (name_in (concept_sense c))} (refl, concept_named s c (root_start t) t.tabs end first)
    (inside_tell s c (length t.annotations) (root_start t) t.tabs end q.2 first))
