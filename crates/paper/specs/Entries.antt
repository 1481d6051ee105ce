-- The entries of a tree: eight cells each, in the paper's order, with offsets from the bytes that it covers.
-- Document 01, "Entries"; document 02, Five.
use Rattle.std.specs.Prelude.{ℕ, suc, ◌+◌, ◌-◌, ◌*◌, List, [], ◌∷◌, ◌++◌, length, replicate}
use Rattle.paper.specs.Values.{opener, key_onto, Label, no_label, label, label_onto, Value, leaf, empty_bracket, bracket, More, close, comma, spelling, value_form}
use Rattle.paper.specs.Tree.{Blank, Trait, Marker, Annotation, Concept, self_closed, children, content, Body, done, blank_line, element, Sheet}
use Rattle.paper.specs.Grammar.{blank_onto, blanks_onto, annotation_onto, annotations_onto, trait_onto, marker_onto, lines_onto, concept_onto}

pub record Entry : Type 0 where
  pub kind : ℕ
  pub form : ℕ
  pub parent : ℕ
  pub count : ℕ
  pub name_start : ℕ
  pub name_end : ℕ
  pub start : ℕ
  pub end : ℕ

abbrev pub entry_cells : ℕ
entry_cells = 8

abbrev pub cells_of : Entry → List ℕ
cells_of e = e.kind ∷ e.form ∷ e.parent ∷ e.count ∷ e.name_start ∷ e.name_end ∷ e.start ∷ e.end ∷ []

unfoldable pub all_cells : List Entry → List ℕ
all_cells [] = []
all_cells (e ∷ es) = cells_of e ++ all_cells es

-- the parent of what stands at the top
abbrev pub no_parent : ℕ
no_parent = 4294967295

-- an entry without a name: both name cells equal the span's start
abbrev pub unnamed : ℕ → ℕ → ℕ → ℕ → ℕ → ℕ → Entry
unnamed kind form parent count start end =
    record { kind = kind; form = form; parent = parent; count = count; name_start = start; name_end = start; start = start; end = end }

-- ---- items

-- how many items a value has, and how many stand in it at any depth
unfoldable mutual
  pub items_of : Value → ℕ
  items_of (leaf v) = 0
  items_of (empty_bracket k) = 0
  items_of (bracket k a v more) = suc (more_items more)

  pub more_items : More → ℕ
  more_items close = 0
  more_items (comma white a v more) = suc (more_items more)

unfoldable mutual
  pub item_size : Value → ℕ
  item_size (leaf v) = 0
  item_size (empty_bracket k) = 0
  item_size (bracket k a v more) = suc (item_size v) + more_size more

  pub more_size : More → ℕ
  more_size close = 0
  more_size (comma white a v more) = suc (item_size v) + more_size more

abbrev pub value_width : Value → ℕ
value_width v = length (spelling v)

-- how many bytes a key takes, and a key with its colon and white space; none where there is no label
abbrev pub key_width : Label → ℕ
key_width no_label = 0
key_width (label key white) = length (key_onto key [])

abbrev pub label_width : Label → ℕ
label_width a = length (label_onto a [])

-- the entry of an item whose label starts at `at`: a map's item has its key as its name, any other has none
abbrev pub item_entry : ℕ → ℕ → Label → Value → Entry
item_entry parent at a v =
    record {
      kind = 3;
      form = value_form v;
      parent = parent;
      count = items_of v;
      name_start = at;
      name_end = at + key_width a;
      start = at + label_width a;
      end = at + label_width a + value_width v;
    }

-- the items in a value that starts at `at`: those of entry `parent`, numbered from `next` on, depth first
unfoldable mutual
  pub item_entries : ℕ → ℕ → ℕ → Value → List Entry
  item_entries parent next at (leaf v) = []
  item_entries parent next at (empty_bracket k) = []
  item_entries parent next at (bracket k a v more) =
      item_entry parent (at + length (opener k)) a v
      ∷ (item_entries next (next + 1) (at + length (opener k) + label_width a) v
      ++ more_entries parent (next + 1 + item_size v) (at + length (opener k) + label_width a + value_width v) more)

  pub more_entries : ℕ → ℕ → ℕ → More → List Entry
  more_entries parent next at close = []
  more_entries parent next at (comma white a v more) =
      item_entry parent (at + 1 + length white) a v
      ∷ (item_entries next (next + 1) (at + 1 + length white + label_width a) v
      ++ more_entries parent (next + 1 + item_size v) (at + 1 + length white + label_width a + value_width v) more)

-- ---- traits and annotations

abbrev pub trait_size : Trait → ℕ
trait_size t = suc (item_size t.value)

unfoldable pub traits_size : List Trait → ℕ
traits_size [] = 0
traits_size (t ∷ ts) = trait_size t + traits_size ts

-- where a trait's name, and its value, starts if its white space does at `at`
abbrev pub trait_name : ℕ → Trait → ℕ
trait_name at t = at + length t.white

abbrev pub trait_value : ℕ → Trait → ℕ
trait_value at t = trait_name at t + length t.name + 1

abbrev pub trait_entry : ℕ → ℕ → Trait → Entry
trait_entry parent at t =
    record {
      kind = 2;
      form = value_form t.value;
      parent = parent;
      count = items_of t.value;
      name_start = trait_name at t;
      name_end = trait_name at t + length t.name;
      start = trait_value at t;
      end = trait_value at t + value_width t.value;
    }

-- the traits of entry `parent`, each followed by its items
unfoldable pub trait_entries : ℕ → ℕ → ℕ → List Trait → List Entry
trait_entries parent next at [] = []
trait_entries parent next at (t ∷ ts) =
    trait_entry parent at t
    ∷ (item_entries next (next + 1) (trait_value at t) t.value ++ trait_entries parent (next + trait_size t) (at + length (trait_onto t [])) ts)

-- an annotation's text between its brackets
unfoldable pub annotation_entries : ℕ → ℕ → List Annotation → List Entry
annotation_entries parent at [] = []
annotation_entries parent at (a ∷ notes) =
    unnamed 4 0 parent 0 (at + a.tabs + 1) (at + a.tabs + 1 + length a.text) ∷ annotation_entries parent (at + length (annotation_onto a [])) notes

-- ---- Concepts

unfoldable mutual
  pub concept_size : Concept → ℕ
  concept_size (self_closed k) = suc (traits_size k.traits)
  concept_size (children k rest body back) = suc (traits_size k.traits) + body_size body
  concept_size (content k rest lines) = suc (traits_size k.traits) + 1

  pub body_size : Body → ℕ
  body_size done = 0
  body_size (blank_line b body) = body_size body
  body_size (element notes tabs c rest body) = length notes + concept_size c + body_size body

-- how many entries of a body name its Concept as parent
unfoldable pub body_count : Body → ℕ
body_count done = 0
body_count (blank_line b body) = body_count body
body_count (element notes tabs c rest body) = length notes + 1 + body_count body

abbrev pub concept_count : Concept → ℕ
concept_count (self_closed k) = length k.traits
concept_count (children k rest body back) = length k.traits + body_count body
concept_count (content k rest lines) = length k.traits + 1

abbrev pub marker_of : Concept → Marker
marker_of (self_closed k) = k
marker_of (children k rest body back) = k
marker_of (content k rest lines) = k

abbrev pub concept_form : Concept → ℕ
concept_form (self_closed k) = 1
concept_form (children k rest body back) = 2
concept_form (content k rest lines) = 3

abbrev pub concept_width : ℕ → Concept → ℕ
concept_width tabs c = length (concept_onto tabs c [])

-- where a Concept's traits start if its "<" stands at `at`
abbrev pub marker_name : ℕ → Marker → ℕ
marker_name at k = at + 1 + length k.name

abbrev pub concept_entry : ℕ → ℕ → ℕ → Concept → Entry
concept_entry parent at tabs c =
    record {
      kind = 1;
      form = concept_form c;
      parent = parent;
      count = concept_count c;
      name_start = at + 1;
      name_end = marker_name at (marker_of c);
      start = at;
      end = at + concept_width tabs c;
    }

-- where the line behind an opening marker, its ">" and the rest of its line starts
abbrev pub body_start : ℕ → Marker → Blank → ℕ
body_start at k rest = at + length (marker_onto k []) + 1 + length (blank_onto rest [])

-- what follows the entry `own` of a Concept whose "<" stands at `at`, on a line of so many tabs
unfoldable mutual
  pub inside_entries : ℕ → ℕ → ℕ → Concept → List Entry
  inside_entries own at tabs (self_closed k) = trait_entries own (own + 1) (marker_name at k) k.traits
  inside_entries own at tabs (children k rest body back) =
      trait_entries own (own + 1) (marker_name at k) k.traits ++ body_entries own (own + 1 + traits_size k.traits) (body_start at k rest) body
  inside_entries own at tabs (content k rest lines) =
      trait_entries own (own + 1) (marker_name at k) k.traits
      ++ (unnamed 5 0 own 0 (body_start at k rest) (body_start at k rest + length (lines_onto tabs lines [])) ∷ [])

  pub body_entries : ℕ → ℕ → ℕ → Body → List Entry
  body_entries parent next at done = []
  body_entries parent next at (blank_line b body) = body_entries parent next (at + length (blank_onto b [])) body
  body_entries parent next at (element notes tabs c rest body) =
      annotation_entries parent at notes
      ++ (concept_entry parent (at + length (annotations_onto notes []) + tabs) tabs c
      ∷ (inside_entries (next + length notes) (at + length (annotations_onto notes []) + tabs) tabs c
      ++ body_entries parent (next + length notes + concept_size c)
      (at + length (annotations_onto notes []) + tabs + concept_width tabs c + length (blank_onto rest [])) body))

-- ---- a whole sheet

abbrev pub root_start : Sheet → ℕ
root_start t = length (blanks_onto t.before []) + length (annotations_onto t.annotations []) + t.tabs

unfoldable pub sheet_size : Sheet → ℕ
sheet_size t = length t.annotations + concept_size t.root

unfoldable pub entries : Sheet → List Entry
entries t =
    annotation_entries no_parent (length (blanks_onto t.before [])) t.annotations
    ++ (concept_entry no_parent (root_start t) t.tabs t.root ∷ inside_entries (length t.annotations) (root_start t) t.tabs t.root)

-- the lent cells with these entries in front; those after the last one are zero
unfoldable pub filled : ℕ → List Entry → List ℕ
filled lent es = all_cells es ++ replicate (lent - entry_cells * length es) 0
