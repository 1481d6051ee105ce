-- Reading a sheet: for every table, sheet and number of cells lent, the answer and every cell at exit.
-- Document 01, "Refusal numbers" and "Order"; the fault met first from left to right.
use Rattle.std.specs.Prelude.{ℕ, zero, suc, ◌+◌, ◌-◌, ◌/◌, min, Bool, true, false, ◌&&◌, List, [], ◌∷◌, ◌++◌, map, length, drop, get_or, replicate, leb, ltb, eqb}
use Rattle.paper.specs.declared.Mode.TheVariants.{Children, Absent}
use Rattle.paper.specs.Answer.{accepted, refused}
use Rattle.paper.specs.declared.Told.{Told}
use Rattle.paper.specs.Found.{Found, found, fault, and_then, Turn, over, stop, turn_of, run_of, many_of, place_in}
use Rattle.paper.specs.Bytes.{byte, bytes, is_upper, is_lower, is_blank, is_white, is_line_end, length_in, front, behind, elem, same, starts_in, starts_with, sheet_bytes, lf}
use Rattle.paper.specs.Bytes.{cr, tab, space, is, up_to, onward}
use Rattle.paper.specs.Names.{name_limit, run, past_run, is_name, among}
use Rattle.paper.specs.Modes.{Modes, mode_table}
use Rattle.paper.specs.Tree.{LF, CRLF, Blank, Trait, Marker, Annotation, Line, blank, text, Concept, self_closed, children, content, Body, done, Annotated}
use Rattle.paper.specs.Tree.{BodyPiece, blank_piece, element_piece, before, Sheet, Ending, block, self}
use Rattle.paper.specs.Grammar.{tabs_onto, closing_onto, in_mode}
use Rattle.paper.specs.Limits.{sheet_limit, entry_limit, concept_limit, bracket_limit}
use Rattle.paper.specs.Entries.{entry_cells, item_entries, trait_size, traits_size, body_size, entries, filled}
use Rattle.paper.specs.ReadingValues.{value_of}

-- how long names and how deep brackets may be
pub record Bounds : Type 0 where
  pub names : ℕ
  pub brackets : ℕ

-- the paper's own limits
abbrev pub bounds : Bounds
bounds = record { names = name_limit; brackets = bracket_limit }

-- ---- lines

-- a line end with these blanks in front of it; a byte that is none is at fault
unfoldable pub line_end : List ℕ → List ℕ → Found Blank
line_end blanks [] = fault 9 []
line_end blanks (b ∷ l) =
    elim (eqb b lf) [
      | true ↦ found (record { blanks = blanks; end = LF }) l
      | false ↦ elim (starts_with (cr ∷ lf ∷ []) (b ∷ l)) [ true ↦ found (record { blanks = blanks; end = CRLF }) (drop 1 l) | false ↦ fault 7 (b ∷ l) ]
    ]

-- the blank rest of a line
abbrev pub line_rest : List ℕ → Found Blank
line_rest s = line_end (front is_blank s) (behind is_blank s)

-- a whole line of blanks stands in front
abbrev pub is_blank_line : List ℕ → Bool
is_blank_line s = starts_in is_line_end (behind is_blank s)

unfoldable pub blank_turn : ℕ → List ℕ → Turn Blank
blank_turn room s = elim (is_blank_line s) [ true ↦ turn_of (line_rest s) | false ↦ over s ]

abbrev pub blank_lines : List ℕ → Found (List Blank)
blank_lines s = many_of (λ b. 0) blank_turn 0 s

abbrev pub is_tab : ℕ → Bool
is_tab = is tab

-- the tabs of a line on which a marker or an annotation is due, and a blank line may stand too: a space could only have begun a blank line
unfoldable pub no_space : List ℕ → List ℕ → Found ℕ
no_space s [] = fault 9 []
no_space s (b ∷ l) = elim (starts_in (is space) (behind is_tab s)) [ true ↦ fault 7 (b ∷ l) | false ↦ found (length_in is_tab s) (behind is_tab s) ]

abbrev pub tabs_only : List ℕ → Found ℕ
tabs_only s = no_space s (behind is_blank s)

-- ---- names

-- the run of letters and digits, judged at its end: cut, empty, against the rule
unfoldable pub name_of : (List ℕ → Bool) → List ℕ → List ℕ → Found (List ℕ)
name_of rule s [] = fault 9 []
name_of rule s (b ∷ l) = elim (leb 1 (length (run s))) [ false ↦ fault 7 s | true ↦ elim (rule (run s)) [ false ↦ fault 4 s | true ↦ found (run s) (b ∷ l) ] ]

abbrev pub name : (List ℕ → Bool) → List ℕ → Found (List ℕ)
name rule s = name_of rule s (past_run s)

-- the byte is due
unfoldable pub due : ℕ → List ℕ → Found ℕ
due c [] = fault 9 []
due c (b ∷ l) = elim (eqb b c) [ true ↦ found b l | false ↦ fault 7 (b ∷ l) ]

-- an entry is made; `at` is the list from its place on
unfoldable pub makes : {A : Type 0} → ℕ → List ℕ → A → List ℕ → Found A
makes room at a left = elim room [ zero ↦ fault 11 at | suc others ↦ found a left ]

-- ---- annotations

-- the text up to the first unescaped "]"
unfoldable mutual
  pub text_of : List ℕ → Found (List ℕ)
  text_of [] = fault 9 []
  text_of (b ∷ l) =
      elim (eqb b (byte "]")) [
        | true ↦ found [] l
        | false ↦ elim (eqb b (byte "\\")) [
          | true ↦ escape_of (b ∷ l) l
          | false ↦ elim (is_line_end b) [ true ↦ fault 7 (b ∷ l) | false ↦ and_then (text_of l) (λ t left. found (b ∷ t) left) ]
        ]
      ]

  pub escape_of : List ℕ → List ℕ → Found (List ℕ)
  escape_of back [] = fault 9 []
  escape_of back (b ∷ l) = elim (elem b (bytes "]\\")) [ true ↦ and_then (text_of l) (λ t left. found (byte "\\" ∷ b ∷ t) left) | false ↦ fault 7 back ]

-- an annotation whose "[" stood before s
unfoldable pub annotation : ℕ → ℕ → List ℕ → Found Annotation
annotation room tabs s =
    and_then (text_of s) (λ t left. and_then (makes room s t left) (λ t left. and_then (line_rest left) (λ rest end. found (record {
      tabs = tabs;
      text = t;
      rest = rest;
    }) end)))

unfoldable pub annotation_turn : ℕ → List ℕ → Turn Annotation
annotation_turn room s =
    elim (starts_with (bytes "[") (behind is_tab s)) [ true ↦ turn_of (annotation room (length_in is_tab s) (drop 1 (behind is_tab s))) | false ↦ over s ]

abbrev pub annotations : ℕ → List ℕ → Found (List Annotation)
annotations room s = many_of (λ a. 1) annotation_turn room s

-- ---- markers

-- the entries of a trait: its own at its name, its items' each at its key, or at its value where it has none
unfoldable pub enters : ℕ → List ℕ → List ℕ → Trait → List ℕ → Found Trait
enters room named valued t left =
    elim (leb (trait_size t) room) [
      | true ↦ found t left
      | false ↦ elim room [ zero ↦ fault 11 named | suc items ↦ fault 11 (drop (get_or (map (λ e. e.name_start) (item_entries 0 0 0 t.value)) items 0) valued) ]
    ]

-- what the traits of a marker leave for those behind them: their names, none of which may stand again, and the room
pub record Earlier : Type 0 where
  pub names : List (List ℕ)
  pub room : ℕ

abbrev pub with_trait : Earlier → Trait → Earlier
with_trait earlier t = record { names = earlier.names ++ (t.name ∷ []); room = earlier.room - trait_size t }

-- the name w is none of these; `at` is the list from it on
unfoldable pub fresh : List (List ℕ) → List ℕ → List ℕ → List ℕ → Found (List ℕ)
fresh names at w left = elim (among names w) [ true ↦ fault 18 at | false ↦ found w left ]

-- the name of a trait, judged by the rule and against the earlier ones
abbrev pub trait_name : Bounds → List (List ℕ) → List ℕ → Found (List ℕ)
trait_name by names s = and_then (name (is_name is_lower by.names) s) (fresh names s)

unfoldable pub trait : Bounds → Earlier → List ℕ → List ℕ → Found Trait
trait by earlier white s =
    and_then (trait_name by earlier.names s) (λ w left. and_then (due (byte "=") left) (λ b valued. and_then (value_of by.brackets [] valued) (λ v left.
    enters earlier.room s valued (record { white = white; name = w; value = v }) left)))

-- behind the name or a value: another trait after white space, or the end of the marker
unfoldable pub trait_due : Bounds → Earlier → List ℕ → List ℕ → List ℕ → Turn Trait
trait_due by earlier s white [] = stop 9 []
trait_due by earlier s white (b ∷ l) =
    elim (elem b (bytes ">/")) [ true ↦ over s | false ↦ elim (leb 1 (length white)) [ true ↦ turn_of (trait by earlier white (b ∷ l)) | false ↦ stop 7 (b ∷ l) ] ]

unfoldable pub trait_turn : Bounds → Earlier → List ℕ → Turn Trait
trait_turn by earlier s = trait_due by earlier s (front is_white s) (behind is_white s)

-- traits behind these earlier ones
abbrev pub traits_behind : Bounds → Earlier → List ℕ → Found (List Trait)
traits_behind by earlier s = run_of with_trait (trait_turn by) earlier s

-- the first trait of a marker has none before it
abbrev pub no_trait : ℕ → Earlier
no_trait room = record { names = []; room = room }

-- how a marker ends
unfoldable pub ending : List ℕ → Found Ending
ending [] = fault 9 []
ending (b ∷ l) =
    elim (eqb b (byte ">")) [ true ↦ found block l | false ↦ and_then (due (byte "/") (b ∷ l)) (λ c left. and_then (due (byte ">") left) (λ d end. found self end)) ]

pub record Opened : Type 0 where
  pub marker : Marker
  pub ends : Ending

-- traits, white space and the ending of a marker of this name
unfoldable pub opened : Bounds → ℕ → List ℕ → List ℕ → Found Opened
opened by room w s =
    and_then (traits_behind by (no_trait room) s) (λ ts left. and_then (ending (behind is_white left)) (λ e end.
    found (record { marker = record { name = w; traits = ts; white = front is_white left }; ends = e }) end))

-- a Concept's name is judged in this order: the rule, the nesting, the table, the room. s is the list from its "<" on
unfoldable pub admitted : Modes → ℕ → ℕ → List ℕ → List ℕ → List ℕ → Found (List ℕ)
admitted m deeper room s w left =
    elim deeper [
      | zero ↦ fault 10 s
      | suc fewer ↦ elim (in_mode Absent m w) [ true ↦ fault 5 (drop 1 s) | false ↦ makes room (drop 1 s) w left ]
    ]

-- "<" and the name; what stands behind a name; and the whole opening marker
abbrev pub head : Bounds → List ℕ → Found (List ℕ)
head by s = and_then (due (byte "<") s) (λ b named. name (is_name is_upper by.names) named)

abbrev pub named : Modes → Bounds → ℕ → ℕ → List ℕ → List ℕ → List ℕ → Found Opened
named m by deeper room s w left = and_then (admitted m deeper room s w left) (opened by (room - 1))

abbrev pub opening : Modes → Bounds → ℕ → ℕ → List ℕ → Found Opened
opening m by deeper room s = and_then (head by s) (named m by deeper room s)

-- a closing marker behind its tabs: a closing name is only compared
unfoldable pub closing : List ℕ → List ℕ → Found ℕ
closing w s =
    and_then (due (byte "<") s) (λ b left. and_then (due (byte "/") left) (λ c named. and_then (name (λ v. true) named) (λ v left.
    elim (same w v) [ true ↦ due (byte ">") left | false ↦ fault 8 named ])))

-- ---- Content

-- the input or the line is over
unfoldable pub at_line_end : List ℕ → Bool
at_line_end [] = true
at_line_end (b ∷ l) = is_line_end b

-- a closing line: exactly these tabs, the closing marker and blanks
abbrev pub closing_mark : ℕ → List ℕ → List ℕ
closing_mark tabs w = tabs_onto tabs (closing_onto w [])

unfoldable pub closes_line : ℕ → List ℕ → List ℕ → Bool
closes_line tabs w s = starts_with (closing_mark tabs w) s && at_line_end (behind is_blank (drop (length (closing_mark tabs w)) s))

-- a line of text, the rest of which stands behind its tabs
unfoldable pub text_line : List ℕ → Found Line
text_line s = and_then (line_end [] (onward is_line_end s)) (λ b left. found (text (up_to is_line_end s) b.end) left)

-- a line that is not blank and does not close; `marked` is the list from its first byte on that is neither space nor tab
unfoldable pub other_line : ℕ → List ℕ → List ℕ → Turn Line
other_line tabs s [] = stop 9 []
other_line tabs s (b ∷ l) = elim (starts_with (tabs_onto (suc tabs) []) s) [ true ↦ turn_of (text_line (drop (suc tabs) s)) | false ↦ stop 7 (b ∷ l) ]

unfoldable pub line_turn : ℕ → List ℕ → ℕ → List ℕ → Turn Line
line_turn tabs w room s =
    elim (closes_line tabs w s) [
      | true ↦ over s
      | false ↦ elim (is_blank_line s) [ true ↦ turn_of (and_then (line_rest s) (λ b left. found (blank b) left)) | false ↦ other_line tabs s (behind is_blank s) ]
    ]

-- the Content of a block whose marker has these tabs, its one entry made first, and its closing marker
unfoldable pub content_of : ℕ → ℕ → Marker → List ℕ → Found Concept
content_of tabs room k s =
    and_then (line_rest s) (λ rest start. and_then (makes room start rest start) (λ rest start.
    and_then (many_of (λ l. 0) (line_turn tabs k.name) 0 start) (λ lines left.
    found (content k rest lines) (drop (length (closing_mark tabs k.name)) left))))

-- ---- Concepts

-- what an opening marker leaves of the room
abbrev pub room_in : ℕ → Opened → ℕ
room_in room o = room - 1 - traits_size o.marker.traits

-- what follows an opening marker: nothing, children if its name is in children mode, or else Content
abbrev pub inside_by : Modes → (ℕ → ℕ → Marker → List ℕ → Found Concept) → ℕ → ℕ → ℕ → Opened → List ℕ → Found Concept
inside_by m inner deeper room tabs o left =
    elim o.ends [
      | self ↦ found (self_closed o.marker) left
      | block ↦ elim (in_mode Children m o.marker.name) [
        | true ↦ inner (deeper - 1) (room_in room o) o.marker left
        | false ↦ content_of tabs (room_in room o) o.marker left
      ]
    ]

-- annotations and their Concept, by how a Concept is read in a room on a line of so many tabs
abbrev pub annotated_by : (ℕ → ℕ → List ℕ → Found Concept) → ℕ → List ℕ → Found Annotated
annotated_by read room s =
    and_then (annotations room s) (λ notes line.
    and_then (read (room - length notes) (length_in is_tab line) (behind is_tab line)) (λ c left.
    found (record { notes = notes; tabs = length_in is_tab line; concept = c }) left))

-- a blank line, or a Concept with its annotations and the rest of its line
abbrev pub piece_by : (ℕ → ℕ → List ℕ → Found Concept) → ℕ → List ℕ → Found BodyPiece
piece_by read room s =
    elim (is_blank_line s) [
      | true ↦ and_then (line_rest s) (λ b left. found (blank_piece b) left)
      | false ↦ and_then (tabs_only s) (λ tabs mark. and_then (annotated_by read room s) (λ a left.
          and_then (line_rest left) (λ rest end. found (element_piece a rest) end)))
    ]

-- the line of a closing marker
abbrev pub is_closing : List ℕ → Bool
is_closing s = starts_with (bytes "</") (behind is_tab s)

-- a Concept whose "<" is due, on a line of so many tabs, where so many may still be opened; the children of one with its closing marker;
-- and the pieces of its body. Only these and what reads a whole sheet ask for modes. The fuel is above the length
unfoldable mutual
  pub concept : Modes → Bounds → ℕ → ℕ → ℕ → ℕ → List ℕ → Found Concept
  concept m by zero deeper room tabs s = fault 9 s
  concept m by (suc fuel) deeper room tabs s =
      and_then (opening m by deeper room s) (inside_by m (λ deeper room k left. children_of m by fuel deeper room k left) deeper room tabs)

  pub children_of : Modes → Bounds → ℕ → ℕ → ℕ → Marker → List ℕ → Found Concept
  children_of m by zero deeper room k s = fault 9 s
  children_of m by (suc fuel) deeper room k s =
      and_then (line_rest s) (λ rest start. and_then (body m by fuel deeper room start) (λ inner left.
      and_then (closing k.name (behind is_tab left)) (λ b end. found (children k rest inner (length_in is_tab left)) end)))

  pub body : Modes → Bounds → ℕ → ℕ → ℕ → List ℕ → Found Body
  body m by zero deeper room s = fault 9 s
  body m by (suc fuel) deeper room s =
      elim (is_closing s) [
        | true ↦ found done s
        | false ↦ and_then (piece_by (λ room tabs line. concept m by fuel deeper room tabs line) room s) (λ p left.
            and_then (body m by fuel deeper (room - body_size (before p done)) left) (λ inner end. found (before p inner) end))
      ]

-- the same with fuel that is enough
abbrev pub concept_of : Modes → Bounds → ℕ → ℕ → ℕ → List ℕ → Found Concept
concept_of m by deeper room tabs s = concept m by (length s + 1) deeper room tabs s

abbrev pub block_of : Modes → Bounds → ℕ → ℕ → Marker → List ℕ → Found Concept
block_of m by deeper room k s = children_of m by (length s + 3) deeper room k s

abbrev pub body_of : Modes → Bounds → ℕ → ℕ → List ℕ → Found Body
body_of m by deeper room s = body m by (length s + 2) deeper room s

abbrev pub annotated_of : Modes → Bounds → ℕ → ℕ → List ℕ → Found Annotated
annotated_of m by deeper room s = annotated_by (concept_of m by deeper) room s

abbrev pub piece_of : Modes → Bounds → ℕ → ℕ → List ℕ → Found BodyPiece
piece_of m by deeper room s = piece_by (concept_of m by deeper) room s

-- ---- a whole sheet

-- behind the root only blank lines stand, the last of which the end of input may cut
unfoldable pub last_blanks : List ℕ → List ℕ → Found (List ℕ)
last_blanks blanks [] = found blanks []
last_blanks blanks (b ∷ l) = fault 7 (b ∷ l)

unfoldable pub sheet_tree : Modes → Bounds → ℕ → ℕ → List ℕ → Found Sheet
sheet_tree m by deeper room s =
    and_then (blank_lines s) (λ before first. and_then (tabs_only first) (λ tabs mark. and_then (annotated_of m by deeper room first) (λ a left.
    and_then (blank_lines left) (λ after left. and_then (last_blanks (front is_blank left) (behind is_blank left)) (λ last end.
    found (record { before = before; annotations = a.notes; tabs = a.tabs; root = a.concept; after = after; last = last }) end)))))

-- the room of so many cells, in entries
abbrev pub room_of : ℕ → ℕ
room_of lent = min (lent / entry_cells) entry_limit

-- the faults of a sheet under a valid table, in the paper's order: 2, 3, then 4 to 11 and 18
unfoldable pub sheet_of : Modes → ℕ → List ℕ → Found Sheet
sheet_of m room s =
    elim (ltb sheet_limit (length s)) [
      | true ↦ fault 2 (drop sheet_limit s)
      | false ↦ and_then (sheet_bytes s) (λ vs left. sheet_tree m bounds concept_limit room s)
    ]

-- the answer, and every lent cell at exit: a refusal leaves all of them zero
pub record Reading : Type 0 where
  pub answer : Told
  pub cells : List ℕ

abbrev pub refusal : ℕ → ℕ → ℕ → Reading
refusal lent n at = record { answer = refused n at; cells = replicate lent 0 }

unfoldable pub reading : List ℕ → List ℕ → ℕ → Reading
reading table s lent =
    elim (mode_table table) [
      | fault n left ↦ refusal lent n (place_in table left)
      | found m left ↦ elim (sheet_of m (room_of lent) s) [
        | fault n left ↦ refusal lent n (place_in s left)
        | found t left ↦ record { answer = accepted (length s) (length (entries t)); cells = filled lent (entries t) }
      ]
    ]
