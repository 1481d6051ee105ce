-- Trees that record a whole derivation: every production that was used and every run of bytes that it covers.
-- Document 01, "The grammar", Lines, Markers, Content and Annotations.
use Rattle.std.specs.Prelude.{ℕ, List}
use Rattle.paper.specs.Values.{Value}

pub data LineEnd : Type 0 where
  LF CRLF : LineEnd

-- the blank rest of a line, or a blank line: spaces and tabs, and the line end
pub record Blank : Type 0 where
  pub blanks : List ℕ
  pub end : LineEnd

-- white space, name, "=", value
pub record Trait : Type 0 where
  pub white : List ℕ
  pub name : List ℕ
  pub value : Value

-- "<", name, traits, white space; how it ends, ">" for a block or "/>", is the Concept's
pub record Marker : Type 0 where
  pub name : List ℕ
  pub traits : List Trait
  pub white : List ℕ

pub data Ending : Type 0 where
  block self : Ending

-- tabs, "[", text, "]" and the rest of the line
pub record Annotation : Type 0 where
  pub tabs : ℕ
  pub text : List ℕ
  pub rest : Blank

-- a line of Content: one of spaces and tabs only, or one more tab than the marker has, and text
pub data Line : Type 0 where
  blank : Blank → Line
  text : List ℕ → LineEnd → Line

mutual
  -- the rest of the opening marker's line, the body, and the tabs of the closing marker, which in Content are the opening one's
  pub data Concept : Type 0 where
    self_closed : Marker → Concept
    children : Marker → Blank → Body → ℕ → Concept
    content : Marker → Blank → List Line → Concept

  -- a children body: blank lines, and elements: annotations, tabs, Concept, the rest of its line
  pub data Body : Type 0 where
    done : Body
    blank_line : Blank → Body → Body
    element : List Annotation → ℕ → Concept → Blank → Body → Body

-- a Concept with its annotations and the tabs of its line
pub record Annotated : Type 0 where
  pub notes : List Annotation
  pub tabs : ℕ
  pub concept : Concept

-- one piece of a children body, in front of the others: a blank line, or an element
pub data BodyPiece : Type 0 where
  blank_piece : Blank → BodyPiece
  element_piece : Annotated → Blank → BodyPiece

abbrev pub before : BodyPiece → Body → Body
before (blank_piece b) body = blank_line b body
before (element_piece a rest) body = element a.notes a.tabs a.concept rest body

-- blank lines, the root's annotations, tabs and Concept, the rest of its line and blank lines, and what the end of input cuts
pub record Sheet : Type 0 where
  pub before : List Blank
  pub annotations : List Annotation
  pub tabs : ℕ
  pub root : Concept
  pub after : List Blank
  pub last : List ℕ
