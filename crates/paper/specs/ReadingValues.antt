-- Reading a value from the front of a list: its tree and what is left, or the fault met first.
-- Document 01, "The grammar", Values, and refusals 9 and 10 of "Refusal numbers" and "Order"; document 02, Two, Four: the place of a 6, and Five.
use Rattle.std.specs.Prelude.{ℕ, zero, suc, ◌-◌, true, false, ◌&&◌, List, [], ◌∷◌, map, length, take, drop, leb, eqb}
use Rattle.std.proofs.Math.Option.{none, some}
use Rattle.paper.specs.Found.{Found, found, fault, and_then, Turn, more, over, stop, turn_of, many_of, pick}
use Rattle.paper.specs.Bytes.{byte, bytes, is_hex, is_white, is_line_end, elem, length_in, front, behind, starts_with, is, up_to, onward, scalar, encode}
use Rattle.paper.specs.Times.{time_kind}
use Rattle.paper.specs.declared.brackets.Bracket.{Bracket}
use Rattle.paper.specs.Values.{Piece, direct, escaped, four, braces, piece_rule, word_form, ends_word, Leaf, string, character, backtick, word, temporal}
use Rattle.paper.specs.Values.{opener, closer, may_be_empty, keyed, enders, key_enders, Key, bare_key, leaf_key, is_bare, is_key_form, Label, no_label, label}
use Rattle.paper.specs.Values.{Value, leaf, empty_bracket, bracket, More, close, comma}

-- ---- strings, characters and backticks

-- a piece that is spelt out, if it keeps the rule between these quotes; else the fault is at its backslash
unfoldable pub judged : ℕ → List ℕ → Piece → List ℕ → Found Piece
judged quote back p left = elim (piece_rule quote p) [ true ↦ found p left | false ↦ fault 6 back ]

-- four hex digits, judged at the fourth
unfoldable pub four_digits : ℕ → List ℕ → List ℕ → Found Piece
four_digits quote back s =
    elim (leb 4 (length_in is_hex s)) [
      | true ↦ judged quote back (four (take 4 s)) (drop 4 s)
      | false ↦ elim (behind is_hex s) [ [] ↦ fault 9 [] | b ∷ l ↦ fault 6 back ]
    ]

-- up to six hex digits and "}", judged there or at the first byte that cannot stand
unfoldable pub braced_digits : ℕ → List ℕ → List ℕ → Found Piece
braced_digits quote back s =
    elim (leb 7 (length_in is_hex s)) [
      | true ↦ fault 6 back
      | false ↦ elim (behind is_hex s) [
        | [] ↦ fault 9 []
        | b ∷ l ↦ elim (eqb b (byte "}")) [ true ↦ judged quote back (braces (front is_hex s)) l | false ↦ fault 6 back ]
      ]
    ]

-- what follows a backslash; `back` is the list from the backslash on
unfoldable pub escape : ℕ → List ℕ → List ℕ → Found Piece
escape quote back [] = fault 9 []
escape quote back (b ∷ l) =
    elim (eqb b (byte "u")) [
      | true ↦ elim (starts_with (bytes "{") l) [ true ↦ braced_digits quote back (drop 1 l) | false ↦ four_digits quote back l ]
      | false ↦ judged quote back (escaped b) l
    ]

-- what a byte is between two quotes
pub data Inside : Type 0 where
  closes escapes breaks itself : Inside

unfoldable pub inside_of : ℕ → ℕ → Inside
inside_of quote b = pick (eqb b quote) closes (pick (eqb b (byte "\\")) escapes (pick (is_line_end b) breaks itself))

-- one piece of a string, or the closing quote
unfoldable pub piece_turn : ℕ → List ℕ → Turn Piece
piece_turn room [] = stop 9 []
piece_turn room (b ∷ l) =
    elim (inside_of (byte "\"") b) [
      | closes ↦ over l
      | escapes ↦ turn_of (escape (byte "\"") (b ∷ l) l)
      | breaks ↦ stop 6 (b ∷ l)
      | itself ↦ more (direct b) l
    ]

-- the closing quote of a character
unfoldable pub close_character : List Piece → List ℕ → Found Leaf
close_character ps [] = fault 9 []
close_character ps (b ∷ l) = elim (eqb b (byte "'")) [ true ↦ found (character ps) l | false ↦ fault 6 (b ∷ l) ]

-- one scalar value or one escape, and the closing quote
unfoldable pub character_of : List ℕ → Found Leaf
character_of [] = fault 9 []
character_of (b ∷ l) =
    elim (inside_of (byte "'") b) [
      | closes ↦ fault 6 (b ∷ l)
      | escapes ↦ and_then (escape (byte "'") (b ∷ l) l) (λ p left. close_character (p ∷ []) left)
      | breaks ↦ fault 6 (b ∷ l)
      | itself ↦ elim (scalar (b ∷ l)) [ found v left ↦ close_character (map direct (encode v)) left | fault n left ↦ fault 6 (b ∷ l) ]
    ]

-- one piece between backticks, or the closing one
unfoldable pub backtick_turn : ℕ → List ℕ → Turn Piece
backtick_turn room [] = stop 9 []
backtick_turn room (b ∷ l) =
    elim (eqb b (byte "`")) [
      | true ↦ over l
      | false ↦ elim (starts_with (bytes "\\`") (b ∷ l)) [ true ↦ more (escaped (byte "`")) (drop 1 l) | false ↦ more (direct b) l ]
    ]

-- ---- words

unfoldable pub word_length : List ℕ → List ℕ → ℕ
word_length also [] = 0
word_length also (b ∷ l) = elim (ends_word also (b ∷ l)) [ true ↦ 0 | false ↦ suc (word_length also l) ]

-- a word that the end of input cuts is judged as cut, any other by its kind
unfoldable pub word_of : List ℕ → List ℕ → List ℕ → Found Leaf
word_of s w [] = fault 9 []
word_of s w (b ∷ l) = elim (eqb (word_form w) 0) [ true ↦ fault 6 s | false ↦ found (word (word_form w) w) (b ∷ l) ]

abbrev pub word_leaf : List ℕ → List ℕ → Found Leaf
word_leaf also s = word_of s (take (word_length also s) s) (drop (word_length also s) s)

-- ---- times

-- what stands behind the brace, in front of the first "}" and from it on: cut without one, and else judged by its kind
unfoldable pub temporal_of : List ℕ → List ℕ → List ℕ → Found Leaf
temporal_of s w [] = fault 9 []
temporal_of s w (b ∷ l) = elim (time_kind w) [ none ↦ fault 6 s | some kind ↦ found (temporal kind w) l ]

abbrev pub temporal_leaf : List ℕ → List ℕ → Found Leaf
temporal_leaf s l = temporal_of s (up_to (is (byte "}")) l) (onward (is (byte "}")) l)

-- ---- all values, by their first byte

pub data First : Type 0 where
  quote apostrophe tick brace other : First

unfoldable pub first_of : ℕ → First
first_of b =
    pick (eqb b (byte "\"")) quote
    (pick (eqb b (byte "'")) apostrophe
    (pick (eqb b (byte "`")) tick
    (pick (eqb b (byte "{")) brace other)))

-- a value that holds no items
unfoldable pub leaf_of : List ℕ → List ℕ → Found Leaf
leaf_of also [] = fault 9 []
leaf_of also (b ∷ l) =
    elim (first_of b) [
      | quote ↦ and_then (many_of (λ p. 0) piece_turn 0 l) (λ ps left. found (string ps) left)
      | apostrophe ↦ character_of l
      | tick ↦ and_then (many_of (λ p. 0) backtick_turn 0 l) (λ ps left. found (backtick ps) left)
      | brace ↦ temporal_leaf (b ∷ l) l
      | other ↦ word_leaf also (b ∷ l)
    ]

-- ---- brackets

-- the bracket that a value begins with
pub data Opening : Type 0 where
  no_bracket : Opening
  opens : Bracket → Opening

unfoldable pub opens_with : List ℕ → Opening
opens_with s =
    pick (starts_with (opener Bracket.List) s) (opens Bracket.List)
    (pick (starts_with (opener Bracket.Set) s) (opens Bracket.Set)
    (pick (starts_with (opener Bracket.Map) s) (opens Bracket.Map)
    (pick (starts_with (opener Bracket.Tuple) s) (opens Bracket.Tuple) no_bracket)))

-- what stands behind it
abbrev pub inside : Bracket → List ℕ → List ℕ
inside k s = drop (length (opener k)) s

-- a key that is a word, which the end of input cuts, or which is judged by what it may be
unfoldable pub key_word : List ℕ → List ℕ → List ℕ → Found Key
key_word s w [] = fault 9 []
key_word s w (b ∷ l) =
    elim (is_bare w) [
      | true ↦ found (bare_key w) (b ∷ l)
      | false ↦ elim (is_key_form (word_form w)) [ true ↦ found (leaf_key (word (word_form w) w)) (b ∷ l) | false ↦ fault 6 s ]
    ]

-- a 6 is told at the start
abbrev pub at_start : {A : Type 0} → List ℕ → Found A → Found A
at_start s (found a left) = found a left
at_start s (fault n left) = fault n (pick (eqb n 6) s left)

-- a key: a string or a character by its quote, else a word up to these bytes. A bad one is at its start, whatever its fault
unfoldable pub key_of : List ℕ → List ℕ → Found Key
key_of also [] = fault 9 []
key_of also (b ∷ l) =
    elim (elem b (bytes "\"'")) [
      | true ↦ at_start (b ∷ l) (and_then (leaf_of also (b ∷ l)) (λ v left. found (leaf_key v) left))
      | false ↦ key_word (b ∷ l) (take (word_length also (b ∷ l)) (b ∷ l)) (drop (word_length also (b ∷ l)) (b ∷ l))
    ]

-- the colon behind a key, and white space
unfoldable pub colon : Key → List ℕ → Found Label
colon key [] = fault 9 []
colon key (b ∷ l) = elim (eqb b (byte ":")) [ true ↦ found (label key (front is_white l)) (behind is_white l) | false ↦ fault 6 (b ∷ l) ]

-- what stands before an item
unfoldable pub label_of : Bracket → List ℕ → Found Label
label_of k s = elim (keyed k) [ false ↦ found no_label s | true ↦ and_then (key_of (key_enders k) s) colon ]

-- a value where so many brackets are still allowed; a fault of an item is that of its bracket, place and all. The fuel is above the length.
-- A tuple is read as if it held an item, so that an empty one is at fault where its first item is due
unfoldable mutual
  pub value : ℕ → ℕ → List ℕ → List ℕ → Found Value
  value zero brackets also s = fault 9 s
  value (suc fuel) brackets also s =
      elim (opens_with s) [
        | no_bracket ↦ and_then (leaf_of also s) (λ v left. found (leaf v) left)
        | opens k ↦ elim brackets [
          | zero ↦ fault 10 (drop (length (opener k) - 1) s)
          | suc fewer ↦ elim (may_be_empty k && starts_with (closer k ∷ []) (inside k s)) [
            | true ↦ found (empty_bracket k) (drop 1 (inside k s))
            | false ↦ and_then (label_of k (inside k s)) (λ a valued. and_then (value fuel fewer (enders k) valued) (λ v left.
                and_then (items fuel k fewer left) (λ more end. found (bracket k a v more) end)))
          ]
        ]
      ]

  -- behind an item
  pub items : ℕ → Bracket → ℕ → List ℕ → Found More
  items zero k brackets s = fault 9 s
  items (suc fuel) k brackets [] = fault 9 []
  items (suc fuel) k brackets (b ∷ l) =
      elim (eqb b (closer k)) [
        | true ↦ found close l
        | false ↦ elim (eqb b (byte ",")) [
          | true ↦ and_then (label_of k (behind is_white l)) (λ a valued. and_then (value fuel brackets (enders k) valued) (λ v left.
              and_then (items fuel k brackets left) (λ more end. found (comma (front is_white l) a v more) end)))
          | false ↦ fault 6 (b ∷ l)
        ]
      ]

-- the same with fuel that is enough; an item with its label and what stands behind it, made into something
abbrev pub value_of : ℕ → List ℕ → List ℕ → Found Value
value_of brackets also s = value (suc (length s)) brackets also s

abbrev pub more_of : Bracket → ℕ → List ℕ → Found More
more_of k brackets s = items (suc (length s)) k brackets s

abbrev pub item_and : {A : Type 0} → Bracket → ℕ → (Label → Value → More → A) → List ℕ → Found A
item_and k brackets make s =
    and_then (label_of k s) (λ a valued. and_then (value_of brackets (enders k) valued) (λ v left.
    and_then (more_of k brackets left) (λ more end. found (make a v more) end)))
