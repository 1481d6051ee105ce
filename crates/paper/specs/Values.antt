-- Values: their trees, their spelling, the rules that a spelling keeps, and what it means.
-- Document 01, "The grammar", Values; 001 §8 to §16 and §18 to §22; document 02, One, Two and Five.
use Rattle.std.specs.Prelude.{ℕ, zero, suc, ◌+◌, ◌-◌, ◌*◌, max, Bool, true, false, not, ◌&&◌, ◌||◌, List, [], ◌∷◌, ◌++◌, length, leb, eqb}
use Rattle.paper.specs.Found.{found, fault, pick}
use Rattle.paper.specs.Bytes.{byte, bytes, within, is_upper, is_lower, is_digit, is_letter, is_name_byte, is_hex, is_white, is_line_end, all, elem, same, starts_in}
use Rattle.paper.specs.Bytes.{is, up_to, onward, past, are_digits, scalar, is_scalar, encode, lf, cr, tab, space}
use Rattle.paper.specs.Times.{TimeKind, is_of}
use Rattle.paper.specs.declared.brackets.Bracket.{Bracket}

-- ---- strings, characters and backticks

-- a piece of one: a byte that stands for itself, a backslash and a byte, \uXXXX, or \u{..}
pub data Piece : Type 0 where
  direct : ℕ → Piece
  escaped : ℕ → Piece
  four : List ℕ → Piece
  braces : List ℕ → Piece

-- its bytes, in front of what follows
unfoldable pub piece_onto : Piece → List ℕ → List ℕ
piece_onto (direct b) next = b ∷ next
piece_onto (escaped b) next = byte "\\" ∷ b ∷ next
piece_onto (four digits) next = byte "\\" ∷ byte "u" ∷ (digits ++ next)
piece_onto (braces digits) next = byte "\\" ∷ byte "u" ∷ byte "{" ∷ (digits ++ (byte "}" ∷ next))

unfoldable pub pieces_onto : List Piece → List ℕ → List ℕ
pieces_onto [] next = next
pieces_onto (p ∷ ps) next = piece_onto p (pieces_onto ps next)

-- the number that hex digits spell
unfoldable pub hex_digit : ℕ → ℕ
hex_digit b = pick (is_digit b) (b - byte "0") (pick (is_upper b) (b - byte "A" + 10) (b - byte "a" + 10))

unfoldable pub hex_value : ℕ → List ℕ → ℕ
hex_value so [] = so
hex_value so (b ∷ l) = hex_value (so * 16 + hex_digit b) l

-- hex digits that spell a scalar value
unfoldable pub spells_scalar : List ℕ → Bool
spells_scalar digits = all is_hex digits && is_scalar (hex_value 0 digits)

-- what a piece between two of this quote may be
unfoldable pub piece_rule : ℕ → Piece → Bool
piece_rule quote (direct b) = not (eqb b quote || eqb b (byte "\\") || is_line_end b)
piece_rule quote (escaped b) = eqb b quote || elem b (bytes "\\nrt")
piece_rule quote (four digits) = eqb (length digits) 4 && spells_scalar digits
piece_rule quote (braces digits) = within 1 6 (length digits) && spells_scalar digits

-- the bytes that a piece stands for
unfoldable pub letter_means : ℕ → ℕ
letter_means b = pick (eqb b (byte "n")) lf (pick (eqb b (byte "r")) cr (pick (eqb b (byte "t")) tab b))

unfoldable pub piece_means : Piece → List ℕ
piece_means (direct b) = b ∷ []
piece_means (escaped b) = letter_means b ∷ []
piece_means (four digits) = encode (hex_value 0 digits)
piece_means (braces digits) = encode (hex_value 0 digits)

unfoldable pub pieces_mean : List Piece → List ℕ
pieces_mean [] = []
pieces_mean (p ∷ ps) = piece_means p ++ pieces_mean ps

-- one scalar value, spelt directly or as one escape
unfoldable pub one_scalar : List Piece → Bool
one_scalar [] = false
one_scalar (direct b ∷ ps) = elim (scalar (pieces_onto (direct b ∷ ps) [])) [ found v left ↦ eqb (length left) 0 | fault n left ↦ false ]
one_scalar (escaped b ∷ ps) = eqb (length ps) 0
one_scalar (four digits ∷ ps) = eqb (length ps) 0
one_scalar (braces digits ∷ ps) = eqb (length ps) 0

-- between backticks \` is the only escape, and any other backslash is itself; `after` is whether one stands directly before
unfoldable pub backtick_rule : Bool → List Piece → Bool
backtick_rule after [] = not after
backtick_rule after (direct b ∷ ps) = not (eqb b (byte "`")) && backtick_rule (eqb b (byte "\\")) ps
backtick_rule after (escaped b ∷ ps) = eqb b (byte "`") && backtick_rule false ps
backtick_rule after (four digits ∷ ps) = false
backtick_rule after (braces digits ∷ ps) = false

-- white space runs become one space, and the ends are trimmed
unfoldable mutual
  pub collapse : List ℕ → List ℕ
  collapse [] = []
  collapse (b ∷ l) = elim (is_white b) [ true ↦ collapse l | false ↦ b ∷ collapse_on l ]

  pub collapse_on : List ℕ → List ℕ
  collapse_on [] = []
  collapse_on (b ∷ l) = elim (is_white b) [ true ↦ collapse_gap l | false ↦ b ∷ collapse_on l ]

  pub collapse_gap : List ℕ → List ℕ
  collapse_gap [] = []
  collapse_gap (b ∷ l) = elim (is_white b) [ true ↦ collapse_gap l | false ↦ space ∷ b ∷ collapse_on l ]

-- ---- words

-- a sign and a run of letters and digits, as "$Pascal" and "~camel"
unfoldable pub is_token : ℕ → (ℕ → Bool) → List ℕ → Bool
is_token sign first [] = false
is_token sign first (b ∷ w) = eqb b sign && starts_in first w && all is_name_byte w

-- hex digits in groups of these lengths, with "-" between
unfoldable pub hex_groups : List ℕ → List ℕ → Bool
hex_groups [] w = false
hex_groups (n ∷ []) w = eqb (length w) n && all is_hex w
hex_groups (n ∷ k ∷ ns) w = eqb (length (up_to (is (byte "-")) w)) n && all is_hex (up_to (is (byte "-")) w) && hex_groups (k ∷ ns) (past (is (byte "-")) w)

abbrev pub is_uuid : List ℕ → Bool
is_uuid = hex_groups (8 ∷ 4 ∷ 4 ∷ 4 ∷ 12 ∷ [])

-- digits with no leading zero
unfoldable pub is_count : List ℕ → Bool
is_count w = are_digits w && (eqb (length w) 1 || not (starts_in (is (byte "0")) w))

unfoldable pub unsigned : List ℕ → List ℕ
unsigned [] = []
unsigned (b ∷ w) = elim (elem b (bytes "+-")) [ true ↦ w | false ↦ b ∷ w ]

abbrev pub is_integer : List ℕ → Bool
is_integer w = is_count (unsigned w)

unfoldable pub is_decimal : List ℕ → Bool
is_decimal w = is_integer (up_to (is (byte ".")) w) && are_digits (past (is (byte ".")) w)

abbrev pub is_exponent : ℕ → Bool
is_exponent b = elem b (bytes "eE")

unfoldable pub is_scientific : List ℕ → Bool
is_scientific w = (is_integer (up_to is_exponent w) || is_decimal (up_to is_exponent w)) && is_integer (past is_exponent w)

unfoldable pub is_fraction : List ℕ → Bool
is_fraction w = is_integer (up_to (is (byte "/")) w) && is_count (past (is (byte "/")) w)

-- 001 §14's UcsChar, the ranges of RFC 3987's ucschar as printed. Both bounds of a range belong to it
abbrev pub ucschar : List (ℕ × ℕ)
ucschar =
    (0xA0, 0xD7FF) ∷ (0xF900, 0xFDCF) ∷ (0xFDF0, 0xFFEF) ∷ (0x10000, 0x1FFFD)
    ∷ (0x20000, 0x2FFFD) ∷ (0x30000, 0x3FFFD) ∷ (0x40000, 0x4FFFD) ∷ (0x50000, 0x5FFFD)
    ∷ (0x60000, 0x6FFFD) ∷ (0x70000, 0x7FFFD) ∷ (0x80000, 0x8FFFD) ∷ (0x90000, 0x9FFFD)
    ∷ (0xA0000, 0xAFFFD) ∷ (0xB0000, 0xBFFFD) ∷ (0xC0000, 0xCFFFD) ∷ (0xD0000, 0xDFFFD)
    ∷ (0xE1000, 0xEFFFD) ∷ []

-- request One's list, in its order: white space, then bidi controls
abbrev pub barred : List (ℕ × ℕ)
barred =
    (0xA0, 0xA0) ∷ (0x1680, 0x1680) ∷ (0x2000, 0x200A) ∷ (0x2028, 0x2029) ∷ (0x202F, 0x202F) ∷ (0x205F, 0x205F) ∷ (0x3000, 0x3000)
    ∷ (0x61C, 0x61C) ∷ (0x200E, 0x200F) ∷ (0x202A, 0x202E) ∷ (0x2066, 0x2069) ∷ []

-- one of the ranges has the value
unfoldable pub in_ranges : List (ℕ × ℕ) → ℕ → Bool
in_ranges [] v = false
in_ranges (r ∷ rs) v = within r.0 r.1 v || in_ranges rs v

-- 001 §14, without what request One takes out
unfoldable pub is_iri_scalar : ℕ → Bool
is_iri_scalar v = is_name_byte v || elem v (bytes "-._~:/?#[]@!$&'()*+,;=%") || (in_ranges ucschar v && not (in_ranges barred v))

-- the fuel is at least the list's length
unfoldable pub is_iri_body : ℕ → List ℕ → Bool
is_iri_body zero s = true
is_iri_body (suc fuel) [] = true
is_iri_body (suc fuel) (b ∷ l) = elim (scalar (b ∷ l)) [ found v left ↦ elim (is_iri_scalar v) [ true ↦ is_iri_body fuel left | false ↦ false ] | fault n left ↦ false ]

unfoldable pub is_scheme : List ℕ → Bool
is_scheme w = starts_in is_letter w && all (λ b. is_name_byte b || elem b (bytes "+-.")) w

unfoldable pub is_iri : List ℕ → Bool
is_iri w = is_scheme (up_to (is (byte ":")) w) && starts_in (is (byte ":")) (onward (is (byte ":")) w) && is_iri_body (length w) (past (is (byte ":")) w)

-- the form of a word, 0 where no kind fits
unfoldable pub word_form : List ℕ → ℕ
word_form w =
    pick (same w (bytes "true") || same w (bytes "false")) 3
    (pick (is_integer w) 4
    (pick (is_decimal w) 5
    (pick (is_scientific w) 6
    (pick (is_fraction w) 7
    (pick (is_token (byte "$") is_upper w) 8
    (pick (is_token (byte "~") is_lower w) 9
    (pick (is_uuid w) 10
    (pick (is_iri w) 11 0))))))))

-- a byte at which a word ends; `also` are those of the bracket around it
unfoldable pub is_ender : List ℕ → ℕ → Bool
is_ender also b = is_white b || eqb b (byte ">") || elem b also

-- a word ends before what is left: also before "/" directly followed by ">"
unfoldable pub ends_word : List ℕ → List ℕ → Bool
ends_word also [] = true
ends_word also (b ∷ l) = is_ender also b || (eqb b (byte "/") && starts_in (is (byte ">")) l)

-- ---- brackets

-- of the kinds of values that hold items, 001 §19 to §22: what opens one, and what closes it
abbrev pub opener : Bracket → List ℕ
opener Bracket.List = bytes "["
opener Bracket.Set = bytes "set["
opener Bracket.Map = bytes "map["
opener Bracket.Tuple = bytes "("

abbrev pub closer : Bracket → ℕ
closer Bracket.List = byte "]"
closer Bracket.Set = byte "]"
closer Bracket.Map = byte "]"
closer Bracket.Tuple = byte ")"

-- its form of "Entries", whether it may be empty, and whether its items have keys
abbrev pub bracket_form : Bracket → ℕ
bracket_form Bracket.List = 12
bracket_form Bracket.Set = 14
bracket_form Bracket.Map = 15
bracket_form Bracket.Tuple = 16

abbrev pub may_be_empty : Bracket → Bool
may_be_empty Bracket.List = true
may_be_empty Bracket.Set = true
may_be_empty Bracket.Map = true
may_be_empty Bracket.Tuple = false

abbrev pub keyed : Bracket → Bool
keyed Bracket.List = false
keyed Bracket.Set = false
keyed Bracket.Map = true
keyed Bracket.Tuple = false

-- the bytes that end a word directly in it, and those that end a word that is a key
abbrev pub enders : Bracket → List ℕ
enders k = byte "," ∷ closer k ∷ []

abbrev pub key_enders : Bracket → List ℕ
key_enders k = byte ":" ∷ enders k

-- ---- all values

pub data Leaf : Type 0 where
  string character backtick : List Piece → Leaf
  word : ℕ → List ℕ → Leaf
  temporal : TimeKind → List ℕ → Leaf

-- a map's key: a bare name, or a value of a kind that a key may be
pub data Key : Type 0 where
  bare_key : List ℕ → Key
  leaf_key : Leaf → Key

-- what stands before an item: nothing, or a key, a colon and white space
pub data Label : Type 0 where
  no_label : Label
  label : Key → List ℕ → Label

mutual
  -- the opening bracket, and the first item with its label
  pub data Value : Type 0 where
    leaf : Leaf → Value
    empty_bracket : Bracket → Value
    bracket : Bracket → Label → Value → More → Value

  -- behind an item: the closing bracket, or a comma, white space and the next
  pub data More : Type 0 where
    close : More
    comma : List ℕ → Label → Value → More → More

-- the spelling, in front of what follows
unfoldable pub leaf_onto : Leaf → List ℕ → List ℕ
leaf_onto (string ps) next = byte "\"" ∷ pieces_onto ps (byte "\"" ∷ next)
leaf_onto (character ps) next = byte "'" ∷ pieces_onto ps (byte "'" ∷ next)
leaf_onto (backtick ps) next = byte "`" ∷ pieces_onto ps (byte "`" ∷ next)
leaf_onto (word form w) next = w ++ next
leaf_onto (temporal kind w) next = byte "{" ∷ (w ++ (byte "}" ∷ next))

unfoldable pub key_onto : Key → List ℕ → List ℕ
key_onto (bare_key w) next = w ++ next
key_onto (leaf_key v) next = leaf_onto v next

unfoldable pub label_onto : Label → List ℕ → List ℕ
label_onto no_label next = next
label_onto (label key white) next = key_onto key (byte ":" ∷ (white ++ next))

unfoldable mutual
  pub value_onto : Value → List ℕ → List ℕ
  value_onto (leaf v) next = leaf_onto v next
  value_onto (empty_bracket k) next = opener k ++ (closer k ∷ next)
  value_onto (bracket k a v more) next = opener k ++ label_onto a (value_onto v (more_onto k more next))

  pub more_onto : Bracket → More → List ℕ → List ℕ
  more_onto k close next = closer k ∷ next
  more_onto k (comma white a v more) next = byte "," ∷ (white ++ label_onto a (value_onto v (more_onto k more next)))

abbrev pub spelling : Value → List ℕ
spelling v = value_onto v []

-- the rules; `also` are the bytes that end a word here
unfoldable pub leaf_rule : List ℕ → Leaf → Bool
leaf_rule also (string ps) = all (piece_rule (byte "\"")) ps
leaf_rule also (character ps) = all (piece_rule (byte "'")) ps && one_scalar ps
leaf_rule also (backtick ps) = backtick_rule false ps
leaf_rule also (word form w) = eqb (word_form w) form && leb 1 form && all (λ b. not (is_ender also b)) w
leaf_rule also (temporal kind w) = is_of kind w

-- 001 §21's keys: a bare name, which may be "true", of any length; a string or a character; of the words an integer or a "$" token
unfoldable pub is_bare : List ℕ → Bool
is_bare w = starts_in is_lower w && all is_name_byte w

unfoldable pub is_key_form : ℕ → Bool
is_key_form form = eqb form 4 || eqb form 8

abbrev pub is_key_leaf : Leaf → Bool
is_key_leaf (string ps) = true
is_key_leaf (character ps) = true
is_key_leaf (backtick ps) = false
is_key_leaf (word form w) = is_key_form form
is_key_leaf (temporal kind w) = false

unfoldable pub key_rule : List ℕ → Key → Bool
key_rule also (bare_key w) = is_bare w
key_rule also (leaf_key v) = is_key_leaf v && leaf_rule also v

-- every item of a map has a key, and no other item has one
unfoldable pub label_rule : Bracket → Label → Bool
label_rule k no_label = not (keyed k)
label_rule k (label key white) = keyed k && key_rule (key_enders k) key && all is_white white

unfoldable mutual
  pub value_rule : List ℕ → Value → Bool
  value_rule also (leaf v) = leaf_rule also v
  value_rule also (empty_bracket k) = may_be_empty k
  value_rule also (bracket k a v more) = label_rule k a && value_rule (enders k) v && more_rule k more

  pub more_rule : Bracket → More → Bool
  more_rule k close = true
  more_rule k (comma white a v more) = all is_white white && label_rule k a && value_rule (enders k) v && more_rule k more

-- the forms of "Entries"
abbrev pub leaf_form : Leaf → ℕ
leaf_form (string ps) = 1
leaf_form (character ps) = 2
leaf_form (backtick ps) = 1
leaf_form (word form w) = form
leaf_form (temporal kind w) = 13

abbrev pub value_form : Value → ℕ
value_form (leaf v) = leaf_form v
value_form (empty_bracket k) = bracket_form k
value_form (bracket k a v more) = bracket_form k

-- the last byte of a list is "/"
unfoldable pub ends_in_slash : List ℕ → Bool
ends_in_slash [] = false
ends_in_slash (b ∷ []) = eqb b (byte "/")
ends_in_slash (b ∷ c ∷ l) = ends_in_slash (c ∷ l)

-- a value that ends in "/": only a word can, since the others end in a quote, a brace or a bracket
abbrev pub leaf_in_slash : Leaf → Bool
leaf_in_slash (string ps) = false
leaf_in_slash (character ps) = false
leaf_in_slash (backtick ps) = false
leaf_in_slash (word form w) = ends_in_slash w
leaf_in_slash (temporal kind w) = false

abbrev pub value_in_slash : Value → Bool
value_in_slash (leaf v) = leaf_in_slash v
value_in_slash (empty_bracket k) = false
value_in_slash (bracket k a v more) = false

-- how many brackets stand in one another, whichever their kinds
unfoldable mutual
  pub bracket_depth : Value → ℕ
  bracket_depth (leaf v) = 0
  bracket_depth (empty_bracket k) = 1
  bracket_depth (bracket k a v more) = suc (max (bracket_depth v) (more_depth more))

  pub more_depth : More → ℕ
  more_depth close = 0
  more_depth (comma white a v more) = max (bracket_depth v) (more_depth more)
