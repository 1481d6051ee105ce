-- Words by their parts: the bytes that end one, the integer in front of a number, and the forms of words that begin alike.
-- Document 01, "The grammar", Values; what a whole word is, is said by the paper's definitions.
use Rattle.std.specs.Prelude.{ℕ, zero, suc, ◌+◌, Bool, ◌&&◌, ◌||◌, Option, None, Some, List, [], drop, leb, eqb}
use Rattle.paper.specs.Found.{pick}
use Rattle.paper.specs.Bytes.{byte, bytes, within, is_digit, is_hex, is_name_byte, all, elem, same, starts_in, starts_with, length_in, up_to, past, is, are_digits}
use Rattle.paper.specs.Values.{is_uuid, unsigned, is_integer, is_decimal, is_exponent, is_scientific, is_fraction, is_iri_scalar, is_iri, enders, key_enders}
use Rattle.paper.specs.declared.brackets.Bracket.{Bracket}
use Rattle.leaves.specs.declared.words.Around.{Around}

-- the bytes that end a word, by what stands around it
abbrev pub enders_of : Around → List ℕ
enders_of Around.Nothing = []
enders_of Around.Square = enders Bracket.List
enders_of Around.Round = enders Bracket.Tuple
enders_of Around.Key = key_enders Bracket.Map

-- what stands around an item of a bracket
abbrev pub inside_of : Bracket → Around
inside_of Bracket.List = Around.Square
inside_of Bracket.Set = Around.Square
inside_of Bracket.Map = Around.Square
inside_of Bracket.Tuple = Around.Round

-- ---- numbers

-- how many bytes a sign takes in front
unfoldable pub sign_length : List ℕ → ℕ
sign_length w = pick (starts_in (λ b. elem b (bytes "+-")) w) 1 0

-- how many digits stand in front, 0 where they have a leading zero
unfoldable pub count_length : List ℕ → ℕ
count_length w = pick (leb 2 (length_in is_digit w) && starts_in (is (byte "0")) w) 0 (length_in is_digit w)

-- how many bytes the integer in front takes, 0 where none stands there
unfoldable pub integer_length : List ℕ → ℕ
integer_length w = pick (eqb (count_length (unsigned w)) 0) 0 (sign_length w + count_length (unsigned w))

-- a length that is not 0
abbrev pub some_length : ℕ → Option ℕ
some_length zero = None
some_length (suc n) = Some (suc n)

-- the form of a word that is a number, 0 where it is none
unfoldable pub number_form : List ℕ → ℕ
number_form w = pick (is_integer w) 4 (pick (is_decimal w) 5 (pick (is_scientific w) 6 (pick (is_fraction w) 7 0)))

-- that of a number by what stands behind its point: digits, or digits and an exponent
unfoldable pub point_form : List ℕ → ℕ
point_form w = pick (are_digits w) 5 (pick (are_digits (up_to is_exponent w) && is_integer (past is_exponent w)) 6 0)

-- ---- words by their first byte

-- letters and digits alone, the first one from low to high
unfoldable pub is_named : ℕ → ℕ → List ℕ → Bool
is_named low high w = starts_in (within low high) w && all is_name_byte w

unfoldable pub lettered_form : List ℕ → ℕ
lettered_form w = pick (same w (bytes "true") || same w (bytes "false")) 3 (pick (is_uuid w) 10 (pick (is_iri w) 11 0))

unfoldable pub numeral_form : List ℕ → ℕ
numeral_form w = pick (is_uuid w) 10 (number_form w)

-- a byte of ASCII that may stand in an IRI
abbrev pub stands_ascii : ℕ → Bool
stands_ascii b = leb b 0x7F && is_iri_scalar b

-- so many hex digits in front, and "-" directly behind them
unfoldable pub is_group : ℕ → List ℕ → Bool
is_group size w = eqb (length_in is_hex w) size && starts_with (bytes "-") (drop size w)
