-- Bytes: classes of ASCII, one scalar value of UTF-8, and the bytes that a sheet may have.
-- Document 01, "The grammar", Bytes; RFC 3629 §4.
use Rattle.std.specs.Prelude.{ℕ, zero, suc, ◌+◌, ◌-◌, ◌*◌, ◌/◌, ◌%◌, Bool, true, false, not, ◌&&◌, ◌||◌, List, [], ◌∷◌, ◌++◌, length, take, drop, leb, eqb}
use Prim.Native.Char.{Char, code}
use Prim.Native.String.{String, [] as ε, ◌∷◌ as ◌▹◌}
use Rattle.paper.specs.Found.{Found, found, fault, and_then, pick}

-- ---- characters of ASCII and their classes

-- the byte of a character, and the bytes of a text
abbrev pub byte : Char → ℕ
byte c = code c

abbrev pub bytes : String → List ℕ
bytes ε = []
bytes (c ▹ s) = code c ∷ bytes s

abbrev pub within : ℕ → ℕ → ℕ → Bool
within low high b = leb low b && leb b high

unfoldable pub is_upper : ℕ → Bool
is_upper = within 0x41 0x5A

unfoldable pub is_lower : ℕ → Bool
is_lower = within 0x61 0x7A

unfoldable pub is_digit : ℕ → Bool
is_digit = within 0x30 0x39

unfoldable pub is_letter : ℕ → Bool
is_letter b = is_upper b || is_lower b

-- what names are made of
unfoldable pub is_name_byte : ℕ → Bool
is_name_byte b = is_letter b || is_digit b

unfoldable pub is_hex : ℕ → Bool
is_hex b = is_digit b || within 0x41 0x46 b || within 0x61 0x66 b

abbrev pub tab : ℕ
tab = 0x09

abbrev pub lf : ℕ
lf = 0x0A

abbrev pub cr : ℕ
cr = 0x0D

abbrev pub space : ℕ
space = 0x20

-- spaces and tabs
unfoldable pub is_blank : ℕ → Bool
is_blank b = eqb b space || eqb b tab

-- LF, and CR, which stands only before LF
unfoldable pub is_line_end : ℕ → Bool
is_line_end b = eqb b lf || eqb b cr

-- white space: spaces, tabs and line ends
unfoldable pub is_white : ℕ → Bool
is_white b = is_blank b || is_line_end b

-- ---- lists of bytes

-- every element, and the first one, is of the class; a byte is one of these
unfoldable pub all : {A : Type 0} → (A → Bool) → List A → Bool
all class [] = true
all class (a ∷ l) = class a && all class l

unfoldable pub starts_in : (ℕ → Bool) → List ℕ → Bool
starts_in class [] = false
starts_in class (b ∷ l) = class b

unfoldable pub elem : ℕ → List ℕ → Bool
elem b [] = false
elem b (c ∷ l) = eqb b c || elem b l

-- how many bytes in front are of the class; these, and what is left behind them
unfoldable pub length_in : (ℕ → Bool) → List ℕ → ℕ
length_in class [] = 0
length_in class (b ∷ l) = elim (class b) [ true ↦ suc (length_in class l) | false ↦ 0 ]

abbrev pub front : (ℕ → Bool) → List ℕ → List ℕ
front class s = take (length_in class s) s

abbrev pub behind : (ℕ → Bool) → List ℕ → List ℕ
behind class s = drop (length_in class s) s

abbrev pub is : ℕ → ℕ → Bool
is a b = eqb b a

-- what stands in front of the first byte of a class, from it on, and behind it
abbrev pub up_to : (ℕ → Bool) → List ℕ → List ℕ
up_to class s = front (λ b. not (class b)) s

abbrev pub onward : (ℕ → Bool) → List ℕ → List ℕ
onward class s = behind (λ b. not (class b)) s

abbrev pub past : (ℕ → Bool) → List ℕ → List ℕ
past class s = drop 1 (onward class s)

-- digits, one at least
unfoldable pub are_digits : List ℕ → Bool
are_digits s = starts_in is_digit s && all is_digit s

-- the same bytes
unfoldable pub same : List ℕ → List ℕ → Bool
same [] [] = true
same [] (b ∷ t) = false
same (a ∷ s) [] = false
same (a ∷ s) (b ∷ t) = elim (eqb a b) [ true ↦ same s t | false ↦ false ]

-- the fixed bytes stand in front
unfoldable pub starts_with : List ℕ → List ℕ → Bool
starts_with [] s = true
starts_with (p ∷ ps) [] = false
starts_with (p ∷ ps) (b ∷ s) = elim (eqb b p) [ true ↦ starts_with ps s | false ↦ false ]

-- ---- one scalar value of UTF-8

-- the rows of RFC 3629 §4 by their first byte: how many bytes, and where the second one lies
pub data Row : Type 0 where
  one two none : Row
  three four : ℕ → ℕ → Row

unfoldable pub row_of : ℕ → Row
row_of b =
    pick (leb b 0x7F) one
    (pick (within 0xC2 0xDF b) two
    (pick (eqb b 0xE0) (three 0xA0 0xBF)
    (pick (within 0xE1 0xEC b) (three 0x80 0xBF)
    (pick (eqb b 0xED) (three 0x80 0x9F)
    (pick (within 0xEE 0xEF b) (three 0x80 0xBF)
    (pick (eqb b 0xF0) (four 0x90 0xBF)
    (pick (within 0xF1 0xF3 b) (four 0x80 0xBF)
    (pick (eqb b 0xF4) (four 0x80 0x8F) none))))))))

-- the six bits of a byte that follows in a sequence, if it lies in the range
unfoldable pub follower : ℕ → ℕ → List ℕ → Found ℕ
follower low high [] = fault 3 []
follower low high (b ∷ l) = elim (within low high b) [ true ↦ found (b - 0x80) l | false ↦ fault 3 (b ∷ l) ]

-- the first scalar value of a list
unfoldable pub scalar : List ℕ → Found ℕ
scalar [] = fault 3 []
scalar (b ∷ l) =
    elim (row_of b) [
      | one ↦ found b l
      | two ↦ and_then (follower 0x80 0xBF l) (λ c r. found ((b - 0xC0) * 64 + c) r)
      | three low high ↦ and_then (follower low high l) (λ c r. and_then (follower 0x80 0xBF r) (λ d q. found (((b - 0xE0) * 64 + c) * 64 + d) q))
      | four low high ↦ and_then (follower low high l) (λ c r. and_then (follower 0x80 0xBF r) (λ d q.
          and_then (follower 0x80 0xBF q) (λ e p. found ((((b - 0xF0) * 64 + c) * 64 + d) * 64 + e) p)))
      | none ↦ fault 3 (b ∷ l)
    ]

-- ---- scalar values and their bytes (RFC 3629 §3)

-- the values up to 0x10FFFF, without the surrogates
unfoldable pub is_scalar : ℕ → Bool
is_scalar v = leb v 0xD7FF || within 0xE000 0x10FFFF v

-- the bytes of a scalar value: six bits in each byte that follows, the highest ones in the first
unfoldable pub encode : ℕ → List ℕ
encode v =
    pick (leb v 0x7F) (v ∷ [])
    (pick (leb v 0x7FF) ((0xC0 + v / 64) ∷ (0x80 + v % 64) ∷ [])
    (pick (leb v 0xFFFF) ((0xE0 + v / 64 / 64) ∷ (0x80 + v / 64 % 64) ∷ (0x80 + v % 64) ∷ [])
    ((0xF0 + v / 64 / 64 / 64) ∷ (0x80 + v / 64 / 64 % 64) ∷ (0x80 + v / 64 % 64) ∷ (0x80 + v % 64) ∷ [])))

unfoldable pub encode_all : List ℕ → List ℕ
encode_all [] = []
encode_all (v ∷ vs) = encode v ++ encode_all vs

-- ---- the bytes of a whole sheet

-- the scalar value may stand, with what is left behind it: no control but tab, LF and CR LF
unfoldable pub may_stand : ℕ → List ℕ → Bool
may_stand v left = pick (eqb v cr) (starts_with (lf ∷ []) left) (eqb v tab || eqb v lf || (leb 0x20 v && not (eqb v 0x7F)))

-- the scalar values of a list; a fault is at the first byte of its sequence. The fuel is at least the list's length
unfoldable pub scalars : ℕ → List ℕ → Found (List ℕ)
scalars zero s = found [] s
scalars (suc fuel) [] = found [] []
scalars (suc fuel) (b ∷ l) =
    elim (scalar (b ∷ l)) [
      | fault n r ↦ fault 3 (b ∷ l)
      | found v r ↦ elim (may_stand v r) [ false ↦ fault 3 (b ∷ l) | true ↦ and_then (scalars fuel r) (λ vs q. found (v ∷ vs) q) ]
    ]

abbrev pub byte_order_mark : List ℕ
byte_order_mark = 0xEF ∷ 0xBB ∷ 0xBF ∷ []

-- a whole sheet: its scalar values, or the fault; a byte order mark may not stand in front
unfoldable pub sheet_bytes : List ℕ → Found (List ℕ)
sheet_bytes s = elim (starts_with byte_order_mark s) [ true ↦ fault 3 s | false ↦ scalars (length s) s ]
