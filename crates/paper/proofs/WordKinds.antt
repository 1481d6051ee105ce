-- The kinds of words: how each begins, and that a word has one kind at most. Document 01, "The grammar", Values; 001 §12 to §14. Assumes nothing.
use Prim.Native.Nat.{ℕ, suc, ◌+◌, ◌≤◌}
use mathlib.Core.Path.{◌≡◌, refl, sym, ap, ◌∙◌}
use mathlib.Core.Bool.{Bool, true, false, not, ◌&&◌, ◌||◌}
use mathlib.Core.List.Memᴰ.{head as here}
use mathlib.Core.List.Memᴰ.{tail as there}
use mathlib.Core.List.{List, [], ◌∷◌, ◌++◌, Memᴰ as Among}
use native.Mathlib.Omega.{arith}
use lib.ListN.{length}
use lib.Dec.{leb, eqb}
use borrow.Author.Tests.{leb-true, le-leb, lt-leb, eqb-true}
use Rattle.paper.specs.Found.{pick}
use Rattle.paper.specs.Bytes.{byte, bytes, is_upper, is_lower, is_digit, is_letter, is_hex, all, elem, same, starts_in, length_in, space, tab, lf, cr}
use Rattle.paper.specs.Bytes.{is, up_to, onward, past, are_digits}
use Rattle.paper.specs.Values.{is_token, hex_groups, is_uuid, is_count, unsigned, is_integer, is_decimal, is_exponent, is_scientific}
use Rattle.paper.specs.Values.{is_fraction, is_scheme, is_iri, word_form}
use Rattle.paper.proofs.Tests.{split, true_false, either, or_left, or_right}
use Rattle.paper.proofs.Lists.{both, is_not, all_nil, all_cons, all_head, all_weaken, front_behind, by_mark, all_append, starts_weaken}
use Rattle.paper.proofs.Lists.{starts_append, starts_apart, elem_apart, elem_more, elem_right, without, same_is}

-- ---- the kinds in the order of their forms

pub data Kind : Type 0 where
  boolean integer decimal scientific fraction pascal camel uuid iri : Kind

-- the test of a kind, and its form
abbrev pub fits : Kind → List ℕ → Bool
fits boolean w = same w (bytes "true") || same w (bytes "false")
fits integer w = is_integer w
fits decimal w = is_decimal w
fits scientific w = is_scientific w
fits fraction w = is_fraction w
fits pascal w = is_token (byte "$") is_upper w
fits camel w = is_token (byte "~") is_lower w
fits uuid w = is_uuid w
fits iri w = is_iri w

abbrev pub form_of : Kind → ℕ
form_of boolean = 3
form_of integer = 4
form_of decimal = 5
form_of scientific = 6
form_of fraction = 7
form_of pascal = 8
form_of camel = 9
form_of uuid = 10
form_of iri = 11

-- the form of the first of these kinds that fits, 0 where none does
unfoldable pub first_form : List Kind → List ℕ → ℕ
first_form [] w = 0
first_form (k ∷ ks) w = pick (fits k w) (form_of k) (first_form ks w)

unfoldable pub kinds : List Kind
kinds = boolean ∷ integer ∷ decimal ∷ scientific ∷ fraction ∷ pascal ∷ camel ∷ uuid ∷ iri ∷ []

-- the form of a word is so defined
pub word_form_lem : (w : List ℕ) → word_form w ≡ first_form kinds w
unfolding word_form first_form kinds
word_form_lem w = refl

-- ---- how many bytes are among these

count : List ℕ → List ℕ → ℕ
count cs [] = 0
count cs (b ∷ w) = elim (elem b cs) [ true ↦ suc (count cs w) | false ↦ count cs w ]

module _ (cs : List ℕ) where
  count_in : (b : ℕ) (w : List ℕ) → elem b cs ≡ true → count cs (b ∷ w) ≡ suc (count cs w)
  unfolding count
  count_in b w e = rw (e, count)

  count_out : (b : ℕ) (w : List ℕ) → elem b cs ≡ false → count cs (b ∷ w) ≡ count cs w
  unfolding count
  count_out b w e = rw (e, count)

  count_one : (b : ℕ) → count cs (b ∷ []) ≤ 1
  unfolding count
  count_one b = split (elem b cs) (λ e. omega (arith, count_in b [] e)) (λ e. omega (arith, count_out b [] e))

  count_append : (v w : List ℕ) → count cs (v ++ w) ≡ count cs v + count cs w
  unfolding count
  count_append [] w = omega arith
  count_append (b ∷ v) w =
      split (elem b cs)
      (λ e. omega (arith, count_in b (v ++ w) e, count_in b v e, count_append v w))
      (λ e. omega (arith, count_out b (v ++ w) e, count_out b v e, count_append v w))

  count_none : (class : ℕ → Bool) (w : List ℕ) → all class w ≡ true → all (λ c. not (class c)) cs ≡ true → count cs w ≡ 0
  unfolding count
  count_none class [] a n = refl
  count_none class (b ∷ w) a n = let h = all_head class b w a in count_out b w (elem_apart class b cs h.0 n) ∙ count_none class w h.1 n

  count_some : (v : List ℕ) (b : ℕ) (w : List ℕ) → elem b cs ≡ true → 1 ≤ count cs (v ++ (b ∷ w))
  count_some v b w e = omega (arith, count_append v (b ∷ w), count_in b w e)

-- ---- numbers

abbrev pub digit_or : List ℕ → ℕ → Bool
digit_or cs b = is_digit b || elem b cs

-- digits and these bytes, a digit or a sign first, and so many minus signs at most
record Number (cs : List ℕ) (minus : ℕ) (w : List ℕ) : Type 0 where
  made : all (digit_or cs) w ≡ true
  first : starts_in (digit_or (bytes "+-")) w ≡ true
  few : count (bytes "-") w ≤ minus

digits_of : (w : List ℕ) → are_digits w ≡ true → (starts_in is_digit w ≡ true) × (all is_digit w ≡ true)
unfolding are_digits
digits_of w e = both (starts_in is_digit w) (all is_digit w) e

count_of : (w : List ℕ) → is_count w ≡ true → are_digits w ≡ true
unfolding is_count
count_of w e = (both (are_digits w) _ e).0

no_digits : {X : Type 0} → are_digits [] ≡ true → X
unfolding are_digits starts_in
no_digits e = true_false (sym e)

digits_in : (cs w : List ℕ) → all is_digit w ≡ true → all (digit_or cs) w ≡ true
digits_in cs w a = all_weaken is_digit (digit_or cs) (λ b e. or_left (is_digit b) (elem b cs) e) w a

no_minus : (w : List ℕ) → all is_digit w ≡ true → count (bytes "-") w ≡ 0
unfolding is_digit all
no_minus w a = count_none (bytes "-") is_digit w a refl

number_more : (cs ds w : List ℕ) (n : ℕ) → Number cs n w → Number (cs ++ ds) n w
number_more cs ds w n h =
    record {
      made =
          all_weaken (digit_or cs) (digit_or (cs ++ ds)) (λ b e. either (is_digit b) (elem b cs) e (λ f. or_left (is_digit b) _ f)
          (λ f. or_right (is_digit b) _ (elem_more b cs ds f))) w h.made;
      first = h.first;
      few = h.few;
    }

integer_number : (w : List ℕ) → is_integer w ≡ true → Number (bytes "+-") 1 w
unfolding unsigned starts_in
integer_number [] e = no_digits (count_of [] e)
integer_number (b ∷ w) e =
    split (elem b (bytes "+-"))
    (λ f. let d = (digits_of w (count_of w (rw (f, unsigned) at e))).1 in
    record {
      made = all_cons _ b w (or_right (is_digit b) _ f) (digits_in (bytes "+-") w d);
      first = or_right (is_digit b) _ f;
      few = omega (arith, count_append (bytes "-") (b ∷ []) w, no_minus w d, count_one (bytes "-") b);
    })
    (λ f. let d = digits_of (b ∷ w) (count_of (b ∷ w) (rw (f, unsigned) at e)) in
    record { made = digits_in (bytes "+-") (b ∷ w) d.1; first = or_left (is_digit b) _ d.0; few = omega (arith, no_minus (b ∷ w) d.1) })

-- a number, one of these bytes, and more of a number
joined : (cs ds u : List ℕ) (b : ℕ) (v : List ℕ) (n m : ℕ) → Number cs n u → elem b ds ≡ true → all (λ c. not (elem c ds)) (bytes "-") ≡ true
    → all (digit_or (cs ++ ds)) v ≡ true → count (bytes "-") v ≤ m → Number (cs ++ ds) (n + m) (u ++ (b ∷ v))
joined cs ds u b v n m h e k a f =
    record {
      made = all_append _ u (b ∷ v) (number_more cs ds u n h).made (all_cons _ b v (or_right (is_digit b) _ (elem_right b cs ds e)) a);
      first = starts_append _ u (b ∷ v) h.first;
      few = omega (arith, h.few, count_append (bytes "-") u (b ∷ v), count_out (bytes "-") b v (elem_apart (λ c. elem c ds) b (bytes "-") e k));
    }

-- a number with one of these bytes in it
record Marked (cs ds : List ℕ) (minus : ℕ) (w : List ℕ) : Type 0 where
  number : Number (cs ++ ds) minus w
  mark : 1 ≤ count ds w

is_elem : (c b : ℕ) → eqb b c ≡ true → elem b (c ∷ []) ≡ true
unfolding elem
is_elem c b e = rw e

-- decimals and fractions: an integer, this byte, and digits
two_numbers : (c : ℕ) (w : List ℕ) → elem (byte "-") (c ∷ []) ≡ false → is_integer (up_to (is c) w) ≡ true → are_digits (past (is c) w) ≡ true
    → Marked (bytes "+-") (c ∷ []) 1 w
two_numbers c w k i a =
    let d = (digits_of (past (is c) w) a).1 in
    by_mark (is c) w (λ n. no_digits (rw n at a))
    (λ b e q. rw q (record {
      number =
          joined (bytes "+-") (c ∷ []) _ b _ 1 0 (integer_number _ i) (is_elem c b e) (all_cons _ (byte "-") [] (is_not k) (all_nil _)) (digits_in _ _ d)
          (omega (arith, no_minus (past (is c) w) d));
      mark = count_some (c ∷ []) (up_to (is c) w) b (past (is c) w) (is_elem c b e);
    }))

decimal_number : (w : List ℕ) → is_decimal w ≡ true → Marked (bytes "+-") (bytes ".") 1 w
unfolding is_decimal elem
decimal_number w e = let h = both (is_integer (up_to (is (byte ".")) w)) (are_digits (past (is (byte ".")) w)) e in two_numbers (byte ".") w refl h.0 h.1

fraction_number : (w : List ℕ) → is_fraction w ≡ true → Marked (bytes "+-") (bytes "/") 1 w
unfolding is_fraction elem
fraction_number w e = let h = both (is_integer (up_to (is (byte "/")) w)) (is_count (past (is (byte "/")) w)) e in two_numbers (byte "/") w refl h.0 (count_of _ h.1)

scientific_number : (w : List ℕ) → is_scientific w ≡ true → Marked (bytes "+-.") (bytes "eE") 2 w
unfolding is_scientific unsigned elem all
scientific_number w e =
    let h = both (is_integer (up_to is_exponent w) || is_decimal (up_to is_exponent w)) (is_integer (past is_exponent w)) e in
    let x = integer_number (past is_exponent w) h.1 in
    let m =
    either (is_integer (up_to is_exponent w)) (is_decimal (up_to is_exponent w)) h.0 (λ i. number_more (bytes "+-") (bytes ".") _ 1 (integer_number _ i))
    (λ d. (decimal_number _ d).number) in
    by_mark is_exponent w (λ n. no_digits (count_of [] (rw n at h.1)))
    (λ b c q. rw q (record {
      number = joined (bytes "+-.") (bytes "eE") _ b _ 1 1 m c refl (number_more (bytes "+-") (bytes ".eE") _ 1 x).made x.few;
      mark = count_some (bytes "eE") (up_to is_exponent w) b (past is_exponent w) c;
    }))

-- ---- hex digits in groups

abbrev pub hex_dash : ℕ → Bool
hex_dash b = is_hex b || elem b (bytes "-")

no_group : {X : Type 0} (n : ℕ) (ns : List ℕ) → 1 ≤ n → hex_groups (n ∷ ns) [] ≡ true → X
unfolding hex_groups length_in
no_group n [] h e = absurd (omega (arith, eqb-true 0 n (both (eqb 0 n) _ e).0))
no_group n (k ∷ ns) h e = absurd (omega (arith, eqb-true 0 n (both (eqb 0 n) _ (both (eqb 0 n && _) _ e).0).0))

record Groups (minus : ℕ) (w : List ℕ) : Type 0 where
  made : all hex_dash w ≡ true
  many : minus ≤ count (bytes "-") w

groups_made : (n : ℕ) (ns w : List ℕ) → all (leb 1) ns ≡ true → hex_groups (n ∷ ns) w ≡ true → Groups (length ns) w
unfolding hex_groups
groups_made n [] w p e = record { made = all_weaken is_hex hex_dash (λ b f. or_left (is_hex b) _ f) w (both (eqb (length w) n) (all is_hex w) e).1; many = omega arith }
groups_made n (k ∷ ns) w p e =
    let dash = is (byte "-") in
    let h = both (eqb (length (up_to dash w)) n && all is_hex (up_to dash w)) (hex_groups (k ∷ ns) (past dash w)) e in
    let x = (both (eqb (length (up_to dash w)) n) (all is_hex (up_to dash w)) h.0).1 in
    let q = all_head (leb 1) k ns p in
    let g = groups_made k ns (past dash w) q.1 h.1 in
    by_mark dash w (λ z. no_group k ns (leb-true 1 k q.0) (rw z at h.1))
    (λ b f s. rw s (record {
      made =
          all_append hex_dash (up_to dash w) (b ∷ past dash w) (all_weaken is_hex hex_dash (λ b f. or_left (is_hex b) _ f) _ x)
          (all_cons hex_dash b _ (or_right (is_hex b) _ (is_elem (byte "-") b f)) g.made);
      many = omega (arith, g.many, count_append (bytes "-") (up_to dash w) (b ∷ past dash w), count_in (bytes "-") b (past dash w) (is_elem (byte "-") b f));
    }))

uuid_made : (w : List ℕ) → is_uuid w ≡ true → Groups 4 w
unfolding all
uuid_made w e = groups_made 8 (4 ∷ 4 ∷ 4 ∷ 12 ∷ []) w refl e

uuid_first : (w : List ℕ) → is_uuid w ≡ true → starts_in hex_dash w ≡ true
unfolding starts_in
uuid_first [] e = no_group 8 (4 ∷ 4 ∷ 4 ∷ 12 ∷ []) (omega arith) e
uuid_first (b ∷ w) e = (all_head hex_dash b w (uuid_made (b ∷ w) e).made).0

-- ---- a scheme and a colon

iri_parts : (w : List ℕ) → is_iri w ≡ true → (is_scheme (up_to (is (byte ":")) w) ≡ true) × (starts_in (is (byte ":")) (onward (is (byte ":")) w) ≡ true)
unfolding is_iri
iri_parts w e = both (is_scheme (up_to (is (byte ":")) w)) _ (both (is_scheme (up_to (is (byte ":")) w) && starts_in (is (byte ":")) (onward (is (byte ":")) w)) _ e).0

iri_colon : (w : List ℕ) → is_iri w ≡ true → 1 ≤ count (bytes ":") w
unfolding starts_in
iri_colon w e =
    let colon = is (byte ":") in
    by_mark colon w (λ n. true_false (sym (rw n at (iri_parts w e).1)))
    (λ b f q. rw q (count_some (bytes ":") (up_to colon w) b (past colon w) (is_elem (byte ":") b f)))

iri_first : (w : List ℕ) → is_iri w ≡ true → starts_in is_letter w ≡ true
unfolding is_scheme
iri_first w e =
    let colon = is (byte ":") in
    rw (front_behind (λ b. not (colon b)) w) at (starts_append is_letter (up_to colon w) (onward colon w) (both (starts_in is_letter (up_to colon w)) _ (iri_parts w e).0).0)

-- ---- a word has one kind at most

-- the kind that a word can have at all, by the bytes that it begins with and has in it
kind_of : List ℕ → Kind
kind_of w =
    pick (leb 1 (count (bytes "$~:/st") w))
    (pick (starts_in (is (byte "$")) w) pascal
    (pick (starts_in (is (byte "~")) w) camel
    (pick (leb 1 (count (bytes ":") w)) iri
    (pick (leb 1 (count (bytes "/") w)) fraction boolean))))
    (pick (leb 3 (count (bytes "-") w)) uuid
    (pick (leb 1 (count (bytes "eE") w)) scientific
    (pick (leb 1 (count (bytes ".") w)) decimal integer)))

none_of : (cs : List ℕ) (class : ℕ → Bool) (w : List ℕ) → all class w ≡ true → all (λ c. not (class c)) cs ≡ true → leb 1 (count cs w) ≡ false
none_of cs class w a n = lt-leb 1 (count cs w) (omega (arith, count_none cs class w a n))

one_of : (cs w : List ℕ) → 1 ≤ count cs w → leb 1 (count cs w) ≡ true
one_of cs w h = le-leb 1 (count cs w) h

count_single : (c : ℕ) (cs w : List ℕ) → elem c cs ≡ true → count (c ∷ []) w ≤ count cs w
unfolding count elem
count_single c cs [] e = omega arith
count_single c cs (b ∷ w) e =
    split (eqb b c)
    (λ f. let k : elem b cs ≡ true = rw (eqb-true b c f) e in omega (arith, count_in (c ∷ []) b w (is_elem c b f), count_in cs b w k, count_single c cs w e))
    (λ f. split (elem b cs)
    (λ k. omega (arith, count_out (c ∷ []) b w (rw f), count_in cs b w k, count_single c cs w e))
    (λ k. omega (arith, count_out (c ∷ []) b w (rw f), count_out cs b w k, count_single c cs w e)))

-- a token begins with its sign
token_sign : {X : Type 0} (sign : ℕ) (first : ℕ → Bool) (w : List ℕ) → is_token sign first w ≡ true → ((l : List ℕ) → w ≡ sign ∷ l → X) → X
unfolding is_token
token_sign sign first [] e so = true_false (sym e)
token_sign sign first (b ∷ l) e so =
    let h = (both (eqb b sign) _ (both (eqb b sign && starts_in first l) _ e).0).0 in
    so l (rw (eqb-true b sign h))

kind_is : (k : Kind) (w : List ℕ) → fits k w ≡ true → kind_of w ≡ k
unfolding kind_of count elem all is_digit is_hex is_upper is_lower is_letter starts_in
kind_is boolean w e = either (same w (bytes "true")) (same w (bytes "false")) e (λ f. rw (same_is w (bytes "true") f)) (λ f. rw (same_is w (bytes "false") f))
kind_is integer w e =
    let h = integer_number w e in
    let p = digit_or (bytes "+-") in
    rw (
      none_of (bytes "$~:/st") p w h.made refl,
      lt-leb 3 (count (bytes "-") w) (omega (arith, h.few)),
      none_of (bytes "eE") p w h.made refl,
      none_of (bytes ".") p w h.made refl,
    )
kind_is decimal w e =
    let h = decimal_number w e in
    let p = digit_or (bytes "+-.") in
    rw (
      none_of (bytes "$~:/st") p w h.number.made refl,
      lt-leb 3 (count (bytes "-") w) (omega (arith, h.number.few)),
      none_of (bytes "eE") p w h.number.made refl,
      one_of (bytes ".") w h.mark,
    )
kind_is scientific w e =
    let h = scientific_number w e in
    rw (
      none_of (bytes "$~:/st") (digit_or (bytes "+-.eE")) w h.number.made refl,
      lt-leb 3 (count (bytes "-") w) (omega (arith, h.number.few)),
      one_of (bytes "eE") w h.mark,
    )
kind_is fraction w e =
    let h = fraction_number w e in
    rw (
      one_of (bytes "$~:/st") w (omega (arith, h.mark, count_single (byte "/") (bytes "$~:/st") w refl)),
      starts_apart _ (byte "$") w h.number.first refl,
      starts_apart _ (byte "~") w h.number.first refl,
      none_of (bytes ":") (digit_or (bytes "+-/")) w h.number.made refl,
      one_of (bytes "/") w h.mark,
    )
kind_is pascal w e = token_sign (byte "$") is_upper w e (λ l q. rw (q, one_of (bytes "$~:/st") (byte "$" ∷ l) (count_some (bytes "$~:/st") [] (byte "$") l refl)))
kind_is camel w e = token_sign (byte "~") is_lower w e (λ l q. rw (q, one_of (bytes "$~:/st") (byte "~" ∷ l) (count_some (bytes "$~:/st") [] (byte "~") l refl)))
kind_is uuid w e =
    let h = uuid_made w e in
    rw (none_of (bytes "$~:/st") hex_dash w h.made refl, le-leb 3 (count (bytes "-") w) (omega (arith, h.many)))
kind_is iri w e =
    let h = iri_colon w e in
    let f = iri_first w e in
    rw (
      one_of (bytes "$~:/st") w (omega (arith, count_single (byte ":") (bytes "$~:/st") w refl)),
      starts_apart is_letter (byte "$") w f refl,
      starts_apart is_letter (byte "~") w f refl,
      one_of (bytes ":") w h,
    )

-- two kinds that fit one word are the same
pub word_kinds : (j k : Kind) (w : List ℕ) → fits j w ≡ true → fits k w ≡ true → j ≡ k
word_kinds j k w e f = sym (kind_is j w e) ∙ kind_is k w f

-- ---- so the order of the tests does not matter

-- the form of a word by these kinds is that of any one of them that fits
pub first_form_lem : (w : List ℕ) {k : Kind} {ks : List Kind} → Among k ks → fits k w ≡ true → first_form ks w ≡ form_of k
unfolding first_form
first_form_lem w {k} (here q) e = rw (← q, e)
first_form_lem w {k} (there {x = j} m) e = split (fits j w) (λ f. rw f (ap form_of (word_kinds j k w f e))) (λ f. rw f (first_form_lem w m e))

-- one of these kinds fits and gives the form, or none does
pub by_kind : {X : Type 0} (ks : List Kind) (w : List ℕ) → ((k : Kind) → fits k w ≡ true → first_form ks w ≡ form_of k → X) → (first_form ks w ≡ 0 → X) → X
unfolding first_form
by_kind [] w on off = off refl
by_kind (k ∷ ks) w on off = split (fits k w) (λ e. on k e (rw e)) (λ e. by_kind ks w (λ j f q. on j f (rw e q)) (λ q. off (rw e q)))

pub all_kinds : (k : Kind) → Among k kinds
unfolding kinds
all_kinds boolean = here refl
all_kinds integer = there (here refl)
all_kinds decimal = there (there (here refl))
all_kinds scientific = there (there (there (here refl)))
all_kinds fraction = there (there (there (there (here refl))))
all_kinds pascal = there (there (there (there (there (here refl)))))
all_kinds camel = there (there (there (there (there (there (here refl))))))
all_kinds uuid = there (there (there (there (there (there (there (here refl)))))))
all_kinds iri = there (there (there (there (there (there (there (there (here refl))))))))

-- the form of a word is that of the kind that fits
pub form_of_lem : (k : Kind) (w : List ℕ) → fits k w ≡ true → word_form w ≡ form_of k
form_of_lem k w e = word_form_lem w ∙ first_form_lem w (all_kinds k) e

-- and the one that the same tests give in any other order
pub any_order : (ks : List Kind) → ((k : Kind) → Among k ks) → (w : List ℕ) → word_form w ≡ first_form ks w
any_order ks a w =
    word_form_lem w ∙ by_kind kinds w (λ k e q. q ∙ sym (first_form_lem w (a k) e)) (λ z. by_kind ks w (λ k e q. first_form_lem w (all_kinds k) e ∙ sym q) (λ y. z ∙ sym y))

-- ---- how a word begins

-- bytes that begin no value: those that stand behind an item, and white space
abbrev pub begins_none : List ℕ
begins_none = bytes ",])" ++ (space ∷ tab ∷ lf ∷ cr ∷ [])

-- those, and the brackets that are one byte
abbrev pub begins_no_leaf : List ℕ
begins_no_leaf = bytes "[(" ++ begins_none

-- those, the quotes of the other values, and the brace of a time
abbrev pub begins_no_word : List ℕ
begins_no_word = bytes "\"'`{" ++ begins_no_leaf

-- what a word of each kind begins with
abbrev pub beginning : Kind → ℕ → Bool
beginning boolean = λ b. elem b (bytes "tf")
beginning integer = digit_or (bytes "+-")
beginning decimal = digit_or (bytes "+-")
beginning scientific = digit_or (bytes "+-")
beginning fraction = digit_or (bytes "+-")
beginning pascal = is (byte "$")
beginning camel = is (byte "~")
beginning uuid = hex_dash
beginning iri = is_letter

pub kind_first : (k : Kind) (w : List ℕ) → fits k w ≡ true → starts_in (beginning k) w ≡ true
unfolding elem starts_in
kind_first boolean w e = either (same w (bytes "true")) (same w (bytes "false")) e (λ f. rw (same_is w (bytes "true") f)) (λ f. rw (same_is w (bytes "false") f))
kind_first integer w e = (integer_number w e).first
kind_first decimal w e = (decimal_number w e).number.first
kind_first scientific w e = (scientific_number w e).number.first
kind_first fraction w e = (fraction_number w e).number.first
kind_first pascal w e = token_sign (byte "$") is_upper w e (λ l q. rw q)
kind_first camel w e = token_sign (byte "~") is_lower w e (λ l q. rw q)
kind_first uuid w e = uuid_first w e
kind_first iri w e = iri_first w e

-- so that the first byte says which kinds are to be tried
pub by_first : (ks : List Kind) (b : ℕ) (l : List ℕ) → ((k : Kind) → beginning k b ≡ true → Among k ks) → word_form (b ∷ l) ≡ first_form ks (b ∷ l)
unfolding starts_in
by_first ks b l a =
    word_form_lem (b ∷ l) ∙ by_kind kinds (b ∷ l) (λ k e q. q ∙ sym (first_form_lem (b ∷ l) (a k (kind_first k (b ∷ l) e)) e))
    (λ z. by_kind ks (b ∷ l) (λ k e q. first_form_lem (b ∷ l) (all_kinds k) e ∙ sym q) (λ y. z ∙ sym y))

begins : (class : ℕ → Bool) (w : List ℕ) → all (λ c. not (class c)) begins_no_word ≡ true → starts_in class w ≡ true → starts_in (without begins_no_word) w ≡ true
begins class w n e = starts_weaken class _ (λ b f. is_not (elem_apart class b begins_no_word f n)) w e

no_other : (k : Kind) → all (λ c. not (beginning k c)) begins_no_word ≡ true
unfolding elem all is_digit is_hex is_upper is_lower is_letter
no_other boolean = refl
no_other integer = refl
no_other decimal = refl
no_other scientific = refl
no_other fraction = refl
no_other pascal = refl
no_other camel = refl
no_other uuid = refl
no_other iri = refl

kind_begins : (k : Kind) (w : List ℕ) → fits k w ≡ true → starts_in (without begins_no_word) w ≡ true
kind_begins k w e = begins (beginning k) w (no_other k) (kind_first k w e)

-- a word of some kind begins with none of these bytes
pub word_begins : (w : List ℕ) → 1 ≤ word_form w → starts_in (without begins_no_word) w ≡ true
word_begins w h = by_kind kinds w (λ k e q. kind_begins k w e) (λ z. absurd (omega (arith, word_form_lem w, z)))
