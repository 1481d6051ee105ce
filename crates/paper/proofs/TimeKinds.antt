-- The kinds of times: the bytes of each, how it begins, and that what stands between two braces has one kind at most.
-- Document 02, Two; 001 §18. Assumes nothing.
use Prim.Native.Nat.{ℕ, zero, suc, ◌+◌}
use mathlib.Core.Path.{◌≡◌, refl, sym, ap, ◌∙◌}
use mathlib.Core.Bool.{Bool, true, false, not, ◌&&◌, ◌||◌}
use mathlib.Core.List.Memᴰ.{head as here}
use mathlib.Core.List.Memᴰ.{tail as there}
use mathlib.Core.List.{List, [], ◌∷◌, ◌++◌, append-nil, Memᴰ as Among}
use mathlib.Core.Option.{none, some}
use native.Mathlib.Omega.{arith}
use lib.ListN.{length, drop, length-append}
use lib.Dec.{eqb}
use borrow.Author.Tests.{eqb-true}
use Rattle.paper.specs.Found.{pick}
use Rattle.paper.specs.Bytes.{byte, bytes, within, is_digit, is_lower, is_letter, is_upper, is_name_byte, all, elem, same, starts_in, up_to, onward, past, are_digits}
use Rattle.paper.specs.Bytes.{length_in}
use Rattle.paper.specs.Times.{among, is_empty, parted, perhaps, digits, number, two_digits, is_year, is_month, is_hour, is_sixtieth, is_day_of, is_date, is_year_month}
use Rattle.paper.specs.Times.{is_time, is_local, is_offset, is_zone_byte, is_zone_name, is_zone, is_zoned_time, is_zoned, are_parts, are_date_parts, are_time_parts, is_span}
use Rattle.paper.specs.Times.{is_duration, is_reserved}
use Rattle.paper.specs.Times.{TimeKind, zoned, local, date, year_month, month_day, time, duration, reserved, is_of, time_kinds, first_fit, time_kind}
use Rattle.paper.proofs.Tests.{split, true_false, apart, either, or_left, or_right, below, in_range}
use Rattle.paper.proofs.Lists.{both, is_not, by_front, empty_is, all_nil, all_cons, all_head, all_weaken, all_append, all_among, elem_apart, starts_append}
use Rattle.paper.proofs.Lists.{front_behind, marked, front_of, behind_of, starts_off, same_is}
use Rattle.paper.proofs.WordKinds.{digit_or}
use Rattle.paper.proofs.TimeParts.{other, parted_splits, parted_bytes, perhaps_bytes}

-- ---- fields

pub digits_of : (n : ℕ) (w : List ℕ) → digits n w ≡ true → (length w ≡ n) × (all is_digit w ≡ true)
unfolding digits
digits_of n w e = let h = both (eqb (length w) n) (all is_digit w) e in (eqb-true (length w) n h.0, h.1)

two_of : (low high : ℕ) (w : List ℕ) → two_digits low high w ≡ true → digits 2 w ≡ true
unfolding two_digits
two_of low high w e = (both (digits 2 w) (within low high (number w)) e).0

-- digits begin with one, if there are any
begins_digit : (n : ℕ) (w : List ℕ) → digits (suc n) w ≡ true → starts_in is_digit w ≡ true
unfolding starts_in
begins_digit n [] e = absurd (omega (arith, (digits_of (suc n) [] e).0))
begins_digit n (b ∷ w) e = (all_head is_digit b w (digits_of (suc n) (b ∷ w) e).1).0

-- ---- the bytes of each kind, where digits and its marks are of the class

module _ (class : ℕ → Bool) (digit : (b : ℕ) → is_digit b ≡ true → class b ≡ true) where
  pub field_bytes : (n : ℕ) (w : List ℕ) → digits n w ≡ true → all class w ≡ true
  field_bytes n w e = all_weaken is_digit class digit w (digits_of n w e).1

  pub two_bytes : (low high : ℕ) (w : List ℕ) → two_digits low high w ≡ true → all class w ≡ true
  two_bytes low high w e = field_bytes 2 w (two_of low high w e)

  pub run_bytes : (w : List ℕ) → are_digits w ≡ true → all class w ≡ true
  unfolding are_digits
  run_bytes w e = all_weaken is_digit class digit w (both (starts_in is_digit w) (all is_digit w) e).1

  module _ (dash : all class (bytes "-") ≡ true) where
    day_bytes : (year : ℕ) (w : List ℕ) → is_day_of year w ≡ true → all class w ≡ true
    unfolding is_day_of
    day_bytes year w e = parted_bytes class (bytes "-") is_month _ dash (two_bytes 1 12) (λ x. two_bytes 1 _ x) w e

    date_bytes : (w : List ℕ) → is_date w ≡ true → all class w ≡ true
    unfolding is_date
    date_bytes w e = parted_bytes class (bytes "-") is_year _ dash (field_bytes 4) (λ x. day_bytes _ x) w e

    year_month_bytes : (w : List ℕ) → is_year_month w ≡ true → all class w ≡ true
    unfolding is_year_month
    year_month_bytes w e = parted_bytes class (bytes "-") is_year is_month dash (field_bytes 4) (two_bytes 1 12) w e

  module _ (colon : all class (bytes ":") ≡ true) (point : all class (bytes ".") ≡ true) where
    pub time_bytes : (w : List ℕ) → is_time w ≡ true → all class w ≡ true
    unfolding is_time
    time_bytes w e =
        parted_bytes class (bytes ":") is_hour _ colon (two_bytes 0 23)
        (perhaps_bytes class (bytes ":") is_sixtieth _ colon (two_bytes 0 59)
        (perhaps_bytes class (bytes ".") is_sixtieth are_digits point (two_bytes 0 59) run_bytes)) w e

  -- a byte of these, and what stands behind it
  marked_bytes : (cs w : List ℕ) → all class cs ≡ true → starts_in (among cs) w ≡ true → all class (drop 1 w) ≡ true → all class w ≡ true
  unfolding starts_in
  marked_bytes cs [] m e a = true_false (sym e)
  marked_bytes cs (b ∷ w) m e a = all_cons class b w (all_among class b cs e m) a

  pub offset_bytes : all class (bytes "Z") ≡ true → all class (bytes "+-") ≡ true → all class (bytes ":") ≡ true → (w : List ℕ) → is_offset w ≡ true
      → all class w ≡ true
  unfolding is_offset
  offset_bytes zulu signs colon w e =
      either (same w (bytes "Z")) _ e (λ k. rw (same_is w (bytes "Z") k) zulu)
      (λ k. let h = both (starts_in (among (bytes "+-")) w) _ k in
      marked_bytes (bytes "+-") w signs h.0
      (parted_bytes class (bytes ":") is_hour is_sixtieth colon (two_bytes 0 23) (two_bytes 0 59) (drop 1 w) h.1))

  -- parts of a duration
  pub parts_bytes : (size : List ℕ → Bool) (letters : List ℕ) → ((x : List ℕ) → size x ≡ true → all class x ≡ true) → all class letters ≡ true
      → (fuel : ℕ) (w : List ℕ) → are_parts size letters fuel w ≡ true → all class w ≡ true
  unfolding are_parts
  parts_bytes size letters sizes marks zero w e = true_false (sym e)
  parts_bytes size letters sizes marks (suc fuel) w e =
      parted_bytes class letters size _ marks sizes
      (λ x k. either (is_empty x) (are_parts size letters fuel x) k
      (λ z. rw (empty_is x z) (all_nil class)) (parts_bytes size letters sizes marks fuel x)) w e

-- every byte of a time is one of these: no white space, no brace, no control
abbrev pub inside_byte : ℕ → Bool
inside_byte b = is_name_byte b || elem b (bytes "-:.+/_[]")

inside_digit : (b : ℕ) → is_digit b ≡ true → inside_byte b ≡ true
unfolding is_name_byte
inside_digit b e = or_left (is_name_byte b) _ (or_right (is_letter b) (is_digit b) e)

inside_zone : (b : ℕ) → is_zone_byte b ≡ true → inside_byte b ≡ true
unfolding is_zone_byte all elem is_name_byte is_letter is_upper is_lower is_digit
inside_zone b e =
    either (is_name_byte b) (elem b (bytes "/_-")) e (or_left (is_name_byte b) _) (λ k. all_among inside_byte b (bytes "/_-") k refl)

zone_inside : (w : List ℕ) → is_zone w ≡ true → all inside_byte w ≡ true
unfolding is_zone is_zone_name all elem is_name_byte is_letter is_upper is_lower is_digit
zone_inside w e =
    perhaps_bytes inside_byte (bytes "[") is_offset is_zone_name refl (offset_bytes inside_byte inside_digit refl refl refl)
    (parted_bytes inside_byte (bytes "]") _ is_empty refl
    (λ x k. all_weaken is_zone_byte inside_byte inside_zone x (both (starts_in is_zone_byte x) (all is_zone_byte x) k).1)
    (λ x k. rw (empty_is x k) (all_nil inside_byte))) w e

zoned_time_inside : (w : List ℕ) → is_zoned_time w ≡ true → all inside_byte w ≡ true
unfolding is_zoned_time all elem is_name_byte is_letter is_upper is_lower is_digit
zoned_time_inside w e =
    let h = both (is_time (up_to (among (bytes "Z+-")) w)) (is_zone (onward (among (bytes "Z+-")) w)) e in
    rw (← front_behind (other (bytes "Z+-")) w)
    (all_append inside_byte (up_to (among (bytes "Z+-")) w) (onward (among (bytes "Z+-")) w)
    (time_bytes inside_byte inside_digit refl refl _ h.0) (zone_inside _ h.1))

date_parts_inside : (w : List ℕ) → are_date_parts w ≡ true → all inside_byte w ≡ true
unfolding all elem is_name_byte is_letter is_upper is_lower is_digit
date_parts_inside w e = parts_bytes inside_byte inside_digit are_digits (bytes "YMWD") (run_bytes inside_byte inside_digit) refl (length w) w e

time_parts_inside : (w : List ℕ) → are_time_parts w ≡ true → all inside_byte w ≡ true
unfolding all elem is_name_byte is_letter is_upper is_lower is_digit
time_parts_inside w e =
    let run = run_bytes inside_byte inside_digit in
    parts_bytes inside_byte inside_digit _ (bytes "HMS") (perhaps_bytes inside_byte (bytes ".") are_digits are_digits refl run run) refl (length w) w e

span_inside : (w : List ℕ) → is_span w ≡ true → all inside_byte w ≡ true
unfolding is_span all elem is_name_byte is_letter is_upper is_lower is_digit
span_inside w e =
    either (are_date_parts w) _ e (date_parts_inside w)
    (parted_bytes inside_byte (bytes "T") _ are_time_parts refl
    (λ x k. either (is_empty x) (are_date_parts x) k (λ z. rw (empty_is x z) (all_nil inside_byte)) (date_parts_inside x)) time_parts_inside w)

pub all_inside : (k : TimeKind) (w : List ℕ) → is_of k w ≡ true → all inside_byte w ≡ true
unfolding is_zoned is_local is_duration is_reserved all elem is_name_byte is_letter is_upper is_lower is_digit
all_inside zoned w e = parted_bytes inside_byte (bytes "T") is_date is_zoned_time refl (date_bytes inside_byte inside_digit refl) zoned_time_inside w e
all_inside local w e =
    parted_bytes inside_byte (bytes "T") is_date is_time refl (date_bytes inside_byte inside_digit refl) (time_bytes inside_byte inside_digit refl refl) w e
all_inside date w e = date_bytes inside_byte inside_digit refl w e
all_inside year_month w e = year_month_bytes inside_byte inside_digit refl w e
all_inside month_day w e = day_bytes inside_byte inside_digit refl 0 w e
all_inside time w e = time_bytes inside_byte inside_digit refl refl w e
all_inside duration w e =
    let h = both (starts_in (among (bytes "P")) w) (is_span (drop 1 w)) e in marked_bytes inside_byte inside_digit (bytes "P") w refl h.0 (span_inside (drop 1 w) h.1)
all_inside reserved w e =
    either (same w (bytes "now")) (same w (bytes "today")) e (λ k. rw (same_is w (bytes "now") k) refl) (λ k. rw (same_is w (bytes "today") k) refl)

-- so that no other byte stands in it
pub inside_free : (c : ℕ) → inside_byte c ≡ false → (k : TimeKind) (w : List ℕ) → is_of k w ≡ true → all (λ b. not (eqb b c)) w ≡ true
inside_free c n k w e = all_weaken inside_byte (λ b. not (eqb b c)) (λ b i. is_not (apart inside_byte b c i n)) w (all_inside k w e)

-- ---- what tells a kind from the others

-- a byte of the set stands in the list
abbrev pub has : List ℕ → List ℕ → Bool
has set w = starts_in (among set) (onward (among set) w)

-- by its first byte, by a "T" and what stands behind it, by a ":", or by its length
unfoldable pub tells : List ℕ → TimeKind
tells w =
    pick (starts_in (among (bytes "P")) w) duration
    (pick (starts_in is_lower w) reserved
    (pick (has (bytes "T") w) (pick (has (bytes "Z+-") (past (among (bytes "T")) w)) zoned local)
    (pick (has (bytes ":") w) time
    (pick (eqb (length w) 10) date
    (pick (eqb (length w) 7) year_month month_day)))))

-- a list of a class has no byte that is not of it
has_none : (class : ℕ → Bool) (set w : List ℕ) → all class w ≡ true → all (λ c. not (class c)) set ≡ true → has set w ≡ false
unfolding starts_in
has_none class set w a n =
    let apart : all (other set) w ≡ true = all_weaken class (other set) (λ b e. is_not (elem_apart class b set e n)) w a in
    rw (ap (onward (among set)) (sym (append-nil w)) ∙ behind_of (other set) w [] apart refl)

-- no part of a date has a "T"
pub dates_free : (w : List ℕ) → are_date_parts w ≡ true → has (bytes "T") w ≡ false
unfolding all elem is_digit
dates_free w e =
    let digit : (b : ℕ) → is_digit b ≡ true → digit_or (bytes "YMWD") b ≡ true = λ b d. or_left (is_digit b) _ d in
    has_none (digit_or (bytes "YMWD")) (bytes "T") w
    (parts_bytes (digit_or (bytes "YMWD")) digit are_digits (bytes "YMWD") (run_bytes (digit_or (bytes "YMWD")) digit) refl (length w) w e) refl

-- what is parted has a byte of the set, and begins as its first part does
module _ (set : List ℕ) (first second : List ℕ → Bool) where
  has_mark : (w : List ℕ) → parted set first second w ≡ true → has set w ≡ true
  unfolding parted
  has_mark w e = (both (first (up_to (among set) w)) (has set w) (both (first (up_to (among set) w) && has set w) _ e).0).1

  second_of : (w : List ℕ) → parted set first second w ≡ true → second (past (among set) w) ≡ true
  unfolding parted
  second_of w e = (both (first (up_to (among set) w) && has set w) _ e).1

  parted_begins : (class : ℕ → Bool) → ((x : List ℕ) → first x ≡ true → starts_in class x ≡ true) → (w : List ℕ) → parted set first second w ≡ true → starts_in class w ≡ true
  parted_begins class b w e =
      let p = parted_splits set first second w e in rw p.whole (starts_append class p.front (p.mark ∷ p.rest) (b p.front p.fits))

  parted_length : (m n : ℕ) → ((x : List ℕ) → first x ≡ true → length x ≡ m) → ((x : List ℕ) → second x ≡ true → length x ≡ n) → (w : List ℕ)
      → parted set first second w ≡ true → length w ≡ m + suc n
  parted_length m n f s w e =
      let p = parted_splits set first second w e in
      omega (arith, ap length p.whole, length-append p.front (p.mark ∷ p.rest), f p.front p.fits, s p.rest p.also)

two_length : (low high : ℕ) (w : List ℕ) → two_digits low high w ≡ true → length w ≡ 2
two_length low high w e = (digits_of 2 w (two_of low high w e)).0

two_begins : (low high : ℕ) (w : List ℕ) → two_digits low high w ≡ true → starts_in is_digit w ≡ true
two_begins low high w e = begins_digit 1 w (two_of low high w e)

day_length : (year : ℕ) (w : List ℕ) → is_day_of year w ≡ true → length w ≡ 5
unfolding is_day_of
day_length year w e = parted_length (bytes "-") is_month _ 2 2 (two_length 1 12) (λ x. two_length 1 _ x) w e

date_length : (w : List ℕ) → is_date w ≡ true → length w ≡ 10
unfolding is_date
date_length w e = parted_length (bytes "-") is_year _ 4 5 (λ x k. (digits_of 4 x k).0) (λ x. day_length _ x) w e

year_month_length : (w : List ℕ) → is_year_month w ≡ true → length w ≡ 7
unfolding is_year_month
year_month_length w e = parted_length (bytes "-") is_year is_month 4 2 (λ x k. (digits_of 4 x k).0) (two_length 1 12) w e

date_begins : (w : List ℕ) → is_date w ≡ true → starts_in is_digit w ≡ true
unfolding is_date
date_begins w e = parted_begins (bytes "-") is_year _ is_digit (begins_digit 3) w e

-- a zone is not empty
zone_there : (w : List ℕ) → is_zoned_time w ≡ true → has (bytes "Z+-") w ≡ true
unfolding is_zoned_time is_zone is_offset perhaps starts_in same length_in elem
zone_there w e =
    by_front (onward (among (bytes "Z+-")) w)
    (λ z. true_false (sym (rw z at (both (is_time (up_to (among (bytes "Z+-")) w)) (is_zone (onward (among (bytes "Z+-")) w)) e).1)))
    (λ b l z. rw z (marked (among (bytes "Z+-")) w b l z).0)

-- a kind that begins with a digit is no duration and no reserved word
numbered : (w : List ℕ) → starts_in is_digit w ≡ true → (starts_in (among (bytes "P")) w ≡ false) × (starts_in is_lower w ≡ false)
unfolding elem all is_digit is_lower
numbered w e = (
  starts_off is_digit (among (bytes "P")) (λ b d. elem_apart is_digit b (bytes "P") d refl) w e,
  starts_off is_digit is_lower (λ b d. let h = in_range 0x30 0x39 b d in below 0x61 0x7A b (omega arith)) w e,
)

-- a date, "T" and what stands behind it, which tells more
module _ (d : List ℕ) (e : is_date d ≡ true) (w : List ℕ) where
  no_t : all (other (bytes "T")) d ≡ true
  unfolding elem all is_digit
  no_t =
      all_weaken (digit_or (bytes "-")) (other (bytes "T")) (λ b i. is_not (elem_apart (digit_or (bytes "-")) b (bytes "T") i refl)) d
      (date_bytes (digit_or (bytes "-")) (λ b i. or_left (is_digit b) _ i) refl d e)

  before_t : up_to (among (bytes "T")) (d ++ (byte "T" ∷ w)) ≡ d
  unfolding starts_in elem
  before_t = front_of (other (bytes "T")) d (byte "T" ∷ w) no_t refl

  from_t : onward (among (bytes "T")) (d ++ (byte "T" ∷ w)) ≡ byte "T" ∷ w
  unfolding starts_in elem
  from_t = behind_of (other (bytes "T")) d (byte "T" ∷ w) no_t refl

  pub local_is : is_local (d ++ (byte "T" ∷ w)) ≡ is_time w
  unfolding is_local parted starts_in elem
  local_is = rw (before_t, from_t, e)

  pub zoned_is : is_zoned (d ++ (byte "T" ∷ w)) ≡ is_zoned_time w
  unfolding is_zoned parted starts_in elem
  zoned_is = rw (before_t, from_t, e)

  pub moment_told : tells (d ++ (byte "T" ∷ w)) ≡ pick (has (bytes "Z+-") w) zoned local
  unfolding tells starts_in elem
  moment_told = let n = numbered (d ++ (byte "T" ∷ w)) (starts_append is_digit d _ (date_begins d e)) in rw (n.0, n.1, from_t)

with_t : (second : List ℕ → Bool) (w : List ℕ) → parted (bytes "T") is_date second w ≡ true
    → tells w ≡ pick (has (bytes "Z+-") (past (among (bytes "T")) w)) zoned local
unfolding tells
with_t second w e =
    let n = numbered w (parted_begins (bytes "T") is_date second is_digit date_begins w e) in
    rw (n.0, n.1, has_mark (bytes "T") is_date second w e)

-- one without a "T", by a ":" or its length

dated : (w : List ℕ) → starts_in is_digit w ≡ true → all (digit_or (bytes "-")) w ≡ true
    → tells w ≡ pick (eqb (length w) 10) date (pick (eqb (length w) 7) year_month month_day)
unfolding tells elem all is_digit
dated w b a =
    let n = numbered w b in
    rw (n.0, n.1, has_none (digit_or (bytes "-")) (bytes "T") w a refl, has_none (digit_or (bytes "-")) (bytes ":") w a refl)

kind_is : (k : TimeKind) (w : List ℕ) → is_of k w ≡ true → tells w ≡ k
unfolding tells is_zoned is_local is_zoned_time is_time is_year_month is_day_of is_duration is_reserved starts_in elem all is_digit is_lower
kind_is zoned w e =
    with_t is_zoned_time w e ∙ rw (zone_there (past (among (bytes "T")) w) (second_of (bytes "T") is_date is_zoned_time w e))
kind_is local w e =
    let a = time_bytes (digit_or (bytes ":.")) (λ b d. or_left (is_digit b) _ d) refl refl _ (second_of (bytes "T") is_date is_time w e) in
    with_t is_time w e ∙ rw (has_none (digit_or (bytes ":.")) (bytes "Z+-") (past (among (bytes "T")) w) a refl)
kind_is date w e =
    dated w (date_begins w e) (date_bytes (digit_or (bytes "-")) (λ b d. or_left (is_digit b) _ d) refl w e) ∙ rw (date_length w e)
kind_is year_month w e =
    dated w (parted_begins (bytes "-") is_year is_month is_digit (begins_digit 3) w e)
    (year_month_bytes (digit_or (bytes "-")) (λ b d. or_left (is_digit b) _ d) refl w e) ∙ rw (year_month_length w e)
kind_is month_day w e =
    dated w (parted_begins (bytes "-") is_month _ is_digit (two_begins 1 12) w e)
    (day_bytes (digit_or (bytes "-")) (λ b d. or_left (is_digit b) _ d) refl 0 w e) ∙ rw (day_length 0 w e)
kind_is time w e =
    let n = numbered w (parted_begins (bytes ":") is_hour _ is_digit (two_begins 0 23) w e) in
    let a = time_bytes (digit_or (bytes ":.")) (λ b d. or_left (is_digit b) _ d) refl refl w e in
    rw (n.0, n.1, has_none (digit_or (bytes ":.")) (bytes "T") w a refl, has_mark (bytes ":") is_hour _ w e)
kind_is duration w e = rw (both (starts_in (among (bytes "P")) w) (is_span (drop 1 w)) e).0
kind_is reserved w e =
    either (same w (bytes "now")) (same w (bytes "today")) e (λ k. rw (same_is w (bytes "now") k) refl) (λ k. rw (same_is w (bytes "today") k) refl)

-- two kinds that fit are the same
pub time_kinds_lem : (j k : TimeKind) (w : List ℕ) → is_of j w ≡ true → is_of k w ≡ true → j ≡ k
time_kinds_lem j k w e f = sym (kind_is j w e) ∙ kind_is k w f

-- ---- so the order of the tests does not matter

-- the first of these kinds that fits is any one of them that fits
first_fit_lem : (w : List ℕ) {k : TimeKind} {ks : List TimeKind} → Among k ks → is_of k w ≡ true → first_fit ks w ≡ some k
unfolding first_fit
first_fit_lem w {k} (here q) e = rw (← q, e)
first_fit_lem w {k} (there {x = j} m) e = split (is_of j w) (λ f. rw f (ap some (time_kinds_lem j k w f e))) (λ f. rw f (first_fit_lem w m e))

every_kind : (k : TimeKind) → Among k time_kinds
every_kind zoned = here refl
every_kind local = there (here refl)
every_kind date = there (there (here refl))
every_kind year_month = there (there (there (here refl)))
every_kind month_day = there (there (there (there (here refl))))
every_kind time = there (there (there (there (there (here refl)))))
every_kind duration = there (there (there (there (there (there (here refl))))))
every_kind reserved = there (there (there (there (there (there (there (here refl)))))))

-- the kind of a time is the one that fits
pub kind_of_lem : (k : TimeKind) (w : List ℕ) → is_of k w ≡ true → time_kind w ≡ some k
kind_of_lem k w e = first_fit_lem w (every_kind k) e

-- one of these kinds fits and is the first, or none does
by_fit : {X : Type 0} (ks : List TimeKind) (w : List ℕ) → ((k : TimeKind) → is_of k w ≡ true → first_fit ks w ≡ some k → X) → (first_fit ks w ≡ none → X) → X
unfolding first_fit
by_fit [] w on off = off refl
by_fit (k ∷ ks) w on off = split (is_of k w) (λ e. on k e (rw e)) (λ e. by_fit ks w (λ j f q. on j f (rw e q)) (λ q. off (rw e q)))

pub by_time_kind : {X : Type 0} (w : List ℕ) → ((k : TimeKind) → is_of k w ≡ true → time_kind w ≡ some k → X) → (time_kind w ≡ none → X) → X
by_time_kind w on off = by_fit time_kinds w on off

-- it is what tells it from the others, if that fits
pub kind_told : {k : TimeKind} (w : List ℕ) → tells w ≡ k → time_kind w ≡ pick (is_of k w) (some k) none
kind_told {k} w t =
    split (is_of k w) (λ e. rw e (kind_of_lem k w e))
    (λ e. rw e (by_time_kind w (λ j f q. true_false (sym f ∙ ap (λ (i : TimeKind). is_of i w) (sym (kind_is j w f) ∙ t) ∙ e)) (λ q. q)))
