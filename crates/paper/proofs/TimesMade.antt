-- Whatever 001 §18 makes by joining parts is of the kind that it names: no part in front has a byte at which the definitions part a list.
-- The other way round is `parted_splits` and `perhaps_splits` (TimeParts). Document 02, Two; 001 §18. Assumes nothing.
use Prim.Native.Nat.{ℕ, zero, suc, ◌+◌, ◌≤◌}
use mathlib.Core.Path.{◌≡◌, refl, sym, ap, ◌∙◌}
use mathlib.Core.Bool.{Bool, true, false, not, ◌&&◌, ◌||◌}
use mathlib.Core.List.{List, [], ◌∷◌, ◌++◌}
use native.Mathlib.Omega.{arith}
use lib.ListN.{length, length-append}
use lib.Dec.{eqb}
use Rattle.paper.specs.Bytes.{byte, bytes, is_upper, is_lower, is_digit, is_letter, is_name_byte, all, elem, same, starts_in, up_to, onward, are_digits, length_in}
use Rattle.paper.specs.Times.{among, is_empty, parted, perhaps, digits, number, two_digits, is_year, is_month, is_hour, is_sixtieth, days_of, is_day_of, is_date}
use Rattle.paper.specs.Times.{is_year_month, is_time, is_local, is_offset, is_zone_byte, is_zone_name, is_zone, is_zoned_time, is_zoned, are_parts, are_date_parts, are_time_parts}
use Rattle.paper.specs.Times.{is_span, is_duration}
use Rattle.paper.proofs.Tests.{split, either, or_left, or_right}
use Rattle.paper.proofs.Lists.{both, and, is_not, empty_is, all_nil, all_weaken, elem_apart, starts_weaken, starts_append, starts_off, front_of, behind_of}
use Rattle.paper.proofs.Lists.{marked, by_front, same_is}
use Rattle.paper.proofs.TimeParts.{other, parted_joins, perhaps_alone, perhaps_joins, perhaps_bytes}
use Rattle.paper.proofs.TimeKinds.{field_bytes, two_bytes, run_bytes, time_bytes, offset_bytes, parts_bytes, local_is, zoned_is}

-- ---- no field of digits has a mark

module _ (set : List ℕ) (none : all (λ c. not (is_digit c)) set ≡ true) where
  no_mark : (b : ℕ) → is_digit b ≡ true → other set b ≡ true
  no_mark b d = is_not (elem_apart is_digit b set d none)

  two_apart : (low high : ℕ) (w : List ℕ) → two_digits low high w ≡ true → all (other set) w ≡ true
  two_apart = two_bytes (other set) no_mark

  field_apart : (n : ℕ) (w : List ℕ) → digits n w ≡ true → all (other set) w ≡ true
  field_apart = field_bytes (other set) no_mark

  run_apart : (w : List ℕ) → are_digits w ≡ true → all (other set) w ≡ true
  run_apart = run_bytes (other set) no_mark

-- ---- dates

module _ (v rest : List ℕ) where
  before_dash : all (other (bytes "-")) v ≡ true → up_to (among (bytes "-")) (v ++ (byte "-" ∷ rest)) ≡ v
  unfolding starts_in elem
  before_dash a = front_of (other (bytes "-")) v (byte "-" ∷ rest) a refl

-- Month, "-", Day
pub month_day_made : (year : ℕ) (month day : List ℕ) → is_month month ≡ true → two_digits 1 (days_of year (number month)) day ≡ true
    → is_day_of year (month ++ (byte "-" ∷ day)) ≡ true
unfolding is_day_of elem all is_digit
month_day_made year month day m d =
    let apart = two_apart (bytes "-") refl 1 12 in
    parted_joins (bytes "-") is_month _ apart _ (record {
      front = month;
      mark = byte "-";
      rest = day;
      whole = refl;
      one = refl;
      fits = m;
      also = rw (before_dash month day (apart month m)) d;
    })

-- Year, "-", Month, "-", Day
pub date_made : (year rest : List ℕ) → is_year year ≡ true → is_day_of (number year) rest ≡ true → is_date (year ++ (byte "-" ∷ rest)) ≡ true
unfolding is_date elem all is_digit
date_made year rest y d =
    let apart = field_apart (bytes "-") refl 4 in
    parted_joins (bytes "-") is_year _ apart _ (record {
      front = year;
      mark = byte "-";
      rest = rest;
      whole = refl;
      one = refl;
      fits = y;
      also = rw (before_dash year rest (apart year y)) d;
    })

-- Year, "-", Month
pub year_month_made : (year month : List ℕ) → is_year year ≡ true → is_month month ≡ true → is_year_month (year ++ (byte "-" ∷ month)) ≡ true
unfolding is_year_month elem all is_digit
year_month_made year month y m =
    parted_joins (bytes "-") is_year is_month (field_apart (bytes "-") refl 4) _
    (record { front = year; mark = byte "-"; rest = month; whole = refl; one = refl; fits = y; also = m })

-- ---- times of day

-- Second, [ ".", Milliseconds ], and Minute, [ ":", that ]
abbrev is_past_minute : List ℕ → Bool
is_past_minute = perhaps (bytes ".") is_sixtieth are_digits

abbrev is_past_hour : List ℕ → Bool
is_past_hour = perhaps (bytes ":") is_sixtieth is_past_minute

minute_apart : (w : List ℕ) → is_sixtieth w ≡ true → all (other (bytes ":")) w ≡ true
unfolding all elem is_digit
minute_apart = two_apart (bytes ":") refl 0 59

second_apart : (w : List ℕ) → is_sixtieth w ≡ true → all (other (bytes ".")) w ≡ true
unfolding all elem is_digit
second_apart = two_apart (bytes ".") refl 0 59

past_hour : (hour rest : List ℕ) → is_hour hour ≡ true → is_past_hour rest ≡ true → is_time (hour ++ (byte ":" ∷ rest)) ≡ true
unfolding is_time elem all is_digit
past_hour hour rest h r =
    parted_joins (bytes ":") is_hour is_past_hour (two_apart (bytes ":") refl 0 23) _
    (record { front = hour; mark = byte ":"; rest = rest; whole = refl; one = refl; fits = h; also = r })

past_minute : (minute rest : List ℕ) → is_sixtieth minute ≡ true → is_past_minute rest ≡ true → is_past_hour (minute ++ (byte ":" ∷ rest)) ≡ true
unfolding elem
past_minute minute rest m r =
    perhaps_joins (bytes ":") is_sixtieth is_past_minute minute_apart _
    (record { front = minute; mark = byte ":"; rest = rest; whole = refl; one = refl; fits = m; also = r })

module _ (hour minute : List ℕ) (h : is_hour hour ≡ true) (m : is_sixtieth minute ≡ true) where
  -- Hour, ":", Minute
  pub time_made : is_time (hour ++ (byte ":" ∷ minute)) ≡ true
  time_made = past_hour hour minute h (perhaps_alone (bytes ":") is_sixtieth is_past_minute minute_apart minute m)

  module _ (second : List ℕ) (s : is_sixtieth second ≡ true) where
    -- Hour, ":", Minute, ":", Second
    pub seconds_made : is_time (hour ++ (byte ":" ∷ (minute ++ (byte ":" ∷ second)))) ≡ true
    seconds_made = past_hour hour _ h (past_minute minute second m (perhaps_alone (bytes ".") is_sixtieth are_digits second_apart second s))

    -- Hour, ":", Minute, ":", Second, ".", Milliseconds
    pub fraction_made : (rest : List ℕ) → are_digits rest ≡ true → is_time (hour ++ (byte ":" ∷ (minute ++ (byte ":" ∷ (second ++ (byte "." ∷ rest)))))) ≡ true
    unfolding elem
    fraction_made rest r =
        past_hour hour _ h (past_minute minute _ m (perhaps_joins (bytes ".") is_sixtieth are_digits second_apart _
        (record { front = second; mark = byte "."; rest = rest; whole = refl; one = refl; fits = s; also = r })))

-- Date, "T", Time
pub local_made : (d t : List ℕ) → is_date d ≡ true → is_time t ≡ true → is_local (d ++ (byte "T" ∷ t)) ≡ true
local_made d t e f = local_is d e t ∙ f

-- ---- zones

-- "Z" | ( "+" | "-" ), Hour, ":", Minute
pub zulu_made : is_offset (bytes "Z") ≡ true
unfolding is_offset same
zulu_made = refl

pub offset_made : (sign : ℕ) (hour minute : List ℕ) → elem sign (bytes "+-") ≡ true → is_hour hour ≡ true → is_sixtieth minute ≡ true
    → is_offset (sign ∷ (hour ++ (byte ":" ∷ minute))) ≡ true
unfolding is_offset starts_in elem all is_digit
offset_made sign hour minute s h m =
    or_right (same (sign ∷ (hour ++ (byte ":" ∷ minute))) (bytes "Z")) _ (and s
    (parted_joins (bytes ":") is_hour is_sixtieth (two_apart (bytes ":") refl 0 23) _
    (record { front = hour; mark = byte ":"; rest = minute; whole = refl; one = refl; fits = h; also = m })))

offset_apart : (w : List ℕ) → is_offset w ≡ true → all (other (bytes "[")) w ≡ true
unfolding all elem is_digit
offset_apart = offset_bytes (other (bytes "[")) (no_mark (bytes "[") refl) refl refl refl

-- an offset begins with one of these, which no time has
offset_begins : (w : List ℕ) → is_offset w ≡ true → starts_in (among (bytes "Z+-")) w ≡ true
unfolding is_offset starts_in elem
offset_begins w e =
    either (same w (bytes "Z")) _ e (λ k. rw (same_is w (bytes "Z") k) refl)
    (λ k. starts_weaken (among (bytes "+-")) (among (bytes "Z+-")) (λ b i. or_right (eqb b (byte "Z")) _ i) w (both (starts_in (among (bytes "+-")) w) _ k).0)

time_apart : (w : List ℕ) → is_time w ≡ true → all (other (bytes "Z+-")) w ≡ true
unfolding all elem is_digit
time_apart = time_bytes (other (bytes "Z+-")) (no_mark (bytes "Z+-") refl) refl refl

zoned_time : (t z : List ℕ) → is_time t ≡ true → is_zone z ≡ true → starts_in (among (bytes "Z+-")) z ≡ true → is_zoned_time (t ++ z) ≡ true
unfolding is_zoned_time
zoned_time t z e f b =
    let stop : starts_in (other (bytes "Z+-")) z ≡ false = starts_off (among (bytes "Z+-")) (other (bytes "Z+-")) (λ c i. ap not i) z b in
    rw (front_of (other (bytes "Z+-")) t z (time_apart t e) stop, behind_of (other (bytes "Z+-")) t z (time_apart t e) stop, e, f)

module _ (d t o : List ℕ) (e : is_date d ≡ true) (f : is_time t ≡ true) (g : is_offset o ≡ true) where
  -- LocalDateTime, TimeZoneOffset
  pub zoned_made : is_zoned (d ++ (byte "T" ∷ (t ++ o))) ≡ true
  unfolding is_zone
  zoned_made = zoned_is d e (t ++ o) ∙ zoned_time t o f (perhaps_alone (bytes "[") is_offset is_zone_name offset_apart o g) (offset_begins o g)

  -- LocalDateTime, TimeZoneOffset, "[", TimeZoneIdChar, { TimeZoneIdChar }, "]"
  pub named_made : (name : List ℕ) → starts_in is_zone_byte name ≡ true → all is_zone_byte name ≡ true
      → is_zoned (d ++ (byte "T" ∷ (t ++ (o ++ (byte "[" ∷ (name ++ (byte "]" ∷ []))))))) ≡ true
  unfolding is_zone is_zone_name is_zone_byte elem all is_name_byte is_letter is_upper is_lower is_digit
  named_made name s a =
      let behind = o ++ (byte "[" ∷ (name ++ (byte "]" ∷ []))) in
      let named : is_zone_name (name ++ (byte "]" ∷ [])) ≡ true =
      parted_joins (bytes "]") _ is_empty
      (λ x k. all_weaken is_zone_byte (other (bytes "]")) (λ b i. is_not (elem_apart is_zone_byte b (bytes "]") i refl)) x
      (both (starts_in is_zone_byte x) (all is_zone_byte x) k).1) _
      (record { front = name; mark = byte "]"; rest = []; whole = refl; one = refl; fits = and s a; also = refl }) in
      zoned_is d e (t ++ behind) ∙ zoned_time t behind f
      (perhaps_joins (bytes "[") is_offset is_zone_name offset_apart _
      (record { front = o; mark = byte "["; rest = name ++ (byte "]" ∷ []); whole = refl; one = refl; fits = g; also = named }))
      (starts_append (among (bytes "Z+-")) o _ (offset_begins o g))

-- ---- durations

short_nil : (w : List ℕ) → length w ≤ 0 → w ≡ []
short_nil [] h = refl
short_nil (b ∷ w) h = absurd (omega arith)

module _ (size : List ℕ → Bool) (letters : List ℕ) where
  parts_none : (fuel : ℕ) → are_parts size letters fuel [] ≡ false
  unfolding are_parts parted starts_in length_in
  parts_none zero = refl
  parts_none (suc fuel) = split (size []) (λ e. rw e) (λ e. rw e)

  -- a turn: the parts of a list without a letter, and with one
  module _ (fuel : ℕ) (w : List ℕ) where
    turn_off : onward (among letters) w ≡ [] → are_parts size letters (suc fuel) w ≡ false
    unfolding are_parts parted starts_in
    turn_off z = split (size (up_to (among letters) w)) (λ e. rw (e, z)) (λ e. rw e)

    turn_on : (b : ℕ) (l : List ℕ) → onward (among letters) w ≡ b ∷ l
        → are_parts size letters (suc fuel) w ≡ (size (up_to (among letters) w) && elem b letters && (is_empty l || are_parts size letters fuel l))
    unfolding are_parts parted starts_in
    turn_on b l z = rw z

  -- fuel that is at least the length does not matter
  parts_fuel : (f g : ℕ) (w : List ℕ) → length w ≤ f → length w ≤ g → are_parts size letters f w ≡ are_parts size letters g w
  parts_fuel zero g w h k = rw (short_nil w h) (parts_none 0 ∙ sym (parts_none g))
  parts_fuel (suc f) zero w h k = rw (short_nil w k) (parts_none (suc f) ∙ sym (parts_none 0))
  parts_fuel (suc f) (suc g) w h k =
      by_front (onward (among letters) w) (λ z. turn_off f w z ∙ sym (turn_off g w z))
      (λ b l z. let shorter : suc (length l) ≤ length w =
      omega (arith, ap length (marked (among letters) w b l z).1, length-append (up_to (among letters) w) (b ∷ l)) in
      turn_on f w b l z
      ∙ ap (λ (x : Bool). size (up_to (among letters) w) && elem b letters && (is_empty l || x)) (parts_fuel f g l (omega arith) (omega arith))
      ∙ sym (turn_on g w b l z))

  -- Size, a letter, and more parts or none
  module _ (apart : (x : List ℕ) → size x ≡ true → all (other letters) x ≡ true) (n : List ℕ) (c : ℕ) (s : size n ≡ true) (l : elem c letters ≡ true) where
    parts_made : (rest : List ℕ) → is_empty rest || are_parts size letters (length rest) rest ≡ true
        → are_parts size letters (length (n ++ (c ∷ rest))) (n ++ (c ∷ rest)) ≡ true
    unfolding are_parts
    parts_made rest r =
        let fuel : length (n ++ (c ∷ rest)) ≡ suc (length n + length rest) = omega (arith, length-append n (c ∷ rest)) in
        let more : is_empty rest || are_parts size letters (length n + length rest) rest ≡ true =
        rw (parts_fuel (length n + length rest) (length rest) rest (omega arith) (omega arith)) r in
        ap (λ (k : ℕ). are_parts size letters k (n ++ (c ∷ rest))) fuel
        ∙ parted_joins letters size _ apart _ (record { front = n; mark = c; rest = rest; whole = refl; one = l; fits = s; also = more })

    pub last_part : are_parts size letters (length (n ++ (c ∷ []))) (n ++ (c ∷ [])) ≡ true
    last_part = parts_made [] refl

    pub more_parts : (rest : List ℕ) → are_parts size letters (length rest) rest ≡ true
        → are_parts size letters (length (n ++ (c ∷ rest))) (n ++ (c ∷ rest)) ≡ true
    more_parts rest r = parts_made rest (or_right (is_empty rest) _ r)

-- Size of a part before "T", and behind it
pub date_apart : (w : List ℕ) → are_digits w ≡ true → all (other (bytes "YMWD")) w ≡ true
unfolding all elem is_digit
date_apart = run_apart (bytes "YMWD") refl

pub decimal_apart : (w : List ℕ) → perhaps (bytes ".") are_digits are_digits w ≡ true → all (other (bytes "HMS")) w ≡ true
unfolding all elem is_digit
decimal_apart =
    perhaps_bytes (other (bytes "HMS")) (bytes ".") are_digits are_digits refl (run_apart (bytes "HMS") refl) (run_apart (bytes "HMS") refl)

-- DigitSequence, [ ".", DigitSequence ]
pub whole_made : (w : List ℕ) → are_digits w ≡ true → perhaps (bytes ".") are_digits are_digits w ≡ true
unfolding all elem is_digit
whole_made w e = perhaps_alone (bytes ".") are_digits are_digits (run_apart (bytes ".") refl) w e

pub decimal_made : (v w : List ℕ) → are_digits v ≡ true → are_digits w ≡ true → perhaps (bytes ".") are_digits are_digits (v ++ (byte "." ∷ w)) ≡ true
unfolding all elem is_digit
decimal_made v w e f =
    perhaps_joins (bytes ".") are_digits are_digits (run_apart (bytes ".") refl) _
    (record { front = v; mark = byte "."; rest = w; whole = refl; one = refl; fits = e; also = f })

-- "P", parts
pub parts_duration : (w : List ℕ) → are_date_parts w ≡ true → is_duration (byte "P" ∷ w) ≡ true
unfolding is_duration is_span starts_in elem
parts_duration w e = or_left (are_date_parts w) _ e

-- "P", parts or none, "T", parts
pub timed_duration : (d t : List ℕ) → is_empty d || are_date_parts d ≡ true → are_time_parts t ≡ true → is_duration (byte "P" ∷ (d ++ (byte "T" ∷ t))) ≡ true
unfolding is_duration is_span starts_in elem all is_digit
timed_duration d t e f =
    or_right (are_date_parts (d ++ (byte "T" ∷ t))) _
    (parted_joins (bytes "T") _ are_time_parts
    (λ x k. either (is_empty x) (are_date_parts x) k (λ z. rw (empty_is x z) (all_nil (other (bytes "T"))))
    (parts_bytes (other (bytes "T")) (no_mark (bytes "T") refl) are_digits (bytes "YMWD") (run_apart (bytes "T") refl) refl (length x) x)) _
    (record { front = d; mark = byte "T"; rest = t; whole = refl; one = refl; fits = e; also = f }))
