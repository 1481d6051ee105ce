-- Times: what stands between the braces of a value, by its kinds. Over each definition stands the line of 001 §18 that it follows.
-- Document 02, Two; 001 §18. A list is parted at the first byte of a set; that no part in front can have such a byte is proofs/TimesMade.
use Rattle.std.specs.Prelude.{ℕ, zero, suc, ◌+◌, ◌-◌, ◌*◌, ◌%◌, Bool, false, not, ◌&&◌, ◌||◌, List, [], ◌∷◌, length, get_or, drop, eqb}
use Rattle.std.proofs.Math.Option.{Option, none, some}
use Rattle.paper.specs.Found.{pick}
use Rattle.paper.specs.Bytes.{byte, bytes, within, is_digit, is_name_byte, all, elem, same, starts_in, up_to, onward, past, are_digits}

-- ---- how 001 joins rules

abbrev pub among : List ℕ → ℕ → Bool
among set b = elem b set

abbrev pub is_empty : List ℕ → Bool
is_empty w = eqb (length w) 0

-- First, a byte of the set, Second
unfoldable pub parted : List ℕ → (List ℕ → Bool) → (List ℕ → Bool) → List ℕ → Bool
parted set first second w = first (up_to (among set) w) && starts_in (among set) (onward (among set) w) && second (past (among set) w)

-- First, [ a byte of the set, Second ]
unfoldable pub perhaps : List ℕ → (List ℕ → Bool) → (List ℕ → Bool) → List ℕ → Bool
perhaps set first second w = first (up_to (among set) w) && (is_empty (onward (among set) w) || second (past (among set) w))

-- ---- fields

-- so many digits, and the number that digits spell
unfoldable pub digits : ℕ → List ℕ → Bool
digits n w = eqb (length w) n && all is_digit w

unfoldable pub number_from : ℕ → List ℕ → ℕ
number_from so [] = so
number_from so (b ∷ w) = number_from (so * 10 + (b - byte "0")) w

abbrev pub number : List ℕ → ℕ
number w = number_from 0 w

-- Month, Day, Hour, Minute, Second = Digit, Digit: request Two's one rule for two-digit fields, whose number lies from low to high
unfoldable pub two_digits : ℕ → ℕ → List ℕ → Bool
two_digits low high w = digits 2 w && within low high (number w)

-- Year = Digit, Digit, Digit, Digit
abbrev pub is_year : List ℕ → Bool
is_year = digits 4

abbrev pub is_month : List ℕ → Bool
is_month = two_digits 1 12

abbrev pub is_hour : List ℕ → Bool
is_hour = two_digits 0 23

-- Minute, Second
abbrev pub is_sixtieth : List ℕ → Bool
is_sixtieth = two_digits 0 59

-- ---- days of a month in the Gregorian calendar, which is carried back to the year 0

abbrev pub divides : ℕ → ℕ → Bool
divides k n = eqb (n % k) 0

-- every fourth year but the hundredth ones, and every four hundredth
unfoldable pub is_leap : ℕ → Bool
is_leap year = (divides 4 year && not (divides 100 year)) || divides 400 year

-- from January on, in a year that is no leap year; there is no month 0
abbrev pub month_days : List ℕ
month_days = 0 ∷ 31 ∷ 28 ∷ 31 ∷ 30 ∷ 31 ∷ 30 ∷ 31 ∷ 31 ∷ 30 ∷ 31 ∷ 30 ∷ 31 ∷ []

unfoldable pub days_of : ℕ → ℕ → ℕ
days_of year month = pick (is_leap year && eqb month 2) 29 (get_or month_days month 0)

-- ---- dates

-- Month, "-", Day, in this year: a day that exists in that month
unfoldable pub is_day_of : ℕ → List ℕ → Bool
is_day_of year w = parted (bytes "-") is_month (two_digits 1 (days_of year (number (up_to (among (bytes "-")) w)))) w

-- Date = Year, "-", Month, "-", Day
unfoldable pub is_date : List ℕ → Bool
is_date w = parted (bytes "-") is_year (is_day_of (number (up_to (among (bytes "-")) w))) w

-- YearMonth = Year, "-", Month
unfoldable pub is_year_month : List ℕ → Bool
is_year_month = parted (bytes "-") is_year is_month

-- MonthDay = Month, "-", Day; of a leap year, as 0 is one, so that 29 February stands
abbrev pub is_month_day : List ℕ → Bool
is_month_day = is_day_of 0

-- ---- times of day

-- Time = Hour, ":", Minute, [ ":", Second, [ ".", Milliseconds ] ]
-- Milliseconds = Digit, { Digit }
unfoldable pub is_time : List ℕ → Bool
is_time = parted (bytes ":") is_hour (perhaps (bytes ":") is_sixtieth (perhaps (bytes ".") is_sixtieth are_digits))

-- LocalDateTime = Date, "T", Time
unfoldable pub is_local : List ℕ → Bool
is_local = parted (bytes "T") is_date is_time

-- TimeZoneOffset = "Z" | ( ( "+" | "-" ), Hour, ":", Minute )
unfoldable pub is_offset : List ℕ → Bool
is_offset w = same w (bytes "Z") || (starts_in (among (bytes "+-")) w && parted (bytes ":") is_hour is_sixtieth (drop 1 w))

-- TimeZoneIdChar = Letter | Digit | "/" | "_" | "-"
unfoldable pub is_zone_byte : ℕ → Bool
is_zone_byte b = is_name_byte b || elem b (bytes "/_-")

-- TimeZoneId = "[", TimeZoneIdChar, { TimeZoneIdChar }, "]", from behind its "["
unfoldable pub is_zone_name : List ℕ → Bool
is_zone_name = parted (bytes "]") (λ w. starts_in is_zone_byte w && all is_zone_byte w) is_empty

-- TimeZoneOffset, [ TimeZoneId ]
unfoldable pub is_zone : List ℕ → Bool
is_zone = perhaps (bytes "[") is_offset is_zone_name

-- ZonedDateTime = LocalDateTime, TimeZoneOffset, [ TimeZoneId ]; an offset begins with "Z" or a sign, which no Time has
unfoldable pub is_zoned_time : List ℕ → Bool
is_zoned_time w = is_time (up_to (among (bytes "Z+-")) w) && is_zone (onward (among (bytes "Z+-")) w)

unfoldable pub is_zoned : List ℕ → Bool
is_zoned = parted (bytes "T") is_date is_zoned_time

-- ---- durations

-- Part, { Part }, where Part = Size, a letter of the set. The fuel is at least the length
unfoldable pub are_parts : (List ℕ → Bool) → List ℕ → ℕ → List ℕ → Bool
are_parts size letters zero w = false
are_parts size letters (suc fuel) w = parted letters size (λ rest. is_empty rest || are_parts size letters fuel rest) w

-- DurationComponent = DigitSequence, ( "Y" | "M" | "W" | "D" )
abbrev pub are_date_parts : List ℕ → Bool
are_date_parts w = are_parts are_digits (bytes "YMWD") (length w) w

-- TimeDurationComponent = DigitSequence, [ ".", DigitSequence ], ( "H" | "M" | "S" )
abbrev pub are_time_parts : List ℕ → Bool
are_time_parts w = are_parts (perhaps (bytes ".") are_digits are_digits) (bytes "HMS") (length w) w

-- { DurationComponent }, [ "T", { TimeDurationComponent } ], with at least one part, and one after "T" if it stands
unfoldable pub is_span : List ℕ → Bool
is_span w = are_date_parts w || parted (bytes "T") (λ d. is_empty d || are_date_parts d) are_time_parts w

-- Duration = "P", and this
unfoldable pub is_duration : List ℕ → Bool
is_duration w = starts_in (among (bytes "P")) w && is_span (drop 1 w)

-- ---- the kinds

-- ReservedTemporal = "now" | "today"
unfoldable pub is_reserved : List ℕ → Bool
is_reserved w = same w (bytes "now") || same w (bytes "today")

-- TemporalBody = ZonedDateTime | LocalDateTime | Date | YearMonth | MonthDay | Time | Duration | ReservedTemporal
pub data TimeKind : Type 0 where
  zoned local date year_month month_day time duration reserved : TimeKind

abbrev pub is_of : TimeKind → List ℕ → Bool
is_of zoned = is_zoned
is_of local = is_local
is_of date = is_date
is_of year_month = is_year_month
is_of month_day = is_month_day
is_of time = is_time
is_of duration = is_duration
is_of reserved = is_reserved

abbrev pub time_kinds : List TimeKind
time_kinds = zoned ∷ local ∷ date ∷ year_month ∷ month_day ∷ time ∷ duration ∷ reserved ∷ []

-- the first of these kinds that fits
unfoldable pub first_fit : List TimeKind → List ℕ → Option TimeKind
first_fit [] w = none
first_fit (k ∷ ks) w = pick (is_of k w) (some k) (first_fit ks w)

abbrev pub time_kind : List ℕ → Option TimeKind
time_kind = first_fit time_kinds
