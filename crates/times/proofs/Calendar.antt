-- Dates, whose second part is judged by the number in front, and the days of 400 years. Over plain lists and numbers.
-- Document 02, Two: "a day that exists in that month of the Gregorian year". Assumes nothing.
use Prim.Native.Nat.{ℕ, zero, suc, ◌+◌, ◌%◌}
use mathlib.Core.Path.{◌≡◌, refl, ap, ◌∙◌}
use mathlib.Core.Bool.{◌&&◌}
use mathlib.Core.List.{List}
use native.Mathlib.Omega.{arith}
use native.Mathlib.Nat.{add-zero}
use Rattle.paper.specs.Bytes.{bytes}
use Rattle.paper.specs.Times.{number, two_digits, is_year, is_month, is_leap, days_of, is_day_of, is_date}
use Rattle.times.specs.Parts.{IsParted}
use Rattle.times.proofs.Splits.{parted_on}

-- ---- dates, whose second part is judged by the number in front

module _ (w front rest : List ℕ) (at : IsParted (bytes "-") w front rest) where
  pub day_there : (year : ℕ) → is_month front && two_digits 1 (days_of year (number front)) rest ≡ is_day_of year w
  unfolding is_day_of
  day_there year = ap (λ (x : List ℕ). is_month front && two_digits 1 (days_of year (number x)) rest) at.before ∙ parted_on (bytes "-") is_month _ w front rest at

  pub date_there : is_year front && is_day_of (number front) rest ≡ is_date w
  unfolding is_date
  date_there = ap (λ (x : List ℕ). is_year front && is_day_of (number x) rest) at.before ∙ parted_on (bytes "-") is_year _ w front rest at

-- ---- days of years

-- the days of so many months from January on, and of so many years from a year on
unfoldable pub months_of : ℕ → ℕ → ℕ
months_of year zero = 0
months_of year (suc n) = months_of year n + days_of year (suc n)

unfoldable pub years_from : ℕ → ℕ → ℕ
years_from year zero = 0
years_from year (suc n) = months_of year 12 + years_from (suc year) n

-- the calendar is the same again 400 years later
leap_again : (year : ℕ) → is_leap (year + 400) ≡ is_leap year
unfolding is_leap
leap_again year =
    let e4 : (year + 400) % 4 ≡ year % 4 = omega arith in
    let e100 : (year + 400) % 100 ≡ year % 100 = omega arith in
    let e400 : (year + 400) % 400 ≡ year % 400 = omega arith in
    rw (e4, e100, e400)

months_again : (year n : ℕ) → months_of (year + 400) n ≡ months_of year n
unfolding months_of days_of
months_again year zero = refl
months_again year (suc n) = rw (leap_again year, months_again year n)

years_first : (year n : ℕ) → years_from year (suc n) ≡ months_of year 12 + years_from (suc year) n
unfolding years_from
years_first year n = refl

years_last : (year n : ℕ) → years_from year (suc n) ≡ years_from year n + months_of (year + n) 12
unfolding years_from
years_last year zero = rw (add-zero year) (omega arith)
years_last year (suc n) =
    let e : suc year + n ≡ year + suc n = omega arith in
    omega (arith, rw e at (years_last (suc year) n))

from_zero : years_from 0 400 ≡ 146097
unfolding years_from months_of days_of is_leap
from_zero = refl

-- any 400 years in a row have 146,097 days
pub four_centuries : (year : ℕ) → years_from year 400 ≡ 146097
four_centuries zero = from_zero
four_centuries (suc year) =
    let e : suc year + 399 ≡ year + 400 = omega arith in
    omega (arith, rw (e, months_again year) at (years_last (suc year) 399), years_first year 399, four_centuries year)
