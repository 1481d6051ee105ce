-- Times to try: what stands between the braces in the settled readings of document 02, Two, and the kind of each, by computation.
-- Document 02, Two; 001 §18. Assumes nothing.
use Prim.Native.String.{String}
use mathlib.Core.Path.{◌≡◌, refl}
use mathlib.Core.List.{List, [], ◌∷◌, map}
use mathlib.Core.Option.{Option, none, some}
use Rattle.paper.specs.Bytes
use Rattle.paper.specs.Times.{TimeKind, zoned, local, date, year_month, month_day, time, duration, reserved, time_kind}
use Rattle.paper.specs.Times

pub record Try : Type 0 where
  pub inside : String
  pub kind : Option TimeKind

abbrev try : String → Option TimeKind → Try
try inside kind = record { inside = inside; kind = kind }

unfoldable pub tries : List Try
tries =
    -- days that there are, and others
    try "0000-02-29" (some date) ∷ try "1900-02-29" none ∷ try "2000-02-29" (some date) ∷ try "2023-02-28" (some date) ∷ try "2023-02-29" none
    ∷ try "2024-02-30" none ∷ try "2024-04-30" (some date) ∷ try "2024-04-31" none ∷ try "2024-12-31" (some date) ∷ try "2024-12-32" none
    ∷ try "2024-00-01" none ∷ try "2024-13-01" none ∷ try "2024-01-00" none ∷ try "2024-1-1" none ∷ try "24-01-01" none
    ∷ try "02-29" (some month_day) ∷ try "02-30" none ∷ try "04-31" none ∷ try "9999-12" (some year_month) ∷ try "2024-13" none
    -- times of day, in which no hour is 24 and no second 60
    ∷ try "00:00" (some time) ∷ try "23:59:59" (some time) ∷ try "23:59:60" none ∷ try "24:00" none ∷ try "12:60" none ∷ try "12:00:" none
    ∷ try "12:00:00.1234567" (some time) ∷ try "12:00:00." none ∷ try "12:00.5" none ∷ try "12:00Z" none ∷ try "1:00" none
    -- zones
    ∷ try "2024-01-01T00:00" (some local) ∷ try "2024-01-01T00:00:00.5" (some local) ∷ try "2024-01-01 00:00" none ∷ try "2024-01T00:00" none
    ∷ try "2024-01-01T00:00+23:59" (some zoned) ∷ try "2024-01-01T00:00+24:00" none ∷ try "2024-01-01T00:00-00:00" (some zoned)
    ∷ try "2024-01-01T00:00Z" (some zoned) ∷ try "2024-01-01T00:00z" none ∷ try "2024-01-01T00:00Z[a/b_c-1]" (some zoned)
    ∷ try "2024-01-01T00:00[a]" none ∷ try "2024-01-01T00:00Z[Etc/GMT+1]" none ∷ try "2024-01-01T00:00Z[]" none ∷ try "2024-01-01T00:00Z[a]b" none
    -- durations
    ∷ try "P1D2Y1D" (some duration) ∷ try "P007D" (some duration) ∷ try "P0D" (some duration) ∷ try "P1.5D" none ∷ try "PT1.5H2.5M" (some duration)
    ∷ try "P1W2DT3S" (some duration) ∷ try "P" none ∷ try "PT" none ∷ try "P1DT" none ∷ try "P1" none ∷ try "PD" none ∷ try "PT1D" none ∷ try "p1D" none
    -- reserved words, and what is nothing
    ∷ try "now" (some reserved) ∷ try "today" (some reserved) ∷ try "Now" none ∷ try "noon" none ∷ try "" none
    -- white space
    ∷ try " now" none ∷ try "now " none ∷ try "2024-01-01T00:00 Z" none ∷ try "P1D T1H" none
    ∷ []

pub times_to_try : map (λ (t : Try). time_kind (Bytes.bytes t.inside)) tries ≡ map (λ (t : Try). t.kind) tries
unfolding tries Bytes.is_upper Bytes.is_lower Bytes.is_digit Bytes.is_letter Bytes.is_name_byte Bytes.all Bytes.starts_in Bytes.elem Bytes.length_in Bytes.same
    Bytes.are_digits Times.parted Times.perhaps Times.digits Times.number_from Times.two_digits Times.is_leap Times.days_of Times.is_day_of Times.is_date
    Times.is_year_month Times.is_time Times.is_local Times.is_offset Times.is_zone_byte Times.is_zone_name Times.is_zone Times.is_zoned_time Times.is_zoned
    Times.are_parts Times.is_span Times.is_duration Times.is_reserved Times.first_fit
times_to_try = refl
