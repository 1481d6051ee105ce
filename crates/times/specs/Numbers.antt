-- The kinds of times by their numbers.
-- 001 §18, TemporalBody, in its order; 0 is none.
use Rattle.std.specs.Prelude.{ℕ, ◌≡◌, true, List, [], Option as Perhaps, None, Some}
use Rattle.std.proofs.Math.Option.{Option, none, some}
use Rattle.paper.specs.Times.{TimeKind, zoned, local, date, year_month, month_day, time, duration, reserved, is_of}
use Rattle.paper.specs.Values.{temporal, leaf_onto}
use Rattle.times.specs.declared.kinds.Kind.{Kind}

abbrev pub number_of : Option TimeKind → ℕ
number_of none = 0
number_of (some zoned) = 1
number_of (some local) = 2
number_of (some date) = 3
number_of (some year_month) = 4
number_of (some month_day) = 5
number_of (some time) = 6
number_of (some duration) = 7
number_of (some reserved) = 8

-- the same of the kinds that functions answer with
abbrev pub number_of_kind : Kind → ℕ
number_of_kind Kind.Zoned = 1
number_of_kind Kind.Local = 2
number_of_kind Kind.Date = 3
number_of_kind Kind.YearMonth = 4
number_of_kind Kind.MonthDay = 5
number_of_kind Kind.Time = 6
number_of_kind Kind.Duration = 7
number_of_kind Kind.Reserved = 8

abbrev pub number_or_none : Perhaps Kind → ℕ
number_or_none None = 0
number_or_none (Some k) = number_of_kind k

-- the number of the kind of time that these bytes spell, braces and all, or 0 where they spell none
pub record TellsTime (v : List ℕ) (r : ℕ) : Type 0 where
  pub of_kind_lem : (k : TimeKind) (w : List ℕ) → v ≡ leaf_onto (temporal k w) [] → is_of k w ≡ true → r ≡ number_of (some k)
  pub no_time : ((k : TimeKind) (w : List ℕ) → v ≡ leaf_onto (temporal k w) [] → is_of k w ≡ true → ⊥) → r ≡ 0
