-- What an answer is in the paper's numbers: number, place and count.
-- Document 01, "Refusal numbers", and the answers of "Order".
use Rattle.std.specs.Prelude.{ℕ, Result, Ok, Err}
use Rattle.paper.specs.declared.Accepted.{Accepted}
use Rattle.paper.specs.declared.Refused.{Refused}
use Rattle.paper.specs.declared.Told.{Told}
use Rattle.paper.specs.declared.Refusal.{Refusal}
use Rattle.paper.specs.declared.Refusal.TheVariants.{Table, SheetTooLong, Bytes, Name, Unlisted, Value, Due, ClosingName, Cut, TooDeep, NoEntryLeft, NoRoom}
use Rattle.paper.specs.declared.Refusal.TheVariants.{RollTooLong, BeforeBoundary, TooManySheets, RootAnnotated, View, TraitTwice}

-- what a public function answers
abbrev pub Answer : Type 0
Answer = Result Accepted Refused

abbrev pub accepted_at : ℕ → ℕ → Accepted
accepted_at at many = record { place = at; count = many }

abbrev pub refused_at : Refusal → ℕ → Refused
refused_at why at = record { refusal = why; place = at }

-- an acceptance is number 0; a refusal's count is 0
abbrev pub accepted : ℕ → ℕ → Told
accepted at many = record { number = 0; place = at; count = many }

abbrev pub refused : ℕ → ℕ → Told
refused n at = record { number = n; place = at; count = 0 }

abbrev pub number_of : Refusal → ℕ
number_of Table = 1
number_of SheetTooLong = 2
number_of Bytes = 3
number_of Name = 4
number_of Unlisted = 5
number_of Value = 6
number_of Due = 7
number_of ClosingName = 8
number_of Cut = 9
number_of TooDeep = 10
number_of NoEntryLeft = 11
number_of NoRoom = 12
number_of RollTooLong = 13
number_of BeforeBoundary = 14
number_of TooManySheets = 15
number_of RootAnnotated = 16
number_of View = 17
number_of TraitTwice = 18

abbrev pub told : Answer → Told
told (Ok a) = accepted a.place a.count
told (Err r) = refused (number_of r.refusal) r.place
