-- How an opening marker ends, in numbers, and what the definition finds as such an answer.
-- Document 01, "The grammar", Markers.
use Rattle.std.specs.Prelude.{ℕ, Result, Ok, Err, List}
use Rattle.paper.specs.Answer.{number_of}
use Rattle.paper.specs.declared.Refused.{Refused}
use Rattle.paper.specs.Found.{Found, found, fault, place_in}
use Rattle.paper.specs.Tree.{Ending as Ends, block, self}
use Rattle.lines.specs.declared.marks.Ending.{Ending}
use Rattle.lines.specs.declared.marks.Ending.TheVariants.{Block, Closed}

-- number, place, and whether the Concept is closed at once: 1, else 0
pub record Ended : Type 0 where
  pub number : ℕ
  pub place : ℕ
  pub closed : ℕ

abbrev pub ended : Result Ending Refused → Ended
ended (Ok (Block at)) = record { number = 0; place = at; closed = 0 }
ended (Ok (Closed at)) = record { number = 0; place = at; closed = 1 }
ended (Err r) = record { number = number_of r.refusal; place = r.place; closed = 0 }

abbrev pub ends_of : List ℕ → Ends → List ℕ → Ended
ends_of s block left = record { number = 0; place = place_in s left; closed = 0 }
ends_of s self left = record { number = 0; place = place_in s left; closed = 1 }

abbrev pub ended_of : List ℕ → Found Ends → Ended
ended_of s (found e left) = ends_of s e left
ended_of s (fault n left) = record { number = n; place = place_in s left; closed = 0 }
