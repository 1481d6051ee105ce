-- What a step of UTF-8 and the check of a whole sheet answer, from what the paper's readings find.
-- Document 01, "The grammar", Bytes, and refusal 3: the place is the first byte of the bad sequence.
use Rattle.std.specs.Prelude.{ℕ, zero, suc, ◌+◌, ◌*◌, ◌<◌, ◌≤◌, ◌≡◌, true, Option, None, Some, Result, Ok, Err, List, [], ◌∷◌, length, drop}
use Rattle.paper.specs.Found.{Found, found, fault, and_then, place_in}
use Rattle.paper.specs.Bytes.{follower, scalar, may_stand, scalars, sheet_bytes}
use Rattle.paper.specs.Answer.{refused_at}
use Rattle.paper.specs.declared.Refusal.{Refusal}
use Rattle.paper.specs.declared.Refused.{Refused}
use Rattle.text.specs.declared.utf8.Step.{Step}

-- the six bits of a following byte
abbrev pub bits_of : Found ℕ → Option ℕ
bits_of (found c left) = Some c
bits_of (fault n left) = None

-- a scalar value in the whole, and the cursor behind it
abbrev pub step_of : List ℕ → Found ℕ → Step
step_of whole (found v left) = Step.Scalar v (record { at = place_in whole left })
step_of whole (fault n left) = Step.Broken

-- the step from what is left on
abbrev pub step_from : List ℕ → List ℕ → Step
step_from whole [] = Step.End
step_from whole (b ∷ l) = step_of whole (scalar (b ∷ l))

-- the step at a place
abbrev pub step_at : List ℕ → ℕ → Step
step_at whole at = step_from whole (drop at whole)

-- the value of a sequence, of whose bytes so many are due yet, behind a value so far
abbrev pub gather : ℕ → ℕ → List ℕ → Found ℕ
gather zero v left = found v left
gather (suc more) v left = and_then (follower 0x80 0xBF left) (λ c rest. gather more (v * 64 + c) rest)

-- the step goes on with the byte at a place, due from low to high, and with so many more behind it
pub record Awaits (s : List ℕ) (at place low high more v : ℕ) : Type 0 where
  pub from : 0x80 ≤ low
  pub to : high ≤ 0xBF
  pub step : step_at s at ≡ step_of s (and_then (follower low high (drop place s)) (λ c left. gather more (v * 64 + c) left))

-- a sequence that may not stand
abbrev pub broken : ℕ → Refused
broken place = refused_at Refusal.Bytes place

abbrev pub checked_of : List ℕ → Found (List ℕ) → Result Unit Refused
checked_of whole (found vs left) = Ok tt
checked_of whole (fault n left) = Err (broken (place_in whole left))

-- the check of a whole sheet
abbrev pub checked : List ℕ → Result Unit Refused
checked s = checked_of s (sheet_bytes s)

-- the check from a place on
abbrev pub checked_from : List ℕ → List ℕ → Result Unit Refused
checked_from whole left = checked_of whole (scalars (length left) left)

abbrev pub checked_at : List ℕ → ℕ → Result Unit Refused
checked_at s at = checked_from s (drop at s)

-- a byte that is a scalar value, and may stand whatever follows
abbrev pub Plain : ℕ → Type 0
Plain b = (b ≤ 0x7F) × ((left : List ℕ) → may_stand b left ≡ true)

-- a walk leaves the check's answer to the place behind it, or has found it
abbrev pub Walks : List ℕ → ℕ → Result ℕ Refused → Type 0
Walks s at (Ok next) = (at < next) × (next ≤ length s) × (checked_at s next ≡ checked_at s at)
Walks s at (Err r) = ◌≡◌ {A = Result Unit Refused} (Err r) (checked_at s at)
