-- What reading from the front of a list finds: something and what is left, or the fault met first.
-- Document 01, "Order". A fault has its refusal number, and what is left from its place on.
use Rattle.std.specs.Prelude.{ℕ, zero, suc, ◌-◌, Bool, true, false, List, [], ◌∷◌, length}

pub data Found (A : Type 0) : Type 0 where
  found : A → List ℕ → Found A
  fault : ℕ → List ℕ → Found A

-- one reading after another, the second over what the first left
abbrev pub and_then : {A B : Type 0} → Found A → (A → List ℕ → Found B) → Found B
and_then (found a left) next = next a left
and_then (fault n left) next = fault n left

-- one turn of a run: one thing more and what is left, the end of the run, or a fault
pub data Turn (A : Type 0) : Type 0 where
  more : A → List ℕ → Turn A
  over : List ℕ → Turn A
  stop : ℕ → List ℕ → Turn A

abbrev pub turn_of : {A : Type 0} → Found A → Turn A
turn_of (found a left) = more a left
turn_of (fault n left) = stop n left

-- what a turn finds in front of what the rest of the run does
abbrev pub go_on : {A : Type 0} → (A → List ℕ → Found (List A)) → Turn A → Found (List A)
go_on rest (more a left) = and_then (rest a left) (λ things end. found (a ∷ things) end)
go_on rest (over left) = found [] left
go_on rest (stop n left) = fault n left

-- a run of things, where each turn is given what the things before it leave: of `so_far`, one thing more makes `with so_far thing`.
-- A turn takes a byte at least, so that fuel above the length is never used up
unfoldable pub many : {A B : Type 0} → (B → A → B) → (B → List ℕ → Turn A) → ℕ → B → List ℕ → Found (List A)
many with turn zero so_far s = fault 9 s
many with turn (suc fuel) so_far s = go_on (λ a left. many with turn fuel (with so_far a) left) (turn so_far s)

abbrev pub run_of : {A B : Type 0} → (B → A → B) → (B → List ℕ → Turn A) → B → List ℕ → Found (List A)
run_of with turn so_far s = many with turn (suc (length s)) so_far s

-- the same where each thing takes its size off the room, and leaves nothing else
abbrev pub taking : {A : Type 0} → (A → ℕ) → ℕ → A → ℕ
taking size room a = room - size a

abbrev pub many_of : {A : Type 0} → (A → ℕ) → (ℕ → List ℕ → Turn A) → ℕ → List ℕ → Found (List A)
many_of size turn room s = run_of (taking size) turn room s

-- where what is left begins in the whole
abbrev pub place_in : List ℕ → List ℕ → ℕ
place_in whole left = length whole - length left

-- the second where the test holds, else the third
abbrev pub pick : {A : Type 0} → Bool → A → A → A
pick true a b = a
pick false a b = b
