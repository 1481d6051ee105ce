-- What reading a value answers in the paper's numbers: number, form and place.
-- Document 01, "Refusal numbers", and the forms of "Entries"; document 02, Four: the place of a 6.
use Rattle.std.specs.Prelude.{ℕ, ◌+◌, ◌≤◌, ◌<◌, ◌≡◌, Result, Ok, Err, List, length, drop}
use Rattle.paper.specs.declared.Refused.{Refused}
use Rattle.paper.specs.Answer.{number_of}
use Rattle.paper.specs.Forms.{number_of_form}
use Rattle.paper.specs.Found.{Found, found, fault, and_then, Turn, many_of, place_in}
use Rattle.paper.specs.Values.{Piece, Leaf, string, backtick}
use Rattle.paper.specs.ReadingValues.{piece_turn, backtick_turn, temporal_leaf}
use Rattle.leaves.specs.declared.judged.Judged.{Judged}

pub record Shown : Type 0 where
  pub number : ℕ
  pub form : ℕ
  pub place : ℕ

-- what is found is number 0, up to a place; a refusal has no form
abbrev pub found_at : ℕ → ℕ → Shown
found_at f end = record { number = 0; form = f; place = end }

abbrev pub refused_at : ℕ → ℕ → Shown
refused_at n at = record { number = n; form = 0; place = at }

-- an answer, by the form and the end of what is read
abbrev pub shown : {T : Type 0} → (T → ℕ) → (T → ℕ) → Result T Refused → Shown
shown form_of end_of (Ok v) = found_at (form_of v) (end_of v)
shown form_of end_of (Err e) = refused_at (number_of e.refusal) e.place

-- a reading of the paper, whose places are those of what is left in the whole
abbrev pub shown_of : {A : Type 0} → (A → ℕ) → List ℕ → Found A → Shown
shown_of form whole (found a left) = found_at (form a) (place_in whole left)
shown_of form whole (fault n left) = refused_at n (place_in whole left)

-- the answer is what the paper reads; what is found ends behind the place where it begins, and nothing is past the whole
pub record Answers {A T : Type 0} (form_of end_of : T → ℕ) (form : A → ℕ) (s : List ℕ) (at : ℕ) (x : Found A) (r : Result T Refused) : Type 0 where
  pub same : shown form_of end_of r ≡ shown_of form s x
  pub ahead : (v : T) → r ≡ Ok v → (at < end_of v) × (end_of v ≤ length s)
  pub inside : (e : Refused) → r ≡ Err e → e.place ≤ length s

-- a value, at the place where it is read
abbrev pub Judges : {A : Type 0} → (A → ℕ) → List ℕ → ℕ → Found A → Result Judged Refused → Type 0
Judges form s at x r = Answers (λ v. number_of_form v.form) (λ v. v.end) form s at x r

abbrev pub JudgesAt : {A : Type 0} → (A → ℕ) → (List ℕ → Found A) → List ℕ → ℕ → Result Judged Refused → Type 0
JudgesAt form read s at r = Judges form s at (read (drop at s)) r

-- what has no form, by the place behind it
abbrev pub no_form : {A : Type 0} → A → ℕ
no_form a = 0

abbrev pub Ends : {A : Type 0} → List ℕ → ℕ → Found A → Result ℕ Refused → Type 0
Ends s at x r = Answers no_form (λ end. end) no_form s at x r

abbrev pub EndsAt : {A : Type 0} → (List ℕ → Found A) → List ℕ → ℕ → Result ℕ Refused → Type 0
EndsAt read s at r = Ends s at (read (drop at s)) r

-- the same of an escape, of which so many bytes are known
abbrev pub EscapeAt : (List ℕ → List ℕ → Found Piece) → List ℕ → ℕ → ℕ → Result ℕ Refused → Type 0
EscapeAt read s at known r = Ends s at (read (drop at s) (drop (at + known) s)) r

-- a time, from its brace on
abbrev pub time_of : List ℕ → Found Leaf
time_of s = temporal_leaf s (drop 1 s)

-- what stands behind an opening quote: pieces up to the closing one, by these turns
abbrev pub quoted_of : (ℕ → List ℕ → Turn Piece) → (List Piece → Leaf) → List ℕ → Found Leaf
quoted_of turn make s = and_then (many_of (λ p. 0) turn 0 s) (λ ps left. found (make ps) left)

abbrev pub string_of : List ℕ → Found Leaf
string_of = quoted_of piece_turn string

abbrev pub backtick_of : List ℕ → Found Leaf
backtick_of = quoted_of backtick_turn backtick
