-- What reading a label answers: where its key ends and where its value is due, or number and place of the fault.
-- Document 02, Five; 001 §21.
use Rattle.std.specs.Prelude.{ℕ, ◌+◌, ◌≤◌, ◌≡◌, Bool, ◌&&◌, Option, Result, Ok, Err, List, length, take, drop, eqb, ltb}
use Rattle.std.specs.Bool.{then_some}
use Rattle.paper.specs.declared.Refusal.{Refusal}
use Rattle.paper.specs.declared.brackets.Bracket.{Bracket}
use Rattle.paper.specs.declared.Refused.{Refused}
use Rattle.paper.specs.Answer.{number_of, refused_at}
use Rattle.paper.specs.Found.{Found, found, fault, pick, place_in}
use Rattle.paper.specs.Values.{is_bare, Key, Label}
use Rattle.paper.specs.Entries.{key_width}
use Rattle.paper.specs.ReadingValues.{word_length, key_word, colon, label_of}
use Rattle.values.specs.declared.labels.Labelled.{Labelled}

-- a key that is a word up to these bytes
abbrev pub word_key : List ℕ → List ℕ → Found Key
word_key also s = key_word s (take (word_length also s) s) (drop (word_length also s) s)

-- whether the word in front is a bare name that something ends
abbrev pub begins_bare : List ℕ → List ℕ → Bool
begins_bare also s = is_bare (take (word_length also s) s) && ltb (word_length also s) (length s)

-- where such a word at a place ends
unfoldable pub bare_end : List ℕ → List ℕ → ℕ → Option ℕ
bare_end also s at = then_some (begins_bare also (drop at s)) (at + word_length also (drop at s))

-- the answer to a word at a place that is no key: bad, or cut where nothing ends it
abbrev pub no_key : List ℕ → List ℕ → ℕ → Refused
no_key also s at = pick (eqb (at + word_length also (drop at s)) (length s)) (refused_at Refusal.Cut (length s)) (refused_at Refusal.Value at)

pub record Seen : Type 0 where
  pub number : ℕ
  pub key : ℕ
  pub place : ℕ

abbrev pub seen : Result Labelled Refused → Seen
seen (Ok a) = record { number = 0; key = a.key; place = a.value }
seen (Err r) = record { number = number_of r.refusal; key = r.place; place = r.place }

-- a reading of the paper, whose places are those of what is left in the whole; a key ends at a place
abbrev pub seen_of : (Label → ℕ) → List ℕ → Found Label → Seen
seen_of key_end s (found a left) = record { number = 0; key = key_end a; place = place_in s left }
seen_of key_end s (fault n left) = record { number = n; key = place_in s left; place = place_in s left }

-- the answer is what the paper reads; nothing is past the whole, and a value is due behind the place where the reading began, or there
pub record Labels (key_end : Label → ℕ) (s : List ℕ) (at : ℕ) (x : Found Label) (r : Result Labelled Refused) : Type 0 where
  pub same : seen r ≡ seen_of key_end s x
  pub ahead : (a : Labelled) → r ≡ Ok a → (at ≤ a.value) × (a.value ≤ length s)
  pub inside : (e : Refused) → r ≡ Err e → e.place ≤ length s

-- what stands before the item of a bracket that is due at a place
abbrev pub LabelsAt : Bracket → List ℕ → ℕ → Result Labelled Refused → Type 0
LabelsAt k s at r = Labels (λ a. at + key_width a) s at (label_of k (drop at s)) r

-- what stands behind a key that ends at a place
abbrev pub ColonAt : Key → List ℕ → ℕ → Result Labelled Refused → Type 0
ColonAt key s at r = Labels (λ a. at) s at (colon key (drop at s)) r
