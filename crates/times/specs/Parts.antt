-- Parts of times that a function reads alone.
-- 001 §18; document 02, Two. What a whole time is, is said by the paper's definitions.
use Rattle.std.specs.Prelude.{ℕ, ◌<◌, ◌≡◌, Bool, true, ◌&&◌, List, []}
use Rattle.std.specs.Fn.{Shared}
use denote.Ref.{Bor}
use Rattle.paper.specs.Bytes.{bytes, all, starts_in, are_digits, up_to, onward, past}
use Rattle.paper.specs.Times.{among, parted, perhaps, is_hour, is_sixtieth, is_zone_byte}

-- Second, [ ".", Milliseconds ]
abbrev pub is_past_minute : List ℕ → Bool
is_past_minute = perhaps (bytes ".") is_sixtieth are_digits

-- Minute, [ ":", Second, [ ".", Milliseconds ] ]
abbrev pub is_past_hour : List ℕ → Bool
is_past_hour = perhaps (bytes ":") is_sixtieth is_past_minute

-- Hour, ":", Minute
abbrev pub is_hour_minute : List ℕ → Bool
is_hour_minute = parted (bytes ":") is_hour is_sixtieth

-- TimeZoneIdChar, { TimeZoneIdChar }
abbrev pub are_zone_bytes : List ℕ → Bool
are_zone_bytes w = starts_in is_zone_byte w && all is_zone_byte w

-- ---- durations

-- DigitSequence, [ ".", DigitSequence ]
abbrev pub is_decimals : List ℕ → Bool
is_decimals = perhaps (bytes ".") are_digits are_digits

-- ---- what is parted where one of some bytes first stands

-- none of them stands in it
abbrev pub HasNone : List ℕ → List ℕ → Type 0
HasNone set w = onward (among set) w ≡ []

-- what stands in front, and behind
pub record IsParted (set w front rest : List ℕ) : Type 0 where
  pub before : front ≡ up_to (among set) w
  pub mark : starts_in (among set) (onward (among set) w) ≡ true
  pub behind : rest ≡ past (among set) w

-- each call answers what the test does, of bytes
abbrev pub JudgesByte : {F : Type 0} → Shared F (ℕ × Unit {0}) Bool → F → (ℕ → Bool) → Type 0
JudgesByte g f test = (b : ℕ) (r : Bool) → b < 256 → g.post f (b, tt) r → r ≡ test b

-- and of lists of them
abbrev pub Judges : {F : Type 0} → Shared F (Bor (List ℕ) × Unit {0}) Bool → F → (List ℕ → Bool) → Type 0
Judges g f test = (x : Bor (List ℕ)) (r : Bool) → g.post f (x, tt) r → r ≡ test x.now
