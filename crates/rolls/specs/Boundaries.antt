-- The places of a roll: what is passed on the way to a boundary, and the sheets that stand from a place on.
-- Document 01, "Rolls".
use Rattle.std.specs.Prelude.{ℕ, ◌≤◌, ◌<◌, ◌≡◌, Bool, true, false, ◌&&◌, List, ◌∷◌, ◌++◌, length, drop, eqb}
use Rattle.paper.specs.Bytes.{byte}
use Rattle.paper.specs.Roll.{is_boundary, ends_line, Parts, parts, parts_from, parts_of}
use Rattle.lines.specs.Parts.{part}

abbrev pub sheets_in : Parts → List (List ℕ)
sheets_in (parts lead sheets) = sheets

-- these bytes in front of those that stand before the first boundary
abbrev pub led : List ℕ → Parts → Parts
led w (parts lead sheets) = parts (w ++ lead) sheets

-- a sheet may begin between two bytes, at a "<" behind an LF
abbrev pub may_begin : ℕ → ℕ → Bool
may_begin b c = ends_line b && eqb c (byte "<")

-- no sheet begins on the way from a place to another; the tests are whether a line starts at each
pub record Passes (fresh next : Bool) (r : List ℕ) (at to : ℕ) : Type 0 where
  pub ahead : at ≤ to
  pub inside : to ≤ length r
  pub same : parts_from fresh (drop at r) ≡ led (part r at to) (parts_from next (drop to r))

-- a line starts further on, and no sheet begins on the way
pub record LineTo (r : List ℕ) (at to : ℕ) : Type 0 where
  pub passes : Passes false true r at to
  pub further : at < length r → at < to

-- a sheet begins at a place, or the roll ends there
pub record Begins (r : List ℕ) (at : ℕ) : Type 0 where
  pub inside : at ≤ length r
  pub boundary : at < length r → is_boundary (drop at r) ≡ true

-- the first boundary from a line's start on
pub record BoundaryFrom (r : List ℕ) (at to : ℕ) : Type 0 where
  pub passes : Passes true true r at to
  pub begins : Begins r to

-- the sheets from a place on at which one begins
abbrev pub sheets_from : List ℕ → ℕ → List (List ℕ)
sheets_from r at = sheets_in (parts_of (drop at r))

-- the sheet that begins at a place runs to another
pub record SheetTo (r : List ℕ) (at to : ℕ) : Type 0 where
  pub ahead : at < to
  pub begins : Begins r to
  pub same : sheets_from r at ≡ part r at to ∷ sheets_from r to
