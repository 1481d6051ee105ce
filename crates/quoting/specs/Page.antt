-- A page that bytes are put on, one behind the other, as long as there is room.
-- Document 01, "Canonical form" and refusal 12.
use Rattle.std.specs.Prelude.{ℕ, ◌+◌, ◌<◌, ◌≡◌, List, length, leb}
use Rattle.std.specs.Fn.{Shared}
use Rattle.std.proofs.lemmas.List.Edits.{sets}
use Rattle.paper.specs.Found.{pick}
use Rattle.quoting.specs.declared.page.Page.{Page}

-- the bytes of a page and the place behind what was put, or that it had no room
pub data Filled : Type 0 where
  holds : List ℕ → ℕ → Filled
  full : Filled

-- these bytes put at a place
unfoldable pub page : List ℕ → ℕ → List ℕ → Filled
page out at w = pick (leb (at + length w) (length out)) (holds (sets out at w) (at + length w)) full

-- these bytes put on a page, where it goes on
abbrev pub filled : Page → List ℕ → Filled
filled p w = page p.out.now p.at w

-- What was put in front of whatever follows, where some of it may still be left: to put `onto next` before is to put `left next` now.
-- The page lies where it lay. `onto` is a printer of the paper, which prints in front of what follows.
pub record Step (before : Page) (onto : List ℕ → List ℕ) (after : Page) (left : List ℕ → List ℕ) : Type 0 where
  pub lies : after.out.ghost_name ≡ before.out.ghost_name
  pub same : (next : List ℕ) → filled before (onto next) ≡ filled after (left next)

-- all of it was put
abbrev pub Puts : Page → (List ℕ → List ℕ) → Page → Type 0
Puts before onto after = Step before onto after (λ next. next)

-- each call makes of a byte what the function does
abbrev pub TurnsByte : {F : Type 0} → Shared F (ℕ × Unit {0}) ℕ → F → (ℕ → ℕ) → Type 0
TurnsByte g turn f = (b r : ℕ) → b < 256 → g.post turn (b, tt) r → r ≡ f b
