-- One byte opens, or the fixed bytes that begin with it; where another byte stands, nothing does.
use Prim.Native.Nat.{◌<◌}
use mathlib.Core.Path.{◌≡◌, refl, sym, ◌∙◌}
use native.Mathlib.Omega.{arith}
use lib.ListN.{length, get_or}
use Rattle.paper.specs.declared.brackets.Bracket.{Bracket}
use Rattle.values.proofs.Openings.{opens_kind, opens_end, opens_one, opens_none}
use Rattle.values.proofs.brackets.opens.Goals.{In_ok-get}
use Rattle.values.proofs.brackets.opens.Goals as goal

-- the byte that is looked at stands there
byte-there : (c : In_ok-get) → let s = c.args.s.now in let at = c.args.at in (at < length s) × (get_or s at 0 ≡ c.in_ok-get.field-0.now)
byte-there c = let there = c.in_ok-get.ensures.lookup.3 in (there.0, sym (there.1 0))

pub returns-in_err-get : goal.returns-in_err-get
returns-in_err-get c = c.from_residual.ensures ∙ opens_end _ _ c.in_err-get.ensures.lookup.3

pub returns-in-91 : goal.returns-in-91
returns-in-91 c = let b = byte-there (goal.at.returns-in-91 c).In_ok-get in opens_one _ _ b.0 _ _ refl (b.1 ∙ c.in-91.is)

pub returns-in-40 : goal.returns-in-40
returns-in-40 c = let b = byte-there (goal.at.returns-in-40 c).In_ok-get in opens_one _ _ b.0 _ _ refl (b.1 ∙ c.in-40.is)

pub returns-in-115 : goal.returns-in-115
returns-in-115 c = opens_kind c.args.s.now c.args.at Bracket.Set (sym c.if-starts_with.ensures)

pub returns-in-109 : goal.returns-in-109
returns-in-109 c = opens_kind c.args.s.now c.args.at Bracket.Map (sym c.if-starts_with-2.ensures)

pub returns-in_default : goal.returns-in_default
returns-in_default c =
    let b = byte-there (goal.at.returns-in_default c).In_ok-get in
    opens_none _ _ b.0 (λ q. omega arith) (λ q. omega arith) (λ q. sym c.if-starts_with.ensures) (λ q. absurd (omega arith))

pub returns-in_default-2 : goal.returns-in_default-2
returns-in_default-2 c =
    let b = byte-there (goal.at.returns-in_default-2 c).In_ok-get in
    opens_none _ _ b.0 (λ q. omega arith) (λ q. omega arith) (λ q. absurd (omega arith)) (λ q. sym c.if-starts_with-2.ensures)

pub returns-in_default-3 : goal.returns-in_default-3
returns-in_default-3 c =
    let b = byte-there (goal.at.returns-in_default-3 c).In_ok-get in
    opens_none _ _ b.0 (λ q. omega arith) (λ q. omega arith) (λ q. absurd (omega arith)) (λ q. absurd (omega arith))
