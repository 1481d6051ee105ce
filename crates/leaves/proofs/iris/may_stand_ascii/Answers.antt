-- A small letter, a byte of the others, or none.
use mathlib.Core.Path.{sym, ◌∙◌}
use native.Mathlib.Omega.{arith}
use Rattle.leaves.proofs.IriParts.{lower_stands, ascii_falls, ascii_stands}
use Rattle.leaves.proofs.iris.may_stand_ascii.Goals as goal

pub returns-then-is_lower : goal.returns-then-is_lower
returns-then-is_lower c = c.if-is_lower.true ∙ lower_stands _ (sym c.is_lower.ensures ∙ c.if-is_lower.true)

pub returns-in_default : goal.returns-in_default
returns-in_default c = ascii_falls _ (sym c.is_lower.ensures ∙ c.if-is_lower.false) (grind arith)

pub returns-in_default-2 : goal.returns-in_default-2
returns-in_default-2 c = ascii_falls _ (sym c.is_lower.ensures ∙ c.if-is_lower.false) (grind arith)

pub returns-in_default-3 : goal.returns-in_default-3
returns-in_default-3 c = ascii_falls _ (sym c.is_lower.ensures ∙ c.if-is_lower.false) (grind arith)

pub returns-in-33 : goal.returns-in-33
returns-in-33 c = ascii_stands _ (grind arith) (λ n. grind arith)

pub returns-in-33-2 : goal.returns-in-33-2
returns-in-33-2 c = ascii_stands _ (grind arith) (λ n. grind arith)

pub returns-in-33-3 : goal.returns-in-33-3
returns-in-33-3 c = ascii_stands _ (grind arith) (λ n. grind arith)
