-- A law for each way out, by the byte behind the scheme.
use mathlib.Core.Path.{sym, ◌∙◌}
use lib.ListN.{length}
use native.Mathlib.Omega.{arith}
use Rattle.leaves.proofs.Runs.{from, part_size}
use Rattle.leaves.proofs.IriParts.{iri_no_colon, iri_no_letter, iri_body}
use Rattle.leaves.proofs.iris.is_iri.Goals as goal

pub returns-then-is_letter : goal.returns-then-is_letter
returns-then-is_letter c =
    c.is_body.ensures (length c.args.w.now) (omega (arith, part_size c.args.w.now c.end-colon.result, part_size (from c.args.w.now c.end-colon.result) 1))
    ∙ iri_body _ c.end-colon.result (omega arith) c.in-58.len_at_least (omega arith) (sym c.is_letter.ensures ∙ c.if-is_letter.true)

pub returns-else-is_letter : goal.returns-else-is_letter
returns-else-is_letter c =
    c.if-is_letter.false ∙ iri_no_letter _ c.end-colon.result (omega arith) c.in-58.len_at_least (sym c.is_letter.ensures ∙ c.if-is_letter.false)

pub returns-in_default : goal.returns-in_default
returns-in_default c = iri_no_colon _ c.end-colon.result (omega arith) (λ h e. grind arith)

pub returns-in_default-2 : goal.returns-in_default-2
returns-in_default-2 c = iri_no_colon _ c.end-colon.result (omega arith) (λ h e. grind arith)
