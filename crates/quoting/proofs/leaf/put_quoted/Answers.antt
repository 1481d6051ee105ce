-- Between two quotes: copied where every byte stands for itself, else piece by piece. Assumes nothing.
use mathlib.Core.Path.{sym, ◌∙◌}
use Rattle.quoting.proofs.ByForm.{plain_put, quoted_put}
use Rattle.quoting.proofs.leaf.put_quoted.Goals as goal

pub returns-then-are_plain : goal.returns-then-are_plain
returns-then-are_plain c =
    λ ps f r. plain_put c.args.quote c.args.w.now _ c.inner-spelling.ensures (sym c.are_plain.ensures ∙ c.if-are_plain.true)
    c.put.ensures ps f

pub returns-else-are_plain : goal.returns-else-are_plain
returns-else-are_plain c =
    quoted_put c.args.quote c.args.w.now _ c.inner-spelling.ensures c.put_byte.ensures c.put_byte-else-are_plain.ensures
    c.put_pieces.ensures
