-- By the first byte: a backtick string or a quoted one. Assumes nothing.
use mathlib.Core.Path.{sym, ◌∙◌}
use Rattle.paper.specs.Bytes.{byte}
use Rattle.quoting.proofs.ByForm.{ticked_put, string_there, backtick_there}
use Rattle.quoting.proofs.leaf.put_string.Goals as goal

pub returns-then-starts_with : goal.returns-then-starts_with
returns-then-starts_with c =
    λ also. backtick_there also c.args.w.now (sym c.starts_with.ensures ∙ c.if-starts_with.true)
    (ticked_put (byte "\"") c.args.w.now _ c.inner.ensures c.put_byte.ensures c.put_byte-then-starts_with.ensures
    c.put_backtick.ensures)

pub returns-else-starts_with : goal.returns-else-starts_with
returns-else-starts_with c = λ also. string_there also c.args.w.now (sym c.starts_with.ensures ∙ c.if-starts_with.false) c.put_quoted.ensures
