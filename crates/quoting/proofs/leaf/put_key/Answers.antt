-- By the first byte: a string, a character, or a key that stays as it is. Assumes nothing.
use mathlib.Core.Path.{refl, sym, ◌∙◌}
use Rattle.paper.specs.Bytes.{byte, elem}
use Rattle.quoting.proofs.Keys.{quoted_key, other_key}
use Rattle.quoting.proofs.leaf.put_key.Goals as goal

pub returns-then-starts_with : goal.returns-then-starts_with
unfolding elem
returns-then-starts_with c =
    quoted_key c.args.w.now (byte "\"") refl (sym c.starts_with.ensures ∙ c.if-starts_with.true) c.put_quoted.ensures

pub returns-then-starts_with-2 : goal.returns-then-starts_with-2
unfolding elem
returns-then-starts_with-2 c =
    quoted_key c.args.w.now (byte "'") refl (sym c.starts_with-else-starts_with.ensures ∙ c.if-starts_with-2.true)
    c.put_quoted-then-starts_with-2.ensures

pub returns-else-starts_with-2 : goal.returns-else-starts_with-2
returns-else-starts_with-2 c =
    other_key c.args.w.now (sym c.starts_with.ensures ∙ c.if-starts_with.false)
    (sym c.starts_with-else-starts_with.ensures ∙ c.if-starts_with-2.false) c.put.ensures
