-- By what stands at the place: a byte, an escape, or hex digits behind one. Assumes nothing.
use Prim.Native.Nat.{◌+◌}
use mathlib.Core.Path.{sym, ◌∙◌}
use native.Mathlib.Omega.{arith}
use Rattle.paper.specs.Bytes.{bytes}
use Rattle.quoting.proofs.Spelling.{put_itself, put_letter, put_cut, put_braces, put_four, starts_size}
use Rattle.quoting.proofs.quoted.put_piece.Goals as goal

pub returns-then-w-at-ne92 : goal.returns-then-w-at-ne92
returns-then-w-at-ne92 c = (omega arith, put_itself _ _ c.args.at _ _ c.requires.0 c.if-w-at-ne92.true c.put_escaped.ensures)

pub put_spelt-requires : goal.put_spelt-requires
put_spelt-requires c =
    let z = starts_size (bytes "\\u{") c.args.w.now c.args.at (sym c.starts_with.ensures ∙ c.if-starts_with.true)
    (omega arith) in (omega arith, omega arith)

pub returns-then-starts_with : goal.returns-then-starts_with
returns-then-starts_with c = (
  omega arith,
  put_braces c.args.quote c.args.w.now c.args.at c.args.page.now c.put_spelt.new.page c.requires.1
      (sym c.starts_with.ensures ∙ c.if-starts_with.true) c.put_spelt.result c.put_spelt.ensures.2,
)

pub put_spelt-requires-then-starts_with-2 : goal.put_spelt-requires-then-starts_with-2
put_spelt-requires-then-starts_with-2 c =
    let z = starts_size (bytes "\\u") c.args.w.now c.args.at (sym c.starts_with-2.ensures ∙ c.if-starts_with-2.true)
    (omega arith) in (omega arith, omega arith)

pub returns-then-starts_with-2 : goal.returns-then-starts_with-2
returns-then-starts_with-2 c = (
  omega arith,
  put_four c.args.quote c.args.w.now c.args.at c.args.page.now c.put_spelt-then-starts_with-2.new.page c.requires.1
      (sym c.starts_with.ensures ∙ c.if-starts_with.false) (sym c.starts_with-2.ensures ∙ c.if-starts_with-2.true)
      c.put_spelt-then-starts_with-2.result c.put_spelt-then-starts_with-2.ensures.2,
)

pub returns-then-w-at-lt2 : goal.returns-then-w-at-lt2
returns-then-w-at-lt2 c = (
  omega arith,
  put_cut c.args.quote c.args.w.now c.args.at c.args.page.now c.args.page.now c.requires.1 c.requires.0 c.if-w-at-lt2.true
      c.if-w-at-ne92.false (c.args.at + 1),
)

pub returns : goal.returns
returns c = (
  omega arith,
  put_letter _ _ c.args.at _ _ c.requires.1 (omega arith) c.if-w-at-ne92.false
      (sym c.starts_with-2.ensures ∙ c.if-starts_with-2.false) _ c.letter.ensures c.put_escaped-2.ensures,
)
