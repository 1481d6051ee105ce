-- The digits that stand there are those of the piece. Assumes nothing.
use Prim.Native.Nat.{◌-◌}
use native.Mathlib.Omega.{arith}
use lib.ListN.{drop, length-drop}
use Rattle.paper.specs.Bytes.{is_hex}
use Rattle.paper.proofs.Lists.{length_in_lem}
use Rattle.leaves.proofs.Escaping.{few_digits}
use Rattle.quoting.proofs.Spelling.{digits_put}
use Rattle.quoting.proofs.quoted.put_spelt.Goals as goal

pub slice_bounds-hex_value-end : goal.slice_bounds-hex_value-end
slice_bounds-hex_value-end c =
    let n = length_in_lem is_hex (drop c.args.at c.args.w.now) in
    let d = length-drop c.args.at c.args.w.now in omega arith

pub hex_value-requires : goal.hex_value-requires
hex_value-requires c = few_digits _ (c.digits_end-end.result - c.args.at) (omega arith) (omega arith)

pub returns : goal.returns
returns c =
    let n = length_in_lem is_hex (drop c.args.at c.args.w.now) in
    let d = length-drop c.args.at c.args.w.now in (
      omega arith,
      omega arith,
      λ digits left e s m. digits_put c.args.quote c.args.w.now digits left c.args.at c.args.most e s m _ _ c.digits_end-end.ensures
          c.hex_value.ensures c.put_scalar.ensures,
    )
