-- One digit or two. Assumes nothing.
use Rattle.quoting.proofs.Putting.{hex_one, hex_two}
use Rattle.quoting.proofs.quoted.put_hex.Goals as goal
use Rattle.quoting.proofs.quoted.put_hex.Goals.{then-b-ge16, else-b-ge16}

pub returns : goal.returns
returns c = elim c.if-b-ge16.branch [
  | then-b-ge16 w ↦ hex_two c.args.b w.if-b-ge16.true _ _ w.hex_letter.ensures c.hex_letter-2.ensures w.put_byte.ensures
      (rw w.page-is at c.put_byte-2.ensures)
  | else-b-ge16 w ↦ hex_one c.args.b w.if-b-ge16.false _ c.hex_letter-2.ensures (rw w.page-is at c.put_byte-2.ensures)
]
