-- By how many bytes the scalar value takes. Assumes nothing.
use Rattle.quoting.proofs.Spelling.{bytes_one, bytes_more, encode_one, encode_two, encode_three, encode_four}
use Rattle.quoting.proofs.quoted.put_scalar.Goals as goal

pub returns-then-v-le127 : goal.returns-then-v-le127
returns-then-v-le127 c = λ _. rw (encode_one c.args.v c.if-v-le127.true) (bytes_one c.args.quote _ c.put_escaped.ensures)

pub returns-then-v-le2047 : goal.returns-then-v-le2047
returns-then-v-le2047 c =
    λ _. rw (encode_two c.args.v c.if-v-le127.false c.if-v-le2047.true)
    (bytes_more c.args.quote _ _ c.put_escaped-then-v-le2047.ensures
    (bytes_one c.args.quote _ c.put_escaped-then-v-le2047-2.ensures))

pub returns-then-v-le65535 : goal.returns-then-v-le65535
returns-then-v-le65535 c =
    λ _. rw (encode_three c.args.v c.if-v-le2047.false c.if-v-le65535.true)
    (bytes_more c.args.quote _ _ c.put_escaped-then-v-le65535.ensures
    (bytes_more c.args.quote _ _ c.put_escaped-then-v-le65535-2.ensures
    (bytes_one c.args.quote _ c.put_escaped-then-v-le65535-3.ensures)))

pub returns-then-v-le1114111 : goal.returns-then-v-le1114111
returns-then-v-le1114111 c =
    λ _. rw (encode_four c.args.v c.if-v-le65535.false) (bytes_more c.args.quote _ _ c.put_escaped-then-v-le1114111.ensures
    (bytes_more c.args.quote _ _ c.put_escaped-then-v-le1114111-2.ensures
    (bytes_more c.args.quote _ _ c.put_escaped-then-v-le1114111-3.ensures
    (bytes_one c.args.quote _ c.put_escaped-then-v-le1114111-4.ensures))))
