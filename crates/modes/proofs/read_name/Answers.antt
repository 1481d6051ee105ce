-- A law for each way out; the tests are those of the definition, in its order.
use mathlib.Core.Path.{ap}
use mathlib.Core.Bool.{not}
use mathlib.Core.Logic.{⊎_elim, inl, inr}
use native.Mathlib.Omega.{arith}
use Rattle.modes.proofs.Named.{name_cut, name_size, name_short, name_broken, name_good}
use Rattle.modes.proofs.read_name.Goals as goal

pub returns-in_default : goal.returns-in_default
returns-in_default c = let past = c.in_default.ensures.lookup in rw c.at.ensures (name_cut _ _ (omega arith))

pub returns-then-size-eq0 : goal.returns-then-size-eq0
returns-then-size-eq0 c =
    let here = c.in-Some.ensures.lookup.3 in
    rw c.at-then-size-eq0.ensures (name_size _ _ here.0 _ (here.1 0) (⊎_elim inl (λ w. inr w.1) c.then-size-eq0.either))

pub returns-then-table-letters : goal.returns-then-table-letters
returns-then-table-letters c =
    let here = c.in-Some.ensures.lookup.3 in
    rw c.at-then-table-letters.ensures (name_short _ _ here.0 _ (here.1 0) c.if-size-eq0.false c.if-size-gt-LIMIT.false c.if-table-letters.true)

pub returns-then-not-is_concept_name : goal.returns-then-not-is_concept_name
returns-then-not-is_concept_name c =
    let here = c.in-Some.ensures.lookup.3 in
    rw c.at-then-not-is_concept_name.ensures
    (name_broken _ _ here.0 _ (here.1 0) c.if-size-eq0.false c.if-size-gt-LIMIT.false c.if-table-letters.false _ c.is_concept_name.ensures
    (ap not c.if-not-is_concept_name.true))

pub returns : goal.returns
returns c =
    let here = c.in-Some.ensures.lookup.3 in
    name_good _ _ here.0 _ (here.1 0) c.if-size-eq0.false c.if-size-gt-LIMIT.false c.if-table-letters.false _ c.is_concept_name.ensures
    (ap not c.if-not-is_concept_name.false)
