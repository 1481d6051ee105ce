-- The number of a form that is answered. Assumes nothing.
-- Document 01, "Entries": the forms' numbers.
use Prim.Native.Nat.{◌<◌}
use mathlib.Core.Path.{◌≡◌}
use mathlib.Core.Bool.{Bool, true, false}
use native.Mathlib.Omega.{arith}
use Rattle.std.specs.Prelude.{Option}
use Rattle.std.specs.Bool.{then_some}
use Rattle.paper.specs.declared.forms.Form.{Form}
use Rattle.paper.specs.Found.{pick}
use Rattle.paper.specs.Forms.{number_of_form, number_or_none}

-- where something fits, and else 0
pub number_if : (f : Form) (r : Option Form) (fits is : Bool) → r ≡ then_some fits f → fits ≡ is → number_or_none r ≡ pick is (number_of_form f) 0
number_if f r true is e q = rw (e, ← q)
number_if f r false is e q = rw (e, ← q)

pub form_some : (f : Form) → 0 < number_of_form f
form_some Form.String = omega arith
form_some Form.Character = omega arith
form_some Form.Boolean = omega arith
form_some Form.Integer = omega arith
form_some Form.Decimal = omega arith
form_some Form.Scientific = omega arith
form_some Form.Fraction = omega arith
form_some Form.Pascal = omega arith
form_some Form.Camel = omega arith
form_some Form.Uuid = omega arith
form_some Form.Iri = omega arith
form_some Form.List = omega arith
form_some Form.Time = omega arith
form_some Form.Set = omega arith
form_some Form.Map = omega arith
form_some Form.Tuple = omega arith
