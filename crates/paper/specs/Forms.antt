-- The number of each form.
-- Document 01, "Entries"; document 02, Two and Five.
use Rattle.std.specs.Prelude.{ℕ, Option, None, Some}
use Rattle.paper.specs.declared.forms.Body.{Body}
use Rattle.paper.specs.declared.forms.Body.TheVariants.{SelfClosed, Children, Content}
use Rattle.paper.specs.declared.forms.Form.{Form}

abbrev pub number_of_body : Body → ℕ
number_of_body SelfClosed = 1
number_of_body Children = 2
number_of_body Content = 3

abbrev pub number_of_form : Form → ℕ
number_of_form Form.String = 1
number_of_form Form.Character = 2
number_of_form Form.Boolean = 3
number_of_form Form.Integer = 4
number_of_form Form.Decimal = 5
number_of_form Form.Scientific = 6
number_of_form Form.Fraction = 7
number_of_form Form.Pascal = 8
number_of_form Form.Camel = 9
number_of_form Form.Uuid = 10
number_of_form Form.Iri = 11
number_of_form Form.List = 12
number_of_form Form.Time = 13
number_of_form Form.Set = 14
number_of_form Form.Map = 15
number_of_form Form.Tuple = 16

-- the number of a form, 0 where there is none
abbrev pub number_or_none : Option Form → ℕ
number_or_none None = 0
number_or_none (Some f) = number_of_form f
