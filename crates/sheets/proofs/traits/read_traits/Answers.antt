-- A law for each way out, and for a turn. What closes each goal is what the turns so far leave.
use Prim.Native.Nat.{ℕ}
use mathlib.Core.Path.{◌≡◌, refl, sym, ap, ◌∙◌}
use mathlib.Core.Bool.{Bool}
use native.Mathlib.Omega.{arith}
use Rattle.text.proofs.Answers.{passes}
use Rattle.std.specs.Prelude.{Err}
use Rattle.paper.specs.Bytes.{bytes, elem}
use Rattle.sheets.proofs.TraitRuns.{traits_begin, Begins, over_names, refused_names}
use Rattle.sheets.proofs.TraitRuns.{traits_cut, traits_over, traits_due, traits_refused, trait_ahead, traits_on}
use Rattle.sheets.proofs.traits.read_traits.Goals.{Else-mark-i}
use Rattle.sheets.proofs.traits.read_traits.Goals as goal

-- the byte behind the white space is that of the sheet, and so it tells whether the marker ends
told : {b there : ℕ} {asked o : Bool} → b ≡ there → asked ≡ elem b (bytes ">/") → asked ≡ o → elem there (bytes ">/") ≡ o
told here asked o = ap (λ (k : ℕ). elem k (bytes ">/")) (sym here) ∙ sym asked ∙ o

-- a trait is due there
begins : (c : Else-mark-i) → Begins c.args.s.now c.loop-b.i c.end-mark.result
begins c =
    let byte = c.in-Some.ensures.lookup.3 in
    record {
      inside = byte.0;
      some = omega (arith, c.end-mark.ensures.1, c.if-mark-i.false);
      goes_on = told (byte.1 0) c.is_one_of.ensures c.if-is_one_of.false;
    }

pub loop-b-init : goal.loop-b-init
loop-b-init c = traits_begin c.requires.0.inside c.requires.1 c.requires.2

pub returns-in_default : goal.returns-in_default
returns-in_default c =
    let e = ap Err c.at.ensures in
    let past = c.in_default.ensures.lookup.3 in
    (traits_cut c.loop-b.invariant c.end-mark.ensures (omega (arith, past, c.end-mark.ensures.2)) e, refused_names e)

pub returns-then-is_one_of : goal.returns-then-is_one_of
returns-then-is_one_of c =
    let byte = c.in-Some.ensures.lookup.3 in (
      traits_over c.loop-b.invariant c.end-mark.ensures byte.0 (told (byte.1 0) c.is_one_of.ensures c.if-is_one_of.true) refl,
      over_names c.loop-b.invariant refl,
    )

pub returns-then-mark-i : goal.returns-then-mark-i
returns-then-mark-i c =
    let byte = c.in-Some.ensures.lookup.3 in
    let e = ap Err c.at-then-mark-i.ensures in (
      traits_due c.loop-b.invariant c.end-mark.ensures byte.0 (told (byte.1 0) c.is_one_of.ensures c.if-is_one_of.false) c.if-mark-i.true e,
      refused_names e,
    )

pub returns-in_err-one : goal.returns-in_err-one
returns-in_err-one c =
    let e = passes c.from_residual.ensures.1 in (
      traits_refused c.loop-b.invariant c.end-mark.ensures (begins (goal.at.returns-in_err-one c).Else-mark-i) c.after.ensures
          c.in_err-one.ensures refl e,
      refused_names e,
    )

pub overflow_add-made : goal.overflow_add-made
overflow_add-made c =
    omega (
      arith,
      trait_ahead c.loop-b.invariant c.end-mark.ensures (begins (goal.at.overflow_add-made c).Else-mark-i) c.after.ensures c.in_ok-one.ensures refl,
      c.requires.1.few,
    )

pub loop-b-smaller : goal.loop-b-smaller
loop-b-smaller c =
    omega (
      arith,
      trait_ahead c.loop-b.invariant c.end-mark.ensures (begins (goal.at.loop-b-smaller c).Else-mark-i) c.after.ensures c.in_ok-one.ensures refl,
    )

pub loop-b-preserved : goal.loop-b-preserved
loop-b-preserved c =
    traits_on c.loop-b.invariant c.end-mark.ensures (begins (goal.at.loop-b-preserved c).Else-mark-i) c.after.ensures c.in_ok-one.ensures refl
    c.read_trait.auto.cells c.read_trait.auto.names
