-- An answer is known from its number, place and count: no two answers tell the same.
-- By the way back from numbers to refusals. Assumes nothing.
use Prim.Native.Nat.{ℕ, zero, suc, ◌≤◌}
use mathlib.Core.Path.{◌≡◌, refl, sym, ap, ◌∙◌}
use mathlib.Core.List.{List, [], ◌∷◌}
use mathlib.Core.Option.{Option, none, some}
use native.Mathlib.Omega.{arith}
use lib.ListN.{get_elem?}
use Rattle.std.specs.Prelude.{Result, Ok, Err}
use Rattle.paper.specs.Answer.{Answer, accepted_at, refused_at, accepted, refused, number_of, told}
use Rattle.paper.specs.declared.Accepted.{Accepted}
use Rattle.paper.specs.declared.Refused.{Refused}
use Rattle.paper.specs.declared.Told.{Told}
use Rattle.paper.specs.declared.Refusal.{Refusal}
use Rattle.paper.specs.declared.Refusal.TheVariants.{Table, SheetTooLong, Bytes, Name, Unlisted, Value, Due, ClosingName, Cut, TooDeep, NoEntryLeft, NoRoom}
use Rattle.paper.specs.declared.Refusal.TheVariants.{RollTooLong, BeforeBoundary, TooManySheets, RootAnnotated, View, TraitTwice}

refusals : List Refusal
refusals =
    Table ∷
    SheetTooLong ∷
    Bytes ∷
    Name ∷
    Unlisted ∷
    Value ∷
    Due ∷
    ClosingName ∷
    Cut ∷
    TooDeep ∷
    NoEntryLeft ∷
    NoRoom ∷
    RollTooLong ∷
    BeforeBoundary ∷
    TooManySheets ∷
    RootAnnotated ∷
    View ∷
    TraitTwice ∷
    []

-- the refusal that a number names; 0 names none
named : ℕ → Option Refusal
named zero = none
named (suc n) = get_elem? refusals n

named_back : (why : Refusal) → named (number_of why) ≡ some why
unfolding named refusals
named_back Table = refl
named_back SheetTooLong = refl
named_back Bytes = refl
named_back Name = refl
named_back Unlisted = refl
named_back Value = refl
named_back Due = refl
named_back ClosingName = refl
named_back Cut = refl
named_back TooDeep = refl
named_back NoEntryLeft = refl
named_back NoRoom = refl
named_back RollTooLong = refl
named_back BeforeBoundary = refl
named_back TooManySheets = refl
named_back RootAnnotated = refl
named_back View = refl
named_back TraitTwice = refl

pub number_injective : (why other : Refusal) → number_of why ≡ number_of other → why ≡ other
number_injective why other e =
    let s : some why ≡ some other = sym (named_back why) ∙ ap named e ∙ named_back other in
    cc

-- no refusal has the number of an acceptance
pub number_positive : (why : Refusal) → number_of why ≡ 0 → ⊥
unfolding named
number_positive why e =
    let s : some why ≡ none = sym (named_back why) ∙ ap named e in
    let no : ◌≡◌ {A = ℕ} 0 1 = cc in
    omega arith

-- an acceptance is known from its place and count, a refusal from its number and place
same_accepted : (a b : Accepted) → a.place ≡ b.place → a.count ≡ b.count → a ≡ b
same_accepted a b p n =
    ap (λ (x : ℕ). accepted_at x a.count) p ∙ ap (accepted_at b.place) n

pub told_injective : (a b : Answer) → told a ≡ told b → a ≡ b
told_injective (Ok a) (Ok b) e = ap Ok (same_accepted a b (ap (λ (x : Told). x.place) e) (ap (λ (x : Told). x.count) e))
told_injective (Ok a) (Err r) e = absurd (number_positive r.refusal (sym (ap (λ (x : Told). x.number) e)))
told_injective (Err r) (Ok a) e = absurd (number_positive r.refusal (ap (λ (x : Told). x.number) e))
told_injective (Err r) (Err q) e =
    let why = number_injective r.refusal q.refusal (ap (λ (x : Told). x.number) e) in
    let at : r.place ≡ q.place = ap (λ (x : Told). x.place) e in
    ap Err (ap (λ (w : Refusal). refused_at w r.place) why ∙ ap (refused_at q.refusal) at)

-- a refusal is no acceptance
pub told_apart : {X : Type 0} (n at place many : ℕ) → 1 ≤ n → refused n at ≡ accepted place many → X
told_apart n at place many l e = let z : n ≡ 0 = ap (λ (x : Told). x.number) e in absurd (omega (arith, l))
