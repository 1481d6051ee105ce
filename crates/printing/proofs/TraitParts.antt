-- Traits that stand: their bytes in the sheet, their entries in the cells, and one of them put. Document 01, "Canonical form". Assumes nothing.
use Prim.Native.Nat.{ℕ, ◌+◌, ◌-◌}
use mathlib.Core.Path.{◌≡◌, refl, sym, ap, ◌∙◌}
use mathlib.Core.Bool.{true, ◌&&◌}
use mathlib.Core.List.{List, [], ◌∷◌, ◌++◌, append_assoc}
use native.Mathlib.Omega.{arith}
use lib.ListN.{length, take, drop, length-append}
use lib.Dec.{leb}
use borrow.Author.Tests.{leb-true}
use Rattle.paper.specs.Bytes.{byte, is_white, all, is_lower}
use Rattle.paper.specs.Names.{name_limit, name_rule}
use Rattle.paper.specs.Values.{value_onto, spelling, value_rule, bracket_depth}
use Rattle.paper.specs.Tree.{Trait}
use Rattle.paper.specs.Grammar.{trait_onto, traits_onto, trait_rule}
use Rattle.paper.specs.Limits.{bracket_limit, trait_fits}
use Rattle.paper.specs.Entries.{Entry, item_entries, trait_size, trait_name, trait_value, trait_entry, trait_entries}
use Rattle.paper.specs.Canonical.{value_sense, print_value, print_trait}
use Rattle.paper.proofs.Lists.{both}
use Rattle.paper.proofs.Fronts.{past_bytes}
use Rattle.paper.proofs.ReadValues.{value_append}
use Rattle.paper.proofs.Sizes.{item_size_lem}
use Rattle.text.proofs.Places.{front_behind}
use Rattle.entries.specs.Laid.{entry_at, Stand, kind_at}
use Rattle.entries.proofs.Standing.{stand_front, stand_back, stand_entry}
use Rattle.quoting.specs.declared.page.Page.{Page}
use Rattle.quoting.specs.Page.{Puts}
use Rattle.printing.specs.Standing.{OfValue, OfTrait, OfTraits}
use Rattle.printing.specs.Marking.{trait_sense}
use Rattle.printing.specs.Wholes.{ValuePut}
use Rattle.quoting.proofs.Parts.{part_is}
use Rattle.quoting.proofs.Putting.{puts_as, puts_then}

-- ---- a trait's bytes

trait_append : (t : Trait) (next : List ℕ) → trait_onto t next ≡ trait_onto t [] ++ next
trait_append t next =
    ap (λ (l : List ℕ). t.white ++ (t.name ++ (byte "=" ∷ l))) (value_append t.value next)
    ∙ ap (λ (l : List ℕ). t.white ++ l) (sym (append_assoc t.name (byte "=" ∷ spelling t.value) next))
    ∙ sym (append_assoc t.white (t.name ++ (byte "=" ∷ spelling t.value)) next)

module _ (s cells : List ℕ) (n parent at : ℕ) (t : Trait) (o : OfTrait s cells n parent at t) where
  named : drop (trait_name at t) s ≡ t.name ++ (byte "=" ∷ value_onto t.value o.after)
  named = past_bytes s at t.white (t.name ++ (byte "=" ∷ value_onto t.value o.after)) o.spelt

  pub trait_value_lem : OfValue s cells n t.value
  trait_value_lem =
      let sign : drop (trait_name at t + length t.name) s ≡ byte "=" ∷ value_onto t.value o.after = past_bytes s (trait_name at t) t.name
      (byte "=" ∷ value_onto t.value o.after) named in
      record {
        own = trait_entry parent at t;
        after = o.after;
        form = refl;
        count = refl;
        end = refl;
        spelt = sym (front_behind s (trait_name at t + length t.name) (byte "=") (value_onto t.value o.after) sign);
        stand = o.stand;
      }

  module _ (e : Entry) (g : e ≡ entry_at cells n) where
    name_is : (w : List ℕ) → w ≡ take (e.start - e.name_start) (drop e.name_start s) → w ≡ t.name ++ (byte "=" ∷ [])
    name_is w q =
        let own : e ≡ trait_entry parent at t = g ∙ stand_entry cells n (trait_entry parent at t) _ o.stand in
        let size : trait_value at t ≡ trait_name at t + length (t.name ++ (byte "=" ∷ [])) = omega (arith, length-append t.name (byte "=" ∷ [])) in
        q ∙ ap (λ (x : Entry). take (x.start - x.name_start) (drop x.name_start s)) own
        ∙ part_is s (trait_name at t) (trait_value at t) (t.name ++ (byte "=" ∷ [])) (value_onto t.value o.after)
        (named ∙ sym (append_assoc t.name (byte "=" ∷ []) (value_onto t.value o.after))) size

    pub trait_put : (w : List ℕ) → w ≡ take (e.start - e.name_start) (drop e.name_start s) → {before named after : Page} {next : ℕ}
        → Puts before (λ x. w ++ x) named → ValuePut s cells n bracket_limit named next after
        → trait_rule t ≡ true → trait_fits name_limit bracket_limit t ≡ true → (next ≡ n + trait_size t) × Puts before (print_trait (trait_sense t)) after
    unfolding trait_rule trait_fits
    trait_put w q p f r l =
        let rule = both (leb 1 (length t.white) && all is_white t.white && name_rule is_lower t.name) (value_rule [] t.value) r in
        let depth = both (leb (length t.name) name_limit) (leb (bracket_depth t.value) bracket_limit) l in
        let got = f [] t.value trait_value_lem rule.1 (leb-true (bracket_depth t.value) bracket_limit depth.1) in
        let said : (x : List ℕ) → t.name ++ (byte "=" ∷ x) ≡ w ++ x = λ x. sym
        (ap (λ (l : List ℕ). l ++ x) (name_is w q) ∙ append_assoc t.name (byte "=" ∷ []) x) in (
          omega (arith, got.0),
          puts_as _ (λ x. said (print_value (value_sense t.value) x)) (puts_then (λ x. w ++ x) (print_value (value_sense t.value)) p got.1),
        )

-- ---- traits one after another

module _ (cells : List ℕ) (n parent at : ℕ) (t : Trait) (ts : List Trait) (s : Stand cells n (trait_entries parent n at (t ∷ ts))) where
  abbrev here : List Entry
  here = trait_entry parent at t ∷ item_entries n (n + 1) (trait_value at t) t.value

  abbrev behind : List Entry
  behind = trait_entries parent (n + trait_size t) (at + length (trait_onto t [])) ts

  pub trait_front : Stand cells n here
  unfolding trait_entries
  trait_front = stand_front cells n here behind s

  pub trait_back : Stand cells (n + trait_size t) behind
  unfolding trait_entries
  trait_back =
      let k : n + length here ≡ n + trait_size t = omega (arith, item_size_lem t.value n (n + 1) (trait_value at t)) in
      rw k at (stand_back cells n here behind s)

  pub first_kind : kind_at cells n ≡ 2
  first_kind = ap (λ (e : Entry). e.kind) (stand_entry cells n (trait_entry parent at t) _ trait_front)

module _ (s cells : List ℕ) (n parent at : ℕ) (t : Trait) (ts : List Trait) (o : OfTraits s cells n parent at (t ∷ ts)) where
  pub front_of : OfTrait s cells n parent at t
  unfolding traits_onto
  front_of = record { after = traits_onto ts o.after; spelt = o.spelt; stand = trait_front cells n parent at t ts o.stand }

  pub back_of : OfTraits s cells (n + trait_size t) parent (at + length (trait_onto t [])) ts
  unfolding traits_onto
  back_of =
      record {
        after = o.after;
        spelt = past_bytes s at (trait_onto t []) (traits_onto ts o.after) (o.spelt ∙ trait_append t (traits_onto ts o.after));
        stand = trait_back cells n parent at t ts o.stand;
      }
