-- Whether three traits stand: the kinds of their entries, with items between them. Document 01, "Entries". Assumes nothing.
use Prim.Native.Nat.{ℕ, suc, ◌+◌}
use mathlib.Core.Path.{◌≡◌, refl, sym, ap, ◌∙◌}
use mathlib.Core.Bool.{false, not}
use mathlib.Core.List.{List, [], ◌∷◌}
use native.Mathlib.Nat.{add-zero}
use native.Mathlib.Omega.{arith}
use lib.ListN.{length}
use lib.Dec.{leb, eqb}
use borrow.Author.Tests.{leb-true, lt-leb, eq-eqb, ne_eqb, leb-false}
use Rattle.paper.specs.Tree.{Trait}
use Rattle.paper.specs.Grammar.{trait_onto}
use Rattle.paper.specs.Entries.{item_entries, item_size, trait_size, traits_size, trait_value, trait_entry, trait_entries}
use Rattle.paper.proofs.Tests.{split}
use Rattle.paper.proofs.Sizes.{item_size_lem}
use Rattle.entries.specs.Laid.{Stand, kind_at}
use Rattle.entries.proofs.Standing.{stand_back, kinds_between, item_kinds}
use Rattle.printing.specs.Standing.{Ends, Past}
use Rattle.printing.proofs.TraitParts.{trait_front, trait_back, first_kind}

-- ---- the kinds of a trait's entries

pub ends_there : (cells : List ℕ) (n : ℕ) (m : ℕ) → Ends cells m → m ≡ n → Ends cells n
ends_there cells n m e q = rw q at e

-- no item goes on where traits do, or behind them
no_item_there : (cells : List ℕ) (n parent at : ℕ) (ts : List Trait) → Stand cells n (trait_entries parent n at ts) → Ends cells (n + traits_size ts)
    → kind_at cells n ≡ 3 → ⊥
unfolding traits_size
no_item_there cells n parent at [] s e q = (ends_there cells n (n + 0) e (add-zero n)).no_item q
no_item_there cells n parent at (t ∷ ts) s e q = let k = first_kind cells n parent at t ts s in absurd (omega arith)

module _ (cells : List ℕ) (n parent at : ℕ) (t : Trait) (ts : List Trait) (s : Stand cells n (trait_entries parent n at (t ∷ ts)))
    (e : Ends cells (n + traits_size (t ∷ ts))) where
  ends_behind : Ends cells (n + trait_size t + traits_size ts)
  unfolding traits_size
  ends_behind = ends_there cells (n + trait_size t + traits_size ts) (n + (trait_size t + traits_size ts)) e (omega arith)

  -- ends at the next trait
  past_next : (r : ℕ) → Past cells (n + 1) r → r ≡ n + trait_size t
  past_next r p =
      let items = item_entries n (n + 1) (trait_value at t) t.value in
      let size : length items ≡ item_size t.value = item_size_lem t.value n (n + 1) (trait_value at t) in
      let stand : Stand cells (n + 1) items = stand_back cells n (trait_entry parent at t ∷ []) items (trait_front cells n parent at t ts s) in
      let no = no_item_there cells (n + trait_size t) parent (at + length (trait_onto t [])) ts (trait_back cells n parent at t ts s) ends_behind in
      split (leb r (n + trait_size t))
      (λ a. split (leb (n + trait_size t) r)
      (λ b. let x = leb-true r (n + trait_size t) a in let y = leb-true (n + trait_size t) r b in omega arith)
      (λ b. let y = leb-false (n + trait_size t) r b in
      absurd (p.stops (kinds_between cells 3 items (n + 1) stand (item_kinds t.value n (n + 1) (trait_value at t)) r p.on (omega arith)))))
      (λ a. let x = leb-false r (n + trait_size t) a in absurd (no (p.items (n + trait_size t) (omega arith) x)))

-- ---- three traits or more

third_go : (cells : List ℕ) (n parent at : ℕ) (t u : Trait) (ts : List Trait) → Stand cells n (trait_entries parent n at (u ∷ ts))
    → Ends cells (n + traits_size (u ∷ ts))
    → (third : ℕ) → Past cells (n + 1) third → eqb (kind_at cells third) 2 ≡ not (leb (length (t ∷ u ∷ ts)) 2)
unfolding traits_size
third_go cells n parent at t u [] s e third p =
    let q = past_next cells n parent at u [] s e third p in
    let ends = ends_there cells (n + trait_size u) (n + trait_size u + 0) (ends_behind cells n parent at u [] s e) (add-zero (n + trait_size u)) in
    ne_eqb (kind_at cells third) 2 (λ z. ends.no_trait_lem (sym (ap (kind_at cells) q) ∙ z))
third_go cells n parent at t u (x ∷ ts) s e third p =
    let q = past_next cells n parent at u (x ∷ ts) s e third p in
    eq-eqb (kind_at cells third) 2 (ap (kind_at cells) q ∙ first_kind cells (n + trait_size u) parent (at + length (trait_onto u [])) x ts
    (trait_back cells n parent at u (x ∷ ts) s))
    ∙ sym (ap not (lt-leb (suc (suc (suc (length ts)))) 2 (omega arith)))

module _ (cells : List ℕ) (n : ℕ) where
  pub three_none : (kind_at cells n ≡ 2 → ⊥) → (parent at : ℕ) (ts : List Trait) → Stand cells n (trait_entries parent n at ts)
      → Ends cells (n + traits_size ts) → false ≡ not (leb (length ts) 2)
  three_none k parent at [] s e = refl
  three_none k parent at (t ∷ ts) s e = absurd (k (first_kind cells n parent at t ts s))

  module _ (one : kind_at cells n ≡ 2) (second : ℕ) (p : Past cells (n + 1) second) where
    pub three_one : (kind_at cells second ≡ 2 → ⊥) → (parent at : ℕ) (ts : List Trait) → Stand cells n (trait_entries parent n at ts)
        → Ends cells (n + traits_size ts) → false ≡ not (leb (length ts) 2)
    unfolding traits_size
    three_one k parent at [] s e = absurd ((ends_there cells n (n + 0) e (add-zero n)).no_trait_lem one)
    three_one k parent at (t ∷ []) s e = refl
    three_one k parent at (t ∷ u ∷ ts) s e =
        let q = past_next cells n parent at t (u ∷ ts) s e second p in
        absurd (k (ap (kind_at cells) q ∙ first_kind cells (n + trait_size t) parent _ u ts (trait_back cells n parent at t (u ∷ ts) s)))

    module _ (two : kind_at cells second ≡ 2) (third : ℕ) (p' : Past cells (second + 1) third) where
      pub three_more : (parent at : ℕ) (ts : List Trait) → Stand cells n (trait_entries parent n at ts) → Ends cells (n + traits_size ts)
          → eqb (kind_at cells third) 2 ≡ not (leb (length ts) 2)
      unfolding traits_size
      three_more parent at [] s e = absurd ((ends_there cells n (n + 0) e (add-zero n)).no_trait_lem one)
      three_more parent at (t ∷ []) s e =
          let q = past_next cells n parent at t [] s e second p in
          let ends = ends_there cells (n + trait_size t) (n + trait_size t + 0) (ends_behind cells n parent at t [] s e) (add-zero (n + trait_size t)) in
          absurd (ends.no_trait_lem (sym (ap (kind_at cells) q) ∙ two))
      three_more parent at (t ∷ u ∷ ts) s e =
          let q = past_next cells n parent at t (u ∷ ts) s e second p in
          third_go cells (n + trait_size t) parent (at + length (trait_onto t [])) t u ts (trait_back cells n parent at t (u ∷ ts) s)
          (ends_behind cells n parent at t (u ∷ ts) s e) third (rw q at p')
