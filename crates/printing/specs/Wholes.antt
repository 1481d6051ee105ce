-- Labels, values, traits and markers put whole, for every tree that stands there: what a function that puts one leaves of the page.
-- Document 01, "Canonical form"; document 02, Five.
use Rattle.std.specs.Prelude.{ℕ, ◌+◌, ◌≤◌, ◌≡◌, Bool, true, List, ◌∷◌, map}
use Rattle.paper.specs.Bytes.{lf, all}
use Rattle.paper.specs.Names.{name_limit}
use Rattle.paper.specs.declared.brackets.Bracket.{Bracket}
use Rattle.paper.specs.Values.{Label, Value, label_rule, value_rule, bracket_depth}
use Rattle.paper.specs.Tree.{Trait, Concept}
use Rattle.paper.specs.Grammar.{trait_rule, marker_rule}
use Rattle.paper.specs.Limits.{bracket_limit, trait_fits, marker_fits}
use Rattle.paper.specs.Entries.{item_size, trait_size, traits_size, marker_of}
use Rattle.paper.specs.Canonical.{label_sense, value_sense, marker_sense, print_label, print_value, print_trait, print_marker, last_in_slash}
use Rattle.quoting.specs.declared.page.Page.{Page}
use Rattle.quoting.specs.Page.{Puts}
use Rattle.printing.specs.Standing.{Ends, OfValue, OfItem, OfTrait, OfTraits, OfConcept}
use Rattle.printing.specs.Marking.{trait_sense, ending_of, traits_print}

-- the label of the item of entry n, in a bracket of this kind
abbrev pub ItemLabelPut : List ℕ → List ℕ → ℕ → Bracket → Page → Page → Type 0
ItemLabelPut s cells n k before after =
    (parent place : ℕ) (a : Label) (v : Value) → OfItem s cells n parent place a v → label_rule k a ≡ true → Puts before (print_label (label_sense a)) after

-- the value of entry n, and the entry that comes next
abbrev pub ValuePut : List ℕ → List ℕ → ℕ → ℕ → Page → ℕ → Page → Type 0
ValuePut s cells n brackets before next after =
    (also : List ℕ) (v : Value) → OfValue s cells n v → value_rule also v ≡ true → bracket_depth v ≤ brackets
    → (next ≡ n + 1 + item_size v) × Puts before (print_value (value_sense v)) after

-- the trait of entry n
abbrev pub TraitPut : List ℕ → List ℕ → ℕ → Page → ℕ → Page → Type 0
TraitPut s cells n before next after =
    (parent place : ℕ) (t : Trait) → OfTrait s cells n parent place t → trait_rule t ≡ true → trait_fits name_limit bracket_limit t ≡ true
    → (next ≡ n + trait_size t) × Puts before (print_trait (trait_sense t)) after

-- the traits from entry n on, below the name or beside it, and whether the last value ends in "/"
abbrev pub TraitsPut : List ℕ → List ℕ → ℕ → Bool → ℕ → Page → ℕ → Bool → Page → Type 0
TraitsPut s cells n below depth before next slash after =
    (parent place : ℕ) (ts : List Trait) → OfTraits s cells n parent place ts → Ends cells (n + traits_size ts)
    → all trait_rule ts ≡ true → all (trait_fits name_limit bracket_limit) ts ≡ true
    → (next ≡ n + traits_size ts) × (slash ≡ last_in_slash (map trait_sense ts)) × Puts before (traits_print below depth (map trait_sense ts)) after

-- the opening marker of entry n, and the line end
abbrev pub MarkerPut : List ℕ → List ℕ → ℕ → ℕ → Page → ℕ → Page → Type 0
MarkerPut s cells n depth before next after =
    (parent place tabs : ℕ) (c : Concept) → OfConcept s cells n parent place tabs c → marker_rule (marker_of c) ≡ true
    → marker_fits name_limit bracket_limit (marker_of c) ≡ true
    → (next ≡ n + 1 + traits_size (marker_of c).traits) × Puts before (λ next. print_marker depth (marker_sense (marker_of c)) (ending_of c) (lf ∷ next)) after
