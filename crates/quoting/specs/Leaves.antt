-- A value that holds no items, and a map's key, put whole: what a function that puts one leaves of the page.
-- Document 01, "Canonical form"; document 02, Five.
use Rattle.std.specs.Prelude.{ℕ, ◌≡◌, true, List, [], ◌∷◌}
use Rattle.paper.specs.Bytes.{byte, space}
use Rattle.paper.specs.Values.{Leaf, leaf_onto, leaf_form, leaf_rule, Key, key_onto, key_rule}
use Rattle.paper.specs.Canonical.{leaf_sense, key_sense, print_leaf, print_label}
use Rattle.quoting.specs.declared.page.Page.{Page}
use Rattle.quoting.specs.Page.{Step, Puts}

-- a leaf of this form and spelling
abbrev pub LeafPut : ℕ → List ℕ → Page → Page → Type 0
LeafPut form w before after =
    (also : List ℕ) (v : Leaf) → w ≡ leaf_onto v [] → form ≡ leaf_form v → leaf_rule also v ≡ true → Puts before (print_leaf (leaf_sense v)) after

-- a key of this spelling: of its label, colon and space are still to be put
abbrev pub KeyPut : List ℕ → Page → Page → Type 0
KeyPut w before after =
    (also : List ℕ) (key : Key) → w ≡ key_onto key [] → key_rule also key ≡ true
    → Step before (print_label (key_sense key)) after (λ next. byte ":" ∷ space ∷ next)

-- the label of the key of this spelling
abbrev pub LabelPut : List ℕ → Page → Page → Type 0
LabelPut w before after =
    (also : List ℕ) (key : Key) → w ≡ key_onto key [] → key_rule also key ≡ true → Puts before (print_label (key_sense key)) after
