-- The value of an entry, put: a leaf by its spelling, a bracket item by item, whatever its kind.
-- Document 01, "Canonical form"; document 02, Five. Assumes nothing.
use Prim.Native.Nat.{ℕ, ◌+◌, ◌-◌, ◌≤◌, ◌<◌}
use mathlib.Core.Path.{◌≡◌, refl, sym, ap, ◌∙◌, subst}
use mathlib.Core.Bool.{true, false, not}
use mathlib.Core.List.{List, [], ◌∷◌, ◌++◌}
use native.Mathlib.Nat.{zero-add}
use native.Mathlib.Omega.{arith}
use lib.ListN.{length, take, drop}
use lib.Seq.{drop-drop}
use lib.Dec.{ltb, eqb}
use borrow.Author.Tests.{lt-ltb}
use Rattle.paper.specs.declared.brackets.Bracket.{Bracket}
use Rattle.paper.specs.Found.{pick}
use Rattle.paper.specs.Bytes.{byte, space, is_white, all}
use Rattle.paper.specs.Values.{Leaf, string, character, backtick, word, temporal, leaf_form, leaf_rule, opener, closer, bracket_form, keyed, enders, key_enders}
use Rattle.paper.specs.Values.{key_onto, Label, no_label, label, label_onto, label_rule, Value, leaf, empty_bracket, bracket, More, close, comma, value_onto, more_onto}
use Rattle.paper.specs.Values.{spelling, value_form, value_rule, more_rule, bracket_depth, more_depth}
use Rattle.paper.specs.Entries.{Entry, label_width, item_entry, item_entries, more_entries, items_of, more_items, item_size, more_size, value_width}
use Rattle.paper.specs.Canonical.{ItemsSense, none, item, label_sense, value_sense, more_sense, print_label, print_value, print_items, print_behind}
use Rattle.paper.proofs.Tests.{true_false, split}
use Rattle.paper.proofs.Sizes.{item_size_lem}
use Rattle.paper.proofs.Fronts.{past_bytes}
use Rattle.paper.proofs.BracketKinds.{opener_some}
use Rattle.paper.proofs.Labels.{key_append, label_append, label_parts}
use Rattle.paper.proofs.ReadValues.{value_append}
use Rattle.paper.proofs.Concepts.{element_parts}
use Rattle.text.proofs.Places.{front_behind}
use Rattle.entries.specs.Laid.{entry_at, Stand}
use Rattle.entries.proofs.Standing.{stand_front, stand_back, stand_entry}
use Rattle.quoting.specs.declared.page.Page.{Page}
use Rattle.quoting.specs.Page.{Step, Puts}
use Rattle.quoting.specs.Leaves.{LeafPut, LabelPut}
use Rattle.printing.specs.Standing.{OfValue, OfItem}
use Rattle.printing.specs.Wholes.{ItemLabelPut, ValuePut}
use Rattle.quoting.proofs.Parts.{part_is}
use Rattle.quoting.proofs.Putting.{puts_as, puts_then, step_then}
use Rattle.quoting.proofs.ByForm.{word_range}

-- ---- commas

-- what is printed for items behind so many others: a comma stands before each but the first
abbrev pub printed : ℕ → ItemsSense → List ℕ → List ℕ
printed i items next = pick (ltb 0 i) (print_behind items next) (print_items items next)

printed_none : (i : ℕ) (next : List ℕ) → printed i none next ≡ next
unfolding print_items
printed_none i next = split (ltb 0 i) (λ e. rw e) (λ e. rw e)

printed_more : (i : ℕ) (items : ItemsSense) (next : List ℕ) → printed (i + 1) items next ≡ print_behind items next
printed_more i items next = let h : 0 < i + 1 = omega arith in rw (lt-ltb 0 (i + 1) h)

-- ---- the forms of brackets

-- they are behind those of words, and none is that of times
bracket_forms : (k : Bracket) → (12 ≤ bracket_form k) × (bracket_form k ≡ 13 → ⊥)
bracket_forms Bracket.List = (omega arith, λ e. omega arith)
bracket_forms Bracket.Set = (omega arith, λ e. omega arith)
bracket_forms Bracket.Map = (omega arith, λ e. omega arith)
bracket_forms Bracket.Tuple = (omega arith, λ e. omega arith)

-- which forms are of no kind
pub other_form : (form : ℕ) → (form ≡ 12 → ⊥) → (form ≡ 14 → ⊥) → (form ≡ 15 → ⊥) → (form ≡ 16 → ⊥) → (k : Bracket) → form ≡ bracket_form k → ⊥
other_form form l s m t Bracket.List = l
other_form form l s m t Bracket.Set = s
other_form form l s m t Bracket.Map = m
other_form form l s m t Bracket.Tuple = t

-- each kind has a form of its own
abbrev kind_of : ℕ → Bracket
kind_of form = pick (eqb form 14) Bracket.Set (pick (eqb form 15) Bracket.Map (pick (eqb form 16) Bracket.Tuple Bracket.List))

kind_of_lem : (k : Bracket) → kind_of (bracket_form k) ≡ k
kind_of_lem Bracket.List = refl
kind_of_lem Bracket.Set = refl
kind_of_lem Bracket.Map = refl
kind_of_lem Bracket.Tuple = refl

one_kind : (j k : Bracket) → bracket_form j ≡ bracket_form k → j ≡ k
one_kind j k e = sym (kind_of_lem j) ∙ ap kind_of e ∙ kind_of_lem k

-- and no leaf has one of these
no_leaf : {X : Type 0} (also : List ℕ) (l : Leaf) (k : Bracket) → leaf_form l ≡ bracket_form k → leaf_rule also l ≡ true → X
no_leaf also (string ps) k e r = let h = (bracket_forms k).0 in absurd (omega arith)
no_leaf also (character ps) k e r = let h = (bracket_forms k).0 in absurd (omega arith)
no_leaf also (backtick ps) k e r = let h = (bracket_forms k).0 in absurd (omega arith)
no_leaf also (word f w) k e r = let h = (bracket_forms k).0 in let z = word_range also f w r in absurd (omega arith)
no_leaf also (temporal kind w) k e r = absurd ((bracket_forms k).1 (sym e))

-- ---- an item: its label, and its value

module _ (s cells : List ℕ) (n parent at : ℕ) (a : Label) (v : Value) (o : OfItem s cells n parent at a v) where
  abbrev item_value : OfValue s cells n v
  item_value = record {
    own = item_entry parent at a v;
    after = o.after;
    form = refl;
    count = refl;
    end = refl;
    spelt = past_bytes s at (label_onto a []) (value_onto v o.after) (o.spelt ∙ label_append a (value_onto v o.after));
    stand = o.stand;
  }

module _ (s cells : List ℕ) (n : ℕ) (k : Bracket) where
  -- a map's item has a key, which its entry names
  pub label_put : keyed k ≡ true → (e : Entry) → e ≡ entry_at cells n → (w : List ℕ) → w ≡ take (e.name_end - e.name_start) (drop e.name_start s)
      → {before after : Page} → LabelPut w before after → ItemLabelPut s cells n k before after
  unfolding label_onto label_rule label_sense
  label_put y e g w q p parent at no_label v o r = true_false (sym r ∙ ap not y)
  label_put y e g w q p parent at (label key white) v o r =
      let own = g ∙ stand_entry cells n _ _ o.stand in
      let front = key_append key (byte ":" ∷ (white ++ value_onto v o.after)) in
      let spelt = part_is s at (at + length (key_onto key [])) (key_onto key []) _ (o.spelt ∙ front) refl in
      p (key_enders k) key (q ∙ ap (λ (x : Entry). take (x.name_end - x.name_start) (drop x.name_start s)) own ∙ spelt) (label_parts k key white r).1

  -- any other has none
  pub label_none : keyed k ≡ false → (now : Page) → ItemLabelPut s cells n k now now
  unfolding label_sense print_label
  label_none y now parent at no_label v o r = record { lies = refl; same = λ next. refl }
  label_none y now parent at (label key white) v o r = true_false (sym (label_parts k key white r).0 ∙ y)

-- ---- the items of a bracket

-- what a value holds
abbrev pub held_by : Value → ItemsSense
held_by (leaf l) = none
held_by (empty_bracket k) = none
held_by (bracket k a v more) = item (label_sense a) (value_sense v) (more_sense more)

-- those that are left of a bracket of this kind that has so many, and what was put of the others
pub record Items (s cells : List ℕ) (k : Bracket) (n brackets : ℕ) (v : Value) (count : ℕ) (before : Page) (i next : ℕ) (now : Page) : Type 0 where
  pub more : More
  pub at : ℕ
  pub after : List ℕ
  pub stand : Stand cells next (more_entries n next at more)
  pub spelt : drop (at + 1) s ≡ drop 1 (more_onto k more after)
  pub few : i + more_items more ≡ count
  pub flat : more_depth more ≤ brackets
  pub rule : more_rule k more ≡ true
  pub total : next + more_size more ≡ n + 1 + item_size v
  pub put : Step before (λ x. print_items (held_by v) (closer k ∷ x)) now (λ x. printed i (more_sense more) (closer k ∷ x))

-- ---- the value of an entry: what is read is its own

module _ (s cells : List ℕ) (n : ℕ) (e : Entry) (g : e ≡ entry_at cells n) where
  own_is : (v : Value) (o : OfValue s cells n v) → e ≡ o.own
  own_is v o = g ∙ stand_entry cells n o.own _ o.stand

  form_is : (v : Value) → OfValue s cells n v → e.form ≡ value_form v
  form_is v o = ap (λ (x : Entry). x.form) (own_is v o) ∙ o.form

  count_is : (v : Value) → OfValue s cells n v → e.count ≡ items_of v
  count_is v o = ap (λ (x : Entry). x.count) (own_is v o) ∙ o.count

  pub spelling_is : (w : List ℕ) → w ≡ take (e.end - e.start) (drop e.start s) → (v : Value) → OfValue s cells n v → w ≡ spelling v
  spelling_is w q v o =
      q ∙ ap (λ (x : Entry). take (x.end - x.start) (drop x.start s)) (own_is v o)
      ∙ part_is s o.own.start o.own.end (spelling v) o.after (o.spelt ∙ value_append v o.after) o.end

  -- a leaf
  module _ (w : List ℕ) (q : w ≡ take (e.end - e.start) (drop e.start s)) (single : (k : Bracket) → e.form ≡ bracket_form k → ⊥)
      {before after : Page} (f : LeafPut e.form w before after) where
    leaf_go : (also : List ℕ) (v : Value) → e.form ≡ value_form v → w ≡ spelling v → value_rule also v ≡ true
        → (n + 1 ≡ n + 1 + item_size v) × Puts before (print_value (value_sense v)) after
    unfolding value_onto value_rule value_sense item_size print_value
    leaf_go also (leaf l) a b r = (omega arith, puts_as _ (λ next. refl) (f also l b a r))
    leaf_go also (empty_bracket k) a b r = absurd (single k a)
    leaf_go also (bracket k x v more) a b r = absurd (single k a)

    pub leaf_value : (also : List ℕ) (v : Value) → OfValue s cells n v → value_rule also v ≡ true
        → (n + 1 ≡ n + 1 + item_size v) × Puts before (print_value (value_sense v)) after
    leaf_value also v o r = leaf_go also v (form_is v o) (spelling_is w q v o) r

  module _ (k : Bracket) (held : e.form ≡ bracket_form k) where
    -- what holds of brackets of this kind holds of the value
    by_kind : (P : Value → Type 0) → P (empty_bracket k) → ((a : Label) (v : Value) (more : More) → P (bracket k a v more))
        → (also : List ℕ) (v : Value) → OfValue s cells n v → value_rule also v ≡ true → P v
    unfolding value_rule
    by_kind P empty some also v o r = go v (form_is v o) r
      where
        go : (v : Value) → e.form ≡ value_form v → value_rule also v ≡ true → P v
        go (leaf l) q r = no_leaf also l k (sym q ∙ held) r
        go (empty_bracket j) q r = subst (λ (i : Bracket). P (empty_bracket i)) (one_kind k j (sym held ∙ q)) empty
        go (bracket j a v more) q r = subst (λ (i : Bracket). P (bracket i a v more)) (one_kind k j (sym held ∙ q)) (some a v more)

    -- a bracket where none may be
    pub deep_value : {X : Type 0} (also : List ℕ) (v : Value) → OfValue s cells n v → value_rule also v ≡ true → bracket_depth v ≤ 0 → X
    unfolding bracket_depth
    deep_value {X} also v o r = by_kind (λ v. bracket_depth v ≤ 0 → X) (λ d. absurd (omega arith)) (λ a v more d. absurd (omega arith)) also v o r

    -- before the first item
    module _ (brackets : ℕ) (some : 0 < brackets) (page : Page) where
      pub items_first : (also : List ℕ) (v : Value) → OfValue s cells n v → value_rule also v ≡ true → bracket_depth v ≤ brackets
          → Items s cells k n (brackets - 1) v e.count page 0 (n + 1) page
      unfolding value_onto value_rule value_sense items_of item_size item_entries bracket_depth print_value all
      items_first also v o r = by_kind
          (λ v. OfValue s cells n v → value_rule also v ≡ true → bracket_depth v ≤ brackets → Items s cells k n (brackets - 1) v e.count page 0 (n + 1) page)
          (λ o r d.
          let first = o.own.start + length (opener k) in
          let closed = past_bytes s o.own.start (opener k) (closer k ∷ o.after) o.spelt in
          record {
            more = close;
            at = first;
            after = o.after;
            stand = stand_back cells n (o.own ∷ []) [] o.stand;
            spelt = sym (front_behind s first (closer k) o.after closed);
            few = zero-add (items_of (empty_bracket k)) ∙ sym (count_is (empty_bracket k) o);
            flat = omega arith;
            rule = refl;
            total = refl;
            put = record { lies = refl; same = λ x. refl };
          })
          (λ a v more o r d.
          let first = o.own.start + length (opener k) in
          let opened = past_bytes s o.own.start (opener k) (label_onto a (value_onto v (more_onto k more o.after))) o.spelt in
          let here : first - 1 + 1 ≡ first = omega (arith, opener_some k) in
          let there : first - 1 + 1 + 0 ≡ first = omega (arith, opener_some k) in
          record {
            more = comma [] a v more;
            at = first - 1;
            after = o.after;
            stand = rw there (stand_back cells n (o.own ∷ []) _ o.stand);
            spelt = rw here opened;
            few = zero-add (items_of (bracket k a v more)) ∙ sym (count_is (bracket k a v more) o);
            flat = omega arith;
            rule = r;
            total = omega arith;
            put = record { lies = refl; same = λ x. refl };
          })
          also v o r o r

    -- the bracket around the items
    pub bracket_put : {before opened after : Page} → Puts before (λ x. opener k ++ x) opened
        → (also : List ℕ) (v : Value) → OfValue s cells n v → value_rule also v ≡ true
        → Puts opened (λ x. print_items (held_by v) (closer k ∷ x)) after → Puts before (print_value (value_sense v)) after
    unfolding value_sense print_value
    bracket_put {before} {opened} {after} h =
        by_kind (λ v. Puts opened (λ x. print_items (held_by v) (closer k ∷ x)) after → Puts before (print_value (value_sense v)) after)
        (λ p. puts_as _ (λ x. refl) (puts_then (λ x. opener k ++ x) (λ x. print_items none (closer k ∷ x)) h p))
        (λ a v more p. puts_as _ (λ x. refl) (puts_then (λ x. opener k ++ x) (λ x. print_items (held_by (bracket k a v more)) (closer k ∷ x)) h p))

-- ---- item by item

-- where no items are left, nothing is
none_left : (more : More) → more_items more ≡ 0 → (more_size more ≡ 0) × (more_sense more ≡ none)
unfolding more_items more_size more_sense
none_left close e = (refl, refl)
none_left (comma white a v more) e = absurd (omega arith)

module _ (s cells : List ℕ) (k : Bracket) (n brackets : ℕ) (whole : Value) (count : ℕ) (before : Page) (i next : ℕ) (now : Page) where
  -- one more: a comma where there are others before it, its label, and its value
  module _ (some : i < count) {apart lead after : Page} (c : Puts now (λ x. pick (ltb 0 i) (byte "," ∷ space ∷ x) x) apart)
      (p : ItemLabelPut s cells next k apart lead) (next' : ℕ) (f : ValuePut s cells next brackets lead next' after) where
    on : (more : More) (at : ℕ) (behind : List ℕ) → Stand cells next (more_entries n next at more) → drop (at + 1) s ≡ drop 1 (more_onto k more behind)
        → i + more_items more ≡ count → more_depth more ≤ brackets → more_rule k more ≡ true → next + more_size more ≡ n + 1 + item_size whole
        → Step before (λ x. print_items (held_by whole) (closer k ∷ x)) now (λ x. printed i (more_sense more) (closer k ∷ x))
        → Items s cells k n brackets whole count before (i + 1) next' after
    unfolding more_onto more_items more_depth more_rule more_size more_entries more_sense print_items
    on close at rest st t l d r z m = absurd (omega arith)
    on (comma white a v more) at rest st t l d r z m =
        let place = at + 1 + length white in
        let value = place + label_width a in
        let own = item_entry n place a v in
        let items = item_entries next (next + 1) value v in
        let behind = more_entries n (next + 1 + item_size v) (value + value_width v) more in
        let o : OfItem s cells next n place a v = record {
          after = more_onto k more rest;
          spelt = past_bytes s (at + 1) white (label_onto a (value_onto v (more_onto k more rest))) t;
          stand = stand_front cells next (own ∷ items) behind st;
        } in
        let it = item_value s cells next n place a v o in
        let ended = past_bytes s value (spelling v) (more_onto k more rest) (it.spelt ∙ value_append v (more_onto k more rest)) in
        let rules = element_parts (all is_white white) (label_rule k a) (value_rule (enders k) v) (more_rule k more) r in
        let labelled = p n place a v o rules.1 in
        let got = f (enders k) v it rules.2 (omega arith) in
        let size = item_size_lem v next (next + 1) value in
        let there : next + length (own ∷ items) ≡ next + 1 + item_size v = omega arith in
        let gap = λ (y : List ℕ). pick (ltb 0 i) (byte "," ∷ space ∷ y) y in
        let item_on = λ (y : List ℕ). print_label (label_sense a) (print_value (value_sense v) y) in
        record {
          more = more;
          at = value + value_width v;
          after = rest;
          stand = rw got.0 (rw there at (stand_back cells next (own ∷ items) behind st));
          spelt = sym (drop-drop 1 (value + value_width v) s) ∙ ap (drop 1) ended;
          few = omega arith;
          flat = omega arith;
          rule = rules.3;
          total = omega (arith, got.0);
          put = step_then (λ y. gap (item_on y)) (λ x. printed (i + 1) (more_sense more) (closer k ∷ x)) m
              (λ x. ap (λ (l : List ℕ). gap (item_on l)) (sym (printed_more i (more_sense more) (closer k ∷ x))))
              (puts_then gap item_on c (puts_then (print_label (label_sense a)) (print_value (value_sense v)) labelled got.1));
        }

    pub items_on : Items s cells k n brackets whole count before i next now → Items s cells k n brackets whole count before (i + 1) next' after
    items_on it = on it.more it.at it.after it.stand it.spelt it.few it.flat it.rule it.total it.put

  -- none more, and what closes the bracket
  pub items_over : count ≤ i → {after : Page} → Puts now (λ x. closer k ∷ x) after
      → Items s cells k n brackets whole count before i next now
      → (next ≡ n + 1 + item_size whole) × Puts before (λ x. print_items (held_by whole) (closer k ∷ x)) after
  items_over h p it =
      let e = none_left it.more (omega (arith, it.few)) in (
        omega (arith, it.total, e.0),
        step_then (λ x. closer k ∷ x) (λ x. x) it.put (λ x. ap (λ (y : ItemsSense). printed i y (closer k ∷ x)) e.1 ∙ printed_none i (closer k ∷ x)) p,
      )
