-- A Concept: its marker, what stands inside, and its closing marker, put one behind the other. Document 01, "Canonical form". Assumes nothing.
use Prim.Native.Nat.{ℕ, suc, ◌+◌, ◌-◌, ◌<◌}
use mathlib.Core.Path.{◌≡◌, refl, sym, ap, ◌∙◌}
use mathlib.Core.Bool.{Bool, true, false, cond}
use mathlib.Core.List.{List, [], ◌∷◌, ◌++◌, map}
use native.Mathlib.Omega.{arith}
use lib.ListN.{length, take, drop}
use lib.Dec.{eqb}
use borrow.Author.Tests.{eqb-true}
use Rattle.paper.specs.Found.{pick}
use Rattle.paper.specs.Bytes.{byte, all, lf}
use Rattle.paper.specs.Names.{name_limit}
use Rattle.paper.specs.Tree.{Blank, Trait, Marker, Line, Concept, self_closed, children, content, Body, block, self}
use Rattle.paper.specs.Grammar.{blank_onto, tabs_onto, marker_onto, trait_onto, ending_onto, closing_onto, lines_onto, concept_onto, body_onto, blank_rule}
use Rattle.paper.specs.Grammar.{marker_rule, opens_block, line_rule, concept_rule, body_rule}
use Rattle.paper.specs.Limits.{bracket_limit, marker_fits, concept_fits, body_fits, concept_depth}
use Rattle.paper.specs.Entries.{Entry, item_entries, trait_size, trait_value, trait_entries, traits_size, concept_size, body_size, body_count, marker_of, concept_form}
use Rattle.paper.specs.Entries.{marker_name, body_start, concept_entry, inside_entries, body_entries}
use Rattle.paper.specs.Canonical.{marker_sense, line_sense, concept_sense, body_sense, print_marker, print_lines, print_concept, print_body}
use Rattle.std.specs.Prelude.{count_by}
use Rattle.std.proofs.lemmas.List.Sums.{sum_by-cons}
use Rattle.std.specs.List.{range_with_len}
use Rattle.paper.proofs.Tests.{split}
use Rattle.paper.proofs.Lists.{both, all_head}
use Rattle.paper.proofs.Sizes.{traits_size_lem}
use Rattle.paper.proofs.Concepts.{element_parts}
use Rattle.paper.proofs.Fronts.{marker_front, blank_front, past_front, past_bytes}
use Rattle.entries.specs.Laid.{entry_at, Stand, kind_at}
use Rattle.entries.proofs.Standing.{stand_entry, stand_front, stand_back, of_kind, item_kinds}
use Rattle.quoting.specs.declared.page.Page.{Page}
use Rattle.quoting.specs.Page.{Puts}
use Rattle.quoting.proofs.Putting.{puts_as, puts_then}
use Rattle.printing.specs.Standing.{Ends, OfConcept, OfBody}
use Rattle.printing.specs.Walking.{OfContent, Keeps, traits_in, Elements, ContentPut, ConceptPut, BodyPut}
use Rattle.printing.specs.Wholes.{MarkerPut}
use Rattle.quoting.proofs.Parts.{part_is}
use Rattle.printing.proofs.BodyLaws.{own_entry_lem}

-- ---- how many traits stand in front

traits_append : (a b : List Entry) → traits_in (a ++ b) ≡ traits_in a + traits_in b
unfolding traits_in
traits_append [] b = omega arith
traits_append (e ∷ a) b = go (eqb e.kind 2) (traits_append a b)
  where
    go : (t : Bool) → traits_in (a ++ b) ≡ traits_in a + traits_in b → pick t (suc (traits_in (a ++ b))) (traits_in (a ++ b))
        ≡ pick t (suc (traits_in a)) (traits_in a) + traits_in b
    go true h = omega arith
    go false h = h

-- no item is a trait
no_traits : (es : List Entry) → all (of_kind 3) es ≡ true → traits_in es ≡ 0
unfolding traits_in
no_traits [] a = refl
no_traits (e ∷ es) a = let h = all_head (of_kind 3) e es a in rw (eqb-true e.kind 3 h.0) (no_traits es h.1)

traits_count : (ts : List Trait) (parent next at : ℕ) → traits_in (trait_entries parent next at ts) ≡ length ts
unfolding traits_in trait_entries
traits_count [] parent next at = refl
traits_count (t ∷ ts) parent next at =
    let items = item_entries next (next + 1) (trait_value at t) t.value in
    let end = at + length (trait_onto t []) in
    omega (
      arith,
      traits_append items (trait_entries parent (next + trait_size t) end ts),
      no_traits items (item_kinds t.value next (next + 1) (trait_value at t)),
      traits_count
          ts parent (next + trait_size t) end,
    )

-- those that stand are counted one by one
count_front : (k r m : ℕ) → r ≡ m → cond (eqb k 2) 1 0 + r ≡ pick (eqb k 2) (suc m) m
count_front k r m q = split (eqb k 2) (λ e. rw e (omega arith)) (λ e. rw e (omega arith))

pub traits_counted : (cells : List ℕ) (from : ℕ) (es : List Entry) → Stand cells from es
    → count_by (λ n. eqb (kind_at cells n) 2) (range_with_len from (length es)) ≡ traits_in es
unfolding traits_in
traits_counted cells from [] s = refl
traits_counted cells from (e ∷ es) s =
    let rest = count_by (λ n. eqb (kind_at cells n) 2) (range_with_len (from + 1) (length es)) in
    sum_by-cons (λ n. cond (eqb (kind_at cells n) 2) 1 0) from (range_with_len (from + 1) (length es))
    ∙ ap (λ (x : Entry). cond (eqb x.kind 2) 1 0 + rest) (stand_entry cells from e es s)
    ∙ count_front e.kind rest (traits_in es) (traits_counted cells (from + 1) es (stand_back cells from (e ∷ []) es s))

-- ---- a Concept

pub some_depth : (c : Concept) → 0 < concept_depth c
unfolding concept_depth
some_depth (self_closed k) = omega arith
some_depth (children k rest body back) = omega arith
some_depth (content k rest lines) = omega arith

-- the name of a Concept
name_is : (s cells : List ℕ) (n parent place tabs : ℕ) (c : Concept) → OfConcept s cells n parent place tabs c → (own : Entry) → own ≡ entry_at cells n
    → take (own.name_end - own.name_start) (drop own.name_start s) ≡ (marker_of c).name
unfolding concept_onto
name_is s cells n parent place tabs c of own is =
    ap (λ (e : Entry). take (e.name_end - e.name_start) (drop e.name_start s)) (is ∙ own_entry_lem s cells n parent place tabs c of) ∙ go c of.spelt
  where
    go : (c : Concept) → drop place s ≡ concept_onto tabs c of.after → take (marker_name place (marker_of c) - (place + 1)) (drop (place + 1) s)
        ≡ (marker_of c).name
    go (self_closed k) e = part_is s (place + 1) (marker_name place k) k.name _ (past_bytes s place (byte "<" ∷ []) _ e) refl
    go (children k rest body back) e = part_is s (place + 1) (marker_name place k) k.name _ (past_bytes s place (byte "<" ∷ []) _ e) refl
    go (content k rest lines) e = part_is s (place + 1) (marker_name place k) k.name _ (past_bytes s place (byte "<" ∷ []) _ e) refl

named_put : (s cells : List ℕ) (n parent place tabs : ℕ) (c : Concept) → OfConcept s cells n parent place tabs c → (own : Entry) → own ≡ entry_at cells n
    → (name : List ℕ) → name ≡ take (own.name_end - own.name_start) (drop own.name_start s) → (depth : ℕ) {inner after : Page}
    → Puts inner (λ t. tabs_onto depth (closing_onto name (lf ∷ t))) after
    → Puts inner (λ t. tabs_onto depth (closing_onto (marker_of c).name (lf ∷ t))) after
named_put s cells n parent place tabs c of own is name named depth closing = rw (named ∙ name_is s cells n parent place tabs c of own is) at closing

-- behind the marker's line
body_start_lem : (s : List ℕ) (place : ℕ) (k : Marker) (rest : Blank) (after : List ℕ) → drop place s ≡ marker_onto k (ending_onto block (blank_onto rest after))
    → drop (body_start place k rest) s ≡ after
body_start_lem s place k rest after e =
    past_front s (place + length (marker_onto k []) + 1) (blank_onto rest) after (blank_front rest)
    (past_bytes s (place + length (marker_onto k [])) (byte ">" ∷ []) (blank_onto rest after)
    (past_front s place (marker_onto k) (ending_onto block (blank_onto rest after)) (marker_front k) e))

-- the Content of a Concept, and the body of one
content_of_lem : (s cells : List ℕ) (n parent place tabs : ℕ) (k : Marker) (rest : Blank) (lines : List Line)
    → OfConcept s cells n parent place tabs (content k rest lines)
    → OfContent s cells (n + 1 + traits_size k.traits) (body_start place k rest) tabs lines
unfolding concept_onto inside_entries
content_of_lem s cells n parent place tabs k rest lines of =
    let own = concept_entry parent place tabs (content k rest lines) in
    let traits = trait_entries n (n + 1) (marker_name place k) k.traits in
    let size : n + length (own ∷ traits) ≡ n + 1 + traits_size k.traits = omega (arith, traits_size_lem k.traits n (n + 1) (marker_name place k)) in
    record {
      parent = n;
      name = k.name;
      after = of.after;
      spelt = body_start_lem s place k rest (lines_onto tabs lines (tabs_onto tabs (closing_onto k.name of.after))) of.spelt;
      stand = rw size at (stand_back cells n (own ∷ traits) _ of.stand);
    }

module _ (s cells : List ℕ) (n parent place tabs : ℕ) (k : Marker) (rest : Blank) (body : Body) (back : ℕ)
    (of : OfConcept s cells n parent place tabs (children k rest body back)) where
  -- its own entry and those of its traits
  abbrev front : List Entry
  front = concept_entry parent place tabs (children k rest body back) ∷ trait_entries n (n + 1) (marker_name place k) k.traits

  size : n + length front ≡ n + 1 + traits_size k.traits
  size = omega (arith, traits_size_lem k.traits n (n + 1) (marker_name place k))

  body_of_lem : OfBody s cells (n + 1 + traits_size k.traits) n (body_start place k rest) body
  unfolding concept_onto inside_entries
  body_of_lem =
      record {
        after = tabs_onto back (closing_onto k.name of.after);
        spelt = body_start_lem s place k rest (body_onto body (tabs_onto back (closing_onto k.name of.after))) of.spelt;
        stand = rw size at (stand_back cells n front (body_entries n (n + 1 + traits_size k.traits) (body_start place k rest) body) of.stand);
      }

  body_ended : Ends cells (n + 1 + traits_size k.traits + body_size body)
  unfolding concept_size
  body_ended =
      let whole : n + (suc (traits_size k.traits) + body_size body) ≡ n + 1 + traits_size k.traits + body_size body = omega arith in
      rw whole at of.ends

  -- its traits stand in front of the body
  traits_there : (Stand cells n front) × (traits_in front ≡ length k.traits)
  unfolding inside_entries traits_in
  traits_there = (
    stand_front cells n front (body_entries n (n + 1 + traits_size k.traits) (body_start place k rest) body) of.stand,
    traits_count
        k.traits n (n + 1) (marker_name place k),
  )

form_is : (s cells : List ℕ) (n parent place tabs : ℕ) (c : Concept) → OfConcept s cells n parent place tabs c → (own : Entry) → own ≡ entry_at cells n
    → own.form ≡ concept_form c
form_is s cells n parent place tabs c of own is = ap (λ (e : Entry). e.form) (is ∙ own_entry_lem s cells n parent place tabs c of)

module _ (s cells : List ℕ) (n depth left : ℕ) {before started marked : Page} {next : ℕ} (tabbed : Puts before (tabs_onto depth) started)
    (marker : MarkerPut s cells n depth started next marked) (own : Entry) (is : own ≡ entry_at cells n) where
  closed_one : (parent place tabs : ℕ) (k : Marker) → OfConcept s cells n parent place tabs (self_closed k) → Keeps left (self_closed k)
      → (next ≡ n + concept_size (self_closed k)) × Puts before (λ t. tabs_onto depth (print_concept depth (concept_sense (self_closed k)) (lf ∷ t))) marked
  unfolding concept_size concept_sense print_concept concept_rule concept_fits
  closed_one parent place tabs k of keeps =
      let p = marker parent place tabs (self_closed k) of keeps.rule keeps.within in (
        omega (arith, p.0),
        puts_as _ (λ t. refl) (puts_then (tabs_onto depth) (λ t. print_marker depth (marker_sense k) self (lf ∷ t)) tabbed p.1),
      )

  pub closed_put : (own.form ≡ 2 → ⊥) → (own.form ≡ 3 → ⊥) → ConceptPut s cells n depth left before next marked
  closed_put f g parent place tabs c of keeps = go c of keeps
    where
      go : (c : Concept) → OfConcept s cells n parent place tabs c → Keeps left c
          → (next ≡ n + concept_size c) × Puts before (λ t. tabs_onto depth (print_concept depth (concept_sense c) (lf ∷ t))) marked
      go (self_closed k) of keeps = closed_one parent place tabs k of keeps
      go (children k rest body back) of keeps = absurd (f (form_is s cells n parent place tabs (children k rest body back) of own is))
      go (content k rest lines) of keeps = absurd (g (form_is s cells n parent place tabs (content k rest lines) of own is))

  module _ {inner after : Page} (deeper : ℕ) (one_deeper : deeper ≡ suc depth) (name : List ℕ)
      (named : name ≡ take (own.name_end - own.name_start) (drop own.name_start s))
      (closing : Puts inner (λ t. tabs_onto depth (closing_onto name (lf ∷ t))) after) where
    module _ {behind : ℕ} (content' : ContentPut s cells next deeper marked behind inner) where
      content_one : (parent place tabs : ℕ) (k : Marker) (rest : Blank) (lines : List Line)
          → OfConcept s cells n parent place tabs (content k rest lines) → Keeps left (content k rest lines)
          → (behind ≡ n + concept_size (content k rest lines)) × Puts before
          (λ t. tabs_onto depth (print_concept depth (concept_sense (content k rest lines)) (lf ∷ t))) after
      unfolding concept_size concept_sense print_concept concept_rule concept_fits
      content_one parent place tabs k rest lines of keeps =
          let r = element_parts (marker_rule k) (opens_block k) (blank_rule rest) (all line_rule lines) keeps.rule in
          let p = marker parent place tabs (content k rest lines) of r.0 keeps.within in
          let q = content' (body_start place k rest) tabs lines (rw p.0 (content_of_lem s cells n parent place tabs k rest lines of)) r.3 in
          let close = named_put s cells n parent place tabs (content k rest lines) of own is name named depth closing in (
            omega (arith, p.0, q.0),
            let tail = λ (t : List ℕ). tabs_onto depth (closing_onto k.name (lf ∷ t)) in
                let inside = λ (t : List ℕ). print_lines deeper (map line_sense lines) (tail t) in
                let marked = λ (x : List ℕ). print_marker depth (marker_sense k) block (lf ∷ x) in
                puts_as _ (λ t. ap (λ (d : ℕ). tabs_onto depth (marked (print_lines d (map line_sense lines) (tail t)))) (sym one_deeper))
                (puts_then (tabs_onto depth) (λ t. marked (inside t)) tabbed (puts_then marked inside p.1 (puts_then (print_lines deeper (map line_sense lines)) tail q.1 close))),
          )

      pub content_put : own.form ≡ 3 → ConceptPut s cells n depth left before behind after
      content_put f parent place tabs c of keeps = go c of keeps
        where
          go : (c : Concept) → OfConcept s cells n parent place tabs c → Keeps left c
              → (behind ≡ n + concept_size c) × Puts before (λ t. tabs_onto depth (print_concept depth (concept_sense c) (lf ∷ t))) after
          go (self_closed k) of keeps = absurd (omega (arith, f, form_is s cells n parent place tabs (self_closed k) of own is))
          go (children k rest body back) of keeps = absurd (omega (arith, f, form_is s cells n parent place tabs (children k rest body back) of own is))
          go (content k rest lines) of keeps = content_one parent place tabs k rest lines of keeps

    module _ {behind : ℕ} (elements : ℕ) (counted : Elements cells n next elements) (fewer : ℕ) (less : left ≡ suc fewer)
        (body' : BodyPut s cells next elements deeper fewer marked behind inner) where
      children_one : (parent place tabs : ℕ) (k : Marker) (rest : Blank) (body : Body) (back : ℕ)
          → OfConcept s cells n parent place tabs (children k rest body back) → Keeps left (children k rest body back)
          → (behind ≡ n + concept_size (children k rest body back)) × Puts before
          (λ t. tabs_onto depth (print_concept depth (concept_sense (children k rest body back)) (lf ∷ t))) after
      unfolding concept_size concept_sense print_concept concept_rule concept_fits concept_depth
      children_one parent place tabs k rest body back of keeps =
          let r = element_parts (marker_rule k) (opens_block k) (blank_rule rest) (body_rule body) keeps.rule in
          let w = both (marker_fits name_limit bracket_limit k) (body_fits name_limit bracket_limit body) keeps.within in
          let p = marker parent place tabs (children k rest body back) of r.0 w.0 in
          let there = traits_there s cells n parent place tabs k rest body back of in
          let far : next ≡ n + length (front s cells n parent place tabs k rest body back of) = p.0
          ∙ sym (size s cells n parent place tabs k rest body back of) in
          let count = ap (λ (e : Entry). e.count) (own_entry_lem s cells n parent place tabs (children k rest body back) of) in
          let few : elements ≡ body_count body =
          omega (arith, counted (front s cells n parent place tabs k rest body back of) there.0 far, count, there.1) in
          let q = body' n (body_start place k rest) body (rw p.0 (body_of_lem s cells n parent place tabs k rest body back of))
          (record { rule = r.3; within = w.1; deep = omega (arith, keeps.deep) })
          (rw p.0 (body_ended s cells n parent place tabs k rest body back of)) few in
          let close = named_put s cells n parent place tabs (children k rest body back) of own is name named depth closing in (
            omega (arith, p.0, q.0),
            let tail = λ (t : List ℕ). tabs_onto depth (closing_onto k.name (lf ∷ t)) in
                let inside = λ (t : List ℕ). print_body deeper (body_sense body) (tail t) in
                let marked = λ (x : List ℕ). print_marker depth (marker_sense k) block (lf ∷ x) in
                puts_as _ (λ t. ap (λ (d : ℕ). tabs_onto depth (marked (print_body d (body_sense body) (tail t)))) (sym one_deeper))
                (puts_then (tabs_onto depth) (λ t. marked (inside t)) tabbed (puts_then marked inside p.1 (puts_then (print_body deeper (body_sense body)) tail q.1 close))),
          )

      pub children_put : own.form ≡ 2 → ConceptPut s cells n depth left before behind after
      children_put f parent place tabs c of keeps = go c of keeps
        where
          go : (c : Concept) → OfConcept s cells n parent place tabs c → Keeps left c
              → (behind ≡ n + concept_size c) × Puts before (λ t. tabs_onto depth (print_concept depth (concept_sense c) (lf ∷ t))) after
          go (self_closed k) of keeps = absurd (omega (arith, f, form_is s cells n parent place tabs (self_closed k) of own is))
          go (children k rest body back) of keeps = children_one parent place tabs k rest body back of keeps
          go (content k rest lines) of keeps = absurd (omega (arith, f, form_is s cells n parent place tabs (content k rest lines) of own is))
