-- Markers put: their traits one after another, and what stands before the end and at it. Document 01, "Canonical form". Assumes nothing.
use Prim.Native.Nat.{ℕ, suc, ◌+◌, ◌-◌}
use mathlib.Core.Path.{◌≡◌, refl, sym, ap, ◌∙◌}
use mathlib.Core.Bool.{Bool, true, false, not, ◌||◌}
use mathlib.Core.List.{List, [], ◌∷◌, ◌++◌, map}
use native.Mathlib.Nat.{add-zero}
use native.Mathlib.Omega.{arith}
use lib.ListN.{length, take, drop, length-map}
use lib.Dec.{leb, eqb}
use Rattle.paper.specs.Bytes.{byte, lf, space, all}
use Rattle.paper.specs.Names.{name_limit}
use Rattle.paper.specs.Values.{spelling, ends_in_slash}
use Rattle.paper.specs.Tree.{Trait, Marker, Concept, self_closed, children, content, Body, done, blank_line, element, Ending, block, self}
use Rattle.paper.specs.Grammar.{trait_onto, traits_onto, marker_onto, ending_onto, tabs_onto, blank_onto, concept_onto, trait_rule, marker_rule, body_onto, closing_onto}
use Rattle.paper.specs.Grammar.{lines_onto}
use Rattle.paper.specs.Limits.{bracket_limit, trait_fits, marker_fits}
use Rattle.paper.specs.Entries.{Entry, unnamed, trait_size, traits_size, trait_entries, annotation_entries, concept_size, body_size, concept_form, concept_entry}
use Rattle.paper.specs.Entries.{marker_of, marker_name, body_start, inside_entries, body_entries}
use Rattle.paper.specs.Canonical.{TraitSense, MarkerSense, marker_sense, print_trait, print_beside, print_below, print_marker, last_in_slash, spaced}
use Rattle.paper.proofs.Lists.{both, all_head}
use Rattle.paper.proofs.Sizes.{traits_size_lem}
use Rattle.paper.proofs.Fronts.{past_bytes}
use Rattle.paper.proofs.Concepts.{marker_parts}
use Rattle.entries.specs.Laid.{entry_at, Stand, kind_at}
use Rattle.entries.proofs.Standing.{stand_front, stand_back, stand_entry}
use Rattle.quoting.specs.declared.page.Page.{Page}
use Rattle.quoting.specs.Page.{Step, Puts}
use Rattle.printing.specs.Standing.{Ends, OfTraits, OfConcept}
use Rattle.printing.specs.Marking.{trait_sense, ending_of, is_self, lead_onto, traits_print, break_onto}
use Rattle.printing.specs.Wholes.{TraitPut, TraitsPut}
use Rattle.quoting.proofs.Parts.{part_is}
use Rattle.quoting.proofs.Putting.{nothing, puts_as, puts_then, step_as, step_then}
use Rattle.printing.proofs.ItemLaws.{spelling_is}
use Rattle.printing.proofs.TraitParts.{trait_value_lem, first_kind, front_of, back_of}
use Rattle.printing.proofs.Three.{ends_there}
use Rattle.printing.proofs.Slashes.{value_slash, last_or, last_first, last_step}

-- ---- the traits that are left, and what was put of the others

pub record Left (s cells : List ℕ) (n : ℕ) (ts : List Trait) (below : Bool) (depth : ℕ) (before : Page) (next : ℕ) (slash : Bool) (now : Page) : Type 0 where
  pub parent : ℕ
  pub place : ℕ
  pub rest : List Trait
  pub of : OfTraits s cells next parent place rest
  pub ends : Ends cells (next + traits_size rest)
  pub rule : all trait_rule rest ≡ true
  pub fits : all (trait_fits name_limit bracket_limit) rest ≡ true
  pub total : next + traits_size rest ≡ n + traits_size ts
  pub last : last_in_slash (map trait_sense ts) ≡ last_or slash (map trait_sense rest)
  pub put : Step before (traits_print below depth (map trait_sense ts)) now (traits_print below depth (map trait_sense rest))

pub left_first : (s cells : List ℕ) (n parent place : ℕ) (ts : List Trait) (below : Bool) (depth : ℕ) (page : Page)
    → OfTraits s cells n parent place ts → Ends cells (n + traits_size ts)
    → all trait_rule ts ≡ true → all (trait_fits name_limit bracket_limit) ts ≡ true → Left s cells n ts below depth page n false page
left_first s cells n parent place ts below depth page o e r f =
    record {
      parent = parent;
      place = place;
      rest = ts;
      of = o;
      ends = e;
      rule = r;
      fits = f;
      total = refl;
      last = last_first
          (map trait_sense ts);
      put = nothing page _;
    }

traits_more : (below : Bool) (depth : ℕ) (t : TraitSense) (ts : List TraitSense) (x : List ℕ)
    → traits_print below depth (t ∷ ts) x ≡ lead_onto below depth (print_trait t (traits_print below depth ts x))
unfolding print_below print_beside
traits_more true depth t ts x = refl
traits_more false depth t ts x = refl

traits_none : (below : Bool) (depth : ℕ) (x : List ℕ) → traits_print below depth [] x ≡ x
unfolding print_below print_beside
traits_none true depth x = refl
traits_none false depth x = refl

module _ (s cells : List ℕ) (n : ℕ) (ts : List Trait) (below : Bool) (depth : ℕ) (before : Page) (next : ℕ) (slash : Bool) (now : Page) where
  left_go : (parent place : ℕ) (rest : List Trait) → OfTraits s cells next parent place rest → Ends cells (next + traits_size rest)
      → all trait_rule rest ≡ true → all (trait_fits name_limit bracket_limit) rest ≡ true
      → next + traits_size rest ≡ n + traits_size ts → last_in_slash (map trait_sense ts) ≡ last_or slash (map trait_sense rest)
      → Step before (traits_print below depth (map trait_sense ts)) now (traits_print below depth (map trait_sense rest))
      → kind_at cells next ≡ 2 → (e : Entry) → e ≡ entry_at cells next → (w : List ℕ) → w ≡ take (e.end - e.start) (drop e.start s) → (slash' : Bool)
      → slash' ≡ ends_in_slash w
      → {mid : Page} → Puts now (lead_onto below depth) mid → (next' : ℕ) {after : Page} → TraitPut s cells next mid next' after
      → Left s cells n ts below depth before next' slash' after
  unfolding traits_size
  left_go parent place [] o e r f t l m k own g w q slash' sl p next' d = absurd ((ends_there cells next (next + 0) e (add-zero next)).no_trait_lem k)
  left_go parent place (x ∷ xs) o e r f t l m k own g w q slash' sl p next' d =
      let rules = all_head trait_rule x xs r in
      let fit = all_head (trait_fits name_limit bracket_limit) x xs f in
      let front = front_of s cells next parent place x xs o in
      let got = d parent place x front rules.0 fit.0 in
      let spelt : w ≡ spelling x.value = spelling_is s cells next own g w q x.value (trait_value_lem s cells next parent place x front) in
      let on : next + trait_size x ≡ next' = sym got.0 in
      record {
        parent = parent;
        place = place + length (trait_onto x []);
        rest = xs;
        of = rw on at (back_of s cells next parent place x xs o);
        ends = ends_there cells (next' + traits_size xs) (next + (trait_size x + traits_size xs)) e (omega arith);
        rule = rules.1;
        fits = fit.1;
        total = omega arith;
        last = l ∙ last_step x xs slash' (sl ∙ ap ends_in_slash spelt ∙ value_slash x.value);
        put = step_then (λ y. lead_onto below depth (print_trait (trait_sense x) y)) (traits_print below depth (map trait_sense xs)) m
            (traits_more below depth (trait_sense x) (map trait_sense xs)) (puts_then (lead_onto below depth) (print_trait (trait_sense x)) p got.1);
      }

  pub left_on : Left s cells n ts below depth before next slash now → kind_at cells next ≡ 2 → (e : Entry) → e ≡ entry_at cells next
      → (w : List ℕ) → w ≡ take (e.end - e.start) (drop e.start s) → (slash' : Bool) → slash' ≡ ends_in_slash w
      → {mid : Page} → Puts now (lead_onto below depth) mid → (next' : ℕ) {after : Page} → TraitPut s cells next mid next' after
      → Left s cells n ts below depth before next' slash' after
  left_on i k own g w q slash' sl p next' d = left_go i.parent i.place i.rest i.of i.ends i.rule i.fits i.total i.last
      i.put k own g w q slash' sl p next' d

  left_none : (parent place : ℕ) (rest : List Trait) → OfTraits s cells next parent place rest → next + traits_size rest ≡ n + traits_size ts
      → last_in_slash (map trait_sense ts) ≡ last_or slash (map trait_sense rest)
      → Step before (traits_print below depth (map trait_sense ts)) now (traits_print below depth (map trait_sense rest))
      → (kind_at cells next ≡ 2 → ⊥) → (next ≡ n + traits_size ts) × (slash ≡ last_in_slash (map trait_sense ts)) × Puts before
      (traits_print below depth (map trait_sense ts)) now
  unfolding traits_size
  left_none parent place [] o t l m k = (omega arith, sym l, step_as m (traits_none below depth))
  left_none parent place (x ∷ xs) o t l m k = absurd (k (first_kind cells next parent place x xs o.stand))

  pub left_over : Left s cells n ts below depth before next slash now → (kind_at cells next ≡ 2 → ⊥)
      → (next ≡ n + traits_size ts) × (slash ≡ last_in_slash (map trait_sense ts)) × Puts before (traits_print below depth (map trait_sense ts)) now
  left_over i k = left_none i.parent i.place i.rest i.of i.total i.last i.put k

-- ---- what stands behind a marker

-- the first entry of a body is an annotation or a Concept
pub body_ends : (cells : List ℕ) (body : Body) (n parent at : ℕ) → Stand cells n (body_entries parent n at body) → Ends cells (n + body_size body) → Ends cells n
unfolding body_entries body_size annotation_entries
body_ends cells done n parent at s e = ends_there cells n (n + 0) e (add-zero n)
body_ends cells (blank_line b body) n parent at s e = body_ends cells body n parent (at + length (blank_onto b [])) s e
body_ends cells (element [] tabs c rest body) n parent at s e =
    let k : kind_at cells n ≡ 1 = ap (λ (x : Entry). x.kind) (stand_entry cells n _ _ s) in
    record { no_trait_lem = λ q. absurd (omega arith); no_item = λ q. absurd (omega arith) }
body_ends cells (element (a ∷ notes) tabs c rest body) n parent at s e =
    let k : kind_at cells n ≡ 4 = ap (λ (x : Entry). x.kind) (stand_entry cells n _ _ s) in
    record { no_trait_lem = λ q. absurd (omega arith); no_item = λ q. absurd (omega arith) }

-- the marker of a Concept that stands
record OfMarker (s cells : List ℕ) (n place : ℕ) (k : Marker) : Type 0 where
  after : List ℕ
  spelt : drop place s ≡ marker_onto k after
  stand : Stand cells (n + 1) (trait_entries n (n + 1) (marker_name place k) k.traits)
  ends : Ends cells (n + 1 + traits_size k.traits)

module _ (s cells : List ℕ) (n parent place tabs : ℕ) where
  marker_of_lem : (c : Concept) → OfConcept s cells n parent place tabs c → OfMarker s cells n place (marker_of c)
  unfolding concept_onto inside_entries concept_size
  marker_of_lem (self_closed k) o =
      record {
        after = ending_onto self o.after;
        spelt = o.spelt;
        stand = stand_back cells n (concept_entry parent place tabs (self_closed k) ∷ []) (trait_entries n (n + 1) (marker_name place k) k.traits) o.stand;
        ends = ends_there cells (n + 1 + traits_size k.traits) (n + suc (traits_size k.traits)) o.ends (omega arith);
      }
  marker_of_lem (children k rest body back) o =
      let traits = trait_entries n (n + 1) (marker_name place k) k.traits in
      let inner = body_entries n (n + 1 + traits_size k.traits) (body_start place k rest) body in
      let inside = stand_back cells n (concept_entry parent place tabs (children k rest body back) ∷ []) (traits ++ inner) o.stand in
      let size : n + 1 + length traits ≡ n + 1 + traits_size k.traits = omega (arith, traits_size_lem k.traits n (n + 1) (marker_name place k)) in
      record {
        after = ending_onto block (blank_onto rest (body_onto body (tabs_onto back (closing_onto k.name o.after))));
        spelt = o.spelt;
        stand = stand_front cells (n + 1) traits inner inside;
        ends = body_ends cells body (n + 1 + traits_size k.traits) n (body_start place k rest) (rw size at (stand_back cells (n + 1) traits inner inside))
            (ends_there cells (n + 1 + traits_size k.traits + body_size body) (n + (suc (traits_size k.traits) + body_size body)) o.ends (omega arith));
      }
  marker_of_lem (content k rest lines) o =
      let traits = trait_entries n (n + 1) (marker_name place k) k.traits in
      let entry = unnamed 5 0 n 0 (body_start place k rest) (body_start place k rest + length (lines_onto tabs lines [])) in
      let inside = stand_back cells n (concept_entry parent place tabs (content k rest lines) ∷ []) (traits ++ (entry ∷ [])) o.stand in
      let size : n + 1 + length traits ≡ n + 1 + traits_size k.traits = omega (arith, traits_size_lem k.traits n (n + 1) (marker_name place k)) in
      let there : Stand cells (n + 1 + traits_size k.traits) (entry ∷ []) = rw size at (stand_back cells (n + 1) traits (entry ∷ []) inside) in
      let kind : kind_at cells (n + 1 + traits_size k.traits) ≡ 5 = ap (λ (x : Entry). x.kind) (stand_entry cells _ entry [] there) in
      record {
        after = ending_onto block (blank_onto rest (lines_onto tabs lines (tabs_onto tabs (closing_onto k.name o.after))));
        spelt = o.spelt;
        stand = stand_front cells (n + 1) traits (entry ∷ []) inside;
        ends = record { no_trait_lem = λ q. absurd (omega arith); no_item = λ q. absurd (omega arith) };
      }

-- ---- a marker in the canonical form

break_as : (test sp : Bool) → sp ≡ test → (depth : ℕ) (y : List ℕ) → elim test [ true ↦ space ∷ y | false ↦ y ] ≡ break_onto false sp depth y
break_as true sp e depth y = rw e
break_as false sp e depth y = rw e

marker_go : (test below sp : Bool) (e : Ending) (ts : List TraitSense) (depth : ℕ) (y : List ℕ) → below ≡ not test → sp ≡ spaced e ts
    → elim test [ true ↦ print_beside ts (elim (spaced e ts) [ true ↦ space ∷ y | false ↦ y ]) | false ↦ print_below (suc depth) ts (lf ∷ tabs_onto depth y) ]
    ≡ traits_print below depth ts (break_onto below sp depth y)
marker_go true below sp e ts depth y b q = rw b (ap (print_beside ts) (break_as (spaced e ts) sp q depth y))
marker_go false below sp e ts depth y b q = rw b

marker_print : (below sp : Bool) (e : Ending) (k : MarkerSense) (depth : ℕ) (next : List ℕ) → below ≡ not (leb (length k.traits) 2)
    → sp ≡ spaced e k.traits
    → print_marker depth k e next ≡ (byte "<" ∷ k.name) ++ traits_print below depth k.traits (break_onto below sp depth (ending_onto e next))
unfolding print_marker
marker_print below sp e k depth next b q = ap (λ (l : List ℕ). byte "<" ∷ (k.name ++ l))
    (marker_go (leb (length k.traits) 2) below sp e k.traits depth (ending_onto e next) b q)

spaced_is : (e : Ending) (ts : List TraitSense) (closed slash : Bool) → closed ≡ is_self e → slash ≡ last_in_slash ts → closed || slash ≡ spaced e ts
spaced_is block ts closed slash c s = rw c s
spaced_is self ts closed slash c s = rw c

closed_is : (c : Concept) → eqb (concept_form c) 1 ≡ is_self (ending_of c)
closed_is (self_closed k) = refl
closed_is (children k rest body back) = refl
closed_is (content k rest lines) = refl

module _ (s cells : List ℕ) (n depth : ℕ) (e : Entry) (g : e ≡ entry_at cells n) (w : List ℕ) (q : w ≡ take (e.name_end - e.start) (drop e.start s))
    (below slash closed sp : Bool)
    (three : (parent at : ℕ) (ts : List Trait) → Stand cells (n + 1) (trait_entries parent (n + 1) at ts) → Ends cells (n + 1 + traits_size ts)
    → below ≡ not (leb (length ts) 2))
    (shut : closed ≡ eqb e.form 1) (apart : sp ≡ (closed || slash)) (next : ℕ) {before named listed broken after : Page}
    (p₁ : Puts before (λ x. w ++ x) named) (p₂ : TraitsPut s cells (n + 1) below depth named next slash listed)
    (p₃ : Puts listed (break_onto below sp depth) broken)
    (p₄ : (e : Ending) → closed ≡ is_self e → Puts broken (λ x. ending_onto e (lf ∷ x)) after) where
  pub marker_put : (parent place tabs : ℕ) (c : Concept) → OfConcept s cells n parent place tabs c → marker_rule (marker_of c) ≡ true
      → marker_fits name_limit bracket_limit (marker_of c) ≡ true
      → (next ≡ n + 1 + traits_size (marker_of c).traits) × Puts before (λ x. print_marker depth (marker_sense (marker_of c)) (ending_of c) (lf ∷ x)) after
  unfolding marker_fits
  marker_put parent place tabs c o r f =
      let k = marker_of c in
      let m = marker_of_lem s cells n parent place tabs c o in
      let own : e ≡ concept_entry parent place tabs c = g ∙ stand_entry cells n (concept_entry parent place tabs c) _ o.stand in
      let name : List ℕ = byte "<" ∷ k.name in
      let behind : List ℕ = traits_onto k.traits (k.white ++ m.after) in
      let size : marker_name place k ≡ place + length name = omega arith in
      let is_name : w ≡ name = q ∙ ap (λ (x : Entry). take (x.name_end - x.start) (drop x.start s)) own
      ∙ part_is s place (marker_name place k) name behind m.spelt size in
      let traits : OfTraits s cells (n + 1) n (marker_name place k) k.traits =
      record { after = k.white ++ m.after; spelt = ap (λ (i : ℕ). drop i s) size ∙ past_bytes s place name behind m.spelt; stand = m.stand } in
      let rule = (marker_parts k r).1 in
      let fit = (both (leb (length k.name) name_limit) (all (trait_fits name_limit bracket_limit) k.traits) f).1 in
      let got = p₂ n (marker_name place k) k.traits traits m.ends rule fit in
      let ends : closed ≡ is_self (ending_of c) = shut ∙ ap (λ (x : Entry). eqb x.form 1) own ∙ closed_is c in
      let few : below ≡ not (leb (length (map trait_sense k.traits)) 2) =
      three n (marker_name place k) k.traits m.stand m.ends ∙ ap (λ (i : ℕ). not (leb i 2)) (sym (length-map k.traits trait_sense)) in
      let space_is : sp ≡ spaced (ending_of c) (map trait_sense k.traits) = apart
      ∙ spaced_is (ending_of c) (map trait_sense k.traits) closed slash ends got.1 in (
        got.0,
        let ts = map trait_sense k.traits in
            let end = λ (x : List ℕ). ending_onto (ending_of c) (lf ∷ x) in
            let broken = λ (x : List ℕ). break_onto below sp depth (end x) in
            puts_as _
            (λ x. marker_print below sp (ending_of c) (marker_sense k) depth (lf ∷ x) few space_is
            ∙ ap (λ (l : List ℕ). l ++ traits_print below depth ts (broken x)) (sym is_name))
            (puts_then (λ x. w ++ x) (λ x. traits_print below depth ts (broken x)) p₁ (puts_then (traits_print below depth ts) broken got.2
            (puts_then (break_onto below sp depth) end p₃ (p₄ (ending_of c) ends)))),
      )
