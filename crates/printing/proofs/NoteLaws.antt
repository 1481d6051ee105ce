-- Annotations that stand in the cells and in the sheet, put one behind the other. Document 01, "Canonical form". Assumes nothing.
use Prim.Native.Nat.{ℕ, ◌+◌, ◌-◌}
use mathlib.Core.Path.{◌≡◌, refl, sym, ap, ◌∙◌}
use mathlib.Core.List.{List, [], ◌∷◌, ◌++◌, map}
use native.Mathlib.Omega.{arith}
use lib.ListN.{length, take, drop, replicate, length-replicate}
use Rattle.paper.specs.Bytes.{byte, bytes, lf, tab}
use Rattle.paper.specs.Values.{collapse}
use Rattle.paper.specs.Tree.{Annotation}
use Rattle.paper.specs.Grammar.{tabs_onto, blank_onto, annotation_onto, annotations_onto}
use Rattle.paper.specs.Entries.{Entry, unnamed, annotation_entries}
use Rattle.paper.specs.Canonical.{annotation_sense, print_notes}
use Rattle.paper.proofs.Fronts.{note_front, past_front, past_bytes}
use Rattle.entries.specs.Laid.{entry_at, kind_at}
use Rattle.entries.proofs.Standing.{stand_entry, stand_back}
use Rattle.quoting.specs.declared.page.Page.{Page}
use Rattle.quoting.specs.Page.{Step, Puts}
use Rattle.printing.specs.Walking.{OfNotes}
use Rattle.quoting.proofs.Parts.{part_is}
use Rattle.quoting.proofs.Putting.{puts_as, puts_then, step_as, step_then}

-- ---- one annotation

pub note_put : (text : List ℕ) (depth : ℕ) {p q r t u : Page} → Puts p (tabs_onto depth) q → Puts q (λ next. byte "[" ∷ next) r
    → Puts r (λ next. collapse text ++ next) t → Puts t (λ next. bytes "]\n" ++ next) u → Puts p (print_notes depth (collapse text ∷ [])) u
unfolding print_notes
note_put text depth p q r t =
    puts_as _ (λ next. refl) (puts_then (tabs_onto depth) (λ next. byte "[" ∷ (collapse text ++ (byte "]" ∷ lf ∷ next))) p
    (puts_then (λ next. byte "[" ∷ next) (λ next. collapse text ++ (byte "]" ∷ lf ∷ next)) q
    (puts_then (λ next. collapse text ++ next) (λ next. bytes "]\n" ++ next) r t)))

-- ---- what is left of the annotations

module _ (s cells : List ℕ) (depth whole : ℕ) (before : Page) (notes : List Annotation) where
  pub record NotesLeft (next : ℕ) (now : Page) : Type 0 where
    pub parent : ℕ
    pub place : ℕ
    pub more : List Annotation
    pub stands : OfNotes s cells next parent place more
    pub total : next + length more ≡ whole
    pub put : Step before (print_notes depth (map annotation_sense notes)) now (print_notes depth (map annotation_sense more))

  module _ (next : ℕ) (now : Page) (parent place : ℕ) where
    on : (more : List Annotation) → OfNotes s cells next parent place more → next + length more ≡ whole
        → Step before (print_notes depth (map annotation_sense notes)) now (print_notes depth (map annotation_sense more))
        → (kind_at cells whole ≡ 4 → ⊥) → kind_at cells next ≡ 4 → (e : Entry) → e ≡ entry_at cells next → (text : List ℕ) → text
        ≡ take (e.end - e.start) (drop e.start s)
        → {after : Page} → Puts now (print_notes depth (collapse text ∷ [])) after → NotesLeft (next + 1) after
    unfolding annotations_onto annotation_entries print_notes
    on [] of total same none k e is text t p = let z : next ≡ whole = omega (arith, total) in absurd (none (ap (λ (i : ℕ). kind_at cells i) (sym z) ∙ k))
    on (a ∷ more) of total same none k e is text t p =
        let own = unnamed 4 0 parent 0 (place + a.tabs + 1) (place + a.tabs + 1 + length a.text) in
        let entry : e ≡ own = is ∙ stand_entry cells next own (annotation_entries parent (place + length (annotation_onto a [])) more) of.stand in
        let rest = blank_onto a.rest (annotations_onto more of.after) in
        let tabs = replicate a.tabs tab in
        let mark : drop (place + a.tabs) s ≡ byte "[" ∷ (a.text ++ (byte "]" ∷ rest)) =
        ap (λ (n : ℕ). drop (place + n) s) (sym (length-replicate a.tabs tab))
        ∙ past_bytes s place tabs (byte "[" ∷ (a.text ++ (byte "]" ∷ rest))) of.spelt in
        let start : drop (place + a.tabs + 1) s ≡ a.text ++ (byte "]" ∷ rest) = past_bytes s (place + a.tabs)
        (byte "[" ∷ []) (a.text ++ (byte "]" ∷ rest)) mark in
        let says : text ≡ a.text =
        t ∙ ap (λ (x : Entry). take (x.end - x.start) (drop x.start s)) entry
        ∙ part_is s (place + a.tabs + 1) (place + a.tabs + 1 + length a.text) a.text (byte "]" ∷ rest) start refl in
        record {
          parent = parent;
          place = place + length (annotation_onto a []);
          more = more;
          stands = record {
            after = of.after;
            spelt = past_front s place (annotation_onto a) (annotations_onto more of.after) (note_front a) of.spelt;
            stand = stand_back cells next (own ∷ []) (annotation_entries parent (place + length (annotation_onto a [])) more) of.stand;
          };
          total = omega arith;
          put = step_then (print_notes depth (collapse a.text ∷ [])) (print_notes depth (map annotation_sense more)) same (λ next'. refl) (rw says at p);
        }

    over : (more : List Annotation) → OfNotes s cells next parent place more → next + length more ≡ whole
        → Step before (print_notes depth (map annotation_sense notes)) now (print_notes depth (map annotation_sense more))
        → (kind_at cells next ≡ 4 → ⊥) → (next ≡ whole) × Puts before (print_notes depth (map annotation_sense notes)) now
    unfolding annotation_entries print_notes
    over [] of total same k = (omega arith, step_as same (λ next'. refl))
    over (a ∷ more) of total same k = absurd (k (ap (λ (x : Entry). x.kind) (stand_entry cells next _ _ of.stand)))

  module _ {next : ℕ} {now : Page} (so_far : NotesLeft next now) where
    pub notes_on : (kind_at cells whole ≡ 4 → ⊥) → kind_at cells next ≡ 4 → (e : Entry) → e ≡ entry_at cells next → (text : List ℕ) → text
        ≡ take (e.end - e.start) (drop e.start s)
        → {after : Page} → Puts now (print_notes depth (collapse text ∷ [])) after → NotesLeft (next + 1) after
    notes_on = on next now so_far.parent so_far.place so_far.more so_far.stands so_far.total so_far.put

    pub notes_over : (kind_at cells next ≡ 4 → ⊥) → (next ≡ whole) × Puts before (print_notes depth (map annotation_sense notes)) now
    notes_over = over next now so_far.parent so_far.place so_far.more so_far.stands so_far.total so_far.put
