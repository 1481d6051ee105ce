-- Labels at a place: what an answer tells of one, where it stands, and a refusal. Over plain lists. Assumes nothing.
-- Document 02, Five; 001 §21.
use Prim.Native.Nat.{ℕ, ◌+◌, ◌≤◌}
use mathlib.Core.Path.{◌≡◌, sym, ap, ◌∙◌}
use mathlib.Core.Bool.{true}
use mathlib.Core.List.{List, []}
use native.Mathlib.Omega.{arith}
use lib.ListN.{length, drop, length-drop, length-append}
use Rattle.std.specs.Prelude.{Result, Ok, Err}
use Rattle.paper.specs.declared.Refused.{Refused}
use Rattle.paper.specs.declared.brackets.Bracket.{Bracket}
use Rattle.paper.specs.Found.{Found, found, fault}
use Rattle.paper.specs.Values.{Label, label_onto, label_rule}
use Rattle.paper.specs.Entries.{key_width, label_width}
use Rattle.paper.specs.ReadingValues.{label_of}
use Rattle.paper.proofs.Labels.{ReadLabel, label_reads, label_append}
use Rattle.text.proofs.Answers.{Tells, found_to, FaultAt, fault_to}
use Rattle.values.specs.declared.labels.Labelled.{Labelled}
use Rattle.values.specs.Labels.{Seen, seen, seen_of, LabelsAt}

-- the label that stands from a place to where its value is due, and where its key ends
pub record LabelTo (k : Bracket) (s : List ℕ) (at key value : ℕ) : Type 0 where
  pub it : Label
  pub finds : label_of k (drop at s) ≡ found it (drop value s)
  pub covers : drop at s ≡ label_onto it (drop value s)
  pub rule : label_rule k it ≡ true
  pub ends : key ≡ at + key_width it
  pub due : value ≡ at + label_width it
  pub inside : value ≤ length s

module _ (k : Bracket) (s : List ℕ) (at : ℕ) {r : Result Labelled Refused} (h : LabelsAt k s at r) where
  -- the number and the place of an answer are those of what is found
  tells : (y : Result Labelled Refused) → r ≡ y → Tells s (label_of k (drop at s)) (seen y).number (seen y).place
  tells y q = go (label_of k (drop at s)) (ap seen (sym q) ∙ h.same)
    where
      go : (x : Found Label) → seen y ≡ seen_of (λ a. at + key_width a) s x → Tells s x (seen y).number (seen y).place
      go (found a left) e = (ap (λ (y : Seen). y.number) e, ap (λ (y : Seen). y.place) e)
      go (fault n left) e = (ap (λ (y : Seen). y.number) e, ap (λ (y : Seen). y.place) e)

  pub label_stands : at ≤ length s → (a : Labelled) → r ≡ Ok a → LabelTo k s at a.key a.value
  label_stands l a q =
      let to = found_to (ReadLabel k (drop at s)) s at (label_of k (drop at s)) a.value (tells (Ok a) q) (label_reads k (drop at s)) l in
      let same : seen (Ok a) ≡ seen_of (λ a. at + key_width a) s (found to.it (drop a.value s)) =
      ap seen (sym q) ∙ h.same ∙ ap (seen_of (λ a. at + key_width a) s) to.finds in
      record {
        it = to.it;
        finds = to.finds;
        covers = to.holds.covers;
        rule = to.holds.rule;
        ends = ap (λ (y : Seen). y.key) same;
        due = omega (
          arith,
          ap length (to.holds.covers ∙ label_append to.it (drop a.value s)),
          length-append (label_onto to.it []) (drop a.value s),
          length-drop a.value s,
          length-drop at s,
          to.inside,
          to.ahead,
        );
        inside = to.inside;
      }

  pub label_fails : (e : Refused) → r ≡ Err e → FaultAt s (label_of k (drop at s)) e.refusal e.place
  label_fails e q = fault_to s (label_of k (drop at s)) e.refusal e.place (tells (Err e) q)
