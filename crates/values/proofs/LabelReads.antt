-- Labels at a place: a law for each way out of what reads one. Over plain lists. Assumes nothing.
-- Document 02, Five; 001 §21.
use Prim.Native.Nat.{ℕ, ◌+◌, ◌≤◌, ◌<◌}
use mathlib.Core.Path.{◌≡◌, refl, sym, ap, ◌∙◌, subst}
use mathlib.Core.Bool.{true, false}
use mathlib.Core.List.{List, [], ◌∷◌}
use native.Mathlib.Nat.{add-zero}
use native.Mathlib.Omega.{arith}
use lib.ListN.{length, get_or, drop, length-drop, length-append, drop_of_length-le}
use lib.Seq.{drop-drop, drop-length}
use lib.Dec.{eqb}
use borrow.Author.Tests.{ne_eqb}
use Rattle.std.specs.Prelude.{Result, Ok, Err}
use Rattle.paper.specs.declared.Refusal.{Refusal}
use Rattle.paper.specs.declared.Refused.{Refused}
use Rattle.paper.specs.declared.Refusal.TheVariants.{Value, Cut}
use Rattle.paper.specs.declared.brackets.Bracket.{Bracket}
use Rattle.paper.specs.Answer.{number_of, refused_at}
use Rattle.paper.specs.Found.{Found, found, fault, and_then}
use Rattle.paper.specs.Bytes.{byte, is_white, length_in, front}
use Rattle.paper.specs.Values.{keyed, key_enders, Key, key_onto, Label, no_label, label}
use Rattle.paper.specs.Entries.{key_width}
use Rattle.paper.specs.ReadingValues.{key_of, colon, label_of}
use Rattle.paper.proofs.Tests.{split, true_false}
use Rattle.paper.proofs.Labels.{ReadKey, key_reads, key_append, label_keyed, label_none, colon_due}
use Rattle.text.proofs.Places.{here, place_back}
use Rattle.text.proofs.Answers.{FaultAt}
use Rattle.values.specs.declared.labels.Labelled.{Labelled}
use Rattle.leaves.specs.declared.words.Around.{Around}
use Rattle.leaves.specs.Kinds.{enders_of}
use Rattle.leaves.specs.Shown.{Ends}
use Rattle.values.specs.Labels.{seen_of, Labels, LabelsAt, ColonAt}
use Rattle.leaves.proofs.Showing.{stands, fails}

-- ---- an answer from a reading

module _ (key_end : Label → ℕ) (s : List ℕ) (at : ℕ) (x : Found Label) where
  labels : (l : Labelled) (a : Label) → at ≤ l.value → l.value ≤ length s → key_end a ≡ l.key → x ≡ found a (drop l.value s) → Labels key_end s at x (Ok l)
  labels l a h k g e =
      record {
        same = rw (e, g, place_back s l.value k);
        ahead = λ m q. let p : l ≡ m = cc in subst (λ (y : Labelled). (at ≤ y.value) × (y.value ≤ length s)) p (h, k);
        inside = λ w q. absurd (cc);
      }

  refuses : (e : Refused) → e.place ≤ length s → FaultAt s x e.refusal e.place → Labels key_end s at x (Err e)
  refuses e h f =
      record {
        same = rw (f.faults, f.there);
        ahead = λ l q. absurd (cc);
        inside = λ w q. let n : e ≡ w = cc in rw n at h;
      }

  -- a fault that leaves what stands from the place on
  refuses_at : (why : Refusal) (place : ℕ) → place ≤ length s → x ≡ fault (number_of why) (drop place s) → (e : Refused) → e ≡ refused_at why place
      → Labels key_end s at x (Err e)
  refuses_at why place h f e q =
      rw q (refuses (refused_at why place) h (record { left = drop place s; faults = f; there = place_back s place h }))

-- ---- the colon

module _ (s : List ℕ) (at : ℕ) (key : Key) where
  pub colon_ends : length s ≤ at → (e : Refused) → e ≡ refused_at Cut (length s) → ColonAt key s at (Err e)
  unfolding colon
  colon_ends h =
      refuses_at (λ a. at) s at (colon key (drop at s)) Cut (length s) (omega arith) (rw (drop_of_length-le s h, drop-length s))

  module _ (h : at < length s) where
    pub colon_missing : (get_or s at 0 ≡ byte ":" → ⊥) → (r : Result Labelled Refused) → r ≡ Err (refused_at Value at) → ColonAt key s at r
    colon_missing n r q =
        rw q (refuses_at (λ a. at) s at (colon key (drop at s)) Value at (omega arith)
        (rw (here s at h) (colon_due key (get_or s at 0) (drop (at + 1) s) (ne_eqb (get_or s at 0) (byte ":") n))) _ refl)

    pub colon_there : get_or s at 0 ≡ byte ":" → (end : ℕ) → end ≡ at + 1 + length_in is_white (drop (at + 1) s) → at ≤ end → end ≤ length s
        → ColonAt key s at (Ok (record { key = at; value = end }))
    unfolding colon
    colon_there e end run a i =
        labels (λ a. at) s at (colon key (drop at s)) (record { key = at; value = end }) (label key (front is_white (drop (at + 1) s))) a i refl
        (rw (here s at h, e, run, drop-drop))

-- ---- the label

-- what a colon is seen as depends on the end of its own key alone
same_seen : (key_end other : Label → ℕ) (s : List ℕ) (key : Key) → ((white : List ℕ) → key_end (label key white) ≡ other (label key white)) → (l : List ℕ)
    → seen_of key_end s (colon key l) ≡ seen_of other s (colon key l)
unfolding colon
same_seen key_end other s key e [] = refl
same_seen key_end other s key e (b ∷ l) = split (eqb b (byte ":")) (λ q. rw (q, colon, e (front is_white l))) (λ q. rw (q, colon))

-- the bytes that end a key's word are those of every kind whose items have keys
keyed_enders : (k : Bracket) → keyed k ≡ true → enders_of Around.Key ≡ key_enders k
keyed_enders Bracket.List y = true_false (sym y)
keyed_enders Bracket.Set y = true_false (sym y)
keyed_enders Bracket.Map y = refl
keyed_enders Bracket.Tuple y = true_false (sym y)

module _ (k : Bracket) (s : List ℕ) (at : ℕ) where
  -- no key is due, or a bad one stands there
  pub label_without : at ≤ length s → keyed k ≡ false → LabelsAt k s at (Ok (record { key = at; value = at }))
  label_without h n =
      labels (λ a. at + key_width a) s at (label_of k (drop at s)) (record { key = at; value = at }) no_label (omega arith) h (add-zero at)
      (label_none k (drop at s) n)

  module _ (y : keyed k ≡ true) (r : Result ℕ Refused) (j : Ends s at (key_of (enders_of Around.Key) (drop at s)) r) where
    e : Ends s at (key_of (key_enders k) (drop at s)) r
    e = rw (← keyed_enders k y) j

    pub label_refused : (w : Refused) → r ≡ Err w → LabelsAt k s at (Err w)
    label_refused w q =
        let f = fails e w q in
        refuses (λ a. at + key_width a) s at (label_of k (drop at s)) w (e.inside w q)
        (record { left = f.left; faults = label_keyed k (drop at s) y ∙ ap (λ (x : Found Key). and_then x colon) f.faults; there = f.there })

    -- behind the key the colon says the rest
    pub label_found : (end : ℕ) → r ≡ Ok end → (o : Result Labelled Refused) → ((key : Key) → ColonAt key s end o) → LabelsAt k s at o
    label_found end q o c =
        let key = stands e (ReadKey (key_enders k) (drop at s)) (key_reads (key_enders k) (drop at s)) end q in
        let n : end ≡ at + length (key_onto key.it []) = omega (
          arith,
          ap length (key.holds.covers ∙ key_append key.it (drop end s)),
          length-append (key_onto key.it []) (drop end s),
          length-drop end s,
          length-drop at s,
          key.ahead,
          key.inside,
        ) in
        let x : label_of k (drop at s) ≡ colon key.it (drop end s) = label_keyed k (drop at s) y ∙ ap (λ (x : Found Key). and_then x colon) key.finds in
        record {
          same = (c key.it).same ∙ same_seen (λ a. end) (λ a. at + key_width a) s key.it (λ white. n) (drop end s)
              ∙ ap (seen_of (λ a. at + key_width a) s) (sym x);
          ahead = λ l p. omega (arith, (c key.it).ahead l p, key.ahead);
          inside = (c key.it).inside;
        }
