-- Keys at a place, by their first byte. Over plain lists. Assumes nothing.
-- Document 02, Five; 001 §21.
use Prim.Native.Nat.{ℕ, ◌≤◌, ◌<◌}
use mathlib.Core.Path.{◌≡◌, refl, ap, ◌∙◌}
use mathlib.Core.Bool.{true}
use mathlib.Core.List.{List, []}
use mathlib.Core.Logic.{◌⊎◌, inl, inr, ⊎_elim}
use lib.ListN.{length, get_or, drop, drop_of_length-le}
use borrow.Author.Tests.{ne_eqb}
use Rattle.std.specs.Prelude.{Result, Ok, Err}
use Rattle.paper.specs.declared.Refusal.{Refusal}
use Rattle.paper.specs.declared.Refused.{Refused}
use Rattle.paper.specs.declared.Refusal.TheVariants.{Value}
use Rattle.paper.specs.Answer.{number_of}
use Rattle.paper.specs.Found.{Found, found, fault, and_then}
use Rattle.paper.specs.Bytes.{byte, bytes, elem}
use Rattle.paper.specs.Values.{Leaf, leaf_form, Key, leaf_key}
use Rattle.paper.specs.ReadingValues.{leaf_of, at_start, key_of}
use Rattle.paper.proofs.Leaves.{ReadLeaf, leaf_reads}
use Rattle.paper.proofs.Numbers.{number_injective}
use Rattle.text.proofs.Places.{here}
use Rattle.leaves.specs.declared.judged.Judged.{Judged}
use Rattle.leaves.specs.Shown.{no_form, Judges, Ends}
use Rattle.values.specs.Labels.{word_key}
use Rattle.leaves.proofs.Showing.{finds, stands, fails, passes}

-- ---- by the first byte

pub key_none : (also s : List ℕ) (at : ℕ) → length s ≤ at → key_of also (drop at s) ≡ fault 9 []
unfolding key_of
key_none also s at h = rw (drop_of_length-le s h)

-- a value that is read as a key from its start on; all but a 6 is told as it stands
abbrev as_key : List ℕ → Found Leaf → Found Key
as_key start x = at_start start (and_then x (λ v left. found (leaf_key v) left))

module _ (also s : List ℕ) (at : ℕ) (h : at < length s) where
  pub key_word_lem : ((get_or s at 0 ≡ byte "\"") ⊎ (get_or s at 0 ≡ byte "'") → ⊥) → (r : Result ℕ Refused)
      → Ends s at (word_key also (drop at s)) r → Ends s at (key_of also (drop at s)) r
  unfolding key_of elem
  key_word_lem n r e =
      let q : key_of also (drop at s) ≡ word_key also (drop at s) =
      rw (here s at h, key_of, ne_eqb (get_or s at 0) (byte "\"") (λ q. n (inl q)), ne_eqb (get_or s at 0) (byte "'") (λ q. n (inr q))) in
      rw q e

  module _ (q : (get_or s at 0 ≡ byte "\"") ⊎ (get_or s at 0 ≡ byte "'")) where
    a_quote : elem (get_or s at 0) (bytes "\"'") ≡ true
    unfolding elem
    a_quote = ⊎_elim (λ e. rw e) (λ e. rw e) q

    key_quoted : key_of also (drop at s) ≡ as_key (drop at s) (leaf_of also (drop at s))
    unfolding key_of
    key_quoted = rw (here s at h, key_of, a_quote)

    module _ (r : Result Judged Refused) (e : Judges leaf_form s at (leaf_of also (drop at s)) r) where
      pub quoted_found : (v : Judged) → r ≡ Ok v → Ends s at (key_of also (drop at s)) (Ok v.end)
      quoted_found v p =
          let to = stands e (ReadLeaf also (drop at s)) (leaf_reads also (drop at s)) v p in
          let a = e.ahead v p in
          finds no_form s at (key_of also (drop at s)) v.end (leaf_key to.it) a.0 a.1 refl (key_quoted ∙ ap (as_key (drop at s)) to.finds)

      module _ (w : Refused) (p : r ≡ Err w) where
        pub quoted_other : (w.refusal ≡ Value → ⊥) → Ends s at (key_of also (drop at s)) (Err w)
        quoted_other n =
            passes e no_form at (key_of also (drop at s)) w p
            (λ left f. key_quoted ∙ ap (as_key (drop at s)) f ∙ rw (ne_eqb (number_of w.refusal) 6 (λ z. n (number_injective w.refusal Value z))))

        pub quoted_bad : w.refusal ≡ Value → key_of also (drop at s) ≡ fault 6 (drop at s)
        quoted_bad v =
            key_quoted ∙ ap (as_key (drop at s)) (fails e w p).faults
            ∙ ap (λ (why : Refusal). as_key (drop at s) (fault (number_of why) (fails e w p).left)) v
