-- Maps' keys put, by their first byte. Assumes nothing.
-- Document 01, "Canonical form"; document 02, Five.
use Prim.Native.Nat.{ℕ}
use mathlib.Core.Path.{◌≡◌, refl, sym, ◌∙◌}
use mathlib.Core.Bool.{Bool, true, false, not}
use mathlib.Core.List.{List, [], ◌∷◌, ◌++◌, append-nil}
use native.Mathlib.Omega.{arith}
use lib.ListN.{drop}
use borrow.Author.Tests.{not-true}
use Rattle.paper.specs.Bytes.{byte, bytes, is_lower, all, elem, starts_in, starts_with}
use Rattle.paper.specs.Values.{Piece, pieces_onto, piece_rule, pieces_mean, string, character, backtick, word, temporal, leaf_onto, leaf_rule, is_bare, is_key_form}
use Rattle.paper.specs.Values.{bare_key, leaf_key, key_onto, key_rule}
use Rattle.paper.specs.Canonical.{bytes_onto, leaf_sense, key_sense, print_leaf, print_label}
use Rattle.paper.proofs.Tests.{true_false, apart}
use Rattle.paper.proofs.Lists.{both, all_among, without, starts_append, starts_is, starts_not}
use Rattle.paper.proofs.WordKinds.{begins_no_word, word_begins}
use Rattle.paper.proofs.Leaves.{word_rule}
use Rattle.paper.proofs.Labels.{quotes}
use Rattle.quoting.specs.declared.page.Page.{Page}
use Rattle.quoting.specs.Page.{Puts}
use Rattle.quoting.proofs.Putting.{puts_as, ahead}
use Rattle.quoting.specs.Leaves.{KeyPut}

-- a key that begins with a quote stands between two of it
module _ (w : List ℕ) (quote : ℕ) (is : elem quote quotes ≡ true) (s : starts_with (quote ∷ []) (drop 0 w) ≡ true) where
  no_quote : {X : Type 0} (class : ℕ → Bool) (u : List ℕ) → w ≡ u ++ [] → all (λ c. not (class c)) quotes ≡ true → starts_in class u ≡ true → X
  no_quote class u e a f =
      let n = not-true (class quote) (all_among (λ c. not (class c)) quote quotes is a) in
      true_false (sym (rw e at s) ∙ starts_not class quote (u ++ []) (starts_append class u [] f) n)

  pub quoted_key : {before after : Page} → ((ps : List Piece) → w ≡ quote ∷ pieces_onto ps (quote ∷ []) → all (piece_rule quote) ps ≡ true
      → Puts before (λ next. quote ∷ bytes_onto quote (pieces_mean ps) (quote ∷ next)) after) → KeyPut w before after
  unfolding key_onto key_rule key_sense print_label leaf_onto leaf_rule leaf_sense print_leaf is_bare is_lower elem all
  quoted_key f also (bare_key u) e r = no_quote is_lower u e refl (both (starts_in is_lower u) _ r).0
  quoted_key f also (leaf_key (string ps)) e r =
      let q : quote ≡ byte "\"" = let z = starts_is (quote ∷ []) w s in cc in
      ahead _ ((rw q at f) ps e r)
  quoted_key f also (leaf_key (character ps)) e r =
      let q : quote ≡ byte "'" = let z = starts_is (quote ∷ []) w s in cc in
      ahead _ ((rw q at f) ps e (both (all (piece_rule (byte "'")) ps) _ r).0)
  quoted_key f also (leaf_key (backtick ps)) e r = true_false (sym r)
  quoted_key f also (leaf_key (word form u)) e r =
      let h = word_rule also form u (both (is_key_form form) _ r).1 in
      no_quote (without begins_no_word) u e refl (word_begins u (omega arith))
  quoted_key f also (leaf_key (temporal kind u)) e r = true_false (sym r)

-- any other is a name, an integer or a "$" token, and stays as it is
pub other_key : (w : List ℕ) → starts_with (bytes "\"") (drop 0 w) ≡ false → starts_with (bytes "'") (drop 0 w) ≡ false
    → {before after : Page} → Puts before (λ next. w ++ next) after → KeyPut w before after
unfolding key_onto key_rule key_sense print_label leaf_onto leaf_sense print_leaf is_key_form starts_with
other_key w s c p also (bare_key u) e r = puts_as _ (λ next. rw (← append-nil u, ← e)) (ahead _ p)
other_key w s c p also (leaf_key (string ps)) e r = true_false (rw e at s)
other_key w s c p also (leaf_key (character ps)) e r = true_false (rw e at c)
other_key w s c p also (leaf_key (backtick ps)) e r = true_false (sym r)
other_key w s c p also (leaf_key (word form u)) e r =
    puts_as _ (λ next. rw (apart is_key_form form 10 (both (is_key_form form) _ r).0 refl, ← append-nil u, ← e)) (ahead _ p)
other_key w s c p also (leaf_key (temporal kind u)) e r = true_false (sym r)
