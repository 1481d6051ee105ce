-- Words: where a word ends. Document 01, "The grammar", Values. Assumes nothing.
use Prim.Native.Nat.{ℕ, suc}
use mathlib.Core.Path.{◌≡◌, refl, sym, ap, ◌∙◌}
use mathlib.Core.Bool.{true, false, not}
use mathlib.Core.List.{List, [], ◌∷◌, ◌++◌}
use lib.ListN.{length, take, drop, take-append-drop}
use lib.Dec.{eqb}
use borrow.Author.Tests.{not-true}
use Rattle.paper.specs.Bytes.{byte, is_white, all, starts_in, is}
use Rattle.paper.specs.Values.{is_ender, ends_word, ends_in_slash}
use Rattle.paper.specs.ReadingValues.{word_length}
use Rattle.paper.proofs.Tests.{split, true_false}
use Rattle.paper.proofs.Lists.{all_nil, all_cons, all_head, is_not}

module _ (also : List ℕ) where
  -- the length of a word: none where it ends, else a byte and the rest
  pub word_ends : (s : List ℕ) → ends_word also s ≡ true → word_length also s ≡ 0
  unfolding word_length
  word_ends [] e = refl
  word_ends (b ∷ l) e = rw (e, word_length)

  pub word_goes_on : (b : ℕ) (l : List ℕ) → ends_word also (b ∷ l) ≡ false → word_length also (b ∷ l) ≡ suc (word_length also l)
  unfolding word_length
  word_goes_on b l e = rw (e, word_length)

  pub end_ends : ends_word also [] ≡ true
  unfolding ends_word
  end_ends = refl

  -- what is left behind a word is where it ends, and no byte before is
  pub record Cut (w left : List ℕ) : Type 0 where
    pub plain : all (λ b. not (is_ender also b)) w ≡ true
    pub ends : ends_word also left ≡ true
    pub slash : ends_in_slash w ≡ true → starts_in (is (byte ">")) left ≡ false

  on_plain : (b : ℕ) (l : List ℕ) → ends_word also (b ∷ l) ≡ false → is_ender also b ≡ false
  unfolding ends_word
  on_plain b l e = split (is_ender also b) (λ f. true_false (rw f at e)) (λ f. f)

  on_slash : (b : ℕ) (l : List ℕ) → ends_word also (b ∷ l) ≡ false → eqb b (byte "/") ≡ true → starts_in (is (byte ">")) l ≡ false
  unfolding ends_word
  on_slash b l e f = rw (on_plain b l e, f) at e

  cut_on : (b : ℕ) (w left : List ℕ) → ends_word also (b ∷ (w ++ left)) ≡ false → Cut w left → Cut (b ∷ w) left
  unfolding ends_in_slash
  cut_on b [] left e h = record { plain = all_cons _ b [] (is_not (on_plain b left e)) h.plain; ends = h.ends; slash = λ f. on_slash b left e f }
  cut_on b (c ∷ w) left e h = record { plain = all_cons _ b (c ∷ w) (is_not (on_plain b _ e)) h.plain; ends = h.ends; slash = h.slash }

  cut_none : (left : List ℕ) → ends_word also left ≡ true → Cut [] left
  unfolding ends_in_slash
  cut_none left e = record { plain = all_nil _; ends = e; slash = λ f. true_false (sym f) }

  -- the word that stands in front is cut so
  pub word_cut : (s : List ℕ) → Cut (take (word_length also s) s) (drop (word_length also s) s)
  word_cut [] = rw (word_ends [] end_ends) (cut_none [] end_ends)
  word_cut (b ∷ l) =
      split (ends_word also (b ∷ l)) (λ e. rw (word_ends (b ∷ l) e) (cut_none (b ∷ l) e))
      (λ e. rw (word_goes_on b l e) (cut_on b _ _ (rw (take-append-drop (word_length also l) l) e) (word_cut l)))

  no_bracket_lem : (b : ℕ) → is_ender also b ≡ false → eqb b (byte ">") ≡ false
  unfolding is_ender
  no_bracket_lem b e = split (is_white b) (λ f. true_false (rw f at e)) (λ f. split (eqb b (byte ">")) (λ g. true_false (rw (f, g) at e)) (λ g. g))

  cut_less : (b : ℕ) (w left : List ℕ) → Cut (b ∷ w) left → Cut w left
  unfolding ends_in_slash
  cut_less b [] left h = cut_none left h.ends
  cut_less b (c ∷ w) left h = record { plain = (all_head _ b (c ∷ w) h.plain).1; ends = h.ends; slash = h.slash }

  cut_plain : (b : ℕ) (w left : List ℕ) → Cut (b ∷ w) left → is_ender also b ≡ false
  cut_plain b w left h = not-true (is_ender also b) (all_head _ b w h.plain).0

  cut_off : (b : ℕ) (w left : List ℕ) → Cut (b ∷ w) left → ends_word also (b ∷ (w ++ left)) ≡ false
  unfolding ends_word ends_in_slash starts_in
  cut_off b [] left h = split (eqb b (byte "/")) (λ e. rw (cut_plain b [] left h, e) (h.slash e)) (λ e. rw (cut_plain b [] left h, e))
  cut_off b (c ∷ w) left h =
      split (eqb b (byte "/"))
      (λ e. rw (cut_plain b (c ∷ w) left h, e, no_bracket_lem c (cut_plain c w left (cut_less b (c ∷ w) left h))))
      (λ e. rw (cut_plain b (c ∷ w) left h, e))

  -- and no other one is
  pub word_only : (w left : List ℕ) → Cut w left → word_length also (w ++ left) ≡ length w
  word_only [] left h = word_ends left h.ends
  word_only (b ∷ w) left h = word_goes_on b (w ++ left) (cut_off b w left h) ∙ ap suc (word_only w left (cut_less b w left h))
