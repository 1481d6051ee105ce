-- Where a word ends: a law for each way out of the test, and for each way on or out of the loop. Over plain lists. Assumes nothing.
-- Document 01, "The grammar", Values: words.
use Prim.Native.Nat.{ℕ, ◌+◌, ◌≤◌, ◌<◌}
use mathlib.Core.Path.{◌≡◌, refl, ◌∙◌}
use mathlib.Core.Bool.{Bool, true, false, ◌||◌}
use mathlib.Core.List.{List, [], ◌∷◌}
use native.Mathlib.Nat.{add-zero}
use native.Mathlib.Omega.{arith}
use lib.ListN.{length, get_or, drop, drop_of_length-le}
use borrow.Author.Tests.{ne_eqb}
use Rattle.paper.specs.declared.brackets.Bracket.{Bracket}
use Rattle.paper.specs.Bytes.{byte, bytes, is_blank, is_line_end, is_white, elem, starts_with}
use Rattle.paper.specs.Values.{enders, is_ender, ends_word}
use Rattle.paper.specs.ReadingValues.{word_length}
use Rattle.paper.proofs.Tests.{split}
use Rattle.paper.proofs.Words.{word_ends, word_goes_on, end_ends}
use Rattle.text.proofs.Places.{here}
use Rattle.leaves.specs.declared.words.Around.{Around}
use Rattle.leaves.specs.Kinds.{enders_of, inside_of}
use Rattle.leaves.proofs.Runs.{starts_one}

-- ---- a byte that is none of these

pub none_of_two : (b c d : ℕ) → (b ≡ c → ⊥) × (b ≡ d → ⊥) → false ≡ elem b (c ∷ d ∷ [])
unfolding elem
none_of_two b c d n = rw (ne_eqb b c n.0, ne_eqb b d n.1)

pub none_of_three : (b c d e : ℕ) → (b ≡ c → ⊥) × (b ≡ d → ⊥) × (b ≡ e → ⊥) → false ≡ elem b (c ∷ d ∷ e ∷ [])
unfolding elem
none_of_three b c d e n = rw (ne_eqb b c n.0, ne_eqb b d n.1, ne_eqb b e n.2)

-- ---- the test

-- an item ends where its bracket says
pub inside_enders : (k : Bracket) (around : Around) → around ≡ inside_of k → enders_of around ≡ enders k
inside_enders k around e = rw e (go k)
  where
    go : (k : Bracket) → enders_of (inside_of k) ≡ enders k
    go Bracket.List = refl
    go Bracket.Set = refl
    go Bracket.Map = refl
    go Bracket.Tuple = refl

module _ (around : Around) where
  -- what ends a word by what stands around it, taken apart
  pub around_is : (b : ℕ) {r : Bool} (other : Around) → around ≡ other → r ≡ elem b (enders_of other) → r ≡ elem b (enders_of around)
  around_is b other e h = rw e h

  -- "/" ends no item
  slash_goes_on : elem (byte "/") (enders_of around) ≡ false
  unfolding elem
  slash_goes_on = go around
    where
      go : (a : Around) → elem (byte "/") (enders_of a) ≡ false
      go Around.Nothing = refl
      go Around.Square = refl
      go Around.Round = refl
      go Around.Key = refl

  module _ (s : List ℕ) (at : ℕ) (h : at < length s) where
    pub ends_bracket : get_or s at 0 ≡ byte ">" → true ≡ ends_word (enders_of around) (drop at s)
    unfolding ends_word is_ender is_white is_blank is_line_end
    ends_bracket e = rw (here s at h, e)

    pub ends_slash : (o : Bool) → get_or s at 0 ≡ byte "/" → o ≡ starts_with (bytes "/>") (drop at s) → o ≡ ends_word (enders_of around) (drop at s)
    unfolding ends_word is_ender is_white is_blank is_line_end starts_with
    ends_slash o e f = rw (here s at h, e, slash_goes_on) (rw (here s at h, e) at f ∙ starts_one (byte ">") (drop (at + 1) s))

    pub ends_other : (get_or s at 0 ≡ byte ">" → ⊥) → (get_or s at 0 ≡ byte "/" → ⊥)
        → (is_white (get_or s at 0) || elem (get_or s at 0) (enders_of around)) ≡ ends_word (enders_of around) (drop at s)
    unfolding ends_word is_ender
    ends_other b k =
        rw (here s at h, ends_word, is_ender, ne_eqb (get_or s at 0) (byte ">") b, ne_eqb (get_or s at 0) (byte "/") k)
        (split (is_white (get_or s at 0)) (λ q. rw q) (λ q. rw q (split (elem (get_or s at 0) (enders_of around)) (λ p. rw p) (λ p. rw p))))

-- ---- the loop

module _ (also s : List ℕ) (i : ℕ) where
  pub word_stops : ends_word also (drop i s) ≡ true → i + word_length also (drop i s) ≡ i
  word_stops e = rw (word_ends also (drop i s) e) (add-zero i)

  pub word_turns : i < length s → ends_word also (drop i s) ≡ false → i + word_length also (drop i s) ≡ i + 1 + word_length also (drop (i + 1) s)
  word_turns h e = rw (here s i h, word_goes_on also (get_or s i 0) (drop (i + 1) s) (rw (here s i h) at e)) (omega arith)

  pub word_out : length s ≤ i → i + word_length also (drop i s) ≡ i
  word_out h = rw (drop_of_length-le s h, word_ends also [] (end_ends also)) (add-zero i)
