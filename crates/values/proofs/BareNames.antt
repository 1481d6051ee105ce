-- Bare names, a map's keys without quotes: where one ends that is a whole word. Over plain lists. Assumes nothing.
-- Document 02, Five; 001 §21.
use Prim.Native.Nat.{ℕ, zero, suc, ◌+◌, ◌-◌, ◌≤◌, ◌<◌}
use mathlib.Core.Path.{◌≡◌, refl, sym, ap, ◌∙◌}
use mathlib.Core.Bool.{Bool, true, false, and-false}
use mathlib.Core.List.{List, [], ◌∷◌}
use native.Mathlib.Nat.{add-zero}
use native.Mathlib.Omega.{arith}
use lib.ListN.{length, get_or, take, drop, length-drop}
use lib.Seq.{drop-drop}
use lib.Dec.{ltb}
use borrow.Author.Tests.{ltb-true, lt-ltb, le-ltb, not-true}
use Rattle.std.specs.Bool.{then_some}
use Rattle.std.specs.Prelude.{None, Some}
use Rattle.paper.specs.declared.brackets.Bracket.{Bracket}
use Rattle.paper.specs.Bytes.{byte, is_upper, is_lower, is_digit, is_letter, is_name_byte, all, starts_in, length_in}
use Rattle.paper.specs.Values.{is_ender, ends_word, is_bare}
use Rattle.paper.specs.ReadingValues.{word_length}
use Rattle.paper.proofs.Tests.{split, true_false, apart, or_left, or_right}
use Rattle.paper.proofs.Lists.{both}
use Rattle.paper.proofs.Words.{word_ends, word_goes_on}
use Rattle.paper.proofs.Labels.{name_key_plain}
use Rattle.text.proofs.Places.{here}
use Rattle.leaves.specs.declared.words.Around.{Around}
use Rattle.leaves.specs.Kinds.{enders_of}
use Rattle.leaves.proofs.Runs.{all_front}
use Rattle.values.specs.Labels.{begins_bare, bare_end}

-- the bytes that end a key that is a word, beside those that end every word
abbrev pub also : List ℕ
also = enders_of Around.Key

-- no letter and no digit ends one
name_goes_on : (b : ℕ) (l : List ℕ) → is_name_byte b ≡ true → ends_word also (b ∷ l) ≡ false
unfolding ends_word is_name_byte is_letter is_upper is_lower is_digit
name_goes_on b l e = rw (ends_word, not-true (is_ender also b) (name_key_plain Bracket.Map b e), apart is_name_byte b (byte "/") e refl)

-- so a word goes on behind its letters and digits
word_on : (t : List ℕ) → word_length also t ≡ length_in is_name_byte t + word_length also (drop (length_in is_name_byte t) t)
unfolding length_in word_length
word_on [] = refl
word_on (b ∷ l) =
    split (is_name_byte b) (λ e. rw (e, length_in, word_goes_on also b l (name_goes_on b l e)) (omega (arith, word_on l))) (λ e. rw (e, length_in) (omega arith))

-- letters and digits that begin in lower case
lower_name : (b : ℕ) → is_lower b ≡ true → is_name_byte b ≡ true
unfolding is_name_byte is_letter
lower_name b e = or_left (is_letter b) _ (or_right (is_upper b) (is_lower b) e)

bare_starts : (b : ℕ) (l : List ℕ) → is_lower b ≡ true → starts_in is_lower (take (length_in is_name_byte (b ∷ l)) (b ∷ l)) ≡ true
unfolding length_in starts_in
bare_starts b l e = rw (length_in, lower_name b e) e

-- what does not begin in lower case is no bare name, and neither is what goes on behind its letters and digits
pub bare_first : (n b : ℕ) (l : List ℕ) → is_lower b ≡ false → is_bare (take n (b ∷ l)) ≡ false
unfolding is_bare starts_in
bare_first zero b l e = refl
bare_first (suc n) b l e = rw e

more_than_names : (n : ℕ) (t : List ℕ) → length_in is_name_byte t < n → length_in is_name_byte t < length t → all is_name_byte (take n t) ≡ false
unfolding length_in all
more_than_names zero t h k = absurd (omega arith)
more_than_names (suc n) [] h k = absurd (omega arith)
more_than_names (suc n) (b ∷ l) h k =
    split (is_name_byte b)
    (λ e. rw e (more_than_names n l (omega (arith, rw (e, length_in) at h)) (omega (arith, rw (e, length_in) at k))))
    (λ e. rw e)

-- ---- a law for each way out

-- not the whole word, or nothing ends it
none_bare : (s : List ℕ) (at : ℕ) → begins_bare also (drop at s) ≡ false → None ≡ bare_end also s at
unfolding bare_end
none_bare s at e = rw e

module _ (s : List ℕ) (at : ℕ) (h : at < length s) where
  pub bare_other : is_lower (get_or s at 0) ≡ false → None ≡ bare_end also s at
  bare_other e =
      none_bare s at (rw (here s at h) (rw (bare_first (word_length also (get_or s at 0 ∷ drop (at + 1) s)) (get_or s at 0) (drop (at + 1) s) e)))

  module _ (e : is_lower (get_or s at 0) ≡ true) (end : ℕ) (run : end ≡ at + length_in is_name_byte (drop at s)) where
    -- the word, by where its letters and digits end
    word_to : word_length also (drop at s) ≡ length_in is_name_byte (drop at s) + word_length also (drop end s)
    word_to = word_on (drop at s) ∙ rw (drop-drop (length_in is_name_byte (drop at s)) at s, ← run)

    pub bare_cut : length s ≤ end → then_some (ltb end (length s)) end ≡ bare_end also s at
    bare_cut z =
        let n = word_length also (drop at s) in
        rw (le-ltb end (length s) z)
        (none_bare s at (rw (le-ltb n (length (drop at s)) (omega (arith, word_to, length-drop at s))) (and-false (is_bare (take n (drop at s))))))

    bare_more : end < length s → ends_word also (drop end s) ≡ false → None ≡ bare_end also s at
    unfolding is_bare
    bare_more k n =
        let goes = word_goes_on also (get_or s end 0) (drop (end + 1) s) (rw (here s end k) at n) in
        none_bare s at
        (rw (
          is_bare,
          more_than_names (word_length also (drop at s)) (drop at s)
              (omega (arith, rw (here s end k, goes) at word_to)) (omega (arith, length-drop at s)),
          and-false,
        ))

    bare_whole : end < length s → ends_word also (drop end s) ≡ true → Some end ≡ bare_end also s at
    unfolding bare_end is_bare
    bare_whole k n =
        let m = length_in is_name_byte (drop at s) in
        let is : word_length also (drop at s) ≡ m = word_to ∙ rw (word_ends also (drop end s) n) (add-zero _) in
        let starts : starts_in is_lower (take m (drop at s)) ≡ true = rw (here s at h) (bare_starts (get_or s at 0) (drop (at + 1) s) e) in
        let short : ltb m (length (drop at s)) ≡ true = lt-ltb m (length (drop at s)) (omega (arith, length-drop at s)) in
        rw (is, all_front is_name_byte m (drop at s) (omega arith), starts, short) (ap Some run)

    pub bare_tested : (ends : Bool) → end < length s → ends ≡ ends_word also (drop end s) → then_some ends end ≡ bare_end also s at
    bare_tested true k n = bare_whole k (sym n)
    bare_tested false k n = bare_more k (sym n)

-- ---- what the answer tells of the word

bare_some : (n : ℕ) (t : List ℕ) → is_bare (take n t) ≡ true → 0 < n
unfolding is_bare starts_in
bare_some zero t e = true_false (sym e)
bare_some (suc n) t e = omega arith

module _ (s : List ℕ) (at : ℕ) where
  pub record Bare (end : ℕ) : Type 0 where
    pub name : is_bare (take (end - at) (drop at s)) ≡ true
    pub run : end ≡ at + word_length also (drop at s)
    pub ahead : at < end
    pub inside : end < length s

  pub is_bare_lem : (end : ℕ) → Some end ≡ bare_end also s at → Bare end
  unfolding bare_end
  is_bare_lem end is =
      let n = word_length also (drop at s) in
      let t = drop at s in
      split (begins_bare also t)
      (λ o. let e = both (is_bare (take n t)) (ltb n (length t)) o in
      let r : end ≡ at + n = let q = rw o at is in cc in
      let z : end - at ≡ n = omega arith in
      record {
        name = rw z e.0;
        run = r;
        ahead = omega (arith, bare_some n t e.0);
        inside = omega (arith, ltb-true n (length t) e.1, length-drop at s);
      })
      (λ o. let q = rw o at is in absurd (cc))

  -- where it is none, the word is no bare name, or nothing ends it
  pub not_bare : None ≡ bare_end also s at → word_length also (drop at s) < length (drop at s) → is_bare (take (word_length also (drop at s)) (drop at s)) ≡ false
  unfolding bare_end
  not_bare is k =
      let n = word_length also (drop at s) in
      split (is_bare (take n (drop at s)))
      (λ e. let q = rw (e, lt-ltb n (length (drop at s)) k) at is in absurd (cc))
      (λ e. e)
