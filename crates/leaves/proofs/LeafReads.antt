-- Values that hold no items, at a place: a law for each way out of their functions. Over plain lists. Assumes nothing.
-- Document 01, "The grammar", Values; document 02, Two.
use Prim.Native.Nat.{ℕ, suc, ◌+◌, ◌-◌, ◌≤◌, ◌<◌}
use mathlib.Core.Path.{◌≡◌, refl, sym, ap, ◌∙◌}
use mathlib.Core.Bool.{true, false, not}
use mathlib.Core.List.{List, [], ◌∷◌}
use mathlib.Core.Option.{none, some}
use mathlib.Core.Option.{Option as Maybe}
use native.Mathlib.Omega.{arith}
use lib.ListN.{length, get_or, take, drop, length-take, drop_of_length-le}
use lib.Seq.{drop-drop}
use lib.Dec.{eqb}
use borrow.Author.Tests.{ne_eqb}
use Rattle.std.specs.Prelude.{Result, Ok, Option, None, Some, is_some}
use Rattle.paper.specs.declared.Refused.{Refused}
use Rattle.paper.specs.declared.forms.Form.{Form}
use Rattle.paper.specs.Found.{Found, found, fault}
use Rattle.paper.specs.Forms.{number_of_form, number_or_none}
use Rattle.paper.specs.Bytes.{byte, bytes, elem, length_in, is}
use Rattle.paper.specs.Times.{TimeKind, zoned, local, date, year_month, month_day, time, duration, reserved, time_kind}
use Rattle.paper.specs.Values.{word_form, word, temporal, leaf_form}
use Rattle.paper.specs.ReadingValues.{character_of, word_length, word_of, word_leaf, temporal_of, other, first_of, leaf_of}
use Rattle.paper.proofs.Leaves.{word_none, word_there, leaf_string, leaf_character, leaf_backtick, leaf_word, temporal_none, temporal_there, leaf_temporal}
use Rattle.paper.proofs.Tests.{split, up_to, true_false}
use Rattle.text.proofs.Places.{here}
use Rattle.times.specs.declared.kinds.Kind.{Kind}
use Rattle.times.specs.Numbers.{number_of, number_or_none as kind_or_none}
use Rattle.leaves.specs.declared.judged.Judged.{Judged}
use Rattle.leaves.specs.Shown.{Judges, string_of, backtick_of, time_of}
use Rattle.leaves.proofs.Forms.{form_some}
use Rattle.leaves.proofs.Showing.{finds, moved}
use Rattle.leaves.proofs.FirstBytes.{form_empty}

-- ---- words

no_word : (form : Option Form) → ((f : Form) → form ≡ Some f → ⊥) → number_or_none form ≡ 0
no_word None n = refl
no_word (Some f) n = absurd (n f refl)

module _ (also s : List ℕ) (at end : ℕ) (run : end ≡ at + word_length also (drop at s)) where
  -- what reads a word is told its bytes, and what is left from its end on
  pub word_parts : {A : Type 0} (read : List ℕ → List ℕ → List ℕ → Found A)
      → read (drop at s) (take (word_length also (drop at s)) (drop at s)) (drop (word_length also (drop at s)) (drop at s))
      ≡ read (drop at s) (take (end - at) (drop at s)) (drop end s)
  word_parts read =
      let n : word_length also (drop at s) ≡ end - at = omega arith in
      let q : at + (end - at) ≡ end = omega arith in
      rw (n, drop-drop, q)

  pub word_ends : end ≡ length s → word_leaf also (drop at s) ≡ fault 9 []
  unfolding word_of
  word_ends e = let l : length s ≤ end = omega arith in word_parts word_of ∙ rw (drop_of_length-le s l)

  module _ (h : end < length s) (form : Option Form) (is : number_or_none form ≡ word_form (take (end - at) (drop at s))) where
    pub word_bad : ((f : Form) → form ≡ Some f → ⊥) → word_leaf also (drop at s) ≡ fault 6 (drop at s)
    word_bad n = word_parts word_of ∙ rw (here s end h) (word_none _ _ _ _ (sym is ∙ no_word form n))

    module _ (f : Form) (e : form ≡ Some f) where
      told : word_form (take (end - at) (drop at s)) ≡ number_of_form f
      told = rw e at (sym is)

      pub word_good : word_leaf also (drop at s) ≡ found (word (number_of_form f) (take (end - at) (drop at s))) (drop end s)
      word_good = word_parts word_of ∙ rw (here s end h, ← told) (word_there _ _ _ _ (omega (arith, told, form_some f)))

      -- a word of some kind is not empty
      pub word_ahead : at < end
      word_ahead = up_to end at (λ k. absurd (omega (arith, told, form_some f, form_empty (take (end - at) (drop at s)) (omega (arith, length-take (end - at) (drop at s)))))) (λ k. k)

-- ---- times

-- up to the one byte that is looked for
lone : (c : ℕ) (l : List ℕ) → length_in (λ b. not (elem b (c ∷ []))) l ≡ length_in (λ b. not (is c b)) l
unfolding length_in elem
lone c [] = refl
lone c (b ∷ l) = split (eqb b c) (λ e. rw (e, length_in)) (λ e. rw (e, length_in) (ap suc (lone c l)))

-- the kind of a time, by the kind that is answered
by_kind : {X : Type 0} (o : Maybe TimeKind) (r : Option Kind) → kind_or_none r ≡ number_of o → is_some r ≡ true → ((k : TimeKind) → o ≡ some k → X) → X
by_kind none r e n on = no_kind r e n
  where
    no_kind : {X : Type 0} (r : Option Kind) → kind_or_none r ≡ 0 → is_some r ≡ true → X
    no_kind None e n = true_false (sym n)
    no_kind (Some Kind.Zoned) e n = absurd (omega arith)
    no_kind (Some Kind.Local) e n = absurd (omega arith)
    no_kind (Some Kind.Date) e n = absurd (omega arith)
    no_kind (Some Kind.YearMonth) e n = absurd (omega arith)
    no_kind (Some Kind.MonthDay) e n = absurd (omega arith)
    no_kind (Some Kind.Time) e n = absurd (omega arith)
    no_kind (Some Kind.Duration) e n = absurd (omega arith)
    no_kind (Some Kind.Reserved) e n = absurd (omega arith)
by_kind (some k) r e n on = on k refl

none_of : (o : Maybe TimeKind) → number_of o ≡ 0 → o ≡ none
none_of none z = refl
none_of (some zoned) z = absurd (omega arith)
none_of (some local) z = absurd (omega arith)
none_of (some date) z = absurd (omega arith)
none_of (some year_month) z = absurd (omega arith)
none_of (some month_day) z = absurd (omega arith)
none_of (some time) z = absurd (omega arith)
none_of (some duration) z = absurd (omega arith)
none_of (some reserved) z = absurd (omega arith)

no_number : (r : Option Kind) → is_some r ≡ false → kind_or_none r ≡ 0
no_number None e = refl
no_number (Some k) e = true_false e

module _ (s : List ℕ) (at end : ℕ) (run : end ≡ at + 1 + length_in (λ b. not (elem b (bytes "}"))) (drop (at + 1) s)) where
  time_parts : time_of (drop at s) ≡ temporal_of (drop at s) (take (end - (at + 1)) (drop (at + 1) s)) (drop end s)
  time_parts =
      let n : length_in (λ b. not (is (byte "}") b)) (drop (at + 1) s) ≡ end - (at + 1) = omega (arith, lone (byte "}") (drop (at + 1) s)) in
      let q : at + 1 + (end - (at + 1)) ≡ end = omega arith in
      rw (drop-drop 1 at s, n, drop-drop (end - (at + 1)) (at + 1) s, q)

  pub time_ends : end ≡ length s → time_of (drop at s) ≡ fault 9 []
  unfolding temporal_of
  time_ends e = let l : length s ≤ end = omega arith in time_parts ∙ rw (drop_of_length-le s l)

  module _ (h : end < length s) (kind : Option Kind) (is : kind_or_none kind ≡ number_of (time_kind (take (end - (at + 1)) (drop (at + 1) s)))) where
    pub time_bad : is_some kind ≡ false → time_of (drop at s) ≡ fault 6 (drop at s)
    time_bad z = time_parts ∙ rw (here s end h) (temporal_none _ _ _ _ (none_of _ (sym is ∙ no_number kind z)))

    pub time_good : is_some kind ≡ true → Judges leaf_form s at (time_of (drop at s)) (Ok (record { form = Form.Time; end = end + 1 }))
    time_good n =
        by_kind (time_kind (take (end - (at + 1)) (drop (at + 1) s))) kind is n
        (λ k e. finds leaf_form s at (time_of (drop at s)) (record { form = Form.Time; end = end + 1 })
        (temporal k (take (end - (at + 1)) (drop (at + 1) s))) (omega arith) (omega arith) refl
        (time_parts ∙ rw (here s end h) (temporal_there (drop at s) (take (end - (at + 1)) (drop (at + 1) s)) (get_or s end 0) (drop (end + 1) s) k e)))

-- ---- by the first byte

pub leaf_ends : (also s : List ℕ) (at : ℕ) → length s ≤ at → leaf_of also (drop at s) ≡ fault 9 []
unfolding leaf_of
leaf_ends also s at h = rw (drop_of_length-le s h)

module _ (also s : List ℕ) (at : ℕ) (h : at < length s) (r : Result Judged Refused) where
  pub string_leaf : get_or s at 0 ≡ byte "\"" → Judges leaf_form s (at + 1) (string_of (drop (at + 1) s)) r → Judges leaf_form s at (leaf_of also (drop at s)) r
  string_leaf q e = moved e at (leaf_of also (drop at s)) (omega arith) (rw (here s at h, q, leaf_string also (drop (at + 1) s)))

  pub character_leaf : get_or s at 0 ≡ byte "'" → Judges leaf_form s (at + 1) (character_of (drop (at + 1) s)) r → Judges leaf_form s at (leaf_of also (drop at s)) r
  character_leaf q e = moved e at (leaf_of also (drop at s)) (omega arith) (rw (here s at h, q, leaf_character also (drop (at + 1) s)))

  pub backtick_leaf : get_or s at 0 ≡ byte "`" → Judges leaf_form s (at + 1) (backtick_of (drop (at + 1) s)) r → Judges leaf_form s at (leaf_of also (drop at s)) r
  backtick_leaf q e = moved e at (leaf_of also (drop at s)) (omega arith) (rw (here s at h, q, leaf_backtick also (drop (at + 1) s)))

  pub time_leaf : get_or s at 0 ≡ byte "{" → Judges leaf_form s at (time_of (drop at s)) r → Judges leaf_form s at (leaf_of also (drop at s)) r
  time_leaf q e =
      let l : leaf_of also (drop at s) ≡ time_of (drop at s) = rw (here s at h, q) (leaf_temporal also (drop (at + 1) s)) in
      rw l e

  pub word_leaf_lem : (get_or s at 0 ≡ byte "\"" → ⊥) → (get_or s at 0 ≡ byte "'" → ⊥) → (get_or s at 0 ≡ byte "`" → ⊥) → (get_or s at 0 ≡ byte "{" → ⊥)
      → Judges leaf_form s at (word_leaf also (drop at s)) r → Judges leaf_form s at (leaf_of also (drop at s)) r
  unfolding first_of
  word_leaf_lem d q t b e =
      let not : (c : ℕ) → (get_or s at 0 ≡ c → ⊥) → eqb (get_or s at 0) c ≡ false = ne_eqb (get_or s at 0) in
      let o : first_of (get_or s at 0) ≡ other = rw (not (byte "\"") d, not (byte "'") q, not (byte "`") t, not (byte "{") b) in
      let l : leaf_of also (drop at s) ≡ word_leaf also (drop at s) = rw (here s at h) (leaf_word also (drop (at + 1) s) (get_or s at 0) o) in
      rw l e
