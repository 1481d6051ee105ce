-- Keys that are words, at a place: what is no key, and what is read as a value. Over plain lists. Assumes nothing.
-- Document 02, Five; 001 §21.
use Prim.Native.Nat.{ℕ, zero, suc, ◌+◌, ◌-◌, ◌≤◌, ◌<◌}
use mathlib.Core.Path.{◌≡◌, refl, sym, ap, ◌∙◌}
use mathlib.Core.Bool.{Bool, true, false, not, and-false}
use mathlib.Core.List.{List, [], ◌∷◌}
use native.Mathlib.Omega.{arith}
use lib.ListN.{length, get_or, take, drop, length-drop, drop_of_length-le}
use lib.Dec.{eqb}
use borrow.Author.Tests.{eqb-true, eqb-false, eq-eqb, ne_eqb, leb-true}
use Rattle.std.specs.Prelude.{None, Some, Result, Ok, Err}
use Rattle.paper.specs.declared.Refused.{Refused}
use Rattle.paper.specs.declared.Refusal.TheVariants.{Value, Cut}
use Rattle.paper.specs.Answer.{refused_at}
use Rattle.paper.specs.Forms.{number_of_form}
use Rattle.paper.specs.Found.{Found, found, fault, pick}
use Rattle.paper.specs.Bytes.{byte, bytes, is_lower, is_white, is_blank, is_line_end, elem, all, starts_in, length_in, is}
use Rattle.paper.specs.Values.{is_ender, ends_word, word_form, Leaf, leaf_form, Key, bare_key, leaf_key, is_bare, is_key_form}
use Rattle.paper.specs.ReadingValues.{word_length, word_of, word_leaf, leaf_of, first_of, other, key_word}
use Rattle.paper.proofs.Tests.{split, true_false}
use Rattle.paper.proofs.Lists.{elem_apart, elem_more, without}
use Rattle.paper.proofs.Words.{word_ends, word_goes_on}
use Rattle.paper.proofs.WordKinds.{word_begins, begins_no_leaf, begins_no_word}
use Rattle.paper.proofs.Leaves.{ReadLeaf, leaf_reads, leaf_word, by_first}
use Rattle.paper.proofs.Labels.{key_form_lem}
use Rattle.text.proofs.Places.{here}
use Rattle.text.proofs.Answers.{FoundTo}
use Rattle.leaves.specs.declared.judged.Judged.{Judged}
use Rattle.leaves.specs.Shown.{Shown, shown_of, no_form, Judges, Ends}
use Rattle.leaves.proofs.Showing.{finds, no_value, cut_off, stands, passes}
use Rattle.leaves.proofs.LeafReads.{word_parts}
use Rattle.values.specs.Labels.{word_key, bare_end, no_key}
use Rattle.values.proofs.BareNames.{also, bare_first, is_bare_lem, not_bare}

-- ---- where nothing ends a word

-- the bytes that are looked for are those that end a word by themselves
abbrev stops : List ℕ
stops = bytes " \t\n\r>:,]"

stop_ends : (b : ℕ) → elem b stops ≡ is_ender also b
unfolding elem is_ender is_white is_blank is_line_end
stop_ends b =
    split (eqb b (byte " ")) (λ e. rw e)
    (λ e. split (eqb b (byte "\t")) (λ f. rw (e, f))
    (λ f. split (eqb b (byte "\n")) (λ g. rw (e, f, g)) (λ g. split (eqb b (byte "\r")) (λ h. rw (e, f, g, h)) (λ h. rw (e, f, g, h)))))

abbrev is_going : ℕ → Bool
is_going b = not (elem b stops)

-- what none of them is in begins with no ">"
no_greater : (l : List ℕ) → length_in is_going l ≡ length l → starts_in (is (byte ">")) l ≡ false
unfolding length_in starts_in elem
no_greater [] e = refl
no_greater (b ∷ l) e = split (eqb b (byte ">")) (λ q. absurd (omega (arith, rw (length_in, eqb-true b (byte ">") q) at e))) (λ q. q)

going : (b : ℕ) (l : List ℕ) → elem b stops ≡ false → length_in is_going l ≡ length l → ends_word also (b ∷ l) ≡ false
unfolding ends_word
going b l e r = rw (ends_word, ← stop_ends b, e, no_greater l r, and-false)

cut_word : (t : List ℕ) → length_in is_going t ≡ length t → word_length also t ≡ length t
unfolding length_in word_length
cut_word [] e = refl
cut_word (b ∷ l) e =
    split (elem b stops) (λ q. absurd (omega (arith, rw (length_in, q) at e)))
    (λ q. let r : length_in is_going l ≡ length l = omega (arith, rw (length_in, q) at e) in rw (word_goes_on also b l (going b l q r)) (ap suc (cut_word l r)))

ended_word : (t : List ℕ) → length_in is_going t < length t → word_length also t < length t
unfolding length_in ends_word
ended_word [] h = absurd (omega arith)
ended_word (b ∷ l) h =
    split (ends_word also (b ∷ l)) (λ e. rw (word_ends also (b ∷ l) e) (omega arith))
    (λ e. split (elem b stops) (λ q. true_false (rw (ends_word, ← stop_ends b, q) at e))
    (λ q. rw (word_goes_on also b l e) (omega (arith, ended_word l (omega (arith, rw (length_in, q) at h))))))

module _ (s : List ℕ) (at end : ℕ) (run : end ≡ at + length_in is_going (drop at s)) (h : at ≤ length s) where
  pub no_key_cut : end ≡ length s → refused_at Cut (length s) ≡ no_key also s at
  no_key_cut e = rw (eq-eqb (at + word_length also (drop at s)) (length s) (omega (arith, cut_word (drop at s) (omega (arith, length-drop at s)), length-drop at s)))

  pub no_key_bad : end ≤ length s → (end ≡ length s → ⊥) → refused_at Value at ≡ no_key also s at
  no_key_bad k n =
      rw (ne_eqb (at + word_length also (drop at s)) (length s)
      (λ e. omega (arith, ended_word (drop at s) (omega (arith, length-drop at s)), length-drop at s)))

-- ---- the key

-- the word, cut off or told as what it is
module _ (s : List ℕ) (at : ℕ) where
  key_ends : at + word_length also (drop at s) ≡ length s → word_key also (drop at s) ≡ fault 9 []
  unfolding key_word
  key_ends e =
      let l : length s ≤ at + word_length also (drop at s) = omega arith in
      word_parts also s at (at + word_length also (drop at s)) refl key_word ∙ rw (drop_of_length-le s l)

  key_told : (end : ℕ) → end ≡ at + word_length also (drop at s) → end < length s
      → word_key also (drop at s) ≡ key_word (drop at s) (take (end - at) (drop at s)) (get_or s end 0 ∷ drop (end + 1) s)
  key_told end run k = word_parts also s at end run key_word ∙ rw (here s end k)

-- a bare name
pub key_bare : (s : List ℕ) (at end : ℕ) → Some end ≡ bare_end also s at → Ends s at (word_key also (drop at s)) (Ok end)
unfolding key_word
key_bare s at end is =
    let b = is_bare_lem s at end is in
    finds no_form s at (word_key also (drop at s)) end (bare_key (take (end - at) (drop at s))) b.ahead (omega (arith, b.inside)) refl
    (key_told s at end b.run b.inside ∙ rw (key_word, b.name) (ap (found (bare_key (take (end - at) (drop at s)))) (sym (here s end b.inside))))

-- what a quote or a brace begins is no key as a word
abbrev marks : List ℕ
marks = bytes "\"'`{"

word_fits : (t : List ℕ) → word_length also t ≤ length t
unfolding word_length
word_fits [] = omega arith
word_fits (b ∷ l) = split (ends_word also (b ∷ l)) (λ e. rw (e, word_length) (omega arith)) (λ e. rw (e, word_length) (omega (arith, word_fits l)))

quote_lower : (b : ℕ) → elem b marks ≡ true → is_lower b ≡ false
unfolding is_lower all
quote_lower b q = split (is_lower b) (λ e. true_false (sym q ∙ elem_apart is_lower b marks e refl)) (λ e. e)

quote_form : (n b : ℕ) (l : List ℕ) → elem b marks ≡ true → is_key_form (word_form (take n (b ∷ l))) ≡ false
unfolding starts_in
quote_form n b l q =
    let form = word_form (take n (b ∷ l)) in
    split (is_key_form form) (λ e. begun n (word_begins (take n (b ∷ l)) (leb-true 1 form (key_form_lem form e)))) (λ e. e)
  where
    begun : {X : Type 0} (n : ℕ) → starts_in (without begins_no_word) (take n (b ∷ l)) ≡ true → X
    begun zero e = true_false (sym e)
    begun (suc n) e = true_false (sym e ∙ ap not (elem_more b marks begins_no_leaf q))

pub no_key_lem : (s : List ℕ) (at : ℕ) → at < length s → elem (get_or s at 0) marks ≡ true → (r : Refused) → r ≡ no_key also s at
    → Ends s at (word_key also (drop at s)) (Err r)
unfolding key_word
no_key_lem s at h q r e =
    let end = at + word_length also (drop at s) in
    split (eqb end (length s)) (λ y. cut_off no_form s at _ r (e ∙ rw y) (key_ends s at (eqb-true end (length s) y)))
    (λ n. no_value no_form s at _ r at (e ∙ rw n) (omega arith)
    (let k : end < length s = omega (arith, word_fits (drop at s), length-drop at s, eqb-false end (length s) n) in
    let b = get_or s at 0 in
    let l = drop (at + 1) s in
    let bare = ap (λ (t : List ℕ). is_bare (take (end - at) t)) (here s at h) ∙ bare_first (end - at) b l (quote_lower b q) in
    let form = ap (λ (t : List ℕ). is_key_form (word_form (take (end - at) t))) (here s at h) ∙ quote_form (end - at) b l q in
    key_told s at end refl k ∙ rw (key_word, bare, form)))

-- ---- a word that is read as a value

-- what a value that is read is as a key: one of a form that a key may have, or bad
abbrev key_found : List ℕ → Found Leaf → Found Key
key_found start (found v left) = pick (is_key_form (leaf_form v)) (found (leaf_key v) left) (fault 6 start)
key_found start (fault n left) = fault n left

as_key_lem : (start w left : List ℕ) → (0 < length left → is_bare w ≡ false) → key_word start w left ≡ key_found start (word_of start w left)
unfolding key_word word_of is_key_form
as_key_lem start w [] n = refl
as_key_lem start w (b ∷ l) n =
    split (eqb (word_form w) 0) (λ e. rw (n (omega arith), key_word, e, word_of, eqb-true (word_form w) 0 e))
    (λ e. rw (n (omega arith), key_word, e, word_of) (split (is_key_form (word_form w)) (λ f. rw f) (λ f. rw f)))

module _ (s : List ℕ) (at : ℕ) (h : at < length s) (q : elem (get_or s at 0) marks ≡ false) (n : None ≡ bare_end also s at) where
  key_as : word_key also (drop at s) ≡ key_found (drop at s) (leaf_of also (drop at s))
  unfolding elem
  key_as =
      let not : (c : ℕ) → elem c marks ≡ true → get_or s at 0 ≡ c → first_of (get_or s at 0) ≡ other = λ c y p. true_false (sym y ∙ rw p at q) in
      let o : first_of (get_or s at 0) ≡ other =
      by_first (get_or s at 0) (not (byte "\"") refl) (not (byte "'") refl) (not (byte "`") refl) (not (byte "{") refl) (λ f. f) in
      let l : leaf_of also (drop at s) ≡ word_leaf also (drop at s) = rw (here s at h) (leaf_word also (drop (at + 1) s) (get_or s at 0) o) in
      as_key_lem (drop at s) _ _ (λ k. not_bare s at n (omega (arith, length-drop (word_length also (drop at s)) (drop at s)))) ∙ ap (key_found (drop at s)) (sym l)

  module _ (r : Result Judged Refused) (e : Judges leaf_form s at (leaf_of also (drop at s)) r) where
    pub key_refused : (w : Refused) → r ≡ Err w → Ends s at (word_key also (drop at s)) (Err w)
    key_refused w p = passes e no_form at (word_key also (drop at s)) w p (λ left f. key_as ∙ ap (key_found (drop at s)) f)

    module _ (v : Judged) (p : r ≡ Ok v) where
      -- the value that was read, and its form
      value : FoundTo (ReadLeaf also (drop at s)) s at (leaf_of also (drop at s)) v.end
      value = stands e (ReadLeaf also (drop at s)) (leaf_reads also (drop at s)) v p

      form_is : leaf_form value.it ≡ number_of_form v.form
      form_is = ap (λ (x : Shown). x.form) (ap (shown_of leaf_form s) (sym value.finds) ∙ sym (rw p at e.same))

      key_is : word_key also (drop at s) ≡ key_found (drop at s) (found value.it (drop v.end s))
      key_is = key_as ∙ ap (key_found (drop at s)) value.finds

      pub key_formed : is_key_form (number_of_form v.form) ≡ true → Ends s at (word_key also (drop at s)) (Ok v.end)
      key_formed y =
          let a = e.ahead v p in
          finds no_form s at (word_key also (drop at s)) v.end (leaf_key value.it) a.0 a.1 refl (key_is ∙ rw (form_is, y))

      pub key_unfit : is_key_form (number_of_form v.form) ≡ false → word_key also (drop at s) ≡ fault 6 (drop at s)
      key_unfit z = key_is ∙ rw (form_is, z)
