-- Values at a place: no bracket, one too many, one without items, items, and what stands behind an item. Over plain lists. Assumes nothing.
-- Document 01, "The grammar", Values; document 02, Five.
use Prim.Native.Nat.{ℕ, suc, ◌+◌, ◌-◌, ◌*◌, ◌≤◌, ◌<◌}
use mathlib.Core.Path.{◌≡◌, refl, sym, ap, ◌∙◌}
use mathlib.Core.Bool.{true, false}
use mathlib.Core.List.{List, [], ◌∷◌, ◌++◌}
use native.Mathlib.Omega.{arith}
use lib.ListN.{length, get_or, drop, drop_of_length-le, length-drop, length-append}
use lib.Seq.{drop-drop}
use lib.Dec.{eqb}
use Rattle.std.specs.Option.{is_some}
use Rattle.std.specs.Prelude.{Some, Result, Ok, Err}
use Rattle.paper.specs.declared.Refusal.{Refusal}
use Rattle.paper.specs.declared.Refusal.TheVariants.{TooDeep}
use Rattle.paper.specs.declared.Refused.{Refused}
use Rattle.paper.specs.declared.forms.Form.{Form}
use Rattle.paper.specs.declared.brackets.Bracket.{Bracket}
use Rattle.paper.specs.Answer.{refused_at}
use Rattle.paper.specs.Forms.{number_of_form}
use Rattle.paper.specs.Found.{Found, found, fault, and_then}
use Rattle.paper.specs.Bytes.{byte, bytes, is_white, front, behind, starts_with}
use Rattle.paper.specs.Values.{leaf_form, opener, closer, bracket_form, may_be_empty, enders, Label, Value, leaf, empty_bracket, bracket, value_form, More, close, comma}
use Rattle.paper.specs.ReadingValues.{Opening, no_bracket, opens, opens_with, inside, leaf_of, label_of, value_of, more_of, item_and}
use Rattle.paper.proofs.Lists.{starts_is}
use Rattle.paper.proofs.Tests.{split, true_false}
use Rattle.paper.proofs.BracketKinds.{opener_some, opening_of_lem, by_opening}
use Rattle.paper.proofs.ReadValues.{ReadValue, value_reads, value_of_leaf, value_of_deep, value_of_empty, value_of_items, begun}
use Rattle.paper.proofs.ReadValues.{more_of_end, more_of_close, more_of_comma, more_of_other}
use Rattle.text.proofs.Places.{here, place_back}
use Rattle.text.proofs.Answers.{FoundTo}
use Rattle.text.proofs.Compared.{stands_inside}
use Rattle.text.proofs.Stretch.{Stretch, behind_at}
use Rattle.leaves.specs.declared.judged.Judged.{Judged}
use Rattle.leaves.specs.Shown.{shown_of, Judges}
use Rattle.values.specs.Brackets.{opening_of, form_in}
use Rattle.leaves.proofs.Showing.{finds, no_value, cut_off, refuses, stands, passes}
use Rattle.values.proofs.LabelLaws.{LabelTo}
use Rattle.values.proofs.ItemsFound.{with_more}

-- what is made of something found looks like it, where the forms agree
shown_map : {A B : Type 0} (form : A → ℕ) (formed : B → ℕ) (make : A → B) (s : List ℕ) (x : Found A) → ((a : A) → formed (make a) ≡ form a)
    → shown_of formed s (and_then x (λ a left. found (make a) left)) ≡ shown_of form s x
shown_map form formed make s (found a left) e = rw (e a)
shown_map form formed make s (fault n left) e = refl

-- what is made of an item and of what stands behind it does not show, where all forms are those of its bracket
made_alike : {A B : Type 0} (k : Bracket) (form : A → ℕ) (formed : B → ℕ) (f : Label → Value → More → A) (g : Label → Value → More → B) (s t : List ℕ) (brackets : ℕ)
    → ((a : Label) (v : Value) (more : More) → (form (f a v more) ≡ bracket_form k) × (formed (g a v more) ≡ bracket_form k))
    → shown_of form s (item_and k brackets f t) ≡ shown_of formed s (item_and k brackets g t)
made_alike {A} {B} k form formed f g s t brackets e = by_label (label_of k t)
  where
    by_value : (a : Label) (x : Found Value) → shown_of form s (with_more k brackets (f a) x) ≡ shown_of formed s (with_more k brackets (g a) x)
    by_value a (found v left) =
        shown_map (form_in k) form (f a v) s (more_of k brackets left) (λ more. (e a v more).0)
        ∙ sym (shown_map (form_in k) formed (g a v) s (more_of k brackets left) (λ more. (e a v more).1))
    by_value a (fault n left) = refl

    by_label : (x : Found Label)
        → shown_of {A = A} form s (and_then x (λ a valued. with_more k brackets (f a) (value_of brackets (enders k) valued)))
        ≡ shown_of {A = B} formed s (and_then x (λ a valued. with_more k brackets (g a) (value_of brackets (enders k) valued)))
    by_label (found a valued) = by_value a (value_of brackets (enders k) valued)
    by_label (fault n left) = refl

-- ---- bytes at a place

-- a fixed one
pub byte_at : (b : ℕ) (s : List ℕ) (at : ℕ) → starts_with (b ∷ []) (drop at s) ≡ true → drop at s ≡ b ∷ drop (at + 1) s
byte_at b s at e = starts_is (b ∷ []) (drop at s) e ∙ ap (λ (l : List ℕ). b ∷ l) (drop-drop 1 at s)

-- another one
other_at : (b : ℕ) (s : List ℕ) (at : ℕ) → at < length s → starts_with (b ∷ []) (drop at s) ≡ false → eqb (get_or s at 0) b ≡ false
unfolding starts_with
other_at b s at h e = split (eqb (get_or s at 0) b) (λ k. true_false (rw (here s at h, starts_with, k) at e)) (λ k. k)

-- what begins with a bracket is its opener and what stands behind
opened_is : (t : List ℕ) (k : Bracket) → opens_with t ≡ opens k → t ≡ opener k ++ inside k t
opened_is t k e =
    by_opening t (λ n. let q = sym n ∙ e in absurd (cc))
    (λ j q. let f = sym (ap opens_with q ∙ opening_of_lem j (inside j t)) ∙ e in let same : j ≡ k = cc in rw (sym same) q)

-- what is told of the bracket that something begins with
pub opening_told : (k : Bracket) (x : Opening) → opening_of x ≡ Some k → x ≡ opens k
opening_told k no_bracket e = absurd (cc)
opening_told k (opens j) e = let q : j ≡ k = cc in ap opens q

pub opening_none : (x : Opening) → is_some (opening_of x) ≡ false → x ≡ no_bracket
opening_none no_bracket e = refl
opening_none (opens j) e = true_false e

-- a bracket opens there, and one more may be opened
pub record Opened (k : Bracket) (s : List ℕ) (at brackets fewer : ℕ) : Type 0 where
  pub opens : opens_with (drop at s) ≡ opens k
  pub deeper : brackets ≡ suc fewer

module _ (k : Bracket) (s : List ℕ) (at : ℕ) (o : opens_with (drop at s) ≡ opens k) where
  pub opened_at : drop at s ≡ opener k ++ drop (at + length (opener k)) s
  opened_at = opened_is (drop at s) k o ∙ ap (λ (l : List ℕ). opener k ++ l) (drop-drop (length (opener k)) at s)

  pub opened_in : at + length (opener k) ≤ length s
  opened_in =
      omega (arith, ap length opened_at, length-append (opener k) (drop (at + length (opener k)) s), length-drop at s, opener_some k)

-- twice what is left falls, though a bracket's items stand between
pub fewer_falls : (left fewer bound : ℕ) → left ≡ suc fewer → 2 * left ≡ bound → 2 * fewer + 1 < bound
fewer_falls left fewer bound e h = omega arith

-- ---- the kinds of values

module _ (s : List ℕ) (at brackets : ℕ) (also : List ℕ) where
  -- the value that stands there is read so
  abbrev Valued : Result Judged Refused → Type 0
  Valued r = Judges value_form s at (value_of brackets also (drop at s)) r

  -- no bracket
  pub leaf_value : (r : Result Judged Refused) → opens_with (drop at s) ≡ no_bracket → Judges leaf_form s at (leaf_of also (drop at s)) r → Valued r
  leaf_value r e h =
      let k = shown_map leaf_form value_form leaf s (leaf_of also (drop at s)) (λ v. refl) in
      record { same = h.same ∙ sym (ap (shown_of value_form s) (value_of_leaf brackets also (drop at s) e) ∙ k); ahead = h.ahead; inside = h.inside }

  -- one too many is refused at its byte
  pub deep_value : (k : Bracket) → opens_with (drop at s) ≡ opens k → brackets ≡ 0 → (place : ℕ) → place ≡ at + length (opener k) - 1
      → (e : Refused) → e ≡ refused_at TooDeep place → Valued (Err e)
  deep_value k o z place p e r =
      let first = drop (at + length (opener k)) s in
      let l : place ≤ length s = omega (arith, opened_in k s at o, p) in
      let n : at + (length (opener k) - 1) ≡ place = omega (arith, opener_some k, p) in
      let there : drop (length (opener k) - 1) (opener k ++ first) ≡ drop place s =
      ap (drop (length (opener k) - 1)) (sym (opened_at k s at o)) ∙ drop-drop (length (opener k) - 1) at s ∙ ap (λ (i : ℕ). drop i s) n in
      let q : value_of brackets also (drop at s) ≡ fault 10 (drop place s) =
      ap (λ (i : ℕ). value_of i also (drop at s)) z ∙ ap (value_of 0 also) (opened_at k s at o) ∙ value_of_deep k also first ∙ ap (fault 10) there in
      rw r (refuses value_form s at (value_of brackets also (drop at s)) (refused_at TooDeep place) l (rw (q, place_back s place l)))

  module _ (k : Bracket) (fewer : ℕ) (o : Opened k s at brackets fewer) where
    abbrev first : ℕ
    first = at + length (opener k)

    valued : value_of brackets also (drop at s) ≡ value_of (suc fewer) also (opener k ++ drop first s)
    valued = ap (λ (i : ℕ). value_of i also (drop at s)) o.deeper ∙ ap (value_of (suc fewer) also) (opened_at k s at o.opens)

    -- no item stands in it
    module _ (m : may_be_empty k ≡ true) (e : starts_with (closer k ∷ []) (drop first s) ≡ true) where
      pub empty_found : value_of brackets also (drop at s) ≡ found (empty_bracket k) (drop (first + 1) s)
      empty_found =
          valued
          ∙ ap (λ (l : List ℕ). value_of (suc fewer) also (opener k ++ l)) (byte_at (closer k) s first e)
          ∙ value_of_empty k fewer also (drop (first + 1) s) m

      pub empty_value : (form : Form) → number_of_form form ≡ bracket_form k → Valued (Ok (record { form = form; end = first + 1 }))
      empty_value form f =
          let l : first + 1 ≤ length s = omega (arith, stands_inside (closer k ∷ []) s first e) in
          finds value_form s at (value_of brackets also (drop at s)) _ (empty_bracket k) (omega arith) l (sym f) empty_found

    -- items stand in it
    module _ (e : begun k (drop first s) ≡ true) where
      pub items_found : value_of brackets also (drop at s) ≡ item_and k fewer (bracket k) (drop first s)
      items_found = valued ∙ value_of_items k fewer also (drop first s) e

      pub items_value : (r : Result Judged Refused) → Judges (form_in k) s first (item_and k fewer (bracket k) (drop first s)) r → Valued r
      items_value r h =
          let q = made_alike k value_form (form_in k) (bracket k) (bracket k) s (drop first s) fewer (λ a v more. (refl, refl)) in
          record {
            same = h.same ∙ sym (ap (shown_of value_form s) items_found ∙ q);
            ahead = λ v p. omega (arith, h.ahead v p);
            inside = h.inside;
          }

-- ---- items

module _ (k : Bracket) (s : List ℕ) (i brackets : ℕ) where
  -- the items of a bracket from the one that is due there on are read so
  abbrev Itemed : Result Judged Refused → Type 0
  Itemed r = Judges (form_in k) s i (item_and k brackets (bracket k) (drop i s)) r

  module _ (key value : ℕ) (to : LabelTo k s i key value) (r : Result Judged Refused)
      (h : Judges value_form s value (value_of brackets (enders k) (drop value s)) r) where
    behind_label : item_and k brackets (bracket k) (drop i s) ≡ with_more k brackets (bracket k to.it) (value_of brackets (enders k) (drop value s))
    behind_label = rw to.finds

    pub item_refused : (e : Refused) → r ≡ Err e → Itemed (Err e)
    item_refused e q = passes h (form_in k) i (item_and k brackets (bracket k) (drop i s)) e q (λ left f. behind_label ∙ rw f)

    module _ (v : Judged) (q : r ≡ Ok v) where
      stood : FoundTo (ReadValue brackets (enders k) (drop value s)) s value (value_of brackets (enders k) (drop value s)) v.end
      stood = stands h (ReadValue brackets (enders k) (drop value s)) (value_reads (suc (length (drop value s))) brackets (enders k) (drop value s)) v q

      behind_item : item_and k brackets (bracket k) (drop i s)
          ≡ and_then (more_of k brackets (drop v.end s)) (λ more left. found (bracket k to.it stood.it more) left)
      behind_item = behind_label ∙ rw stood.finds

      pub item_cut : length s ≤ v.end → (e : Refused) → e ≡ refused_at Refusal.Cut (length s) → Itemed (Err e)
      item_cut l e p = cut_off (form_in k) s i (item_and k brackets (bracket k) (drop i s)) e p (behind_item ∙ rw (drop_of_length-le s l, more_of_end k brackets))

      pub item_last : starts_with (closer k ∷ []) (drop v.end s) ≡ true → (form : Form) → number_of_form form ≡ bracket_form k
          → Itemed (Ok (record { form = form; end = v.end + 1 }))
      item_last b form f =
          let l : v.end + 1 ≤ length s = omega (arith, stands_inside (closer k ∷ []) s v.end b) in
          finds (form_in k) s i (item_and k brackets (bracket k) (drop i s)) _ (bracket k to.it stood.it close)
          (omega (arith, h.ahead v q, to.due)) l (sym f)
          (behind_item ∙ rw (byte_at (closer k) s v.end b, more_of_close k brackets (drop (v.end + 1) s)))

      pub item_wrong : v.end < length s → starts_with (closer k ∷ []) (drop v.end s) ≡ false → starts_with (bytes ",") (drop v.end s) ≡ false
          → (e : Refused) → e ≡ refused_at Refusal.Value v.end → Itemed (Err e)
      item_wrong l b c e p =
          let m = more_of_other k brackets (get_or s v.end 0) (drop (v.end + 1) s) (other_at (closer k) s v.end l b) (other_at (byte ",") s v.end l c) in
          no_value (form_in k) s i (item_and k brackets (bracket k) (drop i s)) e v.end p (omega arith) (behind_item ∙ rw (here s v.end l, m))

      -- a comma, white space, and the next item
      pub item_next : starts_with (bytes ",") (drop v.end s) ≡ true → (next : ℕ) → Stretch is_white s (v.end + 1) next
          → shown_of (form_in k) s (item_and k brackets (bracket k) (drop i s)) ≡ shown_of (form_in k) s (item_and k brackets (bracket k) (drop next s))
      item_next b next run =
          let w = front is_white (drop (v.end + 1) s) in
          let m : more_of k brackets (drop v.end s) ≡ item_and k brackets (comma w) (behind is_white (drop (v.end + 1) s)) =
          rw (byte_at (byte ",") s v.end b) (more_of_comma k brackets (drop (v.end + 1) s)) in
          ap (shown_of (form_in k) s) behind_item
          ∙ shown_map (form_in k) (form_in k) (bracket k to.it stood.it) s (more_of k brackets (drop v.end s)) (λ more. refl)
          ∙ ap (shown_of (form_in k) s) (m ∙ ap (item_and k brackets (comma w)) (behind_at is_white s (v.end + 1) next run))
          ∙ made_alike k (form_in k) (form_in k) (comma w) (bracket k) s (drop next s) brackets (λ a v more. (refl, refl))
