-- Brackets: what is known of each kind, so that the facts about items and separators are proved once over the kind. Assumes nothing.
-- Document 02, Five; 001 §19 to §22.
use Prim.Native.Nat.{ℕ, ◌≤◌, ◌<◌}
use mathlib.Core.Path.{◌≡◌, refl, sym, ap, ◌∙◌, subst}
use mathlib.Core.Bool.{Bool, true, false, not, ◌&&◌, ◌||◌}
use mathlib.Core.List.Memᴰ.{head as here}
use mathlib.Core.List.{List, [], ◌∷◌, ◌++◌, Memᴰ as Among}
use native.Mathlib.Omega.{arith}
use lib.ListN.{length}
use lib.Seq.{drop-append_seam}
use lib.Dec.{eqb}
use borrow.Author.Tests.{eqb-true}
use Rattle.paper.specs.declared.brackets.Bracket.{Bracket}
use Rattle.paper.specs.Bytes.{byte, bytes, is_upper, is_lower, is_digit, is_letter, is_name_byte, is_hex, is_white, is_blank, is_line_end, all, elem, starts_in, starts_with, length_in}
use Rattle.paper.specs.Bytes.{front, behind, is, up_to, onward}
use Rattle.paper.specs.Values.{word_form, is_scheme, is_iri, opener, closer, enders, is_ender, Leaf, string, character, backtick, word, temporal, leaf_onto, leaf_rule}
use Rattle.paper.specs.ReadingValues.{no_bracket, opens, opens_with, inside}
use Rattle.paper.proofs.Tests.{split, true_false, apart}
use Rattle.paper.proofs.Lists.{both, all_head, without, starts_is, starts_not, elem_apart}
use Rattle.paper.proofs.WordKinds.{Kind, boolean, integer, decimal, scientific, fraction, pascal, camel, uuid, iri, first_form, by_first, beginning, word_begins}
use Rattle.paper.proofs.WordKinds.{begins_none, begins_no_leaf}
use Rattle.paper.proofs.Leaves.{word_rule, leaf_begins}

-- ---- the bytes of a kind

-- what closes ends a word, begins no value, and is neither ">", a comma nor a letter
pub closer_ends : (k : Bracket) → is_ender (enders k) (closer k) ≡ true
unfolding is_ender is_white is_blank is_line_end elem
closer_ends Bracket.List = refl
closer_ends Bracket.Set = refl
closer_ends Bracket.Map = refl
closer_ends Bracket.Tuple = refl

pub closer_none : (k : Bracket) → elem (closer k) begins_none ≡ true
unfolding elem
closer_none Bracket.List = refl
closer_none Bracket.Set = refl
closer_none Bracket.Map = refl
closer_none Bracket.Tuple = refl

pub closer_greater : (k : Bracket) → eqb (closer k) (byte ">") ≡ false
closer_greater Bracket.List = refl
closer_greater Bracket.Set = refl
closer_greater Bracket.Map = refl
closer_greater Bracket.Tuple = refl

pub closer_comma : (k : Bracket) → eqb (byte ",") (closer k) ≡ false
closer_comma Bracket.List = refl
closer_comma Bracket.Set = refl
closer_comma Bracket.Map = refl
closer_comma Bracket.Tuple = refl

pub closer_name : (k : Bracket) → is_name_byte (closer k) ≡ false
unfolding is_name_byte is_letter is_upper is_lower is_digit
closer_name Bracket.List = refl
closer_name Bracket.Set = refl
closer_name Bracket.Map = refl
closer_name Bracket.Tuple = refl

-- a comma ends a word in each
pub comma_ends : (k : Bracket) → is_ender (enders k) (byte ",") ≡ true
unfolding is_ender is_white is_blank is_line_end elem
comma_ends k = refl

-- what opens has a byte at least, and begins with none that stands behind an item
pub opener_some : (k : Bracket) → 0 < length (opener k)
opener_some Bracket.List = omega arith
opener_some Bracket.Set = omega arith
opener_some Bracket.Map = omega arith
opener_some Bracket.Tuple = omega arith

pub opener_begins : (k : Bracket) (next : List ℕ) → starts_in (without begins_none) (opener k ++ next) ≡ true
unfolding starts_in elem
opener_begins Bracket.List next = refl
opener_begins Bracket.Set next = refl
opener_begins Bracket.Map next = refl
opener_begins Bracket.Tuple next = refl

-- ---- the kind that a value begins with

pub opening_of_lem : (k : Bracket) (l : List ℕ) → opens_with (opener k ++ l) ≡ opens k
unfolding opens_with starts_with
opening_of_lem Bracket.List l = refl
opening_of_lem Bracket.Set l = refl
opening_of_lem Bracket.Map l = refl
opening_of_lem Bracket.Tuple l = refl

pub inside_of : (k : Bracket) (l : List ℕ) → inside k (opener k ++ l) ≡ l
inside_of k l = drop-append_seam (opener k) l

pub by_opening : {X : Type 0} (s : List ℕ) → (opens_with s ≡ no_bracket → X) → ((k : Bracket) → s ≡ opener k ++ inside k s → X) → X
unfolding opens_with
by_opening s none some =
    split (starts_with (opener Bracket.List) s) (λ e. some Bracket.List (starts_is (opener Bracket.List) s e))
    (λ e. split (starts_with (opener Bracket.Set) s) (λ f. some Bracket.Set (starts_is (opener Bracket.Set) s f))
    (λ f. split (starts_with (opener Bracket.Map) s) (λ h. some Bracket.Map (starts_is (opener Bracket.Map) s h))
    (λ h. split (starts_with (opener Bracket.Tuple) s) (λ g. some Bracket.Tuple (starts_is (opener Bracket.Tuple) s g))
    (λ g. none (rw (e, f, h, g) refl)))))

-- ---- no other value begins with one

not_first : (class : ℕ → Bool) (p : ℕ) (ps w : List ℕ) → starts_in class w ≡ true → class p ≡ false → starts_with (p ∷ ps) w ≡ false
unfolding starts_with starts_in
not_first class p ps [] e f = refl
not_first class p ps (b ∷ w) e f = rw (apart class b p e f, starts_with)

abbrev no_colon : ℕ → Bool
no_colon b = not (is (byte ":") b)

abbrev scheme_byte : ℕ → Bool
scheme_byte b = is_name_byte b || elem b (bytes "+-.")

-- one byte of a class further
front_on : (class : ℕ → Bool) (b : ℕ) (l : List ℕ) → class b ≡ true → front class (b ∷ l) ≡ b ∷ front class l
unfolding length_in
front_on class b l e = rw (e, length_in)

behind_on : (class : ℕ → Bool) (b : ℕ) (l : List ℕ) → class b ≡ true → behind class (b ∷ l) ≡ behind class l
unfolding length_in
behind_on class b l e = rw (e, length_in)

nothing_behind : {X : Type 0} → starts_in (is (byte ":")) (behind no_colon []) ≡ true → X
unfolding starts_in length_in
nothing_behind e = true_false (sym e)

-- a scheme and its colon do not begin with letters and a byte that is in neither
no_scheme : (p : List ℕ) (c : ℕ) (w next : List ℕ) → all no_colon p ≡ true → scheme_byte c ≡ false → no_colon c ≡ true → all scheme_byte (front no_colon w) ≡ true
    → starts_in (is (byte ":")) (behind no_colon w) ≡ true → starts_with (p ++ (c ∷ [])) (w ++ next) ≡ false
unfolding starts_with
no_scheme p c [] next a n o s d = nothing_behind d
no_scheme [] c (b ∷ w) next a n o s d =
    split (eqb b c)
    (λ e. let q = eqb-true b c e in
    let f = subst (λ (x : ℕ). all scheme_byte (front no_colon (x ∷ w)) ≡ true) q s in
    true_false (sym (all_head scheme_byte c (front no_colon w) (subst (λ (x : List ℕ). all scheme_byte x ≡ true) (front_on no_colon c w o) f)).0 ∙ n))
    (λ e. rw (e, starts_with))
no_scheme (x ∷ p) c (b ∷ w) next a n o s d =
    let h = all_head no_colon x p a in
    split (eqb b x)
    (λ e. let f : no_colon b ≡ true = subst (λ (y : ℕ). no_colon y ≡ true) (sym (eqb-true b x e)) h.0 in
    let g = (all_head scheme_byte b (front no_colon w) (subst (λ (y : List ℕ). all scheme_byte y ≡ true) (front_on no_colon b w f) s)).1 in
    rw (e, starts_with) (no_scheme p c w next h.1 n o g (subst (λ (y : List ℕ). starts_in (is (byte ":")) y ≡ true) (behind_on no_colon b w f) d)))
    (λ e. rw (e, starts_with))

-- the first letters of "set" and "map"
abbrev initials : List ℕ
initials = bytes "sm"

-- of the kinds of words only IRIs begin with one of these
only_iri : (b : ℕ) → elem b initials ≡ true → (k : Kind) → beginning k b ≡ true → Among k (iri ∷ [])
unfolding elem all is_digit is_hex is_upper is_lower
only_iri b e k f = go k f
  where
    none : (k : Kind) → all (λ c. not (beginning k c)) initials ≡ true → beginning k b ≡ true → Among k (iri ∷ [])
    none k a f = true_false (sym e ∙ elem_apart (beginning k) b initials f a)

    go : (k : Kind) → beginning k b ≡ true → Among k (iri ∷ [])
    go boolean = none boolean refl
    go integer = none integer refl
    go decimal = none decimal refl
    go scientific = none scientific refl
    go fraction = none fraction refl
    go pascal = none pascal refl
    go camel = none camel refl
    go uuid = none uuid refl
    go iri = λ g. here refl

initial_iri : (b : ℕ) (w : List ℕ) → elem b initials ≡ true → 1 ≤ word_form (b ∷ w) → is_iri (b ∷ w) ≡ true
unfolding first_form
initial_iri b w e h =
    split (is_iri (b ∷ w)) (λ f. f)
    (λ f. let none : first_form (iri ∷ []) (b ∷ w) ≡ 0 = rw f refl in absurd (omega (arith, h, by_first (iri ∷ []) b w (only_iri b e), none)))

-- an opener of letters and a bracket byte
module _ (b : ℕ) (ps : List ℕ) (i : elem b initials ≡ true) (a : all no_colon (b ∷ ps) ≡ true) where
  iri_no_opener : (w next : List ℕ) → is_iri w ≡ true → starts_with (b ∷ (ps ++ (byte "[" ∷ []))) (w ++ next) ≡ false
  unfolding is_iri is_scheme elem is_name_byte is_letter is_digit is_upper is_lower
  iri_no_opener w next e =
      let h = both (is_scheme (up_to (is (byte ":")) w) && starts_in (is (byte ":")) (onward (is (byte ":")) w)) _ e in
      let g = both (is_scheme (up_to (is (byte ":")) w)) _ h.0 in
      no_scheme (b ∷ ps) (byte "[") w next a refl refl (both (starts_in is_letter (up_to (is (byte ":")) w)) _ g.0).1 g.1

  word_no_opener : (w next : List ℕ) → 1 ≤ word_form w → starts_with (b ∷ (ps ++ (byte "[" ∷ []))) (w ++ next) ≡ false
  unfolding starts_with starts_in
  word_no_opener [] next h = true_false (sym (word_begins [] h))
  word_no_opener (x ∷ w) next h =
      split (eqb x b)
      (λ e. let q = eqb-true x b e in iri_no_opener (x ∷ w) next (initial_iri x w (subst (λ (y : ℕ). elem y initials ≡ true) (sym q) i) h))
      (λ e. rw (e, starts_with))

  leaf_no_opener : (also : List ℕ) (v : Leaf) (next : List ℕ) → leaf_rule also v ≡ true → starts_with (b ∷ (ps ++ (byte "[" ∷ []))) (leaf_onto v next) ≡ false
  unfolding leaf_onto starts_in elem
  leaf_no_opener also (string ps) next r = not_first (without initials) b _ _ refl (ap not i)
  leaf_no_opener also (character ps) next r = not_first (without initials) b _ _ refl (ap not i)
  leaf_no_opener also (backtick ps) next r = not_first (without initials) b _ _ refl (ap not i)
  leaf_no_opener also (word form w) next r = let h = word_rule also form w r in word_no_opener w next (omega arith)
  leaf_no_opener also (temporal kind w) next r = not_first (without initials) b _ _ refl (ap not i)

pub no_bracket_lem : (also : List ℕ) (v : Leaf) (next : List ℕ) → leaf_rule also v ≡ true → opens_with (leaf_onto v next) ≡ no_bracket
unfolding opens_with elem all
no_bracket_lem also v next r =
    let b = leaf_begins also v next r in
    rw (
      starts_not (without begins_no_leaf) (byte "[") (leaf_onto v next) b refl,
      leaf_no_opener (byte "s") (bytes "et") refl refl also v next r,
      leaf_no_opener (byte "m") (bytes "ap") refl refl also v next r,
      starts_not (without begins_no_leaf) (byte "(") (leaf_onto v next) b refl,
    )
    refl
