-- Labels: what stands before an item, a map's key or nothing. What is read of one is what is spelt. Assumes nothing.
-- Document 02, Five; 001 §21.
use Prim.Native.Nat.{ℕ}
use mathlib.Core.Path.{◌≡◌, refl, sym, ap, ◌∙◌, subst}
use mathlib.Core.Bool.{Bool, true, false, not, ◌&&◌}
use mathlib.Core.List.{List, [], ◌∷◌, ◌++◌, append-nil, append_assoc}
use native.Mathlib.Omega.{arith}
use lib.ListN.{take-append-drop}
use lib.Seq.{take-append_seam, drop-append_seam}
use lib.Dec.{leb, eqb}
use borrow.Author.Tests.{eqb-true, eq-eqb, not-true, leb-true}
use Rattle.paper.specs.declared.brackets.Bracket.{Bracket}
use Rattle.paper.specs.Found.{Found, found, fault, and_then, pick}
use Rattle.paper.specs.Bytes.{byte, bytes, is_upper, is_lower, is_digit, is_letter, is_name_byte, is_white, is_blank, is_line_end, all, elem, starts_in, length_in}
use Rattle.paper.specs.Values.{is_ender, ends_word, word_form, keyed, key_enders, closer, is_bare, is_key_form, is_key_leaf, Key, bare_key, leaf_key, Label, no_label, label}
use Rattle.paper.specs.Values.{key_onto, label_onto, key_rule, label_rule, Leaf, string, character, backtick, word, temporal, leaf_onto, leaf_rule}
use Rattle.paper.specs.ReadingValues.{word_length, leaf_of, key_word, key_of, at_start, colon, label_of}
use Rattle.paper.proofs.Tests.{split, true_false, apart, either}
use Rattle.paper.proofs.Finds.{whole, past, tail_of, tail_end, tail_drop, faults, Reads, reads_map, reads_then}
use Rattle.paper.proofs.Lists.{both, and, elem_apart, all_weaken, is_not, elem_more, without, without_less, starts_weaken, starts_append, starts_off, front_of}
use Rattle.paper.proofs.Lists.{behind_of, front_all, front_behind}
use Rattle.paper.proofs.Words.{Cut, word_cut, word_only}
use Rattle.paper.proofs.WordKinds.{Kind, boolean, integer, decimal, scientific, fraction, pascal, camel, uuid, iri, kinds, fits, form_of, by_kind, word_form_lem}
use Rattle.paper.proofs.WordKinds.{beginning, digit_or, kind_first, word_begins, begins_none, begins_no_leaf, begins_no_word}
use Rattle.paper.proofs.Leaves.{leaf_append, ReadLeaf, Follows, leaf_reads, leaf_begins, leaf_back, word_rule}
use Rattle.paper.proofs.BracketKinds.{closer_name}

-- ---- the spelling in front of what follows

pub key_append : (key : Key) (next : List ℕ) → key_onto key next ≡ key_onto key [] ++ next
unfolding key_onto
key_append (bare_key w) next = ap (λ (l : List ℕ). l ++ next) (sym (append-nil w))
key_append (leaf_key v) next = leaf_append v next

pub label_append : (a : Label) (next : List ℕ) → label_onto a next ≡ label_onto a [] ++ next
unfolding label_onto
label_append no_label next = refl
label_append (label key white) next =
    key_append key (byte ":" ∷ (white ++ next))
    ∙ sym (append_assoc (key_onto key []) (byte ":" ∷ white) next)
    ∙ ap (λ (l : List ℕ). l ++ next) (sym (key_append key (byte ":" ∷ white)) ∙ ap (λ (w : List ℕ). key_onto key (byte ":" ∷ w)) (sym (append-nil white)))

-- the rule of a label that has a key, taken apart
pub label_parts : (k : Bracket) (key : Key) (white : List ℕ) → label_rule k (label key white) ≡ true
    → (keyed k ≡ true) × (key_rule (key_enders k) key ≡ true) × (all is_white white ≡ true)
unfolding label_rule
label_parts k key white r =
    let h = both (keyed k && key_rule (key_enders k) key) (all is_white white) r in
    let g = both (keyed k) (key_rule (key_enders k) key) h.0 in
    (g.0, g.1, h.1)

-- ---- what is read

pub record ReadKey (also s : List ℕ) (key : Key) (left : List ℕ) : Type 0 where
  pub covers : s ≡ key_onto key left
  pub rule : key_rule also key ≡ true

pub record ReadLabel (k : Bracket) (s : List ℕ) (a : Label) (left : List ℕ) : Type 0 where
  pub covers : s ≡ label_onto a left
  pub rule : label_rule k a ≡ true

-- a form that a key may have is one
pub key_form_lem : (form : ℕ) → is_key_form form ≡ true → leb 1 form ≡ true
unfolding is_key_form
key_form_lem form e = either (eqb form 4) (eqb form 8) e (λ f. rw (eqb-true form 4 f)) (λ f. rw (eqb-true form 8 f))

word_reads : (also s w left : List ℕ) → s ≡ w ++ left → Cut also w left → Reads s (ReadKey also s) (key_word s w left)
unfolding key_word key_onto key_rule leaf_onto leaf_rule
word_reads also s w [] c h = faults 9 (omega arith) (tail_end s)
word_reads also s w (b ∷ l) c h =
    split (is_bare w) (λ e. rw (e, key_word, Reads) (tail_of w c, record { covers = c; rule = e }))
    (λ e. split (is_key_form (word_form w))
    (λ f. rw (e, key_word, f, Reads) (tail_of w c, record { covers = c; rule = and f (and (and (eq-eqb (word_form w) (word_form w) refl) (key_form_lem (word_form w) f)) h.plain) }))
    (λ f. rw (e, key_word, f, Reads) (faults 6 (omega arith) whole)))

-- what strings and characters stand between
abbrev pub quotes : List ℕ
quotes = bytes "\"'"

no_quote : (b : ℕ) → without begins_no_word b ≡ true → without quotes b ≡ true
unfolding elem
no_quote b e = split (elem b quotes) (λ g. true_false (sym e ∙ ap not (elem_more b quotes (byte "`" ∷ byte "{" ∷ begins_no_leaf) g))) (λ g. is_not g)

-- a value that begins with a quote or an apostrophe may be a key
quoted_leaf : (also : List ℕ) (v : Leaf) (b : ℕ) (l left : List ℕ) → elem b quotes ≡ true → b ∷ l ≡ leaf_onto v left → leaf_rule also v ≡ true → is_key_leaf v ≡ true
unfolding leaf_onto starts_in elem
quoted_leaf also v b l left e c r = go v c r
  where
    other : (v : Leaf) → b ∷ l ≡ leaf_onto v left → starts_in (without quotes) (leaf_onto v left) ≡ true → is_key_leaf v ≡ true
    other v c h = true_false (sym (subst (λ (x : List ℕ). starts_in (without quotes) x ≡ true) (sym c) h) ∙ ap not e)

    go : (v : Leaf) → b ∷ l ≡ leaf_onto v left → leaf_rule also v ≡ true → is_key_leaf v ≡ true
    go (string ps) c r = refl
    go (character ps) c r = refl
    go (backtick ps) c r = other (backtick ps) c refl
    go (temporal kind w) c r = other (temporal kind w) c refl
    go (word form w) c r =
        let n = word_rule also form w r in
        other (word form w) c (starts_append _ w left (starts_weaken _ _ no_quote w (word_begins w (omega arith))))

at_start_lem : {A : Type 0} (s : List ℕ) (P : A → List ℕ → Type 0) (x : Found A) → Reads s P x → Reads s P (at_start s x)
at_start_lem s P (found a left) h = h
at_start_lem s P (fault n left) h = split (eqb n 6) (λ f. rw f (record { least = h.least; most = h.most; tail = whole })) (λ f. rw f h)

pub key_reads : (also s : List ℕ) → Reads s (ReadKey also s) (key_of also s)
unfolding key_of key_onto key_rule
key_reads also [] = faults 9 (omega arith) whole
key_reads also (b ∷ l) =
    split (elem b quotes)
    (λ e. rw (e, key_of) (at_start_lem (b ∷ l) (ReadKey also (b ∷ l)) (and_then (leaf_of also (b ∷ l)) (λ v left. found (leaf_key v) left))
    (reads_map (b ∷ l) (ReadLeaf also (b ∷ l)) (ReadKey also (b ∷ l)) leaf_key (leaf_of also (b ∷ l)) (leaf_reads also (b ∷ l))
    (λ v left h. record { covers = h.covers; rule = and (quoted_leaf also v b l left e h.covers h.rule) h.rule }))))
    (λ e. rw (e, key_of) (word_reads also (b ∷ l) _ _ (sym (take-append-drop (word_length also (b ∷ l)) (b ∷ l))) (word_cut also (b ∷ l))))

-- a bad key is at its start, whatever its fault
at_start_place : {A : Type 0} (s : List ℕ) (x : Found A) (left : List ℕ) → at_start s x ≡ fault 6 left → left ≡ s
at_start_place s (found a mid) left e = let z : true ≡ false = cc in true_false z
at_start_place s (fault n mid) left e =
    let six : n ≡ 6 = cc in
    let here : pick (eqb n 6) s mid ≡ left = cc in
    sym here ∙ rw six refl

word_place : (s w rest left : List ℕ) → key_word s w rest ≡ fault 6 left → left ≡ s
unfolding key_word
word_place s w [] left e = let z : ◌≡◌ {A = ℕ} 9 6 = cc in absurd (omega arith)
word_place s w (b ∷ l) left e =
    split (is_bare w) (λ f. let g = rw (f, key_word) at e in let z : true ≡ false = cc in true_false z)
    (λ f. split (is_key_form (word_form w)) (λ h. let g = rw (f, key_word, h) at e in let z : true ≡ false = cc in true_false z)
    (λ h. let g = rw (f, key_word, h) at e in let q : s ≡ left = cc in sym q))

pub key_place : (also s left : List ℕ) → key_of also s ≡ fault 6 left → left ≡ s
unfolding key_of
key_place also [] left e = let z : ◌≡◌ {A = ℕ} 9 6 = cc in absurd (omega arith)
key_place also (b ∷ l) left e =
    split (elem b quotes) (λ f. at_start_place (b ∷ l) (and_then (leaf_of also (b ∷ l)) (λ v mid. found (leaf_key v) mid)) left (rw (f, key_of) at e))
    (λ f. word_place (b ∷ l) _ _ left (rw (f, key_of) at e))

colon_reads : (k : Bracket) (s : List ℕ) (key : Key) (left : List ℕ) → keyed k ≡ true → ReadKey (key_enders k) s key left → Reads left (ReadLabel k s) (colon key left)
unfolding colon label_onto label_rule
colon_reads k s key [] y h = faults 9 (omega arith) whole
colon_reads k s key (b ∷ l) y h =
    split (eqb b (byte ":"))
    (λ e. rw (e, colon, Reads) (
      past (tail_drop (length_in is_white l) l),
      record {
        covers = h.covers ∙ ap (key_onto key) (ap (λ (x : ℕ). x ∷ l) (eqb-true b (byte ":") e) ∙ ap (λ (x : List ℕ). byte ":" ∷ x) (sym (front_behind is_white l)));
        rule = and (and y h.rule) (front_all is_white l);
      },
    ))
    (λ e. rw (e, colon, Reads) (faults 6 (omega arith) whole))

pub label_reads : (k : Bracket) (s : List ℕ) → Reads s (ReadLabel k s) (label_of k s)
unfolding label_of label_onto label_rule
label_reads k s =
    split (keyed k)
    (λ e. rw (e, label_of) (reads_then s (ReadKey (key_enders k) s) (ReadLabel k s) colon (key_of (key_enders k) s) (key_reads (key_enders k) s)
    (λ key left h. colon_reads k s key left e h)))
    (λ e. rw (e, label_of, Reads) (whole, record { covers = refl; rule = is_not e }))

-- the label of a map's item is a key and its colon, and those of other items are none
pub label_keyed : (k : Bracket) (s : List ℕ) → keyed k ≡ true → label_of k s ≡ and_then (key_of (key_enders k) s) colon
unfolding label_of
label_keyed k s e = rw (e, label_of)

pub label_none : (k : Bracket) (s : List ℕ) → keyed k ≡ false → label_of k s ≡ found no_label s
unfolding label_of
label_none k s e = rw (e, label_of)

pub colon_due : (key : Key) (b : ℕ) (l : List ℕ) → eqb b (byte ":") ≡ false → colon key (b ∷ l) ≡ fault 6 (b ∷ l)
unfolding colon
colon_due key b l e = rw (e, colon)

-- ---- how a label begins

lower_begins : (b : ℕ) → is_lower b ≡ true → without begins_none b ≡ true
unfolding elem is_lower all
lower_begins b e = is_not (elem_apart is_lower b begins_none e refl)

key_begins : (also : List ℕ) (key : Key) (next : List ℕ) → key_rule also key ≡ true → starts_in (without begins_none) (key_onto key next) ≡ true
unfolding key_rule key_onto is_bare
key_begins also (bare_key w) next r = starts_append _ w next (starts_weaken _ _ lower_begins w (both (starts_in is_lower w) _ r).0)
key_begins also (leaf_key v) next r =
    starts_weaken _ _ (without_less (bytes "[(") begins_none) (leaf_onto v next) (leaf_begins also v next (both (is_key_leaf v) _ r).1)

pub label_begins : (k : Bracket) (a : Label) (next : List ℕ) → label_rule k a ≡ true → starts_in (without begins_none) next ≡ true
    → starts_in (without begins_none) (label_onto a next) ≡ true
unfolding label_onto label_rule
label_begins k no_label next r e = e
label_begins k (label key white) next r e = key_begins (key_enders k) key _ (label_parts k key white r).1

-- ---- a spelt label is read back

colon_cut : (k : Bracket) (w next : List ℕ) → all (λ b. not (is_ender (key_enders k) b)) w ≡ true → Cut (key_enders k) w (byte ":" ∷ next)
unfolding ends_word is_ender is_white is_blank is_line_end elem starts_in
colon_cut k w next p = record { plain = p; ends = refl; slash = λ z. refl }

-- letters and digits end no key
pub name_key_plain : (k : Bracket) (b : ℕ) → is_name_byte b ≡ true → not (is_ender (key_enders k) b) ≡ true
unfolding is_ender is_white is_blank is_line_end elem is_name_byte is_letter is_upper is_lower is_digit
name_key_plain k b e =
    let not : (c : ℕ) → is_name_byte c ≡ false → eqb b c ≡ false = λ c f. apart is_name_byte b c e f in
    rw (not 32 refl, not 9 refl, not 10 refl, not 13 refl, not (byte ">") refl, not (byte ":") refl, not (byte ",") refl, not (closer k) (closer_name k)) refl

key_word_back : (k : Bracket) (w next : List ℕ) → starts_in (without quotes) w ≡ true → all (λ b. not (is_ender (key_enders k) b)) w ≡ true
    → key_of (key_enders k) (w ++ (byte ":" ∷ next)) ≡ key_word (w ++ (byte ":" ∷ next)) w (byte ":" ∷ next)
unfolding key_of starts_in
key_word_back k [] next e p = true_false (sym e)
key_word_back k (b ∷ w) next e p =
    let n = word_only (key_enders k) (b ∷ w) (byte ":" ∷ next) (colon_cut k (b ∷ w) next p) in
    rw (not-true (elem b quotes) e, key_of) (rw n (rw (take-append_seam (b ∷ w) (byte ":" ∷ next), drop-append_seam (b ∷ w) (byte ":" ∷ next)) refl))

digit_lower : (b : ℕ) → digit_or (bytes "+-") b ≡ true → is_lower b ≡ false
unfolding is_digit is_lower elem all
digit_lower b e =
    split (is_lower b)
    (λ f. let g = both (leb 0x61 b) (leb b 0x7A) f in
    either (is_digit b) (elem b (bytes "+-")) e
    (λ d. let h = both (leb 0x30 b) (leb b 0x39) d in absurd (omega (arith, leb-true 0x61 b g.0, leb-true b 0x39 h.1)))
    (λ d. true_false (sym d ∙ elem_apart is_lower b (bytes "+-") f refl)))
    (λ f. f)

dollar_lower : (b : ℕ) → eqb b (byte "$") ≡ true → is_lower b ≡ false
unfolding is_lower
dollar_lower b e = rw (eqb-true b (byte "$") e) refl

kind_lower : (k : Kind) (w : List ℕ) → fits k w ≡ true → is_key_form (form_of k) ≡ true → starts_in is_lower w ≡ false
unfolding is_key_form
kind_lower boolean w e r = true_false (sym r)
kind_lower integer w e r = starts_off (beginning integer) is_lower digit_lower w (kind_first integer w e)
kind_lower decimal w e r = true_false (sym r)
kind_lower scientific w e r = true_false (sym r)
kind_lower fraction w e r = true_false (sym r)
kind_lower pascal w e r = starts_off (beginning pascal) is_lower dollar_lower w (kind_first pascal w e)
kind_lower camel w e r = true_false (sym r)
kind_lower uuid w e r = true_false (sym r)
kind_lower iri w e r = true_false (sym r)

not_bare : (w : List ℕ) → is_key_form (word_form w) ≡ true → is_bare w ≡ false
unfolding is_bare is_key_form
not_bare w r =
    by_kind kinds w (λ k e q. rw (kind_lower k w e (subst (λ (n : ℕ). is_key_form n ≡ true) (word_form_lem w ∙ q) r)) refl)
    (λ z. true_false (sym (subst (λ (n : ℕ). is_key_form n ≡ true) (word_form_lem w ∙ z) r)))

lower_quote : (b : ℕ) → is_lower b ≡ true → without quotes b ≡ true
unfolding elem is_lower all
lower_quote b e = is_not (elem_apart is_lower b quotes e refl)

quoted_found : (also s : List ℕ) (v : Leaf) (next : List ℕ) → starts_in (λ b. elem b quotes) s ≡ true → leaf_of also s ≡ found v next → key_of also s ≡ found (leaf_key v) next
unfolding key_of starts_in
quoted_found also [] v next e f = true_false (sym e)
quoted_found also (b ∷ l) v next e f = rw (e, key_of) (rw f refl)

-- a colon may follow any value
follows_colon : (k : Bracket) (in_slash : Bool) (next : List ℕ) → Follows (key_enders k) in_slash (byte ":" ∷ next)
unfolding ends_word is_ender is_white is_blank is_line_end elem starts_in
follows_colon k in_slash next = record { ends = refl; some = omega arith; slash = λ z. refl }

key_back : (k : Bracket) (key : Key) (next : List ℕ) → key_rule (key_enders k) key ≡ true
    → key_of (key_enders k) (key_onto key (byte ":" ∷ next)) ≡ found key (byte ":" ∷ next)
unfolding key_rule key_onto is_bare key_word leaf_onto leaf_rule starts_in elem
key_back k (bare_key w) next r =
    let h = both (starts_in is_lower w) (all is_name_byte w) r in
    key_word_back k w next (starts_weaken _ _ lower_quote w h.0) (all_weaken _ _ (name_key_plain k) w h.1) ∙ rw (r, key_word) refl
key_back k (leaf_key (string ps)) next r =
    quoted_found (key_enders k) _ (string ps) _ refl (leaf_back (key_enders k) (string ps) (byte ":" ∷ next) r (follows_colon k _ next))
key_back k (leaf_key (character ps)) next r =
    quoted_found (key_enders k) _ (character ps) _ refl (leaf_back (key_enders k) (character ps) (byte ":" ∷ next) r (follows_colon k _ next))
key_back k (leaf_key (backtick ps)) next r = true_false (sym r)
key_back k (leaf_key (temporal kind w)) next r = true_false (sym r)
key_back k (leaf_key (word form w)) next r =
    let h = both (is_key_form form) _ r in
    let n = word_rule (key_enders k) form w h.1 in
    let q : word_form w ≡ form = eqb-true (word_form w) form (both (eqb (word_form w) form) _ (both (eqb (word_form w) form && leb 1 form) _ h.1).0).0 in
    let y : is_key_form (word_form w) ≡ true = subst (λ (x : ℕ). is_key_form x ≡ true) (sym q) h.0 in
    key_word_back k w next (starts_weaken _ _ no_quote w (word_begins w (omega arith))) n.plain
    ∙ rw (not_bare w y, key_word, y) (ap (λ (x : ℕ). found (leaf_key (word x w)) (byte ":" ∷ next)) q)

pub label_back : (k : Bracket) (a : Label) (next : List ℕ) → label_rule k a ≡ true → starts_in is_white next ≡ false → label_of k (label_onto a next) ≡ found a next
unfolding label_of label_onto label_rule colon
label_back k no_label next r e = rw (not-true (keyed k) r, label_of) refl
label_back k (label key white) next r e =
    let p = label_parts k key white r in
    rw (p.0, label_of) (rw (key_back k key (white ++ next) p.1) (rw (front_of is_white white next p.2 e, behind_of is_white white next p.2 e) refl))
