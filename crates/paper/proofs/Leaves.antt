-- Values that hold no items: what is read of them is what is spelt. Document 01, "The grammar", Values. Assumes nothing.
use Prim.Native.Nat.{ℕ, ◌≤◌, ◌<◌}
use mathlib.Core.Path.{◌≡◌, refl, sym, ap, ◌∙◌}
use mathlib.Core.Bool.{Bool, true, false, not, ◌&&◌}
use mathlib.Core.List.{List, [], ◌∷◌, ◌++◌, map, append-nil, append_assoc}
use mathlib.Core.Option.{none, some}
use native.Mathlib.Omega.{arith}
use lib.ListN.{length, take, drop, take-append-drop}
use lib.Seq.{take-append_seam, drop-append_seam}
use lib.Dec.{leb, eqb}
use borrow.Author.Tests.{leb-true, le-leb, eqb-true, eq-eqb, ne_eqb}
use Rattle.paper.specs.Found.{Found, found, fault, and_then, many_of}
use Rattle.paper.specs.Bytes.{byte, bytes, all, elem, starts_in, front, onward, scalar, encode, is, is_name_byte, is_letter, is_upper, is_lower, is_digit}
use Rattle.paper.specs.Values.{Piece, direct, escaped, four, braces, piece_onto, pieces_onto, piece_rule, one_scalar, word_form, is_ender, ends_word, ends_in_slash}
use Rattle.paper.specs.Values.{Leaf, string, character, backtick, word, temporal, leaf_onto, leaf_rule, leaf_in_slash}
use Rattle.paper.specs.ReadingValues.{escape, closes, escapes, breaks, itself, inside_of, piece_turn, close_character, character_of, backtick_turn, word_length, word_of}
use Rattle.paper.specs.Times.{TimeKind, is_of, time_kind}
use Rattle.paper.specs.ReadingValues.{word_leaf, temporal_of, temporal_leaf, other, first_of, leaf_of}
use Rattle.paper.proofs.Tests.{split, true_false, apart, up_to}
use Rattle.paper.proofs.Finds.{whole, past, tail_of, tail_drop, tail_end, faults, Reads, reads_in, reads_then, reads_map}
use Rattle.paper.proofs.Lists.{both, and, by_front, all_nil, all_cons, all_head, front_of, behind_of, marked, without, without_less, starts_weaken, starts_append, empty_is}
use Rattle.paper.proofs.Scalars.{scalar_sound, scalar_encode}
use Rattle.paper.proofs.Pieces.{pieces_append, Stood, escape_reads, letter_back, four_back, braces_back, inside_itself, by_inside, Quoted, pieces_read, pieces_back}
use Rattle.paper.proofs.Pieces.{Ticked, ticks_read, ticks_back, direct_onto, scalar_rule, scalar_one, one_scalar_lem, one_escape}
use Rattle.paper.proofs.Words.{word_cut, word_only}
use Rattle.paper.proofs.WordKinds.{begins_no_leaf, begins_no_word, word_begins}
use Rattle.paper.proofs.TimeKinds.{inside_free, by_time_kind, kind_of_lem}

-- ---- the spelling in front of what follows

quoted_append : (q : ℕ) (ps : List Piece) (next : List ℕ) → q ∷ pieces_onto ps (q ∷ next) ≡ (q ∷ pieces_onto ps (q ∷ [])) ++ next
quoted_append q ps next = rw (pieces_append ps (q ∷ next), pieces_append ps (q ∷ []), append_assoc (pieces_onto ps []) (q ∷ []) next)

pub leaf_append : (v : Leaf) (next : List ℕ) → leaf_onto v next ≡ leaf_onto v [] ++ next
unfolding leaf_onto
leaf_append (string ps) next = quoted_append (byte "\"") ps next
leaf_append (character ps) next = quoted_append (byte "'") ps next
leaf_append (backtick ps) next = quoted_append (byte "`") ps next
leaf_append (word form w) next = rw (append-nil w)
leaf_append (temporal kind w) next = rw (append_assoc w (byte "}" ∷ []) next)

-- ---- what is read, and what may follow

-- the value stood in front, keeps the rule, and is not cut before "/>"
pub record ReadLeaf (also s : List ℕ) (v : Leaf) (left : List ℕ) : Type 0 where
  pub covers : s ≡ leaf_onto v left
  pub rule : leaf_rule also v ≡ true
  pub slash : leaf_in_slash v ≡ true → starts_in (is (byte ">")) left ≡ false

-- what may follow a value, of which it is known whether it ends in "/"
pub record Follows (also : List ℕ) (in_slash : Bool) (next : List ℕ) : Type 0 where
  pub ends : ends_word also next ≡ true
  pub some : 0 < length next
  pub slash : in_slash ≡ true → starts_in (is (byte ">")) next ≡ false

-- ---- characters

-- the closing quote: cut by the end of input, there, or another byte
module _ (ps : List Piece) where
  pub close_end : close_character ps [] ≡ fault 9 []
  unfolding close_character
  close_end = refl

  pub close_there : (l : List ℕ) → close_character ps (byte "'" ∷ l) ≡ found (character ps) l
  unfolding close_character
  close_there l = refl

  pub close_not : (b : ℕ) (l : List ℕ) → eqb b (byte "'") ≡ false → close_character ps (b ∷ l) ≡ fault 6 (b ∷ l)
  unfolding close_character
  close_not b l e = rw (e, close_character)

pub character_end : character_of [] ≡ fault 9 []
unfolding character_of
character_end = refl

-- what stands behind the opening quote, by what its first byte is
module _ (b : ℕ) (l : List ℕ) where
  pub character_closes : inside_of (byte "'") b ≡ closes → character_of (b ∷ l) ≡ fault 6 (b ∷ l)
  unfolding character_of
  character_closes e = rw (e, character_of)

  pub character_breaks : inside_of (byte "'") b ≡ breaks → character_of (b ∷ l) ≡ fault 6 (b ∷ l)
  unfolding character_of
  character_breaks e = rw (e, character_of)

  pub character_escapes : inside_of (byte "'") b ≡ escapes → character_of (b ∷ l) ≡ and_then (escape (byte "'") (b ∷ l) l) (λ p left. close_character (p ∷ []) left)
  unfolding character_of
  character_escapes e = rw (e, character_of)

  pub character_itself : (v : ℕ) (left : List ℕ) → inside_of (byte "'") b ≡ itself → scalar (b ∷ l) ≡ found v left
      → character_of (b ∷ l) ≡ close_character (map direct (encode v)) left
  unfolding character_of
  character_itself v left e f = rw (e, character_of, f)

  pub character_broken : (n : ℕ) (left : List ℕ) → inside_of (byte "'") b ≡ itself → scalar (b ∷ l) ≡ fault n left → character_of (b ∷ l) ≡ fault 6 (b ∷ l)
  unfolding character_of
  character_broken n left e f = rw (e, character_of, f)

module _ (also l : List ℕ) where
  close_reads : (ps : List Piece) (mid : List ℕ) → l ≡ pieces_onto ps mid → all (piece_rule (byte "'")) ps ≡ true → one_scalar ps ≡ true
      → Reads mid (ReadLeaf also (byte "'" ∷ l)) (close_character ps mid)
  unfolding close_character leaf_onto leaf_rule
  close_reads ps [] c r o = faults 9 (omega arith) whole
  close_reads ps (b ∷ mid) c r o =
      split (eqb b (byte "'"))
      (λ e. rw (eqb-true b (byte "'") e, Reads) (
        past whole,
        record { covers = ap (λ (x : List ℕ). byte "'" ∷ x) (c ∙ rw (eqb-true b (byte "'") e)); rule = and r o; slash = λ z. true_false (sym z) },
      ))
      (λ e. rw (close_not ps b mid e, Reads) (faults 6 (omega arith) whole))

direct_reads : (also : List ℕ) (b : ℕ) (l : List ℕ) → piece_rule (byte "'") (direct b) ≡ true → inside_of (byte "'") b ≡ itself
    → Reads (b ∷ l) (ReadLeaf also (byte "'" ∷ b ∷ l)) (character_of (b ∷ l))
direct_reads also b l r e = go (scalar (b ∷ l)) refl
  where
    go : (x : Found ℕ) → scalar (b ∷ l) ≡ x → Reads (b ∷ l) (ReadLeaf also (byte "'" ∷ b ∷ l)) (character_of (b ∷ l))
    go (found v left) f =
        let h = scalar_sound (b ∷ l) v left f in
        rw (character_itself b l v left e f)
        (reads_in (tail_of (encode v) h.whole) _ (close_character (map direct (encode v)) left)
        (close_reads also (b ∷ l) (map direct (encode v)) left (h.whole ∙ sym (direct_onto (encode v) left))
        (scalar_rule (byte "'") (omega arith) b v l left r h.whole) (scalar_one v h.right)))
    go (fault n left) f = rw (character_broken b l n left e f, Reads) (faults 6 (omega arith) whole)

-- what is read of a character stood there, and keeps the rule
pub character_reads : (also l : List ℕ) → Reads l (ReadLeaf also (byte "'" ∷ l)) (character_of l)
unfolding character_of pieces_onto
character_reads also [] = faults 9 (omega arith) whole
character_reads also (b ∷ l) =
    by_inside (byte "'") b
    (λ q e. rw (character_closes b l e, Reads) (faults 6 (omega arith) whole))
    (λ q e. rw (character_escapes b l e, q)
    (reads_then (byte "\\" ∷ l) (Stood (byte "'") (byte "\\" ∷ l)) (ReadLeaf also (byte "'" ∷ byte "\\" ∷ l)) _ (escape (byte "'") (byte "\\" ∷ l) l)
    (escape_reads (byte "'") l)
    (λ p left h. close_reads also (byte "\\" ∷ l) (p ∷ []) left h.covers (all_cons _ p [] h.rule (all_nil _))
    (one_escape (byte "'") p l left h.covers h.rule))))
    (λ e. rw (character_breaks b l e, Reads) (faults 6 (omega arith) whole))
    (λ r e. direct_reads also b l r e)

escape_on : (p : Piece) (ps : List Piece) (l next : List ℕ) → eqb (length ps) 0 ≡ true → escape (byte "'") (byte "\\" ∷ l) l ≡ found p (pieces_onto ps next)
    → character_of (byte "\\" ∷ l) ≡ close_character (p ∷ ps) next
unfolding inside_of pieces_onto
escape_on p ps l next n e = character_escapes (byte "\\") l refl ∙ rw (e, empty_is ps n)

-- behind one spelt scalar the closing quote is due
pub character_on : (ps : List Piece) (next : List ℕ) → all (piece_rule (byte "'")) ps ≡ true → one_scalar ps ≡ true
    → character_of (pieces_onto ps next) ≡ close_character ps next
unfolding one_scalar pieces_onto piece_onto piece_rule inside_of elem
character_on [] next r o = true_false (sym o)
character_on (direct b ∷ ps) next r o =
    let d = (all_head _ (direct b) ps r).0 in
    one_scalar_lem (byte "'") b ps d o
    (λ v s q. character_itself b _ v next (inside_itself (byte "'") b d)
    (ap (λ (x : List Piece). scalar (pieces_onto x next)) q ∙ rw (direct_onto (encode v) next) (scalar_encode v _ s))
    ∙ rw (← q))
character_on (escaped b ∷ ps) next r o = escape_on (escaped b) ps _ next o (letter_back (byte "'") _ b _ refl (all_head _ (escaped b) ps r).0)
character_on (four digits ∷ ps) next r o = escape_on (four digits) ps _ next o (four_back (byte "'") _ digits _ (all_head _ (four digits) ps r).0)
character_on (braces digits ∷ ps) next r o = escape_on (braces digits) ps _ next o (braces_back (byte "'") _ digits _ (all_head _ (braces digits) ps r).0)

-- a spelt character is read back
pub character_back : (ps : List Piece) (next : List ℕ) → all (piece_rule (byte "'")) ps ≡ true → one_scalar ps ≡ true
    → character_of (pieces_onto ps (byte "'" ∷ next)) ≡ found (character ps) next
character_back ps next r o = character_on ps (byte "'" ∷ next) r o ∙ close_there ps next

-- ---- words

-- a word: cut by the end of input, of no kind, or of one
pub word_end : (s w : List ℕ) → word_of s w [] ≡ fault 9 []
unfolding word_of
word_end s w = refl

module _ (s w : List ℕ) (b : ℕ) (l : List ℕ) where
  pub word_none : word_form w ≡ 0 → word_of s w (b ∷ l) ≡ fault 6 s
  unfolding word_of
  word_none e = rw (eq-eqb (word_form w) 0 e, word_of)

  pub word_there : 1 ≤ word_form w → word_of s w (b ∷ l) ≡ found (word (word_form w) w) (b ∷ l)
  unfolding word_of
  word_there h = rw (ne_eqb (word_form w) 0 (λ e. omega arith), word_of)

-- what is read as a word stood there, and keeps the rule
pub word_reads : (also s : List ℕ) → Reads s (ReadLeaf also s) (word_leaf also s)
unfolding word_of leaf_onto leaf_rule
word_reads also s =
    let w = take (word_length also s) s in
    let left = drop (word_length also s) s in
    let cut = word_cut also s in
    by_front left (λ e. rw (e, Reads) (faults 9 (omega arith) (tail_end s)))
    (λ b l e. up_to (word_form w) 0
    (λ h. rw (e, word_none s w b l (omega arith), Reads) (faults 6 (omega arith) whole))
    (λ h. rw (e, word_there s w b l h, Reads) (
      rw e at (tail_drop (word_length also s) s),
      record {
        covers = rw (← e) (sym (take-append-drop (word_length also s) s));
        rule = and (and (eq-eqb (word_form w) (word_form w) refl) (le-leb 1 (word_form w) h)) cut.plain;
        slash = rw e at cut.slash;
      },
    )))

-- what the rule of a word says
pub record WordRule (also : List ℕ) (form : ℕ) (w : List ℕ) : Type 0 where
  pub kind : word_form w ≡ form
  pub some : 1 ≤ form
  pub plain : all (λ b. not (is_ender also b)) w ≡ true

pub word_rule : (also : List ℕ) (form : ℕ) (w : List ℕ) → leaf_rule also (word form w) ≡ true → WordRule also form w
unfolding leaf_rule
word_rule also form w e =
    let h = both (eqb (word_form w) form && leb 1 form) _ e in
    let k = both (eqb (word_form w) form) (leb 1 form) h.0 in
    record { kind = eqb-true (word_form w) form k.0; some = leb-true 1 form k.1; plain = h.1 }

-- a spelt word is read back
pub word_back : (also : List ℕ) (form : ℕ) (w next : List ℕ) → leaf_rule also (word form w) ≡ true → Follows also (ends_in_slash w) next
    → word_leaf also (w ++ next) ≡ found (word form w) next
word_back also form w next r f =
    let h = word_rule also form w r in
    rw (word_only also w next (record { plain = h.plain; ends = f.ends; slash = f.slash }), take-append_seam w next, drop-append_seam w next)
    (by_front next (λ e. absurd (omega (arith, ap length e, f.some)))
    (λ b l e. rw e (word_there (w ++ (b ∷ l)) w b l (omega arith) ∙ rw h.kind)))

-- ---- times

-- a time: cut by the end of input, of no kind, or of one
pub temporal_end : (s w : List ℕ) → temporal_of s w [] ≡ fault 9 []
unfolding temporal_of
temporal_end s w = refl

module _ (s w : List ℕ) (b : ℕ) (l : List ℕ) where
  pub temporal_none : time_kind w ≡ none → temporal_of s w (b ∷ l) ≡ fault 6 s
  unfolding temporal_of
  temporal_none e = rw (e, temporal_of)

  pub temporal_there : (k : TimeKind) → time_kind w ≡ some k → temporal_of s w (b ∷ l) ≡ found (temporal k w) l
  unfolding temporal_of
  temporal_there k e = rw (e, temporal_of)

-- what is read as a time stood there, and is of its kind
pub temporal_reads : (also l : List ℕ) → Reads (byte "{" ∷ l) (ReadLeaf also (byte "{" ∷ l)) (temporal_leaf (byte "{" ∷ l) l)
unfolding temporal_of leaf_onto leaf_rule
temporal_reads also l =
    let s = byte "{" ∷ l in
    let w = front (λ b. not (is (byte "}") b)) l in
    by_front (onward (is (byte "}")) l) (λ e. rw (e, Reads) (faults 9 (omega arith) (tail_end s)))
    (λ b left e. by_time_kind w
    (λ k f q. let h = marked (is (byte "}")) l b left e in
    let covers : s ≡ leaf_onto (temporal k w) left =
    ap (λ (x : List ℕ). byte "{" ∷ x) h.1 ∙ ap (λ (x : ℕ). byte "{" ∷ (w ++ (x ∷ left))) (eqb-true b (byte "}") h.0) in
    rw (e, temporal_there s w b left k q, Reads) (
      tail_of (leaf_onto (temporal k w) []) (covers ∙ leaf_append (temporal k w) left),
      record { covers = covers; rule = f; slash = λ z. true_false (sym z) },
    ))
    (λ q. rw (e, temporal_none s w b left q, Reads) (faults 6 (omega arith) whole)))

-- a spelt time is read back
pub temporal_back : (k : TimeKind) (w next : List ℕ) → is_of k w ≡ true → (s : List ℕ) → temporal_leaf s (w ++ (byte "}" ∷ next)) ≡ found (temporal k w) next
unfolding starts_in elem is_name_byte is_letter is_upper is_lower is_digit
temporal_back k w next e s =
    let inner = inside_free (byte "}") refl k w e in
    rw (front_of (λ b. not (is (byte "}") b)) w (byte "}" ∷ next) inner refl, behind_of (λ b. not (is (byte "}") b)) w (byte "}" ∷ next) inner refl)
    (temporal_there s w (byte "}") next k (kind_of_lem k w e))

-- ---- by the first byte

pub leaf_end : (also : List ℕ) → leaf_of also [] ≡ fault 9 []
unfolding leaf_of
leaf_end also = refl

module _ (also l : List ℕ) where
  pub leaf_string : leaf_of also (byte "\"" ∷ l) ≡ and_then (many_of (λ p. 0) piece_turn 0 l) (λ ps left. found (string ps) left)
  unfolding leaf_of first_of
  leaf_string = refl

  pub leaf_character : leaf_of also (byte "'" ∷ l) ≡ character_of l
  unfolding leaf_of first_of
  leaf_character = refl

  pub leaf_backtick : leaf_of also (byte "`" ∷ l) ≡ and_then (many_of (λ p. 0) backtick_turn 0 l) (λ ps left. found (backtick ps) left)
  unfolding leaf_of first_of
  leaf_backtick = refl

  pub leaf_temporal : leaf_of also (byte "{" ∷ l) ≡ temporal_leaf (byte "{" ∷ l) l
  unfolding leaf_of first_of
  leaf_temporal = refl

  pub leaf_word : (b : ℕ) → first_of b ≡ other → leaf_of also (b ∷ l) ≡ word_leaf also (b ∷ l)
  unfolding leaf_of
  leaf_word b e = rw (e, leaf_of)

pub by_first : {X : Type 0} (b : ℕ) → (b ≡ byte "\"" → X) → (b ≡ byte "'" → X) → (b ≡ byte "`" → X) → (b ≡ byte "{" → X) → (first_of b ≡ other → X) → X
unfolding first_of
by_first b double single back brace on =
    split (eqb b (byte "\"")) (λ e. double (eqb-true b (byte "\"") e))
    (λ e. split (eqb b (byte "'")) (λ f. single (eqb-true b (byte "'") f))
    (λ f. split (eqb b (byte "`")) (λ g. back (eqb-true b (byte "`") g))
    (λ g. split (eqb b (byte "{")) (λ h. brace (eqb-true b (byte "{") h)) (λ h. on (rw (e, f, g, h))))))

-- what is read stood there, and keeps the rule
pub leaf_reads : (also s : List ℕ) → Reads s (ReadLeaf also s) (leaf_of also s)
unfolding leaf_of leaf_onto leaf_rule
leaf_reads also [] = faults 9 (omega arith) whole
leaf_reads also (b ∷ l) =
    by_first b
    (λ q. rw (q, leaf_string also l) (reads_in (past whole) _ (and_then (many_of (λ p. 0) piece_turn 0 l) (λ ps left. found (string ps) left))
    (reads_map l (Quoted l) _ string (many_of (λ p. 0) piece_turn 0 l) (pieces_read l)
    (λ ps left h. record { covers = ap (λ (x : List ℕ). byte "\"" ∷ x) h.covers; rule = h.rule; slash = λ z. true_false (sym z) }))))
    (λ q. rw (q, leaf_character also l) (reads_in (past whole) _ (character_of l) (character_reads also l)))
    (λ q. rw (q, leaf_backtick also l) (reads_in (past whole) _ (and_then (many_of (λ p. 0) backtick_turn 0 l) (λ ps left. found (backtick ps) left))
    (reads_map l (Ticked l) _ backtick (many_of (λ p. 0) backtick_turn 0 l) (ticks_read l)
    (λ ps left h. record { covers = ap (λ (x : List ℕ). byte "`" ∷ x) h.covers; rule = h.rule false (λ z. true_false (sym z)); slash = λ z. true_false (sym z) }))))
    (λ q. rw (q, leaf_temporal also l) (temporal_reads also l))
    (λ e. rw (leaf_word also l b e) (word_reads also (b ∷ l)))

-- a word, and any other value that holds no items, begins with a byte that begins no value of another sort and stands behind none
word_first : (also : List ℕ) (form : ℕ) (w : List ℕ) → leaf_rule also (word form w) ≡ true → starts_in (without begins_no_word) w ≡ true
word_first also form w r = let h = word_rule also form w r in word_begins w (omega arith)

pub leaf_begins : (also : List ℕ) (v : Leaf) (next : List ℕ) → leaf_rule also v ≡ true → starts_in (without begins_no_leaf) (leaf_onto v next) ≡ true
unfolding leaf_onto starts_in elem
leaf_begins also (string ps) next r = refl
leaf_begins also (character ps) next r = refl
leaf_begins also (backtick ps) next r = refl
leaf_begins also (word form w) next r = starts_append _ w next (starts_weaken _ _ (without_less (bytes "\"'`{") begins_no_leaf) w (word_first also form w r))
leaf_begins also (temporal kind w) next r = refl

word_other : (b : ℕ) → without begins_no_word b ≡ true → first_of b ≡ other
unfolding first_of elem
word_other b e =
    let not : (c : ℕ) → without begins_no_word c ≡ false → eqb b c ≡ false = λ c f. apart (without begins_no_word) b c e f in
    rw (not (byte "\"") refl, not (byte "'") refl, not (byte "`") refl, not (byte "{") refl)

leaf_other : (also w next : List ℕ) → starts_in (without begins_no_word) w ≡ true → leaf_of also (w ++ next) ≡ word_leaf also (w ++ next)
unfolding starts_in
leaf_other also [] next e = true_false (sym e)
leaf_other also (b ∷ w) next e = leaf_word also (w ++ next) b (word_other b e)

-- a spelt value is read back
pub leaf_back : (also : List ℕ) (v : Leaf) (next : List ℕ) → leaf_rule also v ≡ true → Follows also (leaf_in_slash v) next → leaf_of also (leaf_onto v next) ≡ found v next
unfolding leaf_onto leaf_rule
leaf_back also (string ps) next r f = leaf_string also _ ∙ rw (pieces_back ps next r)
leaf_back also (character ps) next r f = let h = both (all (piece_rule (byte "'")) ps) (one_scalar ps) r in leaf_character also _ ∙ character_back ps next h.0 h.1
leaf_back also (backtick ps) next r f = leaf_backtick also _ ∙ rw (ticks_back false ps next r)
leaf_back also (word form w) next r f = leaf_other also w next (word_first also form w r) ∙ word_back also form w next r f
leaf_back also (temporal kind w) next r f = leaf_temporal also _ ∙ temporal_back kind w next r _
