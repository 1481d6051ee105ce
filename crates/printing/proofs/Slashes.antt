-- Values that end in "/", by their last byte. Document 01, "Canonical form"; document 02, Five. Assumes nothing.
use Prim.Native.Nat.{ℕ, suc, ◌+◌, ◌-◌}
use mathlib.Core.Path.{◌≡◌, refl, sym, ap, ◌∙◌}
use mathlib.Core.Bool.{Bool, false}
use mathlib.Core.List.{List, [], ◌∷◌, ◌++◌, map, append_assoc, append-nil}
use native.Mathlib.Omega.{arith}
use lib.ListN.{length}
use lib.Dec.{eqb}
use borrow.Author.Tests.{eqb-true, eqb-false, eq-eqb, ne_eqb}
use Rattle.std.specs.List.{ends_with}
use Rattle.paper.specs.declared.brackets.Bracket.{Bracket}
use Rattle.paper.specs.Bytes.{byte, is_upper, elem}
use Rattle.paper.specs.Values.{Piece, pieces_onto, string, character, backtick, word, temporal, leaf_onto, opener, closer, Label, label_onto, Value, leaf, empty_bracket}
use Rattle.paper.specs.Values.{bracket, More, close, comma, value_onto, more_onto, spelling, ends_in_slash}
use Rattle.paper.specs.Tree.{Trait}
use Rattle.paper.specs.Canonical.{single, TraitSense, lower, leaf_sense, value_sense, sense_in_slash, last_in_slash}
use Rattle.paper.proofs.Tests.{split, in_range, apart}
use Rattle.paper.proofs.Pieces.{pieces_append}
use Rattle.paper.proofs.WordKinds.{begins_none}
use Rattle.paper.proofs.BracketKinds.{closer_none}
use Rattle.paper.proofs.Labels.{label_append}
use Rattle.paper.proofs.ReadValues.{value_append}
use Rattle.printing.specs.Marking.{trait_sense}

-- ---- a value that ends in "/"

ends_append : (x : List ℕ) (b : ℕ) (y : List ℕ) → ends_in_slash (x ++ (b ∷ y)) ≡ ends_in_slash (b ∷ y)
unfolding ends_in_slash
ends_append [] b y = refl
ends_append (a ∷ []) b y = refl
ends_append (a ∷ c ∷ x) b y = ends_append (c ∷ x) b y

ends_quoted : (q : ℕ) (ps : List Piece) → ends_in_slash (q ∷ pieces_onto ps (q ∷ [])) ≡ ends_in_slash (q ∷ [])
ends_quoted q ps = ap (λ (l : List ℕ). ends_in_slash (q ∷ l)) (pieces_append ps (q ∷ [])) ∙ ends_append (q ∷ pieces_onto ps []) q []

-- a bracket ends in what closes it, whatever stands before
closed_item : (a : Label) (v : Value) (rest : List ℕ) → ((x : List ℕ) → ends_in_slash (x ++ rest) ≡ false) → (x : List ℕ)
    → ends_in_slash (x ++ label_onto a (value_onto v rest)) ≡ false
closed_item a v rest h x =
    let front = label_onto a [] in
    let parts : x ++ label_onto a (value_onto v rest) ≡ ((x ++ front) ++ spelling v) ++ rest =
    ap (λ (l : List ℕ). x ++ l) (label_append a (value_onto v rest) ∙ ap (λ (l : List ℕ). front ++ l) (value_append v rest))
    ∙ sym (append_assoc x front (spelling v ++ rest)) ∙ sym (append_assoc (x ++ front) (spelling v) rest) in
    ap ends_in_slash parts ∙ h ((x ++ front) ++ spelling v)

closed_more : (k : Bracket) (more : More) (x : List ℕ) → ends_in_slash (x ++ more_onto k more []) ≡ false
unfolding more_onto ends_in_slash elem
closed_more k close x = ends_append x (closer k) [] ∙ apart (λ b. elem b begins_none) (closer k) (byte "/") (closer_none k) refl
closed_more k (comma white a v more) x =
    ap ends_in_slash (sym (append_assoc x (byte "," ∷ white) (label_onto a (value_onto v (more_onto k more [])))))
    ∙ closed_item a v (more_onto k more []) (closed_more k more) (x ++ (byte "," ∷ white))

lower_slash : (b : ℕ) → eqb (lower b) (byte "/") ≡ eqb b (byte "/")
unfolding lower is_upper
lower_slash b =
    split (is_upper b)
    (λ e. let r = in_range 0x41 0x5A b e in rw e (ne_eqb (b + 32) (byte "/") (λ z. absurd (omega arith))
    ∙ sym (ne_eqb b (byte "/") (λ z. absurd (omega arith)))))
    (λ e. rw e)

ends_lower : (w : List ℕ) → ends_in_slash (map lower w) ≡ ends_in_slash w
unfolding ends_in_slash
ends_lower [] = refl
ends_lower (b ∷ []) = lower_slash b
ends_lower (b ∷ c ∷ w) = ends_lower (c ∷ w)

word_slash : (form : ℕ) (w : List ℕ) → ends_in_slash (w ++ []) ≡ sense_in_slash (single (leaf_sense (word form w)))
unfolding leaf_sense
word_slash form w = split (eqb form 10) (λ e. rw (append-nil w, e) (sym (ends_lower w))) (λ e. rw (append-nil w, e))

pub value_slash : (v : Value) → ends_in_slash (spelling v) ≡ sense_in_slash (value_sense v)
unfolding value_onto leaf_onto value_sense leaf_sense ends_in_slash
value_slash (leaf (string ps)) = ends_quoted (byte "\"") ps
value_slash (leaf (character ps)) = ends_quoted (byte "'") ps
value_slash (leaf (backtick ps)) = ends_quoted (byte "`") ps
value_slash (leaf (word form w)) = word_slash form w
value_slash (leaf (temporal kind w)) = ends_append (byte "{" ∷ w) (byte "}") []
value_slash (empty_bracket k) = closed_more k close (opener k)
value_slash (bracket k a v more) = closed_item a v (more_onto k more []) (closed_more k more) (opener k)

-- the last of the traits, or what was said before them
abbrev pub last_or : Bool → List TraitSense → Bool
last_or slash [] = slash
last_or slash (t ∷ ts) = last_in_slash (t ∷ ts)

pub last_first : (ts : List TraitSense) → last_in_slash ts ≡ last_or false ts
unfolding last_in_slash
last_first [] = refl
last_first (t ∷ ts) = refl

pub last_step : (t : Trait) (ts : List Trait) (slash : Bool) → slash ≡ sense_in_slash (value_sense t.value)
    → last_in_slash (map trait_sense (t ∷ ts)) ≡ last_or slash (map trait_sense ts)
unfolding last_in_slash
last_step t [] slash e = sym e
last_step t (u ∷ ts) slash e = refl

-- ---- the last byte

pub slash_end : (w : List ℕ) → ends_with eqb w (byte "/" ∷ []) ≡ ends_in_slash w
unfolding ends_in_slash
slash_end [] = refl
slash_end (b ∷ []) = split (eqb b (byte "/"))
    (λ e. let q : byte "/" ≡ b = sym (eqb-true b (byte "/") e) in rw (eq-eqb (byte "/") b q) (sym e))
    (λ e. let n : byte "/" ≡ b → ⊥ = λ q. eqb-false b (byte "/") e (sym q) in rw (ne_eqb (byte "/") b n) (sym e))
slash_end (b ∷ c ∷ w) =
    let z : length (b ∷ c ∷ w) - 1 ≡ suc (length (c ∷ w) - 1) = omega arith in
    rw z (slash_end (c ∷ w))
