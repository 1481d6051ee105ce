-- Leaves put: by the form, and of a string by its first byte. Document 01, "Canonical form". Assumes nothing.
use Prim.Native.Nat.{ℕ, ◌-◌, ◌≤◌, ◌<◌}
use mathlib.Core.Path.{◌≡◌, sym, ap, ◌∙◌}
use mathlib.Core.Bool.{true, false}
use mathlib.Core.List.{List, [], ◌∷◌, ◌++◌, map, append-nil, append_assoc}
use native.Mathlib.Omega.{arith}
use lib.ListN.{length, take, drop, length-append}
use lib.Seq.{take-append_seam}
use borrow.Author.Tests.{eq-eqb, ne_eqb}
use Rattle.paper.specs.Bytes.{byte, bytes, all, starts_with}
use Rattle.paper.specs.Values.{Piece, pieces_onto, piece_rule, pieces_mean, backtick_rule, collapse, Leaf, string, character, backtick, word, leaf_onto, leaf_form}
use Rattle.paper.specs.Values.{leaf_rule, word_form, temporal}
use Rattle.paper.specs.Canonical.{bytes_onto, lower, leaf_sense, print_leaf}
use Rattle.paper.proofs.Tests.{true_false}
use Rattle.paper.proofs.Lists.{both}
use Rattle.paper.proofs.Pieces.{pieces_append}
use Rattle.paper.proofs.WordKinds.{Kind, form_of, kinds, by_kind, word_form_lem}
use Rattle.paper.proofs.Leaves.{word_rule, leaf_append}
use Rattle.quoting.specs.declared.page.Page.{Page}
use Rattle.quoting.specs.Page.{Puts}
use Rattle.quoting.proofs.Putting.{puts_as, puts_then}
use Rattle.leaves.specs.Plain.{is_plain}
use Rattle.quoting.proofs.Plainly.{plain_pieces}

-- ---- between two quotes

inner_is : (w : List ℕ) (q : ℕ) (ps : List Piece) → w ≡ q ∷ pieces_onto ps (q ∷ []) → take (length w - 2) (drop 1 w) ≡ pieces_onto ps []
inner_is w q ps e =
    let f : w ≡ q ∷ (pieces_onto ps [] ++ (q ∷ [])) = e ∙ ap (λ (l : List ℕ). q ∷ l) (pieces_append ps (q ∷ [])) in
    let n : length w - 2 ≡ length (pieces_onto ps []) = omega (arith, ap length f, length-append (pieces_onto ps []) (q ∷ [])) in
    ap (λ (k : ℕ). take k (drop 1 w)) n ∙ ap (λ (l : List ℕ). take (length (pieces_onto ps [])) (drop 1 l)) f ∙ take-append_seam (pieces_onto ps []) (q ∷ [])

module _ (quote : ℕ) (w spelling : List ℕ) (e : spelling ≡ take (length w - 2) (drop 1 w)) {before opened closed after : Page}
    (h : Puts before (λ next. quote ∷ next) opened) (l : Puts closed (λ next. quote ∷ next) after) where
  -- what stands between the two quotes
  between : (f : List ℕ → List ℕ) → Puts opened f closed → Puts before (λ next. quote ∷ f (quote ∷ next)) after
  between f k = puts_then (λ next. quote ∷ next) (λ next. f (quote ∷ next)) h (puts_then f (λ next. quote ∷ next) k l)

  pub quoted_put : ((ps : List Piece) → spelling ≡ pieces_onto ps [] → all (piece_rule quote) ps ≡ true → Puts opened (bytes_onto quote (pieces_mean ps)) closed)
      → (ps : List Piece) → w ≡ quote ∷ pieces_onto ps (quote ∷ []) → all (piece_rule quote) ps ≡ true
      → Puts before (λ next. quote ∷ bytes_onto quote (pieces_mean ps) (quote ∷ next)) after
  quoted_put k ps f r = between (bytes_onto quote (pieces_mean ps)) (k ps (e ∙ inner_is w quote ps f) r)

  pub ticked_put : ((ps : List Piece) → spelling ≡ pieces_onto ps [] → backtick_rule false ps ≡ true
      → Puts opened (bytes_onto quote (collapse (pieces_mean ps))) closed)
      → (ps : List Piece) → w ≡ byte "`" ∷ pieces_onto ps (byte "`" ∷ []) → backtick_rule false ps ≡ true
      → Puts before (λ next. quote ∷ bytes_onto quote (collapse (pieces_mean ps)) (quote ∷ next)) after
  ticked_put k ps f r = between (bytes_onto quote (collapse (pieces_mean ps))) (k ps (e ∙ inner_is w (byte "`") ps f) r)

-- every byte between the quotes stands for itself: copied with them
pub plain_put : (quote : ℕ) (w spelling : List ℕ) → spelling ≡ take (length w - 2) (drop 1 w) → all (is_plain quote) spelling ≡ true
    → {before after : Page} → Puts before (λ next. w ++ next) after
    → (ps : List Piece) → w ≡ quote ∷ pieces_onto ps (quote ∷ []) → Puts before (λ next. quote ∷ bytes_onto quote (pieces_mean ps) (quote ∷ next)) after
plain_put quote w spelling e a p ps f =
    let pieces = pieces_onto ps [] in
    let q = plain_pieces quote ps (rw (e ∙ inner_is w quote ps f) at a) in
    let whole : w ≡ quote ∷ (pieces ++ (quote ∷ [])) = f ∙ ap (λ (l : List ℕ). quote ∷ l) (pieces_append ps (quote ∷ [])) in
    puts_as _
    (λ x. ap (λ (l : List ℕ). quote ∷ l) (q (quote ∷ x) ∙ sym (append_assoc pieces (quote ∷ []) x)) ∙ sym (ap (λ (l : List ℕ). l ++ x) whole)) p

-- ---- the form of a word is none of a string or a character

form_between : (k : Kind) → (3 ≤ form_of k) × (form_of k ≤ 11)
form_between Kind.boolean = (omega arith, omega arith)
form_between Kind.integer = (omega arith, omega arith)
form_between Kind.decimal = (omega arith, omega arith)
form_between Kind.scientific = (omega arith, omega arith)
form_between Kind.fraction = (omega arith, omega arith)
form_between Kind.pascal = (omega arith, omega arith)
form_between Kind.camel = (omega arith, omega arith)
form_between Kind.uuid = (omega arith, omega arith)
form_between Kind.iri = (omega arith, omega arith)

word_between : (w : List ℕ) → 1 ≤ word_form w → (3 ≤ word_form w) × (word_form w ≤ 11)
word_between w h = by_kind kinds w (λ k f e. rw (word_form_lem w, e) (form_between k)) (λ e. absurd (omega (arith, word_form_lem w)))

pub word_range : (also : List ℕ) (form : ℕ) (w : List ℕ) → leaf_rule also (word form w) ≡ true → (3 ≤ form) × (form ≤ 11)
word_range also form w r =
    let k = word_rule also form w r in
    let l = word_between w (omega arith) in
    (omega arith, omega arith)

word_short : {X : Type 0} (also : List ℕ) (form : ℕ) (w : List ℕ) → form < 3 → leaf_rule also (word form w) ≡ true → X
word_short also form w s r = let l = word_range also form w r in absurd (omega arith)

-- ---- leaves

module _ (also w : List ℕ) {before after : Page} where
  pub string_there : starts_with (bytes "`") (drop 0 w) ≡ false
      → ((ps : List Piece) → w ≡ byte "\"" ∷ pieces_onto ps (byte "\"" ∷ []) → all (piece_rule (byte "\"")) ps ≡ true
      → Puts before (λ next. byte "\"" ∷ bytes_onto (byte "\"") (pieces_mean ps) (byte "\"" ∷ next)) after)
      → (v : Leaf) → w ≡ leaf_onto v [] → 1 ≡ leaf_form v → leaf_rule also v ≡ true → Puts before (print_leaf (leaf_sense v)) after
  unfolding leaf_onto leaf_rule leaf_sense print_leaf starts_with
  string_there s f (string ps) e q r = f ps e r
  string_there s f (character ps) e q r = absurd (omega arith)
  string_there s f (backtick ps) e q r = true_false (rw e at s)
  string_there s f (word form u) e q r = word_short also form u (omega arith) r
  string_there s f (temporal kind u) e q r = absurd (omega arith)

  pub backtick_there : starts_with (bytes "`") (drop 0 w) ≡ true
      → ((ps : List Piece) → w ≡ byte "`" ∷ pieces_onto ps (byte "`" ∷ []) → backtick_rule false ps ≡ true
      → Puts before (λ next. byte "\"" ∷ bytes_onto (byte "\"") (collapse (pieces_mean ps)) (byte "\"" ∷ next)) after)
      → (v : Leaf) → w ≡ leaf_onto v [] → 1 ≡ leaf_form v → leaf_rule also v ≡ true → Puts before (print_leaf (leaf_sense v)) after
  unfolding leaf_onto leaf_rule leaf_sense print_leaf starts_with
  backtick_there s f (string ps) e q r = true_false (sym (rw e at s))
  backtick_there s f (character ps) e q r = absurd (omega arith)
  backtick_there s f (backtick ps) e q r = f ps e r
  backtick_there s f (word form u) e q r = word_short also form u (omega arith) r
  backtick_there s f (temporal kind u) e q r = absurd (omega arith)

  pub character_there : ((ps : List Piece) → w ≡ byte "'" ∷ pieces_onto ps (byte "'" ∷ []) → all (piece_rule (byte "'")) ps ≡ true
      → Puts before (λ next. byte "'" ∷ bytes_onto (byte "'") (pieces_mean ps) (byte "'" ∷ next)) after)
      → (v : Leaf) → w ≡ leaf_onto v [] → 2 ≡ leaf_form v → leaf_rule also v ≡ true → Puts before (print_leaf (leaf_sense v)) after
  unfolding leaf_onto leaf_rule leaf_sense print_leaf
  character_there f (string ps) e q r = absurd (omega arith)
  character_there f (character ps) e q r = f ps e (both (all (piece_rule (byte "'")) ps) _ r).0
  character_there f (backtick ps) e q r = absurd (omega arith)
  character_there f (word form u) e q r = word_short also form u (omega arith) r
  character_there f (temporal kind u) e q r = absurd (omega arith)

  pub uuid_there : Puts before (λ next. map lower w ++ next) after → (v : Leaf) → w ≡ leaf_onto v [] → 10 ≡ leaf_form v
      → Puts before (print_leaf (leaf_sense v)) after
  unfolding leaf_onto leaf_sense print_leaf
  uuid_there p (string ps) e q = absurd (omega arith)
  uuid_there p (character ps) e q = absurd (omega arith)
  uuid_there p (backtick ps) e q = absurd (omega arith)
  uuid_there p (word form u) e q = puts_as _ (λ next. rw (eq-eqb form 10 (sym q), ← append-nil u, ← e)) p
  uuid_there p (temporal kind u) e q = absurd (omega arith)

  pub word_there : Puts before (λ next. w ++ next) after → (form : ℕ) → (form ≡ 1 → ⊥) → (form ≡ 2 → ⊥) → (form ≡ 10 → ⊥)
      → (v : Leaf) → w ≡ leaf_onto v [] → form ≡ leaf_form v → Puts before (print_leaf (leaf_sense v)) after
  unfolding leaf_onto leaf_sense print_leaf
  word_there p form a b c (string ps) e q = absurd (a q)
  word_there p form a b c (character ps) e q = absurd (b q)
  word_there p form a b c (backtick ps) e q = absurd (a q)
  word_there p form a b c (word f u) e q = puts_as _ (λ next. rw (ne_eqb f 10 (λ z. c (q ∙ z)), ← append-nil u, ← e)) p
  word_there p form a b c (temporal kind u) e q =
      puts_as _ (λ next. leaf_append (temporal kind u) next ∙ ap (λ (l : List ℕ). l ++ next) (sym e)) p
