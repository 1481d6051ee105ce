-- A section of the table: the names that are left after the first, and each way out of reading a section at a place.
-- Over plain lists. Assumes nothing.
use Prim.Native.Nat.{ℕ, zero, suc, ◌+◌, ◌-◌, ◌*◌, ◌^◌, ◌≤◌, ◌<◌}
use mathlib.Core.Path.{◌≡◌, refl, sym, ap, ◌∙◌}
use mathlib.Core.Bool.{Bool, true, false}
use mathlib.Core.List.{List, [], ◌∷◌, ◌++◌, append-nil, append_assoc, reverse, reverse-append}
use native.Mathlib.Nat.{zero-add, add-zero, sub-zero}
use native.Mathlib.Numerals.{sub-one}
use native.Mathlib.Omega.{arith}
use lib.ListN.{length, get_or, take, drop, length-append, length-drop, length-reverse, drop_of_length-le}
use lib.Seq.{drop-drop}
use lib.Dec.{leb}
use borrow.Author.Tests.{le-leb, lt-leb}
use Rattle.std.specs.Prelude.{Option, None, Some, Result, Ok, Err, IsSome}
use Rattle.std.specs.Option.{is_some}
use Rattle.paper.specs.Answer.{accepted, refused}
use Rattle.paper.specs.declared.Accepted.{Accepted}
use Rattle.paper.specs.declared.Refused.{Refused}
use Rattle.paper.specs.Found.{Found, found, fault, and_then, place_in, pick}
use Rattle.paper.specs.Bytes.{within}
use Rattle.paper.specs.Names.{name_limit, is_concept_name, among}
use Rattle.paper.specs.Modes.{section_limit, table_names, section}
use Rattle.paper.proofs.Tests.{split}
use Rattle.text.proofs.Places.{here, place_back}
use Rattle.modes.specs.Table.{names_of, size_of, Whole, section_at, name_at, one, told_of}
use Rattle.modes.specs.Index.{name_count, key_of, Stands, Lists, FindsNumber, added, Due, ReadsSection}
use Rattle.modes.proofs.Walk.{names_more, sizes_more, names_many}
use Rattle.modes.proofs.Numbers.{some_numbered, none_numbered, listed, unlisted, among_reverse}
use Rattle.modes.proofs.Chains.{lists_more}
use Rattle.modes.proofs.Answered.{told_refusal, passed_on}
use Rattle.modes.proofs.Named.{Named}

-- ---- the first name of so many, and those that are left

abbrev pub onward : ℕ → List (List ℕ) → List ℕ → Found (List ℕ) → Found (List (List ℕ))
onward n before s (fault k left) = fault k left
onward n before s (found w left) =
    pick (among before w) (fault 1 (drop 1 s)) (and_then (table_names n (before ++ (w ∷ [])) left) (λ names rest. found (w ∷ names) rest))

pub first_name : (n : ℕ) (before : List (List ℕ)) (s : List ℕ) → table_names (suc n) before s ≡ onward n before s (name_at s)
unfolding table_names name_at
first_name n before [] = refl
first_name n before (b ∷ s) =
    split (within 1 name_limit b)
    (λ w. split (leb b (length s))
    (λ f. split (is_concept_name (take b s))
    (λ g. split (among before (take b s)) (λ a. rw (table_names, name_at, w, f, g, a)) (λ a. rw (table_names, name_at, w, f, g, a)))
    (λ g. rw (table_names, name_at, w, f, g)))
    (λ f. rw (table_names, name_at, w, f)))
    (λ w. rw (table_names, name_at, w))

-- ---- a turn of the loop over names, i of them read and n left

abbrev pub counted : ℕ → List (List ℕ) → ℕ
counted i names = i + length names

one_more : (t w : List ℕ) (i : ℕ) (x : Found (List (List ℕ)))
    → told_of (counted (i + 1)) t x ≡ told_of (counted i) t (and_then x (λ names rest. found (w ∷ names) rest))
one_more t w i (found names rest) = ap (accepted (place_in t rest)) (omega arith)
one_more t w i (fault k rest) = refl

first_of : (n : ℕ) (before : List (List ℕ)) (s : List ℕ) → 0 < n → table_names n before s ≡ onward (n - 1) before s (name_at s)
first_of zero before s h = absurd (omega arith)
first_of (suc n) before s h = rw (sub-one (suc n)) (first_name n before s)

module _ (t : List ℕ) (i n place : ℕ) (before : List (List ℕ)) (due : 0 < n) where
  turn_refused : (r : Refused) → told_refusal r ≡ told_of one t (name_at (drop place t))
      → told_refusal r ≡ told_of (counted i) t (table_names n before (drop place t))
  turn_refused r e =
      rw (first_of n before (drop place t) due)
      (passed_on one t (λ x. told_of (counted i) t (onward (n - 1) before (drop place t) x)) (λ k left. refl) (name_at (drop place t)) r e)

  module _ (end : ℕ) (name : Named t place end) (o : Bool) (e : o ≡ among before (take (end - (place + 1)) (drop (place + 1) t))) where
    asked : among before (take (get_or t place 0) (drop (place + 1) t)) ≡ o
    asked =
        let size : end - (place + 1) ≡ get_or t place 0 = omega (arith, name.ends) in
        sym (rw size at e)

    turn_again : o ≡ true → refused 1 (place + 1) ≡ told_of (counted i) t (table_names n before (drop place t))
    turn_again y =
        rw (first_of n before (drop place t) due, name.same, asked ∙ y, drop-drop)
        (ap (refused 1) (sym (place_back t (place + 1) (omega (arith, name.inside)))))

    turn_on : o ≡ false
        → told_of (counted (i + 1)) t (table_names (n - 1) (before ++ (take (get_or t place 0) (drop (place + 1) t) ∷ [])) (drop end t))
        ≡ told_of (counted i) t (table_names n before (drop place t))
    turn_on y =
        let w = take (get_or t place 0) (drop (place + 1) t) in
        rw (first_of n before (drop place t) due, name.same, asked ∙ y) (one_more t w i (table_names (n - 1) (before ++ (w ∷ [])) (drop end t)))

-- ---- the loop: i names are read, up to a place

pub record Reading (t : List ℕ) (before : List (List ℕ)) (start count i place : ℕ) : Type 0 where
  pub some : i ≤ count
  pub ends : place ≡ start + size_of i (drop start t)
  pub inside : place ≤ length t
  pub same : told_of (counted i) t (table_names (count - i) (before ++ names_of i (drop start t)) (drop place t))
      ≡ told_of length t (table_names count before (drop start t))

none_yet : (t : List ℕ) (x : Found (List (List ℕ))) → told_of (counted 0) t x ≡ told_of length t x
none_yet t (found names left) = ap (accepted (place_in t left)) (zero-add (length names))
none_yet t (fault k left) = refl

module _ (t : List ℕ) (before : List (List ℕ)) (start count : ℕ) where
  pub begins : start ≤ length t → Reading t before start count 0 start
  unfolding names_of size_of
  begins h = record {
    some = omega arith;
    ends = sym (add-zero start);
    inside = h;
    same = rw (append-nil, sub-zero) (none_yet t (table_names count before (drop start t)));
  }

  module _ (i place : ℕ) (so_far : Reading t before start count i place) where
    -- the names read are whole: a search may walk them
    pub read_whole : Whole i (drop start t)
    read_whole = omega (arith, so_far.ends, so_far.inside, length-drop start t)

    pub ends_refused : (r : Refused) → i < count → told_refusal r ≡ told_of one t (name_at (drop place t))
        → told_refusal r ≡ told_of length t (table_names count before (drop start t))
    ends_refused r due e = turn_refused t i (count - i) place (before ++ names_of i (drop start t)) (omega arith) r e ∙ so_far.same

    pub ends_again : (end : ℕ) → i < count → Named t place end → (o : Bool)
        → o ≡ among (before ++ names_of i (drop start t)) (take (end - (place + 1)) (drop (place + 1) t)) → o ≡ true
        → refused 1 (place + 1) ≡ told_of length t (table_names count before (drop start t))
    ends_again end due name o e y = turn_again t i (count - i) place (before ++ names_of i (drop start t)) (omega arith) end name o e y ∙ so_far.same

    pub goes_on : (end : ℕ) → i < count → Named t place end → (o : Bool)
        → o ≡ among (before ++ names_of i (drop start t)) (take (end - (place + 1)) (drop (place + 1) t)) → o ≡ false
        → Reading t before start count (i + 1) end
    goes_on end due name o e n =
        let less : count - i - 1 ≡ count - (i + 1) = omega arith in
        record {
          some = omega arith;
          ends = name.ends ∙ sym (sizes_more t start i place so_far.ends name.inside);
          inside = name.fits;
          same = rw (names_more t start i place so_far.ends name.inside, ← append_assoc, ← less)
              (turn_on t i (count - i) place (before ++ names_of i (drop start t)) (omega arith) end name o e n) ∙ so_far.same;
        }

    pub ends_all : count ≤ i → accepted place count ≡ told_of length t (table_names count before (drop start t))
    unfolding table_names
    ends_all h =
        let none : count - i ≡ 0 = omega arith in
        let last : accepted place count ≡ told_of (counted i) t (table_names (count - i) (before ++ names_of i (drop start t)) (drop place t))
        = rw (none, place_back t place so_far.inside) (ap (accepted place) (omega (arith, so_far.some))) in
        last ∙ so_far.same

-- ---- the index of the names read so far

pub record Listed (t x : List ℕ) (at earlier i place : ℕ) : Type 0 where
  pub near : place ≤ at + 1 + (1 + name_limit) * i
  pub lists : Lists t x (reverse (names_of earlier (drop 1 t) ++ names_of i (drop (at + 1) t)))

module _ (t x : List ℕ) (names : List (List ℕ)) (l : Lists t x (reverse names)) (w : List ℕ) where
  pub stands_already : (r : Option ℕ) → FindsNumber t x w r → IsSome r → true ≡ among names w
  stands_already None f some = absurd (cc)
  stands_already (Some number) f some =
      let found = some_numbered _ _ (f (reverse names) l) in
      sym (listed w (reverse names) (omega (arith, found.0, found.1))) ∙ among_reverse names w

  pub stands_not : (r : Option ℕ) → FindsNumber t x w r → is_some r ≡ false → false ≡ among names w
  stands_not None f none = sym (unlisted w (reverse names) (none_numbered _ (f (reverse names) l))) ∙ among_reverse names w
  stands_not (Some number) f none = absurd (cc)

module _ (t start : List ℕ) (at earlier : ℕ) (due : Due t at earlier start) where
  pub listed_none : Listed t start at earlier 0 (at + 1)
  unfolding names_of
  listed_none = record { near = omega arith; lists = rw append-nil due.lists }

  module _ (x : List ℕ) (count i place : ℕ) (so_far : Reading t (names_of earlier (drop 1 t)) (at + 1) count i place) (l : Listed t x at earlier i place)
      (few : count ≤ section_limit) (left : i < count) where
    abbrev names : List (List ℕ)
    names = names_of earlier (drop 1 t) ++ names_of i (drop (at + 1) t)

    -- the next name has a number and a place that fit their cells
    pub next_fits : (earlier + i + 1 ≤ name_count) × (place < 2 ^ 16)
    next_fits = (omega (arith, due.few), omega (arith, due.few, due.near, l.near))

    next_number : suc (length (reverse names)) ≡ earlier + i + 1
    next_number =
        let here = read_whole t (names_of earlier (drop 1 t)) (at + 1) count i place so_far in
        omega (
          arith,
          length-reverse names,
          length-append (names_of earlier (drop 1 t)) (names_of i (drop (at + 1) t)),
          due.many,
          names_many i (drop (at + 1) t) here,
        )

    module _ (end : ℕ) (name : Named t place end) where
      abbrev letters : List ℕ
      letters = take (get_or t place 0) (drop (place + 1) t)

      more_names : reverse (names_of earlier (drop 1 t) ++ names_of (i + 1) (drop (at + 1) t)) ≡ letters ∷ reverse names
      more_names = rw (names_more t (at + 1) i place so_far.ends name.inside, ← append_assoc) (reverse-append names (letters ∷ []))

      pub listed_more : Listed t (added x (earlier + i + 1) (key_of (take (end - (place + 1)) (drop (place + 1) t))) place) at earlier (i + 1) end
      listed_more =
          let size : end - (place + 1) ≡ get_or t place 0 = omega (arith, name.ends) in
          let stands : Stands t place letters
          = record { inside = name.inside; fits = omega (arith, name.ends, name.fits); is = refl } in
          let more : Lists t (added x (suc (length (reverse names))) (key_of letters) place) (letters ∷ reverse names)
          = lists_more t x letters (reverse names) place l.lists (omega (arith, next_number, next_fits.0)) stands in
          record { near = omega (arith, name.ends, name.short, l.near); lists = rw (more_names, size, ← next_number) more }

-- ---- a section at a place, by its count

pub section_size : (before : List (List ℕ)) (n : ℕ) (s : List ℕ) → n ≤ section_limit → section before (n ∷ s) ≡ table_names n before s
unfolding section
section_size before n s h = rw (section, le-leb n section_limit h)

pub section_cut : (t : List ℕ) (before : List (List ℕ)) (at : ℕ) → at ≡ length t → refused 1 at ≡ told_of length t (section before (drop at t))
unfolding section
section_cut t before at e = let l : length t ≤ at = omega arith in rw (drop_of_length-le t l) (ap (refused 1) (omega arith))

module _ (t : List ℕ) (before : List (List ℕ)) (at : ℕ) (h : at < length t) (count : ℕ) (is : count ≡ get_or t at 0) where
  pub section_over : section_limit < count → refused 1 at ≡ told_of length t (section before (drop at t))
  unfolding section
  section_over l = rw (here t at h, ← is, section, lt-leb count section_limit l) (ap (refused 1) (omega (arith, length-drop (at + 1) t)))

  pub section_names : count ≤ section_limit
      → told_of length t (table_names count before (drop (at + 1) t)) ≡ told_of length t (section before (drop at t))
  section_names l = rw (here t at h, ← is, section_size before count (drop (at + 1) t) l)

-- ---- the answer of a section

module _ {t x : List ℕ} {at earlier : ℕ} where
  -- a refusal says nothing of the index
  pub section_refused : (r : Refused) → told_refusal r ≡ told_of length t (section_at t earlier at) → ReadsSection t at earlier (Err r) x
  section_refused r told_is = record { answer = told_is; near = λ a e. absurd (cc); lists = λ a e. absurd (cc) }

  pub section_accepted : (a : Accepted) → accepted a.place a.count ≡ told_of length t (section_at t earlier at) → Listed t x at earlier a.count a.place
      → ReadsSection t at earlier (Ok a) x
  section_accepted a told_is l = record {
    answer = told_is;
    near = λ b e. let same : a ≡ b = cc in rw same at l.near;
    lists = λ b e. let same : a ≡ b = cc in rw same at l.lists;
  }
