-- Markers: what reading traits, the ending and a closing marker finds, and that it finds what stands there. Assumes nothing.
use Prim.Native.Nat.{ℕ, zero, suc, ◌≤◌, ◌<◌}
use mathlib.Core.Path.{◌≡◌, refl, sym, ap, ◌∙◌}
use mathlib.Core.Logic.{inl, inr}
use mathlib.Core.Bool.{Bool, true, false, not, ◌&&◌}
use mathlib.Core.List.{List, [], ◌∷◌, ◌++◌, map, append-nil, append_assoc}
use native.Mathlib.Omega.{arith}
use lib.ListN.{length, drop, get_or, length-append}
use lib.Dec.{leb, eqb, eqb-suc-zero}
use borrow.Author.Tests.{eqb-true, leb-true, le-leb, ne_eqb}
use Rattle.paper.specs.Found.{found, fault, more, over, turn_of}
use Rattle.paper.specs.Bytes.{byte, bytes, is_upper, is_lower, is_digit, is_letter, is_name_byte, is_blank, is_line_end, is_white, all, elem, starts_in, length_in, front}
use Rattle.paper.specs.Bytes.{behind, same, is}
use Rattle.paper.specs.Names.{name_rule, is_name, among, distinct}
use Rattle.paper.specs.Values.{is_ender, ends_word, Value, value_onto, value_rule, value_in_slash, bracket_depth}
use Rattle.paper.specs.Tree.{Trait, Marker, Ending, block, self}
use Rattle.paper.specs.Grammar.{trait_onto, traits_onto, ending_onto, closing_onto, trait_rule, trait_names, slash_last, opens_block}
use Rattle.paper.specs.Limits.{trait_fits}
use Rattle.paper.specs.Entries.{item_entries, trait_size, traits_size}
use Rattle.paper.specs.ReadingValues.{value_of}
use Rattle.paper.specs.Reading.{Bounds, name, due, enters, Earlier, with_trait, fresh, trait_name, trait, trait_due, trait_turn, traits_behind, no_trait}
use Rattle.paper.specs.Reading.{ending, Opened, opened, closing}
use Rattle.paper.proofs.Tests.{split, true_false, apart}
use Rattle.paper.proofs.Lists.{both, and, all_head, front_all, front_behind, front_of, behind_of, same_is, same_of}
use Rattle.paper.proofs.Finds.{Tail, whole, past, tail_length, tail_then, tail_drop, Reads, reads_as, reads_on, reads_in, Turns, turns_of}
use Rattle.paper.proofs.Runs.{many_reads, Shorter, turns_shorter, run_more, run_over}
use Rattle.paper.proofs.Distinct.{distinct_more, distinct_apart}
use Rattle.paper.proofs.Lines.{fault_end, rule_name, ReadName, name_reads, name_complete, due_reads, due_complete}
use Rattle.paper.proofs.Leaves.{Follows}
use Rattle.paper.proofs.ReadValues.{ReadValue, value_reads, value_back}

-- ---- one trait

-- a name that is none of the earlier ones
fresh_reads : (names : List (List ℕ)) (s w left : List ℕ) → Tail s left
    → Reads s (λ v end. (v ≡ w) × (end ≡ left) × (among names w ≡ false)) (fresh names s w left)
unfolding fresh
fresh_reads names s w left u =
    split (among names w) (λ e. rw (e, fresh) (record { least = omega arith; most = inr refl; tail = whole })) (λ e. rw (e, fresh) (u, (refl, refl, refl)))

pub fresh_complete : (names : List (List ℕ)) (s w left : List ℕ) → among names w ≡ false → fresh names s w left ≡ found w left
unfolding fresh
fresh_complete names s w left e = rw (e, fresh)

name_fresh : (by : Bounds) (names : List (List ℕ)) (s : List ℕ)
    → Reads s (λ w left. ReadName (is_name is_lower by.names) s w left × (among names w ≡ false)) (trait_name by names s)
name_fresh by names s =
    reads_on s (λ w left. ReadName (is_name is_lower by.names) s w left) _ _ (name (is_name is_lower by.names) s) (name_reads (is_name is_lower by.names) s)
    (λ w left u n. reads_as s _ _ (fresh names s w left) (fresh_reads names s w left u) (λ v end e. rw (e.0, e.1) (n, e.2)))

-- behind its white space
pub record ReadTrait (by : Bounds) (earlier : Earlier) (white s : List ℕ) (t : Trait) (left : List ℕ) : Type 0 where
  pub white_is : t.white ≡ white
  pub covers : s ≡ t.name ++ (byte "=" ∷ value_onto t.value left)
  pub named : is_name is_lower by.names t.name ≡ true
  pub new : among earlier.names t.name ≡ false
  pub valued : value_rule [] t.value ≡ true
  pub depth : bracket_depth t.value ≤ by.brackets
  pub slash : value_in_slash t.value ≡ true → starts_in (is (byte ">")) left ≡ false
  pub fits : trait_size t ≤ earlier.room
  pub shorter : length left < length s

enters_reads : (s : List ℕ) (room : ℕ) (named valued : List ℕ) (t : Trait) (left : List ℕ) → Tail s named → Tail s valued → Tail s left
    → Reads s (λ u end. (u ≡ t) × (end ≡ left) × (trait_size t ≤ room)) (enters room named valued t left)
unfolding enters
enters_reads s room named valued t left n v u =
    split (leb (trait_size t) room) (λ e. rw (e, enters) (u, (refl, refl, leb-true (trait_size t) room e)))
    (λ e. rw (e, enters) (go room))
  where
    go : (room : ℕ)
        → Reads s (λ u end. (u ≡ t) × (end ≡ left) × (trait_size t ≤ room))
        (elim room [ zero ↦ fault 11 named | suc items ↦ fault 11 (drop (get_or (map (λ e. e.name_start) (item_entries 0 0 0 t.value)) items 0) valued) ])
    go zero = record { least = omega arith; most = inl (omega arith); tail = n }
    go (suc items) =
        record { least = omega arith; most = inl (omega arith); tail = tail_then v (tail_drop (get_or (map (λ e. e.name_start) (item_entries 0 0 0 t.value)) items 0) valued) }

trait_made : (by : Bounds) (earlier : Earlier) (white s w mid valued : List ℕ) (v : Value) (left : List ℕ) → ReadName (is_name is_lower by.names) s w mid
    → among earlier.names w ≡ false → mid ≡ byte "=" ∷ valued → ReadValue by.brackets [] valued v left
    → trait_size (record { white = white; name = w; value = v }) ≤ earlier.room → ReadTrait by earlier white s (record { white = white; name = w; value = v }) left
trait_made by earlier white s w mid valued v left n new d r f =
    record {
      white_is = refl;
      covers = n.covers ∙ ap (λ (l : List ℕ). w ++ l) (d ∙ ap (λ (l : List ℕ). byte "=" ∷ l) r.covers);
      named = n.kept;
      new = new;
      valued = r.rule;
      depth = r.depth;
      slash = r.slash;
      fits = f;
      shorter = omega (arith, ap length n.covers, length-append w mid, ap length d, r.shorter);
    }

pub trait_reads : (by : Bounds) (earlier : Earlier) (white s : List ℕ) → Reads s (λ t left. ReadTrait by earlier white s t left) (trait by earlier white s)
unfolding trait
trait_reads by earlier white s =
    reads_on s (λ w left. ReadName (is_name is_lower by.names) s w left × (among earlier.names w ≡ false)) _ _ (trait_name by earlier.names s)
    (name_fresh by earlier.names s)
    (λ w mid u n. reads_on s (λ b left. mid ≡ byte "=" ∷ left) _ _ (due (byte "=") mid) (reads_in u _ (due (byte "=") mid) (due_reads (byte "=") mid))
    (λ b valued u d. reads_on s (λ v left. ReadValue by.brackets [] valued v left) _ _ (value_of by.brackets [] valued)
    (reads_in u _ (value_of by.brackets [] valued) (value_reads (suc (length valued)) by.brackets [] valued))
    (λ v left x r. reads_as s _ _ (enters earlier.room s valued (record { white = white; name = w; value = v }) left)
    (enters_reads s earlier.room s valued (record {
      white = white;
      name = w;
      value = v;
    }) left whole u x)
    (λ t end e. rw (e.0, e.1) (trait_made by earlier white s w mid valued v left n.0 n.1 d r e.2)))))

-- ---- the traits of a marker

pub record ReadTurn (by : Bounds) (earlier : Earlier) (s : List ℕ) (t : Trait) (left : List ℕ) : Type 0 where
  pub covers : s ≡ trait_onto t left
  pub rule : trait_rule t ≡ true
  pub within : trait_fits by.names by.brackets t ≡ true
  pub new : among earlier.names t.name ≡ false
  pub slash : value_in_slash t.value ≡ true → starts_in (is (byte ">")) left ≡ false
  pub fits : trait_size t ≤ earlier.room
  pub shorter : length left < length s

-- what follows the traits begins, behind white space, with ">" or "/"
abbrev pub ends_marker : List ℕ → Bool
ends_marker s = starts_in (λ b. elem b (bytes ">/")) (behind is_white s)

turn_made : (by : Bounds) (earlier : Earlier) (s : List ℕ) → 0 < length (front is_white s) → (t : Trait) (left : List ℕ)
    → ReadTrait by earlier (front is_white s) (behind is_white s) t left → ReadTurn by earlier s t left
unfolding trait_rule trait_fits is_name
turn_made by earlier s w t left r =
    let n = both (name_rule is_lower t.name) (leb (length t.name) by.names) r.named in
    let some : leb 1 (length t.white) ≡ true = rw r.white_is (le-leb 1 (length (front is_white s)) w) in
    let only : all is_white t.white ≡ true = rw r.white_is (front_all is_white s) in
    record {
      covers = sym (front_behind is_white s) ∙ ap (λ (l : List ℕ). front is_white s ++ l) r.covers ∙ rw r.white_is;
      rule = and (and (and some only) n.0) r.valued;
      within = and n.1 (le-leb (bracket_depth t.value) by.brackets r.depth);
      new = r.new;
      slash = r.slash;
      fits = r.fits;
      shorter = omega (arith, r.shorter, tail_length (tail_drop (length_in is_white s) s));
    }

turn_reads : (by : Bounds) (earlier : Earlier) (s : List ℕ)
    → Turns s (λ t left. ReadTurn by earlier s t left) (λ left. (s ≡ left) × (ends_marker s ≡ true)) (trait_turn by earlier s)
unfolding trait_turn trait_due starts_in
turn_reads by earlier s = go (behind is_white s) refl
  where
    go : (r : List ℕ) → behind is_white s ≡ r
        → Turns s (λ t left. ReadTurn by earlier s t left) (λ left. (s ≡ left) × (ends_marker s ≡ true)) (trait_due by earlier s (front is_white s) r)
    go [] e = fault_end s
    go (b ∷ l) e =
        let u : Tail s (b ∷ l) = rw e at (tail_drop (length_in is_white s) s) in
        split (elem b (bytes ">/")) (λ f. rw (f, trait_due) (whole, (refl, ap (starts_in (λ b. elem b (bytes ">/"))) e ∙ f)))
        (λ f. split (leb 1 (length (front is_white s)))
        (λ g. rw (
          f,
          trait_due,
          g,
        ) (turns_of s _ _ (trait by earlier (front is_white s) (b ∷ l))
        (reads_in u _ (trait by earlier (front is_white s) (b ∷ l))
        (reads_as (b ∷ l) _ _ (trait by earlier (front is_white s) (b ∷ l)) (trait_reads by earlier (front is_white s) (b ∷ l))
        (λ t left h. turn_made by earlier s (leb-true 1 (length (front is_white s)) g) t left (rw e h))))))
        (λ g. rw (f, trait_due, g) (record { least = omega arith; most = inl (omega arith); tail = u })))

pub trait_shorter : (by : Bounds) (earlier : Earlier) (s : List ℕ) → Shorter s (trait_turn by earlier s)
trait_shorter by earlier s = turns_shorter s _ _ (λ t left h. h.shorter) (trait_turn by earlier s) (turn_reads by earlier s)

pub record ReadTraits (by : Bounds) (earlier : Earlier) (s : List ℕ) (ts : List Trait) (left : List ℕ) : Type 0 where
  pub covers : s ≡ traits_onto ts left
  pub rule : all trait_rule ts ≡ true
  pub apart : distinct earlier.names ≡ true → distinct (earlier.names ++ trait_names ts) ≡ true
  pub within : all (trait_fits by.names by.brackets) ts ≡ true
  pub slash : slash_last ts ≡ true → starts_in (is (byte ">")) left ≡ false
  pub fits : traits_size ts ≤ earlier.room
  pub closed : ends_marker left ≡ true

traits_more : (by : Bounds) (earlier : Earlier) (s : List ℕ) (t : Trait) (mid : List ℕ) (ts : List Trait) (left : List ℕ) → ReadTurn by earlier s t mid
    → ReadTraits by (with_trait earlier t) mid ts left → ReadTraits by earlier s (t ∷ ts) left
unfolding traits_onto all slash_last traits_size
traits_more by earlier s t mid ts left h r =
    record {
      covers = h.covers ∙ ap (trait_onto t) r.covers;
      rule = and h.rule r.rule;
      apart = λ d. rw append_assoc at (r.apart (distinct_more earlier.names t.name d h.new));
      within = and h.within r.within;
      slash = go ts r.covers r.slash;
      fits = omega (arith, h.fits, r.fits);
      closed = r.closed;
    }
  where
    go : (ts : List Trait) → mid ≡ traits_onto ts left → (slash_last ts ≡ true → starts_in (is (byte ">")) left ≡ false) → slash_last (t ∷ ts) ≡ true
        → starts_in (is (byte ">")) left ≡ false
    go [] c f e = rw (← c) (h.slash e)
    go (u ∷ ts) c f e = f e

pub traits_reads : (by : Bounds) (earlier : Earlier) (s : List ℕ) → Reads s (λ ts left. ReadTraits by earlier s ts left) (traits_behind by earlier s)
unfolding traits_onto all slash_last traits_size
traits_reads by earlier s =
    many_reads with_trait (trait_turn by)
    (record {
      of_turn = λ earlier s t left. ReadTurn by earlier s t left;
      of_end = λ earlier s left. (s ≡ left) × (ends_marker s ≡ true);
      of_run = λ earlier s ts left. ReadTraits by earlier s ts left;
    })
    (turn_reads by)
    (λ earlier s left e. record {
      covers = e.0;
      rule = refl;
      apart = λ d. rw append-nil d;
      within = refl;
      slash = λ f. true_false (sym f);
      fits = omega arith;
      closed = rw (← e.0) e.1;
    })
    (traits_more by)
    (suc (length s)) earlier s

-- ---- the ending

pub ending_reads : (s : List ℕ) → Reads s (λ e left. s ≡ ending_onto e left) (ending s)
unfolding ending
ending_reads [] = fault_end []
ending_reads (b ∷ l) =
    split (eqb b (byte ">")) (λ e. rw (e, ending) (past whole, ap (λ (c : ℕ). c ∷ l) (eqb-true b (byte ">") e)))
    (λ e. rw (e, ending) (reads_on (b ∷ l) (λ c left. b ∷ l ≡ byte "/" ∷ left) _ _ (due (byte "/") (b ∷ l)) (due_reads (byte "/") (b ∷ l))
    (λ c mid u d. reads_on (b ∷ l) (λ c left. mid ≡ byte ">" ∷ left) _ _ (due (byte ">") mid) (reads_in u _ (due (byte ">") mid) (due_reads (byte ">") mid))
    (λ c left u k. (u, d ∙ ap (λ (m : List ℕ). byte "/" ∷ m) k)))))

ending_complete : (e : Ending) (next : List ℕ) → ending (ending_onto e next) ≡ found e next
unfolding ending due
ending_complete block next = refl
ending_complete self next = refl

-- ---- traits, white space and ending

pub record ReadOpened (by : Bounds) (room : ℕ) (w s : List ℕ) (o : Opened) (left : List ℕ) : Type 0 where
  pub named : o.marker.name ≡ w
  pub covers : s ≡ traits_onto o.marker.traits (o.marker.white ++ ending_onto o.ends left)
  pub rule : all trait_rule o.marker.traits ≡ true
  pub apart : distinct (trait_names o.marker.traits) ≡ true
  pub within : all (trait_fits by.names by.brackets) o.marker.traits ≡ true
  pub blank : all is_white o.marker.white ≡ true
  pub opens : o.ends ≡ block → opens_block o.marker ≡ true
  pub fits : traits_size o.marker.traits ≤ room

-- a block's ">" does not follow directly on a value that ends in "/"
opens_made : (k : Marker) (left : List ℕ) → (slash_last k.traits ≡ true → starts_in (is (byte ">")) (k.white ++ (byte ">" ∷ left)) ≡ false) → opens_block k ≡ true
unfolding opens_block starts_in
opens_made k left f = go k.white f
  where
    go : (white : List ℕ) → (slash_last k.traits ≡ true → starts_in (is (byte ">")) (white ++ (byte ">" ∷ left)) ≡ false)
        → not (eqb (length white) 0 && slash_last k.traits) ≡ true
    go [] f = split (slash_last k.traits) (λ e. true_false (f e)) (λ e. rw e)
    go (b ∷ white) f = rw (eqb-suc-zero (length white))

pub opened_reads : (by : Bounds) (room : ℕ) (w s : List ℕ) → Reads s (λ o left. ReadOpened by room w s o left) (opened by room w s)
unfolding opened distinct
opened_reads by room w s =
    reads_on s (λ ts left. ReadTraits by (no_trait room) s ts left) _ _ (traits_behind by (no_trait room) s) (traits_reads by (no_trait room) s)
    (λ ts mid u r. reads_on s (λ e left. behind is_white mid ≡ ending_onto e left) _ _ (ending (behind is_white mid))
    (reads_in (tail_then u (tail_drop (length_in is_white mid) mid)) _ (ending (behind is_white mid)) (ending_reads (behind is_white mid)))
    (λ e left u k.
    let c : mid ≡ front is_white mid ++ ending_onto e left = sym (front_behind is_white mid) ∙ ap (λ (l : List ℕ). front is_white mid ++ l) k in (
      u,
      record {
        named = refl;
        covers = r.covers ∙ ap (traits_onto ts) c;
        rule = r.rule;
        apart = r.apart refl;
        within = r.within;
        blank = front_all is_white mid;
        opens = λ b. opens_made (record { name = w; traits = ts; white = front is_white mid }) left (λ f. rw (c, b) at (r.slash f));
        fits = r.fits;
      },
    )))

-- ---- traits are found where they stand

pub name_white : (b : ℕ) → is_name_byte b ≡ true → is_white b ≡ false
unfolding is_white is_blank is_line_end is_name_byte is_letter is_upper is_lower is_digit
name_white b e = rw (apart is_name_byte b 32 e refl, apart is_name_byte b 9 e refl, apart is_name_byte b 10 e refl, apart is_name_byte b 13 e refl)

-- what stands behind the last trait
pub record Closes (ts : List Trait) (next : List ℕ) : Type 0 where
  pub ends : ends_word [] next ≡ true
  pub some : 0 < length next
  pub slash : slash_last ts ≡ true → starts_in (is (byte ">")) next ≡ false
  pub closed : ends_marker next ≡ true

pub trait_parts : (t : Trait) → trait_rule t ≡ true
    → (0 < length t.white) × (all is_white t.white ≡ true) × (name_rule is_lower t.name ≡ true) × (value_rule [] t.value ≡ true)
unfolding trait_rule
trait_parts t r =
    let a = both _ (value_rule [] t.value) r in
    let b = both _ (name_rule is_lower t.name) a.0 in
    let c = both (leb 1 (length t.white)) (all is_white t.white) b.0 in
    (leb-true 1 (length t.white) c.0, c.1, b.1, a.1)

-- white space ends any value, and is no ">"
module _ (white next : List ℕ) (l : 0 < length white) (r : all is_white white ≡ true) where
  white_ends : ends_word [] (white ++ next) ≡ true
  unfolding ends_word is_ender
  white_ends = go white l r
    where
      go : (white : List ℕ) → 0 < length white → all is_white white ≡ true → ends_word [] (white ++ next) ≡ true
      go [] l r = absurd (omega arith)
      go (b ∷ white) l r = rw (all_head is_white b white r).0

  white_open : starts_in (is (byte ">")) (white ++ next) ≡ false
  unfolding starts_in is_white is_blank is_line_end
  white_open = go white l r
    where
      go : (white : List ℕ) → 0 < length white → all is_white white ≡ true → starts_in (is (byte ">")) (white ++ next) ≡ false
      go [] l r = absurd (omega arith)
      go (b ∷ white) l r = ne_eqb b (byte ">") (λ q. true_false (sym (all_head is_white b white r).0 ∙ ap is_white q))

  white_some : 0 < length (white ++ next)
  white_some = omega (arith, length-append white next)

-- the end of a marker ends the run of traits
turn_over : (by : Bounds) (earlier : Earlier) (s : List ℕ) → ends_marker s ≡ true → trait_turn by earlier s ≡ over s
unfolding trait_turn starts_in trait_due
turn_over by earlier s e = go (behind is_white s) e
  where
    go : (r : List ℕ) → starts_in (λ b. elem b (bytes ">/")) r ≡ true → trait_due by earlier s (front is_white s) r ≡ over s
    go [] e = true_false (sym e)
    go (b ∷ l) e = rw (e, trait_due)

-- a trait stands in front of more traits
follows_more : (ts : List Trait) (t : Trait) (next : List ℕ) → all trait_rule ts ≡ true → Closes (t ∷ ts) next → Follows [] (value_in_slash t.value) (traits_onto ts next)
unfolding traits_onto slash_last
follows_more [] t next r c = record { ends = c.ends; some = c.some; slash = c.slash }
follows_more (u ∷ ts) t next r c =
    let p = trait_parts u (all_head trait_rule u ts r).0 in
    let rest = u.name ++ (byte "=" ∷ value_onto u.value (traits_onto ts next)) in
    record { ends = white_ends u.white rest p.0 p.1; some = white_some u.white rest p.0 p.1; slash = λ s. white_open u.white rest p.0 p.1 }

closes_more : (t : Trait) (ts : List Trait) (next : List ℕ) → Closes (t ∷ ts) next → Closes ts next
unfolding slash_last
closes_more t [] next c = record { ends = c.ends; some = c.some; slash = λ e. true_false (sym e); closed = c.closed }
closes_more t (u ∷ ts) next c = record { ends = c.ends; some = c.some; slash = c.slash; closed = c.closed }

pub enters_complete : (room : ℕ) (named valued : List ℕ) (t : Trait) (left : List ℕ) → trait_size t ≤ room → enters room named valued t left ≡ found t left
unfolding enters
enters_complete room named valued t left f = rw (le-leb (trait_size t) room f, enters)

trait_complete : (by : Bounds) (earlier : Earlier) (t : Trait) (next : List ℕ) → trait_rule t ≡ true → trait_fits by.names by.brackets t ≡ true
    → among earlier.names t.name ≡ false → trait_size t ≤ earlier.room → Follows [] (value_in_slash t.value) next
    → trait by earlier t.white (t.name ++ (byte "=" ∷ value_onto t.value next)) ≡ found t next
unfolding trait trait_fits is_name is_name_byte is_letter is_upper is_lower is_digit
trait_complete by earlier t next r w new f k =
    let p = trait_parts t r in
    let n = rule_name is_lower t.name p.2 in
    let q = both (leb (length t.name) by.names) (leb (bracket_depth t.value) by.brackets) w in
    rw (
      name_complete (is_name is_lower by.names) t.name (byte "=") (value_onto t.value next) n.0 n.1 (and p.2 q.0) refl,
      fresh_complete earlier.names (t.name ++ (byte "=" ∷ value_onto t.value next)) t.name (byte "=" ∷ value_onto t.value next) new,
      due_complete (byte "=") (value_onto t.value next),
      value_back t.value by.brackets [] next p.3 (leb-true (bracket_depth t.value) by.brackets q.1) k,
    )
    (enters_complete earlier.room (t.name ++ (byte "=" ∷ value_onto t.value next)) (value_onto t.value next) t next f)

-- a name behind white space begins a trait
pub name_due : (by : Bounds) (earlier : Earlier) (white w rest : List ℕ) → 0 < length white → all is_white white ≡ true → 0 < length w → all is_name_byte w ≡ true
    → trait_turn by earlier (white ++ (w ++ rest)) ≡ turn_of (trait by earlier white (w ++ rest))
unfolding trait_turn trait_due starts_in elem is_name_byte is_letter is_upper is_lower is_digit
name_due by earlier white [] rest l r k n = absurd (omega arith)
name_due by earlier white (b ∷ w) rest l r k n =
    let h = (all_head is_name_byte b w n).0 in
    let a = front_of is_white white (b ∷ (w ++ rest)) r (name_white b h) in
    rw (
      behind_of is_white white (b ∷ (w ++ rest)) r (name_white b h),
      trait_due,
      apart is_name_byte b (byte ">") h refl,
      apart is_name_byte b (byte "/") h refl,
      a,
      le-leb 1 (length white) l,
      a,
    )

pub turn_complete : (by : Bounds) (earlier : Earlier) (t : Trait) (next : List ℕ) → trait_rule t ≡ true → trait_fits by.names by.brackets t ≡ true
    → among earlier.names t.name ≡ false → trait_size t ≤ earlier.room → Follows [] (value_in_slash t.value) next
    → trait_turn by earlier (trait_onto t next) ≡ more t next
turn_complete by earlier t next r w new f k =
    let p = trait_parts t r in
    let n = rule_name is_lower t.name p.2 in
    name_due by earlier t.white t.name (byte "=" ∷ value_onto t.value next) p.0 p.1 n.1 n.0
    ∙ ap turn_of (trait_complete by earlier t next r w new f k)

pub traits_complete : (by : Bounds) (earlier : Earlier) (ts : List Trait) (next : List ℕ) → all trait_rule ts ≡ true
    → all (trait_fits by.names by.brackets) ts ≡ true → distinct (earlier.names ++ trait_names ts) ≡ true → traits_size ts ≤ earlier.room → Closes ts next
    → traits_behind by earlier (traits_onto ts next) ≡ found ts next
unfolding traits_onto traits_size
traits_complete by earlier [] next r w d f c = run_over with_trait (trait_turn by) (trait_shorter by) earlier next next (turn_over by earlier next c.closed)
traits_complete by earlier (t ∷ ts) next r w d f c =
    let h = all_head trait_rule t ts r in
    let g = all_head (trait_fits by.names by.brackets) t ts w in
    run_more with_trait (trait_turn by) (trait_shorter by) earlier (traits_onto (t ∷ ts) next) t (traits_onto ts next) ts next
    (turn_complete by earlier t (traits_onto ts next) h.0 g.0 (distinct_apart earlier.names t.name (trait_names ts) d) (omega arith)
    (follows_more ts t next h.1 c))
    (traits_complete by (with_trait earlier t) ts next h.1 g.1 (rw append_assoc d) (omega arith) (closes_more t ts next c))

-- ---- an opening marker behind its name, and a closing one, are found where they stand

-- neither ending is white space
ends_white : (e : Ending) (next : List ℕ) → starts_in is_white (ending_onto e next) ≡ false
unfolding starts_in is_white is_blank is_line_end
ends_white block next = refl
ends_white self next = refl

closes_end : (k : Marker) (e : Ending) (next : List ℕ) → all is_white k.white ≡ true → (e ≡ block → opens_block k ≡ true)
    → Closes k.traits (k.white ++ ending_onto e next)
unfolding ends_word is_ender starts_in elem opens_block is_white is_blank is_line_end
closes_end k e next r o = go k.white e r o
  where
    ends_marker_lem : (white : List ℕ) (e : Ending) → all is_white white ≡ true → ends_marker (white ++ ending_onto e next) ≡ true
    ends_marker_lem white block r = ap (starts_in (λ b. elem b (bytes ">/"))) (behind_of is_white white (ending_onto block next) r (ends_white block next))
    ends_marker_lem white self r = ap (starts_in (λ b. elem b (bytes ">/"))) (behind_of is_white white (ending_onto self next) r (ends_white self next))

    go : (white : List ℕ) (e : Ending) → all is_white white ≡ true → (e ≡ block → not (eqb (length white) 0 && slash_last k.traits) ≡ true)
        → Closes k.traits (white ++ ending_onto e next)
    go [] block r o = record { ends = refl; some = omega arith; slash = λ f. true_false (sym (o refl) ∙ rw f); closed = ends_marker_lem [] block r }
    go [] self r o = record { ends = refl; some = omega arith; slash = λ f. refl; closed = ends_marker_lem [] self r }
    go (b ∷ white) e r o =
        let l : 0 < length (b ∷ white) = omega arith in
        record {
          ends = white_ends (b ∷ white) (ending_onto e next) l r;
          some = omega arith;
          slash = λ f. white_open (b ∷ white) (ending_onto e next) l r;
          closed = ends_marker_lem (b ∷ white) e r;
        }

pub opened_complete : (by : Bounds) (room : ℕ) (k : Marker) (e : Ending) (next : List ℕ) → all trait_rule k.traits ≡ true
    → distinct (trait_names k.traits) ≡ true → all (trait_fits by.names by.brackets) k.traits ≡ true → all is_white k.white ≡ true
    → (e ≡ block → opens_block k ≡ true) → traits_size k.traits ≤ room
    → opened by room k.name (traits_onto k.traits (k.white ++ ending_onto e next)) ≡ found (record { marker = k; ends = e }) next
unfolding opened
opened_complete by room k e next r d w b o f =
    let s = ends_white e next in
    rw (
      traits_complete by (no_trait room) k.traits (k.white ++ ending_onto e next) r w d f (closes_end k e next b o),
      behind_of is_white k.white (ending_onto e next) b s,
      ending_complete e next,
      front_of is_white k.white (ending_onto e next) b s,
    )

pub closing_reads : (w s : List ℕ) → Reads s (λ b left. s ≡ closing_onto w left) (closing w s)
unfolding closing
closing_reads w s =
    reads_on s (λ b left. s ≡ byte "<" ∷ left) _ _ (due (byte "<") s) (due_reads (byte "<") s)
    (λ b mid u d. reads_on s (λ c left. mid ≡ byte "/" ∷ left) _ _ (due (byte "/") mid) (reads_in u _ (due (byte "/") mid) (due_reads (byte "/") mid))
    (λ c named u e. reads_on s (λ v left. ReadName (λ v. true) named v left) _ _ (name (λ v. true) named)
    (reads_in u _ (name (λ v. true) named) (name_reads (λ v. true) named))
    (λ v left x n. split (same w v)
    (λ f. rw f (reads_as s _ _ (due (byte ">") left) (reads_in x _ (due (byte ">") left) (due_reads (byte ">") left))
    (λ b end g. d ∙ ap (λ (l : List ℕ). byte "<" ∷ l) (e ∙ ap (λ (l : List ℕ). byte "/" ∷ l) (n.covers ∙ rw (← same_is w v f) (ap (λ (l : List ℕ). w ++ l) g))))))
    (λ f. rw f (record { least = omega arith; most = inl (omega arith); tail = u })))))

pub closing_complete : (w next : List ℕ) → all is_name_byte w ≡ true → 0 < length w → closing w (closing_onto w next) ≡ found (byte ">") next
unfolding closing is_name_byte is_letter is_upper is_lower is_digit
closing_complete w next r l =
    rw (
      due_complete (byte "<") (byte "/" ∷ (w ++ (byte ">" ∷ next))),
      due_complete (byte "/") (w ++ (byte ">" ∷ next)),
      name_complete (λ v. true) w (byte ">") next r l refl refl,
    ) (go (same w w) (same_of w))
  where
    go : (b : Bool) → b ≡ true → elim b [ true ↦ due (byte ">") (byte ">" ∷ next) | false ↦ fault 8 (w ++ (byte ">" ∷ next)) ] ≡ found (byte ">") next
    go true e = due_complete (byte ">") next
    go false e = true_false (sym e)
