-- Less room changes an answer only to 11: what a smaller room finds is what a larger one finds, or a fault 11. Assumes nothing.
use Prim.Native.Nat.{ℕ, zero, suc, ◌+◌, ◌-◌, ◌≤◌}
use mathlib.Core.Path.{◌≡◌, refl, ap, subst}
use mathlib.Core.Bool.{Bool, true, false}
use mathlib.Core.List.{List, [], ◌∷◌, ◌++◌, map}
use mathlib.Core.Logic.{◌⊎◌, inl, inr, ⊎_elim}
use native.Mathlib.Omega.{arith}
use lib.ListN.{length, drop, get_or}
use lib.Dec.{leb, ltb}
use borrow.Author.Tests.{leb-true, le-leb}
use Rattle.paper.specs.declared.Mode.TheVariants.{Children, Absent}
use Rattle.paper.specs.Found.{Found, found, fault, and_then, Turn, more, over, stop, turn_of, go_on, many, taking}
use Rattle.paper.specs.Bytes.{byte, bytes, is_white, length_in, front, behind, elem, starts_with, sheet_bytes}
use Rattle.paper.specs.Modes.{Modes}
use Rattle.paper.specs.Tree.{Trait, Marker, Ending, block, self, Concept, done, before}
use Rattle.paper.specs.Grammar.{in_mode}
use Rattle.paper.specs.Limits.{sheet_limit, concept_limit}
use Rattle.paper.specs.Entries.{item_entries, trait_size, body_size}
use Rattle.paper.specs.ReadingValues.{value_of}
use Rattle.paper.specs.Reading.{Bounds, bounds, blank_lines, is_blank_line, is_tab, tabs_only, line_rest, due, makes, text_of, annotation, annotation_turn}
use Rattle.paper.specs.Reading.{annotations, enters, Earlier, with_trait, trait_name, trait, trait_due, trait_turn, no_trait, Opened, opened, admitted, head, opening}
use Rattle.paper.specs.Reading.{content_of, room_in, inside_by, annotated_by, piece_by, is_closing, concept, children_of, body, concept_of, sheet_tree, sheet_of}
use Rattle.paper.proofs.Tests.{split}

-- a reading that is out of room
pub record Full {A : Type 0} (x : Found A) : Type 0 where
  pub left : List ℕ
  pub is : x ≡ fault 11 left

-- the same as in a larger room, or out of room
abbrev pub Within : {A : Type 0} → Found A → Found A → Type 0
Within x y = (x ≡ y) ⊎ Full x

-- ---- readings after one another

within_then : {A B : Type 0} (x y : Found A) (f g : A → List ℕ → Found B) → Within x y → ((a : A) (left : List ℕ) → Within (f a left) (g a left))
    → Within (and_then x f) (and_then y g)
within_then {A} {B} x y f g w h =
    ⊎_elim (λ e. subst (λ (z : Found A). Within (and_then x f) (and_then z g)) e (same x))
    (λ k. inr (record { left = k.left; is = ap (λ (z : Found A). and_then z f) k.is })) w
  where
    same : (x : Found A) → Within (and_then x f) (and_then x g)
    same (found a left) = h a left
    same (fault n left) = inl refl

-- what does not ask for room, and then what does
within_on : {A B : Type 0} (x : Found A) (f g : A → List ℕ → Found B) → ((a : A) (left : List ℕ) → Within (f a left) (g a left))
    → Within (and_then x f) (and_then x g)
within_on x f g h = within_then x x f g (inl refl) h

-- and the other way round
within_map : {A B : Type 0} (x y : Found A) (f : A → List ℕ → Found B) → Within x y → Within (and_then x f) (and_then y f)
within_map x y f w = within_then x y f f w (λ a left. inl refl)

-- either way of a test
within_if : {A : Type 0} (test : Bool) (a b c d : Found A) → Within a b → Within c d
    → Within {A = A} (elim test [ true ↦ a | false ↦ c ]) (elim test [ true ↦ b | false ↦ d ])
within_if true a b c d w v = w
within_if false a b c d w v = v

-- ---- runs

pub record Stopped {A : Type 0} (x : Turn A) : Type 0 where
  pub left : List ℕ
  pub is : x ≡ stop 11 left

abbrev Turns : {A : Type 0} → Turn A → Turn A → Type 0
Turns x y = (x ≡ y) ⊎ Stopped x

turns_of : {A : Type 0} (x y : Found A) → Within x y → Turns (turn_of x) (turn_of y)
turns_of {A} x y w = ⊎_elim (λ e. inl (ap turn_of e)) (λ k. inr (record { left = k.left; is = ap turn_of k.is })) w

-- a run behind what leaves less, and one behind what leaves more, where that stays so with each thing
module _ {A B : Type 0} (with : B → A → B) (turn : B → List ℕ → Turn A) (Less : B → B → Type 0)
    (stays : (less much : B) (a : A) → Less less much → Less (with less a) (with much a))
    (h : (less much : B) (s : List ℕ) → Less less much → Turns (turn less s) (turn much s)) where
  going_on : (fuel : ℕ) (less much : B) → Less less much
      → ((less much : B) (s : List ℕ) → Less less much → Within (many with turn fuel less s) (many with turn fuel much s)) → (t : Turn A)
      → Within (go_on (λ a left. many with turn fuel (with less a) left) t) (go_on (λ a left. many with turn fuel (with much a) left) t)
  going_on fuel less much l again (more a left) =
      within_map _ _ (λ things end. found (a ∷ things) end)
      (again (with less a) (with much a) left (stays less much a l))
  going_on fuel less much l again (over left) = inl refl
  going_on fuel less much l again (stop n left) = inl refl

  within_many : (fuel : ℕ) (less much : B) (s : List ℕ) → Less less much → Within (many with turn fuel less s) (many with turn fuel much s)
  unfolding many
  within_many zero less much s l = inl refl
  within_many (suc fuel) less much s l =
      ⊎_elim
      (λ e. subst (λ (t : Turn A). Within (go_on (λ a left. many with turn fuel (with less a) left) (turn less s))
      (go_on (λ a left. many with turn fuel (with much a) left) t)) e
      (going_on fuel less much l (λ r w s k. within_many fuel r w s k) (turn less s)))
      (λ k. inr (record { left = k.left; is = ap (go_on (λ a left. many with turn fuel (with less a) left)) k.is }))
      (h less much s l)

-- ---- entries

within_makes : {A : Type 0} (room wide : ℕ) (at : List ℕ) (a : A) (left : List ℕ) → room ≤ wide → Within (makes room at a left) (makes wide at a left)
unfolding makes
within_makes zero wide at a left l = inr (record { left = at; is = refl })
within_makes (suc room) zero at a left l = absurd (omega arith)
within_makes (suc room) (suc wide) at a left l = inl refl

within_annotations : (room wide : ℕ) (s : List ℕ) → room ≤ wide → Within (annotations room s) (annotations wide s)
unfolding annotation annotation_turn
within_annotations room wide s l =
    within_many (taking (λ a. 1)) annotation_turn (λ room wide. room ≤ wide) (λ room wide a l. omega arith) turn (suc (length s)) room wide s l
  where
    one : (room wide tabs : ℕ) (s : List ℕ) → room ≤ wide → Within (annotation room tabs s) (annotation wide tabs s)
    one room wide tabs s l = within_on (text_of s) _ _ (λ t left. within_map _ _ _ (within_makes room wide s t left l))

    turn : (room wide : ℕ) (s : List ℕ) → room ≤ wide → Turns (annotation_turn room s) (annotation_turn wide s)
    turn room wide s l =
        split (starts_with (bytes "[") (behind is_tab s))
        (λ e. rw (e, annotation_turn) (turns_of _ _ (one room wide (length_in is_tab s) (drop 1 (behind is_tab s)) l))) (λ e. rw (e, annotation_turn) (inl refl))

within_enters : (room wide : ℕ) (at valued : List ℕ) (t : Trait) (left : List ℕ) → room ≤ wide
    → Within (enters room at valued t left) (enters wide at valued t left)
unfolding enters
within_enters room wide at valued t left l =
    split (leb (trait_size t) room)
    (λ e. let f = le-leb (trait_size t) wide (omega (arith, leb-true (trait_size t) room e)) in inl (rw (e, enters, f)))
    (λ e. inr (none room e))
  where
    none : (room : ℕ) → leb (trait_size t) room ≡ false → Full (enters room at valued t left)
    none zero e = record { left = at; is = rw (e, enters) }
    none (suc items) e = record { left = drop (get_or (map (λ e. e.name_start) (item_entries 0 0 0 t.value)) items 0) valued; is = rw (e, enters) }

-- the same names, and no more room
abbrev Fewer : Earlier → Earlier → Type 0
Fewer few many = (few.names ≡ many.names) × (few.room ≤ many.room)

within_opened : (by : Bounds) (room wide : ℕ) (w s : List ℕ) → room ≤ wide → Within (opened by room w s) (opened by wide w s)
unfolding opened trait trait_turn trait_due
within_opened by room wide w s l =
    within_map _ _ _
    (within_many with_trait (trait_turn by) Fewer (λ few many t l. (ap (λ (ns : List (List ℕ)). ns ++ (t.name ∷ [])) l.0, omega (arith, l.1)))
    (λ few many s l. due_one few many s (front is_white s) (behind is_white s) l) (suc (length s)) (no_trait room) (no_trait wide) s (refl, l))
  where
    one : (few many : Earlier) (white s : List ℕ) → Fewer few many → Within (trait by few white s) (trait by many white s)
    one few many white s l =
        subst (λ (ns : List (List ℕ)). Within (trait by few white s) (trait by (record { names = ns; room = many.room }) white s)) l.0
        (within_on (trait_name by few.names s) _ _
        (λ v left. within_on (due (byte "=") left) _ _
        (λ b valued. within_on (value_of by.brackets [] valued) _ _ (λ x left. within_enters few.room many.room s valued _ left l.1))))

    due_one : (few many : Earlier) (s white rest : List ℕ) → Fewer few many → Turns (trait_due by few s white rest) (trait_due by many s white rest)
    due_one few many s white [] l = inl refl
    due_one few many s white (b ∷ rest) l =
        split (elem b (bytes ">/")) (λ e. rw (e, trait_due) (inl refl))
        (λ e. split (leb 1 (length white)) (λ f. rw (e, trait_due, f) (turns_of _ _ (one few many white (b ∷ rest) l))) (λ f. rw (e, trait_due, f) (inl refl)))

-- ---- Concepts

within_opening : (m : Modes) (by : Bounds) (deeper room wide : ℕ) (s : List ℕ) → room ≤ wide → Within (opening m by deeper room s) (opening m by deeper wide s)
unfolding admitted
within_opening m by deeper room wide s l =
    within_on (head by s) _ _
    (λ w left. within_then _ _ _ _ (name_in deeper w left) (λ v start. within_opened by (room - 1) (wide - 1) v start (omega arith)))
  where
    name_in : (deeper : ℕ) (w left : List ℕ) → Within (admitted m deeper room s w left) (admitted m deeper wide s w left)
    name_in zero w left = inl refl
    name_in (suc deeper) w left = within_if (in_mode Absent m w) _ _ _ _ (inl refl) (within_makes room wide (drop 1 s) w left l)

within_content : (tabs room wide : ℕ) (k : Marker) (s : List ℕ) → room ≤ wide → Within (content_of tabs room k s) (content_of tabs wide k s)
unfolding content_of
within_content tabs room wide k s l = within_on (line_rest s) _ _ (λ rest start. within_map _ _ _ (within_makes room wide start rest start l))

within_inside : (m : Modes) (inner : ℕ → ℕ → Marker → List ℕ → Found Concept) (deeper room wide tabs : ℕ) (o : Opened) (left : List ℕ) → room ≤ wide
    → ((deeper room wide : ℕ) (k : Marker) (s : List ℕ) → room ≤ wide → Within (inner deeper room k s) (inner deeper wide k s))
    → Within (inside_by m inner deeper room tabs o left) (inside_by m inner deeper wide tabs o left)
within_inside m inner deeper room wide tabs o left l h = ends o.ends
  where
    k : Marker
    k = o.marker

    ends : (e : Ending) → Within (inside_by m inner deeper room tabs (record { marker = k; ends = e }) left)
        (inside_by m inner deeper wide tabs (record { marker = k; ends = e }) left)
    ends self = inl refl
    ends block =
        within_if (in_mode Children m k.name) _ _ _ _ (h (deeper - 1) (room_in room o) (room_in wide o) k left (omega arith))
        (within_content tabs (room_in room o) (room_in wide o) k left (omega arith))

module _ (read : ℕ → ℕ → List ℕ → Found Concept) (h : (room wide tabs : ℕ) (s : List ℕ) → room ≤ wide → Within (read room tabs s) (read wide tabs s))
    (room wide : ℕ) (s : List ℕ) (l : room ≤ wide) where
  within_annotated : Within (annotated_by read room s) (annotated_by read wide s)
  within_annotated =
      within_then _ _ _ _ (within_annotations room wide s l)
      (λ notes line. within_map _ _ _ (h (room - length notes) (wide - length notes) (length_in is_tab line) (behind is_tab line) (omega arith)))

  within_piece : Within (piece_by read room s) (piece_by read wide s)
  within_piece = within_if (is_blank_line s) _ _ _ _ (inl refl) (within_on (tabs_only s) _ _ (λ tabs mark. within_map _ _ _ within_annotated))

mutual
  unfolding concept

  within_concept : (m : Modes) (by : Bounds) (fuel deeper room wide tabs : ℕ) (s : List ℕ) → room ≤ wide
      → Within (concept m by fuel deeper room tabs s) (concept m by fuel deeper wide tabs s)
  within_concept m by zero deeper room wide tabs s l = inl refl
  within_concept m by (suc fuel) deeper room wide tabs s l =
      within_then _ _ _ _ (within_opening m by deeper room wide s l)
      (λ o left. within_inside m (children_of m by fuel) deeper room wide tabs o left l
      (λ deeper room wide k s l. within_children m by fuel deeper room wide k s l))

  within_children : (m : Modes) (by : Bounds) (fuel deeper room wide : ℕ) (k : Marker) (s : List ℕ) → room ≤ wide
      → Within (children_of m by fuel deeper room k s) (children_of m by fuel deeper wide k s)
  within_children m by zero deeper room wide k s l = inl refl
  within_children m by (suc fuel) deeper room wide k s l =
      within_on (line_rest s) _ _
      (λ rest start. within_map _ _ _ (within_body m by fuel deeper room wide start l))

  within_body : (m : Modes) (by : Bounds) (fuel deeper room wide : ℕ) (s : List ℕ) → room ≤ wide
      → Within (body m by fuel deeper room s) (body m by fuel deeper wide s)
  within_body m by zero deeper room wide s l = inl refl
  within_body m by (suc fuel) deeper room wide s l =
      within_if (is_closing s) _ _ _ _ (inl refl)
      (within_then _ _ _ _ (within_piece (concept m by fuel deeper) (λ room wide tabs s l. within_concept m by fuel deeper room wide tabs s l) room wide s l)
      (λ p left. within_map _ _ _ (within_body m by fuel deeper (room - body_size (before p done)) (wide - body_size (before p done)) left (omega arith))))

-- ---- a whole sheet

pub less_room : (m : Modes) (room wide : ℕ) (s : List ℕ) → room ≤ wide → Within (sheet_of m room s) (sheet_of m wide s)
unfolding sheet_of sheet_tree
less_room m room wide s l =
    within_if (ltb sheet_limit (length s)) _ _ _ _ (inl refl)
    (within_on (sheet_bytes s) _ _ (λ vs left. within_on (blank_lines s) _ _ (λ front first. within_on (tabs_only first) _ _ (λ tabs mark. within_map _ _ _
    (within_annotated (concept_of m bounds concept_limit)
    (λ room wide tabs s l. within_concept m bounds (length s + 1) concept_limit room wide tabs s l) room wide first l)))))
