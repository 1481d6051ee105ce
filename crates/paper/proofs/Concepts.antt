-- Concepts and children bodies: what reading them finds, and that it finds what stands there. Assumes nothing.
use Prim.Native.Nat.{ℕ, zero, suc, ◌+◌, ◌-◌, ◌≤◌, ◌<◌}
use mathlib.Core.Path.{◌≡◌, refl, sym, ap, ◌∙◌}
use mathlib.Core.Logic.{inl}
use mathlib.Core.Bool.{Bool, true, false, ◌&&◌}
use mathlib.Core.List.{List, [], ◌∷◌, ◌++◌}
use native.Mathlib.Omega.{arith}
use lib.ListN.{length, drop}
use lib.Dec.{leb}
use borrow.Author.Tests.{not-true}
use Rattle.paper.specs.declared.Mode.{Mode}
use Rattle.paper.specs.declared.Mode.TheVariants.{Children, Content, Absent}
use Rattle.paper.specs.Found.{Found, found, and_then}
use Rattle.paper.specs.Bytes.{byte, bytes, is_upper, is_lower, is_digit, is_letter, is_name_byte, is_blank, is_line_end, is_white, all, starts_in, length_in, behind}
use Rattle.paper.specs.Bytes.{starts_with}
use Rattle.paper.specs.Names.{name_rule, is_name, distinct}
use Rattle.paper.specs.Modes.{Modes, mode_of}
use Rattle.paper.specs.Values.{value_onto}
use Rattle.paper.specs.Tree.{LineEnd, LF, CRLF, Blank, Annotation, Trait, Marker, Ending, block, self, Concept, self_closed, children, content, Body, done}
use Rattle.paper.specs.Tree.{blank_line, element, Annotated, BodyPiece, blank_piece, element_piece, before}
use Rattle.paper.specs.Grammar.{line_end_onto, blank_onto, tabs_onto, annotations_onto, traits_onto, marker_onto, ending_onto, closing_onto, lines_onto, concept_onto}
use Rattle.paper.specs.Grammar.{body_onto, blank_rule, annotation_rule, trait_rule, trait_names, marker_rule, opens_block, line_rule, concept_rule, body_rule, in_mode, concept_modes}
use Rattle.paper.specs.Grammar.{body_modes}
use Rattle.paper.specs.Limits.{trait_fits, marker_fits, concept_fits, body_fits, concept_depth, body_depth}
use Rattle.paper.specs.Entries.{traits_size, concept_size, body_size}
use Rattle.paper.specs.Reading.{Bounds, line_rest, is_blank_line, is_tab, tabs_only, name, due, makes, annotations, Opened, opened, admitted, head, opening, closing}
use Rattle.paper.specs.Reading.{at_line_end, content_of, room_in, inside_by, annotated_by, piece_by, is_closing, concept, children_of, body, concept_of, annotated_of, piece_of}
use Rattle.paper.proofs.Tests.{split, true_false, apart, when_true, when_false}
use Rattle.paper.proofs.Lists.{both, and, is_not, all_head, behind_of, starts_is}
use Rattle.paper.proofs.Finds.{Tail, whole, tail_then, tail_drop, Reads, reads_as, reads_on, reads_in, reads_then, reads_map}
use Rattle.paper.proofs.Lines.{fault_here_lem, ReadBlank, rest_reads, rest_complete, ends_blank, blank_line_lem, tabs_covers, tabs_length, tabs_behind, marked_line}
use Rattle.paper.proofs.Lines.{only_reads, only_complete, rule_name, ReadName, name_reads, name_found, due_reads, due_complete, makes_reads, makes_complete}
use Rattle.paper.proofs.Widths.{append_wide, tabs_wide, blank_wide, annotations_wide, traits_wide, ending_wide, marker_wide, concept_wide}
use Rattle.paper.proofs.Annotations.{ReadAnnotations, annotations_reads, annotations_complete}
use Rattle.paper.proofs.Content.{ReadContent, content_reads, content_complete}
use Rattle.paper.proofs.Markers.{trait_parts, name_white, ReadOpened, opened_reads, opened_complete, closing_reads, closing_complete}

-- ---- what reading finds

pub record ReadConcept (m : Modes) (by : Bounds) (deeper room tabs : ℕ) (s : List ℕ) (c : Concept) (left : List ℕ) : Type 0 where
  pub covers : s ≡ concept_onto tabs c left
  pub rule : concept_rule c ≡ true
  pub modes : concept_modes m c ≡ true
  pub within : concept_fits by.names by.brackets c ≡ true
  pub depth : concept_depth c ≤ deeper
  pub fits : concept_size c ≤ room

pub record ReadBody (m : Modes) (by : Bounds) (deeper room : ℕ) (s : List ℕ) (b : Body) (left : List ℕ) : Type 0 where
  pub covers : s ≡ body_onto b left
  pub rule : body_rule b ≡ true
  pub modes : body_modes m b ≡ true
  pub within : body_fits by.names by.brackets b ≡ true
  pub depth : body_depth b ≤ deeper
  pub fits : body_size b ≤ room

pub record ReadChildren (m : Modes) (by : Bounds) (deeper room : ℕ) (k : Marker) (s : List ℕ) (c : Concept) (left : List ℕ) : Type 0 where
  pub rest : Blank
  pub inner : Body
  pub back : ℕ
  pub is_children : c ≡ children k rest inner back
  pub covers : s ≡ blank_onto rest (body_onto inner (tabs_onto back (closing_onto k.name left)))
  pub rest_rule : blank_rule rest ≡ true
  pub rule : body_rule inner ≡ true
  pub modes : body_modes m inner ≡ true
  pub within : body_fits by.names by.brackets inner ≡ true
  pub depth : body_depth inner ≤ deeper
  pub fits : body_size inner ≤ room

pub record Admits (m : Modes) (deeper room : ℕ) (w left v end : List ℕ) : Type 0 where
  pub named : v ≡ w
  pub listed : in_mode Absent m w ≡ false
  pub deep : 0 < deeper
  pub fits : 0 < room
  pub same : end ≡ left

admitted_reads : (m : Modes) (deeper room : ℕ) (s w left : List ℕ) → Tail s left
    → Reads s (λ v end. Admits m deeper room w left v end) (admitted m deeper room s w left)
unfolding admitted
admitted_reads m zero room s w left t = fault_here_lem s 10 (omega arith) (omega arith)
admitted_reads m (suc deeper) room s w left t =
    split (in_mode Absent m w) (λ e. rw (e, admitted) (record { least = omega arith; most = inl (omega arith); tail = tail_drop 1 s }))
    (λ e. rw (e, admitted) (reads_as s _ _ (makes room (drop 1 s) w left) (makes_reads s room (drop 1 s) w left (tail_drop 1 s) t)
    (λ v end h. record { named = h.1; listed = e; deep = omega arith; fits = h.0; same = h.2 })))

-- "<" and the name
pub record ReadHead (by : Bounds) (s w left : List ℕ) : Type 0 where
  pub marked : s ≡ byte "<" ∷ drop 1 s
  pub named : ReadName (is_name is_upper by.names) (drop 1 s) w left

pub head_reads : (by : Bounds) (s : List ℕ) → Reads s (λ w left. ReadHead by s w left) (head by s)
head_reads by s =
    let rule = is_name is_upper by.names in
    reads_on s (λ b left. s ≡ byte "<" ∷ left) _ _ (due (byte "<") s) (due_reads (byte "<") s)
    (λ b named t d.
    let e : drop 1 s ≡ named = ap (drop 1) d in
    reads_as s _ _ (name rule named) (reads_in t _ (name rule named) (name_reads rule named))
    (λ w left n. record { marked = d ∙ ap (λ (l : List ℕ). byte "<" ∷ l) (sym e); named = rw e n }))

-- the facts of an opening marker
pub record ReadOpening (m : Modes) (by : Bounds) (deeper room : ℕ) (s : List ℕ) (o : Opened) (left : List ℕ) : Type 0 where
  pub covers : s ≡ marker_onto o.marker (ending_onto o.ends left)
  pub rule : marker_rule o.marker ≡ true
  pub within : marker_fits by.names by.brackets o.marker ≡ true
  pub opens : o.ends ≡ block → opens_block o.marker ≡ true
  pub listed : in_mode Absent m o.marker.name ≡ false
  pub deep : 0 < deeper
  pub fits : suc (traits_size o.marker.traits) ≤ room

opens_made : (m : Modes) (by : Bounds) (deeper room : ℕ) (s w mid v start : List ℕ) (o : Opened) (left : List ℕ)
    → ReadHead by s w mid → Admits m deeper room w mid v start → ReadOpened by (room - 1) v start o left → ReadOpening m by deeper room s o left
unfolding marker_rule marker_fits is_name
opens_made m by deeper room s w mid v start o left h a r =
    let k = o.marker in
    let is : k.name ≡ w = r.named ∙ a.named in
    let named_Rule = both (name_rule is_upper w) (leb (length w) by.names) h.named.kept in
    let upper : name_rule is_upper k.name ≡ true = rw is named_Rule.0 in
    let short : leb (length k.name) by.names ≡ true = rw is named_Rule.1 in
    record {
      covers = h.marked ∙ ap (λ (l : List ℕ). byte "<" ∷ l) (h.named.covers ∙ rw is (ap (λ (l : List ℕ). w ++ l) (sym a.same ∙ r.covers)));
      rule = and (and (and upper r.rule) r.apart) r.blank;
      within = and short r.within;
      opens = r.opens;
      listed = rw is a.listed;
      deep = a.deep;
      fits = omega (arith, r.fits, a.fits);
    }

pub opening_reads : (m : Modes) (by : Bounds) (deeper room : ℕ) (s : List ℕ) → Reads s (λ o left. ReadOpening m by deeper room s o left) (opening m by deeper room s)
opening_reads m by deeper room s =
    reads_on s (λ w left. ReadHead by s w left) _ _ (head by s) (head_reads by s)
    (λ w mid u h. reads_on s (λ v start. Admits m deeper room w mid v start) _ _ (admitted m deeper room s w mid) (admitted_reads m deeper room s w mid u)
    (λ v start u a. reads_as s _ _ (opened by (room - 1) v start) (reads_in u _ (opened by (room - 1) v start) (opened_reads by (room - 1) v start))
    (λ o left r. opens_made m by deeper room s w mid v start o left h a r)))

-- a name that the table lists, and not in children mode, is in content mode
content_else : (m : Modes) (w : List ℕ) → in_mode Absent m w ≡ false → in_mode Children m w ≡ false → in_mode Content m w ≡ true
unfolding in_mode
content_else m w a c = go (mode_of m w) refl
  where
    go : (mode : Mode) → mode_of m w ≡ mode → in_mode Content m w ≡ true
    go Children e = true_false (sym (rw (e, in_mode)) ∙ c)
    go Content e = rw (e, in_mode)
    go Absent e = true_false (sym (rw (e, in_mode)) ∙ a)

-- the Concept that a marker opens, by its ending and its mode
module _ (m : Modes) (by : Bounds) (deeper room tabs : ℕ) (s : List ℕ) (o : Opened) (left : List ℕ) (p : ReadOpening m by deeper room s o left) where
  self_made : o.ends ≡ self → ReadConcept m by deeper room tabs s (self_closed o.marker) left
  unfolding concept_onto concept_rule concept_modes concept_fits concept_depth concept_size
  self_made e = record { covers = p.covers ∙ rw e; rule = p.rule; modes = is_not p.listed; within = p.within; depth = p.deep; fits = p.fits }

  children_made : o.ends ≡ block → in_mode Children m o.marker.name ≡ true → (c : Concept) (end : List ℕ)
      → ReadChildren m by (deeper - 1) (room_in room o) o.marker left c end → ReadConcept m by deeper room tabs s c end
  unfolding concept_onto concept_rule concept_modes concept_fits concept_depth concept_size
  children_made e i c end r =
      rw r.is_children (record {
        covers = p.covers ∙ rw e (ap (λ (l : List ℕ). marker_onto o.marker (ending_onto block l)) r.covers);
        rule = and (and (and p.rule (p.opens e)) r.rest_rule) r.rule;
        modes = and i r.modes;
        within = and p.within r.within;
        depth = omega (arith, r.depth, p.deep);
        fits = omega (arith, r.fits, p.fits);
      })

  content_made : o.ends ≡ block → in_mode Children m o.marker.name ≡ false → (c : Concept) (end : List ℕ)
      → ReadContent tabs (room_in room o) o.marker left c end → ReadConcept m by deeper room tabs s c end
  unfolding concept_onto concept_rule concept_modes concept_fits concept_depth concept_size
  content_made e i c end r =
      rw r.is_content (record {
        covers = p.covers ∙ rw e (ap (λ (l : List ℕ). marker_onto o.marker (ending_onto block l)) r.covers);
        rule = and (and (and p.rule (p.opens e)) r.rest_rule) r.lines_rule;
        modes = content_else m o.marker.name p.listed i;
        within = p.within;
        depth = p.deep;
        fits = omega (arith, r.fits, p.fits);
      })

  concept_made : Tail s left → (inner : ℕ → ℕ → Marker → List ℕ → Found Concept)
      → ((deeper room : ℕ) (k : Marker) (s : List ℕ) → Reads s (λ c end. ReadChildren m by deeper room k s c end) (inner deeper room k s))
      → Reads s (λ c end. ReadConcept m by deeper room tabs s c end) (inside_by m inner deeper room tabs o left)
  concept_made u inner h = ends o.ends refl
    where
      k : Marker
      k = o.marker

      x : Found Concept
      x = inner (deeper - 1) (room_in room o) k left

      y : Found Concept
      y = content_of tabs (room_in room o) k left

      ends : (e : Ending) → o.ends ≡ e
          → Reads s (λ c end. ReadConcept m by deeper room tabs s c end) (inside_by m inner deeper room tabs (record { marker = k; ends = e }) left)
      ends self e = (u, self_made e)
      ends block e =
          split (in_mode Children m k.name)
          (λ i. rw (i, Reads) (reads_as s _ _ x (reads_in u _ x (h (deeper - 1) (room_in room o) k left)) (children_made e i)))
          (λ i. rw (i, Reads) (reads_as s _ _ y (reads_in u _ y (content_reads tabs (room_in room o) k left)) (content_made e i)))

-- four rules that hold together
pub element_parts : (a b c d : Bool) → a && b && c && d ≡ true → (a ≡ true) × (b ≡ true) × (c ≡ true) × (d ≡ true)
element_parts a b c d r =
    let p = both (a && b && c) d r in
    let q = both (a && b) c p.0 in
    let s = both a b q.0 in
    (s.0, s.1, q.1, p.1)

-- a marker by its parts: its name, its traits, that no two of them have one name, and its white space
pub marker_parts : (k : Marker) → marker_rule k ≡ true
    → (name_rule is_upper k.name ≡ true) × (all trait_rule k.traits ≡ true) × (distinct (trait_names k.traits) ≡ true) × (all is_white k.white ≡ true)
unfolding marker_rule
marker_parts k r = element_parts (name_rule is_upper k.name) (all trait_rule k.traits) (distinct (trait_names k.traits)) (all is_white k.white) r

-- ---- a Concept with its annotations, and one piece of a body, by how a Concept is read

pub record ReadAnnotated (m : Modes) (by : Bounds) (deeper room : ℕ) (s : List ℕ) (a : Annotated) (left : List ℕ) : Type 0 where
  pub covers : s ≡ annotations_onto a.notes (tabs_onto a.tabs (concept_onto a.tabs a.concept left))
  pub notes_rule : all annotation_rule a.notes ≡ true
  pub rule : concept_rule a.concept ≡ true
  pub modes : concept_modes m a.concept ≡ true
  pub within : concept_fits by.names by.brackets a.concept ≡ true
  pub depth : concept_depth a.concept ≤ deeper
  pub fits : length a.notes + concept_size a.concept ≤ room
  pub shorter : length left < length s

pub record ReadPiece (m : Modes) (by : Bounds) (deeper room : ℕ) (s : List ℕ) (p : BodyPiece) (left : List ℕ) : Type 0 where
  pub it : ReadBody m by deeper room s (before p done) left
  pub shorter : length left < length s

module _ (m : Modes) (by : Bounds) (deeper : ℕ) (read : ℕ → ℕ → List ℕ → Found Concept)
    (h : (room tabs : ℕ) (s : List ℕ) → Reads s (λ c left. ReadConcept m by deeper room tabs s c left) (read room tabs s)) (room : ℕ) (s : List ℕ) where
  pub annotated_by_lem : Reads s (λ a left. ReadAnnotated m by deeper room s a left) (annotated_by read room s)
  annotated_by_lem =
      reads_then s (λ notes line. ReadAnnotations room s notes line) (λ a left. ReadAnnotated m by deeper room s a left) _ (annotations room s)
      (annotations_reads room s)
      (λ notes line n.
      let tabs = length_in is_tab line in
      let fewer = room - length notes in
      let mark = behind is_tab line in
      reads_map line (λ c left. ReadConcept m by deeper fewer tabs mark c left) (λ a left. ReadAnnotated m by deeper room s a left)
      (λ c. record { notes = notes; tabs = tabs; concept = c })
      (read fewer tabs mark) (reads_in (tail_drop tabs line) _ (read fewer tabs mark) (h fewer tabs mark))
      (λ c left k.
      let e : s ≡ annotations_onto notes (tabs_onto tabs (concept_onto tabs c left)) =
      n.covers ∙ ap (annotations_onto notes) (tabs_covers line ∙ ap (tabs_onto tabs) k.covers) in
      record {
        covers = e;
        notes_rule = n.rule;
        rule = k.rule;
        modes = k.modes;
        within = k.within;
        depth = k.depth;
        fits = omega (arith, n.fits, k.fits);
        shorter = omega (
          arith,
          ap length e,
          annotations_wide notes (tabs_onto tabs (concept_onto tabs c left)),
          tabs_wide tabs (concept_onto tabs c left),
          concept_wide c tabs left,
        );
      }))

  blank_made : (b : Blank) (left : List ℕ) → ReadBlank s b left → ReadPiece m by deeper room s (blank_piece b) left
  unfolding body_onto body_rule body_modes body_fits body_depth body_size
  blank_made b left r = record {
    it = record {
      covers = r.covers;
      rule = and r.rule refl;
      modes = refl;
      within = refl;
      depth = omega arith;
      fits = omega arith;
    };
    shorter = r.shorter;
  }

  element_made : (a : Annotated) (left : List ℕ) (rest : Blank) (next : List ℕ) → ReadAnnotated m by deeper room s a left → ReadBlank left rest next
      → ReadPiece m by deeper room s (element_piece a rest) next
  unfolding body_onto body_rule body_modes body_fits body_depth body_size
  element_made a left rest next k r =
      record {
        it = record {
          covers = k.covers ∙ ap (λ (l : List ℕ). annotations_onto a.notes (tabs_onto a.tabs (concept_onto a.tabs a.concept l))) r.covers;
          rule = and (and (and k.notes_rule k.rule) r.rule) refl;
          modes = and k.modes refl;
          within = and k.within refl;
          depth = omega (arith, k.depth);
          fits = omega (arith, k.fits);
        };
        shorter = omega (arith, k.shorter, r.shorter);
      }

  pub piece_by_lem : Reads s (λ p left. ReadPiece m by deeper room s p left) (piece_by read room s)
  piece_by_lem =
      split (is_blank_line s)
      (λ e. rw (e, Reads) (reads_map s (λ b left. ReadBlank s b left) _ blank_piece (line_rest s) (rest_reads s) blank_made))
      (λ e. rw (e, Reads) (reads_on s (λ tabs mark. mark ≡ behind is_tab s) _ _ (tabs_only s) (only_reads s)
      (λ tabs mark t l. reads_on s (λ a left. ReadAnnotated m by deeper room s a left) _ _ (annotated_by read room s) annotated_by_lem
      (λ a left t k. reads_map s (λ b next. ReadBlank left b next) _ (element_piece a) (line_rest left) (reads_in t _ (line_rest left) (rest_reads left))
      (λ rest next r. element_made a left rest next k r)))))

-- a piece, and the body behind it
body_made : (m : Modes) (by : Bounds) (deeper room : ℕ) (s : List ℕ) (p : BodyPiece) (next : List ℕ) (inner : Body) (end : List ℕ)
    → ReadBody m by deeper room s (before p done) next
    → ReadBody m by deeper (room - body_size (before p done)) next inner end → ReadBody m by deeper room s (before p inner) end
unfolding body_onto body_rule body_modes body_fits body_depth body_size
body_made m by deeper room s (blank_piece b) next inner end r q =
    record {
      covers = r.covers ∙ ap (blank_onto b) q.covers;
      rule = and (both (blank_rule b) true r.rule).0 q.rule;
      modes = q.modes;
      within = q.within;
      depth = q.depth;
      fits = omega (arith, q.fits);
    }
body_made m by deeper room s (element_piece a rest) next inner end r q =
    let p = element_parts (all annotation_rule a.notes) (concept_rule a.concept) (blank_rule rest) true r.rule in
    record {
      covers = r.covers ∙ ap (λ (l : List ℕ). annotations_onto a.notes (tabs_onto a.tabs (concept_onto a.tabs a.concept (blank_onto rest l))))
          q.covers;
      rule = and (and (and p.0 p.1) p.2) q.rule;
      modes = and (both (concept_modes m a.concept) true r.modes).0 q.modes;
      within = and (both (concept_fits by.names by.brackets a.concept) true r.within).0 q.within;
      depth = omega (arith, r.depth, q.depth);
      fits = omega (arith, r.fits, q.fits);
    }

done_made : (m : Modes) (by : Bounds) (deeper room : ℕ) (s : List ℕ) → ReadBody m by deeper room s done s
unfolding body_onto body_rule body_modes body_fits body_depth body_size
done_made m by deeper room s = record { covers = refl; rule = refl; modes = refl; within = refl; depth = omega arith; fits = omega arith }

mutual
  unfolding concept

  pub concept_reads : (m : Modes) (by : Bounds) (fuel deeper room tabs : ℕ) (s : List ℕ)
      → Reads s (λ c left. ReadConcept m by deeper room tabs s c left) (concept m by fuel deeper room tabs s)
  concept_reads m by zero deeper room tabs s = fault_here_lem s 9 (omega arith) (omega arith)
  concept_reads m by (suc fuel) deeper room tabs s =
      reads_on s (λ o left. ReadOpening m by deeper room s o left) _ _ (opening m by deeper room s) (opening_reads m by deeper room s)
      (λ o left u p. concept_made m by deeper room tabs s o left p u (children_of m by fuel) (λ deeper room k l. children_reads m by fuel deeper room k l))

  pub children_reads : (m : Modes) (by : Bounds) (fuel deeper room : ℕ) (k : Marker) (s : List ℕ)
      → Reads s (λ c left. ReadChildren m by deeper room k s c left) (children_of m by fuel deeper room k s)
  children_reads m by zero deeper room k s = fault_here_lem s 9 (omega arith) (omega arith)
  children_reads m by (suc fuel) deeper room k s =
      reads_on s (λ b left. ReadBlank s b left) _ _ (line_rest s) (rest_reads s)
      (λ rest start t r. reads_on s (λ b left. ReadBody m by deeper room start b left) _ _ (body m by fuel deeper room start)
      (reads_in t _ (body m by fuel deeper room start) (body_reads m by fuel deeper room start))
      (λ inner mid t q. reads_on s (λ b left. behind is_tab mid ≡ closing_onto k.name left) _ _ (closing k.name (behind is_tab mid))
      (reads_in (tail_then t (tail_drop (length_in is_tab mid) mid)) _ (closing k.name (behind is_tab mid)) (closing_reads k.name (behind is_tab mid)))
      (λ b left t e. (
        t,
        record {
          rest = rest;
          inner = inner;
          back = length_in is_tab mid;
          is_children = refl;
          covers = r.covers ∙ ap (blank_onto rest) (q.covers ∙ ap (body_onto inner) (tabs_covers mid ∙ ap (tabs_onto (length_in is_tab mid)) e));
          rest_rule = r.rule;
          rule = q.rule;
          modes = q.modes;
          within = q.within;
          depth = q.depth;
          fits = q.fits;
        },
      ))))

  pub body_reads : (m : Modes) (by : Bounds) (fuel deeper room : ℕ) (s : List ℕ)
      → Reads s (λ b left. ReadBody m by deeper room s b left) (body m by fuel deeper room s)
  body_reads m by zero deeper room s = fault_here_lem s 9 (omega arith) (omega arith)
  body_reads m by (suc fuel) deeper room s =
      split (is_closing s) (λ e. rw (e, body) (whole, done_made m by deeper room s))
      (λ e. rw (e, body) (reads_on s (λ p next. ReadPiece m by deeper room s p next) _ _ (piece_by (concept m by fuel deeper) room s)
      (piece_by_lem m by deeper (concept m by fuel deeper) (λ room tabs l. concept_reads m by fuel deeper room tabs l) room s)
      (λ p next t r.
      let fewer = room - body_size (before p done) in
      reads_on s (λ inner end. ReadBody m by deeper fewer next inner end) _ _ (body m by fuel deeper fewer next)
      (reads_in t _ (body m by fuel deeper fewer next) (body_reads m by fuel deeper fewer next))
      (λ inner end t q. (t, body_made m by deeper room s p next inner end r.it q)))))

-- the same where the fuel is enough
pub annotated_reads : (m : Modes) (by : Bounds) (deeper room : ℕ) (s : List ℕ)
    → Reads s (λ a left. ReadAnnotated m by deeper room s a left) (annotated_of m by deeper room s)
annotated_reads m by deeper room s =
    annotated_by_lem m by deeper (concept_of m by deeper)
    (λ room tabs l. concept_reads m by (length l + 1) deeper room tabs l) room s

pub piece_reads : (m : Modes) (by : Bounds) (deeper room : ℕ) (s : List ℕ)
    → Reads s (λ p left. ReadPiece m by deeper room s p left) (piece_of m by deeper room s)
piece_reads m by deeper room s = piece_by_lem m by deeper (concept_of m by deeper) (λ room tabs l. concept_reads m by (length l + 1) deeper room tabs l) room s

-- ---- what stands there is found

-- what follows a name in a marker does not go on with it
module _ (k : Marker) (e : Ending) (next : List ℕ) (r : all trait_rule k.traits ≡ true) (b : all is_white k.white ≡ true) where
  abbrev Behind : List ℕ
  Behind = traits_onto k.traits (k.white ++ ending_onto e next)

  name_ends : starts_in is_name_byte Behind ≡ false
  unfolding traits_onto starts_in is_name_byte is_letter is_upper is_lower is_digit is_white is_blank is_line_end
  name_ends = go k.traits r
    where
      no_name : (b : ℕ) → is_white b ≡ true → is_name_byte b ≡ false
      no_name b w = split (is_name_byte b) (λ n. true_false (sym w ∙ name_white b n)) (λ n. n)

      ends : (white : List ℕ) → all is_white white ≡ true → starts_in is_name_byte (white ++ ending_onto e next) ≡ false
      ends [] b = ending_name e
        where
          ending_name : (e : Ending) → starts_in is_name_byte (ending_onto e next) ≡ false
          ending_name block = refl
          ending_name self = refl
      ends (c ∷ white) b = no_name c (all_head is_white c white b).0

      white_name : (white rest : List ℕ) → 0 < length white → all is_white white ≡ true → starts_in is_name_byte (white ++ rest) ≡ false
      white_name [] rest l w = absurd (omega arith)
      white_name (c ∷ white) rest l w = no_name c (all_head is_white c white w).0

      go : (ts : List Trait) → all trait_rule ts ≡ true → starts_in is_name_byte (traits_onto ts (k.white ++ ending_onto e next)) ≡ false
      go [] r = ends k.white b
      go (t ∷ ts) r =
          let p =
          trait_parts t (all_head trait_rule t ts r).0 in white_name t.white
          (t.name ++ (byte "=" ∷ value_onto t.value (traits_onto ts (k.white ++ ending_onto e next)))) p.0 p.1

  some_behind : 0 < length Behind
  some_behind = omega (arith, traits_wide k.traits (k.white ++ ending_onto e next), append_wide k.white (ending_onto e next), ending_wide e next)

admitted_complete : (m : Modes) (deeper room : ℕ) (s w left : List ℕ) → 0 < deeper → 0 < room → in_mode Absent m w ≡ false
    → admitted m deeper room s w left ≡ found w left
unfolding admitted
admitted_complete m zero room s w left d r f = absurd (omega arith)
admitted_complete m (suc deeper) room s w left d r f = rw (f, admitted) (makes_complete room (drop 1 s) w left r)

-- the facts of a marker that stands there
pub record MarkerStands (m : Modes) (by : Bounds) (deeper room : ℕ) (k : Marker) (e : Ending) : Type 0 where
  pub rule : marker_rule k ≡ true
  pub within : marker_fits by.names by.brackets k ≡ true
  pub opens : e ≡ block → opens_block k ≡ true
  pub listed : in_mode Absent m k.name ≡ false
  pub deep : 0 < deeper
  pub fits : suc (traits_size k.traits) ≤ room

pub opening_complete : (m : Modes) (by : Bounds) (deeper room : ℕ) (k : Marker) (e : Ending) (next : List ℕ) → MarkerStands m by deeper room k e
    → opening m by deeper room (marker_onto k (ending_onto e next)) ≡ found (record { marker = k; ends = e }) next
unfolding marker_fits is_name
opening_complete m by deeper room k e next p =
    let n = marker_parts k p.rule in
    let w = both (leb (length k.name) by.names) (all (trait_fits by.names by.brackets) k.traits) p.within in
    let q = rule_name is_upper k.name n.0 in
    let behind = traits_onto k.traits (k.white ++ ending_onto e next) in
    let f : traits_size k.traits ≤ room - 1 = omega (arith, p.fits) in
    rw (
      due_complete (byte "<") (k.name ++ behind),
      name_found (is_name is_upper by.names) k.name behind q.0 q.1 (and n.0 w.0)
          (some_behind k e next n.1 n.3) (name_ends k e next n.1 n.3),
      admitted_complete m deeper room (byte "<" ∷ (k.name ++ behind)) k.name behind p.deep (omega (arith, p.fits)) p.listed,
      opened_complete by (room - 1) k e next n.1 n.2 w.1 n.3 p.opens f,
    )

-- reading a Concept whose marker stands there goes on behind the marker
pub marker_complete : (m : Modes) (by : Bounds) (fuel deeper room tabs : ℕ) (k : Marker) (e : Ending) (next : List ℕ) → MarkerStands m by deeper room k e
    → concept m by (suc fuel) deeper room tabs (marker_onto k (ending_onto e next)) ≡ inside_by m (children_of m by fuel) deeper room tabs
    (record { marker = k; ends = e }) next
unfolding concept
marker_complete m by fuel deeper room tabs k e next p =
    ap (λ (x : Found Opened). and_then x (inside_by m (children_of m by fuel) deeper room tabs))
    (opening_complete m by deeper room k e next p)

-- what a mode's test says
pub mode_is : (mode : Mode) (m : Modes) (w : List ℕ) → in_mode mode m w ≡ true → mode_of m w ≡ mode
unfolding in_mode
mode_is mode m w e = go mode (mode_of m w) refl e
  where
    go : (mode found : Mode) → mode_of m w ≡ found → in_mode mode m w ≡ true → mode_of m w ≡ mode
    go Children Children f e = f
    go Children Content f e = true_false (sym e ∙ rw (f, in_mode))
    go Children Absent f e = true_false (sym e ∙ rw (f, in_mode))
    go Content Children f e = true_false (sym e ∙ rw (f, in_mode))
    go Content Content f e = f
    go Content Absent f e = true_false (sym e ∙ rw (f, in_mode))
    go Absent Children f e = true_false (sym e ∙ rw (f, in_mode))
    go Absent Content f e = true_false (sym e ∙ rw (f, in_mode))
    go Absent Absent f e = f

pub listed_children : (m : Modes) (w : List ℕ) → mode_of m w ≡ Children → in_mode Absent m w ≡ false
unfolding in_mode
listed_children m w e = rw (e, in_mode)

pub listed_content : (m : Modes) (w : List ℕ) → mode_of m w ≡ Content → (in_mode Absent m w ≡ false) × (in_mode Children m w ≡ false)
unfolding in_mode
listed_content m w e = (rw (e, in_mode), rw (e, in_mode))

-- what stands behind a body: tabs and a closing marker
closing_tab : (w next : List ℕ) → starts_in is_tab (closing_onto w next) ≡ false
unfolding starts_in
closing_tab w next = refl

closing_line : (tabs : ℕ) (w next : List ℕ) → is_closing (tabs_onto tabs (closing_onto w next)) ≡ true
unfolding starts_with
closing_line tabs w next = ap (starts_with (bytes "</")) (tabs_behind tabs (closing_onto w next) (closing_tab w next))

-- a blank line is none
blank_opens : (s : List ℕ) → is_blank_line s ≡ true → is_closing s ≡ false
unfolding is_blank is_line_end
blank_opens s b = split (is_closing s) (λ e.
    let rest = drop 1 (bytes "</") ++ drop 2 (behind is_tab s) in
    let line : s ≡ tabs_onto (length_in is_tab s) (byte "<" ∷ rest) =
    tabs_covers s ∙ ap (tabs_onto (length_in is_tab s)) (starts_is (bytes "</") (behind is_tab s) e) in
    true_false (sym b ∙ ap is_blank_line line ∙ marked_line (length_in is_tab s) (byte "<") rest refl refl)) (λ e. e)

-- a line that an element begins
pub record Begins (s : List ℕ) : Type 0 where
  pub tabs : ℕ
  pub mark : List ℕ
  pub filled : is_blank_line s ≡ false
  pub only : tabs_only s ≡ found tabs mark
  pub opens : is_closing s ≡ false

begins : (tabs b : ℕ) (rest : List ℕ) → is_blank b ≡ false → is_line_end b ≡ false → starts_in is_tab (b ∷ rest) ≡ false
    → starts_with (bytes "</") (b ∷ rest) ≡ false → Begins (tabs_onto tabs (b ∷ rest))
begins tabs b rest n l t o =
    record {
      tabs = tabs;
      mark = b ∷ rest;
      filled = marked_line tabs b rest n l;
      only = only_complete tabs b rest n;
      opens = ap (starts_with (bytes "</")) (tabs_behind tabs (b ∷ rest) t) ∙ o;
    }

name_front : (k : Marker) (rest : List ℕ) → marker_rule k ≡ true → starts_with (bytes "/") (k.name ++ rest) ≡ false
unfolding starts_with is_name_byte is_letter is_upper is_lower is_digit
name_front k rest r = let n = rule_name is_upper k.name (marker_parts k r).0 in go k.name n.0 n.1
  where
    go : (w : List ℕ) → all is_name_byte w ≡ true → 0 < length w → starts_with (bytes "/") (w ++ rest) ≡ false
    go [] a l = absurd (omega arith)
    go (b ∷ w) a l = rw (apart is_name_byte b (byte "/") (all_head is_name_byte b w a).0 refl, starts_with)

-- a Concept begins with "<" and its name
concept_front : (tabs : ℕ) (c : Concept) (next : List ℕ) → concept_rule c ≡ true
    → (rest : List ℕ) × (concept_onto tabs c next ≡ byte "<" ∷ rest) × (starts_with (bytes "/") rest ≡ false)
unfolding concept_onto concept_rule
concept_front tabs (self_closed k) next r = (_, refl, name_front k _ r)
concept_front tabs (children k rest inner back) next r =
    (_, refl, name_front k _ (element_parts (marker_rule k) (opens_block k) (blank_rule rest) (body_rule inner) r).0)
concept_front tabs (content k rest lines) next r =
    (_, refl, name_front k _ (element_parts (marker_rule k) (opens_block k) (blank_rule rest) (all line_rule lines) r).0)

-- the line that an element begins: tabs, and then "[" or "<" and a name
pub begins_element : (notes : List Annotation) (tabs : ℕ) (c : Concept) (next : List ℕ) → concept_rule c ≡ true
    → Begins (annotations_onto notes (tabs_onto tabs (concept_onto tabs c next)))
unfolding annotations_onto is_blank is_line_end starts_in starts_with
begins_element [] tabs c next r =
    let f = concept_front tabs c next r in
    rw f.1 (begins tabs (byte "<") f.0 refl refl refl f.2)
begins_element (a ∷ notes) tabs c next r =
    begins a.tabs (byte "[") (a.text ++
    (byte "]" ∷ blank_onto a.rest (annotations_onto notes (tabs_onto tabs (concept_onto tabs c next))))) refl refl refl refl

-- the line of a Concept: its tabs, what stands behind them, and that no annotation does
module _ (tabs : ℕ) (c : Concept) (next : List ℕ) (r : concept_rule c ≡ true) where
  no_tab : starts_in is_tab (concept_onto tabs c next) ≡ false
  unfolding starts_in
  no_tab = let f = concept_front tabs c next r in ap (starts_in is_tab) f.1

  pub concept_tabs : length_in is_tab (tabs_onto tabs (concept_onto tabs c next)) ≡ tabs
  concept_tabs = tabs_length tabs (concept_onto tabs c next) no_tab

  pub concept_behind : behind is_tab (tabs_onto tabs (concept_onto tabs c next)) ≡ concept_onto tabs c next
  concept_behind = tabs_behind tabs (concept_onto tabs c next) no_tab

  pub no_annotation : starts_with (bytes "[") (behind is_tab (tabs_onto tabs (concept_onto tabs c next))) ≡ false
  unfolding starts_with
  no_annotation = let f = concept_front tabs c next r in ap (starts_with (bytes "[")) (concept_behind ∙ f.1)

-- a Concept with its annotations is found where its Concept is
pub annotated_complete : (read : ℕ → ℕ → List ℕ → Found Concept) (room : ℕ) (notes : List Annotation) (tabs : ℕ) (c : Concept) (next : List ℕ)
    → all annotation_rule notes ≡ true → concept_rule c ≡ true → length notes ≤ room → read (room - length notes) tabs (concept_onto tabs c next) ≡ found c next
    → annotated_by read room (annotations_onto notes (tabs_onto tabs (concept_onto tabs c next))) ≡ found (record { notes = notes; tabs = tabs; concept = c }) next
annotated_complete read room notes tabs c next n r f e =
    rw (
      annotations_complete room notes (tabs_onto tabs (concept_onto tabs c next)) n f (no_annotation tabs c next r),
      concept_behind tabs c next r,
      concept_tabs tabs c next r,
      e,
    )

-- what stands behind an element's Concept is the end of its line
pub blank_ends : (b : Blank) (next : List ℕ) → blank_rule b ≡ true → at_line_end (behind is_blank (blank_onto b next)) ≡ true
unfolding at_line_end is_line_end
blank_ends b next r = ap at_line_end (behind_of is_blank b.blanks (line_end_onto b.end next) r (ends_blank b.end next)) ∙ go b.end
  where
    go : (e : LineEnd) → at_line_end (line_end_onto e next) ≡ true
    go LF = refl
    go CRLF = refl

-- the pieces of a body are found
blank_piece_lem : (read : ℕ → ℕ → List ℕ → Found Concept) (room : ℕ) (b : Blank) (next : List ℕ) → blank_rule b ≡ true
    → piece_by read room (blank_onto b next) ≡ found (blank_piece b) next
blank_piece_lem read room b next r = when_true (is_blank_line (blank_onto b next)) _ _ (blank_line_lem b next r) ∙ rw (rest_complete b next r)

element_piece_lem : (read : ℕ → ℕ → List ℕ → Found Concept) (room : ℕ) (a : Annotated) (rest : Blank) (next : List ℕ) → all annotation_rule a.notes ≡ true
    → concept_rule a.concept ≡ true → blank_rule rest ≡ true
    → length a.notes ≤ room → read (room - length a.notes) a.tabs (concept_onto a.tabs a.concept (blank_onto rest next)) ≡ found a.concept
    (blank_onto rest next)
    → piece_by read room (annotations_onto a.notes (tabs_onto a.tabs (concept_onto a.tabs a.concept (blank_onto rest next)))) ≡ found
    (element_piece a rest) next
element_piece_lem read room a rest next n r b f e =
    let g = begins_element a.notes a.tabs a.concept (blank_onto rest next) r in
    when_false (is_blank_line _) _ _ g.filled
    ∙ rw (g.only, annotated_complete read room a.notes a.tabs a.concept (blank_onto rest next) n r f e, rest_complete rest next b)

pub marker_name_lem : (k : Marker) → marker_rule k ≡ true → name_rule is_upper k.name ≡ true
marker_name_lem k r = (marker_parts k r).0

pub no_self : {X : Type 0} → self ≡ block → X
no_self e = let z : ◌≡◌ {A = ℕ} 0 1 = cc in absurd (omega arith)

mutual
  unfolding concept_onto concept_rule concept_modes concept_fits concept_depth concept_size concept

  pub concept_complete : (m : Modes) (by : Bounds) (c : Concept) (fuel deeper room tabs : ℕ) (next : List ℕ) → concept_rule c ≡ true → concept_modes m c ≡ true
      → concept_fits by.names by.brackets c ≡ true → concept_depth c ≤ deeper → concept_size c ≤ room → at_line_end (behind is_blank next) ≡ true
      → length (concept_onto tabs c next) < fuel → concept m by fuel deeper room tabs (concept_onto tabs c next) ≡ found c next
  concept_complete m by c zero deeper room tabs next r o w d f e l = absurd (omega arith)
  concept_complete m by (self_closed k) (suc fuel) deeper room tabs next r o w d f e l =
      marker_complete m by fuel deeper room tabs k self next
      (record { rule = r; within = w; opens = λ q. no_self q; listed = not-true (in_mode Absent m k.name) o; deep = d; fits = f })
  concept_complete m by (content k rest lines) (suc fuel) deeper room tabs next r o w d f e l =
      let p = element_parts (marker_rule k) (opens_block k) (blank_rule rest) (all line_rule lines) r in
      let i = listed_content m k.name (mode_is Content m k.name o) in
      marker_complete m by fuel deeper room tabs k block (blank_onto rest (lines_onto tabs lines (tabs_onto tabs (closing_onto k.name next))))
      (record { rule = p.0; within = w; opens = λ q. p.1; listed = i.0; deep = d; fits = omega arith })
      ∙ when_false (in_mode Children m k.name) _ _ i.1
      ∙ content_complete tabs (room - 1 - traits_size k.traits) k rest lines next p.2 p.3 (omega arith) e
  concept_complete m by (children k rest inner back) (suc fuel) deeper room tabs next r o w d f e l =
      let p = element_parts (marker_rule k) (opens_block k) (blank_rule rest) (body_rule inner) r in
      let v = both (in_mode Children m k.name) (body_modes m inner) o in
      let q = both (marker_fits by.names by.brackets k) (body_fits by.names by.brackets inner) w in
      let behind = blank_onto rest (body_onto inner (tabs_onto back (closing_onto k.name next))) in
      marker_complete m by fuel deeper room tabs k block behind
      (record {
        rule = p.0;
        within = q.0;
        opens = λ q. p.1;
        listed = listed_children m k.name (mode_is Children m k.name v.0);
        deep = omega arith;
        fits = omega arith;
      })
      ∙ when_true (in_mode Children m k.name) _ _ v.0
      ∙ children_complete m by k rest inner back fuel (deeper - 1) (room - 1 - traits_size k.traits) next
      (rule_name is_upper k.name (marker_name_lem k p.0)) p.2 p.3 v.1 q.1 (omega arith) (omega arith)
      (omega (arith, marker_wide k block behind, (rule_name is_upper k.name (marker_name_lem k p.0)).1))

  pub children_complete : (m : Modes) (by : Bounds) (k : Marker) (rest : Blank) (inner : Body) (back fuel deeper room : ℕ) (next : List ℕ)
      → (all is_name_byte k.name ≡ true) × (0 < length k.name) → blank_rule rest ≡ true → body_rule inner ≡ true → body_modes m inner ≡ true
      → body_fits by.names by.brackets inner ≡ true → body_depth inner ≤ deeper → body_size inner ≤ room
      → length (blank_onto rest (body_onto inner (tabs_onto back (closing_onto k.name next)))) + 2 < fuel
      → children_of m by fuel deeper room k (blank_onto rest (body_onto inner (tabs_onto back (closing_onto k.name next)))) ≡ found
      (children k rest inner back) next
  children_complete m by k rest inner back zero deeper room next n b r o w d f l = absurd (omega arith)
  children_complete m by k rest inner back (suc fuel) deeper room next n b r o w d f l =
      let end = tabs_onto back (closing_onto k.name next) in
      let mark = closing_onto k.name next in
      rw (
        rest_complete rest (body_onto inner end) b,
        body_complete m by inner fuel deeper room end r o w d f (closing_line back k.name next) (omega (arith, blank_wide rest (body_onto inner end))),
        tabs_behind back mark (closing_tab k.name next),
        closing_complete k.name next n.0 n.1,
        tabs_length back mark (closing_tab k.name next),
      )

  pub body_complete : (m : Modes) (by : Bounds) (b : Body) (fuel deeper room : ℕ) (next : List ℕ) → body_rule b ≡ true → body_modes m b ≡ true
      → body_fits by.names by.brackets b ≡ true → body_depth b ≤ deeper → body_size b ≤ room → is_closing next ≡ true → length (body_onto b next) + 1 < fuel
      → body m by fuel deeper room (body_onto b next) ≡ found b next
  body_complete m by b zero deeper room next r o w d f e l = absurd (omega arith)
  body_complete m by done (suc fuel) deeper room next r o w d f e l = when_true (is_closing next) _ _ e
  body_complete m by (blank_line b inner) (suc fuel) deeper room next r o w d f e l =
      let p = both (blank_rule b) (body_rule inner) r in
      let left = body_onto inner next in
      when_false (is_closing (blank_onto b left)) _ _ (blank_opens (blank_onto b left) (blank_line_lem b left p.0))
      ∙ rw (
        blank_piece_lem (concept m by fuel deeper) room b left p.0,
        body_complete m by inner fuel deeper (room - 0) next p.1 o w d (omega arith) e (omega (arith, blank_wide b left)),
      )
  body_complete m by (element notes tabs c rest inner) (suc fuel) deeper room next r o w d f e l =
      let p = element_parts (all annotation_rule notes) (concept_rule c) (blank_rule rest) (body_rule inner) r in
      let v = both (concept_modes m c) (body_modes m inner) o in
      let q = both (concept_fits by.names by.brackets c) (body_fits by.names by.brackets inner) w in
      let left = body_onto inner next in
      let start = concept_onto tabs c (blank_onto rest left) in
      let line = tabs_onto tabs start in
      let g = begins_element notes tabs c (blank_onto rest left) p.1 in
      when_false (is_closing (annotations_onto notes line)) _ _ g.opens
      ∙ rw (
        element_piece_lem (concept m by fuel deeper) room (record {
          notes =
              notes;
          tabs = tabs;
          concept = c;
        }) rest left p.0 p.1 p.2 (omega arith)
            (concept_complete m by c fuel deeper (room - length notes) tabs (blank_onto rest left) p.1 v.0 q.0 (omega arith) (omega arith)
            (blank_ends rest left p.2) (omega (arith, tabs_wide tabs start, annotations_wide notes line))),
        body_complete m by inner fuel deeper (room - (length notes + concept_size c + 0)) next p.3 v.1 q.1 (omega arith) (omega arith) e
            (omega (arith, concept_wide c tabs (blank_onto rest left), tabs_wide tabs start, annotations_wide notes line, blank_wide rest left)),
      )
