-- The starred sheets of document 01, "Sheets to try", then those of document 02: one statement over one list, by computation.
-- Of the reading and the canonical form as the definitions say them (`starred`), and so of the grammar itself (`starred_derived`).
use Prim.Native.Nat.{ℕ, zero, suc, ◌-◌}
use Prim.Native.String.{String}
use mathlib.Core.Path.{◌≡◌, refl, sym, ap, ◌∙◌}
use mathlib.Core.List.{List, [], ◌∷◌, ◌++◌, map}
use mathlib.Core.Logic.{⊎_elim}
use native.Mathlib.Omega.{arith}
use lib.ListN.{length, replicate}
use Rattle.paper.specs.Answer.{accepted, refused}
use Rattle.paper.specs.declared.Told.{Told}
use Rattle.paper.specs.Found.{found, fault, many}
use Rattle.paper.specs.Bytes
use Rattle.paper.specs.Names
use Rattle.paper.specs.Modes
use Rattle.paper.specs.Times
use Rattle.paper.specs.Values
use Rattle.paper.specs.Grammar
use Rattle.paper.specs.Entries
use Rattle.paper.specs.ReadingValues
use Rattle.paper.specs.Reading
use Rattle.paper.specs.Canonical
use Rattle.paper.proofs.Tables.{table_back}
use Rattle.paper.proofs.Exactly.{Accepts, Exactly, Accepted, refused_otherwise, accepted_exactly, sheet_accepts}

-- Lab in children mode, Steps in content mode
unfoldable pub table : List ℕ
table = 0x01 ∷ 0x03 ∷ 0x4C ∷ 0x61 ∷ 0x62 ∷ 0x01 ∷ 0x05 ∷ 0x53 ∷ 0x74 ∷ 0x65 ∷ 0x70 ∷ 0x73 ∷ []

abbrev pub utf8 : String → List ℕ
utf8 s = Bytes.encode_all (Bytes.bytes s)

-- what a sheet gives: the answer, every lent cell, and the canonical form, which is empty where it is refused
pub record Seen : Type 0 where
  pub answer : Told
  pub cells : List ℕ
  pub form : List ℕ

-- a sheet with the cells lent, and what it should give; the cells after its entries are zero
pub record Case : Type 0 where
  pub sheet : String
  pub lent : ℕ
  pub answer : Told
  pub entries : List ℕ
  pub form : String

unfoldable pub form_of : ℕ → List ℕ → List ℕ
form_of lent s =
    elim (Modes.mode_table table) [
      | fault n left ↦ []
      | found m left ↦
          elim (Reading.sheet_of m (Reading.room_of lent) s) [ fault n left ↦ [] | found t left ↦ Canonical.canonical t ]
    ]

unfoldable pub seen : Case → Seen
seen k =
    let s = utf8 k.sheet in
    record { answer = (Reading.reading table s k.lent).answer; cells = (Reading.reading table s k.lent).cells; form = form_of k.lent s }

abbrev pub due : Case → Seen
due k = record { answer = k.answer; cells = k.entries ++ replicate (k.lent - length k.entries) 0; form = utf8 k.form }

abbrev pub refused_case : String → Told → Case
refused_case s told = record { sheet = s; lent = 24; answer = told; entries = []; form = "" }

unfoldable pub cases : List Case
cases =
    refused_case "" (refused 9 0) ∷ refused_case "<Lab>" (refused 9 5) ∷ refused_case "<Lab n=04 />" (refused 6 7) ∷ refused_case "<LABs />" (refused 4 1)
    ∷ refused_case "<LAb />" (refused 5 1) ∷ refused_case "<Lab>\n</Steps>" (refused 8 8)
    ∷ record { sheet = "<Lab/>"; lent = 8; answer = accepted 6 1; entries = 1 ∷ 1 ∷ 4294967295 ∷ 0 ∷ 1 ∷ 4 ∷ 0 ∷ 6 ∷ []; form = "<Lab />\n" }
    ∷ record {
      sheet = "<Lab u=x:y/>";
      lent = 24;
      answer = accepted 12 2;
      entries = 1 ∷ 1 ∷ 4294967295 ∷ 1 ∷ 1 ∷ 4 ∷ 0 ∷ 12 ∷ 2 ∷ 11 ∷ 0 ∷ 0 ∷ 5 ∷ 6 ∷ 7 ∷ 10 ∷ [];
      form = "<Lab u=x:y />\n";
    }
    ∷ record {
      sheet = "<Lab u=x:y/ >\n</Lab>";
      lent = 17;
      answer = accepted 20 2;
      entries = 1 ∷ 2 ∷ 4294967295 ∷ 1 ∷ 1 ∷ 4 ∷ 0 ∷ 20 ∷ 2 ∷ 11 ∷ 0 ∷ 0 ∷ 5 ∷ 6 ∷ 7 ∷ 11 ∷ [];
      form = "<Lab u=x:y/ >\n</Lab>\n";
    }
    ∷ record {
      sheet = "<Lab  n=4>\n<Steps>\n\tboot 7\n</Steps>\n</Lab>";
      lent = 8192;
      answer = accepted 42 4;
      entries =
          1 ∷ 2 ∷ 4294967295 ∷ 2 ∷ 1 ∷ 4 ∷ 0 ∷ 42 ∷ 2 ∷ 4 ∷ 0 ∷ 0 ∷ 6 ∷ 7 ∷ 8 ∷ 9
          ∷ 1 ∷ 3 ∷ 0 ∷ 1 ∷ 12 ∷ 17 ∷ 11 ∷ 35 ∷ 5 ∷ 0 ∷ 2 ∷ 0 ∷ 19 ∷ 19 ∷ 19 ∷ 27 ∷ [];
      form = "<Lab n=4>\n\t<Steps>\n\t\tboot 7\n\t</Steps>\n</Lab>\n";
    }
    -- request One: a mark and a space in an address, one that hides the next trait, and a cut word; a string keeps them, an address U+200B
    ∷ refused_case "<Lab u=x:\u{200f} />" (refused 6 7) ∷ refused_case "<Lab u=x:\u{3000} />" (refused 6 7)
    ∷ refused_case "<Lab u=x:a\u{a0}b=1 />" (refused 6 7) ∷ refused_case "<Lab u=x:\u{200f}" (refused 9 12)
    ∷ record {
      sheet = "<Lab u=\"\u{200f}\u{3000}\" />";
      lent = 16;
      answer = accepted 18 2;
      entries = 1 ∷ 1 ∷ 4294967295 ∷ 1 ∷ 1 ∷ 4 ∷ 0 ∷ 18 ∷ 2 ∷ 1 ∷ 0 ∷ 0 ∷ 5 ∷ 6 ∷ 7 ∷ 15 ∷ [];
      form = "<Lab u=\"\u{200f}\u{3000}\" />\n";
    }
    ∷ record {
      sheet = "<Lab u=x:\u{200b} />";
      lent = 16;
      answer = accepted 15 2;
      entries = 1 ∷ 1 ∷ 4294967295 ∷ 1 ∷ 1 ∷ 4 ∷ 0 ∷ 15 ∷ 2 ∷ 11 ∷ 0 ∷ 0 ∷ 5 ∷ 6 ∷ 7 ∷ 12 ∷ [];
      form = "<Lab u=x:\u{200b} />\n";
    }
    -- request Two: a day that there is and one that there is not, up to the first "}" and without one, something behind it, and in a list
    ∷ record {
      sheet = "<Lab n={0000-02-29}/>";
      lent = 16;
      answer = accepted 21 2;
      entries = 1 ∷ 1 ∷ 4294967295 ∷ 1 ∷ 1 ∷ 4 ∷ 0 ∷ 21 ∷ 2 ∷ 13 ∷ 0 ∷ 0 ∷ 5 ∷ 6 ∷ 7 ∷ 19 ∷ [];
      form = "<Lab n={0000-02-29} />\n";
    }
    ∷ refused_case "<Lab n={1900-02-29} />" (refused 6 7) ∷ refused_case "<Lab n={now />\n}" (refused 6 7)
    ∷ refused_case "<Lab n={ x />\n</Lab>\n" (refused 9 21) ∷ refused_case "<Lab n={now}x />" (refused 7 12)
    ∷ refused_case "<Lab n=[{now}x] />" (refused 6 13) ∷ refused_case "<Lab n=x:{now} />" (refused 6 7)
    ∷ record {
      sheet = "<Lab n=[{now},{P1DT2.5H}] />";
      lent = 32;
      answer = accepted 28 4;
      entries =
          1 ∷ 1 ∷ 4294967295 ∷ 1 ∷ 1 ∷ 4 ∷ 0 ∷ 28 ∷ 2 ∷ 12 ∷ 0 ∷ 2 ∷ 5 ∷ 6 ∷ 7 ∷ 25
          ∷ 3 ∷ 13 ∷ 1 ∷ 0 ∷ 8 ∷ 8 ∷ 8 ∷ 13 ∷ 3 ∷ 13 ∷ 1 ∷ 0 ∷ 14 ∷ 14 ∷ 14 ∷ 24 ∷ [];
      form = "<Lab n=[{now}, {P1DT2.5H}] />\n";
    }
    -- request Four: a bad escape, a line end, a second scalar and none, a word, a time, and where a comma or "]" was due: in a trait, then inside two lists
    ∷ refused_case "<Lab n=\"a\\q\" />" (refused 6 9) ∷ refused_case "<Lab n=\"a\n" (refused 6 9) ∷ refused_case "<Lab n='a\n" (refused 6 9)
    ∷ refused_case "<Lab n='ab' />" (refused 6 9) ∷ refused_case "<Lab n='' />" (refused 6 8) ∷ refused_case "<Lab n=-04 />" (refused 6 7)
    ∷ refused_case "<Lab n={noon} />" (refused 6 7) ∷ refused_case "<Lab n=[1 ] />" (refused 6 9)
    ∷ refused_case "<Lab n=[[1],[2,\"a\\q\"]] />" (refused 6 17) ∷ refused_case "<Lab n=[[1],[2,\"a\n" (refused 6 17)
    ∷ refused_case "<Lab n=[[1],[2,'a\n" (refused 6 17) ∷ refused_case "<Lab n=[[1],[2,'ab']] />" (refused 6 17)
    ∷ refused_case "<Lab n=[[1],[2,'']] />" (refused 6 16) ∷ refused_case "<Lab n=[[1],[2,04]] />" (refused 6 15)
    ∷ refused_case "<Lab n=[[1],[2,{noon}]] />" (refused 6 15) ∷ refused_case "<Lab n=[[1],[2 ]] />" (refused 6 14)
    -- request Five: an empty tuple, a bad key and a cut one, no colon, a word that "]" does not end, no bracket, a ninth one, and a key that has no entry left
    ∷ refused_case "<Lab n=() />" (refused 6 8) ∷ refused_case "<Lab n=map[\"x\\q\":1] />" (refused 6 11) ∷ refused_case "<Lab n=map[A" (refused 9 12)
    ∷ refused_case "<Lab n=map[a] />" (refused 6 12) ∷ refused_case "<Lab n=(1] />" (refused 6 8) ∷ refused_case "<Lab n=set [1] />" (refused 6 7)
    ∷ refused_case "<Lab n=[[[[[[[[set[1]]]]]]]]] />" (refused 10 18)
    ∷ record { sheet = "<Lab n=map[a:1] />"; lent = 16; answer = refused 11 11; entries = []; form = "" }
    ∷ record {
      sheet = "<Lab n=map[\"k\":set[1],b: (x:a])] />";
      lent = 48;
      answer = accepted 35 6;
      entries =
          1 ∷ 1 ∷ 4294967295 ∷ 1 ∷ 1 ∷ 4 ∷ 0 ∷ 35 ∷ 2 ∷ 15 ∷ 0 ∷ 2 ∷ 5 ∷ 6 ∷ 7 ∷ 32
          ∷ 3 ∷ 14 ∷ 1 ∷ 1 ∷ 11 ∷ 14 ∷ 15 ∷ 21 ∷ 3 ∷ 4 ∷ 2 ∷ 0 ∷ 19 ∷ 19 ∷ 19 ∷ 20
          ∷ 3 ∷ 16 ∷ 1 ∷ 1 ∷ 22 ∷ 23 ∷ 25 ∷ 31 ∷ 3 ∷ 11 ∷ 4 ∷ 0 ∷ 26 ∷ 26 ∷ 26 ∷ 30 ∷ [];
      form = "<Lab n=map[\"k\": set[1], b: (x:a])] />\n";
    }
    -- request Six: a name that stands again, before what follows it and its value, with no entry left for the first and for the second; a cut and a bad one; and another
    ∷ refused_case "<Lab n=1 n>" (refused 18 9) ∷ refused_case "<Lab n=1 n=04 />" (refused 18 9)
    ∷ record { sheet = "<Lab n=1 n=9 />"; lent = 8; answer = refused 11 5; entries = []; form = "" }
    ∷ record { sheet = "<Lab n=1 n=9 />"; lent = 16; answer = refused 18 9; entries = []; form = "" }
    ∷ refused_case "<Lab n=1 n" (refused 9 10) ∷ refused_case "<Lab n=1 nABC=1 />" (refused 4 9)
    ∷ record {
      sheet = "<Lab n=1 nN=2 />";
      lent = 24;
      answer = accepted 16 3;
      entries =
          1 ∷ 1 ∷ 4294967295 ∷ 2 ∷ 1 ∷ 4 ∷ 0 ∷ 16 ∷ 2 ∷ 4 ∷ 0 ∷ 0 ∷ 5 ∷ 6 ∷ 7 ∷ 8
          ∷ 2 ∷ 4 ∷ 0 ∷ 0 ∷ 9 ∷ 11 ∷ 12 ∷ 13 ∷ [];
      form = "<Lab n=1 nN=2 />\n";
    }
    ∷ []

pub starred : map seen cases ≡ map due cases
unfolding table cases form_of seen many
    Bytes.is_upper Bytes.is_lower Bytes.is_digit Bytes.is_letter Bytes.is_name_byte Bytes.is_hex Bytes.is_blank
    Bytes.is_line_end Bytes.is_white Bytes.all Bytes.starts_in Bytes.elem Bytes.length_in Bytes.same Bytes.starts_with
    Bytes.row_of Bytes.follower Bytes.scalar Bytes.is_scalar Bytes.encode Bytes.encode_all Bytes.may_stand Bytes.scalars
    Bytes.sheet_bytes
    Names.few_capitals Names.name_rule Names.is_name Names.among
    Modes.table_names Modes.section Modes.wholly Modes.mode_table Modes.read_table Modes.mode_of
    Values.piece_onto Values.pieces_onto Values.hex_digit Values.hex_value Values.spells_scalar Values.piece_rule
    Values.letter_means Values.piece_means Values.pieces_mean Values.one_scalar Values.backtick_rule Values.collapse
    Times.parted Times.perhaps Times.digits Times.number_from Times.two_digits Times.is_leap Times.days_of Times.is_day_of
    Times.is_date Times.is_year_month Times.is_time Times.is_local Times.is_offset Times.is_zone_byte Times.is_zone_name Times.is_zone
    Times.is_zoned_time Times.is_zoned Times.are_parts Times.is_span Times.is_duration Times.is_reserved Times.first_fit
    Values.is_token Values.hex_groups Bytes.are_digits Values.is_count Values.unsigned Values.is_decimal
    Values.is_scientific Values.is_fraction Values.in_ranges Values.is_iri_scalar Values.is_iri_body Values.is_scheme Values.is_iri
    Values.is_bare Values.is_key_form Values.key_onto Values.label_onto Values.key_rule Values.label_rule
    Values.word_form Values.is_ender Values.ends_word Values.leaf_onto Values.value_onto Values.leaf_rule Values.value_rule
    Values.ends_in_slash Values.bracket_depth
    Grammar.blanks_onto Grammar.annotations_onto Grammar.traits_onto Grammar.lines_onto Grammar.concept_onto
    Grammar.sheet_onto Grammar.annotation_text Grammar.annotation_rule Grammar.trait_rule Grammar.marker_rule
    Grammar.slash_last Grammar.opens_block Grammar.in_mode Grammar.concept_rule Grammar.sheet_rule
    Entries.all_cells Entries.items_of Entries.item_size Entries.item_entries Entries.traits_size Entries.trait_entries
    Entries.annotation_entries Entries.concept_size Entries.body_count Entries.inside_entries Entries.sheet_size
    Entries.entries Entries.filled
    ReadingValues.judged ReadingValues.four_digits ReadingValues.braced_digits ReadingValues.escape
    ReadingValues.inside_of ReadingValues.piece_turn ReadingValues.close_character ReadingValues.character_of
    ReadingValues.backtick_turn ReadingValues.word_length ReadingValues.word_of ReadingValues.temporal_of ReadingValues.first_of
    ReadingValues.leaf_of ReadingValues.opens_with ReadingValues.key_word ReadingValues.key_of ReadingValues.colon ReadingValues.label_of
    ReadingValues.value
    Reading.line_end Reading.blank_turn Reading.no_space Reading.name_of Reading.due Reading.makes Reading.text_of
    Reading.annotation Reading.annotation_turn Reading.enters Reading.fresh Reading.trait Reading.trait_due Reading.trait_turn
    Reading.ending Reading.opened Reading.admitted Reading.closing Reading.at_line_end Reading.closes_line
    Reading.text_line Reading.other_line Reading.line_turn Reading.content_of Reading.concept Reading.last_blanks
    Reading.sheet_tree Reading.sheet_of Reading.reading
    Canonical.lower Canonical.leaf_sense Canonical.key_sense Canonical.label_sense Canonical.value_sense Canonical.concept_sense Canonical.meaning
    Canonical.hex_onto Canonical.byte_onto Canonical.bytes_onto Canonical.print_leaf Canonical.print_label Canonical.print_value Canonical.print_beside
    Canonical.print_below Canonical.last_in_slash Canonical.print_marker Canonical.print_notes Canonical.print_line
    Canonical.print_lines Canonical.print_concept Canonical.print
starred = refl

-- ---- the same about the grammar itself

-- an accepted case: a tree derives the sheet within the limits and the room; its entries, laid into the lent cells, and its form are those due
pub record Derived (k : Case) : Type 0 where
  pub list : List Entries.Entry
  pub exactly : Exactly table (utf8 k.sheet) k.lent list
  pub count : length list ≡ k.answer.count
  pub cells : Entries.filled k.lent list ≡ (due k).cells
  pub form : Canonical.canonical exactly.tree ≡ utf8 k.form

-- a refused case: no tree does
abbrev pub Underived : Case → Type 0
Underived k = (es : List Entries.Entry) → Exactly table (utf8 k.sheet) k.lent es → ⊥

-- one or the other, by the number due
abbrev pub Judged : ℕ → Case → Type 0
Judged zero k = Derived k
Judged (suc n) k = Underived k

abbrev pub Stands : Case → Type 0
Stands k = Judged k.answer.number k

abbrev pub Each : (Case → Type 0) → List Case → Type 0
Each P [] = Unit {0}
Each P (k ∷ ks) = P k × Each P ks

each_of : (f g : Case → Seen) (P : Case → Type 0) → ((k : Case) → f k ≡ g k → P k) → (ks : List Case) → map f ks ≡ map g ks → Each P ks
each_of f g P h [] e = tt
each_of f g P h (k ∷ ks) e =
    let first : f k ≡ g k = cc in
    let others : map f ks ≡ map g ks = cc in
    (h k first, each_of f g P h ks others)

-- the form of what is accepted is that of its tree
form_is : (k : Case) (es : List Entries.Entry) (x : Exactly table (utf8 k.sheet) k.lent es) → (seen k).form ≡ Canonical.canonical x.tree
unfolding seen form_of
form_is k es x =
    let room = Reading.room_of k.lent in
    let s = utf8 k.sheet in
    let a : Accepts x.modes room s x.tree = record { derives = x.derives; limits = x.limits; fit = omega (arith, x.fit, ap length x.are) } in
    rw (table_back table x.modes x.valid, form_of, sheet_accepts x.modes room s x.tree a)

-- what is seen to be due is so of the grammar
case_stands : (k : Case) → seen k ≡ due k → Stands k
unfolding seen
case_stands k e = go k.answer.number refl
  where
    s : List ℕ
    s = utf8 k.sheet

    number : (Reading.reading table s k.lent).answer.number ≡ k.answer.number
    number = ap (λ (x : Seen). x.answer.number) e

    derived : Accepted table s k.lent → Derived k
    derived a =
        record {
          list = a.list;
          exactly = a.exactly;
          count = sym (ap (λ (x : Reading.Reading). x.answer.count) a.is) ∙ ap (λ (x : Seen). x.answer.count) e;
          cells = sym (ap (λ (x : Reading.Reading). x.cells) a.is) ∙ ap (λ (x : Seen). x.cells) e;
          form = sym (form_is k a.list a.exactly) ∙ ap (λ (x : Seen). x.form) e;
        }

    go : (n : ℕ) → k.answer.number ≡ n → Judged n k
    go zero z =
        ⊎_elim derived
        (λ r. absurd (omega (arith, number, r.least, ap (λ (x : Reading.Reading). x.answer.number) r.is)))
        (refused_otherwise table s k.lent)
    go (suc m) z = λ es x. omega (arith, number, ap (λ (x : Reading.Reading). x.answer.number) ((accepted_exactly table s k.lent es).1 x))

-- for each of the sheets: accepted, it is derived, with these entries and this form; refused, it is not
pub starred_derived : Each Stands cases
starred_derived = each_of seen due Stands case_stands cases starred
