-- Lines of Content and their text.
-- Document 01, "The grammar", Content: a line that holds only spaces and tabs has empty text.
use Rattle.std.specs.Prelude.{ℕ, suc, ◌-◌, ◌≤◌, ◌<◌, ◌≡◌, true, List, [], ◌++◌, map, length, take, drop}
use Rattle.paper.specs.Found.{pick}
use Rattle.paper.specs.Bytes.{is_blank, all}
use Rattle.paper.specs.Tree.{LineEnd, Line}
use Rattle.paper.specs.Grammar.{line_end_onto, line_onto, lines_onto, line_rule}
use Rattle.paper.specs.Canonical.{line_sense, print_line, print_lines}
use Rattle.quoting.specs.declared.page.Page.{Page}
use Rattle.quoting.specs.Page.{Puts}

abbrev pub inked : List ℕ → List ℕ
inked t = pick (all is_blank t) [] t

-- behind a line's end that stands at `at`
pub record PastEnd (s : List ℕ) (at next : ℕ) : Type 0 where
  pub on : at < next
  pub left : (e : LineEnd) (rest : List ℕ) → drop at s ≡ line_end_onto e rest → drop next s ≡ rest

-- the line from a place up to the next one is printed as it stands, where its text stays at its depth
pub record LineStays (s : List ℕ) (at next : ℕ) : Type 0 where
  pub inside : next ≤ length s
  pub same : (t : ℕ) (l : Line) (left : List ℕ) → drop at s ≡ line_onto t l left → line_rule l ≡ true
      → (drop next s ≡ left) × ((more : List ℕ) → print_line (suc t) (line_sense l) more ≡ take (next - at) (drop at s) ++ more)

-- what is left of such lines behind those from a place up to the next, which are printed as they stand
pub record Staying (t tabs : ℕ) (ls : List Line) (s : List ℕ) (at next : ℕ) : Type 0 where
  pub left : List Line
  pub stands : drop next s ≡ lines_onto t left []
  pub kept : all line_rule left ≡ true
  pub same : (more : List ℕ) → print_lines tabs (map line_sense ls) more ≡ take (next - at) (drop at s) ++ print_lines tabs (map line_sense left) more

-- whole lines from a place up to the next are printed as they stand: lines whose text stands behind so many tabs, with their text at so many
pub record LinesStay (s : List ℕ) (cut tabs at next : ℕ) : Type 0 where
  pub on : at ≤ next
  pub inside : next ≤ length s
  pub rest : (t : ℕ) (ls : List Line) → drop at s ≡ lines_onto t ls [] → cut ≡ suc t → all line_rule ls ≡ true → Staying t tabs ls s at next

-- these lines were put, whose text stands behind so many tabs, with their text at so many
abbrev pub LinesPut : List ℕ → ℕ → ℕ → Page → Page → Type 0
LinesPut lines cut tabs before after =
    (t : ℕ) (ls : List Line) → lines ≡ lines_onto t ls [] → cut ≡ suc t → all line_rule ls ≡ true → Puts before (print_lines tabs (map line_sense ls)) after
