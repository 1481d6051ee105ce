-- The limits of length, names and nesting, as rules apart from the grammar.
-- Document 01, "Sizes".
use Rattle.std.specs.Prelude.{ℕ, suc, max, Bool, true, ◌&&◌, List, length, leb}
use Rattle.paper.specs.Bytes.{all}
use Rattle.paper.specs.Names.{name_limit}
use Rattle.paper.specs.Values.{bracket_depth}
use Rattle.paper.specs.Tree.{Trait, Marker, Concept, self_closed, children, content, Body, done, blank_line, element, Sheet}

abbrev pub sheet_limit : ℕ
sheet_limit = 16384

abbrev pub entry_limit : ℕ
entry_limit = 1024

abbrev pub concept_limit : ℕ
concept_limit = 32

abbrev pub bracket_limit : ℕ
bracket_limit = 8

-- a trait's name is short, and no more brackets stand in one another than are allowed
unfoldable pub trait_fits : ℕ → ℕ → Trait → Bool
trait_fits names brackets t = leb (length t.name) names && leb (bracket_depth t.value) brackets

unfoldable pub marker_fits : ℕ → ℕ → Marker → Bool
marker_fits names brackets k = leb (length k.name) names && all (trait_fits names brackets) k.traits

unfoldable mutual
  pub concept_fits : ℕ → ℕ → Concept → Bool
  concept_fits names brackets (self_closed k) = marker_fits names brackets k
  concept_fits names brackets (children k rest body back) = marker_fits names brackets k && body_fits names brackets body
  concept_fits names brackets (content k rest lines) = marker_fits names brackets k

  pub body_fits : ℕ → ℕ → Body → Bool
  body_fits names brackets done = true
  body_fits names brackets (blank_line b body) = body_fits names brackets body
  body_fits names brackets (element notes tabs c rest body) = concept_fits names brackets c && body_fits names brackets body

-- how many Concepts stand in one another
unfoldable mutual
  pub concept_depth : Concept → ℕ
  concept_depth (self_closed k) = 1
  concept_depth (children k rest body back) = suc (body_depth body)
  concept_depth (content k rest lines) = 1

  pub body_depth : Body → ℕ
  body_depth done = 0
  body_depth (blank_line b body) = body_depth body
  body_depth (element notes tabs c rest body) = max (concept_depth c) (body_depth body)

unfoldable pub within_limits : List ℕ → Sheet → Bool
within_limits s t = leb (length s) sheet_limit && concept_fits name_limit bracket_limit t.root && leb (concept_depth t.root) concept_limit
