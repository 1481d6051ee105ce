-- A law for each way out: other tabs, no closing mark behind them, and the closing mark.
use mathlib.Core.Path.{◌≡◌, refl, sym, ap, ◌∙◌}
use mathlib.Core.List.{List, ◌++◌, append_cancel_left}
use Prim.Native.Nat.{ℕ}
use lib.ListN.{drop}
use Rattle.std.specs.Prelude.{Some, None}
use Rattle.std.proofs.lemmas.Bool.Decides.{Decides-eqb}
use Rattle.std.proofs.lemmas.List.{take_rest}
use Rattle.std.proofs.lemmas.Slice.Eq.{strip_prefix_is}
use Rattle.paper.specs.Bytes.{bytes}
use Rattle.lines.proofs.Closing.{other_tabs, other_mark, this_mark}
use Rattle.paper.specs.Grammar.{closing_onto}
use Rattle.lines.proofs.content.closing_end.Goals.{In_ok-rest, In_ok-rest-2, In_ok-rest-3}
use Rattle.lines.proofs.content.closing_end.Goals as goal

pub returns-then-mark-at : goal.returns-then-mark-at
returns-then-mark-at c = other_tabs _ _ _ _ _ c.requires c.if-mark-at.true

pub returns-in_err-rest : goal.returns-in_err-rest
returns-in_err-rest c =
    rw c.from_residual.ensures
    (other_mark _ _ _ _ _ c.requires c.if-mark-at.false
    (λ next e. strip_prefix_is Decides-eqb _ (bytes "</") None c.in_err-rest.ensures.cases _ (take_rest c.args.s.now c.args.mark ∙ e)))

pub returns-in_err-rest-2 : goal.returns-in_err-rest-2
returns-in_err-rest-2 c =
    let one = strip_prefix_is Decides-eqb _ (bytes "</") (Some c.in_ok-rest.rest) c.in_ok-rest.ensures.cases in
    rw c.from_residual-in_err-rest-2.ensures
    (other_mark _ _ _ _ _ c.requires c.if-mark-at.false
    (λ next e. strip_prefix_is Decides-eqb _ c.args.name.now None c.in_err-rest-2.ensures.cases (bytes ">" ++ next)
    (append_cancel_left (bytes "</") _ _ (sym one ∙ take_rest c.args.s.now c.args.mark ∙ e))))

pub returns-in_err-rest-3 : goal.returns-in_err-rest-3
returns-in_err-rest-3 c =
    let one = strip_prefix_is Decides-eqb _ (bytes "</") (Some c.in_ok-rest.rest) c.in_ok-rest.ensures.cases in
    let two = strip_prefix_is Decides-eqb _ c.args.name.now (Some c.in_ok-rest-2.rest) c.in_ok-rest-2.ensures.cases in
    rw c.from_residual-in_err-rest-3.ensures
    (other_mark _ _ _ _ _ c.requires c.if-mark-at.false
    (λ next e. strip_prefix_is Decides-eqb _ (bytes ">") None c.in_err-rest-3.ensures.cases next
    (append_cancel_left c.args.name.now _ _ (sym two ∙ append_cancel_left (bytes "</") _ _ (sym one ∙ take_rest c.args.s.now c.args.mark ∙ e)))))

-- the mark, behind all of which the line is over
marked : (c : In_ok-rest-3) → drop c.args.mark c.args.s.now ≡ closing_onto c.args.name.now c.in_ok-rest-3.rest.now
marked c =
    let one = strip_prefix_is Decides-eqb _ (bytes "</") (Some c.in_ok-rest.rest) c.in_ok-rest.ensures.cases in
    let two = strip_prefix_is Decides-eqb _ c.args.name.now (Some c.in_ok-rest-2.rest) c.in_ok-rest-2.ensures.cases in
    let three = strip_prefix_is Decides-eqb _ (bytes ">") (Some c.in_ok-rest-3.rest) c.in_ok-rest-3.ensures.cases in
    sym (take_rest c.args.s.now c.args.mark) ∙ one ∙ ap (λ (l : List ℕ). bytes "</" ++ l) (two ∙ ap (λ (l : List ℕ). c.args.name.now ++ l) three)

pub returns : goal.returns
returns c = rw c.then_some.ensures (this_mark _ _ _ _ _ c.requires c.if-mark-at.false _ _ (marked (goal.at.returns c).In_ok-rest-3) refl _ c.is_over.ensures)
