-- Where the view is accepted, the entry lies wholly in the cells; so its span is the one that is got.
use Rattle.gateway.proofs.Answering.{view_refused, view_told}
use Rattle.gateway.proofs.cdx_view.Goals as goal

pub returns-in-Err : goal.returns-in-Err
returns-in-Err c = view_refused _ _ _ _ c.view_answer.ensures _ c.in-Err.is _ c.into.ensures

pub returns : goal.returns
returns c = view_told _ _ _ _ c.view_answer.ensures _ c.in_default.is _ c.get-laid.ensures
