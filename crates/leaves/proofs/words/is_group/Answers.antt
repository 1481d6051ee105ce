-- So many digits, and the byte behind them.
use Rattle.leaves.proofs.Groups.{group_at, not_group}
use Rattle.leaves.proofs.words.is_group.Goals as goal

pub returns-then-end-at : goal.returns-then-end-at
returns-then-end-at c = group_at _ _ _ _ c.end-end.ensures.0 _ c.if-end-at.true c.starts_with.ensures

pub returns-else-end-at : goal.returns-else-end-at
returns-else-end-at c = not_group _ _ _ _ c.end-end.ensures.0 c.if-end-at.false
