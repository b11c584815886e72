use Rattle.linear_algebra.proofs.Rows.{IsInSpan-row, IsInSpan-through}
use Rattle.linear_algebra.proofs.lists.spans.Goals as goal

pub returns-clause-rows : goal.returns-clause-rows
returns-clause-rows c = IsInSpan-row

pub returns-clause-least : goal.returns-clause-least
returns-clause-least c = IsInSpan-through
