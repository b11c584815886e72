use Rattle.linear_algebra.proofs.Rows.{times-times}
use Rattle.linear_algebra.proofs.lists.products_associate.Goals as goal

pub returns : goal.returns
returns c = times-times
