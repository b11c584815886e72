use Rattle.word_products.proofs.WordRows.{are_rules}
use Rattle.path_algebra.proofs.ReductionExists.{reduction_once}
use Rattle.alg_table.proofs.laws.reduction_is_unique.Goals as goal

pub returns : goal.returns
returns c h words rules can = reduction_once h rules (are_rules h words rules can)
