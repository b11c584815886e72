use Rattle.word_products.proofs.WordRows.{acted_on}
use Rattle.path_algebra.proofs.ArrowsBehind.{arrow_behind}
use Rattle.alg_table.proofs.laws.arrows_act_behind.Goals as goal

pub returns : goal.returns
returns c h words rules can becomes red = arrow_behind h words rules becomes (acted_on h words rules can becomes red)
