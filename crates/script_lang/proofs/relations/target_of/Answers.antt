use Rattle.std.proofs.Common.{ap, sym, ◌∙◌, arith}
use Rattle.quiver_paths.specs.declared.Arrow.{Arrow}
use Rattle.quiver_paths.proofs.QuiverLemmas.{target_is}
use Rattle.script_lang.proofs.PlaceLaws.{target_past}
use Rattle.script_lang.proofs.relations.target_of.Goals as goal

pub returns-then-place-len : goal.returns-then-place-len
returns-then-place-len c = ap (λ (a : Arrow). a.to) c.index.ensures ∙ sym (target_is c.args.quiver.now c.args.arrow c.index.result.now (omega arith))

pub returns-else-place-len : goal.returns-else-place-len
returns-else-place-len c = c.len-else-place-len.ensures ∙ sym (target_past c.args.quiver.now c.args.arrow (omega arith))
