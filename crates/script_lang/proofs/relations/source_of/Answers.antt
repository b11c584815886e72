use Rattle.std.proofs.Common.{ap, sym, ◌∙◌, arith}
use Rattle.quiver_paths.specs.declared.Arrow.{Arrow}
use Rattle.quiver_paths.proofs.QuiverLemmas.{source_is}
use Rattle.script_lang.proofs.PlaceLaws.{source_past}
use Rattle.script_lang.proofs.relations.source_of.Goals as goal

pub returns-then-place-len : goal.returns-then-place-len
returns-then-place-len c = ap (λ (a : Arrow). a.from) c.index.ensures ∙ sym (source_is c.args.quiver.now c.args.arrow c.index.result.now (omega arith))

pub returns-else-place-len : goal.returns-else-place-len
returns-else-place-len c = c.len-else-place-len.ensures ∙ sym (source_past c.args.quiver.now c.args.arrow (omega arith))
