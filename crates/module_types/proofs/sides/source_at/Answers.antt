use Rattle.std.proofs.Common.{◌∙◌, sym, ap}
use Rattle.quiver_paths.specs.declared.Arrow.{Arrow}
use Rattle.quiver_paths.proofs.QuiverLemmas.{source_is, target_is}
use Rattle.module_types.specs.Algebras.{algebra_at}
use Rattle.module_types.proofs.sides.source_at.Goals as goal

pub returns-in-Right : goal.returns-in-Right
returns-in-Right c =
    ap (λ (x : Arrow). x.from) c.index-arrow.ensures
    ∙ sym (source_is c.args.header.now.quiver c.args.arrow c.index-arrow.result.now c.requires)
    ∙ ap (λ s. (algebra_at s c.args.header.now).quiver.source c.args.arrow) (sym c.in-Right.is)

pub returns-in-Left : goal.returns-in-Left
returns-in-Left c =
    ap (λ (x : Arrow). x.to) c.index-arrow.ensures
    ∙ sym (target_is c.args.header.now.quiver c.args.arrow c.index-arrow.result.now c.requires)
    ∙ ap (λ s. (algebra_at s c.args.header.now).quiver.source c.args.arrow) (sym c.in-Left.is)
