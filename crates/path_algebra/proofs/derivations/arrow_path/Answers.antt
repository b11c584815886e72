use Rattle.std.proofs.Common.{◌≡◌, ◌∷◌, ◌++◌, [], sym, ◌∙◌, ap}
use Rattle.quiver_paths.specs.declared.Arrow.{Arrow}
use Rattle.quiver_paths.specs.Quiver.{source, target}
use Rattle.quiver_paths.specs.Path.{arrow_path}
use Rattle.quiver_paths.proofs.PathLemmas.{same_path}
use Rattle.quiver_paths.proofs.QuiverLemmas.{source_is, target_is}
use Rattle.path_algebra.proofs.derivations.arrow_path.Goals as goal

pub returns : goal.returns
returns c =
    let Q = c.args.header.now.quiver in
    let starts : c.index-ends.result.now.from ≡ source Q c.args.arrow = ap (λ (x : Arrow). x.from) c.index-ends.ensures ∙ sym (source_is Q c.args.arrow c.index-ends.result.now c.requires) in
    let ends : c.index-ends.result.now.to ≡ target Q c.args.arrow = ap (λ (x : Arrow). x.to) c.index-ends.ensures ∙ sym (target_is Q c.args.arrow c.index-ends.result.now c.requires) in
    same_path _ (arrow_path Q c.args.arrow) starts ends (c.in_ok-push.ensures ∙ ap (λ xs. xs ++ c.args.arrow ∷ []) c.new-arrows.ensures)
