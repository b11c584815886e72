use Rattle.std.proofs.Common.{◌≡◌, sym, ◌∙◌, ap, refl, ◌∷◌}
use Rattle.quiver_paths.specs.declared.Arrow.{Arrow}
use Rattle.quiver_paths.specs.Quiver.{source}
use Rattle.quiver_paths.specs.Path.{concat, arrow_path}
use Rattle.quiver_paths.proofs.PathLemmas.{same_path}
use Rattle.quiver_paths.proofs.QuiverLemmas.{source_is}
use Rattle.quiver_paths.proofs.joining.behind.Goals as goal

pub returns : goal.returns
returns c =
    let Q = c.args.quiver.now in
    let starts : c.index.result.now.from ≡ source Q c.args.arrow =
    ap (λ (x : Arrow). x.from) c.index.ensures ∙ sym (source_is Q c.args.arrow c.index.result.now c.requires) in
    same_path _ (concat (arrow_path Q c.args.arrow) c.args.path.now) starts refl
    (c.in_ok-arrows.ensures ∙ ap (λ xs. c.args.arrow ∷ xs) c.as_slice.ensures)
