use Rattle.std.proofs.Common.{◌≡◌, ◌++◌, ◌∷◌, [], ap, ap₂, sym, refl, ◌∙◌}
use Rattle.quiver_paths.specs.declared.Arrow.{Arrow}
use Rattle.quiver_paths.specs.Quiver.{target}
use Rattle.quiver_paths.specs.Path.{concat, arrow_path}
use Rattle.quiver_paths.proofs.PathLemmas.{same_path}
use Rattle.quiver_paths.proofs.QuiverLemmas.{target_is}
use Rattle.path_algebra.proofs.path_places.then_arrow.Goals as goal

pub returns : goal.returns
returns c =
    let Q = c.args.quiver.now in
    let ends : c.index.result.now.to ≡ target Q c.args.arrow = ap (λ (x : Arrow). x.to) c.index.ensures ∙ sym (target_is Q c.args.arrow c.index.result.now c.requires) in
    same_path _ (concat c.args.path.now (arrow_path Q c.args.arrow)) refl ends
    (c.from_vec.ensures ∙ c.in_ok-push.ensures.items ∙ ap (λ xs. xs ++ c.args.arrow ∷ []) (c.in_ok-extend_from_slice.ensures.items ∙ ap₂ (λ x y. x ++ y) c.in_ok-arrows.ensures.items c.as_slice.ensures))
