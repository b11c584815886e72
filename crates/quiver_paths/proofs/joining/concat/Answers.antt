use Rattle.std.proofs.Common.{◌≡◌, ◌++◌, sym, refl, subst, ◌∙◌}
use Rattle.quiver_paths.specs.declared.Path.{Path}
use Rattle.quiver_paths.specs.Path.{IsPath, concat}
use Rattle.quiver_paths.proofs.PathLemmas.{same_path, IsPath-concat}
use Rattle.quiver_paths.proofs.joining.concat.Goals as goal

pub returns-clause-path : goal.returns-clause-path
returns-clause-path c h g =
    let Q = c.args.quiver.now in
    let a = c.args.a.now in
    let b = c.args.b.now in
    let joined : Path = record { start = a.start; end = b.end; arrows = c.in_ok-arrows.arrows } in
    let arrows : c.in_ok-arrows.arrows ≡ a.arrows ++ b.arrows =
    c.in_ok-arrows.ensures ∙ (λ i. c.as_slice.ensures i ++ c.as_slice-2.ensures i) in
    let is : joined ≡ concat a b = same_path joined (concat a b) refl refl arrows in
    subst (IsPath Q) (sym is) (IsPath-concat Q a b h g c.if-a-b.false)
