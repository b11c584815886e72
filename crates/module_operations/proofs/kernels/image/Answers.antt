use Rattle.module_types.specs.Algebras.{algebra_at}
use Rattle.module_types.specs.Readings.{read, read_beside, family_of}
use Rattle.module_operations.proofs.ComputedSubmodules.{are_subspaces, image_stable, shape_across, image_by}
use Rattle.module_operations.proofs.kernels.image.Goals as goal

pub submodule-requires-clause-spaces : goal.submodule-requires-clause-spaces
submodule-requires-clause-spaces c =
    let h = c.args.header.now in
    let b = c.args.b.now in
    let a = c.requires.map.0 in
    let f = c.args.f.now in
    let X = read_beside h b a in
    let Y = read h b in
    are_subspaces h b X.dim (family_of X Y f) _ c.requires.allowed (c.in_ok-matrices.ensures h.field (algebra_at b.side h).quiver X Y (shape_across h a b f c.requires.map.2)) (image_stable h a b f c.requires.map.2)

pub returns : goal.returns
returns c = λ a s map.
    let h = c.args.header.now in
    let b = c.args.b.now in
    let f = c.args.f.now in
    image_by h a b f map c.in_ok-module.module c.in_ok-matrices.matrices c.requires.target c.in_ok-module.ensures
    (c.in_ok-matrices.ensures h.field (algebra_at b.side h).quiver (read_beside h b a) (read h b) (shape_across h a b f map))
