use Rattle.module_types.specs.Algebras.{algebra_at}
use Rattle.module_types.specs.Readings.{read, read_beside, family_of}
use Rattle.module_operations.proofs.ComputedSubmodules.{image_stable, shape_across}
use Rattle.module_operations.proofs.ComputedQuotients.{are_quotients, cokernel_by}
use Rattle.module_operations.proofs.SmallMaps.{narrow_map}
use Rattle.module_operations.proofs.kernels.cokernel.Goals as goal

pub cokernel_projections-requires : goal.cokernel_projections-requires
cokernel_projections-requires c = narrow_map c.args.header.now c.requires.map.0 c.args.b.now c.args.f.now c.requires.target c.requires.map.2

pub quotient_module-requires-clause-quotients : goal.quotient_module-requires-clause-quotients
quotient_module-requires-clause-quotients c =
    let h = c.args.header.now in
    let b = c.args.b.now in
    let a = c.requires.map.0 in
    let f = c.args.f.now in
    let X = read_beside h b a in
    let Y = read h b in
    are_quotients h b X.dim (family_of X Y f) _ c.requires.allowed (c.in_ok-matrices.ensures h.field (algebra_at b.side h).quiver X Y (shape_across h a b f c.requires.map.2))
    (λ r l. image_stable h a b f c.requires.map.2 r)

pub returns : goal.returns
returns c = λ a s map.
    let h = c.args.header.now in
    let b = c.args.b.now in
    let f = c.args.f.now in
    cokernel_by h a b f map c.in_ok-module.module c.in_ok-matrices.matrices c.requires.target c.in_ok-module.ensures
    (c.in_ok-matrices.ensures h.field (algebra_at b.side h).quiver (read_beside h b a) (read h b) (shape_across h a b f map))
