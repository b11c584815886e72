use Rattle.module_types.specs.Algebras.{algebra_at}
use Rattle.module_types.specs.Readings.{read, read_beside}
use Rattle.module_operations.specs.VertexSpaces.{kernel_size, kernel_family}
use Rattle.module_operations.proofs.ComputedSubmodules.{are_subspaces, kernel_stable, kernel_by}
use Rattle.module_operations.proofs.SmallMaps.{low_map}
use Rattle.module_operations.proofs.kernels.kernel.Goals as goal

pub kernel_bases-requires : goal.kernel_bases-requires
kernel_bases-requires c = low_map c.args.header.now c.args.a.now c.requires.map.0 c.args.f.now c.requires.source c.requires.map.2

pub submodule-requires-clause-spaces : goal.submodule-requires-clause-spaces
submodule-requires-clause-spaces c =
    let h = c.args.header.now in
    let a = c.args.a.now in
    let b = c.requires.map.0 in
    let f = c.args.f.now in
    let X = read h a in
    let Y = read_beside h a b in
    are_subspaces h a (kernel_size X Y f) (kernel_family X Y f) _ c.requires.allowed (c.in_ok-matrices.ensures h.field (algebra_at a.side h).quiver X Y c.requires.map.2.shape) (kernel_stable h a b f c.requires.map.2)

pub returns : goal.returns
returns c = λ b s map.
    let h = c.args.header.now in
    let a = c.args.a.now in
    let f = c.args.f.now in
    kernel_by h a b f map c.in_ok-module.module c.in_ok-matrices.matrices c.requires.source c.in_ok-module.ensures (c.in_ok-matrices.ensures h.field (algebra_at a.side h).quiver (read h a) (read_beside h a b) map.shape)
