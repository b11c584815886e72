use Rattle.std.proofs.Common.{arith, sym}
use Rattle.bound_algebra.specs.TypedPaths.{quiver_of}
use Rattle.module_types.specs.Readings.{dim_past}
use Rattle.claim_blocks.proofs.SumReading.{dim_inside, dim_short}
use Rattle.claim_blocks.proofs.sums.dim_at.Goals as goal
use Rattle.claim_blocks.proofs.sums.dim_at.Goals.{then-vertex-len-via-then-vertex-len, then-vertex-len-via-else-vertex-len+then-vertex-dims}

pub returns-then-vertex-len : goal.returns-then-vertex-len
returns-then-vertex-len c =
    let Q = quiver_of c.args.header.now.quiver in
    elim c.then-vertex-len.branch [
      | then-vertex-len-via-then-vertex-len w ↦ sym (dim_past Q c.args.dims.now c.args.vertex (omega (arith, w.if-vertex-len, c.len.ensures)))
      | then-vertex-len-via-else-vertex-len+then-vertex-dims w ↦ dim_short Q c.args.dims.now c.args.vertex (omega (arith, w.if-vertex-dims))
    ]

pub returns : goal.returns
returns c = dim_inside (quiver_of c.args.header.now.quiver) c.args.dims.now c.args.vertex (omega (arith, c.if-vertex-len.false, c.len.ensures))
