use Rattle.std.proofs.Common.{ℕ, ◌≡◌, ◌≤◌, ◌+◌, ◌*◌, sym, ◌∙◌, arith, length, mul-le-mul_right}
use Rattle.std.proofs.lemmas.List.{length-take-le}
use Rattle.module_types.specs.Algebras.{algebra_at}
use Rattle.module_checks.proofs.Sides.{dim_small}
use Rattle.local_checks.proofs.Composites.{block_room, other_default}
use Rattle.local_checks.proofs.VertexPowers.{found_at}
use Rattle.local_checks.proofs.least_powers.vertex_power.Goals as goal

next_inside : (d from w n r : ℕ) → from + d * d ≤ w → w ≡ n → n + n ≤ r → d * d + d * d ≤ r
next_inside d from w n r a b c = omega (arith, a, b, c)

pub power_at-requires-clause-block_inside : goal.power_at-requires-clause-block_inside
power_at-requires-clause-block_inside c =
    block_room c.args.header.now.field (algebra_at c.args.m.now.side c.args.header.now).quiver c.args.m.now c.requires.m c.args.v c.args.from c.index-size.result.now (length c.args.work.now)
    c.requires.vertex c.requires.from (other_default c.args.m.now.dims c.args.v c.index-size.result.now c.requires.vertex c.index-size.ensures) c.requires.work.count

pub power_at-requires-clause-small : goal.power_at-requires-clause-small
power_at-requires-clause-small c = rw (other_default c.args.m.now.dims c.args.v c.index-size.result.now c.requires.vertex c.index-size.ensures) (dim_small c.args.m.now.dims c.requires.m.small c.args.v)

pub returns-clause-power : goal.returns-clause-power
returns-clause-power c =
    found_at c.args.header.now c.args.m.now c.requires.m c.args.count c.args.rows.now c.requires.elements c.args.v c.requires.vertex c.index-size.result.now (length c.args.work.now) c.args.from c.power_at.result
    (other_default c.args.m.now.dims c.args.v c.index-size.result.now c.requires.vertex c.index-size.ensures) c.requires.work.count c.requires.from c.power_at.ensures.power

pub power_at-requires-clause-room : goal.power_at-requires-clause-room
power_at-requires-clause-room c =
    let s : c.index-size.result.now ≤ 256 = rw (other_default c.args.m.now.dims c.args.v c.index-size.result.now c.requires.vertex c.index-size.ensures) (dim_small c.args.m.now.dims c.requires.m.small c.args.v) in
    omega (arith, s, c.requires.pivots)

pub slice_bounds-power_at-end : goal.slice_bounds-power_at-end
slice_bounds-power_at-end c = let b = block_room c.args.header.now.field (algebra_at c.args.m.now.side c.args.header.now).quiver c.args.m.now c.requires.m c.args.v c.args.from c.index-size.result.now (length c.args.work.now) c.requires.vertex c.requires.from (other_default c.args.m.now.dims c.args.v c.index-size.result.now c.requires.vertex c.index-size.ensures) c.requires.work.count in omega (arith, b)

pub slice_bounds-power_at-end-2 : goal.slice_bounds-power_at-end-2
slice_bounds-power_at-end-2 c = let b = block_room c.args.header.now.field (algebra_at c.args.m.now.side c.args.header.now).quiver c.args.m.now c.requires.m c.args.v c.args.from c.index-size.result.now (length c.args.work.now) c.requires.vertex c.requires.from (other_default c.args.m.now.dims c.args.v c.index-size.result.now c.requires.vertex c.index-size.ensures) c.requires.work.count in sym (length-take-le (c.index-size.result.now * c.index-size.result.now) c.args.work.now (omega (arith, b)))

pub overflow_add-entries : goal.overflow_add-entries
overflow_add-entries c =
    let s : c.index-size.result.now ≤ 256 = rw (other_default c.args.m.now.dims c.args.v c.index-size.result.now c.requires.vertex c.index-size.ensures) (dim_small c.args.m.now.dims c.requires.m.small c.args.v) in
    let p = mul-le-mul_right c.index-size.result.now s in
    omega (arith, s, p)

pub slice_bounds-power_at-end-3 : goal.slice_bounds-power_at-end-3
slice_bounds-power_at-end-3 c = next_inside c.index-size.result.now c.args.from (length c.args.work.now) _ (length c.args.next.now) (block_room c.args.header.now.field (algebra_at c.args.m.now.side c.args.header.now).quiver c.args.m.now c.requires.m c.args.v c.args.from c.index-size.result.now (length c.args.work.now) c.requires.vertex c.requires.from (other_default c.args.m.now.dims c.args.v c.index-size.result.now c.requires.vertex c.index-size.ensures) c.requires.work.count) c.requires.work.count c.requires.next_room

pub slice_bounds-power_at-end-4 : goal.slice_bounds-power_at-end-4
slice_bounds-power_at-end-4 c =
    sym (length-take-le (c.index-size.result.now * c.index-size.result.now + c.index-size.result.now * c.index-size.result.now) c.args.next.now
    (next_inside c.index-size.result.now c.args.from (length c.args.work.now) _ (length c.args.next.now) (block_room c.args.header.now.field (algebra_at c.args.m.now.side c.args.header.now).quiver c.args.m.now c.requires.m c.args.v c.args.from c.index-size.result.now (length c.args.work.now) c.requires.vertex c.requires.from (other_default c.args.m.now.dims c.args.v c.index-size.result.now c.requires.vertex c.index-size.ensures) c.requires.work.count) c.requires.work.count c.requires.next_room))

pub power_at-requires-clause-rows_shape : goal.power_at-requires-clause-rows_shape
power_at-requires-clause-rows_shape c = let b = block_room c.args.header.now.field (algebra_at c.args.m.now.side c.args.header.now).quiver c.args.m.now c.requires.m c.args.v c.args.from c.index-size.result.now (length c.args.work.now) c.requires.vertex c.requires.from (other_default c.args.m.now.dims c.args.v c.index-size.result.now c.requires.vertex c.index-size.ensures) c.requires.work.count in length-take-le (c.index-size.result.now * c.index-size.result.now) c.args.work.now (omega (arith, b))

pub power_at-requires-clause-shape : goal.power_at-requires-clause-shape
power_at-requires-clause-shape c =
    length-take-le (c.index-size.result.now * c.index-size.result.now + c.index-size.result.now * c.index-size.result.now) c.args.next.now
    (next_inside c.index-size.result.now c.args.from (length c.args.work.now) _ (length c.args.next.now) (block_room c.args.header.now.field (algebra_at c.args.m.now.side c.args.header.now).quiver c.args.m.now c.requires.m c.args.v c.args.from c.index-size.result.now (length c.args.work.now) c.requires.vertex c.requires.from (other_default c.args.m.now.dims c.args.v c.index-size.result.now c.requires.vertex c.index-size.ensures) c.requires.work.count) c.requires.work.count c.requires.next_room) ∙ omega arith
