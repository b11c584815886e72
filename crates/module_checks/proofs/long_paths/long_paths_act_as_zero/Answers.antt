use Rattle.std.proofs.Common.{◌≡◌, ◌≤◌, ◌*◌, length, sym, subst, ◌∙◌, arith}
use Rattle.fp_linear.specs.Slices.{AreElements}
use Rattle.fp_linear.specs.Meeting.{IsClearFrom}
use Rattle.module_types.specs.Algebras.{algebra_at}
use Rattle.module_types.specs.Readings.{read}
use Rattle.module_checks.proofs.Tests.{test_means}
use Rattle.module_checks.proofs.Places.{size_is, fewer_rows}
use Rattle.module_checks.proofs.PathImages.{paths_none, paths_copied, long_where_clear, clear_where_long}
use Rattle.module_checks.proofs.long_paths.long_paths_act_as_zero.Goals as goal

pub write_unit_rows-requires : goal.write_unit_rows-requires
write_unit_rows-requires c =
    let many = c.requires.room.many in
    fewer_rows c.dimension-unknowns.result c.args.rows (length c.args.images.now) (omega (arith, many, c.dimension-unknowns.ensures)) (c.requires.images ∙ (let e = c.requires.room.shape in rw c.dimension-unknowns.ensures e))

pub loop-k-init : goal.loop-k-init
loop-k-init c =
    let h = c.args.header.now in
    let m = c.args.m.now in
    let few : c.dimension-unknowns.result ≤ c.args.rows = omega (arith, c.requires.room.many, c.dimension-unknowns.ensures) in
    record {
      few = few;
      elements = c.write_unit_rows.ensures.elements h.field;
      clear = record { clear = c.write_unit_rows.ensures.units.behind };
      held = paths_none (read h m) c.dimension-unknowns.result c.args.rows c.write_unit_rows.new.entries (size_is (algebra_at m.side h).quiver m.dims c.dimension-unknowns.result c.requires.m.counted c.dimension-unknowns.ensures) few c.write_unit_rows.ensures.units;
    }

pub loop-k-preserved : goal.loop-k-preserved
loop-k-preserved c =
    let h = c.args.header.now in
    let m = c.args.m.now in
    let n = c.dimension-unknowns.result in
    record {
      few = c.next_images-count.ensures.count;
      elements = subst (AreElements h.field) (sym c.copy_from_slice.ensures.after) c.next_images-count.ensures.elements;
      clear = subst (IsClearFrom (c.next_images-count.result * n)) (sym c.copy_from_slice.ensures.after) c.next_images-count.ensures.clear;
      held = paths_copied (read h m) c.loop-k.k n c.args.rows c.loop-k.count c.loop-k.images c.next_images-count.new.entries c.copy_from_slice.new.self c.copy_from_slice.ensures.after
          (size_is (algebra_at m.side h).quiver m.dims n c.requires.m.counted c.dimension-unknowns.ensures) c.loop-k.invariant.few c.loop-k.invariant.held c.loop-k.invariant.clear c.next_images-count.ensures.asked;
    }

pub returns : goal.returns
returns c =
    let h = c.args.header.now in
    let m = c.args.m.now in
    let n = c.dimension-unknowns.result in
    let size = size_is (algebra_at m.side h).quiver m.dims n c.requires.m.counted c.dimension-unknowns.ensures in
    let e : c.loop-k.k ≡ h.bound = omega (arith, c.loop-k-test.false, c.loop-k.auto.k-end) in
    let shape : length c.loop-k.images ≡ c.args.rows * n = c.loop-k.auto.images ∙ c.write_unit_rows.auto.entries ∙ c.requires.images ∙ (let e = c.requires.room.shape in rw c.dimension-unknowns.ensures e) in
    let held = rw e at c.loop-k.invariant.held in
    test_means c.is_zero.result
    (λ z. long_where_clear (read h m) h.bound n c.args.rows c.loop-k.images size held z.at)
    (λ z. record { at = clear_where_long (read h m) h.bound n c.args.rows c.loop-k.images size held z shape c.loop-k.invariant.elements }) c.is_zero.ensures
