use Rattle.std.proofs.Common.{◌≤◌, ◌*◌, ◌+◌, ◌∙◌, length, sym, subst, ap, arith}
use Rattle.std.proofs.lemmas.List.{length_push}
use Rattle.fp_linear.specs.Slices.{AreElements}
use Rattle.fp_linear.specs.Meeting.{IsClearFrom}
use Rattle.module_types.specs.Algebras.{algebra_at}
use Rattle.module_types.specs.Readings.{read}
use Rattle.module_checks.proofs.Places.{size_is}
use Rattle.module_checks.proofs.PathImages.{paths_none, paths_copied}
use Rattle.module_faults.proofs.LevelRows.{is_level, no_levels, more_levels}
use Rattle.module_faults.proofs.levels.levels.Goals as goal

pub loop-k-init : goal.loop-k-init
loop-k-init c =
    let h = c.args.header.now in
    let m = c.args.m.now in
    let n = c.dimension-unknowns.result in
    let few : n ≤ c.args.rows = omega (arith, c.requires.room.many, c.dimension-unknowns.ensures) in
    record {
      few = few;
      elements = c.write_unit_rows.ensures.elements h.field;
      clear = record { clear = c.write_unit_rows.ensures.units.behind };
      held = paths_none (read h m) n c.args.rows c.write_unit_rows.new.entries (size_is (algebra_at m.side h).quiver m.dims n c.requires.m.counted c.dimension-unknowns.ensures) few c.write_unit_rows.ensures.units;
      counted = ap length c.in_ok-levels.ensures.items;
      levels = no_levels (read h m) n c.in_ok-levels.levels.items c.in_ok-levels.ensures.items;
    }

pub loop-k-preserved : goal.loop-k-preserved
loop-k-preserved c =
    let h = c.args.header.now in
    let m = c.args.m.now in
    let n = c.dimension-unknowns.result in
    let size = size_is (algebra_at m.side h).quiver m.dims n c.requires.m.counted c.dimension-unknowns.ensures in
    let I = c.loop-k.invariant in
    record {
      few = c.next_images-count.ensures.count;
      elements = subst (AreElements h.field) (sym c.copy_from_slice.ensures.after) c.next_images-count.ensures.elements;
      clear = subst (IsClearFrom (c.next_images-count.result * n)) (sym c.copy_from_slice.ensures.after) c.next_images-count.ensures.clear;
      held = paths_copied (read h m) c.loop-k.k n c.args.rows c.loop-k.count c.loop-k.images c.next_images-count.new.entries c.copy_from_slice.new.self c.copy_from_slice.ensures.after size I.few I.held I.clear c.next_images-count.ensures.asked;
      counted = ap length c.in_ok-push.ensures.items ∙ length_push c.loop-k.levels.items c.in_ok-level.level ∙ ap (λ k. k + 1) I.counted;
      levels = more_levels (read h m) n c.loop-k.k c.loop-k.levels.items c.push.new.self.items c.in_ok-level.level I.counted c.in_ok-push.ensures.items
          (is_level (read h m) c.loop-k.k n c.args.rows c.loop-k.count c.loop-k.images c.in_ok-level.level size I.few I.clear I.elements I.held c.in_ok-level.ensures) I.levels;
    }
