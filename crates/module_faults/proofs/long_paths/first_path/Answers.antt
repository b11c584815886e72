use Rattle.std.proofs.Common.{ℕ, ◌≡◌, ◌<◌, ◌≤◌, ◌-◌, ◌+◌, ◌∙◌, length, slice_index, ap, subst, arith}
use Rattle.std.proofs.lemmas.List.{length_push}
use Rattle.quiver_paths.specs.Quiver.{arrow_count, target}
use Rattle.bound_algebra.specs.TypedPaths.{quiver_of}
use Rattle.module_types.specs.Algebras.{algebra_at}
use Rattle.module_types.specs.Readings.{rep_of}
use Rattle.module_types.specs.Shapes.{dimension}
use Rattle.module_checks.proofs.Places.{size_is}
use Rattle.module_checks.proofs.PathImages.{paths_none}
use Rattle.module_faults.specs.Levels.{AskImage, IsStoppedAt}
use Rattle.module_faults.proofs.Searching.{front_none, none_goes_on, goes_on, level_here, found_path}
use Rattle.module_faults.proofs.long_paths.first_path.Goals as goal

pub loop-k-init : goal.loop-k-init
loop-k-init c =
    let h = c.args.header.now in
    let m = c.args.m.now in
    let n = c.dimension-unknowns.result in
    let few : n ≤ c.args.rows = omega (arith, c.requires.room.many, c.dimension-unknowns.ensures) in
    let held = paths_none (rep_of h.field (quiver_of h.quiver) m) n c.args.rows c.write_unit_rows.new.entries (size_is (quiver_of h.quiver) m.dims n c.requires.m.counted c.dimension-unknowns.ensures) few c.write_unit_rows.ensures.units in
    record {
      counted = ap length c.in_ok-arrows.ensures.items;
      front = front_none h.quiver (rep_of h.field (quiver_of h.quiver) m) h.bound n c.args.rows n c.in_ok-arrows.arrows.items c.write_unit_rows.new.entries c.in_ok-arrows.ensures.items few (c.write_unit_rows.ensures.elements h.field)
          (record { clear = c.write_unit_rows.ensures.units.behind }) held;
    }

pub returns-in_default : goal.returns-in_default
returns-in_default c =
    let h = c.args.header.now in
    let m = c.args.m.now in
    let Y = rep_of h.field (quiver_of h.quiver) m in
    let n = c.dimension-unknowns.result in
    let k = c.loop-k.k in
    none_goes_on h.quiver Y h.bound n c.args.rows c.loop-k.count c.loop-k.arrows.items c.loop-k.images c.loop-k.invariant.front (h.bound - 1 - k) (let e = c.loop-k.invariant.counted in omega (arith, e)) c.index-level.result.now
    (level_here h.quiver Y (h.bound - 1 - k) (dimension m.dims) n c.args.levels.now c.index-level.result.now (λ d. c.requires.levels (h.bound - 1 - k) d (omega arith)) c.dimension-unknowns.ensures c.index-level.ensures)
    (subst (λ s. (a : ℕ) → a < arrow_count h.quiver → IsStoppedAt (rep_of h.field (algebra_at s h).quiver m) n c.loop-k.count c.loop-k.images c.index-level.result.now a) c.requires.side c.in_default.ensures.first)

pub loop-k-preserved : goal.loop-k-preserved
loop-k-preserved c =
    let h = c.args.header.now in
    let m = c.args.m.now in
    let Y = rep_of h.field (quiver_of h.quiver) m in
    let n = c.dimension-unknowns.result in
    let k = c.loop-k.k in
    let arrow = c.in-Some.arrow in
    let L = c.index-level.result.now in
    record {
      counted = ap length c.in_ok-push.ensures.items ∙ length_push c.loop-k.arrows.items arrow ∙ ap (λ k. k + 1) c.loop-k.invariant.counted;
      front = goes_on h.quiver Y h.bound n c.args.rows c.loop-k.count c.loop-k.arrows.items c.loop-k.images c.loop-k.invariant.front (h.bound - 1 - k) (let e = c.loop-k.invariant.counted in omega (arith, e)) L
          (level_here h.quiver Y (h.bound - 1 - k) (dimension m.dims) n c.args.levels.now L (λ d. c.requires.levels (h.bound - 1 - k) d (omega arith)) c.dimension-unknowns.ensures c.index-level.ensures)
          arrow c.in-Some.used c.next_arrow.new.entries c.copy_from_slice.new.self c.push.new.self.items
          (size_is (quiver_of h.quiver) m.dims n c.requires.m.counted c.dimension-unknowns.ensures)
          c.in-Some.ensures.arrow
          (subst (λ s. (b : ℕ) → b < arrow → IsStoppedAt (rep_of h.field (algebra_at s h).quiver m) n c.loop-k.count c.loop-k.images L b) c.requires.side c.in-Some.ensures.first)
          (subst (λ s. IsStoppedAt (rep_of h.field (algebra_at s h).quiver m) n c.loop-k.count c.loop-k.images L arrow → ⊥) c.requires.side c.in-Some.ensures.lives)
          c.in-Some.ensures.count
          c.in-Some.ensures.clear
          (subst (λ s. AskImage (rep_of h.field (algebra_at s h).quiver m) n c.args.rows c.loop-k.count arrow c.loop-k.images c.next_arrow.new.entries) c.requires.side c.in-Some.ensures.asked)
          c.in-Some.ensures.elements
          c.copy_from_slice.ensures.after
          c.in_ok-push.ensures.items;
    }

pub returns : goal.returns
returns c =
    let h = c.args.header.now in
    let m = c.args.m.now in
    let xs = c.loop-k.arrows.items in
    let F = c.loop-k.invariant.front in
    let long : length xs ≡ h.bound = (let e = c.loop-k.invariant.counted in let l = c.loop-k-test.false in let u = c.loop-k.auto.k-end in omega (arith, e, l, u)) in
    found_path h c.requires.allowed m (h.bound - 1) c.dimension-unknowns.result c.args.rows c.loop-k.count xs c.loop-k.images F (let b = c.requires.allowed.bound_from in omega (arith, long, b)) (let b = c.requires.allowed.bound_from in omega (arith, long, b))
    c.path_along.result c.path_along.ensures.start (c.path_along.ensures.end ∙ ap (λ k. target h.quiver (slice_index xs (k - 1))) long) c.path_along.ensures.arrows
