use Rattle.std.proofs.Common.{suc, ◌≡◌, ◌+◌, ◌-◌, ◌++◌, length, map, sym, ◌∙◌, ap, arith, length-append}
use Rattle.std.specs.List.{range_with_len}
use Rattle.quiver_paths.specs.Quiver.{vertex_count}
use Rattle.quiver_paths.specs.Path.{trivial_path}
use Rattle.quiver_paths.specs.PathList.{paths_below, paths_of_length}
use Rattle.quiver_paths.proofs.PathListLemmas.{paths_below-zero, paths_below-suc}
use Rattle.quiver_paths.proofs.ListingSteps.{first_level, level_more}
use Rattle.quiver_paths.proofs.listing.list_below.Goals as goal

pub returns-then-t-eq0 : goal.returns-then-t-eq0
returns-then-t-eq0 c =
    c.new-paths.ensures.items ∙ sym (paths_below-zero c.args.quiver.now) ∙ ap (paths_below c.args.quiver.now) (sym c.if-t-eq0.true)

pub loop-length-init : goal.loop-length-init
loop-length-init c =
    let Q = c.args.quiver.now in
    let trivial = map trivial_path (range_with_len 0 (vertex_count Q)) in (
      c.in_ok-push_trivial.ensures ∙ ap (λ ps. ps ++ trivial) c.new-paths.ensures.items ∙ first_level Q,
      sym (ap length (paths_below-zero Q)),
    )

-- the level before is among those so far
pub push_longer-requires-clause-begin : goal.push_longer-requires-clause-begin
push_longer-requires-clause-begin c =
    let Q = c.args.quiver.now in
    let n = c.loop-length._length in
    let one : n ≡ suc (n - 1) = omega arith in
    let more : length (paths_below Q n) ≡ length (paths_below Q (n - 1)) + length (paths_of_length Q (n - 1)) =
    ap (λ k. length (paths_below Q k)) one ∙ ap length (paths_below-suc Q (n - 1)) ∙ length-append (paths_below Q (n - 1)) (paths_of_length Q (n - 1)) in
    omega (arith, more, ap length c.loop-length.invariant.0, c.loop-length.invariant.1, c.loop-length.paths.ok)

pub loop-length-preserved : goal.loop-length-preserved
loop-length-preserved c =
    let Q = c.args.quiver.now in
    let n = c.loop-length._length in
    let one : n ≡ suc (n - 1) = omega arith in
    let next : suc (suc (n - 1)) ≡ n + 1 = omega arith in
    let back : n ≡ n + 1 - 1 = omega arith in (
      level_more Q c.loop-length.paths.items c.push_longer.new.paths.items c.loop-length.begin (n - 1)
          (c.loop-length.invariant.0 ∙ ap (paths_below Q) one) c.loop-length.invariant.1 c.in_ok-push_longer.ensures
          ∙ ap (paths_below Q) next,
      c.len-end.ensures ∙ c.loop-length.paths.ok.0 ∙ ap length c.loop-length.invariant.0 ∙ ap (λ k. length (paths_below Q k)) back,
    )
