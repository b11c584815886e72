use Rattle.std.proofs.Common.{◌<◌, arith}
use Rattle.quiver_paths.specs.Quiver.{arrow_count}
use Rattle.quiver_paths.proofs.ListLemmas.{length-pushed}
use Rattle.path_reduction.proofs.PathPlaces.{behind_push}
use Rattle.path_reduction.proofs.short_paths.push_places.Goals as goal

pub loop-arrow-preserved : goal.loop-arrow-preserved
loop-arrow-preserved c =
    let h = c.args.header.now in
    let i = c.loop-arrow.invariant in
    let inside : c.loop-arrow.arrow < arrow_count h.quiver = omega (arith, c.loop-arrow-test.true, c.len-arrow-end.ensures) in
    record {
      size = (let l = length-pushed c.loop-arrow.behind.items c.push.new.self.items c.in_ok-next.next c.in_ok-push.ensures.items in let s = i.size in omega arith);
      places = behind_push c.args.paths.now (arrow_count h.quiver) c.loop-arrow.behind.items c.push.new.self.items c.args.place c.loop-arrow.arrow c.in_ok-next.next c.in_ok-push.ensures.items i.size inside
          c.in_ok-next.ensures i.places;
    }
