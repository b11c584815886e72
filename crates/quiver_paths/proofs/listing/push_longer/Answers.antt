use Rattle.std.proofs.Common.{◌≡◌, length, ◌∙◌, arith, ◌≤◌}
use Rattle.quiver_paths.proofs.ListingSteps.{behind_each_more}
use Rattle.quiver_paths.proofs.listing.push_longer.Goals as goal

pub loop-a-preserved : goal.loop-a-preserved
loop-a-preserved c =
    let old = c.args.paths.now.items in
    let long : c.len-end.result ≡ length old = c.loop-a.invariant.0 ∙ c.args.paths.now.ok.0 in
    let begin : c.args.begin ≤ length old = omega (arith, c.args.paths.now.ok) in (
      c.loop-a.invariant.0,
      behind_each_more c.args.quiver.now old c.loop-a.paths.items c.push_behind.new.paths.items c.args.begin c.len-end.result c.loop-a.a
          long begin c.loop-a.invariant.1 c.in_ok-push_behind.ensures,
    )
