use Rattle.std.proofs.Common.{◌++◌, ◌∷◌, [], map, sym, ◌∙◌, ap, append_assoc}
use Rattle.std.specs.List.{range_with_len}
use Rattle.quiver_paths.specs.Path.{trivial_path}
use Rattle.quiver_paths.proofs.ListingSteps.{map-range_more}
use Rattle.quiver_paths.proofs.listing.push_trivial.Goals as goal

pub loop-v-preserved : goal.loop-v-preserved
loop-v-preserved c =
    let old = c.args.paths.now.items in
    let v = c.loop-v.v in
    c.in_ok-push.ensures.items
    ∙ (λ i. c.loop-v.invariant i ++ record { start = v; end = v; arrows = c.new.ensures i } ∷ [])
    ∙ append_assoc old (map trivial_path (range_with_len 0 v)) (trivial_path v ∷ [])
    ∙ ap (λ ps. old ++ ps) (sym (map-range_more trivial_path v))
