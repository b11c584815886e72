use Rattle.std.proofs.Common.{◌≡◌, ◌+◌, length, sym, ◌∙◌, ap, arith}
use Rattle.quiver_paths.specs.PathList.{path_count, paths_of_length, saturated}
use Rattle.quiver_paths.proofs.PathListLemmas.{paths_below-zero}
use Rattle.quiver_paths.proofs.PathCountLemmas.{path_count-more, saturated-total, saturated-add}
use Rattle.quiver_paths.proofs.counting.count_below.Goals as goal

pub loop-length-init : goal.loop-length-init
loop-length-init c = (sym (ap (λ ps. saturated (length ps)) (paths_below-zero c.args.quiver.now)), c.trivial_counts-counts.ensures)

pub loop-length-preserved : goal.loop-length-preserved
loop-length-preserved c =
    let Q = c.args.quiver.now in
    let n = c.loop-length._length in
    let total : c.total.result ≡ saturated (length (paths_of_length Q n)) =
    c.total.ensures ∙ saturated-total Q n c.loop-length.counts c.requires.ends c.requires.vertices_limit c.loop-length.invariant.1 in
    let count : c.saturating_add-count.result ≡ saturated (path_count Q (n + 1)) =
    c.saturating_add-count.ensures
    ∙ (λ i. saturated (c.loop-length.invariant.0 i + total i))
    ∙ saturated-add (path_count Q n) (length (paths_of_length Q n))
    ∙ ap saturated (sym (path_count-more Q n)) in
    (count, c.one_arrow_more-counts.ensures n c.loop-length.invariant.1)

pub returns : goal.returns
returns c =
    let all : c.loop-length._length ≡ c.args.t = omega arith in
    c.loop-length.invariant.0 ∙ ap (λ t. saturated (path_count c.args.quiver.now t)) all
