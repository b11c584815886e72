use Rattle.std.proofs.Common.{◌≡◌, ◌<◌, ◌-◌, ◌∙◌, ap, arith, length, get_or}
use Rattle.module_faults.proofs.PathEnds.{source_read, target_read}
use Rattle.module_faults.proofs.long_paths.path_along.Goals as goal

pub returns-clause-start : goal.returns-clause-start
returns-clause-start c = source_read c.args.header.now.quiver c.args.arrows.items 0 c.index.result.now c.index-3.result.now c.requires.some c.index.ensures (c.requires.arrows 0 c.requires.some) c.index-3.ensures

pub returns-clause-end : goal.returns-clause-end
returns-clause-end c =
    let last : length c.args.arrows.items - 1 < length c.args.arrows.items = (let s = c.requires.some in omega arith) in
    let long : c.len.result ≡ length c.args.arrows.items = omega (arith, c.len.ensures, c.args.arrows.ok.0) in
    target_read c.args.header.now.quiver c.args.arrows.items (length c.args.arrows.items - 1) c.index-2.result.now c.index-4.result.now last
    (c.index-2.ensures ∙ ap (λ k. get_or c.args.arrows.items (k - 1) c.index-2.result.now) long) (c.requires.arrows (length c.args.arrows.items - 1) last) c.index-4.ensures
