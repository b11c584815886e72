use Rattle.std.proofs.Common.{length, sym, ap, ◌∙◌}
use Rattle.quiver_paths.specs.declared.Path.{Path}
use Rattle.claim_lines.proofs.NumberReading.{head_is}
use Rattle.claim_lines.proofs.PathReading.{one_any_path}
use Rattle.claim_lines.proofs.causes.bound_path.Goals as goal

pub returns-then-len-header : goal.returns-then-len-header
returns-then-len-header c =
    let known = rw c.in-Some.is at c.in_ok-path.ensures in
    λ x is e.
    let same = one_any_path c.args.header.now.quiver c.requires c.in-Some.path x known.0 is.path (head_is _ _ _ _ (sym known.1 ∙ e)) in
    c.if-len-header.true (c.len.ensures ∙ (ap (λ (q : Path). length q.arrows) same ∙ is.long))
