use Rattle.std.proofs.Common.{◌++◌, codes, sym, ap, ◌∙◌, append-nil}
use Rattle.header_text.specs.Spelling.{path_text}
use Rattle.claim_lines.proofs.WrittenLines.{then}
use Rattle.claim_lines.proofs.end_writing.push_bound_fails.Goals as goal

pub returns : goal.returns
returns c =
    let old = c.args.out.now.items in
    let path = path_text c.args.header.now.quiver c.args.path.now in
    then old c.extend_from_slice.new.self.items c.push_path.new.out.items (codes " BoundFails ") path c.in_ok-extend_from_slice.ensures.items c.in_ok-push_path.ensures
    ∙ ap (λ r. old ++ (codes " BoundFails " ++ r)) (sym (append-nil path))
