use Rattle.std.proofs.Common.{◌++◌, ◌∷◌, map, decimal, codes, sym, ap, ◌∙◌, append_assoc}
use Rattle.claim_lines.specs.Spelling.{behind_spaces, parts_form}
use Rattle.claim_lines.proofs.WrittenLines.{then}
use Rattle.claim_lines.proofs.SpacedTokens.{behind-append}
use Rattle.claim_lines.proofs.head_writing.push_decomposition.Goals as goal

pub returns : goal.returns
returns c =
    let old = c.args.out.now.items in
    let front = codes "decomposition" ∷ map decimal c.args.numbers.now in
    let parts = behind_spaces (parts_form c.args.parts.now) in
    let two = then old c.push_form.new.out.items c.extend_from_slice.new.self.items (behind_spaces front) (codes " parts") c.in_ok-push_form.ensures c.in_ok-extend_from_slice.ensures.items in
    then old c.extend_from_slice.new.self.items c.push_parts.new.out.items (behind_spaces front ++ codes " parts") parts two c.in_ok-push_parts.ensures
    ∙ ap (λ r. old ++ r) (append_assoc (behind_spaces front) (codes " parts") parts ∙ sym (behind-append front (codes "parts" ∷ parts_form c.args.parts.now)))
