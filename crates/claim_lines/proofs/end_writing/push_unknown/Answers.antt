use Rattle.std.proofs.Common.{◌++◌, codes, sym, ap, ◌∙◌, append_assoc, append-nil}
use Rattle.claim_lines.specs.Spelling.{suffix_text}
use Rattle.claim_lines.proofs.WrittenLines.{then}
use Rattle.claim_lines.proofs.end_writing.push_unknown.Goals as goal

pub returns : goal.returns
returns c =
    let old = c.args.out.now.items in
    let word = codes " UnknownName " in
    let name = c.args.token.now.name in
    let suffix = suffix_text c.args.token.now.suffix in
    let first = c.extend_from_slice.new.self.items in
    let second = c.extend_from_slice-2.new.self.items in
    let named = c.in_ok-extend_from_slice-2.ensures.items ∙ ap (λ r. first ++ r) c.text.ensures.bytes in
    then old second c.push_suffix.new.out.items (word ++ name) suffix (then old first second word name c.in_ok-extend_from_slice.ensures.items named) c.in_ok-push_suffix.ensures
    ∙ ap (λ r. old ++ r) (append_assoc word name suffix ∙ ap (λ r. word ++ r) (sym (append-nil (name ++ suffix))))
