use Rattle.std.proofs.Common.{◌≡◌, ◌++◌, ◌+◌, ◌-◌, ap, sym, ◌∙◌, arith}
use Rattle.text_lines.specs.Strict.{strict_line}
use Rattle.header_text.specs.Spelling.{text_of}
use Rattle.claim_lines.specs.Spelling.{claim_line}
use Rattle.claim_lines.proofs.WrittenLines.{then}
use Rattle.claim_text.specs.Spelling.{module_lines, map_lines, head_of, claim_block}
use Rattle.claim_text.proofs.WrittenBlocks.{text-of_record}
use Rattle.claim_text.proofs.writing.push_record.Goals as goal

pub returns : goal.returns
returns c =
    let o = c.args.out.now.items in
    let h = c.args.header.now in
    let r = c.args.item.now in
    let k = c.args.k in
    let number : k ≡ (k - 1) + 1 = let from = c.requires.number in omega (arith, from) in
    let modules = c.in_ok-push_modules.ensures ∙ ap (λ x. o ++ text_of (module_lines h c.args.modules x)) c.as_slice.ensures in
    let maps = c.in_ok-push_maps.ensures ∙ ap (λ x. c.push_modules.new.out.items ++ text_of (map_lines h c.args.maps x)) c.as_slice-2.ensures in
    let first = c.in_ok-push_first_line.ensures ∙ ap (λ n. c.push_maps.new.out.items ++ strict_line (claim_line n r.line (head_of r.claim))) number in
    then o _ _ _ _ (then o _ _ _ _ (then o _ _ _ _ modules maps) first) c.in_ok-push_claim.ensures
    ∙ ap (λ x. o ++ x) (sym (text-of_record (module_lines h c.args.modules r.modules) (map_lines h c.args.maps r.maps) (claim_line ((k - 1) + 1) r.line (head_of r.claim)) (claim_block h r.claim)))
