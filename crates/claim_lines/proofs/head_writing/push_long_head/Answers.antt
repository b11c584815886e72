use Rattle.std.proofs.Common.{◌≡◌, ◌++◌, sym, subst}
use Rattle.std.specs.Prelude.{OnOk}
use Rattle.claim_lines.specs.declared.heads.Head.{Head}
use Rattle.claim_lines.specs.Spelling.{behind_spaces, head_form}
use Rattle.claim_lines.proofs.head_writing.push_long_head.Goals as goal

pub returns-in-AlmostSplit : goal.returns-in-AlmostSplit
returns-in-AlmostSplit c =
    subst (λ (x : Head). OnOk c.push_using-in-AlmostSplit.result (c.push_using-in-AlmostSplit.new.out.items ≡ c.args.out.now.items ++ behind_spaces (head_form x))) (sym c.in-AlmostSplit.is)
    c.push_using-in-AlmostSplit.ensures
