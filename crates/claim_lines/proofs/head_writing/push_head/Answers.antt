use Rattle.std.proofs.Common.{◌≡◌, ◌++◌, sym, subst}
use Rattle.std.specs.Prelude.{OnOk}
use Rattle.claim_lines.specs.declared.heads.Head.{Head}
use Rattle.claim_lines.specs.Spelling.{behind_spaces, head_form}
use Rattle.claim_lines.specs.Reading.{IsLong}
use Rattle.claim_lines.proofs.head_writing.push_head.Goals as goal

pub push_long_head-requires : goal.push_long_head-requires
push_long_head-requires c = subst IsLong (sym c.in-Ext.is) tt

pub push_long_head-requires-in-Decomposition : goal.push_long_head-requires-in-Decomposition
push_long_head-requires-in-Decomposition c = subst IsLong (sym c.in-Decomposition.is) tt

pub push_long_head-requires-in-Translate : goal.push_long_head-requires-in-Translate
push_long_head-requires-in-Translate c = subst IsLong (sym c.in-Translate.is) tt

pub push_long_head-requires-in-AlmostSplit : goal.push_long_head-requires-in-AlmostSplit
push_long_head-requires-in-AlmostSplit c = subst IsLong (sym c.in-AlmostSplit.is) tt

pub returns-in-Resolution : goal.returns-in-Resolution
returns-in-Resolution c =
    subst (λ (x : Head). OnOk c.push_form-in-Resolution.result (c.push_form-in-Resolution.new.out.items ≡ c.args.out.now.items ++ behind_spaces (head_form x))) (sym c.in-Resolution.is)
    c.push_form-in-Resolution.ensures
