use Rattle.std.proofs.Common.{sym, subst}
use Rattle.std.specs.Prelude.{IfOk, MatchBool}
use Rattle.claim_text.specs.declared.part.Part.{Part}
use Rattle.claim_text.specs.Steps.{TokenStep}
use Rattle.claim_text.proofs.part.Part.take_tokens.Goals as goal

pub returns-in-Header : goal.returns-in-Header
returns-in-Header c =
    subst (λ s. IfOk c.take_first.result (λ taken. MatchBool taken (TokenStep s c.args.self.now c.args.tokens c.take_first.new.self) ((next : Part) → TokenStep s c.args.self.now c.args.tokens next → ⊥)))
    (sym c.in-Header.is) c.take_first.ensures

pub returns-in-Between : goal.returns-in-Between
returns-in-Between c =
    subst (λ s. IfOk c.take_item.result (λ taken. MatchBool taken (TokenStep s c.args.self.now c.args.tokens c.take_item.new.self) ((next : Part) → TokenStep s c.args.self.now c.args.tokens next → ⊥)))
    (sym c.in-Between.is) c.take_item.ensures
