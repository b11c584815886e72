use Rattle.std.proofs.Common.{◌∷◌, List, ℕ, refl, sym, ap, ◌∙◌, subst}
use Rattle.std.specs.Prelude.{All}
use Rattle.header_text.specs.Reading.{ReadsFirst}
use Rattle.claim_lines.specs.Reading.{IsTailTerm, tail_then_by}
use Rattle.claim_lines.proofs.RuleReading.{zero_reads}
use Rattle.claim_lines.proofs.rules.read_tail.Goals as goal

pub returns-then-is_zero : goal.returns-then-is_zero
returns-then-is_zero c =
    subst (λ (ts : List (List ℕ)). ReadsFirst (All (IsTailTerm c.args.header.now)) (tail_then_by c.args.header.now.quiver) ts c.zero_tail.new.tokens c.zero_tail.result)
    (sym (c.in-Some.ensures ∙ ap (λ t. t ∷ c.next_part.new.self) (c.if-is_zero.ensures.0 refl)))
    (zero_reads c.args.header.now c.requires c.next_part.new.self c.zero_tail.new.tokens c.zero_tail.result c.zero_tail.ensures)
