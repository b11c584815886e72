use Rattle.text_lines.proofs.StrictLaws.{strict_line-of_tokens, strict_tokens-strict_line}
use Rattle.text_lines.proofs.lines.strict_lines.Goals as goal

pub returns-clause-spelled : goal.returns-clause-spelled
returns-clause-spelled c = strict_line-of_tokens

pub returns-clause-lexed : goal.returns-clause-lexed
returns-clause-lexed c = strict_tokens-strict_line
