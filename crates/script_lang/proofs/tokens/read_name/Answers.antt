use Rattle.script_lang.proofs.NameLaws.{name_from, no_name}
use Rattle.script_lang.proofs.tokens.read_name.Goals as goal

pub returns-then-letter : goal.returns-then-letter
returns-then-letter c = name_from c.args.token.now c.of.result c.of.ensures.named c.of.ensures.value (c.if-letter.ensures)

pub returns-else-letter : goal.returns-else-letter
returns-else-letter c = no_name c.args.token.now c.if-letter.ensures
