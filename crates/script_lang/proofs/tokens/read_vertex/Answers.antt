use Rattle.script_lang.proofs.NameLaws.{vertex_from}
use Rattle.script_lang.proofs.tokens.read_vertex.Goals as goal

pub returns : goal.returns
returns c = vertex_from c.args.token.now c.of.result c.of.ensures.named c.of.ensures.value
