use Rattle.std.proofs.Common.{◌≡◌, sym, ap, ◌∙◌}
use Rattle.script_lang.specs.Scripts.{script_of}
use Rattle.script_lang.proofs.LawfulScripts.{read_lawful}
use Rattle.script_lang.proofs.reader.parse.Goals as goal

pub returns-in-Ok-clause-lawful : goal.returns-in-Ok-clause-lawful
returns-in-Ok-clause-lawful c =
    let says : c.script_of.result ≡ script_of c.read_lines.new.reader = cc (c.script_of.ensures, c.reader.view_is) in
    read_lawful c.args.text.now c.start.result c.read_lines.new.reader c.script_of.result c.requires c.start.ensures.value c.in-Ok.ensures.whole says
