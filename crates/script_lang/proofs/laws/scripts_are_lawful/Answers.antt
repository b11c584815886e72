use Rattle.script_lang.proofs.LawfulScripts.{script_lawful}
use Rattle.script_lang.proofs.laws.scripts_are_lawful.Goals as goal

pub returns : goal.returns
returns c = script_lawful
