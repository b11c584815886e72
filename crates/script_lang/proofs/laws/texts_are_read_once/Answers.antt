use Rattle.script_lang.proofs.ScriptLaws.{one_script, one_bad_line, script_not_bad, text_read_or_bad}
use Rattle.script_lang.proofs.laws.texts_are_read_once.Goals as goal

pub returns-clause-one : goal.returns-clause-one
returns-clause-one c = one_script

pub returns-clause-one_bad : goal.returns-clause-one_bad
returns-clause-one_bad c = one_bad_line

pub returns-clause-not_bad : goal.returns-clause-not_bad
returns-clause-not_bad c = script_not_bad

pub returns-clause-read_or_bad : goal.returns-clause-read_or_bad
returns-clause-read_or_bad c = text_read_or_bad
