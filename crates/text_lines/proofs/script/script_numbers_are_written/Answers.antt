use Rattle.text_lines.proofs.ShortNumbers.{number-both}
use Rattle.text_lines.proofs.script.script_numbers_are_written.Goals as goal

pub returns : goal.returns
returns c = number-both
