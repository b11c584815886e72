use Rattle.text_lines.proofs.Readings.{whole_not_bad, one_bad}
use Rattle.text_lines.proofs.reading.one_first_bad_line.Goals as goal

pub returns-clause-whole : goal.returns-clause-whole
returns-clause-whole g c = whole_not_bad _ _ g.met.R.LineReader.determined

pub returns-clause-one : goal.returns-clause-one
returns-clause-one g c = one_bad _ _ g.met.R.LineReader.determined
