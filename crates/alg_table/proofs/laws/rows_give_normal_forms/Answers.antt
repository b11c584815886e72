use Rattle.path_algebra.proofs.ClausesSuffice.{are_sound}
use Rattle.alg_table.proofs.CanActFrom.{can_act}
use Rattle.alg_table.proofs.FormsByRows.{form_by_rows}
use Rattle.alg_table.proofs.laws.rows_give_normal_forms.Goals as goal

pub returns : goal.returns
returns c h words steps rules ok claim m = form_by_rows h words rules (are_sound h words steps rules ok claim m) (can_act h words steps rules ok claim m.step m.rule m.reduced m.word)
