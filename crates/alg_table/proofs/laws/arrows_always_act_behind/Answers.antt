use Rattle.path_algebra.proofs.ClausesSuffice.{are_sound}
use Rattle.alg_table.proofs.BehindForms.{behind_always}
use Rattle.alg_table.proofs.laws.arrows_always_act_behind.Goals as goal

pub returns : goal.returns
returns c h words steps rules ok claim m =
    let s = are_sound h words steps rules ok claim m in
    behind_always h words rules (record { are = s.are; short = s.short; member = s.member; reduced = s.reduced; word = s.word; action = m.action })
