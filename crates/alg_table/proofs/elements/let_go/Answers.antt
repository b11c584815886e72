use Rattle.std.proofs.Common.{arith, sym, subst, refl}
use Rattle.path_algebra.specs.Rules.{AreElementTerms}
use Rattle.path_algebra.proofs.TermLists.{AreElementTerms-nil}
use Rattle.alg_table.proofs.KeptElements.{let_go_kept}
use Rattle.alg_table.proofs.elements.let_go.Goals as goal

pub returns-then-lasts-number-clause-in_use : goal.returns-then-lasts-number-clause-in_use
returns-then-lasts-number-clause-in_use c h xs held =
    let_go_kept h xs c.args.lasts.now c.args.elements.now.items _ c.args.number _ c.requires.number
    (let room = c.args.elements.now.ok in let past = c.if-lasts-number.true in let count = c.len.ensures in omega (arith, room, count, past))
    refl (subst (AreElementTerms h) (sym c.new.ensures) (AreElementTerms-nil h)) held
