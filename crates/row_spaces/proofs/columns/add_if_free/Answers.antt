use Rattle.std.proofs.Common.{arith}
use Rattle.std.proofs.lemmas.Bool.{eqb-true, eqb-false}
use Rattle.row_spaces.proofs.FreeColumns.{AreFree-pivot, AreFree-more}
use Rattle.row_spaces.proofs.columns.add_if_free.Goals as goal

pub returns-then-contains : goal.returns-then-contains
returns-then-contains c =
    let found = c.if-contains.ensures.cases in
    AreFree-pivot c.args.column found.0 c.args.pivots.now c.args.free.now.items found.1 (eqb-true _ _ (found.2 0)) c.requires

pub returns : goal.returns
returns c =
    let none = c.if-contains.ensures.cases in
    rw c.in_ok-push.ensures.items (AreFree-more c.args.column c.args.pivots.now c.args.free.now.items (λ i l e. eqb-false _ _ (none i 0 (omega arith) l) e) c.requires)
