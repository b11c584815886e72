use Rattle.std.proofs.Common.{[], sym, subst, ◌∙◌}
use Rattle.path_algebra.specs.declared.Header.{Header}
use Rattle.path_algebra.specs.Allowed.{IsAllowed}
use Rattle.path_algebra.specs.BasisClauses.{IsBasisClaim}
use Rattle.quiver_paths.specs.declared.Path.{Path}
use Rattle.std.specs.Prelude.{List}
use Rattle.rep_arena.specs.OneLoop.{one_loop}
use Rattle.rep_arena.proofs.OneLoops.{one_loop_allowed, one_loop_claim}
use Rattle.rep_arena.proofs.tests.loop_table.Goals as goal

pub check_basis-table-requires-clause-allowed : goal.check_basis-table-requires-clause-allowed
check_basis-table-requires-clause-allowed c = subst IsAllowed (sym c.in_ok-header.ensures) (one_loop_allowed c.args.field)

pub check_basis-table-requires-clause-claim : goal.check_basis-table-requires-clause-claim
check_basis-table-requires-clause-claim c =
    subst (λ (h : Header). IsBasisClaim h c.deref.result.now [] []) (sym c.in_ok-header.ensures)
    (subst (λ (words : List Path). IsBasisClaim (one_loop c.args.field) words [] []) (sym (c.deref.ensures.value ∙ c.in_ok-words.ensures)) (one_loop_claim c.args.field))
