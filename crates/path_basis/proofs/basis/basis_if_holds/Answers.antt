use Rattle.std.proofs.Common.{Err, sym, ap, subst}
use Rattle.path_algebra.specs.BasisClauses.{IsBasisClaim, MeetsClauses}
use Rattle.path_basis.proofs.NormalWords.{read_claim, read_meets, no_first_fault, result_is}
use Rattle.path_basis.proofs.basis.basis_if_holds.Goals as goal

pub check_basis-requires-clause-claim : goal.check_basis-requires-clause-claim
check_basis-requires-clause-claim c = subst (IsBasisClaim c.args.header.now c.deref-2.result.now c.deref-3.result.now) (sym c.deref-4.ensures.value)
    (read_claim c.args.header.now c.in_ok-rules.rules.items c.deref.result.now c.args.paths.now c.in_ok-words.words.items c.deref-2.result.now c.in_ok-rules.steps.items c.deref-3.result.now c.in_ok-rules.ensures.tidy
    c.requires.few_paths c.requires.paths c.in_ok-words.ensures c.in_ok-rules.ensures.lawful c.deref.ensures.value c.deref-2.ensures.value c.deref-3.ensures.value)

pub returns-in-Ok-clause-holds : goal.returns-in-Ok-clause-holds
returns-in-Ok-clause-holds c =
    result_is c.args.header.now (record { table = c.in-Ok.table; steps = c.from_vec.result; rules = c.from_vec-in-Ok.result }) c.deref-2.result.now c.in_ok-rules.steps.items c.deref-3.result.now c.in_ok-rules.rules.items c.deref-4.result.now
    c.requires.allowed c.in-Ok.ensures.header c.in-Ok.ensures.words c.deref-3.ensures.value c.deref-4.ensures.value c.from_vec.ensures c.from_vec-in-Ok.ensures
    (subst (IsBasisClaim c.args.header.now c.deref-2.result.now c.deref-3.result.now) (sym c.deref-4.ensures.value)
    (read_claim c.args.header.now c.in_ok-rules.rules.items c.deref.result.now c.args.paths.now c.in_ok-words.words.items c.deref-2.result.now c.in_ok-rules.steps.items c.deref-3.result.now c.in_ok-rules.ensures.tidy
    c.requires.few_paths c.requires.paths c.in_ok-words.ensures c.in_ok-rules.ensures.lawful c.deref.ensures.value c.deref-2.ensures.value c.deref-3.ensures.value))
    c.in-Ok.ensures.holds c.in_ok-rules.ensures.used c.in_ok-rules.ensures.few_steps c.in_ok-rules.ensures.few_rules

pub returns-in-Err-Fault-clause-gaps : goal.returns-in-Err-Fault-clause-gaps
returns-in-Err-Fault-clause-gaps c closed =
    no_first_fault c.args.header.now c.deref-2.result.now c.deref-3.result.now c.deref-4.result.now c.in-Err-Fault.field-0-0
    (subst (MeetsClauses c.args.header.now c.deref-2.result.now c.deref-3.result.now) (sym c.deref-4.ensures.value)
    (read_meets c.args.header.now c.in_ok-rules.rules.items c.deref.result.now c.args.paths.now c.in_ok-words.words.items c.deref-2.result.now c.in_ok-rules.steps.items c.deref-3.result.now c.requires.allowed
    (c.in_ok-rules.ensures.closed closed) c.requires.paths c.in_ok-words.ensures c.in_ok-rules.ensures.lawful c.in_ok-rules.ensures.derived c.deref.ensures.value c.deref-2.ensures.value c.deref-3.ensures.value))
    (c.in-Err-Fault.ensures.fault c.in-Err-Fault.field-0-0 (ap Err c.in-Err-Fault.field-0-is))
