use Rattle.std.proofs.Common.{arith, rules}
use Rattle.std.proofs.Common.{ltb, ltb-true, ltb-false}
use Rattle.std.proofs.lemmas.List.Sorted.{IsPartitionPoint-from_clause, IsPartitionedBy-ltb}
use Rattle.report_types.proofs.records.first_end.Goals as goal

pub returns-clause-below : goal.returns-clause-below
returns-clause-below c =
    let parted = IsPartitionedBy-ltb (λ x. x) c.args.ends.now c.args.n c.requires in
    let point = IsPartitionPoint-from_clause (λ x. ltb x c.args.n) _ _ c.partition_point.ensures.partitioned parted (λ a r q k. search rules) in
    λ k h. ltb-true _ _ (point.0 k 0 (omega arith) h)

pub returns-clause-from : goal.returns-clause-from
returns-clause-from c =
    let parted = IsPartitionedBy-ltb (λ x. x) c.args.ends.now c.args.n c.requires in
    let point = IsPartitionPoint-from_clause (λ x. ltb x c.args.n) _ _ c.partition_point.ensures.partitioned parted (λ a r q k. search rules) in
    λ k h l. ltb-false _ _ (point.1 k 0 h l)
