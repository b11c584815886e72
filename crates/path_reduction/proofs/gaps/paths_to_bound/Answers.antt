use Rattle.std.proofs.Common.{◌∙◌, sym, arith}
use Rattle.path_reduction.proofs.Closing.{few_to_bound}
use Rattle.path_reduction.proofs.gaps.paths_to_bound.Goals as goal

pub prove-unreachable-requires : goal.prove-unreachable-requires
prove-unreachable-requires c =
    let few = few_to_bound c.args.header.now.quiver c.args.header.now.bound c.requires.allowed.quiver.arrows_limit (let b = c.requires.allowed.bound_from in omega arith) c.requires.few in
    let memory = c.in-Err-PathLimit.ensures.memory (omega (arith, few)) in
    let clash = sym memory ∙ c.in-Err-PathLimit.field-0-is in
    cc
