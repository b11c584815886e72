use Rattle.std.proofs.Common.{arith, get_or, sym, subst, ◌-◌}
use Rattle.quiver_paths.specs.PathOrder.{IsSmaller}
use Rattle.quiver_paths.specs.declared.Path.{Path}
use Rattle.path_algebra.proofs.TipFactors.{ascend_from_steps, next_is_greater}
use Rattle.alg_table.proofs.words.words_ascend.Goals as goal

pub returns-then-not-is_smaller : goal.returns-then-not-is_smaller
returns-then-not-is_smaller c a =
    let x = c.index-words-next.result in
    let y = c.index-words-next-in-loop-next.result in
    c.if-not-is_smaller.ensures
    (subst (λ (p : Path). IsSmaller p y) (sym c.index-words-next.is) (subst (IsSmaller (get_or c.args.words.now (c.loop-next.next - 1) x)) (sym c.index-words-next-in-loop-next.is)
    (next_is_greater (λ (p : Path). p) c.args.words.now c.loop-next.next x y a (omega arith) c.loop-next-test.true)))

pub returns : goal.returns
returns c = ascend_from_steps (λ (p : Path). p) c.args.words.now (λ j d l. c.loop-next.invariant j d (omega arith))
