use Rattle.std.proofs.Common.{◌≡◌, ◌≤◌, true, false, codes, decimal, sym, subst}
use Rattle.module_types.specs.Shapes.{dimension, most_dimension}
use Rattle.object_lines.proofs.ModuleReading.{numbers_of_fits, behind_both, too_large_head}
use Rattle.object_lines.proofs.objects.read_module.Goals as goal

pub returns-in_default : goal.returns-in_default
returns-in_default c = λ x fits e.
    let front = rw c.if-not-take_word_and_number.false at c.take_word_and_number.ensures in
    let none = rw c.in_default.is at c.in_ok-head.ensures in
    none x (numbers_of_fits c.args.header.now x c.len.result c.len.ensures fits) (behind_both (codes "module") (decimal c.args.k) c.args.tokens c.take_word_and_number.new.tokens _ front e)

pub returns-then-not-are_small : goal.returns-then-not-are_small
returns-then-not-are_small c =
    let front = rw c.if-not-take_word_and_number.false at c.take_word_and_number.ensures in
    let known = rw c.in-Some.is at c.in_ok-head.ensures in
    too_large_head c.args.header.now c.args.k c.len.result c.args.tokens c.take_word_and_number.new.tokens c.in-Some.head c.len.ensures front known.0 known.1
    (λ small. let g : false ≡ true = c.if-not-are_small.ensures.1 (subst (λ l. dimension l ≤ most_dimension) (sym c.as_slice.ensures) small) in cc)
