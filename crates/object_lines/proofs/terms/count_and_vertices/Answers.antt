use Rattle.std.proofs.Common.{◌≡◌, true, false, length, refl, arith}
use Rattle.object_lines.proofs.ModuleReading.{no_vertices, more_vertices, are_vertices}
use Rattle.object_lines.proofs.terms.count_and_vertices.Goals as goal

pub returns-in_default : goal.returns-in_default
returns-in_default c = λ x fits e. let few = fits.few in c.in_default.ensures.none (length x) _ (omega arith) e

pub returns-then-not-taken : goal.returns-then-not-taken
returns-then-not-taken c = no_vertices c.args.header.now c.in-Some.count c.args.tokens c.take_numeral.new.self (let w = c.in-Some.ensures.within in omega arith) c.in-Some.ensures.taken (rw c.if-not-taken.true at c.in_ok-taken.ensures)

pub returns-then-not-is_done : goal.returns-then-not-is_done
returns-then-not-is_done c =
    more_vertices c.args.header.now c.in-Some.count _ _ c.args.tokens c.take_numeral.new.self _ (let w = c.in-Some.ensures.within in omega arith) c.in-Some.ensures.taken
    (λ e. let g : false ≡ true = c.if-not-is_done.ensures.1 e in cc) (rw c.if-not-taken.false at c.in_ok-taken.ensures)

pub returns : goal.returns
returns c =
    are_vertices c.args.header.now c.in-Some.count _ _ c.args.tokens c.take_numeral.new.self _ (let w = c.in-Some.ensures.within in omega arith) c.in-Some.ensures.taken
    (c.if-not-is_done.ensures.0 refl) c.new-vertices.ensures (rw c.if-not-taken.false at c.in_ok-taken.ensures)
