use Rattle.std.proofs.Common.{arith, ap, ◌∙◌}
use Rattle.claim_text.specs.Part.{fill}
use Rattle.claim_text.proofs.ObjectReading.{no_more, takes_matrix}
use Rattle.claim_text.proofs.part.Part.take_matrix.Goals as goal

pub returns-then-i-matrix_count : goal.returns-then-i-matrix_count
returns-then-i-matrix_count c = no_more c.args.self.now c.args.owner c.args.tokens (omega (arith, c.len-i.ensures, c.matrix_count.ensures, c.if-i-matrix_count.true))

pub returns : goal.returns
returns c =
    let p = c.args.self.now in
    let m = c.in-Some.m in
    takes_matrix p c.args.owner c.len-i.result m c.args.tokens c.fill.new.self c.len-i.ensures (rw c.in-Some.is at c.in_ok-m.ensures)
    (λ e. omega (arith, e, c.rows.ensures.count, c.if-rows-eq0.false)) (λ e. omega (arith, e, c.cols.ensures.count, c.if-cols-eq0.false))
    (c.in_ok-fill.ensures ∙ ap (λ ms. fill (record p { matrices = ms }) c.args.owner) c.in_ok-push.ensures)
