use Rattle.std.proofs.Common.{◌<◌, ◌≤◌, arith, ap, ◌∙◌, subst, Some}
use Rattle.header_text.specs.Reading.{Reads}
use Rattle.report_types.specs.Limits.{term_limit}
use Rattle.object_lines.specs.Items.{FitsTerm}
use Rattle.object_lines.specs.Spelling.{term_line}
use Rattle.claim_blocks.specs.Counts.{table_dims, table_dimension}
use Rattle.claim_blocks.specs.TermBlocks.{settled}
use Rattle.claim_blocks.proofs.TermReading.{large_term, takes_vertices}
use Rattle.claim_blocks.proofs.term_block.TermBlock.take_vertices.Goals as goal

pub returns-in_default-2 : goal.returns-in_default-2
returns-in_default-2 c = λ next.
    let b = c.args.self.now in
    let h = c.args.header.now in
    let vs = c.in-Some.vertices in
    let reads = subst (λ k. Reads (FitsTerm h) (term_line h.quiver k) c.args.tokens (Some vs)) c.len-count.ensures (rw c.in-Some.is at c.in_ok-vertices.ensures) in
    large_term h b c.args.tokens next c.requires vs reads (subst (λ x. term_limit < table_dimension b.table x) c.as_slice.ensures (rw c.in_default-2.is at c.in_ok-dims.ensures))

pub returns : goal.returns
returns c =
    let b = c.args.self.now in
    let h = c.args.header.now in
    let vs = c.in-Some.vertices in
    let reads = subst (λ k. Reads (FitsTerm h) (term_line h.quiver k) c.args.tokens (Some vs)) c.len-count.ensures (rw c.in-Some.is at c.in_ok-vertices.ensures) in
    let known = rw c.in-Some-2.is at c.in_ok-dims.ensures in
    let reached = c.replace.ensures.after ∙ (known.1 ∙ ap (table_dims b.table) c.as_slice.ensures) in
    takes_vertices h b c.args.tokens c.settle.new.self c.requires vs reads (let l = c.if-count-self.false in let e = c.len-count.ensures in omega (arith, l, e))
    (let l = c.if-count-gt16.false in let e = c.len-count.ensures in omega (arith, l, e))
    (let l = c.if-len.false in let e = c.len.ensures in omega (arith, l, e)) (subst (λ x. table_dimension b.table x ≤ term_limit) c.as_slice.ensures known.0)
    (c.in_ok-settle.ensures ∙ (λ i. settled (record b { covered = c.replace.ensures.value i; reached = reached i; vertices = vs; images = c.new.ensures i })))
