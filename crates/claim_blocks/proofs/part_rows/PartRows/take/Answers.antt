use Rattle.std.proofs.Common.{sym, ◌∙◌, subst}
use Rattle.claim_blocks.specs.PartRows.{HoldsRows, rows_from}
use Rattle.claim_blocks.proofs.ReadRows.{no_row_left, row_reads}
use Rattle.claim_blocks.proofs.part_rows.PartRows.take.Goals as goal

pub returns-then-self : goal.returns-then-self
returns-then-self c = let x = c.self.inside in no_row_left c.args.self.now x.field x.width x.wanted x.read x.entries.items c.args.tokens c.self.view_is c.if-self.true

pub returns : goal.returns
returns c =
    let x = c.self.inside in
    let added = rw c.if-not-added.false at c.in_ok-added.ensures in
    row_reads c.args.self.now x.field x.width x.wanted x.read c.replace-entries.result.items c.add_row_line.new.entries.items c.args.tokens
    ((λ i. rows_from x.field x.width x.wanted x.read (c.replace-entries.ensures.value i).items) ∙ c.self.view_is)
    (subst (HoldsRows x.field x.width x.wanted x.read) (sym (λ i. (c.replace-entries.ensures.value i).items)) c.self.invariant) c.if-self.false added
