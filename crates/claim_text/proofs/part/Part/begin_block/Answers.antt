use Rattle.claim_text.proofs.LineReading.{fitting_lines, begins_lines}
use Rattle.claim_text.proofs.part.Part.begin_block.Goals as goal

pub begin-requires : goal.begin-requires
begin-requires c = c.context.ensures.named

pub unreachable-requires : goal.unreachable-requires
unreachable-requires c = (rw c.in_default.is at c.in_ok-block.ensures) (fitting_lines c.args.self.now c.args.head.now c.context.result c.context.ensures.value c.requires.lines)

pub set_block-requires-clause-modules : goal.set_block-requires-clause-modules
set_block-requires-clause-modules c = c.requires.claim.few_modules

pub set_block-requires-clause-maps : goal.set_block-requires-clause-maps
set_block-requires-clause-maps c = c.requires.claim.few_maps

pub returns : goal.returns
returns c =
    begins_lines c.args.self.now c.set_block.new.self c.args.line c.args.head.now c.context.result c.in-Some.block c.context.ensures.value (rw c.in-Some.is at c.in_ok-block.ensures).1
    c.in_ok-set_block.ensures
