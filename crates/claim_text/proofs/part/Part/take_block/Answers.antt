use Rattle.std.proofs.Common.{sym, ◌∙◌, rules}
use Rattle.claim_text.proofs.LineReading.{takes_line, no_line, no_block, many_modules, many_maps}
use Rattle.claim_text.proofs.part.Part.take_block.Goals as goal

pub returns-in_default : goal.returns-in_default
returns-in_default c = many_modules c.args.self.now c.args.self.now.block c.args.tokens c.in_default.ensures

pub returns-in_default-map_count : goal.returns-in_default-map_count
returns-in_default-map_count c = many_maps c.args.self.now c.args.self.now.block c.args.tokens c.in_default-map_count.ensures

pub returns-in_default-replace : goal.returns-in_default-replace
returns-in_default-replace c = no_block c.args.self.now c.args.self.now.block c.args.tokens (sym c.replace.ensures.value ∙ c.in_default-replace.is)

pub returns-then-not-taken : goal.returns-then-not-taken
returns-then-not-taken c =
    no_line c.args.self.now c.args.self.now.block c.in-Some-replace.block c.header-header.result.now c.args.tokens (sym c.replace.ensures.value ∙ c.in-Some-replace.is) c.header-header.ensures.same
    (rw c.if-not-taken.true at c.in_ok-taken.ensures)

pub returns : goal.returns
returns c =
    takes_line c.args.self.now c.args.self.now.block c.in-Some-replace.block c.take.new.self c.header-header.result.now c.args.tokens c.set_block.new.self (sym c.replace.ensures.value ∙ c.in-Some-replace.is)
    c.header-header.ensures.same c.header-header.ensures.front (search rules) (search rules) (rw c.if-not-taken.false at c.in_ok-taken.ensures) c.in_ok-set_block.ensures
