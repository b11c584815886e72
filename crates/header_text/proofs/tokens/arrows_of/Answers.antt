use Rattle.header_text.proofs.Readers.{no_arrows, all_arrows}
use Rattle.header_text.proofs.tokens.arrows_of.Goals as goal

pub returns-in_default-arrow_place : goal.returns-in_default-arrow_place
returns-in_default-arrow_place c =
    no_arrows c.args.quiver.now c.requires c.args.token.now c.loop-name.arrows c.in-Some.name.now c.loop-name.names _ c.loop-name.invariant.whole c.in-Some.ensures c.in_default-arrow_place.ensures

pub returns : goal.returns
returns c = all_arrows c.args.quiver.now c.args.token.now c.loop-name.arrows c.loop-name.names c.loop-name.invariant.whole c.in_default.ensures.0 c.loop-name.invariant.places
