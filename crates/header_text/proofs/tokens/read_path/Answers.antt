use Rattle.header_text.proofs.Readers.{path_of_arrows, no_arrows_no_path}
use Rattle.header_text.proofs.tokens.read_path.Goals as goal

pub returns-in-Some : goal.returns-in-Some
returns-in-Some c =
    let known = rw c.in-Some.is at c.in_ok-arrows.ensures in
    path_of_arrows c.args.quiver.now c.requires c.args.token.now c.in-Some.arrows known.0 known.1 c.path_of.result c.path_of.ensures

pub returns-in-None : goal.returns-in-None
returns-in-None c = no_arrows_no_path c.args.quiver.now c.args.token.now (rw c.in-None.is at c.in_ok-arrows.ensures)
