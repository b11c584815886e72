use Rattle.script_lang.proofs.ReferenceLaws.{reference-cut, reference-whole}
use Rattle.script_lang.proofs.tokens.read_reference.Goals as goal

pub returns-in-Some : goal.returns-in-Some
returns-in-Some c =
    let e = reference-cut c.args.token.now c.in-Some.front.now c.in-Some.back.now c.in-Some.ensures.cut.0 c.in-Some.ensures.cut.1 in
    cc (e, c.with_suffix.ensures, c.read_name.ensures, c.read_suffix.ensures)

pub returns-in-None : goal.returns-in-None
returns-in-None c =
    let e = reference-whole c.args.token.now c.in-None.ensures.whole in
    cc (e, c.with_suffix-in-None.ensures, c.read_name-in-None.ensures)
