use Rattle.std.proofs.Common.{◌∙◌, ap, Some}
use Rattle.script_lang.specs.Relations.{term_of}
use Rattle.script_lang.proofs.PlaceLaws.{term-cut, term-whole, term_parts}
use Rattle.script_lang.proofs.relations.read_term.Goals as goal

pub returns-in_ok-path-in-Some-clause-term : goal.returns-in_ok-path-in-Some-clause-term
returns-in_ok-path-in-Some-clause-term c =
    c.term_of.ensures
    ∙ term_parts c.args.header.now.field c.args.header.now.quiver c.in-Some.coef.now c.in-Some.path.now c.size.result c.read_number.result c.in_ok-path-in-Some.path c.size.ensures c.read_number.ensures c.in_ok-path-in-Some.ensures
    ∙ term-cut c.args.header.now.field c.args.header.now.quiver c.args.token.now c.in-Some.coef.now c.in-Some.path.now c.in-Some.ensures.cut.0 c.in-Some.ensures.cut.1

pub returns-in_ok-path-in-None-clause-term : goal.returns-in_ok-path-in-None-clause-term
returns-in_ok-path-in-None-clause-term c =
    c.term_of-in-None.ensures ∙ ap (term_of (Some 1)) c.in_ok-path-in-None.ensures
    ∙ term-whole c.args.header.now.field c.args.header.now.quiver c.args.token.now c.in-None.ensures.whole
