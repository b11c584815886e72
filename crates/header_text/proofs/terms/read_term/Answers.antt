use Rattle.std.proofs.Common.{◌≡◌, true, false}
use Rattle.header_text.proofs.TermLemmas.{no_coefficient_no_term, no_path_no_term, no_length_no_term}
use Rattle.header_text.proofs.terms.read_term.Goals as goal

pub returns-in_default : goal.returns-in_default
returns-in_default c = no_coefficient_no_term c.args.header.now c.requires c.args.token.now c.in_default.ensures.none

pub returns-in_default-2 : goal.returns-in_default-2
returns-in_default-2 c =
    no_path_no_term c.args.header.now c.requires c.args.token.now c.in-Some.coef c.in-Some.rest.now c.in-Some.ensures.cut (rw c.in_default-2.is at c.in_ok-path.ensures)

pub returns-then-not-has_term_length : goal.returns-then-not-has_term_length
returns-then-not-has_term_length c =
    let known = rw c.in-Some-2.is at c.in_ok-path.ensures in
    no_length_no_term c.args.header.now c.requires c.args.token.now c.in-Some.coef c.in-Some.rest.now c.in-Some.ensures.cut c.in-Some-2.path known.0 known.1
    (λ both. let g : false ≡ true = c.if-not-has_term_length.ensures.1 both in cc)
