use Rattle.alg_table.proofs.KeptElements.{numbered_terms, left_kept, right_kept, add_kept, left_terms, right_terms}
use Rattle.alg_table.proofs.elements.terms_of_step.Goals as goal

pub terms_behind-requires-clause-terms : goal.terms_behind-requires-clause-terms
terms_behind-requires-clause-terms c =
    let named = rw c.in-Left.is at c.requires.named in
    numbered_terms c.args.header.now c.args.elements.now c.in-Left.number c.terms_at.result.now named.1 c.terms_at.ensures c.requires.terms

pub terms_before-requires-clause-terms : goal.terms_before-requires-clause-terms
terms_before-requires-clause-terms c =
    let named = rw c.in-Right.is at c.requires.named in
    numbered_terms c.args.header.now c.args.elements.now c.in-Right.number c.terms_at-in-Right.result.now named.0 c.terms_at-in-Right.ensures c.requires.terms

pub plus_multiple-requires-clause-first : goal.plus_multiple-requires-clause-first
plus_multiple-requires-clause-first c =
    let named = rw c.in-Add.is at c.requires.named in
    numbered_terms c.args.header.now c.args.elements.now c.in-Add.number c.terms_at-first.result.now named.0 c.terms_at-first.ensures c.requires.terms

pub plus_multiple-requires-clause-second : goal.plus_multiple-requires-clause-second
plus_multiple-requires-clause-second c =
    let named = rw c.in-Add.is at c.requires.named in
    numbered_terms c.args.header.now c.args.elements.now c.in-Add.other c.terms_at-second.result.now named.1 c.terms_at-second.ensures c.requires.terms

pub returns-in_ok-terms-in-Left-clause-terms : goal.returns-in_ok-terms-in-Left-clause-terms
returns-in_ok-terms-in-Left-clause-terms c =
    let named = rw c.in-Left.is at c.requires.named in
    left_terms c.args.header.now c.in-Left.arrow c.in_ok-path-in-Left.path c.terms_at.result.now c.in_ok-terms-in-Left.terms.items c.requires.allowed named.0 c.in_ok-path-in-Left.ensures c.in_ok-terms-in-Left.ensures
    (numbered_terms c.args.header.now c.args.elements.now c.in-Left.number c.terms_at.result.now named.1 c.terms_at.ensures c.requires.terms)

pub returns-in_ok-terms-in-Left-clause-value : goal.returns-in_ok-terms-in-Left-clause-value
returns-in_ok-terms-in-Left-clause-value c xs kept =
    let named = rw c.in-Left.is at c.requires.named in
    let is = rw c.in-Left.is at kept in
    rw c.in-Left.is (left_kept c.args.header.now xs c.args.elements.now c.in-Left.arrow c.in-Left.number c.in_ok-path-in-Left.path c.terms_at.result.now c.in_ok-terms-in-Left.terms.items
    c.requires.allowed named.0 c.in_ok-path-in-Left.ensures c.terms_at.ensures c.in_ok-terms-in-Left.ensures is)

pub returns-in_ok-terms-in-Right-clause-terms : goal.returns-in_ok-terms-in-Right-clause-terms
returns-in_ok-terms-in-Right-clause-terms c =
    let named = rw c.in-Right.is at c.requires.named in
    right_terms c.args.header.now c.in-Right.arrow c.in_ok-path-in-Right.path c.terms_at-in-Right.result.now c.in_ok-terms-in-Right.terms.items c.requires.allowed named.1 c.in_ok-path-in-Right.ensures c.in_ok-terms-in-Right.ensures
    (numbered_terms c.args.header.now c.args.elements.now c.in-Right.number c.terms_at-in-Right.result.now named.0 c.terms_at-in-Right.ensures c.requires.terms)

pub returns-in_ok-terms-in-Right-clause-value : goal.returns-in_ok-terms-in-Right-clause-value
returns-in_ok-terms-in-Right-clause-value c xs kept =
    let named = rw c.in-Right.is at c.requires.named in
    let is = rw c.in-Right.is at kept in
    rw c.in-Right.is (right_kept c.args.header.now xs c.args.elements.now c.in-Right.number c.in-Right.arrow c.in_ok-path-in-Right.path c.terms_at-in-Right.result.now c.in_ok-terms-in-Right.terms.items
    c.requires.allowed named.1 c.in_ok-path-in-Right.ensures c.terms_at-in-Right.ensures c.in_ok-terms-in-Right.ensures is)

pub returns-in_ok-terms-in-Add-clause-value : goal.returns-in_ok-terms-in-Add-clause-value
returns-in_ok-terms-in-Add-clause-value c xs kept =
    let is = rw c.in-Add.is at kept in
    rw c.in-Add.is (add_kept c.args.header.now xs c.args.elements.now c.in-Add.number c.in-Add.factor c.in-Add.other c.terms_at-first.result.now c.terms_at-second.result.now
    c.in_ok-terms-in-Add.terms.items c.terms_at-first.ensures c.terms_at-second.ensures c.in_ok-terms-in-Add.ensures is.0 is.1)
