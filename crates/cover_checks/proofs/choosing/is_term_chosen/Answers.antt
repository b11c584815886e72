use Rattle.std.proofs.Common.{◌≡◌, length, sym, ap, ◌∙◌}
use Rattle.quiver_paths.specs.Quiver.{vertex_count}
use Rattle.module_types.specs.declared.TermRows.{TermRows}
use Rattle.module_types.specs.Readings.{read}
use Rattle.claim_conditions.specs.Terms.{vertices_at}
use Rattle.claim_conditions.specs.ResolutionConditions.{OfCovered, AreCanonicalIn}
use Rattle.term_rows.proofs.TermRowCells.{term_is}
use Rattle.resolution_checks.specs.Steps.{words_of_side}
use Rattle.resolution_checks.proofs.CompositesAt.{side_vertices}
use Rattle.cover_checks.proofs.ChosenTerms.{told_where, stays_chosen, term_chosen, chosen_count, rows_there}
use Rattle.cover_checks.proofs.choosing.is_term_chosen.Goals as goal

pub returns-in-Some : goal.returns-in-Some
returns-in-Some c = λ t.
    let h = c.args.table.now.header in
    let ws = c.args.table.now.words in
    let a = c.args.a.now in
    let terms = c.args.terms.now in
    let k = c.args.k in
    let W = words_of_side h ws t a terms in
    let X = read h a in
    let e = term_is ws h a terms k c.requires.terms c.index.result.now c.index.ensures in
    let len : c.len.result ≡ length (vertices_at terms k) = c.len.ensures ∙ ap (λ (r : TermRows). length r.vertices) e in
    let n = sym (side_vertices a.side h) in
    told_where c.in-Some.met c.len.result (OfCovered W X terms k (AreCanonicalIn W X terms k))
    (λ d. term_chosen W X terms k (vertex_count h.quiver) c.in-Some.met n (c.in-Some.ensures t) (rows_there h ws t a terms k c.requires.terms) (d ∙ len))
    (λ o. chosen_count W X terms k (vertex_count h.quiver) c.in-Some.met n (c.in-Some.ensures t) o ∙ sym len)

pub returns-in-None : goal.returns-in-None
returns-in-None c = λ t o. c.in-None.ensures t (stays_chosen (words_of_side c.args.table.now.header c.args.table.now.words t c.args.a.now c.args.terms.now) (read c.args.table.now.header c.args.a.now) c.args.terms.now c.args.k o)
