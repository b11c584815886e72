use Rattle.std.proofs.Common.{◌<◌, sym, ◌∙◌, subst}
use Rattle.module_types.specs.Algebras.{algebra_at}
use Rattle.module_types.specs.Readings.{read}
use Rattle.term_rows.proofs.WordRows.{covered_is}
use Rattle.term_rows.proofs.TermRowCells.{term_is}
use Rattle.resolution_checks.specs.Steps.{words_of_side}
use Rattle.resolution_checks.proofs.CompositesAt.{side_vertices}
use Rattle.cover_checks.specs.Folds.{IsBasisAt}
use Rattle.cover_checks.proofs.ChosenTerms.{basis_inside, vertex_passed, read_there}
use Rattle.cover_checks.proofs.choosing.meet_vertex.Goals as goal

pub find_pivots-requires-clause-inside : goal.find_pivots-requires-clause-inside
find_pivots-requires-clause-inside c =
    let t = c.requires.table in
    let h = c.args.table.now.header in
    let ws = c.args.table.now.words in
    let a = c.args.a.now in
    let terms = c.args.terms.now in
    let k = c.args.k in
    let w = c.args.w in
    let W = words_of_side h ws t a terms in
    let X = read h a in
    let B : IsBasisAt W X terms k w c.write_covered-size.result c.target_dimension-width.result c.write_covered-size.new.basis c.write_covered-size.new.places = record {
      size_is = c.write_covered-size.ensures.size t;
      width_is = c.target_dimension-width.ensures ∙ sym (covered_is h ws t a terms k w);
      basis_is = c.write_covered-size.ensures.holds t;
    } in
    basis_inside W X terms k w c.write_covered-size.result c.target_dimension-width.result c.write_covered-size.new.basis c.write_covered-size.new.places B

pub returns-in_err-rank : goal.returns-in_err-rank
returns-in_err-rank c = λ t m.
    let h = c.args.table.now.header in
    let ws = c.args.table.now.words in
    let a = c.args.a.now in
    let terms = c.args.terms.now in
    let k = c.args.k in
    let w = c.args.w in
    let W = words_of_side h ws t a terms in
    let X = read h a in
    let B : IsBasisAt W X terms k w c.write_covered-size.result c.target_dimension-width.result c.write_covered-size.new.basis c.write_covered-size.new.places = record {
      size_is = c.write_covered-size.ensures.size t;
      width_is = c.target_dimension-width.ensures ∙ sym (covered_is h ws t a terms k w);
      basis_is = c.write_covered-size.ensures.holds t;
    } in
    rw c.from_residual.ensures (λ s. c.in_err-rank.ensures.pivots t B (s.stays w (subst (λ n. w < n) (sym (side_vertices a.side h)) c.requires.vertex)))

pub returns-in_err-met : goal.returns-in_err-met
returns-in_err-met c = λ t m.
    let h = c.args.table.now.header in
    let ws = c.args.table.now.words in
    let a = c.args.a.now in
    let terms = c.args.terms.now in
    let k = c.args.k in
    let w = c.args.w in
    let W = words_of_side h ws t a terms in
    let X = read h a in
    let B : IsBasisAt W X terms k w c.write_covered-size.result c.target_dimension-width.result c.write_covered-size.new.basis c.write_covered-size.new.places = record {
      size_is = c.write_covered-size.ensures.size t;
      width_is = c.target_dimension-width.ensures ∙ sym (covered_is h ws t a terms k w);
      basis_is = c.write_covered-size.ensures.holds t;
    } in
    let P = c.in_ok-rank.ensures.pivots t B in
    let e = term_is ws h a terms k c.requires.terms c.index-term.result.now c.index-term.ensures in
    let R = read_there h ws t a terms k c.requires.terms w c.write_covered-size.result c.target_dimension-width.result c.in_ok-rank.rank c.index-term.result.now c.write_covered-size.new.basis c.write_covered-size.new.places c.find_pivots.new.pivots c.requires.vertex e B P.1 in
    rw c.from_residual-in_err-met.ensures (λ s. c.in_err-met.ensures h.field (algebra_at a.side h).quiver W X terms k c.write_covered-size.new.places R m s.chosen)

pub returns : goal.returns
returns c = λ t m.
    let h = c.args.table.now.header in
    let ws = c.args.table.now.words in
    let a = c.args.a.now in
    let terms = c.args.terms.now in
    let k = c.args.k in
    let w = c.args.w in
    let W = words_of_side h ws t a terms in
    let X = read h a in
    let B : IsBasisAt W X terms k w c.write_covered-size.result c.target_dimension-width.result c.write_covered-size.new.basis c.write_covered-size.new.places = record {
      size_is = c.write_covered-size.ensures.size t;
      width_is = c.target_dimension-width.ensures ∙ sym (covered_is h ws t a terms k w);
      basis_is = c.write_covered-size.ensures.holds t;
    } in
    let P = c.in_ok-rank.ensures.pivots t B in
    let e = term_is ws h a terms k c.requires.terms c.index-term.result.now c.index-term.ensures in
    let R = read_there h ws t a terms k c.requires.terms w c.write_covered-size.result c.target_dimension-width.result c.in_ok-rank.rank c.index-term.result.now c.write_covered-size.new.basis c.write_covered-size.new.places c.find_pivots.new.pivots c.requires.vertex e B P.1 in
    (P.0, vertex_passed W X terms k w c.write_covered-size.result c.in_ok-met.met B.size_is (c.in_ok-met.ensures h.field (algebra_at a.side h).quiver W X terms k c.write_covered-size.new.places R m))
