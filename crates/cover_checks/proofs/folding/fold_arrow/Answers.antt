use Rattle.std.proofs.Common.{◌≡◌, ◌<◌, length, sym, ap, ◌∙◌, arith, subst}
use Rattle.linear_algebra.specs.Field.{Gf}
use Rattle.fp_linear.specs.Slices.{AreElements}
use Rattle.quiver_paths.specs.Quiver.{vertex_count}
use Rattle.path_algebra.specs.declared.Header.{Header}
use Rattle.module_types.specs.Algebras.{algebra_at}
use Rattle.module_types.specs.Readings.{read}
use Rattle.term_rows.proofs.AddedWords.{source_below}
use Rattle.term_rows.proofs.WordRows.{covered_is}
use Rattle.resolution_checks.specs.Steps.{words_of_side}
use Rattle.resolution_checks.proofs.CompositesAt.{small_at}
use Rattle.claim_conditions.specs.Terms.{goes_to}
use Rattle.cover_checks.specs.Bases.{HoldsBasis}
use Rattle.cover_checks.specs.Covers.{covered_size, covered_rows, covered_pivot}
use Rattle.cover_checks.proofs.CoveredBases.{product_inside}
use Rattle.cover_checks.proofs.ArrowFolds.{not_here, have_bases, arrow_answer}
use Rattle.cover_checks.proofs.folding.fold_arrow.Goals as goal

pub target_dimension-from-requires-clause-vertex : goal.target_dimension-from-requires-clause-vertex
target_dimension-from-requires-clause-vertex c =
    let h = c.args.table.now.header in
    let ws = c.args.table.now.words in
    let a = c.args.a.now in
    let terms = c.args.terms.now in
    let k = c.args.k in
    let T = c.requires.table in
    let se : c.source_at-source.result ≡ (algebra_at a.side h).quiver.source c.args.arrow = c.source_at-source.ensures ∙ ap (λ (h : Header). (algebra_at a.side h).quiver.source c.args.arrow) c.header-2.ensures.header in
    let sb : c.source_at-source.result < vertex_count h.quiver = subst (λ v. v < vertex_count h.quiver) (sym se) (source_below a.side h c.args.arrow T.allowed.quiver.ends c.requires.arrow) in
    let s2 = small_at ws h a terms k k c.source_at-source.result (omega arith) sb c.requires.small in
    sb

pub target_dimension-from-requires-clause-small : goal.target_dimension-from-requires-clause-small
target_dimension-from-requires-clause-small c =
    let h = c.args.table.now.header in
    let ws = c.args.table.now.words in
    let a = c.args.a.now in
    let terms = c.args.terms.now in
    let k = c.args.k in
    let T = c.requires.table in
    let se : c.source_at-source.result ≡ (algebra_at a.side h).quiver.source c.args.arrow = c.source_at-source.ensures ∙ ap (λ (h : Header). (algebra_at a.side h).quiver.source c.args.arrow) c.header-2.ensures.header in
    let sb : c.source_at-source.result < vertex_count h.quiver = subst (λ v. v < vertex_count h.quiver) (sym se) (source_below a.side h c.args.arrow T.allowed.quiver.ends c.requires.arrow) in
    let s2 = small_at ws h a terms k k c.source_at-source.result (omega arith) sb c.requires.small in
    omega (arith, s2)

pub write_covered-count-requires-clause-vertex : goal.write_covered-count-requires-clause-vertex
write_covered-count-requires-clause-vertex c =
    let h = c.args.table.now.header in
    let ws = c.args.table.now.words in
    let a = c.args.a.now in
    let terms = c.args.terms.now in
    let k = c.args.k in
    let T = c.requires.table in
    let se : c.source_at-source.result ≡ (algebra_at a.side h).quiver.source c.args.arrow = c.source_at-source.ensures ∙ ap (λ (h : Header). (algebra_at a.side h).quiver.source c.args.arrow) c.header-2.ensures.header in
    let sb : c.source_at-source.result < vertex_count h.quiver = subst (λ v. v < vertex_count h.quiver) (sym se) (source_below a.side h c.args.arrow T.allowed.quiver.ends c.requires.arrow) in
    let s2 = small_at ws h a terms k k c.source_at-source.result (omega arith) sb c.requires.small in
    sb

pub fold_rows-requires-clause-covered : goal.fold_rows-requires-clause-covered
fold_rows-requires-clause-covered c =
    c.requires.small.fits c.args.k (omega arith)

pub fold_rows-requires-clause-from : goal.fold_rows-requires-clause-from
fold_rows-requires-clause-from c =
    let h = c.args.table.now.header in
    let ws = c.args.table.now.words in
    let a = c.args.a.now in
    let terms = c.args.terms.now in
    let k = c.args.k in
    let T = c.requires.table in
    let se : c.source_at-source.result ≡ (algebra_at a.side h).quiver.source c.args.arrow = c.source_at-source.ensures ∙ ap (λ (h : Header). (algebra_at a.side h).quiver.source c.args.arrow) c.header-2.ensures.header in
    let sb : c.source_at-source.result < vertex_count h.quiver = subst (λ v. v < vertex_count h.quiver) (sym se) (source_below a.side h c.args.arrow T.allowed.quiver.ends c.requires.arrow) in
    let s2 = small_at ws h a terms k k c.source_at-source.result (omega arith) sb c.requires.small in
    omega (arith, s2, c.target_dimension-from.ensures)

pub fold_rows-requires-clause-other_inside : goal.fold_rows-requires-clause-other_inside
fold_rows-requires-clause-other_inside c =
    let h = c.args.table.now.header in
    let ws = c.args.table.now.words in
    let a = c.args.a.now in
    let terms = c.args.terms.now in
    let k = c.args.k in
    let T = c.requires.table in
    let se : c.source_at-source.result ≡ (algebra_at a.side h).quiver.source c.args.arrow = c.source_at-source.ensures ∙ ap (λ (h : Header). (algebra_at a.side h).quiver.source c.args.arrow) c.header-2.ensures.header in
    let sb : c.source_at-source.result < vertex_count h.quiver = subst (λ v. v < vertex_count h.quiver) (sym se) (source_below a.side h c.args.arrow T.allowed.quiver.ends c.requires.arrow) in
    let s2 = small_at ws h a terms k k c.source_at-source.result (omega arith) sb c.requires.small in
    product_inside c.write_covered-count.result c.target_dimension-from.result (length c.write_covered-count.new.basis) c.write_covered-count.ensures.few (omega (arith, s2, c.target_dimension-from.ensures)) (omega arith)

pub fold_rows-requires-clause-other_elements : goal.fold_rows-requires-clause-other_elements
fold_rows-requires-clause-other_elements c =
    subst (λ (q : Gf). AreElements q c.write_covered-count.new.basis) (sym c.requires.field) c.write_covered-count.ensures.elements

pub returns-then-target_at-w-clause-folded : goal.returns-then-target_at-w-clause-folded
returns-then-target_at-w-clause-folded c =
    λ t B.
    let h = c.args.table.now.header in
    let a = c.args.a.now in
    let te : c.target_at.result ≡ (algebra_at a.side h).quiver.target c.args.arrow = c.target_at.ensures ∙ ap (λ (h : Header). (algebra_at a.side h).quiver.target c.args.arrow) c.header.ensures.header in
    not_here (words_of_side h c.args.table.now.words t a c.args.terms.now) (read h a) c.args.terms.now c.args.k c.args.w c.args.arrow c.args.field c.args.size c.args.rows c.args.entries.now (λ e. c.if-target_at-w.true (te ∙ e))

pub returns-clause-folded : goal.returns-clause-folded
returns-clause-folded c =
    λ t B.
    let h = c.args.table.now.header in
    let ws = c.args.table.now.words in
    let a = c.args.a.now in
    let terms = c.args.terms.now in
    let k = c.args.k in
    let T = c.requires.table in
    let se : c.source_at-source.result ≡ (algebra_at a.side h).quiver.source c.args.arrow = c.source_at-source.ensures ∙ ap (λ (h : Header). (algebra_at a.side h).quiver.source c.args.arrow) c.header-2.ensures.header in
    let sb : c.source_at-source.result < vertex_count h.quiver = subst (λ v. v < vertex_count h.quiver) (sym se) (source_below a.side h c.args.arrow T.allowed.quiver.ends c.requires.arrow) in
    let s2 = small_at ws h a terms k k c.source_at-source.result (omega arith) sb c.requires.small in
    let te : c.target_at.result ≡ (algebra_at a.side h).quiver.target c.args.arrow = c.target_at.ensures ∙ ap (λ (h : Header). (algebra_at a.side h).quiver.target c.args.arrow) c.header.ensures.header in
    let e : (algebra_at a.side h).quiver.target c.args.arrow ≡ c.args.w = sym te ∙ c.if-target_at-w.false in
    let W = words_of_side h ws t a terms in
    let X = read h a in
    let ce = c.write_covered-count.ensures.size t ∙ ap (covered_size W X terms k) se in
    let fe = c.target_dimension-from.ensures ∙ sym (covered_is h ws t a terms k c.source_at-source.result) ∙ ap (goes_to W X terms k).dim se in
    let hb = subst (λ v. HoldsBasis (covered_rows W X terms k v) (covered_pivot W X terms k v) c.write_covered-count.new.basis c.write_covered-count.new.places) se (c.write_covered-count.ensures.holds t) in
    arrow_answer W X terms k c.args.w c.args.arrow e c.args.field c.args.size c.args.rows c.write_covered-count.result c.args.entries.now c.fold_rows.new.entries c.fold_rows.result ce
    (c.fold_rows.ensures.folded t (have_bases W X terms k c.args.w c.args.arrow e c.write_covered-count.result c.target_dimension-from.result c.args.size c.args.width c.write_covered-count.new.basis c.write_covered-count.new.places c.args.basis.now c.args.places.now B ce fe hb))
