use Rattle.std.proofs.Common.{◌≡◌, ◌∙◌, length, sym, ap, subst, arith}
use Rattle.path_algebra.specs.declared.Header.{Header}
use Rattle.projectives.specs.Canonical.{canonical_vertices}
use Rattle.bound_tables.specs.TableSides.{table_sides}
use Rattle.module_types.specs.declared.TermRows.{TermRows}
use Rattle.module_types.specs.Algebras.{algebra_at, sided_words}
use Rattle.module_types.specs.Readings.{read, dim_at}
use Rattle.module_types.specs.Shapes.{IsTerm}
use Rattle.proj_cover.specs.CanonicalTerms.{canonical_term}
use Rattle.proj_cover.proofs.Terms.{generators_few, generators_declared, canonical_shape, term_at_side}
use Rattle.proj_cover.proofs.Choice.{chosen}
use Rattle.proj_cover.proofs.covers.cover_of.Goals as goal

pub projectives_dim-dim-requires-clause-vertices : goal.projectives_dim-dim-requires-clause-vertices
projectives_dim-dim-requires-clause-vertices c =
    let h = c.args.table.now.header in
    let m = c.args.m.now in
    let is : c.in_ok-term.term ≡ canonical_term (read h m) = subst (λ (k : Header). c.in_ok-term.term ≡ canonical_term (read k m)) c.header-header.ensures.header c.in_ok-term.ensures in
    let vs : c.as_slice.result.now ≡ canonical_vertices (read h m) = c.as_slice.ensures ∙ ap (λ (t : TermRows). t.vertices) is in
    generators_declared h m c.requires c.as_slice.result.now vs

pub projectives_dim-dim-requires-clause-few : goal.projectives_dim-dim-requires-clause-few
projectives_dim-dim-requires-clause-few c =
    let h = c.args.table.now.header in
    let m = c.args.m.now in
    let is : c.in_ok-term.term ≡ canonical_term (read h m) = subst (λ (k : Header). c.in_ok-term.term ≡ canonical_term (read k m)) c.header-header.ensures.header c.in_ok-term.ensures in
    let vs : c.as_slice.result.now ≡ canonical_vertices (read h m) = c.as_slice.ensures ∙ ap (λ (t : TermRows). t.vertices) is in
    let n : length c.as_slice.result.now ≡ length (canonical_vertices (read h m)) = ap length vs in
    let f = generators_few h m c.requires in
    omega (arith, n, f)

pub returns-clause-shape : goal.returns-clause-shape
returns-clause-shape c =
    let h = c.args.table.now.header in
    let m = c.args.m.now in
    let is : c.in_ok-term.term ≡ canonical_term (read h m) = subst (λ (k : Header). c.in_ok-term.term ≡ canonical_term (read k m)) c.header-header.ensures.header c.in_ok-term.ensures in
    term_at_side h m.side m.dims c.in_ok-term.term (subst (IsTerm h.field (algebra_at m.side h).quiver (dim_at (algebra_at m.side h).quiver m.dims)) (sym is) (canonical_shape (read h m)))

pub returns-clause-choice : goal.returns-clause-choice
returns-clause-choice c = λ t.
    let h = c.args.table.now.header in
    let m = c.args.m.now in
    let is : c.in_ok-term.term ≡ canonical_term (read h m) = subst (λ (k : Header). c.in_ok-term.term ≡ canonical_term (read k m)) c.header-header.ensures.header c.in_ok-term.ensures in
    chosen (sided_words m.side (table_sides h c.args.table.now.words t)).words (read h m) c.in_ok-term.term is
