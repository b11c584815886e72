use Rattle.std.proofs.Common.{suc, ◌≡◌, ◌-◌, sym, ap, ◌∙◌, arith, subst}
use Rattle.linear_algebra.specs.Field.{Gf}
use Rattle.linear_algebra.specs.Matrix.{one}
use Rattle.fp_linear.specs.Slices.{AreElements}
use Rattle.path_algebra.specs.declared.Header.{Header}
use Rattle.module_types.specs.Readings.{read}
use Rattle.term_rows.specs.SumDims.{AreTerms}
use Rattle.resolution_checks.specs.Room.{AreSmall}
use Rattle.resolution_checks.specs.Steps.{words_of_side}
use Rattle.resolution_checks.proofs.CompositesAt.{small_at}
use Rattle.cover_checks.specs.Bases.{HoldsBasis, same_place}
use Rattle.cover_checks.specs.Covers.{covered_size, covered_rows, covered_pivot}
use Rattle.cover_checks.proofs.CoveredBases.{whole_size, whole_basis}
use Rattle.cover_checks.proofs.bases.write_covered.Goals as goal

pub write_kernel-requires-clause-terms : goal.write_kernel-requires-clause-terms
write_kernel-requires-clause-terms c =
    let e : c.args.k ≡ suc (c.args.k - 1) = omega (arith, c.if-k-eq0.false) in
    subst (AreTerms c.args.table.now.words c.args.table.now.header c.args.a.now c.args.terms.now) e c.requires.terms

pub write_kernel-requires-clause-small : goal.write_kernel-requires-clause-small
write_kernel-requires-clause-small c =
    let e : c.args.k ≡ suc (c.args.k - 1) = omega (arith, c.if-k-eq0.false) in
    subst (AreSmall c.args.table.now.words c.args.table.now.header c.args.a.now c.args.terms.now) e c.requires.small

pub returns-clause-size : goal.returns-clause-size
returns-clause-size c = λ t.
    let e : suc (c.args.k - 1) ≡ c.args.k = omega (arith, c.if-k-eq0.false) in
    c.write_kernel.ensures.size t ∙ ap (λ k. covered_size (words_of_side c.args.table.now.header c.args.table.now.words t c.args.a.now c.args.terms.now) (read c.args.table.now.header c.args.a.now) c.args.terms.now k c.args.w) e

pub returns-clause-holds : goal.returns-clause-holds
returns-clause-holds c = λ t.
    let e : suc (c.args.k - 1) ≡ c.args.k = omega (arith, c.if-k-eq0.false) in
    let W = words_of_side c.args.table.now.header c.args.table.now.words t c.args.a.now c.args.terms.now in
    let X = read c.args.table.now.header c.args.a.now in
    subst (λ k. HoldsBasis (covered_rows W X c.args.terms.now k c.args.w) (covered_pivot W X c.args.terms.now k c.args.w) c.write_kernel.new.basis c.write_kernel.new.places) e (c.write_kernel.ensures.holds t)

pub target_dimension-n-requires-clause-terms : goal.target_dimension-n-requires-clause-terms
target_dimension-n-requires-clause-terms c = record { counted = omega arith; each = λ i l. absurd (omega arith) }

pub target_dimension-n-requires-clause-small : goal.target_dimension-n-requires-clause-small
target_dimension-n-requires-clause-small c =
    let s = small_at c.args.table.now.words c.args.table.now.header c.args.a.now c.args.terms.now c.args.k 0 c.args.w (omega arith) c.requires.vertex c.requires.small in
    omega (arith, s)

pub overflow_cast-n : goal.overflow_cast-n
overflow_cast-n c =
    let s = small_at c.args.table.now.words c.args.table.now.header c.args.a.now c.args.terms.now c.args.k 0 c.args.w (omega arith) c.requires.vertex c.requires.small in
    omega (arith, s, c.target_dimension-n.ensures)

pub write_whole-requires-clause-small : goal.write_whole-requires-clause-small
write_whole-requires-clause-small c =
    let s = small_at c.args.table.now.words c.args.table.now.header c.args.a.now c.args.terms.now c.args.k 0 c.args.w (omega arith) c.requires.vertex c.requires.small in
    omega (arith, s, c.target_dimension-n.ensures)

pub returns-then-k-eq0-clause-few : goal.returns-then-k-eq0-clause-few
returns-then-k-eq0-clause-few c =
    let s = small_at c.args.table.now.words c.args.table.now.header c.args.a.now c.args.terms.now c.args.k 0 c.args.w (omega arith) c.requires.vertex c.requires.small in
    omega (arith, s, c.target_dimension-n.ensures)

pub returns-then-k-eq0-clause-elements : goal.returns-then-k-eq0-clause-elements
returns-then-k-eq0-clause-elements c = subst (λ (q : Gf). AreElements q c.write_whole.new.basis) (ap (λ (h : Header). h.field) c.header.ensures.header) c.write_whole.ensures.elements

pub returns-then-k-eq0-clause-size : goal.returns-then-k-eq0-clause-size
returns-then-k-eq0-clause-size c = λ t.
    whole_size c.args.table.now.header c.args.table.now.words t c.args.a.now c.args.terms.now c.args.w c.target_dimension-n.result c.target_dimension-n.ensures c.write_whole.new.basis c.write_whole.new.places
    (subst (λ (q : Gf). HoldsBasis (one q c.target_dimension-n.result) same_place c.write_whole.new.basis c.write_whole.new.places) (ap (λ (h : Header). h.field) c.header.ensures.header) c.write_whole.ensures.holds)
    ∙ ap (λ k. covered_size (words_of_side c.args.table.now.header c.args.table.now.words t c.args.a.now c.args.terms.now) (read c.args.table.now.header c.args.a.now) c.args.terms.now k c.args.w) (sym c.if-k-eq0.true)

pub returns-then-k-eq0-clause-holds : goal.returns-then-k-eq0-clause-holds
returns-then-k-eq0-clause-holds c = λ t.
    let W = words_of_side c.args.table.now.header c.args.table.now.words t c.args.a.now c.args.terms.now in
    let X = read c.args.table.now.header c.args.a.now in
    subst (λ k. HoldsBasis (covered_rows W X c.args.terms.now k c.args.w) (covered_pivot W X c.args.terms.now k c.args.w) c.write_whole.new.basis c.write_whole.new.places) (sym c.if-k-eq0.true)
    (whole_basis c.args.table.now.header c.args.table.now.words t c.args.a.now c.args.terms.now c.args.w c.target_dimension-n.result c.target_dimension-n.ensures c.write_whole.new.basis c.write_whole.new.places
    (subst (λ (q : Gf). HoldsBasis (one q c.target_dimension-n.result) same_place c.write_whole.new.basis c.write_whole.new.places) (ap (λ (h : Header). h.field) c.header.ensures.header) c.write_whole.ensures.holds))
