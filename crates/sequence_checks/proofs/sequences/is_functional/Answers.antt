use Rattle.std.proofs.Common.{List, ℕ, refl, sym, subst}
use Rattle.linear_algebra.specs.BlockFamilies.{total}
use Rattle.linear_algebra.specs.Rows.{IsRow}
use Rattle.path_algebra.specs.declared.Header.{Header}
use Rattle.bound_tables.specs.TableSides.{table_sides}
use Rattle.module_types.specs.Readings.{read}
use Rattle.module_types.specs.TermMatrices.{count, vertex}
use Rattle.translate_checks.specs.Across.{of_terms}
use Rattle.sequence_checks.proofs.SequenceTests.{DecidesFunctional}
use Rattle.sequence_checks.proofs.sequences.is_functional.Goals as goal

pub has_end_functional-requires-clause-functional : goal.has_end_functional-requires-clause-functional
has_end_functional-requires-clause-functional c =
    let h = c.args.table.now.header in
    let ws = c.args.table.now.words in
    let a = c.args.a.now in
    let cover = c.args.cover.now in
    let phi = c.args.functional.now in
    let basis = c.args.basis.now in
    let ideal = c.args.ideal.now in
    subst (λ (xs : List ℕ). IsRow c.header.result.now.field (total (count cover) (λ j. (read c.header.result.now a).dim (vertex cover j))) xs) (sym c.deref.ensures)
    (subst (λ (h : Header). IsRow h.field (total (count cover) (λ j. (read h a).dim (vertex cover j))) phi) (sym c.header.ensures.header) c.requires.functional)

pub returns : goal.returns
returns c = λ t syzygy.
    let h = c.args.table.now.header in
    let ws = c.args.table.now.words in
    let a = c.args.a.now in
    let cover = c.args.cover.now in
    let phi = c.args.functional.now in
    let basis = c.args.basis.now in
    let ideal = c.args.ideal.now in
    let there = subst (λ (h : Header). DecidesFunctional h a cover c.deref.result.now basis ideal c.has_end_functional.result) c.header.ensures.header c.has_end_functional.ensures in
    let here = subst (λ (xs : List ℕ). DecidesFunctional h a cover xs basis ideal c.has_end_functional.result) c.deref.ensures there in
    here (table_sides h ws t) (of_terms cover syzygy) refl
