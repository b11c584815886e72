use Rattle.std.proofs.Common.{◌≡◌, ◌<◌, length, ap, arith, subst}
use Rattle.module_types.specs.declared.TermRows.{TermRows}
use Rattle.module_types.specs.Readings.{read}
use Rattle.module_types.specs.TermMatrices.{count}
use Rattle.claim_conditions.specs.Terms.{term_at}
use Rattle.term_rows.proofs.TermRowCells.{term_is}
use Rattle.resolution_checks.specs.Steps.{words_of_side}
use Rattle.module_checks.specs.Commuting.{AsksMore}
use Rattle.cover_checks.specs.Folds.{LieBelow, GeneratorsKilled}
use Rattle.cover_checks.proofs.GeneratorFolds.{lie_none, lie_more, killed_none, killed_more}
use Rattle.cover_checks.proofs.generators.fold_generators.Goals as goal

pub loop-j-init : goal.loop-j-init
loop-j-init c = record {
  used = c.requires.used;
  elements = c.requires.elements;
  clear = c.requires.clear;
  folded = λ t B.
      let W = words_of_side c.args.table.now.header c.args.table.now.words t c.args.a.now c.args.terms.now in
      let X = read c.args.table.now.header c.args.a.now in (
        lie_none W X c.args.terms.now c.args.k c.args.w,
        killed_none W X c.args.terms.now c.args.k c.args.w c.args.field c.args.size c.args.rows c.args.entries.now,
      );
}

pub fold_generator-requires-clause-generator : goal.fold_generator-requires-clause-generator
fold_generator-requires-clause-generator c =
    let is = term_is c.args.table.now.words c.args.table.now.header c.args.a.now c.args.terms.now c.args.k c.requires.terms c.index-term.result.now c.index-term.ensures in
    let n = ap (λ (t : TermRows). length t.vertices) is in
    omega (arith, n, c.loop-j-test.true, c.len-j-end.ensures)

pub loop-j-preserved : goal.loop-j-preserved
loop-j-preserved c = record {
  used = c.in_ok-used.ensures.used.0;
  elements = c.in_ok-used.ensures.elements;
  clear = c.in_ok-used.ensures.used.1;
  folded = λ t B.
      let W = words_of_side c.args.table.now.header c.args.table.now.words t c.args.a.now c.args.terms.now in
      let X = read c.args.table.now.header c.args.a.now in
      let g = c.in_ok-used.ensures.folded t B in
      let p = c.loop-j.invariant.folded t B in (
        lie_more W X c.args.terms.now c.args.k c.args.w c.loop-j.j p.0 g.0,
        killed_more W X c.args.terms.now c.args.k c.args.w c.args.field c.args.size c.args.rows c.loop-j.j c.args.entries.now c.loop-j.entries c.fold_generator.new.entries p.1 g.1,
      );
}

pub returns-in_err-used-clause-folded : goal.returns-in_err-used-clause-folded
returns-in_err-used-clause-folded c = λ t B.
    let is = term_is c.args.table.now.words c.args.table.now.header c.args.a.now c.args.terms.now c.args.k c.requires.terms c.index-term.result.now c.index-term.ensures in
    let n = ap (λ (t : TermRows). length t.vertices) is in
    let l : c.loop-j.j < count (term_at c.args.terms.now c.args.k) = omega (arith, n, c.loop-j-test.true, c.len-j-end.ensures) in
    rw c.from_residual.ensures (λ s. c.in_err-used.ensures.folded t B (s.each c.loop-j.j l))

pub returns-clause-folded : goal.returns-clause-folded
returns-clause-folded c = λ t B.
    let W = words_of_side c.args.table.now.header c.args.table.now.words t c.args.a.now c.args.terms.now in
    let X = read c.args.table.now.header c.args.a.now in
    let is = term_is c.args.table.now.words c.args.table.now.header c.args.a.now c.args.terms.now c.args.k c.requires.terms c.index-term.result.now c.index-term.ensures in
    let n = ap (λ (t : TermRows). length t.vertices) is in
    let e : c.loop-j.j ≡ count (term_at c.args.terms.now c.args.k) = omega (arith, n, c.loop-j-test.false, c.loop-j.auto.j-end, c.len-j-end.ensures) in
    let p = c.loop-j.invariant.folded t B in (
      subst (LieBelow W X c.args.terms.now c.args.k c.args.w) e p.0,
      subst (λ n. AsksMore c.args.field c.args.size c.args.rows c.args.entries.now c.loop-j.entries (GeneratorsKilled W X c.args.terms.now c.args.k c.args.w n)) e p.1,
    )
