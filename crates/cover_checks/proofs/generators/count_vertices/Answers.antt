use Rattle.std.proofs.Common.{◌≡◌, ap, ◌∙◌, arith}
use Rattle.std.proofs.lemmas.Grind.{get_or_default_zero}
use Rattle.linear_algebra.specs.Matrix.{delta}
use Rattle.projectives.specs.CanonicalCover.{vertex_in}
use Rattle.projectives.specs.Generators.{count_at}
use Rattle.cover_checks.proofs.Counted.{delta_le, counted_more}
use Rattle.cover_checks.proofs.generators.count_vertices.Goals as goal

pub overflow_add-count : goal.overflow_add-count
overflow_add-count c =
    let d = delta_le c.index.result.now c.args.w in
    omega (arith, d, c.unit_entry.ensures, c.loop-j.invariant.fits, c.loop-j-test.true)

pub loop-j-preserved : goal.loop-j-preserved
loop-j-preserved c =
    let v : c.index.result.now ≡ vertex_in c.args.vertices.now c.loop-j.j = c.index.ensures ∙ get_or_default_zero c.args.vertices.now c.loop-j.j c.index.result.now (omega (arith, c.loop-j-test.true, c.len-j-end.ensures)) in
    let d = delta_le c.index.result.now c.args.w in
    record {
      count = counted_more (vertex_in c.args.vertices.now) c.args.w c.loop-j.j c.loop-j.count c.unit_entry.result c.loop-j.invariant.count (c.unit_entry.ensures ∙ ap (λ u. delta u c.args.w) v);
      fits = omega (arith, d, c.unit_entry.ensures, c.loop-j.invariant.fits);
    }

pub returns-clause-count : goal.returns-clause-count
returns-clause-count c =
    let e : c.loop-j.j ≡ c.len-j-end.result = omega (arith, c.loop-j-test.false, c.loop-j.auto.j-end) in
    c.loop-j.invariant.count ∙ ap (λ n. count_at n (vertex_in c.args.vertices.now) c.args.w) (e ∙ c.len-j-end.ensures)
