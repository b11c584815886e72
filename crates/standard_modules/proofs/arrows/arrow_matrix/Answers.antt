use Rattle.std.proofs.Common.{◌≡◌, ◌<◌, ◌≤◌, ◌∙◌, ◌*◌, length, get_or, refl, sym, ap, subst, arith}
use Rattle.quiver_paths.specs.Quiver.{vertex_count}
use Rattle.path_algebra.specs.declared.Header.{Header}
use Rattle.path_algebra.specs.Rows.{path_at}
use Rattle.alg_table.specs.NormalForm.{IsProduct}
use Rattle.fp_linear.specs.Matrix.{plain}
use Rattle.linear_algebra.specs.Rows.{rows_of}
use Rattle.row_spaces.specs.PushedRows.{HasRows}
use Rattle.module_types.specs.Algebras.{algebra_at}
use Rattle.term_rows.proofs.AddedWords.{source_below, target_below, words_for, places_below}
use Rattle.standard_modules.specs.StandardModules.{projective_rep}
use Rattle.standard_modules.proofs.ArrowRows.{more, all}
use Rattle.standard_modules.proofs.Counted.{counted, count_in_dim}
use Rattle.standard_modules.proofs.Lists.{few_entries}
use Rattle.standard_modules.proofs.arrows.arrow_matrix.Goals as goal

pub words_at-sources-requires-clause-second : goal.words_at-sources-requires-clause-second
words_at-sources-requires-clause-second c =
    let h = c.args.table.now.header in
    let ws = c.args.table.now.words in
    let side = c.args.side in
    let a = c.args.arrow in
    let T = c.header-header.ensures.table in
    let se : c.source_at.result ≡ (algebra_at side h).quiver.source a = c.source_at.ensures ∙ ap (λ (h : Header). (algebra_at side h).quiver.source a) c.header-header.ensures.header in
    let sb : c.source_at.result < vertex_count h.quiver = subst (λ v. v < vertex_count h.quiver) (sym se) (source_below side h a T.allowed.quiver.ends c.requires.arrow) in
    sb

pub words_at-targets-requires-clause-second : goal.words_at-targets-requires-clause-second
words_at-targets-requires-clause-second c =
    let h = c.args.table.now.header in
    let ws = c.args.table.now.words in
    let side = c.args.side in
    let a = c.args.arrow in
    let T = c.header-header.ensures.table in
    let se : c.source_at.result ≡ (algebra_at side h).quiver.source a = c.source_at.ensures ∙ ap (λ (h : Header). (algebra_at side h).quiver.source a) c.header-header.ensures.header in
    let sb : c.source_at.result < vertex_count h.quiver = subst (λ v. v < vertex_count h.quiver) (sym se) (source_below side h a T.allowed.quiver.ends c.requires.arrow) in
    let te : c.target_at.result ≡ (algebra_at side h).quiver.target a = c.target_at.ensures ∙ ap (λ (h : Header). (algebra_at side h).quiver.target a) c.header-header.ensures.header in
    let tb : c.target_at.result < vertex_count h.quiver = subst (λ v. v < vertex_count h.quiver) (sym te) (target_below side h a T.allowed.quiver.ends c.requires.arrow) in
    tb

pub overflow_mul-sources : goal.overflow_mul-sources
overflow_mul-sources c =
    let h = c.args.table.now.header in
    let ws = c.args.table.now.words in
    let side = c.args.side in
    let a = c.args.arrow in
    let T = c.header-header.ensures.table in
    let se : c.source_at.result ≡ (algebra_at side h).quiver.source a = c.source_at.ensures ∙ ap (λ (h : Header). (algebra_at side h).quiver.source a) c.header-header.ensures.header in
    let sb : c.source_at.result < vertex_count h.quiver = subst (λ v. v < vertex_count h.quiver) (sym se) (source_below side h a T.allowed.quiver.ends c.requires.arrow) in
    let te : c.target_at.result ≡ (algebra_at side h).quiver.target a = c.target_at.ensures ∙ ap (λ (h : Header). (algebra_at side h).quiver.target a) c.header-header.ensures.header in
    let tb : c.target_at.result < vertex_count h.quiver = subst (λ v. v < vertex_count h.quiver) (sym te) (target_below side h a T.allowed.quiver.ends c.requires.arrow) in
    let m = counted h ws T side c.args.v c.source_at.result c.side_in_table-hand.result c.words_at-sources.result.now c.side_in_table-hand.ensures c.words_at-sources.ensures in
    let n = counted h ws T side c.args.v c.target_at.result c.side_in_table-hand.result c.words_at-targets.result.now c.side_in_table-hand.ensures c.words_at-targets.ensures in
    let mi = count_in_dim h ws T side c.args.v c.source_at.result sb in
    let ni = count_in_dim h ws T side c.args.v c.target_at.result tb in
    let mf : length c.words_at-sources.result.now ≤ 256 = omega (arith, m, mi, c.requires.small) in
    let nf : length c.words_at-targets.result.now ≤ 256 = omega (arith, n, ni, c.requires.small) in
    let f = few_entries (length c.words_at-sources.result.now) (length c.words_at-targets.result.now) mf nf in
    omega (arith, f)

pub act-requires-clause-word : goal.act-requires-clause-word
act-requires-clause-word c =
    places_below c.args.table.now.words c.side_in_table-hand.result c.args.v c.source_at.result c.words_at-sources.result.now c.words_at-sources.ensures c.loop-i.i (omega (arith, c.loop-i-test.true))

pub push_at-requires : goal.push_at-requires
push_at-requires c =
    λ k l.
    let p = places_below c.args.table.now.words c.side_in_table-hand.result c.args.v c.target_at.result c.words_at-targets.result.now c.words_at-targets.ensures k l in
    omega (arith, p, c.act.auto.into, c.loop-i.auto.product, c.requires.product)

pub loop-i-preserved : goal.loop-i-preserved
loop-i-preserved c =
    λ t.
    let h = c.args.table.now.header in
    let ws = c.args.table.now.words in
    let side = c.args.side in
    let a = c.args.arrow in
    let T = c.header-header.ensures.table in
    let se : c.source_at.result ≡ (algebra_at side h).quiver.source a = c.source_at.ensures ∙ ap (λ (h : Header). (algebra_at side h).quiver.source a) c.header-header.ensures.header in
    let sb : c.source_at.result < vertex_count h.quiver = subst (λ v. v < vertex_count h.quiver) (sym se) (source_below side h a T.allowed.quiver.ends c.requires.arrow) in
    let te : c.target_at.result ≡ (algebra_at side h).quiver.target a = c.target_at.ensures ∙ ap (λ (h : Header). (algebra_at side h).quiver.target a) c.header-header.ensures.header in
    let tb : c.target_at.result < vertex_count h.quiver = subst (λ v. v < vertex_count h.quiver) (sym te) (target_below side h a T.allowed.quiver.ends c.requires.arrow) in
    let A = words_for ws side c.side_in_table-hand.result c.args.v c.args.v c.source_at.result ((algebra_at side h).quiver.source a) c.words_at-sources.result.now c.side_in_table-hand.ensures refl se c.words_at-sources.ensures in
    let B = words_for ws side c.side_in_table-hand.result c.args.v c.args.v c.target_at.result ((algebra_at side h).quiver.target a) c.words_at-targets.result.now c.side_in_table-hand.ensures refl te c.words_at-targets.ensures in
    let l : c.loop-i.i < length c.words_at-sources.result.now = omega (arith, c.loop-i-test.true) in
    let p = subst (λ s. IsProduct h ws s (path_at ws (get_or c.words_at-sources.result.now c.loop-i.i 0)) a c.act.new.into) c.side_in_table-hand.ensures c.act.ensures in
    rw c.in_ok-push_at.ensures (more h ws t side c.args.v a c.requires.arrow c.words_at-sources.result.now c.words_at-targets.result.now A B c.loop-i.i c.act.new.into c.loop-i.entries.items l p (c.loop-i.invariant t))

pub overflow_cast-rows : goal.overflow_cast-rows
overflow_cast-rows c =
    let h = c.args.table.now.header in
    let ws = c.args.table.now.words in
    let side = c.args.side in
    let a = c.args.arrow in
    let T = c.header-header.ensures.table in
    let se : c.source_at.result ≡ (algebra_at side h).quiver.source a = c.source_at.ensures ∙ ap (λ (h : Header). (algebra_at side h).quiver.source a) c.header-header.ensures.header in
    let sb : c.source_at.result < vertex_count h.quiver = subst (λ v. v < vertex_count h.quiver) (sym se) (source_below side h a T.allowed.quiver.ends c.requires.arrow) in
    let te : c.target_at.result ≡ (algebra_at side h).quiver.target a = c.target_at.ensures ∙ ap (λ (h : Header). (algebra_at side h).quiver.target a) c.header-header.ensures.header in
    let tb : c.target_at.result < vertex_count h.quiver = subst (λ v. v < vertex_count h.quiver) (sym te) (target_below side h a T.allowed.quiver.ends c.requires.arrow) in
    let m = counted h ws T side c.args.v c.source_at.result c.side_in_table-hand.result c.words_at-sources.result.now c.side_in_table-hand.ensures c.words_at-sources.ensures in
    let n = counted h ws T side c.args.v c.target_at.result c.side_in_table-hand.result c.words_at-targets.result.now c.side_in_table-hand.ensures c.words_at-targets.ensures in
    let mi = count_in_dim h ws T side c.args.v c.source_at.result sb in
    let ni = count_in_dim h ws T side c.args.v c.target_at.result tb in
    let mf : length c.words_at-sources.result.now ≤ 256 = omega (arith, m, mi, c.requires.small) in
    let nf : length c.words_at-targets.result.now ≤ 256 = omega (arith, n, ni, c.requires.small) in
    let f = few_entries (length c.words_at-sources.result.now) (length c.words_at-targets.result.now) mf nf in
    omega (arith, mf)

pub overflow_cast-cols : goal.overflow_cast-cols
overflow_cast-cols c =
    let h = c.args.table.now.header in
    let ws = c.args.table.now.words in
    let side = c.args.side in
    let a = c.args.arrow in
    let T = c.header-header.ensures.table in
    let se : c.source_at.result ≡ (algebra_at side h).quiver.source a = c.source_at.ensures ∙ ap (λ (h : Header). (algebra_at side h).quiver.source a) c.header-header.ensures.header in
    let sb : c.source_at.result < vertex_count h.quiver = subst (λ v. v < vertex_count h.quiver) (sym se) (source_below side h a T.allowed.quiver.ends c.requires.arrow) in
    let te : c.target_at.result ≡ (algebra_at side h).quiver.target a = c.target_at.ensures ∙ ap (λ (h : Header). (algebra_at side h).quiver.target a) c.header-header.ensures.header in
    let tb : c.target_at.result < vertex_count h.quiver = subst (λ v. v < vertex_count h.quiver) (sym te) (target_below side h a T.allowed.quiver.ends c.requires.arrow) in
    let m = counted h ws T side c.args.v c.source_at.result c.side_in_table-hand.result c.words_at-sources.result.now c.side_in_table-hand.ensures c.words_at-sources.ensures in
    let n = counted h ws T side c.args.v c.target_at.result c.side_in_table-hand.result c.words_at-targets.result.now c.side_in_table-hand.ensures c.words_at-targets.ensures in
    let mi = count_in_dim h ws T side c.args.v c.source_at.result sb in
    let ni = count_in_dim h ws T side c.args.v c.target_at.result tb in
    let mf : length c.words_at-sources.result.now ≤ 256 = omega (arith, m, mi, c.requires.small) in
    let nf : length c.words_at-targets.result.now ≤ 256 = omega (arith, n, ni, c.requires.small) in
    let f = few_entries (length c.words_at-sources.result.now) (length c.words_at-targets.result.now) mf nf in
    omega (arith, nf)

pub from_entries-requires-clause-size : goal.from_entries-requires-clause-size
from_entries-requires-clause-size c =
    let h = c.args.table.now.header in
    let ws = c.args.table.now.words in
    let side = c.args.side in
    let a = c.args.arrow in
    let T = c.header-header.ensures.table in
    let se : c.source_at.result ≡ (algebra_at side h).quiver.source a = c.source_at.ensures ∙ ap (λ (h : Header). (algebra_at side h).quiver.source a) c.header-header.ensures.header in
    let sb : c.source_at.result < vertex_count h.quiver = subst (λ v. v < vertex_count h.quiver) (sym se) (source_below side h a T.allowed.quiver.ends c.requires.arrow) in
    let te : c.target_at.result ≡ (algebra_at side h).quiver.target a = c.target_at.ensures ∙ ap (λ (h : Header). (algebra_at side h).quiver.target a) c.header-header.ensures.header in
    let tb : c.target_at.result < vertex_count h.quiver = subst (λ v. v < vertex_count h.quiver) (sym te) (target_below side h a T.allowed.quiver.ends c.requires.arrow) in
    let m = counted h ws T side c.args.v c.source_at.result c.side_in_table-hand.result c.words_at-sources.result.now c.side_in_table-hand.ensures c.words_at-sources.ensures in
    let n = counted h ws T side c.args.v c.target_at.result c.side_in_table-hand.result c.words_at-targets.result.now c.side_in_table-hand.ensures c.words_at-targets.ensures in
    let mi = count_in_dim h ws T side c.args.v c.source_at.result sb in
    let ni = count_in_dim h ws T side c.args.v c.target_at.result tb in
    let mf : length c.words_at-sources.result.now ≤ 256 = omega (arith, m, mi, c.requires.small) in
    let nf : length c.words_at-targets.result.now ≤ 256 = omega (arith, n, ni, c.requires.small) in
    let f = few_entries (length c.words_at-sources.result.now) (length c.words_at-targets.result.now) mf nf in
    omega (arith, f)

pub from_entries-requires-clause-count : goal.from_entries-requires-clause-count
from_entries-requires-clause-count c =
    let e : c.loop-i.i ≡ length c.words_at-sources.result.now = omega (arith, c.loop-i-test.false, c.loop-i.auto.i-end) in
    ap length c.deref.ensures.value ∙ (c.loop-i.invariant c.header-header.ensures.table).count ∙ ap (λ i. i * length c.words_at-targets.result.now) e

pub from_entries-requires-clause-elements : goal.from_entries-requires-clause-elements
from_entries-requires-clause-elements c =
    rw (c.header-header.ensures.header, c.deref.ensures.value) (c.loop-i.invariant c.header-header.ensures.table).elements

pub returns : goal.returns
returns c =
    λ t.
    let h = c.args.table.now.header in
    let ws = c.args.table.now.words in
    let side = c.args.side in
    let a = c.args.arrow in
    let T = c.header-header.ensures.table in
    let se : c.source_at.result ≡ (algebra_at side h).quiver.source a = c.source_at.ensures ∙ ap (λ (h : Header). (algebra_at side h).quiver.source a) c.header-header.ensures.header in
    let sb : c.source_at.result < vertex_count h.quiver = subst (λ v. v < vertex_count h.quiver) (sym se) (source_below side h a T.allowed.quiver.ends c.requires.arrow) in
    let te : c.target_at.result ≡ (algebra_at side h).quiver.target a = c.target_at.ensures ∙ ap (λ (h : Header). (algebra_at side h).quiver.target a) c.header-header.ensures.header in
    let tb : c.target_at.result < vertex_count h.quiver = subst (λ v. v < vertex_count h.quiver) (sym te) (target_below side h a T.allowed.quiver.ends c.requires.arrow) in
    let A = words_for ws side c.side_in_table-hand.result c.args.v c.args.v c.source_at.result ((algebra_at side h).quiver.source a) c.words_at-sources.result.now c.side_in_table-hand.ensures refl se c.words_at-sources.ensures in
    let B = words_for ws side c.side_in_table-hand.result c.args.v c.args.v c.target_at.result ((algebra_at side h).quiver.target a) c.words_at-targets.result.now c.side_in_table-hand.ensures refl te c.words_at-targets.ensures in
    let e : c.loop-i.i ≡ length c.words_at-sources.result.now = omega (arith, c.loop-i-test.false, c.loop-i.auto.i-end) in
    let rows = subst (λ i. HasRows h.field (length c.words_at-targets.result.now) i ((projective_rep h ws t side c.args.v).mat a).at c.loop-i.entries.items) e (c.loop-i.invariant t) in
    all h ws t side c.args.v a c.requires.arrow c.words_at-sources.result.now c.words_at-targets.result.now A B c.loop-i.entries.items c.in_ok-matrix.matrix rows
    (c.in_ok-matrix.ensures ∙ (λ k. plain (c.header-header.ensures.header k).field (length c.words_at-sources.result.now) (length c.words_at-targets.result.now) (rows_of (length c.words_at-sources.result.now) (length c.words_at-targets.result.now) (c.deref.ensures.value k))))
