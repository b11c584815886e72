use Rattle.std.proofs.Common.{◌≡◌, ◌<◌, ◌+◌, ℕ, List, length, subst, sym, ap, ◌∙◌, arith}
use Rattle.std.specs.Prelude.{slice_index}
use Rattle.std.proofs.lemmas.Grind.{get_or_default_zero}
use Rattle.fp_linear.specs.Slices.{IsWritten}
use Rattle.fp_linear.proofs.Slices.{AreElements-written}
use Rattle.module_checks.proofs.Sides.{dim_small}
use Rattle.projectives.specs.CanonicalCover.{vertex_in}
use Rattle.translate_checks.proofs.Ends.{vertices_at_side}
use Rattle.sequence_checks.proofs.PartRows.{part_within, part_held}
use Rattle.sequence_checks.proofs.pullbacks.write_part.Goals as goal

pub part_start-start-requires-clause-dims : goal.part_start-start-requires-clause-dims
part_start-start-requires-clause-dims c =
    dim_small c.args.m.now.dims c.requires.m.small

pub part_start-start-requires-clause-vertices : goal.part_start-start-requires-clause-vertices
part_start-start-requires-clause-vertices c =
    let h = c.args.table.now.header in
    let side = c.args.side in
    let m = c.args.m.now in
    let cover = c.args.cover.now in
    let j = c.args.j in
    λ k l. let s = vertices_at_side side h in let d = c.requires.cover.declared k l in let n = c.requires.m.counted in omega (arith, s, d, n)

pub copy_part-requires-clause-within : goal.copy_part-requires-clause-within
copy_part-requires-clause-within c =
    let h = c.args.table.now.header in
    let side = c.args.side in
    let m = c.args.m.now in
    let cover = c.args.cover.now in
    let j = c.args.j in
    let v = c.index.ensures ∙ get_or_default_zero cover j c.index.result.now c.requires.part in
    let sv = vertices_at_side side h in
    let dv = c.requires.cover.declared j c.requires.part in
    let vb : c.index.result.now < length m.dims = subst (λ n. n < length m.dims) (sym v) (let k = c.requires.m.counted in omega (arith, k, sv, dv)) in
    let n : c.index-2.result.now ≡ slice_index m.dims (vertex_in cover j) = c.index-2.ensures ∙ get_or_default_zero m.dims c.index.result.now c.index-2.result.now vb ∙ ap (slice_index m.dims) v in
    let e = ap length c.deref.ensures in
    part_within h side m cover c.requires.cover j c.part_start-start.result c.index-2.result.now (length c.deref.result.now) c.requires.part c.part_start-start.ensures n (e ∙ c.requires.functional.count)

pub copy_part-requires-clause-inside : goal.copy_part-requires-clause-inside
copy_part-requires-clause-inside c =
    let h = c.args.table.now.header in
    let side = c.args.side in
    let m = c.args.m.now in
    let cover = c.args.cover.now in
    let j = c.args.j in
    let v = c.index.ensures ∙ get_or_default_zero cover j c.index.result.now c.requires.part in
    let sv = vertices_at_side side h in
    let dv = c.requires.cover.declared j c.requires.part in
    let vb : c.index.result.now < length m.dims = subst (λ n. n < length m.dims) (sym v) (let k = c.requires.m.counted in omega (arith, k, sv, dv)) in
    let n : c.index-2.result.now ≡ slice_index m.dims (vertex_in cover j) = c.index-2.ensures ∙ get_or_default_zero m.dims c.index.result.now c.index-2.result.now vb ∙ ap (slice_index m.dims) v in
    let d = dim_small m.dims c.requires.m.small (vertex_in cover j) in
    omega (arith, n, d, c.clear.auto.entries, c.requires.row)

pub returns-clause-part : goal.returns-clause-part
returns-clause-part c = λ t.
    let h = c.args.table.now.header in
    let side = c.args.side in
    let m = c.args.m.now in
    let cover = c.args.cover.now in
    let j = c.args.j in
    let v = c.index.ensures ∙ get_or_default_zero cover j c.index.result.now c.requires.part in
    let sv = vertices_at_side side h in
    let dv = c.requires.cover.declared j c.requires.part in
    let vb : c.index.result.now < length m.dims = subst (λ n. n < length m.dims) (sym v) (let k = c.requires.m.counted in omega (arith, k, sv, dv)) in
    let n : c.index-2.result.now ≡ slice_index m.dims (vertex_in cover j) = c.index-2.ensures ∙ get_or_default_zero m.dims c.index.result.now c.index-2.result.now vb ∙ ap (slice_index m.dims) v in
    let written : IsWritten c.clear.new.entries c.copy_part.new.into 0 c.index-2.result.now (λ k. slice_index c.args.functional.now (c.part_start-start.result + k)) =
    subst (λ (s : List ℕ). IsWritten c.clear.new.entries c.copy_part.new.into 0 c.index-2.result.now (λ k. slice_index s (c.part_start-start.result + k))) c.deref.ensures c.copy_part.ensures in
    part_held h side m cover c.requires.cover c.args.table.now.words t c.args.functional.now c.requires.functional j c.part_start-start.result c.index-2.result.now c.clear.new.entries c.copy_part.new.into c.requires.part c.part_start-start.ensures n c.clear.ensures.clear written

pub returns-clause-elements : goal.returns-clause-elements
returns-clause-elements c =
    let h = c.args.table.now.header in
    let side = c.args.side in
    let m = c.args.m.now in
    let cover = c.args.cover.now in
    let j = c.args.j in
    let v = c.index.ensures ∙ get_or_default_zero cover j c.index.result.now c.requires.part in
    let sv = vertices_at_side side h in
    let dv = c.requires.cover.declared j c.requires.part in
    let vb : c.index.result.now < length m.dims = subst (λ n. n < length m.dims) (sym v) (let k = c.requires.m.counted in omega (arith, k, sv, dv)) in
    let n : c.index-2.result.now ≡ slice_index m.dims (vertex_in cover j) = c.index-2.ensures ∙ get_or_default_zero m.dims c.index.result.now c.index-2.result.now vb ∙ ap (slice_index m.dims) v in
    let written : IsWritten c.clear.new.entries c.copy_part.new.into 0 c.index-2.result.now (λ k. slice_index c.args.functional.now (c.part_start-start.result + k)) =
    subst (λ (s : List ℕ). IsWritten c.clear.new.entries c.copy_part.new.into 0 c.index-2.result.now (λ k. slice_index s (c.part_start-start.result + k))) c.deref.ensures c.copy_part.ensures in
    AreElements-written h.field c.clear.new.entries c.copy_part.new.into 0 c.index-2.result.now _ (c.clear.ensures.elements h.field) written (λ k. c.requires.functional.small (c.part_start-start.result + k))
