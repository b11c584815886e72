-- The values at the generators of a term, one after another.
use Rattle.std.proofs.Common.{ℕ, ◌<◌, ◌≤◌, ◌≡◌, ◌+◌, ◌*◌, List, [], length, get_or, take, drop, sym, ap, ap₂, ◌∙◌, inl, inr, arith, subst, add-one, length-set}
use Rattle.std.proofs.lemmas.Bool.{cases_eq}
use Rattle.std.proofs.lemmas.List.{get_or_default, get_or_past, get_or-set_same}
use Rattle.std.specs.Prelude.{slice_set}
use Rattle.linear_algebra.specs.Field.{Gf, order}
use Rattle.linear_algebra.specs.FieldLaws.{order-pos}
use Rattle.linear_algebra.specs.Matrix.{Mat, ◌⊞◌, ◌·◌}
use Rattle.linear_algebra.specs.BlockFamilies.{total, sum_all}
use Rattle.linear_algebra.specs.Rows.{IsRow}
use Rattle.linear_algebra.specs.Typed.{as_row}
use Rattle.linear_algebra.proofs.BlockFamilies.{total_grows}
use Rattle.fp_linear.specs.Slices.{AreElements}
use Rattle.path_algebra.specs.declared.Header.{Header}
use Rattle.representations.specs.HomSpace.{unflat}
use Rattle.local_modules.specs.Algebra.{Element}
use Rattle.module_types.specs.declared.Module.{Module}
use Rattle.module_types.specs.declared.TermRows.{TermRows}
use Rattle.module_types.specs.Algebras.{algebra_at, sided_words}
use Rattle.module_types.specs.Readings.{read}
use Rattle.module_types.specs.Shapes.{IsModule, IsTerm}
use Rattle.module_types.specs.TermMatrices.{count, generator_row}
use Rattle.module_types.specs.Presentations.{part}
use Rattle.claim_conditions.specs.Modules.{Sides}
use Rattle.claim_conditions.specs.LocalConditions.{families_of}
use Rattle.module_checks.specs.RowWalks.{AreAllZero}
use Rattle.module_checks.proofs.HomRank.{dim_at-is}
use Rattle.module_checks.proofs.Sides.{dim_small}
use Rattle.local_checks.specs.Standing.{standing}
use Rattle.local_checks.proofs.Spaces.{zero_row}
use Rattle.functional_checks.specs.Values.{generator_dim, generator_value, HoldsValue}
use Rattle.functional_checks.proofs.GeneratorValues.{part_of}

-- One number that is set to zero.
zero_set : (s : List ℕ) → length s ≡ 1 → AreAllZero (slice_set s 0 0)
zero_set s e = record {
  at = λ j. elim (cases_eq j 0) [
    | inl z ↦ ap (λ (i : ℕ). get_or (slice_set s 0 0) i 0) z ∙ get_or-set_same s 0 0 0 (omega (arith, e))
    | inr n ↦ get_or_past {X = ℕ} (slice_set s 0 0) j 0 (let l = length-set s 0 0 in omega (arith, l, e, n))
  ];
}

pub zero_elements : (q : Gf) (s : List ℕ) → length s ≡ 1 → AreElements q (slice_set s 0 0)
zero_elements q s e = record { small = λ j. subst (λ (z : ℕ). z < order q) (sym ((zero_set s e).at j)) (order-pos q) }

pub no_generator : (h : Header) (m : Module) (t : TermRows) (functional : List ℕ) (x : Element (families_of h m)) (s : List ℕ) → length s ≡ 1 → HoldsValue h m t functional x 0 (slice_set s 0 0)
unfolding sum_all
no_generator h m t functional x s e = record { value = λ T. zero_row h.field 1 (slice_set s 0 0) (zero_elements h.field s e) (length-set s 0 0 ∙ e) (zero_set s e) }

module _ (h : Header) (m : Module) (t : TermRows) (M : IsModule h.field (algebra_at m.side h).quiver m) (C : IsTerm h.field (algebra_at m.side h).quiver (read h m).dim t)
    (j v : ℕ) (inside : j < length t.vertices) (at : v ≡ get_or t.vertices j 0) where
  pub vertex_inside : v < length m.dims
  vertex_inside = let d = C.declared j inside in let c = M.counted in omega (arith, d, c, at)

  module _ (size : ℕ) (is : size ≡ get_or m.dims v 0) where
    pub size_is : size ≡ generator_dim h m t j
    size_is = is ∙ ap (λ (i : ℕ). get_or m.dims i 0) at ∙ sym (dim_at-is (algebra_at m.side h).quiver m.dims (get_or t.vertices j 0) (C.declared j inside))

    pub block_size : (b : ℕ) (w : List ℕ) → b ≡ (read h m).dim v * (read h m).dim v → length w ≡ size → b ≡ length w * length w
    block_size b w e l = e ∙ ap (λ (n : ℕ). n * n) (ap (read h m).dim at ∙ sym size_is ∙ sym l)

    pub size_small : size ≤ 256
    size_small = rw is (dim_small m.dims M.small v)

    row_is : (d w : List ℕ) → w ≡ get_or t.images j d → w ≡ get_or t.images j []
    row_is d w e = e ∙ get_or_default {X = List ℕ} t.images j d [] (let c = C.counted in omega (arith, c, inside))

    row_length : (d w : List ℕ) → w ≡ get_or t.images j d → length w ≡ generator_dim h m t j
    row_length d w e = ap length (row_is d w e) ∙ (C.each j inside).count

    pub row_size : (d w : List ℕ) → w ≡ get_or t.images j d → length w ≡ size
    row_size d w e = row_length d w e ∙ sym size_is

    pub row_elements : (d w : List ℕ) → w ≡ get_or t.images j d → AreElements h.field w
    row_elements d w e = record { small = λ i. subst (λ (x : List ℕ). get_or x i 0 < order h.field) (sym (row_is d w e)) ((C.each j inside).small i) }

    module _ (functional : List ℕ) (from : ℕ) (F : IsRow h.field (total (count t) (generator_dim h m t)) functional) (start : from ≡ total j (generator_dim h m t)) where
      pub part_inside : from + size ≤ length functional
      part_inside = let g = total_grows (generator_dim h m t) (count t) j inside in let c = F.count in rw size_is (omega (arith, g, c, start))

      pub start_behind : from + size ≡ total (j + 1) (generator_dim h m t)
      start_behind = ap₂ (λ (a b : ℕ). a + b) start size_is ∙ ap (λ (k : ℕ). total k (generator_dim h m t)) (sym (add-one j))

      module _ (x : Element (families_of h m)) (d w block old new : List ℕ) (row : w ≡ get_or t.images j d)
          (square : standing h.field ((read h m).dim v) ((read h m).dim v) block ≡ unflat (read h m) (read h m) x v)
          (sum : as_row h.field 1 new ≡ as_row h.field 1 old ⊞ as_row h.field (length w) w · standing h.field (length w) (length w) block · standing h.field (length w) 1 (take size (drop from functional))) where
        term_is : (T : Sides h) → as_row h.field (length w) w · standing h.field (length w) (length w) block · standing h.field (length w) 1 (take size (drop from functional)) ≡ generator_value h T m t functional x j
        term_is T =
            subst (λ (n : ℕ). as_row h.field n w · standing h.field n n block · standing h.field n 1 (take size (drop from functional)) ≡ generator_value h T m t functional x j) (sym (row_length d w row))
            (ap (λ (y : List ℕ). as_row h.field (generator_dim h m t j) y · standing h.field (generator_dim h m t j) (generator_dim h m t j) block · standing h.field (generator_dim h m t j) 1 (take size (drop from functional))) (row_is d w row)
            ∙ ap₂ (λ (y : Mat h.field (generator_dim h m t j) (generator_dim h m t j)) (z : Mat h.field (generator_dim h m t j) 1). generator_row (read h m) t j · y · z)
            (subst (λ (i : ℕ). standing h.field ((read h m).dim i) ((read h m).dim i) block ≡ unflat (read h m) (read h m) x i) at square)
            (subst (λ (n : ℕ). standing h.field (generator_dim h m t j) 1 (take n (drop from functional)) ≡ part (sided_words m.side T) (read h m) t functional j) (sym size_is)
            (part_of (sided_words m.side T) (read h m) t functional j from (record { small = F.small }) start (subst (λ (n : ℕ). from + n ≤ length functional) size_is part_inside))))

        pub generator_more : HoldsValue h m t functional x j old → HoldsValue h m t functional x (j + 1) new
        unfolding sum_all
        generator_more o = record { value = λ T. sum ∙ ap₂ (λ (a b : Mat h.field 1 1). a ⊞ b) (o.value T) (term_is T) ∙ ap (λ (k : ℕ). sum_all k (generator_value h T m t functional x)) (sym (add-one j)) }
