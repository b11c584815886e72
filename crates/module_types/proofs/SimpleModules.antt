-- The simple module at a vertex is a module over each algebra whose relations have no trivial path, and so over that of an allowed header, on both sides.
use Rattle.std.proofs.Common.{ℕ, zero, suc, ◌≡◌, ◌<◌, ◌≤◌, ◌≢◌, inl, inr, refl, sym, ap, ap₂, ◌∙◌, subst, arith, length, ltb, lt-ltb}
use Rattle.std.proofs.lemmas.Bool.{cases_eq, cond-true, cond_both}
use Rattle.std.proofs.lemmas.List.Elements.{All-contains, All-get_or}
use Rattle.linear_algebra.specs.Field.{Gf}
use Rattle.linear_algebra.specs.Matrix.{Mat, zeros, delta, delta-same, delta-other, ◌⊞◌, ◌⊙◌}
use Rattle.linear_algebra.specs.Families.{combine}
use Rattle.linear_algebra.specs.BlockFamilies.{total}
use Rattle.linear_algebra.proofs.MatrixLaws.{mul_zeros, zeros_add, scale_zeros}
use Rattle.quiver_paths.specs.declared.Path.{Path as PlainPath}
use Rattle.path_algebra.specs.declared.Header.{Header}
use Rattle.quiver_paths.specs.Path.{trivial_path}
use Rattle.path_algebra.specs.Allowed.{IsAllowed, IsRelation, IsTerm}
use Rattle.representations.specs.Quiver.{Quiver, Path, trivial, then, path_length, BoundQuiver, opposite_algebra}
use Rattle.representations.specs.Rep.{along, value_of_relation, IsMod}
use Rattle.representations.proofs.Paths.{along-then}
use Rattle.representations.proofs.Duals.{path_length-reverse}
use Rattle.bound_algebra.specs.BoundAlgebra.{bound_algebra, relation_of, relation_at, term_at}
use Rattle.bound_algebra.proofs.TypedPaths.{length-arrows_of}
use Rattle.bound_algebra.proofs.Relations.{relation_is, relation_listed}
use Rattle.module_types.specs.declared.Side.{Side}
use Rattle.module_types.specs.declared.Side.TheVariants.{Right, Left}
use Rattle.module_types.specs.Algebras.{algebra_at}
use Rattle.module_types.specs.Readings.{rep_of, IsModuleOver}
use Rattle.module_types.specs.Shapes.{IsModule}
use Rattle.module_types.specs.SimpleModules.{simple, dim_of_simple}
use Rattle.module_types.specs.Written.{simple_at}
use Rattle.module_types.proofs.Written.{rep_of-written, written-shape}

-- its dimensions
pub simple-there : (Q : Quiver) (v : ℕ) → v < Q.vertices → dim_of_simple Q v v ≡ 1
unfolding dim_of_simple
simple-there Q v l = cond-true (ltb v Q.vertices) (delta v v) zero (lt-ltb v Q.vertices l) ∙ delta-same v

pub simple-elsewhere : (Q : Quiver) (v w : ℕ) → v ≢ w → dim_of_simple Q v w ≡ zero
unfolding dim_of_simple
simple-elsewhere Q v w d = cond_both (ltb w Q.vertices) (delta v w) zero (λ n. n ≡ zero) (λ e. delta-other v w d) (λ e. refl)

simple-small : (Q : Quiver) (v w : ℕ) → dim_of_simple Q v w ≤ 1
unfolding dim_of_simple
simple-small Q v w = cond_both (ltb w Q.vertices) (delta v w) zero (λ n. n ≤ 1) (λ e. elim (cases_eq v w) [
  | inl s ↦ subst (λ w. delta v w ≤ 1) s (let e = delta-same v in omega (arith, e))
  | inr d ↦ let e = delta-other v w d in omega (arith, e)
]) (λ e. omega arith)

total-simple : (Q : Quiver) (v k : ℕ) → total k (dim_of_simple Q v) ≤ dim_of_simple Q v v
total-simple Q v zero = omega arith
total-simple Q v (suc k) = elim (cases_eq v k) [
  | inl s ↦ let n = none k (omega (arith, s)) in let e : dim_of_simple Q v k ≡ dim_of_simple Q v v = ap (dim_of_simple Q v) (sym s) in omega (arith, n, e)
  | inr d ↦ let e = simple-elsewhere Q v k d in let h = total-simple Q v k in omega (arith, e, h)
]
  where
    none : (k : ℕ) → k ≤ v → total k (dim_of_simple Q v) ≡ zero
    none zero h = refl
    none (suc k) h = let e = simple-elsewhere Q v k (λ s. omega (arith, s, h)) in let n = none k (omega arith) in omega (arith, e, n)

-- Combinations of zero matrices are zero, and each path that is not trivial acts as zero.
combine_none : {q : Gf} {m n : ℕ} (s : ℕ) (c : ℕ → ℕ) (g : ℕ → Mat q m n) → ((i : ℕ) → i < s → g i ≡ zeros q m n) → combine s c g ≡ zeros q m n
unfolding combine
combine_none zero c g e = refl
combine_none {q} {m} {n} (suc s) c g e =
    ap₂ (λ a b. a ⊞ c s ⊙ b) (combine_none s c g (λ i l. e i (omega arith))) (e s (omega arith))
    ∙ ap (λ z. zeros q m n ⊞ z) (scale_zeros (c s)) ∙ zeros_add (zeros q m n)

along_simple : (q : Gf) (Q : Quiver) (u : ℕ) {v w : ℕ} (p : Path Q v w) → 0 < path_length p → along (simple q Q u) p ≡ zeros q (dim_of_simple Q u v) (dim_of_simple Q u w)
along_simple q Q u trivial h = absurd (omega (arith, h))
along_simple q Q u (then a p) h = along-then (simple q Q u) a p ∙ mul_zeros (along (simple q Q u) p)

pub simple_module : (q : Gf) (A : BoundQuiver) (v : ℕ) → ((i k : ℕ) → i < A.relations → k < (A.relation i).terms → 0 < path_length ((A.relation i).path k)) → 0 < A.bound
    → IsMod A (simple q A.quiver v)
unfolding value_of_relation
simple_module q A v long bound = record {
  relations = λ i h. combine_none (A.relation i).terms (A.relation i).coefficient (λ k. along (simple q A.quiver v) ((A.relation i).path k)) (λ k l. along_simple q A.quiver v ((A.relation i).path k) (long i k h l));
  long_paths = λ p h. along_simple q A.quiver v p (omega (arith, h, bound));
}

module _ (h : Header) (ok : IsAllowed h) where
  long_terms : (i k : ℕ) → i < (bound_algebra h).relations → k < ((bound_algebra h).relation i).terms → 0 < path_length (((bound_algebra h).relation i).path k)
  long_terms i k l m =
      let s = relation_is h ok i l in
      let inside : k < length (relation_at h.relations i).terms = omega (arith, m, s.count) in
      let relation : IsRelation h (relation_at h.relations i) = All-contains (IsRelation h) h.relations (relation_at h.relations i) ok.relations (relation_listed h ok i l) in
      let term : IsTerm h (term_at (relation_at h.relations i).terms k) = All-get_or (IsTerm h) (relation_at h.relations i).terms k (record { coef = zero; path = trivial_path zero }) inside relation.terms in
      let same = ap (λ (p : PlainPath). length p.arrows) (s.path k inside) in
      let count = length-arrows_of ((relation_of h i).path k) in
      let long = term.not_short in
      omega (arith, same, count, long)

  pub simple_over_side : (side : Side) (v : ℕ) → IsMod (algebra_at side h) (simple h.field (algebra_at side h).quiver v)
  simple_over_side Right v = simple_module h.field (bound_algebra h) v long_terms (let b = ok.bound_from in omega (arith, b))
  simple_over_side Left v = simple_module h.field (opposite_algebra (bound_algebra h)) v
      (λ i k l m. let p = path_length-reverse (((bound_algebra h).relation i).path k) in let n = long_terms i k l m in omega (arith, p, n)) (let b = ok.bound_from in omega (arith, b))

  pub simple_over : (side : Side) (v : ℕ) → IsModuleOver h (simple_at h.field (algebra_at side h).quiver side v)
  unfolding simple_at
  simple_over side v = subst (IsMod (algebra_at side h)) (sym (rep_of-written side (simple h.field (algebra_at side h).quiver v))) (simple_over_side side v)

module _ (q : Gf) (Q : Quiver) (side : Side) (v : ℕ) where
  pub rep_of-simple_at : rep_of q Q (simple_at q Q side v) ≡ simple q Q v
  unfolding simple_at
  rep_of-simple_at = rep_of-written side (simple q Q v)

  pub simple_at-shape : IsModule q Q (simple_at q Q side v)
  unfolding simple_at
  simple_at-shape = written-shape side (simple q Q v) (let t = total-simple Q v Q.vertices in let s = simple-small Q v v in omega (arith, t, s))
