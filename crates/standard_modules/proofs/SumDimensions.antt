-- The dimensions of sums of projective modules and of injective ones.
use Rattle.std.proofs.Common.{ℕ, zero, suc, ◌<◌, ◌≡◌, ◌+◌, List, length, refl, sym, ap, ◌∙◌, arith}
use Rattle.linear_algebra.specs.BlockFamilies.{total}
use Rattle.linear_algebra.proofs.BlockFamilies.{total-same}
use Rattle.quiver_paths.specs.declared.Path.{Path}
use Rattle.quiver_paths.specs.Quiver.{vertex_count}
use Rattle.path_algebra.specs.declared.Header.{Header}
use Rattle.alg_table.specs.TableView.{IsTable}
use Rattle.projectives.specs.Words.{projective}
use Rattle.projectives.specs.CanonicalCover.{vertex_in, projectives_at}
use Rattle.projectives.specs.Injective.{injectives}
use Rattle.projectives.specs.TwoSided.{other}
use Rattle.projectives.proofs.Places.{sum_family-dim}
use Rattle.bound_tables.specs.TableSides.{table_sides}
use Rattle.module_types.specs.declared.Side.{Side}
use Rattle.module_types.specs.Algebras.{other_side, sided_words}
use Rattle.term_rows.specs.SumDims.{count_to}
use Rattle.term_rows.proofs.SumSteps.{sum_dim_is}
use Rattle.standard_modules.specs.StandardModules.{projectives_dim, injectives_dim}
use Rattle.standard_modules.proofs.Modules.{injective_dims}

total-none : (k : ℕ) (f : ℕ → ℕ) → ((i : ℕ) → i < k → f i ≡ 0) → total k f ≡ 0
total-none zero f e = refl
total-none (suc k) f e = let a = total-none k f (λ i l. e i (omega (arith, l))) in let b = e k (omega arith) in omega (arith, a, b)

total-sum : (k : ℕ) (f g : ℕ → ℕ) → total k (λ i. f i + g i) ≡ total k f + total k g
total-sum zero f g = refl
total-sum (suc k) f g = let a = total-sum k f g in omega (arith, a)

-- rows and columns are added in either order
total-swap : (n k : ℕ) (f : ℕ → ℕ → ℕ) → total n (λ w. total k (λ j. f j w)) ≡ total k (λ j. total n (f j))
total-swap zero k f = sym (total-none k (λ j. total zero (f j)) (λ i l. refl))
total-swap (suc n) k f = ap (λ z. z + total k (λ j. f j n)) (total-swap n k f) ∙ sym (total-sum k (λ j. total n (f j)) (λ j. f j n))

pub injectives_total : (h : Header) (words : List Path) (t : IsTable h words) (side : Side) (vertices : List ℕ)
    → total (vertex_count h.quiver) (injectives (sided_words side (table_sides h words t)) (length vertices) (vertex_in vertices)).dim ≡ injectives_dim h words side vertices
injectives_total h words t side vertices =
    total-same (vertex_count h.quiver) _ _ (λ w l.
    sum_family-dim (length vertices) (λ c. projective (other (sided_words side (table_sides h words t))) (vertex_in vertices c)) w
    ∙ total-same (length vertices) _ _ (λ j m. injective_dims h words t side (vertex_in vertices j) w))
    ∙ total-swap (vertex_count h.quiver) (length vertices) (λ j w. count_to words (other_side side) (vertex_in vertices j) w)

pub projectives_total : (h : Header) (words : List Path) (t : IsTable h words) (side : Side) (vertices : List ℕ)
    → total (vertex_count h.quiver) (projectives_at (sided_words side (table_sides h words t)).words vertices).dim ≡ projectives_dim h words side vertices
projectives_total h words t side vertices =
    total-same (vertex_count h.quiver) _ _ (λ w l. sum_dim_is h words t side vertices w)
    ∙ total-swap (vertex_count h.quiver) (length vertices) (λ j w. count_to words side (vertex_in vertices j) w)
