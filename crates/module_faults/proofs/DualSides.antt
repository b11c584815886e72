-- A module of one side and its dual, for the search of the first path.
use Rattle.std.proofs.Common.{ℕ, ◌≡◌, ◌+◌, ◌*◌, List, length, sym, ap, ◌∙◌, subst, arith}
use Rattle.std.specs.Prelude.{Option, MatchOption}
use Rattle.linear_algebra.specs.Field.{Gf}
use Rattle.fp_linear.proofs.SeparateOf.{MatchOption-told}
use Rattle.fp_linear.specs.Matrix.{PlainMatrix}
use Rattle.quiver_paths.specs.declared.Path.{Path}
use Rattle.path_algebra.specs.declared.Header.{Header}
use Rattle.representations.specs.Quiver.{Quiver, opposite}
use Rattle.representations.specs.Rep.{Rep}
use Rattle.representations.specs.Dual.{dual}
use Rattle.bound_algebra.specs.TypedPaths.{quiver_of}
use Rattle.module_types.specs.declared.Side.{Side}
use Rattle.module_types.specs.declared.Side.TheVariants.{Right, Left}
use Rattle.module_types.specs.declared.Module.{Module}
use Rattle.module_types.specs.Algebras.{other_side, algebra_at}
use Rattle.module_types.specs.Readings.{read, rep_of}
use Rattle.module_types.specs.Shapes.{IsModule, dimension}
use Rattle.module_types.specs.Written.{dual_of}
use Rattle.module_types.proofs.Written.{written-rep_of}
use Rattle.module_types.proofs.Duals.{rep_of-dual_of, dual_of-side, dual_of-shape, dual_of-twice}
use Rattle.module_checks.specs.PathImages.{LongPathsActAsZero}
use Rattle.module_checks.specs.Room.{IsRoom}
use Rattle.module_faults.specs.Levels.{IsLevel}
use Rattle.module_faults.specs.PathActions.{IsFirstAlong}
use Rattle.module_faults.proofs.BothSides.{long_of_dual, left_of_dual, dual_of_left}

dual_dims : (q : Gf) (Q : Quiver) (m : Module) → IsModule q Q m → (dual_of q Q m).dims ≡ m.dims
unfolding dual_of
dual_dims q Q m s = ap (λ m. m.dims) (written-rep_of q Q m s)

-- A right module and its dual.
module _ (h : Header) (m d : Module) (side : m.side ≡ Right) (ok : IsModule h.field (quiver_of h.quiver) m) (dual_is : d ≡ dual_of h.field (quiver_of h.quiver) m) where
  dual_left : d.side ≡ Left
  dual_left = ap (λ x. x.side) dual_is ∙ dual_of-side h.field (quiver_of h.quiver) m ∙ ap other_side side

  pub dual_shape : IsModule h.field (algebra_at d.side h).quiver d
  dual_shape = subst (λ s. IsModule h.field (algebra_at s h).quiver d) (sym dual_left) (subst (IsModule h.field (opposite (quiver_of h.quiver))) (sym dual_is) (dual_of-shape h.field (quiver_of h.quiver) m ok))

  pub dual_dimension : dimension d.dims ≡ dimension m.dims
  dual_dimension = ap (λ x. dimension x.dims) dual_is ∙ ap dimension (dual_dims h.field (quiver_of h.quiver) m ok)

  dual_read : rep_of h.field (opposite (quiver_of h.quiver)) d ≡ dual (rep_of h.field (quiver_of h.quiver) m)
  dual_read = ap (rep_of h.field (opposite (quiver_of h.quiver))) dual_is ∙ rep_of-dual_of h.field (quiver_of h.quiver) m

  pub level_of_dual : (j : ℕ) (L : PlainMatrix) → IsLevel (read h d) j (dimension d.dims) L → IsLevel (dual (rep_of h.field (quiver_of h.quiver) m)) j (dimension m.dims) L
  level_of_dual j L l =
      subst (λ n. IsLevel (dual (rep_of h.field (quiver_of h.quiver) m)) j n L) dual_dimension
      (subst (λ (X : Rep h.field (opposite (quiver_of h.quiver))). IsLevel X j (dimension d.dims) L) dual_read
      (subst (λ s. IsLevel (rep_of h.field (algebra_at s h).quiver d) j (dimension d.dims) L) dual_left l))

-- the room that the search takes
pub room_for : (n u : ℕ) (entries pivots : List ℕ) → n ≡ u → length entries ≡ (2 * u + 1) * u → length pivots ≡ 2 * u + 1 → IsRoom n (2 * u + 1) entries pivots
room_for n u entries pivots e l k = record { shape = l ∙ ap (λ n. (2 * u + 1) * n) (sym e); places = omega arith; many = omega arith }

-- what the search answers, for a module of a side
abbrev pub IsSearched : Header → Side → Module → Option Path → Type 0
IsSearched h s m found = MatchOption found (LongPathsActAsZero (rep_of h.field (algebra_at s h).quiver m) h.bound) (IsFirstAlong s h (rep_of h.field (algebra_at s h).quiver m))

pub at_own_side : (h : Header) (m : Module) (s : Side) (found : Option Path) → m.side ≡ s → IsSearched h s m found → IsSearched h m.side m found
at_own_side h m s found e = subst (λ s. IsSearched h s m found) (sym e)

-- A left module and its dual.
module _ (h : Header) (m d : Module) (side : m.side ≡ Left) (ok : IsModule h.field (algebra_at m.side h).quiver m) (dual_is : d ≡ dual_of h.field (algebra_at m.side h).quiver m) where
  shape_left : IsModule h.field (opposite (quiver_of h.quiver)) m
  shape_left = subst (λ s. IsModule h.field (algebra_at s h).quiver m) side ok

  is_left : d ≡ dual_of h.field (opposite (quiver_of h.quiver)) m
  is_left = subst (λ s. d ≡ dual_of h.field (algebra_at s h).quiver m) side dual_is

  pub dual_right : d.side ≡ Right
  dual_right = ap (λ x. x.side) is_left ∙ dual_of-side h.field (opposite (quiver_of h.quiver)) m ∙ ap other_side side

  pub dual_right_shape : IsModule h.field (quiver_of h.quiver) d
  dual_right_shape = subst (IsModule h.field (quiver_of h.quiver)) (sym is_left) (dual_of-shape h.field (opposite (quiver_of h.quiver)) m shape_left)

  pub back_again : m ≡ dual_of h.field (quiver_of h.quiver) d
  back_again = sym (dual_of-twice h.field (opposite (quiver_of h.quiver)) m shape_left) ∙ ap (dual_of h.field (quiver_of h.quiver)) (sym is_left)

  abbrev X : Rep h.field (opposite (quiver_of h.quiver))
  X = rep_of h.field (opposite (quiver_of h.quiver)) m

  right_read : rep_of h.field (quiver_of h.quiver) d ≡ dual X
  right_read = ap (rep_of h.field (quiver_of h.quiver)) is_left ∙ rep_of-dual_of h.field (opposite (quiver_of h.quiver)) m

  first_on_left : (p : Path) → IsFirstAlong Right h (dual X) p → IsFirstAlong Left h X p
  first_on_left p f = record {
    path = f.path;
    long = f.long;
    not_zero = λ zero. f.not_zero (dual_of_left h X p zero);
    first = λ r is long below. left_of_dual h X r (f.first r is long below);
  }

  pub searched_left : (found : Option Path) → IsSearched h Right d found → IsSearched h m.side m found
  searched_left found s = at_own_side h m Left found side (MatchOption-told found (long_of_dual X h.bound) first_on_left
      (subst (λ (Y : Rep h.field (quiver_of h.quiver)). MatchOption found (LongPathsActAsZero Y h.bound) (IsFirstAlong Right h Y)) right_read s))
