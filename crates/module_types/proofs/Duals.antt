-- The dual is read as the dual representation, it has the shape of a module, and twice it is the module itself; it is a module over the opposite
-- algebra exactly where the module is one. So a left module is read as the dual of a right one.
use Rattle.std.proofs.Common.{ℕ, ◌≡◌, ◌≤◌, refl, sym, ap, ◌∙◌, subst}
use Rattle.linear_algebra.specs.Field.{Gf}
use Rattle.linear_algebra.specs.Matrix.{transpose}
use Rattle.path_algebra.specs.declared.Header.{Header}
use Rattle.representations.specs.Quiver.{Quiver, opposite, BoundQuiver, opposite_algebra, with_relations}
use Rattle.representations.specs.Rep.{Rep, IsMod}
use Rattle.representations.specs.Dual.{dual}
use Rattle.representations.proofs.Duals.{dual_dual, IsMod-dual}
use Rattle.projectives.specs.TwoSided.{TwoSided, other, swap, relations_back, paths_back}
use Rattle.bound_algebra.specs.BoundAlgebra.{bound_algebra}
use Rattle.module_types.specs.declared.Side.{Side}
use Rattle.module_types.specs.declared.Side.TheVariants.{Right, Left}
use Rattle.module_types.specs.declared.Module.{Module}
use Rattle.module_types.specs.Algebras.{other_side, sided, algebra_at, words_at, sided_words}
use Rattle.module_types.specs.Readings.{rep_of, IsModuleOver}
use Rattle.module_types.specs.Shapes.{IsModule}
use Rattle.module_types.specs.Written.{written, dual_of}
use Rattle.module_types.proofs.Written.{rep_of-written, written-shape, written-rep_of}
use Rattle.module_types.proofs.BlockSums.{dimension-read}

-- the sides
pub other_other : (s : Side) → other_side (other_side s) ≡ s
other_other Right = refl
other_other Left = refl

pub quiver_across : (s : Side) (A : BoundQuiver) → (sided (other_side s) A).quiver ≡ opposite (sided s A).quiver
quiver_across Right A = refl
quiver_across Left A = refl

-- The words of a side are the words of the two sides, exchanged on the left.
pub words_across : {q : Gf} {A : BoundQuiver} (s : Side) (T : TwoSided q A) → (sided_words s T).words ≡ words_at s T
words_across Right T = refl
words_across Left T = refl

-- The other side's words of the sides exchanged are the words themselves.
pub other_swap : {q : Gf} {A : BoundQuiver} (T : TwoSided q A) → other (swap T) ≡ T.words
other_swap T = λ k. record { count = T.words.count; word = sym (paths_back T.words) k; act = T.words.act; past = T.words.past }

-- A representation is a module where its dual is one.
pub IsMod-of_dual : {q : Gf} (A : BoundQuiver) (X : Rep q A.quiver) → IsMod (opposite_algebra A) (dual X) → IsMod A X
IsMod-of_dual A X m =
    subst (λ r. IsMod (with_relations A r) X) (sym (relations_back A))
    (subst (IsMod (opposite_algebra (opposite_algebra A))) (dual_dual X) (IsMod-dual (opposite_algebra A) (dual X) m))

module _ (q : Gf) (Q : Quiver) (m : Module) where
  pub rep_of-dual_of : rep_of q (opposite Q) (dual_of q Q m) ≡ dual (rep_of q Q m)
  unfolding dual_of
  rep_of-dual_of = rep_of-written {Q = opposite Q} (other_side m.side) (dual (rep_of q Q m))

  pub dual_of-side : (dual_of q Q m).side ≡ other_side m.side
  unfolding dual_of
  dual_of-side = refl

  pub dual_of-shape : IsModule q Q m → IsModule q (opposite Q) (dual_of q Q m)
  unfolding dual_of
  dual_of-shape s = written-shape {Q = opposite Q} (other_side m.side) (dual (rep_of q Q m)) (subst (λ n. n ≤ 256) (sym (dimension-read q Q m s)) s.small)

  pub dual_of-twice : IsModule q Q m → dual_of q (opposite Q) (dual_of q Q m) ≡ m
  unfolding dual_of
  dual_of-twice s =
      ap (λ (X : Rep q (opposite Q)). written {Q = Q} (other_side (other_side m.side)) (dual X)) rep_of-dual_of
      ∙ ap (λ (X : Rep q Q). written (other_side (other_side m.side)) X) (dual_dual (rep_of q Q m))
      ∙ ap (λ side. written side (rep_of q Q m)) (other_other m.side)
      ∙ written-rep_of q Q m s

  -- the entries
  pub dual_of-at : (a i j : ℕ) → ((rep_of q (opposite Q) (dual_of q Q m)).mat a).at i j ≡ ((rep_of q Q m).mat a).at j i
  unfolding transpose
  dual_of-at a i j = ap (λ (X : Rep q (opposite Q)). (X.mat a).at i j) rep_of-dual_of

module _ {q : Gf} (A : BoundQuiver) (m : Module) where
  pub dual_of-module : IsMod A (rep_of q A.quiver m) → IsMod (opposite_algebra A) (rep_of q (opposite A.quiver) (dual_of q A.quiver m))
  dual_of-module h = subst (IsMod (opposite_algebra A)) (sym (rep_of-dual_of q A.quiver m)) (IsMod-dual A (rep_of q A.quiver m) h)

  pub module_of-dual : IsMod (opposite_algebra A) (rep_of q (opposite A.quiver) (dual_of q A.quiver m)) → IsMod A (rep_of q A.quiver m)
  module_of-dual h = IsMod-of_dual A (rep_of q A.quiver m) (subst (IsMod (opposite_algebra A)) (rep_of-dual_of q A.quiver m) h)

  -- and from the opposite algebra back
  pub dual_of-left : IsMod (opposite_algebra A) (rep_of q (opposite A.quiver) m) → IsMod A (rep_of q A.quiver (dual_of q (opposite A.quiver) m))
  dual_of-left h =
      subst (IsMod A) (sym (rep_of-dual_of q (opposite A.quiver) m))
      (IsMod-of_dual A (dual (rep_of q (opposite A.quiver) m)) (subst (IsMod (opposite_algebra A)) (sym (dual_dual (rep_of q (opposite A.quiver) m))) h))

-- The dual of a module over a header is one, on the other side.
pub dual_over : (h : Header) (m : Module) → IsModuleOver h m → IsModuleOver h (dual_of h.field (algebra_at m.side h).quiver m)
unfolding dual_of
dual_over h m = by m.side m
  where
    by : (s : Side) (m : Module) → IsMod (algebra_at s h) (rep_of h.field (algebra_at s h).quiver m)
        → IsMod (algebra_at (other_side s) h) (rep_of h.field (algebra_at (other_side s) h).quiver (dual_of h.field (algebra_at s h).quiver m))
    by Right m k = dual_of-module (bound_algebra h) m k
    by Left m k = dual_of-left (bound_algebra h) m k
