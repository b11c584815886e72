-- The laws of local modules, for the two sides of a header.
use Rattle.std.proofs.Common.{ℕ, ◌<◌, ◌⊎◌, List}
use Rattle.quiver_paths.specs.declared.Path.{Path}
use Rattle.quiver_paths.specs.Quiver.{vertex_count}
use Rattle.path_algebra.specs.declared.Header.{Header}
use Rattle.path_algebra.specs.Allowed.{IsAllowed}
use Rattle.path_algebra.specs.Words.{AreNormalWords}
use Rattle.representations.specs.Quiver.{opposite, opposite_algebra}
use Rattle.representations.specs.Rep.{Rep, IsMod}
use Rattle.representations.specs.Dual.{dual}
use Rattle.representations.proofs.Duals.{IsMod-dual}
use Rattle.projectives.specs.Words.{projective}
use Rattle.projectives.specs.TwoSided.{swap}
use Rattle.projectives.proofs.TwoSided.{IsMod-dual_back}
use Rattle.local_modules.specs.Local.{IsLocal}
use Rattle.auslander_reiten.specs.Presentation.{IsProjective}
use Rattle.auslander_reiten.specs.AlmostSplit.{AlmostSplitSequence}
use Rattle.auslander_reiten.proofs.AlmostSplitSequences.{ends_or_projective, ends_not_projective}
use Rattle.auslander_reiten.proofs.LocalProjectives.{projective_local, injective_local, dual_local}
use Rattle.bound_algebra.specs.TypedPaths.{quiver_of}
use Rattle.bound_algebra.specs.BoundAlgebra.{bound_algebra}
use Rattle.bound_algebra.specs.AlgebraWords.{algebra_words, opposite_words}
use Rattle.bound_algebra.proofs.TwoSidedBasis.{right_basis, left_basis, two_sided}

module _ (h : Header) (ok : IsAllowed h) (words : List Path) (w : AreNormalWords h words) where
  pub right_end_or_projective : (M : Rep h.field (quiver_of h.quiver)) → IsMod (bound_algebra h) M → IsLocal M
      → AlmostSplitSequence (bound_algebra h) M ⊎ IsProjective (algebra_words h ok words w) M
  unfolding two_sided
  right_end_or_projective M m l = ends_or_projective (two_sided h ok words w) M m l

  pub right_end_not_projective : (M : Rep h.field (quiver_of h.quiver)) → AlmostSplitSequence (bound_algebra h) M → IsProjective (algebra_words h ok words w) M → ⊥
  unfolding two_sided
  right_end_not_projective M s p = ends_not_projective (two_sided h ok words w) M s p

  pub left_end_or_projective : (M : Rep h.field (opposite (quiver_of h.quiver))) → IsMod (opposite_algebra (bound_algebra h)) M → IsLocal M
      → AlmostSplitSequence (opposite_algebra (bound_algebra h)) M ⊎ IsProjective (opposite_words h ok words w) M
  unfolding two_sided
  left_end_or_projective M m l = ends_or_projective (swap (two_sided h ok words w)) M m l

  pub left_end_not_projective : (M : Rep h.field (opposite (quiver_of h.quiver))) → AlmostSplitSequence (opposite_algebra (bound_algebra h)) M
      → IsProjective (opposite_words h ok words w) M → ⊥
  unfolding two_sided
  left_end_not_projective M s p = ends_not_projective (swap (two_sided h ok words w)) M s p

  pub right_projective_local : (v : ℕ) → v < vertex_count h.quiver → IsLocal (projective (algebra_words h ok words w) v)
  right_projective_local v l = projective_local (bound_algebra h) (algebra_words h ok words w) (right_basis h ok words w) v l

  pub left_projective_local : (v : ℕ) → v < vertex_count h.quiver → IsLocal (projective (opposite_words h ok words w) v)
  left_projective_local v l = projective_local (opposite_algebra (bound_algebra h)) (opposite_words h ok words w) (left_basis h ok words w) v l

  pub right_injective_local : (v : ℕ) → v < vertex_count h.quiver → IsLocal (dual (projective (opposite_words h ok words w) v))
  unfolding two_sided
  right_injective_local v l = injective_local (two_sided h ok words w) v l

  pub left_injective_local : (v : ℕ) → v < vertex_count h.quiver → IsLocal (dual (projective (algebra_words h ok words w) v))
  left_injective_local v l = dual_local (right_projective_local v l)

  pub right_injective_module : (v : ℕ) → IsMod (bound_algebra h) (dual (projective (opposite_words h ok words w) v))
  right_injective_module v = IsMod-dual_back (bound_algebra h) (projective (opposite_words h ok words w) v) ((left_basis h ok words w).modules v)

  pub left_injective_module : (v : ℕ) → IsMod (opposite_algebra (bound_algebra h)) (dual (projective (algebra_words h ok words w) v))
  left_injective_module v = IsMod-dual (bound_algebra h) (projective (algebra_words h ok words w) v) ((right_basis h ok words w).modules v)
