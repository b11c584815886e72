-- Two kernels of one map are equal, as modules with their inclusions; so are two images, radicals, cokernels and tops.
use Rattle.std.proofs.Common.{ℕ, ◌≡◌, List, sym, ap, ap₂, ◌∙◌, refl, subst}
use Rattle.linear_algebra.specs.Matrix.{Mat, ◌·◌}
use Rattle.linear_algebra.specs.Rank.{IsInSpan}
use Rattle.linear_algebra.specs.RowForm.{IsCoReduced}
use Rattle.linear_algebra.proofs.Dimension.{complement}
use Rattle.linear_algebra.proofs.Solving.{in_span_mul}
use Rattle.fp_linear.specs.Matrix.{PlainMatrix}
use Rattle.row_spaces.specs.RowSpaces.{IsReducedMatrix, IsRowFormOf, IsQuotientBy}
use Rattle.path_algebra.specs.declared.Header.{Header}
use Rattle.representations.specs.Rep.{Rep}
use Rattle.representations.specs.RadicalModule.{arrow_rows}
use Rattle.module_types.specs.declared.Module.{Module}
use Rattle.module_types.specs.declared.Side.{Side}
use Rattle.module_types.specs.Algebras.{algebra_at}
use Rattle.module_types.specs.Readings.{rep_of, read, read_beside, family_of, IsHom}
use Rattle.module_types.specs.Shapes.{IsModule, IsMap}
use Rattle.module_faults.specs.ModuleFaults.{IsSmallModule}
use Rattle.module_faults.specs.MapFaults.{IsSmallMap}
use Rattle.module_operations.specs.ArrowSpans.{arrow_size, arrow_family}
use Rattle.module_operations.specs.Computed.{IsKernelBy, IsCokernelBy, IsImageBy, IsRadicalBy, IsTopBy}
use Rattle.module_operations.specs.Determined.{AreEqual}
use Rattle.module_operations.proofs.Determined.{submodule_once, quotient_module_once, killed_by_rows, kernel_form_of}

-- A module with a map from it, and one with a map to it, read on a side.
record FromAt (h : Header) (n a : Module) (i : List PlainMatrix) (s : Side) : Type 0 where
  shape : IsModule h.field (algebra_at s h).quiver n
  map : IsMap h.field (algebra_at s h).quiver n a i
  hom : IsHom (rep_of h.field (algebra_at s h).quiver n) (rep_of h.field (algebra_at s h).quiver a) (family_of (rep_of h.field (algebra_at s h).quiver n) (rep_of h.field (algebra_at s h).quiver a) i)

record ToAt (h : Header) (b n : Module) (p : List PlainMatrix) (s : Side) : Type 0 where
  shape : IsModule h.field (algebra_at s h).quiver n
  map : IsMap h.field (algebra_at s h).quiver b n p
  hom : IsHom (rep_of h.field (algebra_at s h).quiver b) (rep_of h.field (algebra_at s h).quiver n) (family_of (rep_of h.field (algebra_at s h).quiver b) (rep_of h.field (algebra_at s h).quiver n) p)

from_there : (h : Header) (n a : Module) (i : List PlainMatrix) (s : Side) → n.side ≡ s → IsSmallModule h n → IsSmallMap h n a i → FromAt h n a i s
from_there h n a i s e small m = subst (FromAt h n a i) e (record { shape = small.shape; map = m.shape; hom = m.holds.hom })

to_there : (h : Header) (b n : Module) (p : List PlainMatrix) (s : Side) → b.side ≡ s → IsSmallModule h n → IsSmallMap h b n p → ToAt h b n p s
to_there h b n p s e small m = subst (ToAt h b n p) e (record {
  shape = subst (λ (s : Side). IsModule h.field (algebra_at s h).quiver n) (sym m.holds.side) small.shape;
  map = m.shape;
  hom = m.holds.hom;
})

module _ (h : Header) (a n m : Module) (i j : List PlainMatrix) (sn : n.side ≡ a.side) (sm : m.side ≡ a.side) (small : IsSmallModule h n) (small' : IsSmallModule h m) (f : IsSmallMap h n a i) (f' : IsSmallMap h m a j)
    (size : ℕ → ℕ) (g : (w : ℕ) → Mat h.field (size w) ((read h a).dim w)) where
  by_forms : ((w : ℕ) → IsRowFormOf (g w) (family_of (read_beside h a n) (read h a) i w)) → ((w : ℕ) → IsRowFormOf (g w) (family_of (read_beside h a m) (read h a) j w)) → AreEqual n m i j
  by_forms fi fj =
      let x = from_there h n a i a.side sn small f in
      let y = from_there h m a j a.side sm small' f' in
      submodule_once (read h a) n m x.shape y.shape (sn ∙ sym sm) i j x.map y.map size g fi fj x.hom y.hom

kernel_form : (h : Header) (a b n : Module) (f i : List PlainMatrix) → IsKernelBy h a b n f i → (w : ℕ)
    → IsRowFormOf (complement (family_of (read h a) (read_beside h a b) f w)).kernel (family_of (read_beside h a n) (read h a) i w)
kernel_form h a b n f i k w =
    let I = k.holds.inclusion_matrices w in
    let F = k.holds.map_matrices w in
    kernel_form_of (family_of (read h a) (read_beside h a b) f w) (family_of (read_beside h a n) (read h a) i w) (subst IsReducedMatrix I (k.reduced w))
    (λ x. ap₂ (λ u v. x · u · v) (sym I) (sym F) ∙ k.holds.is.exact.complex w x)
    (λ y e. subst (λ z. IsInSpan z y) I (k.holds.is.exact.exact w y (ap (λ z. y · z) F ∙ e)))

pub kernels_once : (h : Header) (a b n m : Module) (f i j : List PlainMatrix) → IsKernelBy h a b n f i → IsKernelBy h a b m f j → AreEqual n m i j
kernels_once h a b n m f i j k l =
    by_forms h a n m i j k.holds.side l.holds.side k.small l.small k.matrices l.matrices (λ w. (complement (family_of (read h a) (read_beside h a b) f w)).nullity)
    (λ w. (complement (family_of (read h a) (read_beside h a b) f w)).kernel) (kernel_form h a b n f i k) (kernel_form h a b m f j l)

image_form : (h : Header) (a b n : Module) (f i : List PlainMatrix) → IsImageBy h a b n f i → (w : ℕ) → IsRowFormOf (family_of (read_beside h b a) (read h b) f w) (family_of (read_beside h b n) (read h b) i w)
image_form h a b n f i k w =
    let I = k.holds.inclusion_matrices w in
    let F = k.holds.map_matrices w in
    record {
      reduced = subst IsReducedMatrix I (k.reduced w);
      spans = subst (λ z. IsInSpan z (family_of (read_beside h b a) (read h b) f w)) I (subst (IsInSpan (k.holds.inclusion.at w)) F (k.holds.has w));
      spanned = subst (λ z. IsInSpan z (family_of (read_beside h b n) (read h b) i w)) F (subst (IsInSpan (k.holds.map.at w)) I (k.holds.within w));
    }

pub images_once : (h : Header) (a b n m : Module) (f i j : List PlainMatrix) → IsImageBy h a b n f i → IsImageBy h a b m f j → AreEqual n m i j
images_once h a b n m f i j k l =
    by_forms h b n m i j k.holds.side l.holds.side k.small l.small k.matrices l.matrices (read_beside h b a).dim (family_of (read_beside h b a) (read h b) f) (image_form h a b n f i k) (image_form h a b m f j l)

radical_form : (h : Header) (a n : Module) (i : List PlainMatrix) → IsRadicalBy h a n i → (w : ℕ) → IsRowFormOf (arrow_family (read h a) w) (family_of (read_beside h a n) (read h a) i w)
radical_form h a n i k w =
    let I = k.holds.inclusion_matrices w in
    record {
      reduced = subst IsReducedMatrix I (k.reduced w);
      spans = subst (λ z. IsInSpan z (arrow_rows (read h a) w)) I (k.holds.is.has w);
      spanned = subst (IsInSpan (arrow_rows (read h a) w)) I (k.holds.is.within w);
    }

pub radicals_once : (h : Header) (a n m : Module) (i j : List PlainMatrix) → IsRadicalBy h a n i → IsRadicalBy h a m j → AreEqual n m i j
radicals_once h a n m i j k l =
    by_forms h a n m i j k.holds.side l.holds.side k.small l.small k.matrices l.matrices (arrow_size (read h a)) (arrow_family (read h a)) (radical_form h a n i k) (radical_form h a m j l)

module _ (h : Header) (s : Side) (b n m : Module) (p r : List PlainMatrix) (sb : b.side ≡ s) (small : IsSmallModule h n) (small' : IsSmallModule h m) (f : IsSmallMap h b n p) (f' : IsSmallMap h b m r) (size : ℕ → ℕ)
    (g : (w : ℕ) → Mat h.field (size w) ((rep_of h.field (algebra_at s h).quiver b).dim w)) where
  abbrev X : Module → Rep h.field (algebra_at s h).quiver
  X n = rep_of h.field (algebra_at s h).quiver n

  by_quotients : ((w : ℕ) → IsQuotientBy (g w) (family_of (X b) (X n) p w)) → ((w : ℕ) → IsQuotientBy (g w) (family_of (X b) (X m) r w)) → AreEqual n m p r
  by_quotients fi fj =
      let x = to_there h b n p s sb small f in
      let y = to_there h b m r s sb small' f' in
      quotient_module_once (X b) n m x.shape y.shape (sym f.holds.side ∙ f'.holds.side) p r x.map y.map size g fi fj x.hom y.hom

cokernel_form : (h : Header) (a b n : Module) (f p : List PlainMatrix) → IsCokernelBy h a b n f p → (w : ℕ) → IsQuotientBy (family_of (read h a) (read_beside h a b) f w) (family_of (read_beside h a b) (read_beside h a n) p w)
cokernel_form h a b n f p k w =
    let P = k.holds.projection_matrices w in
    let F = k.holds.map_matrices w in
    record {
      place = (k.coreduced w).0;
      coreduced = subst (λ z. IsCoReduced z (k.coreduced w).0) P (k.coreduced w).1;
      kills = killed_by_rows (family_of (read h a) (read_beside h a b) f w) (family_of (read_beside h a b) (read_beside h a n) p w) (λ x. ap₂ (λ u v. x · u · v) (sym F) (sym P) ∙ k.holds.is.exact.complex w x);
      spans = λ x e. subst (λ z. IsInSpan z x) F (k.holds.is.exact.exact w x (ap (λ z. x · z) P ∙ e));
    }

pub cokernels_once : (h : Header) (a b n m : Module) (f p r : List PlainMatrix) → IsCokernelBy h a b n f p → IsCokernelBy h a b m f r → AreEqual n m p r
cokernels_once h a b n m f p r k l =
    by_quotients h a.side b n m p r (sym k.holds.target_side) k.small l.small k.matrices l.matrices (read h a).dim (family_of (read h a) (read_beside h a b) f) (cokernel_form h a b n f p k) (cokernel_form h a b m f r l)

top_form : (h : Header) (a n : Module) (p : List PlainMatrix) → IsTopBy h a n p → (w : ℕ) → IsQuotientBy (arrow_family (read h a) w) (family_of (read h a) (read_beside h a n) p w)
top_form h a n p k w =
    let P = k.holds.projection_matrices w in
    record {
      place = (k.coreduced w).0;
      coreduced = subst (λ z. IsCoReduced z (k.coreduced w).0) P (k.coreduced w).1;
      kills = killed_by_rows (arrow_family (read h a) w) (family_of (read h a) (read_beside h a n) p w)
          (λ x. ap (λ z. x · arrow_rows (read h a) w · z) (sym P) ∙ k.holds.kills w (x · arrow_rows (read h a) w) (in_span_mul (arrow_rows (read h a) w) x));
      spans = λ x e. k.holds.vanishes w x (ap (λ z. x · z) P ∙ e);
    }

pub tops_once : (h : Header) (a n m : Module) (p r : List PlainMatrix) → IsTopBy h a n p → IsTopBy h a m r → AreEqual n m p r
tops_once h a n m p r k l =
    by_quotients h a.side a n m p r refl k.small l.small k.matrices l.matrices (arrow_size (read h a)) (arrow_family (read h a)) (top_form h a n p k) (top_form h a m r l)
