-- The images of all rows under the rows of an ideal at each vertex: the s-th are zero exactly where all products of s members of the ideal are.
use Rattle.std.proofs.Common.{ℕ, zero, suc, ◌≡◌, sym, ap, ◌∙◌}
use Rattle.linear_algebra.specs.Field.{Gf}
use Rattle.linear_algebra.specs.Matrix.{Mat, zeros, ◌·◌}
use Rattle.linear_algebra.specs.Parts.{row}
use Rattle.linear_algebra.specs.Rank.{IsInSpan}
use Rattle.linear_algebra.proofs.MatrixLaws.{mul_zeros}
use Rattle.linear_algebra.proofs.Solving.{in_span_by_rows, in_span_trans, in_span_image}
use Rattle.linear_algebra.proofs.Families.{image_under-least, image_under-in}
use Rattle.linear_algebra.proofs.NilOrFixed.{whole, in_whole, images}
use Rattle.representations.specs.Quiver.{Quiver}
use Rattle.representations.specs.Rep.{Rep}
use Rattle.local_modules.specs.Ideal.{PowerVanishes}
use Rattle.local_modules.specs.ImageChain.{IsImageChain}
use Rattle.local_modules.specs.MatrixAlgebra.{MatrixAlgebra, algebra_of}
use Rattle.local_modules.proofs.VertexPowers.{images_of_power, power_of_images}

-- what is in the span of zeros is zero
pub in_zeros : {q : Gf} {k l n : ℕ} (f : Mat q k n) (y : Mat q l n) → f ≡ zeros q k n → IsInSpan f y → y ≡ zeros q l n
in_zeros f y e s = sym s.is ∙ ap (λ z. s.by · z) e ∙ mul_zeros s.by

module _ {q : Gf} {d : ℕ} (k : ℕ) (g : ℕ → Mat q d d) (size : ℕ → ℕ) (V : (i : ℕ) → Mat q (size i) d) (c : IsImageChain k g size V) where
  pub images_in_chain : (i : ℕ) → IsInSpan (V i) (images k g (whole q d) i).basis
  unfolding images
  images_in_chain zero = in_span_by_rows (V 0) _ (λ j l. c.whole (row j _))
  images_in_chain (suc i) = image_under-least k g (images k g (whole q d) i) (V (suc i)) (λ j l.
      in_span_trans (V (suc i)) (V i · g j) _ (c.has_images i j l) (in_span_image (V i) (images k g (whole q d) i).basis (g j) (images_in_chain i)))

  pub chain_in_images : (i : ℕ) → IsInSpan (images k g (whole q d) i).basis (V i)
  unfolding images
  chain_in_images zero = in_whole (V 0)
  chain_in_images (suc i) = c.least i (images k g (whole q d) (suc i)).basis (λ j l. image_under-in k g (images k g (whole q d) i) (V i) j l (chain_in_images i))

module _ {q : Gf} {Q : Quiver} {X : Rep q Q} (M : MatrixAlgebra X) {k : ℕ} (I : Mat q k M.size) (size : ℕ → ℕ → ℕ) (V : (v i : ℕ) → Mat q (size v i) (X.dim v))
    (c : (v : ℕ) → IsImageChain k (λ j. (M.element (row j I)).at v) (size v) (V v)) where
  pub chain_of_power : (s : ℕ) → PowerVanishes (algebra_of M) I s → (v : ℕ) → V v s ≡ zeros q (size v s) (X.dim v)
  chain_of_power s p v = in_zeros _ (V v s) (images_of_power M I s p v) (chain_in_images k (λ j. (M.element (row j I)).at v) (size v) (V v) (c v) s)

  pub power_of_chain : (s : ℕ) → ((v : ℕ) → V v s ≡ zeros q (size v s) (X.dim v)) → PowerVanishes (algebra_of M) I s
  power_of_chain s z = power_of_images M I s (λ v. in_zeros (V v s) _ (z v) (images_in_chain k (λ j. (M.element (row j I)).at v) (size v) (V v) (c v) s))
