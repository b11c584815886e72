-- The translate, the transpose and the inverse translate of a module. (Assem, Simson, Skowroński, volume 1, chapter IV, 2.)
use Rattle.std.specs.Prelude.{ℕ, ◌<◌, ◌≤◌, ◌≡◌, List}
use Rattle.linear_algebra.specs.Field.{Gf}
use Rattle.fp_linear.specs.Matrix.{PlainMatrix}
use Rattle.path_algebra.specs.declared.Header.{Header}
use Rattle.representations.specs.Quiver.{opposite, BoundQuiver}
use Rattle.representations.specs.Rep.{Rep}
use Rattle.representations.specs.Hom.{Hom}
use Rattle.representations.specs.Dual.{dual}
use Rattle.projectives.specs.Families.{projectives}
use Rattle.projectives.specs.HomRows.{value}
use Rattle.projectives.specs.TwoSided.{TwoSided, other}
use Rattle.auslander_reiten.specs.Translates.{IsTranslate, IsTranspose}
use Rattle.module_types.specs.declared.Module.{Module}
use Rattle.module_types.specs.declared.TermRows.{TermRows}
use Rattle.module_types.specs.Algebras.{algebra_at, sided_words, other_side}
use Rattle.module_types.specs.Readings.{rep_of, read, read_beside}
use Rattle.module_types.specs.TermMatrices.{count, vertex, generator_row, sum_of_term}
use Rattle.module_types.specs.Presentations.{Presentation, injective_term, differential}
use Rattle.claim_conditions.specs.Modules.{Sides}
use Rattle.claim_conditions.specs.Families.{HasMatrices}
use Rattle.claim_conditions.specs.Terms.{term_at}

-- the presentation that the terms of a resolution of length 1 are
abbrev pub presentation_of : List TermRows → Presentation
presentation_of terms = record { cover = term_at terms 0; syzygy = term_at terms 1 }

-- the sum of the projective modules of the other side that stand for a term
abbrev pub transposed_term : {q : Gf} {A : BoundQuiver} (T : TwoSided q A) → TermRows → Rep q (opposite A.quiver)
transposed_term T t = projectives (other T) (count t) (vertex t)

-- a module, read on the side across from that of a
abbrev pub read_across : (h : Header) (a m : Module) → Rep h.field (opposite (algebra_at a.side h).quiver)
read_across h a m = rep_of h.field (opposite (algebra_at a.side h).quiver) m

module _ {q : Gf} {A : BoundQuiver} (T : TwoSided q A) (M : Rep q A.quiver) (p : Presentation) where
  -- The homomorphism takes the generators of term 0 to the printed rows.
  abbrev pub IsCover : Hom (sum_of_term T.words p.cover) M → Type 0
  IsCover c = (j : ℕ) → j < count p.cover → value A T.words T.basis (count p.cover) (vertex p.cover) c j ≡ generator_row M p.cover j

  -- By the printed embedding into the injective modules of term 1, N is the translate of M: the kernel of the differential under the Nakayama functor, the
  -- presentation being minimal.
  pub record IsTranslateOf (N : Rep q A.quiver) (embedding : List PlainMatrix) : Type 0 where
    pub cover : Hom (sum_of_term T.words p.cover) M
    pub is_cover : IsCover cover
    pub inclusion : Hom N (injective_term T p.syzygy)
    pub matrices : HasMatrices inclusion embedding
    pub is : IsTranslate T (count p.syzygy) (vertex p.syzygy) (count p.cover) (vertex p.cover) M (differential T p) cover inclusion

  -- By the printed projection from the transposed term 1, N is the transpose of M: the cokernel of the transposed differential, the presentation being
  -- minimal.
  pub record IsTransposeOf (N : Rep q (opposite A.quiver)) (projection : List PlainMatrix) : Type 0 where
    pub cover : Hom (sum_of_term T.words p.cover) M
    pub is_cover : IsCover cover
    pub onto : Hom (transposed_term T p.syzygy) N
    pub matrices : HasMatrices onto projection
    pub is : IsTranspose T (count p.syzygy) (vertex p.syzygy) (count p.cover) (vertex p.cover) M (differential T p) cover onto

-- The vertices of both terms are declared.
abbrev pub AreDeclared : (h : Header) (a : Module) → List TermRows → Type 0
AreDeclared h a terms = (k j : ℕ) → k ≤ 1 → j < count (term_at terms k) → vertex (term_at terms k) j < (algebra_at a.side h).quiver.vertices

-- The vertices of the terms are declared; N has the side of a, and is its translate.
pub record TauHolds (h : Header) (T : Sides h) (n a : Module) (terms : List TermRows) (embedding : List PlainMatrix) : Type 0 where
  pub declared : AreDeclared h a terms
  pub side : n.side ≡ a.side
  pub is : IsTranslateOf (sided_words a.side T) (read h a) (presentation_of terms) (read_beside h a n) embedding

-- The vertices of the terms are declared; N has the other side, and is the transpose of a.
pub record TransposeHolds (h : Header) (T : Sides h) (n a : Module) (terms : List TermRows) (projection : List PlainMatrix) : Type 0 where
  pub declared : AreDeclared h a terms
  pub side : n.side ≡ other_side a.side
  pub is : IsTransposeOf (sided_words a.side T) (read h a) (presentation_of terms) (read_across h a n) projection

-- The module b has the other side, the dimensions of a and the transposed matrices.
pub record IsDualOf (h : Header) (a b : Module) : Type 0 where
  pub side : b.side ≡ other_side a.side
  pub is : read_across h a b ≡ dual (read h a)

-- The module b is the dual of a, and N, which has the side of a, is the transpose of b by its terms.
pub record TauiHolds (h : Header) (T : Sides h) (n a b : Module) (terms : List TermRows) (projection : List PlainMatrix) : Type 0 where
  pub dual : IsDualOf h a b
  pub side : n.side ≡ a.side
  pub transpose : TransposeHolds h T n b terms projection
