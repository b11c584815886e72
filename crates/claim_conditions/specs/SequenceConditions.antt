-- The conditions on an almost split sequence that ends in a local module, over its presentation and the certificate of its endomorphism ring.
-- (Assem, Simson, Skowroński, volume 1, chapter IV, 2 and 3.)
use Rattle.std.specs.Prelude.{ℕ, ◌≡◌, ◌≢◌, ◌<◌, ◌≤◌, List, [], ◌∷◌}
use Rattle.linear_algebra.specs.Field.{Gf}
use Rattle.linear_algebra.specs.Matrix.{Mat, zeros, one, ◌·◌, beside, stack}
use Rattle.linear_algebra.specs.Parts.{row}
use Rattle.fp_linear.specs.Matrix.{PlainMatrix}
use Rattle.path_algebra.specs.declared.Header.{Header}
use Rattle.representations.specs.Quiver.{BoundQuiver}
use Rattle.representations.specs.Rep.{Rep}
use Rattle.representations.specs.Sum.{sum_rep}
use Rattle.representations.specs.HomSpace.{unknowns, unflat}
use Rattle.projectives.specs.TwoSided.{TwoSided}
use Rattle.module_types.specs.declared.Module.{Module}
use Rattle.module_types.specs.declared.TermRows.{TermRows}
use Rattle.module_types.specs.Algebras.{sided_words}
use Rattle.module_types.specs.Readings.{read, read_beside, family_of, IsHom}
use Rattle.module_types.specs.TermMatrices.{count}
use Rattle.module_types.specs.Presentations.{Presentation, injective_term, nakayama_of, value_on, pullback}
use Rattle.claim_conditions.specs.declared.Clause.TheVariants as clause
use Rattle.claim_conditions.specs.Conditions.{Condition, ◌asks◌}
use Rattle.claim_conditions.specs.Modules.{Sides}
use Rattle.claim_conditions.specs.Families.{Family, AreReduced, ComposeToZero, HasKernelSize}
use Rattle.claim_conditions.specs.LocalConditions.{ring_rows, ideal_rows}
use Rattle.claim_conditions.specs.Translates.{presentation_of}
use Rattle.claim_conditions.specs.TranslateConditions.{embedding_of, IsInside}

-- what the claim prints: the functional, the embedding of the left end, and that of the middle
pub record SequenceRows : Type 0 where
  pub functional : List ℕ
  pub left : List PlainMatrix
  pub middle : List PlainMatrix

-- `objects`: one side
pub record HaveSequenceSides (n e a : Module) : Type 0 where
  pub left : n.side ≡ a.side
  pub middle : e.side ≡ a.side

module _ {q : Gf} {A : BoundQuiver} (T : TwoSided q A) (p : Presentation) where
  -- `nonprojective`: term 1 has a generator
  abbrev pub IsNotProjective : Type 0
  IsNotProjective = 1 ≤ count p.syzygy

  module _ (M : Rep q A.quiver) (functional : List ℕ) where
    -- the functional on the images of the generators of term 0 under the endomorphism that row i is
    abbrev pub value_at : {k : ℕ} (i : ℕ) → Mat q k (unknowns M M) → Mat q 1 1
    value_at i rows = value_on T M p.cover functional (unflat M M (row i rows))

    -- `functional`: it is zero on the images under each row of the ideal, and not under some member of the basis
    pub record IsEndFunctional {n r : ℕ} (basis : Mat q n (unknowns M M)) (ideal : Mat q r n) : Type 0 where
      pub kills : (i : ℕ) → i < r → value_at i (ideal · basis) ≡ zeros q 1 1
      pub member : ℕ
      pub below : member < n
      pub sees : value_at member basis ≢ zeros q 1 1

  -- `left`: what is asked of the embedding of a translate
  pub record IsLeft (N : Rep q A.quiver) (embedding : List PlainMatrix) : Type 0 where
    pub reduced : AreReduced N (injective_term T p.syzygy) (embedding_of T p N embedding)
    pub inside : IsInside T p N embedding
    pub size : HasKernelSize N (injective_term T p.syzygy) (injective_term T p.cover) (nakayama_of T p).at

  -- the injective modules of term 1, and then M
  abbrev pub around : Rep q A.quiver → Rep q A.quiver
  around M = sum_rep (injective_term T p.syzygy) M

  module _ (E M : Rep q A.quiver) (functional : List ℕ) (embedding : List PlainMatrix) where
    abbrev pub middle_of : Family E (around M)
    middle_of = family_of E (around M) embedding

    -- `middle`: the embedding of E is in reduced row form, commutes with the arrows, lies in the pullback, and has its dimension
    pub record IsMiddle : Type 0 where
      pub reduced : AreReduced E (around M) middle_of
      pub hom : IsHom E (around M) middle_of
      pub inside : ComposeToZero E (around M) (injective_term T p.cover) middle_of (pullback T M p functional)
      pub size : HasKernelSize E (around M) (injective_term T p.cover) (pullback T M p functional)

  -- `maps`: f and then the embedding of E is the embedding of N followed by zeros; g is the part of the embedding of E that lies in M
  pub record AreMaps (N E M : Rep q A.quiver) (f g : List PlainMatrix) (s : SequenceRows) : Type 0 where
    pub first : (w : ℕ) → family_of N E f w · middle_of E M s.functional s.middle w ≡ beside (embedding_of T p N s.left w) (zeros q (N.dim w) (M.dim w))
    pub second : (w : ℕ) → family_of E M g w ≡ middle_of E M s.functional s.middle w · stack (zeros q ((injective_term T p.syzygy).dim w) (M.dim w)) (one q (M.dim w))

  module _ (N E M : Rep q A.quiver) (f g : List PlainMatrix) {n r : ℕ} (basis : Mat q n (unknowns M M)) (ideal : Mat q r n) (s : SequenceRows) where
    abbrev pub conditions_behind_objects : List Condition
    conditions_behind_objects =
        (clause.Nonprojective asks IsNotProjective)
        ∷ (clause.Functional asks IsEndFunctional M s.functional basis ideal)
        ∷ (clause.Left asks IsLeft N s.left)
        ∷ (clause.Middle asks IsMiddle E M s.functional s.middle)
        ∷ (clause.Maps asks AreMaps N E M f g s)
        ∷ []

-- `objects`: the numbers say that the terms are those of a resolution of a, that the certificate is one of a over a Hom claim of a with a, and that the maps
-- go from n to e and from e to a; and the three modules have one side
abbrev pub sequence_conditions : (named : Type 0) (h : Header) → Sides h → (n e a : Module) (f g : List PlainMatrix) → List TermRows → (basis ideal : PlainMatrix) → SequenceRows → List Condition
sequence_conditions named h T n e a f g terms basis ideal s =
    (clause.Objects asks (named × HaveSequenceSides n e a))
    ∷ conditions_behind_objects (sided_words a.side T) (presentation_of terms) (read_beside h a n) (read_beside h a e) (read h a) f g (ring_rows h a basis) (ideal_rows h basis ideal) s
