-- The conditions on a translate, a transpose and an inverse translate.
use Rattle.std.specs.Prelude.{◌≡◌, List, [], ◌∷◌}
use Rattle.linear_algebra.specs.Field.{Gf}
use Rattle.fp_linear.specs.Matrix.{PlainMatrix}
use Rattle.path_algebra.specs.declared.Header.{Header}
use Rattle.representations.specs.Quiver.{opposite, BoundQuiver}
use Rattle.representations.specs.Rep.{Rep}
use Rattle.projectives.specs.TwoSided.{TwoSided}
use Rattle.module_types.specs.declared.Module.{Module}
use Rattle.module_types.specs.declared.TermRows.{TermRows}
use Rattle.module_types.specs.Algebras.{sided_words, other_side}
use Rattle.module_types.specs.Readings.{read_beside, family_of, IsHom}
use Rattle.module_types.specs.Presentations.{Presentation, injective_term, nakayama_of, transposed_of}
use Rattle.claim_conditions.specs.declared.Clause.TheVariants as clause
use Rattle.claim_conditions.specs.Conditions.{Condition, ◌asks◌}
use Rattle.claim_conditions.specs.Modules.{Sides}
use Rattle.claim_conditions.specs.Families.{Family, AreReduced, AreCoReduced, ComposeToZero, HasKernelSize, HasCokernelSize}
use Rattle.claim_conditions.specs.Translates.{presentation_of, transposed_term, read_across, IsDualOf}

module _ {q : Gf} {A : BoundQuiver} (T : TwoSided q A) (p : Presentation) where
  -- an embedding of N into the injective modules of term 1
  module _ (N : Rep q A.quiver) (embedding : List PlainMatrix) where
    abbrev pub embedding_of : Family N (injective_term T p.syzygy)
    embedding_of = family_of N (injective_term T p.syzygy) embedding

    -- `inside`: it commutes with the arrows, and it is zero behind the differential under the Nakayama functor
    pub record IsInside : Type 0 where
      pub hom : IsHom N (injective_term T p.syzygy) embedding_of
      pub zero : ComposeToZero N (injective_term T p.syzygy) (injective_term T p.cover) embedding_of (nakayama_of T p).at

    -- `reduced`, `inside`, and `all`: at each vertex the dimension of N is that of the injective modules less the rank of that map
    abbrev pub embedding_conditions : List Condition
    embedding_conditions =
        (clause.Reduced asks AreReduced N (injective_term T p.syzygy) embedding_of)
        ∷ (clause.Inside asks IsInside)
        ∷ (clause.All asks HasKernelSize N (injective_term T p.syzygy) (injective_term T p.cover) (nakayama_of T p).at)
        ∷ []

  -- a projection of the transposed term 1 onto N, which has the other side
  module _ (N : Rep q (opposite A.quiver)) (projection : List PlainMatrix) where
    abbrev pub projection_of : Family (transposed_term T p.syzygy) N
    projection_of = family_of (transposed_term T p.syzygy) N projection

    -- `inside`: it commutes with the arrows, and it is zero behind the transposed differential
    pub record IsOutside : Type 0 where
      pub hom : IsHom (transposed_term T p.syzygy) N projection_of
      pub zero : ComposeToZero (transposed_term T p.cover) (transposed_term T p.syzygy) N (transposed_of T p).at projection_of

    -- `reduced`, `inside`, and `all`: at each vertex the dimension of N is that of the transposed term less the rank of the transposed differential
    abbrev pub projection_conditions : List Condition
    projection_conditions =
        (clause.Reduced asks AreCoReduced (transposed_term T p.syzygy) N projection_of)
        ∷ (clause.Inside asks IsOutside)
        ∷ (clause.All asks HasCokernelSize (transposed_term T p.cover) (transposed_term T p.syzygy) N (transposed_of T p).at)
        ∷ []

-- `objects`: the numbers say that the terms are those of a resolution of a; and N has the side of a
abbrev pub tau_conditions : (named : Type 0) (h : Header) → Sides h → (n a : Module) → List TermRows → List PlainMatrix → List Condition
tau_conditions named h T n a terms embedding =
    (clause.Objects asks (named × (n.side ≡ a.side)))
    ∷ embedding_conditions (sided_words a.side T) (presentation_of terms) (read_beside h a n) embedding

-- `objects`: the numbers say that the terms are those of a resolution of a; and N has the other side
abbrev pub transpose_conditions : (named : Type 0) (h : Header) → Sides h → (n a : Module) → List TermRows → List PlainMatrix → List Condition
transpose_conditions named h T n a terms projection =
    (clause.Objects asks (named × (n.side ≡ other_side a.side)))
    ∷ projection_conditions (sided_words a.side T) (presentation_of terms) (read_across h a n) projection

-- `objects`: the numbers say that the terms are those of a resolution of b; b is the dual of a, and N has the side of a
abbrev pub taui_conditions : (named : Type 0) (h : Header) → Sides h → (n a b : Module) → List TermRows → List PlainMatrix → List Condition
taui_conditions named h T n a b terms projection =
    (clause.Objects asks (named × IsDualOf h a b × (n.side ≡ a.side)))
    ∷ projection_conditions (sided_words b.side T) (presentation_of terms) (read_across h b n) projection
