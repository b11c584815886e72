-- The radical by an embedding: its rows are the rows of the radical, it exists, and it is told by the arrows one by one, or by its size.
use Rattle.std.proofs.Common.{ℕ, ◌<◌, ◌≡◌, ◌≢◌, ◌⊎◌, inl, inr, refl, sym, ap, ◌∙◌, subst}
use Rattle.std.proofs.lemmas.Bool.{cases_eq}
use Rattle.linear_algebra.specs.Field.{Gf}
use Rattle.linear_algebra.specs.Matrix.{Mat-eq, Row, reshape, ◌·◌}
use Rattle.linear_algebra.specs.Rank.{IsInSpan}
use Rattle.linear_algebra.specs.Ranks.{rank}
use Rattle.linear_algebra.proofs.PartsLaws.{reshape-at}
use Rattle.linear_algebra.proofs.Families.{in_span_zeros}
use Rattle.linear_algebra.proofs.RankExists.{rank_factorisation}
use Rattle.linear_algebra.proofs.Dimension.{rank_is}
use Rattle.linear_algebra.proofs.Subspaces.{inclusion_equal}
use Rattle.linear_algebra.proofs.Solving.{left_f, in_span_trans, in_span_mul, injective_right_inverse}
use Rattle.linear_algebra.proofs.Ranks.{rank_same_span, rank_right_inverse}
use Rattle.linear_algebra.proofs.RowForm.{reduced_form}
use Rattle.representations.specs.Quiver.{Quiver}
use Rattle.representations.specs.Rep.{Rep}
use Rattle.representations.specs.Hom.{Hom}
use Rattle.representations.specs.Module.{IsMono}
use Rattle.representations.specs.Submodule.{inclusion}
use Rattle.representations.specs.Radical.{IsInRadical}
use Rattle.representations.specs.Factoring.{FactorsBefore}
use Rattle.representations.specs.StackSpans.{stack_all_least}
use Rattle.representations.specs.RadicalModule.{arrow_at, arrow_into, arrow_rows, radical}
use Rattle.representations.specs.RadicalOf.{IsRadical}
use Rattle.representations.proofs.Submodules.{inclusion_mono}
use Rattle.representations.proofs.Factoring.{through_mono}
use Rattle.representations.proofs.RadicalModule.{radical_in_span, span_in_radical}

module _ {q : Gf} {Q : Quiver} where
  -- A row is a combination of the rows of i exactly where it is a row of the radical.
  module _ {N X : Rep q Q} (i : Hom N X) (r : IsRadical i) where
    pub radical_has : {w : ℕ} (x : Row q (X.dim w)) → IsInRadical X w x → IsInSpan (i.at w) x
    radical_has {w} x h = in_span_trans (i.at w) (arrow_rows X w) x (r.has w) (radical_in_span h)

    pub radical_within : {w : ℕ} (x : Row q (X.dim w)) → IsInSpan (i.at w) x → IsInRadical X w x
    radical_within {w} x s = span_in_radical x (in_span_trans (arrow_rows X w) (i.at w) x (r.within w) s)

    pub radical_size : (w : ℕ) → N.dim w ≡ rank (arrow_rows X w)
    radical_size w = sym (rank_right_inverse (i.at w) (injective_right_inverse (i.at w) (r.mono w))) ∙ rank_same_span (arrow_rows X w) (i.at w) (r.within w) (r.has w)

  -- The submodule that is the radical is so by its inclusion.
  pub radical_inclusion : (X : Rep q Q) → IsRadical (inclusion (radical X))
  unfolding radical
  radical_inclusion X = record {
    mono = inclusion_mono (radical X);
    within = λ w. (reduced_form (arrow_rows X w)).spanned;
    has = λ w. (reduced_form (arrow_rows X w)).spans;
  }

  -- What the arrows bring to a vertex, one by one.
  module _ {N X : Rep q Q} (i : Hom N X) where
    arrow_spanned : (a : ℕ) → IsInSpan (i.at (Q.target a)) (X.mat a) → (w : ℕ) (c : (Q.target a ≡ w) ⊎ (Q.target a ≢ w)) → IsInSpan (i.at w) (arrow_at X w a c)
    arrow_spanned a s w (inl e) = subst Comes e base e
      where
        Comes : ℕ → Type 0
        Comes w = (e : Q.target a ≡ w) → IsInSpan (i.at w) (reshape refl (ap X.dim e) (X.mat a))

        base : Comes (Q.target a)
        base e = subst (IsInSpan (i.at (Q.target a))) (Mat-eq _ _ (λ r c. sym (reshape-at refl (ap X.dim e) (X.mat a) r c))) s
    arrow_spanned a s w (inr d) = in_span_zeros (X.dim (Q.source a)) (i.at w)

    pub arrows_spanned : ((a : ℕ) → a < Q.arrows → IsInSpan (i.at (Q.target a)) (X.mat a)) → (w : ℕ) → IsInSpan (i.at w) (arrow_rows X w)
    unfolding arrow_rows arrow_into
    arrows_spanned h w = stack_all_least (i.at w) Q.arrows (λ a. X.dim (Q.source a)) (arrow_into X w) (λ a l. arrow_spanned a (h a l) w (cases_eq (Q.target a) w))

    pub radical_by_arrows : IsMono i → ((w : ℕ) → IsInSpan (arrow_rows X w) (i.at w)) → ((a : ℕ) → a < Q.arrows → IsInSpan (i.at (Q.target a)) (X.mat a)) → IsRadical i
    radical_by_arrows mono within h = record { mono = mono; within = within; has = arrows_spanned h }

    -- By size: what the arrows bring lies in N, and N has no more dimensions.
    pub radical_by_size : IsMono i → ((a : ℕ) → a < Q.arrows → IsInSpan (i.at (Q.target a)) (X.mat a)) → ((w : ℕ) → N.dim w ≡ rank (arrow_rows X w)) → IsRadical i
    radical_by_size mono h size = record { mono = mono; within = within; has = arrows_spanned h }
      where
        within : (w : ℕ) → IsInSpan (arrow_rows X w) (i.at w)
        within w =
            let F = rank_factorisation (arrow_rows X w) in
            let inside : IsInSpan (i.at w) F.basis = in_span_trans (i.at w) (arrow_rows X w) F.basis (arrows_spanned h w) (record { by = F.left; is = left_f F }) in
            in_span_trans (arrow_rows X w) F.basis (i.at w) (record { by = F.left; is = left_f F })
            (inclusion_equal F.basis (i.at w) (sym (rank_is F) ∙ sym (size w)) (record { inverse = F.right; is = F.right_inverse }) inside)

  -- Two embeddings of the radical go through one another.
  pub radical_through : {M N X : Rep q Q} (i : Hom M X) (j : Hom N X) → IsRadical i → IsRadical j → FactorsBefore j i
  radical_through {X = X} i j r s = through_mono j i s.mono (λ v x.
      in_span_trans (j.at v) (i.at v) (x · i.at v) (in_span_trans (j.at v) (arrow_rows X v) (i.at v) (s.has v) (r.within v)) (in_span_mul (i.at v) x))
