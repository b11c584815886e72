-- Rows of what a term of a resolution goes to, a module or the term before, go along arrows.
use Rattle.std.proofs.Common.{ℕ, zero, suc, ◌≡◌, ◌≢◌, ◌<◌, ◌≤◌, ◌+◌, ◌-◌, List, length, get_or, inl, inr, refl, sym, ap, ◌∙◌, arith, subst, add-one}
use Rattle.std.specs.Prelude.{slice_index, slice_index_or}
use Rattle.std.proofs.lemmas.List.{get_or_default}
use Rattle.linear_algebra.specs.Field.{Gf}
use Rattle.quiver_paths.specs.declared.Path.{Path}
use Rattle.path_algebra.specs.declared.Header.{Header}
use Rattle.representations.specs.Quiver.{Quiver}
use Rattle.representations.specs.Rep.{Rep}
use Rattle.projectives.specs.Words.{Words}
use Rattle.projectives.specs.CanonicalCover.{projectives_at}
use Rattle.module_types.specs.declared.Side.{Side}
use Rattle.module_types.specs.declared.Module.{Module}
use Rattle.module_types.specs.declared.TermRows.{TermRows}
use Rattle.module_types.specs.Walks.{step}
use Rattle.claim_conditions.specs.Terms.{term_at, vertices_at, goes_to}
use Rattle.module_checks.specs.RowWalks.{arrow_in_turn, along_first, IsMovedBy, IsArrowsMoved}
use Rattle.module_checks.proofs.Walks.{step_same, moved-none, moved-all}
use Rattle.term_rows.specs.SumDims.{sum_dim, covered_dim, AreTerms, AreVertices, IsRoomFor}
use Rattle.term_rows.specs.RowSteps.{IsStep}

module _ {q : Gf} {Q : Quiver} (W : Words q Q) (X : Rep q Q) (terms : List TermRows) (a : ℕ) (old new : List ℕ) where
  pub step_at_first : (k : ℕ) → k ≡ 0 → IsStep X a old new → IsStep (goes_to W X terms k) a old new
  step_at_first k e s = subst (λ k. IsStep (goes_to W X terms k) a old new) (sym e) s

  pub step_at_later : (k n : ℕ) (t : TermRows) → k ≡ suc n → n < length terms → t ≡ slice_index_or terms n t → IsStep (projectives_at W t.vertices) a old new → IsStep (goes_to W X terms k) a old new
  step_at_later k n t e l te s =
      let same : t ≡ term_at terms n = te ∙ get_or_default terms n t _ l in
      subst (λ k. IsStep (goes_to W X terms k) a old new) (sym e) (subst (λ (t : TermRows). IsStep (projectives_at W t.vertices) a old new) same s)

module _ {q : Gf} {Q : Quiver} (X : Rep q Q) (side : Side) where
  pub moved-next : (k : ℕ) (arrows first old new : List ℕ) (a : ℕ) → a ≡ arrow_in_turn side arrows k → IsMovedBy X side k arrows first old → IsStep X a old new → IsMovedBy X side (k + 1) arrows first new
  moved-next k arrows first old new a e h s = record {
    at = λ j. rw add-one (s.at j ∙ step_same X side a (λ t. get_or old t 0) (along_first X side arrows k (λ t. get_or first t 0)) h.at j
        ∙ ap (λ b. step X b (along_first X side arrows k (λ t. get_or first t 0)) j) e);
  }

-- what is asked of the term before
module _ (words : List Path) (h : Header) (a : Module) (terms : List TermRows) where
  pub room_at_first : (k room : ℕ) → k ≡ 0 → IsRoomFor h (covered_dim words h a terms k) room → IsRoomFor h (covered_dim words h a terms 0) room
  room_at_first k room e r = subst (λ k. IsRoomFor h (covered_dim words h a terms k) room) e r

  pub room_at_later : (k n room : ℕ) (t : TermRows) → k ≡ suc n → n < length terms → t ≡ slice_index_or terms n t → IsRoomFor h (covered_dim words h a terms k) room → IsRoomFor h (sum_dim words a.side t.vertices) room
  room_at_later k n room t e l te r =
      let same : t ≡ term_at terms n = te ∙ get_or_default terms n t _ l in
      subst (λ (t : TermRows). IsRoomFor h (sum_dim words a.side t.vertices) room) (sym same) (subst (λ k. IsRoomFor h (covered_dim words h a terms k) room) e r)

  pub vertices_of_term : (k n : ℕ) (t : TermRows) → n < k → t ≡ slice_index_or terms n t → AreTerms words h a terms k → AreVertices h t.vertices
  vertices_of_term k n t l te T =
      let c = T.counted in
      let same : t ≡ term_at terms n = te ∙ get_or_default terms n t _ (omega (arith, l, c)) in
      subst (λ (t : TermRows). AreVertices h t.vertices) (sym same) (record { declared = (T.each n l).declared })
