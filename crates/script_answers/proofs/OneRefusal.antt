-- Behind given records a statement is refused for one reason.
use Rattle.std.proofs.Common.{Option, ℕ, zero, suc, ◌≡◌, ◌⊎◌, List, [], ◌∷◌, Some, None, inl, inr, refl, sym, ap, ◌∙◌, subst, arith}
use Rattle.linear_algebra.proofs.Solving.{right_inverse_cancels}
use Rattle.path_algebra.specs.Allowed.{IsAllowed}
use Rattle.representations.specs.Quiver.{Quiver}
use Rattle.representations.specs.Rep.{Rep as Representation}
use Rattle.representations.specs.Submodule.{sub_rep}
use Rattle.representations.proofs.RepEqual.{Rep-eq}
use Rattle.linear_algebra.specs.Field.{Gf}
use Rattle.linear_algebra.specs.Matrix.{Mat}
use Rattle.projectives.specs.Canonical.{canonical_vertices}
use Rattle.module_types.specs.declared.Module.{Module}
use Rattle.module_types.specs.declared.TermRows.{TermRows}
use Rattle.module_types.specs.Algebras.{sided_words}
use Rattle.module_types.specs.Readings.{read}
use Rattle.claim_conditions.specs.Terms.{sum_at, printed_matrix}
use Rattle.claim_conditions.specs.KernelParts.{kernel_rows, IsClosed, kernel_part}
use Rattle.claim_conditions.specs.ResolutionConditions.{OfCovered}
use Rattle.claim_conditions.specs.Locals.{LocalHolds}
use Rattle.script_types.specs.declared.Statement.{Statement}
use Rattle.script_types.specs.declared.StatementKind.{StatementKind}
use Rattle.script_types.specs.declared.StatementKind.TheVariants.{Rep, Std, Sum, Map, Kernel, Cokernel, Radical, Dual, Hom, Resolve, Ext, Decompose, Transpose, Tau, Taui, Ars}
use Rattle.report_types.specs.declared.claims.Claim.{Claim}
use Rattle.report_types.specs.declared.claims.Claim.TheVariants as claim
use Rattle.report_types.specs.declared.claims.Record.{Record}
use Rattle.report_types.specs.declared.reports.Why.{Why}
use Rattle.report_types.specs.declared.reports.Why.TheVariants as why
use Rattle.report_types.specs.Verdicts.{NormalWords, sides_by}
use Rattle.report_types.proofs.VerdictLaws.{words_of}
use Rattle.script_answers.specs.Settings.{Setting, number_of, module_of}
use Rattle.script_answers.specs.Refusals.{projectives_dim}
use Rattle.script_answers.specs.Records.{ClaimsResolution}
use Rattle.script_answers.specs.LateRefusals.{terms_of, StopsBefore, StopsAtTerm, DualStopsAtTerm, PresentationShows, DualPresentationShows, ExtensionStops, IsRefusal, SequenceShows, Shows, IsDecomposable}
use Rattle.script_answers.specs.Taken.{IsRefused, at_once, shown}

not_free : (w : Why) → None ≡ Some w → ⊥
not_free w same = cc

one_some : (v w : Why) → Some v ≡ Some w → v ≡ w
one_some v w same = cc

-- ---- lengths of resolutions

length_in : Claim → ℕ
length_in (claim.Resolution a n terms) = n
length_in c = zero

one_length : (a b m n : ℕ) (r : Record) → ClaimsResolution a m r → ClaimsResolution b n r → m ≡ n
unfolding length_in
one_length a b m n r x y = ap length_in (sym x.claims ∙ y.claims)

-- ---- the dimension of the next term

module _ {q : Gf} {Q : Quiver} (X : Representation q Q) {n : ℕ → ℕ} (f : (w : ℕ) → Mat q (X.dim w) (n w)) where
  same_part : (c d : IsClosed X f) → sub_rep (kernel_part X f c) ≡ sub_rep (kernel_part X f d)
  same_part c d = Rep-eq _ _ (λ v. refl) (λ a i j. ap (λ (M : Mat q _ _). M.at i j)
      (right_inverse_cancels (kernel_rows X f (Q.target a)) ((kernel_part X f c).independent (Q.target a)) (c a).by (d a).by ((c a).is ∙ sym (d a).is)))

dims_once : (at : Setting) (m : Module) (terms : List TermRows) (n : NormalWords at.header) (k v w : ℕ)
    → OfCovered (sided_words m.side (sides_by n)).words (read at.header m) terms (suc k) (λ U. v ≡ projectives_dim at m.side (canonical_vertices (sub_rep U)))
    → OfCovered (sided_words m.side (sides_by n)).words (read at.header m) terms (suc k) (λ U. w ≡ projectives_dim at m.side (canonical_vertices (sub_rep U))) → v ≡ w
dims_once at m terms n k v w x y =
    x.1 ∙ (ap (λ (S : Representation _ _). projectives_dim at m.side (canonical_vertices S))
    (same_part (sum_at (sided_words m.side (sides_by n)).words (read at.header m) terms k) (printed_matrix (sided_words m.side (sides_by n)).words (read at.header m) terms k) x.0 y.0) ∙ sym y.1)

module _ (at : Setting) (ok : IsAllowed at.header) where
  -- ---- too large a term

  terms_once : (m : Module) (n before : ℕ) (r : Record) (v w : Why) → StopsBefore at m n before r v → StopsBefore at m n before r w → v ≡ w
  terms_once m n before r v w x y =
      let dims : x.dim ≡ y.dim = dims_once at m (terms_of r) (words_of at.header ok) before x.dim y.dim (x.large.is (words_of at.header ok)) (y.large.is (words_of at.header ok)) in
      x.is ∙ (ap (why.TermLimit (suc before)) dims ∙ sym y.is)

  stops_once : (a : ℕ) (m : Module) (n : ℕ) (r : Record) (v w : Why) → StopsAtTerm at a m n r v → StopsAtTerm at a m n r w → v ≡ w
  stops_once a m n r v w x y =
      let same : y.before ≡ x.before = one_length a a y.before x.before r y.shown.claims x.shown.claims in
      terms_once m n x.before r v w x.stops (subst (λ k. StopsBefore at m n k r w) same y.stops)

  -- ---- what the normal words refuse

  refusal_once : (refused : NormalWords at.header → Option Why) (v w : Why) → IsRefusal at refused v → IsRefusal at refused w → v ≡ w
  refusal_once refused v w x y = one_some v w (sym (x (words_of at.header ok)) ∙ y (words_of at.header ok))

  -- a resolution that stops before its last term is not whole
  not_both : (a b : ℕ) (m : Module) (n : ℕ) (r : Record) (w : Why) → StopsAtTerm at a m n r w → ClaimsResolution b n r → ⊥
  not_both a b m n r w x y =
      let same : x.before ≡ n = one_length a b x.before n r x.shown.claims y in
      let inside = x.stops.inside in omega arith

  presented_once : (a : ℕ) (m : Module) (refused : List TermRows → NormalWords at.header → Option Why) (r : Record) (v w : Why)
      → StopsAtTerm at a m 1 r v ⊎ PresentationShows at a r refused v → StopsAtTerm at a m 1 r w ⊎ PresentationShows at a r refused w → v ≡ w
  presented_once a m refused r v w (inl x) (inl y) = stops_once a m 1 r v w x y
  presented_once a m refused r v w (inl x) (inr y) = absurd (not_both a a m 1 r v x y.shown.claims)
  presented_once a m refused r v w (inr x) (inl y) = absurd (not_both a a m 1 r w y x.shown.claims)
  presented_once a m refused r v w (inr x) (inr y) = refusal_once (refused (terms_of r)) v w x.is y.is

  extended_once : (n a : ℕ) (m b : Module) (r : Record) (v w : Why)
      → StopsAtTerm at a m (suc n) r v ⊎ ExtensionStops at n a b r v → StopsAtTerm at a m (suc n) r w ⊎ ExtensionStops at n a b r w → v ≡ w
  extended_once n a m b r v w (inl x) (inl y) = stops_once a m (suc n) r v w x y
  extended_once n a m b r v w (inl x) (inr y) = absurd (not_both a a m (suc n) r v x y.shown.claims)
  extended_once n a m b r v w (inr x) (inl y) = absurd (not_both a a m (suc n) r w y x.shown.claims)
  extended_once n a m b r v w (inr x) (inr y) = one_some v w (sym x.is ∙ y.is)

  zero_not_one : (n : ℕ) (r : Record) → ClaimsResolution n 0 r → ClaimsResolution n 1 r → ⊥
  zero_not_one n r x y = let same = one_length n n 0 1 r x y in omega (arith, same)

  dual_once : (m : Module) (r : Record) (v w : Why) → DualStopsAtTerm at m r v ⊎ DualPresentationShows at m r v → DualStopsAtTerm at m r w ⊎ DualPresentationShows at m r w → v ≡ w
  dual_once m r v w (inl x) (inl y) = terms_once m 1 zero r v w x.stops y.stops
  dual_once m r v w (inl x) (inr y) = absurd (zero_not_one _ r x.shown.claims y.shown.claims)
  dual_once m r v w (inr x) (inl y) = absurd (zero_not_one _ r y.shown.claims x.shown.claims)
  dual_once m r v w (inr x) (inr y) = refusal_once _ v w x.is y.is

  -- ---- sequences

  local_by : (a : ℕ) (m : Module) (records : List Record) (w : Why) → SequenceShows at a m records w → LocalHolds at.header m
  local_by a m [] w s = absurd s
  local_by a m (x ∷ []) w s = absurd s
  local_by a m (x ∷ (y ∷ [])) w s = s.0.is_local
  local_by a m (x ∷ (y ∷ (z ∷ []))) w s = s.0.is_local
  local_by a m (x ∷ (y ∷ (z ∷ (t ∷ rest)))) w s = absurd s

  sequence_once : (a : ℕ) (m : Module) (records : List Record) (v w : Why) → SequenceShows at a m records v → SequenceShows at a m records w → v ≡ w
  sequence_once a m [] v w x y = absurd x
  sequence_once a m (r ∷ []) v w x y = absurd x
  sequence_once a m (r ∷ (s ∷ [])) v w x y = x.1.is ∙ sym y.1.is
  sequence_once a m (r ∷ (s ∷ (t ∷ []))) v w x y = presented_once a m _ t v w x.1 y.1
  sequence_once a m (r ∷ (s ∷ (t ∷ (u ∷ rest)))) v w x y = absurd x

  ars_once : (a : ℕ) (m : Module) (records : List Record) (v w : Why) → IsDecomposable at a m records v ⊎ SequenceShows at a m records v
      → IsDecomposable at a m records w ⊎ SequenceShows at a m records w → v ≡ w
  ars_once a m records v w (inl x) (inl y) = x.is ∙ sym y.is
  ars_once a m records v w (inl x) (inr y) = absurd (x.not_local (local_by a m records w y))
  ars_once a m records v w (inr x) (inl y) = absurd (y.not_local (local_by a m records v x))
  ars_once a m records v w (inr x) (inr y) = sequence_once a m records v w x y

  -- ---- statements

  shows_once : (kind : StatementKind) (records : List Record) (v w : Why) → Shows at kind records v → Shows at kind records w → v ≡ w
  shows_once (Resolve a n) (r ∷ []) v w x y = stops_once (number_of at a) (module_of at a) n r v w x y
  shows_once (Ext n a b) (r ∷ []) v w x y = extended_once n (number_of at a) (module_of at a) (module_of at b) r v w x y
  shows_once (Transpose name a) (r ∷ []) v w x y = presented_once (number_of at a) (module_of at a) _ r v w x y
  shows_once (Tau name a) (r ∷ []) v w x y = presented_once (number_of at a) (module_of at a) _ r v w x y
  shows_once (Taui name a) (r ∷ []) v w x y = dual_once _ r v w x y
  shows_once (Ars a left middle) records v w x y = ars_once (number_of at a) (module_of at a) records v w x y
  shows_once (Resolve a n) [] v w x y = absurd x
  shows_once (Resolve a n) (r ∷ (s ∷ rest)) v w x y = absurd x
  shows_once (Ext n a b) [] v w x y = absurd x
  shows_once (Ext n a b) (r ∷ (s ∷ rest)) v w x y = absurd x
  shows_once (Transpose name a) [] v w x y = absurd x
  shows_once (Transpose name a) (r ∷ (s ∷ rest)) v w x y = absurd x
  shows_once (Tau name a) [] v w x y = absurd x
  shows_once (Tau name a) (r ∷ (s ∷ rest)) v w x y = absurd x
  shows_once (Taui name a) [] v w x y = absurd x
  shows_once (Taui name a) (r ∷ (s ∷ rest)) v w x y = absurd x
  shows_once (Rep name dims lines) records v w x y = absurd x
  shows_once (Std name which vertex) records v w x y = absurd x
  shows_once (Sum name a b) records v w x y = absurd x
  shows_once (Map name a b lines) records v w x y = absurd x
  shows_once (Kernel name f) records v w x y = absurd x
  shows_once (Cokernel name f) records v w x y = absurd x
  shows_once (Radical name a) records v w x y = absurd x
  shows_once (Dual name a) records v w x y = absurd x
  shows_once (Hom a b) records v w x y = absurd x
  shows_once (Decompose a name) records v w x y = absurd x

  pub one_refusal : (s : Statement) (records : List Record) (v w : Why) → IsRefused at s records v → IsRefused at s records w → v ≡ w
  one_refusal s records v w (at_once e f) (at_once g h) = one_some v w (sym f ∙ h)
  one_refusal s records v w (at_once e f) (shown free lines shows) = absurd (not_free v (sym free ∙ f))
  one_refusal s records v w (shown free lines shows) (at_once e f) = absurd (not_free w (sym free ∙ f))
  one_refusal s records v w (shown free lines x) (shown again more y) = shows_once s.kind records v w x y
