-- The first arrow with whose matrices those of a map do not commute: what the tests of a map say.
use Rattle.std.proofs.Common.{ℕ, ◌≡◌, ◌<◌, List, true, false, length, get_or, Some, None, sym, ap, ◌∙◌, subst, arith}
use Rattle.std.specs.Prelude.{not}
use Rattle.std.specs.List.{range_with_len}
use Rattle.std.proofs.lemmas.Bool.{not_from_true, not_from_false, false_from_ne_true}
use Rattle.std.proofs.lemmas.List.FromFn.{get_or-range_with_len, length-range_with_len}
use Rattle.linear_algebra.specs.Field.{Gf}
use Rattle.linear_algebra.specs.Matrix.{Mat, ◌·◌}
use Rattle.fp_linear.specs.Matrix.{PlainMatrix}
use Rattle.path_algebra.specs.declared.Header.{Header}
use Rattle.representations.specs.Quiver.{Quiver}
use Rattle.representations.specs.Rep.{Rep}
use Rattle.module_types.specs.declared.Module.{Module}
use Rattle.module_types.specs.Readings.{read, read_beside, family_of}
use Rattle.module_checks.proofs.Sides.{arrows_at}
use Rattle.claim_conditions.specs.Modules.{MapHolds}
use Rattle.module_faults.specs.MapFaults.{FailsAtArrow}
use Rattle.report_types.specs.declared.reports.Why.TheVariants as why
use Rattle.script_answers.specs.ZeroTests.{same_matrix, not_hom, commutes}
use Rattle.written_modules.proofs.Firsts.{find_first, find_none}
use Rattle.written_modules.proofs.ZeroTests.{matrix_same, same_if}

module _ {q : Gf} {Q : Quiver} (X Y : Rep q Q) (f : (v : ℕ) → Mat q (X.dim v) (Y.dim v)) where
  place : (k : ℕ) → k < Q.arrows → get_or (range_with_len 0 Q.arrows) k 0 ≡ k
  place k l = let e = get_or-range_with_len 0 Q.arrows k 0 l in omega (arith, e)

  goes : (k : ℕ) → k < Q.arrows → X.mat k · f (Q.target k) ≡ f (Q.source k) · Y.mat k
      → not (same_matrix (X.mat (get_or (range_with_len 0 Q.arrows) k 0) · f (Q.target (get_or (range_with_len 0 Q.arrows) k 0))) (f (Q.source (get_or (range_with_len 0 Q.arrows) k 0)) · Y.mat (get_or (range_with_len 0 Q.arrows) k 0))) ≡ false
  goes k l e = subst (λ a. not (same_matrix (X.mat a · f (Q.target a)) (f (Q.source a) · Y.mat a)) ≡ false) (sym (place k l)) (not_from_true _ (same_if _ _ e))

  pub square_refused : (k : ℕ) → k < Q.arrows → ((i : ℕ) → i < k → X.mat i · f (Q.target i) ≡ f (Q.source i) · Y.mat i) → (X.mat k · f (Q.target k) ≡ f (Q.source k) · Y.mat k → ⊥) → commutes X Y f ≡ Some (why.NotHom k)
  square_refused k l before fails =
      let n : length (range_with_len 0 Q.arrows) ≡ Q.arrows = length-range_with_len 0 Q.arrows in
      ap not_hom (find_first (λ a. not (same_matrix (X.mat a · f (Q.target a)) (f (Q.source a) · Y.mat a))) (range_with_len 0 Q.arrows) k 0 (omega (arith, n, l))
      (subst (λ a. not (same_matrix (X.mat a · f (Q.target a)) (f (Q.source a) · Y.mat a)) ≡ true) (sym (place k l)) (not_from_false _ (false_from_ne_true _ (λ e. fails (matrix_same _ _ e)))))
      (λ i m. goes i (omega (arith, l, m)) (before i m)))
      ∙ ap (λ a. not_hom (Some a)) (place k l)

  pub squares_pass : ((i : ℕ) → X.mat i · f (Q.target i) ≡ f (Q.source i) · Y.mat i) → commutes X Y f ≡ None
  squares_pass all =
      let n : length (range_with_len 0 Q.arrows) ≡ Q.arrows = length-range_with_len 0 Q.arrows in
      ap not_hom (find_none (λ a. not (same_matrix (X.mat a · f (Q.target a)) (f (Q.source a) · Y.mat a))) (range_with_len 0 Q.arrows) 0 (λ k l. goes k (omega (arith, n, l)) (all k)))

pub map_refused : (h : Header) (a b : Module) (matrices : List PlainMatrix) (k : ℕ) → FailsAtArrow h a b matrices k → commutes (read h a) (read_beside h a b) (family_of (read h a) (read_beside h a b) matrices) ≡ Some (why.NotHom k)
map_refused h a b matrices k f = square_refused (read h a) (read_beside h a b) (family_of (read h a) (read_beside h a b) matrices) k (let e = arrows_at a.side h in omega (arith, e, f.arrow)) f.before f.fails

pub map_passes : (h : Header) (a b : Module) (matrices : List PlainMatrix) → MapHolds h a b matrices → commutes (read h a) (read_beside h a b) (family_of (read h a) (read_beside h a b) matrices) ≡ None
map_passes h a b matrices m = squares_pass (read h a) (read_beside h a b) (family_of (read h a) (read_beside h a b) matrices) m.hom
