-- Where all conditions hold, arrows behind a path act on what it becomes, however long the path is.
use Rattle.std.proofs.Common.{ℕ, ◌≡◌, ◌<◌, List, [], ◌∷◌, ◌++◌, inl, inr, refl, sym, ap, ◌∙◌}
use mathlib.Core.Path.{fun_ext}
use Rattle.std.proofs.lemmas.Bool.{cases_eq, cond-true, cond-false, eq-eqb, ne_eqb}
use Rattle.linear_algebra.specs.Field.{mul}
use Rattle.quiver_paths.specs.declared.Path.{Path}
use Rattle.quiver_paths.specs.Quiver.{arrow_count, source}
use Rattle.quiver_paths.specs.Path.{IsPath, Leads, concat, trivial_path, arrow_path}
use Rattle.quiver_paths.proofs.PathLemmas.{IsPath-concat, IsPath-arrow, IsPath-trivial, Leads-append}
use Rattle.path_algebra.specs.declared.Header.{Header}
use Rattle.path_algebra.specs.declared.rules.Rule.{Rule}
use Rattle.path_algebra.specs.Words.{AreNormalWords}
use Rattle.path_algebra.specs.Reduction.{act_arrow, act_arrows}
use Rattle.path_algebra.proofs.SumsOver.{sum_over-same}
use Rattle.path_algebra.proofs.NormalForms.{normal_form}
use Rattle.path_algebra.proofs.ClausesSuffice.{AreSound, words_are_normal, rules_are_reduced}
use Rattle.path_algebra.proofs.ClausesNecessary.{forms_are_reduction, along_path}
use Rattle.path_algebra.proofs.ReductionExists.{reduction_once}

module _ (h : Header) (words : List Path) (rules : List Rule) (c : AreSound h words rules) where
  abbrev normal : AreNormalWords h words
  normal = words_are_normal h words rules c

  abbrev pub form : Path → Path → ℕ
  form = normal_form h c.are.allowed words normal

  -- what a path becomes is its normal form
  pub becomes_form : (p : Path) → IsPath h.quiver p → c.action.becomes p ≡ form p
  becomes_form p hp = fun_ext (reduction_once h rules c.are c.action.becomes form c.action.reduction (forms_are_reduction h c.are.allowed words normal rules (rules_are_reduced h words rules c)) p hp)

  act_same : (a : ℕ) → a < arrow_count h.quiver → (x : Path → ℕ) → act_arrow h c.action.becomes words a x ≡ act_arrow h form words a x
  unfolding act_arrow
  act_same a l x = fun_ext (λ r. sum_over-same h.field words _ _ (λ w m. elim (cases_eq w.end (source h.quiver a)) [
    | inr n ↦ cond-false _ _ 0 (ne_eqb _ _ n) ∙ sym (cond-false _ _ 0 (ne_eqb _ _ n))
    | inl e ↦ cond-true _ _ 0 (eq-eqb _ _ e) ∙ ap (λ f. mul h.field (x w) (f r)) (becomes_form (concat w (arrow_path h.quiver a))
        (IsPath-concat h.quiver w (arrow_path h.quiver a) (c.word.only w m).0.path (IsPath-arrow h.quiver a c.are.allowed.quiver.ends l) e)) ∙ sym (cond-true _ _ 0 (eq-eqb _ _ e))
  ]))

  acts_same : (xs : List ℕ) (u v : ℕ) → Leads h.quiver u xs v → (x : Path → ℕ) → act_arrows h c.action.becomes words xs x ≡ act_arrows h form words xs x
  unfolding act_arrows
  acts_same [] u v l x = refl
  acts_same (a ∷ xs) u v l x = ap (act_arrows h c.action.becomes words xs) (act_same a l.0 x) ∙ acts_same xs _ v l.2 (act_arrow h form words a x)

  -- arrows behind a path act on what it becomes
  pub behind_always : (xs : List ℕ) (p : Path) (v : ℕ) → IsPath h.quiver p → Leads h.quiver p.end xs v
      → act_arrows h c.action.becomes words xs (c.action.becomes p) ≡ c.action.becomes (record { start = p.start; end = v; arrows = p.arrows ++ xs })
  behind_always xs p v hp l =
      ap (act_arrows h c.action.becomes words xs) (becomes_form p hp)
      ∙ acts_same xs p.end v l (form p)
      ∙ along_path h c.are.allowed words normal rules (rules_are_reduced h words rules c) xs p v hp l
      ∙ sym (becomes_form (record { start = p.start; end = v; arrows = p.arrows ++ xs })
      (record { starts = hp.starts; leads = Leads-append h.quiver p.start p.arrows p.end xs v hp.leads l }))

  -- so the arrows of a path act on the trivial word where it starts
  pub path_from_start : (p : Path) → IsPath h.quiver p → act_arrows h c.action.becomes words p.arrows (c.action.becomes (trivial_path p.start)) ≡ c.action.becomes p
  path_from_start p hp = behind_always p.arrows (trivial_path p.start) p.end (IsPath-trivial h.quiver p.start hp.starts) hp.leads
