-- How a reader of forms gives a reader of lines.
use Rattle.std.proofs.Common.{◌≡◌, ℕ, List, Some, None, refl, sym, ap, ◌∙◌}
use Rattle.std.specs.declared.option.Option.{Option}
use Rattle.text_lines.specs.Reading.{IsDetermined}
use Rattle.text_lines.specs.Forms.{StepByForm, ReadsAs, IsUnambiguous}

same_some : {A : Type 0} (x y : A) → Some x ≡ Some y → x ≡ y
same_some x y same = cc

differs_none : {A : Type 0} (x : A) → None ≡ Some x → ⊥
differs_none x same = cc

module _ {Part Form : Type 0} (lexed : List ℕ → Option (List (List ℕ))) (MayFollow : Part → Form → Type 0) (tokens_of : Part → Form → List (List ℕ)) (after : Part → Form → Part) where
  -- a form that the tokens of a line were read as gives the step
  pub step_by_form : (part : Part) (line : List ℕ) (pieces : List (List ℕ)) (form : Form) → lexed line ≡ Some pieces → ReadsAs (MayFollow part) (tokens_of part) pieces (Some form)
      → StepByForm lexed MayFollow tokens_of after part line (after part form)
  step_by_form part line pieces form lex reads = record { form = form; follows = reads.0; spelled = lex ∙ ap Some reads.1; leads = refl }

  -- where the tokens are those of no form there is no step
  pub no_step_by_form : (part : Part) (line : List ℕ) (pieces : List (List ℕ)) → lexed line ≡ Some pieces → ReadsAs (MayFollow part) (tokens_of part) pieces None
      → (next : Part) → StepByForm lexed MayFollow tokens_of after part line next → ⊥
  no_step_by_form part line pieces lex reads next step = reads step.form step.follows (same_some _ _ (sym lex ∙ step.spelled))

  -- where the line has no tokens there is no step
  pub no_step_unlexed : (part : Part) (line : List ℕ) → lexed line ≡ None → (next : Part) → StepByForm lexed MayFollow tokens_of after part line next → ⊥
  no_step_unlexed part line lex next step = differs_none _ (sym lex ∙ step.spelled)

  -- a grammar without two forms of the same tokens leads to one part
  pub StepByForm-determined : IsUnambiguous MayFollow tokens_of → IsDetermined (StepByForm lexed MayFollow tokens_of after)
  StepByForm-determined one part line p q a b =
      let same = one part a.form b.form a.follows b.follows (same_some _ _ (sym a.spelled ∙ b.spelled)) in
      a.leads ∙ ap (after part) same ∙ sym b.leads
