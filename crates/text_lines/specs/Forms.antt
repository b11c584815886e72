-- A grammar by forms of lines. A form is a line without its spelling, as "arrow, with this name, from here to there".
-- For each part the grammar says which forms may follow it, the tokens that a form has there, and the part after it.
use Rattle.std.specs.Prelude.{◌≡◌, ℕ, List, Some, None}
use Rattle.std.specs.declared.option.Option.{Option}

-- A form that may follow the part has the line's tokens, and leads to the next part. The first argument says which
-- tokens a line has, if it has any.
pub record StepByForm {Part Form : Type 0} (lexed : List ℕ → Option (List (List ℕ))) (MayFollow : Part → Form → Type 0)
    (tokens_of : Part → Form → List (List ℕ)) (after : Part → Form → Part) (part : Part) (line : List ℕ) (next : Part) : Type 0 where
  pub form : Form
  pub follows : MayFollow part form
  pub spelled : lexed line ≡ Some (tokens_of part form)
  pub leads : next ≡ after part form

-- The tokens are those of this form, one of some forms, and of no other. None: they are those of none of the forms.
abbrev pub ReadsAs : {Form : Type 0} → (Form → Type 0) → (Form → List (List ℕ)) → List (List ℕ) → Option Form → Type 0
ReadsAs {Form} IsOne tokens_of pieces None = (form : Form) → IsOne form → ¬ (pieces ≡ tokens_of form)
ReadsAs {Form} IsOne tokens_of pieces (Some form) = IsOne form × (pieces ≡ tokens_of form) × ((other : Form) → IsOne other → pieces ≡ tokens_of other → other ≡ form)

-- no two of the forms that may follow a part have the same tokens there
abbrev pub IsUnambiguous : {Part Form : Type 0} → (Part → Form → Type 0) → (Part → Form → List (List ℕ)) → Type 0
IsUnambiguous {Part} {Form} MayFollow tokens_of = (part : Part) (form other : Form) → MayFollow part form → MayFollow part other → tokens_of part form ≡ tokens_of part other → form ≡ other
