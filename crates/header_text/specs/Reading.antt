-- What a reader of one thing answers.
use Rattle.std.specs.Prelude.{ℕ, ◌≡◌, List, ◌++◌, Some, None}
use Rattle.std.specs.declared.option.Option.{Option}

-- the thing is one of those asked for and has this spelling; none: no such thing has it
abbrev pub Reads : {X Text : Type 0} → (X → Type 0) → (X → Text) → Text → Option X → Type 0
Reads {X} IsOne spell text None = (x : X) → IsOne x → ¬ (text ≡ spell x)
Reads IsOne spell text (Some x) = IsOne x × (text ≡ spell x)

-- the same at the front of a list of tokens, of which some are left
abbrev pub ReadsFirst : {X : Type 0} → (X → Type 0) → (X → List (List ℕ)) → List (List ℕ) → List (List ℕ) → Option X → Type 0
ReadsFirst {X} IsOne spell before after None = (x : X) (rest : List (List ℕ)) → IsOne x → ¬ (before ≡ spell x ++ rest)
ReadsFirst IsOne spell before after (Some x) = IsOne x × (before ≡ spell x ++ after)
