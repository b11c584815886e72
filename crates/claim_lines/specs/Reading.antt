-- What the readers of pieces of a line answer.
use Rattle.std.specs.Prelude.{ℕ, ⊤, ◌≡◌, ◌≢◌, ◌<◌, ◌≤◌, Bool, true, false, List, [], ◌∷◌, ◌++◌, codes, All, AllPairs, decimal, Some, None}
use Rattle.std.specs.declared.option.Option.{Option}
use Rattle.linear_algebra.specs.Field.{order}
use Rattle.quiver_paths.specs.declared.names.Suffix.{Suffix}
use Rattle.quiver_paths.specs.declared.names.Suffix.TheVariants as suffix
use Rattle.quiver_paths.specs.declared.Quiver.{Quiver}
use Rattle.quiver_paths.specs.Path.{IsPath, path_length}
use Rattle.quiver_paths.specs.PathOrder.{IsSmaller}
use Rattle.quiver_paths.specs.Quiver.{arrow_count}
use Rattle.path_algebra.specs.declared.Term.{Term}
use Rattle.path_algebra.specs.declared.Header.{Header}
use Rattle.path_algebra.specs.declared.rules.Rule.{Rule}
use Rattle.path_algebra.specs.Derivations.{IsNumber}
use Rattle.header_text.specs.Spelling.{path_text, term_text}
use Rattle.report_types.specs.Limits.{length_limit, part_limit}
use Rattle.claim_lines.specs.declared.heads.Head.{Head}
use Rattle.claim_lines.specs.declared.heads.Head.TheVariants as head
use Rattle.claim_lines.specs.Spelling.{tail_form}
use Rattle.claim_lines.specs.Items.{IsCount, counted}

-- a numeral alone, of a number that counts as n
pub record IsCountOf (tokens : List (List ℕ)) (n : ℕ) : Type 0 where
  pub numeral : List ℕ
  pub is : IsCount numeral
  pub spelled : tokens ≡ numeral ∷ []
  pub value : n ≡ counted numeral

abbrev pub ReadsCount : List (List ℕ) → Option ℕ → Type 0
ReadsCount tokens None = (numeral : List ℕ) → IsCount numeral → ¬ (tokens ≡ numeral ∷ [])
ReadsCount tokens (Some n) = IsCountOf tokens n

-- an arrow and the number of an earlier step
pub record AreArrowAndNumber (Q : Quiver) (last a j : ℕ) : Type 0 where
  pub arrow : a < arrow_count Q
  pub number : IsNumber last j

-- two numbers of earlier steps and a coefficient between them
pub record AreSummands (h : Header) (last j c m : ℕ) : Type 0 where
  pub first : IsNumber last j
  pub nonzero : 0 < c
  pub small : c < order h.field
  pub second : IsNumber last m

-- a term of a tail: a coefficient from 1 to q − 1 and any path
pub record IsTailTerm (h : Header) (t : Term) : Type 0 where
  pub nonzero : 0 < t.coef
  pub small : t.coef < order h.field
  pub path : IsPath h.quiver t.path

-- at least one term of a tail
pub record AreTailTerms (h : Header) (terms : List Term) : Type 0 where
  pub some : terms ≢ []
  pub all : All (IsTailTerm h) terms

abbrev pub separator : Bool → List ℕ
separator true = codes "by"
separator false = codes "+"

-- a term of a tail and what stands behind it: `by` behind the last, `+` behind each other
abbrev pub separated : Quiver → Term × Bool → List (List ℕ)
separated Q x = term_text Q x.0 ∷ separator x.1 ∷ []

-- a tail and the word behind it
abbrev pub tail_then_by : Quiver → List Term → List (List ℕ)
tail_then_by Q terms = tail_form Q terms ++ codes "by" ∷ []

-- the tokens of a rule behind the first
abbrev pub rule_form : Quiver → Rule → List (List ℕ)
rule_form Q rule = path_text Q rule.tip ∷ codes "->" ∷ (tail_then_by Q rule.tail.terms ++ decimal rule.step ∷ [])

-- what a rule is by its form
pub record IsRuleForm (h : Header) (steps : ℕ) (rule : Rule) : Type 0 where
  pub tip : IsPath h.quiver rule.tip
  pub tail : All (IsTailTerm h) rule.tail.terms
  pub named : IsNumber steps rule.step

-- what makes the form a rule
pub record HasLimits (h : Header) (rule : Rule) : Type 0 where
  pub tip_limit : path_length rule.tip ≤ length_limit
  pub descending : AllPairs (λ (a b : Term). IsSmaller b.path a.path) rule.tail.terms
  pub short : All (λ (t : Term). path_length t.path < h.bound) rule.tail.terms

-- a word with which no claim on objects alone begins, and no decomposition
pub record IsNoFirstWord (w : List ℕ) : Type 0 where
  pub decomposition : w ≢ codes "decomposition"
  pub basis : w ≢ codes "basis"
  pub is_module : w ≢ codes "module"
  pub is_map : w ≢ codes "map"
  pub hom : w ≢ codes "hom"
  pub kernel : w ≢ codes "kernel"
  pub cokernel : w ≢ codes "cokernel"
  pub radical : w ≢ codes "radical"

-- extensions, a decomposition, a translate or an almost split sequence
abbrev pub IsLong : Head → Type 0
IsLong (head.Ext n a b count c) = ⊤
IsLong (head.Decomposition a s f g parts) = ⊤
IsLong (head.Translate which n a c) = ⊤
IsLong (head.AlmostSplit n e a f g c l) = ⊤
IsLong x = ⊥

-- what can stand behind the dot of a reference
abbrev pub IsDotted : Suffix → Type 0
IsDotted suffix.Whole = ⊥
IsDotted suffix.Map = ⊤
IsDotted suffix.Inv = ⊤
IsDotted (suffix.Part k) = IsNumber part_limit k

-- a word with which no cause begins that names a number, a name, an arrow or a path
pub record IsNoLongCause (w : List ℕ) : Type 0 where
  pub bound_fails : w ≢ codes "BoundFails"
  pub unknown_name : w ≢ codes "UnknownName"
  pub name_taken : w ≢ codes "NameTaken"
  pub relation_fails : w ≢ codes "RelationFails"
  pub not_hom : w ≢ codes "NotHom"
  pub dim_limit : w ≢ codes "DimLimit"
  pub hom_limit : w ≢ codes "HomLimit"
  pub term_limit : w ≢ codes "TermLimit"
  pub dual_limit : w ≢ codes "DualLimit"
