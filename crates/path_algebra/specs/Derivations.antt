-- Derivations: how elements of the ideal come from the relations, step by step. Relations and steps are counted from 1, arrows from 0.
use Rattle.std.specs.Prelude.{ℕ, ◌<◌, ◌≤◌, ◌-◌, List, [], ◌∷◌, ◌++◌, length, map, slice_index_or}
use Rattle.linear_algebra.specs.Field.{add, mul}
use Rattle.quiver_paths.specs.declared.Path.{Path}
use Rattle.quiver_paths.specs.Path.{trivial_path, arrow_path}
use Rattle.quiver_paths.specs.Quiver.{arrow_count}
use Rattle.path_algebra.specs.declared.Header.{Header}
use Rattle.path_algebra.specs.declared.rules.Step.{Step}
use Rattle.path_algebra.specs.declared.rules.Step.TheVariants.{Relation, Left, Right, Add}
use Rattle.path_algebra.specs.Elements.{product_between}
use Rattle.path_algebra.specs.Ideals.{relation_element}

-- the arrow a times x, and x times the arrow a: terms that do not meet, and those of the bound's length or more, are dropped
abbrev pub arrow_times : Header → ℕ → (Path → ℕ) → Path → ℕ
arrow_times h a x p = product_between h.bound (arrow_path h.quiver a) x (trivial_path p.end) p

abbrev pub times_arrow : Header → (Path → ℕ) → ℕ → Path → ℕ
times_arrow h x a p = product_between h.bound (trivial_path p.start) x (arrow_path h.quiver a) p

-- The element with this number; numbers count from 1, and `NamesEarlier` asks for one of them. Zero past the last.
abbrev pub element_at : List (Path → ℕ) → ℕ → Path → ℕ
element_at elements number = slice_index_or elements (number - 1) (λ p. 0)

-- the element of a step, from those of the steps before it
abbrev pub step_element : Header → List (Path → ℕ) → Step → Path → ℕ
step_element h earlier (Relation r) = element_at (map (relation_element h) h.relations) r
step_element h earlier (Left a j) = arrow_times h a (element_at earlier j)
step_element h earlier (Right j a) = times_arrow h (element_at earlier j) a
step_element h earlier (Add j c m) = λ p. add h.field (element_at earlier j p) (mul h.field c (element_at earlier m p))

-- the elements of the steps that stand behind others with these elements
unfoldable pub elements_behind : Header → List (Path → ℕ) → List Step → List (Path → ℕ)
elements_behind h earlier [] = earlier
elements_behind h earlier (s ∷ steps) = elements_behind h (earlier ++ step_element h earlier s ∷ []) steps

abbrev pub step_elements : Header → List Step → List (Path → ℕ)
step_elements h steps = elements_behind h [] steps

-- a number from 1 to the last
pub record IsNumber (last number : ℕ) : Type 0 where
  pub from : 1 ≤ number
  pub to : number ≤ last

-- what the step behind `earlier` others names is there
abbrev pub NamesEarlier : Header → ℕ → Step → Type 0
NamesEarlier h earlier (Relation r) = IsNumber (length h.relations) r
NamesEarlier h earlier (Left a j) = (a < arrow_count h.quiver) × IsNumber earlier j
NamesEarlier h earlier (Right j a) = IsNumber earlier j × (a < arrow_count h.quiver)
NamesEarlier h earlier (Add j c m) = IsNumber earlier j × IsNumber earlier m

-- each step names what stands before it
pub record AreSteps (h : Header) (steps : List Step) : Type 0 where
  pub named : (k : ℕ) (s : Step) → k < length steps → NamesEarlier h k (slice_index_or steps k s)
