-- What makes a list of words the list of all paths without a tip, word by word.
use Rattle.std.specs.Prelude.{ℕ, ◌≡◌, ◌<◌, ◌+◌, ◌-◌, ◌⊎◌, List, [], ◌∷◌, ◌++◌, take, Contains}
use Rattle.quiver_paths.specs.declared.Path.{Path}
use Rattle.quiver_paths.specs.Path.{path_length}
use Rattle.quiver_paths.specs.Quiver.{vertex_count, arrow_count, source}
use Rattle.path_algebra.specs.declared.Header.{Header}
use Rattle.path_algebra.specs.declared.rules.Rule.{Rule}
use Rattle.path_algebra.specs.Occurring.{EndsInTip}

-- one of the words has this start and these arrows
pub record IsWordAt (words : List Path) (start : ℕ) (arrows : List ℕ) : Type 0 where
  pub word : Path
  pub listed : Contains words word
  pub starts : word.start ≡ start
  pub same : word.arrows ≡ arrows

-- each trivial path is a word
abbrev pub HasTrivialWords : Header → List Path → Type 0
HasTrivialWords h words = (v : ℕ) → v < vertex_count h.quiver → IsWordAt words v []

-- a word that has arrows is shorter than the bound, is a word and then an arrow, and does not end in a tip
pub record IsGrown (h : Header) (words : List Path) (rules : List Rule) (w : Path) : Type 0 where
  pub short : 0 < path_length w → path_length w < h.bound
  pub front : 0 < path_length w → IsWordAt words w.start (take (path_length w - 1) w.arrows)
  pub ends : 0 < path_length w → EndsInTip rules w.arrows → ⊥

-- a path from this start is a word or ends in a tip
abbrev pub GoesOn : List Path → List Rule → ℕ → List ℕ → Type 0
GoesOn words rules start arrows = IsWordAt words start arrows ⊎ EndsInTip rules arrows

-- the word with the arrow, if it meets it, is a word or ends in a tip
abbrev pub GoesOnBy : Header → List Path → List Rule → Path → ℕ → Type 0
GoesOnBy h words rules w a = w.end ≡ source h.quiver a → GoesOn words rules w.start (w.arrows ++ a ∷ [])

-- this holds of each arrow, where the word with it is shorter than the bound
pub record IsClosed (h : Header) (words : List Path) (rules : List Rule) (w : Path) : Type 0 where
  pub arrows : path_length w + 1 < h.bound → (a : ℕ) → a < arrow_count h.quiver → GoesOnBy h words rules w a

pub record IsWellPlaced (h : Header) (words : List Path) (rules : List Rule) (w : Path) : Type 0 where
  pub grown : IsGrown h words rules w
  pub closed : IsClosed h words rules w
