-- The products of words with arrows, as rows over the words.
use Rattle.std.specs.Prelude.{ℕ, ◌≡◌, ◌<◌, ◌≤◌, ◌+◌, ◌*◌, ◌-◌, List, [], ◌∷◌, ◌++◌, length, take, drop, slice_index, Contains, All, slice_index_or, if◌then◌else◌, ◌==◌}
use Rattle.linear_algebra.specs.Field.{Gf}
use Rattle.quiver_paths.specs.declared.Path.{Path}
use Rattle.quiver_paths.specs.Quiver.{arrow_count, source}
use Rattle.quiver_paths.specs.Path.{IsPath, path_length, concat, arrow_path}
use Rattle.quiver_paths.specs.PathOrder.{IsSmaller}
use Rattle.path_algebra.specs.declared.Term.{Term}
use Rattle.path_algebra.specs.declared.Header.{Header}
use Rattle.path_algebra.specs.declared.rules.Rule.{Rule}
use Rattle.word_products.specs.declared.sparse.Entry.{Entry}
use Rattle.path_algebra.specs.Allowed.{IsAllowed}
use Rattle.path_algebra.specs.Rows.{path_at}
use Rattle.path_algebra.specs.Rules.{AreElementTerms}
use Rattle.path_algebra.specs.Reduction.{IsReduction}
use Rattle.path_algebra.specs.BasisClauses.{ReducedHolds, WordsHold}
use Rattle.word_products.specs.SparseRows.{entry_at, IsEntry}

-- what the word w with the arrow a behind it becomes; zero where they do not meet
unfoldable pub product_with : Header → (Path → Path → ℕ) → Path → ℕ → Path → ℕ
product_with h becomes w a r = if w.end == source h.quiver a then becomes (concat w (arrow_path h.quiver a)) r else 0

-- the sparse row has the coefficients of x at the words
pub record IsSparseRow (q : Gf) (words : List Path) (x : Path → ℕ) (entries : List Entry) : Type 0 where
  pub value : (j : ℕ) → j < length words → entry_at q entries j ≡ x (path_at words j)

-- the rows, as many as there are, are those of the words with the arrows: for each word, in order, one for each arrow
pub record AreProductRows (h : Header) (words : List Path) (becomes : Path → Path → ℕ) (rows : List (List Entry)) : Type 0 where
  pub row : (i a : ℕ) → i < length words → a < arrow_count h.quiver → i * arrow_count h.quiver + a < length rows
      → IsSparseRow h.field words (product_with h becomes (path_at words i) a) (slice_index_or rows (i * arrow_count h.quiver + a) [])

-- this holds for reduction by the rules
pub record KnowsProducts (h : Header) (words : List Path) (rules : List Rule) (rows : List (List Entry)) : Type 0 where
  pub products : (becomes : Path → Path → ℕ) → IsReduction h rules becomes → AreProductRows h words becomes rows

-- Rules and words by which arrows can act: what holds once all conditions but the last do.
pub record CanAct (h : Header) (words : List Path) (rules : List Rule) : Type 0 where
  pub allowed : IsAllowed h
  pub few : length words ≤ 4096
  pub tips : All (λ (rule : Rule). IsPath h.quiver rule.tip) rules
  pub tails : All (λ (rule : Rule). AreElementTerms h rule.tail.terms) rules
  pub greater : All (λ (rule : Rule). All (λ (a : Term). IsSmaller a.path rule.tip) rule.tail.terms) rules
  pub tips_long : (rule : Rule) → Contains rules rule → 2 ≤ path_length rule.tip
  pub reduced : ReducedHolds h rules
  pub word : WordsHold h words rules

-- the arrows of the path end with those of the tip
pub record EndsWithArrows (tip p : Path) : Type 0 where
  pub fits : path_length tip ≤ path_length p
  pub last : drop (path_length p - path_length tip) p.arrows ≡ tip.arrows

-- the path before a tip that it ends with
abbrev pub front_before : Path → Path → Path
front_before p tip = record { start = p.start; end = tip.start; arrows = take (path_length p - path_length tip) p.arrows }

-- the path is the word at a place with an arrow that it meets, shorter than the bound, and no word
pub record IsNewProduct (h : Header) (words : List Path) (i a : ℕ) (p : Path) : Type 0 where
  pub place : i < length words
  pub arrow : a < arrow_count h.quiver
  pub meets : (path_at words i).end ≡ source h.quiver a
  pub is : p ≡ concat (path_at words i) (arrow_path h.quiver a)
  pub short : path_length p < h.bound
  pub new : Contains words p → ⊥

-- the entries are the first k of the row
pub record AreEntriesOf (q : Gf) (row : List ℕ) (k : ℕ) (entries : List Entry) : Type 0 where
  pub small : All (IsEntry q (length row)) entries
  pub within : (j : ℕ) → j < k → entry_at q entries j ≡ slice_index row j
  pub past : (j : ℕ) → k ≤ j → entry_at q entries j ≡ 0

-- one row more, which stands for this one
pub record IsPushed (q : Gf) (old new : List (List Entry)) (row : List ℕ) : Type 0 where
  pub entries : List Entry
  pub are : AreEntriesOf q row (length row) entries
  pub pushed : new ≡ old ++ entries ∷ []
