-- Paths by their places in a list: an ascending list has each path once, and sums over places are sums over the list.
use Rattle.std.proofs.Common.{ℕ, ◌≡◌, ◌<◌, inl, inr, List, [], ◌∷◌, length, sym, ap, ◌∙◌, subst}
use Rattle.std.specs.Prelude.{Contains}
use Rattle.std.proofs.lemmas.Bool.{cases_order}
use Rattle.std.proofs.lemmas.List.Elements.{Contains-get_or}
use Rattle.linear_algebra.specs.Field.{Gf, add}
use Rattle.linear_algebra.specs.Sums.{sum_to, sum-first, sum-none}
use Rattle.quiver_paths.specs.declared.Path.{Path}
use Rattle.quiver_paths.specs.Path.{trivial_path}
use Rattle.quiver_paths.specs.PathOrder.{IsSmaller, IsAscending}
use Rattle.quiver_paths.proofs.PathOrderLemmas.{IsSmaller-irreflexive}
use Rattle.path_algebra.specs.Elements.{sum_over}
use Rattle.path_algebra.specs.Rows.{path_at}
use Rattle.path_algebra.proofs.SumsOver.{sum_over-nil, sum_over-cons}

pub word_once : (words : List Path) → IsAscending words → (i j : ℕ) → i < length words → j < length words → path_at words i ≡ path_at words j → i ≡ j
unfolding path_at
word_once words asc i j l k e = elim (cases_order i j) [
  | inl same ↦ same
  | inr (inl lt) ↦ absurd (IsSmaller-irreflexive (path_at words j) (subst (λ x. IsSmaller x (path_at words j)) e (asc i j (trivial_path 0) lt k)))
  | inr (inr lt) ↦ absurd (IsSmaller-irreflexive (path_at words j) (subst (IsSmaller (path_at words j)) e (asc j i (trivial_path 0) lt l)))
]

pub word_listed : (words : List Path) (i : ℕ) → i < length words → Contains words (path_at words i)
unfolding path_at
word_listed words i l = Contains-get_or words i (trivial_path 0) l

pub sum_to-over : (q : Gf) (words : List Path) (f : Path → ℕ) → sum_to q (length words) (λ i. f (path_at words i)) ≡ sum_over q words f
unfolding path_at
sum_to-over q [] f = sum-none q _ ∙ sym (sum_over-nil {X = Path} q f)
sum_to-over q (w ∷ words) f = sum-first q (length words) (λ i. f (path_at (w ∷ words) i)) ∙ ap (add q (f w)) (sum_to-over q words f) ∙ sym (sum_over-cons q w words f)
