-- Elements of the path algebra of a quiver over a finite field, truncated at a length t, the bound: paths of length t or more count as
-- zero. An element is given by its coefficient at each path. (Assem, Simson, Skowroński, volume 1, chapter II.1.)
use Rattle.std.specs.Prelude.{ℕ, ◌≢◌, ◌<◌, ◌-◌, ◌+◌, List, [], ◌∷◌, take, drop, Bool, ◌&&◌, if◌then◌else◌, ◌==◌, nat_lt, nat_le, nat_eq}
use Rattle.std.specs.Cmp.Lexicographic.{pointwise}
use Rattle.linear_algebra.specs.Field.{Gf, order, add, mul}
use Rattle.quiver_paths.specs.declared.Path.{Path}
use Rattle.quiver_paths.specs.declared.Quiver.{Quiver}
use Rattle.quiver_paths.specs.Path.{IsPath, path_length}
use Rattle.path_algebra.specs.declared.Term.{Term}

-- x is an element: its coefficients are elements of the field, and it is zero but at paths of the quiver shorter than t
pub record IsElement (q : Gf) (quiver : Quiver) (t : ℕ) (x : Path → ℕ) : Type 0 where
  pub small : (p : Path) → x p < order q
  pub support : (p : Path) → x p ≢ 0 → IsPath quiver p × (path_length p < t)

-- the sum of a function's values at the members of a list
unfoldable pub sum_over : {X : Type 0} → Gf → List X → (X → ℕ) → ℕ
sum_over q [] f = 0
sum_over q (x ∷ xs) f = add q (f x) (sum_over q xs f)

-- the two are one path
unfoldable pub same_path : Path → Path → Bool
same_path p r = (p.start == r.start) && ((p.end == r.end) && pointwise nat_eq p.arrows r.arrows)

-- a path as an element: 1 at the path itself; the zero element where its length is t or more
unfoldable pub path_element : ℕ → Path → Path → ℕ
path_element t p r = if nat_lt (path_length p) t && same_path p r then 1 else 0

-- the sum of the terms, those of length t or more left out
unfoldable pub sum_of_terms : Gf → ℕ → List Term → Path → ℕ
sum_of_terms q t [] p = 0
sum_of_terms q t (term ∷ terms) p = add q (mul q term.coef (path_element t term.path p)) (sum_of_terms q t terms p)

-- the sum of the words with these coefficients
unfoldable pub combination : Gf → ℕ → List ℕ → List Path → Path → ℕ
combination q t [] words p = 0
combination q t (c ∷ cs) [] p = 0
combination q t (c ∷ cs) (w ∷ words) p = add q (mul q c (path_element t w p)) (combination q t cs words p)

-- p begins with the path u and ends with the path v, one behind the other
unfoldable pub runs_between : Path → Path → Path → Bool
runs_between u v p = (p.start == u.start) && ((p.end == v.end) && (nat_le (path_length u + path_length v) (path_length p)
    && (pointwise nat_eq (take (path_length u) p.arrows) u.arrows && pointwise nat_eq (drop (path_length p - path_length v) p.arrows) v.arrows)))

-- what such a p is between them, from the end of u to the start of v
unfoldable pub middle : Path → Path → Path → Path
middle u v p = record { start = u.end; end = v.start; arrows = take (path_length p - (path_length u + path_length v)) (drop (path_length u) p.arrows) }

-- The product u x v of an element x with a path on each side: its coefficient at p is that of x at the path m with p = u m v, and zero
-- where there is none. What has length t or more is dropped. The law `product_at` says so once more without a test.
unfoldable pub product_between : ℕ → Path → (Path → ℕ) → Path → Path → ℕ
product_between t u x v p = if nat_lt (path_length p) t && runs_between u v p then x (middle u v p) else 0
