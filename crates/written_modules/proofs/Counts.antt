-- Counts of rows and of columns, place by place.
use Rattle.std.proofs.Common.{ℕ, ◌≡◌, ◌<◌, ◌≤◌, ◌+◌, inl, inr, List, [], ◌∷◌, ◌++◌, length, sym, ap, ◌∙◌, arith}
use Rattle.std.specs.Prelude.{slice_index, slice_index_or}
use mathlib.Core.Path.{fun_ext}
use Rattle.std.proofs.lemmas.Bool.{cases_lt, cases_eq}
use Rattle.std.proofs.lemmas.List.{get_or_past, get_or_append_left, get_or_push, length_push}
use Rattle.std.proofs.lemmas.Grind.{get_or_default_zero}
use Rattle.quiver_paths.specs.Quiver.{vertex_count, arrow_count, source, target, HasEnds}
use Rattle.path_algebra.specs.declared.Header.{Header}
use Rattle.bound_algebra.specs.TypedPaths.{quiver_of, source_past, target_past}
use Rattle.module_types.specs.declared.Module.{Module}
use Rattle.module_types.specs.Readings.{dim_past}
use Rattle.module_checks.proofs.HomRank.{dim_at-is}
use Rattle.report_types.specs.WordDimensions.{dim_of}
use Rattle.script_answers.specs.Written.{rows_from, columns_to}

-- the first n counts are those of a function
pub record AreCounts (f : ℕ → ℕ) (n : ℕ) (counts : List ℕ) : Type 0 where
  pub count : length counts ≡ n
  pub at : (k : ℕ) → k < n → slice_index counts k ≡ f k

pub counts_none : (f : ℕ → ℕ) (counts : List ℕ) → counts ≡ [] → AreCounts f 0 counts
counts_none f counts e = record { count = ap length e; at = λ k l. absurd (omega arith) }

pub counts_more : (f : ℕ → ℕ) (n d : ℕ) (counts new : List ℕ) → AreCounts f n counts → d ≡ f n → new ≡ counts ++ d ∷ [] → AreCounts f (n + 1) new
counts_more f n d counts new c e is = record {
  count = let a = ap length is in let b = length_push counts d in let k = c.count in omega (arith, a, b, k);
  at = λ k l. ap (λ (s : List ℕ). slice_index s k) is ∙ elim (cases_eq k n) [
    | inl same ↦ get_or_push counts d 0 k (let z = c.count in omega (arith, z, same)) ∙ e ∙ ap f (sym same)
    | inr other ↦ get_or_append_left counts (d ∷ []) 0 k (let z = c.count in omega (arith, z, l, other)) ∙ c.at k (omega (arith, l, other))
  ];
}

pub counts_all : (f : ℕ → ℕ) (n : ℕ) (counts : List ℕ) → AreCounts f n counts → ((k : ℕ) → n ≤ k → f k ≡ 0) → (k : ℕ) → slice_index counts k ≡ f k
counts_all f n counts c past k = elim (cases_lt k n) [
  | inl l ↦ c.at k l
  | inr l ↦ get_or_past counts k 0 (let z = c.count in omega (arith, z, l)) ∙ sym (past k l)
]

pub as_function : (f : ℕ → ℕ) (counts : List ℕ) → ((k : ℕ) → slice_index counts k ≡ f k) → slice_index counts ≡ f
as_function f counts e = fun_ext e

module _ (h : Header) (ends : HasEnds h.quiver) (dims : List ℕ) (counted : length dims ≡ vertex_count h.quiver) where
  pub row_count_at : (a d : ℕ) → a < arrow_count h.quiver → d ≡ slice_index_or dims (source h.quiver a) d → d ≡ rows_from h dims a
  row_count_at a d l e = e ∙ get_or_default_zero dims (source h.quiver a) d (let i = ends.sources a l in omega (arith, i, counted)) ∙ sym (dim_at-is (quiver_of h.quiver) dims (source h.quiver a) (ends.sources a l))

  pub col_count_at : (a d : ℕ) → a < arrow_count h.quiver → d ≡ slice_index_or dims (target h.quiver a) d → d ≡ columns_to h dims a
  col_count_at a d l e = e ∙ get_or_default_zero dims (target h.quiver a) d (let i = ends.targets a l in omega (arith, i, counted)) ∙ sym (dim_at-is (quiver_of h.quiver) dims (target h.quiver a) (ends.targets a l))

pub rows_past : (h : Header) (dims : List ℕ) (a : ℕ) → arrow_count h.quiver ≤ a → rows_from h dims a ≡ 0
rows_past h dims a l = dim_past (quiver_of h.quiver) dims (source h.quiver a) (source_past h.quiver a l)

pub columns_past : (h : Header) (dims : List ℕ) (a : ℕ) → arrow_count h.quiver ≤ a → columns_to h dims a ≡ 0
columns_past h dims a l = dim_past (quiver_of h.quiver) dims (target h.quiver a) (target_past h.quiver a l)

-- the dimensions of a module at the vertices
pub dims_are : (h : Header) (m : Module) → length m.dims ≡ vertex_count h.quiver → slice_index m.dims ≡ dim_of h m
dims_are h m counted = fun_ext (λ v. elim (cases_lt v (vertex_count h.quiver)) [
  | inl l ↦ sym (dim_at-is (quiver_of h.quiver) m.dims v l)
  | inr l ↦ get_or_past m.dims v 0 (omega (arith, l, counted)) ∙ sym (dim_past (quiver_of h.quiver) m.dims v l)
])
