-- Lists of modules, one after another.
use Rattle.std.proofs.Common.{ℕ, suc, ◌<◌, ◌≤◌, ◌≡◌, ◌+◌, ◌-◌, List, length, refl, sym, ap, ap₂, ◌∙◌, inl, inr, arith, subst, add-one}
use Rattle.std.specs.Prelude.{slice_index, slice_index_or}
use Rattle.std.proofs.lemmas.Bool.{cases_eq}
use Rattle.std.proofs.lemmas.List.{get_or_default}
use Rattle.linear_algebra.specs.Field.{Gf}
use Rattle.linear_algebra.specs.BlockFamilies.{total}
use Rattle.representations.specs.Quiver.{Quiver}
use Rattle.representations.specs.Rep.{Rep}
use Rattle.module_types.specs.declared.Side.{Side}
use Rattle.module_types.specs.declared.Module.{Module}
use Rattle.module_types.specs.Readings.{rep_of}
use Rattle.module_types.specs.Written.{part_at}
use Rattle.module_types.specs.Algebras.{algebra_at}
use Rattle.module_types.specs.Shapes.{IsModule, dimension}
use Rattle.path_algebra.specs.declared.Header.{Header}
use Rattle.quiver_paths.specs.Quiver.{vertex_count}
use Rattle.module_checks.proofs.Walks.{dim_within}
use Rattle.map_checks.proofs.KernelTests.{vertices_of_side}
use Rattle.claim_conditions.specs.DecompositionConditions.{ComesBefore, AreInOrder}
use Rattle.module_checks.proofs.HomRank.{dim_at-is}
use Rattle.map_checks.specs.BlockParts.{HasPart, HasParts, HoldsStarts, IsFull, AreEnds}
use Rattle.map_checks.specs.PartLists.{HaveSide, AreModules}
use Rattle.map_checks.proofs.BlockParts.{part_moved}

module_same : (xs : List Module) (k : ℕ) (a p : Module) → k < length xs → a ≡ slice_index_or xs k a → slice_index_or xs k p ≡ a
module_same xs k a p l e = get_or_default xs k p a l ∙ sym e

pub side_more : (side : Side) (xs : List Module) (k : ℕ) (a : Module) → k < length xs → a ≡ slice_index_or xs k a → HaveSide side xs k → a.side ≡ side → HaveSide side xs (k + 1)
side_more side xs k a l e h d = record {
  each = λ i m b. elim (cases_eq i k) [
    | inl same ↦ ap (λ i. (slice_index_or xs i m).side) same ∙ ap (λ (x : Module). x.side) (module_same xs k a m l e) ∙ d
    | inr other ↦ h.each i m (omega arith)
  ];
}

pub side_there : (side : Side) (xs : List Module) (n k : ℕ) (a : Module) → k < n → a ≡ slice_index_or xs k a → HaveSide side xs n → a.side ≡ side
side_there side xs n k a l e h = ap (λ (x : Module). x.side) e ∙ h.each k a l

-- the neighbours among the first k ascend
pub record AreOrderedUpTo (xs : List Module) (k : ℕ) : Type 0 where
  pub each : (i : ℕ) (a b : Module) → suc i < k → ComesBefore (slice_index_or xs i a) (slice_index_or xs (suc i) b)

-- The next part, where the slice has the places of all before it.
module _ (q : Gf) (Q : Quiver) (side : Side) (s : Module) (xs : List Module) where
  abbrev sum : Rep q Q
  sum = rep_of q Q s

  part_is : (k : ℕ) (a : Module) → k < length xs → a ≡ slice_index_or xs k a → part_at q Q side xs k ≡ rep_of q Q a
  part_is k a l e = ap (rep_of q Q) (module_same xs k a _ l e)

  pub parts_more : (k : ℕ) (a : Module) (starts : List ℕ) → k < length xs → a ≡ slice_index_or xs k a → HasParts sum (part_at q Q side xs) k → HoldsStarts (part_at q Q side xs) k Q.vertices starts
      → HasPart sum (rep_of q Q a) (slice_index starts) → HasParts sum (part_at q Q side xs) (k + 1)
  parts_more k a starts l e h c p = record {
    each = λ t b. elim (cases_eq t k) [
      | inl same ↦ subst (λ t. HasPart sum (part_at q Q side xs t) (λ v. total t (λ u. (part_at q Q side xs u).dim v))) (sym same)
          (part_moved sum (part_at q Q side xs k) (slice_index starts) (λ v. total k (λ u. (part_at q Q side xs u).dim v)) c.at (subst (λ P. HasPart sum P (slice_index starts)) (sym (part_is k a l e)) p))
      | inr other ↦ h.each t (omega arith)
    ];
  }

  pub part_not : (n k : ℕ) (a : Module) (starts : List ℕ) → k < length xs → k < n → a ≡ slice_index_or xs k a → HoldsStarts (part_at q Q side xs) k Q.vertices starts → HasParts sum (part_at q Q side xs) n
      → HasPart sum (rep_of q Q a) (slice_index starts)
  part_not n k a starts l m e c h = subst (λ P. HasPart sum P (slice_index starts)) (part_is k a l e)
      (part_moved sum (part_at q Q side xs k) (λ v. total k (λ u. (part_at q Q side xs u).dim v)) (slice_index starts) (λ v b. sym (c.at v b)) (h.each k m))

  pub starts_more : (k : ℕ) (a : Module) (old new : List ℕ) → k < length xs → a ≡ slice_index_or xs k a → length a.dims ≡ Q.vertices → HoldsStarts (part_at q Q side xs) k Q.vertices old
      → ((v : ℕ) → v < length a.dims → slice_index new v ≡ slice_index old v + slice_index a.dims v) → HoldsStarts (part_at q Q side xs) (k + 1) Q.vertices new
  starts_more k a old new l e c h p = record {
    at = λ v b.
        let x = p v (omega (arith, b, c)) in
        let y = h.at v b in
        let z : (part_at q Q side xs k).dim v ≡ slice_index a.dims v = ap (λ (P : Rep q Q). P.dim v) (part_is k a l e) ∙ dim_at-is Q a.dims v b in
        x ∙ ap₂ (λ m n. m + n) y (sym z) ∙ rw add-one refl;
  }

  pub starts_none : (starts : List ℕ) → ((v : ℕ) → slice_index starts v ≡ 0) → HoldsStarts (part_at q Q side xs) 0 Q.vertices starts
  starts_none starts h = record { at = λ v b. h v }

  pub full_there : (k : ℕ) (starts : List ℕ) → length s.dims ≡ Q.vertices → HoldsStarts (part_at q Q side xs) k Q.vertices starts → AreEnds s.dims starts (length s.dims) → IsFull sum (part_at q Q side xs) k Q.vertices
  full_there k starts c h e = record { at = λ v b. sym (h.at v b) ∙ e.at v (omega (arith, b, c)) ∙ sym (dim_at-is Q s.dims v b) }

  pub there_full : (k : ℕ) (starts : List ℕ) → length s.dims ≡ Q.vertices → HoldsStarts (part_at q Q side xs) k Q.vertices starts → IsFull sum (part_at q Q side xs) k Q.vertices → AreEnds s.dims starts (length s.dims)
  there_full k starts c h f = record { at = λ v b. let l : v < Q.vertices = omega (arith, b, c) in h.at v l ∙ f.at v l ∙ dim_at-is Q s.dims v l }

pub order_more : (xs : List Module) (k : ℕ) (a b : Module) → 0 < k → k < length xs → a ≡ slice_index_or xs (k - 1) a → b ≡ slice_index_or xs k b → AreOrderedUpTo xs k → ComesBefore a b → AreOrderedUpTo xs (k + 1)
order_more xs k a b l m e f h c = record {
  each = λ i x y n. elim (cases_eq (suc i) k) [
    | inl same ↦
        let before : k - 1 ≡ i = omega arith in
        subst (λ z. ComesBefore z (slice_index_or xs (suc i) y)) (sym (module_same xs i a x (omega arith) (e ∙ ap (λ i. slice_index_or xs i a) before)))
        (subst (ComesBefore a) (sym (module_same xs (suc i) b y (omega arith) (f ∙ ap (λ i. slice_index_or xs i b) (sym same)))) c)
    | inr other ↦ h.each i x y (omega arith)
  ];
}

pub order_there : (xs : List Module) (k : ℕ) (a b : Module) → 0 < k → k < length xs → a ≡ slice_index_or xs (k - 1) a → b ≡ slice_index_or xs k b → AreInOrder xs → ComesBefore a b
order_there xs k a b l m e f h =
    let same : suc (k - 1) ≡ k = omega arith in
    subst (λ z. ComesBefore z b) (sym e) (subst (ComesBefore (slice_index_or xs (k - 1) a)) (ap (λ i. slice_index_or xs i b) same ∙ sym f) (h (k - 1) a b (omega arith)))

pub order_all : (xs : List Module) (k : ℕ) → length xs ≤ k → AreOrderedUpTo xs k → AreInOrder xs
order_all xs k l h i a b m = h.each i a b (omega arith)

pub dims_of : (h : Header) (xs : List Module) (k : ℕ) (a : Module) → AreModules h xs → k < length xs → a ≡ slice_index_or xs k a → length a.dims ≡ vertex_count h.quiver
dims_of h xs k a m l e = ap (λ (z : Module). length z.dims) e ∙ (m.each k a l).counted ∙ vertices_of_side (slice_index_or xs k a).side h

-- a part has the shapes of the side that all have
pub shape_of : (h : Header) (side : Side) (xs : List Module) (n k : ℕ) (a : Module) → AreModules h xs → HaveSide side xs n → k < length xs → k < n → a ≡ slice_index_or xs k a → IsModule h.field (algebra_at side h).quiver a
shape_of h side xs n k a m s l b e =
    subst (λ z. IsModule h.field (algebra_at side h).quiver z) (sym e) (subst (λ side. IsModule h.field (algebra_at side h).quiver (slice_index_or xs k a)) (s.each k a b) (m.each k a l))

-- room for a part leaves the places small
pub places_small : (q : Gf) (Q : Quiver) (s a : Module) (starts : List ℕ) → length s.dims ≡ Q.vertices → length a.dims ≡ Q.vertices → dimension s.dims ≤ 256 → HasPart (rep_of q Q s) (rep_of q Q a) (slice_index starts)
    → (v : ℕ) → v < length a.dims → slice_index starts v + slice_index a.dims v ≤ 256
places_small q Q s a starts c d small h v l =
    let b : v < Q.vertices = omega (arith, l, d) in
    let f = h.fits.at v b in
    let x = dim_at-is Q a.dims v b in
    let y = dim_within Q s.dims v in
    omega (arith, f, x, y, small)
