-- From which power on an ideal of families is zero, vertex by vertex.
use Rattle.std.proofs.Common.{ℕ, ◌<◌, ◌≤◌, ◌≡◌, ◌≢◌, ◌+◌, ◌*◌, List, get_or, length, drop, sym, ap, ◌∙◌, inl, inr, arith, subst, add-one, nat_eq, eq-eqb, ne_eqb}
use Rattle.std.proofs.lemmas.Bool.{cases_lt, cases_eq}
use Rattle.std.proofs.lemmas.List.{get_or-drop, get_or_default}
use Rattle.std.specs.Prelude.{Bool, true, false, MatchBool, Option, None, Some, MatchOption}
use Rattle.linear_algebra.specs.Field.{Gf}
use Rattle.linear_algebra.specs.Matrix.{Mat, Mat-eq_below}
use Rattle.linear_algebra.specs.Parts.{row}
use Rattle.linear_algebra.specs.Rank.{HasRightInverse}
use Rattle.linear_algebra.specs.BlockFamilies.{total}
use Rattle.linear_algebra.proofs.BlockFamilies.{total_grows}
use Rattle.linear_algebra.proofs.PartsLaws.{row-at}
use Rattle.linear_algebra.proofs.FamilyPowers.{ordered_product-same}
use Rattle.fp_linear.specs.Slices.{AreElements}
use Rattle.fp_linear.proofs.LentRows.{AreElements-drop}
use Rattle.representations.specs.Quiver.{Quiver}
use Rattle.representations.specs.Rep.{Rep}
use Rattle.representations.specs.HomSpace.{unknowns}
use Rattle.representations.proofs.Equations.{unflat-at}
use Rattle.local_modules.specs.Ideal.{PowerVanishes, IsLeastPower}
use Rattle.local_modules.specs.ImageChain.{IsImageAfter, IsImageOf, ProductsVanish, VanishFrom}
use Rattle.local_modules.specs.MatrixAlgebra.{MatrixAlgebra, algebra_of}
use Rattle.local_modules.specs.FamilyAlgebra.{families, member-at}
use Rattle.local_modules.proofs.ImagesAfter.{image_more, image_smaller, vanish_from_here, never_vanish, none_here, vanish_from_none}
use Rattle.local_modules.proofs.VertexPowers.{products_of_power, power_of_products}
use Rattle.path_algebra.specs.declared.Header.{Header}
use Rattle.module_types.specs.declared.Module.{Module}
use Rattle.module_types.specs.Algebras.{algebra_at}
use Rattle.module_types.specs.Readings.{read}
use Rattle.module_types.specs.Shapes.{IsModule}
use Rattle.module_checks.specs.Commuting.{block_sizes}
use Rattle.module_checks.proofs.HomRank.{blocks_before, dim_at-is}
use Rattle.claim_conditions.specs.LocalConditions.{families_of}
use Rattle.local_checks.specs.Vertices.{at_vertex}
use Rattle.local_checks.specs.Standing.{standing}
use Rattle.local_checks.specs.Images.{blocks_at, NeverVanish, NoneBefore, VanishUpTo}
use Rattle.local_checks.proofs.Places.{place_below}
use Rattle.local_checks.proofs.Spaces.{standing-at}

-- One step of the images, over rows that are known to be those after i steps.
module _ {q : Gf} {d : ℕ} (k : ℕ) (g : ℕ → Mat q d d) (i r : ℕ) (V : Mat q r d) (h : IsImageAfter k g i V) (b : NoneBefore k g i) where
  pub after_more : {s : ℕ} (W : Mat q s d) → HasRightInverse W → IsImageOf k g V W → IsImageAfter k g (i + 1) W
  after_more W w m = subst (λ (j : ℕ). IsImageAfter k g j W) (sym (add-one i)) (image_more k g i r V h _ W w m)

  pub smaller : {s : ℕ} (W : Mat q s d) → HasRightInverse W → IsImageOf k g V W → s ≤ r
  smaller {s} W w m = image_smaller k g i r V h s W (image_more k g i r V h s W w m)

  pub none_more : r ≢ 0 → NoneBefore k g (i + 1)
  none_more n s l z = elim (cases_eq s i) [
    | inl e ↦ n (none_here k g i r V h (subst (λ (j : ℕ). ProductsVanish k g j) e z))
    | inr o ↦ b s (omega (arith, l, o)) z
  ]

  pub zero_here : r ≡ 0 → VanishFrom k g i
  zero_here e = vanish_from_here k g i r V h e b

  pub same_here : {s : ℕ} (W : Mat q s d) → HasRightInverse W → IsImageOf k g V W → s ≡ r → r ≢ 0 → NeverVanish k g
  same_here {s} W w m e n = go s e W w m
    where
      go : (s : ℕ) → s ≡ r → (W : Mat q s d) → HasRightInverse W → IsImageOf k g V W → NeverVanish k g
      go s e = subst (λ (s : ℕ). (W : Mat q s d) → HasRightInverse W → IsImageOf k g V W → NeverVanish k g) (sym e) (λ W w m. never_vanish k g i r V h W (image_more k g i r V h r W w m) n)

-- The vertices one after another.
module _ {q : Gf} {Q : Quiver} {X : Rep q Q} (M : MatrixAlgebra X) {k : ℕ} (I : Mat q k M.size) where
  abbrev part_at : (v : ℕ) → ℕ → Mat q (X.dim v) (X.dim v)
  part_at v j = (M.element (row j I)).at v

  pub vanish_none : VanishUpTo M I 0 0
  vanish_none = record { zero = λ v s l h. absurd (omega arith); least = λ t h. omega arith }

  pub vanish_more : (n most p next : ℕ) → VanishUpTo M I n most → VanishFrom k (part_at n) p → most ≤ next → p ≤ next → ((t : ℕ) → most ≤ t → p ≤ t → next ≤ t) → VanishUpTo M I (n + 1) next
  vanish_more n most p next h f a b c = record {
    zero = λ v s l u. elim (cases_eq v n) [
      | inl e ↦ subst (λ (v : ℕ). ProductsVanish k (part_at v) s) (sym e) (f.zero s (omega (arith, u, b)))
      | inr o ↦ h.zero v s (omega (arith, l, o)) (omega (arith, u, a))
    ];
    least = λ t z. c t (h.least t (λ v l. z v (omega (arith, l)))) (f.least t (z n (omega arith)));
  }

  pub never_least : (v s : ℕ) → NeverVanish k (part_at v) → IsLeastPower (algebra_of M) I s → ⊥
  never_least v s n l = n s (products_of_power M I s l.vanishes v)

  pub late_not_least : (v s p : ℕ) → VanishFrom k (part_at v) p → s < p → IsLeastPower (algebra_of M) I s → ⊥
  late_not_least v s p f h l = let b = f.least s (products_of_power M I s l.vanishes v) in absurd (omega (arith, b, h))

  module _ (n most : ℕ) (h : VanishUpTo M I n most) (e : n ≡ Q.vertices) where
    past : (v s : ℕ) → Q.vertices ≤ v → ProductsVanish k (part_at v) s
    past v s l = (vanish_from_none k (part_at v) (X.past v l)).zero s (omega arith)

    vanishes : (s : ℕ) → most ≤ s → PowerVanishes (algebra_of M) I s
    vanishes s l = power_of_products M I s (λ v. elim (cases_lt v n) [ inl b ↦ h.zero v s b l | inr b ↦ past v s (omega (arith, b, e)) ])

    reached : (t : ℕ) → PowerVanishes (algebra_of M) I t → most ≤ t
    reached t z = h.least t (λ v l. products_of_power M I t z v)

    pub least_decided : (b : Bool) (s top : ℕ) → 1 ≤ top → most ≤ top → ((t : ℕ) → 1 ≤ t → most ≤ t → top ≤ t) → MatchBool b (s ≡ top) (s ≢ top) → MatchBool b (IsLeastPower (algebra_of M) I s) (¬ IsLeastPower (algebra_of M) I s)
    least_decided true s top a b c e = subst (IsLeastPower (algebra_of M) I) (sym e) (record { positive = a; vanishes = vanishes top b; least = λ t u z. c t u (reached t z) })
    least_decided false s top a b c n = λ l. n (both s top (l.least top a (vanishes top b)) (c s l.positive (reached s l.vanishes)))
      where
        both : (x y : ℕ) → x ≤ y → y ≤ x → x ≡ y
        both x y p q = omega (arith, p, q)

-- The blocks in lent memory are the matrices of the rows.
pub block_is : {q : Gf} {Q : Quiver} (X : Rep q Q) (k : ℕ) (s : List ℕ) → AreElements q s → (v : ℕ) → v < Q.vertices → (j : ℕ) → j < k
    → blocks_at q (X.dim v) (unknowns X X) (total v (λ w. X.dim w * X.dim w)) s j ≡ ((families X).element (row j (standing q k (unknowns X X) s))).at v
block_is {q} {Q} X k s a v l j h = Mat-eq_below _ _ (λ i t m n.
    standing-at q (X.dim v) (X.dim v) (drop (j * unknowns X X + total v (λ w. X.dim w * X.dim w)) s) (AreElements-drop q _ s a) i t m n
    ∙ get_or-drop (j * unknowns X X + total v (λ w. X.dim w * X.dim w)) s (i * X.dim v + t) 0
    ∙ sym (ap (λ (z : Mat q (X.dim v) (X.dim v)). z.at i t) (member-at X (row j (standing q k (unknowns X X) s)) v)
    ∙ unflat-at X X (row j (standing q k (unknowns X X) s)) v i t m n ∙ row-at j (standing q k (unknowns X X) s) _
    ∙ standing-at q k (unknowns X X) s a j (total v (λ w. X.dim w * X.dim w) + i * X.dim v + t) h (inside i t m n) ∙ ap (λ (p : ℕ). get_or s p 0) (omega arith)))
  where
    inside : (i t : ℕ) → i < X.dim v → t < X.dim v → total v (λ w. X.dim w * X.dim w) + i * X.dim v + t < unknowns X X
    inside i t m n = let g = total_grows (λ w. X.dim w * X.dim w) Q.vertices v l in let p = place_below i (X.dim v) t (X.dim v) m n in omega (arith, g, p)

-- Only the first k members count.
pub vanish_same : {q : Gf} {d : ℕ} (k : ℕ) (g h : ℕ → Mat q d d) → ((j : ℕ) → j < k → g j ≡ h j) → (s : ℕ) → ProductsVanish k g s → ProductsVanish k h s
vanish_same k g h e s z w b = ordered_product-same (λ i. h (w i)) (λ i. g (w i)) s (λ i l. sym (e (w i) (b i l))) ∙ z w b

pub vanish_from_same : {q : Gf} {d : ℕ} (k : ℕ) (g h : ℕ → Mat q d d) → ((j : ℕ) → j < k → g j ≡ h j) → (p : ℕ) → VanishFrom k g p → VanishFrom k h p
vanish_from_same k g h e p f = record { zero = λ s l. vanish_same k g h e s (f.zero s l); least = λ s z. f.least s (vanish_same k h g (λ j l. sym (e j l)) s z) }

pub never_same : {q : Gf} {d : ℕ} (k : ℕ) (g h : ℕ → Mat q d d) → ((j : ℕ) → j < k → g j ≡ h j) → NeverVanish k g → NeverVanish k h
never_same k g h e n s z = n s (vanish_same k h g (λ j l. sym (e j l)) s z)

-- What is found at the blocks of a vertex.
module _ (h : Header) (m : Module) (M : IsModule h.field (algebra_at m.side h).quiver m) (k : ℕ) (s : List ℕ) (a : AreElements h.field s) (v : ℕ) (l : v < length m.dims) where
  inside_quiver : v < (algebra_at m.side h).quiver.vertices
  inside_quiver = let c = M.counted in omega (arith, c, l)

  same_blocks : (j : ℕ) → j < k → blocks_at h.field ((read h m).dim v) (families_of h m).size (total v (λ w. (read h m).dim w * (read h m).dim w)) s j ≡ at_vertex h m k s v j
  same_blocks j b = block_is (read h m) k s a v inside_quiver j b

  found : (r : Option ℕ) → MatchOption r (NeverVanish k (blocks_at h.field ((read h m).dim v) (families_of h m).size (total v (λ w. (read h m).dim w * (read h m).dim w)) s))
      (VanishFrom k (blocks_at h.field ((read h m).dim v) (families_of h m).size (total v (λ w. (read h m).dim w * (read h m).dim w)) s))
      → MatchOption r (NeverVanish k (at_vertex h m k s v)) (VanishFrom k (at_vertex h m k s v))
  found None n = never_same k _ (at_vertex h m k s v) same_blocks n
  found (Some p) f = vanish_from_same k _ (at_vertex h m k s v) same_blocks p f

  pub found_at : (d width from : ℕ) (r : Option ℕ) → d ≡ get_or m.dims v 0 → width ≡ (families_of h m).size → from ≡ total v (block_sizes m.dims m.dims)
      → MatchOption r (NeverVanish k (blocks_at h.field d width from s)) (VanishFrom k (blocks_at h.field d width from s))
      → MatchOption r (NeverVanish k (at_vertex h m k s v)) (VanishFrom k (at_vertex h m k s v))
  found_at d width from r e f g x =
      let d_is : d ≡ (read h m).dim v = e ∙ sym (dim_at-is (algebra_at m.side h).quiver m.dims v inside_quiver) in
      let from_is : from ≡ total v (λ w. (read h m).dim w * (read h m).dim w) = g ∙ blocks_before (algebra_at m.side h).quiver m.dims m.dims v inside_quiver in
      found r (rw (d_is, f, from_is) at x)

pub default_zero : (xs : List ℕ) (i a : ℕ) → i < length xs → a ≡ get_or xs i a → a ≡ get_or xs i 0
default_zero xs i a h e = e ∙ get_or_default xs i a 0 h

pub equal_decided : (a b : ℕ) → MatchBool (nat_eq a b) (a ≡ b) (a ≢ b)
equal_decided a b = elim (cases_eq a b) [
  | inl e ↦ subst (λ (t : Bool). MatchBool t (a ≡ b) (a ≢ b)) (sym (eq-eqb a b e)) e
  | inr n ↦ subst (λ (t : Bool). MatchBool t (a ≡ b) (a ≢ b)) (sym (ne_eqb a b n)) n
]
