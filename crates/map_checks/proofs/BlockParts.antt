-- A representation is the sum of parts exactly where they are its blocks, one behind another, and nothing else is there.
use Rattle.std.proofs.Common.{ℕ, zero, suc, ◌<◌, ◌≤◌, ◌≡◌, ◌+◌, ◌-◌, List, length, cond, ltb, lt-ltb, le-ltb, refl, sym, ap, ◌∙◌, inl, inr, arith, subst}
use Rattle.std.specs.Prelude.{slice_index}
use Rattle.std.proofs.lemmas.Bool.{cases_lt, cases_eq, cond-true, cond-false}
use Rattle.linear_algebra.specs.Field.{Gf}
use Rattle.linear_algebra.specs.Rows.{entry}
use Rattle.linear_algebra.specs.Matrix.{Mat, join}
use Rattle.linear_algebra.specs.DirectSum.{diagonal}
use Rattle.linear_algebra.specs.BlockFamilies.{total}
use Rattle.linear_algebra.proofs.DirectSum.{diagonal-upper, diagonal-lower}
use Rattle.fp_linear.specs.Matrix.{PlainMatrix}
use Rattle.representations.specs.Quiver.{Quiver}
use Rattle.representations.specs.Rep.{Rep}
use Rattle.representations.specs.Sum.{sum_rep, sum_family}
use Rattle.representations.proofs.RepEqual.{Rep-eq}
use Rattle.projectives.proofs.Places.{sum_family-dim}
use Rattle.module_types.proofs.TermMatrices.{place_in}
use Rattle.module_types.specs.declared.Module.{Module}
use Rattle.module_types.specs.Readings.{rep_of, dim_at}
use Rattle.module_checks.proofs.HomRank.{IsPlainOf, dim_at-is}
use Rattle.map_checks.specs.BlockParts.{block_entry, IsBlockRow, IsBlock, HasRoomFor, HasBlock, HasBlocks, HasPart, part_start, HasParts, IsFull, Ascends, HasRoom}

block_same : (k l : ℕ) (f g : ℕ → ℕ) (j : ℕ) → k ≡ l → ((i : ℕ) → f i ≡ g i) → block_entry k f j ≡ block_entry l g j
block_same k l f g j e h = ap (λ k. block_entry k f j) e ∙ ap (cond (ltb j l) 0) (h (j - l))

pub block_zero : (k : ℕ) (f : ℕ → ℕ) (j : ℕ) → ((i : ℕ) → i + k ≡ j → f i ≡ 0) → block_entry k f j ≡ 0
block_zero k f j h = elim (cases_lt j k) [
  | inl l ↦ cond-true (ltb j k) 0 (f (j - k)) (lt-ltb j k l)
  | inr g ↦ cond-false (ltb j k) 0 (f (j - k)) (le-ltb j k g) ∙ h (j - k) (omega arith)
]

-- Entries of two blocks.
lower_entry : {q : Gf} {m n k l : ℕ} (a : Mat q m n) (b : Mat q k l) (i c r j : ℕ) → i ≡ m → c ≡ n → (diagonal a b).at (i + r) j ≡ block_entry c (b.at r) j
unfolding join
lower_entry {m = m} {n = n} a b i c r j e d =
    let row : i + r - m ≡ r = omega arith in
    diagonal-lower a b (i + r) j (omega arith) ∙ ap (λ k. cond (ltb j n) 0 (b.at k (j - n))) row ∙ ap (λ n. cond (ltb j n) 0 (b.at r (j - n))) (sym d)

upper_entry : {q : Gf} {m n k l : ℕ} (a : Mat q m n) (b : Mat q k l) (i j : ℕ) → i < m → (diagonal a b).at i j ≡ a.at i j
unfolding join
upper_entry {m = m} {n = n} a b i j h = diagonal-upper a b i j h ∙ elim (cases_lt j n) [
  | inl l ↦ cond-true (ltb j n) (a.at i j) 0 (lt-ltb j n l)
  | inr g ↦ cond-false (ltb j n) (a.at i j) 0 (le-ltb j n g) ∙ sym (a.fits.right i j g)
]

module _ {q : Gf} {Q : Quiver} (P : ℕ → Rep q Q) where
  dim_of : (n v : ℕ) → (sum_family n P).dim v ≡ total n (λ u. (P u).dim v)
  dim_of n v = sum_family-dim n P v

  -- Each part is a block of the sum.
  pub part_of_sum : (n t : ℕ) → t < n → HasPart (sum_family n P) (P t) (part_start (sum_family n P) P t)
  unfolding sum_family
  part_of_sum zero t h = absurd (omega arith)
  part_of_sum (suc n) t h = elim (cases_eq t n) [
    | inl e ↦ subst (λ t. HasPart (sum_rep (sum_family n P) (P n)) (P t) (λ v. total t (λ u. (P u).dim v))) (sym e) (record {
      fits = record { at = λ v l. let d = dim_of n v in omega arith };
      blocks = record { each = λ a l. record { at = λ r j b c. lower_entry ((sum_family n P).mat a) ((P n).mat a) (total n (λ u. (P u).dim (Q.source a))) (total n (λ u. (P u).dim (Q.target a))) r j (sym (dim_of n (Q.source a))) (sym (dim_of n (Q.target a))) } };
    })
    | inr d ↦
        let before = part_of_sum n t (omega arith) in
        record {
          fits = record { at = λ v l. let f = before.fits.at v l in omega arith };
          blocks = record { each = λ a l. record { at = λ r j b c. earlier a l before r j b } };
        }
  ]
    where
      earlier : (a : ℕ) → a < Q.arrows → HasPart (sum_family n P) (P t) (λ v. total t (λ u. (P u).dim v)) → (r j : ℕ) → r < (P t).dim (Q.source a)
          → (diagonal ((sum_family n P).mat a) ((P n).mat a)).at (total t (λ u. (P u).dim (Q.source a)) + r) j ≡ block_entry (total t (λ u. (P u).dim (Q.target a))) (((P t).mat a).at r) j
      earlier a l before r j b =
          upper_entry ((sum_family n P).mat a) ((P n).mat a) (total t (λ u. (P u).dim (Q.source a)) + r) j (elim (cases_lt (Q.source a) Q.vertices) [
            | inl s ↦ let f = before.fits.at (Q.source a) s in omega arith
            | inr s ↦ absurd (let e = (P t).past (Q.source a) s in omega arith)
          ])
          ∙ elim (cases_lt j ((sum_family n P).dim (Q.target a))) [
            | inl c ↦ (before.blocks.each a l).at r j b c
            | inr c ↦
                ((sum_family n P).mat a).fits.right _ j c
                ∙ sym (block_zero (total t (λ u. (P u).dim (Q.target a))) (((P t).mat a).at r) j (λ i e. ((P t).mat a).fits.right r i (elim (cases_lt (Q.target a) Q.vertices) [
                  | inl s ↦ let f = before.fits.at (Q.target a) s in omega arith
                  | inr s ↦ let z = (P t).past (Q.target a) s in omega arith
                ])))
          ]

  -- So what has the parts as its blocks, and nothing else, is their sum.
  pub sum_of_blocks : (S : Rep q Q) (n : ℕ) → HasParts S P n → IsFull S P n Q.vertices → S ≡ sum_family n P
  sum_of_blocks S n parts full = Rep-eq S (sum_family n P) same_dim same_entry
    where
      same_dim : (v : ℕ) → S.dim v ≡ (sum_family n P).dim v
      same_dim v = elim (cases_lt v Q.vertices) [ inl l ↦ sym (full.at v l) ∙ sym (dim_of n v) | inr l ↦ S.past v l ∙ sym ((sum_family n P).past v l) ]

      in_block : (a : ℕ) → a < Q.arrows → (t r j : ℕ) → t < n → r < (P t).dim (Q.source a) → j < S.dim (Q.target a)
          → (S.mat a).at (total t (λ u. (P u).dim (Q.source a)) + r) j ≡ ((sum_family n P).mat a).at (total t (λ u. (P u).dim (Q.source a)) + r) j
      in_block a l t r j h b c =
          ((parts.each t h).blocks.each a l).at r j b c
          ∙ sym (((part_of_sum n t h).blocks.each a l).at r j b (subst (λ d. j < d) (same_dim (Q.target a)) c))

      below_rows : (a i j : ℕ) → S.dim (Q.source a) ≤ i → (S.mat a).at i j ≡ ((sum_family n P).mat a).at i j
      below_rows a i j h = (S.mat a).fits.below i j h ∙ sym (((sum_family n P).mat a).fits.below i j (subst (λ d. d ≤ i) (same_dim (Q.source a)) h))

      same_entry : (a i j : ℕ) → (S.mat a).at i j ≡ ((sum_family n P).mat a).at i j
      same_entry a i j = elim (cases_lt a Q.arrows) [
        | inr past ↦ below_rows a i j (let e = S.past (Q.source a) (Q.source_past a past) in omega (arith, e))
        | inl l ↦ elim (cases_lt i (S.dim (Q.source a))) [
          | inr h ↦ below_rows a i j h
          | inl h ↦ elim (cases_lt j (S.dim (Q.target a))) [
            | inr c ↦ (S.mat a).fits.right i j c ∙ sym (((sum_family n P).mat a).fits.right i j (subst (λ d. d ≤ j) (same_dim (Q.target a)) c))
            | inl c ↦
                let s = place_in (λ u. (P u).dim (Q.source a)) n i (subst (λ d. i < d) (same_dim (Q.source a) ∙ dim_of n (Q.source a)) h) in
                ap (λ i. (S.mat a).at i j) (sym s.4) ∙ in_block a l s.0 s.1 j s.2 s.3 c ∙ ap (λ i. ((sum_family n P).mat a).at i j) s.4
          ]
        ]
      ]

  pub blocks_of_sum : (S : Rep q Q) (n : ℕ) → S ≡ sum_family n P → HasParts S P n
  blocks_of_sum S n e = record { each = λ t h. subst (λ S. HasPart S (P t) (λ v. total t (λ u. (P u).dim v))) (sym e) (part_of_sum n t h) }

  pub full_of_sum : (S : Rep q Q) (n : ℕ) → S ≡ sum_family n P → IsFull S P n Q.vertices
  full_of_sum S n e = record { at = λ v l. sym (ap (λ (S : Rep q Q). S.dim v) e ∙ dim_of n v) }

-- Where the places are the same, so is the part.
pub part_moved : {q : Gf} {Q : Quiver} (S P : Rep q Q) (f g : ℕ → ℕ) → ((v : ℕ) → v < Q.vertices → f v ≡ g v) → HasPart S P f → HasPart S P g
part_moved {q} {Q} S P f g e h = record {
  fits = record { at = λ v l. let d = e v l in let b = h.fits.at v l in omega (arith, d, b) };
  blocks = record {
    each = λ a l. record {
      at = λ r j b c. elim (cases_lt (Q.source a) Q.vertices) [
        | inr past ↦ absurd (let z = P.past (Q.source a) past in omega (arith, z, b))
        | inl s ↦ elim (cases_lt (Q.target a) Q.vertices) [
          | inr past ↦ absurd (let z = S.past (Q.target a) past in omega (arith, z, c))
          | inl t ↦ ap (λ k. (S.mat a).at (k + r) j) (sym (e (Q.source a) s)) ∙ (h.blocks.each a l).at r j b c ∙ ap (λ k. block_entry k ((P.mat a).at r) j) (e (Q.target a) t)
        ]
      ];
    };
  };
}

-- The printed matrices of an arrow.
pub block_read : {q : Gf} {Q : Quiver} (S P : Rep q Q) (start : ℕ → ℕ) (a : ℕ) (s p : PlainMatrix) → IsPlainOf s (S.mat a) → IsPlainOf p (P.mat a)
    → IsBlock s p (start (Q.source a)) (start (Q.target a)) p.row_count → HasBlock S P start a
block_read S P start a s p x y h = record {
  at = λ r j b c.
      sym (x.entries (start _ + r) j) ∙ (h.each r (omega (arith, b, y.row_count))).at j (omega (arith, c, x.col_count))
      ∙ block_same _ _ (entry p.rows r) ((P.mat a).at r) j refl (y.entries r);
}

pub read_block : {q : Gf} {Q : Quiver} (S P : Rep q Q) (start : ℕ → ℕ) (a : ℕ) (s p : PlainMatrix) → IsPlainOf s (S.mat a) → IsPlainOf p (P.mat a)
    → HasBlock S P start a → IsBlock s p (start (Q.source a)) (start (Q.target a)) p.row_count
read_block S P start a s p x y h = record {
  each = λ r b. record {
    at = λ j c. x.entries (start _ + r) j ∙ h.at r j (omega (arith, b, y.row_count)) (omega (arith, c, x.col_count)) ∙ sym (block_same _ _ (entry p.rows r) ((P.mat a).at r) j refl (y.entries r));
  };
}

-- Modules by their vectors of dimensions.
module _ (q : Gf) (Q : Quiver) (s p : Module) (starts : List ℕ) (c : length s.dims ≡ Q.vertices) where
  pub room_read : HasRoom s.dims p.dims starts (length s.dims) → HasRoomFor (rep_of q Q s) (rep_of q Q p) (slice_index starts) Q.vertices
  room_read h = record { at = λ v l. let a = h.at v (omega (arith, l, c)) in let d = dim_at-is Q s.dims v l in let e = dim_at-is Q p.dims v l in omega (arith, a, d, e) }

  pub read_room : HasRoomFor (rep_of q Q s) (rep_of q Q p) (slice_index starts) Q.vertices → HasRoom s.dims p.dims starts (length s.dims)
  read_room h = record { at = λ v l. let b : v < Q.vertices = omega (arith, l, c) in let a = h.at v b in let d = dim_at-is Q s.dims v b in let e = dim_at-is Q p.dims v b in omega (arith, a, d, e) }

pub blocks_more : {q : Gf} {Q : Quiver} (S P : Rep q Q) (start : ℕ → ℕ) (k : ℕ) → HasBlocks S P start k → HasBlock S P start k → HasBlocks S P start (k + 1)
blocks_more S P start k h b = record { each = λ a l. elim (cases_eq a k) [ inl e ↦ subst (HasBlock S P start) (sym e) b | inr d ↦ h.each a (omega arith) ] }

pub ascends_where : (a b : List ℕ) (v : ℕ) → ((u : ℕ) → u < v → slice_index a u ≡ slice_index b u) → slice_index a v < slice_index b v → Ascends a b
ascends_where a b v h l = record {
  at = λ w m e. elim (cases_lt w v) [
    | inl c ↦ let d = h w c in omega (arith, d)
    | inr c ↦ elim (cases_eq w v) [
      | inl same ↦ subst (λ w. slice_index a w ≤ slice_index b w) (sym same) (omega (arith, l))
      | inr other ↦ absurd (let d = e v (omega arith) in omega (arith, d, l))
    ]
  ];
}

-- An arrow's blocks, by the places that stand in a slice.
module _ (q : Gf) (Q : Quiver) (s p : Module) (starts : List ℕ) (c : length s.dims ≡ Q.vertices) where
  pub block_fits : (v u m n : ℕ) → u ≡ v → v < Q.vertices → HasRoom s.dims p.dims starts (length s.dims) → m ≡ dim_at Q s.dims v → n ≡ dim_at Q p.dims v → slice_index starts u + n ≤ m
  block_fits v u m n e l h x y =
      let a = h.at v (omega (arith, l, c)) in
      let d = dim_at-is Q s.dims v l in
      let f = dim_at-is Q p.dims v l in
      let b : slice_index starts v + n ≤ m = omega (arith, a, d, f, x, y) in
      subst (λ u. slice_index starts u + n ≤ m) (sym e) b

  module _ (a u w : ℕ) (x y : PlainMatrix) (f : IsPlainOf x ((rep_of q Q s).mat a)) (g : IsPlainOf y ((rep_of q Q p).mat a)) (d : u ≡ Q.source a) (e : w ≡ Q.target a) where
    pub block_there : IsBlock x y (slice_index starts u) (slice_index starts w) y.row_count → HasBlock (rep_of q Q s) (rep_of q Q p) (slice_index starts) a
    block_there h = block_read (rep_of q Q s) (rep_of q Q p) (slice_index starts) a x y f g
        (subst (λ w. IsBlock x y (slice_index starts (Q.source a)) (slice_index starts w) y.row_count) e (subst (λ u. IsBlock x y (slice_index starts u) (slice_index starts w) y.row_count) d h))

    pub there_block : HasBlock (rep_of q Q s) (rep_of q Q p) (slice_index starts) a → IsBlock x y (slice_index starts u) (slice_index starts w) y.row_count
    there_block h =
        subst (λ w. IsBlock x y (slice_index starts u) (slice_index starts w) y.row_count) (sym e) (subst (λ u. IsBlock x y (slice_index starts u) (slice_index starts (Q.target a)) y.row_count) (sym d)
        (read_block (rep_of q Q s) (rep_of q Q p) (slice_index starts) a x y f g h))

pub row_more : (s p : PlainMatrix) (i k r n : ℕ) → IsBlockRow s p i k r n → entry s.rows (i + r) n ≡ block_entry k (entry p.rows r) n → IsBlockRow s p i k r (n + 1)
row_more s p i k r n h e = record {
  at = λ j l. elim (cases_eq j n) [ inl d ↦ subst (λ j. entry s.rows (i + r) j ≡ block_entry k (entry p.rows r) j) (sym d) e | inr d ↦ h.at j (omega arith) ];
}
