-- What is left of a prefix of paths: matrices that stand for all paths of some arrows, and for all paths of a length from a vertex.
use Rattle.std.proofs.Common.{ℕ, ◌≡◌, List, [], ◌∷◌, ◌++◌, length, refl, sym, ap, ◌∙◌, subst, arith, append_assoc}
use Rattle.std.proofs.lemmas.List.{append-nil, length_push, length-append, same_from_push}
use Rattle.linear_algebra.specs.Field.{Gf}
use Rattle.linear_algebra.specs.Matrix.{Mat, Column, zeros, ◌·◌, transpose}
use Rattle.linear_algebra.specs.MatrixLaws.{transpose_mul, transpose_transpose, transpose_zeros, mul_assoc_mat, zeros_mul}
use Rattle.linear_algebra.specs.PartsLaws.{equal_on_columns}
use Rattle.representations.specs.Quiver.{Quiver, Path, trivial, then, path_length, path_join, opposite, reverse}
use Rattle.representations.specs.Rep.{Rep, along}
use Rattle.representations.specs.Dual.{dual}
use Rattle.representations.proofs.Paths.{along_join, along-then}
use Rattle.representations.proofs.Duals.{along-reverse, reverse_reverse, path_length-reverse}
use Rattle.bound_algebra.specs.TypedPaths.{arrows_of}
use Rattle.bound_algebra.proofs.TypedPaths.{arrows_of-join, length-arrows_of}
use Rattle.module_checks.specs.PathImages.{EndsPaths}

-- a product is zero where it takes each column to zero
zero_by_columns : {q : Gf} {k m n : ℕ} (a : Mat q k m) (b : Mat q m n) → ((y : Column q n) → a · (b · y) ≡ zeros q k 1) → a · b ≡ zeros q k n
zero_by_columns {q} {k} {m} {n} a b h = equal_on_columns (a · b) (zeros q k n) (λ y. mul_assoc_mat a b y ∙ h y ∙ sym (zeros_mul y))

-- and takes each column to zero where it is zero
columns_of_zero : {q : Gf} {k m n : ℕ} (a : Mat q k m) (b : Mat q m n) → a · b ≡ zeros q k n → (y : Column q n) → a · (b · y) ≡ zeros q k 1
columns_of_zero {q} {k} {m} {n} a b e y = sym (mul_assoc_mat a b y) ∙ ap (λ (m : Mat q k n). m · y) e ∙ zeros_mul y

-- a product is zero where the transposed product is
turned : {q : Gf} {k m n : ℕ} (a : Mat q k m) (b : Mat q n m) → a · transpose b ≡ zeros q k n → b · transpose a ≡ zeros q n k
turned {q} {k} {m} {n} a b e =
    ap (λ (c : Mat q n m). c · transpose a) (sym (transpose_transpose b)) ∙ sym (transpose_mul a (transpose b)) ∙ ap transpose e ∙ transpose_zeros q k n

turned_by : {q : Gf} {k m n : ℕ} (a : Mat q k m) (b : Mat q m n) → a · b ≡ zeros q k n → transpose b · transpose a ≡ zeros q n k
turned_by {q} {k} {m} {n} a b e = sym (transpose_mul a b) ∙ ap transpose e ∙ transpose_zeros q k n

turned_from : {q : Gf} {k m n : ℕ} (a : Mat q k m) (b : Mat q m n) → transpose b · transpose a ≡ zeros q n k → a · b ≡ zeros q k n
turned_from {q} {k} {m} {n} a b e = sym (transpose_transpose (a · b)) ∙ ap transpose (transpose_mul a b ∙ e) ∙ transpose_zeros q n k

-- the last of some arrows
last_of : (y : ℕ) (ys : List ℕ) → (init : List ℕ) × (last : ℕ) × (y ∷ ys ≡ init ++ last ∷ [])
last_of y [] = ([], y, refl)
last_of y (z ∷ ys) = let r = last_of z ys in (y ∷ r.0, r.1, ap (λ zs. y ∷ zs) r.2)

module _ {q : Gf} {Q : Quiver} (Y : Rep q Q) where
  -- the column y at w is taken to zero by the paths of these arrows that end there; by the paths of j arrows, transposed, that begin there
  pub record PrefixEnds (xs : List ℕ) (w : ℕ) (y : Column q (Y.dim w)) : Type 0 where
    pub along : {v : ℕ} (p : Path Q v w) → arrows_of p ≡ xs → along Y p · y ≡ zeros q (Y.dim v) 1

  pub record EndsBehind (j u : ℕ) (y : Column q (Y.dim u)) : Type 0 where
    pub behind : {z : ℕ} (r : Path Q u z) → path_length r ≡ j → transpose (along Y r) · y ≡ zeros q (Y.dim z) 1

  -- all paths that begin with these arrows and go on with j more act as zero
  pub record AreStopped (xs : List ℕ) (j : ℕ) : Type 0 where
    pub zero : {v z : ℕ} (p : Path Q v z) (ys : List ℕ) → arrows_of p ≡ xs ++ ys → length ys ≡ j → along Y p ≡ zeros q (Y.dim v) (Y.dim z)

  pub behind_of_ends : (j u : ℕ) (y : Column q (Y.dim u)) → EndsPaths (dual Y) j u y → EndsBehind j u y
  behind_of_ends j u y h = record { behind = λ r e. ap (λ (m : Mat q _ (Y.dim u)). m · y) (sym (along-reverse Y r)) ∙ h.along (reverse r) (path_length-reverse r ∙ e) }

  pub ends_of_behind : (j u : ℕ) (y : Column q (Y.dim u)) → EndsBehind j u y → EndsPaths (dual Y) j u y
  ends_of_behind j u y h = record {
    along = λ {v} p e. ap (λ (p : Path (opposite Q) v u). along (dual Y) p · y) (sym (reverse_reverse p)) ∙ ap (λ (m : Mat q (Y.dim v) (Y.dim u)). m · y) (along-reverse Y (reverse p)) ∙ h.behind (reverse p) (path_length-reverse p ∙ e);
  }

  -- a path of some arrows and then others is cut between them
  record IsCutAt {v z : ℕ} (p : Path Q v z) (xs ys : List ℕ) : Type 0 where
    pub middle : ℕ
    pub first : Path Q v middle
    pub second : Path Q middle z
    pub first_is : arrows_of first ≡ xs
    pub second_is : arrows_of second ≡ ys
    pub whole : path_join first second ≡ p

  cut_at : {v z : ℕ} (p : Path Q v z) (xs ys : List ℕ) → arrows_of p ≡ xs ++ ys → IsCutAt p xs ys
  cut_at {v} {z} p xs [] e = record { middle = z; first = p; second = trivial; first_is = e ∙ append-nil xs; second_is = refl; whole = refl }
  cut_at {v} trivial xs (y ∷ ys) e = absurd (let n = length-append xs (y ∷ ys) in let m = ap length e in omega arith)
  cut_at (then a p) xs (y ∷ ys) e =
      let l = last_of y ys in
      let s = same_from_push (arrows_of p) (xs ++ l.0) a l.1 (e ∙ ap (λ zs. xs ++ zs) l.2 ∙ sym (append_assoc xs l.0 (l.1 ∷ []))) in
      let c = cut_at p xs l.0 s.0 in
      record {
        middle = c.middle;
        first = c.first;
        second = then a c.second;
        first_is = c.first_is;
        second_is = (λ i. c.second_is i ++ s.1 i ∷ []) ∙ sym l.2;
        whole = ap (λ p. then a p) c.whole;
      }

  module _ (xs : List ℕ) (j a : ℕ) {m c : ℕ} (S : Mat q m (Y.dim (Q.source a))) (L : Mat q c (Y.dim (Q.target a)))
      (s_forth : (y : Column q (Y.dim (Q.source a))) → S · y ≡ zeros q m 1 → PrefixEnds xs (Q.source a) y) (s_back : (y : Column q (Y.dim (Q.source a))) → PrefixEnds xs (Q.source a) y → S · y ≡ zeros q m 1)
      (l_forth : (y : Column q (Y.dim (Q.target a))) → L · y ≡ zeros q c 1 → EndsBehind j (Q.target a) y) (l_back : (y : Column q (Y.dim (Q.target a))) → EndsBehind j (Q.target a) y → L · y ≡ zeros q c 1) where
    -- what goes on behind one path
    behind_path : {v z : ℕ} (p : Path Q v (Q.source a)) (r : Path Q (Q.target a) z) → arrows_of p ≡ xs → path_length r ≡ j → (S · Y.mat a) · transpose L ≡ zeros q m c
        → (along Y p · Y.mat a) · along Y r ≡ zeros q (Y.dim v) (Y.dim z)
    behind_path {v} {z} p r e l h =
        let P = along Y p · Y.mat a in
        let first : along Y p · (Y.mat a · transpose L) ≡ zeros q (Y.dim v) c = zero_by_columns (along Y p) (Y.mat a · transpose L)
        (λ y. (s_forth ((Y.mat a · transpose L) · y) (columns_of_zero S (Y.mat a · transpose L) (sym (mul_assoc_mat S (Y.mat a) (transpose L)) ∙ h) y)).along p e) in
        let back : L · transpose P ≡ zeros q c (Y.dim v) = turned P L (mul_assoc_mat (along Y p) (Y.mat a) (transpose L) ∙ first) in
        turned_from P (along Y r) (zero_by_columns (transpose (along Y r)) (transpose P) (λ y. (l_forth (transpose P · y) (columns_of_zero L (transpose P) back y)).behind r l))

    pub stopped_by : (S · Y.mat a) · transpose L ≡ zeros q m c → AreStopped (xs ++ a ∷ []) j
    stopped_by h = record {
      zero = λ p ys e l.
          let k = cut_at p (xs ++ a ∷ []) ys e in
          ap (along Y) (sym k.whole) ∙ along_join Y k.first k.second ∙ begins k.first k.second k.first_is (sym (length-arrows_of k.second) ∙ ap length k.second_is ∙ l);
    }
      where
        begins : {v w z : ℕ} (p : Path Q v w) (r : Path Q w z) → arrows_of p ≡ xs ++ a ∷ [] → path_length r ≡ j → along Y p · along Y r ≡ zeros q (Y.dim v) (Y.dim z)
        begins trivial r e l = absurd (let n = length_push xs a in let m = ap length e in omega arith)
        begins {v} {z = z} (then b p) r e l =
            let s = same_from_push (arrows_of p) xs b a e in
            subst (λ b. (p : Path Q v (Q.source b)) (r : Path Q (Q.target b) z) → arrows_of p ≡ xs → path_length r ≡ j → along Y (then b p) · along Y r ≡ zeros q (Y.dim v) (Y.dim z)) (sym s.1)
            (λ p r e l. ap (λ (m : Mat q (Y.dim v) (Y.dim (Q.target a))). m · along Y r) (along-then Y a p) ∙ behind_path p r e l h) p r s.0 l

    pub by_stopped : AreStopped (xs ++ a ∷ []) j → (S · Y.mat a) · transpose L ≡ zeros q m c
    by_stopped h =
        let P = S · Y.mat a in
        turned L P (zero_by_columns L (transpose P) (λ y. l_back (transpose P · y) (record { behind = λ r l. columns_of_zero (transpose (along Y r)) (transpose P) (turned_by P (along Y r) (each r l)) y })))
      where
        -- a path of these arrows, with one more behind it
        goes_on : {v z : ℕ} (p : Path Q v (Q.source a)) (r : Path Q (Q.target a) z) → arrows_of p ≡ xs → path_length r ≡ j → (along Y p · Y.mat a) · along Y r ≡ zeros q (Y.dim v) (Y.dim z)
        goes_on {v} {z} p r e l =
            ap (λ (m : Mat q (Y.dim v) (Y.dim (Q.target a))). m · along Y r) (sym (along-then Y a p)) ∙ sym (along_join Y (then a p) r)
            ∙ h.zero (path_join (then a p) r) (arrows_of r) (arrows_of-join (then a p) r ∙ ap (λ zs. (zs ++ a ∷ []) ++ arrows_of r) e) (length-arrows_of r ∙ l)

        each : {z : ℕ} (r : Path Q (Q.target a) z) → path_length r ≡ j → (S · Y.mat a) · along Y r ≡ zeros q m (Y.dim z)
        each r l =
            mul_assoc_mat S (Y.mat a) (along Y r)
            ∙ zero_by_columns S (Y.mat a · along Y r) (λ y. s_back ((Y.mat a · along Y r) · y)
            (record { along = λ p e. columns_of_zero (along Y p) (Y.mat a · along Y r) (sym (mul_assoc_mat (along Y p) (Y.mat a) (along Y r)) ∙ goes_on p r e l) y }))
