-- The number of paths of one length, by the vertices where they start.
use Rattle.std.proofs.Common.{ℕ, zero, suc, ◌+◌, ◌≡◌, ◌<◌, ◌≤◌, List, [], ◌∷◌, length, map, filter, get_or, eqb, false, cond, refl, sym, ap, ◌∙◌, inl, inr, arith, length-append, sum, add-one}
use Rattle.std.specs.Prelude.{sum_by, count_by, Contains}
use Rattle.std.specs.List.{flat_map, range_with_len}
use Rattle.std.proofs.lemmas.Bool.{eq-eqb, ne_eqb, cases_Bool, cases_eq}
use Rattle.std.proofs.lemmas.List.{get_or-map, length-map}
use Rattle.std.proofs.lemmas.List.Sums.{sum_by-cons, sum_by-append, sum-map, length-filter}
use Rattle.std.proofs.lemmas.List.FromFn.{fill_by_all}
use Rattle.quiver_paths.specs.declared.Arrow.{Arrow}
use Rattle.quiver_paths.specs.declared.Quiver.{Quiver}
use Rattle.quiver_paths.specs.declared.Path.{Path}
use Rattle.quiver_paths.specs.Quiver.{vertex_count, arrow_count, source, target, HasEnds}
use Rattle.quiver_paths.specs.Path.{concat, arrow_path, trivial_path}
use Rattle.quiver_paths.specs.PathList.{behind_arrow, paths_of_length, paths_below, path_count, saturated}
use Rattle.quiver_paths.specs.PathCount.{count_from, CountsPaths}
use Rattle.quiver_paths.proofs.ListLemmas.{Contains-head, Contains-behind, Contains-from_range}
use Rattle.quiver_paths.proofs.QuiverLemmas.{source_is, target_is}
use Rattle.quiver_paths.proofs.PathListLemmas.{paths_of_length-zero, paths_of_length-suc, paths_below-suc, IsPath-from_length}

-- ---- sums

-- sums of functions that agree at the members
pub sum_by-agree : {X : Type 0} (f g : X → ℕ) (xs : List X) → ((x : X) → Contains xs x → f x ≡ g x) → sum_by f xs ≡ sum_by g xs
sum_by-agree f g [] h = refl
sum_by-agree f g (x ∷ xs) h =
    sum_by-cons f x xs
    ∙ (λ i. h x (Contains-head x xs) i + sum_by-agree f g xs (λ y m. h y (Contains-behind x xs y m)) i)
    ∙ sym (sum_by-cons g x xs)

pub sum_by-add : {X : Type 0} (f g : X → ℕ) (xs : List X) → sum_by (λ x. f x + g x) xs ≡ sum_by f xs + sum_by g xs
sum_by-add f g [] = refl
sum_by-add f g (x ∷ xs) =
    omega (arith, sum_by-cons (λ y. f y + g y) x xs, sum_by-cons f x xs, sum_by-cons g x xs, sum_by-add f g xs)

pub sum_by-zero : {X : Type 0} (xs : List X) → sum_by (λ (x : X). 0) xs ≡ 0
sum_by-zero [] = refl
sum_by-zero (x ∷ xs) = omega (arith, sum_by-cons (λ y. 0) x xs, sum_by-zero xs)

pub sum_by-flat_map : {X Y : Type 0} (f : Y → ℕ) (g : X → List Y) (xs : List X) → sum_by f (flat_map g xs) ≡ sum_by (λ x. sum_by f (g x)) xs
sum_by-flat_map f g [] = refl
sum_by-flat_map f g (x ∷ xs) =
    omega (arith, sum_by-append f (g x) (flat_map g xs), sum_by-cons (λ y. sum_by f (g y)) x xs, sum_by-flat_map f g xs)

sum_by-map : {X Y : Type 0} (f : Y → ℕ) (g : X → Y) (xs : List X) → sum_by f (map g xs) ≡ sum_by (λ x. f (g x)) xs
sum_by-map f g [] = refl
sum_by-map f g (x ∷ xs) =
    omega (arith, sum_by-cons f (g x) (map g xs), sum_by-cons (λ y. f (g y)) x xs, sum_by-map f g xs)

-- one where two numbers are equal, and else none
abbrev one_at : ℕ → ℕ → ℕ
one_at w v = cond (eqb w v) 1 0

sum_by-never : (s a n : ℕ) → s < a → sum_by (λ v. cond (eqb s v) 1 0) (range_with_len a n) ≡ 0
sum_by-never s a zero h = refl
sum_by-never s a (suc n) h =
    let ne : eqb s a ≡ false = ne_eqb s a (λ e. omega arith) in
    let here : one_at s a ≡ 0 = ap (λ b. cond b 1 0) ne in
    omega (arith, sum_by-cons (λ v. cond (eqb s v) 1 0) a (range_with_len (a + 1) n), here, sum_by-never s (a + 1) n (omega arith))

-- one number of a range is s, if s is among them
sum_by-once : (s a n : ℕ) → a ≤ s → s < a + n → sum_by (λ v. cond (eqb s v) 1 0) (range_with_len a n) ≡ 1
sum_by-once s a zero h g = absurd (omega arith)
sum_by-once s a (suc n) h g =
    elim (cases_eq s a) [
      | inl e ↦
          let here : one_at s a ≡ 1 = ap (λ b. cond b 1 0) (eq-eqb s a e) in
          omega (arith, sum_by-cons (λ v. cond (eqb s v) 1 0) a (range_with_len (a + 1) n), here, sum_by-never s (a + 1) n (omega arith))
      | inr ne ↦
          let here : one_at s a ≡ 0 = ap (λ b. cond b 1 0) (ne_eqb s a ne) in
          let above : a + 1 ≤ s = omega (arith, ne) in
          omega (arith, sum_by-cons (λ v. cond (eqb s v) 1 0) a (range_with_len (a + 1) n), here, sum_by-once s (a + 1) n above (omega arith))
    ]

-- ---- paths by their starts

-- paths whose starts are below m, counted by their starts
pub length_by_starts : (m : ℕ) (ps : List Path) → ((p : Path) → Contains ps p → p.start < m) → length ps ≡ sum_by (λ v. count_by (λ p. eqb p.start v) ps) (range_with_len 0 m)
length_by_starts m [] h = sym (sum_by-zero (range_with_len 0 m))
length_by_starts m (p ∷ ps) h =
    let here : sum_by (λ v. cond (eqb p.start v) 1 0) (range_with_len 0 m) ≡ 1 =
    sum_by-once p.start 0 m (omega arith) (omega (arith, h p (Contains-head p ps))) in
    let rest = length_by_starts m ps (λ q n. h q (Contains-behind p ps q n)) in
    let each : sum_by (λ v. count_by (λ q. eqb q.start v) (p ∷ ps)) (range_with_len 0 m)
    ≡ sum_by (λ v. cond (eqb p.start v) 1 0 + count_by (λ q. eqb q.start v) ps) (range_with_len 0 m) =
    sum_by-agree (λ v. count_by (λ q. eqb q.start v) (p ∷ ps)) (λ v. cond (eqb p.start v) 1 0 + count_by (λ q. eqb q.start v) ps) (range_with_len 0 m)
    (λ v _. sum_by-cons (λ q. cond (eqb q.start v) 1 0) p ps) in
    let split = sum_by-add (λ v. cond (eqb p.start v) 1 0) (λ v. count_by (λ q. eqb q.start v) ps) (range_with_len 0 m) in
    omega (arith, here, rest, each, split)

-- those that begin with an arrow
pub count_by-behind_arrow : (Q : Quiver) (ps : List Path) (a v : ℕ) →
    count_by (λ p. eqb p.start v) (behind_arrow Q ps a) ≡ cond (eqb (source Q a) v) (count_by (λ p. eqb p.start (target Q a)) ps) 0
count_by-behind_arrow Q ps a v =
    let kept = filter (λ p. eqb p.start (target Q a)) ps in
    let mapped : count_by (λ p. eqb p.start v) (behind_arrow Q ps a) ≡ sum_by (λ (p : Path). cond (eqb (source Q a) v) 1 0) kept =
    sum_by-map (λ (p : Path). cond (eqb p.start v) 1 0) (concat (arrow_path Q a)) kept in
    mapped
    ∙ elim (cases_Bool (eqb (source Q a) v)) [
      | inl t ↦ rw t (ones kept ∙ length-filter (λ p. eqb p.start (target Q a)) ps)
      | inr f ↦ rw f (sum_by-zero kept)
    ]
  where
    ones : (xs : List Path) → sum_by (λ (x : Path). 1) xs ≡ length xs
    ones [] = refl
    ones (x ∷ xs) = omega (arith, sum_by-cons (λ (y : Path). 1) x xs, ones xs)

-- the sum over the list of arrows, by their places
sum_by-arrows : (Q : Quiver) (f : Arrow → ℕ) (g : ℕ → ℕ) → ((a : ℕ) (d : Arrow) → a < arrow_count Q → f (get_or Q.arrows a d) ≡ g a) → sum_by f Q.arrows ≡ sum_by g (range_with_len 0 (arrow_count Q))
sum_by-arrows Q f g h =
    let same : map f Q.arrows ≡ map g (range_with_len 0 (arrow_count Q)) =
    fill_by_all g (map f Q.arrows) (arrow_count Q) 0 (length-map Q.arrows f) (λ k l. at Q.arrows k l h) in
    sym (sum-map f Q.arrows) ∙ ap sum same ∙ sum-map g (range_with_len 0 (arrow_count Q))
  where
    at : (xs : List Arrow) (k : ℕ) → k < length xs → ((a : ℕ) (d : Arrow) → a < length xs → f (get_or xs a d) ≡ g a) → get_or (map f xs) k 0 ≡ g k
    at [] k l h = absurd (omega arith)
    at (x ∷ xs) k l h = get_or-map f (x ∷ xs) k x 0 l ∙ h k x l

-- a path of one arrow more from v is an arrow from v and a path from its end
pub count_from-suc : (Q : Quiver) (n v : ℕ) → count_from Q (n + 1) v ≡ sum_by (λ (x : Arrow). cond (eqb x.from v) (count_from Q n x.to) 0) Q.arrows
count_from-suc Q n v =
    let test : Path → ℕ = λ p. cond (eqb p.start v) 1 0 in
    let all = range_with_len 0 (arrow_count Q) in
    let term = λ (x : Arrow). cond (eqb x.from v) (count_from Q n x.to) 0 in
    let lists : paths_of_length Q (n + 1) ≡ flat_map (behind_arrow Q (paths_of_length Q n)) all =
    ap (paths_of_length Q) (add-one n) ∙ paths_of_length-suc Q n in
    ap (sum_by test) lists
    ∙ sum_by-flat_map test (behind_arrow Q (paths_of_length Q n)) all
    ∙ sum_by-agree (λ a. sum_by test (behind_arrow Q (paths_of_length Q n) a)) (λ a. cond (eqb (source Q a) v) (count_from Q n (target Q a)) 0) all
    (λ a _. count_by-behind_arrow Q (paths_of_length Q n) a v)
    ∙ sym (sum_by-arrows Q term (λ a. cond (eqb (source Q a) v) (count_from Q n (target Q a)) 0)
    (λ a d l. λ i. cond (eqb (sym (source_is Q a d l) i) v) (count_from Q n (sym (target_is Q a d l) i)) 0))

turned : (w v : ℕ) → one_at w v ≡ one_at v w
turned w v =
    elim (cases_eq w v) [
      | inl e ↦ rw (eq-eqb w v e, eq-eqb v w (sym e)) refl
      | inr n ↦ rw (ne_eqb w v n, ne_eqb v w (λ e. n (sym e))) refl
    ]

pub count_from-zero : (Q : Quiver) (v : ℕ) → v < vertex_count Q → count_from Q 0 v ≡ 1
count_from-zero Q v h =
    ap (sum_by (λ (p : Path). cond (eqb p.start v) 1 0)) (paths_of_length-zero Q)
    ∙ sum_by-map (λ (p : Path). cond (eqb p.start v) 1 0) trivial_path (range_with_len 0 (vertex_count Q))
    ∙ sum_by-agree (λ w. cond (eqb w v) 1 0) (λ w. cond (eqb v w) 1 0) (range_with_len 0 (vertex_count Q)) (λ w _. turned w v)
    ∙ sum_by-once v 0 (vertex_count Q) (omega arith) (omega arith)

sum_by-missed : (s n : ℕ) → n ≤ s → sum_by (λ v. cond (eqb s v) 1 0) (range_with_len 0 n) ≡ 0
sum_by-missed s n h = sum_by-agree (λ v. cond (eqb s v) 1 0) (λ v. 0) (range_with_len 0 n) (λ v m. ap (λ b. cond b 1 0) (ne_eqb s v (λ e. omega (arith, Contains-from_range n v m, h, e)))) ∙ sum_by-zero (range_with_len 0 n)

pub count_from-zero_past : (Q : Quiver) (v : ℕ) → vertex_count Q ≤ v → count_from Q 0 v ≡ 0
count_from-zero_past Q v h =
    ap (sum_by (λ (p : Path). cond (eqb p.start v) 1 0)) (paths_of_length-zero Q)
    ∙ sum_by-map (λ (p : Path). cond (eqb p.start v) 1 0) trivial_path (range_with_len 0 (vertex_count Q))
    ∙ sum_by-agree (λ w. cond (eqb w v) 1 0) (λ w. cond (eqb v w) 1 0) (range_with_len 0 (vertex_count Q)) (λ w _. turned w v)
    ∙ sum_by-missed v (vertex_count Q) h

-- ---- saturated numbers

pub saturated-add : (a b : ℕ) → saturated (saturated a + saturated b) ≡ saturated (a + b)
saturated-add a b = omega arith

pub saturated-add_right : (a b : ℕ) → saturated (saturated a + b) ≡ saturated (a + b)
saturated-add_right a b = omega arith

pub saturated-sum : (f : ℕ → ℕ) (xs : List ℕ) → saturated (sum_by (λ v. saturated (f v)) xs) ≡ saturated (sum_by f xs)
saturated-sum f [] = refl
saturated-sum f (x ∷ xs) =
    omega (arith, sum_by-cons (λ v. saturated (f v)) x xs, sum_by-cons f x xs, saturated-sum f xs)

-- the total of a table is the number of paths of that length
pub saturated-total : (Q : Quiver) (n : ℕ) (counts : List ℕ) → HasEnds Q → vertex_count Q ≤ 32 → CountsPaths Q n counts → saturated (sum counts) ≡ saturated (length (paths_of_length Q n))
saturated-total Q n counts e small h =
    let is : counts ≡ map (λ v. saturated (count_from Q n v)) (range_with_len 0 32) =
    fill_by_all (λ v. saturated (count_from Q n v)) counts 32 0 h.size h.at in
    let total : length (paths_of_length Q n) ≡ sum_by (count_from Q n) (range_with_len 0 32) =
    length_by_starts 32 (paths_of_length Q n) (λ p m. omega (arith, (IsPath-from_length Q e n p m).0.starts, small)) in
    ap saturated (ap sum is ∙ sum-map (λ v. saturated (count_from Q n v)) (range_with_len 0 32))
    ∙ saturated-sum (count_from Q n) (range_with_len 0 32)
    ∙ ap saturated (sym total)

pub path_count-more : (Q : Quiver) (t : ℕ) → path_count Q (t + 1) ≡ path_count Q t + length (paths_of_length Q t)
path_count-more Q t =
    ap (path_count Q) (add-one t) ∙ ap length (paths_below-suc Q t) ∙ length-append (paths_below Q t) (paths_of_length Q t)
