-- The list of all paths below a length: it has each path once, in ascending order.
use Rattle.std.proofs.Common.{ℕ, zero, suc, ◌+◌, ◌≡◌, ◌<◌, List, [], ◌++◌, length, map, filter, get_or, eqb, refl, sym, ◌∙◌, inl, inr, arith, subst}
use Rattle.std.specs.Prelude.{Contains}
use Rattle.std.specs.List.{flat_map, range_with_len}
use Rattle.std.proofs.lemmas.Bool.{eqb-true, eq-eqb, cases_lt, cases_order}
use Rattle.std.proofs.lemmas.List.{get_or_default}
use Rattle.std.proofs.lemmas.List.Elements.{Contains-append_left, Contains-append_right, Contains-append_cases}
use Rattle.quiver_paths.specs.declared.Quiver.{Quiver}
use Rattle.quiver_paths.specs.declared.Path.{Path}
use Rattle.quiver_paths.specs.Quiver.{vertex_count, arrow_count, target, HasEnds}
use Rattle.quiver_paths.specs.Path.{IsPath, path_length, concat, trivial_path, arrow_path}
use Rattle.quiver_paths.specs.PathParts.{IsArrowThen}
use Rattle.quiver_paths.specs.PathOrder.{IsSmaller, IsAscending, by_arrows, by_start}
use Rattle.quiver_paths.specs.PathList.{behind_arrow, paths_of_length, paths_below, ListsPathsBelow}
use Rattle.quiver_paths.proofs.ListLemmas.{Contains-map, Contains-from_map, Contains-filter, Contains-from_filter, Contains-flat_map, Contains-from_flat_map, Contains-range, Contains-from_range, Contains-nil, AllPairs-nil, AllPairs-append, AllPairs-map, AllPairs-members, AllPairs-sieve, AllPairs-flat_map, AllPairs-range, ascending_once}
use Rattle.quiver_paths.proofs.PathLemmas.{IsPath-trivial, IsPath-arrow, IsPath-concat, path_length-concat, trivial_from_length, begins_with_arrow, length-arrow_then}
use Rattle.quiver_paths.proofs.PathOrderLemmas.{smaller_from_comes_before, IsSmaller-from_shorter, IsSmaller-concat_left, IsSmaller-irreflexive, length_of_smaller, IsSmaller-asymmetric}

-- ---- the paths of one length

pub paths_of_length-zero : (Q : Quiver) → paths_of_length Q 0 ≡ map trivial_path (range_with_len 0 (vertex_count Q))
unfolding paths_of_length
paths_of_length-zero Q = refl

pub paths_of_length-suc : (Q : Quiver) (n : ℕ) → paths_of_length Q (suc n) ≡ flat_map (behind_arrow Q (paths_of_length Q n)) (range_with_len 0 (arrow_count Q))
unfolding paths_of_length
paths_of_length-suc Q n = refl

-- what begins with an arrow
record Begins (Q : Quiver) (ps : List Path) (a : ℕ) (p : Path) : Type 0 where
  rest : Path
  rest_is : Contains ps rest
  meets : target Q a ≡ rest.start
  whole : concat (arrow_path Q a) rest ≡ p

begins : (Q : Quiver) (ps : List Path) (a : ℕ) (p : Path) → Contains (behind_arrow Q ps a) p → Begins Q ps a p
begins Q ps a p h =
    let found = Contains-from_map (concat (arrow_path Q a)) (filter (λ q. eqb q.start (target Q a)) ps) p h in
    let kept = Contains-from_filter (λ q. eqb q.start (target Q a)) ps found.0 found.1 in
    record { rest = found.0; rest_is = kept.0; meets = sym (eqb-true found.0.start (target Q a) kept.1); whole = found.2 }

pub IsPath-from_length : (Q : Quiver) → HasEnds Q → (n : ℕ) (p : Path) → Contains (paths_of_length Q n) p → IsPath Q p × (path_length p ≡ n)
IsPath-from_length Q e zero p h =
    let found = Contains-from_map trivial_path (range_with_len 0 (vertex_count Q)) p (subst (λ ps. Contains ps p) (paths_of_length-zero Q) h) in
    let low : found.0 < vertex_count Q = Contains-from_range (vertex_count Q) found.0 found.1 in
    subst (λ (x : Path). IsPath Q x × (path_length x ≡ 0)) found.2 (IsPath-trivial Q found.0 low, refl)
IsPath-from_length Q e (suc n) p h =
    let found =
    Contains-from_flat_map (behind_arrow Q (paths_of_length Q n)) (range_with_len 0 (arrow_count Q)) p
    (subst (λ ps. Contains ps p) (paths_of_length-suc Q n) h) in
    let low : found.0 < arrow_count Q = Contains-from_range (arrow_count Q) found.0 found.1 in
    let b : Begins Q (paths_of_length Q n) found.0 p = begins Q (paths_of_length Q n) found.0 p found.2 in
    let rest = IsPath-from_length Q e n b.rest b.rest_is in
    let long : path_length (concat (arrow_path Q found.0) b.rest) ≡ suc n =
    path_length-concat (arrow_path Q found.0) b.rest ∙ omega (arith, rest.1) in
    subst (λ (x : Path). IsPath Q x × (path_length x ≡ suc n)) b.whole
    (IsPath-concat Q (arrow_path Q found.0) b.rest (IsPath-arrow Q found.0 e low) rest.0 b.meets, long)

pub Contains-paths_of_length : (Q : Quiver) → HasEnds Q → (n : ℕ) (p : Path) → IsPath Q p → path_length p ≡ n → Contains (paths_of_length Q n) p
Contains-paths_of_length Q e zero p h l =
    subst (λ ps. Contains ps p) (sym (paths_of_length-zero Q))
    (subst (λ (x : Path). Contains (map trivial_path (range_with_len 0 (vertex_count Q))) x) (sym (trivial_from_length Q p h l))
    (Contains-map trivial_path (range_with_len 0 (vertex_count Q)) p.start (Contains-range (vertex_count Q) p.start h.starts)))
Contains-paths_of_length Q e (suc n) p h l =
    let b = begins_with_arrow Q p e h (omega arith) in
    let a : ℕ = b.0 in
    let rest : Path = b.1 in
    let parts : IsArrowThen Q p a rest = b.2 in
    let short : path_length rest ≡ n = omega (arith, length-arrow_then Q p a rest parts, l) in
    let member : Contains (paths_of_length Q n) rest = Contains-paths_of_length Q e n rest parts.rest_is short in
    let kept : Contains (filter (λ q. eqb q.start (target Q a)) (paths_of_length Q n)) rest =
    Contains-filter (λ q. eqb q.start (target Q a)) (paths_of_length Q n) rest member
    (eq-eqb rest.start (target Q a) (sym parts.meets)) in
    let behind : Contains (behind_arrow Q (paths_of_length Q n) a) p =
    subst (λ (x : Path). Contains (behind_arrow Q (paths_of_length Q n) a) x) parts.whole
    (Contains-map (concat (arrow_path Q a)) (filter (λ q. eqb q.start (target Q a)) (paths_of_length Q n)) rest kept) in
    subst (λ ps. Contains ps p) (sym (paths_of_length-suc Q n))
    (Contains-flat_map (behind_arrow Q (paths_of_length Q n)) (range_with_len 0 (arrow_count Q)) a p
    (Contains-range (arrow_count Q) a parts.arrow_is) behind)

behind_arrow_ascending : (Q : Quiver) (ps : List Path) (a : ℕ) → IsAscending ps → IsAscending (behind_arrow Q ps a)
behind_arrow_ascending Q ps a h =
    let test = λ (q : Path). eqb q.start (target Q a) in
    AllPairs-map IsSmaller (concat (arrow_path Q a)) (filter test ps)
    (AllPairs-members IsSmaller (λ x y. IsSmaller (concat (arrow_path Q a) x) (concat (arrow_path Q a) y)) (filter test ps)
    (λ x y mx my s.
    IsSmaller-concat_left (arrow_path Q a) x y
    (sym (eqb-true x.start (target Q a) (Contains-from_filter test ps x mx).1))
    (sym (eqb-true y.start (target Q a) (Contains-from_filter test ps y my).1))
    s)
    (AllPairs-sieve IsSmaller test ps h))

-- paths of one length that begin with different arrows
first_arrow_decides : (Q : Quiver) (a b : ℕ) (p q : Path) → a < b → path_length p ≡ path_length q → IsSmaller (concat (arrow_path Q a) p) (concat (arrow_path Q b) q)
first_arrow_decides Q a b p q h l =
    smaller_from_comes_before (concat (arrow_path Q a) p) (concat (arrow_path Q b) q)
    (by_arrows (path_length-concat (arrow_path Q a) p ∙ omega (arith, l) ∙ sym (path_length-concat (arrow_path Q b) q)) (inl h))

pub paths_of_length_ascending : (Q : Quiver) → HasEnds Q → (n : ℕ) → IsAscending (paths_of_length Q n)
paths_of_length_ascending Q e zero =
    subst IsAscending (sym (paths_of_length-zero Q))
    (AllPairs-map IsSmaller trivial_path (range_with_len 0 (vertex_count Q))
    (AllPairs-members (λ v w. v < w) (λ v w. IsSmaller (trivial_path v) (trivial_path w)) (range_with_len 0 (vertex_count Q))
    (λ v w _ _ h. smaller_from_comes_before (trivial_path v) (trivial_path w) (by_start refl h))
    (AllPairs-range (vertex_count Q))))
paths_of_length_ascending Q e (suc n) =
    subst IsAscending (sym (paths_of_length-suc Q n))
    (AllPairs-flat_map (λ a b. a < b) IsSmaller (behind_arrow Q (paths_of_length Q n)) (range_with_len 0 (arrow_count Q))
    (AllPairs-range (arrow_count Q))
    (λ a _. behind_arrow_ascending Q (paths_of_length Q n) a (paths_of_length_ascending Q e n))
    (λ a b h p q mp mq.
    let x : Begins Q (paths_of_length Q n) a p = begins Q (paths_of_length Q n) a p mp in
    let y : Begins Q (paths_of_length Q n) b q = begins Q (paths_of_length Q n) b q mq in
    let same : path_length x.rest ≡ path_length y.rest =
    (IsPath-from_length Q e n x.rest x.rest_is).1 ∙ sym (IsPath-from_length Q e n y.rest y.rest_is).1 in
    subst (λ (z : Path). IsSmaller p z) y.whole
    (subst (λ (z : Path). IsSmaller z (concat (arrow_path Q b) y.rest)) x.whole (first_arrow_decides Q a b x.rest y.rest h same))))

-- ---- the paths below a length

pub paths_below-zero : (Q : Quiver) → paths_below Q 0 ≡ []
unfolding paths_below
paths_below-zero Q = refl

pub paths_below-suc : (Q : Quiver) (t : ℕ) → paths_below Q (suc t) ≡ paths_below Q t ++ paths_of_length Q t
unfolding paths_below
paths_below-suc Q t = refl

pub IsPath-from_below : (Q : Quiver) → HasEnds Q → (t : ℕ) (p : Path) → Contains (paths_below Q t) p → IsPath Q p × (path_length p < t)
IsPath-from_below Q e zero p h = absurd (Contains-nil p (subst (λ ps. Contains ps p) (paths_below-zero Q) h))
IsPath-from_below Q e (suc t) p h =
    elim (Contains-append_cases (paths_below Q t) (paths_of_length Q t) p (subst (λ ps. Contains ps p) (paths_below-suc Q t) h)) [
      | inl l ↦ let rest = IsPath-from_below Q e t p l in (rest.0, omega (arith, rest.1))
      | inr r ↦ let last = IsPath-from_length Q e t p r in (last.0, omega (arith, last.1))
    ]

pub Contains-paths_below : (Q : Quiver) → HasEnds Q → (t : ℕ) (p : Path) → IsPath Q p → path_length p < t → Contains (paths_below Q t) p
Contains-paths_below Q e zero p h l = absurd (omega arith)
Contains-paths_below Q e (suc t) p h l =
    subst (λ ps. Contains ps p) (sym (paths_below-suc Q t))
    (elim (cases_lt (path_length p) t) [
      | inl short ↦ Contains-append_left (paths_below Q t) (paths_of_length Q t) p (Contains-paths_below Q e t p h short)
      | inr long ↦
          Contains-append_right (paths_below Q t) (paths_of_length Q t) p (Contains-paths_of_length Q e t p h (omega (arith, long, l)))
    ])

pub paths_below_ascending : (Q : Quiver) → HasEnds Q → (t : ℕ) → IsAscending (paths_below Q t)
paths_below_ascending Q e zero = subst IsAscending (sym (paths_below-zero Q)) (AllPairs-nil IsSmaller)
paths_below_ascending Q e (suc t) =
    subst IsAscending (sym (paths_below-suc Q t))
    (AllPairs-append IsSmaller (paths_below Q t) (paths_of_length Q t) (paths_below_ascending Q e t) (paths_of_length_ascending Q e t)
    (λ p q mp mq.
    let short = (IsPath-from_below Q e t p mp).1 in
    let long = (IsPath-from_length Q e t q mq).1 in
    IsSmaller-from_shorter p q (omega (arith, short, long))))

pub lists_paths_below : (Q : Quiver) → HasEnds Q → (t : ℕ) → ListsPathsBelow Q t (paths_below Q t)
lists_paths_below Q e t =
    record {
      ascending = paths_below_ascending Q e t;
      all = Contains-paths_below Q e t;
      only = IsPath-from_below Q e t;
    }

-- a quiver has one such list
pub lists_paths_once : (Q : Quiver) (t : ℕ) (ps qs : List Path) → ListsPathsBelow Q t ps → ListsPathsBelow Q t qs → ps ≡ qs
lists_paths_once Q t ps qs h g =
    ascending_once IsSmaller IsSmaller-irreflexive IsSmaller-asymmetric ps qs h.ascending g.ascending
    (λ p m. let is = h.only p m in g.all p is.0 is.1)
    (λ p m. let is = g.only p m in h.all p is.0 is.1)

-- ---- places in the list, and induction along the order

-- a smaller path stands at a smaller place
pub smaller_places : (ps : List Path) → IsAscending ps → (i j : ℕ) (d : Path) → i < length ps → j < length ps → IsSmaller (get_or ps i d) (get_or ps j d) → i < j
smaller_places ps h i j d li lj s =
    elim (cases_order i j) [
      | inl e ↦ absurd (IsSmaller-irreflexive (get_or ps i d) (subst (λ k. IsSmaller (get_or ps i d) (get_or ps k d)) (sym e) s))
      | inr either ↦
          elim either [
            | inl below ↦ below
            | inr above ↦ absurd (IsSmaller-asymmetric (get_or ps i d) (get_or ps j d) s (h j i d above li))
          ]
    ]

-- the same of members
smaller_members : (ps : List Path) → IsAscending ps → (p q : Path) (m : Contains ps p) (n : Contains ps q) → IsSmaller p q → m.0 < n.0
smaller_members ps h p q m n s =
    let first : get_or ps m.0 q ≡ p = get_or_default ps m.0 q p m.1 ∙ m.2 in
    smaller_places ps h m.0 n.0 q m.1 n.1 (subst (λ x. IsSmaller x (get_or ps n.0 q)) (sym first) (subst (λ x. IsSmaller p x) (sym n.2) s))

-- what holds of a path of a quiver whenever it holds of all smaller ones holds of each
pub smaller_induction : (Q : Quiver) → HasEnds Q → (P : Path → Type 0) → ((p : Path) → IsPath Q p → ((q : Path) → IsPath Q q → IsSmaller q p → P q) → P p) → (p : Path) → IsPath Q p → P p
smaller_induction Q e P step p h = by (m.0 + 1) p m (omega arith)
  where
    t : ℕ
    t = path_length p + 1

    ps : List Path
    ps = paths_below Q t

    lists : ListsPathsBelow Q t ps
    lists = lists_paths_below Q e t

    m : Contains ps p
    m = lists.all p h (omega arith)

    by : (n : ℕ) (q : Path) (k : Contains ps q) → k.0 < n → P q
    by zero q k l = absurd (omega arith)
    by (suc n) q k l =
        let is = lists.only q k in
        step q is.0
        (λ r hr s.
        let short : path_length r < t = omega (arith, is.1, length_of_smaller r q s) in
        let j : Contains ps r = lists.all r hr short in
        by n r j (omega (arith, smaller_members ps lists.ascending r q j k s)))
