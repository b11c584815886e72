-- The steps of counting paths, over plain lists.
use Rattle.std.proofs.Common.{ℕ, ◌+◌, ◌≡◌, ◌<◌, ◌≤◌, List, length, take, set, get_or, eqb, ltb, cond, refl, sym, ap, ◌∙◌, inl, inr, arith, subst, replicate}
use Rattle.std.specs.Prelude.{sum_by}
use Rattle.std.proofs.lemmas.Bool.{eq-eqb, ne_eqb, cases_eq, cases_lt, lt-ltb, le-ltb}
use Rattle.std.proofs.lemmas.List.{get_or-set_same, get_or-set_other, get_or-replicate, take_all, length-set}
use Rattle.std.proofs.lemmas.List.Sums.{sum_by_more}
use Rattle.quiver_paths.specs.declared.Arrow.{Arrow}
use Rattle.quiver_paths.specs.declared.Quiver.{Quiver}
use Rattle.quiver_paths.specs.Quiver.{vertex_count, arrow_count, IsQuiver}
use Rattle.quiver_paths.specs.PathList.{saturated}
use Rattle.quiver_paths.specs.PathCount.{count_from, CountsPaths}
use Rattle.quiver_paths.proofs.QuiverLemmas.{from_below, to_below}
use Rattle.quiver_paths.proofs.PathCountLemmas.{count_from-suc, count_from-zero, count_from-zero_past, saturated-add}

-- the paths of one arrow more from v that begin with one of the given arrows
abbrev pub from_arrows : Quiver → ℕ → ℕ → List Arrow → ℕ
from_arrows Q n v xs = sum_by (λ (x : Arrow). cond (eqb x.from v) (count_from Q n x.to) 0) xs

-- a table counts what begins with one of the first k arrows
pub record CountsFirst (Q : Quiver) (counts : List ℕ) (k : ℕ) (longer : List ℕ) : Type 0 where
  pub size : length longer ≡ 32
  pub at : (n v : ℕ) → CountsPaths Q n counts → v < 32 → get_or longer v 0 ≡ saturated (from_arrows Q n v (take k Q.arrows))

pub CountsFirst-none : (Q : Quiver) (counts : List ℕ) → CountsFirst Q counts 0 (replicate 32 0)
CountsFirst-none Q counts = record { size = refl; at = λ n v h l. get_or-replicate 32 v 0 0 l }

pub CountsFirst-more : (Q : Quiver) (counts : List ℕ) (k : ℕ) (longer : List ℕ) (x : Arrow) → k < arrow_count Q → x ≡ get_or Q.arrows k x → x.from < 32 → x.to < 32 → CountsFirst Q counts k longer → CountsFirst Q counts (k + 1) (set longer x.from (saturated (get_or longer x.from 0 + get_or counts x.to 0)))
CountsFirst-more Q counts k longer x l is from to h =
    record {
      size = size;
      at = λ n v c below. step n v c below;
    }
  where
    sum : ℕ
    sum = saturated (get_or longer x.from 0 + get_or counts x.to 0)

    size : length (set longer x.from sum) ≡ 32
    size = simp length-set h.size

    step : (n v : ℕ) → CountsPaths Q n counts → v < 32 → get_or (set longer x.from sum) v 0 ≡ saturated (from_arrows Q n v (take (k + 1) Q.arrows))
    step n v c below =
        let more : from_arrows Q n v (take (k + 1) Q.arrows) ≡ from_arrows Q n v (take k Q.arrows) + cond (eqb x.from v) (count_from Q n x.to) 0 =
        sum_by_more (λ (y : Arrow). cond (eqb y.from v) (count_from Q n y.to) 0) Q.arrows k x l
        ∙ ap (λ (y : Arrow). from_arrows Q n v (take k Q.arrows) + cond (eqb y.from v) (count_from Q n y.to) 0) (sym is) in
        elim (cases_eq v x.from) [
          | inl e ↦
              let term : cond (eqb x.from v) (count_from Q n x.to) 0 ≡ count_from Q n x.to = ap (λ b. cond b (count_from Q n x.to) 0) (eq-eqb x.from v (sym e)) in
              let read : get_or (set longer x.from sum) v 0 ≡ sum = ap (λ j. get_or (set longer x.from sum) j 0) e ∙ get_or-set_same longer x.from sum 0 (omega (arith, h.size)) in
              read
              ∙ (λ i. saturated (h.at n x.from c from i + c.at x.to to i))
              ∙ saturated-add (from_arrows Q n x.from (take k Q.arrows)) (count_from Q n x.to)
              ∙ ap (λ j. saturated (from_arrows Q n j (take k Q.arrows) + count_from Q n x.to)) (sym e)
              ∙ ap (λ t. saturated (from_arrows Q n v (take k Q.arrows) + t)) (sym term)
              ∙ ap saturated (sym more)
          | inr ne ↦
              let term : cond (eqb x.from v) (count_from Q n x.to) 0 ≡ 0 = ap (λ b. cond b (count_from Q n x.to) 0) (ne_eqb x.from v (λ e. ne (sym e))) in
              let same : from_arrows Q n v (take (k + 1) Q.arrows) ≡ from_arrows Q n v (take k Q.arrows) = omega (arith, more, term) in
              get_or-set_other longer x.from v sum 0 ne ∙ h.at n v c below ∙ ap saturated (sym same)
        ]

pub CountsPaths-from_first : (Q : Quiver) (counts longer : List ℕ) (k : ℕ) → arrow_count Q ≤ k → CountsFirst Q counts k longer → (n : ℕ) → CountsPaths Q n counts → CountsPaths Q (n + 1) longer
CountsPaths-from_first Q counts longer k all h n c =
    record {
      size = h.size;
      at = λ v below. h.at n v c below ∙ ap (λ xs. saturated (from_arrows Q n v xs)) (take_all k Q.arrows all) ∙ ap saturated (sym (count_from-suc Q n v));
    }

-- one trivial path at each of the vertices
pub CountsPaths-trivial : (Q : Quiver) (counts : List ℕ) → length counts ≡ 32 → ((v : ℕ) → v < 32 → get_or counts v 0 ≡ cond (ltb v (vertex_count Q)) 1 0) → CountsPaths Q 0 counts
CountsPaths-trivial Q counts size h =
    record {
      size = size;
      at = λ v below.
          elim (cases_lt v (vertex_count Q)) [
            | inl low ↦ h v below ∙ ap (λ b. cond b 1 0) (lt-ltb v (vertex_count Q) low) ∙ ap saturated (sym (count_from-zero Q v low))
            | inr high ↦ h v below ∙ ap (λ b. cond b 1 0) (le-ltb v (vertex_count Q) high) ∙ ap saturated (sym (count_from-zero_past Q v high))
          ];
    }

-- the ends of an item of the list that a loop goes over
pub item_ends : (Q : Quiver) (items : List Arrow) (a : ℕ) (x : Arrow) → IsQuiver Q → items ≡ Q.arrows → a < length items → x ≡ get_or items a x → (x.from < 32) × (x.to < 32)
item_ends Q items a x q same h is =
    let below : a < arrow_count Q = subst (λ (xs : List Arrow). a < length xs) same h in
    let read : x ≡ get_or Q.arrows a x = is ∙ ap (λ (xs : List Arrow). get_or xs a x) same in
    let from : (get_or Q.arrows a x).from < vertex_count Q = from_below Q a x q.ends below in
    let to : (get_or Q.arrows a x).to < vertex_count Q = to_below Q a x q.ends below in
    (omega (arith, ap (λ (y : Arrow). y.from) read, from, q.vertices_limit), omega (arith, ap (λ (y : Arrow). y.to) read, to, q.vertices_limit))
