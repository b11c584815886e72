-- The short paths by their places, and the table of where they lead.
use Rattle.std.proofs.Common.{ℕ, zero, suc, ◌≡◌, ◌<◌, ◌≤◌, ◌+◌, ◌-◌, ◌*◌, inl, inr, List, [], ◌∷◌, ◌++◌, length, take, drop, map, get_or, sym, ap, ◌∙◌, subst, arith, length-append}
use Rattle.std.specs.Prelude.{Contains}
use Rattle.std.specs.List.{range_with_len}
use Rattle.std.proofs.lemmas.Bool.{cases_lt}
use Rattle.std.proofs.lemmas.Nat.{same_from_place}
use Rattle.std.proofs.lemmas.List.{get_or_default, get_or_append_left, get_or_push, get_or-map, length-map, take-append-drop}
use Rattle.std.proofs.lemmas.List.FromFn.{get_or-range_with_len, length-range_with_len}
use Rattle.quiver_paths.specs.declared.Quiver.{Quiver}
use Rattle.quiver_paths.specs.declared.Path.{Path}
use Rattle.quiver_paths.specs.Quiver.{IsQuiver, HasEnds, vertex_count, arrow_count, source}
use Rattle.quiver_paths.specs.Path.{IsPath, Leads, path_length, concat, trivial_path, arrow_path}
use Rattle.quiver_paths.specs.PathList.{paths_below, paths_of_length, ListsPathsBelow}
use Rattle.quiver_paths.proofs.PathLemmas.{Leads-between, Leads-one, IsPath-concat, IsPath-arrow, path_length-concat}
use Rattle.quiver_paths.proofs.PathListLemmas.{paths_below-zero, paths_below-suc, paths_of_length-zero, lists_paths_below, lists_paths_once}
use Rattle.path_algebra.specs.Rows.{path_at}
use Rattle.path_reduction.specs.ShortPaths.{IsWalked, IsPlaceBehind, AreBehind, IsFront, StartsAt, HoldsPaths}

-- ---- places

pub path_at-is : (ps : List Path) (k : ℕ) (d : Path) → k < length ps → path_at ps k ≡ get_or ps k d
unfolding path_at
path_at-is ps k d l = get_or_default ps k (trivial_path 0) d l

pub path_at-read : (ps : List Path) (k : ℕ) (x : Path) → k < length ps → x ≡ get_or ps k x → x ≡ path_at ps k
path_at-read ps k x l e = e ∙ sym (path_at-is ps k x l)

pub path_at-listed : (ps : List Path) (k : ℕ) → k < length ps → Contains ps (path_at ps k)
path_at-listed ps k l = (k, l, sym (path_at-is ps k (path_at ps k) l))

pub path_at-place : (ps : List Path) (p : Path) → Contains ps p → (k : ℕ) × (k < length ps) × (path_at ps k ≡ p)
path_at-place ps p m = (m.0, m.1, path_at-is ps m.0 p m.1 ∙ m.2)

-- ---- trivial paths come first

starts_among : (ps qs : List Path) (v : ℕ) → StartsAt ps v → StartsAt (ps ++ qs) v
starts_among ps qs v s =
    let inside : v < length (ps ++ qs) = (let a = s.inside in omega (arith, a, length-append ps qs)) in
    record {
      inside = inside;
      trivial = path_at-is (ps ++ qs) v (trivial_path v) inside ∙ get_or_append_left ps qs (trivial_path v) v s.inside ∙ sym (path_at-is ps v (trivial_path v) s.inside) ∙ s.trivial;
    }

starts_trivial : (n v : ℕ) → v < n → StartsAt (map trivial_path (range_with_len 0 n)) v
starts_trivial n v l =
    let inside : v < length (map trivial_path (range_with_len 0 n)) = rw (length-map (range_with_len 0 n) trivial_path, length-range_with_len) l in
    record {
      inside = inside;
      trivial = path_at-is _ v (trivial_path v) inside ∙ get_or-map trivial_path (range_with_len 0 n) v v (trivial_path v) (rw length-range_with_len l) ∙ ap trivial_path (get_or-range_with_len 0 n v v l ∙ omega arith);
    }

pub starts_below : (Q : Quiver) (t v : ℕ) → v < vertex_count Q → StartsAt (paths_below Q (suc t)) v
starts_below Q zero v l =
    subst (λ ps. StartsAt ps v) (sym (paths_below-suc Q 0 ∙ (λ i. paths_below-zero Q i ++ paths_of_length-zero Q i))) (starts_trivial (vertex_count Q) v l)
starts_below Q (suc t) v l =
    subst (λ ps. StartsAt ps v) (sym (paths_below-suc Q (suc t))) (starts_among (paths_below Q (suc t)) (paths_of_length Q (suc t)) v (starts_below Q t v l))

last : (k : ℕ) → k ≡ k + 1 - 1
last k = omega arith

one_less : (t : ℕ) → 0 < t → suc (t - 1) ≡ t
one_less t l = omega (arith, l)

-- ---- a table that grows

pub behind_push : (ps : List Path) (arrows : ℕ) (behind longer : List ℕ) (j a entry : ℕ) → longer ≡ behind ++ entry ∷ [] → length behind ≡ j * arrows + a → a < arrows
    → IsPlaceBehind ps j a entry → AreBehind ps arrows behind → AreBehind ps arrows longer
behind_push ps arrows behind longer j a entry pushed size l is old = subst (AreBehind ps arrows) (sym pushed) (record {
  entry = λ i b m s. elim (cases_lt (i * arrows + b) (length behind)) [
    | inl n ↦ subst (IsPlaceBehind ps i b) (sym (get_or_append_left behind (entry ∷ []) 0 (i * arrows + b) n)) (old.entry i b m n)
    | inr n ↦
        let same : i * arrows + b ≡ length behind = omega (arith, n, s, length-append behind (entry ∷ [])) in
        let parts = same_from_place j a i b arrows l m (sym size ∙ sym same) in
        let read : get_or (behind ++ entry ∷ []) (i * arrows + b) 0 ≡ entry = get_or_push behind entry 0 (i * arrows + b) (sym same) in
        subst (λ x. IsPlaceBehind ps x b (get_or (behind ++ entry ∷ []) (i * arrows + b) 0)) parts.0
        (subst (λ x. IsPlaceBehind ps j x (get_or (behind ++ entry ∷ []) (i * arrows + b) 0)) parts.1
        (subst (IsPlaceBehind ps j a) (sym read) is))
  ];
})

module _ (Q : Quiver) (t : ℕ) (ps : List Path) (lists : ListsPathsBelow Q t ps) where
  pub listed_path : (k : ℕ) → k < length ps → IsPath Q (path_at ps k)
  listed_path k l = (lists.only (path_at ps k) (path_at-listed ps k l)).0

  pub listed_short : (k : ℕ) → k < length ps → path_length (path_at ps k) < t
  listed_short k l = (lists.only (path_at ps k) (path_at-listed ps k l)).1

  -- arrows behind a path lead on from its end
  walked_leads : (j k : ℕ) (xs : List ℕ) → j < length ps → IsWalked ps j xs k → Leads Q (path_at ps j).end xs (path_at ps k).end
  walked_leads j k xs l w =
      let p : Path = path_at ps j in
      let r : Path = path_at ps k in
      let leads : Leads Q p.start (p.arrows ++ xs) r.end = subst (λ (ys : List ℕ). Leads Q p.start ys r.end) w.whole (subst (λ (v : ℕ). Leads Q v r.arrows r.end) w.start (listed_path k w.inside).leads) in
      let b = Leads-between Q p.start p.arrows xs r.end leads in
      subst (λ (v : ℕ). Leads Q v xs r.end) (Leads-one Q p.start p.arrows b.0 p.end b.1 (listed_path j l).leads) b.2

  pub behind_apart : (j a : ℕ) → j < length ps → (source Q a ≡ (path_at ps j).end → ⊥) → IsPlaceBehind ps j a 0
  behind_apart j a l d = record { found = λ s. absurd (omega arith); none = λ e k w. d (walked_leads j k (a ∷ []) l w).1 }

  pub behind_long : (j a : ℕ) → t ≤ path_length (path_at ps j) + 1 → IsPlaceBehind ps j a 0
  behind_long j a b = record {
    found = λ s. absurd (omega arith);
    none = λ e k w. absurd (omega (arith, b, listed_short k w.inside, ap length w.whole, length-append (path_at ps j).arrows (a ∷ [])));
  }

  pub longer_listed : (j a : ℕ) → HasEnds Q → j < length ps → a < arrow_count Q → source Q a ≡ (path_at ps j).end → path_length (path_at ps j) + 1 < t
      → Contains ps (concat (path_at ps j) (arrow_path Q a))
  longer_listed j a e l m s b =
      lists.all (concat (path_at ps j) (arrow_path Q a)) (IsPath-concat Q (path_at ps j) (arrow_path Q a) (listed_path j l) (IsPath-arrow Q a e m) (sym s))
      (omega (arith, b, path_length-concat (path_at ps j) (arrow_path Q a)))

  pub behind_found : (j a k : ℕ) → k < length ps → path_at ps k ≡ concat (path_at ps j) (arrow_path Q a) → IsPlaceBehind ps j a (k + 1)
  behind_found j a k l e = record {
    found = λ s. subst (IsWalked ps j (a ∷ [])) (last k) (record { inside = l; start = ap (λ (p : Path). p.start) e; whole = ap (λ (p : Path). p.arrows) e });
    none = λ z. absurd (omega (arith, z));
  }

  -- the first arrows of a short path make one
  pub front_listed : (k n : ℕ) → k < length ps → n ≤ path_length (path_at ps k) → (m : ℕ) × IsFront ps k n m
  front_listed k n l le =
      let p : Path = path_at ps k in
      let leads : Leads Q p.start (take n p.arrows ++ drop n p.arrows) p.end = subst (λ (xs : List ℕ). Leads Q p.start xs p.end) (sym (take-append-drop n p.arrows)) (listed_path k l).leads in
      let b = Leads-between Q p.start (take n p.arrows) (drop n p.arrows) p.end leads in
      let front : Path = record { start = p.start; end = b.0; arrows = take n p.arrows } in
      let sum = ap length (take-append-drop n p.arrows) in
      let whole = length-append (take n p.arrows) (drop n p.arrows) in
      let short = listed_short k l in
      let place = path_at-place ps front (lists.all front (record { starts = (listed_path k l).starts; leads = b.1 }) (omega (arith, sum, whole, short))) in
      (place.0, record { inside = place.1; start = ap (λ (x : Path). x.start) place.2; arrows = ap (λ (x : Path). x.arrows) place.2 })

  label_below : (k : ℕ) → k < length ps → (a : ℕ) (xs ys : List ℕ) → (path_at ps k).arrows ≡ xs ++ a ∷ ys → a < arrow_count Q
  label_below k l a xs ys e =
      (Leads-between Q (path_at ps k).start xs (a ∷ ys) (path_at ps k).end (subst (λ (zs : List ℕ). Leads Q (path_at ps k).start zs (path_at ps k).end) e (listed_path k l).leads)).2.0

  pub holds_paths : IsQuiver Q → 0 < t → length ps ≤ 4096 → (behind : List ℕ) → length behind ≡ length ps * arrow_count Q → AreBehind ps (arrow_count Q) behind → HoldsPaths ps (arrow_count Q) behind
  holds_paths is some few behind size places = record {
    few = few;
    few_arrows = is.arrows_limit;
    size = size;
    places = places;
    labels = label_below;
    fronts = front_listed;
    starts = λ k l.
        subst (λ qs. StartsAt qs (path_at ps k).start)
        (ap (paths_below Q) (one_less t some) ∙ sym (lists_paths_once Q t ps (paths_below Q t) lists (lists_paths_below Q is.ends t)))
        (starts_below Q (t - 1) (path_at ps k).start (listed_path k l).starts);
  }

  pub few_listed : HasEnds Q → length (paths_below Q t) ≤ 4096 → length ps ≤ 4096
  few_listed e few = subst (λ qs. length qs ≤ 4096) (lists_paths_once Q t (paths_below Q t) ps (lists_paths_below Q e t) lists) few
