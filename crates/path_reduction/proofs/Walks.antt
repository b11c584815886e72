-- Walks along arrows from a place of the short paths.
use Rattle.std.proofs.Common.{ℕ, ◌≡◌, ◌≢◌, ◌<◌, ◌≤◌, ◌+◌, ◌-◌, ◌*◌, List, [], ◌∷◌, ◌++◌, length, take, drop, get_or, sym, ap, ◌∙◌, subst, arith, length-append, append_assoc}
use Rattle.std.specs.Prelude.{Option, None, Some, IfNone, IfSome}
use Rattle.std.proofs.lemmas.Nat.{row_fits}
use Rattle.std.proofs.lemmas.List.{append-nil, take_at, take-append-drop, drop_more, get_or_read}
use Rattle.quiver_paths.specs.declared.Path.{Path}
use Rattle.path_algebra.specs.Rows.{path_at}
use Rattle.path_reduction.proofs.PathPlaces.{path_at-read}
use Rattle.path_reduction.specs.ShortPaths.{IsWalked, IsAlong, StartsAt, HoldsPaths}

-- what is left of a walk
pub walked_rest : (ps : List Path) (j m k : ℕ) (xs ys : List ℕ) → IsWalked ps j xs m → IsWalked ps j (xs ++ ys) k → IsWalked ps m ys k
walked_rest ps j m k xs ys v w = record {
  inside = w.inside;
  start = w.start ∙ sym v.start;
  whole = w.whole ∙ sym (append_assoc (path_at ps j).arrows xs ys) ∙ ap (λ zs. zs ++ ys) (sym v.whole);
}

-- a walk that goes further goes to its first arrow
pub walked_first : (ps : List Path) (arrows : ℕ) (behind : List ℕ) (j k a : ℕ) (more : List ℕ) → HoldsPaths ps arrows behind → IsWalked ps j (a ∷ more) k → (m : ℕ) × IsWalked ps j (a ∷ []) m
walked_first ps arrows behind j k a more h w =
    let xs = (path_at ps j).arrows in
    let one = length-append xs (a ∷ []) in
    let all = ap length w.whole ∙ length-append xs (a ∷ more) in
    let f = h.fronts k (length (xs ++ a ∷ [])) w.inside (omega (arith, one, all)) in (
      f.0,
      record {
        inside = f.1.inside;
        start = f.1.start ∙ w.start;
        whole = f.1.arrows ∙ ap (take (length (xs ++ a ∷ []))) (w.whole ∙ sym (append_assoc xs (a ∷ []) more)) ∙ take_at (xs ++ a ∷ []) more (length (xs ++ a ∷ [])) (λ i. length (xs ++ a ∷ []));
      },
    )

pub walked_stuck : (ps : List Path) (j m k i : ℕ) (xs more : List ℕ) (d : ℕ) → i < length xs → IsWalked ps j (take i xs) m → IsWalked ps j (xs ++ more) k
    → IsWalked ps m (get_or xs i d ∷ (drop (i + 1) xs ++ more)) k
walked_stuck ps j m k i xs more d l v w =
    walked_rest ps j m k (take i xs) (get_or xs i d ∷ (drop (i + 1) xs ++ more)) v
    (subst (λ zs. IsWalked ps j zs k) (sym (ap (λ ys. take i xs ++ (ys ++ more)) (sym (drop_more xs i d l)) ∙ sym (append_assoc (take i xs) (drop i xs) more) ∙ ap (λ ys. ys ++ more) (take-append-drop i xs))) w)

-- where the table has a path's place behind an arrow
inside_table : (ps : List Path) (arrows : ℕ) (behind : List ℕ) (j a : ℕ) → HoldsPaths ps arrows behind → j < length ps → a < arrows → j * arrows + a < length behind
inside_table ps arrows behind j a h l m = omega (arith, m, h.size, row_fits j arrows (length ps) arrows l (omega arith))

pub stuck_at_entry : (ps : List Path) (arrows : ℕ) (behind : List ℕ) (j a entry : ℕ) → HoldsPaths ps arrows behind → j < length ps → a < arrows → entry ≡ get_or behind (j * arrows + a) entry
    → entry ≡ 0 → (more : List ℕ) (k : ℕ) → IsWalked ps j (a ∷ more) k → ⊥
stuck_at_entry ps arrows behind j a entry h l m e z more k w =
    let inside = inside_table ps arrows behind j a h l m in
    let first = walked_first ps arrows behind j k a more h w in
    (h.places.entry j a m inside).none (sym (get_or_read behind (j * arrows + a) entry inside e 0) ∙ z) first.0 first.1

pub walked_entry : (ps : List Path) (arrows : ℕ) (behind : List ℕ) (j a entry : ℕ) → HoldsPaths ps arrows behind → j < length ps → a < arrows → entry ≡ get_or behind (j * arrows + a) entry
    → entry ≢ 0 → IsWalked ps j (a ∷ []) (entry - 1)
walked_entry ps arrows behind j a entry h l m e n =
    let inside = inside_table ps arrows behind j a h l m in
    let at = get_or_read behind (j * arrows + a) entry inside e 0 in
    subst (λ x. IsWalked ps j (a ∷ []) (x - 1)) (sym at) ((h.places.entry j a m inside).found (omega (arith, at, n)))

-- the second part of a walk leads nowhere
pub walk_on_none : (ps : List Path) (j m : ℕ) (xs ys : List ℕ) (found : Option ℕ) → IsWalked ps j xs m → IfNone found ((more : List ℕ) (k : ℕ) → IsWalked ps m (ys ++ more) k → ⊥)
    → IfNone found ((k : ℕ) → IsWalked ps j (xs ++ ys) k → ⊥)
walk_on_none ps j m xs ys None v n = λ k w. n [] k (subst (λ zs. IsWalked ps m zs k) (sym (append-nil ys)) (walked_rest ps j m k xs ys v w))
walk_on_none ps j m xs ys (Some k) v n = tt

-- ---- walks from a vertex

-- what stands at the place of a vertex's number starts there where it is a vertex's
pub vertex_starts : (ps qs : List Path) (arrows : ℕ) (behind : List ℕ) (v : ℕ) (x : Path) → HoldsPaths ps arrows behind → ps ≡ qs → v < length ps → x ≡ get_or ps v x → x.start ≡ v → StartsAt qs v
vertex_starts ps qs arrows behind v x h same l is e =
    subst (λ rs. StartsAt rs v) same (subst (StartsAt ps) (ap (λ (p : Path). p.start) (sym (path_at-read ps v x l is)) ∙ e) (h.starts v l))

-- and nowhere else a short path starts
pub along_apart : (ps qs : List Path) (arrows : ℕ) (behind : List ℕ) (v : ℕ) (x : Path) (xs : List ℕ) → HoldsPaths ps arrows behind → ps ≡ qs → v < length ps → x ≡ get_or ps v x → (x.start ≡ v → ⊥)
    → (k : ℕ) → IsAlong qs v xs k → ⊥
along_apart ps qs arrows behind v x xs h same l is d k a =
    let b : IsAlong ps v xs k = subst (λ rs. IsAlong rs v xs k) (sym same) a in
    let s : StartsAt ps v = subst (StartsAt ps) b.start (h.starts k b.inside) in
    d (ap (λ (p : Path). p.start) (path_at-read ps v x l is ∙ s.trivial))

pub along_outside : (ps qs : List Path) (arrows : ℕ) (behind : List ℕ) (v : ℕ) (xs : List ℕ) → HoldsPaths ps arrows behind → ps ≡ qs → length ps ≤ v → (k : ℕ) → IsAlong qs v xs k → ⊥
along_outside ps qs arrows behind v xs h same l k a =
    let b : IsAlong ps v xs k = subst (λ rs. IsAlong rs v xs k) (sym same) a in
    let s : StartsAt ps v = subst (StartsAt ps) b.start (h.starts k b.inside) in
    omega (arith, l, s.inside)

along_walked : (ps : List Path) (v k : ℕ) (xs : List ℕ) → StartsAt ps v → IsWalked ps v xs k → IsAlong ps v xs k
along_walked ps v k xs s w = record {
  inside = w.inside;
  start = w.start ∙ ap (λ (p : Path). p.start) s.trivial;
  whole = w.whole ∙ ap (λ (p : Path). p.arrows ++ xs) s.trivial;
}

walked_along : (ps : List Path) (v k : ℕ) (xs : List ℕ) → StartsAt ps v → IsAlong ps v xs k → IsWalked ps v xs k
walked_along ps v k xs s a = record {
  inside = a.inside;
  start = a.start ∙ sym (ap (λ (p : Path). p.start) s.trivial);
  whole = a.whole ∙ sym (ap (λ (p : Path). p.arrows ++ xs) s.trivial);
}

walked_more : (ps : List Path) (j m k : ℕ) (xs ys : List ℕ) → IsWalked ps j xs m → IsWalked ps m ys k → IsWalked ps j (xs ++ ys) k
walked_more ps j m k xs ys v w = record {
  inside = w.inside;
  start = w.start ∙ v.start;
  whole = w.whole ∙ ap (λ zs. zs ++ ys) v.whole ∙ append_assoc (path_at ps j).arrows xs ys;
}

-- where its first part leads nowhere
pub along_stuck : (ps : List Path) (v : ℕ) (xs ys : List ℕ) → StartsAt ps v → ((more : List ℕ) (k : ℕ) → IsWalked ps v (xs ++ more) k → ⊥) → (k : ℕ) → IsAlong ps v (xs ++ ys) k → ⊥
along_stuck ps v xs ys s d k a = d ys k (walked_along ps v k (xs ++ ys) s a)

-- a walk from a vertex in two parts
pub along_some : (ps : List Path) (v m : ℕ) (xs ys : List ℕ) (found : Option ℕ) → StartsAt ps v → IsWalked ps v xs m → IfSome found (λ k. IsWalked ps m ys k)
    → IfSome found (λ k. IsAlong ps v (xs ++ ys) k)
along_some ps v m xs ys None s w f = tt
along_some ps v m xs ys (Some k) s w f = along_walked ps v k (xs ++ ys) s (walked_more ps v m k xs ys w f)

pub along_none : (ps : List Path) (v m : ℕ) (xs ys : List ℕ) (found : Option ℕ) → StartsAt ps v → IsWalked ps v xs m → IfNone found ((k : ℕ) → IsWalked ps m ys k → ⊥)
    → IfNone found ((k : ℕ) → IsAlong ps v (xs ++ ys) k → ⊥)
along_none ps v m xs ys None s w f = λ k a. f k (walked_rest ps v m k xs ys w (walked_along ps v k (xs ++ ys) s a))
along_none ps v m xs ys (Some k) s w f = tt
