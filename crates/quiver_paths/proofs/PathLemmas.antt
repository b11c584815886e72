-- Paths: their ends, concatenation, and that a path splits at each place in exactly one way.
use Rattle.std.proofs.Common.{ℕ, ◌+◌, ◌-◌, ◌≡◌, ◌<◌, ◌≤◌, List, [], ◌∷◌, ◌++◌, length, take, drop, refl, sym, ap, ◌∙◌, arith, subst, length-append, append_assoc}
use Rattle.std.proofs.lemmas.List.{append-nil, append_cancel_left, append_cancel_right, take-append-drop, length-take-le, take_at, drop_at}
use Rattle.quiver_paths.specs.declared.Quiver.{Quiver}
use Rattle.quiver_paths.specs.declared.Path.{Path}
use Rattle.quiver_paths.specs.Quiver.{vertex_count, arrow_count, target, HasEnds}
use Rattle.quiver_paths.specs.PathParts.{IsCut, IsArrowThen, IsThenArrow}
use Rattle.quiver_paths.specs.Path.{Leads, IsPath, path_length, Meets, concat, trivial_path, arrow_path, IsFactor}

-- ---- ends

-- arrows lead from one vertex to one other alone
pub Leads-one : (Q : Quiver) (u : ℕ) (xs : List ℕ) (w w' : ℕ) → Leads Q u xs w → Leads Q u xs w' → w ≡ w'
Leads-one Q u [] w w' h g = sym h ∙ g
Leads-one Q u (a ∷ xs) w w' h g = Leads-one Q (target Q a) xs w w' h.2 g.2

pub Leads-append : (Q : Quiver) (u : ℕ) (xs : List ℕ) (v : ℕ) (ys : List ℕ) (w : ℕ) → Leads Q u xs v → Leads Q v ys w → Leads Q u (xs ++ ys) w
Leads-append Q u [] v ys w h g = subst (λ (k : ℕ). Leads Q k ys w) (sym h) g
Leads-append Q u (a ∷ xs) v ys w h g = (h.0, h.1, Leads-append Q (target Q a) xs v ys w h.2 g)

-- arrows that lead on after others pass through a vertex between
pub Leads-between : (Q : Quiver) (u : ℕ) (xs ys : List ℕ) (w : ℕ) → Leads Q u (xs ++ ys) w → (v : ℕ) × Leads Q u xs v × Leads Q v ys w
Leads-between Q u [] ys w h = (u, refl, h)
Leads-between Q u (a ∷ xs) ys w h =
    let rest = Leads-between Q (target Q a) xs ys w h.2 in
    (rest.0, (h.0, h.1, rest.1), rest.2)

pub Leads-end : (Q : Quiver) → HasEnds Q → (u : ℕ) (xs : List ℕ) (w : ℕ) → u < vertex_count Q → Leads Q u xs w → w < vertex_count Q
Leads-end Q e u [] w s h = subst (λ (k : ℕ). k < vertex_count Q) h s
Leads-end Q e u (a ∷ xs) w s h = Leads-end Q e (target Q a) xs w (e.targets a h.0) h.2

pub IsPath-end : (Q : Quiver) (p : Path) → HasEnds Q → IsPath Q p → p.end < vertex_count Q
IsPath-end Q p e h = Leads-end Q e p.start p.arrows p.end h.starts h.leads

-- ---- equal paths

pub same_path : (p q : Path) → p.start ≡ q.start → p.end ≡ q.end → p.arrows ≡ q.arrows → p ≡ q
same_path p q s e a = λ i. record { start = s i; end = e i; arrows = a i }

-- two paths of a quiver with one start and the same arrows are equal
pub IsPath-same : (Q : Quiver) (p q : Path) → IsPath Q p → IsPath Q q → p.start ≡ q.start → p.arrows ≡ q.arrows → p ≡ q
IsPath-same Q p q h g s a =
    let leads : Leads Q q.start q.arrows p.end =
    subst (λ (xs : List ℕ). Leads Q q.start xs p.end) a (subst (λ (k : ℕ). Leads Q k p.arrows p.end) s h.leads) in
    same_path p q s (Leads-one Q q.start q.arrows p.end q.end leads g.leads) a

-- ---- trivial paths and arrows

pub IsPath-trivial : (Q : Quiver) (v : ℕ) → v < vertex_count Q → IsPath Q (trivial_path v)
IsPath-trivial Q v h = record { starts = h; leads = refl }

-- a path without arrows is the trivial path at its start
pub trivial_from_length : (Q : Quiver) (p : Path) → IsPath Q p → path_length p ≡ 0 → p ≡ trivial_path p.start
trivial_from_length Q p h z =
    let none : p.arrows ≡ [] = no_items p.arrows z in
    let leads : Leads Q p.start [] p.end = subst (λ (xs : List ℕ). Leads Q p.start xs p.end) none h.leads in
    same_path p (trivial_path p.start) refl (sym leads) none
  where
    no_items : (xs : List ℕ) → length xs ≡ 0 → xs ≡ []
    no_items [] z = refl
    no_items (x ∷ xs) z = absurd (omega arith)

pub IsPath-arrow : (Q : Quiver) (a : ℕ) → HasEnds Q → a < arrow_count Q → IsPath Q (arrow_path Q a)
IsPath-arrow Q a e h = record { starts = e.sources a h; leads = (h, refl, refl) }

-- ---- concatenation

pub IsPath-concat : (Q : Quiver) (p q : Path) → IsPath Q p → IsPath Q q → Meets p q → IsPath Q (concat p q)
IsPath-concat Q p q h g m =
    let leads : Leads Q p.end q.arrows q.end = subst (λ (k : ℕ). Leads Q k q.arrows q.end) (sym m) g.leads in
    record { starts = h.starts; leads = Leads-append Q p.start p.arrows p.end q.arrows q.end h.leads leads }

pub path_length-concat : (p q : Path) → path_length (concat p q) ≡ path_length p + path_length q
path_length-concat p q = length-append p.arrows q.arrows

pub concat_assoc : (p q r : Path) → concat (concat p q) r ≡ concat p (concat q r)
concat_assoc p q r = λ i. record { start = p.start; end = r.end; arrows = append_assoc p.arrows q.arrows r.arrows i }

pub concat-trivial_left : (p : Path) → concat (trivial_path p.start) p ≡ p
concat-trivial_left p = refl

pub concat-trivial_right : (p : Path) → concat p (trivial_path p.end) ≡ p
concat-trivial_right p = λ i. record { start = p.start; end = p.end; arrows = append-nil p.arrows i }

pub concat_cancel_left : (u p q : Path) → Meets u p → Meets u q → concat u p ≡ concat u q → p ≡ q
concat_cancel_left u p q m n e =
    same_path p q (sym m ∙ n) (ap (λ (x : Path). x.end) e) (append_cancel_left u.arrows p.arrows q.arrows (ap (λ (x : Path). x.arrows) e))

pub concat_cancel_right : (p q v : Path) → Meets p v → Meets q v → concat p v ≡ concat q v → p ≡ q
concat_cancel_right p q v m n e =
    same_path p q (ap (λ (x : Path). x.start) e) (m ∙ sym n) (append_cancel_right p.arrows q.arrows v.arrows (ap (λ (x : Path). x.arrows) e))

pub concat_cancel : (u p q v : Path) → Meets u p → Meets u q → Meets p v → Meets q v → concat u (concat p v) ≡ concat u (concat q v) → p ≡ q
concat_cancel u p q v mu nu mv nv e =
    concat_cancel_right p q v mv nv (concat_cancel_left u (concat p v) (concat q v) mu nu e)

-- ---- splitting

pub cut : (Q : Quiver) (p : Path) (k : ℕ) → HasEnds Q → IsPath Q p → k ≤ path_length p → (front : Path) × (rest : Path) × IsCut Q p k front rest
cut Q p k e h le =
    let joined : take k p.arrows ++ drop k p.arrows ≡ p.arrows = take-append-drop k p.arrows in
    let leads : Leads Q p.start (take k p.arrows ++ drop k p.arrows) p.end =
    subst (λ (xs : List ℕ). Leads Q p.start xs p.end) (sym joined) h.leads in
    let between = Leads-between Q p.start (take k p.arrows) (drop k p.arrows) p.end leads in (
      record { start = p.start; end = between.0; arrows = take k p.arrows },
      record { start = between.0; end = p.end; arrows = drop k p.arrows },
      record {
        front_is = record { starts = h.starts; leads = between.1 };
        rest_is = record { starts = Leads-end Q e p.start (take k p.arrows) between.0 h.starts between.1; leads = between.2 };
        meets = refl;
        whole = λ i. record { start = p.start; end = p.end; arrows = joined i };
        front_length = length-take-le k p.arrows le;
      },
    )

-- the rest has the arrows that are left
pub rest_length : (Q : Quiver) (p : Path) (k : ℕ) (front rest : Path) → IsCut Q p k front rest → k + path_length rest ≡ path_length p
rest_length Q p k front rest s =
    let lengths : path_length front + path_length rest ≡ path_length p = sym (path_length-concat front rest) ∙ ap path_length s.whole in
    omega (arith, lengths, s.front_length)

-- two cuts at one place have the same parts
pub cut_once : (Q : Quiver) (p : Path) (k : ℕ) (u v u' v' : Path) → IsCut Q p k u v → IsCut Q p k u' v' → (u ≡ u') × (v ≡ v')
cut_once Q p k u v u' v' s t =
    let same : concat u v ≡ concat u' v' = s.whole ∙ sym t.whole in
    let arrows : u.arrows ++ v.arrows ≡ u'.arrows ++ v'.arrows = ap (λ (x : Path). x.arrows) same in
    let first : u.arrows ≡ u'.arrows =
    sym (take_at u.arrows v.arrows k s.front_length) ∙ ap (take k) arrows ∙ take_at u'.arrows v'.arrows k t.front_length in
    let second : v.arrows ≡ v'.arrows =
    sym (drop_at u.arrows v.arrows k s.front_length) ∙ ap (drop k) arrows ∙ drop_at u'.arrows v'.arrows k t.front_length in
    let fronts : u ≡ u' = IsPath-same Q u u' s.front_is t.front_is (ap (λ (x : Path). x.start) same) first in
    (fronts, same_path v v' (sym s.meets ∙ ap (λ (x : Path). x.end) fronts ∙ t.meets) (ap (λ (x : Path). x.end) same) second)

-- a path of one arrow is that arrow
pub arrow_from_length : (Q : Quiver) (p : Path) → IsPath Q p → path_length p ≡ 1 → (a : ℕ) × (a < arrow_count Q) × (p ≡ arrow_path Q a)
arrow_from_length Q p h e = by p.arrows refl e
  where
    by : (xs : List ℕ) → p.arrows ≡ xs → length xs ≡ 1 → (a : ℕ) × (a < arrow_count Q) × (p ≡ arrow_path Q a)
    by [] is e = absurd (omega arith)
    by (a ∷ []) is e =
        let leads : Leads Q p.start (a ∷ []) p.end = subst (λ (xs : List ℕ). Leads Q p.start xs p.end) is h.leads in
        (a, leads.0, same_path p (arrow_path Q a) (sym leads.1) (sym leads.2) is)
    by (a ∷ b ∷ xs) is e = absurd (omega arith)

arrow_then_from_cut : (Q : Quiver) (p : Path) (k : ℕ) (front rest : Path) (a : ℕ) → IsCut Q p k front rest → a < arrow_count Q → front ≡ arrow_path Q a → IsArrowThen Q p a rest
arrow_then_from_cut Q p k front rest a s h is =
    record {
      arrow_is = h;
      rest_is = s.rest_is;
      meets = sym (ap (λ (x : Path). x.end) is) ∙ s.meets;
      whole = ap (λ (x : Path). concat x rest) (sym is) ∙ s.whole;
    }

then_arrow_from_cut : (Q : Quiver) (p : Path) (k : ℕ) (front rest : Path) (a : ℕ) → IsCut Q p k front rest → a < arrow_count Q → rest ≡ arrow_path Q a → IsThenArrow Q p front a
then_arrow_from_cut Q p k front rest a s h is =
    record {
      front_is = s.front_is;
      arrow_is = h;
      meets = s.meets ∙ ap (λ (x : Path). x.start) is;
      whole = ap (concat front) (sym is) ∙ s.whole;
    }

-- a path that has arrows begins with one
pub begins_with_arrow : (Q : Quiver) (p : Path) → HasEnds Q → IsPath Q p → 0 < path_length p → (a : ℕ) × (rest : Path) × IsArrowThen Q p a rest
begins_with_arrow Q p e h l =
    let s = cut Q p 1 e h l in
    let one = arrow_from_length Q s.0 s.2.front_is s.2.front_length in
    (one.0, s.1, arrow_then_from_cut Q p 1 s.0 s.1 one.0 s.2 one.1 one.2)

-- and ends with one
pub ends_with_arrow : (Q : Quiver) (p : Path) → HasEnds Q → IsPath Q p → 0 < path_length p → (front : Path) × (a : ℕ) × IsThenArrow Q p front a
ends_with_arrow Q p e h l =
    let s = cut Q p (path_length p - 1) e h (omega arith) in
    let one = arrow_from_length Q s.1 s.2.rest_is (omega (arith, rest_length Q p (path_length p - 1) s.0 s.1 s.2)) in
    (s.0, one.0, then_arrow_from_cut Q p (path_length p - 1) s.0 s.1 one.0 s.2 one.1 one.2)

pub length-arrow_then : (Q : Quiver) (p : Path) (a : ℕ) (rest : Path) → IsArrowThen Q p a rest → path_length p ≡ path_length rest + 1
length-arrow_then Q p a rest h = ap path_length (sym h.whole) ∙ path_length-concat (arrow_path Q a) rest ∙ omega arith

pub length-then_arrow : (Q : Quiver) (p front : Path) (a : ℕ) → IsThenArrow Q p front a → path_length p ≡ path_length front + 1
length-then_arrow Q p front a h = ap path_length (sym h.whole) ∙ path_length-concat front (arrow_path Q a)

-- ---- factors

pub IsFactor-itself : (Q : Quiver) (p : Path) → HasEnds Q → IsPath Q p → IsFactor Q p p
IsFactor-itself Q p e h =
    record {
      before = trivial_path p.start;
      behind = trivial_path p.end;
      before_is = IsPath-trivial Q p.start h.starts;
      behind_is = IsPath-trivial Q p.end (IsPath-end Q p e h);
      meets_before = refl;
      meets_behind = refl;
      whole = sym (concat-trivial_right p);
    }

pub IsFactor-concat : (Q : Quiver) (u f v : Path) → IsPath Q u → IsPath Q v → Meets u f → Meets f v → IsFactor Q f (concat u (concat f v))
IsFactor-concat Q u f v hu hv m n =
    record { before = u; behind = v; before_is = hu; behind_is = hv; meets_before = m; meets_behind = n; whole = refl }

pub length-factor : (Q : Quiver) (f p : Path) (h : IsFactor Q f p) → path_length p ≡ path_length h.before + (path_length f + path_length h.behind)
length-factor Q f p h =
    ap path_length h.whole ∙ path_length-concat h.before (concat f h.behind) ∙ ap (λ n. path_length h.before + n) (path_length-concat f h.behind)

pub IsFactor-trans : (Q : Quiver) (f g p : Path) → IsFactor Q f g → IsFactor Q g p → IsFactor Q f p
IsFactor-trans Q f g p h k =
    let before_meets : Meets k.before h.before = k.meets_before ∙ ap (λ (x : Path). x.start) h.whole in
    let behind_meets : Meets h.behind k.behind = sym (ap (λ (x : Path). x.end) h.whole) ∙ k.meets_behind in
    let inner : concat g k.behind ≡ concat h.before (concat f (concat h.behind k.behind)) =
    ap (λ (x : Path). concat x k.behind) h.whole ∙ concat_assoc h.before (concat f h.behind) k.behind ∙ ap (concat h.before) (concat_assoc f h.behind k.behind) in
    record {
      before = concat k.before h.before;
      behind = concat h.behind k.behind;
      before_is = IsPath-concat Q k.before h.before k.before_is h.before_is before_meets;
      behind_is = IsPath-concat Q h.behind k.behind h.behind_is k.behind_is behind_meets;
      meets_before = h.meets_before;
      meets_behind = h.meets_behind;
      whole = k.whole ∙ ap (concat k.before) inner ∙ sym (concat_assoc k.before h.before (concat f (concat h.behind k.behind)));
    }

-- the arrows of a factor stand among those of the path, and where they do, a path with an arrow is a factor
pub IsFactor-arrows : (Q : Quiver) (f p : Path) (h : IsFactor Q f p) → p.arrows ≡ h.before.arrows ++ (f.arrows ++ h.behind.arrows)
IsFactor-arrows Q f p h = ap (λ (x : Path). x.arrows) h.whole

-- the start of arrows that lead on is known by the first of them
pub Leads-start : (Q : Quiver) (u u' : ℕ) (xs : List ℕ) (w w' : ℕ) → 0 < length xs → Leads Q u xs w → Leads Q u' xs w' → u ≡ u'
Leads-start Q u u' [] w w' l h g = absurd (omega arith)
Leads-start Q u u' (a ∷ xs) w w' l h g = sym h.1 ∙ g.1

pub IsFactor-from_arrows : (Q : Quiver) (f p : Path) (us vs : List ℕ) → HasEnds Q → IsPath Q f → IsPath Q p → 0 < path_length f → p.arrows ≡ us ++ (f.arrows ++ vs) → IsFactor Q f p
IsFactor-from_arrows Q f p us vs e hf hp l is =
    let leads : Leads Q p.start (us ++ (f.arrows ++ vs)) p.end = subst (λ (xs : List ℕ). Leads Q p.start xs p.end) is hp.leads in
    let first = Leads-between Q p.start us (f.arrows ++ vs) p.end leads in
    let second = Leads-between Q first.0 f.arrows vs p.end first.2 in
    let starts : first.0 ≡ f.start = Leads-start Q first.0 f.start f.arrows second.0 f.end l second.1 hf.leads in
    let ends : f.end ≡ second.0 =
    Leads-one Q f.start f.arrows f.end second.0 hf.leads (subst (λ (k : ℕ). Leads Q k f.arrows second.0) starts second.1) in
    let low : second.0 < vertex_count Q = subst (λ (k : ℕ). k < vertex_count Q) ends (IsPath-end Q f e hf) in
    record {
      before = record { start = p.start; end = first.0; arrows = us };
      behind = record { start = second.0; end = p.end; arrows = vs };
      before_is = record { starts = hp.starts; leads = first.1 };
      behind_is = record { starts = low; leads = second.2 };
      meets_before = starts;
      meets_behind = ends;
      whole = λ i. record { start = p.start; end = p.end; arrows = is i };
    }

-- arrows that lead to one vertex lead from one
Leads-from : (Q : Quiver) (u u' : ℕ) (xs : List ℕ) (w : ℕ) → Leads Q u xs w → Leads Q u' xs w → u ≡ u'
Leads-from Q u u' [] w h g = h ∙ sym g
Leads-from Q u u' (a ∷ xs) w h g = sym h.1 ∙ g.1

-- a factor of a path is a path
pub IsPath-factor : (Q : Quiver) (f p : Path) → HasEnds Q → IsPath Q p → IsFactor Q f p → IsPath Q f
IsPath-factor Q f p e hp h =
    let u : Path = h.before in
    let v : Path = h.behind in
    let leads : Leads Q u.start (u.arrows ++ (f.arrows ++ v.arrows)) v.end =
    subst (λ (x : Path). Leads Q x.start x.arrows x.end) h.whole hp.leads in
    let first = Leads-between Q u.start u.arrows (f.arrows ++ v.arrows) v.end leads in
    let starts : first.0 ≡ f.start = Leads-one Q u.start u.arrows first.0 u.end first.1 h.before_is.leads ∙ h.meets_before in
    let second = Leads-between Q first.0 f.arrows v.arrows v.end first.2 in
    let ends : second.0 ≡ f.end = Leads-from Q second.0 v.start v.arrows v.end second.2 h.behind_is.leads ∙ sym h.meets_behind in
    let low : u.end < vertex_count Q = IsPath-end Q u e h.before_is in
    record {
      starts = subst (λ (k : ℕ). k < vertex_count Q) h.meets_before low;
      leads = subst (λ (k : ℕ). Leads Q f.start f.arrows k) ends (subst (λ (k : ℕ). Leads Q k f.arrows second.0) starts second.1);
    }
