-- Normal paths and their factors: a short path is normal or a tip, factors of normal paths are normal, and each tip has a minimal tip as a factor.
use Rattle.std.proofs.Common.{ℕ, zero, suc, ◌≡◌, ◌<◌, ◌≤◌, ◌⊎◌, inl, inr, List, [], length, get_or, reverse, refl, sym, ap, ap₂, ◌∙◌, subst, arith}
use Rattle.std.proofs.lemmas.Bool.{cases_lt}
use Rattle.linear_algebra.proofs.Rows.{IsInSpan-row}
use Rattle.linear_algebra.specs.Reduced.{leading}
use Rattle.quiver_paths.specs.declared.Quiver.{Quiver}
use Rattle.quiver_paths.specs.declared.Path.{Path}
use Rattle.quiver_paths.specs.Quiver.{HasEnds}
use Rattle.quiver_paths.specs.Path.{IsPath, path_length, Meets, concat, trivial_path, arrow_path, IsFactor}
use Rattle.quiver_paths.specs.PathOrder.{IsSmaller}
use Rattle.quiver_paths.specs.PathParts.{IsThenArrow, IsArrowThen}
use Rattle.quiver_paths.specs.PathList.{paths_below}
use Rattle.quiver_paths.proofs.PathLemmas.{IsPath-concat, IsPath-trivial, IsPath-end, IsPath-arrow, IsPath-factor, IsFactor-trans, IsFactor-itself, length-factor, trivial_from_length, concat_assoc, concat-trivial_left, concat-trivial_right, path_length-concat, cut_once, begins_with_arrow, ends_with_arrow, length-then_arrow, length-arrow_then}
use Rattle.quiver_paths.proofs.PathOrderLemmas.{IsSmaller-concat}
use Rattle.quiver_paths.proofs.PathListLemmas.{lists_paths_below}
use Rattle.path_algebra.specs.declared.Header.{Header}
use Rattle.path_algebra.specs.Elements.{product_between, middle}
use Rattle.path_algebra.specs.Words.{IsShortPath, IsGreatestPath, IsTip, IsNormal}
use Rattle.path_algebra.specs.Allowed.{IsAllowed}
use Rattle.path_algebra.specs.Rows.{path_at, row_of}
use Rattle.path_algebra.specs.Rules.{IsMinimalTip}
use Rattle.path_algebra.proofs.Between.{composite, composite-middle, middle-start}
use Rattle.path_algebra.proofs.ElementLemmas.{product-composite, product_support}
use Rattle.path_algebra.proofs.IdealLemmas.{IsInIdeal_support}
use Rattle.path_algebra.proofs.IdealProducts.{IsInIdeal-between}
use Rattle.path_algebra.proofs.IdealActs.{IsInIdeal-long}
use Rattle.path_algebra.proofs.Columns.{HasColumn, column_of, greatest-from_leading}
use Rattle.path_algebra.proofs.Quotient.{IsReducedIdeal, cases_pivot, normal_outside_pivots}
use Rattle.path_algebra.proofs.AllRows.{IdealRows, ideal_rows}

-- a factor of the whole length is the path
pub whole_factor : (Q : Quiver) (f p : Path) (i : IsFactor Q f p) → path_length p ≤ path_length f → f ≡ p
whole_factor Q f p i l =
    let lengths = length-factor Q f p i in
    let before : i.before ≡ trivial_path i.before.start = trivial_from_length Q i.before i.before_is (omega (arith, lengths, l)) in
    let behind : i.behind ≡ trivial_path i.behind.start = trivial_from_length Q i.behind i.behind_is (omega (arith, lengths, l)) in
    sym (i.whole ∙ ap₂ (λ u v. concat u (concat f v))
    (before ∙ ap trivial_path (ap (λ (x : Path). x.end) (sym before) ∙ i.meets_before))
    (behind ∙ ap trivial_path (sym i.meets_behind))
    ∙ ap (concat (trivial_path f.start)) (concat-trivial_right f) ∙ concat-trivial_left f)

-- the greatest path of a product
pub greatest_between : (t : ℕ) (u m v : Path) (x : Path → ℕ) → Meets u m → Meets m v → path_length (composite u m v) < t → IsGreatestPath x m
    → IsGreatestPath (product_between t u x v) (composite u m v)
greatest_between t u m v x a b l g = record {
  nonzero = λ e. g.nonzero (sym (product-composite t u x v m a b l) ∙ e);
  greatest = λ r n.
      let o = product_support t u x v r n in
      let is : composite u (middle u v r) v ≡ r = composite-middle u v r o.between in
      elim (g.greatest (middle u v r) o.nonzero) [
        | inl e ↦ inl (sym is ∙ ap (λ y. composite u y v) e)
        | inr less ↦ inr (subst (λ y. IsSmaller y (composite u m v)) is (IsSmaller-concat u (middle u v r) m v (middle-start u v r) a less))
      ];
}

-- a short path with a tip as a factor is a tip
pub tip_between : (h : Header) (m p : Path) → IsTip h m → (f : IsFactor h.quiver m p) → path_length p < h.bound → IsTip h p
tip_between h m p t f l = record {
  element = product_between h.bound f.before t.element f.behind;
  in_ideal = IsInIdeal-between h f.before f.behind t.element f.before_is f.behind_is t.in_ideal;
  greatest = subst (IsGreatestPath (product_between h.bound f.before t.element f.behind)) (sym f.whole)
      (greatest_between h.bound f.before m f.behind t.element f.meets_before f.meets_behind (subst (λ x. path_length x < h.bound) f.whole l) t.greatest);
}

-- a factor of a normal path is normal
pub factor_normal : (h : Header) → HasEnds h.quiver → (f p : Path) → IsNormal h p → IsFactor h.quiver f p → IsNormal h f
factor_normal h e f p n i = record {
  short = record { path = IsPath-factor h.quiver f p e n.short.path i; short = omega (arith, n.short.short, length-factor h.quiver f p i) };
  no_tip = λ t. n.no_tip (tip_between h f p t i n.short.short);
}

-- a short path is normal or a tip
pub cases_normal : (h : Header) → IsAllowed h → (p : Path) → IsShortPath h p → IsNormal h p ⊎ IsTip h p
cases_normal h ok p s = elim (cases_pivot rows (length rows) c.place) [
  | inr n ↦ inl (subst (IsNormal h) c.is (normal_outside_pivots h columns rows r c.place c.inside n))
  | inl i ↦
      let e = r.represents.sound (get_or rows i.0 []) (IsInSpan-row h.field (length rows) (length columns) rows i.0 r.grid i.1) in
      let lead : leading (row_of columns e.element) ≡ c.place = ap leading e.row ∙ i.2 in
      inr (record {
        element = e.element;
        in_ideal = e.in_ideal;
        greatest = subst (IsGreatestPath e.element) (ap (path_at columns) lead ∙ c.is) (greatest-from_leading h columns r.columns_are e.element (IsInIdeal_support h ok e.element e.in_ideal)
            (subst (λ j. j < length columns) (sym lead) c.inside));
      })
]
  where
    columns : List Path
    columns = reverse (paths_below h.quiver h.bound)

    found : IdealRows h (paths_below h.quiver h.bound)
    found = ideal_rows h (paths_below h.quiver h.bound) ok (lists_paths_below h.quiver ok.quiver.ends h.bound)

    rows : List (List ℕ)
    rows = found.rows

    r : IsReducedIdeal h columns rows
    r = found.are

    c : HasColumn columns p
    c = column_of h columns r.columns_are p s

-- a path is a front and its last arrow in one way, and its first arrow and a rest
last_once : (Q : Quiver) → HasEnds Q → (p front : Path) (a : ℕ) → IsThenArrow Q p front a → (u v : Path) → IsPath Q u → IsPath Q v → Meets u v → concat u v ≡ p → path_length v ≡ 1 → u ≡ front
last_once Q e p front a t u v hu hv m w l =
    (cut_once Q p (path_length front) u v front (arrow_path Q a)
    (record { front_is = hu; rest_is = hv; meets = m; whole = w; front_length = omega (arith, length-then_arrow Q p front a t, path_length-concat u v, ap path_length w, l) })
    (record { front_is = t.front_is; rest_is = IsPath-arrow Q a e t.arrow_is; meets = t.meets; whole = t.whole; front_length = refl })).0

first_once : (Q : Quiver) → HasEnds Q → (p : Path) (a : ℕ) (rest : Path) → IsArrowThen Q p a rest → (u v : Path) → IsPath Q u → IsPath Q v → Meets u v → concat u v ≡ p → path_length u ≡ 1 → v ≡ rest
first_once Q e p a rest t u v hu hv m w l =
    (cut_once Q p 1 u v (arrow_path Q a) rest
    (record { front_is = hu; rest_is = hv; meets = m; whole = w; front_length = l })
    (record { front_is = IsPath-arrow Q a e t.arrow_is; rest_is = t.rest_is; meets = t.meets; whole = t.whole; front_length = refl })).1

-- a factor is one of the front, or of the rest, or the path itself
pub cases_factor : (Q : Quiver) → HasEnds Q → (f p : Path) → IsPath Q p → (i : IsFactor Q f p) → (front : Path) (b : ℕ) → IsThenArrow Q p front b → (c : ℕ) (rest : Path) → IsArrowThen Q p c rest
    → (f ≡ p) ⊎ (IsFactor Q f front ⊎ IsFactor Q f rest)
cases_factor Q e f p hp i front b tb c rest tc = elim (cases_lt 0 (path_length i.behind)) [
  | inl l ↦
      let s = ends_with_arrow Q i.behind e i.behind_is l in
      let meets : Meets f s.0 = i.meets_behind ∙ sym (ap (λ (x : Path). x.start) s.2.whole) in
      let hf : IsPath Q f = IsPath-factor Q f p e hp i in
      let inner_is : IsPath Q (concat f s.0) = IsPath-concat Q f s.0 hf s.2.front_is meets in
      let whole : concat (concat i.before (concat f s.0)) (arrow_path Q s.1) ≡ p =
      concat_assoc i.before (concat f s.0) (arrow_path Q s.1) ∙ ap (concat i.before) (concat_assoc f s.0 (arrow_path Q s.1) ∙ ap (concat f) s.2.whole) ∙ sym i.whole in
      let same = last_once Q e p front b tb (concat i.before (concat f s.0)) (arrow_path Q s.1) (IsPath-concat Q i.before (concat f s.0) i.before_is inner_is i.meets_before)
      (IsPath-arrow Q s.1 e s.2.arrow_is) s.2.meets whole refl in
      inr (inl (record { before = i.before; behind = s.0; before_is = i.before_is; behind_is = s.2.front_is; meets_before = i.meets_before; meets_behind = meets; whole = sym same }))
  | inr l ↦ elim (cases_lt 0 (path_length i.before)) [
    | inr k ↦ inl (whole_factor Q f p i (omega (arith, l, k, length-factor Q f p i)))
    | inl k ↦
        let s = begins_with_arrow Q i.before e i.before_is k in
        let meets : Meets s.1 f = ap (λ (x : Path). x.end) s.2.whole ∙ i.meets_before in
        let hf : IsPath Q f = IsPath-factor Q f p e hp i in
        let inner_is : IsPath Q (concat f i.behind) = IsPath-concat Q f i.behind hf i.behind_is i.meets_behind in
        let whole : concat (arrow_path Q s.0) (concat s.1 (concat f i.behind)) ≡ p =
        sym (concat_assoc (arrow_path Q s.0) s.1 (concat f i.behind)) ∙ ap (λ x. concat x (concat f i.behind)) s.2.whole ∙ sym i.whole in
        let same = first_once Q e p c rest tc (arrow_path Q s.0) (concat s.1 (concat f i.behind)) (IsPath-arrow Q s.0 e s.2.arrow_is)
        (IsPath-concat Q s.1 (concat f i.behind) s.2.rest_is inner_is meets) s.2.meets whole refl in
        inr (inr (record { before = s.1; behind = i.behind; before_is = s.2.rest_is; behind_is = i.behind_is; meets_before = meets; meets_behind = i.meets_behind; whole = sym same }))
  ]
]

-- a minimal tip that is a factor
pub record HasMinimalFactor (h : Header) (p : Path) : Type 0 where
  pub tip : Path
  pub factor : IsFactor h.quiver tip p
  pub minimal : IsMinimalTip h tip

front_factor : (Q : Quiver) → HasEnds Q → (p front : Path) (a : ℕ) → IsThenArrow Q p front a → IsFactor Q front p
front_factor Q e p front a t = record {
  before = trivial_path front.start;
  behind = arrow_path Q a;
  before_is = IsPath-trivial Q front.start t.front_is.starts;
  behind_is = IsPath-arrow Q a e t.arrow_is;
  meets_before = refl;
  meets_behind = t.meets;
  whole = sym t.whole;
}

rest_factor : (Q : Quiver) → HasEnds Q → (p : Path) (a : ℕ) (rest : Path) → IsArrowThen Q p a rest → IsFactor Q rest p
rest_factor Q e p a rest t = record {
  before = arrow_path Q a;
  behind = trivial_path rest.end;
  before_is = IsPath-arrow Q a e t.arrow_is;
  behind_is = IsPath-trivial Q rest.end (IsPath-end Q rest e t.rest_is);
  meets_before = t.meets;
  meets_behind = refl;
  whole = sym (ap (concat (arrow_path Q a)) (concat-trivial_right rest) ∙ t.whole);
}

pub minimal_factor : (h : Header) → IsAllowed h → (n : ℕ) (p : Path) → path_length p < n → IsShortPath h p → IsTip h p → HasMinimalFactor h p
minimal_factor h ok zero p l s t = absurd (omega (arith, l))
minimal_factor h ok (suc n) p l s t =
    let Q = h.quiver in
    let e = ok.quiver.ends in
    let long : 2 ≤ path_length p = IsInIdeal-long h ok t.element t.in_ideal p t.greatest.nonzero in
    let f = ends_with_arrow Q p e s.path (omega (arith, long)) in
    let b = begins_with_arrow Q p e s.path (omega (arith, long)) in
    let front_short : IsShortPath h f.0 = record { path = f.2.front_is; short = omega (arith, s.short, length-then_arrow Q p f.0 f.1 f.2) } in
    let rest_short : IsShortPath h b.1 = record { path = b.2.rest_is; short = omega (arith, s.short, length-arrow_then Q p b.0 b.1 b.2) } in
    elim (cases_normal h ok f.0 front_short) [
      | inr t1 ↦
          let m = minimal_factor h ok n f.0 (omega (arith, l, length-then_arrow Q p f.0 f.1 f.2)) front_short t1 in
          record { tip = m.tip; factor = IsFactor-trans Q m.tip f.0 p m.factor (front_factor Q e p f.0 f.1 f.2); minimal = m.minimal }
      | inl n1 ↦ elim (cases_normal h ok b.1 rest_short) [
        | inr t2 ↦
            let m = minimal_factor h ok n b.1 (omega (arith, l, length-arrow_then Q p b.0 b.1 b.2)) rest_short t2 in
            record { tip = m.tip; factor = IsFactor-trans Q m.tip b.1 p m.factor (rest_factor Q e p b.0 b.1 b.2); minimal = m.minimal }
        | inl n2 ↦ record {
          tip = p;
          factor = IsFactor-itself Q p e s.path;
          minimal = record {
            short = s;
            tip = t;
            factors = λ g i d. elim (cases_factor Q e g p s.path i f.0 f.1 f.2 b.0 b.1 b.2) [
              | inl same ↦ absurd (d same)
              | inr w ↦ elim w [ inl i1 ↦ factor_normal h e g f.0 n1 i1 | inr i2 ↦ factor_normal h e g b.1 n2 i2 ]
            ];
          };
        }
      ]
    ]
