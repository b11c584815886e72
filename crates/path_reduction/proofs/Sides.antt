-- Products with a path on one side, one after the other.
use Rattle.std.proofs.Common.{ℕ, ◌≡◌, inl, inr, ◌&&◌, ltb, if◌then◌else◌, refl, sym, ap, ap₂, ◌∙◌, arith}
use Rattle.std.proofs.lemmas.Bool.{cases_lt, cases_eq}
use Rattle.quiver_paths.specs.declared.Path.{Path}
use Rattle.quiver_paths.specs.Path.{path_length, Meets, concat, trivial_path}
use Rattle.quiver_paths.proofs.PathLemmas.{concat-trivial_right}
use Rattle.path_algebra.specs.Elements.{product_between, middle, runs_between}
use Rattle.path_algebra.proofs.ElementLemmas.{product-long, product_support}
use Rattle.path_algebra.proofs.IdealProducts.{product-product, product-product_apart, runs_between-ends}
use Rattle.path_reduction.specs.Derived.{path_times, times_path, HasSupport}
use Rattle.path_algebra.proofs.IdealSteps.{product-trivial, product-other_ends}

-- a product looks at one place of the element
product-local : (t : ℕ) (u : Path) (x y : Path → ℕ) (v p : Path) → x (middle u v p) ≡ y (middle u v p) → product_between t u x v p ≡ product_between t u y v p
unfolding product_between
product-local t u x y v p e = ap (λ n. if ltb (path_length p) t && runs_between u v p then n else 0) e

pub path_times-path_times : (t : ℕ) (u l : Path) (x : Path → ℕ) → Meets u l → (p : Path) → path_times t u (path_times t l x) p ≡ path_times t (concat u l) x p
unfolding middle
path_times-path_times t u l x m p =
    product-local t u (path_times t l x) (product_between t l x (trivial_path p.end)) (trivial_path p.end) p refl
    ∙ product-product t u l x (trivial_path p.end) (trivial_path p.end) m refl p

pub times_path-times_path : (t : ℕ) (x : Path → ℕ) (r v : Path) → Meets r v → (p : Path) → times_path t (times_path t x r) v p ≡ times_path t x (concat r v) p
unfolding middle
times_path-times_path t x r v m p =
    product-local t (trivial_path p.start) (times_path t x r) (product_between t (trivial_path p.start) x r) v p refl
    ∙ product-product t (trivial_path p.start) (trivial_path p.start) x r v refl m p

-- a path behind the element, and then one before it
pub path_times-times_path : (t : ℕ) (u : Path) (x : Path → ℕ) (v p : Path) → path_times t u (times_path t x v) p ≡ product_between t u x v p
unfolding middle
path_times-times_path t u x v p =
    product-local t u (times_path t x v) (product_between t (trivial_path u.end) x v) (trivial_path p.end) p refl
    ∙ elim (cases_eq v.end p.end) [
      | inl e ↦
          product-product t u (trivial_path u.end) x v (trivial_path p.end) refl e p
          ∙ ap₂ (λ a b. product_between t a x b p) (concat-trivial_right u) (ap (λ n. concat v (trivial_path n)) (sym e) ∙ concat-trivial_right v)
      | inr d ↦
          product-product_apart t u (trivial_path u.end) x v (trivial_path p.end) (inr d) p
          ∙ sym (product-other_ends t u x v p (λ e. d (sym e.1)))
    ]

pub trivial_times : (t : ℕ) (x : Path → ℕ) (s e : ℕ) → HasSupport t x s e → (p : Path) → path_times t (trivial_path s) x p ≡ x p
trivial_times t x s e sup p = elim (cases_eq p.start s) [
  | inr d ↦ product-other_ends t (trivial_path s) x (trivial_path p.end) p (λ b. d b.0) ∙ sym (elim (cases_eq (x p) 0) [ inl z ↦ z | inr n ↦ absurd (d (sup.starts p n)) ])
  | inl i ↦ elim (cases_lt (path_length p) t) [
    | inl l ↦ ap (λ n. product_between t (trivial_path n) x (trivial_path p.end) p) (sym i) ∙ product-trivial t x p l
    | inr l ↦ product-long t (trivial_path s) x (trivial_path p.end) p l ∙ sym (elim (cases_eq (x p) 0) [ inl z ↦ z | inr n ↦ absurd (omega (arith, l, sup.short p n)) ])
  ]
]

pub times_trivial : (t : ℕ) (x : Path → ℕ) (s e : ℕ) → HasSupport t x s e → (p : Path) → times_path t x (trivial_path e) p ≡ x p
times_trivial t x s e sup p = elim (cases_eq p.end e) [
  | inr d ↦ product-other_ends t (trivial_path p.start) x (trivial_path e) p (λ b. d b.1) ∙ sym (elim (cases_eq (x p) 0) [ inl z ↦ z | inr n ↦ absurd (d (sup.ends p n)) ])
  | inl i ↦ elim (cases_lt (path_length p) t) [
    | inl l ↦ ap (λ n. product_between t (trivial_path p.start) x (trivial_path n) p) (sym i) ∙ product-trivial t x p l
    | inr l ↦ product-long t (trivial_path p.start) x (trivial_path e) p l ∙ sym (elim (cases_eq (x p) 0) [ inl z ↦ z | inr n ↦ absurd (omega (arith, l, sup.short p n)) ])
  ]
]

pub times_path-support : (t : ℕ) (x : Path → ℕ) (v : Path) (s : ℕ) → HasSupport t x s v.start → HasSupport t (times_path t x v) s v.end
unfolding middle
times_path-support t x v s sup = record {
  short = λ p n. (product_support t (trivial_path p.start) x v p n).short;
  starts = λ p n. sup.starts (middle (trivial_path p.start) v p) (product_support t (trivial_path p.start) x v p n).nonzero;
  ends = λ p n. (runs_between-ends (trivial_path p.start) v p (product_support t (trivial_path p.start) x v p n).between).1;
}
