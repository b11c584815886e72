-- Columns with a pivot and without, one after another.
use Rattle.std.proofs.Common.{ℕ, zero, suc, ◌<◌, ◌≡◌, ◌≢◌, ◌+◌, List, [], ◌∷◌, ◌++◌, map, length, get_or, set, replicate, true, false, cond, inl, inr, refl, sym, ap, ap₂, ◌∙◌, arith, subst, add-one, get_or-set_same, get_or-set_other}
use Rattle.std.specs.Prelude.{eqb}
use Rattle.std.proofs.lemmas.Bool.{cases_eq, cond-true, cond-false, eq-eqb, ne_eqb, true_from_ne_false, false_from_ne_true}
use Rattle.std.proofs.lemmas.List.{append-nil, map-append, length-replicate, length-set, get_or-replicate}
use Rattle.linear_algebra.specs.Field.{Gf}
use Rattle.linear_algebra.specs.Rows.{unit}
use Rattle.linear_algebra.proofs.Rows.{list_of-is}
use Rattle.representations.specs.Quiver.{Quiver}
use Rattle.representations.specs.Rep.{Rep}
use Rattle.projectives.specs.Canonical.{Place, is_among, is_pivot, with_free, free_places}
use Rattle.projectives.proofs.CanonicalRows.{is_among-true, is_among-false}
use Rattle.module_types.specs.declared.TermRows.{TermRows}
use Rattle.proj_cover.specs.CanonicalTerms.{unit_at, term_of}

pub among_here : (n : ℕ) (f : ℕ → ℕ) (c i : ℕ) → i < n → f i ≡ c → true ≡ is_among n f c
among_here n f c i l e = sym (true_from_ne_false (is_among n f c) (λ x. is_among-false n f c x i l e))

pub among_none : (n : ℕ) (f : ℕ → ℕ) (c : ℕ) → ((i : ℕ) → i < n → f i ≢ c) → false ≡ is_among n f c
among_none n f c h = sym (false_from_ne_true (is_among n f c) (λ x. let i = is_among-true n f c x in h i.0 i.1 i.2))

pub others_more : (k : ℕ) (f : ℕ → ℕ) (c : ℕ) → ((i : ℕ) → i < k → f i ≢ c) → f k ≢ c → (i : ℕ) → i < k + 1 → f i ≢ c
others_more k f c h d i l = elim (cases_eq i k) [ inl e ↦ subst (λ i. f i ≢ c) (sym e) d | inr n ↦ h i (omega arith) ]

pub among_same : (n : ℕ) (f g : ℕ → ℕ) (c : ℕ) → ((i : ℕ) → i < n → f i ≡ g i) → is_among n f c ≡ is_among n g c
among_same zero f g c e = refl
among_same (suc n) f g c e = ap₂ (λ a b. cond (eqb a c) true b) (e n (omega arith)) (among_same n f g c (λ i l. e i (omega arith)))

module _ {q : Gf} {Q : Quiver} (X : Rep q Q) (w c : ℕ) (before : List Place) where
  abbrev here : Place
  here = record { vertex = w; column = c }

  free-step : with_free X w (c + 1) before ≡ with_free X w c before ++ cond (is_pivot X w c) [] (here ∷ [])
  unfolding with_free
  free-step = rw add-one refl

  pub pivot_passed : is_pivot X w c ≡ true → (term : TermRows) → term ≡ term_of X (with_free X w c before) → term ≡ term_of X (with_free X w (c + 1) before)
  pivot_passed p term e =
      e ∙ ap (term_of X) (sym (free-step ∙ ap (λ b. with_free X w c before ++ cond b [] (here ∷ [])) p ∙ append-nil (with_free X w c before)))

  pub column_added : (width : ℕ) (image : List ℕ) (term new : TermRows) → is_pivot X w c ≡ false → width ≡ X.dim w → image ≡ unit width c → term ≡ term_of X (with_free X w c before)
      → new.vertices ≡ term.vertices ++ w ∷ [] → new.images ≡ term.images ++ image ∷ [] → new ≡ term_of X (with_free X w (c + 1) before)
  column_added width image term new p d u e v i =
      (λ k. record { vertices = (v ∙ ap (λ (t : TermRows). t.vertices ++ w ∷ []) e) k; images = (i ∙ ap₂ (λ (t : TermRows) (x : List ℕ). t.images ++ x ∷ []) e (u ∙ ap (λ n. unit n c) d)) k })
      ∙ added (with_free X w c before)
      ∙ ap (term_of X) (sym (free-step ∙ ap (λ b. with_free X w c before ++ cond b [] (here ∷ [])) p))
    where
      added : (places : List Place) → ◌≡◌ {A = TermRows} (record { vertices = map (λ (p : Place). p.vertex) places ++ w ∷ []; images = map (unit_at X) places ++ unit (X.dim w) c ∷ [] }) (term_of X (places ++ here ∷ []))
      added places = λ k. record { vertices = sym (map-append (λ (p : Place). p.vertex) places (here ∷ [])) k; images = sym (map-append (unit_at X) places (here ∷ [])) k }

inside : (n c : ℕ) → c < n → c < length (replicate {A = ℕ} n 0)
inside n c l = subst (λ m. c < m) (sym (length-replicate {A = ℕ} n 0)) l

abbrev one_at : ℕ → ℕ → List ℕ
one_at n c = set (replicate n 0) c 1

abbrev unit_entry : ℕ → ℕ → ℕ
unit_entry c i = cond (eqb c i) 1 0

one_entry : (n c i : ℕ) → c < n → i < n → get_or (one_at n c) i 0 ≡ unit_entry c i
one_entry n c i l b = elim (cases_eq c i) [
  | inl e ↦ subst (λ i. get_or (one_at n c) i 0 ≡ unit_entry c i) e (get_or-set_same (replicate n 0) c 1 0 (inside n c l) ∙ sym (cond-true (eqb c c) 1 0 (eq-eqb c c refl)))
  | inr d ↦ get_or-set_other (replicate n 0) c i 1 0 (λ e. d (sym e)) ∙ get_or-replicate n i 0 0 b ∙ sym (cond-false (eqb c i) 1 0 (ne_eqb c i d))
]

pub unit_written : (n c : ℕ) → c < n → one_at n c ≡ unit n c
unfolding unit
unit_written n c l = list_of-is n (unit_entry c) (one_at n c) 0 (length-set (replicate n 0) c 1 ∙ length-replicate n 0) (λ i b. one_entry n c i l b)

pub free_none : {q : Gf} {Q : Quiver} (X : Rep q Q) (w : ℕ) (before : List Place) → with_free X w 0 before ≡ before
unfolding with_free
free_none X w before = refl

pub places_none : {q : Gf} {Q : Quiver} (X : Rep q Q) → free_places X 0 ≡ []
unfolding free_places
places_none X = refl

pub places_more : {q : Gf} {Q : Quiver} (X : Rep q Q) (w : ℕ) → free_places X (w + 1) ≡ with_free X w (X.dim w) (free_places X w)
unfolding free_places
places_more X w = rw add-one refl
