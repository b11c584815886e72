-- The places without pivot at the first vertices and columns are the first of all.
use Rattle.std.proofs.Common.{ℕ, zero, suc, ◌<◌, ◌≤◌, ◌≡◌, ◌+◌, List, [], ◌∷◌, ◌++◌, length, get_or, true, false, cond, inl, inr, refl, sym, ap, ◌∙◌, arith}
use Rattle.std.proofs.lemmas.Bool.{cases_eq}
use Rattle.std.proofs.lemmas.List.{append-nil, append_assoc, length-append, get_or_append_left}
use Rattle.std.proofs.Math.Seq.{get_or-append_seam}
use Rattle.linear_algebra.specs.Field.{Gf}
use Rattle.representations.specs.Quiver.{Quiver}
use Rattle.representations.specs.Rep.{Rep}
use Rattle.projectives.specs.Canonical.{Place, is_pivot, with_free, free_places}
use Rattle.cover_checks.specs.Choosing.{no_place, places_before}

record IsFront (ps qs : List Place) : Type 0 where
  rest : List Place
  is : ps ++ rest ≡ qs

front_same : (ps qs : List Place) → ps ≡ qs → IsFront ps qs
front_same ps qs e = record { rest = []; is = append-nil ps ∙ e }

front_trans : (ps qs rs : List Place) → IsFront ps qs → IsFront qs rs → IsFront ps rs
front_trans ps qs rs a b = record { rest = a.rest ++ b.rest; is = sym (append_assoc ps a.rest b.rest) ∙ ap (λ z. z ++ b.rest) a.is ∙ b.is }

front_length : (ps qs : List Place) → IsFront ps qs → length ps ≤ length qs
front_length ps qs a = let e = length-append ps a.rest in let d = ap length a.is in omega (arith, e, d)

front_item : (ps qs : List Place) → IsFront ps qs → (i : ℕ) → i < length ps → get_or qs i no_place ≡ get_or ps i no_place
front_item ps qs a i l = ap (λ z. get_or z i no_place) (sym a.is) ∙ get_or_append_left ps a.rest no_place i l

module _ {q : Gf} {Q : Quiver} (Z : Rep q Q) where
  front_columns : (w : ℕ) (before : List Place) (m n : ℕ) → n ≤ m → IsFront (with_free Z w n before) (with_free Z w m before)
  unfolding with_free
  front_columns w before zero n l = front_same _ _ (let e : n ≡ 0 = omega arith in ap (λ n. with_free Z w n before) e)
  front_columns w before (suc m) n l = elim (cases_eq n (suc m)) [
    | inl e ↦ front_same _ _ (ap (λ n. with_free Z w n before) e)
    | inr d ↦ front_trans (with_free Z w n before) (with_free Z w m before) (with_free Z w (suc m) before) (front_columns w before m n (omega arith))
        (record { rest = cond (is_pivot Z w m) [] (record { vertex = w; column = m } ∷ []); is = refl })
  ]

  front_vertices : (m n : ℕ) → n ≤ m → IsFront (free_places Z n) (free_places Z m)
  unfolding with_free free_places
  front_vertices zero n l = front_same _ _ (let e : n ≡ 0 = omega arith in ap (free_places Z) e)
  front_vertices (suc m) n l = elim (cases_eq n (suc m)) [
    | inl e ↦ front_same _ _ (ap (free_places Z) e)
    | inr d ↦ front_trans (free_places Z n) (free_places Z m) (free_places Z (suc m)) (front_vertices m n (omega arith)) (front_columns m (free_places Z m) (Z.dim m) 0 (omega arith))
  ]

  front_all : (w c : ℕ) → w < Q.vertices → c ≤ Z.dim w → IsFront (places_before Z w c) (free_places Z Q.vertices)
  unfolding free_places
  front_all w c l b = front_trans (places_before Z w c) (free_places Z (suc w)) (free_places Z Q.vertices) (front_columns w (free_places Z w) (Z.dim w) c b) (front_vertices Q.vertices (suc w) (omega arith))

  -- one column more
  pub with_pivot : (w c : ℕ) → is_pivot Z w c ≡ true → places_before Z w (c + 1) ≡ places_before Z w c
  unfolding with_free
  with_pivot w c e = ap (λ n. with_free Z w n (free_places Z w)) (let o : c + 1 ≡ suc c = omega arith in o) ∙ ap (λ b. with_free Z w c (free_places Z w) ++ cond b [] (record { vertex = w; column = c } ∷ [])) e ∙ append-nil (with_free Z w c (free_places Z w))

  pub with_place : (w c : ℕ) → is_pivot Z w c ≡ false → places_before Z w (c + 1) ≡ places_before Z w c ++ (record { vertex = w; column = c } ∷ [])
  unfolding with_free
  with_place w c e = ap (λ n. with_free Z w n (free_places Z w)) (let o : c + 1 ≡ suc c = omega arith in o) ∙ ap (λ b. with_free Z w c (free_places Z w) ++ cond b [] (record { vertex = w; column = c } ∷ [])) e

  pub none_before : places_before Z 0 0 ≡ []
  unfolding with_free free_places
  none_before = refl

  pub next_vertex : (w : ℕ) → places_before Z w (Z.dim w) ≡ places_before Z (w + 1) 0
  unfolding with_free free_places
  next_vertex w = sym (ap (free_places Z) (let o : w + 1 ≡ suc w = omega arith in o))

  pub all_before : places_before Z Q.vertices 0 ≡ free_places Z Q.vertices
  unfolding with_free
  all_before = refl

  -- the place that comes next, among all
  pub next_below : (w c : ℕ) → w < Q.vertices → c < Z.dim w → is_pivot Z w c ≡ false → length (places_before Z w c) < length (free_places Z Q.vertices)
  next_below w c l b e =
      let f = front_length (places_before Z w (c + 1)) (free_places Z Q.vertices) (front_all w (c + 1) l (omega arith)) in
      let s = ap length (with_place w c e) ∙ length-append (places_before Z w c) (record { vertex = w; column = c } ∷ []) in
      omega (arith, f, s)

  pub next_is : (w c : ℕ) → w < Q.vertices → c < Z.dim w → is_pivot Z w c ≡ false → get_or (free_places Z Q.vertices) (length (places_before Z w c)) no_place ≡ record { vertex = w; column = c }
  next_is w c l b e =
      let s = ap length (with_place w c e) ∙ length-append (places_before Z w c) (record { vertex = w; column = c } ∷ []) in
      front_item (places_before Z w (c + 1)) (free_places Z Q.vertices) (front_all w (c + 1) l (omega arith)) (length (places_before Z w c)) (omega (arith, s))
      ∙ ap (λ z. get_or z (length (places_before Z w c)) no_place) (with_place w c e) ∙ get_or-append_seam (places_before Z w c) (record { vertex = w; column = c }) [] no_place
