-- A path between two others: the product u x v at a path.
use Rattle.std.proofs.Common.{ℕ, ◌≡◌, ◌≤◌, ◌+◌, ◌-◌, ◌⊎◌, inl, inr, List, ◌++◌, length, take, drop, true, false, ◌&&◌, eqb, leb, refl, sym, ap, ◌∙◌, subst, arith, length-append}
use Rattle.std.specs.Prelude.{nat_eq}
use Rattle.std.specs.Cmp.Lexicographic.{pointwise, bytes_decides}
use Rattle.std.proofs.Math.Seq.{take-append_seam, drop-append_seam, drop-append-add}
use Rattle.std.proofs.lemmas.List.{take-append-drop, drop-drop}
use Rattle.std.proofs.lemmas.Bool.{and_parts, and_from, both_ways, eqb-true, eq-eqb, leb-true, le-leb, cases_Bool}
use Rattle.quiver_paths.specs.declared.Path.{Path}
use Rattle.quiver_paths.specs.Path.{concat}
use Rattle.path_algebra.specs.Elements.{same_path, runs_between, middle}

-- u, then m, then v
abbrev pub composite : Path → Path → Path → Path
composite u m v = concat u (concat m v)

pub Path-eq : (p r : Path) → p.start ≡ r.start → p.end ≡ r.end → p.arrows ≡ r.arrows → p ≡ r
Path-eq p r a b c = λ i. record { start = a i; end = b i; arrows = c i }

pub same_path-true : (p r : Path) → same_path p r ≡ true → p ≡ r
unfolding same_path
same_path-true p r h =
    let h1 = and_parts (eqb p.start r.start) (eqb p.end r.end && pointwise nat_eq p.arrows r.arrows) h in
    let h2 = and_parts (eqb p.end r.end) (pointwise nat_eq p.arrows r.arrows) h1.1 in
    Path-eq p r (eqb-true _ _ h1.0) (eqb-true _ _ h2.0) ((bytes_decides p.arrows r.arrows).0 h2.1)

pub same_path_refl : (p : Path) → same_path p p ≡ true
unfolding same_path
same_path_refl p = and_from _ _ (eq-eqb p.start p.start refl) (and_from _ _ (eq-eqb p.end p.end refl) ((bytes_decides p.arrows p.arrows).1 refl))

pub same_path-false : (p r : Path) → (p ≡ r → ⊥) → same_path p r ≡ false
same_path-false p r n = elim (cases_Bool (same_path p r)) [ inl h ↦ absurd (n (same_path-true p r h)) | inr h ↦ h ]

pub cases_path : (p r : Path) → (p ≡ r) ⊎ (p ≡ r → ⊥)
cases_path p r = elim (cases_Bool (same_path p r)) [
  | inl h ↦ inl (same_path-true p r h)
  | inr h ↦ inr (λ e. both_ways (same_path p r) h (subst (λ s. same_path p s ≡ true) e (same_path_refl p)))
]

-- three lists behind each other
front_of_three : (xs ys zs : List ℕ) → take (length xs) (xs ++ (ys ++ zs)) ≡ xs
front_of_three xs ys zs = take-append_seam xs (ys ++ zs)

back_of_three : (xs ys zs : List ℕ) → drop (length (xs ++ (ys ++ zs)) - length zs) (xs ++ (ys ++ zs)) ≡ zs
back_of_three xs ys zs =
    let e : length (xs ++ (ys ++ zs)) - length zs ≡ length xs + length ys = simp (length-append) (omega arith) in
    rw e (rw (drop-append-add xs (ys ++ zs) (length ys)) (drop-append_seam ys zs))

middle_of_three : (xs ys zs : List ℕ) → take (length (xs ++ (ys ++ zs)) - (length xs + length zs)) (drop (length xs) (xs ++ (ys ++ zs))) ≡ ys
middle_of_three xs ys zs =
    let e : length (xs ++ (ys ++ zs)) - (length xs + length zs) ≡ length ys = simp (length-append) (omega arith) in
    rw e (rw (drop-append_seam xs (ys ++ zs)) (take-append_seam ys zs))

three_of : (xs ps zs : List ℕ) → length xs + length zs ≤ length ps → take (length xs) ps ≡ xs → drop (length ps - length zs) ps ≡ zs
    → xs ++ (take (length ps - (length xs + length zs)) (drop (length xs) ps) ++ zs) ≡ ps
three_of xs ps zs h f b =
    let rest : drop (length ps - (length xs + length zs)) (drop (length xs) ps) ≡ zs =
    drop-drop _ _ ps ∙ (let e : length xs + (length ps - (length xs + length zs)) ≡ length ps - length zs = omega arith in rw e b) in
    let back : take (length ps - (length xs + length zs)) (drop (length xs) ps) ++ zs ≡ drop (length xs) ps =
    ap (λ l. take (length ps - (length xs + length zs)) (drop (length xs) ps) ++ l) (sym rest) ∙ take-append-drop _ (drop (length xs) ps) in
    ap (λ l. xs ++ l) back ∙ (ap (λ l. l ++ drop (length xs) ps) (sym f) ∙ take-append-drop (length xs) ps)

-- a composite runs between its first and last part, with its middle part between them
pub runs_between-composite : (u m v : Path) → runs_between u v (composite u m v) ≡ true
unfolding runs_between
runs_between-composite u m v =
    let long : length u.arrows + length v.arrows ≤ length (u.arrows ++ (m.arrows ++ v.arrows)) = simp (length-append) (omega arith) in
    and_from _ _ (eq-eqb u.start u.start refl) (and_from _ _ (eq-eqb v.end v.end refl) (and_from _ _ (le-leb _ _ long)
    (and_from _ _ ((bytes_decides _ u.arrows).1 (front_of_three u.arrows m.arrows v.arrows)) ((bytes_decides _ v.arrows).1 (back_of_three u.arrows m.arrows v.arrows)))))

pub middle-composite : (u m v : Path) → u.end ≡ m.start → m.end ≡ v.start → middle u v (composite u m v) ≡ m
unfolding middle
middle-composite u m v a b = Path-eq _ _ a (sym b) (middle_of_three u.arrows m.arrows v.arrows)

-- a path that runs between two is their composite with its middle part
pub composite-middle : (u v p : Path) → runs_between u v p ≡ true → composite u (middle u v p) v ≡ p
unfolding runs_between middle
composite-middle u v p h =
    let h1 = and_parts (eqb p.start u.start) _ h in
    let h2 = and_parts (eqb p.end v.end) _ h1.1 in
    let h3 = and_parts (leb (length u.arrows + length v.arrows) (length p.arrows)) _ h2.1 in
    let h4 = and_parts (pointwise nat_eq (take (length u.arrows) p.arrows) u.arrows) _ h3.1 in
    Path-eq _ _ (sym (eqb-true _ _ h1.0)) (sym (eqb-true _ _ h2.0))
    (three_of u.arrows p.arrows v.arrows (leb-true _ _ h3.0) ((bytes_decides _ _).0 h4.0) ((bytes_decides _ _).0 h4.1))

pub middle-start : (u v p : Path) → u.end ≡ (middle u v p).start
unfolding middle
middle-start u v p = refl

pub middle-end : (u v p : Path) → (middle u v p).end ≡ v.start
unfolding middle
middle-end u v p = refl
