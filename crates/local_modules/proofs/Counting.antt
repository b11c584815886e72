-- How many members of a list are isomorphic to a given module: there is one such count where isomorphism is decided; lists of local modules with isomorphic
-- sums have the same.
use Rattle.std.proofs.Common.{ℕ, zero, suc, ◌<◌, ◌≤◌, ◌≡◌, ◌≢◌, ◌⊎◌, inl, inr, refl, sym, ap, ◌∙◌, subst, arith}
use Rattle.std.proofs.lemmas.Bool.{cases_lt}
use Rattle.linear_algebra.specs.Field.{Gf}
use Rattle.representations.specs.Quiver.{Quiver}
use Rattle.representations.specs.Rep.{Rep}
use Rattle.representations.specs.Hom.{Hom, ◌≫◌, identity}
use Rattle.representations.specs.Module.{IsIso}
use Rattle.representations.specs.Sum.{sum_family}
use Rattle.local_modules.specs.Local.{IsLocal}
use Rattle.local_modules.specs.Isomorphic.{Isomorphic, Matching}
use Rattle.local_modules.specs.Counting.{IsCount}
use Rattle.local_modules.proofs.LocalRings.{iso_compose, iso_identity}
use Rattle.local_modules.proofs.KrullSchmidt.{skip, skip-below, skip-above, krull_schmidt}

-- To each number below c one below d, different ones to different ones: c is at most d.
record Injection (c d : ℕ) : Type 0 where
  to : ℕ → ℕ
  below : (i : ℕ) → i < c → to i < d
  different : (i j : ℕ) → i < c → j < c → to i ≡ to j → i ≡ j

-- the number whose place, with k left out, is i
unskip : ℕ → ℕ → ℕ
unskip k zero = zero
unskip k (suc i) = elim (cases_lt (suc i) k) [ inl l ↦ suc i | inr g ↦ i ]

unskip-limit : (k i d : ℕ) → k < suc d → i < suc d → i ≢ k → unskip k i < d
unfolding unskip
unskip-limit k zero d a b n = omega (arith, a, n)
unskip-limit k (suc i) d a b n = elim (cases_lt (suc i) k) as (λ t. elim t as (λ t. ℕ) [ inl l ↦ suc i | inr g ↦ i ] < d) [ inl l ↦ omega (arith, a, l) | inr g ↦ omega (arith, b) ]

unskip-skip : (k i : ℕ) → i ≢ k → skip k (unskip k i) ≡ i
unfolding unskip
unskip-skip k i n = go i n
  where
    go : (i : ℕ) → i ≢ k → skip k (unskip k i) ≡ i
    go zero n = skip-below k zero (omega (arith, n))
    go (suc i) n = elim (cases_lt (suc i) k) as (λ t. skip k (elim t as (λ t. ℕ) [ inl l ↦ suc i | inr g ↦ i ]) ≡ suc i) [
      | inl l ↦ skip-below k (suc i) l
      | inr g ↦ skip-above k i (omega (arith, g, n))
    ]

injection_le : (c d : ℕ) → Injection c d → c ≤ d
injection_le zero d f = omega arith
injection_le (suc c) zero f = absurd (let b = f.below 0 (omega arith) in omega (arith, b))
injection_le (suc c) (suc d) f =
    let r = injection_le c d (record {
      to = λ i. unskip (f.to c) (f.to i);
      below = λ i l. unskip-limit (f.to c) (f.to i) d (f.below c (omega arith)) (f.below i (omega (arith, l))) (other i l);
      different = λ i j l m e. f.different i j (omega (arith, l)) (omega (arith, m))
          (sym (unskip-skip (f.to c) (f.to i) (other i l)) ∙ ap (skip (f.to c)) e ∙ unskip-skip (f.to c) (f.to j) (other j m));
    }) in
    omega (arith, r)
  where
    other : (i : ℕ) → i < c → f.to i ≢ f.to c
    other i l e = absurd (let same = f.different i c (omega (arith, l)) (omega arith) e in omega (arith, l, same))

module _ {q : Gf} {Q : Quiver} where
  pub isomorphic_back : {X Y : Rep q Q} → Isomorphic X Y → Isomorphic Y X
  isomorphic_back e = record { forth = e.iso.inverse; iso = record { inverse = e.forth; right = e.iso.left; left = e.iso.right } }

  pub isomorphic_then : {X Y Z : Rep q Q} → Isomorphic X Y → Isomorphic Y Z → Isomorphic X Z
  isomorphic_then e f = record { forth = e.forth ≫ f.forth; iso = iso_compose e.forth f.forth e.iso f.iso }

  module _ (m n : ℕ) (X Y : ℕ → Rep q Q) (Z : Rep q Q) (c d : ℕ) (M : Matching m X n Y) (C : IsCount m X Z c) (D : IsCount n Y Z d) where
    found : (i : ℕ) → i < c → (j : ℕ) × (j < d) × (D.place j ≡ M.place (C.place i))
    found i l = D.all (M.place (C.place i)) (M.below (C.place i) (C.below i l)) (isomorphic_then (isomorphic_back (M.same (C.place i) (C.below i l))) (C.same i l))

    chosen : (i : ℕ) → (i < c) ⊎ (c ≤ i) → ℕ
    chosen i (inl l) = (found i l).0
    chosen i (inr g) = 0

    chosen-is : (i : ℕ) → i < c → (t : (i < c) ⊎ (c ≤ i)) → (chosen i t < d) × (D.place (chosen i t) ≡ M.place (C.place i))
    unfolding chosen
    chosen-is i l (inl k) = ((found i k).1, (found i k).2)
    chosen-is i l (inr g) = absurd (omega (arith, l, g))

    pub at_most : c ≤ d
    at_most = injection_le c d (record {
      to = λ i. chosen i (cases_lt i c);
      below = λ i l. (chosen-is i l (cases_lt i c)).0;
      different = λ i j l k e. C.different i j l k (M.different (C.place i) (C.place j) (C.below i l) (C.below j k)
          (sym (chosen-is i l (cases_lt i c)).1 ∙ ap D.place e ∙ (chosen-is j k (cases_lt j c)).1));
    })

  matching_itself : (m : ℕ) (X : ℕ → Rep q Q) → Matching m X m X
  matching_itself m X = record {
    count = refl;
    place = λ i. i;
    below = λ i l. l;
    different = λ i j l k e. e;
    same = λ i l. record { forth = identity (X i); iso = iso_identity (X i) };
  }

  -- A list has one count.
  pub one_count : (m : ℕ) (X : ℕ → Rep q Q) (Z : Rep q Q) (c d : ℕ) → IsCount m X Z c → IsCount m X Z d → c ≡ d
  one_count m X Z c d C D =
      let a = at_most m m X X Z c d (matching_itself m X) C D in
      let b = at_most m m X X Z d c (matching_itself m X) D C in
      omega (arith, a, b)

  -- One more member of a list: at place m.
  module _ (m : ℕ) (X : ℕ → Rep q Q) (Z : Rep q Q) (c : ℕ) (C : IsCount m X Z c) where
    counted_else : (Isomorphic (X m) Z → ⊥) → IsCount (suc m) X Z c
    counted_else n = record {
      place = C.place;
      below = λ i l. let b = C.below i l in omega (arith, b);
      different = C.different;
      same = C.same;
      all = λ k l e. elim (cases_lt k m) [
        | inl before ↦ C.all k before e
        | inr past ↦ (let last : k ≡ m = omega (arith, l, past) in absurd (n (subst (λ i. Isomorphic (X i) Z) last e)))
      ];
    }

    unfoldable placed : (i : ℕ) → (i < c) ⊎ (c ≤ i) → ℕ
    placed i (inl l) = C.place i
    placed i (inr g) = m

    placed-old : (i : ℕ) (t : (i < c) ⊎ (c ≤ i)) → i < c → placed i t ≡ C.place i
    unfolding placed
    placed-old i (inl k) l = refl
    placed-old i (inr g) l = absurd (omega (arith, l, g))

    placed-new : (i : ℕ) (t : (i < c) ⊎ (c ≤ i)) → c ≤ i → placed i t ≡ m
    unfolding placed
    placed-new i (inl k) g = absurd (omega (arith, k, g))
    placed-new i (inr l) g = refl

    placed-below : (i : ℕ) (t : (i < c) ⊎ (c ≤ i)) → placed i t < suc m
    unfolding placed
    placed-below i (inl l) = let b = C.below i l in omega (arith, b)
    placed-below i (inr g) = omega arith

    placed-different : (i j : ℕ) (t : (i < c) ⊎ (c ≤ i)) (u : (j < c) ⊎ (c ≤ j)) → i < suc c → j < suc c → placed i t ≡ placed j u → i ≡ j
    unfolding placed
    placed-different i j (inl l) (inl k) a b e = C.different i j l k e
    placed-different i j (inl l) (inr h) a b e = absurd (let f = C.below i l in omega (arith, e, f))
    placed-different i j (inr g) (inl k) a b e = absurd (let f = C.below j k in omega (arith, e, f))
    placed-different i j (inr g) (inr h) a b e = omega (arith, a, b, g, h)

    placed-same : Isomorphic (X m) Z → (i : ℕ) (t : (i < c) ⊎ (c ≤ i)) → Isomorphic (X (placed i t)) Z
    unfolding placed
    placed-same s i (inl l) = C.same i l
    placed-same s i (inr g) = s

    counted_more : Isomorphic (X m) Z → IsCount (suc m) X Z (suc c)
    counted_more s = record {
      place = λ i. placed i (cases_lt i c);
      below = λ i l. placed-below i (cases_lt i c);
      different = λ i j l k e. placed-different i j (cases_lt i c) (cases_lt j c) l k e;
      same = λ i l. placed-same s i (cases_lt i c);
      all = λ k l e. elim (cases_lt k m) [
        | inl before ↦ (let f = C.all k before e in (f.0, (let b = f.1 in omega (arith, b)), placed-old f.0 (cases_lt f.0 c) f.1 ∙ f.2))
        | inr past ↦ (c, omega arith, placed-new c (cases_lt c c) (omega arith) ∙ (let last : m ≡ k = omega (arith, l, past) in last))
      ];
    }

  -- Where it is decided of each member whether it is isomorphic to Z, there is a count.
  pub count : (m : ℕ) (X : ℕ → Rep q Q) (Z : Rep q Q) → ((i : ℕ) → i < m → Isomorphic (X i) Z ⊎ (Isomorphic (X i) Z → ⊥)) → (c : ℕ) × IsCount m X Z c
  count zero X Z d = (
    0,
    record {
      place = λ i. 0;
      below = λ i l. absurd (omega arith);
      different = λ i j l k e. absurd (omega arith);
      same = λ i l. absurd (omega arith);
      all = λ k l e. absurd (omega arith);
    },
  )
  count (suc m) X Z d =
      let r = count m X Z (λ i l. d i (omega (arith, l))) in
      elim (d m (omega arith)) [
        | inl s ↦ (suc r.0, counted_more m X Z r.0 r.1 s)
        | inr n ↦ (r.0, counted_else m X Z r.0 r.1 n)
      ]

  pub counts_agree : (m n : ℕ) (X Y : ℕ → Rep q Q) → ((i : ℕ) → i < m → IsLocal (X i)) → ((i : ℕ) → i < n → IsLocal (Y i)) → (f : Hom (sum_family m X) (sum_family n Y)) → IsIso f
      → (Z : Rep q Q) (c d : ℕ) → IsCount m X Z c → IsCount n Y Z d → c ≡ d
  counts_agree m n X Y L K f i Z c d C D =
      let a = at_most m n X Y Z c d (krull_schmidt m n X Y L K f i) C D in
      let b = at_most n m Y X Z d c (krull_schmidt n m Y X K L i.inverse (record { inverse = f; right = i.left; left = i.right })) D C in
      omega (arith, a, b)
