-- The span of rows with one more row: sums of a combination of the rows and a multiple of the new one.
use Rattle.std.proofs.Common.{ℕ, suc, ◌<◌, ◌≡◌, List, [], ◌∷◌, ◌++◌, length, get_or, refl, sym, ap, ap₂, ◌∙◌, subst, arith, length-append, cond, ltb}
use Rattle.std.proofs.lemmas.List.{ext_get_or, get_or_append_left, get_or_push}
use Rattle.std.proofs.lemmas.Bool.{cond-true, cond-false, lt-ltb, le-ltb}
use Rattle.linear_algebra.specs.Field.{Gf, add, mul}
use Rattle.linear_algebra.specs.Sums.{sum_to, sum-suc, sum-same}
use Rattle.linear_algebra.specs.Rows.{entry, list_of, times, IsInSpan, SameSpan}
use Rattle.linear_algebra.proofs.Rows.{length-list_of, get_or-list_of, list_of-is, get_or-times, length-times}

-- y and a multiple of r
unfoldable pub sum_with : Gf → ℕ → List ℕ → ℕ → List ℕ → List ℕ
sum_with q n y c r = list_of n (λ j. add q (get_or y j 0) (mul q c (get_or r j 0)))

-- x is the sum of a combination of the rows and a multiple of r
pub record SplitsOff (q : Gf) (n : ℕ) (rows : List (List ℕ)) (r x : List ℕ) : Type 0 where
  pub rest : List ℕ
  pub factor : ℕ
  pub in_span : IsInSpan q n rows rest
  pub whole : sum_with q n rest factor r ≡ x

entry_before : (rows : List (List ℕ)) (r : List ℕ) (i j : ℕ) → i < length rows → entry (rows ++ r ∷ []) i j ≡ entry rows i j
unfolding entry
entry_before rows r i j h = ap (λ x. get_or x j 0) (get_or_append_left rows (r ∷ []) [] i h)

entry_last : (rows : List (List ℕ)) (r : List ℕ) (j : ℕ) → entry (rows ++ r ∷ []) (length rows) j ≡ get_or r j 0
unfolding entry
entry_last rows r j = ap (λ x. get_or x j 0) (get_or_push rows r [] (length rows) refl)

length_push : (rows : List (List ℕ)) (r : List ℕ) → length (rows ++ r ∷ []) ≡ suc (length rows)
length_push rows r = length-append rows (r ∷ []) ∙ (omega arith)

-- a combination of the rows and r, entry by entry
times-push : (q : Gf) (n : ℕ) (rows : List (List ℕ)) (r c : List ℕ) (j : ℕ) → j < n
    → get_or (times q n c (rows ++ r ∷ [])) j 0 ≡ add q (get_or (times q n c rows) j 0) (mul q (get_or c (length rows) 0) (get_or r j 0))
times-push q n rows r c j h =
    get_or-times q n c (rows ++ r ∷ []) j h
    ∙ (ap (λ m. sum_to q m (λ i. mul q (get_or c i 0) (entry (rows ++ r ∷ []) i j))) (length_push rows r)
    ∙ (sum-suc q (length rows) _
    ∙ ap₂ (add q) (sum-same q (length rows) _ _ (λ i l. ap (mul q (get_or c i 0)) (entry_before rows r i j l)) ∙ sym (get_or-times q n c rows j h))
    (ap (mul q (get_or c (length rows) 0)) (entry_last rows r j))))

pub SplitsOff-from_span : (q : Gf) (n : ℕ) (rows : List (List ℕ)) (r x : List ℕ) → IsInSpan q n (rows ++ r ∷ []) x → SplitsOff q n rows r x
unfolding sum_with
SplitsOff-from_span q n rows r x s = record {
  rest = times q n s.0 rows;
  factor = get_or s.0 (length rows) 0;
  in_span = (s.0, refl);
  whole = sym (list_of-is n _ x 0 (sym (ap length s.1) ∙ length-times q n s.0 (rows ++ r ∷ [])) (λ j h. sym (ap (λ y. get_or y j 0) s.1) ∙ times-push q n rows r s.0 j h));
}

pub IsInSpan-from_split : (q : Gf) (n : ℕ) (rows : List (List ℕ)) (r x : List ℕ) → SplitsOff q n rows r x → IsInSpan q n (rows ++ r ∷ []) x
unfolding sum_with
IsInSpan-from_split q n rows r x s = (coefficients, ext_get_or 0 _ x (length-times q n coefficients (rows ++ r ∷ []) ∙ sym (sym (ap length s.whole) ∙ length-list_of n _)) (λ j l. at j (subst (λ k. j < k) (length-times q n coefficients (rows ++ r ∷ [])) l)))
  where
    coefficients : List ℕ
    coefficients = list_of (suc (length rows)) (λ i. cond (ltb i (length rows)) (get_or s.in_span.0 i 0) s.factor)

    early : (i : ℕ) → i < length rows → get_or coefficients i 0 ≡ get_or s.in_span.0 i 0
    early i l = get_or-list_of (suc (length rows)) _ i 0 (omega arith) ∙ cond-true _ _ _ (lt-ltb i (length rows) l)

    last : get_or coefficients (length rows) 0 ≡ s.factor
    last = get_or-list_of (suc (length rows)) _ (length rows) 0 (omega arith) ∙ cond-false _ _ _ (le-ltb (length rows) (length rows) (omega arith))

    at : (j : ℕ) → j < n → get_or (times q n coefficients (rows ++ r ∷ [])) j 0 ≡ get_or x j 0
    at j h =
        times-push q n rows r coefficients j h
        ∙ (ap₂ (add q)
        (get_or-times q n coefficients rows j h ∙ (sum-same q (length rows) _ _ (λ i l. ap (λ c. mul q c (entry rows i j)) (early i l)) ∙ (sym (get_or-times q n s.in_span.0 rows j h) ∙ ap (λ y. get_or y j 0) s.in_span.1)))
        (ap (λ c. mul q c (get_or r j 0)) last)
        ∙ (sym (get_or-list_of n _ j 0 h) ∙ ap (λ y. get_or y j 0) s.whole))

-- the same rows and one more have the same span
pub SameSpan-push : (q : Gf) (n : ℕ) (a b : List (List ℕ)) (r : List ℕ) → SameSpan q n a b → SameSpan q n (a ++ r ∷ []) (b ++ r ∷ [])
SameSpan-push q n a b r s = record {
  forth = λ x h. let p = SplitsOff-from_span q n a r x h in
      IsInSpan-from_split q n b r x (record { rest = p.rest; factor = p.factor; in_span = s.forth p.rest p.in_span; whole = p.whole });
  back = λ x h. let p = SplitsOff-from_span q n b r x h in
      IsInSpan-from_split q n a r x (record { rest = p.rest; factor = p.factor; in_span = s.back p.rest p.in_span; whole = p.whole });
}
