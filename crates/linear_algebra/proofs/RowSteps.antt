-- Row operations keep the span of the rows.
use Rattle.std.proofs.Common.{ℕ, ◌<◌, ◌≡◌, List, [], get_or, sym, ap, ◌∙◌, arith}
use Rattle.linear_algebra.specs.Field.{Gf, order, add, mul, neg}
use Rattle.linear_algebra.specs.Rows.{list_of, entry, IsGrid, IsInSpan, SameSpan}
use Rattle.linear_algebra.specs.FieldLaws.{add_assoc, add_zero, add_mul, zero_mul, add_neg, one_mul, mul_assoc}
use Rattle.linear_algebra.proofs.Rows.{list_of-same, row-is, row-entry, IsInSpan-row, IsInSpan-multiple, IsInSpan-add_multiple, SameSpan-from_rows}

-- a row that has the entries of a combination is in the span
IsInSpan-entries : (q : Gf) (m n : ℕ) (a rows : List (List ℕ)) (i : ℕ) (f : ℕ → ℕ) → IsGrid q m n a → i < m → IsInSpan q n rows (list_of n f) → ((j : ℕ) → j < n → entry a i j ≡ f j)
    → IsInSpan q n rows (get_or a i [])
IsInSpan-entries q m n a rows i f g h k e = (k.0, k.1 ∙ sym (row-is q m n a i g h ∙ list_of-same n (entry a i) f 0 e))

-- adding multiples of one row to the others
add_back : (q : Gf) (a g b : ℕ) → a < order q → add q (add q a (mul q g b)) (mul q (neg q g) b) ≡ a
add_back q a g b h = add_assoc q _ _ _ ∙ ap (add q a) (sym (add_mul q g (neg q g) b) ∙ ap (λ y. mul q y b) (add_neg q g) ∙ zero_mul q b) ∙ add_zero q a h

pub SameSpan-added : (q : Gf) (m n : ℕ) (old new : List (List ℕ)) (r : ℕ) (g : ℕ → ℕ) → IsGrid q m n old → IsGrid q m n new → r < m → g r ≡ 0
    → ((i j : ℕ) → i < m → j < n → entry new i j ≡ add q (entry old i j) (mul q (g i) (entry old r j))) → SameSpan q n old new
SameSpan-added q m n old new r g go gn h z e =
    SameSpan-from_rows q n old new
    (λ i l. let p : i < m = (let c = go.count in omega arith) in
    IsInSpan-entries q m n old new i (λ j. add q (get_or (get_or new i []) j 0) (mul q (neg q (g i)) (get_or (get_or new r []) j 0))) go p
    (IsInSpan-add_multiple q n new (neg q (g i)) _ _ (IsInSpan-row q m n new i gn p) (IsInSpan-row q m n new r gn h))
    (λ j k. sym (
    ap (λ y. add q (get_or (get_or new i []) j 0) (mul q (neg q (g i)) y)) (row-entry new r j ∙ same_row j k)
    ∙ ap (λ y. add q y (mul q (neg q (g i)) (entry old r j))) (row-entry new i j ∙ e i j p k)
    ∙ add_back q (entry old i j) (g i) (entry old r j) (go.small i j))))
    (λ i l. let p : i < m = (let c = gn.count in omega arith) in
    IsInSpan-entries q m n new old i (λ j. add q (get_or (get_or old i []) j 0) (mul q (g i) (get_or (get_or old r []) j 0))) gn p
    (IsInSpan-add_multiple q n old (g i) _ _ (IsInSpan-row q m n old i go p) (IsInSpan-row q m n old r go h))
    (λ j k. e i j p k ∙ ap (λ y. add q y (mul q (g i) (entry old r j))) (sym (row-entry old i j)) ∙ ap (λ y. add q (get_or (get_or old i []) j 0) (mul q (g i) y)) (sym (row-entry old r j))))
  where
    same_row : (j : ℕ) → j < n → entry new r j ≡ entry old r j
    same_row j k = e r j h k ∙ ap (λ y. add q (entry old r j) (mul q y (entry old r j))) z ∙ ap (add q (entry old r j)) (zero_mul q _) ∙ add_zero q _ (go.small r j)

-- multiplying rows by numbers that have inverses
pub SameSpan-scaled : (q : Gf) (m n : ℕ) (old new : List (List ℕ)) (g h : ℕ → ℕ) → IsGrid q m n old → IsGrid q m n new → ((i : ℕ) → i < m → mul q (h i) (g i) ≡ 1)
    → ((i j : ℕ) → i < m → j < n → entry new i j ≡ mul q (g i) (entry old i j)) → SameSpan q n old new
SameSpan-scaled q m n old new g h go gn u e =
    SameSpan-from_rows q n old new
    (λ i l. let p : i < m = (let c = go.count in omega arith) in
    IsInSpan-entries q m n old new i (λ j. mul q (h i) (get_or (get_or new i []) j 0)) go p
    (IsInSpan-multiple q n new (h i) _ (IsInSpan-row q m n new i gn p))
    (λ j k. sym (ap (mul q (h i)) (row-entry new i j ∙ e i j p k) ∙ sym (mul_assoc q (h i) (g i) _) ∙ ap (λ y. mul q y (entry old i j)) (u i p) ∙ one_mul q _ (go.small i j))))
    (λ i l. let p : i < m = (let c = gn.count in omega arith) in
    IsInSpan-entries q m n new old i (λ j. mul q (g i) (get_or (get_or old i []) j 0)) gn p
    (IsInSpan-multiple q n old (g i) _ (IsInSpan-row q m n old i go p))
    (λ j k. e i j p k ∙ ap (mul q (g i)) (sym (row-entry old i j))))

-- each row of either matrix is a row of the other
pub SameSpan-moved : (q : Gf) (m n : ℕ) (old new : List (List ℕ)) (f g : ℕ → ℕ) → IsGrid q m n old → IsGrid q m n new → ((i : ℕ) → i < m → f i < m) → ((i : ℕ) → i < m → g i < m)
    → ((i j : ℕ) → i < m → j < n → entry new i j ≡ entry old (f i) j) → ((i j : ℕ) → i < m → j < n → entry old i j ≡ entry new (g i) j) → SameSpan q n old new
SameSpan-moved q m n old new f g go gn fm gm e k =
    SameSpan-from_rows q n old new
    (λ i l. let p : i < m = (let c = go.count in omega arith) in IsInSpan-moved go gn i (g i) p (gm i p) (λ j h. k i j p h))
    (λ i l. let p : i < m = (let c = gn.count in omega arith) in IsInSpan-moved gn go i (f i) p (fm i p) (λ j h. e i j p h))
  where
    IsInSpan-moved : {a b : List (List ℕ)} → IsGrid q m n a → IsGrid q m n b → (i t : ℕ) → i < m → t < m → ((j : ℕ) → j < n → entry a i j ≡ entry b t j) → IsInSpan q n b (get_or a i [])
    IsInSpan-moved {a} {b} ga gb i t p r h =
        let s = IsInSpan-row q m n b t gb r in
        (s.0, s.1 ∙ row-is q m n b t gb r ∙ sym (row-is q m n a i ga p ∙ list_of-same n (entry a i) (entry b t) 0 h))
