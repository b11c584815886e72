-- Sparse rows that stand one behind the other.
use Rattle.std.proofs.Common.{ℕ, zero, suc, ◌≡◌, ◌<◌, ◌≤◌, ◌+◌, ◌-◌, inl, inr, List, [], ◌∷◌, ◌++◌, length, take, drop, get_or, refl, sym, ap, ap₂, ◌∙◌, subst, arith, length-append}
use Rattle.std.specs.Prelude.{All}
use Rattle.std.proofs.lemmas.Bool.{cases_lt}
use Rattle.std.proofs.lemmas.List.{take-append-le, drop-append-le, get_or_append_left, get_or-append_right, length-drop, drop_at, take_all, get_or_past}
use Rattle.std.proofs.lemmas.List.Elements.{All-append}
use Rattle.linear_algebra.specs.Field.{Gf}
use Rattle.linear_algebra.specs.Rows.{list_of}
use Rattle.linear_algebra.proofs.Rows.{length-list_of, get_or-list_of, get_or-list_of_past, list_of-is}
use Rattle.word_products.specs.declared.sparse.Entry.{Entry}
use Rattle.word_products.specs.SparseRows.{IsEntry, begin_of, piece, pieces, HoldsSparse}

pub length-pieces : {X : Type 0} (ends : List ℕ) (entries : List X) → length (pieces ends entries) ≡ length ends
unfolding pieces
length-pieces ends entries = length-list_of (length ends) (piece ends entries)

pub pieces-at : {X : Type 0} (ends : List ℕ) (entries : List X) (k : ℕ) → k < length ends → get_or (pieces ends entries) k [] ≡ piece ends entries k
unfolding pieces
pieces-at ends entries k l = get_or-list_of (length ends) (piece ends entries) k [] l

pub pieces-past : {X : Type 0} (ends : List ℕ) (entries : List X) (k : ℕ) → length ends ≤ k → get_or (pieces ends entries) k [] ≡ []
unfolding pieces
pieces-past ends entries k l = get_or-list_of_past (length ends) (piece ends entries) k [] l

begin-front : (ends : List ℕ) (e k : ℕ) → k ≤ length ends → begin_of (ends ++ e ∷ []) k ≡ begin_of ends k
begin-front ends e zero l = refl
begin-front ends e (suc k) l = get_or_append_left ends (e ∷ []) 0 k (omega (arith, l))

end-last : (ends : List ℕ) (e : ℕ) → get_or (ends ++ e ∷ []) (length ends) 0 ≡ e
end-last ends e = get_or-append_right ends (e ∷ []) (length ends) (length ends) 0 refl (omega arith) ∙ ap (λ i. get_or (e ∷ []) i 0) nothing
  where
    nothing : ◌≡◌ {A = ℕ} (length ends - length ends) 0
    nothing = omega arith

piece-front : {X : Type 0} (ends : List ℕ) (entries row : List X) (e k : ℕ) → k < length ends → begin_of ends k ≤ get_or ends k 0 → get_or ends k 0 ≤ length entries
    → piece (ends ++ e ∷ []) (entries ++ row) k ≡ piece ends entries k
unfolding piece
piece-front ends entries row e k l a i =
    let end : get_or (ends ++ e ∷ []) k 0 ≡ get_or ends k 0 = get_or_append_left ends (e ∷ []) 0 k l in
    ap₂ (λ x b. take (x - b) (drop b (entries ++ row))) end (begin-front ends e k (omega (arith, l)))
    ∙ ap (take (get_or ends k 0 - begin_of ends k)) (drop-append-le (begin_of ends k) entries row (omega (arith, a, i)))
    ∙ take-append-le (get_or ends k 0 - begin_of ends k) (drop (begin_of ends k) entries) row (omega (arith, length-drop (begin_of ends k) entries, a, i))

piece-last : {X : Type 0} (ends : List ℕ) (entries row : List X) → begin_of ends (length ends) ≡ length entries
    → piece (ends ++ length (entries ++ row) ∷ []) (entries ++ row) (length ends) ≡ row
unfolding piece
piece-last ends entries row l =
    ap₂ (λ x b. take (x - b) (drop b (entries ++ row))) (end-last ends (length (entries ++ row))) (begin-front ends (length (entries ++ row)) (length ends) (omega arith) ∙ l)
    ∙ ap₂ take (lengths) (drop_at entries row (length entries) refl)
    ∙ take_all (length row) row (omega arith)
  where
    lengths : length (entries ++ row) - length entries ≡ length row
    lengths = omega (arith, length-append entries row)

-- a row behind the others
pub pieces-push : (q : Gf) (width : ℕ) (ends : List ℕ) (entries row : List Entry) → HoldsSparse q width ends entries
    → pieces (ends ++ length (entries ++ row) ∷ []) (entries ++ row) ≡ pieces ends entries ++ row ∷ []
unfolding pieces
pieces-push q width ends entries row h = sym (list_of-is (length (ends ++ length (entries ++ row) ∷ [])) _ (pieces ends entries ++ row ∷ []) [] lengths at)
  where
    lengths : length (pieces ends entries ++ row ∷ []) ≡ length (ends ++ length (entries ++ row) ∷ [])
    lengths = length-append (pieces ends entries) (row ∷ []) ∙ ap (λ n. n + 1) (length-pieces ends entries) ∙ sym (length-append ends (length (entries ++ row) ∷ []))

    at : (k : ℕ) → k < length (ends ++ length (entries ++ row) ∷ []) → get_or (pieces ends entries ++ row ∷ []) k [] ≡ piece (ends ++ length (entries ++ row) ∷ []) (entries ++ row) k
    at k l = elim (cases_lt k (length ends)) [
      | inl b ↦ get_or_append_left (pieces ends entries) (row ∷ []) [] k (subst (λ n. k < n) (sym (length-pieces ends entries)) b)
          ∙ pieces-at ends entries k b ∙ sym (piece-front ends entries row (length (entries ++ row)) k b (h.ascending k b) (h.inside k))
      | inr b ↦
          let e : k ≡ length ends = omega (arith, l, b, length-append ends (length (entries ++ row) ∷ [])) in
          get_or-append_right (pieces ends entries) (row ∷ []) (length ends) k [] (length-pieces ends entries) b
          ∙ ap (λ i. get_or (row ∷ []) i []) (zero_is k e)
          ∙ sym (piece-last ends entries row h.last)
          ∙ sym (ap (piece (ends ++ length (entries ++ row) ∷ []) (entries ++ row)) e)
    ]
      where
        zero_is : (k : ℕ) → k ≡ length ends → ◌≡◌ {A = ℕ} (k - length ends) 0
        zero_is k e = omega (arith, e)

pub HoldsSparse-push : (q : Gf) (width : ℕ) (ends : List ℕ) (entries row : List Entry) → HoldsSparse q width ends entries → All (IsEntry q width) row
    → HoldsSparse q width (ends ++ length (entries ++ row) ∷ []) (entries ++ row)
HoldsSparse-push q width ends entries row h a = record {
  ascending = λ k l. elim (cases_lt k (length ends)) [
    | inl b ↦ subst (λ x. x ≤ get_or (ends ++ length (entries ++ row) ∷ []) k 0) (sym (begin-front ends (length (entries ++ row)) k (omega (arith, b))))
        (subst (λ x. begin_of ends k ≤ x) (sym (get_or_append_left ends (length (entries ++ row) ∷ []) 0 k b)) (h.ascending k b))
    | inr b ↦
        let e : k ≡ length ends = omega (arith, l, b, length-append ends (length (entries ++ row) ∷ [])) in
        subst (λ i. begin_of (ends ++ length (entries ++ row) ∷ []) i ≤ get_or (ends ++ length (entries ++ row) ∷ []) i 0) (sym e)
        (omega (arith, begin-front ends (length (entries ++ row)) (length ends) (omega arith), end-last ends (length (entries ++ row)), h.last, length-append entries row))
  ];
  inside = λ k. elim (cases_lt k (length ends)) [
    | inl b ↦ omega (arith, get_or_append_left ends (length (entries ++ row) ∷ []) 0 k b, h.inside k, length-append entries row)
    | inr b ↦ past k b
  ];
  last = ap (begin_of (ends ++ length (entries ++ row) ∷ [])) (length-append ends (length (entries ++ row) ∷ []) ∙ one_more) ∙ end-last ends (length (entries ++ row));
  small = All-append (IsEntry q width) entries row h.small a;
}
  where
    one_more : length ends + 1 ≡ suc (length ends)
    one_more = omega arith

    past : (k : ℕ) → length ends ≤ k → get_or (ends ++ length (entries ++ row) ∷ []) k 0 ≤ length (entries ++ row)
    past k b = elim (cases_lt k (length ends + 1)) [
      | inl l ↦
          let e : k ≡ length ends = omega (arith, l, b) in
          subst (λ i. get_or (ends ++ length (entries ++ row) ∷ []) i 0 ≤ length (entries ++ row)) (sym e) (omega (arith, end-last ends (length (entries ++ row))))
      | inr l ↦ omega (arith, get_or_past (ends ++ length (entries ++ row) ∷ []) k 0 (omega (arith, l, length-append ends (length (entries ++ row) ∷ []))))
    ]

-- the row that is read
pub piece_is : {X : Type 0} (ends : List ℕ) (entries : List X) (k begin end : ℕ) → k < length ends → begin ≡ begin_of ends k → end ≡ get_or ends k 0
    → take (end - begin) (drop begin entries) ≡ get_or (pieces ends entries) k []
unfolding piece
piece_is ends entries k begin end l b e = ap₂ (λ x y. take (x - y) (drop y entries)) e b ∙ sym (pieces-at ends entries k l)

pub begin-at : (ends : List ℕ) (k x : ℕ) → 0 < k → x ≡ get_or ends (k - 1) 0 → x ≡ begin_of ends k
begin-at ends zero x p e = absurd (omega (arith, p))
begin-at ends (suc k) x p e = e ∙ ap (λ i. get_or ends i 0) same
  where
    same : suc k - 1 ≡ k
    same = omega arith

pub pieces-none : {X : Type 0} (entries : List X) → pieces [] entries ≡ []
unfolding pieces list_of
pieces-none entries = refl
