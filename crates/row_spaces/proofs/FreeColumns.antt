-- The free columns, one column after another.
use Rattle.std.proofs.Common.{ℕ, zero, suc, ◌<◌, ◌≤◌, ◌≡◌, ◌≢◌, ◌+◌, ◌-◌, inl, inr, List, [], ◌∷◌, ◌++◌, length, get_or, ap, ◌∙◌, arith, length-append}
use Rattle.std.proofs.lemmas.Bool.{cases_eq, cases_lt}
use Rattle.std.proofs.Math.Seq.{get_or-append_seam}
use Rattle.std.proofs.lemmas.List.{get_or_append_left}
use Rattle.row_spaces.specs.FreeColumns.{AreFree}

pub AreFree-none : (pivots : List ℕ) → AreFree 0 pivots []
AreFree-none pivots = record {
  inside = λ j h. absurd (omega (arith, h));
  further = λ i j h l. absurd (omega (arith, l));
  apart = λ i j h l. absurd (omega (arith, l));
  each = λ t h. absurd (omega (arith, h));
}

-- The next column is a pivot.
pub AreFree-pivot : (n i : ℕ) (pivots free : List ℕ) → i < length pivots → get_or pivots i 0 ≡ n → AreFree n pivots free → AreFree (n + 1) pivots free
AreFree-pivot n i pivots free h e a = record {
  inside = λ j l. let b = a.inside j l in omega arith;
  further = a.further;
  apart = a.apart;
  each = λ t l. elim (cases_lt t n) [
    | inl b ↦ a.each t b
    | inr b ↦ (let same : n ≡ t = omega arith in inl (i, h, e ∙ same))
  ];
}

-- It is none.
pub AreFree-more : (n : ℕ) (pivots free : List ℕ) → ((i : ℕ) → i < length pivots → get_or pivots i 0 ≢ n) → AreFree n pivots free → AreFree (n + 1) pivots (free ++ n ∷ [])
AreFree-more n pivots free none a = record {
  inside = λ j l. elim (cases_lt j (length free)) [
    | inl b ↦ rw (before j b) (let c = a.inside j b in omega arith)
    | inr b ↦ rw (at_end j b l) (omega arith)
  ];
  further = λ i j h l. elim (cases_lt j (length free)) [
    | inl b ↦ rw (before i (omega arith), before j b) (a.further i j h b)
    | inr b ↦ rw (before i (let c = count in omega arith), at_end j b l) (a.inside i (let c = count in omega arith))
  ];
  apart = λ i j h l. elim (cases_lt j (length free)) [
    | inl b ↦ λ e. a.apart i j h b (e ∙ before j b)
    | inr b ↦ λ e. none i h (e ∙ at_end j b l)
  ];
  each = λ t l. elim (cases_lt t n) [
    | inl b ↦ elim (a.each t b) [
      | inl p ↦ inl p
      | inr p ↦ inr (p.0, (let c = count in let o = p.1 in omega arith), before p.0 p.1 ∙ p.2)
    ]
    | inr b ↦ (let same : n ≡ t = omega arith in inr (length free, (let c = count in omega arith), at_end (length free) (omega arith) (let c = count in omega arith) ∙ same))
  ];
}
  where
    count : length (free ++ n ∷ []) ≡ length free + 1
    count = length-append free (n ∷ [])

    before : (j : ℕ) → j < length free → get_or (free ++ n ∷ []) j 0 ≡ get_or free j 0
    before j b = get_or_append_left free (n ∷ []) 0 j b

    at_end : (j : ℕ) → length free ≤ j → j < length (free ++ n ∷ []) → get_or (free ++ n ∷ []) j 0 ≡ n
    at_end j b l =
        let same : j ≡ length free = (let c = count in omega arith) in
        ap (λ j. get_or (free ++ n ∷ []) j 0) same ∙ get_or-append_seam free n [] 0

-- There are no more than columns.
module _ (n : ℕ) (pivots free : List ℕ) (a : AreFree n pivots free) where
  not_before : (j : ℕ) → j < length free → j ≤ get_or free j 0
  not_before zero h = omega arith
  not_before (suc j) h = let before = not_before j (omega (arith, h)) in let more = a.further j (suc j) (omega arith) h in omega arith

  pub AreFree-count : length free ≤ n
  AreFree-count = elim (cases_eq (length free) 0) [
    | inl e ↦ omega arith
    | inr d ↦ (let last = not_before (length free - 1) (omega arith) in let below = a.inside (length free - 1) (omega arith) in omega arith)
  ]
