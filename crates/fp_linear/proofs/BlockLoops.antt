-- Blocks copied row by row, and ones on a diagonal.
use Rattle.std.proofs.Common.{ℕ, ◌<◌, ◌≤◌, ◌≡◌, inl, inr, ◌+◌, ◌*◌, ◌-◌, List, length, get_or, set, cond, refl, sym, ap, ◌∙◌, arith, get_or-set_same, get_or-set_other}
use Rattle.std.proofs.lemmas.Nat.{mul-add-lt, same_from_place}
use Rattle.std.proofs.lemmas.Bool.{cases_lt, cases_eq}
use Rattle.std.proofs.lemmas.Bool.Decides.{eqb_tells}
use Rattle.fp_linear.specs.Slices.{cell, IsWritten, copied}
use Rattle.fp_linear.specs.Products.{HasBlock, HasUnits, HasColumn, HasColumns}
use Rattle.fp_linear.proofs.Cells.{cell-is, cell-written, cell-unwritten}

pub HasBlock-none : (n count first from : ℕ) (e f : ℕ → ℕ → ℕ) → HasBlock n count 0 first from e f f
HasBlock-none n count first from e f = record { done = λ i j h. absurd (omega arith); others = λ i j h k. refl }

pub HasBlock-more : (n w count k first from : ℕ) (source old s new : List ℕ) → count ≤ n → IsWritten s new (k * n) count (copied ((first + k) * w + from) source)
    → HasBlock n count k first from (cell w source) (cell n old) (cell n s) → HasBlock n count (k + 1) first from (cell w source) (cell n old) (cell n new)
HasBlock-more n w count k first from source old s new c w' h = record {
  done = λ i j l b. elim (cases_lt i k) [
    | inl d ↦ cell-unwritten s new n k 0 (k * n) count _ (omega arith) (omega arith) w' i j (omega arith) (λ e. omega arith) ∙ h.done i j d b
    | inr d ↦
        let e : i ≡ k = omega arith in
        let p : (first + k) * w + from + (j - 0) ≡ (first + k) * w + (from + j) = omega arith in
        ap (λ i. cell n new i j) e ∙ cell-written s new n k 0 (k * n) count _ (omega arith) w' j (omega arith) (omega arith)
        ∙ ap (λ x. get_or source x 0) p ∙ sym (cell-is w source (first + k) (from + j)) ∙ ap (λ i. cell w source (first + i) (from + j)) (sym e)
  ];
  others = λ i j l b. elim (cases_eq i k) [
    | inl e ↦ ap (λ i. cell n new i j) e ∙ cell-is n new k j ∙ w'.after (k * n + j) (omega arith) ∙ sym (cell-is n s k j) ∙ ap (λ i. cell n s i j) (sym e) ∙ h.others i j l b
    | inr d ↦ cell-unwritten s new n k 0 (k * n) count _ (omega arith) (omega arith) w' i j b d ∙ h.others i j l b
  ];
}

pub HasUnits-none : (m c : ℕ) (e : ℕ → ℕ → ℕ) → ((i j : ℕ) → i < m → j < m → e i (c + j) ≡ 0) → HasUnits m c 0 e e
HasUnits-none m c e z = record { left = λ i j h. refl; done = λ i j h. absurd (omega arith); rest = λ i j h. z i j }

pub HasUnits-more : (m w c k : ℕ) (old s : List ℕ) → length s ≡ m * w → c + m ≤ w → k < m → HasUnits m c k (cell w old) (cell w s) → HasUnits m c (k + 1) (cell w old) (cell w (set s (k * w + c + k) 1))
HasUnits-more m w c k old s len fits hk h = record {
  left = λ i j l. away i j (omega arith) (λ e. let x = e.1 in omega arith) ∙ h.left i j l;
  done = λ i j l b. elim (cases_lt i k) [
    | inl d ↦ away i (c + j) (omega arith) (λ e. let x = e.0 in omega arith) ∙ h.done i j d b
    | inr d ↦
        let e : i ≡ k = omega arith in
        elim (eqb_tells i j) [
          | inl t ↦ ap (λ x. cell w new i x) (let p : c + j ≡ c + k = (let u = t.1 in omega arith) in p) ∙ ap (λ i. cell w new i (c + k)) e ∙ at ∙ ap (λ b. cond b 1 0) (sym t.0)
          | inr t ↦ away i (c + j) (omega arith) (λ x. t.1 (let u = x.1 in omega arith)) ∙ h.rest i j d (omega arith) b ∙ ap (λ b. cond b 1 0) (sym t.0)
        ]
  ];
  rest = λ i j l b d. away i (c + j) (omega arith) (λ e. let x = e.0 in omega arith) ∙ h.rest i j (omega arith) b d;
}
  where
    new : List ℕ
    new = set s (k * w + c + k) 1

    at : cell w new k (c + k) ≡ 1
    at =
        let inside = mul-add-lt k w (c + k) m hk (omega arith) in
        let p : k * w + (c + k) ≡ k * w + c + k = omega arith in
        cell-is w new k (c + k) ∙ ap (λ x. get_or new x 0) p ∙ get_or-set_same s (k * w + c + k) 1 0 (omega arith)

    away : (i j : ℕ) → j < w → ((i ≡ k) × (j ≡ c + k) → ⊥) → cell w new i j ≡ cell w s i j
    away i j l d = cell-is w new i j ∙ get_or-set_other s (k * w + c + k) (i * w + j) 1 0 (λ x. d (same_from_place i j k (c + k) w l (omega arith) (omega arith))) ∙ sym (cell-is w s i j)

-- columns
pub HasColumn-none : (width column : ℕ) (h : ℕ → ℕ) (f : ℕ → ℕ → ℕ) → HasColumn width 0 column h f f
HasColumn-none width column h f = record { written = λ j l. absurd (omega arith); kept = λ j t l d. refl }

pub HasColumn-more : (width n j column v : ℕ) (h : ℕ → ℕ) (f : ℕ → ℕ → ℕ) (s : List ℕ) → column < width → j < n → n * width ≤ length s → v ≡ h j → HasColumn width j column h f (cell width s)
    → HasColumn width (j + 1) column h f (cell width (set s (j * width + column) v))
HasColumn-more width n j column v h f s hc hj len e w = record {
  written = λ i l. elim (cases_lt i j) [
    | inl b ↦ away i column hc (λ x. let u = x.0 in omega arith) ∙ w.written i b
    | inr b ↦
        let k : i ≡ j = omega arith in
        ap (λ i. cell width new i column) k ∙ cell-is width new j column ∙ get_or-set_same s (j * width + column) v 0 (let f = mul-add-lt j width column n hj hc in omega arith) ∙ e ∙ ap h (sym k)
  ];
  kept = λ i t l d. away i t l (λ x. d (x.1)) ∙ w.kept i t l d;
}
  where
    new : List ℕ
    new = set s (j * width + column) v

    away : (i t : ℕ) → t < width → ((i ≡ j) × (t ≡ column) → ⊥) → cell width new i t ≡ cell width s i t
    away i t l d = cell-is width new i t ∙ get_or-set_other s (j * width + column) (i * width + t) v 0 (λ x. d (same_from_place i t j column width l hc x)) ∙ sym (cell-is width s i t)

pub HasColumns-none : (n first : ℕ) (e f : ℕ → ℕ → ℕ) → HasColumns n first 0 e f f
HasColumns-none n first e f = record { done = λ t j l. absurd (omega arith); kept = λ t j l. refl }

pub HasColumns-more : (width n first i : ℕ) (source : List ℕ) (f g h : ℕ → ℕ → ℕ) → first + i < width → HasColumns n first i (cell n source) f g → HasColumn width n (first + i) (copied (i * n) source) g h → HasColumns n first (i + 1) (cell n source) f h
HasColumns-more width n first i source f g h l w c = record {
  done = λ t j b d. elim (cases_lt t i) [
    | inl u ↦ c.kept j (first + t) (omega arith) (λ e. omega arith) ∙ w.done t j u d
    | inr u ↦ let e : t ≡ i = omega arith in ap (λ t. h j (first + t)) e ∙ c.written j d ∙ sym (cell-is n source i j) ∙ ap (λ i. cell n source i j) (sym e)
  ];
  kept = λ t j b. c.kept j t (omega arith) (λ e. omega arith) ∙ w.kept t j b;
}
