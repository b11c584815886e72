-- When two matrices are equal, as a test.
use Rattle.std.specs.Prelude.{ℕ, ◌≡◌, Bool, true, nat_eq, List}
use Rattle.std.specs.Bool.{Decides}
use Rattle.std.specs.Ordering.{on, eq_of_both}
use Rattle.std.specs.Cmp.{unsigned_Decides, first_so, second_so}
use Rattle.std.specs.Cmp.Derive.{both_true}
use Rattle.std.specs.Cmp.Lexicographic.{pointwise, pointwise_decides, bytes_decides}
use Rattle.std.proofs.Common.{refl, sym, ap, ◌∙◌, subst}
use Rattle.linear_algebra.specs.Field.{Gf, f2, f3, f4, f5, f7, f8, f9, f11, f13, f16, f25, f27, order}
use Rattle.fp_linear.specs.Sizes.{field_of}
use Rattle.fp_linear.specs.Matrix.{PlainMatrix}

-- the rows, the counts and the numbers of elements are equal
abbrev pub same_matrix : PlainMatrix → PlainMatrix → Bool
same_matrix = eq_of_both (on (λ m. order m.field) nat_eq) (eq_of_both (on (λ m. m.row_count) nat_eq) (eq_of_both (on (λ m. m.col_count) nat_eq) (on (λ m. m.rows) (pointwise (pointwise nat_eq)))))

by_order : (q : Gf) → field_of (order q) ≡ q
by_order f2 = refl
by_order f3 = refl
by_order f4 = refl
by_order f5 = refl
by_order f7 = refl
by_order f8 = refl
by_order f9 = refl
by_order f11 = refl
by_order f13 = refl
by_order f16 = refl
by_order f25 = refl
by_order f27 = refl

equal_itself : (n : ℕ) → nat_eq n n ≡ true
equal_itself n = (unsigned_Decides n n).1 refl

pub rows_decides : (x y : List (List ℕ)) → Decides (pointwise (pointwise nat_eq) x y) (x ≡ y)
rows_decides = pointwise_decides bytes_decides

itself : (a : PlainMatrix) → same_matrix a a ≡ true
itself a = both_true (equal_itself (order a.field)) (both_true (equal_itself a.row_count) (both_true (equal_itself a.col_count) ((rows_decides a.rows a.rows).1 refl)))

same : (a b : PlainMatrix) → same_matrix a b ≡ true → a ≡ b
same a b h =
    let f = (unsigned_Decides (order a.field) (order b.field)).0 (first_so (nat_eq (order a.field) (order b.field)) _ h) in
    let u = second_so (nat_eq (order a.field) (order b.field)) _ h in
    let m = (unsigned_Decides a.row_count b.row_count).0 (first_so (nat_eq a.row_count b.row_count) _ u) in
    let v = second_so (nat_eq a.row_count b.row_count) _ u in
    let n = (unsigned_Decides a.col_count b.col_count).0 (first_so (nat_eq a.col_count b.col_count) _ v) in
    let r = (rows_decides a.rows b.rows).0 (second_so (nat_eq a.col_count b.col_count) _ v) in
    let q : a.field ≡ b.field = sym (by_order a.field) ∙ ap field_of f ∙ by_order b.field in
    λ i. record { field = q i; row_count = m i; col_count = n i; rows = r i }

-- two matrices are found equal exactly where they are
pub same_matrix-decides : (a b : PlainMatrix) → Decides (same_matrix a b) (a ≡ b)
same_matrix-decides a b = (same a b, λ e. subst (λ (c : PlainMatrix). same_matrix a c ≡ true) e (itself a))
