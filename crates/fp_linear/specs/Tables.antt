-- The tables of a field.
use Rattle.std.specs.Prelude.{ℕ, ◌+◌, ◌*◌, ◌/◌, ◌%◌, List}
use Rattle.linear_algebra.specs.Field.{Gf, order, add, mul}
use Rattle.linear_algebra.specs.Rows.{list_of}

-- n rows of n entries one after another: row a has f a b at place b
unfoldable pub table_of : ℕ → (ℕ → ℕ → ℕ) → List ℕ
table_of n f = list_of (n * n) (λ k. f (k / n) (k % n))

-- the letter of an element: @ has the code 64, and A, B, .. follow
abbrev pub letter : ℕ → ℕ
letter a = 64 + a

-- at place a n + b of the table of a factor c, with n the number of elements: the letter of a + c b
abbrev pub letter_of_sum : Gf → ℕ → ℕ → ℕ
letter_of_sum q c k = letter (add q (k / order q) (mul q c (k % order q)))

-- the tables of all factors one after another
unfoldable pub multiples_of : Gf → List ℕ
multiples_of q = list_of (order q * order q * order q) (λ k. letter_of_sum q (k / (order q * order q)) (k % (order q * order q)))
