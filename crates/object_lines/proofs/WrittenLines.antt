-- Lines written token by token.
use Rattle.std.proofs.Common.{◌≡◌, ℕ, ◌+◌, ◌<◌, zero, suc, cond, List, [], ◌∷◌, ◌++◌, map, take, length, get_or, codes, refl, sym, ap, ◌∙◌, arith, append_assoc, append-nil}
use Rattle.std.proofs.lemmas.List.{take_more, map-append, length-take-le}
use Rattle.std.proofs.Math.Dec.{eqb-suc-zero}
use Rattle.text_lines.specs.Parts.{joined}
use Rattle.text_lines.specs.Strict.{strict_line}
use Rattle.fp_linear.specs.Matrix.{PlainMatrix}
use Rattle.header_text.specs.Spelling.{text_of}
use Rattle.header_text.proofs.Joining.{text_of-append}
use Rattle.object_lines.specs.Spelling.{numbers_form, slash_each, matrix_form, at_line, at_lines, has_entry}
use Rattle.object_lines.specs.Reading.{slash_before}
use Rattle.object_lines.specs.Written.{behind_spaces}

pub behind-append : (xs ys : List (List ℕ)) → behind_spaces (xs ++ ys) ≡ behind_spaces xs ++ behind_spaces ys
behind-append [] ys = refl
behind-append (x ∷ xs) ys = ap (λ l. (32 ∷ x) ++ l) (behind-append xs ys) ∙ sym (append_assoc (32 ∷ x) (behind_spaces xs) (behind_spaces ys))

pub behind-one : (x : List ℕ) → behind_spaces (x ∷ []) ≡ 32 ∷ x
behind-one x = append-nil (32 ∷ x)

-- tokens joined: the first, and the others behind spaces
pub joined_is : (t : List ℕ) (ts : List (List ℕ)) → joined 32 (t ∷ ts) ≡ t ++ behind_spaces ts
joined_is t [] = sym (append-nil t)
joined_is t (u ∷ ts) = ap (λ l. t ++ 32 ∷ l) (joined_is u ts)

-- a line written as a word, tokens behind spaces and a line feed
pub line_is : (o a b c word : List ℕ) (ts : List (List ℕ)) → a ≡ o ++ word → b ≡ a ++ behind_spaces ts → c ≡ b ++ 10 ∷ [] → c ≡ o ++ strict_line (word ∷ ts)
line_is o a b c word ts e f g =
    g ∙ (ap (λ l. l ++ 10 ∷ []) (f ∙ (ap (λ l. l ++ behind_spaces ts) e ∙ (append_assoc o word (behind_spaces ts) ∙ ap (λ l. o ++ l) (sym (joined_is word ts)))))
    ∙ append_assoc o (joined 32 (word ∷ ts)) (10 ∷ []))

-- one piece more
pub then_tokens : (o a b : List ℕ) (xs ys : List (List ℕ)) → a ≡ o ++ behind_spaces xs → b ≡ a ++ behind_spaces ys → b ≡ o ++ behind_spaces (xs ++ ys)
then_tokens o a b xs ys e f = f ∙ (ap (λ l. l ++ behind_spaces ys) e ∙ (append_assoc o (behind_spaces xs) (behind_spaces ys) ∙ ap (λ l. o ++ l) (sym (behind-append xs ys))))

pub then_token : (o a b : List ℕ) (xs : List (List ℕ)) (t : List ℕ) → a ≡ o ++ behind_spaces xs → b ≡ a ++ 32 ∷ t → b ≡ o ++ behind_spaces (xs ++ t ∷ [])
then_token o a b xs t e f = then_tokens o a b xs (t ∷ []) e (f ∙ ap (λ l. a ++ l) (sym (behind-one t)))

pub one_token : (o a : List ℕ) (t : List ℕ) → a ≡ o ++ 32 ∷ t → a ≡ o ++ behind_spaces (t ∷ [])
one_token o a t e = e ∙ ap (λ l. o ++ l) (sym (behind-one t))

-- the first i items and one more
pub items_step : (f : ℕ → List ℕ) (o a b : List ℕ) (xs : List ℕ) (i d : ℕ) → i < length xs → a ≡ o ++ behind_spaces (map f (take i xs)) → b ≡ a ++ 32 ∷ f (get_or xs i d)
    → b ≡ o ++ behind_spaces (map f (take (i + 1) xs))
items_step f o a b xs i d h e g =
    then_token o a b (map f (take i xs)) (f (get_or xs i d)) e g
    ∙ ap (λ l. o ++ behind_spaces l) (sym (ap (map f) (take_more xs i d h) ∙ map-append f (take i xs) (get_or xs i d ∷ [])))

-- ---- matrices

pub slash-append : (xs ys : List (List ℕ)) → slash_each (xs ++ ys) ≡ slash_each xs ++ slash_each ys
slash-append [] ys = refl
slash-append (x ∷ xs) ys =
    ap (λ l. codes "/" ∷ (numbers_form x ++ l)) (slash-append xs ys) ∙ ap (λ l. codes "/" ∷ l) (sym (append_assoc (numbers_form x) (slash_each xs) (slash_each ys)))

pub matrix-more : (x : List ℕ) (xs : List (List ℕ)) (row : List ℕ) → matrix_form ((x ∷ xs) ++ row ∷ []) ≡ (matrix_form (x ∷ xs) ++ codes "/" ∷ []) ++ numbers_form row
matrix-more x xs row =
    ap (λ l. numbers_form x ++ l) (slash-append xs (row ∷ []) ∙ ap (λ l. slash_each xs ++ codes "/" ∷ l) (append-nil (numbers_form row)))
    ∙ (sym (append_assoc (numbers_form x) (slash_each xs) (codes "/" ∷ numbers_form row))
    ∙ sym (append_assoc (matrix_form (x ∷ xs)) (codes "/" ∷ []) (numbers_form row)))

pub matrix_take : (rows : List (List ℕ)) (i : ℕ) (d : List ℕ) → i < length rows → matrix_form (take (i + 1) rows) ≡ (matrix_form (take i rows) ++ slash_before i) ++ numbers_form (get_or rows i d)
matrix_take [] i d h = absurd (omega arith)
matrix_take (x ∷ xs) zero d h = append-nil (numbers_form x)
matrix_take (x ∷ xs) (suc i) d h = rw (take_more (x ∷ xs) (suc i) d h, eqb-suc-zero i) (matrix-more x (take i xs) (get_or xs i d))

pub row_step : (o a b c : List ℕ) (rows : List (List ℕ)) (i : ℕ) (d : List ℕ) → i < length rows → a ≡ o ++ behind_spaces (matrix_form (take i rows)) → b ≡ a ++ behind_spaces (slash_before i)
    → c ≡ b ++ behind_spaces (numbers_form (get_or rows i d)) → c ≡ o ++ behind_spaces (matrix_form (take (i + 1) rows))
row_step o a b c rows i d h e f g =
    then_tokens o b c (matrix_form (take i rows) ++ slash_before i) (numbers_form (get_or rows i d)) (then_tokens o a b (matrix_form (take i rows)) (slash_before i) e f) g
    ∙ ap (λ l. o ++ behind_spaces l) (sym (matrix_take rows i d h))

-- the line of a matrix, if it has an entry
abbrev pub at_some : List ℕ → PlainMatrix → List (List (List ℕ))
at_some name m = cond (has_entry m) (at_line name m ∷ []) []

at_lines-append : (name : ℕ → List ℕ) (k : ℕ) (xs ys : List PlainMatrix) → at_lines name k (xs ++ ys) ≡ at_lines name k xs ++ at_lines name (k + length xs) ys
at_lines-append name k [] ys = ap (λ n. at_lines name n ys) (omega arith)
at_lines-append name k (x ∷ xs) ys =
    ap (λ l. at_some (name k) x ++ l) (at_lines-append name (k + 1) xs ys ∙ ap (λ n. at_lines name (k + 1) xs ++ at_lines name n ys) (omega arith))
    ∙ sym (append_assoc (at_some (name k) x) (at_lines name (k + 1) xs) (at_lines name (k + length (x ∷ xs)) ys))

pub at_take : (name : ℕ → List ℕ) (ms : List PlainMatrix) (i : ℕ) (d : PlainMatrix) → i < length ms → at_lines name 0 (take (i + 1) ms) ≡ at_lines name 0 (take i ms) ++ at_some (name i) (get_or ms i d)
at_take name ms i d h =
    let size : length (take i ms) ≡ i = length-take-le i ms (omega arith) in
    ap (at_lines name 0) (take_more ms i d h) ∙ (at_lines-append name 0 (take i ms) (get_or ms i d ∷ [])
    ∙ ap (λ l. at_lines name 0 (take i ms) ++ l) (append-nil (at_some (name (0 + length (take i ms))) (get_or ms i d)) ∙ ap (λ n. at_some (name n) (get_or ms i d)) (omega arith)))

pub at_step : (name : ℕ → List ℕ) (o a b : List ℕ) (ms : List PlainMatrix) (i : ℕ) (d : PlainMatrix) → i < length ms → a ≡ o ++ text_of (at_lines name 0 (take i ms))
    → b ≡ a ++ text_of (at_some (name i) (get_or ms i d)) → b ≡ o ++ text_of (at_lines name 0 (take (i + 1) ms))
at_step name o a b ms i d h e f =
    f ∙ (ap (λ l. l ++ text_of (at_some (name i) (get_or ms i d))) e ∙ (append_assoc o (text_of (at_lines name 0 (take i ms))) (text_of (at_some (name i) (get_or ms i d)))
    ∙ ap (λ l. o ++ l) (sym (text_of-append (at_lines name 0 (take i ms)) (at_some (name i) (get_or ms i d))) ∙ ap text_of (sym (at_take name ms i d h)))))
