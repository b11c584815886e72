-- The tables of sums with multiples.
use Rattle.std.proofs.Common.{ℕ, ◌<◌, ◌≡◌, ◌+◌, ◌-◌, ◌*◌, ◌%◌, List, refl, ap, ◌∙◌, arith, get_or, length, take, drop}
use Rattle.std.proofs.lemmas.List.{length-take-le, length-drop, get_or-take, get_or-drop}
use Rattle.std.proofs.lemmas.Nat.{div-mul-add, mod-mul-add, mul-add-lt, row_fits}
use Rattle.linear_algebra.specs.Field.{Gf, f9, f25, f27, order, polynomial, coefficients, number, plus, times, multiple, front, top, remainder, add, mul}
use Rattle.linear_algebra.specs.Rows.{list_of}
use Rattle.linear_algebra.proofs.Rows.{get_or-list_of, length-list_of}
use Rattle.fp_linear.specs.Slices.{HasSums}
use Rattle.fp_linear.specs.Tables.{letter, letter_of_sum, multiples_of}
use Rattle.fp_linear.specs.declared.multiples.TheConstants.{MULTIPLES_9, MULTIPLES_25, MULTIPLES_27}

pub multiples_9 : MULTIPLES_9.now ≡ multiples_of f9
unfolding multiples_of list_of add mul polynomial coefficients number plus times multiple front top remainder
multiples_9 = refl

pub multiples_25 : MULTIPLES_25.now ≡ multiples_of f25
unfolding multiples_of list_of add mul polynomial coefficients number plus times multiple front top remainder
multiples_25 = refl

pub multiples_27 : MULTIPLES_27.now ≡ multiples_of f27
unfolding multiples_of list_of add mul polynomial coefficients number plus times multiple front top remainder
multiples_27 = refl

pub length-multiples_of : (q : Gf) → length (multiples_of q) ≡ order q * order q * order q
unfolding multiples_of
length-multiples_of q = length-list_of (order q * order q * order q) _

pub multiples_of-at : (q : Gf) (c k : ℕ) → c < order q → k < order q * order q → get_or (multiples_of q) (c * (order q * order q) + k) 0 ≡ letter_of_sum q c k
unfolding multiples_of
multiples_of-at q c k h l =
    get_or-list_of (order q * order q * order q) _ (c * (order q * order q) + k) 0 (mul-add-lt c (order q * order q) k (order q) h l)
    ∙ ap (λ i. letter_of_sum q i ((c * (order q * order q) + k) % (order q * order q))) (div-mul-add c (order q * order q) k l)
    ∙ ap (letter_of_sum q c) (mod-mul-add c (order q * order q) k l)

pub letter_of_sum-at : (q : Gf) (c a b : ℕ) → b < order q → letter_of_sum q c (a * order q + b) ≡ letter (add q a (mul q c b))
letter_of_sum-at q c a b h =
    ap (λ i. letter (add q i (mul q c ((a * order q + b) % order q)))) (div-mul-add a (order q) b h)
    ∙ ap (λ i. letter (add q a (mul q c i))) (mod-mul-add a (order q) b h)

pub letter_back : (a : ℕ) → letter a - 64 ≡ a
letter_back a = omega arith

-- the part of a factor
pub part_of_multiples : (q : Gf) (c part at : ℕ) (s : List ℕ) → s ≡ multiples_of q → c < order q → part ≡ order q * order q → at ≡ c * (order q * order q) → HasSums q c (take part (drop at s))
part_of_multiples q c part at s e h k l =
    let most = row_fits c (order q * order q) (order q) (order q * order q) h (omega arith) in
    let whole : length s ≡ order q * order q * order q = ap length e ∙ length-multiples_of q in
    record {
      count = length-take-le part (drop at s) (simp length-drop (omega arith)) ∙ k;
      sums = λ a b i j.
          let inside = mul-add-lt a (order q) b (order q) i j in
          get_or-take part (drop at s) (a * order q + b) 0 (omega arith) ∙ get_or-drop at s (a * order q + b) 0 ∙ ap (λ t. get_or t (at + (a * order q + b)) 0) e
          ∙ ap (λ n. get_or (multiples_of q) (n + (a * order q + b)) 0) l ∙ multiples_of-at q c (a * order q + b) h inside ∙ letter_of_sum-at q c a b j;
    }
