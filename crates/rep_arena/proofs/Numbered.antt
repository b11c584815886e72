-- Items of lists by their numbers, which count from 1.
use Rattle.std.proofs.Common.{ℕ, zero, suc, ◌<◌, ◌≤◌, ◌≡◌, ◌-◌, List, ◌++◌, length, take, get_or, refl, sym, ap, ◌∙◌, arith, subst}
use Rattle.std.proofs.lemmas.List.{get_or_default, get_or-take, get_or_append_left, get_or-append_right, length-append}
use Rattle.std.proofs.lemmas.List.Elements.{All-get_or}
use Rattle.std.specs.Prelude.{All}
use Rattle.path_algebra.specs.Derivations.{IsNumber}
use Rattle.rep_arena.specs.Entries.{numbered}

module _ {X : Type 0} (missing : X) where
  pub numbered_place : (xs : List X) (n : ℕ) (d : X) → IsNumber (length xs) n → numbered missing xs n ≡ get_or xs (n - 1) d
  numbered_place xs zero d i = absurd (omega (arith, i.from))
  numbered_place xs (suc k) d i = get_or_default xs k missing d (omega (arith, i.to)) ∙ (let e : k ≡ suc k - 1 = omega arith in ap (λ k. get_or xs k d) e)

  -- as it is read at a place
  pub numbered_read : (xs : List X) (n : ℕ) (x : X) → IsNumber (length xs) n → x ≡ get_or xs (n - 1) x → x ≡ numbered missing xs n
  numbered_read xs n x i e = e ∙ sym (numbered_place xs n x i)

  pub numbered-front : (xs ys : List X) (n : ℕ) → n ≤ length xs → numbered missing (xs ++ ys) n ≡ numbered missing xs n
  numbered-front xs ys zero h = refl
  numbered-front xs ys (suc k) h = get_or_append_left xs ys missing k (omega arith)

  pub numbered-behind : (xs ys : List X) (n : ℕ) → length xs < n → numbered missing (xs ++ ys) n ≡ numbered missing ys (n - length xs)
  numbered-behind xs ys zero h = absurd (omega arith)
  numbered-behind xs ys (suc k) h =
      let e : suc k - length xs ≡ suc (k - length xs) = omega arith in
      get_or-append_right xs ys (length xs) k missing refl (omega arith) ∙ sym (ap (numbered missing ys) e)

  pub numbered-take : (xs : List X) (k n : ℕ) → n ≤ k → numbered missing (take k xs) n ≡ numbered missing xs n
  numbered-take xs k zero h = refl
  numbered-take xs k (suc i) h = get_or-take k xs i missing (omega arith)

  pub All-numbered : (P : X → Type 0) (xs : List X) (n : ℕ) → All P xs → IsNumber (length xs) n → P (numbered missing xs n)
  All-numbered P xs n a i = subst P (sym (numbered_place xs n missing i)) (All-get_or P xs (n - 1) missing (omega (arith, i.from, i.to)) a)

-- a number stays one in a longer list
pub number_more : (k n i : ℕ) → k ≤ n → IsNumber k i → IsNumber n i
number_more k n i h l = record { from = l.from; to = omega (arith, l.to) }

-- what is read at a place of two lists, one behind the other
pub listed_front : {X : Type 0} (P : X → Type 0) (xs ys : List X) (k : ℕ) (x y : X) → All P (xs ++ ys) → k < length xs → x ≡ get_or xs k x → y ≡ x → P y
listed_front P xs ys k x y a l e s = subst P (get_or_append_left xs ys x k l ∙ sym e ∙ sym s) (a k x (let n = length-append xs ys in omega arith))

pub listed_behind : {X : Type 0} (P : X → Type 0) (xs ys : List X) (k : ℕ) (x y : X) → All P (xs ++ ys) → length xs ≤ k → k < length (xs ++ ys) → x ≡ get_or ys (k - length xs) x → y ≡ x → P y
listed_behind P xs ys k x y a g l e s = subst P (get_or-append_right xs ys (length xs) k x refl g ∙ sym e ∙ sym s) (a k x l)

pub behind : {X : Type 0} (P : X → Type 0) (xs ys : List X) (n k : ℕ) (x y : X) → All P (xs ++ ys) → k ≡ length xs → k ≤ n - 1 → IsNumber (length (xs ++ ys)) n → x ≡ get_or ys (n - 1 - k) x → y ≡ x → P y
behind P xs ys n k x y a e g i r s = listed_behind P xs ys (n - 1) x y a (omega arith) (omega (arith, i.from, i.to)) (r ∙ ap (λ k. get_or ys (n - 1 - k) x) e) s

-- a number of a list that is as long
pub number_in : (n : ℕ) (b : ℕ) {a : ℕ} → IsNumber b n → a ≡ b → IsNumber a n
number_in n b i e = record { from = i.from; to = omega (arith, i.to, e) }
