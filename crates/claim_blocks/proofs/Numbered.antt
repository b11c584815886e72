-- Modules and claims by number, of some records and one behind them.
use Rattle.std.proofs.Common.{◌≡◌, ℕ, zero, suc, ◌+◌, ◌<◌, List, ◌++◌, length, get_or, sym, ap, ◌∙◌, arith}
use Rattle.std.proofs.lemmas.List.{get_or_append_left, get_or_past, get_or_default, get_or-append-add}
use Rattle.path_algebra.specs.Derivations.{IsNumber}
use Rattle.report_types.specs.Numbers.{numbered}

pub numbered_left : {X : Type 0} (d : X) (xs ys : List X) (n : ℕ) → IsNumber (length xs) n → numbered d xs n ≡ numbered d (xs ++ ys) n
numbered_left d xs ys zero is = absurd (let l = is.from in omega (arith, l))
numbered_left d xs ys (suc i) is = sym (get_or_append_left xs ys d i (let l = is.to in omega (arith, l)))

pub numbered_past : {X : Type 0} (d : X) (xs : List X) (n : ℕ) → length xs < n → d ≡ numbered d xs n
numbered_past d xs zero l = absurd (omega (arith, l))
numbered_past d xs (suc i) l = sym (get_or_past xs i d (omega (arith, l)))

pub numbered_right : {X : Type 0} (d e : X) (xs ys : List X) (n j : ℕ) → n ≡ suc (length xs + j) → j < length ys → get_or ys j e ≡ numbered d (xs ++ ys) n
numbered_right d e xs ys n j is l = get_or_default ys j e d l ∙ (sym (get_or-append-add xs ys j d) ∙ ap (numbered d (xs ++ ys)) (sym is))
