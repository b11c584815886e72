-- What several calls in a row gave or took.
use Rattle.std.proofs.Common.{◌≡◌, ℕ, ◌+◌, ◌-◌, List, [], ◌++◌, length, take, drop, None, Some, sym, ap, ◌∙◌, refl, append_assoc, append-nil, subst, arith}
use Rattle.std.proofs.lemmas.List.{take-append-drop, take_all, length-drop, drop-drop}
use Rattle.std.proofs.Math.Seq.{take-add, take-append_seam}
use Rattle.std.specs.declared.option.Option.{Option}
use Rattle.quiv_io.specs.Bytes.{Gives, Takes, TakesFront}

pub Gives-nil : (a : Option (List ℕ)) → Gives a [] a
Gives-nil None = tt
Gives-nil (Some x) = refl

pub Gives-append : (a b c : Option (List ℕ)) (xs ys : List ℕ) → Gives a xs b → Gives b ys c → Gives a (xs ++ ys) c
Gives-append None None None xs ys p q = tt
Gives-append None None (Some z) xs ys p q = absurd q
Gives-append None (Some y) c xs ys p q = absurd p
Gives-append (Some x) None c xs ys p q = absurd p
Gives-append (Some x) (Some y) None xs ys p q = absurd q
Gives-append (Some x) (Some y) (Some z) xs ys p q = p ∙ ap (λ l. xs ++ l) q ∙ sym (append_assoc xs ys z)

pub Takes-nil : (a : Option (List ℕ)) → Takes a [] a
Takes-nil None = tt
Takes-nil (Some x) = sym (append-nil x)

pub Takes-append : (a b c : Option (List ℕ)) (xs ys : List ℕ) → Takes a xs b → Takes b ys c → Takes a (xs ++ ys) c
Takes-append a b None xs ys p q = tt
Takes-append a None (Some z) xs ys p q = absurd q
Takes-append None (Some y) (Some z) xs ys p q = absurd p
Takes-append (Some x) (Some y) (Some z) xs ys p q = q ∙ ap (λ l. l ++ ys) p ∙ append_assoc x xs ys

-- the part of a list from a place on
pub from_place : (bytes : List ℕ) (at : ℕ) → take (length bytes - at) (drop at bytes) ≡ drop at bytes
from_place bytes at = take_all (length bytes - at) (drop at bytes) (omega (arith, length-drop at bytes))

-- a piece copied to the front of a buffer is what a source at this place gave
pub gives_next : (bytes held into piece : List ℕ) (at n : ℕ) → held ≡ bytes → piece ≡ take n (take (length held - at) (drop at held)) → length piece ≡ n
    → drop at bytes ≡ take n (piece ++ drop n into) ++ drop (at + n) bytes
gives_next bytes held into piece at n same copied whole =
    let copied' : piece ≡ take n (drop at bytes) = copied ∙ ap (take n) (from_place held at) ∙ ap (λ l. take n (drop at l)) same in
    let front : take n (piece ++ drop n into) ≡ take n (drop at bytes) = subst (λ m. take m (piece ++ drop n into) ≡ take n (drop at bytes)) whole (take-append_seam piece (drop n into) ∙ copied') in
    sym (ap (λ l. l ++ drop (at + n) bytes) front ∙ ap (λ l. take n (drop at bytes) ++ l) (sym (drop-drop n at bytes)) ∙ take-append-drop n (drop at bytes))

-- a sink that took what stands before a place and then the next bytes took what stands before the next place
pub Takes-next : (a b c : Option (List ℕ)) (text : List ℕ) (at n : ℕ) → Takes a (take at text) b → Takes b (take n (drop at text)) c → Takes a (take (at + n) text) c
Takes-next a b c text at n p q = subst (λ l. Takes a l c) (sym (take-add at n text)) (Takes-append a b c _ _ p q)

-- a sink that took what stands before a place took a front of the text
pub TakesFront-take : (a b : Option (List ℕ)) (text : List ℕ) (at : ℕ) → Takes a (take at text) b → TakesFront a text b
TakesFront-take a b text at p = record { front = take at text; rest = drop at text; split = sym (take-append-drop at text); takes = p }
