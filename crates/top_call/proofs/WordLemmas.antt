-- What words ask for.
use Rattle.std.proofs.Common.{arith, ℕ, ◌≡◌, List, [], ◌∷◌, length, get_or, map, MatchOption, inl, inr, ap, ◌∙◌, subst}
use Rattle.std.specs.declared.option.Option.{Option}
use Rattle.top_call.specs.declared.modes.Mode.{Mode}
use Rattle.top_call.specs.declared.modes.Wanted.{Wanted}
use Rattle.top_call.specs.Modes.{AsksWith, AsksFor, NameBoth}
use Rattle.top_call.specs.Wanted.{IsWanted}

-- the number of workers stands behind the name of the mode, or before it
pub behind_name : (a b c : List ℕ) (w : Wanted) → NameBoth b c a w.mode w.workers → IsWanted (a ∷ b ∷ c ∷ []) w
behind_name a b c w named = record { asks = inl named; from = named.workers.from; to = named.workers.to }

pub before_name : (a b c : List ℕ) (w : Wanted) → NameBoth a b c w.mode w.workers → IsWanted (a ∷ b ∷ c ∷ []) w
before_name a b c w named = record { asks = inr named; from = named.workers.from; to = named.workers.to }

-- three words name nothing in either order
pub neither : (a b c : List ℕ) → ((mode : Mode) (k : ℕ) → NameBoth b c a mode k → ⊥) → ((mode : Mode) (k : ℕ) → NameBoth a b c mode k → ⊥) → (mode : Mode) (k : ℕ) → AsksWith (a ∷ b ∷ c ∷ []) mode k → ⊥
neither a b c behind before mode k asks = elim asks [ inl named ↦ behind mode k named | inr named ↦ before mode k named ]

-- three words, each found at its place
pub three_words : {X : Type 0} (f : X → List ℕ) (words : List X) (x y z : X) (a b c : List ℕ) → length words ≡ 3 → x ≡ get_or words 0 x → y ≡ get_or words 1 y → z ≡ get_or words 2 z
    → a ≡ f x → b ≡ f y → c ≡ f z → a ∷ b ∷ c ∷ [] ≡ map f words
three_words f [] x y z a b c l p q r s t u = absurd (omega (arith, l))
three_words f (_ ∷ []) x y z a b c l p q r s t u = absurd (omega (arith, l))
three_words f (_ ∷ _ ∷ []) x y z a b c l p q r s t u = absurd (omega (arith, l))
three_words f (g ∷ h ∷ i ∷ []) x y z a b c l p q r s t u =
    ap (λ v. v ∷ b ∷ c ∷ []) (s ∙ ap f p) ∙ ap (λ v. f g ∷ v ∷ c ∷ []) (t ∙ ap f q) ∙ ap (λ v. f g ∷ f h ∷ v ∷ []) (u ∙ ap f r)
three_words f (_ ∷ _ ∷ _ ∷ _ ∷ _) x y z a b c l p q r s t u = absurd (omega (arith, l))

-- what is wanted of words is wanted of the same words
pub same_words : (words others : List (List ℕ)) → others ≡ words → (found : Option Wanted)
    → MatchOption found ((mode : Mode) (k : ℕ) → AsksWith others mode k → ⊥) (λ w. IsWanted others w) → MatchOption found ((mode : Mode) (k : ℕ) → AsksWith words mode k → ⊥) (λ w. IsWanted words w)
same_words words others same found = subst (λ (v : List (List ℕ)). MatchOption found ((mode : Mode) (k : ℕ) → AsksWith v mode k → ⊥) (λ w. IsWanted v w)) same

-- what is wanted is asked for
pub asks_for : (words : List (List ℕ)) (w : Wanted) → IsWanted words w → AsksFor words w.mode
asks_for words w is = record { workers = w.workers; asks = is.asks }

pub asks_something : (words : List (List ℕ)) (w : Wanted) → IsWanted words w → ((mode : Mode) → AsksFor words mode → ⊥) → ⊥
asks_something words w is none = none w.mode (asks_for words w is)
