-- What is spelled once and decided, and decided further.
use Rattle.std.proofs.Common.{◌≡◌, ℕ, List, inl, inr, sym, ◌∙◌, subst}
use Rattle.deciding.proofs.Deciding.{Decided}

pub narrowed : {X : Type 0} (F G H : X → Type 0) (spell : X → List (List ℕ)) (ts : List (List ℕ)) → ((x y : X) → F x → F y → spell x ≡ spell y → x ≡ y) → ((x : X) → F x → G x → H x) → ((x : X) → H x → F x × G x)
    → Decided ((x : X) × (F x × (ts ≡ spell x))) → ((x : X) → Decided (G x)) → Decided ((x : X) × (H x × (ts ≡ spell x)))
narrowed F G H spell ts one join part (inr none) each = inr (λ h. none (h.0, ((part h.0 h.1.0).0, h.1.1)))
narrowed F G H spell ts one join part (inl h) each = elim (each h.0) [
  | inl g ↦ inl (h.0, (join h.0 h.1.0 g, h.1.1))
  | inr not_g ↦ inr (λ k. not_g (subst G (one k.0 h.0 (part k.0 k.1.0).0 h.1.0 (sym k.1.1 ∙ h.1.1)) (part k.0 k.1.0).1))
]
