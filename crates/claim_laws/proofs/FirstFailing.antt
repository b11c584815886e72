-- The first condition that fails.
use Rattle.std.proofs.Common.{ℕ, zero, suc, ◌≡◌, ◌⊎◌, inl, inr, List, [], ◌∷◌, ◌++◌, ap, sym, ◌∙◌, refl}
use Rattle.std.specs.Prelude.{⊤, Option, None, Some}
use Rattle.claim_conditions.specs.declared.Clause.{Clause}
use Rattle.claim_conditions.specs.Conditions.{Condition, AllHold, FailsAt, IsFirstFailing, IsAnswer, ◌asks◌}

one_at : (cs : List Condition) (a b : Clause) (j k : ℕ) → FailsAt cs a j → FailsAt cs b k → a ≡ b
one_at [] a b j k f g = absurd f
one_at (c ∷ cs) a b zero zero f g = f.0 ∙ sym g.0
one_at (c ∷ cs) a b zero (suc k) f g = absurd (f.1 g.0)
one_at (c ∷ cs) a b (suc j) zero f g = absurd (g.1 f.0)
one_at (c ∷ cs) a b (suc j) (suc k) f g = one_at cs a b j k f.1 g.1

none_at : (cs : List Condition) (a : Clause) (k : ℕ) → FailsAt cs a k → AllHold cs → ⊥
none_at [] a k f h = f
none_at (c ∷ cs) a zero f h = f.1 h.0
none_at (c ∷ cs) a (suc k) f h = none_at cs a k f.1 h.1

pub one_failing : (cs : List Condition) (a b : Clause) → IsFirstFailing cs a → IsFirstFailing cs b → a ≡ b
one_failing cs a b f g = one_at cs a b f.0 g.0 f.1 g.1

pub none_failing : (cs : List Condition) (a : Clause) → IsFirstFailing cs a → AllHold cs → ⊥
none_failing cs a f h = none_at cs a f.0 f.1 h

-- Lists of conditions one behind the other.
pub answer_then : (cs ds : List Condition) (r : Option Clause) → AllHold cs → IsAnswer ds r → IsAnswer (cs ++ ds) r
answer_then [] ds r h a = a
answer_then (c ∷ cs) ds None h a = (h.0, answer_then cs ds None h.1 a)
answer_then (c ∷ cs) ds (Some w) h a = let b = answer_then cs ds (Some w) h.1 a in (suc b.0, (h.0, b.1))

failing_then : (cs ds : List Condition) (w : Clause) (k : ℕ) → FailsAt cs w k → FailsAt (cs ++ ds) w k
failing_then [] ds w k f = absurd f
failing_then (c ∷ cs) ds w zero f = f
failing_then (c ∷ cs) ds w (suc k) f = (f.0, failing_then cs ds w k f.1)

pub answer_before : (cs ds : List Condition) (w : Clause) → IsFirstFailing cs w → IsAnswer (cs ++ ds) (Some w)
answer_before cs ds w f = (f.0, failing_then cs ds w f.0 f.1)

-- A condition that holds or fails, and then the rest: the steps of a decider.
pub answer_fails : (name : Clause) (P : Type 0) (ds : List Condition) → (P → ⊥) → IsAnswer ((name asks P) ∷ ds) (Some name)
answer_fails name P ds n = (0, (refl, n))

pub answer_goes_on : (name : Clause) (P : Type 0) (ds : List Condition) (r : Option Clause) → P → IsAnswer ds r → IsAnswer ((name asks P) ∷ ds) r
answer_goes_on name P ds None p a = (p, a)
answer_goes_on name P ds (Some w) p a = (suc a.0, (p, a.1))

-- Where each condition is decided, all hold or one fails first.
abbrev pub AreDecided : List Condition → Type 0
AreDecided [] = ⊤
AreDecided (c ∷ cs) = (c.holds ⊎ (c.holds → ⊥)) × AreDecided cs

pub answer_of_decided : (cs : List Condition) → AreDecided cs → (r : Option Clause) × IsAnswer cs r
answer_of_decided [] d = (None, tt)
answer_of_decided (c ∷ cs) d = elim d.0 [
  | inr n ↦ (Some c.name, (0, (refl, n)))
  | inl h ↦ let a = answer_of_decided cs d.1 in (a.0, answer_goes_on c.name c.holds cs a.0 h a.1)
]

-- At most one answer.
pub one_answer : (cs : List Condition) (r s : Option Clause) → IsAnswer cs r → IsAnswer cs s → r ≡ s
one_answer cs None None a b = refl
one_answer cs None (Some w) a b = absurd (none_failing cs w b a)
one_answer cs (Some w) None a b = absurd (none_failing cs w a b)
one_answer cs (Some w) (Some u) a b = ap Some (one_failing cs w u a b)
