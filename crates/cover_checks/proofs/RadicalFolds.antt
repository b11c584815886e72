-- What all arrows to a vertex ask of rows there.
use Rattle.std.proofs.Common.{ℕ, ◌<◌, ◌≡◌, ◌+◌, List, sym, inl, inr, arith, subst}
use Rattle.std.proofs.lemmas.Bool.{cases_eq}
use Rattle.linear_algebra.specs.Field.{Gf}
use Rattle.fp_linear.specs.Meeting.{IsClearFrom}
use Rattle.representations.specs.Quiver.{Quiver}
use Rattle.representations.specs.Rep.{Rep}
use Rattle.projectives.specs.Words.{Words}
use Rattle.module_types.specs.declared.TermRows.{TermRows}
use Rattle.module_checks.specs.Commuting.{AsksMore}
use Rattle.map_checks.specs.ArrowRows.{ArrowMet, AskArrows}
use Rattle.map_checks.proofs.ArrowRows.{AskArrows-none, AskArrows-more}
use Rattle.cover_checks.specs.Covers.{covered_rep, StaysAt}
use Rattle.cover_checks.specs.Folds.{StayBelow, StaysWhere}

module _ {q : Gf} {Q : Quiver} (W : Words q Q) (X : Rep q Q) (terms : List TermRows) (k w : ℕ) where
  pub below_none : StayBelow W X terms k w 0
  below_none = record { each = λ a l. absurd (omega arith) }

  pub below_more : (n : ℕ) → StayBelow W X terms k w n → StaysWhere W X terms k w n → StayBelow W X terms k w (n + 1)
  below_more n h s = record { each = λ a l. elim (cases_eq a n) [ inl e ↦ subst (StaysWhere W X terms k w) (sym e) s | inr d ↦ h.each a (omega arith) ] }

  pub stays_where : (n : ℕ) → n ≡ Q.arrows → StayBelow W X terms k w n → StaysAt W X terms k w
  stays_where n e h = record { each = λ a l d. (h.each a (subst (λ z. a < z) (sym e) l)).stays d }

  pub where_stays : (a : ℕ) → a < Q.arrows → StaysAt W X terms k w → StaysWhere W X terms k w a
  where_stays a l h = record { stays = λ d. h.each a l d }

  pub asks_none : (f : Gf) → f ≡ q → (n m : ℕ) (s : List ℕ) → IsClearFrom 0 s → AskArrows (covered_rep W X terms k) w n m 0 s
  asks_none f e n m s c = AskArrows-none (covered_rep W X terms k) w n m s c

  pub asks_more : (f : Gf) → f ≡ q → (n m a : ℕ) (old new : List ℕ) → AskArrows (covered_rep W X terms k) w n m a old → AsksMore f n m old new (ArrowMet (covered_rep W X terms k) w a) → AskArrows (covered_rep W X terms k) w n m (a + 1) new
  asks_more f e n m a old new h g = AskArrows-more (covered_rep W X terms k) w n m a old new h (subst (λ (f : Gf). AsksMore f n m old new (ArrowMet (covered_rep W X terms k) w a)) e g)
