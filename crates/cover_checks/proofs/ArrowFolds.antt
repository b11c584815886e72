-- What one arrow asks of the rows at a vertex.
use Rattle.std.proofs.Common.{ℕ, ◌<◌, ◌≡◌, ◌≢◌, List, refl, sym, ap, ◌∙◌, subst}
use Rattle.std.specs.Prelude.{MatchOption, Option, None, Some}
use Rattle.linear_algebra.specs.Field.{Gf}
use Rattle.fp_linear.specs.Slices.{cell}
use Rattle.representations.specs.Quiver.{Quiver}
use Rattle.representations.specs.Rep.{Rep}
use Rattle.projectives.specs.Words.{Words}
use Rattle.module_types.specs.declared.TermRows.{TermRows}
use Rattle.claim_conditions.specs.Terms.{goes_to}
use Rattle.module_checks.specs.Commuting.{AsksMore}
use Rattle.map_checks.specs.ArrowRows.{ArrowMet}
use Rattle.cover_checks.specs.Bases.{HoldsBasis}
use Rattle.cover_checks.specs.Covers.{covered_size, covered_rows, covered_pivot, covered_rep, StaysAlong}
use Rattle.cover_checks.specs.Folds.{ImagesKilled, HaveBases, IsBasisAt, StaysWhere}
use Rattle.cover_checks.proofs.FoldRows.{asks_same}

module _ {q : Gf} {Q : Quiver} (W : Words q Q) (X : Rep q Q) (terms : List TermRows) (k w a : ℕ) where
  abbrev Z : Rep q Q
  Z = covered_rep W X terms k

  -- an arrow to another vertex
  pub not_here : (f : Gf) (n m : ℕ) (s : List ℕ) → Q.target a ≢ w → StaysWhere W X terms k w a × AsksMore f n m s s (ArrowMet Z w a)
  not_here f n m s d = (
    record { stays = λ e. absurd (d e) },
    record { before = λ x h. h; more = λ x h. record { met = λ e i l. absurd (d e) }; enough = λ x h p. h },
  )

  -- an arrow to this one
  module _ (e : Q.target a ≡ w) where
    pub have_bases : (count from size width : ℕ) (other marks basis places : List ℕ) → IsBasisAt W X terms k w size width basis places → count ≡ covered_size W X terms k (Q.source a) → from ≡ (goes_to W X terms k).dim (Q.source a)
        → HoldsBasis (covered_rows W X terms k (Q.source a)) (covered_pivot W X terms k (Q.source a)) other marks → HaveBases W X terms k a count from other size width basis places
    have_bases count from size width other marks basis places b ce fe h =
        let at_target : IsBasisAt W X terms k (Q.target a) size width basis places = subst (λ w. IsBasisAt W X terms k w size width basis places) (sym e) b in
        record {
          count_is = ce;
          each = λ i l.
              let i_inside : i < covered_size W X terms k (Q.source a) = subst (λ n. i < n) ce l in
              record {
                from_is = fe;
                inside = i_inside;
                row_is = λ j m. ap (λ n. cell n other i j) fe ∙ h.rows i j i_inside (subst (λ n. j < n) fe m);
                size_is = at_target.size_is;
                width_is = at_target.width_is;
                basis_is = at_target.basis_is;
              };
        }

    to_met : (n : ℕ) → n ≡ covered_size W X terms k (Q.source a) → (x : ℕ → ℕ) → ImagesKilled W X terms k a n x → ArrowMet Z w a x
    to_met n ne x h = subst (λ w. ArrowMet Z w a x) e (record { met = λ d i l. (h.each i (subst (λ z. i < z) (sym ne) l)).killed })

    from_met : (n : ℕ) → n ≡ covered_size W X terms k (Q.source a) → (x : ℕ → ℕ) → ArrowMet Z w a x → ImagesKilled W X terms k a n x
    from_met n ne x h =
        let at_target : ArrowMet Z (Q.target a) a x = subst (λ w. ArrowMet Z w a x) (sym e) h in
        record { each = λ i l. record { killed = at_target.met refl i (subst (λ z. i < z) ne l) } }

    pub arrow_answer : (f : Gf) (n m count : ℕ) (first new : List ℕ) (o : Option ℕ) → count ≡ covered_size W X terms k (Q.source a)
        → MatchOption o (¬ StaysAlong W X terms k a) (λ u. StaysAlong W X terms k a × AsksMore f n m first new (ImagesKilled W X terms k a count))
        → MatchOption o (¬ StaysWhere W X terms k w a) (λ u. StaysWhere W X terms k w a × AsksMore f n m first new (ArrowMet Z w a))
    arrow_answer f n m count first new None ce h = λ s. h (s.stays e)
    arrow_answer f n m count first new (Some u) ce h = (record { stays = λ d. h.0 }, asks_same f n m first new (ImagesKilled W X terms k a count) (ArrowMet Z w a) (to_met count ce) (from_met count ce) h.1)
