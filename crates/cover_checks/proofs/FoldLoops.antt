-- Rows that go along an arrow one after another.
use Rattle.std.proofs.Common.{ℕ, ◌+◌, List, sym, inl, inr, arith, subst}
use Rattle.std.proofs.lemmas.Bool.{cases_eq}
use Rattle.linear_algebra.specs.Field.{Gf}
use Rattle.representations.specs.Quiver.{Quiver}
use Rattle.representations.specs.Rep.{Rep}
use Rattle.projectives.specs.Words.{Words}
use Rattle.module_types.specs.declared.TermRows.{TermRows}
use Rattle.module_checks.specs.Commuting.{AsksMore}
use Rattle.cover_checks.specs.Folds.{ImageKilled, ImagesKilled}

module _ {q : Gf} {Q : Quiver} (W : Words q Q) (X : Rep q Q) (terms : List TermRows) (k a : ℕ) where
  pub images_none : (f : Gf) (n m : ℕ) (s : List ℕ) → AsksMore f n m s s (ImagesKilled W X terms k a 0)
  images_none f n m s = record { before = λ x h. h; more = λ x h. record { each = λ i l. absurd (omega arith) }; enough = λ x h p. h }

  pub images_more : (f : Gf) (n m i : ℕ) (first old new : List ℕ) → AsksMore f n m first old (ImagesKilled W X terms k a i) → AsksMore f n m old new (ImageKilled W X terms k a i) → AsksMore f n m first new (ImagesKilled W X terms k a (i + 1))
  images_more f n m i first old new g h = record {
    before = λ x e. g.before x (h.before x e);
    more = λ x e. record {
      each = λ j l. elim (cases_eq j i) [
        | inl same ↦ subst (λ j. ImageKilled W X terms k a j x) (sym same) (h.more x e)
        | inr other ↦ (g.more x (h.before x e)).each j (omega arith)
      ];
    };
    enough = λ x e p. h.enough x (g.enough x e (record { each = λ j l. p.each j (omega arith) })) (p.each i (omega arith));
  }
