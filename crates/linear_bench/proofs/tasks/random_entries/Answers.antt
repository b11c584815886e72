use Rattle.std.proofs.Common.{ℕ, ◌<◌, ◌+◌, inl, inr, List, [], ◌∷◌, ◌++◌, length, ap, ◌∙◌, arith}
use Rattle.std.proofs.lemmas.Bool.{cases_lt, cases_eq}
use Rattle.std.proofs.lemmas.List.{get_or_past, get_or_push, length_push, get_or_append_left}
use Rattle.std.proofs.lemmas.Nat.{mod_below}
use Rattle.linear_algebra.specs.Field.{Gf, order}
use Rattle.linear_algebra.specs.FieldLaws.{order-pos}
use Rattle.fp_linear.specs.Slices.{AreElements}
use Rattle.linear_bench.proofs.tasks.random_entries.Goals as goal

AreElements-push : (q : Gf) (s : List ℕ) (v : ℕ) → AreElements q s → v < order q → AreElements q (s ++ v ∷ [])
AreElements-push q s v a h = record {
  small = λ k. elim (cases_lt k (length s)) [
    | inl l ↦ rw (get_or_append_left s (v ∷ []) 0 k l) (a.small k)
    | inr l ↦ elim (cases_eq k (length s)) [
      | inl e ↦ rw (e, get_or_push s v 0 (length s)) h
      | inr d ↦ rw (get_or_past (s ++ v ∷ []) k 0 (let c = length_push s v in omega arith)) (order-pos q)
    ]
  ];
}

pub loop-preserved : goal.loop-preserved
loop-preserved c =
    rw c.in_ok-push.ensures.items
    record {
      count = length_push _ _ ∙ ap (λ (n : ℕ). n + 1) c.loop.invariant.count;
      elements = AreElements-push c.args.field c.loop.entries.items _ c.loop.invariant.elements (rw c.size.ensures (mod_below _ (order c.args.field) (order-pos c.args.field)));
    }
