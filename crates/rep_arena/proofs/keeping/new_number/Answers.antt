use Rattle.std.proofs.Common.{◌≡◌, ◌∙◌, sym, subst, inl, inr, arith, get_or}
use Rattle.std.proofs.lemmas.Bool.{cases_eq}
use Rattle.rep_arena.specs.Marks.{module_numbers}
use Rattle.rep_arena.proofs.Cutting.{new_number-found, module_number, found_in}
use Rattle.rep_arena.proofs.keeping.new_number.Goals as goal

pub returns-then-kept-k : goal.returns-then-kept-k
returns-then-kept-k c = new_number-found c.args.below c.args.id.number c.args.kept.now c.loop-k.k c.if-id-below.false c.loop-k-test.true c.if-kept-k.true c.loop-k.invariant

pub loop-k-preserved : goal.loop-k-preserved
loop-k-preserved c i l e = elim (cases_eq i c.loop-k.k) [
  | inl same ↦ c.if-kept-k.false (sym (module_number c.args.kept.now c.loop-k.k) ∙ subst (λ k. get_or (module_numbers c.args.kept.now) k 0 ≡ c.args.id.number) same e)
  | inr other ↦ c.loop-k.invariant i (omega arith) e
]

pub returns : goal.returns
returns c = elim c.requires.among [
  | inl l ↦ absurd (let past = c.if-id-below.false in omega arith)
  | inr m ↦ absurd (found_in c.args.id.number c.args.kept.now c.loop-k.k c.loop-k-test.false m c.loop-k.invariant)
]
