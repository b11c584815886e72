use Rattle.std.proofs.Common.{◌∙◌, refl, ap}
use Rattle.rep_arena.specs.Entries.{Entries, with_module}
use Rattle.rep_arena.proofs.OneLoops.{may_keep_last}
use Rattle.rep_arena.proofs.tests.last_kept.Goals as goal

pub keep-requires : goal.keep-requires
keep-requires c =
    let a = c.in_ok-zero_module.field-0 in
    let b = c.in_ok-zero_module-2.field-0 in
    let d = c.in_ok-zero_module-3.field-0 in
    may_keep_last c.args.table.now.header a b d c.added-3.new.arena c.added.new.arena c.mark-mark.result _ _
    (c.in_ok-added.ensures ∙ ap (λ (x : Entries). with_module x a) (c.begin-arena.ensures ∙ c.in_ok-new.ensures)) (c.in_ok-added-3.ensures ∙ ap (λ (x : Entries). with_module x d) c.in_ok-added-2.ensures)
    c.mark-mark.ensures.mark refl refl
