use Rattle.std.proofs.lemmas.List.Elements.{All-cons}
use Rattle.std.proofs.lemmas.List.Sorted.{All-permutation}
use Rattle.path_basis.specs.Completing.{IsObstruction}
use Rattle.path_basis.proofs.obstructions.push_one.Goals as goal

pub returns : goal.returns
returns c h one all = All-permutation (IsObstruction h) _ _ c.in_ok-push.ensures.permutation (All-cons (IsObstruction h) _ _ one all)
