-- By the uniqueness of the reduced row form.
use Rattle.projectives.proofs.Resolutions.{reduced_once}
use Rattle.projectives.proofs.ReducedSubmodules.{canonical_of_reduced, reduced_of_canonical}
use Rattle.projectives.proofs.minimal_resolutions.reduced_inclusions.Goals as goal

pub returns-clause-once : goal.returns-clause-once
returns-clause-once c = λ q Q X U V pivot r s t v. reduced_once U V pivot r s t v

pub returns-clause-covers : goal.returns-clause-covers
returns-clause-covers c = λ q A W B X U V pivot r s t vs f h. canonical_of_reduced A W B vs f U V pivot r s t h

pub returns-clause-is_covered : goal.returns-clause-is_covered
returns-clause-is_covered c = λ q A W B X U V pivot r s t vs f h. reduced_of_canonical A W B vs f U V pivot r s t h
