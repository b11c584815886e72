use Rattle.local_modules.proofs.ResidueRows.{residue_size, frobenius_from_ranks, ranks_from_frobenius, unit_from_rank, rank_from_unit}
use Rattle.local_modules.proofs.larger_algebras.residue_rings_by_rows.Goals as goal

pub returns-clause-size : goal.returns-clause-size
returns-clause-size c = λ q A E f e i k l I R J pivot r s t. residue_size A E f e i I R J pivot r s t

pub returns-clause-frobenius : goal.returns-clause-frobenius
returns-clause-frobenius c = λ q A E f e i k l I R J pivot r s t h p first second a b x u v. frobenius_from_ranks A E f e i I R J pivot r s t h p first second a b x u v

pub returns-clause-frobenius_back : goal.returns-clause-frobenius_back
returns-clause-frobenius_back c = λ q A E f e i k l I R J pivot r s t p first second a b x h. ranks_from_frobenius A E f e i I R J pivot r s t h.commutative p first second a b x h

pub returns-clause-unit : goal.returns-clause-unit
returns-clause-unit c = λ q A E f e i k l I R J pivot r s t y p rest a b u. unit_from_rank A E f e i I R J pivot r s t y p rest a b u

pub returns-clause-unit_back : goal.returns-clause-unit_back
returns-clause-unit_back c = λ q A E f e i k l I R J pivot r s t y p rest a b u. rank_from_unit A E f e i I R J pivot r s t y p rest a b u
