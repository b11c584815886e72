-- From the rules of the pairing.
use Rattle.projectives.proofs.Extending.{injectives_extend, injectives_injective, injective_extends, injective_injective}
use Rattle.projectives.proofs.injectivity.injectivity.Goals as goal

pub returns-clause-where_zero : goal.returns-clause-where_zero
returns-clause-where_zero c = λ q A T k v X Y M N f s z. injectives_extend T k v X Y M N f s z

pub returns-clause-along_injections : goal.returns-clause-along_injections
returns-clause-along_injections c = λ q A T k v X Y M N f m s. injectives_injective T X Y M N f k v m s

pub returns-clause-one_where_zero : goal.returns-clause-one_where_zero
returns-clause-one_where_zero c = λ q A T v X Y M N f s z. injective_extends T X Y M N f v s z

pub returns-clause-one_along_injections : goal.returns-clause-one_along_injections
returns-clause-one_along_injections c = λ q A T v X Y M N f m s. injective_injective T X Y M N f v m s
