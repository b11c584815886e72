use Rattle.module_types.proofs.SimpleModules.{rep_of-simple_at, simple-there, simple-elsewhere, simple_at-shape, simple_over}
use Rattle.module_types.proofs.laws.modules.simple_modules.Goals as goal

pub returns-clause-read : goal.returns-clause-read
returns-clause-read c = λ q Q side v. rep_of-simple_at q Q side v

pub returns-clause-there : goal.returns-clause-there
returns-clause-there c = λ Q v l. simple-there Q v l

pub returns-clause-elsewhere : goal.returns-clause-elsewhere
returns-clause-elsewhere c = λ Q v w d. simple-elsewhere Q v w d

pub returns-clause-shape : goal.returns-clause-shape
returns-clause-shape c = λ q Q side v. simple_at-shape q Q side v

pub returns-clause-over : goal.returns-clause-over
returns-clause-over c = λ h ok side v. simple_over h ok side v
