use Rattle.local_modules.proofs.CertificateIdeals.{nilpotent_in_any_ideal, nilpotent_of_ideal, unit_not_in_ideal, ideal_in_any, power_of_any, nilpotent_endomorphism_in_ideal, endomorphism_of_ideal}
use Rattle.local_modules.proofs.SameIdeals.{certificate_by, frobenius_if_commutative, listed_if_not}
use Rattle.local_modules.proofs.certificates.ideal_of_a_certificate.Goals as goal

pub returns-clause-nilpotent : goal.returns-clause-nilpotent
returns-clause-nilpotent c = λ q A C x n. nilpotent_in_any_ideal A C x n

pub returns-clause-members : goal.returns-clause-members
returns-clause-members c = λ q A C x s. nilpotent_of_ideal A C x s

pub returns-clause-endomorphisms : goal.returns-clause-endomorphisms
returns-clause-endomorphisms c = λ q Q X B C x n. nilpotent_endomorphism_in_ideal B C x n

pub returns-clause-endomorphisms_back : goal.returns-clause-endomorphisms_back
returns-clause-endomorphisms_back c = λ q Q X B C x s. endomorphism_of_ideal B C x s

pub returns-clause-one_ideal : goal.returns-clause-one_ideal
returns-clause-one_ideal c = λ q A C D. ideal_in_any A C D

pub returns-clause-one_power : goal.returns-clause-one_power
returns-clause-one_power c = λ q A C D. power_of_any A C D

pub returns-clause-other_rows : goal.returns-clause-other_rows
returns-clause-other_rows c = λ q A C l J forth back pivot r. let d = certificate_by A C J forth back pivot r in (d.two_sided, d.least_power, d.residue)

pub returns-clause-commutative : goal.returns-clause-commutative
returns-clause-commutative c = λ q A C l J forth back h. frobenius_if_commutative A C J forth back h

pub returns-clause-not_commutative : goal.returns-clause-not_commutative
returns-clause-not_commutative c = λ q A C l J forth back h. listed_if_not A C J forth back h

pub returns-clause-unit : goal.returns-clause-unit
returns-clause-unit c = λ q A C d s. unit_not_in_ideal A C d s
