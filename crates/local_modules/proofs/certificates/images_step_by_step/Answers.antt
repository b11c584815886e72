use Rattle.local_modules.proofs.ImagesAfter.{image_first, image_more, image_smaller, vanish_here, none_here, vanish_from_here, never_vanish}
use Rattle.local_modules.proofs.certificates.images_step_by_step.Goals as goal

pub returns-clause-first : goal.returns-clause-first
returns-clause-first c = λ q d k g V e. image_first k g V e

pub returns-clause-step : goal.returns-clause-step
returns-clause-step c = λ q d k g i r s V W h w m. image_more k g i r V h s W w m

pub returns-clause-smaller : goal.returns-clause-smaller
returns-clause-smaller c = λ q d k g i r s V W h w. image_smaller k g i r V h s W w

pub returns-clause-zero : goal.returns-clause-zero
returns-clause-zero c = λ q d k g i r V h e. vanish_here k g i r V h e

pub returns-clause-zero_back : goal.returns-clause-zero_back
returns-clause-zero_back c = λ q d k g i r V h z. none_here k g i r V h z

pub returns-clause-just_from : goal.returns-clause-just_from
returns-clause-just_from c = λ q d k g i r V h e b. vanish_from_here k g i r V h e b

pub returns-clause-never : goal.returns-clause-never
returns-clause-never c = λ q d k g i r V W h w n t z. never_vanish k g i r V h W w n t z
