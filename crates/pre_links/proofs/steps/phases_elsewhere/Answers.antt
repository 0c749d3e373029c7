use Rattle.pre_links.proofs.Phases.{still_hears, still_stands}
use Rattle.pre_links.proofs.steps.phases_elsewhere.Goals as goal

pub returns-clause-heard : goal.returns-clause-heard
returns-clause-heard c = λ w t p h es b partner b_lt place legal happens other heard. still_hears w t p h es b b_lt place legal happens partner other heard

pub returns-clause-stands : goal.returns-clause-stands
returns-clause-stands c = λ w t p h es a n link a_lt place legal happens over no_end no_start s. still_stands w t p h es a a_lt place legal happens n link over no_end no_start s
