use Rattle.pre_links.proofs.Elsewhere.{elsewhere}
use Rattle.pre_links.proofs.Listened.{unheard_events}
use Rattle.pre_links.proofs.steps.events_elsewhere.Goals as goal

pub returns-clause-stands : goal.returns-clause-stands
returns-clause-stands c = λ w m n h es a t state a_lt legal within over. elsewhere w m n h es a t state a_lt legal within over

pub returns-clause-heard : goal.returns-clause-heard
returns-clause-heard c = λ w m n h es b partner b_lt legal within silent. unheard_events w m n h es b partner b_lt legal within silent
