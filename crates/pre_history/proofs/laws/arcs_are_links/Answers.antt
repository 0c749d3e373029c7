use Rattle.pre_history.proofs.LinkTests.{good_heard, active_by_test, wanted_by_test}
use Rattle.pre_history.proofs.laws.arcs_are_links.Goals as goal

pub returns-clause-good : goal.returns-clause-good
returns-clause-good c = good_heard c.one_given.ensures

pub returns-clause-active : goal.returns-clause-active
returns-clause-active c = λ w h a t good talks test. active_by_test w h a t good test c.link_state.ensures.verified talks

pub returns-clause-wanted : goal.returns-clause-wanted
returns-clause-wanted c = λ w h a t good test. wanted_by_test w h a t good test c.link_state.ensures.wanted
