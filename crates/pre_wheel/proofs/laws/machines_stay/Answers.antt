use Rattle.pre_wheel.proofs.laws.machines_stay.Goals as goal

pub returns-clause-least : goal.returns-clause-least
returns-clause-least g c = λ dues first tick member t machine least there later before.
    g.met.M.Timed.stays machine t later (c.skipping_law.ensures.least dues first tick member t (g.M.Timed.falls_due machine) least there before)

pub returns-clause-none : goal.returns-clause-none
returns-clause-none g c = λ dues member t machine empty there later.
    g.met.M.Timed.stays machine t later (c.skipping_law.ensures.none dues member t (g.M.Timed.falls_due machine) empty there)
