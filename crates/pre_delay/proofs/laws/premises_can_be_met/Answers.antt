use Rattle.std.proofs.Common.{◌+◌, subst}
use Rattle.pre_history.specs.History.{History}
use Rattle.pre_history.specs.Scenario.{Scenario}
use Rattle.pre_history.specs.Legal.{Legal}
use Rattle.pre_history.specs.Examples.{SendsFirst}
use Rattle.pre_streams.specs.Fits.{Fits}
use Rattle.pre_delay.specs.Timely.{Timely}
use Rattle.pre_delay.specs.Example.{pair_numbers}
use Rattle.pre_delay.proofs.Finished.{timely_at_end}
use Rattle.pre_delay.proofs.PairRun.{is_run, numbers_are_good}
use Rattle.pre_delay.proofs.laws.premises_can_be_met.Goals as goal

ends : (w : Scenario) (h : History) → SendsFirst w → Fits w.net w.streams → Legal w h → Timely w h 5001 pair_numbers
ends w h s fits legal = subst (λ k. Timely w h (k + 1) pair_numbers) s.until (timely_at_end w pair_numbers h (is_run w s fits) (numbers_are_good w s) legal)

pub returns-clause-run : goal.returns-clause-run
returns-clause-run c = is_run

pub returns-clause-good : goal.returns-clause-good
returns-clause-good c = numbers_are_good

pub returns-clause-timely : goal.returns-clause-timely
returns-clause-timely c = λ w s fits. ends w _ s.script fits (c.small_histories_are_legal.ensures.one_frame w s)

pub returns-clause-lost : goal.returns-clause-lost
returns-clause-lost c = λ w s fits. ends w _ s.script fits (c.small_histories_are_legal.ensures.lost_frame w s)
