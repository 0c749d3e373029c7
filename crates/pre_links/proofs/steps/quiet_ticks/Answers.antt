use Rattle.pre_links.proofs.Quiet.{nothing_told, stands_on}
use Rattle.pre_links.proofs.steps.quiet_ticks.Goals as goal

pub returns-clause-stands : goal.returns-clause-stands
returns-clause-stands c = λ w h a t m link talks legal quiet lt upto s. stands_on w h a t m talks legal quiet link s lt upto

pub returns-clause-happens : goal.returns-clause-happens
returns-clause-happens c = λ w h a t m i link talks legal quiet from lt s. nothing_told w h a t m talks legal quiet link s i from lt
