use Rattle.pre_links.proofs.Begun.{other_begin}
use Rattle.pre_links.proofs.steps.other_begins.Goals as goal

pub returns : goal.returns
returns c = λ w h a t choice link a_lt legal other s. other_begin w h a t choice a_lt legal link s other
