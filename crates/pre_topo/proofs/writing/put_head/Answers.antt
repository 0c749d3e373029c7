use Rattle.pre_topo.specs.Text.{head_text}
use Rattle.pre_topo.proofs.writing.put_head.Goals as goal

pub returns-clause-octets : goal.returns-clause-octets
unfolding head_text
returns-clause-octets g c = rw c.from.ensures at c.put_words.ensures.octets
