use Rattle.pre_topo.specs.Text.{link_head}
use Rattle.pre_topo.proofs.writing.put_link_head.Goals as goal

pub returns-clause-octets : goal.returns-clause-octets
unfolding link_head
returns-clause-octets g c =
    rw (c.name_of.ensures, c.name_of-2.ensures, c.mode_word.ensures, c.policy_word.ensures, c.from.ensures) at c.put_words.ensures.octets
