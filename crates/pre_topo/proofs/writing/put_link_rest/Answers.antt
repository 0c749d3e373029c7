use Rattle.pre_topo.specs.Text.{link_rest}
use Rattle.pre_topo.proofs.writing.put_link_rest.Goals as goal

pub returns-clause-octets : goal.returns-clause-octets
unfolding link_rest
returns-clause-octets g c =
    rw (c.from.ensures, c.from-2.ensures, c.ring.ensures, c.ring-2.ensures, c.ring-3.ensures, c.ring-4.ensures, c.ring-5.ensures, c.ring-6.ensures, c.ring-7.ensures, c.ring-8.ensures) at c.put_words.ensures.octets
