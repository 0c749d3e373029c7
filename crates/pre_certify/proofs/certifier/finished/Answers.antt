use Rattle.std.proofs.Common.{sym, subst}
use Rattle.pre_bound.specs.Chains.{AreRanks}
use Rattle.pre_bound.specs.Settled.{HaveRoom, values_over}
use Rattle.pre_bound.specs.Listed.{Says}
use Rattle.pre_certify.specs.Tables.{delays_in}
use Rattle.pre_certify.specs.Turns.{ranks_in}
use Rattle.pre_certify.specs.Causes.{Cause}
use Rattle.pre_certify.proofs.Loading.{loads_fit}
use Rattle.pre_certify.proofs.Certified.{all_bursts, all_bounds, settled_delays}
use Rattle.pre_certify.proofs.certifier.finished.Goals as goal

pub written-requires-clause-bursts : goal.written-requires-clause-bursts
written-requires-clause-bursts c =
    all_bursts c.args.net.now c.args.streams.now c.as_slice-in-Ok.result.now c.args.ranks.now c.args.delays.now c.as_slice-in-Ok.ensures c.requires.fits c.requires.prios c.requires.ranks c.requires.table c.limit_law.ensures.bursts

pub written-requires-clause-bounds : goal.written-requires-clause-bounds
written-requires-clause-bounds c =
    all_bounds c.args.net.now c.args.streams.now c.as_slice-in-Ok.result.now c.args.ranks.now c.args.delays.now c.as_slice-in-Ok.ensures c.requires.fits c.requires.prios c.requires.ranks c.requires.table c.limit_law.ensures.bounds

pub returns-in_ok-written-in-Ok-clause-least : goal.returns-in_ok-written-in-Ok-clause-least
returns-in_ok-written-in-Ok-clause-least c =
    let d = delays_in c.args.delays.now in
    let r = ranks_in c.args.ranks.now in
    (c.settled_law.ensures.certificate c.args.net.now c.args.streams.now r d c.in_ok-written-in-Ok.field-0 c.requires.fits c.requires.prios c.requires.ranks.are (loads_fit c.args.net.now c.args.streams.now.rows c.requires.load)
    (settled_delays c.args.net.now c.args.streams.now c.as_slice-in-Ok.result.now c.args.ranks.now c.args.delays.now c.as_slice-in-Ok.ensures c.requires.fits c.requires.prios c.requires.ranks c.requires.table)
    (subst (λ rows. HaveRoom c.args.net.now rows d) c.as_slice.ensures c.in-Ok.ensures.room)
    (subst (λ rows. Says c.args.net.now rows c.in_ok-written-in-Ok.field-0 (values_over c.args.net.now rows r d)) c.as_slice-in-Ok.ensures c.in_ok-written-in-Ok.ensures)).0

pub returns-in_ok-written-in-Ok-clause-ranked : goal.returns-in_ok-written-in-Ok-clause-ranked
returns-in_ok-written-in-Ok-clause-ranked c =
    let d = delays_in c.args.delays.now in
    let r = ranks_in c.args.ranks.now in
    (c.settled_law.ensures.certificate c.args.net.now c.args.streams.now r d c.in_ok-written-in-Ok.field-0 c.requires.fits c.requires.prios c.requires.ranks.are (loads_fit c.args.net.now c.args.streams.now.rows c.requires.load)
    (settled_delays c.args.net.now c.args.streams.now c.as_slice-in-Ok.result.now c.args.ranks.now c.args.delays.now c.as_slice-in-Ok.ensures c.requires.fits c.requires.prios c.requires.ranks c.requires.table)
    (subst (λ rows. HaveRoom c.args.net.now rows d) c.as_slice.ensures c.in-Ok.ensures.room)
    (subst (λ rows. Says c.args.net.now rows c.in_ok-written-in-Ok.field-0 (values_over c.args.net.now rows r d)) c.as_slice-in-Ok.ensures c.in_ok-written-in-Ok.ensures)).1

pub returns-in_ok-written-in-Ok-clause-settled : goal.returns-in_ok-written-in-Ok-clause-settled
returns-in_ok-written-in-Ok-clause-settled c = record {
  rank = ranks_in c.args.ranks.now;
  ranks = c.requires.ranks.are;
  delays = delays_in c.args.delays.now;
  settled = settled_delays c.args.net.now c.args.streams.now c.as_slice-in-Ok.result.now c.args.ranks.now c.args.delays.now c.as_slice-in-Ok.ensures c.requires.fits c.requires.prios c.requires.ranks c.requires.table;
  says = subst (λ rows. Says c.args.net.now rows c.in_ok-written-in-Ok.field-0 (values_over c.args.net.now rows (ranks_in c.args.ranks.now) (delays_in c.args.delays.now))) c.as_slice-in-Ok.ensures c.in_ok-written-in-Ok.ensures;
}

pub returns-in-Err-clause-cause : goal.returns-in-Err-clause-cause
returns-in-Err-clause-cause c =
    let r = ranks_in c.args.ranks.now in
    subst (λ rows. Cause c.args.net.now rows c.in-Err.unfit) c.as_slice.ensures
    (c.in-Err.ensures.cause r (subst (λ rows. AreRanks c.args.net.now rows r) (sym c.as_slice.ensures) c.requires.ranks.are))
