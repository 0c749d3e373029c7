use Rattle.std.proofs.Common.{arith}
use Rattle.pre_certify.specs.Tables.{delays_in}
use Rattle.pre_certify.proofs.Rooms.{room_next}
use Rattle.pre_certify.proofs.rings.rings_fit.Goals as goal

pub returns-in-Some-clause-cause : goal.returns-in-Some-clause-cause
returns-in-Some-clause-cause c = λ rank ranks.
    let k = c.loop-place.place in (
      c.requires.load,
      record {
        rank = rank;
        ranks = ranks;
        delays = delays_in c.args.delays.now;
        settled = λ a p inside prio port. (c.requires.table.settled a p inside prio port).delay;
        small = λ a p inside prio port. (c.requires.table.settled a p inside prio port).small;
        within = (omega (arith, c.loop-place-test.true, c.len-place-end.ensures), omega arith);
        here = c.in-Some.ensures;
        before = λ a p inside prio port less. c.loop-place.invariant a p inside prio port (omega (arith, less));
      },
    )

pub loop-place-preserved : goal.loop-place-preserved
loop-place-preserved c = room_next c.args.net.now c.args.rows.now (delays_in c.args.delays.now) c.loop-place.place c.loop-place.invariant c.in_default.ensures
