use Rattle.std.proofs.Common.{refl, sym}
use Rattle.pre_history.specs.History.{Counts}
use Rattle.pre_sim.proofs.ClosingParts.{no_line, one_line}
use Rattle.pre_sim.proofs.closing.count_line.Goals as goal

pub returns-then-is_silent-clause-counts : goal.returns-then-is_silent-clause-counts
returns-then-is_silent-clause-counts c w h n stage items a_lt legal few stands =
    let r = c.counters-counters.result in
    let all : Counts = record { err = r.frame_ass_error; smd = r.frame_smd_error; ok = r.frame_ass_ok; rx = r.frag_count_rx; tx = c.continued-tx.result } in (
      all,
      (c.counters-counters.ensures w h c.args.arc.0 n a_lt legal few stands.incoming, c.continued-tx.ensures.exact w h c.args.arc.0 _ _ stands.outgoing),
      no_line c.args.arc.0 all (sym c.if-is_silent.ensures),
    )

pub returns-clause-counts : goal.returns-clause-counts
returns-clause-counts c w h n stage items a_lt legal few stands =
    let r = c.counters-counters.result in
    let all : Counts = record { err = r.frame_ass_error; smd = r.frame_smd_error; ok = r.frame_ass_ok; rx = r.frag_count_rx; tx = c.continued-tx.result } in (
      all,
      (c.counters-counters.ensures w h c.args.arc.0 n a_lt legal few stands.incoming, c.continued-tx.ensures.exact w h c.args.arc.0 _ _ stands.outgoing),
      one_line c.args.arc.0 all (sym c.if-is_silent.ensures),
    )

pub returns-clause-own : goal.returns-clause-own
returns-clause-own c = (_, refl)
