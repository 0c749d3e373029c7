use Rattle.std.proofs.Common.{rules, arith, ap, refl, sym, ◌∙◌}
use Rattle.pre_rings.specs.declared.slots.FrameRef.{FrameRef}
use Rattle.pre_streams.specs.declared.rows.Row.{Row}
use Rattle.pre_bridge.specs.Table.{onward}
use Rattle.pre_sim.specs.Parts.{scenario_of}
use Rattle.pre_sim.proofs.FrameSizes.{frame_long}
use Rattle.pre_sim.proofs.SlotsBack.{is_out, is_back}
use Rattle.pre_sim.proofs.arrivals.keep_inside.Goals as goal

pub stored-requires-clause-size : goal.stored-requires-clause-size
stored-requires-clause-size c = (frame_long (scenario_of c.args.plan.now) c.requires.fit c.args.frame.0 c.args.octets.now c.requires.known c.requires.octets).1

pub overflow_cast-kept : goal.overflow_cast-kept
overflow_cast-kept c = omega (arith, (frame_long (scenario_of c.args.plan.now) c.requires.fit c.args.frame.0 c.args.octets.now c.requires.known c.requires.octets).1)

pub give_back-requires : goal.give_back-requires
give_back-requires c =
    is_out c.args.store.now c.stored.new.store c.stored.result c.in-Err.kept.slot c.args.octets.now (search rules) (ap (λ (f : FrameRef). f.slot) c.in-Err.ensures.back.0)

pub returns-in-Err-clause-inside : goal.returns-in-Err-clause-inside
returns-in-Err-clause-inside c = (
  is_back c.args.store.now c.stored.new.store c.give_back.new.self c.stored.result c.in-Err.kept.slot c.args.octets.now (search rules)
      (ap (λ (f : FrameRef). f.slot) c.in-Err.ensures.back.0) c.give_back.ensures,
  c.in-Err.ensures.back.1,
  λ net streams calls stands. ap (λ (r : Row). onward net streams c.args.arc.0 r.vid) (sym c.row_of-row.ensures.here) ∙ (c.in-Err.ensures.refused net streams calls stands).0 refl,
)
