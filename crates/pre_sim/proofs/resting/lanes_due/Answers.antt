use Rattle.std.proofs.Common.{rules, ◌≡◌, ◌≤◌, Some, sym, subst, ap, ◌∙◌, arith}
use Rattle.std.specs.Prelude.{slice_get, slice_index_or}
use Rattle.pre_topo.specs.Arcs.{reverse_of}
use Rattle.pre_sim.proofs.Lists.{found_at}
use Rattle.pre_sim.proofs.RestingLanes.{all_resting, one_more}
use Rattle.pre_sim.proofs.resting.lanes_due.Goals as goal

pub lane_due-requires-clause-settled : goal.lane_due-requires-clause-settled
lane_due-requires-clause-settled c =
    let n = c.loop-arc.arc in
    c.requires.settled n c.index-lanes-arc.result (found_at c.args.lanes.now n c.index-lanes-arc.result (search rules) (sym c.index-lanes-arc.is))

pub loop-arc-preserved : goal.loop-arc-preserved
loop-arc-preserved c =
    let n = c.loop-arc.arc in
    let lanes = c.args.lanes.now in
    let found : slice_get lanes n ≡ Some c.index-lanes-arc.result = found_at lanes n c.index-lanes-arc.result (search rules) (sym c.index-lanes-arc.is) in
    let other = slice_index_or lanes c.partner_of.result c.index-lanes-partner_of.result in
    let there : slice_get lanes (reverse_of n) ≡ Some other =
    subst (λ j. slice_get lanes j ≡ Some other) c.partner_of.ensures
    (found_at lanes c.partner_of.result c.index-lanes-partner_of.result (search rules) (sym c.index-lanes-partner_of.is) ∙ ap Some c.index-lanes-partner_of.is) in
    let no_later : c.min-due.result ≤ c.loop-arc.due = search rules in
    let no_later_than_it : c.min-due.result ≤ c.lane_due.result = search rules in
    record {
      until = omega (arith, no_later, c.loop-arc.invariant.until);
      rests = one_more c.args.net.now lanes c.args.now.0 n c.loop-arc.due c.lane_due.result c.min-due.result c.arc_at-link.result.now c.index-lanes-arc.result other
          c.arc_at-link.ensures.found found there c.loop-arc.invariant.rests c.lane_due.ensures no_later no_later_than_it;
    }

pub returns-clause-rests : goal.returns-clause-rests
returns-clause-rests c = all_resting c.args.net.now c.args.lanes.now c.args.now.0 c.loop-arc.arc c.loop-arc.due (search rules) c.loop-arc.invariant.rests
