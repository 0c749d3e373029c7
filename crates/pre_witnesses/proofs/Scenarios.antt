-- There are scenarios with these files, which fit one another.
use Rattle.std.proofs.Common.{◌≡◌, ◌≢◌, ◌≤◌, ℕ, ◌*◌, ◌+◌, ◌^◌, [], refl, Some, None, codes, zero, suc, arith, rules, All, AllPairs, slice_get}
use Rattle.pre_curve.specs.declared.curves.Curve.{Curve}
use Rattle.pre_topo.specs.declared.nodes.Node.{Node}
use Rattle.pre_topo.specs.declared.arcs.Arc.{Arc}
use Rattle.pre_topo.specs.Pair.{default_timing, pair_nodes, pair_arcs}
use Rattle.pre_topo.specs.Arcs.{IsArc, JoinsOther, turned}
use Rattle.pre_topo.specs.Nodes.{IsNode}
use Rattle.pre_topo.specs.Rules.{IsNetwork}
use Rattle.pre_streams.specs.Pair.{pair_row, pair_rows}
use Rattle.pre_streams.specs.Fits as streams
use Rattle.pre_script.specs.Fits as script
use Rattle.pre_history.specs.Scenario.{Scenario}
use Rattle.pre_witnesses.specs.CutFrame.{CutsFrame}
use Rattle.pre_witnesses.specs.VerifiedLink.{negotiating_arcs, VerifiesLink}
use Rattle.pre_witnesses.proofs.PairCut as cut
use Rattle.pre_witnesses.proofs.NegotiatingPair as pair

each_node : All IsNode pair_nodes
each_node = search rules

names : AllPairs (λ (m n : Node). m.name ≢ n.name) pair_nodes
names = search rules

each_arc : All (IsArc pair_nodes) pair_arcs
each_arc = search rules

ends : AllPairs JoinsOther pair_arcs
ends = search rules

links : (i : ℕ) (a b : Arc) → slice_get pair_arcs (2 * i) ≡ Some a → slice_get pair_arcs (2 * i + 1) ≡ Some b → b ≡ turned a
links = search rules

each_negotiating : All (IsArc pair_nodes) negotiating_arcs
each_negotiating = search rules

negotiating_ends : AllPairs JoinsOther negotiating_arcs
negotiating_ends = search rules

negotiating_links : (i : ℕ) (a b : Arc) → slice_get negotiating_arcs (2 * i) ≡ Some a → slice_get negotiating_arcs (2 * i + 1) ≡ Some b → b ≡ turned a
negotiating_links = search rules

pair_fits : IsNetwork 4 default_timing pair_nodes pair_arcs
pair_fits = record {
  express = search rules;
  timed = search rules;
  each_node = each_node;
  each_arc = each_arc;
  names = names;
  ends = ends;
  links = links;
  node_count = search rules;
  arc_count = search rules;
  slots = search rules;
  wires = search rules;
}

negotiating_fits : IsNetwork 4 default_timing pair_nodes negotiating_arcs
negotiating_fits = record {
  express = search rules;
  timed = search rules;
  each_node = each_node;
  each_arc = each_negotiating;
  names = names;
  ends = negotiating_ends;
  links = negotiating_links;
  node_count = search rules;
  arc_count = search rules;
  slots = search rules;
  wires = search rules;
}

burst_fits : 2000 ≤ 10 ^ 12
burst_fits = search rules

rate_fits : 100000 ≤ 10 ^ 12
rate_fits = search rules

abbrev pair_curve : Curve
pair_curve = record { burst = 2000; rate = 100000; burst_within = burst_fits; rate_within = rate_fits }

-- ---- a scenario in which a frame is cut

pair_few : 2 ≤ 512
pair_few = search rules

none_few : 0 ≤ 512
none_few = search rules

abbrev cut_files : cut.Files
cut_files = record { rules = pair_fits; streams = record { rows = pair_rows pair_curve; few = pair_few }; curve = pair_curve; rows = refl; sends = cut.both_sends; both = refl }

abbrev cut_scenario : Scenario
cut_scenario = cut.scenario_of cut_files

cuts : CutsFrame cut_scenario
cuts = record {
  net = record { express_from = refl; timing = refl; nodes = refl; arcs = refl };
  streams = (pair_curve, record { burst = refl; rate = refl }, refl);
  sends = refl;
  sets = refl;
  losses = refl;
  damages = refl;
  until = refl;
}

each_send : All (script.IsSend cut_scenario.net cut_scenario.streams) cut.both_sends
each_send zero d lt = record { row = pair_row (codes "y") 20 0 None; known = refl; least = omega arith; most = omega arith; tick = search rules }
each_send (suc zero) d lt = record { row = pair_row (codes "x") 10 6 (Some pair_curve); known = refl; least = omega arith; most = omega arith; tick = search rules }
each_send (suc (suc k)) d lt = absurd (omega (arith, lt))

in_order : AllPairs script.SendsInOrder cut.both_sends
in_order = search rules

cut_script_fits : script.Fits cut_scenario.net cut_scenario.streams cut_scenario.script
cut_script_fits = record {
  sends = each_send;
  sends_order = in_order;
  sends_count = search rules;
  sets = λ k d lt. absurd (omega (arith, lt));
  sets_order = λ i j d lt lt'. absurd (omega (arith, lt'));
  sets_count = search rules;
  losses = λ k d lt. absurd (omega (arith, lt));
  losses_count = search rules;
  damages = λ k d lt. absurd (omega (arith, lt));
  damages_count = search rules;
  until = search rules;
}

pub cuts_some : (w : Scenario) × CutsFrame w × script.Fits w.net w.streams w.script
cuts_some = (cut_scenario, cuts, cut_script_fits)

-- ---- a scenario in which a link is verified, without streams

abbrev negotiating_scenario : Scenario
negotiating_scenario = pair.scenario_of (record { rules = negotiating_fits; streams = record { rows = []; few = none_few } })

verifies : VerifiesLink negotiating_scenario
verifies = record { net = record { express_from = refl; timing = refl; nodes = refl; arcs = refl }; sends = refl; sets = refl; losses = refl; damages = refl; until = refl }

no_streams_fit : streams.Fits negotiating_scenario.net negotiating_scenario.streams
no_streams_fit = record {
  each = λ k d lt. absurd (omega (arith, lt));
  names = λ i j d lt lt'. absurd (omega (arith, lt'));
  routes = λ i j d lt lt'. absurd (omega (arith, lt'));
  streams_first = λ i j d lt lt'. absurd (omega (arith, lt'));
  streams_count = search rules;
  flows_count = search rules;
}

negotiating_script_fits : script.Fits negotiating_scenario.net negotiating_scenario.streams negotiating_scenario.script
negotiating_script_fits = record {
  sends = λ k d lt. absurd (omega (arith, lt));
  sends_order = λ i j d lt lt'. absurd (omega (arith, lt'));
  sends_count = search rules;
  sets = λ k d lt. absurd (omega (arith, lt));
  sets_order = λ i j d lt lt'. absurd (omega (arith, lt'));
  sets_count = search rules;
  losses = λ k d lt. absurd (omega (arith, lt));
  losses_count = search rules;
  damages = λ k d lt. absurd (omega (arith, lt));
  damages_count = search rules;
  until = search rules;
}

pub verifies_some : (w : Scenario) × VerifiesLink w × streams.Fits w.net w.streams × script.Fits w.net w.streams w.script
verifies_some = (negotiating_scenario, verifies, no_streams_fit, negotiating_script_fits)
