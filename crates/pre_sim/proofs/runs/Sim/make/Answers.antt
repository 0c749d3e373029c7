use Rattle.std.proofs.Common.{rules, refl, true, arith, ◌≤◌, ◌≡◌, ℕ, [], List, length, Option, None, replicate, subst, sym, ap, ◌∙◌}
use Rattle.std.proofs.lemmas.List.{length-replicate}
use Rattle.pre_topo.specs.Memory.{slots}
use Rattle.pre_history.specs.Scenario.{Scenario}
use Rattle.pre_sim.specs.declared.ticks.Progress.{Progress}
use Rattle.pre_sim.specs.Reach.{IsWithin}
use Rattle.pre_sim.specs.Lanes.{AreIdle}
use Rattle.pre_sim.specs.Keeps.{IsKept, IsCounted}
use Rattle.pre_sim.specs.Views.{SimView}
use Rattle.pre_sim.proofs.Counted.{counted_none}
use Rattle.pre_sim.proofs.Keeping.{keep_none}
use Rattle.pre_sim.proofs.Beginning.{has_told_nothing, reaches_nothing, idle_ready}
use Rattle.pre_sim.proofs.Owning.{holds_its_own}
use Rattle.pre_sim.proofs.runs.Sim.make.Goals as goal

pub returns-clause-begins : goal.returns-clause-begins
returns-clause-begins c =
    let new : SimView = record {
      run = record { net = c.args.net.now; streams = c.args.streams.now; script = c.args.script.now };
      progress = record { lanes = c.in_ok-idle_lanes.field-0; relay = c.in_ok-make.field-0; store = c.in_ok-make-2.field-0; set = 0; sent = 0; delivered = 0; dropped = 0 };
      next = 0;
      going = true;
    } in
    (refl, refl, refl, has_told_nothing new refl refl refl refl refl (search rules) c.in_ok-make.ensures.stands)

pub invariant_of-result : goal.invariant_of-result
invariant_of-result c =
    let w : Scenario = record { net = c.args.net.now; streams = c.args.streams.now; script = c.args.script.now } in
    let p : Progress = record { lanes = c.in_ok-idle_lanes.field-0; relay = c.in_ok-make.field-0; store = c.in_ok-make-2.field-0; set = 0; sent = 0; delivered = 0; dropped = 0 } in
    let s : SimView = record { run = w; progress = p; next = 0; going = true } in
    let within : IsWithin 0 p = record { sent = omega arith; dropped = omega arith } in
    let idle : AreIdle w.net c.in_ok-idle_lanes.field-0.items = search rules in
    let made : c.in_ok-make-2.field-0 ≡ replicate {A = Option (List ℕ)} (slots w.net) None =
    c.in_ok-make-2.ensures ∙ ap (λ n. replicate {A = Option (List ℕ)} n None) c.slots.ensures.value in
    let counted : IsCounted c.in_ok-make-2.field-0 c.in_ok-idle_lanes.field-0.items [] [] =
    subst (λ s. IsCounted s c.in_ok-idle_lanes.field-0.items [] []) (sym made) (counted_none (slots w.net) w.net c.in_ok-idle_lanes.field-0.items idle) in
    let all : length c.in_ok-make-2.field-0 ≡ slots w.net = ap length made ∙ length-replicate (slots w.net) None in
    let early : c.in_ok-make.field-0.latest.0 ≤ 0 = search rules in
    let kept : IsKept w 0 p = record {
      calls = [];
      stands = c.in_ok-make.ensures.stands;
      latest = early;
      keeps = keep_none w c.in_ok-make-2.field-0 c.in_ok-idle_lanes.field-0.items idle counted all;
    } in (
      c.requires,
      search rules,
      omega arith,
      λ going. (
        within,
        kept,
        idle_ready w c.in_ok-idle_lanes.field-0.items (search rules),
        ([], reaches_nothing s refl refl refl refl refl (search rules) c.in_ok-make.ensures.stands),
      ),
    )

pub returns-clause-own : goal.returns-clause-own
returns-clause-own c =
    let w : Scenario = record { net = c.args.net.now; streams = c.args.streams.now; script = c.args.script.now } in
    let p : Progress = record { lanes = c.in_ok-idle_lanes.field-0; relay = c.in_ok-make.field-0; store = c.in_ok-make-2.field-0; set = 0; sent = 0; delivered = 0; dropped = 0 } in
    let before = invariant_of-result c in
    let at = before.3 refl in
    let long : length p.lanes.items ≡ length w.net.arcs = search rules in
    holds_its_own w 0 0 0 at.3.0 p long at.1 at.3.1
