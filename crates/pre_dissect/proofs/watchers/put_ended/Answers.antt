use Rattle.std.proofs.Common.{rules, ◌≡◌, ◌≤◌, ◌+◌, ◌-◌, ◌++◌, Some, length, take, drop, sym, ◌∙◌, ap, subst, arith, false, Option}
use Rattle.std.proofs.lemmas.List.{append-nil}
use Rattle.pre_base.specs.Told.{WhereTold}
use Rattle.pre_base.specs.Sinks.{TakesAll}
use Rattle.pre_pcap.specs.Written.{Stamped, record_octets}
use Rattle.pre_mpacket.specs.Spelling.{head_of}
use Rattle.pre_topo.specs.declared.arcs.Arc.{Arc}
use Rattle.pre_history.specs.Scenario.{arc}
use Rattle.pre_history.specs.Octets.{SentOctets, WholeOf, smd_place}
use Rattle.pre_incoming.specs.Inputs.{scenario_of}
use Rattle.pre_incoming.specs.Changes.{loses, damaged_by}
use Rattle.pre_dissect.specs.Captured.{octets_of, records_of, recorded_of}
use Rattle.pre_dissect.proofs.Damages.{one_recorded}
use Rattle.pre_dissect.proofs.watchers.put_ended.Goals as goal

pub returns-clause-octets : goal.returns-clause-octets
returns-clause-octets g c = λ h b e is.
    let w = scenario_of c.args.inputs.now in
    let a = c.args.arc.0 in
    let link : c.in-Some.link.now ≡ arc w a = search rules in
    let kept : loses w.script a c.args.newest.ord ≡ false = search rules in
    let due : c.saturating_add-due.result ≡ e.tick + (arc w a).delay
    = let delay : c.in-Some.link.now.delay ≡ (arc w a).delay = ap (λ (x : Arc). x.delay) link in omega (arith, c.saturating_add-due.ensures, delay, is.tick, is.due, c.if-due-ge-NO_TICK.false) in
    let whole = WholeOf w h b in
    let fits : c.args.newest.from + c.args.ending.size ≤ length whole = omega (arith, is.most, is.from, is.size) in
    let least : 64 ≤ c.args.ending.size = omega (arith, is.least, is.size) in
    let sent = c.in-Some-put_sent.ensures.sent whole is.whole is.counts fits least in
    let octets_are : take c.in-Some-put_sent.count c.put_sent.new.into ≡ SentOctets w h b e
    = sent ∙ (λ i. head_of (is.kind i) ++ take (is.size i - 4) (drop (is.from i) whole) ++ is.check i) in
    let one = one_recorded w h a b e is.on c.args.newest.ord is.ord c.args.newest.kind (take c.in-Some-put_sent.count c.put_sent.new.into) c.saturating_add-due.result kept is.kind octets_are due in
    let piece = record_octets c.saturating_add-due.result (damaged_by a c.args.newest.ord (smd_place c.args.newest.kind) w.script.damages (take c.in-Some-put_sent.count c.put_sent.new.into)) in
    let same : piece ≡ octets_of (records_of (recorded_of w h a (Some b) e)) = sym (append-nil piece) ∙ sym (ap (λ (o : Option Stamped). octets_of (records_of o)) one) in
    subst (λ xs. WhereTold (g.S.Sink.tells c.args.sink.now) (g.S.Sink.tells c.put_arrived.new.sink) (TakesAll c.put_arrived.result xs)) same c.put_arrived.ensures.octets
