use Rattle.std.proofs.Common.{rules, inr}
use Rattle.pre_dissect.proofs.Dissected.{later, goes_on, breaks, lent_one, lent_none, fault_due, failed_leaves}
use Rattle.pre_dissect.proofs.dissecting.dissect.Goals as goal

pub returns-in_err-record-clause-due : goal.returns-in_err-record-clause-due
returns-in_err-record-clause-due g c = λ first is.
    let s = c.loop-receiver.invariant.so_far in
    let cut = (c.in_err-record.ensures.answers c.args.octets.now s.records s.capture_stands).1 in
    fault_due c.from_residual-in_err-record.result c.in_err-record.field-0.0 first c.from_residual-in_err-record.ensures.0 c.from_residual-in_err-record.ensures.1
    (c.one_capture.ensures.fault c.args.octets.now c.in_err-record.field-0.0 first (inr (s.records, cut)) is)

pub returns-in_err-take_record-clause-leaves : goal.returns-in_err-take_record-clause-leaves
returns-in_err-take_record-clause-leaves g c =
    let s = c.loop-receiver.invariant.so_far in
    failed_leaves c.from_residual-in_err-take_record.result c.args.octets.now (g.S.Sink.tells c.args.sink.now) (g.S.Sink.tells c.take_record.new.sink) c.from_residual-in_err-take_record.ensures.0
    c.from_residual-in_err-take_record.ensures.1
    (breaks (later c.later_takings.ensures) c.args.octets.now c.loop-receiver.capture c.next_record.new.self c.loop-receiver.receiver c.take_record.new.receiver c.loop-receiver.place _
    (g.S.Sink.tells c.args.sink.now) (g.S.Sink.tells c.loop-receiver.sink) (g.S.Sink.tells c.take_record.new.sink) s
    (lent_one c.in_ok-record.field-0 c.in-Some.record c.next_record.new.self c.args.octets.now s.records c.in-Some.is (c.in_ok-record.ensures.answers c.args.octets.now s.records s.capture_stands))
    c.in_err-take_record.ensures.line)

pub loop-receiver-preserved : goal.loop-receiver-preserved
loop-receiver-preserved g c =
    let s = c.loop-receiver.invariant.so_far in
    record {
      so_far = goes_on (later c.later_takings.ensures) c.args.octets.now c.loop-receiver.capture c.next_record.new.self c.loop-receiver.receiver c.take_record.new.receiver c.loop-receiver.place _
          (g.S.Sink.tells c.args.sink.now) (g.S.Sink.tells c.loop-receiver.sink) (g.S.Sink.tells c.take_record.new.sink) s
          (lent_one c.in_ok-record.field-0 c.in-Some.record c.next_record.new.self c.args.octets.now s.records c.in-Some.is (c.in_ok-record.ensures.answers c.args.octets.now s.records s.capture_stands))
          c.in_ok-take_record.ensures.line;
      later = search rules;
      room = search rules;
    }

pub returns-clause-due : goal.returns-clause-due
returns-clause-due g c = λ first is.
    let s = c.loop-receiver.invariant.so_far in
    c.one_capture.ensures.apart c.args.octets.now s.records first
    (lent_none c.in_ok-record.field-0 c.next_record.new.self c.args.octets.now s.records c.in_default.is (c.in_ok-record.ensures.answers c.args.octets.now s.records s.capture_stands)) is
