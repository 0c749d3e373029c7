use Rattle.std.proofs.Common.{◌++◌, rules}
use Rattle.pre_base.specs.Told.{WhereTold}
use Rattle.pre_base.specs.Sinks.{TakesWhole, TakesFront}
use Rattle.pre_base.proofs.Pieces.{untouched, goes_on, breaks, ends}
use Rattle.pre_script.specs.Text.{script_text, timed_lines, loss_lines, damage_lines, until_line}
use Rattle.pre_script.proofs.writing.put_script.Goals as goal

pub returns-in_err-put_timed-clause-octets : goal.returns-in_err-put_timed-clause-octets
returns-in_err-put_timed-clause-octets g c =
    let net = c.args.net.now in
    let streams = c.args.streams.now in
    let s = c.args.script.now in
    let whole = script_text net streams s in
    let before = g.S.Sink.tells c.args.sink.now in
    let f : WhereTold before (g.S.Sink.tells c.put_timed.new.sink) (TakesFront (timed_lines net streams s.sends s.sets)) = search rules in
    breaks before before (g.S.Sink.tells c.put_timed.new.sink) whole (timed_lines net streams s.sends s.sets) ((loss_lines net s.losses) ++ ((damage_lines net s.damages) ++ until_line s.until)) c.from_residual.result c.from_residual.ensures.0 (untouched before whole) f

pub returns-in_err-put_losses-clause-octets : goal.returns-in_err-put_losses-clause-octets
returns-in_err-put_losses-clause-octets g c =
    let net = c.args.net.now in
    let streams = c.args.streams.now in
    let s = c.args.script.now in
    let whole = script_text net streams s in
    let before = g.S.Sink.tells c.args.sink.now in
    let t0 : WhereTold before (g.S.Sink.tells c.put_timed.new.sink) (TakesWhole (timed_lines net streams s.sends s.sets)) = search rules in
    let s0 = goes_on before before (g.S.Sink.tells c.put_timed.new.sink) whole (timed_lines net streams s.sends s.sets) ((loss_lines net s.losses) ++ ((damage_lines net s.damages) ++ until_line s.until)) (untouched before whole) t0 in
    let f : WhereTold (g.S.Sink.tells c.put_timed.new.sink) (g.S.Sink.tells c.put_losses.new.sink) (TakesFront (loss_lines net s.losses)) = search rules in
    breaks before (g.S.Sink.tells c.put_timed.new.sink) (g.S.Sink.tells c.put_losses.new.sink) whole (loss_lines net s.losses) ((damage_lines net s.damages) ++ until_line s.until) c.from_residual-in_err-put_losses.result c.from_residual-in_err-put_losses.ensures.0 s0 f

pub returns-in_err-put_damages-clause-octets : goal.returns-in_err-put_damages-clause-octets
returns-in_err-put_damages-clause-octets g c =
    let net = c.args.net.now in
    let streams = c.args.streams.now in
    let s = c.args.script.now in
    let whole = script_text net streams s in
    let before = g.S.Sink.tells c.args.sink.now in
    let t0 : WhereTold before (g.S.Sink.tells c.put_timed.new.sink) (TakesWhole (timed_lines net streams s.sends s.sets)) = search rules in
    let s0 = goes_on before before (g.S.Sink.tells c.put_timed.new.sink) whole (timed_lines net streams s.sends s.sets) ((loss_lines net s.losses) ++ ((damage_lines net s.damages) ++ until_line s.until)) (untouched before whole) t0 in
    let t1 : WhereTold (g.S.Sink.tells c.put_timed.new.sink) (g.S.Sink.tells c.put_losses.new.sink) (TakesWhole (loss_lines net s.losses)) = search rules in
    let s1 = goes_on before (g.S.Sink.tells c.put_timed.new.sink) (g.S.Sink.tells c.put_losses.new.sink) whole (loss_lines net s.losses) ((damage_lines net s.damages) ++ until_line s.until) s0 t1 in
    let f : WhereTold (g.S.Sink.tells c.put_losses.new.sink) (g.S.Sink.tells c.put_damages.new.sink) (TakesFront (damage_lines net s.damages)) = search rules in
    breaks before (g.S.Sink.tells c.put_losses.new.sink) (g.S.Sink.tells c.put_damages.new.sink) whole (damage_lines net s.damages) (until_line s.until) c.from_residual-in_err-put_damages.result c.from_residual-in_err-put_damages.ensures.0 s1 f

pub returns-clause-octets : goal.returns-clause-octets
returns-clause-octets g c =
    let net = c.args.net.now in
    let streams = c.args.streams.now in
    let s = c.args.script.now in
    let whole = script_text net streams s in
    let before = g.S.Sink.tells c.args.sink.now in
    let t0 : WhereTold before (g.S.Sink.tells c.put_timed.new.sink) (TakesWhole (timed_lines net streams s.sends s.sets)) = search rules in
    let s0 = goes_on before before (g.S.Sink.tells c.put_timed.new.sink) whole (timed_lines net streams s.sends s.sets) ((loss_lines net s.losses) ++ ((damage_lines net s.damages) ++ until_line s.until)) (untouched before whole) t0 in
    let t1 : WhereTold (g.S.Sink.tells c.put_timed.new.sink) (g.S.Sink.tells c.put_losses.new.sink) (TakesWhole (loss_lines net s.losses)) = search rules in
    let s1 = goes_on before (g.S.Sink.tells c.put_timed.new.sink) (g.S.Sink.tells c.put_losses.new.sink) whole (loss_lines net s.losses) ((damage_lines net s.damages) ++ until_line s.until) s0 t1 in
    let t2 : WhereTold (g.S.Sink.tells c.put_losses.new.sink) (g.S.Sink.tells c.put_damages.new.sink) (TakesWhole (damage_lines net s.damages)) = search rules in
    let s2 = goes_on before (g.S.Sink.tells c.put_losses.new.sink) (g.S.Sink.tells c.put_damages.new.sink) whole (damage_lines net s.damages) (until_line s.until) s1 t2 in
    ends before (g.S.Sink.tells c.put_damages.new.sink) (g.S.Sink.tells c.put_until.new.sink) whole (until_line s.until) c.put_until.result s2 c.put_until.ensures.octets
