use Rattle.std.proofs.Common.{arith, rules}
use Rattle.std.proofs.lemmas.List.{length_push}
use Rattle.pre_plant.proofs.Pushes.{sent_more, lined_more}
use Rattle.pre_plant.proofs.lines.send_lines.Goals as goal

pub loop-send-preserved : goal.loop-send-preserved
loop-send-preserved c = record {
  sends = sent_more c.loop-send.lines c.push.new.self c.args.sends.now c.loop-send.send-index _ _ c.loop-send.invariant.sends c.loop-send-test.true c.in_ok-push.ensures.ok;
  lines = lined_more c.loop-send.lines c.push.new.self c.loop-send.send-index _ _ c.loop-send.invariant.lines (search (rules, c.loop-send.invariant.line)) c.in_ok-push.ensures.ok;
  line = omega (arith, c.loop-send.invariant.line);
  long = grind (arith, length_push, c.loop-send.invariant.long, c.in_ok-push.ensures.ok);
}
