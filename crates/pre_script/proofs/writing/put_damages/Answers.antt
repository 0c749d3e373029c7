use Rattle.std.proofs.Common.{subst}
use Rattle.pre_base.specs.Told.{WhereTold}
use Rattle.pre_base.specs.Sinks.{TakesFront}
use Rattle.pre_script.specs.declared.scripts.Damage.{Damage}
use Rattle.pre_script.specs.Text.{damage_line}
use Rattle.pre_script.proofs.Lines.{line_breaks}
use Rattle.pre_script.proofs.writing.put_damages.Goals as goal

pub returns-in_err-put_damage-clause-octets : goal.returns-in_err-put_damage-clause-octets
returns-in_err-put_damage-clause-octets g c =
    let before = g.S.Sink.tells c.loop-damage.sink in
    let after = g.S.Sink.tells c.put_damage.new.sink in
    line_breaks (damage_line c.args.net.now) c.args.damages.now c.loop-damage.damage-index c.damage-item.result _ before after c.from_residual.result c.loop-damage-test.true c.from_residual.ensures.0 c.loop-damage.invariant.taken
    (subst (λ (d : Damage). WhereTold before after (TakesFront (damage_line c.args.net.now d))) c.damage-item.is c.in_err-put_damage.ensures.octets)
