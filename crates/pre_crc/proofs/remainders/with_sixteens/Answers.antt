use Rattle.std.proofs.Common.{◌∙◌, ◌-◌, ap, refl, take, drop, length}
use Rattle.pre_crc.specs.Register.{taken_in}
use Rattle.pre_crc.proofs.Slices.{sixteen_off}
use Rattle.pre_crc.proofs.remainders.with_sixteens.Goals as goal

pub loop-rest-preserved : goal.loop-rest-preserved
loop-rest-preserved c =
    let rest = c.loop-rest.rest.now in
    ap (λ r. taken_in r (take (length rest - 16) (drop 16 rest))) c.with_sixteen-register.ensures
    ∙ sixteen_off c.loop-rest.register _ rest c.in-len16-up.len_at_least refl
    ∙ c.loop-rest.invariant
