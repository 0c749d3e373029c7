use Rattle.std.proofs.Common.{List, None, drop, arith, sym, subst}
use Rattle.pre_history.specs.declared.events.What.TheVariants as what
use Rattle.pre_mpacket.specs.declared.packets.Kind.TheVariants as kind
use Rattle.pre_picture.specs.declared.bars.Bar.{Bar}
use Rattle.pre_picture.specs.Queues.{KnowsSizes}
use Rattle.pre_picture.proofs.Drawn.{drop_before}
use Rattle.pre_picture.proofs.queues.sizes_of.Goals as goal

abbrev no_bar : Bar
no_bar = record { arc = 0; kind = kind.Express; what = what.Frame (record { 0 = 0 }); begin = 0; stop = None }

pub loop-at-preserved : goal.loop-at-preserved
loop-at-preserved c =
    let bars = c.args.bars.now in
    let at = c.loop-at.at in
    record {
      within = omega (arith, c.loop-at.invariant.within);
      knows = subst (λ (l : List Bar). KnowsSizes c.take.new.sizes l) (sym (drop_before bars at no_bar c.loop-at-test.true c.loop-at.invariant.within))
          (c.in_ok-take.ensures (drop at bars) c.loop-at.invariant.knows);
    }
