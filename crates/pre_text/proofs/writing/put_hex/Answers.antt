use Rattle.std.proofs.Common.{List, ℕ, subst, arith}
use Rattle.pre_base.specs.Told.{WhereTold}
use Rattle.pre_base.specs.Sinks.{TakesBut}
use Rattle.pre_base.proofs.Pieces.{goes_on, breaks}
use Rattle.pre_text.specs.Writing.{hex}
use Rattle.pre_text.proofs.Hexes.{hex-parts}
use Rattle.pre_text.proofs.writing.put_hex.Goals as goal

pub returns-in_err-put_few-clause-octets : goal.returns-in_err-put_few-clause-octets
returns-in_err-put_few-clause-octets g c =
    let few = c.split_at.result.0.now in
    let further = c.split_at.result.1.now in
    let whole = hex c.args.octets.now in
    let parts = hex-parts c.loop-rest.rest.now few further _ c.split_at.ensures.front c.split_at.ensures.back in
    let so_far = subst (λ (l : List ℕ). WhereTold (g.S.Sink.tells c.args.sink.now) (g.S.Sink.tells c.loop-rest.sink) (TakesBut l whole)) parts c.loop-rest.invariant.taken in
    breaks _ _ _ whole (hex few) (hex further) c.from_residual.result c.from_residual.ensures.0 so_far c.in_err-put_few.ensures.octets

pub loop-rest-preserved : goal.loop-rest-preserved
loop-rest-preserved g c =
    let few = c.split_at.result.0.now in
    let further = c.split_at.result.1.now in
    let whole = hex c.args.octets.now in
    let parts = hex-parts c.loop-rest.rest.now few further _ c.split_at.ensures.front c.split_at.ensures.back in
    let so_far = subst (λ (l : List ℕ). WhereTold (g.S.Sink.tells c.args.sink.now) (g.S.Sink.tells c.loop-rest.sink) (TakesBut l whole)) parts c.loop-rest.invariant.taken in
    record { taken = goes_on _ _ _ whole (hex few) (hex further) so_far c.in_ok-put_few.ensures.octets; later = omega arith }
