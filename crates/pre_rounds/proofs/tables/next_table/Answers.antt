use Rattle.std.proofs.Common.{◌+◌, rules, sym, subst, arith}
use Rattle.std.proofs.lemmas.List.{length-append}
use Rattle.pre_certify.specs.Tables.{AreWithin}
use Rattle.pre_rounds.specs.Rounds.{next_bursts}
use Rattle.pre_rounds.specs.Tables.{bursts_in, HasBursts}
use Rattle.pre_rounds.proofs.Filling.{bursts_all, bursts_push, within_push}
use Rattle.pre_rounds.proofs.tables.next_table.Goals as goal

pub loop-place-preserved : goal.loop-place-preserved
loop-place-preserved c =
    let net = c.args.net.now in
    let rows = c.args.rows.now in
    let b = next_bursts net rows (bursts_in c.args.bursts.now) in
    let v = c.next_burst.result in
    record {
      long = search (rules, length-append);
      within = subst (λ t. AreWithin t) (sym c.in_ok-push.ensures.ok) (within_push c.loop-place.table v c.loop-place.invariant.within c.next_burst.ensures.within);
      same = subst (λ t. HasBursts rows t b (c.loop-place.place + 1)) (sym c.in_ok-push.ensures.ok)
          (bursts_push rows b c.loop-place.table c.loop-place.place v c.loop-place.invariant.long c.loop-place.invariant.same (λ r is inside. c.next_burst.ensures.next r is inside));
    }

pub returns-clause-same : goal.returns-clause-same
returns-clause-same c =
    bursts_all c.args.rows.now (next_bursts c.args.net.now c.args.rows.now (bursts_in c.args.bursts.now)) c.loop-place.table c.loop-place.place c.requires.routed.short (omega arith) c.loop-place.invariant.same
