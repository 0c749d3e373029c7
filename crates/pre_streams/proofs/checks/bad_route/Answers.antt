use Rattle.std.proofs.Common.{◌≡◌, is_some, Option, ℕ, sym, ◌∙◌, ap, arith, subst, false}
use Rattle.pre_table.proofs.FirstRows.{none_further}
use Rattle.pre_streams.specs.FileRules.{hop_fault}
use Rattle.pre_streams.proofs.BadRoutes.{first_found, places_more, route_at, route_none}
use Rattle.pre_streams.proofs.checks.bad_route.Goals as goal

pub loop-place-init : goal.loop-place-init
loop-place-init c = record { firsts = c.new-firsts.ensures; good = λ k e h. absurd (omega (arith, h)) }

pub hop_fault-requires : goal.hop_fault-requires
hop_fault-requires c =
    first_found c.args.rows.now c.loop-place.place c.index-rows-place.result c.index-rows-place.is c.loop-place-test.true
    c.loop-place.firsts c.in_ok-first.first c.loop-place.invariant.firsts c.in_ok-first.ensures.place

pub returns-in-Some : goal.returns-in-Some
returns-in-Some c =
    sym (route_at c.args.net.now c.args.rows.now c.loop-place.place c.loop-place.invariant.good c.index-rows-place.result c.in-Some.hop
    c.index-rows-place.is c.loop-place-test.true (sym c.hop_fault.ensures ∙ c.in-Some.is))

pub loop-place-preserved : goal.loop-place-preserved
loop-place-preserved c =
    let rows = c.args.rows.now in
    let i = c.loop-place.place in
    let row = c.index-rows-place.result in
    let faultless : is_some (hop_fault c.args.net.now rows row) ≡ false = ap (λ (o : Option ℕ). is_some o) (sym c.hop_fault.ensures ∙ c.in_default.is) in
    record {
      firsts = places_more rows i row c.index-rows-place.is c.loop-place-test.true c.loop-place.firsts c.first.new.self c.loop-place.invariant.firsts c.in_ok-first.ensures.kept;
      good = none_further (λ k q. is_some (hop_fault c.args.net.now rows q)) rows i row c.loop-place.invariant.good
          (subst (λ q. is_some (hop_fault c.args.net.now rows q) ≡ false) c.index-rows-place.is faultless)
          c.loop-place-test.true;
    }

pub returns : goal.returns
returns c =
    sym (route_none c.args.net.now c.args.rows.now c.loop-place.place c.loop-place.invariant.good (omega (arith, c.loop-place-test.false, c.loop-place.auto.place-end)))
