use Rattle.std.proofs.Common.{◌≡◌, ◌+◌, ◌<◌, ℕ, List, [], ◌∷◌, ◌++◌, length, take, Option, get_or, sym, ◌∙◌, ap, subst, arith, rules}
use Rattle.std.proofs.lemmas.List.{take_more, length-take-le}
use Rattle.pre_base.specs.Told.{WhereTold}
use Rattle.pre_base.specs.Sinks.{TakesWhole, TakesFront}
use Rattle.pre_receive.specs.Receivers.{Stands}
use Rattle.pre_cli.specs.Listing.{packet_line, come, TakesList}
use Rattle.pre_cli.proofs.ListLemmas.{later, come-push, line_goes_on, line_breaks, none_listed}
use Rattle.pre_cli.proofs.listings.put_listing.Goals as goal

-- the arrivals up to the one at a place
up_to : (arrivals : List (List ℕ)) (place : ℕ) (item octets : List ℕ) → place < length arrivals → item ≡ get_or arrivals place item → octets ≡ item
    → take (place + 1) arrivals ≡ take place arrivals ++ octets ∷ []
up_to arrivals place item octets lt is same =
    take_more arrivals place item lt ∙ ap (λ (l : List ℕ). take place arrivals ++ l ∷ []) (sym (same ∙ is))

pub loop-place-init : goal.loop-place-init
loop-place-init g c = record { told = none_listed (g.S.Sink.tells c.args.sink.now); stands = c.requires; later = omega arith }

pub returns-in_err-put_taken-clause-lines : goal.returns-in_err-put_taken-clause-lines
returns-in_err-put_taken-clause-lines g c =
    let arrivals = c.args.arrivals.now in
    let place = c.loop-place.place in
    let os = take place arrivals in
    let o = c.as_slice.result.now in
    let is = up_to arrivals place c.index-arrivals-place.result o c.loop-place-test.true c.index-arrivals-place.is c.as_slice.ensures in
    let line = c.in_err-put_taken.ensures.line in
    let long : length os ≡ place = length-take-le place arrivals (omega (arith, c.loop-place-test.true)) in
    let before = g.S.Sink.tells c.loop-place.sink in
    let after = g.S.Sink.tells c.put_taken.new.sink in
    line_breaks (later c.later_takings.ensures) arrivals os (place + 1) o line.1.0 is (line.1.1 (come os) c.loop-place.invariant.stands)
    (g.S.Sink.tells c.args.sink.now) before after c.from_residual.result c.from_residual.ensures.0 c.loop-place.invariant.told
    (subst (λ (k : ℕ). WhereTold before after (TakesFront (packet_line k o line.1.0))) (sym long) line.1.2)

pub loop-place-preserved : goal.loop-place-preserved
loop-place-preserved g c =
    let arrivals = c.args.arrivals.now in
    let place = c.loop-place.place in
    let os = take place arrivals in
    let o = c.as_slice.result.now in
    let is = up_to arrivals place c.index-arrivals-place.result o c.loop-place-test.true c.index-arrivals-place.is c.as_slice.ensures in
    let line = c.in_ok-put_taken.ensures.line in
    let long : length os ≡ place = length-take-le place arrivals (omega (arith, c.loop-place-test.true)) in
    let before = g.S.Sink.tells c.loop-place.sink in
    let after = g.S.Sink.tells c.put_taken.new.sink in
    record {
      told = subst (λ (l : List (List ℕ)). WhereTold (g.S.Sink.tells c.args.sink.now) after (TakesList l)) (sym is)
          (line_goes_on (later c.later_takings.ensures) os o line.1.0 (line.1.1 (come os) c.loop-place.invariant.stands) (g.S.Sink.tells c.args.sink.now) before after c.loop-place.invariant.told
          (subst (λ (k : ℕ). WhereTold before after (TakesWhole (packet_line k o line.1.0))) (sym long) line.1.2));
      stands = subst (λ (A : List (Option (List ℕ))). Stands c.put_taken.new.receiver A) (sym (ap come is ∙ come-push os o)) (line.0 (come os) c.loop-place.invariant.stands);
      later = search rules;
    }
