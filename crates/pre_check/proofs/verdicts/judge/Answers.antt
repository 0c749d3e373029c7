use Rattle.std.proofs.Common.{◌≡◌, ◌∙◌, ap, subst}
use Rattle.pre_bound.specs.Settled.{PriosBelow}
use Rattle.pre_check.specs.Breaches.{breaches, first_from}
use Rattle.pre_check.proofs.Judging.{accepted, judged}
use Rattle.pre_check.proofs.verdicts.judge.Goals as goal

pub returns-clause-accepted : goal.returns-clause-accepted
returns-clause-accepted c =
    let net = c.args.net.now in
    let streams = c.args.streams.now in
    let cert = c.args.certificate.now in
    let arcs = c.as_slice.result.now in
    let ports = c.as_slice-2.result.now in
    let hops = c.as_slice-3.result.now in
    let bounds = c.as_slice-4.result.now in
    let is : c.first_of.result ≡ first_from 1 (breaches net streams.rows cert.arcs cert.ports cert.hops cert.bounds) =
    c.first_of.ensures
    ∙ ap (first_from 1)
    (c.breaches.ensures
    ∙ ap (λ l. breaches net l arcs ports hops bounds) c.as_slice-rows.ensures
    ∙ ap (λ l. breaches net streams.rows l ports hops bounds) c.as_slice.ensures
    ∙ ap (λ l. breaches net streams.rows cert.arcs l hops bounds) c.as_slice-2.ensures
    ∙ ap (λ l. breaches net streams.rows cert.arcs cert.ports l bounds) c.as_slice-3.ensures
    ∙ ap (λ l. breaches net streams.rows cert.arcs cert.ports cert.hops l) c.as_slice-4.ensures)
    in
    accepted net streams cert c.requires.fits (subst PriosBelow c.as_slice-rows.ensures c.prios_below.ensures) c.requires.rows c.first_of.result is

pub returns-clause-rejected : goal.returns-clause-rejected
returns-clause-rejected c = λ number row e v says.
    let net = c.args.net.now in
    let streams = c.args.streams.now in
    let cert = c.args.certificate.now in
    let arcs = c.as_slice.result.now in
    let ports = c.as_slice-2.result.now in
    let hops = c.as_slice-3.result.now in
    let bounds = c.as_slice-4.result.now in
    let is : c.first_of.result ≡ first_from 1 (breaches net streams.rows cert.arcs cert.ports cert.hops cert.bounds) =
    c.first_of.ensures
    ∙ ap (first_from 1)
    (c.breaches.ensures
    ∙ ap (λ l. breaches net l arcs ports hops bounds) c.as_slice-rows.ensures
    ∙ ap (λ l. breaches net streams.rows l ports hops bounds) c.as_slice.ensures
    ∙ ap (λ l. breaches net streams.rows cert.arcs l hops bounds) c.as_slice-2.ensures
    ∙ ap (λ l. breaches net streams.rows cert.arcs cert.ports l bounds) c.as_slice-3.ensures
    ∙ ap (λ l. breaches net streams.rows cert.arcs cert.ports cert.hops l) c.as_slice-4.ensures)
    in
    (judged net streams cert v c.requires.fits (subst PriosBelow c.as_slice-rows.ensures c.prios_below.ensures) says c.first_of.result is).1 number row e
