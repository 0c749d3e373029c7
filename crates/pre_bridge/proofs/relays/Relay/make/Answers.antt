use Rattle.std.proofs.Common.{map, refl, ap, ap₂, ◌∙◌}
use Rattle.std.specs.List.{flat_map}
use Rattle.pre_bridge.specs.Table.{hops_of}
use Rattle.pre_bridge.specs.Ingresses.{ingress_of}
use Rattle.pre_bridge.proofs.Standing.{Stands-made}
use Rattle.pre_bridge.proofs.relays.Relay.make.Goals as goal

pub returns-clause-stands : goal.returns-clause-stands
returns-clause-stands c =
    Stands-made (record { hops = c.in_ok-table_of.field-0; ingresses = c.in_ok-ingresses_of.field-0; latest = record { 0 = 0 } }) c.args.net.now c.args.streams.now
    (c.in_ok-table_of.ensures ∙ ap (flat_map hops_of) c.as_slice.ensures)
    (c.in_ok-ingresses_of.ensures ∙ ap₂ (λ nodes arcs. map (ingress_of nodes) arcs) c.as_slice-2.ensures c.as_slice-3.ensures) refl
