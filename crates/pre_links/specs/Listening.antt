-- What the end of an arc has received of the link partner, by the history.
use Rattle.std.specs.Prelude.{ℕ, ◌≡◌, ◌≢◌, ◌≤◌, List, Option, Some, None, Any, filter, option_map}
use Rattle.std.specs.List.{AllZip}
use Rattle.pre_lldp.specs.Ages.{Heard}
use Rattle.pre_lldp.specs.LldpLayout.{advert_of}
use Rattle.pre_lldp.specs.Neighbours as neighbours
use Rattle.pre_mpacket.specs.Arrivals.{Given, Gives}
use Rattle.pre_history.specs.declared.events.Outcome.{Outcome}
use Rattle.pre_history.specs.declared.events.Outcome.TheVariants as outcome
use Rattle.pre_history.specs.Scenario.{Scenario}
use Rattle.pre_history.specs.History.{Arrive, History}
use Rattle.pre_history.specs.Selected.{is_lldp_result}
use Rattle.pre_history.specs.Queries.{Arrivals}
use Rattle.pre_history.specs.Octets.{Air}
use Rattle.pre_links.specs.declared.partners.Partner.{Partner}

-- It holds at this tick and at no later one; where no tick is named it holds at none.
abbrev pub IsLatest : (ℕ → Type 0) → Option ℕ → Type 0
IsLatest P None = (t : ℕ) → ¬ P t
IsLatest P (Some s) = P s × ((t : ℕ) → P t → t ≤ s)

-- an mPacket with that result arrived on the arc at the tick
abbrev pub ReceivedOn : History → ℕ → Outcome → ℕ → Type 0
ReceivedOn h b r t = Any (λ x. (x.result ≡ r) × (x.tick ≡ t)) (Arrivals h b)

-- the LLDP frames that arrived on the arc
abbrev pub LldpArrivals : History → ℕ → List Arrive
LldpArrivals h b = filter (λ x. is_lldp_result x.result) (Arrivals h b)

-- what such a frame says, with its tick
abbrev pub SaysOn : Scenario → History → ℕ → Arrive → Heard → Type 0
SaysOn w h b x heard =
    (heard.tick ≡ x.tick)
    × ((octets : List ℕ) × Gives (Air w h b) x.ord (Given.frame octets) × (advert_of octets ≡ Some heard.says))

-- The partner is the one of which the adverts, verifies and responds arrived on the arc.
pub record Hears (w : Scenario) (h : History) (b : ℕ) (partner : Partner) : Type 0 where
  pub calls : List Heard
  pub stands : neighbours.Stands partner.neighbour w.net.timing.unit calls
  pub adverts : AllZip (SaysOn w h b) (LldpArrivals h b) calls
  pub verify : IsLatest (ReceivedOn h b outcome.Verify) (option_map (λ t. t.0) partner.verify)
  pub respond : IsLatest (ReceivedOn h b outcome.Respond) (option_map (λ t. t.0) partner.respond)

-- Nothing is heard of the partner by such an arrival.
pub record IsSilent (r : Outcome) : Type 0 where
  pub no_lldp : r ≢ outcome.Lldp
  pub no_verify : r ≢ outcome.Verify
  pub no_respond : r ≢ outcome.Respond
