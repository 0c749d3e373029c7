-- What an arrival tells, and what becomes of its frame.
use Rattle.std.specs.Prelude.{ℕ, ◌≡◌, ◌≢◌, ◌+◌, ◌<◌, Bool, true, false, List, [], ◌∷◌, ◌++◌, length, slice_get, set, slice_index_or, Some, None, IsSome}
use Rattle.pre_base.specs.declared.numbers.FrameNo.{FrameNo}
use Rattle.pre_rings.specs.declared.slots.FrameRef.{FrameRef}
use Rattle.pre_topo.specs.declared.network.Network.{Network}
use Rattle.pre_streams.specs.declared.rows.Streams.{Streams}
use Rattle.pre_lldp.specs.LldpLayout.{advert_of}
use Rattle.pre_mpacket.specs.Arrivals.{Given, Gives}
use Rattle.pre_history.specs.Scenario.{Scenario, no_arc, row, FrameOf}
use Rattle.pre_history.specs.History.{PlainEvent, History}
use Rattle.pre_history.specs.Queries.{Arrivals}
use Rattle.pre_history.specs.Octets.{Air}
use Rattle.pre_history.specs.Rules.{arrival}
use Rattle.pre_history.specs.Placed.{number}
use Rattle.pre_history.specs.Legal.{LegalUpTo}
use Rattle.pre_incoming.specs.declared.landings.Landed.{Landed}
use Rattle.pre_incoming.specs.declared.landings.Landed.TheVariants as landed
use Rattle.pre_incoming.specs.Landings.{result_of}
use Rattle.pre_links.specs.declared.partners.Partner.{Partner}
use Rattle.pre_links.specs.Listening.{Hears}
use Rattle.pre_bridge.specs.declared.relays.Relay.{Relay}
use Rattle.pre_bridge.specs.Inside.{Call, delivered}
use Rattle.pre_bridge.specs.Table as table
use Rattle.pre_bridge.specs.Relays.{Stands}
use Rattle.pre_sim.specs.Keeps.{Store}

abbrev pub delivered_at : Network → (t a : ℕ) → FrameNo → List ℕ → PlainEvent
delivered_at net t a f octets = PlainEvent.deliver (record { tick = t; node = (slice_index_or net.arcs a no_arc).to.0; frame = f.0; octets = octets })

-- a frame of the script, in a slot
abbrev pub in_slot : Scenario → FrameNo → ℕ → FrameRef
in_slot w f slot = record { slot = slot; frame = f; size = length (FrameOf w f.0); prio = (row w f.0).prio; vid = (row w f.0).vid }

-- A slot that was in holds the octets, and all others are as before.
abbrev pub IsStored : Store → List ℕ → ℕ → Store → Type 0
IsStored store octets slot store' = (slice_get store slot ≡ Some None) × (store' ≡ set store slot (Some octets))

-- Where a route goes on with the frame, it has a slot and is inside the bridge; where none does, all is as before.
abbrev pub KeepsInside : Scenario → (t a : ℕ) → FrameNo → (store store' : Store) → (relay relay' : Relay) → Bool → Type 0
KeepsInside w t a f store store' relay relay' true =
    (slot : ℕ) × IsStored store (FrameOf w f.0) slot store'
    × ((net : Network) (streams : Streams) (calls : List Call) → Stands relay net streams calls
    → Stands relay' net streams (calls ++ delivered t a (in_slot w f slot) ∷ []) × (table.onward net streams a (row w f.0).vid ≢ None))
KeepsInside w t a f store store' relay relay' false =
    (store' ≡ store) × (relay' ≡ relay) × ((net : Network) (streams : Streams) (calls : List Call) → Stands relay net streams calls → table.onward net streams a (row w f.0).vid ≡ None)

-- the octets are those of a frame of which the advert is read
abbrev pub IsAdvert : Scenario → History → ℕ → Landed → List ℕ → Type 0
IsAdvert w h a landed.Lldp octets = Gives (Air w h a) (length (Arrivals h a)) (Given.frame octets) × IsSome (advert_of octets)
IsAdvert w h a given octets = Unit {0}

-- What was received of the partner goes on by what the arrival gives.
abbrev pub Listens : ℕ → Landed → List ℕ → (old new : Partner) → Type 0
Listens t given octets old new =
    (w : Scenario) (h : History) (a : ℕ) → a < length w.net.arcs → LegalUpTo w (number (length w.net.arcs) t (1 + length w.net.arcs + a)) h → Hears w h a old
    → IsAdvert w h a given octets → Hears w (h ++ arrival t a (length (Arrivals h a)) (result_of given) ∷ []) a new
