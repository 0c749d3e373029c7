-- The history of a link of two ends that negotiate, over which nothing is sent: each tells the other that it preempts, verifies
-- the link, and preempts once the other one responded.
use Rattle.std.specs.Prelude.{ℕ, ◌≡◌, true, false, List, [], ◌∷◌, ◌++◌, replicate}
use Rattle.pre_crc.specs.Checks.{Mcrc}
use Rattle.pre_topo.specs.declared.network.Network.{Network}
use Rattle.pre_topo.specs.declared.arcs.Arc.{Arc}
use Rattle.pre_topo.specs.declared.arcs.Mode.TheVariants as mode
use Rattle.pre_topo.specs.Arcs.{turned}
use Rattle.pre_topo.specs.Pair.{default_timing, pair_nodes, pair_arc}
use Rattle.pre_mpacket.specs.declared.packets.Kind.{Kind}
use Rattle.pre_mpacket.specs.declared.packets.Kind.TheVariants as kind
use Rattle.pre_lldp.specs.declared.adverts.Advert.{Advert}
use Rattle.pre_lldp.specs.LldpLayout.{lldp_frame}
use Rattle.pre_history.specs.declared.events.What.{What}
use Rattle.pre_history.specs.declared.events.What.TheVariants as what
use Rattle.pre_history.specs.declared.events.Outcome.{Outcome}
use Rattle.pre_history.specs.declared.events.Outcome.TheVariants as outcome
use Rattle.pre_history.specs.Scenario.{Scenario}
use Rattle.pre_history.specs.History.{PlainEvent, History}
use Rattle.pre_history.specs.Rules.{last_four}

-- the built-in arcs, whose ends negotiate
abbrev pub negotiating_arc : Arc
negotiating_arc = record pair_arc { mode = mode.Negotiate }

abbrev pub negotiating_arcs : List Arc
negotiating_arcs = negotiating_arc ∷ turned negotiating_arc ∷ []

-- the built-in network with these arcs
pub record IsNegotiatingPair (net : Network) : Type 0 where
  pub express_from : net.express_from ≡ 4
  pub timing : net.timing ≡ default_timing
  pub nodes : net.nodes ≡ pair_nodes
  pub arcs : net.arcs ≡ negotiating_arcs

-- The script says `until 240` and nothing more.
pub record VerifiesLink (w : Scenario) : Type 0 where
  pub net : IsNegotiatingPair w.net
  pub sends : w.script.sends ≡ []
  pub sets : w.script.sets ≡ []
  pub losses : w.script.losses ≡ []
  pub damages : w.script.damages ≡ []
  pub until : w.script.until.0 ≡ 240

-- what either end says at first: preemption is supported and enabled, not active yet; an advert counts for 120 seconds
abbrev pub first_advert : Advert
first_advert = record { enabled = true; active = false; add_frag = 0; ttl = 120 }

-- Events of an arc. The node from which it goes has its number. Each of its mPackets has 64 octets of mData and check.
abbrev pub begins : (tick ord : ℕ) → Kind → What → (arc : ℕ) → PlainEvent
begins tick ord kind what arc = PlainEvent.begin (record { tick = tick; arc = arc; ord = ord; kind = kind; what = what; from = 0 })

abbrev pub ends : (tick ord : ℕ) → (check : List ℕ) → (arc : ℕ) → PlainEvent
ends tick ord check arc = PlainEvent.ended (record { tick = tick; arc = arc; ord = ord; size = 64; check = check })

abbrev pub arrives : (tick ord : ℕ) → Outcome → (arc : ℕ) → PlainEvent
arrives tick ord result arc = PlainEvent.arrive (record { tick = tick; arc = arc; ord = ord; result = result })

-- an advert goes first, in an LLDP frame
abbrev pub advert_check : ℕ → List ℕ
advert_check arc = last_four (lldp_frame arc arc first_advert)

abbrev pub advert_begins : ℕ → PlainEvent
advert_begins arc = begins 0 0 kind.Express what.Lldp arc

abbrev pub advert_ends : ℕ → PlainEvent
advert_ends arc = ends 72 0 (advert_check arc) arc

abbrev pub advert_arrives : ℕ → PlainEvent
advert_arrives arc = arrives 72 0 outcome.Lldp arc

-- then a verify
abbrev pub zeros_check : List ℕ
zeros_check = Mcrc (replicate 60 0)

abbrev pub verify_begins : ℕ → PlainEvent
verify_begins arc = begins 84 1 kind.Verify what.Nothing arc

abbrev pub verify_ends : ℕ → PlainEvent
verify_ends arc = ends 156 1 zeros_check arc

abbrev pub verify_arrives : ℕ → PlainEvent
verify_arrives arc = arrives 156 1 outcome.Verify arc

-- then a respond to the verify of the reverse arc, which is active from where that arrives on
abbrev pub respond_begins : ℕ → PlainEvent
respond_begins arc = begins 168 2 kind.Respond what.Nothing arc

abbrev pub respond_ends : ℕ → PlainEvent
respond_ends arc = ends 240 2 zeros_check arc

abbrev pub respond_arrives : ℕ → PlainEvent
respond_arrives arc = arrives 240 2 outcome.Respond arc

abbrev pub turns_active : ℕ → PlainEvent
turns_active arc = PlainEvent.active 240 arc true

-- an event of a>b and one of b>a
abbrev pub on_both : (ℕ → PlainEvent) → History
on_both event = event 0 ∷ event 1 ∷ []

abbrev pub verified_link_body : History
verified_link_body =
    on_both advert_begins ++ on_both advert_ends ++ on_both advert_arrives
    ++ on_both verify_begins ++ on_both verify_ends ++ on_both verify_arrives
    ++ on_both respond_begins ++ on_both respond_ends ++ on_both respond_arrives
    ++ on_both turns_active

-- and 240 end 0 0 0
abbrev pub verified_link : History
verified_link = verified_link_body ++ PlainEvent.end (record { until = 240; sent = 0; delivered = 0; dropped = 0 }) ∷ []
