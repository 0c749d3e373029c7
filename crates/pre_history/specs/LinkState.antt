-- The state of a `negotiate` arc at a tick, after its expiries (IEEE 802.3, 99.4 and 79.3.7; IEEE 802.1AB, 9.2): that of a
-- link, at the ticks that the history tells.
use Rattle.std.specs.Prelude.{ℕ, zero, suc, ◌%◌, ◌<◌, ◌≤◌, ◌≡◌, ◌≢◌, ◌⊎◌, ◌&&◌, nat_le, true, List, map, filter, Some, option_map, Any, ⊤}
use Rattle.std.specs.List.{AllZip}
use Rattle.pre_topo.specs.declared.arcs.Mode.{Mode}
use Rattle.pre_topo.specs.declared.arcs.Mode.TheVariants as mode
use Rattle.pre_topo.specs.Arcs.{reverse_of}
use Rattle.pre_script.specs.declared.scripts.Setting.{Setting}
use Rattle.pre_script.specs.declared.scripts.Setting.TheVariants as setting
use Rattle.pre_mpacket.specs.declared.packets.Kind.{Kind}
use Rattle.pre_mpacket.specs.declared.packets.Kind.TheVariants as kind
use Rattle.pre_mpacket.specs.Arrivals.{Given, Gives}
use Rattle.pre_history.specs.declared.events.Outcome.{Outcome}
use Rattle.pre_history.specs.declared.events.Outcome.TheVariants as outcome
use Rattle.pre_history.specs.declared.events.What.TheVariants as what
use Rattle.pre_history.specs.Scenario.{Scenario, arc}
use Rattle.pre_lldp.specs.LldpLayout.{advert_of}
use Rattle.pre_lldp.specs.Ages.{Heard, runs_out}
use Rattle.pre_lldp.specs.LinkState as link
use Rattle.pre_history.specs.History.{Arrive, History}
use Rattle.pre_history.specs.Selected.{is_verify, is_lldp_result, is_respond_result}
use Rattle.pre_history.specs.Queries.{PacketsBefore, Begins, Arrivals, SettingOf}
use Rattle.pre_history.specs.Octets.{Air}
use Rattle.pre_base.specs.Last.{last}

module _ (h : History) (a : ℕ) where
  -- an mPacket of that kind began on the arc at the tick
  abbrev pub Began : Kind → ℕ → Type 0
  Began k t = Any (λ b. (b.kind ≡ k) × (b.tick ≡ t)) (Begins h a)

  abbrev pub LldpBegan : ℕ → Type 0
  LldpBegan t = Any (λ b. (b.what ≡ what.Lldp) × (b.tick ≡ t)) (Begins h a)

  -- a verify or a respond was received from the reverse arc at the tick
  abbrev pub Received : Outcome → ℕ → Type 0
  Received r t = Any (λ x. (x.result ≡ r) × (x.tick ≡ t)) (Arrivals h (reverse_of a))

  -- the LLDP frames received from the reverse arc by the tick
  abbrev pub LldpReceived : ℕ → List Arrive
  LldpReceived t = filter (λ y. is_lldp_result y.result && nat_le y.tick t) (Arrivals h (reverse_of a))

  -- the verifies begun on the arc before the tick, with their ends
  abbrev pub VerifiesBefore : ℕ → List link.Verify
  VerifiesBefore t = map (λ p. record { began = p.begin.tick; ended = option_map (λ e. e.tick) p.ended }) (filter (λ p. is_verify p.begin.kind) (PacketsBefore h a t))

  -- the ticks at which responds were received from the reverse arc
  abbrev pub RespondTicks : List ℕ
  RespondTicks = map (λ x. x.tick) (filter (λ x. is_respond_result x.result) (Arrivals h (reverse_of a)))

module _ (w : Scenario) (h : History) (a : ℕ) where
  -- the advert that an LLDP frame received from the reverse arc says, with its tick
  abbrev pub Says : Arrive → Heard → Type 0
  Says x heard =
      (heard.tick ≡ x.tick)
      × ((octets : List ℕ) × Gives (Air w h (reverse_of a)) x.ord (Given.frame octets) × (advert_of octets ≡ Some heard.says))

  -- the advert heard at the tick: that of the last of them
  abbrev pub IsHeard : ℕ → Heard → Type 0
  IsHeard t heard = (x : Arrive) × (last (LldpReceived h a t) ≡ Some x) × Says x heard

  -- The setting is `on`, and the advert heard hasn't run out and says supported and enabled.
  unfoldable pub Good : ℕ → Type 0
  Good t = (SettingOf w a t ≡ setting.On) × ((heard : Heard) × IsHeard t heard × (t < runs_out w.net.timing.unit heard) × (heard.says.enabled ≡ true))

  -- all adverts heard by the tick, where each LLDP frame received says one
  abbrev pub AreHeard : ℕ → List Heard → Type 0
  AreHeard t calls = AllZip Says (LldpReceived h a t) calls

  -- In the present run of Good a verify began, and a respond was received after it.
  abbrev pub Verified : ℕ → Type 0
  Verified t = link.Verified Good (VerifiesBefore h a t) (RespondTicks h a) t

  abbrev pub ActiveIn : Mode → ℕ → Type 0
  ActiveIn mode.Off t = ⊥
  ActiveIn mode.On t = ⊤
  ActiveIn mode.Negotiate t = Verified t

  unfoldable pub Active : ℕ → Type 0
  Active t = ActiveIn (arc w a).mode t

  -- Before tick 0 the setting is `on` and a `negotiate` arc isn't Active.
  abbrev pub SettingBefore : ℕ → Setting
  SettingBefore zero = setting.On
  SettingBefore (suc t) = SettingOf w a t

  abbrev pub ActiveBefore : ℕ → Type 0
  ActiveBefore zero = ⊥
  ActiveBefore (suc t) = Active t

  abbrev pub Rises : ℕ → Type 0
  Rises t = Active t × ¬ ActiveBefore t

  abbrev pub Falls : ℕ → Type 0
  Falls t = ¬ Active t × ActiveBefore t

  -- Good holds and the arc isn't verified, fewer than three verifies began in this run of Good, and the verify time after
  -- the last one is over.
  abbrev pub VerifyWanted : ℕ → Type 0
  VerifyWanted t = link.VerifyWanted Good (VerifiesBefore h a t) (RespondTicks h a) w.net.timing.verify t

  -- A verify was received, and no respond began since.
  abbrev pub RespondOwed : ℕ → Type 0
  RespondOwed t = (v : ℕ) × (v ≤ t) × Received h a outcome.Verify v × ((i : ℕ) → v ≤ i → i < t → ¬ Began h a kind.Respond i)

  -- The setting differs from the tick before, or it isn't `gone` and the interval is over or Active differs.
  abbrev pub IsWanting : ℕ → Type 0
  IsWanting t =
      (SettingOf w a t ≢ SettingBefore t)
      ⊎ (SettingOf w a t ≢ setting.Gone) × ((t % w.net.timing.interval ≡ 0) ⊎ Rises t ⊎ Falls t)

  -- There was a wanting tick, and no LLDP frame began since.
  abbrev pub LldpWanted : ℕ → Type 0
  LldpWanted t = (x : ℕ) × (x ≤ t) × IsWanting x × ((i : ℕ) → x ≤ i → i < t → ¬ LldpBegan h a i)
