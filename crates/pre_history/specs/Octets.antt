-- The octets of an mPacket: how it was sent, and how it arrives.
use Rattle.std.specs.Prelude.{ℕ, ◌+◌, ◌-◌, ◌==◌, ◌&&◌, Bool, true, false, if◌then◌else◌, List, [], ◌∷◌, ◌++◌}
use Rattle.std.specs.Prelude.{map, filter, filter_map, fold, take, drop, replicate, bit_xor, Option, None, unwrap_or, option_map}
use Rattle.std.specs.List.{list_any}
use Rattle.pre_base.specs.declared.limits.TheConstants.{LEAST_DATA}
use Rattle.pre_crc.specs.Checks.{Mcrc}
use Rattle.pre_script.specs.declared.scripts.Setting.{Setting}
use Rattle.pre_script.specs.declared.scripts.Setting.TheVariants as setting
use Rattle.pre_script.specs.declared.scripts.Loss.{Loss}
use Rattle.pre_script.specs.declared.scripts.Damage.{Damage}
use Rattle.pre_mpacket.specs.declared.packets.Kind.{Kind}
use Rattle.pre_mpacket.specs.declared.packets.Kind.TheVariants as kind
use Rattle.pre_mpacket.specs.Spelling.{head_of}
use Rattle.pre_history.specs.declared.events.What.{What}
use Rattle.pre_history.specs.declared.events.What.TheVariants as what
use Rattle.pre_history.specs.Scenario.{Scenario, arc, FrameOf}
use Rattle.pre_lldp.specs.declared.adverts.Advert.{Advert}
use Rattle.pre_lldp.specs.LldpLayout.{lldp_frame}
use Rattle.pre_history.specs.History.{Begin, Ended, History}
use Rattle.pre_history.specs.Selected.{active_on}
use Rattle.pre_history.specs.Queries.{Packet, Packets, SettingOf}
use Rattle.pre_base.specs.Last.{last}

-- the time to live and the enabled bit under a setting
abbrev pub ttl_under : Scenario → Setting → ℕ
ttl_under w setting.Gone = 0
ttl_under w setting.On = w.net.timing.ttl
ttl_under w setting.Off = w.net.timing.ttl

abbrev pub is_on : Setting → Bool
is_on setting.On = true
is_on setting.Off = false
is_on setting.Gone = false

-- the octets of a verify or a respond from its mData on (IEEE 802.3, 99.3.4)
abbrev pub BareOctets : List ℕ
BareOctets = replicate LEAST_DATA 0 ++ Mcrc (replicate LEAST_DATA 0)

abbrev pub xored_from : List ℕ → List ℕ → List ℕ
xored_from [] xs = xs
xored_from (y ∷ ys) [] = []
xored_from (y ∷ ys) (x ∷ xs) = bit_xor x y ∷ xored_from ys xs

-- the octets with those from a place on XORed; past the last one it has no effect
abbrev pub xored : ℕ → List ℕ → List ℕ → List ℕ
xored place ys xs = take place xs ++ xored_from ys (drop place xs)

-- the place of the SMD
abbrev pub smd_place : Kind → ℕ
smd_place (kind.Continue c n) = 6
smd_place other = 7

-- whether the line names this mPacket
abbrev pub names_loss : Begin → Loss → Bool
names_loss b l = (l.arc.0 == b.arc) && (l.ordinal == b.ord)

abbrev pub names_damage : Begin → Damage → Bool
names_damage b d = (d.arc.0 == b.arc) && (d.ordinal == b.ord)

module _ (w : Scenario) where
  -- the octets with every damage line of the script for this mPacket applied
  abbrev pub Damaged : Begin → List ℕ → List ℕ
  Damaged b octets = fold (λ xs d. xored (smd_place b.kind + d.offset) d.octets xs) octets (filter (names_damage b) w.script.damages)

  -- whether the script loses it
  abbrev pub is_lost : Begin → Bool
  is_lost b = list_any (names_loss b) w.script.losses

module _ (w : Scenario) (h : History) where
  -- whether the arc is Active, by its last `active` event up to the tick
  abbrev pub ToldActive : ℕ → ℕ → Bool
  ToldActive a t = unwrap_or (last (filter_map (active_on a t) h)) false

  -- what an LLDP frame that begins on the arc at the tick says
  abbrev pub AdvertAt : ℕ → ℕ → Advert
  AdvertAt a t = record {
    enabled = is_on (SettingOf w a t);
    active = ToldActive a t;
    add_frag = (arc w a).add_frag;
    ttl = ttl_under w (SettingOf w a t);
  }

  abbrev pub whole_of : Begin → What → List ℕ
  whole_of b (what.Frame f) = FrameOf w f.0
  whole_of b what.Lldp = lldp_frame (arc w b.arc).from.0 b.arc (AdvertAt b.arc b.tick)
  whole_of b what.Nothing = BareOctets

  -- the whole of what an mPacket carries octets of: a frame with its FCS, or the zeros of a verify or respond and their mCRC
  abbrev pub WholeOf : Begin → List ℕ
  WholeOf b = whole_of b b.what

  -- the octets as sent, of an mPacket that ended
  abbrev pub SentOctets : Begin → Ended → List ℕ
  SentOctets b e = head_of b.kind ++ take (e.size - 4) (drop b.from (WholeOf b)) ++ e.check

  abbrev pub Sent : Packet → Option (List ℕ)
  Sent p = option_map (SentOctets p.begin) p.ended

  -- as it arrives: none where it is lost or hasn't ended
  abbrev pub Arrived : Packet → Option (List ℕ)
  Arrived p = if is_lost w p.begin then None else option_map (Damaged w p.begin) (Sent p)

  -- what comes of each mPacket of the arc; those not yet there stand at the end
  unfoldable pub Air : ℕ → List (Option (List ℕ))
  Air a = map Arrived (Packets h a)
