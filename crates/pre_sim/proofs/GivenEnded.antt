-- An mPacket that gives a frame where it arrives has ended.
use Rattle.std.proofs.Common.{ℕ, ◌≡◌, ◌==◌, ◌<◌, Bool, true, false, List, length, refl, ◌∙◌, ap, arith, Option, Some, None}
use Rattle.std.specs.Prelude.{slice_get, if◌then◌else◌, option_map, option_and_then}
use Rattle.pre_mpacket.specs.Arrivals.{Given, Gives}
use Rattle.pre_mpacket.specs.Spelling.{PlainPacket, mpacket_of}
use Rattle.pre_history.specs.Scenario.{Scenario}
use Rattle.pre_history.specs.History.{Ended, History}
use Rattle.pre_history.specs.Queries.{Begins, Ends, Packet, Packets, packet}
use Rattle.pre_history.specs.Octets.{Air, Arrived, Damaged, SentOctets, is_lost}
use Rattle.pre_history.specs.Legal.{LegalUpTo}
use Rattle.pre_history.proofs.Chosen.{from_filter, from_map}
use Rattle.pre_history.proofs.InOrder.{steady}
use Rattle.pre_history.proofs.Lists.{within}
use Rattle.pre_sim.proofs.NumberTests.{same_number}

-- what spells an mPacket has come
came : (o : Option (Option (List ℕ))) (m : PlainPacket) → option_and_then (λ a. option_and_then mpacket_of a) o ≡ Some m → (octets : List ℕ) × (o ≡ Some (Some octets))
came None m is = absurd (cc is)
came (Some None) m is = absurd (cc is)
came (Some (Some octets)) m is = (octets, refl)

-- what arrives has an end
has_end : (w : Scenario) (h : History) (p : Packet) (octets : List ℕ) → Arrived w h p ≡ Some octets → (e : Ended) × (p.ended ≡ Some e)
has_end w h p octets is = go (is_lost w p.begin) p.ended is
  where
    go : (lost : Bool) (o : Option Ended) → (if lost then None else option_map (Damaged w p.begin) (option_map (SentOctets w h p.begin) o)) ≡ Some octets → (e : Ended) × (o ≡ Some e)
    go true o is = absurd (cc is)
    go false None is = absurd (cc is)
    go false (Some e) is = (e, refl)

module _ (w : Scenario) (n : ℕ) (h : History) (a : ℕ) (a_lt : a < length w.net.arcs) (legal : LegalUpTo w n h) where
  -- the mPacket of an arrival on the air
  from_air : (i : ℕ) (octets : List ℕ) → slice_get (Air w h a) i ≡ Some (Some octets) → (p : Packet) × (slice_get (Packets h a) i ≡ Some p) × (Arrived w h p ≡ Some octets)
  unfolding Air
  from_air i octets at = from_map (Arrived w h) (Packets h a) i (Some octets) at

  ended_at : (i : ℕ) (p : Packet) (e : Ended) → slice_get (Packets h a) i ≡ Some p → p.ended ≡ Some e → i < length (Ends h a)
  unfolding Packets
  ended_at i p e at is =
      let b = from_map (packet h a) (Begins h a) i p at in
      let o = (steady w n h a a_lt legal).ordered in
      let b_ord = o.begin_places i b.0 b.1 in
      let found = from_filter (λ (d : Ended). d.ord == b.0.ord) (Ends h a) 0 e (ap (λ (q : Packet). q.ended) b.2 ∙ is) in
      let e_ord = o.end_places found.0 e found.1 in
      let lt = within (Ends h a) found.0 e found.1 in
      omega (arith, b_ord, same_number e.ord b.0.ord found.2, e_ord, lt)

  pub given_ended : (i : ℕ) (g : Given) → Gives (Air w h a) i g → i < length (Ends h a)
  given_ended i g gives =
      let on_air = came (slice_get (Air w h a) i) gives.0 gives.1 in
      let p = from_air i on_air.0 on_air.1 in
      let e = has_end w h p.0 on_air.0 p.2 in
      ended_at i p.0 e.0 p.1 e.1
