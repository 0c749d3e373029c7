-- What a legal history tells can be written over its network.
use Rattle.std.proofs.Common.{ℕ, suc, ◌≡◌, ◌⊎◌, ◌==◌, ◌+◌, ◌-◌, ◌*◌, ◌^◌, ◌%◌, ◌<◌, ◌≤◌, Bool, true, false, List, []}
use Rattle.std.proofs.Common.{◌∷◌, ◌++◌, length, refl, sym, ◌∙◌, ap, inl, inr, arith, subst, length-append, Option, Some, None, drop, take, replicate}
use Rattle.std.proofs.Common.{min, filter}
use Rattle.std.specs.Prelude.{if◌then◌else◌, slice_get, All, nat_lt, IsTrue}
use Rattle.std.specs.List.{list_any, AllByRecursion as Every}
use Rattle.std.proofs.Math.Nat.{min-le_left}
use Rattle.std.proofs.Math.Seq.{drop-append_seam}
use Rattle.pre_base.specs.declared.numbers.FrameNo.{FrameNo}
use Rattle.pre_crc.specs.Checks.{Fcs, Mcrc}
use Rattle.pre_crc.proofs.CheckFacts.{length-Fcs, length-Mcrc}
use Rattle.pre_crc.proofs.CheckFacts.{Fcs-octets, Mcrc-octets}
use Rattle.pre_frame.proofs.BuiltLaws.{frame_of-octets}
use Rattle.pre_lldp.specs.declared.adverts.Advert.{Advert}
use Rattle.pre_lldp.specs.LldpLayout.{lldp_frame, padded, nearest_bridge, lldp_type, lldpdu_of}
use Rattle.pre_lldp.proofs.ReadBack.{sent-length}
use Rattle.pre_mpacket.specs.declared.packets.Kind.{Kind}
use Rattle.pre_mpacket.specs.declared.packets.Kind.TheVariants as kind
use Rattle.pre_mpacket.specs.Arrivals.{is_fragment, is_continue, is_start}
use Rattle.pre_mpacket.specs.Pieces.{CutRule}
use Rattle.pre_text.specs.Reading.{AreOctets}
use Rattle.pre_topo.specs.declared.network.Network.{Network}
use Rattle.pre_topo.specs.declared.arcs.Arc.{Arc}
use Rattle.pre_topo.specs.Arcs.{IsArc}
use Rattle.pre_streams.specs.Fits as streams
use Rattle.pre_script.specs.Fits as script
use Rattle.pre_script.specs.Rules.{horizon, negotiates}
use Rattle.pre_script.specs.declared.scripts.SetLine.{SetLine}
use Rattle.pre_script.specs.declared.scripts.Setting.{Setting}
use Rattle.pre_history.specs.declared.events.What.{What}
use Rattle.pre_history.specs.declared.events.What.TheVariants as what
use Rattle.pre_history.specs.Scenario.{Scenario, arc, no_arc, row, no_row, send, FrameOf, source, destination}
use Rattle.pre_history.specs.Moments.{Phase, Moment, moments, moment_at}
use Rattle.pre_history.specs.History.{Begin, Ended, Arrive, Entry, Delivery, PlainEvent, History}
use Rattle.pre_history.specs.Selected.{begin_on, ended_on, arrive_on, delivery_of, frame_count, frame_number}
use Rattle.pre_history.specs.Queries.{Begins, Ends, Arrivals, Deliveries, Packet, Rest, Interrupted, PacketsBefore, Packets}
use Rattle.pre_history.specs.Octets.{WholeOf, whole_of, AdvertAt}
use Rattle.pre_history.specs.Starts.{Item, Choice, There, SizeOf, begun, ExpressWaits, starts_before}
use Rattle.pre_history.specs.Rules.{CheckOf, SetsAt, last_four, HappensIn, Happens}
use Rattle.pre_history.specs.Placed.{number, IsAt, IsBefore}
use Rattle.pre_history.specs.Legal.{LegalUpTo, LegalBefore, last_moment}
use Rattle.pre_history.specs.Names.{HasArc, HasNode}
use Rattle.pre_history.specs.Plain.{IsKind}
use Rattle.pre_history.specs.Written.{IsNumber, IsWhat, HasOctets, IsWritten, AreWritten}
use Rattle.pre_history.specs.Read.{IsTold}
use Rattle.pre_history.proofs.Lists.{there, within, every_at, every_placed, any_at, found_at, in_selected}
use Rattle.pre_history.proofs.Zips.{every_of_all}
use Rattle.pre_history.proofs.Chosen.{from_filter, from_map}
use Rattle.pre_history.proofs.Moments.{moment_in, sets_place}
use Rattle.pre_history.proofs.Placing.{placed, moment_events, begins_arc}
use Rattle.pre_history.proofs.Undamaged.{user_of, length-FrameOf}
use Rattle.pre_history.proofs.InOrder.{steady}
use Rattle.pre_history.proofs.LaterEnds.{packet_back}
use Rattle.pre_history.proofs.Cut.{event_moment}
use Rattle.pre_history.proofs.DeliveriesRead.{delivery_source}
use Rattle.pre_history.proofs.EntriesRead.{entries_come}
use Rattle.pre_history.proofs.Rising.{place_le_tick}
use Rattle.pre_history.proofs.Totals.{tick_up_to}
use Rattle.pre_history.specs.Cuts.{IsCutAt}
use Rattle.pre_laws.specs.Routed.{IsRouted, IsOnRoute}
use Rattle.pre_laws.proofs.Fitting.{is_routed, sent}
use Rattle.pre_laws.proofs.Routed.{IsRight, BegunRight, begins_right, all_right, from_last_first}
use Rattle.pre_laws.proofs.Begun.{choice_of, by_item}
use Rattle.pre_laws.proofs.Parts.{continuation}
use Rattle.pre_laws.proofs.Delivered.{delivers_once}
use Rattle.std.specs.Option.{option_map_or}
use Rattle.pre_frame.specs.Layout.{address_of}
use Rattle.pre_history.proofs.NatTests.{is_eq}

-- ---- numbers and octets

small : (n : ℕ) → n ≤ 4 * 10 ^ 12 → IsNumber n
small n le = omega (arith, le)

horizon_small : (net : Network) → horizon net ≤ 4 * 10 ^ 12
horizon_small net = go (list_any negotiates net.arcs)
  where
    go : (b : Bool) → (if b then min (4 * 10 ^ 12) (10000 * net.timing.interval) else 4 * 10 ^ 12) ≤ 4 * 10 ^ 12
    go true = min-le_left (4 * 10 ^ 12) (10000 * net.timing.interval)
    go false = omega arith

octets_all : (octets : List ℕ) → All (λ octet. octet < 256) octets → AreOctets octets
octets_all [] all = tt
octets_all (x ∷ xs) all = (all 0 x (omega arith), octets_all xs (λ k d lt. all (suc k) d (omega (arith, lt))))

has_octets : (octets : List ℕ) → All (λ octet. octet < 256) octets → 0 < length octets → HasOctets octets
has_octets octets all some = (octets_all octets all, some)

-- the last four octets of a list that ends with a check
last_check : (front check : List ℕ) → length check ≡ 4 → last_four (front ++ check) ≡ check
last_check front check long =
    let whole = length-append front check in
    let place : length (front ++ check) - 4 ≡ length front = omega (arith, whole, long) in
    ap (λ n. drop n (front ++ check)) place ∙ drop-append_seam front check

lldp_ends : (node arc : ℕ) (says : Advert) → (front : List ℕ) × (lldp_frame node arc says ≡ front ++ Fcs front)
unfolding lldp_frame
lldp_ends node arc says = (padded (nearest_bridge ++ address_of node ++ lldp_type ++ lldpdu_of node arc says), refl)

fcs_written : (octets : List ℕ) → HasOctets (Fcs octets)
fcs_written octets = has_octets (Fcs octets) (Fcs-octets octets) (let long = length-Fcs octets in omega (arith, long))

mcrc_written : (octets : List ℕ) → HasOctets (Mcrc octets)
mcrc_written octets = has_octets (Mcrc octets) (Mcrc-octets octets) (let long = length-Mcrc octets in omega (arith, long))

-- whatever an mPacket carries ends with a check
whole_ends : (w : Scenario) (h : History) (b : Begin) (x : What) → HasOctets (last_four (whole_of w h b x))
whole_ends w h b (what.Frame f) =
    let o = user_of w f.0 in
    subst HasOctets (sym (ap last_four o.1 ∙ last_check o.0 (Fcs o.0) (length-Fcs o.0))) (fcs_written o.0)
whole_ends w h b what.Lldp =
    let o = lldp_ends (arc w b.arc).from.0 b.arc (AdvertAt w h b.arc b.tick) in
    subst HasOctets (sym (ap last_four o.1 ∙ last_check o.0 (Fcs o.0) (length-Fcs o.0))) (fcs_written o.0)
whole_ends w h b what.Nothing = subst HasOctets (sym (last_check (replicate 60 0) (Mcrc (replicate 60 0)) (length-Mcrc (replicate 60 0)))) (mcrc_written (replicate 60 0))

check_written : (w : Scenario) (h : History) (b : Begin) (size : ℕ) → HasOctets (CheckOf w h b size)
check_written w h b size = go (b.from + size == length (WholeOf w h b))
  where
    go : (full : Bool) → HasOctets (if full then last_four (WholeOf w h b) else Mcrc (take (b.from + size - 4) (WholeOf w h b)))
    go true = whole_ends w h b b.what
    go false = mcrc_written (take (b.from + size - 4) (WholeOf w h b))

-- ---- kinds

-- what begins is of a kind whose counts are below four, and of one that isn't a continuation from the first octet on
module _ (w : Scenario) (n : ℕ) (h : History) (legal : LegalUpTo w n h) (a : ℕ) (a_lt : a < length w.net.arcs) where
  start_small : (b : Begin) (c : ℕ) (it : Item) → There w h a b.tick it (choice_of b) → b.kind ≡ kind.Start c → c < 4
  start_small b c Item.express (f, front, is) k = absurd (cc (sym k ∙ ap (λ (x : Choice). x.kind) is))
  start_small b c Item.respond (talks, owed, is) k = absurd (cc (sym k ∙ ap (λ (x : Choice). x.kind) is))
  start_small b c Item.verify (talks, wanted, is) k = absurd (cc (sym k ∙ ap (λ (x : Choice). x.kind) is))
  start_small b c Item.lldp (talks, wanted, is) k = absurd (cc (sym k ∙ ap (λ (x : Choice). x.kind) is))
  start_small b c Item.rest (r, left, is) k = absurd (cc (sym k ∙ ap (λ (x : Choice). x.kind) is))
  start_small b c Item.preemptable (f, k', front, inl (active, is'), is) k =
      let same : kind.Start c ≡ kind.Start (starts_before w h a b.tick % 4) = sym k ∙ (ap (λ (x : Choice). x.kind) is ∙ is') in
      let count : c ≡ starts_before w h a b.tick % 4 = cc same in
      omega (arith, count)
  start_small b c Item.preemptable (f, k', front, inr (idle, whole, is'), is) k = absurd (cc (sym k ∙ (ap (λ (x : Choice). x.kind) is ∙ is')))

  first_small : (r : Rest) (t : ℕ) → Interrupted w h a t r → (r.frame_count < 4) × (r.fragment_count < 4)
  first_small r t (first, more, run, ended, cut, is) = (subst (λ (x : Rest). x.frame_count < 4) (sym is) (go first.begin.kind refl), subst (λ (x : Rest). x.fragment_count < 4) (sym is) (omega arith))
    where
      begun_at : (i : ℕ) × (slice_get (Begins h a) i ≡ Some first.begin)
      begun_at =
          let o = from_last_first (λ (p : Packet). is_start p.begin.kind) (filter (λ (p : Packet). is_fragment p.begin.kind) (PacketsBefore h a t)) first more run in
          let p = from_filter (λ (p : Packet). is_fragment p.begin.kind) (PacketsBefore h a t) o.0 first o.1 in
          let q = from_filter (λ (p : Packet). nat_lt p.begin.tick t) (Packets h a) p.0 first p.1 in
          let b = packet_back h a q.0 first q.1 in
          (q.0, subst (λ (x : Begin). slice_get (Begins h a) q.0 ≡ Some x) (ap (λ (x : Packet). x.begin) b.2) b.1)

      go : (k : Kind) → first.begin.kind ≡ k → frame_count first.begin.kind < 4
      go (kind.Start c) k = subst (λ x. frame_count x < 4) (sym k) (let it = by_item w n h legal a a_lt begun_at.0 first.begin begun_at.1 in start_small first.begin c it.0 it.1 k)
      go (kind.Continue c i) k = subst (λ x. frame_count x < 4) (sym k) (omega arith)
      go kind.Express k = subst (λ x. frame_count x < 4) (sym k) (omega arith)
      go kind.Verify k = subst (λ x. frame_count x < 4) (sym k) (omega arith)
      go kind.Respond k = subst (λ x. frame_count x < 4) (sym k) (omega arith)

  kind_small : (b : Begin) (it : Item) → There w h a b.tick it (choice_of b) → IsKind b.kind
  kind_small b Item.express (f, front, is) = subst IsKind (sym (ap (λ (x : Choice). x.kind) is)) tt
  kind_small b Item.respond (talks, owed, is) = subst IsKind (sym (ap (λ (x : Choice). x.kind) is)) tt
  kind_small b Item.verify (talks, wanted, is) = subst IsKind (sym (ap (λ (x : Choice). x.kind) is)) tt
  kind_small b Item.lldp (talks, wanted, is) = subst IsKind (sym (ap (λ (x : Choice). x.kind) is)) tt
  kind_small b Item.rest (r, left, is) = subst IsKind (sym (ap (λ (x : Choice). x.kind) is)) (first_small r b.tick left)
  kind_small b Item.preemptable (f, k, front, inl (active, is'), is) = subst IsKind (sym (ap (λ (x : Choice). x.kind) is ∙ is')) (omega arith)
  kind_small b Item.preemptable (f, k, front, inr (idle, whole, is'), is) = subst IsKind (sym (ap (λ (x : Choice). x.kind) is ∙ is')) tt

  -- where it begins in what it carries
  from_first : (b : Begin) (it : Item) → There w h a b.tick it (choice_of b) → (b.from ≡ 0) ⊎ (is_continue b.kind ≡ true)
  from_first b Item.express (f, front, is) = inl (ap (λ (x : Choice). x.from) is)
  from_first b Item.respond (talks, owed, is) = inl (ap (λ (x : Choice). x.from) is)
  from_first b Item.verify (talks, wanted, is) = inl (ap (λ (x : Choice). x.from) is)
  from_first b Item.lldp (talks, wanted, is) = inl (ap (λ (x : Choice). x.from) is)
  from_first b Item.rest (r, left, is) = inr (ap (λ (x : Choice). is_continue x.kind) is)
  from_first b Item.preemptable (f, k, front, as', is) = inl (ap (λ (x : Choice). x.from) is)

-- ---- events

told_sets : (w : Scenario) (past : History) (t : ℕ) (es : List PlainEvent) → HappensIn w past t Phase.sets es → es ≡ SetsAt w t
unfolding HappensIn
told_sets w past t es is = is

module _ (w : Scenario) (fits : streams.Fits w.net w.streams) (says : script.Fits w.net w.streams w.script) (prios : All (λ r. r.prio < 8) w.streams.rows) where
  routed : IsRouted w
  routed = is_routed w fits says

  frame_small : (f : ℕ) → f < length w.script.sends → IsNumber f
  frame_small f lt = let few = says.sends_count in small f (omega (arith, lt, few))

  frame_long : (f : ℕ) → f < length w.script.sends → (64 ≤ length (FrameOf w f)) × (length (FrameOf w f) ≤ 2000)
  frame_long f lt =
      let s = routed.sizes f lt in
      let low = s.0 in
      let high = s.1 in
      let is = length-FrameOf w f (omega (arith, low)) in
      (omega (arith, is, low), omega (arith, is, high))

  module _ (n : ℕ) (h : History) (le : n ≤ last_moment w) (legal : LegalBefore w h n) where
    tick_small : (t k : ℕ) → number (length w.net.arcs) t k < n → IsNumber t
    tick_small t k lt =
        let last' = tick_up_to (moments (length w.net.arcs)) t w.script.until.0 k (omega (arith, lt, le)) in
        let until = says.until in
        let far = horizon_small w.net in
        small t (omega (arith, last', until, far))

    rights : Every (IsRight w) h
    rights = all_right w routed n h legal.0

    module _ (a : ℕ) (a_lt : a < length w.net.arcs) where
      right_at : (i : ℕ) (b : Begin) → slice_get (Begins h a) i ≡ Some b → BegunRight w a b
      right_at i b at = every_at (BegunRight w a) (Begins h a) i b (begins_right w h a rights) at

      known_at : (i : ℕ) (b : Begin) (f : FrameNo) → slice_get (Begins h a) i ≡ Some b → b.what ≡ what.Frame f → f.0 < length w.script.sends
      known_at i b f at is = ((right_at i b at).on f is).known

      what_small : (i : ℕ) (b : Begin) → slice_get (Begins h a) i ≡ Some b → (x : What) → b.what ≡ x → IsWhat x
      what_small i b at (what.Frame f) is = frame_small f.0 (known_at i b f at is)
      what_small i b at what.Lldp is = tt
      what_small i b at what.Nothing is = tt

      from_small : (i : ℕ) (b : Begin) → slice_get (Begins h a) i ≡ Some b → (b.from ≡ 0) ⊎ (is_continue b.kind ≡ true) → IsNumber b.from
      from_small i b at (inl none) = omega (arith, none)
      from_small i b at (inr more) =
          let g = continuation w routed n h legal.0 a a_lt i b at more in
          let long = (frame_long g.frame.0 (known_at i b g.frame at g.carries)).1 in
          let left = g.left in
          small b.from (omega (arith, long, left))

      -- sizes
      whole_long : (i : ℕ) (b : Begin) → slice_get (Begins h a) i ≡ Some b → b.arc ≡ a → (x : What) → b.what ≡ x → length (whole_of w h b x) ≤ 2000
      whole_long i b at on (what.Frame f) is = (frame_long f.0 (known_at i b f at is)).1
      whole_long i b at on what.Lldp is =
          let few = w.net.rules.arc_count.1 in
          let long = sent-length (arc w b.arc).from.0 b.arc (AdvertAt w h b.arc b.tick) (omega (arith, on, a_lt, few)) in
          omega (arith, long)
      whole_long i b at on what.Nothing is =
          let long = length-append (replicate 60 0) (Mcrc (replicate 60 0)) in
          let check = length-Mcrc (replicate 60 0) in
          omega (arith, long, check)

      fragment_small : (i : ℕ) (b : Begin) (size : ℕ) → slice_get (Begins h a) i ≡ Some b → is_fragment b.kind ≡ true → CutRule (ExpressWaits w h b.arc) (begun w h b) size → size ≤ 2000
      fragment_small i b size at on rule =
          let f = (right_at i b at).fragment on in
          let long = (frame_long f.0.0 (known_at i b f.0 at f.1)).1 in
          let unsent : (begun w h b).unsent ≡ length (FrameOf w f.0.0) - b.from = ap (λ x. length (FrameOf w (frame_number x)) - b.from) f.1 in
          go (FrameOf w f.0.0) unsent long rule
        where
          go : (F : List ℕ) → (begun w h b).unsent ≡ length F - b.from → length F ≤ 2000 → CutRule (ExpressWaits w h b.arc) (begun w h b) size → size ≤ 2000
          go F unsent long (inl (d, (least, room, waits), first, is)) = omega (arith, unsent, long, room, is)
          go F unsent long (inr (none, is)) = omega (arith, unsent, long, is)

      size_small : (i : ℕ) (b : Begin) (size : ℕ) → slice_get (Begins h a) i ≡ Some b → b.arc ≡ a → (k : Kind) → b.kind ≡ k → SizeOf w h k b size → size ≤ 2000
      size_small i b size at on (kind.Start c) k rule = fragment_small i b size at (ap is_fragment k) rule
      size_small i b size at on (kind.Continue c j) k rule = fragment_small i b size at (ap is_fragment k) rule
      size_small i b size at on kind.Express k is = let long = whole_long i b at on b.what refl in omega (arith, is, long)
      size_small i b size at on kind.Verify k is = let long = whole_long i b at on b.what refl in omega (arith, is, long)
      size_small i b size at on kind.Respond k is = let long = whole_long i b at on b.what refl in omega (arith, is, long)

    begun_arc : (a i : ℕ) (b : Begin) → slice_get (Begins h a) i ≡ Some b → b.arc ≡ a
    begun_arc a i b at = every_at (λ (b : Begin). b.arc ≡ a) (Begins h a) i b (begins_arc h a) at

    begin_written : (k : ℕ) (b : Begin) → slice_get h k ≡ Some (PlainEvent.begin b) → IsBefore (length w.net.arcs) n (PlainEvent.begin b) → IsWritten w.net (PlainEvent.begin b)
    begin_written k b at (m, lt, (a_lt, m_is)) =
        let o = in_selected (begin_on b.arc) h k (PlainEvent.begin b) b at (rw (is_eq b.arc b.arc refl) refl) in
        let tick = tick_small b.tick (2 + 3 * length w.net.arcs + b.arc) (omega (arith, lt, m_is)) in
        let place = (steady w n h b.arc a_lt legal.0).ordered.begin_places o.0 b o.1 in
        let low = place_le_tick w n h legal.0 b.arc a_lt o.0 b o.1 in
        let it = by_item w n h legal.0 b.arc a_lt o.0 b o.1 in (
          tick,
          a_lt,
          omega (arith, tick, place, low),
          kind_small w n h legal.0 b.arc a_lt b it.0 it.1,
          what_small b.arc a_lt o.0 b o.1 b.what refl,
          from_small b.arc a_lt o.0 b o.1 (from_first w n h legal.0 b.arc a_lt b it.0 it.1),
        )

    ended_written : (k : ℕ) (e : Ended) → slice_get h k ≡ Some (PlainEvent.ended e) → IsBefore (length w.net.arcs) n (PlainEvent.ended e) → IsWritten w.net (PlainEvent.ended e)
    ended_written k e at (m, lt, (a_lt, m_is)) =
        let s = steady w n h e.arc a_lt legal.0 in
        let o = in_selected (ended_on e.arc) h k (PlainEvent.ended e) e at (rw (is_eq e.arc e.arc refl) refl) in
        let b = there (Begins h e.arc) o.0 (let i_lt = within (Ends h e.arc) o.0 e o.1 in let begun' = s.ordered.ends_begun in omega (arith, i_lt, begun')) in
        let tick = tick_small e.tick (1 + e.arc) (omega (arith, lt, m_is)) in
        let place = s.ordered.end_places o.0 e o.1 in
        let low = place_le_tick w n h legal.0 e.arc a_lt o.0 b.0 b.1 in
        let span = s.ordered.spans o.0 b.0 e b.1 o.1 in
        let size = size_small e.arc a_lt o.0 b.0 e.size b.1 (begun_arc e.arc o.0 b.0 b.1) b.0.kind refl (s.sizes o.0 b.0 e b.1 o.1) in (
          tick,
          a_lt,
          omega (arith, tick, place, low, span),
          small e.size (omega (arith, size)),
          subst HasOctets (sym (s.checks o.0 b.0 e b.1 o.1)) (check_written w h b.0 e.size),
        )

    arrive_written : (k : ℕ) (x : Arrive) → slice_get h k ≡ Some (PlainEvent.arrive x) → IsBefore (length w.net.arcs) n (PlainEvent.arrive x) → IsWritten w.net (PlainEvent.arrive x)
    arrive_written k x at (m, lt, (a_lt, m_is)) =
        let s = (steady w n h x.arc a_lt legal.0).ordered in
        let o = in_selected (arrive_on x.arc) h k (PlainEvent.arrive x) x at (rw (is_eq x.arc x.arc refl) refl) in
        let i_lt = within (Arrivals h x.arc) o.0 x o.1 in
        let e = there (Ends h x.arc) o.0 (let ended' = s.arrivals_ended in omega (arith, i_lt, ended')) in
        let b = there (Begins h x.arc) o.0 (let ended' = s.arrivals_ended in let begun' = s.ends_begun in omega (arith, i_lt, ended', begun')) in
        let tick = tick_small x.tick (1 + length w.net.arcs + x.arc) (omega (arith, lt, m_is)) in
        let place = s.arrival_places o.0 x o.1 in
        let low = place_le_tick w n h legal.0 x.arc a_lt o.0 b.0 b.1 in
        let span = s.spans o.0 b.0 e.0 b.1 e.1 in
        let travel = s.travels o.0 e.0 x e.1 o.1 in
        (tick, a_lt, omega (arith, tick, place, low, span, travel))

    arc_ends : (a : ℕ) → a < length w.net.arcs → IsArc w.net.nodes (arc w a)
    arc_ends a a_lt = w.net.rules.each_arc a no_arc a_lt

    deliver_written : (k : ℕ) (d : Delivery) → slice_get h k ≡ Some (PlainEvent.deliver d) → IsBefore (length w.net.arcs) n (PlainEvent.deliver d) → IsWritten w.net (PlainEvent.deliver d)
    deliver_written k d at (m, lt, (a, a_lt, m_is)) =
        let s = delivery_source w n h d legal.0 (any_at (λ x. x ≡ PlainEvent.deliver d) h k (PlainEvent.deliver d) at refl) in
        let once = delivers_once w routed n h legal in
        let o = in_selected delivery_of h k (PlainEvent.deliver d) d at refl in
        let known = every_at (λ (d : Delivery). d.frame < length w.script.sends) (Deliveries h) o.0 d (every_of_all (λ (d : Delivery). d.frame < length w.script.sends) (Deliveries h) once.known) o.1 in
        let octets = every_at (λ (d : Delivery). d.octets ≡ FrameOf w d.frame) (Deliveries h) o.0 d (every_of_all (λ (d : Delivery). d.octets ≡ FrameOf w d.frame) (Deliveries h) once.octets) o.1 in
        let node = (arc_ends s.arc_number s.known).to in
        let long = (frame_long d.frame known).0 in (
          tick_small d.tick (1 + length w.net.arcs + a) (omega (arith, lt, m_is)),
          subst (HasNode w.net) (sym s.node) node,
          frame_small d.frame known,
          subst HasOctets (sym octets) (has_octets (FrameOf w d.frame) (frame_of-octets Fcs-octets (destination w d.frame) (source w d.frame) (row w d.frame).prio (row w d.frame).vid d.frame (send w d.frame).send.size) (omega (arith, long))),
        )

    entry_written : (e : Entry) → IsTold h (PlainEvent.enter e) ⊎ IsTold h (PlainEvent.dropped e) → number (length w.net.arcs) e.tick (1 + 3 * length w.net.arcs) < n
        → (e.arc < length w.net.arcs) × (e.frame < length w.script.sends) → IsNumber e.tick × HasArc w.net e.arc × IsNumber e.prio × IsNumber e.frame
    entry_written e told lt (a_lt, f_lt) =
        let c = entries_come w n h e.tick legal.0 lt e refl told in
        let prio : (row w c.1.frame).prio ≡ e.prio = ap (λ (x : Entry). x.prio) c.3 in
        let frame : c.1.frame ≡ e.frame = ap (λ (x : Entry). x.frame) c.3 in
        let few = prio_of c.1.frame (omega (arith, frame, f_lt)) in
        (tick_small e.tick (1 + 3 * length w.net.arcs) lt, a_lt, omega (arith, prio, few), frame_small e.frame f_lt)
      where
        prio_of : (f : ℕ) → f < length w.script.sends → (row w f).prio < 8
        prio_of f lt = let s = sent w fits says f lt in prios (send w f).send.stream.0 no_row (within w.streams.rows (send w f).send.stream.0 s.row s.known)

    on_route : (e : Entry) → IsOnRoute w e.arc e.tick e.frame → (e.arc < length w.net.arcs) × (e.frame < length w.script.sends)
    on_route e on = (routed.arcs e.frame e.arc on.known on.arc, on.known)

    set_written : (k t a : ℕ) (v : Setting) → slice_get h k ≡ Some (PlainEvent.set t a v) → IsBefore (length w.net.arcs) n (PlainEvent.set t a v) → IsWritten w.net (PlainEvent.set t a v)
    set_written k t a v at (m, lt, m_is) = (tick_small t 0 (omega (arith, lt, m_is)), by_moment (event_moment w (λ e. e ≡ PlainEvent.set t a v) n h legal.0 (any_at (λ e. e ≡ PlainEvent.set t a v) h k (PlainEvent.set t a v) at refl)))
      where
        known_arc : (s : SetLine) → (i : ℕ) → slice_get w.script.sets i ≡ Some s → s.arc.0 < length w.net.arcs
        known_arc s i at = go (slice_get w.net.arcs s.arc.0) refl (every_at (script.IsSet w.net) w.script.sets i s (every_of_all (script.IsSet w.net) w.script.sets says.sets) at).negotiates
          where
            go : (o : Option Arc) → slice_get w.net.arcs s.arc.0 ≡ o → option_map_or negotiates (slice_get w.net.arcs s.arc.0) false ≡ true → s.arc.0 < length w.net.arcs
            go None is talks = absurd (cc (sym (ap (λ (o : Option Arc). option_map_or negotiates o false) is) ∙ talks))
            go (Some x) is talks = within w.net.arcs s.arc.0 x is

        of_script : (i : ℕ) (e : PlainEvent) → slice_get (SetsAt w t) i ≡ Some e → e ≡ PlainEvent.set t a v → a < length w.net.arcs
        of_script i e at is =
            let o = from_map (λ (x : SetLine). PlainEvent.set x.tick.0 x.arc.0 x.value) (filter (λ (x : SetLine). x.tick.0 == t) w.script.sets) i e at in
            let p = from_filter (λ (x : SetLine). x.tick.0 == t) w.script.sets i o.0 o.1 in
            let same : PlainEvent.set o.0.tick.0 o.0.arc.0 o.0.value ≡ PlainEvent.set t a v = o.2 ∙ is in
            let arc_is : o.0.arc.0 ≡ a = cc same in
            let known = known_arc o.0 p.0 p.1 in
            omega (arith, known, arc_is)

        by_moment : (m : ℕ) × (front : History) × (events : History) × (rest : History) × (m < n) × IsCutAt w m n h front events rest × IsTold events (PlainEvent.set t a v) → a < length w.net.arcs
        by_moment (m, front, events, rest, m_lt, c, (i, d, i_lt, here, is)) =
            let at_i = found_at events i d i_lt here in
            let stands : IsAt (length w.net.arcs) m (PlainEvent.set t a v) = subst (IsAt (length w.net.arcs) m) is (every_at (IsAt (length w.net.arcs) m) events i d (moment_events w front m events c.happens) at_i) in
            let moment_is : moment_at (length w.net.arcs) m ≡ record { tick = t; phase = Phase.sets } = ap (moment_at (length w.net.arcs)) stands ∙ (moment_in (length w.net.arcs) t 0 (omega arith) ∙ ap (λ (p : Phase). record { tick = t; phase = p }) (sets_place (length w.net.arcs))) in
            let events_are = told_sets w front t events (subst (λ (m : Moment). Happens w front m events) moment_is c.happens) in
            of_script i d (ap (λ l. slice_get l i) (sym events_are) ∙ at_i) is

    written : (k : ℕ) (e : PlainEvent) → slice_get h k ≡ Some e → IsBefore (length w.net.arcs) n e → IsRight w e → IsWritten w.net e
    written k (PlainEvent.set t a v) at before right = set_written k t a v at before
    written k (PlainEvent.begin b) at before right = begin_written k b at before
    written k (PlainEvent.ended e) at before right = ended_written k e at before
    written k (PlainEvent.arrive x) at before right = arrive_written k x at before
    written k (PlainEvent.deliver d) at before right = deliver_written k d at before
    written k (PlainEvent.active t a v) at (m, lt, (a_lt, m_is)) right = (tick_small t (1 + 2 * length w.net.arcs + a) (omega (arith, lt, m_is)), a_lt)
    written k (PlainEvent.enter e) at (m, lt, m_is) right = entry_written e (inl (any_at (λ x. x ≡ PlainEvent.enter e) h k (PlainEvent.enter e) at refl)) (omega (arith, lt, m_is)) (on_route e right)
    written k (PlainEvent.dropped e) at (m, lt, m_is) right = entry_written e (inr (any_at (λ x. x ≡ PlainEvent.dropped e) h k (PlainEvent.dropped e) at refl)) (omega (arith, lt, m_is)) (on_route e right)
    written k (PlainEvent.count a c) at (m, lt, no_moment) right = absurd no_moment
    written k (PlainEvent.end e) at (m, lt, no_moment) right = absurd no_moment

    pub are_written : AreWritten w.net h
    are_written = every_placed (IsWritten w.net) h (λ k e at.
        written k e at (every_at (IsBefore (length w.net.arcs) n) h k e (placed w n h legal.0) at) (every_at (IsRight w) h k e rights at))
