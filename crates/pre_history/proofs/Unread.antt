-- Events after the expiries of a tick leave the state of each link at it as it is.
use Rattle.std.proofs.Common.{ℕ, suc, ◌≡◌, ◌==◌, ◌&&◌, ◌+◌, ◌*◌, ◌%◌, ◌-◌, ◌<◌, ◌≤◌, nat_lt, nat_le, Bool}
use Rattle.std.proofs.Common.{true, false, List, ◌++◌, length, take, drop, refl, sym, ◌∙◌, ap, inl, inr, arith, subst, Option, Some, None}
use Rattle.std.proofs.Common.{filter}
use Rattle.std.specs.Prelude.{◌↔◌, if◌then◌else◌, slice_get, option_map, Any}
use Rattle.std.specs.List.{AllByRecursion as Every}
use Rattle.std.proofs.Math.Nat.{mul-le-mul_left}
use Rattle.std.proofs.lemmas.Bool.{cases_lt, and_parts}
use Rattle.std.proofs.lemmas.Bool.Decides.{nat_tests}
use Rattle.std.proofs.lemmas.List.{take-append-drop, length-take-le}
use Rattle.std.proofs.lemmas.List.Elements.{filter_map-append, filter-append}
use Rattle.pre_topo.specs.declared.arcs.Mode.{Mode}
use Rattle.pre_topo.specs.declared.arcs.Mode.TheVariants as mode
use Rattle.pre_topo.specs.Arcs.{reverse_of}
use Rattle.pre_mpacket.specs.Spelling.{head_of}
use Rattle.pre_mpacket.specs.Arrivals.{Given, Gives}
use Rattle.pre_lldp.specs.LinkState as link
use Rattle.pre_history.specs.Scenario.{Scenario, arc}
use Rattle.pre_history.specs.History.{PlainEvent, History, Begin, Ended, Arrive}
use Rattle.pre_history.specs.Selected.{begin_on, ended_on, arrive_on, active_on, is_verify, is_lldp_result, is_respond_result}
use Rattle.pre_history.specs.Queries.{Begins, Ends, Arrivals, Packet, Packets, PacketsBefore, packet, end_of}
use Rattle.pre_history.specs.Octets.{ToldActive, SentOctets, Damaged, is_lost, Arrived, Air}
use Rattle.pre_history.specs.LinkState.{Good, VerifiesBefore, RespondTicks, Verified, ActiveIn, Active}
use Rattle.pre_history.proofs.IsLater.{IsLater, AllLater}
use Rattle.pre_history.specs.Legal.{LegalUpTo}
use Rattle.pre_history.proofs.Lists.{any_at, found_at, at_front, every_at, every_weaker, every_selected, filter_nil, no_append, one_at, there, within}
use Rattle.pre_history.proofs.Chosen.{from_filter, into_filter, from_map, into_map, take_like, last_there}
use Rattle.pre_history.proofs.Free.{first_numbered, packet_at}
use Rattle.pre_history.proofs.Pushes.{ends_rise}
use Rattle.pre_history.proofs.Stays.{told_same, whole_told}
use Rattle.pre_history.proofs.LaterEnds.{packet_back, split_at}
use Rattle.pre_history.proofs.Undamaged.{air_at}
use Rattle.pre_history.proofs.Steady.{costs}
use Rattle.pre_history.proofs.InOrder.{steady}
use Rattle.pre_base.specs.Last.{last}
use Rattle.pre_history.proofs.NatTests.{and_false, not_by, by_then}

-- no query of link state at the tick reads the event
abbrev pub IsUnread : ℕ → PlainEvent → Type 0
IsUnread t (PlainEvent.begin b) = t ≤ b.tick
IsUnread t (PlainEvent.ended e) = t < e.tick
IsUnread t (PlainEvent.arrive x) = t < x.tick
IsUnread t (PlainEvent.active s a value) = t ≤ s
IsUnread t (PlainEvent.enter e) = Unit {0}
IsUnread t (PlainEvent.dropped e) = Unit {0}
IsUnread t (PlainEvent.set s a value) = Unit {0}
IsUnread t (PlainEvent.deliver d) = Unit {0}
IsUnread t (PlainEvent.count a c) = Unit {0}
IsUnread t (PlainEvent.end e) = Unit {0}

-- later arrivals don't change what an arrival gives: a law of mPackets
abbrev pub LaterGives : Type 0
LaterGives = (A B : List (Option (List ℕ))) (i : ℕ) (g : Given) → i < length A → Gives (A ++ B) i g ↔ Gives A i g

before_then : (m n : ℕ) → nat_lt m n ≡ true → m < n
before_then m n is = grind (arith, nat_tests)

is_before : (m n : ℕ) → m < n → nat_lt m n ≡ true
is_before m n lt = grind (arith, nat_tests)

untold : (c s t : ℕ) → s < t → (e : PlainEvent) → IsUnread t e → active_on c s e ≡ None
untold c s t lt (PlainEvent.active u b v) later =
    let no : nat_le u s ≡ false = not_by u s (omega (arith, later, lt)) in
    ap (λ (x : Bool). if x then Some v else None) (ap (λ x. (b == c) && x) no ∙ and_false (b == c))
untold c s t lt (PlainEvent.set u b v) later = refl
untold c s t lt (PlainEvent.begin b) later = refl
untold c s t lt (PlainEvent.ended e) later = refl
untold c s t lt (PlainEvent.arrive x) later = refl
untold c s t lt (PlainEvent.deliver d) later = refl
untold c s t lt (PlainEvent.enter e) later = refl
untold c s t lt (PlainEvent.dropped e) later = refl
untold c s t lt (PlainEvent.count b c') later = refl
untold c s t lt (PlainEvent.end e) later = refl

pub arrival_unread : (r t : ℕ) (e : PlainEvent) (x : Arrive) → IsUnread t e → arrive_on r e ≡ Some x → t < x.tick
arrival_unread r t (PlainEvent.arrive c) x later is = go (c.arc == r) is
  where
    go : (same : Bool) → (if same then Some c else None) ≡ Some x → t < x.tick
    go true at = let same : c ≡ x = cc at in subst (λ (y : Arrive). t < y.tick) same later
    go false at = absurd (cc at)
arrival_unread r t (PlainEvent.set s c v) x later is = absurd (cc is)
arrival_unread r t (PlainEvent.begin c) x later is = absurd (cc is)
arrival_unread r t (PlainEvent.ended c) x later is = absurd (cc is)
arrival_unread r t (PlainEvent.deliver c) x later is = absurd (cc is)
arrival_unread r t (PlainEvent.active s c v) x later is = absurd (cc is)
arrival_unread r t (PlainEvent.enter c) x later is = absurd (cc is)
arrival_unread r t (PlainEvent.dropped c) x later is = absurd (cc is)
arrival_unread r t (PlainEvent.count s c) x later is = absurd (cc is)
arrival_unread r t (PlainEvent.end c) x later is = absurd (cc is)

begin_unread : (a t : ℕ) (e : PlainEvent) (b : Begin) → IsUnread t e → begin_on a e ≡ Some b → t ≤ b.tick
begin_unread a t (PlainEvent.begin c) b later is = go (c.arc == a) is
  where
    go : (same : Bool) → (if same then Some c else None) ≡ Some b → t ≤ b.tick
    go true at = let same : c ≡ b = cc at in subst (λ (x : Begin). t ≤ x.tick) same later
    go false at = absurd (cc at)
begin_unread a t (PlainEvent.set s c v) b later is = absurd (cc is)
begin_unread a t (PlainEvent.ended c) b later is = absurd (cc is)
begin_unread a t (PlainEvent.arrive c) b later is = absurd (cc is)
begin_unread a t (PlainEvent.deliver c) b later is = absurd (cc is)
begin_unread a t (PlainEvent.active s c v) b later is = absurd (cc is)
begin_unread a t (PlainEvent.enter c) b later is = absurd (cc is)
begin_unread a t (PlainEvent.dropped c) b later is = absurd (cc is)
begin_unread a t (PlainEvent.count s c) b later is = absurd (cc is)
begin_unread a t (PlainEvent.end c) b later is = absurd (cc is)

-- what an arrival gives where the arrivals up to it are the same
pub gives_like : LaterGives → (A B : List (Option (List ℕ))) (i : ℕ) (g : Given) → i < length A → i < length B → ((k : ℕ) → k ≤ i → slice_get A k ≡ slice_get B k) → Gives A i g → Gives B i g
gives_like later A B i g lt lt' same gives =
    let front : take (suc i) A ≡ take (suc i) B = take_like (suc i) A B (omega (arith, lt)) (omega (arith, lt')) (λ k k_lt. same k (omega (arith, k_lt))) in
    let whole : Gives (take (suc i) A ++ drop (suc i) A) i g = subst (λ xs. Gives xs i g) (sym (take-append-drop (suc i) A)) gives in
    let inside : i < length (take (suc i) A) = omega (arith, length-take-le (suc i) A (omega (arith, lt))) in
    let inside' : i < length (take (suc i) B) = omega (arith, length-take-le (suc i) B (omega (arith, lt'))) in
    let now : Gives (take (suc i) B) i g = subst (λ xs. Gives xs i g) front ((later (take (suc i) A) (drop (suc i) A) i g inside).0 whole) in
    subst (λ xs. Gives xs i g) (take-append-drop (suc i) B) ((later (take (suc i) B) (drop (suc i) B) i g inside').1 now)

-- an mPacket that ended arrives the same, where what it carries is the same
pub arrives_like : (w : Scenario) (h es : History) (r : ℕ) (b : Begin) (e : Ended) → end_of h r b.ord ≡ Some e → ToldActive w (h ++ es) b.arc b.tick ≡ ToldActive w h b.arc b.tick
    → Arrived w (h ++ es) (packet (h ++ es) r b) ≡ Arrived w h (packet h r b)
arrives_like w h es r b e ended told =
    let more : filter (λ (x : Ended). x.ord == b.ord) (Ends (h ++ es) r) ≡ filter (λ (x : Ended). x.ord == b.ord) (Ends h r) ++ filter (λ (x : Ended). x.ord == b.ord) (Ends es r)
    = ap (filter (λ (x : Ended). x.ord == b.ord)) (filter_map-append (ended_on r) h es) ∙ filter-append (λ (x : Ended). x.ord == b.ord) (Ends h r) (Ends es r) in
    let still : end_of (h ++ es) r b.ord ≡ Some e
    = ap (λ (xs : List Ended). slice_get xs 0) more ∙ at_front (filter (λ (x : Ended). x.ord == b.ord) (Ends h r)) (filter (λ (x : Ended). x.ord == b.ord) (Ends es r)) 0 e ended in
    let sent : SentOctets w (h ++ es) b e ≡ SentOctets w h b e = ap (λ (xs : List ℕ). head_of b.kind ++ take (e.size - 4) (drop b.from xs) ++ e.check) (whole_told w h es b told) in
    ap (λ (o : Option Ended). if is_lost w b then None else option_map (Damaged w b) (option_map (SentOctets w (h ++ es) b) o)) still
    ∙ (ap (λ (xs : List ℕ). if is_lost w b then None else Some (Damaged w b xs)) sent
    ∙ sym (ap (λ (o : Option Ended). if is_lost w b then None else option_map (Damaged w b) (option_map (SentOctets w h b) o)) ended))

module _ (later : LaterGives) (w : Scenario) (n : ℕ) (h es : History) (legal : LegalUpTo w n h) (t : ℕ) (unread : Every (IsUnread t) es) where
  -- ---- what arrived by the tick

  module _ (r : ℕ) (r_lt : r < length w.net.arcs) (i : ℕ) (x : Arrive) (at : slice_get (Arrivals h r) i ≡ Some x) (by : x.tick ≤ t) where
    began_before : (k : ℕ) (b : Begin) (e : Ended) → k ≤ i → slice_get (Begins h r) k ≡ Some b → slice_get (Ends h r) k ≡ Some e → b.tick < t
    began_before k b e le at_b at_e =
        let o = (steady w n h r r_lt legal).ordered in
        let last' = there (Ends h r) i (omega (arith, within (Arrivals h r) i x at, o.arrivals_ended)) in
        let travel : x.tick ≡ last'.0.tick + (arc w r).delay = o.travels i last'.0 x last'.1 at in
        let span : e.tick ≡ b.tick + (arc w r).cost * (e.size + 8) = o.spans k b e at_b at_e in
        let reach : (arc w r).cost * 8 ≤ (arc w r).cost * (e.size + 8) = mul-le-mul_left (arc w r).cost (omega arith) in
        let some = costs w r r_lt in
        let rise : e.tick ≤ last'.0.tick = elim (cases_lt k i) [
          | inl lt ↦ let y = ends_rise (arc w r).cost (arc w r).delay (Begins h r) (Ends h r) (Arrivals h r) o some k i e last'.0 lt at_e last'.1 in omega (arith, y)
          | inr ge ↦
              let same : k ≡ i = omega (arith, le, ge) in
              let one : e ≡ last'.0 = one_at (Ends h r) i e last'.0 (ap (slice_get (Ends h r)) (sym same) ∙ at_e) last'.1 in
              omega (arith, ap (λ (y : Ended). y.tick) one)
        ] in
        omega (arith, travel, span, reach, some, rise, by)

    air_like : (k : ℕ) → k ≤ i → (b : Begin) × (slice_get (Air w h r) k ≡ Some (Arrived w h (packet h r b))) × (slice_get (Air w (h ++ es) r) k ≡ slice_get (Air w h r) k)
    air_like k le =
        let o = (steady w n h r r_lt legal).ordered in
        let e = there (Ends h r) k (omega (arith, le, within (Arrivals h r) i x at, o.arrivals_ended)) in
        let b = there (Begins h r) k (omega (arith, within (Ends h r) k e.0 e.1, o.ends_begun)) in
        let ord : b.0.ord ≡ k = o.begin_places k b.0 b.1 in
        let ended : end_of h r b.0.ord ≡ Some e.0 = first_numbered (Ends h r) 0 k b.0.ord (omega (arith, ord)) (λ j d here. let is : d.ord ≡ j = o.end_places j d here in omega (arith, is)) ∙ e.1 in
        let lt : b.0.tick < t = began_before k b.0 e.0 le b.1 e.1 in
        let told : ToldActive w (h ++ es) b.0.arc b.0.tick ≡ ToldActive w h b.0.arc b.0.tick
        = told_same w h es b.0.arc b.0.tick (every_weaker (IsUnread t) (λ e. active_on b.0.arc b.0.tick e ≡ None) (untold b.0.arc b.0.tick t lt) es unread) in
        let old = air_at w h r k b.0 b.1 in
        let here : slice_get (Begins (h ++ es) r) k ≡ Some b.0 = ap (λ (xs : List Begin). slice_get xs k) (filter_map-append (begin_on r) h es) ∙ at_front (Begins h r) (Begins es r) k b.0 b.1 in
        (b.0, old, air_at w (h ++ es) r k b.0 here ∙ (ap Some (arrives_like w h es r b.0 e.0 ended told) ∙ sym old))

    gives_still : (g : Given) → Gives (Air w h r) i g → Gives (Air w (h ++ es) r) i g
    gives_still g gives =
        let y = air_like i (omega arith) in
        gives_like later (Air w h r) (Air w (h ++ es) r) i g (within (Air w h r) i (Arrived w h (packet h r y.0)) y.1) (within (Air w (h ++ es) r) i (Arrived w h (packet h r y.0)) (y.2 ∙ y.1)) (λ k le. sym (air_like k le).2) gives

    gives_before : (g : Given) → Gives (Air w (h ++ es) r) i g → Gives (Air w h r) i g
    gives_before g gives =
        let y = air_like i (omega arith) in
        gives_like later (Air w (h ++ es) r) (Air w h r) i g (within (Air w (h ++ es) r) i (Arrived w h (packet h r y.0)) (y.2 ∙ y.1)) (within (Air w h r) i (Arrived w h (packet h r y.0)) y.1) (λ k le. (air_like k le).2) gives

  late : (r : ℕ) → Every (λ (x : Arrive). t < x.tick) (Arrivals es r)
  late r = every_selected (arrive_on r) (IsUnread t) (λ x. t < x.tick) (arrival_unread r t) es unread

  -- ---- Good

  adverts_like : (r u : ℕ) → u ≤ t → filter (λ (y : Arrive). is_lldp_result y.result && nat_le y.tick u) (Arrivals (h ++ es) r) ≡ filter (λ (y : Arrive). is_lldp_result y.result && nat_le y.tick u) (Arrivals h r)
  adverts_like r u le =
      ap (filter (λ (y : Arrive). is_lldp_result y.result && nat_le y.tick u)) (filter_map-append (arrive_on r) h es)
      ∙ (filter-append (λ (y : Arrive). is_lldp_result y.result && nat_le y.tick u) (Arrivals h r) (Arrivals es r)
      ∙ no_append (filter (λ (y : Arrive). is_lldp_result y.result && nat_le y.tick u) (Arrivals h r)) (filter (λ (y : Arrive). is_lldp_result y.result && nat_le y.tick u) (Arrivals es r))
      (filter_nil (λ (y : Arrive). is_lldp_result y.result && nat_le y.tick u) (Arrivals es r)
      (every_weaker (λ (y : Arrive). t < y.tick) (λ y. (is_lldp_result y.result && nat_le y.tick u) ≡ false) (λ y lt. ap (λ b. is_lldp_result y.result && b) (not_by y.tick u (omega (arith, lt, le))) ∙ and_false (is_lldp_result y.result)) (Arrivals es r) (late r))))

  -- where the last advert stands
  advert_place : (r u : ℕ) → r < length w.net.arcs → u ≤ t → (x : Arrive) → last (filter (λ (y : Arrive). is_lldp_result y.result && nat_le y.tick u) (Arrivals h r)) ≡ Some x
      → (slice_get (Arrivals h r) x.ord ≡ Some x) × (x.tick ≤ t)
  advert_place r u r_lt le x is =
      let o = last_there (filter (λ (y : Arrive). is_lldp_result y.result && nat_le y.tick u) (Arrivals h r)) x is in
      let p = from_filter (λ (y : Arrive). is_lldp_result y.result && nat_le y.tick u) (Arrivals h r) o.0 x o.1 in
      let ord : x.ord ≡ p.0 = (steady w n h r r_lt legal).ordered.arrival_places p.0 x p.1 in
      let by : x.tick ≤ u = by_then x.tick u (and_parts (is_lldp_result x.result) (nat_le x.tick u) p.2).1 in
      (ap (slice_get (Arrivals h r)) ord ∙ p.1, omega (arith, by, le))

  module _ (a : ℕ) (r_lt : reverse_of a < length w.net.arcs) where
    good_still : (u : ℕ) → u ≤ t → Good w h a u → Good w (h ++ es) a u
    unfolding Good
    good_still u le (on, (heard, (x, last', (tick, (octets, gives, advert))), counts, enabled)) =
        let p = advert_place (reverse_of a) u r_lt le x last' in
        (on, (heard, (x, ap last (adverts_like (reverse_of a) u le) ∙ last', (tick, (octets, gives_still (reverse_of a) r_lt x.ord x p.0 p.1 (Given.frame octets) gives, advert))), counts, enabled))

    good_before : (u : ℕ) → u ≤ t → Good w (h ++ es) a u → Good w h a u
    unfolding Good
    good_before u le (on, (heard, (x, last', (tick, (octets, gives, advert))), counts, enabled)) =
        let old : last (filter (λ (y : Arrive). is_lldp_result y.result && nat_le y.tick u) (Arrivals h (reverse_of a))) ≡ Some x = ap last (sym (adverts_like (reverse_of a) u le)) ∙ last' in
        let p = advert_place (reverse_of a) u r_lt le x old in
        (on, (heard, (x, old, (tick, (octets, gives_before (reverse_of a) r_lt x.ord x p.0 p.1 (Given.frame octets) gives, advert))), counts, enabled))

-- ---- the verifies and the responds of a history, by their events

pub verify_back : (h : History) (a t i : ℕ) (v : link.Verify) → slice_get (VerifiesBefore h a t) i ≡ Some v
    → (k : ℕ) × (b : Begin) × (slice_get (Begins h a) k ≡ Some b) × (is_verify b.kind ≡ true) × (b.tick < t) × (b.tick ≡ v.began)
unfolding Packets
verify_back h a t i v at =
    let p = from_map (λ (p : Packet). record { began = p.begin.tick; ended = option_map (λ (e : Ended). e.tick) p.ended }) (filter (λ (p : Packet). is_verify p.begin.kind) (PacketsBefore h a t)) i v at in
    let q = from_filter (λ (p : Packet). is_verify p.begin.kind) (PacketsBefore h a t) i p.0 p.1 in
    let r = from_filter (λ (p : Packet). nat_lt p.begin.tick t) (Packets h a) q.0 p.0 q.1 in
    let b = packet_back h a r.0 p.0 r.1 in
    let begins : b.0 ≡ p.0.begin = ap (λ (p : Packet). p.begin) b.2 in
    let lt : p.0.begin.tick < t = before_then p.0.begin.tick t r.2 in
    let began : p.0.begin.tick ≡ v.began = ap (λ (v : link.Verify). v.began) p.2 in
    (r.0, b.0, b.1, ap (λ (b : Begin). is_verify b.kind) begins ∙ q.2, subst (λ (b : Begin). b.tick < t) (sym begins) lt, ap (λ (b : Begin). b.tick) begins ∙ began)

pub verify_there : (h : History) (a t k : ℕ) (b : Begin) → slice_get (Begins h a) k ≡ Some b → is_verify b.kind ≡ true → b.tick < t
    → (i : ℕ) × (v : link.Verify) × (slice_get (VerifiesBefore h a t) i ≡ Some v) × (v.began ≡ b.tick)
verify_there h a t k b at is lt =
    let r = into_filter (λ (p : Packet). nat_lt p.begin.tick t) (Packets h a) k (packet h a b) (packet_at h a k b at) (is_before b.tick t lt) in
    let q = into_filter (λ (p : Packet). is_verify p.begin.kind) (PacketsBefore h a t) r.0 (packet h a b) r.1 is in (
      q.0,
      record { began = b.tick; ended = option_map (λ (e : Ended). e.tick) (end_of h a b.ord) },
      into_map (λ (p : Packet). record { began = p.begin.tick; ended = option_map (λ (e : Ended). e.tick) p.ended }) (filter (λ (p : Packet). is_verify p.begin.kind) (PacketsBefore h a t)) q.0 (packet h a b) q.1,
      refl,
    )

pub respond_back : (h : History) (a i r : ℕ) → slice_get (RespondTicks h a) i ≡ Some r
    → (k : ℕ) × (x : Arrive) × (slice_get (Arrivals h (reverse_of a)) k ≡ Some x) × (is_respond_result x.result ≡ true) × (x.tick ≡ r)
respond_back h a i r at =
    let x = from_map (λ (x : Arrive). x.tick) (filter (λ (x : Arrive). is_respond_result x.result) (Arrivals h (reverse_of a))) i r at in
    let y = from_filter (λ (x : Arrive). is_respond_result x.result) (Arrivals h (reverse_of a)) i x.0 x.1 in
    (y.0, x.0, y.1, y.2, x.2)

pub respond_there : (h : History) (a k : ℕ) (x : Arrive) → slice_get (Arrivals h (reverse_of a)) k ≡ Some x → is_respond_result x.result ≡ true
    → (i : ℕ) × (slice_get (RespondTicks h a) i ≡ Some x.tick)
respond_there h a k x at is =
    let y = into_filter (λ (x : Arrive). is_respond_result x.result) (Arrivals h (reverse_of a)) k x at is in
    (y.0, into_map (λ (x : Arrive). x.tick) (filter (λ (x : Arrive). is_respond_result x.result) (Arrivals h (reverse_of a))) y.0 x y.1)

-- a link verified by Good, verifies and responds is so by others that have all that counts of them
pub verified_like : (G H : ℕ → Type 0) (vs us : List link.Verify) (rs ss : List ℕ) (t : ℕ) → ((i : ℕ) → i ≤ t → G i → H i)
    → ((i : ℕ) (v : link.Verify) → slice_get vs i ≡ Some v → v.began < t → (j : ℕ) × (u : link.Verify) × (slice_get us j ≡ Some u) × (u.began ≡ v.began))
    → ((i r : ℕ) → slice_get rs i ≡ Some r → r ≤ t → (j : ℕ) × (slice_get ss j ≡ Some r)) → link.Verified G vs rs t → link.Verified H us ss t
verified_like G H vs us rs ss t goods verifies responds (u, (le, good), (i, v, lt, is, (from, (k, r, lt', is', (after, by))))) =
    let o = verifies i v (found_at vs i v lt is) (omega (arith, after, by)) in
    let p = responds k r (found_at rs k r lt' is') by in (
      u,
      (le, λ i from' to. goods i to (good i from' to)),
      any_at (λ (v : link.Verify). (u ≤ v.began) × Any (λ r. (v.began < r) × (r ≤ t)) ss) us o.0 o.1 o.2 (
        omega (arith, from, o.3),
        any_at (λ r. (o.1.began < r) × (r ≤ t)) ss p.0 r p.1 (omega (arith, after, o.3), by),
      ),
    )

module _ (later : LaterGives) (w : Scenario) (n : ℕ) (h es : History) (legal : LegalUpTo w n h) (t : ℕ) (unread : Every (IsUnread t) es) (a : ℕ) (r_lt : reverse_of a < length w.net.arcs) where
  verified_still : Verified w h a t → Verified w (h ++ es) a t
  verified_still =
      verified_like (Good w h a) (Good w (h ++ es) a) (VerifiesBefore h a t) (VerifiesBefore (h ++ es) a t) (RespondTicks h a) (RespondTicks (h ++ es) a) t
      (good_still later w n h es legal t unread a r_lt)
      (λ i v at lt.
      let o = verify_back h a t i v at in
      let here : slice_get (Begins (h ++ es) a) o.0 ≡ Some o.1 = ap (λ (xs : List Begin). slice_get xs o.0) (filter_map-append (begin_on a) h es) ∙ at_front (Begins h a) (Begins es a) o.0 o.1 o.2 in
      let p = verify_there (h ++ es) a t o.0 o.1 here o.3 o.4 in
      (p.0, p.1, p.2, p.3 ∙ o.5))
      (λ i r at by.
      let o = respond_back h a i r at in
      let here : slice_get (Arrivals (h ++ es) (reverse_of a)) o.0 ≡ Some o.1 = ap (λ (xs : List Arrive). slice_get xs o.0) (filter_map-append (arrive_on (reverse_of a)) h es) ∙ at_front (Arrivals h (reverse_of a)) (Arrivals es (reverse_of a)) o.0 o.1 o.2 in
      let p = respond_there (h ++ es) a o.0 o.1 here o.3 in
      (p.0, p.1 ∙ ap Some o.4))

  verified_before : Verified w (h ++ es) a t → Verified w h a t
  verified_before =
      verified_like (Good w (h ++ es) a) (Good w h a) (VerifiesBefore (h ++ es) a t) (VerifiesBefore h a t) (RespondTicks (h ++ es) a) (RespondTicks h a) t
      (good_before later w n h es legal t unread a r_lt)
      (λ i v at lt.
      let o = verify_back (h ++ es) a t i v at in
      let here = split_at (Begins h a) (Begins es a) o.0 o.1 (ap (λ (xs : List Begin). slice_get xs o.0) (sym (filter_map-append (begin_on a) h es)) ∙ o.2) in
      elim here [
        | inl old ↦ let p = verify_there h a t o.0 o.1 old o.3 o.4 in (p.0, p.1, p.2, p.3 ∙ o.5)
        | inr new ↦ absurd (let late' : t ≤ o.1.tick = every_at (λ (b : Begin). t ≤ b.tick) (Begins es a) new.0 o.1 (every_selected (begin_on a) (IsUnread t) (λ b. t ≤ b.tick) (begin_unread a t) es unread) new.1 in omega (arith, late', o.4))
      ])
      (λ i r at by.
      let o = respond_back (h ++ es) a i r at in
      let here = split_at (Arrivals h (reverse_of a)) (Arrivals es (reverse_of a)) o.0 o.1 (ap (λ (xs : List Arrive). slice_get xs o.0) (sym (filter_map-append (arrive_on (reverse_of a)) h es)) ∙ o.2) in
      elim here [
        | inl old ↦ let p = respond_there h a o.0 o.1 old o.3 in (p.0, p.1 ∙ ap Some o.4)
        | inr new ↦ absurd (let late' : t < o.1.tick = every_at (λ (x : Arrive). t < x.tick) (Arrivals es (reverse_of a)) new.0 o.1 (late later w n h es legal t unread (reverse_of a)) new.1 in omega (arith, late', o.4, by))
      ])

  pub good_stays : (u : ℕ) → u ≤ t → Good w (h ++ es) a u ↔ Good w h a u
  good_stays u le = (good_before later w n h es legal t unread a r_lt u le, good_still later w n h es legal t unread a r_lt u le)

  pub active_stays : Active w (h ++ es) a t ↔ Active w h a t
  unfolding Active
  active_stays = go (arc w a).mode
    where
      go : (m : Mode) → ActiveIn w (h ++ es) a m t ↔ ActiveIn w h a m t
      go mode.Off = ((λ x. x), λ x. x)
      go mode.On = ((λ x. x), λ x. x)
      go mode.Negotiate = (verified_before, verified_still)

-- the two arcs of a link are both of the network
pub reverse_within : (w : Scenario) (a : ℕ) → a < length w.net.arcs → reverse_of a < length w.net.arcs
reverse_within w a lt = go (a % 2 == 0) refl
  where
    go : (b : Bool) → (a % 2 == 0) ≡ b → (if b then a + 1 else a - 1) < length w.net.arcs
    go true is = let even : a % 2 ≡ 0 = grind (arith, nat_tests) in omega (arith, lt, even, w.net.rules.arc_count.2)
    go false is = omega (arith, lt)

pub later_unread : (t : ℕ) (e : PlainEvent) → IsLater t e → IsUnread t e
later_unread t (PlainEvent.begin b) later = later
later_unread t (PlainEvent.ended e) later = later
later_unread t (PlainEvent.arrive x) later = later
later_unread t (PlainEvent.active s a v) later = later
later_unread t (PlainEvent.enter e) later = tt
later_unread t (PlainEvent.dropped e) later = tt
later_unread t (PlainEvent.set s a v) later = tt
later_unread t (PlainEvent.deliver d) later = tt
later_unread t (PlainEvent.count a c) later = tt
later_unread t (PlainEvent.end e) later = tt

pub active_later : LaterGives → (w : Scenario) (n : ℕ) (h g : History) (a t : ℕ) → a < length w.net.arcs → LegalUpTo w n h → AllLater t g → Active w (h ++ g) a t ↔ Active w h a t
active_later gives w n h g a t lt legal later = active_stays gives w n h g legal t (every_weaker (IsLater t) (IsUnread t) (later_unread t) g later) a (reverse_within w a lt)
