-- Each frame keeps a slot of its own, and no other slot is out, as frames come and go.
use Rattle.std.proofs.Common.{length-append}
use Rattle.std.proofs.Common.{ℕ, zero, suc, ◌≡◌, ◌≢◌, ◌==◌, Bool, true, false, ◌+◌, ◌<◌, ◌≤◌, List, [], ◌∷◌}
use Rattle.std.proofs.Common.{◌++◌, length, map, replicate, refl, sym, ◌∙◌, ap, arith, subst, Option, Some, None}
use Rattle.std.specs.Prelude.{slice_get, slice_index_or, set}
use Rattle.std.proofs.Math.ListN.{length-set}
use Rattle.std.proofs.lemmas.List.Folds.{sum_by-replicate}
use Rattle.pre_base.specs.declared.limits.TheConstants.{LEAST_FRAME}
use Rattle.pre_base.specs.declared.numbers.FrameNo.{FrameNo}
use Rattle.std.specs.List.{sum_by, AllByRecursion as Every}
use Rattle.std.proofs.lemmas.List.{append-nil}
use Rattle.pre_rings.specs.declared.slots.FrameRef.{FrameRef}
use Rattle.pre_rings.specs.Ports.{Port, IsPort, frames_at, capacity_at, with_frames}
use Rattle.pre_topo.specs.Memory.{slots}
use Rattle.pre_topo.specs.declared.nodes.NodeKind.TheVariants.{Bridge}
use Rattle.pre_history.specs.Scenario.{Scenario, arc, send, FrameOf}
use Rattle.pre_history.proofs.Undamaged.{length-FrameOf}
use Rattle.pre_outgoing.specs.declared.outgoing.Outgoing.{Outgoing}
use Rattle.pre_bridge.specs.Inside.{Entry}
use Rattle.pre_memory.specs.Stations.{LeadsTo}
use Rattle.pre_sim.specs.declared.lanes.Lane.{Lane}
use Rattle.pre_send.specs.Owned.{frames_of as sent_by}
use Rattle.pre_sim.specs.Lanes.{IsIdle, AreIdle}
use Rattle.pre_sim.specs.Choices.{LeavesFirst}
use Rattle.pre_sim.specs.Arriving.{IsStored, in_slot}
use Rattle.pre_sim.specs.Keeps.{Store, IsFrameOf, GoesOver, Waits, IsUnderWay, IsKeptInside, LaneKeeps, StandApart, Keeps, KeepsOn, IsCounted, among, of_lane, uses}
use Rattle.pre_sim.specs.Sends.{KeepsCome}
use Rattle.pre_sim.proofs.Counted.{counted_lane, counted_ended, counted_started, counted_arrived, counted_entered, counted_dropped, counted_sent, counted_taken}
use Rattle.pre_sim.proofs.Lists.{every-append, sum-set, sum-one, sum-none, set_here, set_elsewhere, set_cases}
use Rattle.pre_sim.proofs.Counts.{among-here, among-other, among-cons, among-append, first_elsewhere, each_elsewhere, none_among, among_ring, none_among_rings, among_with, rings_with}
use Rattle.pre_sim.proofs.NumberTests.{same_number, other_number}

-- the frames of those inside bridges
abbrev frames_of : List Entry → List FrameRef
frames_of entries = map (λ e. e.frame) entries

-- those of more
frames-append : (s : ℕ) (xs ys : List Entry) → among s (frames_of (xs ++ ys)) ≡ among s (frames_of xs) + among s (frames_of ys)
frames-append s [] ys = omega arith
frames-append s (x ∷ xs) ys = omega (arith, among-cons s x.frame (frames_of (xs ++ ys)), among-cons s x.frame (frames_of xs), frames-append s xs ys)

-- with other frames in one ring each ring takes its frames
fits_with : (rings : List (List FrameRef)) (capacities : List ℕ) (p : ℕ) (fs : List FrameRef) → ((q : ℕ) → length (slice_index_or rings q []) ≤ slice_index_or capacities q 0)
    → length fs ≤ slice_index_or capacities p 0 → (q : ℕ) → length (slice_index_or (set rings p fs) q []) ≤ slice_index_or capacities q 0
fits_with [] capacities p fs all short q = all q
fits_with (gs ∷ rings) [] zero fs all short zero = short
fits_with (gs ∷ rings) (c ∷ cs) zero fs all short zero = short
fits_with (gs ∷ rings) capacities zero fs all short (suc q) = all (suc q)
fits_with (gs ∷ rings) capacities (suc p) fs all short zero = all zero
fits_with (gs ∷ rings) [] (suc p) fs all short (suc q) = fits_with rings [] p fs (λ r. all (suc r)) short q
fits_with (gs ∷ rings) (c ∷ cs) (suc p) fs all short (suc q) = fits_with rings cs p fs (λ r. all (suc r)) short q

module _ (w : Scenario) where
  -- ---- a slot in which no frame stands

  -- a frame in another slot stays
  frame_stays : (store : Store) (s : ℕ) (o : Option (List ℕ)) (f : FrameRef) → f.slot ≢ s → IsFrameOf w store f → IsFrameOf w (set store s o) f
  frame_stays store s o f other is = record { known = is.known; prio = is.prio; vid = is.vid; size = is.size; long = is.long; held = set_elsewhere store s f.slot o other ∙ is.held }

  -- so does one that waits
  waits_stays : (store : Store) (s a p : ℕ) (o : Option (List ℕ)) (f : FrameRef) → f.slot ≢ s → Waits w store a p f → Waits w (set store s o) a p f
  waits_stays store s a p o f other is = record { frame = frame_stays store s o f other is.frame; over = is.over; ring = is.ring }

  -- one that is being sent
  sending_stays : (store : Store) (s a : ℕ) (o : Option (List ℕ)) (f : FrameRef) → f.slot ≢ s → IsUnderWay w store a f → IsUnderWay w (set store s o) a f
  sending_stays store s a o f other is = record { frame = frame_stays store s o f other is.frame; over = is.over }

  -- all of a lane
  lane_stays : (store : Store) (s a : ℕ) (o : Option (List ℕ)) (lane : Lane) → of_lane s lane ≡ 0 → LaneKeeps w store a lane → LaneKeeps w (set store s o) a lane
  lane_stays store s a o lane none is = record {
    within = is.within;
    eight = is.eight;
    capacities = is.capacities;
    waiting = λ p. each_elsewhere (Waits w store a p) (Waits w (set store s o) a p) s (frames_at lane.rings p) (waits_stays store s a p o)
        (omega (arith, among_ring s lane.rings.frames p, none)) (is.waiting p);
    sending = each_elsewhere (IsUnderWay w store a) (IsUnderWay w (set store s o) a) s (sent_by lane.outgoing.sender) (sending_stays store s a o) (omega (arith, none)) is.sending;
  }

  -- and all inside bridges
  inside_stays : (store : Store) (s : ℕ) (o : Option (List ℕ)) (entries : List Entry) → among s (frames_of entries) ≡ 0 → Every (IsKeptInside w store) entries
      → Every (IsKeptInside w (set store s o)) entries
  inside_stays store s o [] none all = tt
  inside_stays store s o (e ∷ entries) none (here, more) = (
    record { frame = frame_stays store s o e.frame (first_elsewhere s e.frame (frames_of entries) none) here.frame; from = here.from; onto = here.onto },
    inside_stays store s o entries (omega (arith, among-cons s e.frame (frames_of entries), none)) more,
  )

  -- all stays as it is where another slot changes
  all_stays : (store : Store) (s : ℕ) (o : Option (List ℕ)) (lanes : List Lane) (entries : List Entry) (moving : List FrameRef) → uses lanes entries moving s ≡ 0
      → StandApart w store lanes entries moving → StandApart w (set store s o) lanes entries moving
  all_stays store s o lanes entries moving none is = record {
    each_lane = λ a lane at. lane_stays store s a o lane (omega (arith, sum-one (of_lane s) lanes a lane at, none)) (is.each_lane a lane at);
    each_inside = inside_stays store s o entries (omega (arith, none)) is.each_inside;
    each_moving = each_elsewhere (IsFrameOf w store) (IsFrameOf w (set store s o)) s moving (frame_stays store s o) (omega (arith, none)) is.each_moving;
    once = is.once;
  }

  -- ---- a slot that is in

  -- no frame stands in it
  frame_elsewhere : (store : Store) (s : ℕ) → slice_get store s ≡ Some None → (f : FrameRef) → IsFrameOf w store f → f.slot ≢ s
  frame_elsewhere store s free f is e =
      let held : slice_get store s ≡ Some (Some (FrameOf w f.frame.0)) = subst (λ k. slice_get store k ≡ Some (Some (FrameOf w f.frame.0))) e is.held in
      cc (held, free)

  -- none of a lane
  free_lane : (store : Store) (s a : ℕ) → slice_get store s ≡ Some None → (lane : Lane) → LaneKeeps w store a lane → of_lane s lane ≡ 0
  free_lane store s a free lane is =
      omega (
        arith,
        none_among_rings (Waits w store a) s lane.rings.frames (λ p f waits. frame_elsewhere store s free f waits.frame) is.waiting,
        none_among (IsUnderWay w store a) s (sent_by lane.outgoing.sender) (λ f under. frame_elsewhere store s free f under.frame) is.sending,
      )

  -- none inside a bridge
  free_inside : (store : Store) (s : ℕ) → slice_get store s ≡ Some None → (entries : List Entry) → Every (IsKeptInside w store) entries → among s (frames_of entries) ≡ 0
  free_inside store s free [] all = refl
  free_inside store s free (e ∷ entries) (here, more) = among-other s e.frame (frames_of entries) (frame_elsewhere store s free e.frame here.frame) ∙ free_inside store s free entries more

  -- none at all
  all_elsewhere : (store : Store) (s : ℕ) (lanes : List Lane) (entries : List Entry) (moving : List FrameRef) → slice_get store s ≡ Some None → StandApart w store lanes entries moving
      → uses lanes entries moving s ≡ 0
  all_elsewhere store s lanes entries moving free is =
      omega (
        arith,
        sum-none (of_lane s) lanes (λ a lane at. free_lane store s a free lane (is.each_lane a lane at)),
        free_inside store s free entries is.each_inside,
        none_among (IsFrameOf w store) s moving (frame_elsewhere store s free) is.each_moving,
      )

  -- ---- another lane at an arc

  -- how many stand in a slot then
  uses_with : (lanes : List Lane) (a : ℕ) (old new : Lane) (entries entries' : List Entry) (moving moving' : List FrameRef) (s : ℕ) → slice_get lanes a ≡ Some old
      → uses (set lanes a new) entries' moving' s + (of_lane s old + among s (frames_of entries) + among s moving) ≡ uses lanes entries moving s +
      (of_lane s new + among s (frames_of entries') + among s moving')
  uses_with lanes a old new entries entries' moving moving' s at = omega (arith, sum-set (of_lane s) lanes a old new at)

  -- where no more frames stand in any slot
  all_with : (store : Store) (lanes : List Lane) (a : ℕ) (old new : Lane) (entries : List Entry) (moving moving' : List FrameRef) → slice_get lanes a ≡ Some old
      → LaneKeeps w store a new → Every (IsFrameOf w store) moving'
      → ((s : ℕ) → of_lane s new + among s moving' ≤ of_lane s old + among s moving) → StandApart w store lanes entries moving → StandApart w store (set lanes a new) entries moving'
  all_with store lanes a old new entries moving moving' at lane moves less is = record {
    each_lane = set_cases (LaneKeeps w store) lanes a new is.each_lane lane;
    each_inside = is.each_inside;
    each_moving = moves;
    once = λ s. omega (arith, uses_with lanes a old new entries entries moving moving' s at, less s, is.once s);
  }

  -- with no more inside
  no_more : (store : Store) (lanes : List Lane) (entries : List Entry) → StandApart w store lanes entries [] → StandApart w store lanes (entries ++ []) []
  no_more store lanes entries is = subst (λ es. StandApart w store lanes es []) (sym (append-nil entries)) is

  -- ---- what a lane keeps

  -- with other frames in one ring
  lane_ring : (store : Store) (a p : ℕ) (fs : List FrameRef) (old new : Lane) → new.rings ≡ with_frames old.rings p fs → length fs ≤ capacity_at old.rings p → Every (Waits w store a p) fs
      → Every (IsUnderWay w store a) (sent_by new.outgoing.sender) → LaneKeeps w store a old → LaneKeeps w store a new
  lane_ring store a p fs old new rings short waits sends was =
      let same = sym rings in
      let long : length (set old.rings.frames p fs) ≡ 8 = length-set old.rings.frames p fs ∙ was.eight.0 in
      record {
        within = λ q. subst (λ (r : Port). length (frames_at r q) ≤ capacity_at r q) same (fits_with old.rings.frames old.rings.capacities p fs was.within short q);
        eight = subst IsPort same (long, was.eight.1);
        capacities = ap (λ (r : Port). r.capacities) rings ∙ was.capacities;
        waiting = λ q. subst (λ (r : Port). Every (Waits w store a q) (frames_at r q)) same (rings_with (Waits w store a) old.rings.frames p fs was.waiting waits q);
        sending = sends;
      }

  -- with the same rings
  lane_same : (store : Store) (a : ℕ) (old new : Lane) → new.rings ≡ old.rings → Every (IsUnderWay w store a) (sent_by new.outgoing.sender) → LaneKeeps w store a old → LaneKeeps w store a new
  lane_same store a old new rings sends was =
      let same = sym rings in
      record {
        within = λ q. subst (λ (r : Port). length (frames_at r q) ≤ capacity_at r q) same (was.within q);
        eight = subst IsPort same was.eight;
        capacities = ap (λ (r : Port). r.capacities) rings ∙ was.capacities;
        waiting = λ q. subst (λ (r : Port). Every (Waits w store a q) (frames_at r q)) same (was.waiting q);
        sending = sends;
      }

  -- what stands there, by what it has
  lane_has : (s : ℕ) (lane : Lane) (rings : Port) (sending : List FrameRef) → lane.rings ≡ rings → sent_by lane.outgoing.sender ≡ sending
      → of_lane s lane ≡ sum_by (among s) rings.frames + among s sending
  lane_has s lane rings sending has sends = ap (λ (r : Port). sum_by (among s) r.frames + among s (sent_by lane.outgoing.sender)) has ∙ ap (λ fs. sum_by (among s) rings.frames + among s fs) sends

  -- a frame of the script, in a slot that was in
  from_script : (slot : ℕ) (f : FrameNo) (store : Store) → slice_get store slot ≡ Some None → f.0 < length w.script.sends → LEAST_FRAME ≤ (send w f.0).send.size
      → IsFrameOf w (set store slot (Some (FrameOf w f.0))) (in_slot w f slot)
  from_script slot f store free known long = record {
    known = known;
    prio = refl;
    vid = refl;
    size = its_size;
    long = subst (λ n. LEAST_FRAME ≤ n) (sym its_size) long;
    held = set_here store slot None (Some (FrameOf w f.0)) free;
  }
    where
      its_size : length (FrameOf w f.0) ≡ (send w f.0).send.size
      its_size = length-FrameOf w f.0 (omega (arith, long))

  -- ---- one more

  -- a frame in a slot where none stood
  one_more : (s n : ℕ) (f : FrameRef) → n ≤ 1 → (f.slot ≡ s → n ≡ 0) → n + among s (f ∷ []) ≤ 1
  one_more s n f few free = go (f.slot == s) refl
    where
      go : (b : Bool) → (f.slot == s) ≡ b → n + among s (f ∷ []) ≤ 1
      go true e = let here = same_number f.slot s e in omega (arith, among-here s f [] here, free here)
      go false e = omega (arith, among-other s f [] (other_number f.slot s e), few)

  -- inside a bridge
  one_inside : (store : Store) (lanes : List Lane) (entries : List Entry) (e : Entry) → IsKeptInside w store e → uses lanes entries [] e.frame.slot ≡ 0 → StandApart w store lanes entries []
      → StandApart w store lanes (entries ++ e ∷ []) []
  one_inside store lanes entries e right free is = record {
    each_lane = is.each_lane;
    each_inside = every-append (IsKeptInside w store) entries (e ∷ []) is.each_inside (right, tt);
    each_moving = tt;
    once = λ s. omega (arith, frames-append s entries (e ∷ []), one_more s (uses lanes entries [] s) e.frame (is.once s) (λ here. subst (λ k. uses lanes entries [] k ≡ 0) here free));
  }

  -- on its way
  one_moving : (store : Store) (lanes : List Lane) (entries : List Entry) (f : FrameRef) → IsFrameOf w store f → uses lanes entries [] f.slot ≡ 0 → StandApart w store lanes entries []
      → StandApart w store lanes entries (f ∷ [])
  one_moving store lanes entries f right free is = record {
    each_lane = is.each_lane;
    each_inside = is.each_inside;
    each_moving = (right, tt);
    once = λ s. omega (arith, one_more s (uses lanes entries [] s) f (is.once s) (λ here. subst (λ k. uses lanes entries [] k ≡ 0) here free));
  }

  -- octets come into a slot that was in
  into_slot : (store store' : Store) (octets : List ℕ) (slot : ℕ) (lanes : List Lane) (entries : List Entry) → IsStored store octets slot store' → StandApart w store lanes entries []
      → StandApart w store' lanes entries []
  into_slot store store' octets slot lanes entries stored is =
      subst (λ k. StandApart w k lanes entries []) (sym stored.1) (all_stays store slot (Some octets) lanes entries [] (all_elsewhere store slot lanes entries [] stored.0 is) is)

  -- one of those inside, taken out
  taken_out : (P : Entry → Type 0) (before behind : List Entry) (e : Entry) → Every P (before ++ e ∷ behind) → P e × Every P (before ++ behind)
  taken_out P [] behind e all = all
  taken_out P (x ∷ before) behind e (here, more) = let rest = taken_out P before behind e more in (rest.0, (here, rest.1))

  -- a ring in which nothing is
  empty_ring : (P : FrameRef → Type 0) (n p : ℕ) → Every P (slice_index_or (replicate n []) p [])
  empty_ring P zero p = tt
  empty_ring P (suc n) zero = tt
  empty_ring P (suc n) (suc p) = empty_ring P n p

  empty_length : (n p : ℕ) → length (slice_index_or (replicate {A = List FrameRef} n []) p []) ≡ 0
  empty_length zero p = refl
  empty_length (suc n) zero = refl
  empty_length (suc n) (suc p) = empty_length n p

  -- a lane at rest
  idle_keeps : (store : Store) (a : ℕ) (lane : Lane) → IsIdle w.net.timing (arc w a) lane → LaneKeeps w store a lane
  idle_keeps store a lane is =
      let same = sym is.rings in
      record {
        within = λ p. subst (λ (r : Port). length (frames_at r p) ≤ capacity_at r p) same (let none = empty_length 8 p in omega (arith, none));
        eight = subst IsPort same (refl, is.eight);
        capacities = ap (λ (r : Port). r.capacities) is.rings;
        waiting = λ p. subst (λ (r : Port). Every (Waits w store a p) (frames_at r p)) same (empty_ring (Waits w store a p) 8 p);
        sending = subst (Every (IsUnderWay w store a)) (sym is.sending) tt;
      }

  -- which has no frame
  idle_has : (s a : ℕ) (lane : Lane) → IsIdle w.net.timing (arc w a) lane → of_lane s lane ≡ 0
  idle_has s a lane is = omega (arith, lane_has s lane _ [] is.rings is.sending, sum_by-replicate (among s) 8 [])

  -- ---- from one to the next

  abbrev ApartOn : (a : ℕ) → (store store' : Store) → (old new : Lane) → (more : List Entry) → Type 0
  ApartOn a store store' old new more =
      (lanes : List Lane) (entries : List Entry) → slice_get lanes a ≡ Some old → StandApart w store lanes entries [] → StandApart w store' (set lanes a new) (entries ++ more) []

  abbrev ApartCome : (store store' : Store) → (old new : List Lane) → FrameRef → Type 0
  ApartCome store store' old new f = (entries : List Entry) → StandApart w store old entries (f ∷ []) → StandApart w store' new entries []

  -- nothing changes where the frames of rings and sender stay
  apart_lane : (a : ℕ) (store : Store) (old new : Lane) → new.rings ≡ old.rings → sent_by new.outgoing.sender ≡ sent_by old.outgoing.sender → ApartOn a store store old new []
  apart_lane a store old new rings sends =
      λ lanes entries at is.
      let was = is.each_lane a old at in
      let lane = lane_same store a old new rings (subst (Every (IsUnderWay w store a)) (sym sends) was.sending) was in
      no_more store (set lanes a new) entries
      (all_with store lanes a old new entries [] [] at lane tt (λ n. omega (arith, lane_has n new old.rings (sent_by old.outgoing.sender) rings sends)) is)

  -- an mPacket ended a frame, whose slot is in again
  apart_ended : (a : ℕ) (store : Store) (old new : Lane) (f : FrameRef) → new.rings ≡ old.rings → sent_by old.outgoing.sender ≡ f ∷ sent_by new.outgoing.sender
      → ApartOn a store (set store f.slot None) old new []
  apart_ended a store old new f rings sends =
      λ lanes entries at is.
      let was = is.each_lane a old at in
      let sent : Every (IsUnderWay w store a) (f ∷ sent_by new.outgoing.sender) = subst (Every (IsUnderWay w store a)) sends was.sending in
      let lane = lane_same store a old new rings sent.1 was in
      let k = f.slot in
      let counts : (n : ℕ) → of_lane n old ≡ sum_by (among n) old.rings.frames + (among n (f ∷ []) + among n (sent_by new.outgoing.sender))
      = λ n. lane_has n old old.rings (f ∷ sent_by new.outgoing.sender) refl sends ∙ ap (λ m. sum_by (among n) old.rings.frames + m) (among-cons n f (sent_by new.outgoing.sender)) in
      let kept = all_with store lanes a old new entries [] [] at lane tt (λ n. omega (arith, lane_has n new old.rings (sent_by new.outgoing.sender) rings refl, counts n)) is in
      let free : uses (set lanes a new) entries [] k ≡ 0 = omega (
        arith,
        uses_with lanes a old new entries entries [] [] k at,
        is.once k,
        lane_has k new old.rings (sent_by new.outgoing.sender) rings refl,
        counts k,
        among-here k f [] refl,
      ) in
      no_more (set store k None) (set lanes a new) entries (all_stays store k None (set lanes a new) entries [] free kept)

  -- a frame that waited begins
  apart_started : (a least greatest : ℕ) (store : Store) (old new : Lane) (f : FrameRef) → greatest ≤ 7 → LeavesFirst least greatest old.rings new.rings f
      → sent_by new.outgoing.sender ≡ f ∷ sent_by old.outgoing.sender → ApartOn a store store old new []
  apart_started a least greatest store old new f few leaves sends =
      λ lanes entries at is.
      let was = is.each_lane a old at in
      let p = leaves.prio in
      let waited : Every (Waits w store a p) (f ∷ leaves.behind) = subst (Every (Waits w store a p)) leaves.front (was.waiting p) in
      let going : IsUnderWay w store a f = record { frame = waited.0.frame; over = waited.0.over } in
      let lane = lane_ring store a p leaves.behind old new leaves.left (let more = was.within p in omega (arith, more, ap (length {A = FrameRef}) leaves.front)) waited.1
      (subst (Every (IsUnderWay w store a)) (sym sends) (going, was.sending)) was in
      let below : p < length old.rings.frames = omega (arith, leaves.most, few, was.eight.0) in
      no_more store (set lanes a new) entries
      (all_with store lanes a old new entries [] [] at lane tt
      (λ n. omega (
        arith,
        lane_has n new _ (f ∷ sent_by old.outgoing.sender) leaves.left sends,
        among-cons n f (sent_by old.outgoing.sender),
        lane_has n old old.rings (sent_by old.outgoing.sender) refl refl,
        among_with n old.rings.frames p leaves.behind below,
        ap (among n) leaves.front,
        among-cons n f leaves.behind,
      ))
      is)

  -- a frame arrived and goes on: it is inside the bridge, in a slot that was in
  apart_arrived : (a : ℕ) (store store' : Store) (old new : Lane) (f : FrameNo) (slot : ℕ) (e : Entry) → new.rings ≡ old.rings → sent_by new.outgoing.sender ≡ sent_by old.outgoing.sender
      → f.0 < length w.script.sends → LEAST_FRAME ≤ (send w f.0).send.size → IsStored store (FrameOf w f.0) slot store' → e.frame ≡ in_slot w f slot → LeadsTo w.net e.arc Bridge
      → GoesOver w f e.next.0
      → ApartOn a store store' old new (e ∷ [])
  apart_arrived a store store' old new f slot e rings sends known long stored its from onto =
      λ lanes entries at is.
      let was = is.each_lane a old at in
      let lane = lane_same store a old new rings (subst (Every (IsUnderWay w store a)) (sym sends) was.sending) was in
      let off = all_with store lanes a old new entries [] [] at lane tt (λ n. omega (arith, lane_has n new old.rings (sent_by old.outgoing.sender) rings sends)) is in
      let kept = into_slot store store' (FrameOf w f.0) slot (set lanes a new) entries stored off in
      let right : IsKeptInside w store' e = record {
        frame = subst (λ k. IsFrameOf w k e.frame) (sym stored.1) (subst (IsFrameOf w (set store slot (Some (FrameOf w f.0)))) (sym its) (from_script slot f store stored.0 known long));
        from = from;
        onto = subst (λ (g : FrameRef). GoesOver w g.frame e.next.0) (sym its) onto;
      } in
      let free : uses (set lanes a new) entries [] e.frame.slot ≡ 0 = subst (λ (g : FrameRef). uses (set lanes a new) entries [] g.slot ≡ 0) (sym its)
      (all_elsewhere store slot (set lanes a new) entries [] stored.0 off) in
      one_inside store' (set lanes a new) entries e right free kept

  -- a frame enters its ring
  apart_entered : (a : ℕ) (f : FrameRef) (store : Store) (lanes : List Lane) (old new : Lane) → slice_get lanes a ≡ Some old → GoesOver w f.frame a → f.prio < 8
      → length (frames_at old.rings f.prio) < capacity_at old.rings f.prio → new.rings ≡ with_frames old.rings f.prio (frames_at old.rings f.prio ++ f ∷ [])
      → new.outgoing ≡ old.outgoing → ApartCome store store lanes (set lanes a new) f
  apart_entered a f store lanes old new here over below room rings sending =
      λ entries is.
      let was = is.each_lane a old here in
      let p = f.prio in
      let sends : sent_by new.outgoing.sender ≡ sent_by old.outgoing.sender = ap (λ (o : Outgoing). sent_by o.sender) sending in
      let waits : Waits w store a p f = record { frame = is.each_moving.0; over = over; ring = refl } in
      let all : Every (Waits w store a p) (frames_at old.rings p ++ f ∷ []) = every-append (Waits w store a p) (frames_at old.rings p) (f ∷ []) (was.waiting p) (waits, tt) in
      let lane = lane_ring store a p (frames_at old.rings p ++ f ∷ []) old new rings (omega (arith, room, length-append (frames_at old.rings p) (f ∷ []))) all
      (subst (Every (IsUnderWay w store a)) (sym sends) was.sending) was in
      let within : p < length old.rings.frames = omega (arith, below, was.eight.0) in
      all_with store lanes a old new entries (f ∷ []) [] here lane tt
      (λ n. omega (
        arith,
        lane_has n new _ (sent_by old.outgoing.sender) rings sends,
        among_with n old.rings.frames p (frames_at old.rings p ++ f ∷ []) within,
        among-append n (frames_at old.rings p) (f ∷ []),
      ))
      is

  -- a frame is dropped, and its slot is in again
  apart_dropped : (a : ℕ) (f : FrameRef) (store : Store) (lanes : List Lane) (old new : Lane) → slice_get lanes a ≡ Some old → new.rings ≡ old.rings → new.outgoing ≡ old.outgoing
      → ApartCome store (set store f.slot None) lanes (set lanes a new) f
  apart_dropped a f store lanes old new here rings sending =
      λ entries is.
      let was = is.each_lane a old here in
      let k = f.slot in
      let sends : sent_by new.outgoing.sender ≡ sent_by old.outgoing.sender = ap (λ (o : Outgoing). sent_by o.sender) sending in
      let lane = lane_same store a old new rings (subst (Every (IsUnderWay w store a)) (sym sends) was.sending) was in
      let kept = all_with store lanes a old new entries (f ∷ []) [] here lane tt (λ n. omega (arith, lane_has n new old.rings (sent_by old.outgoing.sender) rings sends)) is in
      let free : uses (set lanes a new) entries [] k ≡ 0 = omega (
        arith,
        uses_with lanes a old new entries entries (f ∷ []) [] k here,
        is.once k,
        lane_has k new old.rings (sent_by old.outgoing.sender) rings sends,
        among-here k f [] refl,
      ) in
      all_stays store k None (set lanes a new) entries [] free kept

  -- a frame is sent: it is on its way to its ring
  apart_sent : (f : FrameRef) (octets : List ℕ) (store store' : Store) (lanes : List Lane) (entries : List Entry) → IsFrameOf w store' f → IsStored store octets f.slot store'
      → StandApart w store lanes entries [] → StandApart w store' lanes entries (f ∷ [])
  apart_sent f octets store store' lanes entries right is keeps =
      one_moving store' lanes entries f right (all_elsewhere store f.slot lanes entries [] is.0 keeps) (into_slot store store' octets f.slot lanes entries is keeps)

  -- a frame leaves a bridge: it is on its way to its ring
  apart_taken : (store : Store) (lanes : List Lane) (before behind : List Entry) (e : Entry) → StandApart w store lanes (before ++ e ∷ behind) []
      → StandApart w store lanes (before ++ behind) (e.frame ∷ []) × GoesOver w e.frame.frame e.next.0
  apart_taken store lanes before behind e keeps =
      let all = taken_out (IsKeptInside w store) before behind e keeps.each_inside in (
        record {
          each_lane = keeps.each_lane;
          each_inside = all.1;
          each_moving = (all.0.frame, tt);
          once = λ s. omega (arith, keeps.once s, frames-append s before (e ∷ behind), frames-append s before behind, among-cons s e.frame (frames_of behind));
        },
        all.0.onto,
      )

  -- at first there is none
  apart_none : (store : Store) (lanes : List Lane) → AreIdle w.net lanes → StandApart w store lanes [] []
  apart_none store lanes idle = record {
    each_lane = λ a lane at. idle_keeps store a lane (idle.each a lane at);
    each_inside = tt;
    each_moving = tt;
    once = λ s. omega (arith, sum-none (of_lane s) lanes (λ a lane at. idle_has s a lane (idle.each a lane at)));
  }

  -- ---- and as many slots are out as there are frames

  -- nothing changes where the frames of rings and sender stay
  pub keep_lane : (a : ℕ) (store : Store) (old new : Lane) → new.rings ≡ old.rings → sent_by new.outgoing.sender ≡ sent_by old.outgoing.sender → KeepsOn w a store store old new []
  keep_lane a store old new rings sends =
      λ lanes entries at is. record {
        apart = apart_lane a store old new rings sends lanes entries at is.apart;
        counted = counted_lane a store old new rings sends lanes entries at is.counted;
        all = is.all;
      }

  pub keep_same : (a : ℕ) (store : Store) (lane : Lane) → KeepsOn w a store store lane lane []
  keep_same a store lane = keep_lane a store lane lane refl refl

  -- an mPacket ended a frame, whose slot is in again
  pub keep_ended : (a : ℕ) (store : Store) (old new : Lane) (f : FrameRef) → new.rings ≡ old.rings → sent_by old.outgoing.sender ≡ f ∷ sent_by new.outgoing.sender
      → KeepsOn w a store (set store f.slot None) old new []
  keep_ended a store old new f rings sends =
      λ lanes entries at is.
      let sent : Every (IsUnderWay w store a) (f ∷ sent_by new.outgoing.sender) = subst (Every (IsUnderWay w store a)) sends (is.apart.each_lane a old at).sending in
      record {
        apart = apart_ended a store old new f rings sends lanes entries at is.apart;
        counted = counted_ended a store old new f _ rings sends sent.0.frame.held lanes entries at is.counted;
        all = length-set store f.slot None ∙ is.all;
      }

  -- a frame that waited begins
  pub keep_started : (a least greatest : ℕ) (store : Store) (old new : Lane) (f : FrameRef) → greatest ≤ 7 → LeavesFirst least greatest old.rings new.rings f
      → sent_by new.outgoing.sender ≡ f ∷ sent_by old.outgoing.sender → KeepsOn w a store store old new []
  keep_started a least greatest store old new f few leaves sends =
      λ lanes entries at is. record {
        apart = apart_started a least greatest store old new f few leaves sends lanes entries at is.apart;
        counted = counted_started a least greatest store old new f (is.apart.each_lane a old at).eight few leaves sends lanes entries at is.counted;
        all = is.all;
      }

  -- a frame arrived and goes on: it is inside the bridge, in a slot that was in
  pub keep_arrived : (a : ℕ) (store store' : Store) (old new : Lane) (f : FrameNo) (slot : ℕ) (e : Entry) → new.rings ≡ old.rings → sent_by new.outgoing.sender ≡ sent_by old.outgoing.sender
      → f.0 < length w.script.sends → LEAST_FRAME ≤ (send w f.0).send.size → IsStored store (FrameOf w f.0) slot store' → e.frame ≡ in_slot w f slot → LeadsTo w.net e.arc Bridge
      → GoesOver w f e.next.0 → KeepsOn w a store store' old new (e ∷ [])
  keep_arrived a store store' old new f slot e rings sends known long stored its from onto =
      λ lanes entries at is. record {
        apart = apart_arrived a store store' old new f slot e rings sends known long stored its from onto lanes entries at is.apart;
        counted = counted_arrived a store store' old new slot (FrameOf w f.0) e rings sends stored lanes entries at is.counted;
        all = ap length stored.1 ∙ (length-set store slot (Some (FrameOf w f.0)) ∙ is.all);
      }

  -- a frame enters its ring
  pub keep_entered : (a : ℕ) (f : FrameRef) (store : Store) (lanes : List Lane) (old new : Lane) → slice_get lanes a ≡ Some old → GoesOver w f.frame a → f.prio < 8
      → length (frames_at old.rings f.prio) < capacity_at old.rings f.prio → new.rings ≡ with_frames old.rings f.prio (frames_at old.rings f.prio ++ f ∷ [])
      → new.outgoing ≡ old.outgoing → KeepsCome w store store lanes (set lanes a new) f
  keep_entered a f store lanes old new here over below room rings sending =
      λ entries is. record {
        apart = apart_entered a f store lanes old new here over below room rings sending entries is.apart;
        counted = counted_entered a f store lanes entries old new here (is.apart.each_lane a old here).eight below rings sending is.counted;
        all = is.all;
      }

  -- a frame is dropped, and its slot is in again
  pub keep_dropped : (a : ℕ) (f : FrameRef) (store : Store) (lanes : List Lane) (old new : Lane) → slice_get lanes a ≡ Some old → new.rings ≡ old.rings → new.outgoing ≡ old.outgoing
      → KeepsCome w store (set store f.slot None) lanes (set lanes a new) f
  keep_dropped a f store lanes old new here rings sending =
      λ entries is. record {
        apart = apart_dropped a f store lanes old new here rings sending entries is.apart;
        counted = counted_dropped a f store lanes entries old new _ here rings sending is.apart.each_moving.0.held is.counted;
        all = length-set store f.slot None ∙ is.all;
      }

  -- a frame is sent: it is on its way to its ring
  pub keep_sent : (f : FrameRef) (octets : List ℕ) (store store' : Store) (lanes : List Lane) (entries : List Entry) → IsFrameOf w store' f → IsStored store octets f.slot store'
      → Keeps w store lanes entries [] → Keeps w store' lanes entries (f ∷ [])
  keep_sent f octets store store' lanes entries right is keeps = record {
    apart = apart_sent f octets store store' lanes entries right is keeps.apart;
    counted = counted_sent f octets store store' lanes entries is keeps.counted;
    all = ap length is.1 ∙ (length-set store f.slot (Some octets) ∙ keeps.all);
  }

  -- a frame leaves a bridge: it is on its way to its ring
  pub keep_taken : (store : Store) (lanes : List Lane) (before behind : List Entry) (e : Entry) → Keeps w store lanes (before ++ e ∷ behind) []
      → Keeps w store lanes (before ++ behind) (e.frame ∷ []) × GoesOver w e.frame.frame e.next.0
  keep_taken store lanes before behind e keeps =
      let out = apart_taken store lanes before behind e keeps.apart in
      (record { apart = out.0; counted = counted_taken store lanes before behind e keeps.counted; all = keeps.all }, out.1)

  -- at first there is none
  pub keep_none : (store : Store) (lanes : List Lane) → AreIdle w.net lanes → IsCounted store lanes [] [] → length store ≡ slots w.net → Keeps w store lanes [] []
  keep_none store lanes idle counted all = record { apart = apart_none store lanes idle; counted = counted; all = all }
