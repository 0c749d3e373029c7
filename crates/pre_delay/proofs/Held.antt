-- What isn't the port's holds an arc for at most the block of a good certificate.
use Rattle.std.proofs.Common.{ℕ, suc, ◌==◌, Bool, true, false, min, not, ◌≡◌, ◌≢◌, ◌⊎◌, ◌+◌, ◌-◌, ◌*◌, ◌%◌}
use Rattle.std.proofs.Common.{◌<◌, ◌≤◌, max, List, ◌∷◌, length, refl, sym, ◌∙◌, ap, inl, inr, arith, subst, Some, length-append}
use Rattle.std.proofs.Common.{replicate}
use Rattle.std.specs.Prelude.{slice_get, nat_lt, nat_le, ◌&&◌, if◌then◌else◌}
use Rattle.std.specs.Option.{option_map_or}
use Rattle.std.proofs.Math.Nat.{mul-le-mul_left, max-le, le-min}
use Rattle.std.proofs.lemmas.Bool.{cases_lt, and_from, le-leb, lt-ltb}
use Rattle.std.proofs.lemmas.Bool.Decides.{nat_tests}
use Rattle.std.proofs.lemmas.List.{length-replicate}
use Rattle.std.proofs.lemmas.List.Folds.{list_any_at}
use Rattle.std.proofs.lemmas.Option.{slice_get-get_or}
use Rattle.pre_crc.specs.Checks.{Mcrc}
use Rattle.pre_crc.proofs.CheckFacts.{length-Mcrc}
use Rattle.pre_lldp.proofs.ReadBack.{sent-length}
use Rattle.pre_topo.specs.declared.arcs.Arc.{Arc}
use Rattle.pre_base.specs.declared.numbers.FrameNo.{FrameNo}
use Rattle.pre_topo.specs.declared.arcs.Mode.{Mode}
use Rattle.pre_topo.specs.declared.arcs.Mode.TheVariants as mode
use Rattle.pre_topo.specs.declared.arcs.Policy.{Policy}
use Rattle.pre_topo.specs.declared.arcs.Policy.TheVariants as policy
use Rattle.pre_mpacket.specs.declared.packets.Kind.{Kind}
use Rattle.pre_mpacket.specs.declared.packets.Kind.TheVariants as kind
use Rattle.pre_mpacket.specs.Pieces.{CutRule}
use Rattle.pre_history.specs.declared.events.What.TheVariants as what
use Rattle.pre_history.specs.Scenario.{Scenario, FrameOf, arc, row, no_arc}
use Rattle.pre_history.specs.History.{Begin, History}
use Rattle.pre_history.specs.Placed.{number}
use Rattle.pre_history.specs.Selected.{RingEntry, frame_number}
use Rattle.pre_history.specs.Queries.{Begins, Entries, Waiting}
use Rattle.pre_history.specs.Octets.{WholeOf, whole_of, BareOctets, AdvertAt}
use Rattle.pre_history.specs.LinkState.{Active, ActiveIn}
use Rattle.pre_history.specs.Starts.{Item, Choice, SizeOf, There, ExpressWaits, begun, starts_before}
use Rattle.pre_history.specs.Legal.{LegalUpTo}
use Rattle.pre_history.proofs.Lists.{every_at, read_at, within}
use Rattle.pre_history.proofs.Placing.{begins_arc}
use Rattle.pre_history.proofs.Steady.{costs}
use Rattle.pre_bound.specs.Uses.{cost_at, preemptable_at, preemptable_octets, cuts, has_flow, is_on, is_stream, largest_at, takes}
use Rattle.pre_bound.specs.Values.{Values}
use Rattle.pre_bound.specs.Clauses.{Block, Largest}
use Rattle.pre_bound.proofs.Hops.{contains_at}
use Rattle.pre_laws.proofs.Begun.{by_item, choice_of}
use Rattle.pre_delay.specs.Ports.{stream_of}
use Rattle.pre_delay.proofs.Port.{IsKnown}
use Rattle.pre_delay.proofs.Arcs.{Mine, WaitsAt, MineWaits}
use Rattle.pre_delay.proofs.Blockers.{fragment_blocks, fragment_within}
use Rattle.pre_delay.proofs.Rings.{front_of_ring, ring_waits}
use Rattle.pre_delay.proofs.Sent.{front_prio, rest_prio}
use Rattle.pre_delay.proofs.Seen.{traffic, as_sent, size_of, sized, rank_of, wire-is, entry-waits, from-queue, from-above, ranked_mine}

module _ (w : Scenario) (n : ℕ) (h : History) (a p done : ℕ) (lt : a < length w.net.arcs) (legal : LegalUpTo w n h) (high : (arc w a).express_from ≤ p) (top : p < 8)
    (from_reach : (x : ℕ) → x < done → number (length w.net.arcs) x (2 + 3 * length w.net.arcs + a) < n) (to_reach : (x : ℕ) → number (length w.net.arcs) x (2 + 3 * length w.net.arcs + a) < n → x < done)
    (few : length w.net.arcs ≤ 65536) (known : (q j : ℕ) (r : RingEntry) → slice_get (Entries h a q) j ≡ Some r → r.entered ≡ true → IsKnown w a r.frame)
    (carried : (i : ℕ) (b : Begin) (f : FrameNo) → slice_get (Begins h a) i ≡ Some b → b.what ≡ what.Frame f → IsKnown w a f.0)
    (v : Values) (clause : Block w.net w.streams.rows v a p) (largest : Largest w.net w.streams.rows v a) where
  abbrev block : ℕ
  block = v.block a p

  abbrev cost : ℕ
  cost = (arc w a).cost

  here : slice_get w.net.arcs a ≡ Some (arc w a)
  here = slice_get-get_or w.net.arcs a no_arc lt

  cost-is : cost_at w.net a ≡ cost
  cost-is = ap (λ o. option_map_or (λ (x : Arc). x.cost) o 0) here

  -- what the certificate counts with of preemptable frames
  abbrev most : ℕ
  most = v.largest a

  octets-are : preemptable_at w.net a most ≡ preemptable_octets (arc w a) most
  octets-are = ap (λ o. option_map_or (λ x. preemptable_octets x most) o 0) here

  least : cost * 84 ≤ block
  least = subst (λ c. c * 84 ≤ block) cost-is clause.frame

  preemptable : cost * preemptable_octets (arc w a) most ≤ block
  preemptable = subst (λ c. c * preemptable_octets (arc w a) most ≤ block) cost-is (subst (λ o. cost_at w.net a * o ≤ block) octets-are clause.preemptable)

  -- a flow's frame on the arc is within what is counted with
  low-most : (f : ℕ) → IsKnown w a f → (row w f).prio < (arc w a).express_from → length (FrameOf w f) ≤ most
  low-most f k low =
      let flow = k.flow low in
      let has : has_flow w.streams.rows a ≡ true = list_any_at (λ r. not (is_stream r) && takes a r) w.streams.rows (stream_of w f) (row w f) (within w.streams.rows (stream_of w f) (row w f) k.listed)
      (ap (λ r. not (is_stream r) && takes a r) (read_at w.streams.rows (stream_of w f) (row w f) k.listed) ∙ and_from (not (is_stream (row w f))) (takes a (row w f)) (ap not flow.0) k.takes) in
      let covered : largest_at w.net a ≤ most = largest has in
      let arc-is : largest_at w.net a ≡ (arc w a).largest = ap (λ o. option_map_or (λ (x : Arc). x.largest) o 0) here in
      omega (arith, covered, arc-is, flow.1, k.size)

  is-counted : (z : ℕ) → 0 < z → (z == 0) ≡ false
  is-counted z some = grind (arith, nat_tests, some)

  -- where the arc may send a preemptable frame whole, the block is as long as the greatest one
  whole-octets : (m : Mode) (o : Policy) (g z : ℕ) → ((m ≡ mode.Off) ⊎ (o ≡ policy.Pass)) → m ≢ mode.On → 0 < z → (if z == 0 then 0 else if cuts m o then min (z + 20) g else z + 20) ≡ z + 20
  whole-octets m o g z one not-on some = ap (λ b. if b then 0 else if cuts m o then min (z + 20) g else z + 20) (is-counted z some) ∙ ap (λ b. if b then min (z + 20) g else z + 20) (may-be-whole m o one not-on)
    where
      may-be-whole : (m : Mode) (o : Policy) → ((m ≡ mode.Off) ⊎ (o ≡ policy.Pass)) → m ≢ mode.On → cuts m o ≡ false
      may-be-whole mode.Off o one not-on = refl
      may-be-whole mode.On o one not-on = absurd (not-on refl)
      may-be-whole mode.Negotiate policy.Pass one not-on = refl
      may-be-whole mode.Negotiate policy.Quiet (inl e) not-on = absurd (cc e)
      may-be-whole mode.Negotiate policy.Quiet (inr e) not-on = absurd (cc e)

  -- else it is as long as that, or as a fragment that can't be cut
  lesser-octets : (c : Bool) (g z : ℕ) → 0 < z → (z + 20 ≤ (if z == 0 then 0 else if c then min (z + 20) g else z + 20)) ⊎ (g ≤ (if z == 0 then 0 else if c then min (z + 20) g else z + 20))
  lesser-octets c g z some =
      subst (λ b. (z + 20 ≤ (if b then 0 else if c then min (z + 20) g else z + 20)) ⊎ (g ≤ (if b then 0 else if c then min (z + 20) g else z + 20))) (sym (is-counted z some)) (lesser c)
    where
      lesser : (c : Bool) → (z + 20 ≤ (if c then min (z + 20) g else z + 20)) ⊎ (g ≤ (if c then min (z + 20) g else z + 20))
      lesser false = inl (omega arith)
      lesser true = elim (cases_lt g (z + 20)) [
        | inl less ↦ inr (le-min (omega (arith, less)) (omega arith))
        | inr more ↦ inl (le-min (omega arith) more)
      ]

  -- a time of so many octets from before u on
  within-block : (t u octets most : ℕ) → t < u → octets ≤ most → cost * most ≤ block → t + cost * octets ≤ u + block
  within-block t u octets most early le fits = let product = mul-le-mul_left cost le in omega (arith, product)

  express-waits : (x : ℕ) → MineWaits (traffic w h a p) x → ExpressWaits w h a x
  express-waits x (inl own) =
      let o = from-queue w h a p (WaitsAt (traffic w h a p) x) own in
      (p, high, top, ring_waits h a p x o.0 o.1 o.2 (entry-waits w n h a p done lt legal high top from_reach to_reach p o.0 x o.1 (omega arith) o.2 o.3 o.4.0 o.4.1))
  express-waits x (inr higher) =
      let k = from-above w h a p (WaitsAt (traffic w h a p) x) (7 - p) higher in
      let o = from-queue w h a (p + 1 + k.0) (WaitsAt (traffic w h a p) x) k.2 in
      (p + 1 + k.0, omega arith, omega (arith, k.1), ring_waits h a (p + 1 + k.0) x o.0 o.1 o.2 (entry-waits w n h a p done lt legal high top from_reach to_reach (p + 1 + k.0) o.0 x o.1 (omega arith) o.2 o.3 o.4.0 o.4.1))

  -- a fragment is within its frame
  cut-least : (b : Begin) (size : ℕ) → CutRule (ExpressWaits w h b.arc) (begun w h b) size → size ≤ length (FrameOf w (frame_number b.what))
  cut-least b size rule = let short = fragment_within (ExpressWaits w h b.arc) (begun w h b) size rule in omega (arith, short)

  -- it ends within the greatest time of a fragment that can't be cut
  cut-soon : (b : Begin) (u : ℕ) → b.arc ≡ a → b.tick < u → CutRule (ExpressWaits w h b.arc) (begun w h b) (size_of w h b)
      → ((x : ℕ) → u ≤ x → x < b.tick + cost * (size_of w h b + 20) → MineWaits (traffic w h a p) x)
      → b.tick + cost * (size_of w h b + 20) ≤ u + max (84 * cost) (cost * (64 * (1 + (arc w a).add_frag) + 79))
  cut-soon b u on early rule waits =
      let same : (arc w b.arc).cost ≡ cost = ap (λ k. (arc w k).cost) on in
      let frag : (arc w b.arc).add_frag ≡ (arc w a).add_frag = ap (λ k. (arc w k).add_frag) on in
      let size = size_of w h b in
      let held = fragment_blocks (ExpressWaits w h b.arc) (begun w h b) u size (subst (λ c. 0 < c) (sym same) (costs w a lt)) early rule
      (λ x le less. subst (λ k. ExpressWaits w h k x) (sym on) (express-waits x (waits x le (subst (λ c. x < b.tick + c * (size + 20)) same less)))) in
      subst (λ c. b.tick + c * (size + 20) ≤ u + max (84 * c) (c * (64 * (1 + (arc w a).add_frag) + 79))) same
      (subst (λ g. b.tick + (arc w b.arc).cost * (size + 20) ≤ u + max (84 * (arc w b.arc).cost) ((arc w b.arc).cost * (64 * (1 + g) + 79))) frag held)

  cut-within : (b : Begin) (u f : ℕ) → frame_number b.what ≡ f → IsKnown w a f → (row w f).prio < (arc w a).express_from → b.arc ≡ a → b.tick < u → CutRule (ExpressWaits w h b.arc) (begun w h b) (size_of w h b)
      → ((x : ℕ) → u ≤ x → x < b.tick + cost * (size_of w h b + 20) → MineWaits (traffic w h a p) x) → b.tick + cost * (size_of w h b + 20) ≤ u + block
  cut-within b u f is k low on early rule waits =
      let size = cut-least b (size_of w h b) rule in
      let long : length (FrameOf w (frame_number b.what)) ≡ length (FrameOf w f) = ap (λ g. length (FrameOf w g)) is in
      let within-most = low-most f k low in
      let octets = preemptable_octets (arc w a) most in
      elim (lesser-octets (cuts (arc w a).mode (arc w a).policy) (64 * (1 + (arc w a).add_frag) + 79) most (omega (arith, within-most, k.least))) [
        | inl whole ↦ within-block b.tick u (size_of w h b + 20) octets early (omega (arith, size, long, within-most, whole)) preemptable
        | inr fragment ↦
            let moved = cut-soon b u on early rule waits in
            let product = mul-le-mul_left cost fragment in
            let all : max (84 * cost) (cost * (64 * (1 + (arc w a).add_frag) + 79)) ≤ block = max-le (omega (arith, least)) (omega (arith, product, preemptable)) in
            omega (arith, moved, all)
      ]

  bare : length BareOctets ≡ 64
  bare = length-append (replicate 60 0) (Mcrc (replicate 60 0)) ∙ let one = length-replicate {A = ℕ} 60 0 in let two = length-Mcrc (replicate 60 0) in omega (arith, one, two)

  pub held : (u i : ℕ) (b : Begin) → slice_get (Begins h a) i ≡ Some b → ¬ Mine (traffic w h a p) (as_sent w h b) → b.tick < u
      → ((x : ℕ) → u ≤ x → x < b.tick + cost * (size_of w h b + 20) → MineWaits (traffic w h a p) x) → b.tick + cost * (size_of w h b + 20) ≤ u + block
  unfolding Active
  held u i b at other early waits = of (by_item w n h legal a lt i b at)
    where
      on : b.arc ≡ a
      on = every_at (λ (x : Begin). x.arc ≡ a) (Begins h a) i b (begins_arc h a) at

      is-size : (k : Kind) → b.kind ≡ k → SizeOf w h k b (size_of w h b)
      is-size k e = subst (λ j. SizeOf w h j b (size_of w h b)) e (sized w h b b.kind).1

      entry : (q f : ℕ) (behind : List ℕ) → Waiting h a q b.tick ≡ f ∷ behind → IsKnown w a f × (q ≡ (row w f).prio)
      entry q f behind is =
          let fe = front_of_ring w n h a q b.tick f behind legal is in
          (subst (IsKnown w a) fe.is (known q fe.place fe.entry fe.at fe.waits.entered), front_prio w n h a q b.tick f behind legal is)

      of : (j : Item) × There w h a b.tick j (choice_of b) → b.tick + cost * (size_of w h b + 20) ≤ u + block
      of (Item.express, (f, (q, le, below, (behind, is), above'), made)) =
          let e = entry q f behind is in
          let carries : b.what ≡ what.Frame (record { 0 = f }) = ap (λ (y : Choice). y.what) made in
          let size = wire-is w n h a p done lt legal high top from_reach to_reach b (record { 0 = f }) carries (ap (λ (y : Choice). y.kind) made) in
          let rank : rank_of w b.what ≡ suc ((row w f).prio) = ap (rank_of w) carries in
          elim (cases_lt q p) [
            | inl lower ↦
                let row-on : is_on a 0 p (row w f) ≡ true = and_from (is_stream (row w f)) (nat_le 0 (row w f).prio && (nat_lt (row w f).prio p && takes a (row w f))) (e.0.stream (omega (arith, e.1)))
                (and_from (nat_le 0 (row w f).prio) (nat_lt (row w f).prio p && takes a (row w f)) (le-leb 0 (row w f).prio (omega arith)) (and_from (nat_lt (row w f).prio p) (takes a (row w f)) (lt-ltb (row w f).prio p (omega (arith, e.1))) e.0.takes)) in
                let fits : cost * ((row w f).max + 20) ≤ block = subst (λ c. c * ((row w f).max + 20) ≤ block) cost-is (clause.lower (row w f) (contains_at w.streams.rows (stream_of w f) (row w f) e.0.listed) row-on) in
                within-block b.tick u (size_of w h b + 20) ((row w f).max + 20) early (omega (arith, size, e.0.size)) fits
            | inr mine ↦ absurd (other (ranked_mine w h a p b (rank_of w b.what) refl (omega (arith, rank, e.1))))
          ]
      of (Item.respond, (negotiates, owed, made)) =
          let size : size_of w h b ≡ length (WholeOf w h b) = is-size kind.Respond (ap (λ (y : Choice). y.kind) made) in
          let whole : length (WholeOf w h b) ≡ length BareOctets = ap (λ y. length (whole_of w h b y)) (ap (λ (y : Choice). y.what) made) in
          within-block b.tick u (size_of w h b + 20) 84 early (omega (arith, size, whole, bare)) least
      of (Item.verify, (negotiates, owed, made)) =
          let size : size_of w h b ≡ length (WholeOf w h b) = is-size kind.Verify (ap (λ (y : Choice). y.kind) made) in
          let whole : length (WholeOf w h b) ≡ length BareOctets = ap (λ y. length (whole_of w h b y)) (ap (λ (y : Choice). y.what) made) in
          within-block b.tick u (size_of w h b + 20) 84 early (omega (arith, size, whole, bare)) least
      of (Item.lldp, (negotiates, owed, made)) =
          let size : size_of w h b ≡ length (WholeOf w h b) = is-size kind.Express (ap (λ (y : Choice). y.kind) made) in
          let whole : length (WholeOf w h b) ≡ length (whole_of w h b what.Lldp) = ap (λ y. length (whole_of w h b y)) (ap (λ (y : Choice). y.what) made) in
          let lldp : length (whole_of w h b what.Lldp) ≡ 64 = sent-length (arc w b.arc).from.0 b.arc (AdvertAt w h b.arc b.tick) (omega (arith, on)) in
          within-block b.tick u (size_of w h b + 20) 84 early (omega (arith, size, whole, lldp)) least
      of (Item.rest, (r, left, made)) =
          let carries : b.what ≡ what.Frame (record { 0 = r.frame }) = ap (λ (y : Choice). y.what) made in
          cut-within b u r.frame (ap frame_number carries) (carried i b (record { 0 = r.frame }) at carries) (rest_prio w n h a b.tick r lt legal left) on early
          (is-size (kind.Continue r.frame_count r.fragment_count) (ap (λ (y : Choice). y.kind) made)) waits
      of (Item.preemptable, (f, j, (q, le, below, (behind, is), above'), inl (active, started), made)) =
          let e = entry q f behind is in
          cut-within b u f (ap frame_number (ap (λ (y : Choice). y.what) made)) e.0 (omega (arith, e.1, below)) on early
          (is-size (kind.Start (starts_before w h a b.tick % 4)) (ap (λ (y : Choice). y.kind) made ∙ started)) waits
      of (Item.preemptable, (f, j, (q, le, below, (behind, is), above'), inr (passive, may, whole), made)) =
          let e = entry q f behind is in
          let carries : b.what ≡ what.Frame (record { 0 = f }) = ap (λ (y : Choice). y.what) made in
          let size = wire-is w n h a p done lt legal high top from_reach to_reach b (record { 0 = f }) carries (ap (λ (y : Choice). y.kind) made ∙ whole) in
          let not-on : (arc w a).mode ≢ mode.On = λ on'. passive (subst (λ m. ActiveIn w h a m b.tick) (sym on') tt) in
          let within-most = low-most f e.0 (omega (arith, e.1, below)) in
          let greatest = whole-octets (arc w a).mode (arc w a).policy (64 * (1 + (arc w a).add_frag) + 79) most may not-on (omega (arith, within-most, e.0.least)) in
          within-block b.tick u (size_of w h b + 20) (preemptable_octets (arc w a) most) early (omega (arith, size, within-most, greatest)) preemptable
