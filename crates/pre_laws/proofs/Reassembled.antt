-- A frame that went in fragments gives itself where its last one arrives, if none of them is lost or damaged, nor what began between them.
use Rattle.std.proofs.Common.{ℕ, zero, suc, ◌≡◌, ◌==◌, ◌+◌, ◌-◌, ◌%◌, ◌<◌, ◌≤◌, Bool, true, false, List, []}
use Rattle.std.proofs.Common.{◌∷◌, ◌++◌, length, take, drop, refl, sym, ◌∙◌, ap, inl, inr, arith, subst, length-append, Option}
use Rattle.std.proofs.Common.{Some, map, None}
use Rattle.std.specs.Prelude.{if◌then◌else◌, slice_get, unwrap_or, option_map, option_and_then, replicate}
use Rattle.std.proofs.lemmas.List.{append-nil, map-append, length-take-le, length-drop}
use Rattle.pre_base.specs.declared.numbers.FrameNo.{FrameNo}
use Rattle.pre_crc.specs.Checks.{Fcs, Mcrc}
use Rattle.pre_crc.proofs.CheckFacts.{length-Fcs, length-Mcrc}
use Rattle.pre_frame.specs.Layout.{address_of}
use Rattle.pre_lldp.specs.LldpLayout.{lldp_frame, padded, nearest_bridge, lldp_type, lldpdu_of}
use Rattle.pre_mpacket.specs.declared.packets.Kind.{Kind}
use Rattle.pre_mpacket.specs.declared.packets.Kind.TheVariants as kind
use Rattle.pre_mpacket.specs.Arrivals.{Given, Gives, Spelled, Fragments, fragments_of, is_fragment, is_start}
use Rattle.pre_mpacket.specs.Spelling.{PlainPacket, HasCounts, IsWhole, mpacket_of}
use Rattle.pre_mpacket.specs.Pieces.{Carries, CutRule}
use Rattle.pre_mpacket.proofs.Chains.{fragments_split, first_fragment}
use Rattle.pre_mpacket.proofs.Carried.{frame_alone}
use Rattle.pre_lldp.specs.declared.adverts.Advert.{Advert}
use Rattle.pre_history.specs.declared.events.What.{What}
use Rattle.pre_history.specs.declared.events.What.TheVariants as what
use Rattle.pre_history.specs.Scenario.{Scenario, arc, FrameOf}
use Rattle.pre_history.specs.History.{History, Begin, Ended}
use Rattle.pre_history.specs.Selected.{frame_number, frame_count}
use Rattle.pre_history.specs.Queries.{Begins, Ends, packet, end_of, data_to, fragment_data}
use Rattle.pre_history.specs.Octets.{whole_of, WholeOf, AdvertAt, SentOctets, Air, is_lost, Damaged, Sent}
use Rattle.pre_history.specs.Starts.{Item, Choice, There, SizeOf, ExpressWaits, begun}
use Rattle.pre_history.specs.Rules.{last_four}
use Rattle.pre_history.specs.Legal.{LegalUpTo}
use Rattle.pre_history.proofs.Lists.{there, within, one_at}
use Rattle.pre_history.proofs.Undamaged.{user_of, air_at}
use Rattle.pre_history.proofs.InOrder.{steady}
use Rattle.pre_laws.specs.Routed.{IsRouted}
use Rattle.pre_laws.specs.Parts.{RunTo, plain_of, WentInParts, IsKept, AreUndamaged}
use Rattle.pre_history.proofs.Known.{one_spelled}
use Rattle.pre_laws.proofs.Begun.{choice_of, by_item}
use Rattle.pre_laws.proofs.Spared.{as_sent}
use Rattle.pre_laws.proofs.Runs.{run_to, run_other, run_new, run_more, end_is, fragment_size}
use Rattle.pre_laws.proofs.RunSteps.{Joins, fragment_at, frame_long}
use Rattle.pre_laws.proofs.FirstOctets.{same_frame, begins_once}
use Rattle.pre_laws.proofs.Parts.{run_carries}

frame_padded : (node port : ℕ) (says : Advert) → 64 ≤ length (lldp_frame node port says)
unfolding lldp_frame
frame_padded node port says =
    let front = nearest_bridge ++ address_of node ++ lldp_type ++ lldpdu_of node port says in
    let zeros = length-replicate (60 - length front) in
    let pad = length-append front (replicate (60 - length front) 0) in
    let all = length-append (padded front) (Fcs (padded front)) in
    let check = length-Fcs (padded front) in
    omega (arith, zeros, pad, all, check)
  where
    length-replicate : (n : ℕ) → length {A = ℕ} (replicate n 0) ≡ n
    length-replicate zero = refl
    length-replicate (suc n) = ap suc (length-replicate n)

nothing_taken : (l : List (Option (List ℕ))) → fragments_of (take 0 l) ≡ []
nothing_taken [] = refl
nothing_taken (x ∷ l) = refl

module _ (w : Scenario) (routed : IsRouted w) (n : ℕ) (h : History) (legal : LegalUpTo w n h) (a : ℕ) (a_lt : a < length w.net.arcs) where
  whole_long : (m : ℕ) (d : Begin) → slice_get (Begins h a) m ≡ Some d → 64 ≤ length (WholeOf w h d)
  whole_long m d at = go d.what refl
    where
      go : (x : What) → d.what ≡ x → 64 ≤ length (whole_of w h d x)
      go (what.Frame f) is = (frame_long w routed n h legal a a_lt m d f at is).0
      go what.Lldp is = frame_padded (arc w d.arc).from.0 d.arc (AdvertAt w h d.arc d.tick)
      go what.Nothing is = let check = length-Mcrc (replicate 60 0) in let all = length-append (replicate 60 0) (Mcrc (replicate 60 0)) in omega (arith, check, all)

  -- ---- counts

  start_count : (m : ℕ) (d : Begin) (c : ℕ) → slice_get (Begins h a) m ≡ Some d → d.kind ≡ kind.Start c → c < 4
  start_count m d c at is = let it = by_item w n h legal a a_lt m d at in go it.0 it.1
    where
      below_four : (x : ℕ) → frame_count (kind.Start c) ≡ x % 4 → c < 4
      below_four x same = omega (arith, same)

      go : (it : Item) → There w h a d.tick it (choice_of d) → c < 4
      go Item.preemptable (g, k, front, inl (active, k_is), by) = below_four _ (ap frame_count (sym is ∙ (ap (λ (c : Choice). c.kind) by ∙ k_is)))
      go Item.preemptable (g, k, front, inr (inactive, passes, k_is), by) = absurd (cc (sym is ∙ (ap (λ (c : Choice). c.kind) by ∙ k_is)))
      go Item.express (g, front, by) = absurd (cc (sym is ∙ ap (λ (c : Choice). c.kind) by))
      go Item.respond (on, owed, by) = absurd (cc (sym is ∙ ap (λ (c : Choice). c.kind) by))
      go Item.verify (on, wanted, by) = absurd (cc (sym is ∙ ap (λ (c : Choice). c.kind) by))
      go Item.lldp (on, wanted, by) = absurd (cc (sym is ∙ ap (λ (c : Choice). c.kind) by))
      go Item.rest (left, interrupted, by) = absurd (cc (sym is ∙ ap (λ (c : Choice). c.kind) by))

  pub counts : (m : ℕ) (d : Begin) → slice_get (Begins h a) m ≡ Some d → HasCounts d.kind
  counts m d at = go d.kind refl
    where
      continued : (c i : ℕ) → d.kind ≡ kind.Continue c i → Joins w routed n h legal a a_lt m d → (c < 4) × (i < 4)
      continued c i is (inl (start, from)) = absurd (cc (sym start ∙ ap is_start is))
      continued c i is (inr (k, b, r, goes)) =
          let same : kind.Continue c i ≡ kind.Continue r.count (length r.more % 4) = sym is ∙ goes.kind_is in
          let c_is : c ≡ r.count = cc same in
          let i_is : i ≡ length r.more % 4 = cc same in
          let low = start_count r.first_place r.first r.count r.first_begun r.first_kind in
          (omega (arith, c_is, low), omega (arith, i_is))

      go : (k : Kind) → d.kind ≡ k → HasCounts k
      go (kind.Start c) is = start_count m d c at is
      go (kind.Continue c i) is = continued c i is (fragment_at w routed n h legal a a_lt m d at (ap is_fragment is)).1
      go kind.Express is = tt
      go kind.Verify is = tt
      go kind.Respond is = tt

  -- ---- sizes

  pub from_start : (m : ℕ) (d : Begin) → slice_get (Begins h a) m ≡ Some d → is_fragment d.kind ≡ false → d.from ≡ 0
  from_start m d at off = let it = by_item w n h legal a a_lt m d at in go it.0 it.1
    where
      go : (it : Item) → There w h a d.tick it (choice_of d) → d.from ≡ 0
      go Item.preemptable (g, k, front, as', by) = ap (λ (c : Choice). c.from) by
      go Item.express (g, front, by) = ap (λ (c : Choice). c.from) by
      go Item.respond (on, owed, by) = ap (λ (c : Choice). c.from) by
      go Item.verify (on, wanted, by) = ap (λ (c : Choice). c.from) by
      go Item.lldp (on, wanted, by) = ap (λ (c : Choice). c.from) by
      go Item.rest (left, interrupted, by) = absurd (cc (sym off ∙ ap (λ (c : Choice). is_fragment c.kind) by))

  pub whole_size : (k : Kind) (d : Begin) (size : ℕ) → is_fragment k ≡ false → SizeOf w h k d size → size ≡ length (WholeOf w h d)
  whole_size kind.Express d size off is = is
  whole_size kind.Verify d size off is = is
  whole_size kind.Respond d size off is = is
  whole_size (kind.Start c) d size off is = absurd (cc off)
  whole_size (kind.Continue c i) d size off is = absurd (cc off)

  module _ (m : ℕ) (d : Begin) (e : Ended) (at : slice_get (Begins h a) m ≡ Some d) (over : slice_get (Ends h a) m ≡ Some e) where
    pub size_fits : (d.from + e.size ≤ length (WholeOf w h d)) × (64 ≤ e.size)
    size_fits = go (is_fragment d.kind) refl
      where
        sized : SizeOf w h d.kind d e.size
        sized = (steady w n h a a_lt legal).sizes m d e at over

        part : (f : FrameNo) → d.what ≡ what.Frame f → d.from + 64 ≤ length (FrameOf w f.0) → CutRule (ExpressWaits w h d.arc) (begun w h d) e.size → (d.from + e.size ≤ length (WholeOf w h d)) × (64 ≤ e.size)
        part f carries left rule =
            let u : (begun w h d).unsent ≡ length (FrameOf w f.0) - d.from = ap (λ x. length (FrameOf w (frame_number x)) - d.from) carries in
            let whole = ap (λ x. length (whole_of w h d x)) carries in
            elim rule [
              | inl (x, (long, many, waits), least, is) ↦ (omega (arith, u, whole, many, is, left), omega (arith, long, is))
              | inr (none, is) ↦ (omega (arith, u, whole, is, left), omega (arith, u, is, left))
            ]

        go : (x : Bool) → is_fragment d.kind ≡ x → (d.from + e.size ≤ length (WholeOf w h d)) × (64 ≤ e.size)
        go true on = let r = (fragment_at w routed n h legal a a_lt m d at on).0 in part r.frame r.carries r.left (fragment_size w h d.kind d e.size on sized)
        go false off =
            let size = whole_size d.kind d e.size off sized in
            let from = from_start m d at off in
            let long = whole_long m d at in
            (omega (arith, size, from), omega (arith, size, long))

    check_long : length e.check ≡ 4
    check_long = ap length ((steady w n h a a_lt legal).checks m d e at over) ∙ go (d.from + e.size == length (WholeOf w h d))
      where
        go : (x : Bool) → length (if x then last_four (WholeOf w h d) else Mcrc (take (d.from + e.size - 4) (WholeOf w h d))) ≡ 4
        go true = let long = whole_long m d at in let cut = length-drop (length (WholeOf w h d) - 4) (WholeOf w h d) in omega (arith, long, cut)
        go false = length-Mcrc (take (d.from + e.size - 4) (WholeOf w h d))

    -- what is spelled where it arrives
    abbrev pub told : PlainPacket
    told = record { kind = d.kind; mdata = take (e.size - 4) (drop d.from (WholeOf w h d)); check = e.check }

    pub spelled : IsKept w d → Spelled (Air w h a) m ≡ Some told
    spelled kept =
        let fits = size_fits in
        let rest = length-drop d.from (WholeOf w h d) in
        let data_long : length (take (e.size - 4) (drop d.from (WholeOf w h d))) ≡ e.size - 4 = length-take-le (e.size - 4) (drop d.from (WholeOf w h d)) (omega (arith, rest, fits.0, fits.1)) in
        let whole : IsWhole told = record { counts = counts m d at; mdata = omega (arith, data_long, fits.1); check = check_long } in
        let end_at : end_of h a d.ord ≡ Some e = end_is w n h legal a a_lt m d at ∙ over in
        let here : slice_get (Air w h a) m ≡ Some (Some (SentOctets w h d e)) = air_at w h a m d at ∙ ap Some (as_sent w h d e a kept.0 kept.1 end_at) in
        ap (λ o. option_and_then (λ a. option_and_then mpacket_of a) o) here ∙ (one_spelled told (SentOctets w h d e)).1 (record { whole = whole; joined = refl })

    -- of a fragment it is what was sent
    pub plain_is : (f : FrameNo) → d.what ≡ what.Frame f → plain_of w h (packet h a d) ≡ told
    plain_is f carries =
        let end_at : end_of h a d.ord ≡ Some e = end_is w n h legal a a_lt m d at ∙ over in
        let data_is : fragment_data w h (packet h a d) ≡ take (e.size - 4) (drop d.from (WholeOf w h d))
        = ap (data_to w h d) end_at ∙ (ap (λ x. take (e.size - 4) (drop d.from (FrameOf w (frame_number x)))) carries ∙ sym (ap (λ x. take (e.size - 4) (drop d.from (whole_of w h d x))) carries)) in
        let check_is : unwrap_or (option_map (λ (e : Ended). e.check) (end_of h a d.ord)) [] ≡ e.check = ap (λ o. unwrap_or (option_map (λ (e : Ended). e.check) o) []) end_at in
        λ i. record { kind = d.kind; mdata = data_is i; check = check_is i }

  -- ---- the fragments that arrive

  single : (A : List (Option (List ℕ))) (m : ℕ) (p : PlainPacket) → Spelled A m ≡ Some p → is_fragment p.kind ≡ false → fragments_of (take 1 (drop m A)) ≡ []
  single [] m p at off = absurd (cc at)
  single (o ∷ os) zero p at off = rw (at, off) refl
  single (o ∷ os) (suc m) p at off = single os m p at off

  single_lost : (A : List (Option (List ℕ))) (m : ℕ) → slice_get A m ≡ Some None → fragments_of (take 1 (drop m A)) ≡ []
  single_lost [] m at = absurd (cc at)
  single_lost (o ∷ os) zero at = let lost : o ≡ None = cc at in rw lost refl
  single_lost (o ∷ os) (suc m) at = single_lost os m at

  module _ (A : List (Option (List ℕ))) (s m : ℕ) (le : s ≤ m) where
    split_last : fragments_of (take (suc m - s) (drop s A)) ≡ fragments_of (take (m - s) (drop s A)) ++ fragments_of (take 1 (drop m A))
    split_last =
        let count : suc m - s ≡ (m - s) + 1 = omega (arith, le) in
        let here : s + (m - s) ≡ m = omega (arith, le) in
        ap (λ x. fragments_of (take x (drop s A))) count ∙ (fragments_split A s (m - s) 1 ∙ ap (λ x. fragments_of (take (m - s) (drop s A)) ++ fragments_of (take 1 (drop x A))) here)

    more_lost : slice_get A m ≡ Some None → fragments_of (take (suc m - s) (drop s A)) ≡ fragments_of (take (m - s) (drop s A))
    more_lost lost = split_last ∙ (ap (λ l. fragments_of (take (m - s) (drop s A)) ++ l) (single_lost A m lost) ∙ append-nil (fragments_of (take (m - s) (drop s A))))

  module _ (A : List (Option (List ℕ))) (s m : ℕ) (p : PlainPacket) (le : s ≤ m) (at : Spelled A m ≡ Some p) where
    more_none : is_fragment p.kind ≡ false → fragments_of (take (suc m - s) (drop s A)) ≡ fragments_of (take (m - s) (drop s A))
    more_none off = split_last A s m le ∙ (ap (λ l. fragments_of (take (m - s) (drop s A)) ++ l) (single A m p at off) ∙ append-nil (fragments_of (take (m - s) (drop s A))))

    more_one : is_fragment p.kind ≡ true → fragments_of (take (suc m - s) (drop s A)) ≡ fragments_of (take (m - s) (drop s A)) ++ p ∷ []
    more_one on = split_last A s m le ∙ ap (λ l. fragments_of (take (m - s) (drop s A)) ++ l) (first_fragment A m 0 p at on ∙ ap (λ l. p ∷ l) (nothing_taken (drop (suc m) A)))

  module _ (i : ℕ) (e : Ended) (over : slice_get (Ends h a) i ≡ Some e) (s : ℕ) (f : FrameNo)
      (own : (k : ℕ) (c : Begin) → slice_get (Begins h a) k ≡ Some c → is_fragment c.kind ≡ true → c.what ≡ what.Frame f → IsKept w c) (whole : AreUndamaged w h a s i) where
    ended_at : (k : ℕ) → k ≤ i → (e : Ended) × (slice_get (Ends h a) k ≡ Some e)
    ended_at k le = there (Ends h a) k (let lt = within (Ends h a) i e over in omega (arith, lt, le))

    abbrev pub So : ℕ → Type 0
    So m = fragments_of (take (m - s) (drop s (Air w h a))) ≡ map (plain_of w h) (run_to w n h legal a a_lt m)

    -- what is no fragment changes nothing
    pass_to : (g m : ℕ) → s ≤ m → m + g ≤ suc i → ((j : ℕ) (d : Begin) → m ≤ j → j < m + g → slice_get (Begins h a) j ≡ Some d → is_fragment d.kind ≡ false) → So m → So (m + g)
    pass_to zero m low high none so = let same : m ≡ m + 0 = omega arith in subst So same so
    pass_to (suc g) m low high none so =
        let x = ended_at m (omega (arith, high)) in
        let d = there (Begins h a) m (let lt = within (Ends h a) m x.0 x.1 in let more = (steady w n h a a_lt legal).ordered.ends_begun in omega (arith, lt, more)) in
        let off = none m d.0 (omega arith) (omega arith) d.1 in
        let next : So (suc m) = skip d.0 x.0 d.1 x.1 off (is_lost w d.0) refl ∙ (so ∙ ap (map (plain_of w h)) (sym (run_other w n h legal a a_lt m d.0 d.1 off))) in
        let same : suc m + g ≡ m + suc g = omega arith in
        subst So same (pass_to g (suc m) (omega (arith, low)) (omega (arith, high)) (λ j d le lt at. none j d (omega (arith, le)) (omega (arith, lt)) at) next)
      where
        skip : (d : Begin) (e : Ended) → slice_get (Begins h a) m ≡ Some d → slice_get (Ends h a) m ≡ Some e → is_fragment d.kind ≡ false → (x : Bool) → is_lost w d ≡ x
            → fragments_of (take (suc m - s) (drop s (Air w h a))) ≡ fragments_of (take (m - s) (drop s (Air w h a)))
        skip d e at over off true lost =
            more_lost (Air w h a) s m low (air_at w h a m d at ∙ ap Some (ap (λ (x : Bool). if x then None else option_map (Damaged w d) (Sent w h (packet h a d))) lost))
        skip d e at over off false kept = more_none (Air w h a) s m (told m d e at over) low (spelled m d e at over (kept, whole m d low (omega (arith, high)) at)) off

    -- a fragment of the frame whose first octet began at place s
    pub fragments_so : (fuel m : ℕ) (d : Begin) → m < fuel → m ≤ i → slice_get (Begins h a) m ≡ Some d → is_fragment d.kind ≡ true → d.what ≡ what.Frame f
        → (c : Begin) → slice_get (Begins h a) s ≡ Some c → c.what ≡ what.Frame f → c.from ≡ 0 → So (suc m)
    fragments_so zero m d lt high at on carries c at_c carries_c from_c = absurd (omega (arith, lt))
    fragments_so (suc fuel) m d lt high at on carries c at_c carries_c from_c =
        go (fragment_at w routed n h legal a a_lt m d at on).1 (λ k b lt' high' at' on' carries'. fragments_so fuel k b lt' high' at' on' carries' c at_c carries_c from_c)
      where
        x : (e : Ended) × (slice_get (Ends h a) m ≡ Some e)
        x = ended_at m high

        with_it : s ≤ m → fragments_of (take (suc m - s) (drop s (Air w h a))) ≡ fragments_of (take (m - s) (drop s (Air w h a))) ++ plain_of w h (packet h a d) ∷ []
        with_it le =
            more_one (Air w h a) s m (told m d x.0 at x.1) le (spelled m d x.0 at x.1 (own m d at on carries)) on
            ∙ ap (λ p. fragments_of (take (m - s) (drop s (Air w h a))) ++ p ∷ []) (sym (plain_is m d x.0 at x.1 f carries))

        go : Joins w routed n h legal a a_lt m d → ((k : ℕ) (b : Begin) → k < fuel → k ≤ i → slice_get (Begins h a) k ≡ Some b → is_fragment b.kind ≡ true → b.what ≡ what.Frame f → So (suc k)) → So (suc m)
        go (inl (start, from)) rec =
            let here : s ≡ m = begins_once w routed n h legal a a_lt s m c d f (at_c, carries_c) (at, carries) from_c from in
            let zero_long : m - s ≡ 0 = omega (arith, here) in
            with_it (omega (arith, here))
            ∙ (ap (λ l. l ++ plain_of w h (packet h a d) ∷ []) (ap (λ y. fragments_of (take y (drop s (Air w h a)))) zero_long ∙ nothing_taken (drop s (Air w h a)))
            ∙ ap (map (plain_of w h)) (sym (run_new w n h legal a a_lt m d at on start)))
        go (inr (k, b, r, goes)) rec =
            let same : r.frame ≡ f = same_frame r.frame f (sym goes.carries ∙ carries) in
            let place : s ≡ r.first_place = begins_once w routed n h legal a a_lt s r.first_place c r.first f (at_c, carries_c) (r.first_begun, r.first_carries ∙ ap what.Frame same) from_c r.first_from in
            let early = r.first_before in
            let below = r.below in
            let old : So (suc k) = rec k b (omega (arith, below, lt)) (omega (arith, below, high)) r.begun r.fragment (r.carries ∙ ap what.Frame same) in
            let reach : suc k + (m - suc k) ≡ m = omega (arith, below) in
            let by_now : So m = subst So reach (pass_to (m - suc k) (suc k) (omega (arith, place, early)) (omega (arith, reach, high)) (λ j z le lt' at'. r.none_since j z (omega (arith, le)) (omega (arith, lt', reach)) at') old) in
            let off : is_start d.kind ≡ false = ap is_start goes.kind_is in
            let grown : run_to w n h legal a a_lt (suc m) ≡ run_to w n h legal a a_lt m ++ packet h a d ∷ [] = run_more w n h legal a a_lt m d (packet h a r.first) r.more at on off r.run ∙ ap (λ l. l ++ packet h a d ∷ []) (sym r.run) in
            with_it (omega (arith, place, early, below))
            ∙ (ap (λ l. l ++ plain_of w h (packet h a d) ∷ []) by_now ∙ (sym (map-append (plain_of w h) (run_to w n h legal a a_lt m) (packet h a d ∷ [])) ∙ ap (map (plain_of w h)) (sym grown)))

    -- the frame is whole where its last fragment arrives
    pub reassembled : (b : Begin) → slice_get (Begins h a) i ≡ Some b → is_fragment b.kind ≡ true → b.what ≡ what.Frame f → b.from + e.size ≡ length (FrameOf w f.0)
        → (c : Begin) → slice_get (Begins h a) s ≡ Some c → c.what ≡ what.Frame f → c.from ≡ 0 → Gives (Air w h a) i (Given.frame (FrameOf w f.0))
    reassembled b at on carries full c at_c carries_c from_c =
        let r = (fragment_at w routed n h legal a a_lt i b at on).0 in
        let same : r.frame ≡ f = same_frame r.frame f (sym r.carries ∙ carries) in
        let place : s ≡ r.first_place = begins_once w routed n h legal a a_lt s r.first_place c r.first f (at_c, carries_c) (r.first_begun, r.first_carries ∙ ap what.Frame same) from_c r.first_from in
        let first_is : r.first ≡ c = one_at (Begins h a) s r.first c (ap (slice_get (Begins h a)) place ∙ r.first_begun) at_c in
        let early = r.first_before in
        let le : s ≤ i = omega (arith, place, early) in
        let x = ended_at s le in
        let is_start_c : is_fragment c.kind ≡ true = ap (λ (z : Begin). is_fragment z.kind) (sym first_is) ∙ ap is_fragment r.first_kind in
        let went : WentInParts w h a i f = subst (WentInParts w h a i) same (run_carries w routed n h legal a a_lt i b r e over (full ∙ ap (λ (g : FrameNo). length (FrameOf w g.0)) (sym same))) in
        let parts : Fragments (Air w h a) s i ≡ map (plain_of w h) (RunTo h a (suc i)) = fragments_so (suc i) i b (omega arith) (omega arith) at on carries c at_c carries_c from_c in
        let user = (user_of w f.0).0 in
        let is : FrameOf w f.0 ≡ user ++ Fcs user = (user_of w f.0).1 in
        let carried : Carries (user ++ Fcs user) (arc w a).add_frag (Fragments (Air w h a) s i)
        = subst (λ ps. Carries (user ++ Fcs user) (arc w a).add_frag ps) (sym parts) (subst (λ l. Carries l (arc w a).add_frag (map (plain_of w h) (RunTo h a (suc i)))) is went.carried) in
        let long = (frame_long w routed n h legal a a_lt i b f at carries).1 in
        let sum = length-append user (Fcs user) in
        let check = length-Fcs user in
        let len = ap length is in
        subst (λ l. Gives (Air w h a) i (Given.frame l)) (sym is)
        ((frame_alone (Air w h a) s i (arc w a).add_frag user le (told s c x.0 at_c x.1, spelled s c x.0 at_c x.1 (own s c at_c is_start_c carries_c), is_start_c) (told i b e at over, spelled i b e at over (own i b at on carries), on)
        carried (omega (arith, long, sum, check, len)) (Given.frame (user ++ Fcs user))).1 refl)
