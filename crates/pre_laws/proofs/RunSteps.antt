-- Each fragment begins a run or goes on with the one before it: an induction over the mPackets of an arc.
use Rattle.std.proofs.Common.{ℕ, zero, suc, ◌≡◌, ◌≢◌, ◌⊎◌, ◌==◌, ◌+◌, ◌-◌, ◌%◌, ◌<◌, ◌≤◌, Bool, true, false, List}
use Rattle.std.proofs.Common.{[], ◌∷◌, ◌++◌, length, take, drop, refl, sym, ◌∙◌, ap, inl, inr, arith, subst, length-append, Option, Some, None}
use Rattle.std.proofs.Common.{filter}
use Rattle.std.specs.Prelude.{if◌then◌else◌, slice_get, unwrap_or, option_map, option_and_then, MatchOption}
use Rattle.std.specs.List.{AllByRecursion as Every}
use Rattle.std.proofs.Math.Seq.{take-add}
use Rattle.std.proofs.lemmas.List.{append-nil, length-take-le, take-append-drop}
use Rattle.std.proofs.lemmas.Grind.{flat_map-append}
use Rattle.pre_base.specs.declared.limits.TheConstants.{GREATEST_FRAME}
use Rattle.pre_base.specs.declared.numbers.FrameNo.{FrameNo}
use Rattle.pre_crc.specs.Checks.{Mcrc}
use Rattle.pre_mpacket.specs.declared.packets.Kind.{Kind}
use Rattle.pre_mpacket.specs.declared.packets.Kind.TheVariants as kind
use Rattle.pre_mpacket.specs.Arrivals.{is_fragment, is_start}
use Rattle.pre_mpacket.specs.Pieces.{CutRule, least_fragment}
use Rattle.pre_history.specs.declared.events.What.TheVariants as what
use Rattle.pre_history.specs.Scenario.{Scenario, arc, FrameOf}
use Rattle.pre_history.specs.History.{History, Begin, Ended}
use Rattle.pre_history.specs.Selected.{frame_number, frame_count, from_last}
use Rattle.pre_history.specs.Queries.{Begins, Ends, Packet, Packets, packet, end_of, Rest, data_to, fragment_data, joined_data, last_check, LastRun, Interrupted}
use Rattle.pre_history.specs.Octets.{whole_of, WholeOf}
use Rattle.pre_history.specs.Starts.{Item, Choice, There, ExpressWaits, begun, rest_begins}
use Rattle.pre_history.specs.Rules.{CheckOf, last_four}
use Rattle.pre_history.specs.Legal.{LegalUpTo}
use Rattle.pre_history.proofs.Lists.{there, within, every_at, at_last}
use Rattle.pre_history.proofs.Chosen.{last_push}
use Rattle.pre_history.proofs.Placing.{begins_arc}
use Rattle.pre_history.proofs.Undamaged.{length-FrameOf}
use Rattle.pre_history.proofs.InOrder.{steady}
use Rattle.pre_laws.specs.Routed.{IsRouted}
use Rattle.pre_laws.proofs.Begun.{choice_of, by_item}
use Rattle.pre_laws.proofs.Routed.{BegunRight, begins_right, all_right}
use Rattle.pre_laws.proofs.Runs.{IsRun, passes, run_to, run_is, run_other, run_new, run_more, end_is, check_of, checked_push, continued_push}
use Rattle.pre_laws.proofs.Runs.{every_push, fragment_size, is_begun_start, is_begun_fragment, no_eq}
use Rattle.pre_history.proofs.NatTests.{is_eq}

take_none : (l : List ℕ) → take 0 l ≡ []
take_none [] = refl
take_none (x ∷ l) = refl

no_packets : (l : List Packet) → take 0 l ≡ []
no_packets [] = refl
no_packets (x ∷ l) = refl

module _ (w : Scenario) (routed : IsRouted w) (n : ℕ) (h : History) (legal : LegalUpTo w n h) (a : ℕ) (a_lt : a < length w.net.arcs) where
  abbrev pub Run : (m k : ℕ) (b : Begin) → Type 0
  Run m k b = IsRun w n h legal a a_lt m k b

  pub right_at : (i : ℕ) (b : Begin) → slice_get (Begins h a) i ≡ Some b → BegunRight w a b
  right_at i b at = every_at (BegunRight w a) (Begins h a) i b (begins_right w h a (all_right w routed n h legal)) at

  pub frame_long : (i : ℕ) (b : Begin) (f : FrameNo) → slice_get (Begins h a) i ≡ Some b → b.what ≡ what.Frame f → (64 ≤ length (FrameOf w f.0)) × (length (FrameOf w f.0) ≤ GREATEST_FRAME)
  frame_long i b f at is =
      let size = routed.sizes f.0 ((right_at i b at).on f is).known in
      let long = length-FrameOf w f.0 (omega (arith, size.0)) in
      (omega (arith, long, size.0), omega (arith, long, size.1))

  -- mPacket d at place m goes on where mPacket k with this end was cut
  pub record Continues (m k : ℕ) (b d : Begin) (r : Run m k b) : Type 0 where
    pub ended : Ended
    pub over : slice_get (Ends h a) k ≡ Some ended
    pub by : ended.tick ≤ d.tick
    pub carries : d.what ≡ what.Frame r.frame
    pub from : d.from ≡ b.from + (ended.size - 4)
    pub least : least_fragment (arc w a).add_frag ≤ ended.size - 4
    pub left : d.from + 64 ≤ length (FrameOf w r.frame.0)
    pub kind_is : d.kind ≡ kind.Continue r.count (length r.more % 4)
    pub sent : joined_data w h (r.before ++ packet h a b ∷ []) ≡ take d.from (FrameOf w r.frame.0)
    pub part : length (fragment_data w h (packet h a b)) ≡ ended.size - 4
    pub check : check_of (packet h a b) ≡ Mcrc (take d.from (FrameOf w r.frame.0))

  module _ (m k : ℕ) (b : Begin) (r : Run m k b) (e : Ended) (end_at : end_of h a b.ord ≡ Some e) where
    abbrev F : List ℕ
    F = FrameOf w r.frame.0

    abbrev p : Packet
    p = packet h a b

    over : slice_get (Ends h a) k ≡ Some e
    over = sym (end_is w n h legal a a_lt k b r.begun) ∙ end_at

    sized : CutRule (ExpressWaits w h b.arc) (begun w h b) e.size
    sized = fragment_size w h b.kind b e.size r.fragment ((steady w n h a a_lt legal).sizes k b e r.begun over)

    unsent_is : (begun w h b).unsent ≡ length F - b.from
    unsent_is = ap (λ x. length (FrameOf w (frame_number x)) - b.from) r.carries

    pub whole_is : WholeOf w h b ≡ F
    whole_is = ap (whole_of w h b) r.carries

    add_is : (begun w h b).add_frag ≡ (arc w a).add_frag
    add_is = ap (λ x. (arc w x).add_frag) (every_at (λ (b : Begin). b.arc ≡ a) (Begins h a) k b (begins_arc h a) r.begun)

    pub part_sent : fragment_data w h p ≡ take (e.size - 4) (drop b.from F)
    part_sent = ap (data_to w h b) end_at ∙ ap (λ x. take (e.size - 4) (drop b.from (FrameOf w (frame_number x)))) r.carries

    pub all_sent : joined_data w h (r.before ++ p ∷ []) ≡ take (b.from + (e.size - 4)) F
    all_sent =
        flat_map-append (fragment_data w h) r.before (p ∷ [])
        ∙ (ap (λ l. l ++ (fragment_data w h p ++ [])) r.sent ∙ (ap (λ l. take b.from F ++ l) (append-nil (fragment_data w h p) ∙ part_sent) ∙ sym (take-add b.from (e.size - 4) F)))

    pub check_at : check_of p ≡ e.check
    check_at = ap (λ o. unwrap_or (option_map (λ (e : Ended). e.check) o) []) end_at

    pub last_check_at : last_check w h (r.before ++ p ∷ []) ≡ e.check
    last_check_at = ap (λ o. unwrap_or (option_map (λ (e : Ended). e.check) (option_and_then (λ (p : Packet). p.ended) o)) []) (last_push r.before p) ∙ check_at

    pub checked_as : e.check ≡ CheckOf w h b e.size
    checked_as = (steady w n h a a_lt legal).checks k b e r.begun over

    -- where its size is all that is unsent the frame is whole
    pub check_full : b.from + e.size ≡ length F → e.check ≡ last_four F
    check_full full =
        let test : (b.from + e.size == length (WholeOf w h b)) ≡ true = is_eq (b.from + e.size) (length (WholeOf w h b)) (full ∙ ap length (sym whole_is)) in
        checked_as ∙ (ap (λ (x : Bool). if x then last_four (WholeOf w h b) else Mcrc (take (b.from + e.size - 4) (WholeOf w h b))) test ∙ ap last_four whole_is)

    pub finished : b.from + e.size ≡ length F → 64 ≤ e.size → joined_data w h (r.before ++ p ∷ []) ++ last_check w h (r.before ++ p ∷ []) ≡ F
    finished full long =
        let place : b.from + (e.size - 4) ≡ length F - 4 = omega (arith, full, long) in
        ap (λ l. l ++ last_check w h (r.before ++ p ∷ [])) (all_sent ∙ ap (λ x. take x F) place) ∙ (ap (λ l. take (length F - 4) F ++ l) (last_check_at ∙ check_full full) ∙ take-append-drop (length F - 4) F)

    pub unsent_long : e.size ≡ (begun w h b).unsent → (b.from + e.size ≡ length F) × (64 ≤ e.size)
    unsent_long is = let u = unsent_is in let left = r.left in (omega (arith, is, u, left), omega (arith, is, u, left))

    module _ (d : Begin) (by : e.tick ≤ d.tick) (left : Rest) (rest_is : choice_of d ≡ rest_begins left) (frame_is : left.frame ≡ r.frame.0)
        (from_is : left.from ≡ length (joined_data w h (r.before ++ p ∷ []))) (count_is : left.frame_count ≡ r.count) (next_is : left.fragment_count ≡ length r.more % 4)
        (cut : joined_data w h (r.before ++ p ∷ []) ++ last_check w h (r.before ++ p ∷ []) ≢ F) where
      pub continues : Continues m k b d r
      continues = elim sized [
        | inr (none, is) ↦ let o = unsent_long is in absurd (cut (finished o.0 o.1))
        | inl (x, (long, many, waits), least, size_is) ↦
            let u = unsent_is in
            let add = add_is in
            let old = r.left in
            let long' : least_fragment (arc w a).add_frag ≤ x = subst (λ y. least_fragment y ≤ x) add long in
            let within : b.from + (e.size - 4) + 64 ≤ length F = omega (arith, size_is, u, many, old) in
            let from' : d.from ≡ length (joined_data w h (r.before ++ p ∷ [])) = ap (λ (c : Choice). c.from) rest_is ∙ from_is in
            let cut_at : length (take (b.from + (e.size - 4)) F) ≡ b.from + (e.size - 4) = length-take-le (b.from + (e.size - 4)) F (omega (arith, within)) in
            let from'' : d.from ≡ b.from + (e.size - 4) = from' ∙ (ap length all_sent ∙ cut_at) in
            let off : (b.from + e.size == length (WholeOf w h b)) ≡ false = no_eq (b.from + e.size) (length (WholeOf w h b)) (let len = ap length whole_is in omega (arith, len, within, size_is)) in
            let place : b.from + e.size - 4 ≡ d.from = omega (arith, from'', size_is) in
            let check_is : e.check ≡ Mcrc (take d.from F)
            = checked_as ∙ (ap (λ (y : Bool). if y then last_four (WholeOf w h b) else Mcrc (take (b.from + e.size - 4) (WholeOf w h b))) off
            ∙ (ap (λ l. Mcrc (take (b.from + e.size - 4) l)) whole_is ∙ ap (λ y. Mcrc (take y F)) place)) in
            let part_long : length (take b.from F ++ take (e.size - 4) (drop b.from F)) ≡ b.from + (e.size - 4) = ap length (sym (take-add b.from (e.size - 4) F)) ∙ cut_at in
            let front_long : length (take b.from F) ≡ b.from = length-take-le b.from F (omega (arith, old)) in
            let parts_long = length-append (take b.from F) (take (e.size - 4) (drop b.from F)) in
            let part_is = ap length part_sent in
            record {
              ended = e;
              over = over;
              by = by;
              carries = ap (λ (c : Choice). c.what) rest_is ∙ ap (λ x. what.Frame (record { 0 = x })) frame_is;
              from = from'';
              least = omega (arith, long', size_is);
              left = omega (arith, from'', within);
              kind_is = ap (λ (c : Choice). c.kind) rest_is ∙ (ap (λ x. kind.Continue x left.fragment_count) count_is ∙ ap (λ x. kind.Continue r.count x) next_is);
              sent = all_sent ∙ ap (λ x. take x F) (sym from'');
              part = omega (arith, part_is, part_long, front_long, parts_long);
              check = check_at ∙ check_is;
            }
      ]

  -- ---- an interrupted frame goes on

  pub rest_continues : (m k : ℕ) (b d : Begin) (r : Run m k b) → LastRun h a d.tick ≡ run_to w n h legal a a_lt m → (left : Rest) → Interrupted w h a d.tick left → choice_of d ≡ rest_begins left → Continues m k b d r
  rest_continues m k b d r last_run left (first, more, run, ended, cut, left_is) rest_is = go (end_of h a b.ord) refl
    where
      P : Packet → Type 0
      P q = MatchOption q.ended ⊥ (λ e. e.tick ≤ d.tick)

      here : first ∷ more ≡ packet h a r.first ∷ r.more
      here = sym run ∙ (last_run ∙ r.run)

      same : first ∷ more ≡ r.before ++ packet h a b ∷ []
      same = here ∙ r.parts

      over_by : P (packet h a b)
      over_by = every_at P (r.before ++ packet h a b ∷ []) (length r.before) (packet h a b) (subst (Every P) same ended) (at_last r.before (packet h a b))

      first_is : first ≡ packet h a r.first
      first_is = cc here

      more_is : more ≡ r.more
      more_is = cc here

      frame_is : frame_number first.begin.what ≡ r.frame.0
      frame_is = ap (λ (q : Packet). frame_number q.begin.what) first_is ∙ ap frame_number r.first_carries

      go : (o : Option Ended) → end_of h a b.ord ≡ o → Continues m k b d r
      go None is = absurd (subst (λ (o : Option Ended). MatchOption o ⊥ (λ e. e.tick ≤ d.tick)) is over_by)
      go (Some e) is =
          continues m k b r e is d (subst (λ (o : Option Ended). MatchOption o ⊥ (λ e. e.tick ≤ d.tick)) is over_by) left rest_is
          (ap (λ (x : Rest). x.frame) left_is ∙ frame_is)
          (ap (λ (x : Rest). x.from) left_is ∙ ap (λ l. length (joined_data w h l)) same)
          (ap (λ (x : Rest). x.frame_count) left_is ∙ (ap (λ (q : Packet). frame_count q.begin.kind) first_is ∙ ap frame_count r.first_kind))
          (ap (λ (x : Rest). x.fragment_count) left_is ∙ ap (λ (l : List Packet). length l % 4) more_is)
          (λ whole. subst (λ (l : List Packet). joined_data w h l ++ last_check w h l ≢ FrameOf w (frame_number first.begin.what)) same cut (whole ∙ ap (FrameOf w) (sym frame_is)))

  is_continue_fragment : (k : Kind) (c i : ℕ) → k ≡ kind.Continue c i → (is_fragment k ≡ true) × (is_start k ≡ false)
  is_continue_fragment k c i is = (ap is_fragment is, ap is_start is)

  -- the run with it
  pub grows : (m k : ℕ) (b d : Begin) (r : Run m k b) → slice_get (Begins h a) m ≡ Some d → Continues m k b d r → Run (suc m) m d
  grows m k b d r at c =
      let kinds = is_continue_fragment d.kind r.count (length r.more % 4) c.kind_is in
      record {
        frame = r.frame;
        begun = at;
        below = omega arith;
        fragment = kinds.0;
        carries = c.carries;
        none_since = λ j e more lt at'. absurd (omega (arith, more, lt));
        first_place = r.first_place;
        first = r.first;
        first_begun = r.first_begun;
        first_before = (let x = r.first_before in let y = r.below in omega (arith, x, y));
        first_from = r.first_from;
        first_carries = r.first_carries;
        count = r.count;
        first_kind = r.first_kind;
        more = r.more ++ packet h a d ∷ [];
        before = r.before ++ packet h a b ∷ [];
        run = run_more w n h legal a a_lt m d (packet h a r.first) r.more at kinds.0 kinds.1 r.run;
        parts = ap (λ l. l ++ packet h a d ∷ []) r.parts;
        sent = c.sent;
        left = c.left;
        continued = continued_push r.count 0 r.more (packet h a d) r.continued (let none : 0 + length r.more ≡ length r.more = omega arith in c.kind_is ∙ ap (λ x. kind.Continue r.count (x % 4)) (sym none));
        checked = checked_push w h [] r.before (packet h a b) r.checked (c.check ∙ ap Mcrc (sym c.sent ∙ (flat_map-append (fragment_data w h) r.before (packet h a b ∷ []) ∙ ap (λ l. joined_data w h r.before ++ l) (append-nil (fragment_data w h (packet h a b))))));
        all_carry = every_push (λ (p : Packet). p.begin.what ≡ what.Frame r.frame) r.before (packet h a b) r.all_carry r.carries;
        sizes = every_push (λ (p : Packet). least_fragment (arc w a).add_frag ≤ length (fragment_data w h p)) r.before (packet h a b) r.sizes (let x = c.least in let y = c.part in omega (arith, x, y));
      }

  -- a new run
  pub anew : (m : ℕ) (d : Begin) (f : FrameNo) (count : ℕ) → slice_get (Begins h a) m ≡ Some d → d.kind ≡ kind.Start count → d.what ≡ what.Frame f → d.from ≡ 0 → Run (suc m) m d
  anew m d f count at is carries from = record {
    frame = f;
    begun = at;
    below = omega arith;
    fragment = ap is_fragment is;
    carries = carries;
    none_since = λ j e more lt at'. absurd (omega (arith, more, lt));
    first_place = m;
    first = d;
    first_begun = at;
    first_before = omega arith;
    first_from = from;
    first_carries = carries;
    count = count;
    first_kind = is;
    more = [];
    before = [];
    run = run_new w n h legal a a_lt m d at (ap is_fragment is) (ap is_start is);
    parts = refl;
    sent = sym (ap (λ x. take x (FrameOf w f.0)) from ∙ take_none (FrameOf w f.0));
    left = (let long = (frame_long m d f at carries).0 in omega (arith, long, from));
    continued = tt;
    checked = tt;
    all_carry = tt;
    sizes = tt;
  }

  -- ---- over all mPackets

  abbrev pub State : ℕ → Type 0
  State m = (run_to w n h legal a a_lt m ≡ []) ⊎ ((k : ℕ) × (b : Begin) × Run m k b)

  -- the fragment goes on with the run before it, or is a start
  abbrev pub Joins : (m : ℕ) (d : Begin) → Type 0
  Joins m d = ((is_start d.kind ≡ true) × (d.from ≡ 0)) ⊎ ((k : ℕ) × (b : Begin) × (r : Run m k b) × Continues m k b d r)

  abbrev pub Placed : (m : ℕ) (d : Begin) → Type 0
  Placed m d = Run (suc m) m d × Joins m d

  by_there : (m : ℕ) (d : Begin) → slice_get (Begins h a) m ≡ Some d → is_fragment d.kind ≡ true → State m → (it : Item) → There w h a d.tick it (choice_of d) → Placed m d
  by_there m d at on state Item.express (f, front, is) = absurd (cc (sym on ∙ ap (λ (c : Choice). is_fragment c.kind) is))
  by_there m d at on state Item.respond (talks, owed, is) = absurd (cc (sym on ∙ ap (λ (c : Choice). is_fragment c.kind) is))
  by_there m d at on state Item.verify (talks, owed, is) = absurd (cc (sym on ∙ ap (λ (c : Choice). is_fragment c.kind) is))
  by_there m d at on state Item.lldp (talks, owed, is) = absurd (cc (sym on ∙ ap (λ (c : Choice). is_fragment c.kind) is))
  by_there m d at on state Item.preemptable (f, k, front, as', is) = elim as' [
    | inl (active, k_is) ↦
        let kind_is = ap (λ (c : Choice). c.kind) is ∙ k_is in
        let from = ap (λ (c : Choice). c.from) is in
        (anew m d (record { 0 = f }) _ at kind_is (ap (λ (c : Choice). c.what) is) from, inl (ap is_start kind_is, from))
    | inr (inactive, passes', k_is) ↦ absurd (cc (sym on ∙ (ap (λ (c : Choice). is_fragment c.kind) is ∙ ap is_fragment k_is)))
  ]
  by_there m d at on (inl none) Item.rest (left, (first, more, run, ended, cut, left_is), is) = absurd (let empty = sym none ∙ (sym (run_is w n h legal a a_lt m d at) ∙ run) in cc empty)
  by_there m d at on (inr (k, b, r)) Item.rest (left, interrupted, is) =
      let c = rest_continues m k b d r (run_is w n h legal a a_lt m d at) left interrupted is in
      (grows m k b d r at c, inr (k, b, r, c))

  pub state : (m : ℕ) → m ≤ length (Begins h a) → State m
  state zero le = inl (ap (λ l. from_last is_begun_start (filter is_begun_fragment l)) (no_packets (Packets h a)))
  state (suc m) le = go (is_fragment d.0.kind) refl (state m (omega (arith, le)))
    where
      d : (d : Begin) × (slice_get (Begins h a) m ≡ Some d)
      d = there (Begins h a) m (omega (arith, le))

      go : (x : Bool) → is_fragment d.0.kind ≡ x → State m → State (suc m)
      go false off (inl none) = inl (run_other w n h legal a a_lt m d.0 d.1 off ∙ none)
      go false off (inr (k, b, r)) = inr (k, b, passes w n h legal a a_lt m k b d.0 d.1 off r)
      go true on old = let it = by_item w n h legal a a_lt m d.0 d.1 in inr (m, d.0, (by_there m d.0 d.1 on old it.0 it.1).0)

  pub fragment_at : (m : ℕ) (d : Begin) → slice_get (Begins h a) m ≡ Some d → is_fragment d.kind ≡ true → Placed m d
  fragment_at m d at on = let it = by_item w n h legal a a_lt m d at in by_there m d at on (state m (let lt = within (Begins h a) m d at in omega (arith, lt))) it.0 it.1
