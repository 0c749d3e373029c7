-- At a tick at which nothing is due nothing happens, and a run stands at the next tick as it stands.
use Rattle.std.proofs.Common.{ℕ, zero, suc, ◌≡◌, ◌≢◌, ◌⊎◌, ◌==◌, ◌+◌, ◌-◌, ◌*◌, ◌<◌, ◌≤◌, Bool, true, false, List, [], ◌++◌, length, take}
use Rattle.std.proofs.Common.{map, refl, sym, ◌∙◌, ap, inl, inr, arith, subst, Some, flat_map}
use Rattle.std.specs.Prelude.{slice_get, if◌then◌else◌}
use Rattle.std.specs.List.{AllByRecursion as Every}
use Rattle.std.proofs.lemmas.Bool.{cases_lt, false≢true}
use Rattle.std.proofs.lemmas.List.{append-nil, flat_map_more}
use Rattle.pre_topo.specs.Arcs.{reverse_of}
use Rattle.pre_topo.specs.declared.arcs.Mode.{Mode}
use Rattle.pre_topo.specs.declared.arcs.Mode.TheVariants as mode
use Rattle.pre_history.specs.Scenario.{Scenario, arc, send, no_send}
use Rattle.pre_history.specs.Moments.{Phase, Moment, moments, moment_at, phase_at}
use Rattle.pre_history.specs.Placed.{HasPlace, number, moment_of}
use Rattle.pre_history.specs.History.{History}
use Rattle.pre_history.specs.Queries.{Begins, Arrivals, Occupied, SettingOf}
use Rattle.pre_history.specs.LinkState.{LldpWanted, RespondOwed, SettingBefore, VerifyWanted}
use Rattle.pre_history.specs.Comings.{Comings, EntriesOf, sends_from}
use Rattle.pre_history.specs.Rules.{Happens, HappensIn, SetsAt}
use Rattle.pre_history.specs.Starts.{Item, Choice, There}
use Rattle.pre_history.specs.Legal.{LegalUpTo}
use Rattle.pre_history.proofs.Lists.{every_filter}
use Rattle.pre_history.proofs.Moments.{moment_in, place_of_phase}
use Rattle.pre_bridge.specs.Inside.{Entry, inside, of_arc}
use Rattle.pre_bridge.specs.Turns.{dues, dues_of_arc}
use Rattle.pre_bridge.specs.Turns as turns
use Rattle.pre_send.specs.Senders.{is_free, is_interrupted}
use Rattle.pre_outgoing.proofs.Asking.{ends_agree, free_agrees, rest_agrees}
use Rattle.pre_outgoing.proofs.Keeping.{idle_ticks}
use Rattle.pre_incoming.proofs.Happenings.{none_lands}
use Rattle.pre_links.specs.declared.links.Link.{Link}
use Rattle.pre_links.specs.declared.partners.Partner.{Partner}
use Rattle.pre_links.specs.Listening.{Hears}
use Rattle.pre_links.specs.Standing.{LinkStands}
use Rattle.pre_links.proofs.RestingLinks.{none_told as none_told_at, owes_none, still_stands_next, wants_no_lldp, wants_no_verify}
use Rattle.pre_sim.specs.declared.lanes.Lane.{Lane}
use Rattle.pre_sim.specs.declared.ticks.Progress.{Progress}
use Rattle.pre_sim.specs.Reach.{AllFit}
use Rattle.pre_sim.specs.Resting.{IsEmpty, IsHeld, LaneRests, LinkRestsAt, Rests, RestsAmong, RestsUntil}
use Rattle.pre_sim.specs.Stages.{untouched}
use Rattle.pre_sim.specs.Starting.{NoneBelow}
use Rattle.pre_sim.specs.Sends.{coming_of, handed_on}
use Rattle.pre_sim.specs.Stands.{AreInside, AreSentBefore, AreSetBefore, LaneStands, Reaches}
use Rattle.pre_sim.proofs.BegunLanes.{setting_then}
use Rattle.pre_sim.proofs.EntriesInside.{arrivals_rise, none_due, none_without, settled_inside}
use Rattle.pre_sim.proofs.EntriesParts.{entries_happen}
use Rattle.pre_sim.proofs.EntriesSends.{comings_are, none_left, passed}
use Rattle.pre_sim.proofs.ExpiryParts.{calm_arc}
use Rattle.pre_sim.proofs.ItemsThere.{busy_starts, idle_starts, none_first, none_more}
use Rattle.pre_sim.proofs.Lists.{there, within}
use Rattle.pre_sim.proofs.NumberTests.{is_le}
use Rattle.pre_sim.proofs.SetsParts.{after_it, all_told, none_told, setting_before, sets_happen}
use Rattle.pre_sim.proofs.WaitingNow.{none_waits}

-- Where nothing happens at so many moments, once the history is legal before each, it is legal after them.
legal_through : (w : Scenario) (h : History) (n m : ℕ) → LegalUpTo w m h
    → ((k : ℕ) → k < n → LegalUpTo w (m + k) h → Happens w h (moment_at (length w.net.arcs) (m + k)) []) → LegalUpTo w (m + n) h
legal_through w h zero m legal idle = subst (λ x. LegalUpTo w x h) (same m) legal
  where
    same : (x : ℕ) → x ≡ x + 0
    same x = omega arith
legal_through w h (suc n) m legal idle =
    let before : LegalUpTo w (m + n) h = legal_through w h n m legal (λ k lt. idle k (omega (arith, lt))) in
    subst (λ x. LegalUpTo w x h) (next m n) (h, [], sym (append-nil h), before, idle n (omega arith) before)
  where
    next : (x y : ℕ) → suc (x + y) ≡ x + suc y
    next x y = omega arith

-- no frame that is due later comes out of a bridge
none_dues : (t n : ℕ) (entries : List Entry) → Every (λ (e : Entry). t < e.due) entries → flat_map (dues_of_arc t entries) (turns.below n) ≡ []
none_dues t zero entries late = refl
none_dues t (suc n) entries late =
    sym (flat_map_more (dues_of_arc t entries) [] (turns.below n) n)
    ∙ (λ i. none_dues t n entries late i ++ none_due t (of_arc n entries) (every_filter (λ (e : Entry). t < e.due) (λ e. e.arc == n) entries late) i)

none_handed_on : (w : Scenario) (t : ℕ) (entries : List Entry) → Every (λ (e : Entry). t < e.due) entries → handed_on w t entries ≡ []
none_handed_on w t entries late =
    ap (λ es. map coming_of (take (length w.net.arcs) es)) (none_dues t (length w.net.arcs) entries late) ∙ none_taken (length w.net.arcs)
  where
    none_taken : (n : ℕ) → map coming_of (take n []) ≡ []
    none_taken zero = refl
    none_taken (suc n) = refl

-- ---- a link

-- It stands at the next tick as it stands, and nothing is told of it or begins for it.
pub record IsCalm (w : Scenario) (h : History) (a t : ℕ) (link : Link) : Type 0 where
  pub expires : HappensIn w h t (Phase.expiries a) []
  pub stands : LinkStands w h a (t + 1) link
  pub owes : LegalUpTo w (number (length w.net.arcs) t (2 + 3 * length w.net.arcs + a)) h → ¬ RespondOwed w h a t
  pub verify : LegalUpTo w (number (length w.net.arcs) t (2 + 3 * length w.net.arcs + a)) h → ¬ Occupied w h a t → ¬ VerifyWanted w h a t
  pub lldp : LegalUpTo w (number (length w.net.arcs) t (2 + 3 * length w.net.arcs + a)) h → ¬ LldpWanted w h a t

link_is_calm : (w : Scenario) (h : History) (a t : ℕ) → a < length w.net.arcs → (arc w a).mode ≡ mode.Negotiate → LegalUpTo w (number (length w.net.arcs) t 0) h → (partner : Partner) (link : Link)
    → Hears w h (reverse_of a) partner → LinkStands w h a t link → LinkRestsAt w.net.timing.interval t partner link → SettingOf w a t ≡ SettingBefore w h a t → IsCalm w h a t link
link_is_calm w h a t a_lt talks legal partner link hears stands (s, is, rests) setting =
    subst (λ u. LegalUpTo w (number (length w.net.arcs) u 0) h → LinkStands w h a u link → SettingOf w a u ≡ SettingBefore w h a u → IsCalm w h a u link) (sym is)
    (λ before now same.
    let kept = same ∙ sym (setting_then w h a s) in
    record {
      expires = none_told_at w h a s a_lt talks before partner link hears now rests kept;
      stands = still_stands_next w h a s a_lt talks before partner link hears now rests kept;
      owes = owes_none w h a s a_lt talks before partner link hears now rests kept;
      verify = wants_no_verify w h a s a_lt talks before partner link hears now rests kept;
      lldp = wants_no_lldp w h a s a_lt talks before partner link hears now rests kept;
    }) legal stands setting

-- an arc negotiates or doesn't
talks_or_not : (m : Mode) → (m ≡ mode.Negotiate) ⊎ (m ≢ mode.Negotiate)
talks_or_not mode.Negotiate = inl refl
talks_or_not mode.Off = inr (λ e. absurd (cc e))
talks_or_not mode.On = inr (λ e. absurd (cc e))

-- ---- a tick

module _ (w : Scenario) (fit : AllFit w.net w.streams w.script) (t : ℕ) (h : History) (p : Progress) (many : length p.lanes.items ≡ length w.net.arcs) (r : Reaches w t 0 h p)
    (rests : Rests w t p) where
  abbrev A : ℕ
  A = length w.net.arcs

  abbrev entries : List Entry
  entries = inside w.net w.streams r.calls

  late : Every (λ (e : Entry). t < e.due) entries
  late = rests.relay r.calls r.relay

  -- ---- the script

  set_next : AreSetBefore w (t + 1) p.set
  set_next = after_it w fit t p.set p.set [] [] (none_told w t p.set) r.sets rests.sets

  none_set : [] ≡ SetsAt w t
  none_set = all_told w fit t p.set p.set [] [] (none_told w t p.set) r.sets rests.sets

  sent_before : AreSentBefore w t p.sent
  sent_before = subst (λ n. AreSentBefore w n p.sent) (ap (λ (b : Bool). if b then t else t + 1) (is_le 0 (1 + 3 * A) (omega arith))) r.sends

  sent_later : (i : ℕ) → p.sent ≤ i → i < length w.script.sends → t < (send w i).send.tick.0
  sent_later i le lt =
      let k_lt : p.sent < length w.script.sends = omega (arith, le, lt) in
      let from : t ≤ (send w p.sent).send.tick.0 = sent_before.later p.sent (omega arith) k_lt in
      let other = rests.sends k_lt in
      let beyond : t < (send w p.sent).send.tick.0 = omega (arith, from, other) in
      elim (cases_lt p.sent i) [
        | inl less ↦ let order : (send w p.sent).send.tick.0 ≤ (send w i).send.tick.0 = fit.script_fits.sends_order p.sent i no_send less lt in omega (arith, beyond, order)
        | inr more ↦ let same : p.sent ≡ i = omega (arith, le, more) in subst (λ j. t < (send w j).send.tick.0) same beyond
      ]

  sent_next : AreSentBefore w (t + 1) p.sent
  sent_next = record {
    within = sent_before.within;
    past = λ k lt. let gone = sent_before.past k lt in omega (arith, gone);
    later = λ i le lt. let far = sent_later i le lt in omega (arith, far);
  }

  -- ---- an arc

  module _ (a : ℕ) (lane : Lane) (at : slice_get p.lanes.items a ≡ Some lane) where
    a_lt : a < A
    a_lt = omega (arith, within p.lanes.items a lane at, many)

    stand : LaneStands w h a (untouched t) lane (of_arc a entries)
    stand = r.lanes a lane at

    among : RestsAmong w t a lane p.lanes.items
    among = rests.lanes a lane at

    rest : LaneRests w t a among.0.partner lane
    rest = among.2

    -- the script sets nothing
    setting_kept : SettingOf w a t ≡ SettingBefore w h a t
    setting_kept = setting_then w h a t ∙ (setting_before w h a (t + 1) p.set set_next ∙ sym (setting_before w h a t p.set r.sets))

    calm : (arc w a).mode ≡ mode.Negotiate → IsCalm w h a t lane.link
    calm talks = link_is_calm w h a t a_lt talks r.legal.0 among.0.partner lane.link (r.lanes (reverse_of a) among.0 among.1).partner (stand.link talks) (rest.link talks) setting_kept

    none_ends : LegalUpTo w (number A t (1 + a)) h → HappensIn w h t (Phase.ends a) []
    none_ends legal = ends_agree w h t a lane.outgoing a_lt legal stand.outgoing rest.no_end

    none_arrives : LegalUpTo w (moment_of w t (Phase.arrivals a)) h → HappensIn w h t (Phase.arrivals a) []
    none_arrives legal = (none_lands w h t a a_lt (legal, r.legal.1) lane.incoming stand.incoming rest.no_arrival).happens

    none_expires : HappensIn w h t (Phase.expiries a) []
    none_expires = elim (talks_or_not (arc w a).mode) [ inl talks ↦ (calm talks).expires | inr off ↦ calm_arc w h a t off ]

    -- none of the items is there on an arc that is free, where neither an express frame is nor a preemptable one, and none is
    -- interrupted
    none_there : LegalUpTo w (number A t (2 + 3 * A + a)) h → ((c : Choice) → ¬ There w h a t Item.express c) → ((c : Choice) → ¬ There w h a t Item.preemptable c)
        → is_interrupted lane.outgoing.sender ≡ false → is_free lane.outgoing.sender t ≡ true → NoneBelow w h a t 7
    none_there legal express preemptable whole free =
        let left : (c : Choice) → ¬ There w h a t Item.rest c = λ c there. false≢true (sym whole ∙ (rest_agrees w h t a t true lane.outgoing a_lt legal stand.outgoing free).1 (c, there)) in
        let unoccupied = (free_agrees w h t a t true lane.outgoing a_lt legal stand.outgoing).0 free in
        let below_2 = none_more w h a t Item.express 1 refl (none_first w h a t) express in
        let below_3 = none_more w h a t Item.respond 2 refl below_2 (λ c there. (calm there.0).owes legal there.1) in
        let below_4 = none_more w h a t Item.verify 3 refl below_3 (λ c there. (calm there.0).verify legal unoccupied there.1) in
        let below_5 = none_more w h a t Item.lldp 4 refl below_4 (λ c there. (calm there.0).lldp legal there.1) in
        none_more w h a t Item.preemptable 6 refl (none_more w h a t Item.rest 5 refl below_5 left) preemptable

    -- nothing waits
    none_waiting : LegalUpTo w (number A t (2 + 3 * A + a)) h → IsEmpty lane → is_free lane.outgoing.sender t ≡ true → NoneBelow w h a t 7
    none_waiting legal (empty, whole) free =
        let waits = λ (q : ℕ). none_waits w h t a a_lt legal lane.rings stand.rings q (empty q) in
        none_there legal (λ c (f, (q, low, high, (behind, front), above), is). cc (waits q, front)) (λ c (f, k, (q, low, high, (behind, front), above), kind, is). cc (waits q, front)) whole free

    -- what waits is held back
    none_released : LegalUpTo w (number A t (2 + 3 * A + a)) h → IsHeld (arc w a) lane → is_free lane.outgoing.sender t ≡ true → NoneBelow w h a t 7
    none_released legal held free =
        none_there legal (λ c (f, (q, low, high, (behind, front), above), is). cc (none_waits w h t a a_lt legal lane.rings stand.rings q (held.express q low), front))
        (λ c (f, k, front, kind, is). elim kind [
          | inl (active, first) ↦ held.inactive w h a t (calm held.talks).stands active
          | inr (inactive, inl off, whole) ↦ cc (off, held.talks)
          | inr (inactive, inr pass, whole) ↦ cc (pass, held.quiet)
        ])
        held.whole free

    none_begins : LegalUpTo w (number A t (2 + 3 * A + a)) h → HappensIn w h t (Phase.starts a) []
    none_begins legal = elim rest.no_start [
      | inl busy ↦ occupied busy
      | inr (inl empty) ↦ go (is_free lane.outgoing.sender t) refl (none_waiting legal empty)
      | inr (inr held) ↦ go (is_free lane.outgoing.sender t) refl (none_released legal held)
    ]
      where
        occupied : is_free lane.outgoing.sender t ≡ false → HappensIn w h t (Phase.starts a) []
        occupied busy = busy_starts w h a t (λ free. false≢true (sym busy ∙ (free_agrees w h t a t true lane.outgoing a_lt legal stand.outgoing).1 free))

        go : (b : Bool) → is_free lane.outgoing.sender t ≡ b → (is_free lane.outgoing.sender t ≡ true → NoneBelow w h a t 7) → HappensIn w h t (Phase.starts a) []
        go true free none = idle_starts w h a t (none free)
        go false busy none = occupied busy

    -- the lane stands at the next tick
    stands_next : LaneStands w h a (untouched (t + 1)) lane (of_arc a entries)
    stands_next = record {
      rings = stand.rings;
      outgoing = idle_ticks w h a t (t + 1) lane.outgoing (omega arith) stand.outgoing;
      incoming = stand.incoming;
      partner = stand.partner;
      setting = stand.setting ∙ (setting_before w h a t p.set r.sets ∙ sym (setting_before w h a (t + 1) p.set set_next));
      link = λ negotiates. (calm negotiates).stands;
      inside = subst (AreInside w a (Begins h a) (Arrivals h a) (t + 1)) (none_without t (of_arc a entries) (every_filter (λ (e : Entry). t < e.due) (λ e. e.arc == a) entries late))
          (settled_inside w a t (Begins h a) (Arrivals h a) (of_arc a entries) (arrivals_rise w (number A t 0) h a a_lt r.legal.0) stand.inside);
    }

  lane_at : (a : ℕ) → a < A → (lane : Lane) × (slice_get p.lanes.items a ≡ Some lane)
  lane_at a lt = there p.lanes.items a (omega (arith, lt, many))

  -- ---- what comes to rings

  no_comings : Comings w h t ≡ []
  no_comings =
      comings_are w h t entries (λ a lt. arrivals_rise w (number A t 0) h a lt r.legal.0) (λ a lt. let lane = lane_at a lt in (stand a lane.0 lane.1).inside)
      ∙ (λ i. none_handed_on w t entries late i ++ no_sends i)
    where
      no_sends : sends_from w t 0 w.script.sends ≡ []
      no_sends = passed w t 0 p.sent w.script.sends sent_before.within sent_before.past ∙ none_left w t (0 + p.sent) p.sent w.script.sends sent_later

  none_enters : HappensIn w h t Phase.entries []
  none_enters = entries_happen w t h [] (ap (EntriesOf w t h) (sym no_comings))

  -- ---- the tick

  none_happens : (k : ℕ) (ph : Phase) → HasPlace A k ph → LegalUpTo w (number A t k) h → HappensIn w h t ph []
  none_happens k Phase.sets is legal = sets_happen w t h [] none_set
  none_happens k (Phase.ends a) (lt, is) legal = let lane = lane_at a lt in none_ends a lane.0 lane.1 (subst (λ n. LegalUpTo w (number A t n) h) is legal)
  none_happens k (Phase.arrivals a) (lt, is) legal = let lane = lane_at a lt in none_arrives a lane.0 lane.1 (subst (λ n. LegalUpTo w (number A t n) h) is legal)
  none_happens k (Phase.expiries a) (lt, is) legal = let lane = lane_at a lt in none_expires a lane.0 lane.1
  none_happens k Phase.entries is legal = none_enters
  none_happens k (Phase.starts a) (lt, is) legal = let lane = lane_at a lt in none_begins a lane.0 lane.1 (subst (λ n. LegalUpTo w (number A t n) h) is legal)

  legal_next : LegalUpTo w (number A (t + 1) 0) h
  legal_next =
      subst (λ n. LegalUpTo w n h) (next t A)
      (legal_through w h (moments A) (number A t 0) r.legal.0
      (λ k lt legal. subst (λ (m : Moment). Happens w h m []) (sym (ap (moment_at A) (place (t * moments A) k) ∙ moment_in A t k lt))
      (none_happens k (phase_at A k) (place_of_phase A k lt) (subst (λ n. LegalUpTo w n h) (place (t * moments A) k) legal))))
    where
      place : (x k : ℕ) → x + 0 + k ≡ x + k
      place x k = omega arith

      next : (t m : ℕ) → number m t 0 + moments m ≡ number m (t + 1) 0
      next t m = let grows : (t + 1) * moments m ≡ t * moments m + moments m = omega arith in omega (arith, grows)

  -- The run stands at the next tick.
  pub rests_on : Reaches w (t + 1) 0 h p
  rests_on = record {
    legal = (legal_next, r.legal.1);
    calls = r.calls;
    relay = r.relay;
    lanes = λ a lane at. stands_next a lane at;
    sets = set_next;
    sends = subst (λ n. AreSentBefore w n p.sent) (sym (ap (λ (b : Bool). if b then t + 1 else t + 1 + 1) (is_le 0 (1 + 3 * A) (omega arith)))) sent_next;
    deliveries = r.deliveries;
    drops = r.drops;
  }

-- Where nothing is due at so many ticks, a run stands behind them as it stands.
pub rests_through : (w : Scenario) → AllFit w.net w.streams w.script → (h : History) (p : Progress) → length p.lanes.items ≡ length w.net.arcs → (n t : ℕ)
    → RestsUntil w t (t + n) p → Reaches w t 0 h p → Reaches w (t + n) 0 h p
rests_through w fit h p many zero t rests r = subst (λ u. Reaches w u 0 h p) (same t) r
  where
    same : (x : ℕ) → x ≡ x + 0
    same x = omega arith
rests_through w fit h p many (suc n) t rests r =
    let before : Reaches w (t + n) 0 h p = rests_through w fit h p many n t (λ u from lt. rests u from (omega (arith, lt))) r in
    subst (λ u. Reaches w u 0 h p) (next t n) (rests_on w fit (t + n) h p many before (rests (t + n) (omega arith) (omega arith)))
  where
    next : (x y : ℕ) → x + y + 1 ≡ x + suc y
    next x y = omega arith

pub rests_to : (w : Scenario) → AllFit w.net w.streams w.script → (h : History) (p : Progress) → length p.lanes.items ≡ length w.net.arcs → (t u : ℕ) → t ≤ u
    → RestsUntil w t u p → Reaches w t 0 h p → Reaches w u 0 h p
rests_to w fit h p many t u le rests r =
    let there : t + (u - t) ≡ u = omega (arith, le) in
    subst (λ k. Reaches w k 0 h p) there (rests_through w fit h p many (u - t) t (subst (λ k. RestsUntil w t k p) (sym there) rests) r)
