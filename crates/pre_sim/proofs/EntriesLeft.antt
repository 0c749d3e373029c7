-- The end of a tick's entries: what bridges handed on has left them, and what waits is what came.
use Rattle.std.proofs.Common.{ℕ, zero, suc, ◌≡◌, ◌==◌, ◌∙◌, ◌+◌, ◌*◌, ◌-◌, ◌<◌, ◌≤◌, not, false, List, []}
use Rattle.std.proofs.Common.{◌∷◌, ◌++◌, length, filter, refl, sym, ap, arith, subst, None, append_assoc}
use Rattle.std.specs.Prelude.{slice_get, replicate}
use Rattle.std.proofs.Math.Nat.{mul-le-mul_right}
use Rattle.std.proofs.lemmas.List.{replicate_more}
use Rattle.std.proofs.lemmas.Option.{slice_get_past}
use Rattle.pre_topo.specs.declared.network.Network.{Network}
use Rattle.pre_streams.specs.declared.rows.Streams.{Streams}
use Rattle.pre_history.specs.Scenario.{Scenario}
use Rattle.pre_history.specs.Moments.{Phase, moments}
use Rattle.pre_history.specs.Placed.{AllAt, AllWithin, AreLater, IsAt, IsWithin, number, moment_of}
use Rattle.pre_history.specs.History.{Begin, History}
use Rattle.pre_history.specs.Queries.{Begins, Ends, Arrivals}
use Rattle.pre_history.specs.Rules.{HappensIn}
use Rattle.pre_history.specs.Legal.{LegalUpTo}
use Rattle.pre_history.proofs.Placing.{phase_events}
use Rattle.pre_history.proofs.Turns.{same_begins, same_ends, same_arrivals}
use Rattle.pre_bridge.specs.declared.relays.Relay.{Relay}
use Rattle.pre_bridge.specs.Inside.{Call, Entry, taken, inside, leaving, is_due, of_arc}
use Rattle.pre_bridge.specs.Turns.{dues}
use Rattle.pre_bridge.specs.Relays.{Stands}
use Rattle.pre_outgoing.specs.declared.outgoing.Outgoing.{Outgoing}
use Rattle.pre_outgoing.specs.Sends.{Sends}
use Rattle.pre_outgoing.proofs.Keeping.{entries_come}
use Rattle.pre_incoming.specs.declared.incomings.Incoming.{Incoming}
use Rattle.pre_incoming.specs.Wires.{Receives}
use Rattle.pre_incoming.proofs.OnAir.{others_stay}
use Rattle.pre_links.specs.declared.partners.Partner.{Partner}
use Rattle.pre_links.specs.declared.links.Link.{Link}
use Rattle.pre_links.specs.Listening.{Hears}
use Rattle.pre_links.specs.Standing.{LinkStands}
use Rattle.pre_links.proofs.Phases.{still_hears, still_stands}
use Rattle.pre_links.proofs.Early.{behind}
use Rattle.pre_sim.specs.declared.lanes.Lane.{Lane}
use Rattle.pre_sim.specs.Stages.{settled, entered}
use Rattle.pre_sim.specs.Stands.{AreInside, AreRings, RingsStand, LaneStands, LanesStand}
use Rattle.pre_sim.specs.Sends.{SameButRings, AreSameButRings}
use Rattle.pre_sim.proofs.Lists.{every_weaker, within, filter_swap}
use Rattle.pre_sim.proofs.Others.{same_active}
use Rattle.pre_sim.proofs.StageTests.{is_settled, is_entered}
use Rattle.pre_sim.proofs.EntriesInside.{arrivals_rise, settled_inside, left_of}
use Rattle.pre_sim.proofs.EntriesTakes.{take_none}

-- ---- what takes leave inside the bridges

-- what is known of all takes at a tick
pub record LeftLaws : Type 0 where
  pub each : (relay : Relay) (net : Network) (streams : Streams) (calls : List Call) (t k : ℕ) → Stands relay net streams calls
      → leaving t (inside net streams (calls ++ replicate k (taken t))) ≡ slice_get (dues t (length net.arcs) (inside net streams calls)) k
  pub left : (relay : Relay) (net : Network) (streams : Streams) (calls : List Call) (t : ℕ) → Stands relay net streams calls
      → inside net streams (calls ++ replicate (length (dues t (length net.arcs) (inside net streams calls))) (taken t)) ≡ filter (λ entry. not (is_due t entry)) (inside net streams calls)

module _ (laws : LeftLaws) (relay : Relay) (net : Network) (streams : Streams) (calls : List Call) (t : ℕ) (stands : Stands relay net streams calls) where
  abbrev all : ℕ
  all = length (dues t (length net.arcs) (inside net streams calls))

  -- further takes give none
  left_after : (m : ℕ) → inside net streams (calls ++ replicate (all + m) (taken t)) ≡ left_of t (inside net streams calls)
  left_after zero = let same : all + 0 ≡ all = omega arith in ap (λ n. inside net streams (calls ++ replicate n (taken t))) same ∙ laws.left relay net streams calls t stands
  left_after (suc m) =
      let next : all + suc m ≡ all + m + 1 = omega arith in
      let none : leaving t (inside net streams (calls ++ replicate (all + m) (taken t))) ≡ None =
      laws.each relay net streams calls t (all + m) stands ∙ slice_get_past (dues t (length net.arcs) (inside net streams calls)) (all + m) (omega arith) in
      let split : calls ++ replicate (all + suc m) (taken t) ≡ (calls ++ replicate (all + m) (taken t)) ++ taken t ∷ [] =
      ap (λ n. calls ++ replicate n (taken t)) next ∙ (ap (λ xs. calls ++ xs) (sym (replicate_more (all + m) (taken t))) ∙ sym (append_assoc calls (replicate (all + m) (taken t)) (taken t ∷ []))) in
      ap (inside net streams) split ∙ (take_none net streams (calls ++ replicate (all + m) (taken t)) t none ∙ left_after m)

  -- so many takes leave what isn't due
  pub left_inside : (n : ℕ) → all ≤ n → inside net streams (calls ++ replicate n (taken t)) ≡ left_of t (inside net streams calls)
  left_inside n le = let same : n ≡ all + (n - all) = omega (arith, le) in ap (λ m. inside net streams (calls ++ replicate m (taken t))) same ∙ left_after (n - all)

-- ---- what the lanes say

-- the entries of a tick are later than the starts of an earlier one
starts_over : (arcs u t : ℕ) → u < t → number arcs u (2 + 3 * arcs + 0) ≤ number arcs t (1 + 3 * arcs)
starts_over arcs u t lt = let reach : (u + 1) * moments arcs ≤ t * moments arcs = mul-le-mul_right (moments arcs) (omega (arith, lt)) in omega (arith, reach)

module _ (w : Scenario) (t : ℕ) (h es : History) (legal : LegalUpTo w (moment_of w t Phase.entries) h) (happens : HappensIn w h t Phase.entries es) where
  abbrev A : ℕ
  A = length w.net.arcs

  abbrev k : ℕ
  k = 1 + 3 * A

  at : AllAt A (number A t k) es
  at = phase_events w h t k Phase.entries es refl happens

  within_one : AllWithin A (number A t k) (suc (number A t k)) es
  within_one = every_weaker (IsAt A (number A t k)) (IsWithin A (number A t k) (suc (number A t k))) (λ e here. (number A t k, omega arith, omega arith, here)) es at

  later : (u : ℕ) → u < t → AreLater w u es
  later u lt =
      let over = starts_over A u t lt in
      (suc (number A t k), every_weaker (IsAt A (number A t k)) (IsWithin A (number A u (2 + 3 * A + 0)) (suc (number A t k))) (λ e here. (number A t k, over, omega arith, here)) es at)

  module _ (a : ℕ) (a_lt : a < A) where
    k_lt : k < moments A
    k_lt = omega arith

    begins : Begins (h ++ es) a ≡ Begins h a
    begins = same_begins A t k a k_lt a_lt h es (omega arith) at

    ends : Ends (h ++ es) a ≡ Ends h a
    ends = same_ends A t k a k_lt a_lt h es (omega (arith, a_lt)) at

    arrivals : Arrivals (h ++ es) a ≡ Arrivals h a
    arrivals = same_arrivals A t k a k_lt a_lt h es (omega (arith, a_lt)) at

    -- the lane of an arc, of which only the rings changed
    all_entered : (was lane : Lane) (items : List Entry) → SameButRings was lane → AreRings w (h ++ es) a lane.rings → LaneStands w h a (settled t) was items
        → LaneStands w (h ++ es) a (entered t) lane (left_of t items)
    all_entered was lane items same rings is = record {
      rings = rings;
      outgoing = subst (λ (o : Outgoing). Sends w (h ++ es) a t false o) (sym same.outgoing)
          (entries_come w h es a t was.outgoing begins ends later (λ u lt. same_active A t k a k_lt a_lt w u h es (omega (arith, a_lt)) at) is.outgoing);
      incoming = subst (λ (x : Incoming). Receives w (h ++ es) a x) (sym same.incoming)
          (others_stay w (number A t k) (suc (number A t k)) h es legal within_one a a_lt was.incoming
          (same_ends A t k a k_lt a_lt [] es (omega (arith, a_lt)) at) (same_arrivals A t k a k_lt a_lt [] es (omega (arith, a_lt)) at) is.incoming);
      partner = subst (λ (x : Partner). Hears w (h ++ es) a x) (sym same.partner) (still_hears w t Phase.entries h es a a_lt refl legal happens was.partner (omega (arith, a_lt)) is.partner);
      setting = same.setting ∙ is.setting;
      link = λ negotiates. subst (λ (x : Link). LinkStands w (h ++ es) a (t + 1) x) (sym same.link)
          (still_stands w t Phase.entries h es a a_lt refl legal happens (t + 1) was.link (λ i lt. behind A i t k (omega arith) lt) (omega (arith, a_lt)) (omega (arith, a_lt)) (is.link negotiates));
      inside = subst (λ xs. AreInside w a (Begins (h ++ es) a) xs (t + 1) (left_of t items)) (sym arrivals)
          (subst (λ (bs : List Begin). AreInside w a bs (Arrivals h a) (t + 1) (left_of t items)) (sym begins)
          (settled_inside w a t (Begins h a) (Arrivals h a) items (arrivals_rise w (number A t k) h a a_lt legal) is.inside));
    }

  -- the lanes of all arcs
  pub lanes_entered : (old new : List Lane) (entries : List Entry) → length old ≡ A → AreSameButRings old new → RingsStand w (h ++ es) new → LanesStand w h t (1 + 3 * A) old entries
      → LanesStand w (h ++ es) t (2 + 3 * A) new (left_of t entries)
  lanes_entered old new entries many others rings stand a lane here =
      let was = others a lane here in
      let a_lt : a < A = omega (arith, within old a was.0 was.1, many) in
      let before = subst (λ s. LaneStands w h a s was.0 (of_arc a entries)) (is_settled A t k a (omega (arith, a_lt)) (omega arith)) (stand a was.0 was.1) in
      subst (λ s. LaneStands w (h ++ es) a s lane (of_arc a (left_of t entries))) (sym (is_entered A t (2 + 3 * A) a a_lt (omega arith) (omega arith)))
      (subst (LaneStands w (h ++ es) a (entered t) lane) (filter_swap (λ e. not (is_due t e)) (λ e. e.arc == a) entries)
      (all_entered a a_lt was.0 lane (of_arc a entries) was.2 (rings a lane here) before))
