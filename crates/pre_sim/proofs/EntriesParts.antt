-- The entries of a tick carry a legal history on: what bridges hand on, and then what is sent.
use Rattle.std.proofs.Common.{ℕ, suc, ◌≡◌, ◌+◌, ◌*◌, ◌<◌, ◌≤◌, List, ◌++◌, length, drop, sym, ◌∙◌, ap, inl, inr, arith, subst, append_assoc}
use Rattle.std.specs.Prelude.{Result, replicate}
use Rattle.std.proofs.lemmas.Bool.{cases_lt}
use Rattle.std.proofs.lemmas.List.{append-nil, length-append}
use Rattle.std.proofs.lemmas.List.Elements.{filter_map-append}
use Rattle.pre_topo.specs.declared.network.Network.{Network}
use Rattle.pre_history.specs.Scenario.{Scenario, send, no_send}
use Rattle.pre_history.specs.Moments.{Phase}
use Rattle.pre_history.specs.History.{History}
use Rattle.pre_history.specs.Selected.{delivery_of, is_dropped}
use Rattle.pre_history.specs.Queries.{Begins, Arrivals, Deliveries}
use Rattle.pre_history.specs.Placed.{number}
use Rattle.pre_history.specs.Comings.{Coming, sends_from, Comings, EntriesOf}
use Rattle.pre_history.specs.Rules.{HappensIn}
use Rattle.pre_history.specs.Legal.{LegalBefore}
use Rattle.pre_history.proofs.Moments.{entries_place}
use Rattle.pre_history.proofs.Placing.{placed}
use Rattle.pre_laws.proofs.Fitting.{is_routed}
use Rattle.pre_laws.proofs.RingsOnce.{come_once}
use Rattle.pre_incoming.proofs.Goings.{elsewhere}
use Rattle.pre_bridge.specs.declared.relays.Relay.{Relay}
use Rattle.pre_bridge.specs.Inside.{Call, Entry, taken, inside, of_arc}
use Rattle.pre_bridge.specs.Turns.{dues}
use Rattle.pre_bridge.specs.Relays.{Stands}
use Rattle.pre_sim.specs.declared.halts.Halt.{Halt}
use Rattle.pre_sim.specs.declared.ticks.Progress.{Progress}
use Rattle.pre_sim.specs.Telling.{TellsAll}
use Rattle.pre_sim.specs.Reach.{AllFit}
use Rattle.pre_sim.specs.Stages.{turn_at}
use Rattle.pre_sim.specs.Parts.{TellsPart, NoArrival, LegalAt, IsFront, SendsPart, SendsFront, EntriesPart, EntriesFront}
use Rattle.pre_sim.specs.Stands.{AreInside, RingsStand, LanesStand, AreSentBefore}
use Rattle.pre_sim.specs.Sends.{BeforeEntries, AreNew, ComesPart, ComesFront, RelaysPart, RelaysFront, handed_on, sent_frames}
use Rattle.pre_sim.proofs.Lists.{there, count_by-append}
use Rattle.pre_sim.proofs.NumberTests.{adds}
use Rattle.pre_sim.proofs.StageTests.{is_settled}
use Rattle.pre_sim.proofs.Told.{Takes, Fails}
use Rattle.pre_sim.proofs.TellParts.{then_part}
use Rattle.pre_sim.proofs.EntriesEarly.{early_before}
use Rattle.pre_sim.proofs.EntriesInside.{AreRising, arrivals_rise, left_of}
use Rattle.pre_sim.proofs.EntriesLeft.{LeftLaws, left_inside, lanes_entered}
use Rattle.pre_sim.proofs.EntriesNew.{are_new, entries_then}
use Rattle.pre_sim.proofs.EntriesRun.{come_then, front_then, front_more}
use Rattle.pre_sim.proofs.EntriesSends.{comings_are, few_handed, passed, none_left, next_sends}

pub entries_happen : (w : Scenario) (t : ℕ) (h es : History) → es ≡ EntriesOf w t h (Comings w h t) → HappensIn w h t Phase.entries es
unfolding HappensIn
entries_happen w t h es is = is

module _ (w : Scenario) (fit : AllFit w.net w.streams w.script) (t : ℕ) (old : Progress) (many : length old.lanes.items ≡ length w.net.arcs) where
  abbrev A : ℕ
  A = length w.net.arcs

  module _ (h : History) (calls : List Call) (legal : LegalAt w t (1 + 3 * A) h) (stand : LanesStand w h t (1 + 3 * A) old.lanes.items (inside w.net w.streams calls))
      (sent_before : AreSentBefore w t old.sent) where
    abbrev entries : List Entry
    entries = inside w.net w.streams calls

    early : BeforeEntries t h
    early = early_before A t h (placed w (number A t (1 + 3 * A)) h legal.0)

    rings : RingsStand w h old.lanes.items
    rings a lane at = (stand a lane at).rings

    rise : (a : ℕ) → a < A → AreRising (Arrivals h a)
    rise a lt = arrivals_rise w (number A t (1 + 3 * A)) h a lt legal.0

    inside_at : (a : ℕ) → a < A → AreInside w a (Begins h a) (Arrivals h a) t (of_arc a entries)
    inside_at a lt =
        let lane = there old.lanes.items a (omega (arith, lt, many)) in
        subst (λ s. AreInside w a (Begins h a) (Arrivals h a) (turn_at s) (of_arc a entries)) (is_settled A t (1 + 3 * A) a (omega (arith, lt)) (omega arith)) (stand a lane.0 lane.1).inside

    all_comings : Comings w h t ≡ handed_on w t entries ++ sends_from w t old.sent (drop old.sent w.script.sends)
    all_comings =
        let counted : 0 + old.sent ≡ old.sent = omega arith in
        comings_are w h t entries rise inside_at
        ∙ ap (λ cs. handed_on w t entries ++ cs) (passed w t 0 old.sent w.script.sends sent_before.within sent_before.past ∙ ap (λ n. sends_from w t n (drop old.sent w.script.sends)) counted)

    few : length (dues t A entries) ≤ A
    few = few_handed w h t entries rise inside_at

    all_new : AreNew w h (Comings w h t)
    all_new = are_new w h (Comings w h t) (come_once w (is_routed w fit.streams_fit fit.script_fits) t h legal)

    legal_on : (es : History) → es ≡ EntriesOf w t h (Comings w h t) → LegalAt w t (2 + 3 * A) (h ++ es)
    legal_on es is =
        subst (LegalBefore w (h ++ es)) (next A t) (elsewhere w h es t (1 + 3 * A) Phase.entries (omega arith) (entries_place A) legal (entries_happen w t h es is) (λ b e. absurd (cc e)))
      where
        next : (A t : ℕ) → suc (number A t (1 + 3 * A)) ≡ number A t (2 + 3 * A)
        next A t = omega arith

    -- some of what becomes of them is a front
    some_front : (cs : List Coming) → Comings w h t ≡ cs → (es : History) → ComesFront w t cs old.lanes.items es → IsFront w (h ++ es)
    some_front cs is es front =
        let f = front h (subst (AreNew w h) is all_new) rings early in
        let more = EntriesOf w t (h ++ es) f.1 in
        let whole : es ++ more ≡ EntriesOf w t h (Comings w h t) =
        (ap (λ g. g ++ EntriesOf w t (h ++ g) f.1) f.3) ∙ (sym (entries_then w t h f.0 f.1) ∙ ap (EntriesOf w t h) (sym f.2 ∙ sym is)) in
        (number A t (2 + 3 * A), more, subst (λ g. LegalAt w t (2 + 3 * A) g) (sym (append_assoc h es more)) (legal_on (es ++ more) whole))

  -- the bridges handed on some
  pub relays_front : (es : History) → RelaysFront w t old.relay old.lanes.items es → EntriesFront w t old es
  relays_front es front h calls legal stands stand sent_before =
      let cs = handed_on w t (inside w.net w.streams calls) in
      some_front h calls legal stand sent_before (cs ++ sends_from w t old.sent (drop old.sent w.script.sends)) (all_comings h calls legal stand sent_before) es
      (front_more w t old.lanes.items cs (sends_from w t old.sent (drop old.sent w.script.sends)) es (front calls stands))

  module _ (mid : Progress) (lost : ℕ) (es : History) (first : RelaysPart w t old.relay old.lanes.items mid.relay mid.lanes.items lost es) (same_sent : mid.sent ≡ old.sent) where
    -- and then some were sent
    pub sends_front : (fs : History) → SendsFront w t mid fs → EntriesFront w t old (es ++ fs)
    sends_front fs (count, within, now, front) h calls legal stands stand sent_before =
        let handed = handed_on w t (inside w.net w.streams calls) in
        let frames = sent_frames w mid.sent count in
        let rest = sends_from w t (mid.sent + count) (drop (mid.sent + count) w.script.sends) in
        let split : sends_from w t old.sent (drop old.sent w.script.sends) ≡ frames ++ rest = ap (λ n. sends_from w t n (drop n w.script.sends)) (sym same_sent)
        ∙ next_sends w t mid.sent count within now in
        let all : Comings w h t ≡ (handed ++ frames) ++ rest = all_comings h calls legal stand sent_before ∙ (ap (λ cs. handed ++ cs) split ∙ sym (append_assoc handed frames rest)) in
        some_front h calls legal stand sent_before ((handed ++ frames) ++ rest) all (es ++ fs)
        (front_more w t old.lanes.items (handed ++ frames) rest (es ++ fs) (front_then w t old.lanes.items handed frames mid.lanes.items lost es (first.come calls stands) fs front))

    module _ (new : Progress) (fs : History) (second : SendsPart w t mid new fs) where
      abbrev cs : List Entry → List Coming
      cs entries = handed_on w t entries ++ sent_frames w mid.sent second.count

      whole : (calls : List Call) → Stands old.relay w.net w.streams calls → ComesPart w t (cs (inside w.net w.streams calls)) old.lanes.items new.lanes.items (lost + second.lost) (es ++ fs)
      whole calls stands = come_then w t old.lanes.items (handed_on w t (inside w.net w.streams calls)) (sent_frames w mid.sent second.count) mid.lanes.items lost es
          (first.come calls stands) new.lanes.items second.lost fs second.part

      module _ (sent_before : AreSentBefore w t old.sent) where
        sent_within : new.sent ≤ length w.script.sends
        sent_within = second.within (omega (arith, same_sent, sent_before.within))

        after : (i : ℕ) → new.sent ≤ i → i < length w.script.sends → t < (send w i).send.tick.0
        after i le lt =
            let k_lt : new.sent < length w.script.sends = omega (arith, le, lt) in
            let from : old.sent ≤ new.sent = omega (arith, second.sent, same_sent) in
            let first' : t ≤ (send w new.sent).send.tick.0 = sent_before.later new.sent from k_lt in
            let other = second.over k_lt in
            let beyond : t < (send w new.sent).send.tick.0 = omega (arith, first', other) in
            elim (cases_lt new.sent i) [
              | inl less ↦ let order : (send w new.sent).send.tick.0 ≤ (send w i).send.tick.0 = fit.script_fits.sends_order new.sent i no_send less lt in omega (arith, beyond, order)
              | inr more ↦ let same : new.sent ≡ i = omega (arith, le, more) in subst (λ j. t < (send w j).send.tick.0) same beyond
            ]

        past : (i : ℕ) → i < new.sent → (send w i).send.tick.0 < t + 1
        past i lt = elim (cases_lt i old.sent) [
          | inl less ↦ let gone = sent_before.past i less in omega (arith, gone)
          | inr more ↦ let here = second.now i (omega (arith, more, same_sent)) lt in omega (arith, here)
        ]

        all_sent : AreSentBefore w (t + 1) new.sent
        all_sent = record { within = sent_within; past = past; later = λ i le lt. let far = after i le lt in omega (arith, far) }

        sends_are : sends_from w t old.sent (drop old.sent w.script.sends) ≡ sent_frames w mid.sent second.count
        sends_are =
            let end : mid.sent + second.count ≡ new.sent = sym second.sent in
            ap (λ n. sends_from w t n (drop n w.script.sends)) (sym same_sent)
            ∙ (next_sends w t mid.sent second.count (omega (arith, end, sent_within)) (λ k low high. second.now k low (omega (arith, high, end)))
            ∙ (ap (λ n. sent_frames w mid.sent second.count ++ sends_from w t n (drop n w.script.sends)) end
            ∙ (ap (λ xs. sent_frames w mid.sent second.count ++ xs) (none_left w t new.sent new.sent w.script.sends after) ∙ append-nil (sent_frames w mid.sent second.count))))

      -- the frames inside behind it
      all_left : LeftLaws → (h : History) (calls : List Call) → LegalAt w t (1 + 3 * A) h → LanesStand w h t (1 + 3 * A) old.lanes.items (inside w.net w.streams calls)
          → AreSentBefore w t old.sent → Stands old.relay w.net w.streams calls
          → LanesStand w (h ++ (es ++ fs)) t (2 + 3 * A) new.lanes.items (left_of t (inside w.net w.streams calls))
          → (calls' : List Call) × Stands new.relay w.net w.streams calls' × LanesStand w (h ++ (es ++ fs)) t (2 + 3 * A) new.lanes.items (inside w.net w.streams calls')
      all_left left_laws h calls legal stand sent_before stands lanes =
          let left = first.left calls stands in
          let few_of : length (dues t A (inside w.net w.streams calls)) ≤ A = few h calls legal stand sent_before in
          let enough : length (dues t A (inside w.net w.streams calls)) ≤ left.0 = omega (arith, left.2, few_of) in
          let now : inside w.net w.streams (calls ++ replicate left.0 (taken t)) ≡ left_of t (inside w.net w.streams calls) =
          left_inside left_laws old.relay w.net w.streams calls t stands left.0 enough in (
            calls ++ replicate left.0 (taken t),
            subst (λ (r : Relay). Stands r w.net w.streams (calls ++ replicate left.0 (taken t))) (sym second.relay) left.1,
            subst (λ xs. LanesStand w (h ++ (es ++ fs)) t (2 + 3 * A) new.lanes.items xs) (sym now) lanes,
          )

      pub entries_part : LeftLaws → mid.dropped ≡ old.dropped + lost → mid.delivered ≡ old.delivered → mid.set ≡ old.set → EntriesPart w t old new (es ++ fs)
      entries_part left_laws dropped delivered set = record {
        deliveries = ap length (filter_map-append delivery_of es fs) ∙ (length-append (Deliveries es) (Deliveries fs) ∙ adds first.deliveries second.part.deliveries);
        drops = omega (arith, dropped, second.dropped, first.drops, second.part.drops, count_by-append is_dropped es fs);
        delivered = second.delivered ∙ delivered;
        set = second.set ∙ set;
        legal = λ h calls legal stands stand sent_before.
            let all : Comings w h t ≡ cs (inside w.net w.streams calls) = all_comings h calls legal stand sent_before
            ∙ ap (λ xs. handed_on w t (inside w.net w.streams calls) ++ xs) (sends_are sent_before) in
            let comes = whole calls stands in
            let done = comes.come h (subst (AreNew w h) all (all_new h calls legal stand sent_before)) (rings h calls legal stand sent_before) (early h calls legal stand sent_before) in
            let told : es ++ fs ≡ EntriesOf w t h (Comings w h t) = done.0 ∙ ap (EntriesOf w t h) (sym all) in
            let lanes = lanes_entered w t h (es ++ fs) legal.0 (entries_happen w t h (es ++ fs) told) old.lanes.items new.lanes.items (inside w.net w.streams calls) many comes.others done.1 stand in
            (legal_on h calls legal stand sent_before (es ++ fs) told, all_sent sent_before, all_left left_laws h calls legal stand sent_before stands lanes);
      }

-- the sends after what bridges handed on, however they ended
module _ (left_laws : LeftLaws) (w : Scenario) (fit : AllFit w.net w.streams w.script) (t : ℕ) (old mid new : Progress) {T : Type 0} (net : Network) (r : Result T Halt) (a b c : Takes)
    (torn : Fails) where
  pub entries_told : TellsPart net r b c torn (λ x fs. SendsPart w t mid new fs) (SendsFront w t mid) NoArrival → length old.lanes.items ≡ length w.net.arcs → (lost : ℕ) (es : History)
      → TellsAll net a b es
      → RelaysPart w t old.relay old.lanes.items mid.relay mid.lanes.items lost es → mid.sent ≡ old.sent → mid.dropped ≡ old.dropped + lost → mid.delivered ≡ old.delivered → mid.set ≡ old.set
      → TellsPart net r a c torn (λ x fs. EntriesPart w t old new fs) (EntriesFront w t old) NoArrival
  entries_told told many lost es before first sent dropped delivered set =
      then_part net r a b c torn es (λ x fs. SendsPart w t mid new fs) (λ x fs. EntriesPart w t old new fs) (SendsFront w t mid) (EntriesFront w t old) NoArrival before told
      (λ x fs next. entries_part w fit t old many mid lost es first sent new fs next left_laws dropped delivered set)
      (λ fs front. sends_front w fit t old many mid lost es first sent fs front)
