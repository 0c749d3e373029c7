-- The parts of a tick, one after another.
use Rattle.std.proofs.Common.{ℕ, ◌≡◌, ◌+◌, ◌*◌, ◌<◌, ◌≤◌, Bool, List, [], ◌++◌, length, refl, sym, ◌∙◌, ap, arith, subst, length-append, append_assoc}
use Rattle.std.specs.Prelude.{count_by, if◌then◌else◌}
use Rattle.std.proofs.lemmas.List.{append-nil}
use Rattle.std.proofs.lemmas.List.Elements.{filter_map-append}
use Rattle.pre_history.specs.Scenario.{Scenario}
use Rattle.pre_history.specs.Moments.{moments}
use Rattle.pre_history.specs.Placed.{number}
use Rattle.pre_history.specs.History.{History}
use Rattle.pre_history.specs.Selected.{delivery_of, is_dropped}
use Rattle.pre_history.specs.Queries.{Deliveries}
use Rattle.pre_history.specs.Legal.{LegalBefore}
use Rattle.pre_bridge.specs.declared.relays.Relay.{Relay}
use Rattle.pre_bridge.specs.Inside.{Call, Entry, inside, of_arc}
use Rattle.pre_bridge.specs.Relays.{Stands}
use Rattle.pre_sim.specs.Keeps.{Store, Keeps, IsKept}
use Rattle.pre_sim.specs.declared.lanes.Lane.{Lane}
use Rattle.pre_sim.specs.declared.ticks.Progress.{Progress}
use Rattle.pre_sim.specs.Stages.{stage_at}
use Rattle.pre_sim.specs.Stands.{LaneStands, LanesStand, AreSentBefore, AreSetBefore, Reaches, sends_turn}
use Rattle.pre_sim.specs.Parts.{LegalAt, IsFront, LanesPart, LanesFront, EntriesPart, EntriesFront, Carries, CarriesFront}
use Rattle.pre_sim.proofs.Lists.{count_by-append, within}
use Rattle.pre_sim.proofs.NumberTests.{adds, is_le}
use Rattle.pre_sim.proofs.StageTests.{next_tick, set_over, sends_here}

-- ---- one part after another

module _ (w : Scenario) (t k t' k' : ℕ) (old mid : Progress) (es fs : History) (first : Carries w t k t' k' old mid es) where
  pub carries_on : (t'' k'' : ℕ) (new : Progress) → Carries w t' k' t'' k'' mid new fs → Carries w t k t'' k'' old new (es ++ fs)
  carries_on t'' k'' new second h r = subst (λ g. Reaches w t'' k'' g new) (append_assoc h es fs) (second (h ++ es) (first h r))

  pub carries_front : CarriesFront w t' k' mid fs → CarriesFront w t k old (es ++ fs)
  carries_front front h r = subst (IsFront w) (append_assoc h es fs) (front (h ++ es) (first h r))

-- ---- the entries and starts of a tick

module _ (w : Scenario) (t : ℕ) where
  abbrev A : ℕ
  A = length w.net.arcs

  sends_next : sends_turn A (t + 1) 0 ≡ t + 1
  sends_next = ap (λ (b : Bool). if b then t + 1 else t + 1 + 1) (is_le 0 (1 + 3 * A) (omega arith))

  -- at the end of a tick the lanes are at the next one
  next_lanes : (h : History) (lanes : List Lane) (entries : List Entry) → length lanes ≤ A → LanesStand w h t (2 + 3 * A + A) lanes entries → LanesStand w h (t + 1) 0 lanes entries
  next_lanes h lanes entries few stand a lane at =
      let lt : a < A = omega (arith, within lanes a lane at, few) in
      subst (λ s. LaneStands w h a s lane (of_arc a entries)) (ap (λ k. stage_at A t k a) (whole A) ∙ next_tick A t a lt) (stand a lane at)
    where
      whole : (A : ℕ) → 2 + 3 * A + A ≡ 2 + 4 * A
      whole A = omega arith

  pub entries_front : (old : Progress) (es : History) → EntriesFront w t old es → CarriesFront w t (1 + 3 * A) old es
  entries_front old es front h r = front h r.calls r.legal r.relay r.lanes (subst (λ n. AreSentBefore w n old.sent) (sends_here A t) r.sends)

  module _ (old mid : Progress) (c e : List Lane) (es fs : History) (first : EntriesPart w t old mid es) (is_c : c ≡ mid.lanes.items) where
    entered : (h : History) → Reaches w t (1 + 3 * A) h old → LegalAt w t (2 + 3 * A) (h ++ es) × AreSentBefore w (t + 1) mid.sent
        × ((calls : List Call) × Stands mid.relay w.net w.streams calls × LanesStand w (h ++ es) t (2 + 3 * A) c (inside w.net w.streams calls))
    entered h r =
        let done = first.legal h r.calls r.legal r.relay r.lanes (subst (λ n. AreSentBefore w n old.sent) (sends_here A t) r.sends) in
        (done.0, done.1, (done.2.0, done.2.1, subst (λ ls. LanesStand w (h ++ es) t (2 + 3 * A) ls (inside w.net w.streams done.2.0)) (sym is_c) done.2.2))

    pub left : (new : Progress) (store : Store) → length e ≤ A → LanesPart w t (2 + 3 * A) A 0 store store c e [] fs → new.lanes.items ≡ e → new.relay ≡ mid.relay → new.sent ≡ mid.sent
        → new.set ≡ mid.set
        → new.dropped ≡ mid.dropped → new.delivered ≡ mid.delivered → Carries w t (1 + 3 * A) (t + 1) 0 old new (es ++ fs)
    left new store few second is_new relay sent set dropped delivered h r =
        let one = entered h r in
        let calls = one.2.0 in
        let entries = inside w.net w.streams calls in
        let two = second.legal (h ++ es) entries one.0 one.2.2 in
        let legal : LegalAt w (t + 1) 0 ((h ++ es) ++ fs) = subst (LegalBefore w ((h ++ es) ++ fs)) (next t A) two.0 in
        let all : length (Deliveries ((h ++ es) ++ fs)) ≡ length (Deliveries h) + 0 + 0 =
        ap length (filter_map-append delivery_of (h ++ es) fs) ∙ (length-append (Deliveries (h ++ es)) (Deliveries fs)
        ∙ adds (ap length (filter_map-append delivery_of h es) ∙ (length-append (Deliveries h) (Deliveries es) ∙ adds refl first.deliveries)) second.deliveries) in
        let drops : count_by is_dropped ((h ++ es) ++ fs) ≡ (count_by is_dropped h + count_by is_dropped es) + 0 =
        count_by-append is_dropped (h ++ es) fs ∙ adds (count_by-append is_dropped h es) second.drops in
        let stand : LanesStand w ((h ++ es) ++ fs) t (2 + 3 * A + A) e entries = subst (LanesStand w ((h ++ es) ++ fs) t (2 + 3 * A + A) e) (append-nil entries) two.1 in
        subst (λ g. Reaches w (t + 1) 0 g new) (append_assoc h es fs) (record {
          legal = legal;
          calls = calls;
          relay = subst (λ (x : Relay). Stands x w.net w.streams calls) (sym relay) one.2.1;
          lanes = subst (λ ls. LanesStand w ((h ++ es) ++ fs) (t + 1) 0 ls entries) (sym is_new) (next_lanes ((h ++ es) ++ fs) e entries few stand);
          sets = subst (AreSetBefore w (t + 1)) (sym (set ∙ first.set)) (subst (λ n. AreSetBefore w n old.set) (set_over A t) r.sets);
          sends = subst (λ n. AreSentBefore w n new.sent) (sym sends_next) (subst (AreSentBefore w (t + 1)) (sym sent) one.1);
          deliveries = omega (arith, all, delivered, first.delivered, r.deliveries);
          drops = omega (arith, drops, dropped, first.drops, r.drops);
        })
      where
        next : (t m : ℕ) → number m t (2 + 3 * m + m) ≡ number m (t + 1) 0
        next t m = let grows : (t + 1) * moments m ≡ t * moments m + moments m = omega arith in omega (arith, grows)

    pub left_front : LanesFront w t (2 + 3 * A) c fs → CarriesFront w t (1 + 3 * A) old (es ++ fs)
    left_front front h r = let one = entered h r in subst (IsFront w) (append_assoc h es fs) (front (h ++ es) (inside w.net w.streams one.2.0) one.0 one.2.2)

  -- after the starts each frame keeps a slot of its own
  pub left_kept : (mid new : Progress) (c e : List Lane) (fs : History) → c ≡ mid.lanes.items → LanesPart w t (2 + 3 * A) A 0 mid.store mid.store c e [] fs → new.lanes.items ≡ e
      → new.relay ≡ mid.relay → new.store ≡ mid.store
      → IsKept w t mid → IsKept w t new
  left_kept mid new c e fs is_c part is_new relay store kept =
      let entries = inside w.net w.streams kept.calls in
      let keeps = part.keeps entries (subst (λ ls. Keeps w mid.store ls entries []) (sym is_c) kept.keeps) in
      let here = subst (λ ls. Keeps w mid.store ls entries []) (sym is_new) (subst (λ xs. Keeps w mid.store e xs []) (append-nil entries) keeps) in
      record {
        calls = kept.calls;
        stands = subst (λ (x : Relay). Stands x w.net w.streams kept.calls) (sym relay) kept.stands;
        latest = subst (λ (x : Relay). x.latest.0 ≤ t) (sym relay) kept.latest;
        keeps = subst (λ s. Keeps w s new.lanes.items entries []) (sym store) here;
      }
