-- What is set, ends, arrives and expires at a tick, one part after another.
use Rattle.std.proofs.Common.{ℕ, ◌≡◌, ◌+◌, ◌*◌, ◌^◌, ◌-◌, ◌≤◌, Bool, List, [], ◌++◌, length, refl, sym, ◌∙◌, ap, arith, subst, length-append, append_assoc}
use Rattle.std.specs.Prelude.{count_by, min, if◌then◌else◌}
use Rattle.std.proofs.lemmas.List.{append-nil}
use Rattle.std.proofs.lemmas.List.Elements.{filter_map-append}
use Rattle.pre_history.specs.Scenario.{Scenario}
use Rattle.pre_history.specs.Placed.{number}
use Rattle.pre_history.specs.History.{History}
use Rattle.pre_history.specs.Selected.{delivery_of, is_dropped}
use Rattle.pre_history.specs.Queries.{Deliveries}
use Rattle.pre_history.specs.Deliveries.{DeliversOnce}
use Rattle.pre_history.specs.Legal.{LegalBefore, FirstAliasAt}
use Rattle.pre_bridge.specs.declared.relays.Relay.{Relay}
use Rattle.pre_bridge.specs.Inside.{Entry, inside}
use Rattle.pre_bridge.specs.Relays.{Stands}
use Rattle.pre_sim.specs.declared.lanes.Lane.{Lane}
use Rattle.pre_sim.specs.declared.ticks.Progress.{Progress}
use Rattle.pre_sim.specs.Keeps.{Store, Keeps, IsKept, TakesIn}
use Rattle.pre_sim.specs.Stands.{LanesStand, AreSentBefore, AreSetBefore, Reaches, sends_turn}
use Rattle.pre_sim.specs.Parts.{LegalAt, IsFront, LanesPart, LanesFront, LanesReached, SetsPart, SetsFront, ArrivalsAlias, Carries, CarriesFront, CarriesAlias, IsReached}
use Rattle.pre_sim.specs.Room.{ArrivalsReached}
use Rattle.pre_sim.proofs.SameCalls.{lanes_by}
use Rattle.pre_sim.proofs.Lists.{count_by-append}
use Rattle.pre_sim.proofs.NumberTests.{adds, is_le}
use Rattle.pre_sim.proofs.StageTests.{set_over, sends_here}
use Rattle.pre_sim.proofs.Delivered.{few_delivered}

pub twice : (n : ℕ) → 1 + 2 * n ≡ 1 + n + n
twice n = omega arith

pub thrice : (n : ℕ) → 1 + n + n + n ≡ 1 + 3 * n
thrice n = omega arith

module _ (w : Scenario) (t : ℕ) (old : Progress) where
  abbrev A : ℕ
  A = length w.net.arcs

  -- The events of the tick so far lead to place k of it: there the lanes are these, more is inside the bridges, and so many
  -- frames were delivered.
  pub record Leads (k set : ℕ) (store : Store) (lanes : List Lane) (more : List Entry) (delivered : ℕ) (es : History) : Type 0 where
    pub deliveries : length (Deliveries es) ≡ delivered
    pub drops : count_by is_dropped es ≡ 0
    pub legal : (h : History) (entries : List Entry) → LegalAt w t 0 h → LanesStand w h t 0 old.lanes.items entries → AreSetBefore w t old.set
        → LegalAt w t k (h ++ es) × LanesStand w (h ++ es) t k lanes (entries ++ more) × AreSetBefore w (t + 1) set
    pub keeps : (entries : List Entry) → Keeps w old.store old.lanes.items entries [] → Keeps w store lanes (entries ++ more) []

  -- what is set comes first
  pub sets_lead : (new : Progress) (es : History) → SetsPart w t old new es → Leads 1 new.set new.store new.lanes.items [] 0 es
  sets_lead new es part = record {
    deliveries = part.deliveries;
    drops = part.drops;
    legal = λ h entries legal stand sets.
        let one = part.legal h entries legal stand sets in
        (one.0, subst (LanesStand w (h ++ es) t 1 new.lanes.items) (sym (append-nil entries)) one.1, one.2);
    keeps = λ entries keeps. subst (λ xs. Keeps w new.store new.lanes.items xs []) (sym (append-nil entries))
        (subst (λ s. Keeps w s new.lanes.items entries []) (sym part.kept.1) (part.keeps entries keeps));
  }

  pub sets_front : (es : History) → SetsFront w t old es → CarriesFront w t 0 old es
  sets_front es front h r = front h (inside w.net w.streams r.calls) r.legal r.lanes r.sets

  module _ (k set : ℕ) (store : Store) (lanes : List Lane) (more : List Entry) (d : ℕ) (es : History) (so_far : Leads k set store lanes more d es) (from : List Lane) (is : from ≡ lanes) where
    -- there the history leads
    led : (h : History) (r : Reaches w t 0 h old) → LegalAt w t k (h ++ es) × LanesStand w (h ++ es) t k from (inside w.net w.streams r.calls ++ more)
    led h r =
        let entries = inside w.net w.streams r.calls in
        let one = so_far.legal h entries r.legal r.lanes r.sets in
        (one.0, subst (λ ls. LanesStand w (h ++ es) t k ls (entries ++ more)) (sym is) one.1)

    -- the parts of the arcs at the next phase
    pub lead_on : (n d' : ℕ) (store' : Store) (to : List Lane) (next : List Entry) (fs : History) → LanesPart w t k n d' store store' from to next fs
        → Leads (k + n) set store' to (more ++ next) (d + d') (es ++ fs)
    lead_on n d' store' to next fs part = record {
      deliveries = ap length (filter_map-append delivery_of es fs) ∙ (length-append (Deliveries es) (Deliveries fs) ∙ adds so_far.deliveries part.deliveries);
      drops = count_by-append is_dropped es fs ∙ adds so_far.drops part.drops;
      legal = λ h entries legal stand sets.
          let one = so_far.legal h entries legal stand sets in
          let two = part.legal (h ++ es) (entries ++ more) one.0 (subst (λ ls. LanesStand w (h ++ es) t k ls (entries ++ more)) (sym is) one.1) in (
            subst (LegalAt w t (k + n)) (append_assoc h es fs) two.0,
            subst (LanesStand w (h ++ (es ++ fs)) t (k + n) to) (append_assoc entries more next) (subst (λ g. LanesStand w g t (k + n) to ((entries ++ more) ++ next)) (append_assoc h es fs) two.1),
            one.2,
          );
      keeps = λ entries keeps. subst (λ xs. Keeps w store' to xs []) (append_assoc entries more next)
          (part.keeps (entries ++ more) (subst (λ ls. Keeps w store ls (entries ++ more) []) (sym is) (so_far.keeps entries keeps)));
    }

    pub lead_front : (fs : History) → LanesFront w t k from fs → CarriesFront w t 0 old (es ++ fs)
    lead_front fs front h r = let one = led h r in subst (IsFront w) (append_assoc h es fs) (front (h ++ es) (inside w.net w.streams r.calls ++ more) one.0 one.1)

    pub lead_alias : k ≡ 1 + A → (a i : ℕ) (fs : History) → ArrivalsAlias w t from a i fs → CarriesAlias w t 0 old a i (es ++ fs)
    lead_alias is_k a i fs alias h r =
        let one = led h r in
        let place : k ≡ 1 + A + 0 = omega (arith, is_k) in
        subst (λ g. FirstAliasAt w g t a i) (append_assoc h es fs)
        (alias (h ++ es) (inside w.net w.streams r.calls ++ more) (subst (λ m. LegalAt w t m (h ++ es)) place one.0)
        (subst (λ m. LanesStand w (h ++ es) t m from (inside w.net w.streams r.calls ++ more)) place one.1))

    pub lead_lanes : IsReached w t 0 old → LanesReached w t k from
    lead_lanes reached = let one = led reached.0 reached.1 in (reached.0 ++ es, inside w.net w.streams reached.1.calls ++ more, one.0, one.1)

    pub lead_reached : k ≡ 1 + A → (relay : Relay) → relay ≡ old.relay → more ≡ [] → IsReached w t 0 old → IsKept w t old → ArrivalsReached w t relay from store
    lead_reached is_k relay same none reached kept =
        let h = reached.0 ++ es in
        let one = led reached.0 reached.1 in
        let entries = inside w.net w.streams kept.calls in
        let behind : (xs : List Entry) → xs ++ more ≡ xs = λ xs. ap (λ ys. xs ++ ys) none ∙ append-nil xs in
        let stand : LanesStand w h t (1 + A) from (inside w.net w.streams reached.1.calls) =
        subst (λ m. LanesStand w h t m from (inside w.net w.streams reached.1.calls)) is_k (subst (LanesStand w h t k from) (behind (inside w.net w.streams reached.1.calls)) one.1) in
        record {
          history = h;
          calls = kept.calls;
          legal = subst (λ m. LegalAt w t m h) is_k one.0;
          relays = subst (λ (r : Relay). Stands r w.net w.streams kept.calls) (sym same) kept.stands;
          stand = lanes_by w h t (1 + A) old.relay from reached.1.calls kept.calls reached.1.relay kept.stands stand;
          keeps = subst (λ ls. Keeps w store ls entries []) (sym is) (subst (λ xs. Keeps w store lanes xs []) (behind entries) (so_far.keeps entries kept.keeps));
        }

  -- ---- at the expiries' end

  sends_first : sends_turn A t 0 ≡ t
  sends_first = ap (λ (b : Bool). if b then t else t + 1) (is_le 0 (1 + 3 * A) (omega arith))

  module _ (new : Progress) (k set : ℕ) (lanes : List Lane) (more : List Entry) (d : ℕ) (es : History) (lead : Leads k set new.store lanes more d es) (whole : k ≡ 1 + 3 * A)
      (takes : TakesIn w old.relay new.relay more) (is : new.lanes.items ≡ lanes) where
    pub landed : new.sent ≡ old.sent → new.set ≡ set → new.dropped ≡ old.dropped → (now here : ℕ) → now ≡ old.delivered → d ≡ here → new.delivered ≡ min (now + here) (2 ^ 64 - 1)
        → length w.script.sends ≤ 100000
        → ((n : ℕ) (h : History) → LegalBefore w h n → DeliversOnce w h) → Carries w t 0 t (1 + 3 * A) old new es
    landed sent is_set dropped now here was is_here delivered sends once h r =
        let one = led k set new.store lanes more d es lead lanes refl h r in
        let taken = takes r.calls r.relay in
        let legal : LegalAt w t (1 + 3 * A) (h ++ es) = subst (λ m. LegalAt w t m (h ++ es)) whole one.0 in
        let stand : LanesStand w (h ++ es) t (1 + 3 * A) lanes (inside w.net w.streams r.calls ++ more) =
        subst (λ m. LanesStand w (h ++ es) t m lanes (inside w.net w.streams r.calls ++ more)) whole one.1 in
        let all : length (Deliveries (h ++ es)) ≡ length (Deliveries h) + d = ap length (filter_map-append delivery_of h es)
        ∙ (length-append (Deliveries h) (Deliveries es) ∙ adds refl lead.deliveries) in
        let drops : count_by is_dropped (h ++ es) ≡ count_by is_dropped h + 0 = count_by-append is_dropped h es ∙ adds refl lead.drops in
        let few : length (Deliveries (h ++ es)) ≤ length w.script.sends = few_delivered w (h ++ es) (once (number A t (1 + 3 * A)) (h ++ es) legal) in
        record {
          legal = legal;
          calls = taken.0;
          relay = taken.1;
          lanes = subst (λ ls. LanesStand w (h ++ es) t (1 + 3 * A) ls (inside w.net w.streams taken.0)) (sym is) (subst (LanesStand w (h ++ es) t (1 + 3 * A) lanes) (sym taken.2) stand);
          sets = subst (λ n. AreSetBefore w n new.set) (sym (set_over A t)) (subst (AreSetBefore w (t + 1)) (sym is_set) (lead.legal h (inside w.net w.streams r.calls) r.legal r.lanes r.sets).2);
          sends = subst (λ n. AreSentBefore w n new.sent) (sym (sends_here A t)) (subst (AreSentBefore w t) (sym sent) (subst (λ n. AreSentBefore w n old.sent) sends_first r.sends));
          deliveries = omega (arith, all, few, sends, was, is_here, delivered, r.deliveries);
          drops = dropped ∙ (r.drops ∙ omega (arith, drops));
        }

    -- each frame keeps a slot of its own
    pub landed_kept : new.relay.latest.0 ≤ t → IsKept w t old → IsKept w t new
    landed_kept latest kept =
        let taken = takes kept.calls kept.stands in
        let keeps = subst (λ xs. Keeps w new.store lanes xs []) (sym taken.2) (lead.keeps (inside w.net w.streams kept.calls) kept.keeps) in
        record {
          calls = taken.0;
          stands = taken.1;
          latest = latest;
          keeps = subst (λ ls. Keeps w new.store ls (inside w.net w.streams taken.0) []) (sym is) keeps;
        }
