-- What stands by one list of calls stands by another by which the relay stands.
use Rattle.std.proofs.Common.{ℕ, ◌≡◌, ◌==◌, length, List, [], ◌∷◌, map, refl, sym, ◌∙◌, ap, subst, true}
use Rattle.std.specs.List.{AllByRecursion as Every}
use Rattle.std.proofs.lemmas.Bool.{eqb-true}
use Rattle.std.proofs.lemmas.List.Elements.{filter_passes, recursion_from_All}
use Rattle.pre_history.specs.Scenario.{Scenario}
use Rattle.pre_history.specs.History.{History}
use Rattle.pre_bridge.specs.declared.relays.Relay.{Relay}
use Rattle.pre_bridge.specs.declared.ingresses.Waiting.{Waiting}
use Rattle.pre_bridge.specs.Inside.{Call, Entry, of_arc, inside}
use Rattle.pre_bridge.specs.Relays.{Stands, waiting}
use Rattle.pre_sim.specs.declared.lanes.Lane.{Lane}
use Rattle.pre_sim.specs.Stages.{stage_at}
use Rattle.pre_sim.specs.Stands.{LanesStand, LaneStands}

-- the entry of what waits that arrived by an arc
abbrev entry_by : ℕ → Waiting → Entry
entry_by i x = record { arc = i; due = x.due.0; next = x.next; frame = x.frame }

back_again : (i : ℕ) (es : List Entry) → Every (λ e. (e.arc == i) ≡ true) es → map (entry_by i) (map waiting es) ≡ es
back_again i [] all = refl
back_again i (e ∷ es) (here, more) =
    let first : entry_by i (waiting e) ≡ e = ap (λ a. record { arc = a; due = e.due; next = e.next; frame = e.frame }) (sym (eqb-true e.arc i here)) in
    ap (λ x. x ∷ map (entry_by i) (map waiting es)) first ∙ ap (λ xs. e ∷ xs) (back_again i es more)

same_inside : (w : Scenario) (relay : Relay) (c d : List Call) → Stands relay w.net w.streams c → Stands relay w.net w.streams d → (i : ℕ)
    → of_arc i (inside w.net w.streams c) ≡ of_arc i (inside w.net w.streams d)
same_inside w relay c d s t i =
    let of : (es : List Entry) → map (entry_by i) (map waiting (of_arc i es)) ≡ of_arc i es =
    λ es. back_again i (of_arc i es) (recursion_from_All (λ (e : Entry). (e.arc == i) ≡ true) (of_arc i es) (filter_passes (λ (e : Entry). e.arc == i) es)) in
    sym (of (inside w.net w.streams c)) ∙ (ap (map (entry_by i)) (s.queues i ∙ sym (t.queues i)) ∙ of (inside w.net w.streams d))

pub lanes_by : (w : Scenario) (h : History) (t k : ℕ) (relay : Relay) (lanes : List Lane) (c d : List Call) → Stands relay w.net w.streams c → Stands relay w.net w.streams d
    → LanesStand w h t k lanes (inside w.net w.streams c) → LanesStand w h t k lanes (inside w.net w.streams d)
lanes_by w h t k relay lanes c d s s' is a lane at = subst (LaneStands w h a (stage_at (length w.net.arcs) t k a) lane) (same_inside w relay c d s s' a) (is a lane at)
