-- Why a frame comes to a ring: it was sent, or it arrived on the arc before and the latency is over.
use Rattle.std.proofs.Common.{ℕ, zero, suc, ◌≡◌, ◌==◌, ◌&&◌, ◌+◌, ◌<◌, Bool, true, false, List, [], ◌∷◌, length}
use Rattle.std.proofs.Common.{refl, sym, ◌∙◌, ap, inl, inr, ◌⊎◌, arith, subst, Option, Some, None, filter_map}
use Rattle.std.specs.Prelude.{if◌then◌else◌, slice_get, slice_index_or, flat_map, option_map, option_and_then}
use Rattle.std.specs.List.{AllByRecursion as Every}
use Rattle.std.proofs.lemmas.Bool.{and_parts}
use Rattle.std.proofs.lemmas.Bool.Decides.{nat_tests}
use Rattle.pre_script.specs.declared.scripts.SendLine.{SendLine}
use Rattle.pre_history.specs.declared.events.What.{What}
use Rattle.pre_history.specs.declared.events.What.TheVariants as what
use Rattle.pre_history.specs.Scenario.{Scenario, send, no_send, latency}
use Rattle.pre_history.specs.History.{History, Begin, Arrive}
use Rattle.pre_history.specs.Selected.{frame_in, is_frame_result}
use Rattle.pre_history.specs.Queries.{Begins, Arrivals}
use Rattle.pre_history.specs.Comings.{Coming, Comings, next_arc, first_arc, sends_from, relayed, below, frame_at}
use Rattle.pre_history.proofs.Pairs.{every_flat}
use Rattle.pre_history.proofs.Lists.{within, every-append, every_weaker, every_placed, every_selected}

-- ---- which frame an mPacket carries

pub frame_in_is : (x : What) (f : ℕ) → frame_in x ≡ Some f → x ≡ what.Frame (record { 0 = f })
frame_in_is (what.Frame g) f is = let same : g.0 ≡ f = cc is in ap (λ n. what.Frame (record { 0 = n })) same
frame_in_is what.Lldp f is = absurd (cc is)
frame_in_is what.Nothing f is = absurd (cc is)

carried : (past : History) (a i f : ℕ) → frame_at past a i ≡ Some f → (b : Begin) × (slice_get (Begins past a) i ≡ Some b) × (b.what ≡ what.Frame (record { 0 = f }))
carried past a i f is = go (slice_get (Begins past a) i) refl is
  where
    go : (o : Option Begin) → slice_get (Begins past a) i ≡ o → option_and_then (λ b. frame_in b.what) o ≡ Some f → (b : Begin) × (slice_get (Begins past a) i ≡ Some b) × (b.what ≡ what.Frame (record { 0 = f }))
    go None at is = absurd (cc is)
    go (Some b) at is = (b, at, frame_in_is b.what f is)

-- ---- sends and relays

-- the frame is sent at the tick, and comes to its first arc
pub record IsSent (w : Scenario) (t : ℕ) (c : Coming) : Type 0 where
  pub arc : c.arc ≡ first_arc w c.frame
  pub now : (send w c.frame).send.tick.0 ≡ t
  pub known : c.frame < length w.script.sends

-- it arrived on arc a, whose end hands it to the next one at the tick
pub record IsRelayed (w : Scenario) (past : History) (t a : ℕ) (c : Coming) : Type 0 where
  pub place : ℕ
  pub x : Arrive
  pub b : Begin
  pub arrived : slice_get (Arrivals past a) place ≡ Some x
  pub begun : slice_get (Begins past a) x.ord ≡ Some b
  pub carries : b.what ≡ what.Frame (record { 0 = c.frame })
  pub over : x.tick + latency w a ≡ t
  pub next : next_arc w a c.frame ≡ Some c.arc

-- a frame comes to a ring at the tick by one of these
abbrev pub ComesBy : Scenario → History → ℕ → Coming → Type 0
ComesBy w past t c = IsSent w t c ⊎ ((a : ℕ) × (a < length w.net.arcs) × IsRelayed w past t a c)

-- ---- each coming of a tick does so

module _ (w : Scenario) (past : History) (t : ℕ) where
  pub relay_of : (a i : ℕ) (x : Arrive) (c : Coming) → slice_get (Arrivals past a) i ≡ Some x → relayed w past t a x ≡ Some c → (r : IsRelayed w past t a c) × (r.place ≡ i)
  relay_of a i x c at is = due (is_frame_result x.result && (x.tick + latency w a == t)) refl is
    where
      handed : (f : ℕ) (o : Option ℕ) → (x.tick + latency w a == t) ≡ true → frame_at past a x.ord ≡ Some f → next_arc w a f ≡ o → option_map {U = Coming} (λ b. record { arc = b; frame = f }) o ≡ Some c
          → (r : IsRelayed w past t a c) × (r.place ≡ i)
      handed f None now frame next is = absurd (cc is)
      handed f (Some b) now frame next is =
          let made : Coming = record { arc = b; frame = f } in
          let same : made ≡ c = cc is in
          let over : x.tick + latency w a ≡ t = grind (arith, nat_tests) in
          let o = carried past a x.ord f frame in
          subst (λ c. (r : IsRelayed w past t a c) × (r.place ≡ i)) same (record { place = i; x = x; b = o.0; arrived = at; begun = o.1; carries = o.2; over = over; next = next }, refl)

      found : (o : Option ℕ) → (x.tick + latency w a == t) ≡ true → frame_at past a x.ord ≡ o → option_and_then {U = Coming} (λ f. option_map (λ b. record { arc = b; frame = f }) (next_arc w a f)) o ≡ Some c
          → (r : IsRelayed w past t a c) × (r.place ≡ i)
      found None now frame is = absurd (cc is)
      found (Some f) now frame is = handed f (next_arc w a f) now frame refl is

      due : (b : Bool) → (is_frame_result x.result && (x.tick + latency w a == t)) ≡ b
          → (if b then option_and_then {U = Coming} (λ f. option_map (λ b. record { arc = b; frame = f }) (next_arc w a f)) (frame_at past a x.ord) else None) ≡ Some c → (r : IsRelayed w past t a c) × (r.place ≡ i)
      due false off is = absurd (cc is)
      due true on is = found (frame_at past a x.ord) (and_parts (is_frame_result x.result) (x.tick + latency w a == t) on).1 refl is

  -- what arc a hands to the next ones
  abbrev pub relays : ℕ → List Coming
  relays a = filter_map (relayed w past t a) (Arrivals past a)

  pub relays_are : (a : ℕ) → Every (IsRelayed w past t a) (relays a)
  relays_are a =
      every_selected (relayed w past t a) (λ x. (c : Coming) → relayed w past t a x ≡ Some c → IsRelayed w past t a c) (IsRelayed w past t a) (λ x c is. is c) (Arrivals past a)
      (every_placed (λ x. (c : Coming) → relayed w past t a x ≡ Some c → IsRelayed w past t a c) (Arrivals past a) (λ i x at c is. (relay_of a i x c at is).0))

  read_any : {X : Type 0} (xs : List X) (i : ℕ) (x d : X) → slice_get xs i ≡ Some x → slice_index_or xs i d ≡ x
  read_any [] i x d at = absurd (cc at)
  read_any (y ∷ xs) zero x d at = cc at
  read_any (y ∷ xs) (suc i) x d at = read_any xs i x d at

  send_comes : (f : ℕ) (s : SendLine) (rest : List Coming) (b : Bool) → (s.send.tick.0 == t) ≡ b → send w f ≡ s → f < length w.script.sends → Every (IsSent w t) rest
      → Every (IsSent w t) (if b then record { arc = first_arc w f; frame = f } ∷ rest else rest)
  send_comes f s rest true is same lt more =
      let now : s.send.tick.0 ≡ t = grind (arith, nat_tests) in
      (record { arc = refl; now = ap (λ (x : SendLine). x.send.tick.0) same ∙ now; known = lt }, more)
  send_comes f s rest false is same lt more = more

  sends_come : (f : ℕ) (ss : List SendLine) → ((j : ℕ) (s : SendLine) → slice_get ss j ≡ Some s → (send w (f + j) ≡ s) × (f + j < length w.script.sends)) → Every (IsSent w t) (sends_from w t f ss)
  sends_come f [] at = tt
  sends_come f (s ∷ ss) at =
      let here = at 0 s refl in
      let same : f + 0 ≡ f = omega arith in
      send_comes f s (sends_from w t (f + 1) ss) (s.send.tick.0 == t) refl (ap (send w) (sym same) ∙ here.0) (subst (λ x. x < length w.script.sends) same here.1)
      (sends_come (f + 1) ss (λ j r get. let next = at (suc j) r get in let is : f + suc j ≡ f + 1 + j = omega arith in (ap (send w) (sym is) ∙ next.0, subst (λ x. x < length w.script.sends) is next.1)))

  pub sends_are : Every (IsSent w t) (sends_from w t 0 w.script.sends)
  sends_are =
      sends_come 0 w.script.sends (λ j s at. let is : 0 + j ≡ j = omega arith in
      (ap (send w) is ∙ read_any w.script.sends j s no_send at, subst (λ x. x < length w.script.sends) (sym is) (within w.script.sends j s at)))

  -- the arcs below n
  pub arcs_below : (n : ℕ) → Every (λ a. a < n) (below n)
  arcs_below zero = tt
  arcs_below (suc n) = every-append (λ a. a < suc n) (below n) (n ∷ []) (every_weaker (λ a. a < n) (λ a. a < suc n) (λ a lt. omega (arith, lt)) (below n) (arcs_below n)) (omega arith, tt)

  pub comings_by : Every (ComesBy w past t) (Comings w past t)
  comings_by =
      every-append (ComesBy w past t) (flat_map relays (below (length w.net.arcs))) (sends_from w t 0 w.script.sends)
      (every_flat (ComesBy w past t) (λ a. a < length w.net.arcs) relays
      (λ a lt. every_weaker (IsRelayed w past t a) (ComesBy w past t) (λ c r. inr (a, lt, r)) (relays a) (relays_are a)) (below (length w.net.arcs)) (arcs_below (length w.net.arcs)))
      (every_weaker (IsSent w t) (ComesBy w past t) (λ c sent. inl sent) (sends_from w t 0 w.script.sends) sends_are)
