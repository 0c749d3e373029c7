-- The frames that come to a ring at a tick are those that bridges hand on, and those of its sends.
use Rattle.std.proofs.Common.{ℕ, zero, suc, ◌≡◌, ◌==◌, ◌+◌, ◌<◌, ◌≤◌, true, false, List, [], ◌∷◌, ◌++◌, length}
use Rattle.std.proofs.Common.{drop, map, refl, sym, ◌∙◌, ap, arith, filter_map, flat_map, append_assoc}
use Rattle.std.specs.Prelude.{slice_index_or}
use Rattle.std.proofs.lemmas.List.{map-append, length-append, take_all, flat_map_more}
use Rattle.pre_script.specs.declared.scripts.SendLine.{SendLine}
use Rattle.pre_history.specs.Scenario.{Scenario, send, no_send}
use Rattle.pre_history.specs.History.{History}
use Rattle.pre_history.specs.Queries.{Begins, Arrivals}
use Rattle.pre_history.specs.Comings.{below, relayed, sends_from, Comings}
use Rattle.pre_bridge.specs.Inside.{Entry, of_arc}
use Rattle.pre_bridge.specs.Turns.{dues_of_arc, dues}
use Rattle.pre_bridge.specs.Turns as turns
use Rattle.pre_sim.specs.Stands.{AreInside}
use Rattle.pre_sim.specs.Sends.{coming_of, handed_on, sent_frame, sent_frames}
use Rattle.pre_sim.proofs.EntriesInside.{AreRising, relayed_are, few_due}
use Rattle.pre_sim.proofs.NumberTests.{is_eq, not_eq}

-- ---- what bridges hand on

-- the lists of the numbers and one more
flat_more : {Y : Type 0} (f : ℕ → List Y) (ns : List ℕ) (n : ℕ) → flat_map f (ns ++ n ∷ []) ≡ flat_map f ns ++ f n
flat_more f ns n = sym (flat_map_more f [] ns n)

module _ (w : Scenario) (h : History) (t : ℕ) (entries : List Entry) (rise : (a : ℕ) → a < length w.net.arcs → AreRising (Arrivals h a))
    (inside_at : (a : ℕ) → a < length w.net.arcs → AreInside w a (Begins h a) (Arrivals h a) t (of_arc a entries)) where
  relays_are : (n : ℕ) → n ≤ length w.net.arcs → flat_map (λ a. filter_map (relayed w h t a) (Arrivals h a)) (below n) ≡ map coming_of (flat_map (dues_of_arc t entries) (turns.below n))
  relays_are zero le = refl
  relays_are (suc n) le =
      let here : filter_map (relayed w h t n) (Arrivals h n) ≡ map coming_of (dues_of_arc t entries n) =
      relayed_are w h t n (of_arc n entries) (rise n (omega (arith, le))) (inside_at n (omega (arith, le))) in
      let before = relays_are n (omega (arith, le)) in
      flat_more (λ a. filter_map (relayed w h t a) (Arrivals h a)) (below n) n
      ∙ ((λ i. before i ++ here i)
      ∙ (sym (map-append coming_of (flat_map (dues_of_arc t entries) (turns.below n)) (dues_of_arc t entries n)) ∙ ap (map coming_of) (sym (flat_more (dues_of_arc t entries) (turns.below n) n))))

  -- of each arc one at most
  few_dues : (n : ℕ) → n ≤ length w.net.arcs → length (flat_map (dues_of_arc t entries) (turns.below n)) ≤ n
  few_dues zero le = omega arith
  few_dues (suc n) le =
      let here : length (dues_of_arc t entries n) ≤ 1 = few_due w h t n (of_arc n entries) (rise n (omega (arith, le))) (inside_at n (omega (arith, le))) in
      let before = few_dues n (omega (arith, le)) in
      let sum = length-append (flat_map (dues_of_arc t entries) (turns.below n)) (dues_of_arc t entries n) in
      omega (arith, ap length (flat_more (dues_of_arc t entries) (turns.below n) n), sum, here, before)

  pub few_handed : length (dues t (length w.net.arcs) entries) ≤ length w.net.arcs
  few_handed = few_dues (length w.net.arcs) (omega arith)

  pub comings_are : Comings w h t ≡ handed_on w t entries ++ sends_from w t 0 w.script.sends
  comings_are =
      ap (λ cs. cs ++ sends_from w t 0 w.script.sends)
      (relays_are (length w.net.arcs) (omega arith) ∙ ap (map coming_of) (sym (take_all (length w.net.arcs) (dues t (length w.net.arcs) entries) few_handed)))

-- ---- the sends of the tick

module _ (w : Scenario) (t : ℕ) where
  abbrev tick_at : List SendLine → ℕ → ℕ
  tick_at sends k = (slice_index_or sends k no_send).send.tick.0

  -- those before it are passed over
  pub passed : (f n : ℕ) (sends : List SendLine) → n ≤ length sends → ((k : ℕ) → k < n → tick_at sends k < t) → sends_from w t f sends ≡ sends_from w t (f + n) (drop n sends)
  passed f zero sends le early = ap (λ m. sends_from w t m sends) (omega arith)
  passed f (suc n) [] le early = absurd (omega (arith, le))
  passed f (suc n) (s ∷ sends) le early =
      let first = early 0 (omega arith) in
      let test : (s.send.tick.0 == t) ≡ false = not_eq s.send.tick.0 t (λ e. absurd (omega (arith, e, first))) in
      let more = passed (f + 1) n sends (omega (arith, le)) (λ k lt. early (suc k) (omega (arith, lt))) in
      rw test (more ∙ ap (λ m. sends_from w t m (drop n sends)) (omega arith))

  -- the next one
  drop_at : (n : ℕ) (sends : List SendLine) → n < length sends → drop n sends ≡ slice_index_or sends n no_send ∷ drop (suc n) sends
  drop_at n [] lt = absurd (omega (arith, lt))
  drop_at zero (s ∷ sends) lt = refl
  drop_at (suc n) (s ∷ sends) lt = drop_at n sends (omega (arith, lt))

  pub next_send : (k : ℕ) → k < length w.script.sends → (send w k).send.tick.0 ≡ t
      → sends_from w t k (drop k w.script.sends) ≡ sent_frame w k ∷ sends_from w t (k + 1) (drop (k + 1) w.script.sends)
  next_send k lt now =
      let test : ((send w k).send.tick.0 == t) ≡ true = is_eq (send w k).send.tick.0 t now in
      let behind : suc k ≡ k + 1 = omega arith in
      ap (sends_from w t k) (drop_at k w.script.sends lt)
      ∙ one (send w k) (drop (suc k) w.script.sends) test
      ∙ ap (λ n. sent_frame w k ∷ sends_from w t (k + 1) (drop n w.script.sends)) behind
    where
      one : (s : SendLine) (sends : List SendLine) → (s.send.tick.0 == t) ≡ true → sends_from w t k (s ∷ sends) ≡ sent_frame w k ∷ sends_from w t (k + 1) sends
      one s sends test = rw test refl

  -- and none is left
  pub none_left : (f n : ℕ) (sends : List SendLine) → ((k : ℕ) → n ≤ k → k < length sends → t < tick_at sends k) → sends_from w t f (drop n sends) ≡ []
  none_left f zero [] later = refl
  none_left f (suc n) [] later = refl
  none_left f zero (s ∷ sends) later =
      let first = later 0 (omega arith) (omega arith) in
      let test : (s.send.tick.0 == t) ≡ false = not_eq s.send.tick.0 t (λ e. absurd (omega (arith, e, first))) in
      rw test (none_left (f + 1) zero sends (λ k le lt. later (suc k) (omega arith) (omega (arith, lt))))
  none_left f (suc n) (s ∷ sends) later = none_left f n sends (λ k le lt. later (suc k) (omega (arith, le)) (omega (arith, lt)))

  -- the next so many of them
  pub next_sends : (from n : ℕ) → from + n ≤ length w.script.sends → ((k : ℕ) → from ≤ k → k < from + n → (send w k).send.tick.0 ≡ t)
      → sends_from w t from (drop from w.script.sends) ≡ sent_frames w from n ++ sends_from w t (from + n) (drop (from + n) w.script.sends)
  next_sends from zero le now = ap (λ m. sends_from w t m (drop m w.script.sends)) (omega arith)
  next_sends from (suc n) le now =
      let before = next_sends from n (omega (arith, le)) (λ k low high. now k low (omega (arith, high))) in
      let next = next_send (from + n) (omega (arith, le)) (now (from + n) (omega arith) (omega arith)) in
      let place : from + n + 1 ≡ from + suc n = omega arith in
      before ∙ (ap (λ cs. sent_frames w from n ++ cs) (next ∙ ap (λ m. sent_frame w (from + n) ∷ sends_from w t m (drop m w.script.sends)) place)
      ∙ sym (append_assoc (sent_frames w from n) (sent_frame w (from + n) ∷ []) (sends_from w t (from + suc n) (drop (from + suc n) w.script.sends))))
