-- Phases in which nothing happens, over the built-in network and streams.
use Rattle.std.proofs.Common.{◌⊎◌, inl, ℕ, suc, ◌≡◌, ◌≢◌, ◌==◌, ◌&&◌, ◌+◌, ◌*◌, ◌<◌, nat_lt, nat_le, not}
use Rattle.std.proofs.Common.{Bool, true, false, List, [], ◌∷◌, ◌++◌, length, refl, sym, ◌∙◌, ap, inr, arith, subst, Some, None}
use Rattle.std.proofs.Common.{map, filter}
use Rattle.std.specs.Prelude.{if◌then◌else◌}
use Rattle.std.specs.List.{list_any, cons_option, AllByRecursion as Every}
use Rattle.std.proofs.lemmas.Bool.Decides.{nat_tests}
use Rattle.pre_script.specs.declared.scripts.SetLine.{SetLine}
use Rattle.pre_mpacket.specs.Arrivals.{is_start, is_fragment}
use Rattle.pre_history.specs.Scenario.{Scenario, arc}
use Rattle.pre_history.specs.Moments.{Phase}
use Rattle.pre_history.specs.History.{PlainEvent, History, Begin, Ended}
use Rattle.pre_history.specs.Selected.{RingEntry, what_is, from_last}
use Rattle.pre_history.specs.Queries.{Begins, Ends, Packet, Packets, PacketsBefore, Waiting, Occupied, packet}
use Rattle.pre_history.specs.Starts.{Item, Choice, There, StartRule}
use Rattle.pre_history.specs.Comings.{Coming, Comings, EntriesOf, sends_from, below}
use Rattle.pre_history.specs.Rules.{Each, OneOrNone, EndDue, Arriving, HappensIn}
use Rattle.pre_history.specs.Examples.{first_begin, frame_begin}
use Rattle.pre_history.proofs.Lists.{filter_nil, every_filter}
use Rattle.pre_history.proofs.WholeFrames.{NoFragments}
use Rattle.pre_history.proofs.PairFacts.{SendsAtStart, no_delay, no_talks, cost_one, frame_size, no_relays}

each_empty : {X : Type 0} (R : X → List PlainEvent → Type 0) (xs : List X) → Every (λ x. R x []) xs → Each R xs []
each_empty R [] none = refl
each_empty R (x ∷ xs) (here, more) = ([], [], here, each_empty R xs more, refl)

pub selected : {X : Type 0} (Q : X → Type 0) (x : X) (b : Bool) → Q x → Every Q (cons_option (if b then Some x else None) [])
selected Q x true q = (q, tt)
selected Q x false q = tt

every_map : {X Y : Type 0} (P : Y → Type 0) (g : X → Y) (xs : List X) → Every (λ x. P (g x)) xs → Every P (map g xs)
every_map P g [] p = tt
every_map P g (x ∷ xs) (here, more) = (here, every_map P g xs more)

-- where no fragment began no frame is interrupted
no_run : (h : History) (a t : ℕ) → NoFragments h → filter (λ (p : Packet). is_fragment p.begin.kind) (PacketsBefore h a t) ≡ []
unfolding Packets
no_run h a t whole =
    filter_nil (λ (p : Packet). is_fragment p.begin.kind) (PacketsBefore h a t)
    (every_filter (λ (p : Packet). is_fragment p.begin.kind ≡ false) (λ p. nat_lt p.begin.tick t) (Packets h a)
    (every_map (λ (p : Packet). is_fragment p.begin.kind ≡ false) (packet h a) (Begins h a) (whole a)))

pub other_arc : (a : ℕ) → (0 == suc a) ≡ false
other_arc a = grind (arith, nat_tests)

-- frame 0 doesn't wait after its first octet began
pub gone : (t a p : ℕ) (b c : Bool) → 0 < t
    → map (λ (e : RingEntry). e.frame) (filter (λ (e : RingEntry). e.entered && nat_le e.tick t && not (list_any (λ (x : Begin). nat_lt x.tick t && what_is x.what e.frame && (x.from == 0)) (cons_option (if b then Some first_begin else None) [])))
    (cons_option (if b && c then Some (record { tick = 0; frame = 0; entered = true }) else None) [])) ≡ []
gone t a p true true lt =
    let early : nat_lt 0 t ≡ true = grind (arith, nat_tests) in
    let by : nat_le 0 t ≡ true = grind (arith, nat_tests) in
    rw (early, by) refl
gone t a p true false lt = refl
gone t a p false c lt = refl

module _ (w : Scenario) (s : SendsAtStart w) where
  pub quiet_sets : (h : History) (t : ℕ) → HappensIn w h t Phase.sets []
  unfolding HappensIn
  quiet_sets h t = ap (λ (xs : List SetLine). map (λ x. PlainEvent.set x.tick.0 x.arc.0 x.value) (filter (λ x. x.tick.0 == t) xs)) (sym s.sets)

  pub quiet_expiries : (h : History) (t a : ℕ) → HappensIn w h t (Phase.expiries a) []
  unfolding HappensIn
  quiet_expiries h t a = inr (no_talks w s a, refl)

  pub quiet_ends : (h : History) (t a : ℕ) → Every (λ (b : Begin). (e : PlainEvent) → ¬ EndDue w h t b e) (Begins h a) → HappensIn w h t (Phase.ends a) []
  unfolding HappensIn
  quiet_ends h t a none = each_empty (λ b fs. OneOrNone (EndDue w h t b) fs) (Begins h a) (go (Begins h a) none)
    where
      go : (bs : List Begin) → Every (λ (b : Begin). (e : PlainEvent) → ¬ EndDue w h t b e) bs → Every (λ b. OneOrNone (EndDue w h t b) []) bs
      go [] n = tt
      go (b ∷ bs) (here, more) = (inr (here, refl), go bs more)

  pub quiet_arrivals : (h : History) (t a : ℕ) → Every (λ (e : Ended). e.tick ≢ t) (Ends h a) → HappensIn w h t (Phase.arrivals a) []
  unfolding HappensIn
  quiet_arrivals h t a none = each_empty (Arriving w h t a) (Ends h a) (go (Ends h a) none)
    where
      go : (es : List Ended) → Every (λ (e : Ended). e.tick ≢ t) es → Every (λ e. Arriving w h t a e []) es
      go [] n = tt
      go (e ∷ es) (here, more) = (inr ((λ due. here (omega (arith, due, no_delay w s a))), refl), go es more)

  pub comings_are : (h : History) (t : ℕ) → Comings w h t ≡ sends_from w t 0 w.script.sends
  comings_are h t = ap (λ (xs : List Coming). xs ++ sends_from w t 0 w.script.sends) (no_relays w s h t (below (length w.net.arcs)))

  pub quiet_entries : (h : History) (t : ℕ) → 0 < t → HappensIn w h t Phase.entries []
  unfolding HappensIn
  quiet_entries h t lt = ap (EntriesOf w t h) (sym (comings_are h t ∙ s.none_later t lt))

  nothing_there : (h : History) (a t : ℕ) (i : Item) (c : Choice) → NoFragments h → ((p : ℕ) → Waiting h a p t ≡ []) → There w h a t i c → ⊥
  nothing_there h a t Item.express c whole none (f, (p, from, to, (behind, waits), above), is) = cc (none p, waits)
  nothing_there h a t Item.respond c whole none (on, more, is) = no_talks w s a on
  nothing_there h a t Item.verify c whole none (on, more, is) = no_talks w s a on
  nothing_there h a t Item.lldp c whole none (on, more, is) = no_talks w s a on
  nothing_there h a t Item.rest c whole none (r, (first, more, run, ended, cut, left), is) = let no' = ap (from_last (λ (p : Packet). is_start p.begin.kind)) (no_run h a t whole) in cc (no', run)
  nothing_there h a t Item.preemptable c whole none (f, k, (p, from, to, (behind, waits), above), as', is) = cc (none p, waits)

  pub quiet_starts : (h : History) (t a : ℕ) → NoFragments h → Occupied w h a t ⊎ ((p : ℕ) → Waiting h a p t ≡ []) → HappensIn w h t (Phase.starts a) []
  unfolding HappensIn StartRule
  quiet_starts h t a whole (inl busy) = inr ((λ e due. due.1.0 busy), refl)
  quiet_starts h t a whole (inr none) = inr ((λ e due. nothing_there h a t due.1.1.0 due.0 whole none due.1.1.1), refl)

  -- an mPacket of 64 octets isn't due at another tick
  pub not_due : (h : History) (t began ord f : ℕ) → f < length w.script.sends → t ≢ began + 72 → (e : PlainEvent) → ¬ EndDue w h t (frame_begin began ord f) e
  not_due h t began ord f lt other e (size, sized, due, is) =
      let size_is : size ≡ 64 = sized ∙ frame_size w s f lt in
      let now : began + 1 * (64 + 8) ≡ t = subst (λ n. began + n * (64 + 8) ≡ t) (cost_one w s) (subst (λ n. began + (arc w 0).cost * (n + 8) ≡ t) size_is due) in
      other (sym now)

  pub quiet_phase : (h : History) (t : ℕ) → 0 < t → NoFragments h → ((a : ℕ) → Occupied w h a t ⊎ ((p : ℕ) → Waiting h a p t ≡ [])) → ((a : ℕ) → Every (λ (b : Begin). (e : PlainEvent) → ¬ EndDue w h t b e) (Begins h a))
      → ((a : ℕ) → Every (λ (e : Ended). e.tick ≢ t) (Ends h a)) → (p : Phase) → HappensIn w h t p []
  quiet_phase h t lt whole none begins ends Phase.sets = quiet_sets h t
  quiet_phase h t lt whole none begins ends Phase.entries = quiet_entries h t lt
  quiet_phase h t lt whole none begins ends (Phase.ends a) = quiet_ends h t a (begins a)
  quiet_phase h t lt whole none begins ends (Phase.arrivals a) = quiet_arrivals h t a (ends a)
  quiet_phase h t lt whole none begins ends (Phase.expiries a) = quiet_expiries h t a
  quiet_phase h t lt whole none begins ends (Phase.starts a) = quiet_starts h t a whole (none a)
