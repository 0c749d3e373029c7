-- What comes to rings and what begins is of the script, on its route, and not before it is sent: an induction over moments.
use Rattle.std.proofs.Common.{ℕ, zero, suc, ◌≡◌, ◌≢◌, ◌==◌, ◌&&◌, ◌||◌, not, nat_lt, nat_le, ◌+◌, ◌*◌, ◌/◌, ◌%◌, ◌<◌}
use Rattle.std.proofs.Common.{◌≤◌, Bool, true, false, List, [], ◌∷◌, ◌++◌, length, refl, sym, ◌∙◌, ap, inl, inr, arith, subst, Some, None}
use Rattle.std.proofs.Common.{map, filter}
use Rattle.std.specs.Prelude.{if◌then◌else◌, slice_get, Contains}
use Rattle.std.specs.List.{list_any, AllByRecursion as Every}
use Rattle.std.proofs.lemmas.Bool.{and_parts}
use Rattle.std.proofs.lemmas.Bool.Decides.{nat_tests}
use Rattle.pre_base.specs.declared.numbers.FrameNo.{FrameNo}
use Rattle.pre_mpacket.specs.declared.packets.Kind.{Kind}
use Rattle.pre_mpacket.specs.declared.packets.Kind.TheVariants as kind
use Rattle.pre_mpacket.specs.Arrivals.{is_fragment, is_start}
use Rattle.pre_history.specs.declared.events.What.{What}
use Rattle.pre_history.specs.declared.events.What.TheVariants as what
use Rattle.pre_history.specs.Scenario.{Scenario, row, send, capacity}
use Rattle.pre_history.specs.Moments.{Phase, moments, phase_at}
use Rattle.pre_history.specs.History.{PlainEvent, History, Begin, Entry}
use Rattle.pre_history.specs.Selected.{RingEntry, begin_on, entry_on, what_is, frame_number, from_last}
use Rattle.pre_history.specs.Queries.{Begins, Ends, Arrivals, Entries, Packet, Packets, PacketsBefore, Waiting, begun_before, Rest}
use Rattle.pre_history.specs.Starts.{Item, Choice, There, StartRule}
use Rattle.pre_history.specs.Comings.{Coming, Comings, EntriesOf, entry_event, entry_for, hops}
use Rattle.pre_history.specs.Rules.{HappensIn}
use Rattle.pre_history.specs.Placed.{HasPlace, number, IsAt, AllAt}
use Rattle.pre_history.specs.Legal.{LegalUpTo}
use Rattle.pre_history.proofs.Lists.{there, within, every_at, every-append, every_weaker, every_selected}
use Rattle.pre_history.proofs.Chosen.{from_filter}
use Rattle.pre_history.proofs.LaterEnds.{packet_back}
use Rattle.pre_history.proofs.Placing.{same_place, moment_events, place_at, numbered}
use Rattle.pre_history.proofs.Routes.{first_on, next_on}
use Rattle.pre_history.proofs.Relays.{ComesBy, comings_by}
use Rattle.pre_history.proofs.Steady.{Steady}
use Rattle.pre_history.proofs.InOrder.{steady}
use Rattle.pre_laws.specs.Routed.{IsRouted, IsOnRoute}
use Rattle.pre_history.proofs.NatTests.{is_eq, is_lt}

-- octets of a frame are carried on its route, and fragments carry them
pub record BeginsRight (w : Scenario) (a t : ℕ) (k : Kind) (x : What) : Type 0 where
  pub on : (f : FrameNo) → x ≡ what.Frame f → IsOnRoute w a t f.0
  pub fragment : is_fragment k ≡ true → (f : FrameNo) × (x ≡ what.Frame f)

abbrev pub BegunRight : Scenario → ℕ → Begin → Type 0
BegunRight w a b = BeginsRight w a b.tick b.kind b.what

abbrev pub IsRight : Scenario → PlainEvent → Type 0
IsRight w (PlainEvent.enter e) = IsOnRoute w e.arc e.tick e.frame
IsRight w (PlainEvent.dropped e) = IsOnRoute w e.arc e.tick e.frame
IsRight w (PlainEvent.begin b) = BegunRight w b.arc b
IsRight w (PlainEvent.set t a v) = Unit {0}
IsRight w (PlainEvent.ended e) = Unit {0}
IsRight w (PlainEvent.arrive x) = Unit {0}
IsRight w (PlainEvent.deliver d) = Unit {0}
IsRight w (PlainEvent.active t a v) = Unit {0}
IsRight w (PlainEvent.count a c) = Unit {0}
IsRight w (PlainEvent.end e) = Unit {0}

-- ---- what is selected

begin_right : (w : Scenario) (a : ℕ) (e : PlainEvent) (b : Begin) → IsRight w e → begin_on a e ≡ Some b → BegunRight w a b
begin_right w a (PlainEvent.begin c) b right is = go (c.arc == a) refl is
  where
    go : (same : Bool) → (c.arc == a) ≡ same → (if same then Some c else None) ≡ Some b → BegunRight w a b
    go true on at =
        let arc_is : c.arc ≡ a = grind (arith, nat_tests) in
        let same : c ≡ b = cc at in subst (BegunRight w a) same (subst (λ x. BegunRight w x c) arc_is right)
    go false off at = absurd (cc at)
begin_right w a (PlainEvent.set t v x) b right is = absurd (cc is)
begin_right w a (PlainEvent.ended x) b right is = absurd (cc is)
begin_right w a (PlainEvent.arrive x) b right is = absurd (cc is)
begin_right w a (PlainEvent.deliver x) b right is = absurd (cc is)
begin_right w a (PlainEvent.active t v x) b right is = absurd (cc is)
begin_right w a (PlainEvent.enter x) b right is = absurd (cc is)
begin_right w a (PlainEvent.dropped x) b right is = absurd (cc is)
begin_right w a (PlainEvent.count t x) b right is = absurd (cc is)
begin_right w a (PlainEvent.end x) b right is = absurd (cc is)

pub begins_right : (w : Scenario) (h : History) (a : ℕ) → Every (IsRight w) h → Every (BegunRight w a) (Begins h a)
begins_right w h a right = every_selected (begin_on a) (IsRight w) (BegunRight w a) (begin_right w a) h right

abbrev pub RingRight : Scenario → ℕ → RingEntry → Type 0
RingRight w a r = IsOnRoute w a r.tick r.frame

kept_right : (w : Scenario) (a p : ℕ) (e : Entry) (v : Bool) (r : RingEntry) (b : Bool) → ((e.arc == a) && (e.prio == p)) ≡ b → IsOnRoute w e.arc e.tick e.frame
    → (if b then Some (record { tick = e.tick; frame = e.frame; entered = v }) else None) ≡ Some r → RingRight w a r
kept_right w a p e v r false off right is = absurd (cc is)
kept_right w a p e v r true on right is =
    let arc_is : e.arc ≡ a = grind (arith, nat_tests, (and_parts (e.arc == a) (e.prio == p) on).0) in
    let made : RingEntry = record { tick = e.tick; frame = e.frame; entered = v } in
    let same : made ≡ r = cc is in
    subst (RingRight w a) same (subst (λ x. IsOnRoute w x e.tick e.frame) arc_is right)

ring_right : (w : Scenario) (a p : ℕ) (e : PlainEvent) (r : RingEntry) → IsRight w e → entry_on a p e ≡ Some r → RingRight w a r
ring_right w a p (PlainEvent.enter e) r right is = kept_right w a p e true r ((e.arc == a) && (e.prio == p)) refl right is
ring_right w a p (PlainEvent.dropped e) r right is = kept_right w a p e false r ((e.arc == a) && (e.prio == p)) refl right is
ring_right w a p (PlainEvent.set t b v) r right is = absurd (cc is)
ring_right w a p (PlainEvent.begin b) r right is = absurd (cc is)
ring_right w a p (PlainEvent.ended b) r right is = absurd (cc is)
ring_right w a p (PlainEvent.arrive b) r right is = absurd (cc is)
ring_right w a p (PlainEvent.deliver b) r right is = absurd (cc is)
ring_right w a p (PlainEvent.active t b v) r right is = absurd (cc is)
ring_right w a p (PlainEvent.count t b) r right is = absurd (cc is)
ring_right w a p (PlainEvent.end b) r right is = absurd (cc is)

-- ---- what stands at the front of a ring

front_of : (test : RingEntry → Bool) (xs : List RingEntry) (f : ℕ) (behind : List ℕ) → map (λ (e : RingEntry). e.frame) (filter test xs) ≡ f ∷ behind
    → (i : ℕ) × (r : RingEntry) × (slice_get xs i ≡ Some r) × (test r ≡ true) × (r.frame ≡ f)
front_of test [] f behind is = absurd (cc is)
front_of test (x ∷ xs) f behind is = go (test x) refl is (λ e. let o = front_of test xs f behind e in (suc o.0, o.1, o.2, o.3, o.4))
  where
    go : (b : Bool) → test x ≡ b → map (λ (e : RingEntry). e.frame) (if b then x ∷ filter test xs else filter test xs) ≡ f ∷ behind
        → (map (λ (e : RingEntry). e.frame) (filter test xs) ≡ f ∷ behind → (i : ℕ) × (r : RingEntry) × (slice_get (x ∷ xs) i ≡ Some r) × (test r ≡ true) × (r.frame ≡ f))
        → (i : ℕ) × (r : RingEntry) × (slice_get (x ∷ xs) i ≡ Some r) × (test r ≡ true) × (r.frame ≡ f)
    go true pass at more = (0, x, refl, pass, cc at)
    go false pass at more = more at

none_of : {X : Type 0} (test : X → Bool) (xs : List X) (i : ℕ) (x : X) → list_any test xs ≡ false → slice_get xs i ≡ Some x → test x ≡ false
none_of test [] i x none at = absurd (cc at)
none_of {X} test (y ∷ ys) zero x none at = ap test (sym (cc at)) ∙ first (test y) (list_any test ys) none
  where
    first : (b c : Bool) → (b || c) ≡ false → b ≡ false
    first false c is = refl
    first true c is = absurd (cc is)
none_of {X} test (y ∷ ys) (suc i) x none at = none_of test ys i x (second (test y) (list_any test ys) none) at
  where
    second : (b c : Bool) → (b || c) ≡ false → c ≡ false
    second false c is = is
    second true c is = absurd (cc is)

all_and : (x y z : Bool) → x ≡ true → y ≡ true → z ≡ true → (x && y && z) ≡ false → ⊥
all_and true true true p q r is = cc is
all_and true true false p q r is = cc r
all_and true false z p q r is = cc q
all_and false y z p q r is = cc p

pub record AtFront (h : History) (a p t f : ℕ) : Type 0 where
  pub place : ℕ
  pub entry : RingEntry
  pub at : slice_get (Entries h a p) place ≡ Some entry
  pub frame : entry.frame ≡ f
  pub by : entry.tick ≤ t
  pub fresh : (i : ℕ) (b : Begin) → slice_get (Begins h a) i ≡ Some b → b.tick < t → b.what ≡ what.Frame (record { 0 = f }) → b.from ≡ 0 → ⊥

pub at_front_of : (h : History) (a p t f : ℕ) (behind : List ℕ) → Waiting h a p t ≡ f ∷ behind → AtFront h a p t f
unfolding Waiting
at_front_of h a p t f behind waits =
    let o = front_of (λ (e : RingEntry). e.entered && nat_le e.tick t && not (begun_before h a t e.frame)) (Entries h a p) f behind waits in
    let r = o.1 in
    let test = and_parts (r.entered && nat_le r.tick t) (not (begun_before h a t r.frame)) o.3 in
    let early = and_parts r.entered (nat_le r.tick t) test.0 in
    record {
      place = o.0;
      entry = r;
      at = o.2;
      frame = o.4;
      by = grind (arith, nat_tests, early.1);
      fresh = λ i b at lt carries from. all_and (nat_lt b.tick t) (what_is b.what r.frame) (b.from == 0) (is_lt b.tick t lt)
          (ap (λ x. what_is x r.frame) carries ∙ is_eq f r.frame (sym o.4)) (is_eq b.from 0 from)
          (none_of (λ b. nat_lt b.tick t && what_is b.what r.frame && (b.from == 0)) (Begins h a) i b (not_true (begun_before h a t r.frame) test.1) at);
    }
  where
    not_true : (b : Bool) → not b ≡ true → b ≡ false
    not_true false is = refl
    not_true true is = absurd (cc is)

front_route : (w : Scenario) (h : History) (a p t f : ℕ) (behind : List ℕ) → Every (IsRight w) h → Waiting h a p t ≡ f ∷ behind → IsOnRoute w a t f
front_route w h a p t f behind right waits =
    let o = at_front_of h a p t f behind waits in
    let r = every_at (RingRight w a) (Entries h a p) o.place o.entry (every_selected (entry_on a p) (IsRight w) (RingRight w a) (ring_right w a p) h right) o.at in
    let early : (send w o.entry.frame).send.tick.0 ≤ o.entry.tick = r.sent in
    let by = o.by in
    subst (IsOnRoute w a t) o.frame (record { arc = r.arc; sent = omega (arith, early, by); known = r.known })

-- ---- the run that is interrupted

pub from_last_first : {X : Type 0} (test : X → Bool) (xs : List X) (x : X) (more : List X) → from_last test xs ≡ x ∷ more → (i : ℕ) × (slice_get xs i ≡ Some x) × (test x ≡ true)
from_last_first test [] x more is = absurd (cc is)
from_last_first {X} test (y ∷ ys) x more is = go (test y && not (list_any test ys)) refl is (λ e. let o = from_last_first test ys x more e in (suc o.0, o.1, o.2))
  where
    go : (b : Bool) → (test y && not (list_any test ys)) ≡ b → (if b then y ∷ ys else from_last test ys) ≡ x ∷ more → (from_last test ys ≡ x ∷ more → (i : ℕ) × (slice_get (y ∷ ys) i ≡ Some x) × (test x ≡ true))
        → (i : ℕ) × (slice_get (y ∷ ys) i ≡ Some x) × (test x ≡ true)
    go true on at rest = let same : y ≡ x = cc at in (0, ap Some same, ap test (sym same) ∙ (and_parts (test y) (not (list_any test ys)) on).0)
    go false off at rest = rest at

pub start_fragment : (k : Kind) → is_start k ≡ true → is_fragment k ≡ true
start_fragment (kind.Start c) is = refl
start_fragment (kind.Continue c n) is = absurd (cc is)
start_fragment kind.Express is = absurd (cc is)
start_fragment kind.Verify is = absurd (cc is)
start_fragment kind.Respond is = absurd (cc is)

-- ---- what begins

frame_right : (w : Scenario) (a t f : ℕ) (k : Kind) (x : What) → x ≡ what.Frame (record { 0 = f }) → IsOnRoute w a t f → BeginsRight w a t k x
frame_right w a t f k x is on = record {
  on = λ g carries. let number : f ≡ g.0 = ap frame_number (sym is ∙ carries) in subst (IsOnRoute w a t) number on;
  fragment = λ any. (record { 0 = f }, is);
}

other_right : (w : Scenario) (a t : ℕ) (k : Kind) (x : What) → ((f : FrameNo) → x ≢ what.Frame f) → is_fragment k ≡ false → BeginsRight w a t k x
other_right w a t k x none whole = record { on = λ f is. absurd (none f is); fragment = λ is. absurd (cc (is, whole)) }

abbrev pub ChoiceRight : Scenario → ℕ → ℕ → Choice → Type 0
ChoiceRight w a t c = BeginsRight w a t c.kind c.what

-- the rest of a frame is on its route as its first fragment was
rest_right : (w : Scenario) (a t : ℕ) (r : Rest) (b first : Begin) → b ≡ first → BegunRight w a b → is_start first.kind ≡ true → nat_lt first.tick t ≡ true → r.frame ≡ frame_number first.what → IsOnRoute w a t r.frame
rest_right w a t r b first is began start before frame_is =
    let began' : BegunRight w a first = subst (BegunRight w a) is began in
    let frame = began'.fragment (start_fragment first.kind start) in
    let on = began'.on frame.0 frame.1 in
    let early : first.tick < t = grind (arith, nat_tests, before) in
    let number : frame.0.0 ≡ r.frame = sym (frame_is ∙ ap frame_number frame.1) in
    let sent = on.sent in
    let here : IsOnRoute w a t frame.0.0 = record { arc = on.arc; sent = omega (arith, sent, early); known = on.known } in
    subst (IsOnRoute w a t) number here

pub item_right : (w : Scenario) (h : History) (a t : ℕ) (i : Item) (c : Choice) → Every (IsRight w) h → There w h a t i c → ChoiceRight w a t c
unfolding Packets
item_right w h a t Item.express c right (f, (p, from, to, (behind, waits), above), is) = subst (ChoiceRight w a t) (sym is) (frame_right w a t f kind.Express (what.Frame (record { 0 = f })) refl (front_route w h a p t f behind right waits))
item_right w h a t Item.respond c right (on, owed, is) = subst (ChoiceRight w a t) (sym is) (other_right w a t kind.Respond what.Nothing (λ f e. absurd (cc e)) refl)
item_right w h a t Item.verify c right (on, wanted, is) = subst (ChoiceRight w a t) (sym is) (other_right w a t kind.Verify what.Nothing (λ f e. absurd (cc e)) refl)
item_right w h a t Item.lldp c right (on, wanted, is) = subst (ChoiceRight w a t) (sym is) (other_right w a t kind.Express what.Lldp (λ f e. absurd (cc e)) refl)
item_right w h a t Item.preemptable c right (f, k, (p, from, to, (behind, waits), above), as', is) =
    subst (ChoiceRight w a t) (sym is) (frame_right w a t f k (what.Frame (record { 0 = f })) refl (front_route w h a p t f behind right waits))
item_right w h a t Item.rest c right (r, (first, more, run, ended, cut, left), is) =
    let o = from_last_first (λ (p : Packet). is_start p.begin.kind) (filter (λ (p : Packet). is_fragment p.begin.kind) (PacketsBefore h a t)) first more run in
    let o' = from_filter (λ (p : Packet). is_fragment p.begin.kind) (PacketsBefore h a t) o.0 first o.1 in
    let o'' = from_filter (λ (p : Packet). nat_lt p.begin.tick t) (Packets h a) o'.0 first o'.1 in
    let b = packet_back h a o''.0 first o''.1 in
    let here = rest_right w a t r b.0 first.begin (ap (λ (p : Packet). p.begin) b.2) (every_at (BegunRight w a) (Begins h a) o''.0 b.0 (begins_right w h a right) b.1) o.2 o''.2 (ap (λ (x : Rest). x.frame) left) in
    subst (ChoiceRight w a t) (sym is) (frame_right w a t r.frame (kind.Continue r.frame_count r.fragment_count) (what.Frame (record { 0 = r.frame })) refl here)

-- ---- what comes to rings

abbrev pub ComesRight : Scenario → ℕ → Coming → Type 0
ComesRight w t c = IsOnRoute w c.arc t c.frame

module _ (w : Scenario) (routed : IsRouted w) (n : ℕ) (h : History) (t : ℕ) (right : Every (IsRight w) h) (s : (a : ℕ) → a < length w.net.arcs → Steady w n h a) where
  pub comes_right : (c : Coming) → ComesBy w h t c → ComesRight w t c
  comes_right c (inl sent) = record {
    arc = subst (Contains (hops w c.frame)) (sym sent.arc) (first_on (hops w c.frame) (routed.routes c.frame sent.known));
    sent = (let now = sent.now in omega (arith, now));
    known = sent.known;
  }
  comes_right c (inr (a, lt, r)) =
      let on = (every_at (BegunRight w a) (Begins h a) r.x.ord r.b (begins_right w h a right) r.begun).on (record { 0 = c.frame }) r.carries in
      let o = (s a lt).ordered in
      let place : r.x.ord ≡ r.place = o.arrival_places r.place r.x r.arrived in
      let e = there (Ends h a) r.place (omega (arith, within (Arrivals h a) r.place r.x r.arrived, o.arrivals_ended)) in
      let begun : slice_get (Begins h a) r.place ≡ Some r.b = subst (λ i. slice_get (Begins h a) i ≡ Some r.b) place r.begun in
      let span = o.spans r.place r.b e.0 begun e.1 in
      let travel = o.travels r.place e.0 r.x e.1 r.arrived in
      let sent = on.sent in
      let over = r.over in
      record { arc = next_on (hops w c.frame) a c.arc r.next; sent = omega (arith, sent, span, travel, over); known = on.known }

  pub comings_right : Every (ComesRight w t) (Comings w h t)
  comings_right = every_weaker (ComesBy w h t) (ComesRight w t) comes_right (Comings w h t) (comings_by w h t)

entry_right : (w : Scenario) (t : ℕ) (c : Coming) (b : Bool) → ComesRight w t c → IsRight w (if b then PlainEvent.dropped (entry_for w t c) else PlainEvent.enter (entry_for w t c))
entry_right w t c true right = right
entry_right w t c false right = right

entries_from : (w : Scenario) (t : ℕ) (h : History) (cs : List Coming) → Every (ComesRight w t) cs → Every (IsRight w) (EntriesOf w t h cs)
entries_from w t h [] right = tt
entries_from w t h (c ∷ cs) (here, more) =
    (entry_right w t c (length (Waiting h c.arc (row w c.frame).prio t) == capacity w c.arc (row w c.frame).prio) here, entries_from w t (h ++ entry_event w t h c ∷ []) cs more)

-- ---- over all moments

early_right : (w : Scenario) (arcs t k : ℕ) → k < 1 + 3 * arcs → (e : PlainEvent) → IsAt arcs (number arcs t k) e → IsRight w e
early_right w arcs t k lt (PlainEvent.enter e) at = absurd (let is = same_place arcs t e.tick k (1 + 3 * arcs) (omega (arith, lt)) (omega arith) at in omega (arith, lt, is))
early_right w arcs t k lt (PlainEvent.dropped e) at = absurd (let is = same_place arcs t e.tick k (1 + 3 * arcs) (omega (arith, lt)) (omega arith) at in omega (arith, lt, is))
early_right w arcs t k lt (PlainEvent.begin b) (b_lt, at) = absurd (let is = same_place arcs t b.tick k (2 + 3 * arcs + b.arc) (omega (arith, lt)) (omega (arith, b_lt)) at in omega (arith, lt, is))
early_right w arcs t k lt (PlainEvent.set s a v) at = tt
early_right w arcs t k lt (PlainEvent.ended e) at = tt
early_right w arcs t k lt (PlainEvent.arrive x) at = tt
early_right w arcs t k lt (PlainEvent.deliver d) at = tt
early_right w arcs t k lt (PlainEvent.active s a v) at = tt
early_right w arcs t k lt (PlainEvent.count a c) at = tt
early_right w arcs t k lt (PlainEvent.end e) at = tt

module _ (w : Scenario) (routed : IsRouted w) where
  module _ (past es : History) (n t k : ℕ) (at : AllAt (length w.net.arcs) (number (length w.net.arcs) t k) es) (right : Every (IsRight w) past) (s : (a : ℕ) → a < length w.net.arcs → Steady w n past a) where
    early : k < 1 + 3 * length w.net.arcs → Every (IsRight w) es
    early lt = every_weaker (IsAt (length w.net.arcs) (number (length w.net.arcs) t k)) (IsRight w) (early_right w (length w.net.arcs) t k lt) es at

    step : (p : Phase) → HasPlace (length w.net.arcs) k p → HappensIn w past t p es → Every (IsRight w) es
    unfolding HappensIn StartRule
    step Phase.sets place happens = early (omega (arith, place))
    step (Phase.ends a) (a_lt, place) happens = early (omega (arith, place, a_lt))
    step (Phase.arrivals a) (a_lt, place) happens = early (omega (arith, place, a_lt))
    step (Phase.expiries a) (a_lt, place) happens = early (omega (arith, place, a_lt))
    step Phase.entries place happens = subst (Every (IsRight w)) (sym happens) (entries_from w t past (Comings w past t) (comings_right w routed n past t right s))
    step (Phase.starts a) (a_lt, place) (inr (none, is)) = subst (Every (IsRight w)) (sym is) tt
    step (Phase.starts a) (a_lt, place) (inl (e, (c, (free, (i, there', first)), is_begin), is)) =
        subst (Every (IsRight w)) (sym (is ∙ ap (λ x. x ∷ []) is_begin)) (item_right w past a t i c right there', tt)

  pub all_right : (n : ℕ) (h : History) → LegalUpTo w n h → Every (IsRight w) h
  all_right zero h is = subst (Every (IsRight w)) (sym is) tt
  all_right (suc n) h (past, es, is, legal, happens) =
      let t = n / moments (length w.net.arcs) in
      let k = n % moments (length w.net.arcs) in
      let at : AllAt (length w.net.arcs) (number (length w.net.arcs) t k) es = subst (λ m. AllAt (length w.net.arcs) m es) (numbered (length w.net.arcs) n) (moment_events w past n es happens) in
      let old = all_right n past legal in
      subst (Every (IsRight w)) (sym is)
      (every-append (IsRight w) past es old (step past es n t k at old (λ a lt. steady w n past a lt legal) (phase_at (length w.net.arcs) k) (place_at (length w.net.arcs) n) happens))
