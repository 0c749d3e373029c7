-- How frames of the express priorities are sent: whole, from the front of their ring.
use Rattle.std.proofs.Common.{ℕ, true, false, ◌≡◌, ◌<◌, ◌≤◌, List, ◌∷◌, length, filter, sym, ◌∙◌, ap, arith, subst, Some}
use Rattle.std.specs.Prelude.{slice_get, nat_lt}
use Rattle.pre_mpacket.specs.declared.packets.Kind.TheVariants as kind
use Rattle.pre_mpacket.specs.Arrivals.{is_start, is_fragment}
use Rattle.pre_base.specs.declared.numbers.FrameNo.{FrameNo}
use Rattle.pre_history.specs.declared.events.What.TheVariants as what
use Rattle.pre_history.specs.Scenario.{Scenario, arc, row}
use Rattle.pre_history.specs.History.{Begin, History}
use Rattle.pre_history.specs.Selected.{RingEntry, frame_number}
use Rattle.pre_history.specs.Queries.{Packet, Packets, PacketsBefore, Begins, Entries, Waiting, Rest, Interrupted}
use Rattle.pre_history.specs.Starts.{Item, Choice, There}
use Rattle.pre_history.specs.Legal.{LegalUpTo}
use Rattle.pre_history.proofs.Lists.{every_at}
use Rattle.pre_history.proofs.LaterEnds.{packet_back}
use Rattle.pre_history.proofs.Chosen.{from_filter}
use Rattle.pre_laws.proofs.Begun.{by_item, choice_of}
use Rattle.pre_laws.proofs.Routed.{from_last_first}
use Rattle.pre_delay.proofs.Rings.{front_of_ring, entries_prio}

-- a frame at the front of a ring has the ring's priority
pub front_prio : (w : Scenario) (n : ℕ) (h : History) (a p t g : ℕ) (behind : List ℕ) → LegalUpTo w n h → Waiting h a p t ≡ g ∷ behind → p ≡ (row w g).prio
front_prio w n h a p t g behind legal waits =
    let f = front_of_ring w n h a p t g behind legal waits in
    every_at (λ (r : RingEntry). r.entered ≡ true → p ≡ (row w r.frame).prio) (Entries h a p) f.place f.entry (entries_prio w n h a p legal) f.at f.waits.entered ∙ ap (λ x. (row w x).prio) f.is

-- a first fragment is of a frame below the express priorities
start_prio : (w : Scenario) (n : ℕ) (h : History) (a i : ℕ) (b : Begin) → a < length w.net.arcs → LegalUpTo w n h → slice_get (Begins h a) i ≡ Some b → is_start b.kind ≡ true
    → (row w (frame_number b.what)).prio < (arc w a).express_from
start_prio w n h a i b lt legal at starts = of (by_item w n h legal a lt i b at)
  where
    of : (j : Item) × There w h a b.tick j (choice_of b) → (row w (frame_number b.what)).prio < (arc w a).express_from
    of (Item.express, (f, front, is)) = absurd (let e : is_start b.kind ≡ false = ap is_start (ap (λ (y : Choice). y.kind) is) in cc (e, starts))
    of (Item.respond, (on, owed, is)) = absurd (let e : is_start b.kind ≡ false = ap is_start (ap (λ (y : Choice). y.kind) is) in cc (e, starts))
    of (Item.verify, (on, owed, is)) = absurd (let e : is_start b.kind ≡ false = ap is_start (ap (λ (y : Choice). y.kind) is) in cc (e, starts))
    of (Item.lldp, (on, owed, is)) = absurd (let e : is_start b.kind ≡ false = ap is_start (ap (λ (y : Choice). y.kind) is) in cc (e, starts))
    of (Item.rest, (r, left, is)) = absurd (let e : is_start b.kind ≡ false = ap is_start (ap (λ (y : Choice). y.kind) is) in cc (e, starts))
    of (Item.preemptable, (f, j, (p, le, below, (behind, waits), above), as', is)) =
        let prio = front_prio w n h a p b.tick f behind legal waits in
        let frame : frame_number b.what ≡ f = ap frame_number (ap (λ (y : Choice). y.what) is) in
        subst (λ y. (row w y).prio < (arc w a).express_from) (sym frame) (omega arith)

-- the rest of an interrupted frame is of one below the express priorities
pub rest_prio : (w : Scenario) (m : ℕ) (past : History) (a t : ℕ) (r : Rest) → a < length w.net.arcs → LegalUpTo w m past → Interrupted w past a t r → (row w r.frame).prio < (arc w a).express_from
rest_prio w m past a t r lt legal (first, more, run, ended, cut', is) =
    let o = from_last_first (λ p. is_start p.begin.kind) (filter (λ p. is_fragment p.begin.kind) (PacketsBefore past a t)) first more run in
    let one = from_filter (λ (p : Packet). is_fragment p.begin.kind) (PacketsBefore past a t) o.0 first o.1 in
    let two = from_filter (λ (p : Packet). nat_lt p.begin.tick t) (Packets past a) one.0 first one.1 in
    let back = packet_back past a two.0 first two.1 in
    let same : back.0 ≡ first.begin = ap (λ (p : Packet). p.begin) back.2 in
    let prio = start_prio w m past a two.0 back.0 lt legal back.1 (ap (λ (b : Begin). is_start b.kind) same ∙ o.2) in
    let frame : r.frame ≡ frame_number back.0.what = ap (λ (x : Rest). x.frame) is ∙ ap (λ (b : Begin). frame_number b.what) (sym same) in
    subst (λ x. (row w x).prio < (arc w a).express_from) (sym frame) prio

-- how a frame of an express priority begins: whole, from the front of its ring
pub record FromFront (w : Scenario) (h : History) (a : ℕ) (b : Begin) (f : ℕ) : Type 0 where
  pub kind : b.kind ≡ kind.Express
  pub from : b.from ≡ 0
  pub below : (row w f).prio < 8
  pub behind : List ℕ
  pub waits : Waiting h a (row w f).prio b.tick ≡ f ∷ behind

pub express_begins : (w : Scenario) (n : ℕ) (h : History) (a i : ℕ) (b : Begin) (f : FrameNo) → a < length w.net.arcs → LegalUpTo w n h → slice_get (Begins h a) i ≡ Some b → b.what ≡ what.Frame f
    → (arc w a).express_from ≤ (row w f.0).prio → FromFront w h a b f.0
express_begins w n h a i b f lt legal at carries high = of (by_item w n h legal a lt i b at)
  where
    number_is : (g : ℕ) → b.what ≡ what.Frame (record { 0 = g }) → f.0 ≡ g
    number_is g is = ap frame_number (sym carries ∙ is)

    of : (j : Item) × There w h a b.tick j (choice_of b) → FromFront w h a b f.0
    of (Item.express, (g, (p, le, below, (behind, waits), above), is)) =
        let same : f.0 ≡ g = number_is g (ap (λ (y : Choice). y.what) is) in
        let prio = front_prio w n h a p b.tick g behind legal waits in
        let ring : (row w f.0).prio ≡ p = ap (λ y. (row w y).prio) same ∙ sym prio in
        record {
          kind = ap (λ (y : Choice). y.kind) is;
          from = ap (λ (y : Choice). y.from) is;
          below = omega arith;
          behind = behind;
          waits = ap (λ q. Waiting h a q b.tick) ring ∙ (waits ∙ ap (λ y. y ∷ behind) (sym same));
        }
    of (Item.respond, (on, owed, is)) = absurd (let e : what.Frame f ≡ what.Nothing = sym carries ∙ ap (λ (y : Choice). y.what) is in cc e)
    of (Item.verify, (on, owed, is)) = absurd (let e : what.Frame f ≡ what.Nothing = sym carries ∙ ap (λ (y : Choice). y.what) is in cc e)
    of (Item.lldp, (on, owed, is)) = absurd (let e : what.Frame f ≡ what.Lldp = sym carries ∙ ap (λ (y : Choice). y.what) is in cc e)
    of (Item.rest, (r, left, is)) =
        let same : f.0 ≡ r.frame = number_is r.frame (ap (λ (y : Choice). y.what) is) in
        let prio = rest_prio w n h a b.tick r lt legal left in
        let here : (row w f.0).prio < (arc w a).express_from = subst (λ y. (row w y).prio < (arc w a).express_from) (sym same) prio in
        absurd (omega arith)
    of (Item.preemptable, (g, j, (p, le, below, (behind, waits), above), as', is)) =
        let same : f.0 ≡ g = number_is g (ap (λ (y : Choice). y.what) is) in
        let prio = front_prio w n h a p b.tick g behind legal waits in
        let ring : (row w f.0).prio ≡ p = ap (λ y. (row w y).prio) same ∙ sym prio in
        absurd (omega arith)
