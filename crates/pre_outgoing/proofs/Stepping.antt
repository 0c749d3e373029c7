-- What each step of a tick leaves of the relation.
use Rattle.std.proofs.Common.{ℕ, suc, ◌≡◌, ◌==◌, ◌&&◌, ◌+◌, ◌-◌, ◌*◌, ◌<◌, ◌≤◌, nat_lt, nat_le, not, Bool}
use Rattle.std.proofs.Common.{true, false, List, [], ◌∷◌, ◌++◌, length, refl, sym, ◌∙◌, ap}
use Rattle.std.proofs.Common.{ap₂, inr, arith, subst, Option, Some, None, map, filter}
use Rattle.std.specs.Prelude.{if◌then◌else◌, slice_get, ◌↔◌}
use Rattle.std.specs.List.{list_any}
use Rattle.std.proofs.lemmas.Bool.Decides.{nat_tests}
use Rattle.std.proofs.lemmas.List.{append-nil}
use Rattle.std.proofs.lemmas.List.Elements.{filter_map-append}
use Rattle.std.proofs.lemmas.List.Sums.{fold-append}
use Rattle.pre_rings.specs.declared.slots.FrameRef.{FrameRef}
use Rattle.pre_send.specs.Calls.{Call, Chosen, express, whole, first, rest, verify, respond, lldp, begun, ended, Told, tells, told_by}
use Rattle.pre_send.specs.Sendings.{Sending, Part, left_by, after_rest, part_after, interrupted, firsts, IsCut, Follows, AreSent, IsSending, IsFree}
use Rattle.pre_send.specs.Answers.{is_part}
use Rattle.pre_send.specs.Frames.{frame_of_part, frame_by}
use Rattle.pre_send.proofs.Ending.{with_end, follows_still}
use Rattle.pre_history.specs.Scenario.{Scenario, arc, FrameOf}
use Rattle.pre_history.specs.Moments.{moments}
use Rattle.pre_history.specs.History.{PlainEvent, History, Begin, Ended}
use Rattle.pre_history.specs.Selected.{RingEntry, begin_on, ended_on, entry_on, what_is}
use Rattle.pre_history.specs.Queries.{Begins, Ends, Entries, Waiting}
use Rattle.pre_history.specs.Starts.{Choice, ExpressWaits}
use Rattle.pre_history.specs.Legal.{LegalUpTo}
use Rattle.pre_history.specs.Placed.{number, IsBefore, AreLater}
use Rattle.pre_history.proofs.Places.{later_read}
use Rattle.pre_history.proofs.Lists.{every_selected, every_at}
use Rattle.pre_history.proofs.Later.{waiting_later}
use Rattle.pre_history.proofs.Placing.{placed}
use Rattle.pre_history.proofs.Turns.{tick_le}
use Rattle.pre_outgoing.specs.Matching.{what_of_frame, IsSized, IsStored, Fits, EndsFit, Agree, IsKnown, WaitsAgree, Matches}
use Rattle.pre_outgoing.proofs.Readings.{Picks}
use Rattle.pre_outgoing.proofs.Waitings.{waited_before}
use Rattle.pre_outgoing.proofs.Gaps.{all_ended}
use Rattle.pre_outgoing.proofs.Agreeing.{same_packets}

-- ---- what waits, over other histories

waiting_same : (g h : History) (a p t : ℕ) → Begins g a ≡ Begins h a → Entries g a p ≡ Entries h a p → Waiting g a p t ≡ Waiting h a p t
unfolding Waiting
waiting_same g h a p t bs es =
    ap₂ (λ (xs : List Begin) (ys : List RingEntry).
    map (λ (e : RingEntry). e.frame) (filter (λ (e : RingEntry). e.entered && nat_le e.tick t && not
    (list_any (λ (b : Begin). nat_lt b.tick t && what_is b.what e.frame && (b.from == 0)) xs)) ys)) bs es

express_same : (w : Scenario) (g h : History) (a t : ℕ) → ((p : ℕ) → Waiting g a p t ≡ Waiting h a p t) → ExpressWaits w g a t ↔ ExpressWaits w h a t
express_same w g h a t same = (
  λ x. (x.0, x.1, x.2, λ none. x.3 (same x.0 ∙ none)),
  λ x. (x.0, x.1, x.2, λ none. x.3 (sym (same x.0) ∙ none)),
)

waits_same : (w : Scenario) (g h : History) (a now : ℕ) (settled after : Bool) (packets : List Sending)
    → ((t : ℕ) → IsKnown after now t → IsKnown settled now t × (ExpressWaits w g a t ↔ ExpressWaits w h a t)) → WaitsAgree w h a now settled packets → WaitsAgree w g a now after packets
waits_same w g h a now settled after [] same waits = tt
waits_same w g h a now settled after (p ∷ older) same waits = λ none part. (
  (waits none part).0,
  λ t lt known.
      let s = same t known in
      let k = (waits none part).1 t lt s.0 in
      (λ x. k.0 (s.1.0 x), λ x. s.1.1 (k.1 x)),
)

pub others : (w : Scenario) (h g : History) (a now : ℕ) (settled : Bool) (calls : List Call) → Begins g a ≡ Begins h a → Ends g a ≡ Ends h a → ((p : ℕ) → Entries g a p ≡ Entries h a p)
    → Matches w h a now settled calls → Matches w g a now settled calls
others w h g a now settled calls bs es rings m = record {
  packets = m.packets;
  sending = m.sending;
  agree = subst (λ xs. Agree w m.packets xs (Ends g a)) (sym bs) (subst (Agree w m.packets (Begins h a)) (sym es) m.agree);
  waits = waits_same w g h a now settled settled m.packets (λ t known. (known, express_same w g h a t (λ p. waiting_same g h a p t bs (rings p)))) m.waits;
}

pub entered : (w : Scenario) (h es : History) (a now : ℕ) (calls : List Call) → Begins (h ++ es) a ≡ Begins h a → Ends (h ++ es) a ≡ Ends h a → ((t : ℕ) → t < now → AreLater w t es)
    → Matches w h a now true calls → Matches w (h ++ es) a now false calls
entered w h es a now calls bs ends later m = record {
  packets = m.packets;
  sending = m.sending;
  agree = subst (λ xs. Agree w m.packets xs (Ends (h ++ es) a)) (sym bs) (subst (Agree w m.packets (Begins h a)) (sym ends) m.agree);
  waits = waits_same w (h ++ es) h a now true false m.packets (λ t known. (tt, express_same w (h ++ es) h a t (λ p. waiting_later h es a p t (later_read w t es (later t known))))) m.waits;
}

-- ---- an end

with_end_agrees : (w : Scenario) (p : Sending) (older : List Sending) (bs : List Begin) (es : List Ended) (e : Ended) (store : List (Option (List ℕ))) → p.told.end ≡ None → e.size ≡ p.size
    → IsStored w (frame_by p.told.chosen (interrupted older)) store → Agree w (p ∷ older) bs es → Agree w (with_end p (record { tick = e.tick; store = store }) ∷ older) bs (es ++ e ∷ [])
unfolding with_end
with_end_agrees w p older bs es e store none size stored (front, b, before, bs_is, ends, same_length, fits, others) =
    let ends_are : es ≡ before = subst (λ o. EndsFit w p older o before es) none ends in (
      front,
      b,
      before,
      bs_is,
      (e, ap (λ xs. xs ++ e ∷ []) ends_are, refl, size, stored),
      same_length,
      record { began = fits.began; kind = fits.kind; from = fits.from; carries = fits.carries; sized = fits.sized },
      others,
    )

pub ending : (w : Scenario) (past : History) (a now next : ℕ) (settled after : Bool) (calls : List Call) (p : Sending) (older : List Sending) (e : Ended) (store : List (Option (List ℕ)))
    → Matches w past a now settled calls → IsSending (arc w a).cost (arc w a).add_frag calls (p ∷ older) → p.told.end ≡ None → e.arc ≡ a → e.size ≡ p.size
    → IsStored w (frame_by p.told.chosen (interrupted older)) store → Matches w (past ++ PlainEvent.ended e ∷ []) a next after (calls ++ ended e.tick store ∷ [])
unfolding with_end
ending w past a now next settled after calls p older e store m sending none on size stored =
    let same = same_packets w past a now settled calls (p ∷ older) m sending in
    let test : (e.arc == a) ≡ true = is_eq e.arc a on in
    let one : Ends (PlainEvent.ended e ∷ []) a ≡ e ∷ [] = rw test refl in
    let bs : Begins (past ++ PlainEvent.ended e ∷ []) a ≡ Begins past a = filter_map-append (begin_on a) past (PlainEvent.ended e ∷ []) ∙ append-nil (Begins past a) in
    let es : Ends (past ++ PlainEvent.ended e ∷ []) a ≡ Ends past a ++ e ∷ [] = filter_map-append (ended_on a) past (PlainEvent.ended e ∷ []) ∙ ap (λ xs. Ends past a ++ xs) one in
    let q = with_end p (record { tick = e.tick; store = store }) in
    let agrees = with_end_agrees w p older (Begins past a) (Ends past a) e store none size stored (subst (λ ps. Agree w ps (Begins past a) (Ends past a)) same m.agree) in
    record {
      packets = q ∷ older;
      sending = record {
        told = fold-append tells [] calls (ended e.tick store ∷ []) ∙ ap (λ (l : List Told). tells l (ended e.tick store)) sending.told;
        sent = (follows_still (arc w a).cost (arc w a).add_frag p.told.chosen older p (record { tick = e.tick; store = store }) sending.sent.0, sending.sent.1);
      };
      agree = subst (λ xs. Agree w (q ∷ older) xs (Ends (past ++ PlainEvent.ended e ∷ []) a)) (sym bs) (subst (Agree w (q ∷ older) (Begins past a)) (sym es) agrees);
      waits = λ none' part. absurd (cc none');
    }
  where
    is_eq : (m n : ℕ) → m ≡ n → (m == n) ≡ true
    is_eq m n e = grind (arith, nat_tests)

-- ---- when an arc's starts come, each frame entered its rings by then

entry_before : (arcs n a p : ℕ) (e : PlainEvent) (r : RingEntry) → IsBefore arcs n e → entry_on a p e ≡ Some r → number arcs r.tick (1 + 3 * arcs) < n
entry_before arcs n a p (PlainEvent.enter e) r (m, lt, at) is = go ((e.arc == a) && (e.prio == p)) is
  where
    go : (b : Bool) → (if b then Some (record { tick = e.tick; frame = e.frame; entered = true }) else None) ≡ Some r → number arcs r.tick (1 + 3 * arcs) < n
    go false is = absurd (cc is)
    go true is = let same : e.tick ≡ r.tick = cc is in subst (λ x. number arcs x (1 + 3 * arcs) < n) same (omega (arith, at, lt))
entry_before arcs n a p (PlainEvent.dropped e) r (m, lt, at) is = go ((e.arc == a) && (e.prio == p)) is
  where
    go : (b : Bool) → (if b then Some (record { tick = e.tick; frame = e.frame; entered = false }) else None) ≡ Some r → number arcs r.tick (1 + 3 * arcs) < n
    go false is = absurd (cc is)
    go true is = let same : e.tick ≡ r.tick = cc is in subst (λ x. number arcs x (1 + 3 * arcs) < n) same (omega (arith, at, lt))
entry_before arcs n a p (PlainEvent.set s b v) r before is = absurd (cc is)
entry_before arcs n a p (PlainEvent.begin b) r before is = absurd (cc is)
entry_before arcs n a p (PlainEvent.ended b) r before is = absurd (cc is)
entry_before arcs n a p (PlainEvent.arrive b) r before is = absurd (cc is)
entry_before arcs n a p (PlainEvent.deliver b) r before is = absurd (cc is)
entry_before arcs n a p (PlainEvent.active s b v) r before is = absurd (cc is)
entry_before arcs n a p (PlainEvent.count s b) r before is = absurd (cc is)
entry_before arcs n a p (PlainEvent.end b) r before is = absurd (cc is)

pub entered_by : (w : Scenario) (past : History) (t a : ℕ) → a < length w.net.arcs → LegalUpTo w (number (length w.net.arcs) t (2 + 3 * length w.net.arcs + a)) past
    → (p i : ℕ) (r : RingEntry) → slice_get (Entries past a p) i ≡ Some r → r.tick ≤ t
entered_by w past t a a_lt legal p i r here =
    let n = number (length w.net.arcs) t (2 + 3 * length w.net.arcs + a) in
    let y = every_at (λ (r : RingEntry). number (length w.net.arcs) r.tick (1 + 3 * length w.net.arcs) < n) (Entries past a p) i r
    (every_selected (entry_on a p) (IsBefore (length w.net.arcs) n) (λ r. number (length w.net.arcs) r.tick (1 + 3 * length w.net.arcs) < n)
    (entry_before (length w.net.arcs) n a p) past (placed w n past legal)) here in
    tick_le (moments (length w.net.arcs)) r.tick t (1 + 3 * length w.net.arcs) (2 + 3 * length w.net.arcs + a) (omega (arith, a_lt)) (omega (arith, y))

-- ---- a begin

sized_part : (w : Scenario) (f : FrameRef) (test : Bool) (place k : ℕ) (so_far : List ℕ) (x : Part) → f.size ≡ length (FrameOf w f.frame.0)
    → left_by test (record { frame = f; place = place; so_far = so_far; continuations = k }) ≡ Some x → x.frame.size ≡ length (FrameOf w x.frame.frame.0)
sized_part w f true place k so_far x sized is = absurd (cc is)
sized_part w f false place k so_far x sized is =
    let made : Part = record { frame = f; place = place; so_far = so_far; continuations = k } in
    let same : made ≡ x = cc is in subst (λ (y : Part). y.frame.size ≡ length (FrameOf w y.frame.frame.0)) same sized

-- the frame that is kept has the script's size
pub kept_sized : (w : Scenario) (cost add_frag : ℕ) (packets : List Sending) (bs : List Begin) (es : List Ended) → Agree w packets bs es → AreSent cost add_frag packets
    → (x : Part) → interrupted packets ≡ Some x → x.frame.size ≡ length (FrameOf w x.frame.frame.0)
kept_sized w cost add_frag [] bs es agree sent x is = absurd (cc is)
kept_sized w cost add_frag (p ∷ older) bs es (front, b, before, bs_is, ends, same_length, fits, others) (follows, sent) x is =
    go p.told.chosen fits.sized follows is (kept_sized w cost add_frag older front before others sent x)
  where
    go : (ch : Chosen) → IsSized w (frame_by ch (interrupted older)) → Follows cost add_frag ch older p → part_after ch (interrupted older) p ≡ Some x
        → (interrupted older ≡ Some x → x.frame.size ≡ length (FrameOf w x.frame.frame.0)) → x.frame.size ≡ length (FrameOf w x.frame.frame.0)
    go (express f) sized h is old = old is
    go (whole f) sized h is old = old is
    go verify sized h is old = old is
    go respond sized h is old = old is
    go lldp sized h is old = old is
    go (first f) sized h is old = sized_part w f (p.from + p.size == f.size) (p.from + (p.size - 4)) 0 _ x sized is
    go rest sized (y, interrupts, kind_is, from, cut) is old =
        sized_part w y.frame (p.from + p.size == y.frame.size) (p.from + (p.size - 4)) (suc y.continuations) _ x (subst (λ o. IsSized w (frame_of_part o)) interrupts sized)
        (sym (ap (λ o. after_rest o p) interrupts) ∙ is)

-- the size with no express frame told
size_of : Chosen → Option Part → ℕ
size_of (express f) left = f.size
size_of (whole f) left = f.size
size_of (first f) left = f.size
size_of rest None = 0
size_of rest (Some x) = x.frame.size - x.place
size_of verify left = 64
size_of respond left = 64
size_of lldp left = 64

abbrev new_told : ℕ → Chosen → Told
new_told t ch = record { began = t; chosen = ch; waits = None; end = None }

abbrev new_one : ℕ → Chosen → Option Part → Choice → Sending
new_one t ch left c = record { told = new_told t ch; kind = c.kind; from = c.from; size = size_of ch left }

module _ (w : Scenario) (cost add_frag t a ord : ℕ) (packets : List Sending) (c : Choice) where
  abbrev event : Begin
  event = record { tick = t; arc = a; ord = ord; kind = c.kind; what = c.what; from = c.from }

  abbrev Begun : Chosen → Type 0
  Begun ch = Follows cost add_frag ch packets (new_one t ch (interrupted packets) c) × Fits w (new_one t ch (interrupted packets) c) packets event

  uncut : (unsent : ℕ) (ch : Chosen) → IsCut cost add_frag (new_told t ch) unsent unsent
  uncut unsent ch = inr (λ d cut. cut.2, refl)

  picked : (sized : (x : Part) → interrupted packets ≡ Some x → x.frame.size ≡ length (FrameOf w x.frame.frame.0)) (ch : Chosen) → Picks w ch (interrupted packets) (firsts packets) c → Begun ch
  unfolding size_of
  picked sized (express f) (is, size) = (
    (ap (λ (x : Choice). x.kind) is, ap (λ (x : Choice). x.from) is, refl),
    record { began = refl; kind = refl; from = refl; carries = ap (λ (x : Choice). x.what) is; sized = size },
  )
  picked sized (whole f) (is, size) = (
    (ap (λ (x : Choice). x.kind) is, ap (λ (x : Choice). x.from) is, refl),
    record { began = refl; kind = refl; from = refl; carries = ap (λ (x : Choice). x.what) is; sized = size },
  )
  picked sized (first f) (is, size) = (
    (ap (λ (x : Choice). x.kind) is, ap (λ (x : Choice). x.from) is, uncut f.size (first f)),
    record { began = refl; kind = refl; from = refl; carries = ap (λ (x : Choice). x.what) is; sized = size },
  )
  picked sized rest (x, left, is) = (
    (
      x,
      left,
      ap (λ (x : Choice). x.kind) is,
      ap (λ (x : Choice). x.from) is,
      subst (λ o. IsCut cost add_frag (new_told t rest) (x.frame.size - x.place) (size_of rest o)) (sym left) (uncut (x.frame.size - x.place) rest),
    ),
    record {
      began = refl;
      kind = refl;
      from = refl;
      carries = ap (λ (x : Choice). x.what) is ∙ sym (ap (λ o. what_of_frame (frame_of_part o)) left);
      sized = subst (λ o. IsSized w (frame_of_part o)) (sym left) (sized x left);
    },
  )
  picked sized verify is = (
    (ap (λ (x : Choice). x.kind) is, ap (λ (x : Choice). x.from) is, refl),
    record { began = refl; kind = refl; from = refl; carries = ap (λ (x : Choice). x.what) is; sized = tt },
  )
  picked sized respond is = (
    (ap (λ (x : Choice). x.kind) is, ap (λ (x : Choice). x.from) is, refl),
    record { began = refl; kind = refl; from = refl; carries = ap (λ (x : Choice). x.what) is; sized = tt },
  )
  picked sized lldp is = (
    (ap (λ (x : Choice). x.kind) is, ap (λ (x : Choice). x.from) is, refl),
    record { began = refl; kind = refl; from = refl; carries = ap (λ (x : Choice). x.what) is; sized = tt },
  )

pub beginning : (w : Scenario) (past : History) (t a now ord : ℕ) (settled : Bool) (calls : List Call) (packets : List Sending) (ch : Chosen) (c : Choice) → a < length w.net.arcs
    → LegalUpTo w (number (length w.net.arcs) t (2 + 3 * length w.net.arcs + a)) past → Matches w past a now settled calls → IsSending (arc w a).cost (arc w a).add_frag calls packets
    → IsFree (arc w a).cost (told_by calls) t → Picks w ch (interrupted packets) (firsts packets) c → (is_part ch ≡ true → ¬ ExpressWaits w past a t)
    → Matches w (past ++ PlainEvent.begin (record { tick = t; arc = a; ord = ord; kind = c.kind; what = c.what; from = c.from }) ∷ []) a (t + 1) true (calls ++ begun t ch ∷ [])
beginning w past t a now ord settled calls packets ch c a_lt legal m sending free picks quiet =
    let b = event w (arc w a).cost (arc w a).add_frag t a ord packets c in
    let same = same_packets w past a now settled calls packets m sending in
    let agree : Agree w packets (Begins past a) (Ends past a) = subst (λ ps. Agree w ps (Begins past a) (Ends past a)) same m.agree in
    let all = all_ended w (arc w a).cost t packets (Begins past a) (Ends past a) agree (subst (λ l. IsFree (arc w a).cost l t) sending.told free) in
    let made = picked w (arc w a).cost (arc w a).add_frag t a ord packets c (kept_sized w (arc w a).cost (arc w a).add_frag packets (Begins past a) (Ends past a) agree sending.sent) ch picks in
    let q = new_one t ch (interrupted packets) c in
    let es = PlainEvent.begin b ∷ [] in
    let one : Begins es a ≡ b ∷ [] = rw (is_eq a) refl in
    let bs_more : Begins (past ++ es) a ≡ Begins past a ++ b ∷ [] = filter_map-append (begin_on a) past es ∙ ap (λ xs. Begins past a ++ xs) one in
    let es_same : Ends (past ++ es) a ≡ Ends past a = filter_map-append (ended_on a) past es ∙ append-nil (Ends past a) in
    let rings : (p : ℕ) → Entries (past ++ es) a p ≡ Entries past a p = λ p. filter_map-append (entry_on a p) past es ∙ append-nil (Entries past a p) in
    record {
      packets = q ∷ packets;
      sending = record {
        told = fold-append tells [] calls (begun t ch ∷ []) ∙ ap (λ (l : List Told). tells l (begun t ch)) sending.told;
        sent = (made.0, sending.sent);
      };
      agree = (Begins past a, b, Ends past a, bs_more, es_same, all, made.1, agree);
      waits = λ none part. (
        (λ s is. absurd (cc is)),
        λ u lt known. (
          λ waits.
              let earlier = waited_before w (past ++ es) a t u (omega (arith, lt)) (λ p i e at. entered_by w past t a a_lt legal p i e (ap (λ xs. slice_get xs i) (sym (rings p)) ∙ at)) waits in
              quiet part ((express_same w (past ++ es) past a t (λ p. waiting_later past es a p t (omega arith, tt))).0 earlier),
          λ never. absurd never,
        ),
      );
    }
  where
    is_eq : (m : ℕ) → (m == m) ≡ true
    is_eq m = grind (arith, nat_tests)
