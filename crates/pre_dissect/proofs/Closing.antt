-- What a capture watcher has taken after the end of an mPacket.
use Rattle.std.proofs.Common.{ℕ, suc, ◌≡◌, ◌+◌, ◌*◌, ◌^◌, ◌<◌, ◌≤◌, Bool, true, false, List, [], ◌∷◌, ◌++◌}
use Rattle.std.proofs.Common.{length, length-append, refl, sym, ◌∙◌, ap, arith, subst, append_assoc, Option, Some, None, Result, Ok, Err}
use Rattle.std.proofs.Common.{filter_map}
use Rattle.std.specs.Prelude.{slice_get, if◌then◌else◌, IfSome, OnErr, min}
use Rattle.std.specs.List.{list_any, cons_option}
use Rattle.std.proofs.lemmas.Grind.{flat_map-append}
use Rattle.pre_base.specs.declared.numbers.FrameNo.{FrameNo}
use Rattle.pre_base.specs.Sinks.{Taken, TakesAll}
use Rattle.pre_base.specs.Told.{WhereTold}
use Rattle.pre_pcap.specs.Written.{Stamped, record_octets}
use Rattle.pre_script.specs.Rules.{horizon, negotiates}
use Rattle.pre_history.specs.declared.events.What.{What}
use Rattle.pre_history.specs.declared.events.What.TheVariants as what
use Rattle.pre_history.specs.Scenario.{Scenario, arc, send}
use Rattle.pre_history.specs.History.{Begin, Ended, PlainEvent, History}
use Rattle.pre_history.specs.Selected.{begin_on, ended_on}
use Rattle.pre_history.specs.Queries.{Begins, Ends}
use Rattle.pre_history.specs.Octets.{WholeOf, whole_of}
use Rattle.pre_history.specs.Legal.{LegalUpTo}
use Rattle.pre_history.specs.Ordered.{IsOrdered}
use Rattle.pre_history.proofs.Lists.{within, at_last, every_at}
use Rattle.pre_history.proofs.NatTests.{is_eq}
use Rattle.pre_history.proofs.InOrder.{steady}
use Rattle.pre_history.proofs.Stays.{told_same}
use Rattle.pre_laws.proofs.Fitting.{is_routed, sent, row_is}
use Rattle.pre_laws.proofs.Reassembled.{size_fits}
use Rattle.pre_laws.proofs.Routed.{BegunRight, begins_right, all_right}
use Rattle.pre_trace.specs.Watching.{GoesOn}
use Rattle.pre_dissect.specs.declared.newest.Newest.{Newest}
use Rattle.pre_dissect.specs.declared.newest.Ending.{Ending}
use Rattle.pre_dissect.specs.Fronts.{FilesFit, IsFront, IsUpTo}
use Rattle.pre_dissect.specs.Captured.{octets_of, records_of, recorded, recorded_of, Recorded, Added}
use Rattle.pre_dissect.specs.Sendings.{IsEnding, IsKnown, IsWholeOf}
use Rattle.pre_dissect.specs.Watching.{IsNewest, Knows, HoldsRecords, HoldsTorn, HasTaken}
use Rattle.pre_dissect.proofs.Turning.{Alone, front_before, every_mid, end_alone}
use Rattle.pre_dissect.proofs.Within.{end_front}
use Rattle.pre_dissect.proofs.Growing.{grown, stays, unselected, selected, one_selected, wholes_untold, begin_on_arc}

small : (b : Bool) (m : ℕ) → (if b then min (4 * 10 ^ 12) m else 4 * 10 ^ 12) ≤ 4 * 10 ^ 12
small true m = omega arith
small false m = omega arith

small_delay : (w : Scenario) (a : ℕ) → a < length w.net.arcs → (arc w a).delay ≤ 10 ^ 9
small_delay w a lt = let rules = w.net.rules.each_arc a _ lt in rules.delay

-- what ends by the last tick arrives before the first tick that no record can have
pub latest : (w : Scenario) → FilesFit w → (a : ℕ) → a < length w.net.arcs → (t : ℕ) → t ≤ w.script.until.0 → t + (arc w a).delay < 4 * 10 ^ 18
latest w fits a lt t up_to =
    let until = fits.lines_fit.until in
    let early : horizon w.net ≤ 4 * 10 ^ 12 = small (list_any negotiates w.net.arcs) (10000 * w.net.timing.interval) in
    let delay = small_delay w a lt in
    omega (arith, up_to, until, early, delay)

-- the frame of an mPacket that began is one of the script
known_frame : (w : Scenario) (fits : FilesFit w) (n : ℕ) (h : History) → LegalUpTo w n h → (a i : ℕ) (b : Begin) (f : FrameNo) → slice_get (Begins h a) i ≡ Some b → b.what ≡ what.Frame f → IsKnown w f.0
known_frame w fits n h legal a i b f at carries =
    let routed = is_routed w fits.rows_fit fits.lines_fit in
    let on = (every_at (BegunRight w a) (Begins h a) i b (begins_right w h a (all_right w routed n h legal)) at).on f carries in
    let s = sent w fits.rows_fit fits.lines_fit f.0 on.known in
    let r = row_is w fits.rows_fit fits.lines_fit f.0 on.known in
    record {
      known = on.known;
      row_known = within w.streams.rows (send w f.0).send.stream.0 s.row s.known;
      route = r.route.long.0;
      vid = r.vid;
      size = routed.sizes f.0 on.known;
    }

whole_is : (w : Scenario) (advert : List ℕ) (g : History) (b : Begin) (k : What) → k ≡ b.what → ((f : FrameNo) → b.what ≡ what.Frame f → IsKnown w f.0) → (b.what ≡ what.Lldp → advert ≡ WholeOf w g b) → IsWholeOf w advert k (WholeOf w g b)
whole_is w advert g b (what.Frame f) is known says = (known f (sym is), ap (whole_of w g b) (sym is))
whole_is w advert g b what.Lldp is known says = sym (says (sym is))
whole_is w advert g b what.Nothing is known says = ap (whole_of w g b) (sym is)

module _ (w : Scenario) (a : ℕ) (n : Newest) (advert : List ℕ) (h : History) (active : Bool) (x : Ending) (ord : ℕ) where
  abbrev over : Ended
  over = record { tick = x.tick.0; arc = a; ord = ord; size = x.size; check = x.check }

  abbrev now : History
  now = h ++ PlainEvent.ended (record { tick = x.tick.0; arc = a; ord = ord; size = x.size; check = x.check }) ∷ []

  module _ (fits : FilesFit w) (front : IsFront w now) (is : IsNewest w h a n advert) where
    o : Alone w h (PlainEvent.ended over)
    o = end_alone w h over front.legal_front

    same : Begins now a ≡ Begins h a
    same = unselected (begin_on a) h (PlainEvent.ended over) refl

    wholes : (b : Begin) (i : ℕ) → slice_get (Begins h a) i ≡ Some b → WholeOf w now b ≡ WholeOf w h b
    wholes = wholes_untold w h a (PlainEvent.ended over) (λ t. refl)

    ends_on : ended_on a (PlainEvent.ended over) ≡ Some over
    ends_on = rw (is_eq a a refl) refl

    ends : Ends now a ≡ Ends h a ++ over ∷ []
    ends = selected (ended_on a) h (PlainEvent.ended over) over ends_on

    at_end : slice_get (Ends now a) (length (Ends h a)) ≡ Some over
    at_end = ap (λ xs. slice_get xs (length (Ends h a))) ends ∙ at_last (Ends h a) over

    ordered : IsOrdered w now a
    ordered = (steady w (suc o.moment) now a o.at.0 o.more).ordered

    ord_is : ord ≡ is.place
    ord_is =
        let turn : ord ≡ length (Ends h a) = ordered.end_places (length (Ends h a)) over at_end in
        let few = (steady w o.moment h a o.at.0 o.legal).ordered.few_open in
        let most = ordered.ends_begun in
        let long = ap length ends ∙ length-append (Ends h a) (over ∷ []) in
        let begins = ap length same in
        let newest = is.newest in
        omega (arith, turn, few, most, long, begins, newest)

    pub at_begin : slice_get (Begins now a) ord ≡ Some is.begin
    at_begin = ap (λ xs. slice_get xs ord) same ∙ (ap (slice_get (Begins h a)) ord_is ∙ is.begun)

    up_to : x.tick.0 ≤ w.script.until.0
    up_to = every_mid (IsUpTo w.script.until.0) h [] (PlainEvent.ended over) front.within

    pub ending : IsEnding w now a n advert x is.begin over
    ending =
        let size = size_fits w (is_routed w fits.rows_fit fits.lines_fit) (suc o.moment) now o.more a o.at.0 ord is.begin over at_begin (ap (slice_get (Ends now a)) (ordered.end_places (length (Ends h a)) over at_end) ∙ at_end) in
        record {
          known = o.at.0;
          on = begin_on_arc w h a (PlainEvent.ended over) is.place is.begin is.begun;
          ord = is.ord;
          kind = is.kind;
          carries = is.carries;
          from = is.from;
          counts = is.counts;
          whole = whole_is w advert now is.begin n.what is.carries (λ f carries. known_frame w fits o.moment h o.legal a is.place is.begin f is.begun carries) (λ lldp. is.advert_is lldp ∙ sym (wholes is.begin is.place is.begun));
          tick = refl;
          size = refl;
          check = refl;
          least = size.1;
          most = size.0;
          up_to = up_to;
          due = latest w fits a o.at.0 x.tick.0 up_to;
        }

    pub added : Added w h a (PlainEvent.ended over) ≡ records_of (recorded_of w now a (Some is.begin) over)
    added = ap (λ (xs : List Ended). filter_map_recorded xs) (one_selected (ended_on a) (PlainEvent.ended over) over ends_on) ∙ (ap one_or_none (ap (λ (b : Option Begin). recorded_of w now a b over) at_begin) ∙ as_records (recorded_of w now a (Some is.begin) over))
      where
        filter_map_recorded : List Ended → List Stamped
        filter_map_recorded xs = filter_map (recorded w now a) xs

        one_or_none : Option Stamped → List Stamped
        one_or_none s = cons_option s []

        as_records : (s : Option Stamped) → cons_option s [] ≡ records_of s
        as_records None = refl
        as_records (Some s) = refl

    pub grows : Recorded w now a ≡ Recorded w h a ++ Added w h a (PlainEvent.ended over)
    grows = grown w h a (PlainEvent.ended over) wholes (λ i d at. ap (λ xs. slice_get xs d.ord) same)

    pub knows : Knows w h a active (Some n) advert → Knows w now a active (Some n) advert
    knows k = record {
      active_is = k.active_is ∙ sym (told_same w h (PlainEvent.ended over ∷ []) a w.script.until.0 (refl, tt));
      newest_is = stays w h a (PlainEvent.ended over) wholes (Some n) advert refl k.newest_is;
    }

-- what a sink holds once it took the records of one more event
holds_more : (T E : Type 0) (w : Scenario) (a : ℕ) (old new : Option Taken) (base : List ℕ) (h : History) (e : PlainEvent) (t : T)
    → WhereTold old new (TakesAll {T = T} {E = E} (Ok t) (octets_of (Added w h a e))) → Recorded w (h ++ e ∷ []) a ≡ Recorded w h a ++ Added w h a e → HoldsRecords w a old base h → HoldsRecords w a new base (h ++ e ∷ [])
holds_more T E w a None None base h e t took more holds = tt
holds_more T E w a None (Some v) base h e t took more holds = absurd took
holds_more T E w a (Some u) None base h e t took more holds = absurd took
holds_more T E w a (Some u) (Some v) base h e t took more holds =
    took ∙ (ap (λ xs. xs ++ octets_of (Added w h a e)) holds ∙ (append_assoc base (octets_of (Recorded w h a)) (octets_of (Added w h a e))
    ∙ ap (λ xs. base ++ xs) (sym (flat_map-append (λ (one : Stamped). record_octets one.tick one.octets) (Recorded w h a) (Added w h a e)) ∙ sym (ap octets_of more))))

holds_torn : (T E : Type 0) (w : Scenario) (a : ℕ) (old new : Option Taken) (base : List ℕ) (h : History) (e : PlainEvent) (d : E)
    → WhereTold old new (TakesAll {T = T} {E = E} (Err d) (octets_of (Added w h a e))) → HoldsRecords w a old base h
    → IfSome new (λ t. (front : List ℕ) × (rest : List ℕ) × (octets_of (Added w h a e) ≡ front ++ rest) × (t.octets ≡ base ++ octets_of (Recorded w h a) ++ front))
holds_torn T E w a None None base h e d took holds = tt
holds_torn T E w a None (Some v) base h e d took holds = absurd took
holds_torn T E w a (Some u) None base h e d took holds = absurd took
holds_torn T E w a (Some u) (Some v) base h e d took holds = (took.1.0, took.0, took.1.1, took.1.2 ∙ ap (λ xs. xs ++ took.1.0) holds)

module _ (w : Scenario) (a : ℕ) (active : Bool) (n : Newest) (advert : List ℕ) (old new : Option Taken) (x : Ending) (ord : ℕ) where
  abbrev ended : PlainEvent
  ended = PlainEvent.ended (record { tick = x.tick.0; arc = a; ord = ord; size = x.size; check = x.check })

  ended_taken : {T E : Type 0} (r : Result T E) → OnErr r (x.tick.0 ≤ w.script.until.0)
      → ((h : History) (b : Begin) (e : Ended) → IsEnding w h a n advert x b e → WhereTold old new (TakesAll r (octets_of (records_of (recorded_of w h a (Some b) e)))))
      → GoesOn r (HasTaken w a active (Some n) advert old) (HasTaken w a active (Some n) advert new) (HoldsTorn w a new) ended
  ended_taken {T} {E} (Ok t) early puts = λ base h taken fits front.
      let was = taken fits (front_before w h ended front) in
      let b = was.0.newest_is.begin in
      let took = subst (λ xs. WhereTold old new (TakesAll {T = T} {E = E} (Ok t) (octets_of xs))) (sym (added w a n advert h active x ord fits front was.0.newest_is))
      (puts (h ++ ended ∷ []) b (record { tick = x.tick.0; arc = a; ord = ord; size = x.size; check = x.check }) (ending w a n advert h active x ord fits front was.0.newest_is)) in
      (knows w a n advert h active x ord fits front was.0.newest_is was.0, holds_more T E w a old new base h ended t took (grows w a n advert h active x ord fits front was.0.newest_is) was.1)
  ended_taken {T} {E} (Err d) early puts = λ base h taken fits begun.
      let front = end_front w h (record { tick = x.tick.0; arc = a; ord = ord; size = x.size; check = x.check }) begun early in
      let was = taken fits (front_before w h ended front) in
      let b = was.0.newest_is.begin in
      let took = subst (λ xs. WhereTold old new (TakesAll {T = T} {E = E} (Err d) (octets_of xs))) (sym (added w a n advert h active x ord fits front was.0.newest_is))
      (puts (h ++ ended ∷ []) b (record { tick = x.tick.0; arc = a; ord = ord; size = x.size; check = x.check }) (ending w a n advert h active x ord fits front was.0.newest_is)) in
      (front, grows w a n advert h active x ord fits front was.0.newest_is, holds_torn T E w a old new base h ended d took was.1)

-- what follows from the end of the newest mPacket
pub end_taken : {T E : Type 0} (r : Result T E) (w : Scenario) (a : ℕ) (active : Bool) (newest : Option Newest) (n : Newest) (advert : List ℕ) (old new : Option Taken) (x : Ending) (ord : ℕ) (e : PlainEvent)
    → e ≡ PlainEvent.ended (record { tick = x.tick.0; arc = a; ord = ord; size = x.size; check = x.check }) → newest ≡ Some n → OnErr r (x.tick.0 ≤ w.script.until.0)
    → ((h : History) (b : Begin) (e : Ended) → IsEnding w h a n advert x b e → WhereTold old new (TakesAll r (octets_of (records_of (recorded_of w h a (Some b) e)))))
    → GoesOn r (HasTaken w a active newest advert old) (HasTaken w a active newest advert new) (HoldsTorn w a new) e
end_taken r w a active newest n advert old new x ord e is some early puts =
    subst (λ e. GoesOn r (HasTaken w a active newest advert old) (HasTaken w a active newest advert new) (HoldsTorn w a new) e) (sym is)
    (subst (λ (o : Option Newest). GoesOn r (HasTaken w a active o advert old) (HasTaken w a active o advert new) (HoldsTorn w a new) (PlainEvent.ended (record { tick = x.tick.0; arc = a; ord = ord; size = x.size; check = x.check }))) (sym some)
    (ended_taken w a active n advert old new x ord r early puts))
