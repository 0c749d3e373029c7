-- The closing events of a history change nothing of the capture of an arc, nor of what it tells.
use Rattle.std.proofs.Common.{ℕ, ◌≡◌, ◌==◌, ◌+◌, ◌-◌, true, List, [], ◌∷◌, ◌++◌, length, take, drop, filter_map, map}
use Rattle.std.proofs.Common.{append_assoc, Option, None, Some, refl, sym, ◌∙◌, ap, subst}
use Rattle.std.specs.Prelude.{slice_get, option_map, if◌then◌else◌, All, filter}
use Rattle.std.specs.List.{AllByRecursion as Every}
use Rattle.std.proofs.lemmas.List.Elements.{filter_map-append}
use Rattle.pre_mpacket.specs.Spelling.{head_of}
use Rattle.pre_pcap.specs.Written.{CanBeWritten, stamped_record, capture_octets}
use Rattle.pre_receive.specs.Takings.{Taking}
use Rattle.pre_trace.specs.Figures.{is_closing}
use Rattle.pre_history.specs.Scenario.{Scenario, arc}
use Rattle.pre_history.specs.History.{Begin, Ended, PlainEvent, History}
use Rattle.pre_history.specs.Legal.{Legal, LegalBefore, closing, last_moment}
use Rattle.pre_history.specs.Octets.{Air, Arrived, Damaged, WholeOf, is_lost}
use Rattle.pre_history.specs.Queries.{Begins, Ends, Arrivals, Packet, Packets}
use Rattle.pre_history.specs.Selected.{begin_on, ended_on, arrive_on, active_on}
use Rattle.pre_history.proofs.Lists.{every-append, every_weaker, none_selected, no_append}
use Rattle.pre_history.proofs.Stays.{told_same, whole_told}
use Rattle.pre_dissect.specs.Captured.{recorded, recorded_of, Recorded, CaptureOf}
use Rattle.pre_dissect.specs.Dissections.{DissectText, lines_from}
use Rattle.pre_dissect.specs.Results.{TellResults, TextTells, came_before}
use Rattle.pre_dissect.proofs.Turning.{lines_closing}

no_begin : (a : ℕ) (e : PlainEvent) → is_closing e ≡ true → begin_on a e ≡ None
no_begin a (PlainEvent.begin b) is = absurd (cc is)
no_begin a (PlainEvent.count b c) is = refl
no_begin a (PlainEvent.end x) is = refl
no_begin a (PlainEvent.set t b v) is = refl
no_begin a (PlainEvent.ended x) is = refl
no_begin a (PlainEvent.arrive x) is = refl
no_begin a (PlainEvent.deliver d) is = refl
no_begin a (PlainEvent.active t b v) is = refl
no_begin a (PlainEvent.enter x) is = refl
no_begin a (PlainEvent.dropped x) is = refl

no_end : (a : ℕ) (e : PlainEvent) → is_closing e ≡ true → ended_on a e ≡ None
no_end a (PlainEvent.ended x) is = absurd (cc is)
no_end a (PlainEvent.begin b) is = refl
no_end a (PlainEvent.count b c) is = refl
no_end a (PlainEvent.end x) is = refl
no_end a (PlainEvent.set t b v) is = refl
no_end a (PlainEvent.arrive x) is = refl
no_end a (PlainEvent.deliver d) is = refl
no_end a (PlainEvent.active t b v) is = refl
no_end a (PlainEvent.enter x) is = refl
no_end a (PlainEvent.dropped x) is = refl

no_arrival : (a : ℕ) (e : PlainEvent) → is_closing e ≡ true → arrive_on a e ≡ None
no_arrival a (PlainEvent.arrive x) is = absurd (cc is)
no_arrival a (PlainEvent.begin b) is = refl
no_arrival a (PlainEvent.ended x) is = refl
no_arrival a (PlainEvent.count b c) is = refl
no_arrival a (PlainEvent.end x) is = refl
no_arrival a (PlainEvent.set t b v) is = refl
no_arrival a (PlainEvent.deliver d) is = refl
no_arrival a (PlainEvent.active t b v) is = refl
no_arrival a (PlainEvent.enter x) is = refl
no_arrival a (PlainEvent.dropped x) is = refl

not_active : (a t : ℕ) (e : PlainEvent) → is_closing e ≡ true → active_on a t e ≡ None
not_active a t (PlainEvent.active s b v) is = absurd (cc is)
not_active a t (PlainEvent.begin b) is = refl
not_active a t (PlainEvent.ended x) is = refl
not_active a t (PlainEvent.arrive x) is = refl
not_active a t (PlainEvent.count b c) is = refl
not_active a t (PlainEvent.end x) is = refl
not_active a t (PlainEvent.set s b v) is = refl
not_active a t (PlainEvent.deliver d) is = refl
not_active a t (PlainEvent.enter x) is = refl
not_active a t (PlainEvent.dropped x) is = refl

same_selected : {X : Type 0} (sel : PlainEvent → Option X) (body last : History) → ((e : PlainEvent) → is_closing e ≡ true → sel e ≡ None) → Every (λ e. is_closing e ≡ true) last → filter_map sel (body ++ last) ≡ filter_map sel body
same_selected sel body last none closed =
    filter_map-append sel body last ∙ no_append (filter_map sel body) (filter_map sel last) (none_selected sel last (every_weaker (λ e. is_closing e ≡ true) (λ e. sel e ≡ None) none last closed))

module _ (w : Scenario) (body last : History) (closed : Every (λ e. is_closing e ≡ true) last) (a : ℕ) where
  begins : Begins (body ++ last) a ≡ Begins body a
  begins = same_selected (begin_on a) body last (no_begin a) closed

  ends : Ends (body ++ last) a ≡ Ends body a
  ends = same_selected (ended_on a) body last (no_end a) closed

  arrivals : Arrivals (body ++ last) a ≡ Arrivals body a
  arrivals = same_selected (arrive_on a) body last (no_arrival a) closed

  whole : (b : Begin) → WholeOf w (body ++ last) b ≡ WholeOf w body b
  whole b = whole_told w body last b (told_same w body last b.arc b.tick (every_weaker (λ e. is_closing e ≡ true) (λ e. active_on b.arc b.tick e ≡ None) (not_active b.arc b.tick) last closed))

  arrived : (p : Packet) → Arrived w (body ++ last) p ≡ Arrived w body p
  arrived p = go p.ended
    where
      go : (o : Option Ended) → Arrived w (body ++ last) (record { begin = p.begin; ended = o }) ≡ Arrived w body (record { begin = p.begin; ended = o })
      go None = refl
      go (Some e) = ap (λ ws. if is_lost w p.begin then None else Some (Damaged w p.begin (head_of p.begin.kind ++ take (e.size - 4) (drop p.begin.from ws) ++ e.check))) (whole p.begin)

  packets : Packets (body ++ last) a ≡ Packets body a
  unfolding Packets
  packets = λ i. map (λ b. record { begin = b; ended = slice_get (filter (λ (e : Ended). e.ord == b.ord) (ends i)) 0 }) (begins i)

  air : Air w (body ++ last) a ≡ Air w body a
  unfolding Air
  air = λ i. map (λ p. arrived p i) (packets i)

  record_of : (o : Option Begin) (e : Ended) → recorded_of w (body ++ last) a o e ≡ recorded_of w body a o e
  record_of None e = refl
  record_of (Some b) e = ap (option_map (λ octets. record { tick = e.tick + (arc w a).delay; octets = octets })) (arrived (record { begin = b; ended = Some e }))

  record_same : (e : Ended) → recorded w (body ++ last) a e ≡ recorded w body a e
  record_same e = ap (λ xs. recorded_of w (body ++ last) a (slice_get xs e.ord) e) begins ∙ record_of (slice_get (Begins body a) e.ord) e

  pub records : Recorded w (body ++ last) a ≡ Recorded w body a
  records = λ i. filter_map (λ e. record_same e i) (ends i)

  pub results : (takings : List Taking) → TellResults w body a takings → TellResults w (body ++ last) a takings
  results takings tell i x at kept =
      let one = tell i x (ap (λ xs. slice_get xs i) (sym arrivals) ∙ at) kept in
      (one.0, ap (λ A. slice_get takings (came_before A i)) air ∙ one.1, one.2, one.3)

-- the capture of the arc has room for what is recorded, and its dissection tells the results
abbrev pub Tells : Scenario → History → ℕ → Type 0
Tells w h a = All CanBeWritten (Recorded w h a) × ((text : List ℕ) → DissectText (CaptureOf w h a) text → TextTells w h a text)

-- what is told of a history before its closing events is told of all of it
closed_tells : (w : Scenario) (body last : History) (a : ℕ) → Every (λ e. is_closing e ≡ true) last → Tells w body a → Tells w (body ++ last) a
closed_tells w body last a closed (fit, tell) =
    let same = records w body last closed a in (
      subst (All CanBeWritten) (sym same) fit,
      λ text is.
          let t = tell text (subst (λ xs. DissectText (capture_octets xs) text) same is) in
          (t.0, results w body last closed a t.0 t.1, t.2 ∙ ap (λ xs. lines_from 0 (map stamped_record xs) t.0) (sym same)),
    )

pub whole_tells : (w : Scenario) (h : History) (a : ℕ) → ((body : History) → LegalBefore w body (last_moment w) → Tells w body a) → Legal w h → Tells w h a
whole_tells w h a tell (body, counts, legal, lines, is) =
    let rest = counts ++ PlainEvent.end (closing w body) ∷ [] in
    let closed = every-append (λ e. is_closing e ≡ true) counts (PlainEvent.end (closing w body) ∷ []) (lines_closing w body (length w.net.arcs) counts lines) (refl, tt) in
    subst (λ g. Tells w g a) (sym (is ∙ append_assoc body counts (PlainEvent.end (closing w body) ∷ []))) (closed_tells w body rest a closed (tell body legal))
