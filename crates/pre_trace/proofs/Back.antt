-- What is written for an event is read as that event.
use Rattle.std.proofs.Common.{ℕ, ◌≡◌, ◌&&◌, ◌<◌, ◌^◌, Bool, true, false, List, [], ◌∷◌, ◌++◌, length, refl, sym}
use Rattle.std.proofs.Common.{◌∙◌, ap, Result, Ok, Err, codes, if◌then◌else◌, append_assoc, filter}
use Rattle.std.specs.List.{list_all}
use Rattle.std.specs.Fmt.{decimal}
use Rattle.std.proofs.lemmas.List.{append_cancel_right}
use Rattle.pre_text.specs.Lines.{cut_at, is_nonempty, lines_of}
use Rattle.pre_text.specs.Reading.{AreWords, IsWord, joined}
use Rattle.pre_text.specs.Writing.{line_of}
use Rattle.pre_text.proofs.Decimals.{decimal_word, hex_back, hex_word, number_back}
use Rattle.pre_text.proofs.OneReading.{line_cut}
use Rattle.pre_text.proofs.ReadBack.{line_back, words_back}
use Rattle.pre_topo.specs.declared.network.Network.{Network}
use Rattle.pre_topo.specs.Named.{arc_name}
use Rattle.pre_history.specs.History.{Entry, PlainEvent}
use Rattle.pre_history.specs.Plain.{IsEvent}
use Rattle.pre_trace.specs.Text.{line}
use Rattle.pre_history.specs.Written.{IsNumber, IsWritten}
use Rattle.pre_trace.specs.declared.words.EventFault.{EventFault}
use Rattle.pre_trace.specs.declared.words.EventFault.TheVariants.{Word, Number, Name, Hex}
use Rattle.pre_base.specs.declared.limits.TheConstants.{GREATEST_FRAME}
use Rattle.pre_trace.specs.Saying.{count_said, entered, entry_said, event_of, given, said_after, said_in}
use Rattle.pre_trace.specs.Reading.{Fits, Tells}
use Rattle.pre_trace.proofs.Places.{arc_back, node_back}
use Rattle.pre_trace.proofs.Lines.{TextLaws, first_is_word, first_word, line_words, more_are_words, more_words}
use Rattle.pre_trace.proofs.Spelling.{arc_nonempty, below_back, check_back, hex_nonempty, kind_back, kind_nonempty, low_back, node_nonempty, not_text, number_nonempty, outcome_back, outcome_nonempty}
use Rattle.pre_trace.proofs.Spelling.{setting_back, setting_nonempty, what_back, what_nonempty, yes_back, yes_nonempty}
use Rattle.pre_trace.proofs.Told.{kept_all}

-- ---- the words of an event's line

laws : TextLaws
laws = record { reading = line_cut; number_word = decimal_word; number_back = number_back; octets_word = hex_word; octets_back = hex_back }

line_joined : (first : List ℕ) (words : List (List ℕ)) → line_of first words ≡ joined first words ++ 10 ∷ []
line_joined first [] = refl
line_joined first (w ∷ ws) = ap (λ (l : List ℕ). first ++ 32 ∷ l) (line_joined w ws) ∙ sym (append_assoc first (32 ∷ joined w ws) (10 ∷ []))

first_nonempty : (net : Network) (e : PlainEvent) → IsWritten net e → is_nonempty (first_word net e) ≡ true
first_nonempty net (PlainEvent.set tick arc value) p = number_nonempty tick p.0
first_nonempty net (PlainEvent.begin b) p = number_nonempty b.tick p.0
first_nonempty net (PlainEvent.ended b) p = number_nonempty b.tick p.0
first_nonempty net (PlainEvent.arrive x) p = number_nonempty x.tick p.0
first_nonempty net (PlainEvent.deliver d) p = number_nonempty d.tick p.0
first_nonempty net (PlainEvent.active tick arc value) p = number_nonempty tick p.0
first_nonempty net (PlainEvent.enter x) p = number_nonempty x.tick p.0
first_nonempty net (PlainEvent.dropped x) p = number_nonempty x.tick p.0
first_nonempty net (PlainEvent.count arc c) p = refl
first_nonempty net (PlainEvent.end e) p = number_nonempty e.until p.0

more_nonempty : (net : Network) (e : PlainEvent) → IsWritten net e → list_all is_nonempty (more_words net e) ≡ true
more_nonempty net (PlainEvent.set tick arc value) p = λ i. arc_nonempty net arc p.1 i && (setting_nonempty value i && true)
more_nonempty net (PlainEvent.begin b) p = λ i.
    arc_nonempty net b.arc p.1 i && (number_nonempty b.ord p.2 i && (kind_nonempty b.kind i && (what_nonempty b.what p.4 i && (number_nonempty b.from p.5 i && true))))
more_nonempty net (PlainEvent.ended b) p = λ i.
    arc_nonempty net b.arc p.1 i && (number_nonempty b.ord p.2 i && (number_nonempty b.size p.3 i && (hex_nonempty b.check p.4 i && true)))
more_nonempty net (PlainEvent.arrive x) p = λ i. arc_nonempty net x.arc p.1 i && (number_nonempty x.ord p.2 i && (outcome_nonempty x.result i && true))
more_nonempty net (PlainEvent.deliver d) p = λ i. node_nonempty net d.node p.1 i && (number_nonempty d.frame p.2 i && (hex_nonempty d.octets p.3 i && true))
more_nonempty net (PlainEvent.active tick arc value) p = λ i. arc_nonempty net arc p.1 i && (yes_nonempty value i && true)
more_nonempty net (PlainEvent.enter x) p = λ i. arc_nonempty net x.arc p.1 i && (number_nonempty x.prio p.2 i && (number_nonempty x.frame p.3 i && true))
more_nonempty net (PlainEvent.dropped x) p = λ i. arc_nonempty net x.arc p.1 i && (number_nonempty x.prio p.2 i && (number_nonempty x.frame p.3 i && true))
more_nonempty net (PlainEvent.count arc c) p = λ i.
    arc_nonempty net arc p.0 i
    && (number_nonempty c.err p.1 i && (number_nonempty c.smd p.2 i && (number_nonempty c.ok p.3 i && (number_nonempty c.rx p.4 i && (number_nonempty c.tx p.5 i && true)))))
more_nonempty net (PlainEvent.end e) p = λ i. number_nonempty e.sent p.1 i && (number_nonempty e.delivered p.2 i && (number_nonempty e.dropped p.3 i && true))

-- ---- they are read as the event

read_from : (net : Network) (octets : List ℕ) (e : PlainEvent) (first : List ℕ) (words : List (List ℕ)) → IsWord first → AreWords words
    → list_all is_nonempty (first ∷ words) ≡ true → said_in net (first ∷ words) ≡ Ok e → line_of first words ≡ octets ++ 10 ∷ [] → event_of net octets ≡ Ok e
read_from net octets e first words one more some said spells =
    let same : octets ≡ joined first words = append_cancel_right octets (joined first words) (10 ∷ []) (sym spells ∙ line_joined first words) in
    let cut : cut_at 32 octets ≡ first ∷ words = ap (cut_at 32) same ∙ words_back first words one more in
    ap (λ (parts : List (List ℕ)). if list_all is_nonempty parts then said_in net (filter is_nonempty parts) else Err Word) cut
    ∙ (ap (λ (b : Bool). if b then said_in net (filter is_nonempty (first ∷ words)) else Err Word) some
    ∙ (ap (said_in net) (kept_all (first ∷ words) some) ∙ said))

-- the first word is a tick
begun : (net : Network) (tick : ℕ) (words : List (List ℕ)) (r : Result PlainEvent EventFault) → IsNumber tick → said_after net (decimal tick) words ≡ r → said_in net (decimal tick ∷ words) ≡ r
begun net tick words r lt is = ap (λ (b : Bool). if b then count_said net words else said_after net (decimal tick) words) (not_text tick (codes "count") lt refl) ∙ is

module _ (net : Network) where
  entry_said_back : (lost : Bool) (x : Entry) → IsNumber x.tick → x.arc < length net.arcs → IsNumber x.prio → IsNumber x.frame → x.prio < 8 → x.frame < 2 ^ 32
      → entry_said lost net (decimal x.tick) (arc_name net x.arc ∷ decimal x.prio ∷ decimal x.frame ∷ []) ≡ Ok (entered lost x)
  entry_said_back lost x tick arc prio frame few small = λ i.
      given (number_back x.tick tick i) Number (λ t.
      given (arc_back net x.arc arc i) Name (λ a.
      given (below_back 8 x.prio prio few i) Number (λ p.
      given (below_back (2 ^ 32) x.frame frame small i) Number (λ f.
      Ok (entered lost (record { tick = t; arc = a; prio = p; frame = f }))))))

  said_back : (e : PlainEvent) → IsWritten net e → IsEvent e → Fits e → said_in net (first_word net e ∷ more_words net e) ≡ Ok e
  said_back (PlainEvent.set tick arc value) p u q =
      begun net tick (more_words net (PlainEvent.set tick arc value)) (Ok (PlainEvent.set tick arc value)) p.0 (λ i.
      given (setting_back value i) Word (λ v.
      given (number_back tick p.0 i) Number (λ t.
      given (arc_back net arc p.1 i) Name (λ a.
      Ok (PlainEvent.set t a v)))))
  said_back (PlainEvent.begin b) p u q =
      begun net b.tick (more_words net (PlainEvent.begin b)) (Ok (PlainEvent.begin b)) p.0 (λ i.
      given (kind_back b.kind p.3 i) Word (λ kind.
      given (number_back b.tick p.0 i) Number (λ tick.
      given (arc_back net b.arc p.1 i) Name (λ arc.
      given (number_back b.ord p.2 i) Number (λ ord.
      given (what_back b.what p.4 q.0 i) Number (λ what.
      given (below_back (2 ^ 16) b.from p.5 q.1 i) Number (λ from.
      Ok (PlainEvent.begin (record { tick = tick; arc = arc; ord = ord; kind = kind; what = what; from = from })))))))))
  said_back (PlainEvent.ended b) p u q =
      begun net b.tick (more_words net (PlainEvent.ended b)) (Ok (PlainEvent.ended b)) p.0 (λ i.
      given (number_back b.tick p.0 i) Number (λ tick.
      given (arc_back net b.arc p.1 i) Name (λ arc.
      given (number_back b.ord p.2 i) Number (λ ord.
      given (below_back (2 ^ 16) b.size p.3 q.0 i) Number (λ size.
      given (check_back b.check p.4 q.1 i) Hex (λ check.
      Ok (PlainEvent.ended (record { tick = tick; arc = arc; ord = ord; size = size; check = check }))))))))
  said_back (PlainEvent.arrive x) p u q =
      begun net x.tick (more_words net (PlainEvent.arrive x)) (Ok (PlainEvent.arrive x)) p.0 (λ i.
      given (outcome_back x.result i) Word (λ result.
      given (number_back x.tick p.0 i) Number (λ tick.
      given (arc_back net x.arc p.1 i) Name (λ arc.
      given (number_back x.ord p.2 i) Number (λ ord.
      Ok (PlainEvent.arrive (record { tick = tick; arc = arc; ord = ord; result = result })))))))
  said_back (PlainEvent.deliver d) p u q =
      begun net d.tick (more_words net (PlainEvent.deliver d)) (Ok (PlainEvent.deliver d)) p.0 (λ i.
      given (number_back d.tick p.0 i) Number (λ tick.
      given (node_back net d.node p.1 i) Name (λ node.
      given (below_back (2 ^ 32) d.frame p.2 q i) Number (λ frame.
      given (low_back GREATEST_FRAME d.octets p.3 u.1 i) Hex (λ octets.
      Ok (PlainEvent.deliver (record { tick = tick; node = node; frame = frame; octets = octets })))))))
  said_back (PlainEvent.active tick arc value) p u q =
      begun net tick (more_words net (PlainEvent.active tick arc value)) (Ok (PlainEvent.active tick arc value)) p.0 (λ i.
      given (yes_back value i) Word (λ v.
      given (number_back tick p.0 i) Number (λ t.
      given (arc_back net arc p.1 i) Name (λ a.
      Ok (PlainEvent.active t a v)))))
  said_back (PlainEvent.enter x) p u q =
      begun net x.tick (more_words net (PlainEvent.enter x)) (Ok (PlainEvent.enter x)) p.0 (entry_said_back false x p.0 p.1 p.2 p.3 q.0 q.1)
  said_back (PlainEvent.dropped x) p u q =
      begun net x.tick (more_words net (PlainEvent.dropped x)) (Ok (PlainEvent.dropped x)) p.0 (entry_said_back true x p.0 p.1 p.2 p.3 q.0 q.1)
  said_back (PlainEvent.count arc c) p u q = λ i.
      given (arc_back net arc p.0 i) Name (λ a.
      given (number_back c.err p.1 i) Number (λ err.
      given (number_back c.smd p.2 i) Number (λ smd.
      given (number_back c.ok p.3 i) Number (λ ok.
      given (number_back c.rx p.4 i) Number (λ rx.
      given (number_back c.tx p.5 i) Number (λ tx.
      Ok (PlainEvent.count a (record { err = err; smd = smd; ok = ok; rx = rx; tx = tx }))))))))
  said_back (PlainEvent.end e) p u q =
      begun net e.until (more_words net (PlainEvent.end e)) (Ok (PlainEvent.end e)) p.0 (λ i.
      given (number_back e.until p.0 i) Number (λ until.
      given (number_back e.sent p.1 i) Number (λ sent.
      given (number_back e.delivered p.2 i) Number (λ delivered.
      given (number_back e.dropped p.3 i) Number (λ lost.
      Ok (PlainEvent.end (record { until = until; sent = sent; delivered = delivered; dropped = lost })))))))

  pub read_line : (octets : List ℕ) (e : PlainEvent) → Tells net octets e → event_of net octets ≡ Ok e
  read_line octets e told =
      let p = told.written in
      let first = first_nonempty net e p in
      let more = more_nonempty net e p in
      read_from net octets e (first_word net e) (more_words net e) (first_is_word laws net e p) (more_are_words laws net e p) (λ i. first i && more i)
      (said_back e p told.event told.fits) (sym (line_words net e) ∙ told.spells)

  pub line_read_back : (e : PlainEvent) → IsWritten net e → IsEvent e → Fits e → (rest : List ℕ)
      → (octets : List ℕ) × (lines_of (line net e ++ rest) ≡ octets ∷ lines_of rest) × (line net e ≡ octets ++ 10 ∷ []) × (event_of net octets ≡ Ok e)
  line_read_back e written event fits rest =
      let first = first_word net e in
      let more = more_words net e in
      let octets = joined first more in
      let spells : line net e ≡ octets ++ 10 ∷ [] = line_words net e ∙ line_joined first more in (
        octets,
        ap (λ (l : List ℕ). lines_of (l ++ rest)) (line_words net e) ∙ line_back first more rest (first_is_word laws net e written) (more_are_words laws net e written),
        spells,
        read_line octets e (record { written = written; event = event; fits = fits; spells = spells }),
      )
