-- What a line is read as is written as that line.
use Rattle.std.proofs.Common.{ℕ, ◌≡◌, ◌^◌, Bool, true, false, List, [], ◌∷◌, ◌++◌, refl, sym, ◌∙◌, ap, arith, subst}
use Rattle.std.proofs.Common.{Option, Some, None, Result, Ok, Err, codes, if◌then◌else◌, append_assoc, filter}
use Rattle.std.specs.List.{list_all, join_with_byte}
use Rattle.std.specs.Str.{bytes_eq}
use Rattle.std.specs.Fmt.{decimal}
use Rattle.std.proofs.lemmas.List.Splits.{join_with_byte-slice_split}
use Rattle.pre_base.specs.declared.limits.TheConstants.{GREATEST_FRAME}
use Rattle.pre_text.specs.Lines.{cut_at, is_nonempty, words_of}
use Rattle.pre_text.specs.Words.{number_of}
use Rattle.pre_text.specs.Writing.{line_of}
use Rattle.pre_topo.specs.declared.network.Network.{Network}
use Rattle.pre_topo.specs.Named.{arc_name, arc_named}
use Rattle.pre_history.specs.History.{Entry, PlainEvent}
use Rattle.pre_history.specs.Plain.{IsEvent}
use Rattle.pre_trace.specs.Text.{line}
use Rattle.pre_history.specs.Written.{IsWritten}
use Rattle.pre_trace.specs.declared.words.EventFault.{EventFault}
use Rattle.pre_trace.specs.declared.words.EventFault.TheVariants.{Word, Number, Name, Hex}
use Rattle.pre_script.specs.Saying.{two, three, four, setting_of}
use Rattle.pre_trace.specs.Values.{check_of, five, has_single_spaces, kind_of, lower_case_pairs, node_named, number_below, outcome_of, six, what_of, yes_of}
use Rattle.pre_trace.specs.Saying.{active_said, arrive_said, begin_said, count_said, deliver_said, end_said, ended_said, entered, entry_said, event_of, given, said_after, said_by, said_in, set_said}
use Rattle.pre_trace.specs.Reading.{Fits, Tells}
use Rattle.pre_trace.proofs.Inverse.{below_some, check_some, kind_some, low_some, number_some, outcome_some, setting_some, texts_same, what_some, yes_some}
use Rattle.pre_trace.proofs.Places.{arc_some, node_some}

given-Ok : {A B : Type 0} (o : Option A) (fault : EventFault) (next : A → Result B EventFault) (r : B) → given o fault next ≡ Ok r → (x : A) × (o ≡ Some x) × (next x ≡ Ok r)
given-Ok None fault next r e = absurd cc
given-Ok (Some x) fault next r e = (x, refl, e)

two_some : (words : List (List ℕ)) (w : List ℕ × List ℕ) → two words ≡ Some w → words ≡ w.0 ∷ w.1 ∷ []
two_some [] w e = absurd cc
two_some (a ∷ []) w e = absurd cc
two_some (a ∷ b ∷ []) w e = cc
two_some (a ∷ b ∷ c ∷ rest) w e = absurd cc

three_some : (words : List (List ℕ)) (w : List ℕ × List ℕ × List ℕ) → three words ≡ Some w → words ≡ w.0 ∷ w.1 ∷ w.2 ∷ []
three_some [] w e = absurd cc
three_some (a ∷ []) w e = absurd cc
three_some (a ∷ b ∷ []) w e = absurd cc
three_some (a ∷ b ∷ c ∷ []) w e = cc
three_some (a ∷ b ∷ c ∷ d ∷ rest) w e = absurd cc

four_some : (words : List (List ℕ)) (w : List ℕ × List ℕ × List ℕ × List ℕ) → four words ≡ Some w → words ≡ w.0 ∷ w.1 ∷ w.2 ∷ w.3 ∷ []
four_some [] w e = absurd cc
four_some (a ∷ []) w e = absurd cc
four_some (a ∷ b ∷ []) w e = absurd cc
four_some (a ∷ b ∷ c ∷ []) w e = absurd cc
four_some (a ∷ b ∷ c ∷ d ∷ []) w e = cc
four_some (a ∷ b ∷ c ∷ d ∷ e' ∷ rest) w e = absurd cc

five_some : (words : List (List ℕ)) (w : List ℕ × List ℕ × List ℕ × List ℕ × List ℕ) → five words ≡ Some w → words ≡ w.0 ∷ w.1 ∷ w.2 ∷ w.3 ∷ w.4 ∷ []
five_some [] w e = absurd cc
five_some (a ∷ []) w e = absurd cc
five_some (a ∷ b ∷ []) w e = absurd cc
five_some (a ∷ b ∷ c ∷ []) w e = absurd cc
five_some (a ∷ b ∷ c ∷ d ∷ []) w e = absurd cc
five_some (a ∷ b ∷ c ∷ d ∷ e' ∷ []) w e = cc
five_some (a ∷ b ∷ c ∷ d ∷ e' ∷ f ∷ rest) w e = absurd cc

six_some : (words : List (List ℕ)) (w : List ℕ × List ℕ × List ℕ × List ℕ × List ℕ × List ℕ) → six words ≡ Some w → words ≡ w.0 ∷ w.1 ∷ w.2 ∷ w.3 ∷ w.4 ∷ w.5 ∷ []
six_some [] w e = absurd cc
six_some (a ∷ []) w e = absurd cc
six_some (a ∷ b ∷ []) w e = absurd cc
six_some (a ∷ b ∷ c ∷ []) w e = absurd cc
six_some (a ∷ b ∷ c ∷ d ∷ []) w e = absurd cc
six_some (a ∷ b ∷ c ∷ d ∷ e' ∷ []) w e = absurd cc
six_some (a ∷ b ∷ c ∷ d ∷ e' ∷ f ∷ []) w e = cc
six_some (a ∷ b ∷ c ∷ d ∷ e' ∷ f ∷ g ∷ rest) w e = absurd cc

abbrev entry_word : Bool → List ℕ
entry_word true = codes "dropped"
entry_word false = codes "enter"

-- these words are those of the event
record Told (net : Network) (first : List ℕ) (words : List (List ℕ)) (e : PlainEvent) : Type 0 where
  written : IsWritten net e
  event : IsEvent e
  fits : Fits e
  spells : line net e ≡ line_of first words

module _ (net : Network) (first : List ℕ) (words : List (List ℕ)) (e : PlainEvent) where
  set_told : set_said net first words ≡ Ok e → Told net first (codes "set" ∷ words) e
  set_told is =
      let w = given-Ok (two words) Word _ e is in
      let value = given-Ok (setting_of w.0.1) Word _ e w.2 in
      let tick = given-Ok (number_of first) Number _ e value.2 in
      let arc = given-Ok (arc_named net w.0.0) Name _ e tick.2 in
      let same : PlainEvent.set tick.0 arc.0 value.0 ≡ e = cc (arc.2) in
      let one = two_some words w.0 w.1 in
      let t = number_some first tick.0 tick.1 in
      let a = arc_some net w.0.0 arc.0 arc.1 in
      let v = setting_some w.0.1 value.0 value.1 in
      subst (Told net first (codes "set" ∷ words)) same (record {
        written = (t.1, a.0);
        event = tt;
        fits = tt;
        spells = sym ((λ i. line_of first (codes "set" ∷ one i)) ∙ (λ i. line_of (t.0 i) (codes "set" ∷ a.1 i ∷ v i ∷ [])));
      })

  begin_told : begin_said net first words ≡ Ok e → Told net first (codes "begin" ∷ words) e
  begin_told is =
      let w = given-Ok (five words) Word _ e is in
      let kind = given-Ok (kind_of w.0.2) Word _ e w.2 in
      let tick = given-Ok (number_of first) Number _ e kind.2 in
      let arc = given-Ok (arc_named net w.0.0) Name _ e tick.2 in
      let ord = given-Ok (number_of w.0.1) Number _ e arc.2 in
      let what = given-Ok (what_of w.0.3) Number _ e ord.2 in
      let from = given-Ok (number_below (2 ^ 16) w.0.4) Number _ e what.2 in
      let same : PlainEvent.begin (record { tick = tick.0; arc = arc.0; ord = ord.0; kind = kind.0; what = what.0; from = from.0 }) ≡ e = cc (from.2) in
      let one = five_some words w.0 w.1 in
      let t = number_some first tick.0 tick.1 in
      let a = arc_some net w.0.0 arc.0 arc.1 in
      let o = number_some w.0.1 ord.0 ord.1 in
      let k = kind_some w.0.2 kind.0 kind.1 in
      let c = what_some w.0.3 what.0 what.1 in
      let f = below_some (2 ^ 16) w.0.4 from.0 from.1 in
      subst (Told net first (codes "begin" ∷ words)) same (record {
        written = (t.1, a.0, o.1, k.1, c.1, f.1);
        event = k.1;
        fits = (c.2, f.2);
        spells = sym ((λ i. line_of first (codes "begin" ∷ one i)) ∙ (λ i. line_of (t.0 i) (codes "begin" ∷ a.1 i ∷ o.0 i ∷ k.0 i ∷ c.0 i ∷ f.0 i ∷ [])));
      })

  ended_told : ended_said net first words ≡ Ok e → Told net first (codes "ended" ∷ words) e
  ended_told is =
      let w = given-Ok (four words) Word _ e is in
      let tick = given-Ok (number_of first) Number _ e w.2 in
      let arc = given-Ok (arc_named net w.0.0) Name _ e tick.2 in
      let ord = given-Ok (number_of w.0.1) Number _ e arc.2 in
      let size = given-Ok (number_below (2 ^ 16) w.0.2) Number _ e ord.2 in
      let check = given-Ok (check_of w.0.3) Hex _ e size.2 in
      let same : PlainEvent.ended (record { tick = tick.0; arc = arc.0; ord = ord.0; size = size.0; check = check.0 }) ≡ e = cc (check.2) in
      let one = four_some words w.0 w.1 in
      let t = number_some first tick.0 tick.1 in
      let a = arc_some net w.0.0 arc.0 arc.1 in
      let o = number_some w.0.1 ord.0 ord.1 in
      let s = below_some (2 ^ 16) w.0.2 size.0 size.1 in
      let c = check_some w.0.3 check.0 check.1 in
      subst (Told net first (codes "ended" ∷ words)) same (record {
        written = (t.1, a.0, o.1, s.1, c.1);
        event = tt;
        fits = (s.2, c.2);
        spells = sym ((λ i. line_of first (codes "ended" ∷ one i)) ∙ (λ i. line_of (t.0 i) (codes "ended" ∷ a.1 i ∷ o.0 i ∷ s.0 i ∷ c.0 i ∷ [])));
      })

  arrive_told : arrive_said net first words ≡ Ok e → Told net first (codes "arrive" ∷ words) e
  arrive_told is =
      let w = given-Ok (three words) Word _ e is in
      let result = given-Ok (outcome_of w.0.2) Word _ e w.2 in
      let tick = given-Ok (number_of first) Number _ e result.2 in
      let arc = given-Ok (arc_named net w.0.0) Name _ e tick.2 in
      let ord = given-Ok (number_of w.0.1) Number _ e arc.2 in
      let same : PlainEvent.arrive (record { tick = tick.0; arc = arc.0; ord = ord.0; result = result.0 }) ≡ e = cc (ord.2) in
      let one = three_some words w.0 w.1 in
      let t = number_some first tick.0 tick.1 in
      let a = arc_some net w.0.0 arc.0 arc.1 in
      let o = number_some w.0.1 ord.0 ord.1 in
      let r = outcome_some w.0.2 result.0 result.1 in
      subst (Told net first (codes "arrive" ∷ words)) same (record {
        written = (t.1, a.0, o.1);
        event = tt;
        fits = tt;
        spells = sym ((λ i. line_of first (codes "arrive" ∷ one i)) ∙ (λ i. line_of (t.0 i) (codes "arrive" ∷ a.1 i ∷ o.0 i ∷ r i ∷ [])));
      })

  deliver_told : deliver_said net first words ≡ Ok e → Told net first (codes "deliver" ∷ words) e
  deliver_told is =
      let w = given-Ok (three words) Word _ e is in
      let tick = given-Ok (number_of first) Number _ e w.2 in
      let node = given-Ok (node_named net w.0.0) Name _ e tick.2 in
      let frame = given-Ok (number_below (2 ^ 32) w.0.1) Number _ e node.2 in
      let octets = given-Ok (lower_case_pairs GREATEST_FRAME w.0.2) Hex _ e frame.2 in
      let same : PlainEvent.deliver (record { tick = tick.0; node = node.0; frame = frame.0; octets = octets.0 }) ≡ e = cc (octets.2) in
      let one = three_some words w.0 w.1 in
      let t = number_some first tick.0 tick.1 in
      let n = node_some net w.0.0 node.0 node.1 in
      let f = below_some (2 ^ 32) w.0.1 frame.0 frame.1 in
      let h = low_some GREATEST_FRAME w.0.2 octets.0 octets.1 in
      let spelled = h.spelled in
      subst (Told net first (codes "deliver" ∷ words)) same (record {
        written = (t.1, n.0, f.1, h.are);
        event = (omega (arith, h.are.1), h.few);
        fits = f.2;
        spells = sym ((λ i. line_of first (codes "deliver" ∷ one i)) ∙ (λ i. line_of (t.0 i) (codes "deliver" ∷ n.1 i ∷ f.0 i ∷ spelled i ∷ [])));
      })

  active_told : active_said net first words ≡ Ok e → Told net first (codes "active" ∷ words) e
  active_told is =
      let w = given-Ok (two words) Word _ e is in
      let value = given-Ok (yes_of w.0.1) Word _ e w.2 in
      let tick = given-Ok (number_of first) Number _ e value.2 in
      let arc = given-Ok (arc_named net w.0.0) Name _ e tick.2 in
      let same : PlainEvent.active tick.0 arc.0 value.0 ≡ e = cc (arc.2) in
      let one = two_some words w.0 w.1 in
      let t = number_some first tick.0 tick.1 in
      let a = arc_some net w.0.0 arc.0 arc.1 in
      let v = yes_some w.0.1 value.0 value.1 in
      subst (Told net first (codes "active" ∷ words)) same (record {
        written = (t.1, a.0);
        event = tt;
        fits = tt;
        spells = sym ((λ i. line_of first (codes "active" ∷ one i)) ∙ (λ i. line_of (t.0 i) (codes "active" ∷ a.1 i ∷ v i ∷ [])));
      })

  entry_as : (lost : Bool) (x : Entry) → IsWritten net (PlainEvent.enter x) → Fits (PlainEvent.enter x)
      → line_of (decimal x.tick) (entry_word lost ∷ arc_name net x.arc ∷ decimal x.prio ∷ decimal x.frame ∷ []) ≡ line_of first (entry_word lost ∷ words)
      → Told net first (entry_word lost ∷ words) (entered lost x)
  entry_as true x written fits spells = record { written = written; event = tt; fits = fits; spells = spells }
  entry_as false x written fits spells = record { written = written; event = tt; fits = fits; spells = spells }

  entry_told : (lost : Bool) → entry_said lost net first words ≡ Ok e → Told net first (entry_word lost ∷ words) e
  entry_told lost is =
      let w = given-Ok (three words) Word _ e is in
      let tick = given-Ok (number_of first) Number _ e w.2 in
      let arc = given-Ok (arc_named net w.0.0) Name _ e tick.2 in
      let prio = given-Ok (number_below 8 w.0.1) Number _ e arc.2 in
      let frame = given-Ok (number_below (2 ^ 32) w.0.2) Number _ e prio.2 in
      let x : Entry = record { tick = tick.0; arc = arc.0; prio = prio.0; frame = frame.0 } in
      let same : entered lost x ≡ e = cc (frame.2) in
      let one = three_some words w.0 w.1 in
      let t = number_some first tick.0 tick.1 in
      let a = arc_some net w.0.0 arc.0 arc.1 in
      let p = below_some 8 w.0.1 prio.0 prio.1 in
      let f = below_some (2 ^ 32) w.0.2 frame.0 frame.1 in
      subst (Told net first (entry_word lost ∷ words)) same (entry_as lost x (t.1, a.0, p.1, f.1) (p.2, f.2)
      (sym ((λ i. line_of first (entry_word lost ∷ one i)) ∙ (λ i. line_of (t.0 i) (entry_word lost ∷ a.1 i ∷ p.0 i ∷ f.0 i ∷ [])))))

  end_told : end_said first words ≡ Ok e → Told net first (codes "end" ∷ words) e
  end_told is =
      let w = given-Ok (three words) Word _ e is in
      let until = given-Ok (number_of first) Number _ e w.2 in
      let sent = given-Ok (number_of w.0.0) Number _ e until.2 in
      let delivered = given-Ok (number_of w.0.1) Number _ e sent.2 in
      let lost = given-Ok (number_of w.0.2) Number _ e delivered.2 in
      let same : PlainEvent.end (record { until = until.0; sent = sent.0; delivered = delivered.0; dropped = lost.0 }) ≡ e = cc (lost.2) in
      let one = three_some words w.0 w.1 in
      let u = number_some first until.0 until.1 in
      let s = number_some w.0.0 sent.0 sent.1 in
      let d = number_some w.0.1 delivered.0 delivered.1 in
      let l = number_some w.0.2 lost.0 lost.1 in
      subst (Told net first (codes "end" ∷ words)) same (record {
        written = (u.1, s.1, d.1, l.1);
        event = tt;
        fits = tt;
        spells = sym ((λ i. line_of first (codes "end" ∷ one i)) ∙ (λ i. line_of (u.0 i) (codes "end" ∷ s.0 i ∷ d.0 i ∷ l.0 i ∷ [])));
      })

module _ (net : Network) (words : List (List ℕ)) (e : PlainEvent) where
  count_told : count_said net words ≡ Ok e → Told net (codes "count") words e
  count_told is =
      let w = given-Ok (six words) Word _ e is in
      let arc = given-Ok (arc_named net w.0.0) Name _ e w.2 in
      let err = given-Ok (number_of w.0.1) Number _ e arc.2 in
      let smd = given-Ok (number_of w.0.2) Number _ e err.2 in
      let ok = given-Ok (number_of w.0.3) Number _ e smd.2 in
      let rx = given-Ok (number_of w.0.4) Number _ e ok.2 in
      let tx = given-Ok (number_of w.0.5) Number _ e rx.2 in
      let same : PlainEvent.count arc.0 (record { err = err.0; smd = smd.0; ok = ok.0; rx = rx.0; tx = tx.0 }) ≡ e = cc (tx.2) in
      let one = six_some words w.0 w.1 in
      let a = arc_some net w.0.0 arc.0 arc.1 in
      let x = number_some w.0.1 err.0 err.1 in
      let s = number_some w.0.2 smd.0 smd.1 in
      let o = number_some w.0.3 ok.0 ok.1 in
      let r = number_some w.0.4 rx.0 rx.1 in
      let t = number_some w.0.5 tx.0 tx.1 in
      subst (Told net (codes "count") words) same (record {
        written = (a.0, x.1, s.1, o.1, r.1, t.1);
        event = tt;
        fits = tt;
        spells = sym ((λ i. line_of (codes "count") (one i)) ∙ (λ i. line_of (codes "count") (a.1 i ∷ x.0 i ∷ s.0 i ∷ o.0 i ∷ r.0 i ∷ t.0 i ∷ [])));
      })

-- ---- by the kind word

either : {A : Type 0} (P : Type 0) (b : Bool) (x y : Result A EventFault) (e : A) → (b ≡ true → x ≡ Ok e → P) → (y ≡ Ok e → P) → (if b then x else y) ≡ Ok e → P
either P true x y e f g is = f refl is
either P false x y e f g is = g is

module _ (net : Network) (first kind : List ℕ) (words : List (List ℕ)) (e : PlainEvent) where
  as_kind : (w : List ℕ) → bytes_eq kind w ≡ true → Told net first (w ∷ words) e → Told net first (kind ∷ words) e
  as_kind w is told = subst (λ (k : List ℕ). Told net first (k ∷ words) e) (sym (texts_same kind w is)) told

  by_told : said_by net first kind words ≡ Ok e → Told net first (kind ∷ words) e
  by_told =
      let P : Type 0 = Told net first (kind ∷ words) e in
      either P (bytes_eq kind (codes "set")) _ _ e (λ k is. as_kind (codes "set") k (set_told net first words e is))
      (either P (bytes_eq kind (codes "begin")) _ _ e (λ k is. as_kind (codes "begin") k (begin_told net first words e is))
      (either P (bytes_eq kind (codes "ended")) _ _ e (λ k is. as_kind (codes "ended") k (ended_told net first words e is))
      (either P (bytes_eq kind (codes "arrive")) _ _ e (λ k is. as_kind (codes "arrive") k (arrive_told net first words e is))
      (either P (bytes_eq kind (codes "deliver")) _ _ e (λ k is. as_kind (codes "deliver") k (deliver_told net first words e is))
      (either P (bytes_eq kind (codes "active")) _ _ e (λ k is. as_kind (codes "active") k (active_told net first words e is))
      (either P (bytes_eq kind (codes "enter")) _ _ e (λ k is. as_kind (codes "enter") k (entry_told net first words e false is))
      (either P (bytes_eq kind (codes "dropped")) _ _ e (λ k is. as_kind (codes "dropped") k (entry_told net first words e true is))
      (either P (bytes_eq kind (codes "end")) _ (Err Word) e (λ k is. as_kind (codes "end") k (end_told net first words e is))
      (λ is. absurd (cc is))))))))))

in_told' : (net : Network) (first : List ℕ) (words : List (List ℕ)) (e : PlainEvent) → said_after net first words ≡ Ok e → Told net first words e
in_told' net first [] e is = absurd (cc is)
in_told' net first (kind ∷ words) e is = by_told net first kind words e is

in_told : (net : Network) (first : List ℕ) (words : List (List ℕ)) (e : PlainEvent) → said_in net (first ∷ words) ≡ Ok e → Told net first words e
in_told net first words e =
    either (Told net first words e) (bytes_eq first (codes "count")) (count_said net words) (said_after net first words) e
    (λ k is. subst (λ (f : List ℕ). Told net f words e) (sym (texts_same first (codes "count") k)) (count_told net words e is))
    (in_told' net first words e)

-- ---- the line of these words

line_is : (first : List ℕ) (words : List (List ℕ)) → line_of first words ≡ join_with_byte 32 (first ∷ words) ++ 10 ∷ []
line_is first [] = refl
line_is first (w ∷ ws) = ap (λ (l : List ℕ). first ++ 32 ∷ l) (line_is w ws) ∙ sym (append_assoc first (32 ∷ join_with_byte 32 (w ∷ ws)) (10 ∷ []))

pub kept_all : (words : List (List ℕ)) → list_all is_nonempty words ≡ true → filter is_nonempty words ≡ words
kept_all [] is = refl
kept_all ([] ∷ words) is = absurd (cc is)
kept_all ((c ∷ w) ∷ words) is = ap (λ (l : List (List ℕ)). (c ∷ w) ∷ l) (kept_all words is)

told_by : (net : Network) (octets : List ℕ) (e : PlainEvent) (words : List (List ℕ)) → join_with_byte 32 words ≡ octets → said_in net words ≡ Ok e → Tells net octets e
told_by net octets e [] joined is = absurd (cc is)
told_by net octets e (first ∷ words) joined is =
    let told = in_told net first words e is in
    record { written = told.written; event = told.event; fits = told.fits; spells = told.spells ∙ (line_is first words ∙ ap (λ (l : List ℕ). l ++ 10 ∷ []) joined) }

pub told_line : (net : Network) (octets : List ℕ) (e : PlainEvent) → event_of net octets ≡ Ok e → Tells net octets e
told_line net octets e =
    either (Tells net octets e) (has_single_spaces octets) (said_in net (words_of octets)) (Err Word) e
    (λ k is. told_by net octets e (cut_at 32 octets) (join_with_byte-slice_split 32 octets) (ap (said_in net) (sym (kept_all (cut_at 32 octets) k)) ∙ is))
    (λ is. absurd (cc is))
