-- A line tells one event.
use Rattle.std.proofs.Common.{ℕ, ◌≡◌, ◌≢◌, ◌==◌, ◌&&◌, not, ◌+◌, ◌<◌, ◌≤◌, ◌^◌, Bool, true, false, List}
use Rattle.std.proofs.Common.{[], ◌∷◌, ◌++◌, length, refl, sym, ◌∙◌, ap, arith, Some, None, codes}
use Rattle.std.specs.Prelude.{slice_index_or}
use Rattle.std.specs.Str.{bytes_eq}
use Rattle.std.specs.Fmt.{decimal}
use Rattle.std.proofs.lemmas.Slice.Eq.{bytes_eq-Decides}
use Rattle.std.proofs.lemmas.Bool.Decides.{nat_tests}
use Rattle.pre_text.specs.Writing.{hex, line_of}
use Rattle.pre_text.specs.Words.{number_of, pairs_within}
use Rattle.pre_text.specs.Reading.{IsWord, AreWords, AreOctets}
use Rattle.pre_topo.specs.declared.network.Network.{Network}
use Rattle.pre_topo.specs.Named.{node_name, arc_name}
use Rattle.pre_script.specs.declared.scripts.Setting.{Setting}
use Rattle.pre_script.specs.declared.scripts.Setting.TheVariants as setting
use Rattle.pre_mpacket.specs.declared.packets.Kind.{Kind}
use Rattle.pre_mpacket.specs.declared.packets.Kind.TheVariants as kind
use Rattle.pre_history.specs.declared.events.What.{What}
use Rattle.pre_history.specs.declared.events.What.TheVariants as what
use Rattle.pre_history.specs.declared.events.Outcome.{Outcome}
use Rattle.pre_history.specs.declared.events.Outcome.TheVariants as outcome
use Rattle.pre_history.specs.History.{Entry, PlainEvent, History}
use Rattle.pre_trace.specs.Text.{setting_word, kind_word, what_word, outcome_word, yes_word, line, text}
use Rattle.pre_history.specs.Written.{IsNumber, IsWhat, HasOctets, IsWritten, AreWritten}
use Rattle.pre_trace.proofs.NameWords.{node_one, node_word, arc_one, arc_word}

-- what is known of texts: laws of the crate below
pub record TextLaws : Type 0 where
  pub reading : (w v : List ℕ) (ws vs : List (List ℕ)) (r s : List ℕ) → IsWord w → IsWord v → AreWords ws → AreWords vs → line_of w ws ++ r ≡ line_of v vs ++ s → (w ≡ v) × (ws ≡ vs) × (r ≡ s)
  pub number_word : (n : ℕ) → n < 2 ^ 64 → IsWord (decimal n)
  pub number_back : (n : ℕ) → n < 2 ^ 64 → number_of (decimal n) ≡ Some n
  pub octets_word : (octets : List ℕ) → AreOctets octets → IsWord (hex octets)
  pub octets_back : (octets : List ℕ) (room : ℕ) → AreOctets octets → 0 < length octets → length octets ≤ room → pairs_within room (hex octets) ≡ Some octets

-- the words of an event's line
abbrev pub first_word : Network → PlainEvent → List ℕ
first_word net (PlainEvent.set tick arc value) = decimal tick
first_word net (PlainEvent.begin b) = decimal b.tick
first_word net (PlainEvent.ended e) = decimal e.tick
first_word net (PlainEvent.arrive x) = decimal x.tick
first_word net (PlainEvent.deliver d) = decimal d.tick
first_word net (PlainEvent.active tick arc value) = decimal tick
first_word net (PlainEvent.enter e) = decimal e.tick
first_word net (PlainEvent.dropped e) = decimal e.tick
first_word net (PlainEvent.count arc c) = codes "count"
first_word net (PlainEvent.end e) = decimal e.until

abbrev pub more_words : Network → PlainEvent → List (List ℕ)
more_words net (PlainEvent.set tick arc value) = codes "set" ∷ arc_name net arc ∷ setting_word value ∷ []
more_words net (PlainEvent.begin b) = codes "begin" ∷ arc_name net b.arc ∷ decimal b.ord ∷ kind_word b.kind ∷ what_word b.what ∷ decimal b.from ∷ []
more_words net (PlainEvent.ended e) = codes "ended" ∷ arc_name net e.arc ∷ decimal e.ord ∷ decimal e.size ∷ hex e.check ∷ []
more_words net (PlainEvent.arrive x) = codes "arrive" ∷ arc_name net x.arc ∷ decimal x.ord ∷ outcome_word x.result ∷ []
more_words net (PlainEvent.deliver d) = codes "deliver" ∷ node_name net d.node ∷ decimal d.frame ∷ hex d.octets ∷ []
more_words net (PlainEvent.active tick arc value) = codes "active" ∷ arc_name net arc ∷ yes_word value ∷ []
more_words net (PlainEvent.enter e) = codes "enter" ∷ arc_name net e.arc ∷ decimal e.prio ∷ decimal e.frame ∷ []
more_words net (PlainEvent.dropped e) = codes "dropped" ∷ arc_name net e.arc ∷ decimal e.prio ∷ decimal e.frame ∷ []
more_words net (PlainEvent.count arc c) = arc_name net arc ∷ decimal c.err ∷ decimal c.smd ∷ decimal c.ok ∷ decimal c.rx ∷ decimal c.tx ∷ []
more_words net (PlainEvent.end e) = codes "end" ∷ decimal e.sent ∷ decimal e.delivered ∷ decimal e.dropped ∷ []

pub line_words : (net : Network) (e : PlainEvent) → line net e ≡ line_of (first_word net e) (more_words net e)
line_words net (PlainEvent.set tick arc value) = refl
line_words net (PlainEvent.begin b) = refl
line_words net (PlainEvent.ended e) = refl
line_words net (PlainEvent.arrive x) = refl
line_words net (PlainEvent.deliver d) = refl
line_words net (PlainEvent.active tick arc value) = refl
line_words net (PlainEvent.enter e) = refl
line_words net (PlainEvent.dropped e) = refl
line_words net (PlainEvent.count arc c) = refl
line_words net (PlainEvent.end e) = refl

-- ---- each word tells its value

apart : (xs ys : List ℕ) → bytes_eq xs ys ≡ false → xs ≢ ys
apart xs ys no' = λ e. cc ((bytes_eq-Decides xs ys).1 e, no')

setting_one : (x y : Setting) → setting_word x ≡ setting_word y → x ≡ y
setting_one setting.On setting.On is = refl
setting_one setting.Off setting.Off is = refl
setting_one setting.Gone setting.Gone is = refl
setting_one x y is = absurd (apart (setting_word x) (setting_word y) refl is)

yes_one : (x y : Bool) → yes_word x ≡ yes_word y → x ≡ y
yes_one true true is = refl
yes_one false false is = refl
yes_one x y is = absurd (apart (yes_word x) (yes_word y) refl is)

outcome_one : (x y : Outcome) → outcome_word x ≡ outcome_word y → x ≡ y
outcome_one outcome.Lost outcome.Lost is = refl
outcome_one outcome.Frame outcome.Frame is = refl
outcome_one outcome.Lldp outcome.Lldp is = refl
outcome_one outcome.Part outcome.Part is = refl
outcome_one outcome.Verify outcome.Verify is = refl
outcome_one outcome.Respond outcome.Respond is = refl
outcome_one outcome.Nothing outcome.Nothing is = refl
outcome_one x y is = absurd (apart (outcome_word x) (outcome_word y) refl is)

plus_one : (m n : ℕ) → 48 + m ≡ 48 + n → m ≡ n
plus_one m n is = omega (arith, is)

kind_one : (x y : Kind) → kind_word x ≡ kind_word y → x ≡ y
kind_one kind.Express kind.Express is = refl
kind_one kind.Verify kind.Verify is = refl
kind_one kind.Respond kind.Respond is = refl
kind_one (kind.Start c) (kind.Start d) is = let digit : 48 + c ≡ 48 + d = cc is in ap kind.Start (plus_one c d digit)
kind_one (kind.Continue c n) (kind.Continue d m) is =
    let digit : 48 + c ≡ 48 + d = cc is in
    let digit' : 48 + n ≡ 48 + m = cc is in
    cc (plus_one c d digit, plus_one n m digit')
kind_one x y is = absurd (apart (kind_word x) (kind_word y) refl is)

-- whether octets are a word
is_word : List ℕ → Bool
is_word [] = true
is_word (c ∷ cs) = not (c == 32) && not (c == 10) && not (c == 13) && is_word cs

one_octet : (c d : ℕ) → not (c == d) ≡ true → c ≢ d
one_octet c d no' = grind (arith, nat_tests)

and_parts : (b c : Bool) → (b && c) ≡ true → (b ≡ true) × (c ≡ true)
and_parts true true is = (refl, refl)
and_parts true false is = absurd (cc is)
and_parts false c is = absurd (cc is)

word_of : (w : List ℕ) → is_word w ≡ true → IsWord w
unfolding is_word
word_of [] is = tt
word_of (c ∷ cs) is =
    let last' = and_parts (not (c == 32) && not (c == 10) && not (c == 13)) (is_word cs) is in
    let third = and_parts (not (c == 32) && not (c == 10)) (not (c == 13)) last'.0 in
    let second = and_parts (not (c == 32)) (not (c == 10)) third.0 in
    (one_octet c 32 second.0, one_octet c 10 second.1, one_octet c 13 third.1, word_of cs last'.1)

setting_is_word : (x : Setting) → IsWord (setting_word x)
unfolding is_word
setting_is_word setting.On = word_of (codes "on") refl
setting_is_word setting.Off = word_of (codes "off") refl
setting_is_word setting.Gone = word_of (codes "gone") refl

yes_is_word : (x : Bool) → IsWord (yes_word x)
unfolding is_word
yes_is_word true = word_of (codes "yes") refl
yes_is_word false = word_of (codes "no") refl

outcome_is_word : (x : Outcome) → IsWord (outcome_word x)
unfolding is_word
outcome_is_word outcome.Lost = word_of (codes "lost") refl
outcome_is_word outcome.Frame = word_of (codes "frame") refl
outcome_is_word outcome.Lldp = word_of (codes "lldp") refl
outcome_is_word outcome.Part = word_of (codes "part") refl
outcome_is_word outcome.Verify = word_of (codes "verify") refl
outcome_is_word outcome.Respond = word_of (codes "respond") refl
outcome_is_word outcome.Nothing = word_of (codes "nothing") refl

above : (m n : ℕ) → m < n → n ≢ m
above m n lt = λ e. absurd (omega (arith, lt, e))

kind_is_word : (x : Kind) → IsWord (kind_word x)
unfolding is_word
kind_is_word kind.Express = word_of (codes "E") refl
kind_is_word kind.Verify = word_of (codes "V") refl
kind_is_word kind.Respond = word_of (codes "R") refl
kind_is_word (kind.Start c) = (above 32 83 (omega arith), above 10 83 (omega arith), above 13 83 (omega arith), (above 32 (48 + c) (omega arith), above 10 (48 + c) (omega arith), above 13 (48 + c) (omega arith), tt))
kind_is_word (kind.Continue c n) = (
  above 32 67 (omega arith),
  above 10 67 (omega arith),
  above 13 67 (omega arith),
  (
    above 32 (48 + c) (omega arith),
    above 10 (48 + c) (omega arith),
    above 13 (48 + c) (omega arith),
    (above 32 46 (omega arith), above 10 46 (omega arith), above 13 46 (omega arith), (above 32 (48 + n) (omega arith), above 10 (48 + n) (omega arith), above 13 (48 + n) (omega arith), tt)),
  ),
)

head_word : List (List ℕ) → List ℕ
head_word [] = []
head_word (w ∷ ws) = w

module _ (laws : TextLaws) where
  number_one : (m n : ℕ) → IsNumber m → IsNumber n → decimal m ≡ decimal n → m ≡ n
  number_one m n lt lt' is = let same : Some m ≡ Some n = sym (laws.number_back m lt) ∙ (ap number_of is ∙ laws.number_back n lt') in cc same

  octets_one : (xs ys : List ℕ) → HasOctets xs → HasOctets ys → hex xs ≡ hex ys → xs ≡ ys
  octets_one xs ys (are, some) (are', some') is =
      let room : ℕ = length xs + length ys in
      let same : Some xs ≡ Some ys = sym (laws.octets_back xs room are some (omega arith)) ∙ (ap (pairs_within room) is ∙ laws.octets_back ys room are' some' (omega arith)) in
      cc same

  not_number : (n : ℕ) (w : List ℕ) → IsNumber n → number_of w ≡ None → decimal n ≢ w
  not_number n w lt none is = cc (laws.number_back n lt, ap number_of is, none)

  what_one : (x y : What) → IsWhat x → IsWhat y → what_word x ≡ what_word y → x ≡ y
  what_one (what.Frame f) (what.Frame g) lt lt' is = ap (λ n. what.Frame (record { 0 = n })) (number_one f.0 g.0 lt lt' is)
  what_one (what.Frame f) what.Lldp lt u is = absurd (not_number f.0 (codes "lldp") lt refl is)
  what_one (what.Frame f) what.Nothing lt u is = absurd (not_number f.0 (codes "-") lt refl is)
  what_one what.Lldp (what.Frame f) u lt is = absurd (not_number f.0 (codes "lldp") lt refl (sym is))
  what_one what.Nothing (what.Frame f) u lt is = absurd (not_number f.0 (codes "-") lt refl (sym is))
  what_one what.Lldp what.Lldp u v is = refl
  what_one what.Nothing what.Nothing u v is = refl
  what_one what.Lldp what.Nothing u v is = absurd (apart (codes "lldp") (codes "-") refl is)
  what_one what.Nothing what.Lldp u v is = absurd (apart (codes "-") (codes "lldp") refl is)

  what_is_word : (x : What) → IsWhat x → IsWord (what_word x)
  unfolding is_word
  what_is_word (what.Frame f) lt = laws.number_word f.0 lt
  what_is_word what.Lldp u = word_of (codes "lldp") refl
  what_is_word what.Nothing u = word_of (codes "-") refl

  module _ (net : Network) where
    pub first_is_word : (e : PlainEvent) → IsWritten net e → IsWord (first_word net e)
    unfolding is_word
    first_is_word (PlainEvent.count arc c) p = word_of (codes "count") refl
    first_is_word (PlainEvent.set tick arc value) p = laws.number_word tick p.0
    first_is_word (PlainEvent.begin b) p = laws.number_word b.tick p.0
    first_is_word (PlainEvent.ended e) p = laws.number_word e.tick p.0
    first_is_word (PlainEvent.arrive x) p = laws.number_word x.tick p.0
    first_is_word (PlainEvent.deliver d) p = laws.number_word d.tick p.0
    first_is_word (PlainEvent.active tick arc value) p = laws.number_word tick p.0
    first_is_word (PlainEvent.enter e) p = laws.number_word e.tick p.0
    first_is_word (PlainEvent.dropped e) p = laws.number_word e.tick p.0
    first_is_word (PlainEvent.end e) p = laws.number_word e.until p.0

    pub more_are_words : (e : PlainEvent) → IsWritten net e → AreWords (more_words net e)
    unfolding is_word
    more_are_words (PlainEvent.set tick arc value) p = (word_of (codes "set") refl, (arc_word net arc p.1, (setting_is_word value, tt)))
    more_are_words (PlainEvent.begin b) p =
        (word_of (codes "begin") refl, (arc_word net b.arc p.1, (laws.number_word b.ord p.2, (kind_is_word b.kind, (what_is_word b.what p.4, (laws.number_word b.from p.5, tt))))))
    more_are_words (PlainEvent.ended e) p =
        (word_of (codes "ended") refl, (arc_word net e.arc p.1, (laws.number_word e.ord p.2, (laws.number_word e.size p.3, (laws.octets_word e.check p.4.0, tt)))))
    more_are_words (PlainEvent.arrive x) p = (word_of (codes "arrive") refl, (arc_word net x.arc p.1, (laws.number_word x.ord p.2, (outcome_is_word x.result, tt))))
    more_are_words (PlainEvent.deliver d) p = (word_of (codes "deliver") refl, (node_word net d.node p.1, (laws.number_word d.frame p.2, (laws.octets_word d.octets p.3.0, tt))))
    more_are_words (PlainEvent.active tick arc value) p = (word_of (codes "active") refl, (arc_word net arc p.1, (yes_is_word value, tt)))
    more_are_words (PlainEvent.enter e) p = (word_of (codes "enter") refl, (arc_word net e.arc p.1, (laws.number_word e.prio p.2, (laws.number_word e.frame p.3, tt))))
    more_are_words (PlainEvent.dropped e) p = (word_of (codes "dropped") refl, (arc_word net e.arc p.1, (laws.number_word e.prio p.2, (laws.number_word e.frame p.3, tt))))
    more_are_words (PlainEvent.count arc c) p =
        (arc_word net arc p.0, (laws.number_word c.err p.1, (laws.number_word c.smd p.2, (laws.number_word c.ok p.3, (laws.number_word c.rx p.4, (laws.number_word c.tx p.5, tt))))))
    more_are_words (PlainEvent.end e) p = (word_of (codes "end") refl, (laws.number_word e.sent p.1, (laws.number_word e.delivered p.2, (laws.number_word e.dropped p.3, tt))))

    -- place i of the words
    at : List (List ℕ) → ℕ → List ℕ
    at ws i = slice_index_or ws i []

    entry_one : (b c : Entry) → IsWritten net (PlainEvent.enter b) → IsWritten net (PlainEvent.enter c)
        → decimal b.tick ≡ decimal c.tick → arc_name net b.arc ≡ arc_name net c.arc → decimal b.prio ≡ decimal c.prio → decimal b.frame ≡ decimal c.frame → b ≡ c
    entry_one b c p q one two three four =
        let tick = number_one b.tick c.tick p.0 q.0 one in
        let arc = arc_one net b.arc c.arc p.1 q.1 two in
        let prio = number_one b.prio c.prio p.2 q.2 three in
        let frame = number_one b.frame c.frame p.3 q.3 four in
        λ i. record { tick = tick i; arc = arc i; prio = prio i; frame = frame i }

    event_one : (e f : PlainEvent) → IsWritten net e → IsWritten net f → first_word net e ≡ first_word net f → more_words net e ≡ more_words net f → e ≡ f
    unfolding at head_word
    event_one (PlainEvent.set s a v) (PlainEvent.set t b x) p q ws vs =
        let tick = number_one s t p.0 q.0 ws in
        let arc = arc_one net a b p.1 q.1 (ap (λ z. at z 1) vs) in
        let value = setting_one v x (ap (λ z. at z 2) vs) in
        λ i. PlainEvent.set (tick i) (arc i) (value i)
    event_one (PlainEvent.begin b) (PlainEvent.begin c) p q ws vs =
        let tick = number_one b.tick c.tick p.0 q.0 ws in
        let arc = arc_one net b.arc c.arc p.1 q.1 (ap (λ z. at z 1) vs) in
        let ord = number_one b.ord c.ord p.2 q.2 (ap (λ z. at z 2) vs) in
        let kind' = kind_one b.kind c.kind (ap (λ z. at z 3) vs) in
        let what' = what_one b.what c.what p.4 q.4 (ap (λ z. at z 4) vs) in
        let from = number_one b.from c.from p.5 q.5 (ap (λ z. at z 5) vs) in
        λ i. PlainEvent.begin (record { tick = tick i; arc = arc i; ord = ord i; kind = kind' i; what = what' i; from = from i })
    event_one (PlainEvent.ended b) (PlainEvent.ended c) p q ws vs =
        let tick = number_one b.tick c.tick p.0 q.0 ws in
        let arc = arc_one net b.arc c.arc p.1 q.1 (ap (λ z. at z 1) vs) in
        let ord = number_one b.ord c.ord p.2 q.2 (ap (λ z. at z 2) vs) in
        let size = number_one b.size c.size p.3 q.3 (ap (λ z. at z 3) vs) in
        let check = octets_one b.check c.check p.4 q.4 (ap (λ z. at z 4) vs) in
        λ i. PlainEvent.ended (record { tick = tick i; arc = arc i; ord = ord i; size = size i; check = check i })
    event_one (PlainEvent.arrive b) (PlainEvent.arrive c) p q ws vs =
        let tick = number_one b.tick c.tick p.0 q.0 ws in
        let arc = arc_one net b.arc c.arc p.1 q.1 (ap (λ z. at z 1) vs) in
        let ord = number_one b.ord c.ord p.2 q.2 (ap (λ z. at z 2) vs) in
        let result = outcome_one b.result c.result (ap (λ z. at z 3) vs) in
        λ i. PlainEvent.arrive (record { tick = tick i; arc = arc i; ord = ord i; result = result i })
    event_one (PlainEvent.deliver b) (PlainEvent.deliver c) p q ws vs =
        let tick = number_one b.tick c.tick p.0 q.0 ws in
        let node = node_one net b.node c.node p.1 q.1 (ap (λ z. at z 1) vs) in
        let frame = number_one b.frame c.frame p.2 q.2 (ap (λ z. at z 2) vs) in
        let octets = octets_one b.octets c.octets p.3 q.3 (ap (λ z. at z 3) vs) in
        λ i. PlainEvent.deliver (record { tick = tick i; node = node i; frame = frame i; octets = octets i })
    event_one (PlainEvent.active s a v) (PlainEvent.active t b x) p q ws vs =
        let tick = number_one s t p.0 q.0 ws in
        let arc = arc_one net a b p.1 q.1 (ap (λ z. at z 1) vs) in
        let value = yes_one v x (ap (λ z. at z 2) vs) in
        λ i. PlainEvent.active (tick i) (arc i) (value i)
    event_one (PlainEvent.enter b) (PlainEvent.enter c) p q ws vs = ap PlainEvent.enter (entry_one b c p q ws (ap (λ z. at z 1) vs) (ap (λ z. at z 2) vs) (ap (λ z. at z 3) vs))
    event_one (PlainEvent.dropped b) (PlainEvent.dropped c) p q ws vs = ap PlainEvent.dropped (entry_one b c p q ws (ap (λ z. at z 1) vs) (ap (λ z. at z 2) vs) (ap (λ z. at z 3) vs))
    event_one (PlainEvent.count a b) (PlainEvent.count c d) p q ws vs =
        let arc = arc_one net a c p.0 q.0 (ap (λ z. at z 0) vs) in
        let err = number_one b.err d.err p.1 q.1 (ap (λ z. at z 1) vs) in
        let smd = number_one b.smd d.smd p.2 q.2 (ap (λ z. at z 2) vs) in
        let ok = number_one b.ok d.ok p.3 q.3 (ap (λ z. at z 3) vs) in
        let rx = number_one b.rx d.rx p.4 q.4 (ap (λ z. at z 4) vs) in
        let tx = number_one b.tx d.tx p.5 q.5 (ap (λ z. at z 5) vs) in
        λ i. PlainEvent.count (arc i) (record { err = err i; smd = smd i; ok = ok i; rx = rx i; tx = tx i })
    event_one (PlainEvent.end b) (PlainEvent.end c) p q ws vs =
        let until = number_one b.until c.until p.0 q.0 ws in
        let sent = number_one b.sent c.sent p.1 q.1 (ap (λ z. at z 1) vs) in
        let delivered = number_one b.delivered c.delivered p.2 q.2 (ap (λ z. at z 2) vs) in
        let lost = number_one b.dropped c.dropped p.3 q.3 (ap (λ z. at z 3) vs) in
        λ i. PlainEvent.end (record { until = until i; sent = sent i; delivered = delivered i; dropped = lost i })
    event_one (PlainEvent.count a b) f p q ws vs = absurd (not_number _ (codes "count") q.0 refl (sym ws))
    event_one e (PlainEvent.count a b) p q ws vs = absurd (not_number _ (codes "count") p.0 refl ws)
    event_one e f p q ws vs = absurd (apart (head_word (more_words net e)) (head_word (more_words net f)) refl (ap head_word vs))

    nothing_else : (w : List ℕ) (ws : List (List ℕ)) (r : List ℕ) → [] ≢ line_of w ws ++ r
    nothing_else [] [] r is = cc is
    nothing_else [] (w ∷ ws) r is = cc is
    nothing_else (c ∷ cs) ws r is = cc is

    -- a text tells one history
    pub text_one : (g h : History) → AreWritten net g → AreWritten net h → text net g ≡ text net h → g ≡ h
    text_one [] [] p q is = refl
    text_one [] (f ∷ h) p q is = absurd (nothing_else (first_word net f) (more_words net f) (text net h) (is ∙ ap (λ l. l ++ text net h) (line_words net f)))
    text_one (e ∷ g) [] p q is = absurd (nothing_else (first_word net e) (more_words net e) (text net g) (sym is ∙ ap (λ l. l ++ text net g) (line_words net e)))
    text_one (e ∷ g) (f ∷ h) (pe, p) (qf, q) is =
        let parts = laws.reading (first_word net e) (first_word net f) (more_words net e) (more_words net f) (text net g) (text net h) (first_is_word e pe) (first_is_word f qf) (more_are_words e pe) (more_are_words f qf)
        (ap (λ l. l ++ text net g) (sym (line_words net e)) ∙ (is ∙ ap (λ l. l ++ text net h) (line_words net f))) in
        let here = event_one e f pe qf parts.0 parts.1 in
        let more = text_one g h p q parts.2 in
        λ i. here i ∷ more i
