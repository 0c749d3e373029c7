-- The first fault of a line, by what its words are to be.
use Rattle.std.proofs.Common.{ℕ, ◌≡◌, ◌&&◌, ◌^◌, Bool, true, false, List, [], ◌∷◌, refl, ◌∙◌, ap, Option, Some, None, Result, Ok, Err, codes, if◌then◌else◌}
use Rattle.std.specs.Prelude.{is_some}
use Rattle.std.specs.Str.{bytes_eq}
use Rattle.pre_base.specs.declared.limits.TheConstants.{GREATEST_FRAME}
use Rattle.pre_text.specs.Lines.{words_of}
use Rattle.pre_text.specs.Words.{number_of}
use Rattle.pre_topo.specs.declared.network.Network.{Network}
use Rattle.pre_topo.specs.Named.{arc_named}
use Rattle.pre_script.specs.declared.scripts.Setting.{Setting}
use Rattle.pre_script.specs.Saying.{setting_of}
use Rattle.pre_mpacket.specs.declared.packets.Kind.{Kind}
use Rattle.pre_history.specs.declared.events.Event.{Event}
use Rattle.pre_history.specs.declared.events.What.{What}
use Rattle.pre_history.specs.declared.events.Outcome.{Outcome}
use Rattle.pre_history.specs.History.{PlainEvent}
use Rattle.pre_trace.specs.declared.words.EventFault.{EventFault}
use Rattle.pre_trace.specs.declared.words.EventFault.TheVariants.{Word, Number, Name, Hex}
use Rattle.pre_trace.specs.Values.{check_of, has_single_spaces, kind_of, lower_case_pairs, node_named, number_below, outcome_of, what_of, yes_of}
use Rattle.pre_trace.specs.Saying.{active_said, arrive_said, begin_said, count_said, deliver_said, end_said, ended_said, entered, entry_said, event_of, given, said_after, said_by, said_in, set_said}
use Rattle.pre_trace.specs.Reading.{plainly}
use Rattle.pre_trace.specs.LineFaults.{Part, count_parts, fault_after, fault_by, fault_in, fault_of, fault_of_words, first_fault, first_of, missing, parts_of}

set_missing : (t : Option ℕ) (a : Option ℕ) (b : Option Setting)
    → fault_of (given b Word (λ b. given t Number (λ t. given a Name (λ a. Ok (PlainEvent.set t a b)))))
    ≡ (if is_some b && true then first_of (missing t Number ∷ missing a Name ∷ None ∷ []) else Some Word)
set_missing t a None = refl
set_missing None a (Some b) = refl
set_missing (Some t) None (Some b) = refl
set_missing (Some t) (Some a) (Some b) = refl

set_fault : (net : Network) (first : List ℕ) (words : List (List ℕ)) → fault_of (set_said net first words)
    ≡ fault_in net (Part.number ∷ Part.arc ∷ Part.setting ∷ []) (first ∷ words)
set_fault net first [] = refl
set_fault net first (a ∷ []) = refl
set_fault net first (a ∷ b ∷ []) = set_missing (number_of first) (arc_named net a) (setting_of b)
set_fault net first (a ∷ b ∷ z ∷ rest) = refl

begin_missing : (t : Option ℕ) (a : Option ℕ) (b : Option ℕ) (c : Option Kind) (d : Option What) (e : Option ℕ)
    → fault_of (given c Word (λ c. given t Number (λ t. given a Name (λ a. given b Number (λ b. given d Number
    (λ d. given e Number (λ e. Ok (PlainEvent.begin (record { tick = t; arc = a; ord = b; kind = c; what = d; from = e })))))))))
    ≡ (if is_some c && true then first_of (missing t Number ∷ missing a Name ∷ missing b Number ∷ None ∷ missing d Number ∷ missing e Number ∷ []) else Some Word)
begin_missing t a b None d e = refl
begin_missing None a b (Some c) d e = refl
begin_missing (Some t) None b (Some c) d e = refl
begin_missing (Some t) (Some a) None (Some c) d e = refl
begin_missing (Some t) (Some a) (Some b) (Some c) None e = refl
begin_missing (Some t) (Some a) (Some b) (Some c) (Some d) None = refl
begin_missing (Some t) (Some a) (Some b) (Some c) (Some d) (Some e) = refl

begin_fault : (net : Network) (first : List ℕ) (words : List (List ℕ)) → fault_of (begin_said net first words)
    ≡ fault_in net (Part.number ∷ Part.arc ∷ Part.number ∷ Part.kind ∷ Part.what ∷ Part.bounded (2 ^ 16) ∷ []) (first ∷ words)
begin_fault net first [] = refl
begin_fault net first (a ∷ []) = refl
begin_fault net first (a ∷ b ∷ []) = refl
begin_fault net first (a ∷ b ∷ c ∷ []) = refl
begin_fault net first (a ∷ b ∷ c ∷ d ∷ []) = refl
begin_fault net first (a ∷ b ∷ c ∷ d ∷ e ∷ []) = begin_missing (number_of first) (arc_named net a) (number_of b) (kind_of c) (what_of d) (number_below (2 ^ 16) e)
begin_fault net first (a ∷ b ∷ c ∷ d ∷ e ∷ z ∷ rest) = refl

ended_missing : (t : Option ℕ) (a : Option ℕ) (b : Option ℕ) (c : Option ℕ) (d : Option (List ℕ))
    → fault_of (given t Number (λ t. given a Name (λ a. given b Number (λ b. given c Number (λ c. given d Hex
    (λ d. Ok (PlainEvent.ended (record { tick = t; arc = a; ord = b; size = c; check = d }))))))))
    ≡ first_of (missing t Number ∷ missing a Name ∷ missing b Number ∷ missing c Number ∷ missing d Hex ∷ [])
ended_missing None a b c d = refl
ended_missing (Some t) None b c d = refl
ended_missing (Some t) (Some a) None c d = refl
ended_missing (Some t) (Some a) (Some b) None d = refl
ended_missing (Some t) (Some a) (Some b) (Some c) None = refl
ended_missing (Some t) (Some a) (Some b) (Some c) (Some d) = refl

ended_fault : (net : Network) (first : List ℕ) (words : List (List ℕ)) → fault_of (ended_said net first words)
    ≡ fault_in net (Part.number ∷ Part.arc ∷ Part.number ∷ Part.bounded (2 ^ 16) ∷ Part.check ∷ []) (first ∷ words)
ended_fault net first [] = refl
ended_fault net first (a ∷ []) = refl
ended_fault net first (a ∷ b ∷ []) = refl
ended_fault net first (a ∷ b ∷ c ∷ []) = refl
ended_fault net first (a ∷ b ∷ c ∷ d ∷ []) = ended_missing (number_of first) (arc_named net a) (number_of b) (number_below (2 ^ 16) c) (check_of d)
ended_fault net first (a ∷ b ∷ c ∷ d ∷ z ∷ rest) = refl

arrive_missing : (t : Option ℕ) (a : Option ℕ) (b : Option ℕ) (c : Option Outcome)
    → fault_of (given c Word (λ c. given t Number (λ t. given a Name (λ a. given b Number (λ b. Ok (PlainEvent.arrive (record { tick = t; arc = a; ord = b; result = c })))))))
    ≡ (if is_some c && true then first_of (missing t Number ∷ missing a Name ∷ missing b Number ∷ None ∷ []) else Some Word)
arrive_missing t a b None = refl
arrive_missing None a b (Some c) = refl
arrive_missing (Some t) None b (Some c) = refl
arrive_missing (Some t) (Some a) None (Some c) = refl
arrive_missing (Some t) (Some a) (Some b) (Some c) = refl

arrive_fault : (net : Network) (first : List ℕ) (words : List (List ℕ)) → fault_of (arrive_said net first words)
    ≡ fault_in net (Part.number ∷ Part.arc ∷ Part.number ∷ Part.result ∷ []) (first ∷ words)
arrive_fault net first [] = refl
arrive_fault net first (a ∷ []) = refl
arrive_fault net first (a ∷ b ∷ []) = refl
arrive_fault net first (a ∷ b ∷ c ∷ []) = arrive_missing (number_of first) (arc_named net a) (number_of b) (outcome_of c)
arrive_fault net first (a ∷ b ∷ c ∷ z ∷ rest) = refl

deliver_missing : (t : Option ℕ) (a : Option ℕ) (b : Option ℕ) (c : Option (List ℕ))
    → fault_of (given t Number (λ t. given a Name (λ a. given b Number (λ b. given c Hex (λ c. Ok (PlainEvent.deliver (record { tick = t; node = a; frame = b; octets = c })))))))
    ≡ first_of (missing t Number ∷ missing a Name ∷ missing b Number ∷ missing c Hex ∷ [])
deliver_missing None a b c = refl
deliver_missing (Some t) None b c = refl
deliver_missing (Some t) (Some a) None c = refl
deliver_missing (Some t) (Some a) (Some b) None = refl
deliver_missing (Some t) (Some a) (Some b) (Some c) = refl

deliver_fault : (net : Network) (first : List ℕ) (words : List (List ℕ)) → fault_of (deliver_said net first words)
    ≡ fault_in net (Part.number ∷ Part.node ∷ Part.bounded (2 ^ 32) ∷ Part.octets ∷ []) (first ∷ words)
deliver_fault net first [] = refl
deliver_fault net first (a ∷ []) = refl
deliver_fault net first (a ∷ b ∷ []) = refl
deliver_fault net first (a ∷ b ∷ c ∷ []) = deliver_missing (number_of first) (node_named net a) (number_below (2 ^ 32) b) (lower_case_pairs GREATEST_FRAME c)
deliver_fault net first (a ∷ b ∷ c ∷ z ∷ rest) = refl

active_missing : (t : Option ℕ) (a : Option ℕ) (b : Option Bool)
    → fault_of (given b Word (λ b. given t Number (λ t. given a Name (λ a. Ok (PlainEvent.active t a b)))))
    ≡ (if is_some b && true then first_of (missing t Number ∷ missing a Name ∷ None ∷ []) else Some Word)
active_missing t a None = refl
active_missing None a (Some b) = refl
active_missing (Some t) None (Some b) = refl
active_missing (Some t) (Some a) (Some b) = refl

active_fault : (net : Network) (first : List ℕ) (words : List (List ℕ)) → fault_of (active_said net first words)
    ≡ fault_in net (Part.number ∷ Part.arc ∷ Part.state ∷ []) (first ∷ words)
active_fault net first [] = refl
active_fault net first (a ∷ []) = refl
active_fault net first (a ∷ b ∷ []) = active_missing (number_of first) (arc_named net a) (yes_of b)
active_fault net first (a ∷ b ∷ z ∷ rest) = refl

entry_missing : (lost : Bool) (t : Option ℕ) (a : Option ℕ) (b : Option ℕ) (c : Option ℕ)
    → fault_of (given t Number (λ t. given a Name (λ a. given b Number (λ b. given c Number (λ c. Ok (entered lost (record { tick = t; arc = a; prio = b; frame = c })))))))
    ≡ first_of (missing t Number ∷ missing a Name ∷ missing b Number ∷ missing c Number ∷ [])
entry_missing lost None a b c = refl
entry_missing lost (Some t) None b c = refl
entry_missing lost (Some t) (Some a) None c = refl
entry_missing lost (Some t) (Some a) (Some b) None = refl
entry_missing lost (Some t) (Some a) (Some b) (Some c) = refl

entry_fault : (lost : Bool) (net : Network) (first : List ℕ) (words : List (List ℕ)) → fault_of (entry_said lost net first words)
    ≡ fault_in net (Part.number ∷ Part.arc ∷ Part.bounded 8 ∷ Part.bounded (2 ^ 32) ∷ []) (first ∷ words)
entry_fault lost net first [] = refl
entry_fault lost net first (a ∷ []) = refl
entry_fault lost net first (a ∷ b ∷ []) = refl
entry_fault lost net first (a ∷ b ∷ c ∷ []) = entry_missing lost (number_of first) (arc_named net a) (number_below 8 b) (number_below (2 ^ 32) c)
entry_fault lost net first (a ∷ b ∷ c ∷ z ∷ rest) = refl

end_missing : (t : Option ℕ) (a : Option ℕ) (b : Option ℕ) (c : Option ℕ)
    → fault_of (given t Number (λ t. given a Number (λ a. given b Number (λ b. given c Number (λ c. Ok (PlainEvent.end (record { until = t; sent = a; delivered = b; dropped = c })))))))
    ≡ first_of (missing t Number ∷ missing a Number ∷ missing b Number ∷ missing c Number ∷ [])
end_missing None a b c = refl
end_missing (Some t) None b c = refl
end_missing (Some t) (Some a) None c = refl
end_missing (Some t) (Some a) (Some b) None = refl
end_missing (Some t) (Some a) (Some b) (Some c) = refl

end_fault : (net : Network) (first : List ℕ) (words : List (List ℕ)) → fault_of (end_said first words)
    ≡ fault_in net (Part.number ∷ Part.number ∷ Part.number ∷ Part.number ∷ []) (first ∷ words)
end_fault net first [] = refl
end_fault net first (a ∷ []) = refl
end_fault net first (a ∷ b ∷ []) = refl
end_fault net first (a ∷ b ∷ c ∷ []) = end_missing (number_of first) (number_of a) (number_of b) (number_of c)
end_fault net first (a ∷ b ∷ c ∷ z ∷ rest) = refl

count_missing : (a : Option ℕ) (b : Option ℕ) (c : Option ℕ) (d : Option ℕ) (e : Option ℕ) (f : Option ℕ)
    → fault_of (given a Name (λ a. given b Number (λ b. given c Number (λ c. given d Number (λ d. given e Number
    (λ e. given f Number (λ f. Ok (PlainEvent.count a (record { err = b; smd = c; ok = d; rx = e; tx = f })))))))))
    ≡ first_of (missing a Name ∷ missing b Number ∷ missing c Number ∷ missing d Number ∷ missing e Number ∷ missing f Number ∷ [])
count_missing None b c d e f = refl
count_missing (Some a) None c d e f = refl
count_missing (Some a) (Some b) None d e f = refl
count_missing (Some a) (Some b) (Some c) None e f = refl
count_missing (Some a) (Some b) (Some c) (Some d) None f = refl
count_missing (Some a) (Some b) (Some c) (Some d) (Some e) None = refl
count_missing (Some a) (Some b) (Some c) (Some d) (Some e) (Some f) = refl

count_fault : (net : Network) (words : List (List ℕ)) → fault_of (count_said net words) ≡ fault_in net count_parts words
count_fault net [] = refl
count_fault net (a ∷ []) = refl
count_fault net (a ∷ b ∷ []) = refl
count_fault net (a ∷ b ∷ c ∷ []) = refl
count_fault net (a ∷ b ∷ c ∷ d ∷ []) = refl
count_fault net (a ∷ b ∷ c ∷ d ∷ e ∷ []) = refl
count_fault net (a ∷ b ∷ c ∷ d ∷ e ∷ f ∷ []) = count_missing (arc_named net a) (number_of b) (number_of c) (number_of d) (number_of e) (number_of f)
count_fault net (a ∷ b ∷ c ∷ d ∷ e ∷ f ∷ z ∷ rest) = refl

-- ---- by the kind word

either_kind : (net : Network) (first : List ℕ) (words : List (List ℕ)) (b : Bool) (x y : Result PlainEvent EventFault) (p : List Part) (q : Option (List Part))
    → fault_of x ≡ fault_in net (Part.number ∷ p) (first ∷ words) → fault_of y ≡ fault_by net first q words → fault_of (if b then x else y) ≡ fault_by net first (if b then Some p else q) words
either_kind net first words true x y p q one other = one
either_kind net first words false x y p q one other = other

kind_fault : (net : Network) (first kind : List ℕ) (words : List (List ℕ)) → fault_of (said_by net first kind words) ≡ fault_by net first (parts_of kind) words
kind_fault net first kind words =
    either_kind net first words (bytes_eq kind (codes "set")) _ _ _ _ (set_fault net first words)
    (either_kind net first words (bytes_eq kind (codes "begin")) _ _ _ _ (begin_fault net first words)
    (either_kind net first words (bytes_eq kind (codes "ended")) _ _ _ _ (ended_fault net first words)
    (either_kind net first words (bytes_eq kind (codes "arrive")) _ _ _ _ (arrive_fault net first words)
    (either_kind net first words (bytes_eq kind (codes "deliver")) _ _ _ _ (deliver_fault net first words)
    (either_kind net first words (bytes_eq kind (codes "active")) _ _ _ _ (active_fault net first words)
    (either_kind net first words (bytes_eq kind (codes "enter")) _ _ _ _ (entry_fault false net first words)
    (either_kind net first words (bytes_eq kind (codes "dropped")) _ _ _ _ (entry_fault true net first words)
    (either_kind net first words (bytes_eq kind (codes "end")) _ _ _ _ (end_fault net first words) refl))))))))

after_fault : (net : Network) (first : List ℕ) (words : List (List ℕ)) → fault_of (said_after net first words) ≡ fault_after net first words
after_fault net first [] = refl
after_fault net first (kind ∷ words) = kind_fault net first kind words

both_ways : (b : Bool) (x y : Result PlainEvent EventFault) (p q : Option EventFault) → fault_of x ≡ p → fault_of y ≡ q → fault_of (if b then x else y) ≡ (if b then p else q)
both_ways true x y p q one other = one
both_ways false x y p q one other = other

words_fault : (net : Network) (words : List (List ℕ)) → fault_of (said_in net words) ≡ fault_of_words net words
words_fault net [] = refl
words_fault net (first ∷ words) =
    both_ways (bytes_eq first (codes "count")) (count_said net words) (said_after net first words) (fault_in net count_parts words) (fault_after net first words) (count_fault net words)
    (after_fault net first words)

line_fault : (net : Network) (line : List ℕ) → fault_of (event_of net line) ≡ first_fault net line
line_fault net line = both_ways (has_single_spaces line) (said_in net (words_of line)) (Err Word) (fault_of_words net (words_of line)) (Some Word) (words_fault net (words_of line)) refl

plainly_fault : (r : Result Event EventFault) → fault_of r ≡ fault_of (plainly r)
plainly_fault (Ok e) = refl
plainly_fault (Err fault) = refl

pub read_fault : (net : Network) (line : List ℕ) (r : Result Event EventFault) → plainly r ≡ event_of net line → fault_of r ≡ first_fault net line
read_fault net line r is = plainly_fault r ∙ (ap fault_of is ∙ line_fault net line)
