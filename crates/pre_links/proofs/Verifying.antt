-- The verifies of an arc, as something begins or ends on it.
use Rattle.std.proofs.Common.{ℕ, zero, suc, ◌≡◌, ◌==◌, ◌+◌, ◌<◌, ◌≤◌, Bool, true, false, List, [], ◌∷◌, ◌++◌}
use Rattle.std.proofs.Common.{length, refl, sym, ◌∙◌, ap, inl, inr, arith, Option, Some, None, map, filter}
use Rattle.std.specs.Prelude.{if◌then◌else◌, slice_get, option_map, is_none}
use Rattle.std.specs.List.{AllByRecursion as Every}
use Rattle.std.proofs.lemmas.List.{append-nil, map-append}
use Rattle.std.proofs.lemmas.List.Elements.{filter_map-append, filter-append}
use Rattle.pre_lldp.specs.LinkState as link
use Rattle.pre_verify.specs.Calls.{end_last, is_going}
use Rattle.pre_verify.proofs.Lists.{last_verify-push}
use Rattle.pre_history.specs.Scenario.{Scenario}
use Rattle.pre_history.specs.History.{History, Begin, Ended, PlainEvent}
use Rattle.pre_history.specs.Selected.{begin_on, ended_on, is_verify}
use Rattle.pre_history.specs.Queries.{Begins, Ends, Packet}
use Rattle.pre_history.specs.Starts.{Choice}
use Rattle.pre_history.specs.Ordered.{IsOrdered}
use Rattle.pre_history.proofs.Lists.{at_front, at_end, at_last, there, within, every_placed, every_filter}
use Rattle.pre_history.proofs.Free.{first_numbered}
use Rattle.pre_links.specs.Standing.{Verifies, verify_in, begin_of}
use Rattle.pre_links.proofs.Elsewhere.{packet_of, verifies_in, verifies_by}
use Rattle.pre_links.proofs.Numbers.{is_eq}

abbrev test : Packet → Bool
test p = is_verify p.begin.kind

-- the last mPacket as a verify, where it is one
abbrev pub last_as : Begin → Option Ended → List link.Verify
last_as b ended = if is_verify b.kind then record { began = b.tick; ended = option_map (λ e. e.tick) ended } ∷ [] else []

one_by : (b : Bool) (p : Packet) → map verify_in (if b then p ∷ [] else []) ≡ (if b then verify_in p ∷ [] else [])
one_by true p = refl
one_by false p = refl

verifies-push : (bs : List Begin) (b : Begin) (ends : List Ended) → verifies_in (bs ++ b ∷ []) ends ≡ verifies_in bs ends ++ last_as b (slice_get (filter (λ (e : Ended). e.ord == b.ord) ends) 0)
verifies-push bs b ends =
    ap (λ xs. map verify_in (filter test xs)) (map-append (packet_of ends) bs (b ∷ []))
    ∙ ap (map verify_in) (filter-append test (map (packet_of ends) bs) (packet_of ends b ∷ []))
    ∙ map-append verify_in (filter test (map (packet_of ends) bs)) (filter test (packet_of ends b ∷ []))
    ∙ ap (λ xs. verifies_in bs ends ++ xs) (one_by (is_verify b.kind) (packet_of ends b))

past_last : {X : Type 0} (xs : List X) (i : ℕ) → length xs ≤ i → slice_get xs i ≡ None
past_last [] i le = refl
past_last (x ∷ xs) zero le = absurd (omega (arith, le))
past_last (x ∷ xs) (suc i) le = past_last xs i (omega (arith, le))

alone_begun : (h : History) (a t : ℕ) (c : Choice) → Begins (begin_of h a t c ∷ []) a ≡ record { tick = t; arc = a; ord = length (Begins h a); kind = c.kind; what = c.what; from = c.from } ∷ []
alone_begun h a t c = rw (is_eq a) refl

pub begins_grow : (h : History) (a t : ℕ) (c : Choice) → Begins (h ++ begin_of h a t c ∷ []) a ≡ Begins h a ++ record {
  tick = t;
  arc = a;
  ord = length (Begins h a);
  kind =
      c.kind;
  what = c.what;
  from = c.from;
} ∷ []
begins_grow h a t c = filter_map-append (begin_on a) h (begin_of h a t c ∷ []) ∙ ap (λ xs. Begins h a ++ xs) (alone_begun h a t c)

pub one_begins : (h : History) (a t : ℕ) (c : Choice) (j : ℕ) (b : Begin) → slice_get (Begins (begin_of h a t c ∷ []) a) j ≡ Some b
    → record { tick = t; arc = a; ord = length (Begins h a); kind = c.kind; what = c.what; from = c.from } ≡ b
one_begins h a t c j b at = elim (at_end [] _ b j (ap (λ xs. slice_get xs j) (sym (alone_begun h a t c)) ∙ at)) [
  | inl old ↦ absurd (cc old)
  | inr (last, same) ↦ same
]

pub verifies_begun : (w : Scenario) (h : History) (a t : ℕ) (c : Choice) → IsOrdered w h a
    → Verifies (h ++ begin_of h a t c ∷ []) a ≡ Verifies h a ++ (if is_verify c.kind then record { began = t; ended = None } ∷ [] else [])
verifies_begun w h a t c o =
    let b : Begin = record { tick = t; arc = a; ord = length (Begins h a); kind = c.kind; what = c.what; from = c.from } in
    let ends : Ends (h ++ begin_of h a t c ∷ []) a ≡ Ends h a = filter_map-append (ended_on a) h (begin_of h a t c ∷ []) ∙ append-nil (Ends h a) in
    let none : slice_get (filter (λ (e : Ended). e.ord == b.ord) (Ends h a)) 0 ≡ None
    = first_numbered (Ends h a) 0 (length (Begins h a)) b.ord (omega arith) (λ j e at. let is : e.ord ≡ j = o.end_places j e at in omega (arith, is))
    ∙ past_last (Ends h a) (length (Begins h a)) o.ends_begun in
    verifies_by (h ++ begin_of h a t c ∷ []) a ∙ ap (λ xs. verifies_in xs (Ends (h ++ begin_of h a t c ∷ []) a)) (begins_grow h a t c) ∙ ap (verifies_in (Begins h a ++ b ∷ [])) ends
    ∙ verifies-push (Begins h a) b (Ends h a) ∙ ap (λ o. verifies_in (Begins h a) (Ends h a) ++ last_as b o) none ∙ ap (λ xs. xs ++ last_as b None) (sym (verifies_by h a))

-- ---- an end

pub split_last : {X : Type 0} (n : ℕ) (xs : List X) → length xs ≡ suc n → (front : List X) × (x : X) × (xs ≡ front ++ x ∷ []) × (length front ≡ n)
split_last zero [] e = absurd (omega (arith, e))
split_last zero (x ∷ []) e = ([], x, refl, refl)
split_last zero (x ∷ y ∷ xs) e = absurd (omega (arith, e))
split_last (suc n) [] e = absurd (omega (arith, e))
split_last (suc n) (x ∷ xs) e = let (front, y, is, len) = split_last n xs (omega (arith, e)) in (x ∷ front, y, ap (λ ys. x ∷ ys) is, omega (arith, len))

map_like : {X Y : Type 0} (f g : X → Y) (xs : List X) → Every (λ x. f x ≡ g x) xs → map f xs ≡ map g xs
map_like f g [] all = refl
map_like f g (x ∷ xs) (here, more) = cc (here, map_like f g xs more)

end_last-push : (t : ℕ) (vs : List link.Verify) (v : link.Verify) → end_last t (vs ++ v ∷ []) ≡ vs ++ record v { ended = Some t } ∷ []
end_last-push t [] v = refl
end_last-push t (u ∷ []) v = refl
end_last-push t (u ∷ x ∷ vs) v = ap (λ ys. u ∷ ys) (end_last-push t (x ∷ vs) v)

-- where all have ended, none is under way
not_going : (vs : List link.Verify) → Every (λ v. is_none v.ended ≡ false) vs → is_going (link.last_verify vs) ≡ false
not_going [] all = refl
not_going (v ∷ []) (here, more) = here
not_going (v ∷ u ∷ vs) (here, more) = not_going (u ∷ vs) more

every_map : {X Y : Type 0} (P : Y → Type 0) (f : X → Y) (xs : List X) → Every (λ x. P (f x)) xs → Every P (map f xs)
every_map P f [] all = tt
every_map P f (x ∷ xs) (here, more) = (here, every_map P f xs more)

-- verifies of mPackets of which each has an end
pub all_ended : (bs : List Begin) (ends : List Ended) → ((i : ℕ) (b : Begin) → slice_get bs i ≡ Some b → b.ord ≡ i) → ((i : ℕ) (e : Ended) → slice_get ends i ≡ Some e → e.ord ≡ i)
    → length bs ≤ length ends → is_going (link.last_verify (verifies_in bs ends)) ≡ false
all_ended bs ends begin_places end_places le =
    not_going (verifies_in bs ends) (every_map (λ (v : link.Verify). is_none v.ended ≡ false) verify_in (filter test (map (packet_of ends) bs))
    (every_filter (λ (p : Packet). is_none (verify_in p).ended ≡ false) test (map (packet_of ends) bs)
    (every_map (λ (p : Packet). is_none (verify_in p).ended ≡ false) (packet_of ends) bs (every_placed _ bs (λ i b at.
    let e = there ends i (omega (arith, within bs i b at, le)) in
    let ord : b.ord ≡ i = begin_places i b at in
    let is : slice_get (filter (λ (e : Ended). e.ord == b.ord) ends) 0 ≡ Some e.0 =
    first_numbered ends 0 i b.ord (omega (arith, ord)) (λ j e at. let is : e.ord ≡ j = end_places j e at in omega (arith, is)) ∙ e.1 in
    ap (λ (o : Option Ended). is_none (option_map (λ (e : Ended). e.tick) o)) is)))))

-- what the end of the last mPacket makes of the verifies
pub record Ending (h g : History) (a : ℕ) (e : Ended) : Type 0 where
  pub others : List link.Verify
  pub last : Begin
  pub before : Verifies h a ≡ others ++ last_as last None
  pub after : Verifies g a ≡ others ++ last_as last (Some e)
  pub over : is_going (link.last_verify others) ≡ false

module _ (w : Scenario) (h : History) (a : ℕ) (e : Ended) (o : IsOrdered w h a) (arc_is : e.arc ≡ a) (ord : e.ord ≡ length (Ends h a)) (open' : length (Ends h a) < length (Begins h a)) where
  alone_ended : Ends (PlainEvent.ended e ∷ []) a ≡ e ∷ []
  alone_ended = let same : (e.arc == a) ≡ true = ap (λ x. x == a) arc_is ∙ is_eq a in rw same refl

  ends_grow : Ends (h ++ PlainEvent.ended e ∷ []) a ≡ Ends h a ++ e ∷ []
  ends_grow = filter_map-append (ended_on a) h (PlainEvent.ended e ∷ []) ∙ ap (λ xs. Ends h a ++ xs) alone_ended

  begins_stay : Begins (h ++ PlainEvent.ended e ∷ []) a ≡ Begins h a
  begins_stay = filter_map-append (begin_on a) h (PlainEvent.ended e ∷ []) ∙ append-nil (Begins h a)

  places : (j : ℕ) (d : Ended) → slice_get (Ends h a ++ e ∷ []) j ≡ Some d → d.ord ≡ 0 + j
  places j d at = elim (at_end (Ends h a) e d j at) [
    | inl old ↦ let is : d.ord ≡ j = o.end_places j d old in omega (arith, is)
    | inr (last, same) ↦ let is : e.ord ≡ d.ord = ap (λ (x : Ended). x.ord) same in omega (arith, is, ord, last)
  ]

  old_places : (j : ℕ) (d : Ended) → slice_get (Ends h a) j ≡ Some d → d.ord ≡ 0 + j
  old_places j d at = let is : d.ord ≡ j = o.end_places j d at in omega (arith, is)

  module _ (front : List Begin) (b : Begin) (is : Begins h a ≡ front ++ b ∷ []) (len : length front ≡ length (Ends h a)) where
    front_at : (i : ℕ) (c : Begin) → slice_get front i ≡ Some c → c.ord ≡ i
    front_at i c at = o.begin_places i c (ap (λ xs. slice_get xs i) is ∙ at_front front (b ∷ []) i c at)

    b_ord : b.ord ≡ length front
    b_ord = o.begin_places (length front) b (ap (λ xs. slice_get xs (length front)) is ∙ at_last front b)

    none : slice_get (filter (λ (d : Ended). d.ord == b.ord) (Ends h a)) 0 ≡ None
    none = first_numbered (Ends h a) 0 (length (Ends h a)) b.ord (omega (arith, b_ord, len)) old_places ∙ past_last (Ends h a) (length (Ends h a)) (omega arith)

    some : slice_get (filter (λ (d : Ended). d.ord == b.ord) (Ends h a ++ e ∷ [])) 0 ≡ Some e
    some = first_numbered (Ends h a ++ e ∷ []) 0 (length (Ends h a)) b.ord (omega (arith, b_ord, len)) places ∙ at_last (Ends h a) e

    same_packet : (i : ℕ) (c : Begin) → slice_get front i ≡ Some c → packet_of (Ends h a ++ e ∷ []) c ≡ packet_of (Ends h a) c
    same_packet i c at =
        let c_ord : c.ord ≡ i = front_at i c at in
        let d = there (Ends h a) i (omega (arith, within front i c at, len)) in
        ap (λ (x : Option Ended). record { begin = c; ended = x })
        (first_numbered (Ends h a ++ e ∷ []) 0 i c.ord (omega (arith, c_ord)) places ∙ (at_front (Ends h a) (e ∷ []) i d.0 d.1 ∙ sym d.1)
        ∙ sym (first_numbered (Ends h a) 0 i c.ord (omega (arith, c_ord)) old_places))

    same_front : verifies_in front (Ends h a ++ e ∷ []) ≡ verifies_in front (Ends h a)
    same_front = ap (λ (ps : List Packet). map verify_in (filter test ps)) (map_like (packet_of (Ends h a ++ e ∷ [])) (packet_of (Ends h a)) front (every_placed _ front same_packet))

    before : Verifies h a ≡ verifies_in front (Ends h a) ++ last_as b None
    before = verifies_by h a ∙ ap (λ xs. verifies_in xs (Ends h a)) is ∙ verifies-push front b (Ends h a) ∙ ap (λ x. verifies_in front (Ends h a) ++ last_as b x) none

    pushed : verifies_in (front ++ b ∷ []) (Ends h a ++ e ∷ []) ≡ verifies_in front (Ends h a) ++ last_as b (Some e)
    pushed = verifies-push front b (Ends h a ++ e ∷ []) ∙ ap (λ x. verifies_in front (Ends h a ++ e ∷ []) ++ last_as b x) some ∙ ap (λ vs. vs ++ last_as b (Some e)) same_front

    after : Verifies (h ++ PlainEvent.ended e ∷ []) a ≡ verifies_in front (Ends h a) ++ last_as b (Some e)
    after =
        verifies_by (h ++ PlainEvent.ended e ∷ []) a ∙ ap (λ xs. verifies_in xs (Ends (h ++ PlainEvent.ended e ∷ []) a)) (begins_stay ∙ is)
        ∙ ap (verifies_in (front ++ b ∷ [])) ends_grow ∙ pushed

    parts : Ending h (h ++ PlainEvent.ended e ∷ []) a e
    parts = record { others = verifies_in front (Ends h a); last = b; before = before; after = after; over = all_ended front (Ends h a) front_at o.end_places (omega (arith, len)) }

  pub ending : Ending h (h ++ PlainEvent.ended e ∷ []) a e
  ending = let (front, b, is, len) = split_last (length (Ends h a)) (Begins h a) (omega (arith, open', o.few_open)) in parts front b is len

-- where the verify under way ends, the list is that with the last one ended; where none is under way it stays
pub ended_going : (t : ℕ) (vs ws us : List link.Verify) (b : Begin) (e : Ended) → vs ≡ us ++ last_as b None → ws ≡ us ++ last_as b (Some e) → e.tick ≡ t
    → is_going (link.last_verify us) ≡ false → is_going (link.last_verify vs) ≡ true → ws ≡ end_last t vs
ended_going t vs ws us b e before after tick over going = go (is_verify b.kind) before after
  where
    go : (x : Bool) → vs ≡ us ++ (if x then record { began = b.tick; ended = None } ∷ [] else []) → ws ≡ us ++ (if x then record { began = b.tick; ended = Some e.tick } ∷ [] else [])
        → ws ≡ end_last t vs
    go true before after = after ∙ ap (λ (x : ℕ). us ++ record { began = b.tick; ended = Some x } ∷ []) tick ∙ sym (end_last-push t us (record { began = b.tick; ended = None }))
        ∙ ap (end_last t) (sym before)
    go false before after = absurd (let no : is_going (link.last_verify vs) ≡ false = ap (λ xs. is_going (link.last_verify xs)) (before ∙ append-nil us) ∙ over in cc (no, going))

pub ended_calm : (vs ws us : List link.Verify) (b : Begin) (e : Ended) → vs ≡ us ++ last_as b None → ws ≡ us ++ last_as b (Some e) → is_going (link.last_verify vs) ≡ false → ws ≡ vs
ended_calm vs ws us b e before after calm = go (is_verify b.kind) before after
  where
    go : (x : Bool) → vs ≡ us ++ (if x then record { began = b.tick; ended = None } ∷ [] else []) → ws ≡ us ++ (if x then record { began = b.tick; ended = Some e.tick } ∷ [] else []) → ws ≡ vs
    go true before after = absurd (let yea : is_going (link.last_verify vs) ≡ true = ap (λ xs. is_going (link.last_verify xs)) before
        ∙ ap is_going (last_verify-push us (record { began = b.tick; ended = None })) in cc (yea, calm))
    go false before after = after ∙ sym before
