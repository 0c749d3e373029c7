-- The mPacket that is next on the wire, as it arrives, and what it carries.
use Rattle.std.proofs.Common.{ℕ, suc, ◌≡◌, ◌==◌, ◌&&◌, nat_le, ◌+◌, ◌-◌, ◌<◌, Bool, true, List, [], ◌∷◌}
use Rattle.std.proofs.Common.{◌++◌, length, take, drop, refl, sym, ◌∙◌, ap, arith, subst}
use Rattle.std.proofs.Common.{Option, Some, None, append_assoc, length-append}
use Rattle.std.specs.Prelude.{slice_get, if◌then◌else◌, option_map}
use Rattle.std.proofs.lemmas.Bool.Decides.{nat_tests}
use Rattle.std.proofs.lemmas.List.{take-append-drop, length-take-le}
use Rattle.pre_lldp.proofs.ReadBack.{sent-length}
use Rattle.pre_crc.specs.Checks.{Mcrc}
use Rattle.pre_base.specs.declared.limits.TheConstants.{GREATEST_FRAME, HEAD, LEAST_FRAME}
use Rattle.pre_mpacket.specs.declared.packets.Kind.{Kind}
use Rattle.pre_mpacket.specs.declared.packets.Kind.TheVariants as kind
use Rattle.pre_mpacket.specs.Spelling.{head_of}
use Rattle.pre_mpacket.specs.Arrivals.{Given, Gives}
use Rattle.pre_history.specs.declared.events.What.{What}
use Rattle.pre_history.specs.declared.events.What.TheVariants as what
use Rattle.pre_history.specs.Scenario.{Scenario, arc}
use Rattle.pre_history.specs.History.{Begin, Ended, History}
use Rattle.pre_history.specs.Queries.{Begins, Ends, Arrivals, end_of}
use Rattle.pre_history.specs.Octets.{Air, Damaged, SentOctets, WholeOf, whole_of, is_lost, smd_place, AdvertAt}
use Rattle.pre_history.specs.Starts.{Item, Choice, There, SizeOf}
use Rattle.pre_history.specs.Rules.{last_four}
use Rattle.pre_history.specs.Legal.{LegalUpTo}
use Rattle.pre_history.specs.Ordered.{IsOrdered}
use Rattle.pre_history.proofs.Free.{first_numbered}
use Rattle.pre_history.proofs.InOrder.{steady}
use Rattle.pre_history.proofs.Lists.{every_at}
use Rattle.pre_history.proofs.Placing.{begins_arc}
use Rattle.pre_history.proofs.Undamaged.{air_at}
use Rattle.pre_laws.proofs.Begun.{by_item, choice_of}
use Rattle.pre_history.proofs.Known.{gives_later}
use Rattle.pre_incoming.specs.Flights.{OnWire}
use Rattle.pre_incoming.specs.Arriving.{arrived}
use Rattle.pre_incoming.specs.Changes.{loses, damaged_by}
use Rattle.pre_incoming.specs.Judging.{behind_head}
use Rattle.pre_incoming.specs.Wires.{IsOnWire}
use Rattle.pre_incoming.proofs.Damaging.{take_one}
use Rattle.pre_incoming.proofs.OnAir.{arrived_on_air}

-- the lines that name an mPacket by its begin are those that name it by its arc and its number
damaged_is : (w : Scenario) (b : Begin) (octets : List ℕ) → damaged_by b.arc b.ord (smd_place b.kind) w.script.damages octets ≡ Damaged w b octets
unfolding damaged_by
damaged_is w b octets = refl

-- a frame of 64 octets stands whole behind the head
behind : (octets whole : List ℕ) → octets ≡ head_of kind.Express ++ whole → length whole ≡ 64 → behind_head octets ≡ Some whole
behind octets whole is long =
    let all : length (head_of kind.Express ++ whole) ≡ 72 = omega (arith, long) in
    ap behind_head is ∙ ap (λ n. if nat_le (HEAD + LEAST_FRAME) n && nat_le n (HEAD + GREATEST_FRAME) then Some whole else None) all

module _ (w : Scenario) (n : ℕ) (h : History) (legal : LegalUpTo w n h) (a : ℕ) (a_lt : a < length w.net.arcs) (e : Ended) (p : OnWire)
    (at_e : slice_get (Ends h a) (length (Arrivals h a)) ≡ Some e) (on : IsOnWire w h a p e) where
  order : IsOrdered w h a
  order = (steady w n h a a_lt legal).ordered

  pub end_ord : e.ord ≡ length (Arrivals h a)
  end_ord = order.end_places (length (Arrivals h a)) e at_e

  pub at_begin : slice_get (Begins h a) (length (Arrivals h a)) ≡ Some on.begin
  at_begin = subst (λ i. slice_get (Begins h a) i ≡ Some on.begin) end_ord on.begun

  begin_ord : on.begin.ord ≡ length (Arrivals h a)
  begin_ord = order.begin_places (length (Arrivals h a)) on.begin at_begin

  begin_arc : on.begin.arc ≡ a
  begin_arc = every_at (λ (b : Begin). b.arc ≡ a) (Begins h a) (length (Arrivals h a)) on.begin (begins_arc h a) at_begin

  pub its_ord : p.ord ≡ length (Arrivals h a)
  its_ord = on.its_ord ∙ end_ord

  same_ord : p.ord ≡ on.begin.ord
  same_ord = its_ord ∙ sym begin_ord

  ended : end_of h a on.begin.ord ≡ Some e
  ended = first_numbered (Ends h a) 0 (length (Arrivals h a)) on.begin.ord (omega (arith, begin_ord)) (λ j d here. let is : d.ord ≡ j = order.end_places j d here in omega (arith, is)) ∙ at_e

  lost_is : is_lost w on.begin ≡ loses w.script a p.ord
  lost_is = ap (λ x. loses w.script x on.begin.ord) begin_arc ∙ ap (loses w.script a) (sym same_ord)

  octets_are : Damaged w on.begin (SentOctets w h on.begin e) ≡ arrived w a p
  octets_are = sym (damaged_is w on.begin (SentOctets w h on.begin e))
      ∙ (ap (λ x. damaged_by x on.begin.ord (smd_place on.begin.kind) w.script.damages (SentOctets w h on.begin e)) begin_arc
      ∙ (ap (λ x. damaged_by a x (smd_place on.begin.kind) w.script.damages (SentOctets w h on.begin e)) (sym same_ord)
      ∙ (ap (λ (x : Kind). damaged_by a p.ord (smd_place x) w.script.damages (SentOctets w h on.begin e)) (sym on.kind)
      ∙ ap (damaged_by a p.ord (smd_place p.kind) w.script.damages) (sym on.octets))))

  -- what comes of it
  pub air_is : slice_get (Air w h a) (length (Arrivals h a)) ≡ Some (if loses w.script a p.ord then None else Some (arrived w a p))
  air_is = air_at w h a (length (Arrivals h a)) on.begin at_begin
      ∙ ap Some (ap (λ (o : Option Ended). if is_lost w on.begin then None else option_map (Damaged w on.begin) (option_map (SentOctets w h on.begin) o)) ended
      ∙ (ap (λ (x : Bool). if x then None else Some (Damaged w on.begin (SentOctets w h on.begin e))) lost_is
      ∙ ap (λ xs. if loses w.script a p.ord then None else Some xs) octets_are))

  pub long : length (take (length (Arrivals h a)) (Air w h a)) ≡ length (Arrivals h a)
  long = length-take-le (length (Arrivals h a)) (Air w h a) (arrived_on_air w n h legal a a_lt)

  -- the arrivals with it
  pub with_it : (x : Option (List ℕ)) → slice_get (Air w h a) (length (Arrivals h a)) ≡ Some x → take (length (Arrivals h a)) (Air w h a) ++ x ∷ [] ≡ take (suc (length (Arrivals h a))) (Air w h a)
  with_it x at = sym (take_one (length (Arrivals h a)) (Air w h a) x at)

  -- what it gives as the last of them
  pub gives_as_last : (x : Option (List ℕ)) → slice_get (Air w h a) (length (Arrivals h a)) ≡ Some x → (g : Given)
      → (Gives (take (length (Arrivals h a)) (Air w h a) ++ x ∷ []) (length (take (length (Arrivals h a)) (Air w h a))) g → Gives (Air w h a) (length (Arrivals h a)) g)
      × (Gives (Air w h a) (length (Arrivals h a)) g → Gives (take (length (Arrivals h a)) (Air w h a) ++ x ∷ []) (length (take (length (Arrivals h a)) (Air w h a))) g)
  gives_as_last x at g =
      let k = length (Arrivals h a) in
      let one_more : length (take k (Air w h a) ++ x ∷ []) ≡ length (take k (Air w h a)) + 1 = length-append (take k (Air w h a)) (x ∷ []) in
      let same : length (take k (Air w h a) ++ x ∷ []) ≡ length (take (suc k) (Air w h a)) = ap length (with_it x at) in
      let its_long : length (take k (Air w h a)) ≡ k = long in
      let lt : k < length (take (suc k) (Air w h a)) = omega (arith, one_more, same, its_long) in
      let later = gives_later (take (suc k) (Air w h a)) (drop (suc k) (Air w h a)) k g lt in (
        (λ gives. subst (λ A. Gives A k g) (take-append-drop (suc k) (Air w h a))
            (later.1 (subst (λ A. Gives A k g) (with_it x at) (subst (λ i. Gives (take k (Air w h a) ++ x ∷ []) i g) long gives)))),
        (λ gives. subst (λ i. Gives (take k (Air w h a) ++ x ∷ []) i g) (sym long)
            (subst (λ A. Gives A k g) (sym (with_it x at)) (later.0 (subst (λ A. Gives A k g) (sym (take-append-drop (suc k) (Air w h a))) gives)))),
      )

  -- ---- an LLDP frame

  lldp_begins : on.begin.what ≡ what.Lldp → (on.begin.kind ≡ kind.Express) × (on.begin.from ≡ 0)
  lldp_begins is = let o = by_item w n h legal a a_lt (length (Arrivals h a)) on.begin at_begin in go o.0 o.1
    where
      go : (it : Item) → There w h a on.begin.tick it (choice_of on.begin) → (on.begin.kind ≡ kind.Express) × (on.begin.from ≡ 0)
      go Item.express (f, front, c) = absurd (cc (is, ap (λ (x : Choice). x.what) c))
      go Item.respond (mode, owed, c) = absurd (cc (is, ap (λ (x : Choice). x.what) c))
      go Item.verify (mode, wanted, c) = absurd (cc (is, ap (λ (x : Choice). x.what) c))
      go Item.lldp (mode, wanted, c) = (ap (λ (x : Choice). x.kind) c, ap (λ (x : Choice). x.from) c)
      go Item.rest (r, interrupted, c) = absurd (cc (is, ap (λ (x : Choice). x.what) c))
      go Item.preemptable (f, k, front, so, c) = absurd (cc (is, ap (λ (x : Choice). x.what) c))

  lldp_long : on.begin.what ≡ what.Lldp → length (WholeOf w h on.begin) ≡ 64
  lldp_long is =
      ap (λ (x : What). length (whole_of w h on.begin x)) is
      ∙ sent-length (arc w on.begin.arc).from.0 on.begin.arc (AdvertAt w h on.begin.arc on.begin.tick) (omega (arith, begin_arc, a_lt, w.net.rules.arc_count.1))

  lldp_sent : on.begin.what ≡ what.Lldp → p.octets ≡ head_of kind.Express ++ WholeOf w h on.begin
  lldp_sent is =
      let begins = lldp_begins is in
      let whole : List ℕ = WholeOf w h on.begin in
      let sized : SizeOf w h on.begin.kind on.begin e.size = (steady w n h a a_lt legal).sizes (length (Arrivals h a)) on.begin e at_begin at_e in
      let size : e.size ≡ length whole = subst (λ k. SizeOf w h k on.begin e.size) begins.0 sized in
      let full : (on.begin.from + e.size == length whole) ≡ true = is_eq (on.begin.from + e.size) (length whole) (omega (arith, begins.1, size)) in
      let check : e.check ≡ drop (length whole - 4) whole
      = (steady w n h a a_lt legal).checks (length (Arrivals h a)) on.begin e at_begin at_e ∙ ap (λ (v : Bool). if v then last_four whole else Mcrc (take (on.begin.from + e.size - 4) whole)) full in
      on.octets
      ∙ (ap (λ (x : Kind). head_of x ++ take (e.size - 4) (drop on.begin.from whole) ++ e.check) begins.0
      ∙ (ap (λ x. head_of kind.Express ++ take (e.size - 4) (drop x whole) ++ e.check) begins.1
      ∙ (ap (λ x. head_of kind.Express ++ take (x - 4) whole ++ e.check) size
      ∙ (ap (λ xs. head_of kind.Express ++ take (length whole - 4) whole ++ xs) check
      ∙ (append_assoc (head_of kind.Express) (take (length whole - 4) whole) (drop (length whole - 4) whole) ∙ ap (λ xs. head_of kind.Express ++ xs) (take-append-drop (length whole - 4) whole))))))
    where
      is_eq : (x y : ℕ) → x ≡ y → (x == y) ≡ true
      is_eq x y same = grind (arith, nat_tests)

  -- what it gives where it arrives as it was sent
  pub lldp_behind : on.begin.what ≡ what.Lldp → behind_head p.octets ≡ Some (WholeOf w h on.begin)
  lldp_behind is = behind p.octets (WholeOf w h on.begin) (lldp_sent is) (lldp_long is)
