-- The mPackets on a wire as they come and go.
use Rattle.std.proofs.Common.{◌==◌, true, ℕ, ◌≡◌, ◌≢◌, ◌-◌, ◌≤◌, List, [], ◌∷◌, ◌++◌, length, drop, refl, sym, ◌∙◌, ap, ap₂, arith, subst, Some, None}
use Rattle.std.specs.Prelude.{not, slice_get, sum_by}
use Rattle.std.proofs.lemmas.Bool.{false≢true}
use Rattle.std.proofs.lemmas.Bool.Decides.{nat_tests}
use Rattle.std.specs.List.{AllByRecursion as Every}
use Rattle.std.proofs.lemmas.List.{length-append, length-drop, take-append-le, drop-append-le, take_all}
use Rattle.std.proofs.lemmas.List.Sums.{sum_by-cons, sum_by-append}
use Rattle.circular_buffer.specs.Buffer.{buffer, keep_last}
use Rattle.pre_base.specs.declared.limits.TheConstants.{GREATEST_PACKET}
use Rattle.pre_history.proofs.Lists.{every-append}
use Rattle.pre_incoming.specs.declared.wires.Flight.{Flight}
use Rattle.pre_incoming.specs.declared.wires.Wire.{Wire}
use Rattle.pre_incoming.specs.Flights.{OnWire, with_octets, taken_apart, on_wire, IsWhole, TakesOctets}
use Rattle.pre_incoming.specs.Arriving.{IsNextDue, IsNotDue}

abbrev sizes : List Flight → ℕ
sizes fs = sum_by (λ (f : Flight). f.size) fs

-- nothing is lost of what fits
pub keeps_all : {A : Type 0} (n : ℕ) (xs : List A) → length xs ≤ n → keep_last n xs ≡ xs
keeps_all n xs le = let none : length xs - n ≡ 0 = omega (arith, le) in ap (λ k. drop k xs) none

-- one more behind the others
apart-push : (fs : List Flight) (octets : List ℕ) (f : Flight) (more : List ℕ) → sizes fs ≡ length octets → f.size ≡ length more
    → taken_apart (fs ++ f ∷ []) (octets ++ more) ≡ taken_apart fs octets ++ with_octets f more ∷ []
apart-push [] [] f more all size = ap (λ xs. with_octets f xs ∷ []) (take_all f.size more (omega (arith, size)))
apart-push [] (x ∷ octets) f more all size = absurd (omega (arith, all))
apart-push (g ∷ fs) octets f more all size =
    let whole = sum_by-cons (λ (x : Flight). x.size) g fs in
    let fits : g.size ≤ length octets = omega (arith, whole, all) in
    let rest : sizes fs ≡ length (drop g.size octets) = omega (arith, whole, all, length-drop g.size octets) in
    ap₂ (λ xs ys. with_octets g xs ∷ ys) (take-append-le g.size octets more fits)
    (ap (taken_apart (fs ++ f ∷ [])) (drop-append-le g.size octets more fits) ∙ apart-push fs (drop g.size octets) f more rest size)

pub pushed_behind : (old new : Wire) (f : Flight) (more : List ℕ) → f.size ≡ length more → TakesOctets old (length more)
    → new.octets ≡ buffer (keep_last old.octets.capacity (old.octets.items ++ more)) old.octets.capacity
    → new.flights ≡ buffer (keep_last old.flights.capacity (old.flights.items ++ f ∷ [])) old.flights.capacity
    → IsWhole old → (on_wire new ≡ on_wire old ++ with_octets f more ∷ []) × IsWhole new
pushed_behind old new f more size room octets flights is =
    let kept : new.octets.items ≡ old.octets.items ++ more = ap (λ b. b.items) octets
    ∙ keeps_all old.octets.capacity (old.octets.items ++ more) (omega (arith, length-append old.octets.items more, room.octets)) in
    let added : new.flights.items ≡ old.flights.items ++ f ∷ [] = ap (λ b. b.items) flights
    ∙ keeps_all old.flights.capacity (old.flights.items ++ f ∷ []) (omega (arith, length-append old.flights.items (f ∷ []), room.flights)) in (
      ap₂ taken_apart added kept ∙ apart-push old.flights.items old.octets.items f more is.octets size,
      record {
        octets = ap sizes added ∙ (sum_by-append (λ (x : Flight). x.size) old.flights.items (f ∷ [])
            ∙ omega (arith, is.octets, size, sum_by-cons (λ (x : Flight). x.size) f [], length-append old.octets.items more, ap length kept));
        short = subst (Every (λ (x : Flight). x.size ≤ GREATEST_PACKET)) (sym added)
            (every-append (λ (x : Flight). x.size ≤ GREATEST_PACKET) old.flights.items (f ∷ []) is.short (omega (arith, room.short, size), tt));
      },
    )

-- ---- the first of those on the wire

pub none_due : (w : Wire) → slice_get w.flights.items 0 ≡ None → on_wire w ≡ []
none_due w none = go w.flights.items refl
  where
    go : (fs : List Flight) → w.flights.items ≡ fs → on_wire w ≡ []
    go [] e = ap (λ xs. taken_apart xs w.octets.items) e
    go (f ∷ fs) e = absurd (cc (none, e))

pub first_due : (w : Wire) (f : Flight) → slice_get w.flights.items 0 ≡ Some f → IsNextDue f.due.0 (on_wire w)
first_due w f at = go w.flights.items refl
  where
    go : (fs : List Flight) → w.flights.items ≡ fs → IsNextDue f.due.0 (on_wire w)
    go [] e = absurd (cc (at, e))
    go (g ∷ fs) e =
        let same : g ≡ f = cc (at, e) in
        subst (λ xs. IsNextDue f.due.0 (taken_apart xs w.octets.items)) (sym e) (ap (λ (x : Flight). x.due.0) same)

-- which is due at one tick alone
pub other_due : (t u : ℕ) (ps : List OnWire) → IsNextDue u ps → u ≢ t → IsNotDue t ps
other_due t u [] is other = tt
other_due t u (p ∷ ps) is other = λ now. other (sym is ∙ now)

pub same_due : (t u : ℕ) (p : OnWire) (ps : List OnWire) → IsNextDue u (p ∷ ps) → u ≡ t → p.due.0 ≡ t
same_due t u p ps is same = is ∙ same

-- two numbers that a test tells apart
pub not_same : (m n : ℕ) → not (m == n) ≡ true → m ≢ n
not_same m n is e = false≢true (sym (ap not (is_eq m n e)) ∙ is)
  where
    is_eq : (x y : ℕ) → x ≡ y → (x == y) ≡ true
    is_eq x y same = grind (arith, nat_tests)
