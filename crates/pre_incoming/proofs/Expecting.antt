-- The frame that is expected of an mPacket is the one whose last octets it has.
use Rattle.std.proofs.Common.{ℕ, ◌≡◌, ◌≢◌, ◌==◌, nat_lt, ◌+◌, ◌<◌, Bool, true, false, List, length, refl, sym, ◌∙◌, ap, arith, Some, None}
use Rattle.std.specs.Prelude.{◌↔◌, IsTrue, slice_get, if◌then◌else◌}
use Rattle.std.proofs.lemmas.Bool.Decides.{nat_tests}
use Rattle.pre_base.specs.declared.numbers.FrameNo.{FrameNo}
use Rattle.pre_history.specs.declared.events.What.{What}
use Rattle.pre_history.specs.declared.events.What.TheVariants as what
use Rattle.pre_history.specs.Scenario.{Scenario, FrameOf}
use Rattle.pre_history.specs.History.{Ended, History}
use Rattle.pre_history.specs.Queries.{Begins, Ends, Arrivals}
use Rattle.pre_history.specs.Octets.{WholeOf, whole_of}
use Rattle.pre_history.specs.Legal.{LegalUpTo}
use Rattle.pre_history.proofs.Lists.{every_at}
use Rattle.pre_laws.specs.Routed.{IsRouted}
use Rattle.pre_history.proofs.Aliases.{IsLastBy}
use Rattle.pre_laws.proofs.Routed.{BegunRight, begins_right, all_right}
use Rattle.pre_incoming.specs.Flights.{OnWire}
use Rattle.pre_incoming.specs.Judging.{expected, expected_of}
use Rattle.pre_incoming.specs.Wires.{IsOnWire}
use Rattle.pre_incoming.proofs.NextOne.{at_begin, lldp_behind}

-- a test that tells whether two numbers are equal
told : (v : Bool) (m n : ℕ) → IsTrue v ↔ (m ≡ n) → v ≡ (m == n)
told true m n is = let same : m ≡ n = is.0 refl in sym (is_eq m n same)
  where
    is_eq : (x y : ℕ) → x ≡ y → (x == y) ≡ true
    is_eq x y same = grind (arith, nat_tests)
told false m n is = sym (not_eq m n (λ same. cc (is.1 same)))
  where
    not_eq : (x y : ℕ) → x ≢ y → (x == y) ≡ false
    not_eq x y other = grind (arith, nat_tests)

module _ (w : Scenario) (routed : IsRouted w) (n : ℕ) (h : History) (legal : LegalUpTo w n h) (a : ℕ) (a_lt : a < length w.net.arcs) (e : Ended) (p : OnWire)
    (at_e : slice_get (Ends h a) (length (Arrivals h a)) ≡ Some e) (on : IsOnWire w h a p e) where
  -- a frame that is carried is one of the script
  pub known : (f : FrameNo) → on.begin.what ≡ what.Frame f → f.0 < length w.script.sends
  known f is =
      let right = every_at (BegunRight w a) (Begins h a) (length (Arrivals h a)) on.begin (begins_right w h a (all_right w routed n h legal)) (at_begin w n h legal a a_lt e p at_e on) in
      (right.on f is).known

  of_what : (x : What) → on.begin.what ≡ x → x ≢ what.Nothing → expected_of w x p.octets ≡ Some (WholeOf w h on.begin)
  of_what (what.Frame f) is some =
      ap (λ (v : Bool). if v then Some (FrameOf w f.0) else None) (is_lt f.0 (length w.script.sends) (known f is)) ∙ ap Some (sym (ap (whole_of w h on.begin) is))
    where
      is_lt : (x y : ℕ) → x < y → nat_lt x y ≡ true
      is_lt x y lt = grind (arith, nat_tests)
  of_what what.Lldp is some = lldp_behind w n h legal a a_lt e p at_e on is
  of_what what.Nothing is some = absurd (some refl)

  expects : expected w p ≡ (if on.begin.from + e.size == length (WholeOf w h on.begin) then expected_of w on.begin.what p.octets else None)
  expects = ap (λ (v : Bool). if v then expected_of w p.what p.octets else None) (told p.is_last (on.begin.from + e.size) (length (WholeOf w h on.begin)) on.is_last)
      ∙ ap (λ (x : What). if on.begin.from + e.size == length (WholeOf w h on.begin) then expected_of w x p.octets else None) on.carries

  -- what is expected is the frame whose last octets it has
  pub is_last : (octets : List ℕ) → expected w p ≡ Some octets → IsLastBy (WholeOf w h on.begin) on.begin e octets
  is_last octets is = go (on.begin.from + e.size == length (WholeOf w h on.begin)) refl (sym expects ∙ is)
    where
      some_what : (x : What) → expected_of w x p.octets ≡ Some octets → x ≢ what.Nothing
      some_what (what.Frame f) is nothing = cc nothing
      some_what what.Lldp is nothing = cc nothing
      some_what what.Nothing is nothing = cc is

      go : (v : Bool) → (on.begin.from + e.size == length (WholeOf w h on.begin)) ≡ v → (if v then expected_of w on.begin.what p.octets else None) ≡ Some octets
          → IsLastBy (WholeOf w h on.begin) on.begin e octets
      go false test is = absurd (cc is)
      go true test is =
          let some = some_what on.begin.what is in
          let both : Some octets ≡ Some (WholeOf w h on.begin) = sym is ∙ of_what on.begin.what refl some in
          let whole : octets ≡ WholeOf w h on.begin = cc both in
          let full : on.begin.from + e.size ≡ length (WholeOf w h on.begin) = grind (arith, nat_tests) in
          (some, whole, full ∙ ap length (sym whole))

  -- and the other way round
  pub is_expected : (octets : List ℕ) → IsLastBy (WholeOf w h on.begin) on.begin e octets → expected w p ≡ Some octets
  is_expected octets (some, whole, full) =
      let test : (on.begin.from + e.size == length (WholeOf w h on.begin)) ≡ true = is_eq (on.begin.from + e.size) (length (WholeOf w h on.begin)) (full ∙ ap length whole) in
      expects ∙ (ap (λ (v : Bool). if v then expected_of w on.begin.what p.octets else None) test ∙ (of_what on.begin.what refl some ∙ ap Some (sym whole)))
    where
      is_eq : (x y : ℕ) → x ≡ y → (x == y) ≡ true
      is_eq x y same = grind (arith, nat_tests)
