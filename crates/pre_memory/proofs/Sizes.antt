-- How many octets mPackets have that ended.
use Rattle.std.proofs.Common.{refl, ℕ, ◌≡◌, ◌==◌, ◌<◌, ◌≤◌, ◌+◌, ◌-◌, Bool, true, false, ◌++◌, length, take}
use Rattle.std.proofs.Common.{drop, ◌∙◌, ap, arith, Some, All, length-append, replicate}
use Rattle.std.specs.Prelude.{if◌then◌else◌, slice_get}
use Rattle.std.proofs.lemmas.List.{length-take-le, length-drop}
use Rattle.std.proofs.lemmas.List.Elements.{All-from_recursion}
use Rattle.pre_base.specs.declared.limits.TheConstants.{GREATEST_FRAME}
use Rattle.pre_crc.specs.Checks.{Mcrc}
use Rattle.pre_crc.proofs.CheckFacts.{length-Mcrc}
use Rattle.pre_lldp.proofs.ReadBack.{sent-length}
use Rattle.pre_mpacket.specs.declared.packets.Kind.{Kind}
use Rattle.pre_mpacket.specs.declared.packets.Kind.TheVariants as kind
use Rattle.pre_mpacket.specs.Spelling.{head_of}
use Rattle.pre_history.specs.declared.events.What.{What}
use Rattle.pre_history.specs.declared.events.What.TheVariants as what
use Rattle.pre_history.specs.Scenario.{Scenario, arc}
use Rattle.pre_history.specs.History.{Begin, Ended, History}
use Rattle.pre_history.specs.Legal.{LegalUpTo}
use Rattle.pre_history.specs.Octets.{AdvertAt, SentOctets, WholeOf, whole_of}
use Rattle.pre_history.specs.Queries.{Begins, Ends}
use Rattle.pre_history.specs.Rules.{last_four}
use Rattle.pre_history.proofs.InOrder.{steady}
use Rattle.pre_history.proofs.Lists.{there, within, every_at, every_placed}
use Rattle.pre_history.proofs.Placing.{begins_arc}
use Rattle.pre_laws.specs.Routed.{IsRouted}
use Rattle.pre_laws.proofs.Reassembled.{size_fits}
use Rattle.pre_laws.proofs.RunSteps.{frame_long}
use Rattle.pre_memory.specs.Wires.{octets_of}

head_long : (k : Kind) → length (head_of k) ≡ 8
head_long kind.Express = refl
head_long kind.Verify = refl
head_long kind.Respond = refl
head_long (kind.Start c) = refl
head_long (kind.Continue c i) = refl

module _ (w : Scenario) (routed : IsRouted w) (n : ℕ) (h : History) (legal : LegalUpTo w n h) (a : ℕ) (a_lt : a < length w.net.arcs) where
  whole_short : (m : ℕ) (d : Begin) → slice_get (Begins h a) m ≡ Some d → length (WholeOf w h d) ≤ GREATEST_FRAME
  whole_short m d at = go d.what refl
    where
      on : d.arc ≡ a
      on = every_at (λ (b : Begin). b.arc ≡ a) (Begins h a) m d (begins_arc h a) at

      go : (x : What) → d.what ≡ x → length (whole_of w h d x) ≤ GREATEST_FRAME
      go (what.Frame f) is = (frame_long w routed n h legal a a_lt m d f at is).1
      go what.Lldp is =
          let long = sent-length (arc w d.arc).from.0 d.arc (AdvertAt w h d.arc d.tick) (omega (arith, on, a_lt, w.net.rules.arc_count.1)) in
          omega (arith, long)
      go what.Nothing is =
          let check = length-Mcrc (replicate 60 0) in
          let all = length-append (replicate 60 0) (Mcrc (replicate 60 0)) in
          omega (arith, check, all)

  module _ (m : ℕ) (d : Begin) (e : Ended) (at : slice_get (Begins h a) m ≡ Some d) (over : slice_get (Ends h a) m ≡ Some e) where
    check_long : length e.check ≡ 4
    check_long = ap length ((steady w n h a a_lt legal).checks m d e at over) ∙ go (d.from + e.size == length (WholeOf w h d))
      where
        go : (x : Bool) → length (if x then last_four (WholeOf w h d) else Mcrc (take (d.from + e.size - 4) (WholeOf w h d))) ≡ 4
        go true =
            let fits = size_fits w routed n h legal a a_lt m d e at over in
            let cut = length-drop (length (WholeOf w h d) - 4) (WholeOf w h d) in
            omega (arith, fits.0, fits.1, cut)
        go false = length-Mcrc (take (d.from + e.size - 4) (WholeOf w h d))

    -- as many are sent
    pub sent_long : length (SentOctets w h d e) ≡ octets_of e
    sent_long =
        let fits = size_fits w routed n h legal a a_lt m d e at over in
        let rest = length-drop d.from (WholeOf w h d) in
        let body = take (e.size - 4) (drop d.from (WholeOf w h d)) in
        let body_long : length body ≡ e.size - 4 = length-take-le (e.size - 4) (drop d.from (WholeOf w h d)) (omega (arith, rest, fits.0, fits.1)) in
        let is : length (SentOctets w h d e) ≡ length ((head_of d.kind ++ body) ++ e.check) = refl in
        omega (arith, is, length-append (head_of d.kind ++ body) e.check, length-append (head_of d.kind) body, head_long d.kind, body_long, check_long, fits.1)

  begun_at : (m : ℕ) (e : Ended) → slice_get (Ends h a) m ≡ Some e → (d : Begin) × (slice_get (Begins h a) m ≡ Some d)
  begun_at m e over = there (Begins h a) m (omega (arith, within (Ends h a) m e over, (steady w n h a a_lt legal).ordered.ends_begun))

pub have_sizes : (w : Scenario) → IsRouted w → (n : ℕ) (h : History) → LegalUpTo w n h → (a : ℕ) → a < length w.net.arcs → All (λ e. 64 ≤ e.size) (Ends h a)
have_sizes w routed n h legal a lt =
    All-from_recursion (λ (e : Ended). 64 ≤ e.size) (Ends h a)
    (every_placed (λ (e : Ended). 64 ≤ e.size) (Ends h a) (λ m e over.
    let d = begun_at w routed n h legal a lt m e over in
    (size_fits w routed n h legal a lt m d.0 e d.1 over).1))

pub are_short : (w : Scenario) → IsRouted w → (n : ℕ) (h : History) → LegalUpTo w n h → (a : ℕ) → a < length w.net.arcs → All (λ e. e.size ≤ GREATEST_FRAME) (Ends h a)
are_short w routed n h legal a lt =
    All-from_recursion (λ (e : Ended). e.size ≤ GREATEST_FRAME) (Ends h a)
    (every_placed (λ (e : Ended). e.size ≤ GREATEST_FRAME) (Ends h a) (λ m e over.
    let d = begun_at w routed n h legal a lt m e over in
    let fits = size_fits w routed n h legal a lt m d.0 e d.1 over in
    let short = whole_short w routed n h legal a lt m d.0 d.1 in
    omega (arith, fits.0, short)))
