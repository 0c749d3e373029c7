-- An express mPacket that isn't lost or damaged gives the frame that was sent.
use Rattle.std.proofs.Common.{ℕ, ◌≡◌, ◌==◌, ◌+◌, ◌<◌, Bool, false, List, [], ◌∷◌, ◌++◌, length, refl, sym, ◌∙◌}
use Rattle.std.proofs.Common.{ap, inl, inr, arith, subst, Some, None, filter, length-append}
use Rattle.std.specs.Prelude.{slice_get, if◌then◌else◌, option_map, option_and_then, fold, IsTrue, IsFalse, All}
use Rattle.std.specs.List.{list_any, AllByRecursion as Every}
use Rattle.pre_base.specs.declared.numbers.FrameNo.{FrameNo}
use Rattle.pre_crc.specs.Checks.{Fcs}
use Rattle.pre_crc.proofs.CheckFacts.{length-Fcs}
use Rattle.std.proofs.lemmas.Bool.Decides.{nat_tests}
use Rattle.pre_script.specs.declared.scripts.Damage.{Damage}
use Rattle.pre_script.specs.declared.scripts.Loss.{Loss}
use Rattle.pre_mpacket.specs.declared.packets.Kind.TheVariants as kind
use Rattle.pre_mpacket.specs.Spelling.{head_of, mpacket_of}
use Rattle.pre_mpacket.specs.Arrivals.{Given, Gives, is_fragment}
use Rattle.pre_history.specs.declared.events.Outcome.TheVariants as outcome
use Rattle.pre_history.specs.declared.events.What.TheVariants as what
use Rattle.pre_history.specs.Scenario.{Scenario, send, FrameOf}
use Rattle.pre_history.specs.History.{History, Begin, Ended, Arrive}
use Rattle.pre_history.specs.Selected.{what_is}
use Rattle.pre_history.specs.Queries.{Begins, Ends, Arrivals, packet, end_of}
use Rattle.pre_history.specs.Octets.{SentOctets, Damaged, is_lost, names_loss, names_damage, xored, smd_place, Arrived, Air}
use Rattle.pre_history.specs.ArrivalResults.{Result, result_of}
use Rattle.pre_history.specs.Legal.{LegalUpTo, Spared}
use Rattle.pre_history.proofs.Lists.{every_at, filter_nil}
use Rattle.pre_history.proofs.Undamaged.{user_of, user_frame, length-FrameOf, air_at, whole_sent}
use Rattle.pre_history.proofs.Spelled.{express_gives}
use Rattle.pre_history.proofs.InOrder.{steady}
use Rattle.pre_laws.specs.Routed.{IsRouted}
use Rattle.pre_history.proofs.Zips.{every_of_all}
use Rattle.pre_history.proofs.Known.{one_given, one_spelled}
use Rattle.pre_history.proofs.ArrivalsRead.{results_read}
use Rattle.pre_laws.proofs.Runs.{end_is}
use Rattle.pre_laws.proofs.RunSteps.{right_at}
use Rattle.pre_laws.proofs.FirstOctets.{whole_from}
use Rattle.pre_laws.specs.Parts.{IsKept}

pub none_any : {X : Type 0} (test : X → Bool) (xs : List X) → Every (λ x. test x ≡ false) xs → list_any test xs ≡ false
none_any test [] none = refl
none_any test (x ∷ xs) (here, more) = rw here (none_any test xs more)

is_same : (m n : ℕ) → m ≡ n → IsTrue (m == n)
is_same m n e = grind (arith, nat_tests)

-- what isn't lost or damaged arrives as it was sent
pub as_sent : (w : Scenario) (h : History) (b : Begin) (e : Ended) (a : ℕ) → is_lost w b ≡ false → filter (names_damage b) w.script.damages ≡ [] → end_of h a b.ord ≡ Some e → Arrived w h (packet h a b) ≡ Some (SentOctets w h b e)
as_sent w h b e a kept whole ended =
    let same : Damaged w b (SentOctets w h b e) ≡ SentOctets w h b e = ap (λ (ds : List Damage). fold (λ xs d. xored (smd_place b.kind + d.offset) d.octets xs) (SentOctets w h b e) ds) whole in
    ap (λ (x : Bool). if x then None else option_map (Damaged w b) (option_map (SentOctets w h b) (end_of h a b.ord))) kept
    ∙ (ap (λ o. option_map (Damaged w b) (option_map (SentOctets w h b) o)) ended ∙ ap Some same)

-- an mPacket of a spared frame is neither lost nor damaged
pub own_kept : (w : Scenario) (h : History) (a : ℕ) (f : FrameNo) → Spared w h f.0 → (i : ℕ) (b : Begin) → slice_get (Begins h a) i ≡ Some b → b.what ≡ what.Frame f → IsKept w b
own_kept w h a f spared i b at carries = (
  none_any (names_loss b) w.script.losses (every_of_all (λ (l : Loss). IsFalse (names_loss b l)) w.script.losses u.0),
  filter_nil (names_damage b) w.script.damages (every_of_all (λ (d : Damage). IsFalse (names_damage b d)) w.script.damages u.1),
)
  where
    u : All (λ (l : Loss). IsFalse (names_loss b l)) w.script.losses × All (λ (d : Damage). IsFalse (names_damage b d)) w.script.damages
    u = every_at (λ (b : Begin). IsTrue (what_is b.what f.0) → All (λ (l : Loss). IsFalse (names_loss b l)) w.script.losses × All (λ (d : Damage). IsFalse (names_damage b d)) w.script.damages) (Begins h a) i b
        (every_of_all (λ (b : Begin). IsTrue (what_is b.what f.0) → All (λ (l : Loss). IsFalse (names_loss b l)) w.script.losses × All (λ (d : Damage). IsFalse (names_damage b d)) w.script.damages) (Begins h a) (spared a)) at
        (subst (λ x. IsTrue (what_is x f.0)) (sym carries) (is_same f.0 f.0 refl))

-- what gives a frame of the script arrives as a user frame
pub frame_received : (w : Scenario) (n : ℕ) (h : History) (legal : LegalUpTo w n h) (a : ℕ) → a < length w.net.arcs → (i f : ℕ) → Gives (Air w h a) i (Given.frame (FrameOf w f))
    → (x : Arrive) → slice_get (Arrivals h a) i ≡ Some x → x.result ≡ outcome.Frame
frame_received w n h legal a a_lt i f gives x here = go (results_read w n h a a_lt legal i x here)
  where
    go : Result (Air w h a) i x.result → x.result ≡ outcome.Frame
    go (inl (lost, is)) = absurd (let none = ap (λ o. option_and_then (λ a. option_and_then mpacket_of a) o) lost in cc (sym none ∙ gives.1))
    go (inr (inl (g, gives', is))) =
        let same : g ≡ Given.frame (FrameOf w f) = one_given (Air w h a) i g (Given.frame (FrameOf w f)) gives' gives in
        is ∙ (ap result_of same ∙ ap (λ (b : Bool). if b then outcome.Lldp else outcome.Frame) (user_frame w f))
    go (inr (inr (came, none, is))) = absurd (none (Given.frame (FrameOf w f)) gives)

module _ (w : Scenario) (routed : IsRouted w) (n : ℕ) (h : History) (legal : LegalUpTo w n h) (a : ℕ) (a_lt : a < length w.net.arcs) (i : ℕ) (b : Begin) (e : Ended) (f : FrameNo)
    (at : slice_get (Begins h a) i ≡ Some b) (over : slice_get (Ends h a) i ≡ Some e) (is_express : b.kind ≡ kind.Express) (carries : b.what ≡ what.Frame f) (spared : Spared w h f.0) where
  pub gives : Gives (Air w h a) i (Given.frame (FrameOf w f.0))
  gives =
      let (kept, whole) = own_kept w h a f spared i b at carries in
      let s = steady w n h a a_lt legal in
      let size = routed.sizes f.0 ((right_at w routed n h legal a a_lt i b at).on f carries).known in
      let end_at : end_of h a b.ord ≡ Some e = end_is w n h legal a a_lt i b at ∙ over in
      let from = (whole_from w routed n h legal a a_lt i b f (at, carries) (ap is_fragment is_express)).0 in
      let user = (user_of w f.0).0 in
      let is : FrameOf w f.0 ≡ user ++ Fcs user = (user_of w f.0).1 in
      let octets : slice_get (Air w h a) i ≡ Some (Some (head_of kind.Express ++ user ++ Fcs user))
      = air_at w h a i b at ∙ ap Some (as_sent w h b e a kept whole end_at ∙ ap Some (whole_sent w h b e f is_express from carries (s.sizes i b e at over) (s.checks i b e at over) (omega (arith, size.0)))) in
      let long : length (user ++ Fcs user) ≡ length user + 4 = omega (arith, length-append user (Fcs user), length-Fcs user) in
      let size_is : length (FrameOf w f.0) ≡ (send w f.0).send.size = length-FrameOf w f.0 (omega (arith, size.0)) in
      let same = ap length is in
      subst (λ xs. Gives (Air w h a) i (Given.frame xs)) (sym is) (express_gives one_spelled (Air w h a) i user octets (omega (arith, size.0, size_is, same, long)) (omega (arith, size.1, size_is, same, long)))
