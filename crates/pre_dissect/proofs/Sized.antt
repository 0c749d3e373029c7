-- What is recorded of a history has room in a capture file.
use Rattle.std.proofs.Common.{ℕ, suc, ◌≡◌, ◌==◌, ◌+◌, ◌-◌, ◌<◌, ◌≤◌, Bool, true, false, List, [], ◌∷◌}
use Rattle.std.proofs.Common.{◌++◌, length, length-append, take, drop, replicate, fold, Option, Some, None, refl, sym, ◌∙◌, ap, arith}
use Rattle.std.proofs.Common.{subst}
use Rattle.std.specs.Prelude.{slice_get, if◌then◌else◌, option_map, All, filter}
use Rattle.std.specs.List.{AllByRecursion as Every}
use Rattle.std.proofs.lemmas.List.{take-append-drop, length-take-le, length-drop}
use Rattle.std.proofs.lemmas.List.Elements.{All-from_recursion}
use Rattle.pre_base.specs.declared.limits.TheConstants.{GREATEST_FRAME}
use Rattle.pre_crc.specs.Checks.{Mcrc}
use Rattle.pre_crc.proofs.CheckFacts.{length-Mcrc}
use Rattle.pre_lldp.proofs.ReadBack.{sent-length}
use Rattle.pre_mpacket.specs.declared.packets.Kind.{Kind}
use Rattle.pre_mpacket.specs.declared.packets.Kind.TheVariants as kind
use Rattle.pre_mpacket.specs.Spelling.{head_of}
use Rattle.pre_pcap.specs.Written.{Stamped, CanBeWritten}
use Rattle.pre_script.specs.declared.scripts.Damage.{Damage}
use Rattle.pre_history.specs.declared.events.What.{What}
use Rattle.pre_history.specs.declared.events.What.TheVariants as what
use Rattle.pre_history.specs.Scenario.{Scenario, arc}
use Rattle.pre_history.specs.History.{Begin, Ended, PlainEvent, History}
use Rattle.pre_history.specs.Legal.{LegalUpTo}
use Rattle.pre_history.specs.Octets.{AdvertAt, Damaged, SentOctets, WholeOf, whole_of, is_lost, names_damage, smd_place, xored, xored_from}
use Rattle.pre_history.specs.Queries.{Begins, Ends}
use Rattle.pre_history.specs.Rules.{last_four}
use Rattle.pre_history.specs.Selected.{ended_on}
use Rattle.pre_history.proofs.InOrder.{steady}
use Rattle.pre_history.proofs.Lists.{there, within, every_at, every_placed, every_selected}
use Rattle.pre_history.proofs.Placing.{begins_arc}
use Rattle.pre_laws.proofs.Fitting.{is_routed}
use Rattle.pre_laws.proofs.Reassembled.{size_fits}
use Rattle.pre_laws.proofs.RunSteps.{frame_long}
use Rattle.pre_dissect.specs.Captured.{recorded, recorded_of, Recorded}
use Rattle.pre_dissect.specs.Fronts.{FilesFit, IsUpTo}
use Rattle.pre_dissect.proofs.Closing.{latest}

-- ---- damaged octets are as many

from_long : (ys xs : List ℕ) → length (xored_from ys xs) ≡ length xs
from_long [] xs = refl
from_long (y ∷ ys) [] = refl
from_long (y ∷ ys) (x ∷ xs) = ap suc (from_long ys xs)

xored_long : (place : ℕ) (ys xs : List ℕ) → length (xored place ys xs) ≡ length xs
xored_long place ys xs =
    let both = length-append (take place xs) (xored_from ys (drop place xs)) in
    let parts = length-append (take place xs) (drop place xs) in
    let whole = ap length (take-append-drop place xs) in
    omega (arith, both, parts, whole, from_long ys (drop place xs))

all_long : (smd : ℕ) (ds : List Damage) (xs : List ℕ) → length (fold (λ xs d. xored (smd + d.offset) d.octets xs) xs ds) ≡ length xs
all_long smd [] xs = refl
all_long smd (d ∷ ds) xs = all_long smd ds (xored (smd + d.offset) d.octets xs) ∙ xored_long (smd + d.offset) d.octets xs

damaged_long : (w : Scenario) (b : Begin) (xs : List ℕ) → length (Damaged w b xs) ≡ length xs
damaged_long w b xs = all_long (smd_place b.kind) (filter (names_damage b) w.script.damages) xs

-- ---- octets as sent

head_long : (k : Kind) → length (head_of k) ≡ 8
head_long kind.Express = refl
head_long kind.Verify = refl
head_long kind.Respond = refl
head_long (kind.Start c) = refl
head_long (kind.Continue c i) = refl

end_up_to : (a t : ℕ) (x : PlainEvent) (e : Ended) → IsUpTo t x → ended_on a x ≡ Some e → e.tick ≤ t
end_up_to a t (PlainEvent.ended d) e le is = go (d.arc == a) is
  where
    go : (on : Bool) → (if on then Some d else None) ≡ Some e → e.tick ≤ t
    go true is = let same : d ≡ e = cc is in subst (λ (x : Ended). x.tick ≤ t) same le
    go false is = absurd (cc is)
end_up_to a t (PlainEvent.set s b v) e le is = absurd (cc is)
end_up_to a t (PlainEvent.begin b) e le is = absurd (cc is)
end_up_to a t (PlainEvent.arrive x) e le is = absurd (cc is)
end_up_to a t (PlainEvent.deliver d) e le is = absurd (cc is)
end_up_to a t (PlainEvent.active s b v) e le is = absurd (cc is)
end_up_to a t (PlainEvent.enter x) e le is = absurd (cc is)
end_up_to a t (PlainEvent.dropped x) e le is = absurd (cc is)
end_up_to a t (PlainEvent.count b c) e le is = absurd (cc is)
end_up_to a t (PlainEvent.end x) e le is = absurd (cc is)

module _ (w : Scenario) (fits : FilesFit w) (n : ℕ) (h : History) (legal : LegalUpTo w n h) (up_to : Every (IsUpTo w.script.until.0) h) (a : ℕ) (a_lt : a < length w.net.arcs) where
  module _ (i : ℕ) (b : Begin) (e : Ended) (at : slice_get (Begins h a) i ≡ Some b) (over : slice_get (Ends h a) i ≡ Some e) where
    whole_short : length (WholeOf w h b) ≤ GREATEST_FRAME
    whole_short = go b.what refl
      where
        on : b.arc ≡ a
        on = every_at (λ (b : Begin). b.arc ≡ a) (Begins h a) i b (begins_arc h a) at

        go : (x : What) → b.what ≡ x → length (whole_of w h b x) ≤ GREATEST_FRAME
        go (what.Frame f) is = (frame_long w (is_routed w fits.rows_fit fits.lines_fit) n h legal a a_lt i b f at is).1
        go what.Lldp is =
            let long = sent-length (arc w b.arc).from.0 b.arc (AdvertAt w h b.arc b.tick) (omega (arith, on, a_lt, w.net.rules.arc_count.1)) in
            omega (arith, long)
        go what.Nothing is =
            let check = length-Mcrc (replicate 60 0) in
            let all = length-append (replicate 60 0) (Mcrc (replicate 60 0)) in
            omega (arith, check, all)

    check_short : length e.check ≤ GREATEST_FRAME
    check_short = subst (λ l. length l ≤ GREATEST_FRAME) (sym ((steady w n h a a_lt legal).checks i b e at over)) (go (b.from + e.size == length (WholeOf w h b)))
      where
        go : (x : Bool) → length (if x then last_four (WholeOf w h b) else Mcrc (take (b.from + e.size - 4) (WholeOf w h b))) ≤ GREATEST_FRAME
        go true = let cut = length-drop (length (WholeOf w h b) - 4) (WholeOf w h b) in omega (arith, cut, whole_short)
        go false = let long = length-Mcrc (take (b.from + e.size - 4) (WholeOf w h b)) in omega (arith, long)

    sent_short : length (SentOctets w h b e) ≤ 65535
    sent_short =
        let fit = size_fits w (is_routed w fits.rows_fit fits.lines_fit) n h legal a a_lt i b e at over in
        let rest = length-drop b.from (WholeOf w h b) in
        let body = take (e.size - 4) (drop b.from (WholeOf w h b)) in
        let body_long : length body ≡ e.size - 4 = length-take-le (e.size - 4) (drop b.from (WholeOf w h b)) (omega (arith, rest, fit.0, fit.1)) in
        let is : length (SentOctets w h b e) ≡ length ((head_of b.kind ++ body) ++ e.check) = refl in
        omega (arith, is, length-append (head_of b.kind ++ body) e.check, length-append (head_of b.kind) body, head_long b.kind, body_long, check_short, whole_short, fit.0)

    up : e.tick ≤ w.script.until.0
    up = every_at (λ (e : Ended). e.tick ≤ w.script.until.0) (Ends h a) i e (every_selected (ended_on a) (IsUpTo w.script.until.0) (λ e. e.tick ≤ w.script.until.0) (end_up_to a w.script.until.0) h up_to) over

    one_fits : (s : Stamped) → recorded w h a e ≡ Some s → CanBeWritten s
    one_fits s is = go (is_lost w b) (sym here ∙ is)
      where
        place : e.ord ≡ i
        place = (steady w n h a a_lt legal).ordered.end_places i e over

        here : recorded w h a e ≡ recorded_of w h a (Some b) e
        here = ap (λ (o : Option Begin). recorded_of w h a o e) (ap (slice_get (Begins h a)) place ∙ at)

        due : Stamped
        due = record { tick = e.tick + (arc w a).delay; octets = Damaged w b (SentOctets w h b e) }

        go : (x : Bool) → option_map (λ octets. record { tick = e.tick + (arc w a).delay; octets = octets }) (if x then None else Some (Damaged w b (SentOctets w h b e))) ≡ Some s → CanBeWritten s
        go true none = absurd (cc none)
        go false some = let same : due ≡ s = cc some in subst CanBeWritten same (record {
          tick = latest w fits a a_lt e.tick up;
          size = let long = damaged_long w b (SentOctets w h b e) in omega (arith, long, sent_short);
        })

  pub all_fit : All CanBeWritten (Recorded w h a)
  all_fit =
      All-from_recursion CanBeWritten (Recorded w h a)
      (every_selected (recorded w h a) (λ e. (s : Stamped) → recorded w h a e ≡ Some s → CanBeWritten s) CanBeWritten (λ e s fit is. fit s is) (Ends h a)
      (every_placed (λ e. (s : Stamped) → recorded w h a e ≡ Some s → CanBeWritten s) (Ends h a) (λ i e over.
      let b = there (Begins h a) i (omega (arith, within (Ends h a) i e over, (steady w n h a a_lt legal).ordered.ends_begun)) in
      one_fits i b.0 e b.1 over)))
