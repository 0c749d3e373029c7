-- What a capture watcher has taken after the begin of an mPacket.
use Rattle.std.proofs.Common.{ℕ, suc, ◌≡◌, ◌==◌, ◌&&◌, ◌+◌, ◌*◌, ◌<◌, ◌≤◌, nat_le, Bool, List, [], ◌∷◌}
use Rattle.std.proofs.Common.{◌++◌, length, length-append, true, false, refl, sym, ◌∙◌, ap, arith, subst, Option, Some, None}
use Rattle.std.specs.Prelude.{slice_get, if◌then◌else◌, unwrap_or}
use Rattle.std.proofs.lemmas.Bool.Decides.{nat_tests}
use Rattle.pre_base.specs.Last.{last}
use Rattle.pre_base.specs.Sinks.{Taken}
use Rattle.pre_history.specs.declared.events.What.TheVariants as what
use Rattle.pre_history.specs.Scenario.{Scenario}
use Rattle.pre_history.specs.History.{Begin, PlainEvent, History}
use Rattle.pre_history.specs.Selected.{begin_on, active_on}
use Rattle.pre_history.specs.Queries.{Begins, Ends}
use Rattle.pre_history.specs.Octets.{WholeOf, ToldActive, whole_of}
use Rattle.pre_history.specs.Moments.{moments}
use Rattle.pre_history.specs.Placed.{number, IsBefore}
use Rattle.pre_history.proofs.Lists.{every_weaker, there, within, at_front, at_last}
use Rattle.pre_history.proofs.Chosen.{selected_like}
use Rattle.pre_history.proofs.NatTests.{is_eq}
use Rattle.pre_history.proofs.InOrder.{steady}
use Rattle.pre_history.proofs.Placing.{placed}
use Rattle.pre_history.proofs.Turns.{tick_le}
use Rattle.pre_history.proofs.Stays.{told_same}
use Rattle.pre_laws.proofs.Fitting.{is_routed}
use Rattle.pre_laws.proofs.Reassembled.{counts}
use Rattle.pre_dissect.specs.declared.newest.Newest.{Newest}
use Rattle.pre_dissect.specs.Fronts.{IsUpTo}
use Rattle.pre_dissect.specs.Sendings.{advert_frame}
use Rattle.pre_dissect.specs.Watching.{HasTaken}
use Rattle.pre_dissect.proofs.Turning.{front_before, every_mid, begin_alone}
use Rattle.pre_dissect.proofs.Growing.{grown, holds_same, none_added, selected, wholes_untold}

is_by : (m n : ℕ) → m ≤ n → nat_le m n ≡ true
is_by m n le = grind (arith, nat_tests)

-- what stands before the starts of a tick tells as much of the arc there as later
told_by : (arcs a t until : ℕ) → a < arcs → t ≤ until → (e : PlainEvent) → IsBefore arcs (number arcs t (2 + 3 * arcs + a)) e → active_on a until e ≡ active_on a t e
told_by arcs a t until a_lt le (PlainEvent.active s c v) (m, lt, (c_lt, at)) =
    let early : s ≤ t = tick_le (moments arcs) s t (1 + 2 * arcs + c) (2 + 3 * arcs + a) (omega (arith, a_lt)) (omega (arith, lt, at)) in
    ap (λ x. if (c == a) && x then Some v else None) (is_by s until (omega (arith, early, le)) ∙ sym (is_by s t early))
told_by arcs a t until a_lt le (PlainEvent.set s b v) at = refl
told_by arcs a t until a_lt le (PlainEvent.begin b) at = refl
told_by arcs a t until a_lt le (PlainEvent.ended e) at = refl
told_by arcs a t until a_lt le (PlainEvent.arrive x) at = refl
told_by arcs a t until a_lt le (PlainEvent.deliver d) at = refl
told_by arcs a t until a_lt le (PlainEvent.enter e) at = refl
told_by arcs a t until a_lt le (PlainEvent.dropped e) at = refl
told_by arcs a t until a_lt le (PlainEvent.count b c) at = refl
told_by arcs a t until a_lt le (PlainEvent.end e) at = refl

-- the octets of an LLDP frame
lldp_whole : (w : Scenario) (g : History) (b : Begin) (active : Bool) → b.what ≡ what.Lldp → active ≡ ToldActive w g b.arc b.tick → advert_frame w b.arc b.tick active ≡ WholeOf w g b
lldp_whole w g b active is told = ap (advert_frame w b.arc b.tick) told ∙ sym (ap (whole_of w g b) is)

module _ (w : Scenario) (a : ℕ) (newest : Option Newest) (advert new : List ℕ) (told : Option Taken) (base : List ℕ) (h : History) (active : Bool) (n : Newest) (t : ℕ) where
  abbrev begun : Begin
  begun = record { tick = t; arc = a; ord = n.ord; kind = n.kind; what = n.what; from = n.from }

  pub begin_taken : (n.what ≡ what.Lldp → a < length w.net.arcs → new ≡ advert_frame w a t active) → HasTaken w a active newest advert told base h
      → HasTaken w a active (Some n) new told base (h ++ PlainEvent.begin (record { tick = t; arc = a; ord = n.ord; kind = n.kind; what = n.what; from = n.from }) ∷ [])
  begin_taken says taken = λ fits front.
      let e = PlainEvent.begin begun in
      let g = h ++ e ∷ [] in
      let old = taken fits (front_before w h e front) in
      let o = begin_alone w h begun front.legal_front in
      let a_lt : a < length w.net.arcs = o.at.0 in
      let routed = is_routed w fits.rows_fit fits.lines_fit in
      let s = steady w o.moment h a a_lt o.legal in
      let wholes = wholes_untold w h a e (λ t. refl) in
      let test : begin_on a e ≡ Some begun = rw (is_eq a a refl) refl in
      let more : Begins g a ≡ Begins h a ++ begun ∷ [] = selected (begin_on a) h e begun test in
      let at : slice_get (Begins g a) (length (Begins h a)) ≡ Some begun = ap (λ xs. slice_get xs (length (Begins h a))) more ∙ at_last (Begins h a) begun in
      let up_to : t ≤ w.script.until.0 = every_mid (IsUpTo w.script.until.0) h [] e front.within in
      let before = subst (λ k. (x : PlainEvent) → IsBefore (length w.net.arcs) k x → active_on a w.script.until.0 x ≡ active_on a t x) (sym o.at.1) (told_by (length w.net.arcs) a t w.script.until.0 a_lt up_to) in
      let now : ToldActive w h a w.script.until.0 ≡ ToldActive w h a t
      = ap (λ (xs : List Bool). unwrap_or (last xs) false) (selected_like (active_on a w.script.until.0) (active_on a t) h
      (every_weaker (IsBefore (length w.net.arcs) o.moment) (λ x. active_on a w.script.until.0 x ≡ active_on a t x) before h (placed w o.moment h o.legal))) in
      let still : ToldActive w g a t ≡ ToldActive w h a t = told_same w h (e ∷ []) a t (refl, tt) in (
        record {
          active_is = old.0.active_is ∙ sym (told_same w h (e ∷ []) a w.script.until.0 (refl, tt));
          newest_is = record {
            begin = begun;
            place = length (Begins h a);
            begun = at;
            newest = let one = ap length more in let sum = length-append (Begins h a) (begun ∷ []) in omega (arith, one, sum);
            ord = refl;
            kind = refl;
            counts = counts w routed (suc o.moment) g o.more a a_lt (length (Begins h a)) begun at;
            carries = refl;
            from = refl;
            advert_is = λ is. says is a_lt ∙ lldp_whole w g begun active is (old.0.active_is ∙ (now ∙ sym still));
          };
        },
        holds_same w a told base h e
            (grown w h a e wholes (λ i d at_d.
            let turn = s.ordered.end_places i d at_d in
            let few = s.ordered.ends_begun in
            let x = there (Begins h a) d.ord (let lt = within (Ends h a) i d at_d in omega (arith, lt, turn, few)) in
            ap (λ xs. slice_get xs d.ord) more ∙ (at_front (Begins h a) (begun ∷ []) d.ord x.0 x.1 ∙ sym x.1)))
            (none_added w h a e refl) old.1,
      )
