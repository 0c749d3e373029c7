-- What a capture watcher has taken after one more event.
use Rattle.std.proofs.Common.{ℕ, ◌≡◌, ◌+◌, ◌*◌, ◌<◌, ◌≤◌, Bool, true, false, List, [], ◌∷◌, ◌++◌, length, refl}
use Rattle.std.proofs.Common.{sym, ◌∙◌, ap, nat_le, arith, subst, Option, Some, None, filter_map}
use Rattle.std.specs.Prelude.{slice_get, unwrap_or}
use Rattle.pre_base.specs.Last.{last}
use Rattle.pre_base.specs.Sinks.{Taken}
use Rattle.pre_history.specs.Scenario.{Scenario}
use Rattle.pre_history.specs.History.{Begin, Ended, PlainEvent, History}
use Rattle.pre_history.specs.Selected.{begin_on, active_on}
use Rattle.pre_history.specs.Queries.{Begins}
use Rattle.pre_history.specs.Octets.{WholeOf, ToldActive}
use Rattle.pre_history.specs.Moments.{moments}
use Rattle.pre_history.specs.Placed.{number}
use Rattle.pre_history.proofs.Lists.{every_at}
use Rattle.pre_history.proofs.Chosen.{last_push}
use Rattle.pre_history.proofs.NatTests.{is_eq}
use Rattle.std.proofs.lemmas.Bool.Decides.{nat_tests}
use Rattle.pre_history.proofs.Free.{begins_before}
use Rattle.pre_history.proofs.Placing.{placed}
use Rattle.pre_history.proofs.Places.{later_tick}
use Rattle.pre_history.proofs.Stays.{told_same, whole_later}
use Rattle.pre_dissect.specs.declared.changes.Change.TheVariants as change
use Rattle.pre_dissect.specs.declared.newest.Newest.{Newest}
use Rattle.pre_dissect.specs.Fronts.{IsUpTo}
use Rattle.pre_dissect.specs.Sendings.{IsChange}
use Rattle.pre_dissect.specs.Watching.{HasTaken, IsNewestOrNone}
use Rattle.pre_dissect.proofs.Turning.{front_before, every_mid, active_alone}
use Rattle.pre_dissect.proofs.Growing.{grown, holds_same, none_added, stays, unselected, selected, wholes_untold, no_record}

is_by : (m n : ℕ) → m ≤ n → nat_le m n ≡ true
is_by m n le = grind (arith, nat_tests)

module _ (w : Scenario) (a : ℕ) (newest : Option Newest) (advert : List ℕ) (told : Option Taken) (base : List ℕ) (h : History) where
  -- an event that tells nothing of the arc
  pub nothing_taken : (active : Bool) (e : PlainEvent) → IsChange a e change.Nothing → HasTaken w a active newest advert told base h → HasTaken w a active newest advert told base (h ++ e ∷ [])
  nothing_taken active e none taken = λ fits front.
      let old = taken fits (front_before w h e front) in
      let wholes = wholes_untold w h a e none.2 in
      let same : Begins (h ++ e ∷ []) a ≡ Begins h a = unselected (begin_on a) h e none.0 in (
        record {
          active_is = old.0.active_is ∙ sym (told_same w h (e ∷ []) a w.script.until.0 (none.2 w.script.until.0, tt));
          newest_is = stays w h a e wholes newest advert none.0 old.0.newest_is;
        },
        holds_same w a told base h e (grown w h a e wholes (λ i d at. ap (λ xs. slice_get xs d.ord) same)) (none_added w h a e none.1) old.1,
      )

  -- the arc is active, or ceases to be
  pub active_taken : (active value : Bool) (t : ℕ) → HasTaken w a active newest advert told base h → HasTaken w a value newest advert told base (h ++ PlainEvent.active t a value ∷ [])
  active_taken active value t taken = λ fits front.
      let e = PlainEvent.active t a value in
      let old = taken fits (front_before w h e front) in
      let o = active_alone w h t a value front.legal_front in
      let early = begins_before (length w.net.arcs) o.moment a h (placed w o.moment h o.legal) in
      let wholes : (b : Begin) (i : ℕ) → slice_get (Begins h a) i ≡ Some b → WholeOf w (h ++ e ∷ []) b ≡ WholeOf w h b
      = λ b i at.
      let x = every_at (λ (b : Begin). (b.arc ≡ a) × (number (length w.net.arcs) b.tick (2 + 3 * length w.net.arcs + a) < o.moment)) (Begins h a) i b early at in
      let le : b.tick < t = later_tick (moments (length w.net.arcs)) b.tick t (1 + 2 * length w.net.arcs + a) (2 + 3 * length w.net.arcs + a) (omega arith) (omega (arith, x.1, o.at.1)) in
      whole_later w h (e ∷ []) b (omega (arith, le), tt) in
      let within : t ≤ w.script.until.0 = every_mid (IsUpTo w.script.until.0) h [] e front.within in
      let test : active_on a w.script.until.0 e ≡ Some value = rw (is_eq a a refl, is_by t w.script.until.0 within) refl in
      let said : ToldActive w (h ++ e ∷ []) a w.script.until.0 ≡ value
      = ap (λ (xs : List Bool). unwrap_or (last xs) false) (selected (active_on a w.script.until.0) h e value test)
      ∙ ap (λ o. unwrap_or o false) (last_push (filter_map (active_on a w.script.until.0) h) value) in (
        record { active_is = sym said; newest_is = stays w h a e wholes newest advert refl old.0.newest_is },
        holds_same w a told base h e (grown w h a e wholes (λ i d at. ap (λ xs. slice_get xs d.ord) (unselected (begin_on a) h e refl))) (none_added w h a e refl) old.1,
      )

  -- an end on an arc that no mPacket began on
  pub end_none_taken : (active : Bool) (r : Ended) → newest ≡ None → HasTaken w a active newest advert told base h → HasTaken w a active newest advert told base (h ++ PlainEvent.ended r ∷ [])
  end_none_taken active r none taken = λ fits front.
      let e = PlainEvent.ended r in
      let old = taken fits (front_before w h e front) in
      let wholes = wholes_untold w h a e (λ t. refl) in
      let empty : Begins h a ≡ [] = subst (λ o. IsNewestOrNone w h a o advert) none old.0.newest_is in
      let same : Begins (h ++ e ∷ []) a ≡ Begins h a = unselected (begin_on a) h e refl in (
        record {
          active_is = old.0.active_is ∙ sym (told_same w h (e ∷ []) a w.script.until.0 (refl, tt));
          newest_is = stays w h a e wholes newest advert refl old.0.newest_is;
        },
        holds_same w a told base h e (grown w h a e wholes (λ i d at. ap (λ xs. slice_get xs d.ord) same)) (no_record w h a e (same ∙ empty)) old.1,
      )
