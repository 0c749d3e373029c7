-- What one more event of a history adds to the records of an arc, and what it leaves as it was.
use Rattle.std.proofs.Common.{ℕ, ◌≡◌, ◌-◌, ◌+◌, List, [], ◌∷◌, ◌++◌, length, refl, sym, ◌∙◌, ap, subst, Option, Some, None, filter_map, take, drop}
use Rattle.std.specs.Prelude.{if◌then◌else◌, slice_get, option_map, IfSome}
use Rattle.std.specs.List.{cons_option}
use Rattle.std.proofs.lemmas.List.{append-nil}
use Rattle.std.proofs.lemmas.List.Elements.{filter_map-append}
use Rattle.pre_base.specs.Sinks.{Taken}
use Rattle.pre_mpacket.specs.Spelling.{head_of}
use Rattle.pre_pcap.specs.Written.{Stamped}
use Rattle.pre_history.specs.Scenario.{Scenario, arc}
use Rattle.pre_history.specs.History.{Begin, Ended, PlainEvent, History}
use Rattle.pre_history.specs.Selected.{begin_on, ended_on, active_on}
use Rattle.pre_history.specs.Queries.{Begins, Ends}
use Rattle.pre_history.specs.Octets.{WholeOf, Damaged, is_lost}
use Rattle.pre_history.proofs.Lists.{every_at, every_placed, none_selected, no_append}
use Rattle.pre_history.proofs.Chosen.{selected_like}
use Rattle.pre_history.proofs.Placing.{begins_arc}
use Rattle.pre_history.proofs.Stays.{told_same, whole_told}
use Rattle.pre_dissect.specs.declared.newest.Newest.{Newest}
use Rattle.pre_dissect.specs.Captured.{octets_of, recorded, recorded_of, Recorded, Added}
use Rattle.pre_dissect.specs.Watching.{IsNewest, IsNewestOrNone, HoldsRecords}

pub one_selected : {X Y : Type 0} (sel : X → Option Y) (x : X) (y : Y) → sel x ≡ Some y → filter_map sel (x ∷ []) ≡ y ∷ []
one_selected sel x y is = ap (λ o. cons_option o []) is

pub one_unselected : {X Y : Type 0} (sel : X → Option Y) (x : X) → sel x ≡ None → filter_map sel (x ∷ []) ≡ []
one_unselected sel x is = ap (λ o. cons_option o []) is

pub unselected : {X Y : Type 0} (sel : X → Option Y) (xs : List X) (x : X) → sel x ≡ None → filter_map sel (xs ++ x ∷ []) ≡ filter_map sel xs
unselected sel xs x none = filter_map-append sel xs (x ∷ []) ∙ no_append (filter_map sel xs) (filter_map sel (x ∷ [])) (one_unselected sel x none)

pub selected : {X Y : Type 0} (sel : X → Option Y) (xs : List X) (x : X) (y : Y) → sel x ≡ Some y → filter_map sel (xs ++ x ∷ []) ≡ filter_map sel xs ++ y ∷ []
selected sel xs x y is = filter_map-append sel xs (x ∷ []) ∙ ap (λ l. filter_map sel xs ++ l) (one_selected sel x y is)

-- what each mPacket that began carries is the same
pub Wholes : Scenario → (g h : History) → ℕ → Type 0
Wholes w g h a = (b : Begin) → (i : ℕ) → slice_get (Begins h a) i ≡ Some b → WholeOf w g b ≡ WholeOf w h b

module _ (w : Scenario) (h : History) (a : ℕ) (e : PlainEvent) where
  pub begin_on_arc : (i : ℕ) (b : Begin) → slice_get (Begins h a) i ≡ Some b → b.arc ≡ a
  begin_on_arc i b at = every_at (λ (b : Begin). b.arc ≡ a) (Begins h a) i b (begins_arc h a) at

  -- an event that tells nothing of whether the arc is active
  pub wholes_untold : ((t : ℕ) → active_on a t e ≡ None) → (b : Begin) → (i : ℕ) → slice_get (Begins h a) i ≡ Some b → WholeOf w (h ++ e ∷ []) b ≡ WholeOf w h b
  wholes_untold none b i at =
      whole_told w h (e ∷ []) b (told_same w h (e ∷ []) b.arc b.tick (subst (λ x. active_on x b.tick e ≡ None) (sym (begin_on_arc i b at)) (none b.tick), tt))

  module _ (wholes : (b : Begin) → (i : ℕ) → slice_get (Begins h a) i ≡ Some b → WholeOf w (h ++ e ∷ []) b ≡ WholeOf w h b) where
    record_same : (d : Ended) → slice_get (Begins (h ++ e ∷ []) a) d.ord ≡ slice_get (Begins h a) d.ord → recorded w (h ++ e ∷ []) a d ≡ recorded w h a d
    record_same d same = ap (λ (o : Option Begin). recorded_of w (h ++ e ∷ []) a o d) same ∙ go (slice_get (Begins h a) d.ord) refl
      where
        go : (o : Option Begin) → slice_get (Begins h a) d.ord ≡ o → recorded_of w (h ++ e ∷ []) a o d ≡ recorded_of w h a o d
        go None at = refl
        go (Some b) at =
            ap (λ ws. option_map (λ octets. record { tick = d.tick + (arc w a).delay; octets = octets })
            (if is_lost w b then None else Some (Damaged w b (head_of b.kind ++ take (d.size - 4) (drop b.from ws) ++ d.check)))) (wholes b d.ord at)

    -- the records are those before and what is added
    pub grown : ((i : ℕ) (d : Ended) → slice_get (Ends h a) i ≡ Some d → slice_get (Begins (h ++ e ∷ []) a) d.ord ≡ slice_get (Begins h a) d.ord)
        → Recorded w (h ++ e ∷ []) a ≡ Recorded w h a ++ Added w h a e
    grown begun =
        ap (filter_map (recorded w (h ++ e ∷ []) a)) (filter_map-append (ended_on a) h (e ∷ []))
        ∙ (filter_map-append (recorded w (h ++ e ∷ []) a) (Ends h a) (Ends (e ∷ []) a)
        ∙ ap (λ xs. xs ++ Added w h a e) (selected_like (recorded w (h ++ e ∷ []) a) (recorded w h a) (Ends h a)
        (every_placed (λ d. recorded w (h ++ e ∷ []) a d ≡ recorded w h a d) (Ends h a) (λ i d at. record_same d (begun i d at)))))

    pub newest_stays : (n : Newest) (advert : List ℕ) → begin_on a e ≡ None → IsNewest w h a n advert → IsNewest w (h ++ e ∷ []) a n advert
    newest_stays n advert none is = let same : Begins (h ++ e ∷ []) a ≡ Begins h a = unselected (begin_on a) h e none in record {
      begin = is.begin;
      place = is.place;
      begun = ap (λ xs. slice_get xs is.place) same ∙ is.begun;
      newest = ap length same ∙ is.newest;
      ord = is.ord;
      kind = is.kind;
      counts = is.counts;
      carries = is.carries;
      from = is.from;
      advert_is = λ x. is.advert_is x ∙ sym (wholes is.begin is.place is.begun);
    }

    pub stays : (o : Option Newest) (advert : List ℕ) → begin_on a e ≡ None → IsNewestOrNone w h a o advert → IsNewestOrNone w (h ++ e ∷ []) a o advert
    stays None advert none is = unselected (begin_on a) h e none ∙ is
    stays (Some n) advert none is = newest_stays n advert none is

-- octets of records that are no more
pub holds_same : (w : Scenario) (a : ℕ) (told : Option Taken) (base : List ℕ) (h : History) (e : PlainEvent) → Recorded w (h ++ e ∷ []) a ≡ Recorded w h a ++ Added w h a e → Added w h a e ≡ []
    → HoldsRecords w a told base h → HoldsRecords w a told base (h ++ e ∷ [])
holds_same w a told base h e grown none holds =
    subst (λ (xs : List Stamped). IfSome told (λ t. t.octets ≡ base ++ octets_of xs)) (sym (grown ∙ (ap (λ xs. Recorded w h a ++ xs) none ∙ append-nil (Recorded w h a)))) holds

-- no end on the arc adds no record
pub none_added : (w : Scenario) (h : History) (a : ℕ) (e : PlainEvent) → ended_on a e ≡ None → Added w h a e ≡ []
none_added w h a e none = ap (filter_map (recorded w (h ++ e ∷ []) a)) (one_unselected (ended_on a) e none)

-- where none has begun, none is recorded
pub no_record : (w : Scenario) (h : History) (a : ℕ) (e : PlainEvent) → Begins (h ++ e ∷ []) a ≡ [] → Added w h a e ≡ []
no_record w h a e none =
    none_selected (recorded w (h ++ e ∷ []) a) (Ends (e ∷ []) a)
    (every_placed (λ d. recorded w (h ++ e ∷ []) a d ≡ None) (Ends (e ∷ []) a) (λ i d at. ap (λ (xs : List Begin). recorded_of w (h ++ e ∷ []) a (slice_get xs d.ord) d) none))
