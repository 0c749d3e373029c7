-- The parts of several arcs in a row.
use Rattle.std.proofs.Common.{ℕ, ◌≡◌, ◌≢◌, ◌==◌, ◌+◌, ◌*◌, ◌<◌, ◌≤◌, List, [], ◌∷◌, ◌++◌, length}
use Rattle.std.proofs.Common.{refl, sym, ◌∙◌, ap, inl, inr, arith, subst, Option, Some, append_assoc}
use Rattle.std.specs.Prelude.{slice_get, set}
use Rattle.std.specs.List.{AllByRecursion as Every}
use Rattle.std.proofs.lemmas.Bool.{cases_eq, cases_lt}
use Rattle.std.proofs.lemmas.List.{append-nil, length-append}
use Rattle.std.proofs.lemmas.List.Elements.{filter_map-append, filter-append}
use Rattle.std.proofs.Math.Nat.{add-zero}
use Rattle.std.proofs.lemmas.Option.{slice_get_within as within}
use Rattle.pre_history.specs.Scenario.{Scenario}
use Rattle.pre_history.specs.History.{History}
use Rattle.pre_history.specs.Moments.{Phase, place_of}
use Rattle.pre_history.specs.Placed.{HasPlace, number, moment_of}
use Rattle.pre_history.specs.Selected.{delivery_of, is_dropped}
use Rattle.pre_history.specs.Queries.{Deliveries}
use Rattle.pre_bridge.specs.Inside.{Entry, of_arc}
use Rattle.pre_links.specs.declared.partners.Partner.{Partner}
use Rattle.pre_links.specs.Standing.{AreOver}
use Rattle.pre_links.proofs.Early.{before, behind}
use Rattle.pre_sim.specs.declared.lanes.Lane.{Lane}
use Rattle.pre_sim.specs.Keeps.{Store, Keeps}
use Rattle.pre_sim.specs.Stages.{stage_at, link_turn}
use Rattle.pre_sim.specs.Parts.{Before, HearsOf, LegalAt, IsFront, LanePart, LaneFront, LanesPart, LanesFront, its_place}
use Rattle.pre_sim.specs.Stands.{LaneStands, LanesStand}
use Rattle.pre_sim.proofs.Lists.{count_by-append, set_found, set_elsewhere}
use Rattle.pre_sim.proofs.NumberTests.{is_eq, not_eq, adds}
use Rattle.pre_sim.proofs.Others.{stays}
use Rattle.pre_sim.proofs.StageTests.{is_set_up, is_settled, is_entered, is_over, same_stage}

-- the arc that the phase is of
abbrev pub IsOf : ℕ → Phase → Type 0
IsOf n Phase.sets = ⊥
IsOf n (Phase.ends a) = a ≡ n
IsOf n (Phase.arrivals a) = a ≡ n
IsOf n (Phase.expiries a) = a ≡ n
IsOf n Phase.entries = ⊥
IsOf n (Phase.starts a) = a ≡ n

-- Place k is none of arc b, nor that of the sets or entries.
record Apart (A k b : ℕ) : Type 0 where
  some : 1 ≤ k
  no_end : k ≢ 1 + b
  no_arrival : k ≢ 1 + A + b
  no_expiry : k ≢ 1 + 2 * A + b
  no_entry : k ≢ 1 + 3 * A
  no_start : k ≢ 2 + 3 * A + b

apart_of : (A n b : ℕ) (p : Phase) → HasPlace A (place_of A p) p → IsOf n p → b ≢ n → b < A → Apart A (place_of A p) b
apart_of A n b Phase.sets place own other b_lt = absurd own
apart_of A n b (Phase.ends a) (lt, place) own other b_lt =
    record {
      some = omega arith;
      no_end = λ e. other (omega (arith, e, own));
      no_arrival = omega (arith, lt);
      no_expiry = omega (arith, lt);
      no_entry = omega (arith, lt);
      no_start =
          omega (arith, lt);
    }
apart_of A n b (Phase.arrivals a) (lt, place) own other b_lt =
    record {
      some = omega arith;
      no_end = omega (arith, b_lt);
      no_arrival = λ e. other (omega (arith, e, own));
      no_expiry = omega (arith, lt);
      no_entry = omega (arith, lt);
      no_start =
          omega (arith, lt);
    }
apart_of A n b (Phase.expiries a) (lt, place) own other b_lt =
    record {
      some = omega arith;
      no_end = omega (arith, b_lt);
      no_arrival = omega (arith, b_lt);
      no_expiry = λ e. other (omega (arith, e, own));
      no_entry = omega (arith, lt);
      no_start =
          omega (arith, lt);
    }
apart_of A n b Phase.entries place own other b_lt = absurd own
apart_of A n b (Phase.starts a) (lt, place) own other b_lt =
    record {
      some = omega arith;
      no_end = omega (arith, b_lt);
      no_arrival = omega (arith, b_lt);
      no_expiry = omega (arith, b_lt);
      no_entry =
          omega arith;
      no_start = λ e. other (omega (arith, e, own));
    }

-- the ticks of which the link of an arc is settled have no arrivals any more
pub are_over : (w : Scenario) (t k b : ℕ) → b < length w.net.arcs → 1 ≤ k → AreOver w (link_turn (stage_at (length w.net.arcs) t k b)) (number (length w.net.arcs) t k)
are_over w t k b b_lt some = elim (cases_lt (1 + 2 * A + b) k) [
  | inr le ↦ subst (λ s. AreOver w (link_turn s) (number A t k)) (sym (is_set_up A t k b some le)) (λ i lt. before A i t k lt)
  | inl lt ↦ elim (cases_lt (1 + 3 * A) k) [
    | inr le ↦ subst (λ s. AreOver w (link_turn s) (number A t k)) (sym (is_settled A t k b lt le)) (later lt)
    | inl lt' ↦ elim (cases_lt (2 + 3 * A + b) k) [
      | inr le ↦ subst (λ s. AreOver w (link_turn s) (number A t k)) (sym (is_entered A t k b b_lt lt' le)) (later lt)
      | inl past ↦ subst (λ s. AreOver w (link_turn s) (number A t k)) (sym (is_over A t k b b_lt past)) (later lt)
    ]
  ]
]
  where
    A : ℕ
    A = length w.net.arcs

    later : 1 + 2 * A + b < k → AreOver w (t + 1) (number A t k)
    later lt i i_lt = behind A i t k (omega (arith, lt)) i_lt

-- ---- one arc after another

of_arc-append : (a : ℕ) (xs ys : List Entry) → of_arc a (xs ++ ys) ≡ of_arc a xs ++ of_arc a ys
of_arc-append a xs ys = filter-append (λ (e : Entry). e.arc == a) xs ys

all_of : (n : ℕ) (ys : List Entry) → Every (λ (e : Entry). e.arc ≡ n) ys → of_arc n ys ≡ ys
all_of n [] all = refl
all_of n (y ∷ ys) (here, more) = rw (is_eq y.arc n here) (ap (λ zs. y ∷ zs) (all_of n ys more))

none_of : (a n : ℕ) → a ≢ n → (ys : List Entry) → Every (λ (e : Entry). e.arc ≡ n) ys → of_arc a ys ≡ []
none_of a n other [] all = refl
none_of a n other (y ∷ ys) (here, more) = rw (not_eq y.arc a (λ e. other (sym e ∙ here))) (none_of a n other ys more)

module _ (w : Scenario) (t k n m d : ℕ) (p : Phase) (store store' store'' : Store) (old mid : List Lane) (partner : Option Partner) (lane new : Lane) (here : slice_get mid n ≡ Some lane)
    (few : length mid ≤ length w.net.arcs) (p_at : its_place w p ≡ k + n) (place : HasPlace (length w.net.arcs) (its_place w p) p) (own : IsOf n p)
    (more next : List Entry) (es fs : History) (so_far : LanesPart w t k n m store store' old mid more es)
    (hears : (h : History) (entries : List Entry) → LanesStand w h t (k + n) mid entries → HearsOf w h n partner) where
  abbrev A : ℕ
  A = length w.net.arcs

  -- before the part of the arc
  ready : (h : History) (entries : List Entry) → LegalAt w t (k + n) h → LanesStand w h t (k + n) mid entries → Before w t p n partner lane h (of_arc n entries)
  ready h entries legal stand = record {
    legal = subst (λ j. LegalAt w t j h) (sym p_at) legal;
    hears = hears h entries stand;
    stands = subst (λ j. LaneStands w h n (stage_at A t j n) lane (of_arc n entries)) (sym p_at) (stand n lane here);
  }

  pub lane_more : LanePart w t p n partner lane d store' store'' new next fs → LanesPart w t k (n + 1) (m + d) store store'' old (set mid n new) (more ++ next) (es ++ fs)
  lane_more part = record {
    deliveries = ap length (filter_map-append delivery_of es fs) ∙ (length-append (Deliveries es) (Deliveries fs) ∙ adds so_far.deliveries part.deliveries);
    drops = count_by-append is_dropped es fs ∙ adds so_far.drops part.drops;
    legal = λ h entries legal stand.
        let first = so_far.legal h entries legal stand in
        let inside = entries ++ more in
        let was = ready (h ++ es) inside first.0 first.1 in
        let now = part.goes (h ++ es) (of_arc n inside) was in
        let next_place : its_place w p + 1 ≡ k + (n + 1) = omega (arith, p_at) in
        let legal' : LegalAt w t (k + (n + 1)) ((h ++ es) ++ fs) = subst (λ j. LegalAt w t j ((h ++ es) ++ fs)) next_place now.legal in
        let mine : of_arc n inside ++ next ≡ of_arc n (inside ++ next) = ap (λ xs. of_arc n inside ++ xs) (sym (all_of n next part.here)) ∙ sym (of_arc-append n inside next) in
        let its : LaneStands w ((h ++ es) ++ fs) n (stage_at A t (k + (n + 1)) n) new (of_arc n (inside ++ next)) =
        subst (λ j. LaneStands w ((h ++ es) ++ fs) n (stage_at A t j n) new (of_arc n (inside ++ next))) next_place
        (subst (LaneStands w ((h ++ es) ++ fs) n (stage_at A t (its_place w p + 1) n) new) mine now.stands) in
        let each : LanesStand w ((h ++ es) ++ fs) t (k + (n + 1)) (set mid n new) (inside ++ next) = λ a l at. elim (cases_eq a n) [
          | inl is ↦ subst (λ (x : Lane). LaneStands w ((h ++ es) ++ fs) a (stage_at A t (k + (n + 1)) a) x (of_arc a (inside ++ next)))
              (set_found mid n new l (subst (λ j. slice_get (set mid n new) j ≡ Some l) is at))
              (subst (λ j. LaneStands w ((h ++ es) ++ fs) j (stage_at A t (k + (n + 1)) j) new (of_arc j (inside ++ next))) (sym is) its)
          | inr other ↦
              let there : slice_get mid a ≡ Some l = sym (set_elsewhere mid n a new other) ∙ at in
              let a_lt : a < A = omega (arith, within mid a l there, few) in
              let others : of_arc a inside ≡ of_arc a (inside ++ next) =
              sym (of_arc-append a inside next ∙ (ap (λ xs. of_arc a inside ++ xs) (none_of a n other next part.here) ∙ append-nil (of_arc a inside))) in
              let off = apart_of A n a p place own other a_lt in
              let stage : stage_at A t (k + n) a ≡ stage_at A t (k + (n + 1)) a =
              ap (λ j. stage_at A t j a) (sym p_at) ∙ (sym (same_stage A t (its_place w p) a off.some off.no_expiry off.no_entry off.no_start) ∙ ap (λ j. stage_at A t j a) next_place) in
              let over : AreOver w (link_turn (stage_at A t (k + n) a)) (moment_of w t p) =
              subst (λ j. AreOver w (link_turn (stage_at A t j a)) (moment_of w t p)) p_at (are_over w t (its_place w p) a a_lt off.some) in
              subst (LaneStands w ((h ++ es) ++ fs) a (stage_at A t (k + (n + 1)) a) l) others
              (subst (λ s. LaneStands w ((h ++ es) ++ fs) a s l (of_arc a inside)) stage
              (stays w t p (h ++ es) fs a a_lt place was.legal.0 now.happens off.no_end off.no_arrival off.no_expiry off.no_entry off.no_start (stage_at A t (k + n) a) l
              (of_arc a inside) over (first.1 a l there)))
        ] in
        subst (λ g. LegalAt w t (k + (n + 1)) g × LanesStand w g t (k + (n + 1)) (set mid n new) (entries ++ (more ++ next))) (append_assoc h es fs)
        (subst (λ xs. LegalAt w t (k + (n + 1)) ((h ++ es) ++ fs) × LanesStand w ((h ++ es) ++ fs) t (k + (n + 1)) (set mid n new) xs) (append_assoc entries more next) (legal', each));
    keeps = λ entries kept. subst (λ xs. Keeps w store'' (set mid n new) xs []) (append_assoc entries more next) (part.keeps mid (entries ++ more) here (so_far.keeps entries kept));
  }

  pub front_more : LaneFront w t p n partner lane fs → LanesFront w t k old (es ++ fs)
  front_more front h entries legal stand =
      let first = so_far.legal h entries legal stand in
      subst (IsFront w) (append_assoc h es fs) (front (h ++ es) (of_arc n (entries ++ more)) (ready (h ++ es) (entries ++ more) first.0 first.1))

-- nothing yet
pub lanes_begin : (w : Scenario) (t k : ℕ) (store : Store) (lanes : List Lane) → LanesPart w t k 0 0 store store lanes lanes [] []
lanes_begin w t k store lanes = record {
  deliveries = refl;
  drops = refl;
  legal = λ h entries legal stand.
      subst (λ xs. LegalAt w t (k + 0) (h ++ []) × LanesStand w (h ++ []) t (k + 0) lanes xs) (sym (append-nil entries))
      (subst (λ g. LegalAt w t (k + 0) g × LanesStand w g t (k + 0) lanes entries) (sym (append-nil h))
      (subst (λ j. LegalAt w t j h × LanesStand w h t j lanes entries) (sym (add-zero k)) (legal, stand)));
  keeps = λ entries kept. subst (λ xs. Keeps w store lanes xs []) (sym (append-nil entries)) kept;
}
