-- The frames inside the bridge at an arc's end: which of them come out at a tick, and which are left.
use Rattle.std.proofs.Common.{ℕ, zero, suc, ◌≡◌, ◌≢◌, ◌⊎◌, ◌==◌, ◌&&◌, ◌+◌, ◌<◌, ◌≤◌, not, filter, Bool}
use Rattle.std.proofs.Common.{true, false, List, [], ◌∷◌, ◌++◌, length, take, drop, refl, sym}
use Rattle.std.proofs.Common.{◌∙◌, ap, inl, inr, arith, subst, Option, Some, None, map, filter_map}
use Rattle.std.specs.Prelude.{slice_get, if◌then◌else◌, option_map, option_and_then}
use Rattle.std.specs.List.{cons_option, AllByRecursion as Every}
use Rattle.std.proofs.lemmas.Bool.{cases_eq}
use Rattle.std.proofs.lemmas.List.{take-append-drop}
use Rattle.std.proofs.lemmas.List.Elements.{filter_map-append}
use Rattle.pre_history.specs.Scenario.{Scenario, latency}
use Rattle.pre_history.specs.History.{History, Begin, Arrive}
use Rattle.pre_history.specs.Selected.{frame_in, is_frame_result}
use Rattle.pre_history.specs.Queries.{Begins, Ends, Arrivals}
use Rattle.pre_history.specs.Comings.{Coming, frame_at, next_arc, relayed}
use Rattle.pre_history.specs.Legal.{LegalUpTo}
use Rattle.pre_history.proofs.InOrder.{steady}
use Rattle.pre_history.proofs.Rising.{ends_rise}
use Rattle.pre_bridge.specs.Inside.{Entry, is_due}
use Rattle.pre_sim.specs.Stands.{Onward, onward, passes, AreInside}
use Rattle.pre_sim.specs.Sends.{coming_of}
use Rattle.pre_sim.proofs.Lists.{there, within, every-append, every_weaker, every_selected, drop_one}
use Rattle.pre_sim.proofs.NumberTests.{is_eq, not_eq, no_le, is_le}

-- ---- each arrives later than those before it

abbrev pub AreRising : List Arrive → Type 0
AreRising [] = Unit {0}
AreRising (x ∷ xs) = Every (λ (y : Arrive). x.tick < y.tick) xs × AreRising xs

rising_from : (xs : List Arrive) → ((i k : ℕ) (x y : Arrive) → slice_get xs i ≡ Some x → slice_get xs (suc (i + k)) ≡ Some y → x.tick < y.tick) → AreRising xs
rising_from [] apart = tt
rising_from (x ∷ xs) apart = (
  every_all xs (λ k y at. apart 0 k x y refl (subst (λ n. slice_get xs n ≡ Some y) (plus_zero k) at)),
  rising_from xs (λ i k y z at at'. apart (suc i) k y z at (subst (λ n. slice_get xs n ≡ Some z) (next i k) at')),
)
  where
    plus_zero : (k : ℕ) → k ≡ 0 + k
    plus_zero k = omega arith

    next : (i k : ℕ) → suc (i + k) ≡ suc i + k
    next i k = omega arith

    every_all : (ys : List Arrive) → ((k : ℕ) (y : Arrive) → slice_get ys k ≡ Some y → x.tick < y.tick) → Every (λ (y : Arrive). x.tick < y.tick) ys
    every_all [] all = tt
    every_all (y ∷ ys) all = (all 0 y refl, every_all ys (λ k z at. all (suc k) z at))

pub arrivals_rise : (w : Scenario) (n : ℕ) (h : History) (a : ℕ) → a < length w.net.arcs → LegalUpTo w n h → AreRising (Arrivals h a)
arrivals_rise w n h a a_lt legal = rising_from (Arrivals h a) (λ i k x y at at'.
    let order = (steady w n h a a_lt legal).ordered in
    let x_in : i < length (Arrivals h a) = within (Arrivals h a) i x at in
    let y_in : suc (i + k) < length (Arrivals h a) = within (Arrivals h a) (suc (i + k)) y at' in
    let d = there (Ends h a) i (omega (arith, x_in, order.arrivals_ended)) in
    let e = there (Ends h a) (suc (i + k)) (omega (arith, y_in, order.arrivals_ended)) in
    let apart : d.0.tick < e.0.tick = ends_rise w n h legal a a_lt i (suc (i + k)) d.0 e.0 (omega arith) d.1 e.1 in
    omega (arith, apart, order.travels i d.0 x d.1 at, order.travels (suc (i + k)) e.0 y e.1 at'))

rising_drop : (n : ℕ) (xs : List Arrive) → AreRising xs → AreRising (drop n xs)
rising_drop zero xs rise = rise
rising_drop (suc n) [] rise = tt
rising_drop (suc n) (x ∷ xs) (first, rise) = rising_drop n xs rise

-- ---- when they are due

onward_due : (w : Scenario) (a : ℕ) (bs : List Begin) (x : Arrive) (o : Onward) → onward w a bs x ≡ Some o → o.due ≡ x.tick + latency w a
onward_due w a bs x o is = go (is_frame_result x.result) (option_and_then (λ b. frame_in b.what) (slice_get bs x.ord)) is
  where
    last_step : (f : ℕ) (n : Option ℕ) → option_map (λ b. record { due = x.tick + latency w a; arc = b; frame = f }) n ≡ Some o → o.due ≡ x.tick + latency w a
    last_step f None is = absurd (cc is)
    last_step f (Some b) is = let same : record { due = x.tick + latency w a; arc = b; frame = f } ≡ o = cc is in ap (λ (z : Onward). z.due) (sym same)

    go : (b : Bool) (f : Option ℕ)
        → (if b then option_and_then {U = Onward} (λ f. option_map (λ b. record { due = x.tick + latency w a; arc = b; frame = f }) (next_arc w a f)) f else None) ≡ Some o
        → o.due ≡ x.tick + latency w a
    go false f is = absurd (cc is)
    go true None is = absurd (cc is)
    go true (Some f) is = last_step f (next_arc w a f) is

-- those of later arrivals are due later
later_dues : (w : Scenario) (a t : ℕ) (bs : List Begin) (xs : List Arrive) (items : List Entry) → Every (λ (x : Arrive). t < x.tick + latency w a) xs
    → filter_map (onward w a bs) xs ≡ map passes items → Every (λ (p : Entry). t < p.due) items
later_dues w a t bs xs items late are =
    from_map items (subst (Every (λ (o : Onward). t < o.due)) are (every_selected (onward w a bs) (λ (x : Arrive). t < x.tick + latency w a) (λ (o : Onward). t < o.due)
    (λ x o lt is. let due = onward_due w a bs x o is in omega (arith, lt, due)) xs late))
  where
    from_map : (ps : List Entry) → Every (λ (o : Onward). t < o.due) (map passes ps) → Every (λ (p : Entry). t < p.due) ps
    from_map [] all = tt
    from_map (p ∷ ps) (here, more) = (here, from_map ps more)

-- those that aren't due
abbrev pub left_of : ℕ → List Entry → List Entry
left_of t items = filter (λ p. not (is_due t p)) items

pub none_without : (t : ℕ) (items : List Entry) → Every (λ (p : Entry). t < p.due) items → left_of t items ≡ items
none_without t [] late = refl
none_without t (p ∷ ps) (here, more) = rw (no_le p.due t here) (ap (λ xs. p ∷ xs) (none_without t ps more))

pub none_due : (t : ℕ) (items : List Entry) → Every (λ (p : Entry). t < p.due) items → filter (is_due t) items ≡ []
none_due t [] late = refl
none_due t (p ∷ ps) (here, more) = rw (no_le p.due t here) (none_due t ps more)

-- the first of these is an arrival whose latency is over at the tick, or none is
pub record FirstDue (w : Scenario) (a t : ℕ) (bs : List Begin) (xs : List Arrive) (items : List Entry) (x : Arrive) (rest : List Arrive) : Type 0 where
  pub split : xs ≡ x ∷ rest
  pub due : x.tick + latency w a ≡ t
  pub behind : Every (λ (y : Arrive). t < y.tick + latency w a) rest

first_due : (w : Scenario) (a t : ℕ) (bs : List Begin) (xs : List Arrive) (items : List Entry) → AreRising xs → Every (λ (x : Arrive). t ≤ x.tick + latency w a) xs
    → ((x : Arrive) × (rest : List Arrive) × FirstDue w a t bs xs items x rest) ⊎ Every (λ (x : Arrive). t < x.tick + latency w a) xs
first_due w a t bs [] items rise late = inr tt
first_due w a t bs (x ∷ xs) items (first, rise) (here, more) = elim (cases_eq (x.tick + latency w a) t) [
  | inl is ↦ inl (x, xs, record { split = refl; due = is; behind = every_weaker (λ (y : Arrive). x.tick < y.tick) (λ (y : Arrive). t < y.tick + latency w a) (λ y lt. omega (arith, lt, is)) xs first })
  | inr other ↦ inr (omega (arith, here, other), every_weaker (λ (y : Arrive). x.tick < y.tick) (λ (y : Arrive). t < y.tick + latency w a) (λ y lt. omega (arith, lt, here)) xs first)
]

-- ---- the end of the tick

-- the first one is gone, where its arrival goes on
one_gone : (w : Scenario) (a t : ℕ) (bs : List Begin) (x : Arrive) (rest : List Arrive) (items : List Entry) → x.tick + latency w a ≡ t → Every (λ (y : Arrive). t < y.tick + latency w a) rest
    → filter_map (onward w a bs) (x ∷ rest) ≡ map passes items → filter_map (onward w a bs) rest ≡ map passes (left_of t items)
one_gone w a t bs x rest items due late are = go (onward w a bs x) refl are
  where
    go : (o : Option Onward) → onward w a bs x ≡ o → cons_option o (filter_map (onward w a bs) rest) ≡ map passes items → filter_map (onward w a bs) rest ≡ map passes (left_of t items)
    go None is are = are ∙ ap (map passes) (sym (none_without t items (later_dues w a t bs rest items late are)))
    go (Some o) is are = taken items are
      where
        taken : (ps : List Entry) → o ∷ filter_map (onward w a bs) rest ≡ map passes ps → filter_map (onward w a bs) rest ≡ map passes (left_of t ps)
        taken [] are = absurd (cc are)
        taken (p ∷ ps) are =
            let first : o ≡ passes p = cc are in
            let now : p.due ≡ t = ap (λ (z : Onward). z.due) (sym first) ∙ (onward_due w a bs x o is ∙ due) in
            let others : filter_map (onward w a bs) rest ≡ map passes ps = cc are in
            rw (is_le p.due t (omega (arith, now))) (others ∙ ap (map passes) (sym (none_without t ps (later_dues w a t bs rest ps late others))))

pub settled_inside : (w : Scenario) (a t : ℕ) (bs : List Begin) (xs : List Arrive) (items : List Entry) → AreRising xs → AreInside w a bs xs t items → AreInside w a bs xs (t + 1) (left_of t items)
settled_inside w a t bs xs items rise is = elim (first_due w a t bs (drop is.gone xs) items (rising_drop is.gone xs rise) is.later) [
  | inl (x, rest, f) ↦
      let one = drop_one is.gone xs x rest f.split in
      record {
        gone = is.gone + 1;
        few = one.2;
        past = subst (Every (λ (y : Arrive). y.tick + latency w a < t + 1)) (sym one.1)
            (every-append (λ (y : Arrive). y.tick + latency w a < t + 1) (take is.gone xs) (x ∷ [])
            (every_weaker (λ (y : Arrive). y.tick + latency w a < t) (λ (y : Arrive). y.tick + latency w a < t + 1) (λ y lt. omega (arith, lt)) (take is.gone xs) is.past)
            (omega (arith, f.due), tt));
        later = subst (Every (λ (y : Arrive). t + 1 ≤ y.tick + latency w a)) (sym one.0)
            (every_weaker (λ (y : Arrive). t < y.tick + latency w a) (λ (y : Arrive). t + 1 ≤ y.tick + latency w a) (λ y lt. omega (arith, lt)) rest f.behind);
        are = ap (filter_map (onward w a bs)) one.0 ∙ one_gone w a t bs x rest items f.due f.behind (ap (filter_map (onward w a bs)) (sym f.split) ∙ is.are);
      }
  | inr late ↦ record {
    gone = is.gone;
    few = is.few;
    past = every_weaker (λ (y : Arrive). y.tick + latency w a < t) (λ (y : Arrive). y.tick + latency w a < t + 1) (λ y lt. omega (arith, lt)) (take is.gone xs) is.past;
    later = every_weaker (λ (y : Arrive). t < y.tick + latency w a) (λ (y : Arrive). t + 1 ≤ y.tick + latency w a) (λ y lt. omega (arith, lt)) (drop is.gone xs) late;
    are = is.are ∙ ap (map passes) (sym (none_without t items (later_dues w a t bs (drop is.gone xs) items late is.are)));
  }
]

-- ---- which of them come to rings

abbrev coming : Onward → Coming
coming o = record { arc = o.arc; frame = o.frame }

relayed_now : (w : Scenario) (h : History) (t a : ℕ) (x : Arrive) → x.tick + latency w a ≡ t → relayed w h t a x ≡ option_map coming (onward w a (Begins h a) x)
relayed_now w h t a x due = go (is_frame_result x.result) (x.tick + latency w a == t) (is_eq (x.tick + latency w a) t due) (frame_at h a x.ord)
  where
    last_step : (f : ℕ) (n : Option ℕ) → option_map (λ b. record { arc = b; frame = f }) n ≡ option_map coming (option_map (λ b. record { due = x.tick + latency w a; arc = b; frame = f }) n)
    last_step f None = refl
    last_step f (Some b) = refl

    go : (b c : Bool) → c ≡ true → (o : Option ℕ) → (if b && c then option_and_then {U = Coming} (λ f. option_map (λ b. record { arc = b; frame = f }) (next_arc w a f)) o else None)
        ≡ option_map coming (if b then option_and_then {U = Onward} (λ f. option_map (λ b. record { due = x.tick + latency w a; arc = b; frame = f }) (next_arc w a f)) o else None)
    go false c on o = refl
    go true c on None = rw on refl
    go true c on (Some f) = rw on (last_step f (next_arc w a f))

relayed_other : (w : Scenario) (h : History) (t a : ℕ) (x : Arrive) → x.tick + latency w a ≢ t → relayed w h t a x ≡ None
relayed_other w h t a x other = go (is_frame_result x.result) (x.tick + latency w a == t) (not_eq (x.tick + latency w a) t other) (frame_at h a x.ord)
  where
    go : (b c : Bool) → c ≡ false → (o : Option ℕ) → (if b && c then option_and_then {U = Coming} (λ f. option_map (λ b. record { arc = b; frame = f }) (next_arc w a f)) o else None) ≡ None
    go false c off o = refl
    go true c off o = rw off refl

none_relayed : (w : Scenario) (h : History) (t a : ℕ) (xs : List Arrive) → Every (λ (x : Arrive). x.tick + latency w a ≢ t) xs → filter_map (relayed w h t a) xs ≡ []
none_relayed w h t a [] other = refl
none_relayed w h t a (x ∷ xs) (here, more) = rw (relayed_other w h t a x here) (none_relayed w h t a xs more)

one_relayed : (w : Scenario) (h : History) (t a : ℕ) (x : Arrive) (rest : List Arrive) (items : List Entry) → x.tick + latency w a ≡ t → Every (λ (y : Arrive). t < y.tick + latency w a) rest
    → filter_map (onward w a (Begins h a)) (x ∷ rest) ≡ map passes items → filter_map (relayed w h t a) (x ∷ rest) ≡ map coming_of (filter (is_due t) items)
one_relayed w h t a x rest items due late are =
    let none = none_relayed w h t a rest (every_weaker (λ (y : Arrive). t < y.tick + latency w a) (λ (y : Arrive). y.tick + latency w a ≢ t) (λ y lt e. omega (arith, lt, e)) rest late) in
    (λ i. cons_option (relayed_now w h t a x due i) (none i)) ∙ go (onward w a (Begins h a) x) refl are
  where
    go : (o : Option Onward) → onward w a (Begins h a) x ≡ o → cons_option o (filter_map (onward w a (Begins h a)) rest) ≡ map passes items
        → cons_option (option_map coming o) [] ≡ map coming_of (filter (is_due t) items)
    go None is are = sym (ap (map coming_of) (none_due t items (later_dues w a t (Begins h a) rest items late are)))
    go (Some o) is are = taken items are
      where
        taken : (ps : List Entry) → o ∷ filter_map (onward w a (Begins h a)) rest ≡ map passes ps → coming o ∷ [] ≡ map coming_of (filter (is_due t) ps)
        taken [] are = absurd (cc are)
        taken (p ∷ ps) are =
            let first : o ≡ passes p = cc are in
            let now : p.due ≡ t = ap (λ (z : Onward). z.due) (sym first) ∙ (onward_due w a (Begins h a) x o is ∙ due) in
            let others : filter_map (onward w a (Begins h a)) rest ≡ map passes ps = cc are in
            let none : filter (is_due t) ps ≡ [] = none_due t ps (later_dues w a t (Begins h a) rest ps late others) in
            rw (is_le p.due t (omega (arith, now))) (ap (λ z. coming z ∷ []) first ∙ ap (λ xs. coming_of p ∷ map coming_of xs) (sym none))

-- the frames that an arc's bridge hands on at the tick
pub relayed_are : (w : Scenario) (h : History) (t a : ℕ) (items : List Entry) → AreRising (Arrivals h a) → AreInside w a (Begins h a) (Arrivals h a) t items
    → filter_map (relayed w h t a) (Arrivals h a) ≡ map coming_of (filter (is_due t) items)
relayed_are w h t a items rise is =
    let before = none_relayed w h t a (take is.gone (Arrivals h a)) (every_weaker (λ (y : Arrive). y.tick + latency w a < t) (λ (y : Arrive). y.tick + latency w a ≢ t)
    (λ y lt e. omega (arith, lt, e)) (take is.gone (Arrivals h a)) is.past) in
    ap (filter_map (relayed w h t a)) (sym (take-append-drop is.gone (Arrivals h a)))
    ∙ (filter_map-append (relayed w h t a) (take is.gone (Arrivals h a)) (drop is.gone (Arrivals h a))
    ∙ (ap (λ cs. cs ++ filter_map (relayed w h t a) (drop is.gone (Arrivals h a))) before
    ∙ elim (first_due w a t (Begins h a) (drop is.gone (Arrivals h a)) items (rising_drop is.gone (Arrivals h a) rise) is.later) [
      | inl (x, rest, f) ↦ ap (filter_map (relayed w h t a)) f.split ∙ one_relayed w h t a x rest items f.due f.behind (ap (filter_map (onward w a (Begins h a))) (sym f.split) ∙ is.are)
      | inr late ↦
          none_relayed w h t a (drop is.gone (Arrivals h a)) (every_weaker (λ (y : Arrive). t < y.tick + latency w a) (λ (y : Arrive). y.tick + latency w a ≢ t) (λ y lt e. omega (arith, lt, e))
          (drop is.gone (Arrivals h a)) late)
          ∙ sym (ap (map coming_of) (none_due t items (later_dues w a t (Begins h a) (drop is.gone (Arrivals h a)) items late is.are)))
    ]))

-- at most one of them is due
pub few_due : (w : Scenario) (h : History) (t a : ℕ) (items : List Entry) → AreRising (Arrivals h a) → AreInside w a (Begins h a) (Arrivals h a) t items → length (filter (is_due t) items) ≤ 1
few_due w h t a items rise is = elim (first_due w a t (Begins h a) (drop is.gone (Arrivals h a)) items (rising_drop is.gone (Arrivals h a) rise) is.later) [
  | inl (x, rest, f) ↦ one x rest f items (ap (filter_map (onward w a (Begins h a))) (sym f.split) ∙ is.are)
  | inr late ↦ let none = ap length (none_due t items (later_dues w a t (Begins h a) (drop is.gone (Arrivals h a)) items late is.are)) in omega (arith, none)
]
  where
    one : (x : Arrive) (rest : List Arrive) → FirstDue w a t (Begins h a) (drop is.gone (Arrivals h a)) items x rest → (ps : List Entry)
        → filter_map (onward w a (Begins h a)) (x ∷ rest) ≡ map passes ps → length (filter (is_due t) ps) ≤ 1
    one x rest f ps are = go (onward w a (Begins h a) x) are
      where
        at_most : (p : Entry) (qs : List Entry) → filter (is_due t) qs ≡ [] → length (filter (is_due t) (p ∷ qs)) ≤ 1
        at_most p qs none = pick (is_due t p)
          where
            pick : (b : Bool) → length (if b then p ∷ filter (is_due t) qs else filter (is_due t) qs) ≤ 1
            pick true = let e = ap length none in omega (arith, e)
            pick false = let e = ap length none in omega (arith, e)

        first : (o : Onward) (qs : List Entry) → o ∷ filter_map (onward w a (Begins h a)) rest ≡ map passes qs → length (filter (is_due t) qs) ≤ 1
        first o [] are = absurd (cc are)
        first o (q ∷ qs) are = at_most q qs (none_due t qs (later_dues w a t (Begins h a) rest qs f.behind (cc are)))

        go : (o : Option Onward) → cons_option o (filter_map (onward w a (Begins h a)) rest) ≡ map passes ps → length (filter (is_due t) ps) ≤ 1
        go None are = let none = ap length (none_due t ps (later_dues w a t (Begins h a) rest ps f.behind are)) in omega (arith, none)
        go (Some o) are = first o ps are
