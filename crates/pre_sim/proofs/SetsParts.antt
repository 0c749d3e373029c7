-- What the script sets at a tick, line by line.
use Rattle.std.proofs.Common.{ℕ, zero, suc, ◌≡◌, ◌≢◌, ◌==◌, ◌&&◌, ◌+◌, ◌<◌, ◌≤◌, nat_le, Bool, true, false}
use Rattle.std.proofs.Common.{List, [], ◌∷◌, ◌++◌, length, map, filter, take, drop, refl}
use Rattle.std.proofs.Common.{sym, ◌∙◌, ap, inl, inr, arith, subst, Option, Some, None, append_assoc}
use Rattle.std.specs.Prelude.{slice_get, slice_index_or, set, count_by, All, unwrap_or, IsTrue, cond}
use Rattle.std.specs.Option.{option_map_or}
use Rattle.std.specs.List.{AllByRecursion as Every}
use Rattle.std.proofs.lemmas.Option.{slice_get-get_or}
use Rattle.std.proofs.lemmas.Bool.{cases_eq, cases_lt, false≢true}
use Rattle.std.proofs.lemmas.List.{append-nil, map-append, take-append-drop}
use Rattle.std.proofs.lemmas.List.Elements.{filter-append}
use Rattle.std.proofs.lemmas.List.Sums.{sum_by-cons}
use Rattle.pre_base.specs.Last.{last}
use Rattle.pre_topo.specs.declared.arcs.Arc.{Arc}
use Rattle.pre_topo.specs.declared.network.Network.{Network}
use Rattle.pre_script.specs.Rules.{negotiates}
use Rattle.pre_script.specs.declared.scripts.Setting.{Setting}
use Rattle.pre_script.specs.declared.scripts.Setting.TheVariants as setting
use Rattle.pre_script.specs.declared.scripts.SetLine.{SetLine}
use Rattle.pre_script.specs.Fits as script
use Rattle.pre_history.specs.Scenario.{Scenario}
use Rattle.pre_history.specs.Moments.{Phase}
use Rattle.pre_history.specs.Placed.{number}
use Rattle.pre_history.specs.History.{PlainEvent, History}
use Rattle.pre_history.specs.Selected.{is_dropped}
use Rattle.pre_history.specs.Queries.{Deliveries, SettingOf}
use Rattle.pre_history.specs.Rules.{HappensIn, SetsAt}
use Rattle.pre_history.specs.LinkState.{SettingBefore}
use Rattle.pre_history.specs.Legal.{LegalBefore}
use Rattle.pre_history.proofs.Chosen.{last_push}
use Rattle.pre_history.proofs.Lists.{filter_nil, one_at}
use Rattle.pre_history.proofs.Moments.{sets_place}
use Rattle.pre_outgoing.specs.declared.outgoing.Outgoing.{Outgoing}
use Rattle.pre_outgoing.specs.Sends.{Sends}
use Rattle.pre_incoming.specs.declared.incomings.Incoming.{Incoming}
use Rattle.pre_incoming.specs.Wires.{Receives}
use Rattle.pre_incoming.proofs.Goings.{elsewhere}
use Rattle.pre_links.specs.declared.partners.Partner.{Partner}
use Rattle.pre_links.specs.declared.links.Link.{Link}
use Rattle.pre_links.specs.Listening.{Hears}
use Rattle.pre_links.specs.Standing.{LinkStands}
use Rattle.pre_links.proofs.Early.{before}
use Rattle.pre_bridge.specs.Inside.{Entry, of_arc}
use Rattle.pre_sim.specs.declared.lanes.Lane.{Lane}
use Rattle.pre_sim.specs.declared.ticks.Progress.{Progress}
use Rattle.pre_sim.specs.Reach.{AllFit}
use Rattle.pre_sim.specs.Keeps.{Store, Keeps}
use Rattle.pre_sim.specs.Stages.{Stage, untouched}
use Rattle.pre_sim.specs.Stands.{AreRings, LaneStands, LanesStand, AreSetBefore}
use Rattle.pre_sim.specs.Parts.{LegalAt, IsFront, SetsPart}
use Rattle.pre_sim.proofs.Keeping.{keep_lane}
use Rattle.pre_sim.proofs.Lists.{every-append, every_weaker, within, there, set_found, set_elsewhere, read_at, take_one}
use Rattle.pre_sim.proofs.NumberTests.{is_eq, not_eq, is_le, no_le}
use Rattle.pre_sim.proofs.Others.{stays}
use Rattle.pre_sim.proofs.StageTests.{is_set_up}

-- ---- lines

abbrev pub event_of : SetLine → PlainEvent
event_of x = PlainEvent.set x.tick.0 x.arc.0 x.value

-- what the last of these lines sets the arc to
abbrev set_on : ℕ → List SetLine → Setting
set_on a xs = unwrap_or (last (map (λ (x : SetLine). x.value) (filter (λ (x : SetLine). x.arc.0 == a) xs))) setting.On

abbrev values : ℕ → List SetLine → List Setting
values a xs = map (λ (x : SetLine). x.value) (filter (λ (x : SetLine). x.arc.0 == a) xs)

values-append : (a : ℕ) (xs ys : List SetLine) → values a (xs ++ ys) ≡ values a xs ++ values a ys
values-append a xs ys =
    ap (map (λ (x : SetLine). x.value)) (filter-append (λ (x : SetLine). x.arc.0 == a) xs ys)
    ∙ map-append (λ (x : SetLine). x.value) (filter (λ (x : SetLine). x.arc.0 == a) xs) (filter (λ (x : SetLine). x.arc.0 == a) ys)

-- one line more, of the arc or of another
set_here : (a : ℕ) (xs : List SetLine) (x : SetLine) → x.arc.0 ≡ a → set_on a (xs ++ x ∷ []) ≡ x.value
set_here a xs x on =
    let test : (x.arc.0 == a) ≡ true = is_eq x.arc.0 a on in
    let one : values a (x ∷ []) ≡ x.value ∷ [] = rw test refl in
    ap (λ vs. unwrap_or (last vs) setting.On) (values-append a xs (x ∷ []) ∙ ap (λ vs. values a xs ++ vs) one) ∙ ap (λ o. unwrap_or o setting.On) (last_push (values a xs) x.value)

set_there : (a : ℕ) (xs : List SetLine) (x : SetLine) → x.arc.0 ≢ a → set_on a (xs ++ x ∷ []) ≡ set_on a xs
set_there a xs x off =
    let test : (x.arc.0 == a) ≡ false = not_eq x.arc.0 a off in
    let none : values a (x ∷ []) ≡ [] = rw test refl in
    ap (λ vs. unwrap_or (last vs) setting.On) (values-append a xs (x ∷ []) ∙ (ap (λ vs. values a xs ++ vs) none ∙ append-nil (values a xs)))

-- of lines up to a tick and later ones, the former say what is set at it
by_tick : (a u : ℕ) (xs : List SetLine) → Every (λ (x : SetLine). x.tick.0 < suc u) xs → filter (λ (x : SetLine). (x.arc.0 == a) && nat_le x.tick.0 u) xs ≡ filter (λ (x : SetLine). x.arc.0 == a) xs
by_tick a u [] all = refl
by_tick a u (x ∷ xs) (here, more) = go (x.arc.0 == a) refl (by_tick a u xs more)
  where
    early : nat_le x.tick.0 u ≡ true
    early = is_le x.tick.0 u (omega (arith, here))

    go : (b : Bool) → (x.arc.0 == a) ≡ b → filter (λ (x : SetLine). (x.arc.0 == a) && nat_le x.tick.0 u) xs ≡ filter (λ (x : SetLine). x.arc.0 == a) xs
        → filter (λ (x : SetLine). (x.arc.0 == a) && nat_le x.tick.0 u) (x ∷ xs) ≡ filter (λ (x : SetLine). x.arc.0 == a) (x ∷ xs)
    go true on rest = rw (on, early) (ap (λ ys. x ∷ ys) rest)
    go false off rest = rw off rest

past_tick : (a u : ℕ) (x : SetLine) → suc u ≤ x.tick.0 → ((x.arc.0 == a) && nat_le x.tick.0 u) ≡ false
past_tick a u x late = go (x.arc.0 == a)
  where
    go : (b : Bool) → (b && nat_le x.tick.0 u) ≡ false
    go true = no_le x.tick.0 u (omega (arith, late))
    go false = refl

setting_is : (w : Scenario) (a u n : ℕ) → Every (λ (x : SetLine). x.tick.0 < suc u) (take n w.script.sets) → Every (λ (x : SetLine). suc u ≤ x.tick.0) (drop n w.script.sets)
    → SettingOf w a u ≡ set_on a (take n w.script.sets)
setting_is w a u n early late =
    let test : SetLine → Bool = λ (x : SetLine). (x.arc.0 == a) && nat_le x.tick.0 u in
    let none : filter test (drop n w.script.sets) ≡ [] =
    filter_nil test (drop n w.script.sets) (every_weaker (λ (x : SetLine). suc u ≤ x.tick.0) (λ (x : SetLine). test x ≡ false) (λ x lt. past_tick a u x lt) (drop n w.script.sets) late) in
    ap (λ xs. unwrap_or (last (map (λ (x : SetLine). x.value) xs)) setting.On)
    (ap (filter test) (sym (take-append-drop n w.script.sets))
    ∙ (filter-append test (take n w.script.sets) (drop n w.script.sets)
    ∙ (ap (λ xs. filter test (take n w.script.sets) ++ xs) none ∙ (append-nil (filter test (take n w.script.sets)) ∙ by_tick a u (take n w.script.sets) early))))

-- before the tick and after its lines
pub setting_before : (w : Scenario) (h : History) (a t n : ℕ) → AreSetBefore w t n → SettingBefore w h a t ≡ set_on a (take n w.script.sets)
setting_before w h a zero n is = go (take n w.script.sets) is.past
  where
    go : (xs : List SetLine) → Every (λ (x : SetLine). x.tick.0 < 0) xs → setting.On ≡ set_on a xs
    go [] all = refl
    go (x ∷ xs) (here, more) = absurd (omega (arith, here))
setting_before w h a (suc u) n is = setting_is w a u n is.past is.later

setting_now : (w : Scenario) (h : History) (a t n : ℕ) → AreSetBefore w (t + 1) n → SettingOf w a t ≡ set_on a (take n w.script.sets)
setting_now w h a t n is =
    let next : t + 1 ≡ suc t = omega arith in
    let early = subst (λ m. Every (λ (x : SetLine). x.tick.0 < m) (take n w.script.sets)) next is.past in
    setting_is w a t n early (subst (λ m. Every (λ (x : SetLine). m ≤ x.tick.0) (drop n w.script.sets)) next is.later)

-- ---- the lanes

-- all of a lane but its setting is as it was, which goes by the lines
pub record IsSetBy (a : ℕ) (old_lines new_lines : List SetLine) (was lane : Lane) : Type 0 where
  pub rings : lane.rings ≡ was.rings
  pub outgoing : lane.outgoing ≡ was.outgoing
  pub incoming : lane.incoming ≡ was.incoming
  pub partner : lane.partner ≡ was.partner
  pub link : lane.link ≡ was.link
  pub setting : was.setting ≡ set_on a old_lines → lane.setting ≡ set_on a new_lines

abbrev pub AreSetBy : (old_lines new_lines : List SetLine) → (old new : List Lane) → Type 0
AreSetBy old_lines new_lines old new = (a : ℕ) (lane : Lane) → slice_get new a ≡ Some lane → (was : Lane) × (slice_get old a ≡ Some was) × IsSetBy a old_lines new_lines was lane

pub set_nothing : (lines : List SetLine) (lanes : List Lane) → AreSetBy lines lines lanes lanes
set_nothing lines lanes a lane at = (lane, at, record { rings = refl; outgoing = refl; incoming = refl; partner = refl; link = refl; setting = λ is. is })

-- the lane of the next line
abbrev pub with_setting : Lane → Setting → Lane
with_setting lane value = record { rings = lane.rings; outgoing = lane.outgoing; incoming = lane.incoming; partner = lane.partner; setting = value; link = lane.link }

set_more : (old_lines lines : List SetLine) (x : SetLine) (old mid : List Lane) (lane : Lane) → slice_get mid x.arc.0 ≡ Some lane → AreSetBy old_lines lines old mid
    → AreSetBy old_lines (lines ++ x ∷ []) old (set mid x.arc.0 (with_setting lane x.value))
set_more old_lines lines x old mid lane here so_far a l at = elim (cases_eq a x.arc.0) [
  | inl is ↦
      let before = so_far x.arc.0 lane here in
      let same : with_setting lane x.value ≡ l = set_found mid x.arc.0 (with_setting lane x.value) l (subst (λ m. slice_get (set mid x.arc.0 (with_setting lane x.value)) m ≡ Some l) is at) in
      let one : IsSetBy a old_lines (lines ++ x ∷ []) before.0 (with_setting lane x.value) = record {
        rings = before.2.rings;
        outgoing = before.2.outgoing;
        incoming = before.2.incoming;
        partner = before.2.partner;
        link = before.2.link;
        setting = λ was. sym (set_here a lines x (sym is));
      } in
      (before.0, subst (λ m. slice_get old m ≡ Some before.0) (sym is) before.1, subst (IsSetBy a old_lines (lines ++ x ∷ []) before.0) same one)
  | inr other ↦
      let before = so_far a l (sym (set_elsewhere mid x.arc.0 a (with_setting lane x.value) other) ∙ at) in (
        before.0,
        before.1,
        record {
          rings = before.2.rings;
          outgoing = before.2.outgoing;
          incoming = before.2.incoming;
          partner = before.2.partner;
          link = before.2.link;
          setting = λ was. before.2.setting was ∙ sym (set_there a lines x (λ e. other (sym e)));
        },
      )
]

pub set_next : (sets : List SetLine) (from n : ℕ) (x : SetLine) → slice_get sets n ≡ Some x → (old mid : List Lane) (i : ℕ) (lane : Lane) → i ≡ x.arc.0 → slice_get mid i ≡ Some lane
    → AreSetBy (take from sets) (take n sets) old mid
    → AreSetBy (take from sets) (take (n + 1) sets) old (set mid i (with_setting lane x.value))
set_next sets from n x at old mid i lane is here so_far =
    subst (λ xs. AreSetBy (take from sets) xs old (set mid i (with_setting lane x.value))) (sym (take_one n sets x at))
    (subst (λ m. AreSetBy (take from sets) (take n sets ++ x ∷ []) old (set mid m (with_setting lane x.value))) (sym is)
    (set_more (take from sets) (take n sets) x old mid lane (subst (λ m. slice_get mid m ≡ Some lane) is here) so_far))

-- ---- the lines of a tick so far

module _ (w : Scenario) (t : ℕ) where
  -- these lines of the tick are told, behind the first ones
  pub record AreTold (from n : ℕ) (lines : List SetLine) (es : History) : Type 0 where
    pub reach : take n w.script.sets ≡ take from w.script.sets ++ lines
    pub behind : from ≤ n
    pub within : from ≤ length w.script.sets → n ≤ length w.script.sets
    pub now : Every (λ (x : SetLine). x.tick.0 ≡ t) lines
    pub events : es ≡ map event_of lines

  pub none_told : (from : ℕ) → AreTold from from [] []
  none_told from = record { reach = sym (append-nil (take from w.script.sets)); behind = omega arith; within = λ le. le; now = tt; events = refl }

  pub more_told : (from n : ℕ) (lines : List SetLine) (es : History) (x : SetLine) → slice_get w.script.sets n ≡ Some x → x.tick.0 ≡ t → AreTold from n lines es
      → AreTold from (n + 1) (lines ++ x ∷ []) (es ++ event_of x ∷ [])
  more_told from n lines es x at now is =
      let lt : n < length w.script.sets = within w.script.sets n x at in
      record {
        reach = take_one n w.script.sets x at ∙ (ap (λ xs. xs ++ x ∷ []) is.reach ∙ append_assoc (take from w.script.sets) lines (x ∷ []));
        behind = omega (arith, is.behind);
        within = λ le. omega (arith, lt);
        now = every-append (λ (x : SetLine). x.tick.0 ≡ t) lines (x ∷ []) is.now (now, tt);
        events = ap (λ gs. gs ++ event_of x ∷ []) is.events ∙ sym (map-append event_of lines (x ∷ []));
      }

  -- the lines of the tick are those told and some of the rest
  sets_are : (from n : ℕ) (lines : List SetLine) (es : History) → Every (λ (x : SetLine). x.tick.0 < t) (take from w.script.sets) → AreTold from n lines es
      → SetsAt w t ≡ es ++ map event_of (filter (λ (x : SetLine). x.tick.0 == t) (drop n w.script.sets))
  sets_are from n lines es past is =
      let test : SetLine → Bool = λ (x : SetLine). x.tick.0 == t in
      let first = take from w.script.sets in
      let rest = drop n w.script.sets in
      let none : filter test first ≡ [] = filter_nil test first (every_weaker (λ (x : SetLine). x.tick.0 < t) (λ (x : SetLine). test x ≡ false)
      (λ x lt. not_eq x.tick.0 t (λ e. absurd (omega (arith, lt, e)))) first past) in
      let split : w.script.sets ≡ (first ++ lines) ++ rest = sym (take-append-drop n w.script.sets) ∙ ap (λ xs. xs ++ rest) is.reach in
      let chosen : filter test w.script.sets ≡ lines ++ filter test rest =
      ap (filter test) split
      ∙ (filter-append test (first ++ lines) rest
      ∙ ap (λ xs. xs ++ filter test rest) (filter-append test first lines ∙ (ap (λ xs. xs ++ filter test lines) none ∙ all_pass lines is.now))) in
      ap (map event_of) chosen ∙ (map-append event_of lines (filter test rest) ∙ ap (λ gs. gs ++ map event_of (filter test rest)) (sym is.events))
    where
      all_pass : (xs : List SetLine) → Every (λ (x : SetLine). x.tick.0 ≡ t) xs → filter (λ (x : SetLine). x.tick.0 == t) xs ≡ xs
      all_pass [] all = refl
      all_pass (x ∷ xs) (here, more) = rw (is_eq x.tick.0 t here) (ap (λ ys. x ∷ ys) (all_pass xs more))

-- ---- what is so of each behind the first ones

each_behind : {X : Type 0} (P : X → Type 0) (n : ℕ) (xs : List X) → Every P (drop n xs) → (i : ℕ) (x : X) → n ≤ i → slice_get xs i ≡ Some x → P x
each_behind P n [] all i x le at = absurd (cc at)
each_behind P zero (y ∷ xs) all zero x le at = subst P (cc at) all.0
each_behind P zero (y ∷ xs) all (suc i) x le at = each_behind P zero xs all.1 i x (omega arith) at
each_behind P (suc n) (y ∷ xs) all zero x le at = absurd (omega (arith, le))
each_behind P (suc n) (y ∷ xs) all (suc i) x le at = each_behind P n xs all i x (omega (arith, le)) at

all_behind : {X : Type 0} (P : X → Type 0) (n : ℕ) (xs : List X) → ((i : ℕ) (x : X) → n ≤ i → slice_get xs i ≡ Some x → P x) → Every P (drop n xs)
all_behind P zero [] each = tt
all_behind P (suc n) [] each = tt
all_behind P zero (x ∷ xs) each = (each zero x (omega arith) refl, all_behind P zero xs (λ i y le at. each (suc i) y (omega arith) at))
all_behind P (suc n) (x ∷ xs) each = all_behind P n xs (λ i y le at. each (suc i) y (omega (arith, le)) at)

-- ---- the arc of a line

known_arc : (net : Network) (x : SetLine) → script.IsSet net x → x.arc.0 < length net.arcs
known_arc net x is = go (slice_get net.arcs x.arc.0) refl is.negotiates
  where
    go : (o : Option Arc) → slice_get net.arcs x.arc.0 ≡ o → IsTrue (option_map_or negotiates o false) → x.arc.0 < length net.arcs
    go None at some = absurd (false≢true some)
    go (Some y) at some = within net.arcs x.arc.0 y at

-- ---- the next line

abbrev pub no_set : SetLine
no_set = record { tick = record { 0 = 0 }; arc = record { 0 = 0 }; value = setting.On }

pub line_at : (lines sets : List SetLine) → lines ≡ sets → (k : ℕ) → k < length lines → slice_get sets k ≡ Some (slice_index_or lines k no_set)
line_at lines sets same k lt = subst (λ (xs : List SetLine). slice_get xs k ≡ Some (slice_index_or lines k no_set)) same (slice_get-get_or lines k no_set lt)

pub line_known : (net : Network) (lines sets : List SetLine) → lines ≡ sets → All (script.IsSet net) sets → (k : ℕ) → k < length lines → (slice_index_or lines k no_set).arc.0 < length net.arcs
line_known net lines sets same all k lt =
    let lt' : k < length sets = subst (λ (xs : List SetLine). k < length xs) same lt in
    subst (λ (xs : List SetLine). (slice_index_or xs k no_set).arc.0 < length net.arcs) (sym same) (known_arc net (slice_index_or sets k no_set) (all k no_set lt'))

-- none of the tick is next
pub over_at : (lines sets : List SetLine) (t k : ℕ) → lines ≡ sets → (slice_index_or lines k no_set).tick.0 ≢ t → (x : SetLine) → slice_get sets k ≡ Some x → x.tick.0 ≢ t
over_at lines sets t k same other x at is =
    let one : slice_index_or lines k no_set ≡ x = ap (λ (xs : List SetLine). slice_index_or xs k no_set) same ∙ read_at sets k x no_set at in
    other (ap (λ (y : SetLine). y.tick.0) one ∙ is)

pub over_end : (lines sets : List SetLine) (t k : ℕ) → lines ≡ sets → length lines ≤ k → (x : SetLine) → slice_get sets k ≡ Some x → x.tick.0 ≢ t
over_end lines sets t k same past x at is = let lt = within sets k x at in absurd (omega (arith, lt, past, ap length same))

-- ---- all of them

pub sets_happen : (w : Scenario) (t : ℕ) (h es : History) → es ≡ SetsAt w t → HappensIn w h t Phase.sets es
unfolding HappensIn
sets_happen w t h es is = is

-- setting tells nothing else
none_delivered : (xs : List SetLine) → length (Deliveries (map event_of xs)) ≡ 0
none_delivered [] = refl
none_delivered (x ∷ xs) = none_delivered xs

none_dropped : (xs : List SetLine) → count_by is_dropped (map event_of xs) ≡ 0
none_dropped [] = refl
none_dropped (x ∷ xs) = omega (arith, sum_by-cons (λ (e : PlainEvent). cond (is_dropped e) 1 0) (event_of x) (map event_of xs), none_dropped xs)

module _ (w : Scenario) (t : ℕ) (h : History) (legal : LegalAt w t 0 h) where
  abbrev A : ℕ
  A = length w.net.arcs

  legal_on : (es : History) → es ≡ SetsAt w t → LegalAt w t 1 (h ++ es)
  legal_on es is = subst (LegalBefore w (h ++ es)) (next A t) (elsewhere w h es t 0 Phase.sets (omega arith) (sets_place A) legal (sets_happen w t h es is) (λ b e. absurd (cc e)))
    where
      next : (A t : ℕ) → suc (number A t 0) ≡ number A t 1
      next A t = omega arith

  -- the lanes after all lines of the tick
  lanes_set : (es : History) → es ≡ SetsAt w t → (from n : ℕ) (old new : List Lane) (entries : List Entry) → length new ≡ A → AreSetBefore w t from → AreSetBefore w (t + 1) n
      → AreSetBy (take from w.script.sets) (take n w.script.sets) old new → LanesStand w h t 0 old entries → LanesStand w (h ++ es) t 1 new entries
  lanes_set es is from n old new entries many before_it after_it by stand a lane at =
      let a_lt : a < A = omega (arith, within new a lane at, many) in
      let was = by a lane at in
      let old_stands : LaneStands w h a (untouched t) was.0 (of_arc a entries) = stand a was.0 was.1 in
      let s = stays w t Phase.sets h es a a_lt refl legal.0 (sets_happen w t h es is) (omega arith) (omega arith) (omega arith) (omega arith) (omega arith) (untouched t) was.0 (of_arc a entries)
      (λ i lt. before A i t 0 lt) old_stands in
      let set_now : lane.setting ≡ SettingOf w a t =
      was.2.setting (old_stands.setting ∙ setting_before w h a t from before_it) ∙ sym (setting_now w h a t n after_it) in
      subst (λ (x : Stage). LaneStands w (h ++ es) a x lane (of_arc a entries)) (sym (is_set_up A t 1 a (omega arith) (omega arith))) (record {
        rings = subst (AreRings w (h ++ es) a) (sym was.2.rings) s.rings;
        outgoing = subst (λ (o : Outgoing). Sends w (h ++ es) a t true o) (sym was.2.outgoing) s.outgoing;
        incoming = subst (λ (o : Incoming). Receives w (h ++ es) a o) (sym was.2.incoming) s.incoming;
        partner = subst (λ (o : Partner). Hears w (h ++ es) a o) (sym was.2.partner) s.partner;
        setting = set_now;
        link = λ negotiates. subst (λ (o : Link). LinkStands w (h ++ es) a t o) (sym was.2.link) (s.link negotiates);
        inside = s.inside;
      })

module _ (w : Scenario) (fit : AllFit w.net w.streams w.script) (t : ℕ) (from n : ℕ) (lines : List SetLine) (es : History) (told : AreTold w t from n lines es)
    (before_it : AreSetBefore w t from) where
  -- with more of them it is what happens
  pub sets_front : (h : History) → LegalAt w t 0 h → IsFront w (h ++ es)
  sets_front h legal =
      let rest = map event_of (filter (λ (x : SetLine). x.tick.0 == t) (drop n w.script.sets)) in
      let whole : es ++ rest ≡ SetsAt w t = sym (sets_are w t from n lines es before_it.past told) in
      (number (length w.net.arcs) t 1, rest, subst (λ g. LegalAt w t 1 g) (sym (append_assoc h es rest)) (legal_on w t h legal (es ++ rest) whole))

  -- no line behind them is of the tick
  module _ (over : (x : SetLine) → slice_get w.script.sets n ≡ Some x → x.tick.0 ≢ t) where
    later_at : (i : ℕ) (x : SetLine) → n ≤ i → slice_get w.script.sets i ≡ Some x → t + 1 ≤ x.tick.0
    later_at i x le at =
        let first = there w.script.sets n (let lt = within w.script.sets i x at in omega (arith, lt, le)) in
        let from_t : t ≤ first.0.tick.0 = each_behind (λ (y : SetLine). t ≤ y.tick.0) from w.script.sets before_it.later n first.0 told.behind first.1 in
        let other = over first.0 first.1 in
        let beyond : t + 1 ≤ first.0.tick.0 = omega (arith, from_t, other) in
        elim (cases_lt n i) [
          | inl less ↦
              let order : (slice_index_or w.script.sets n x).tick.0 ≤ (slice_index_or w.script.sets i x).tick.0 = fit.script_fits.sets_order n i x less (within w.script.sets i x at) in
              let one : slice_index_or w.script.sets n x ≡ first.0 = read_at w.script.sets n first.0 x first.1 in
              let two : slice_index_or w.script.sets i x ≡ x = read_at w.script.sets i x x at in
              omega (arith, beyond, order, ap (λ (y : SetLine). y.tick.0) one, ap (λ (y : SetLine). y.tick.0) two)
          | inr more ↦
              let same : n ≡ i = omega (arith, le, more) in
              let is : first.0 ≡ x = one_at w.script.sets n first.0 x first.1 (ap (slice_get w.script.sets) same ∙ at) in
              omega (arith, beyond, ap (λ (y : SetLine). y.tick.0) is)
        ]

    pub after_it : AreSetBefore w (t + 1) n
    after_it = record {
      within = told.within before_it.within;
      past = subst (Every (λ (x : SetLine). x.tick.0 < t + 1)) (sym told.reach)
          (every-append (λ (x : SetLine). x.tick.0 < t + 1) (take from w.script.sets) lines
          (every_weaker (λ (x : SetLine). x.tick.0 < t) (λ (x : SetLine). x.tick.0 < t + 1) (λ x lt. omega (arith, lt)) (take from w.script.sets) before_it.past)
          (every_weaker (λ (x : SetLine). x.tick.0 ≡ t) (λ (x : SetLine). x.tick.0 < t + 1) (λ x is. omega (arith, is)) lines told.now));
      later = all_behind (λ (x : SetLine). t + 1 ≤ x.tick.0) n w.script.sets later_at;
    }

    pub all_told : es ≡ SetsAt w t
    all_told =
        let test : SetLine → Bool = λ (x : SetLine). x.tick.0 == t in
        let none : filter test (drop n w.script.sets) ≡ [] =
        filter_nil test (drop n w.script.sets) (every_weaker (λ (x : SetLine). t + 1 ≤ x.tick.0) (λ (x : SetLine). test x ≡ false) (λ x lt. not_eq x.tick.0 t (λ e. absurd (omega (arith, lt, e))))
        (drop n w.script.sets) after_it.later) in
        sym (sets_are w t from n lines es before_it.past told ∙ (ap (λ xs. es ++ map event_of xs) none ∙ append-nil es))

    pub sets_legal : (h : History) (entries : List Entry) (old new : List Lane) → length new ≡ length w.net.arcs → AreSetBy (take from w.script.sets) (take n w.script.sets) old new
        → LegalAt w t 0 h → LanesStand w h t 0 old entries
        → LegalAt w t 1 (h ++ es) × LanesStand w (h ++ es) t 1 new entries × AreSetBefore w (t + 1) n
    sets_legal h entries old new many by legal stand = (legal_on w t h legal es all_told, lanes_set w t h legal es all_told from n old new entries many before_it after_it by stand, after_it)

-- the whole part
pub sets_part : (w : Scenario) → AllFit w.net w.streams w.script → (t : ℕ) (old new : Progress) (es : History) (lines : List SetLine) → AreTold w t old.set new.set lines es
    → length new.lanes.items ≡ length w.net.arcs
    → AreSetBy (take old.set w.script.sets) (take new.set w.script.sets) old.lanes.items new.lanes.items
    → ((entries : List Entry) → Keeps w old.store old.lanes.items entries [] → Keeps w old.store new.lanes.items entries [])
    → (new.relay ≡ old.relay) × (new.store ≡ old.store) × (new.sent ≡ old.sent) × (new.delivered ≡ old.delivered) × (new.dropped ≡ old.dropped)
    → ((x : SetLine) → slice_get w.script.sets new.set ≡ Some x → x.tick.0 ≢ t) → SetsPart w t old new es
sets_part w fit t old new es lines told many by keeps kept over = record {
  deliveries = ap (λ gs. length (Deliveries gs)) told.events ∙ none_delivered lines;
  drops = ap (count_by is_dropped) told.events ∙ none_dropped lines;
  kept = kept;
  legal = λ h entries legal stand set_before. sets_legal w fit t old.set new.set lines es told set_before over h entries old.lanes.items new.lanes.items many by legal stand;
  keeps = keeps;
}

-- a lane with another setting keeps what it kept
pub keeps_set : (w : Scenario) (store : Store) (lanes : List Lane) (a : ℕ) (lane : Lane) (value : Setting) (entries : List Entry) → slice_get lanes a ≡ Some lane → Keeps w store lanes entries []
    → Keeps w store (set lanes a (with_setting lane value)) entries []
keeps_set w store lanes a lane value entries at keeps =
    subst (λ xs. Keeps w store (set lanes a (with_setting lane value)) xs []) (append-nil entries) (keep_lane w a store lane (with_setting lane value) refl refl lanes entries at keeps)
