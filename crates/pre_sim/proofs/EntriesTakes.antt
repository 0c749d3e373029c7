-- What comes out of the bridges at a tick, one frame after another.
use Rattle.std.proofs.Common.{ℕ, ◌≡◌, ◌+◌, ◌<◌, ◌≤◌, List, [], ◌∷◌, ◌++◌, length, map, take, refl, sym, ◌∙◌, ap, arith, subst, Option, Some, None, append_assoc}
use Rattle.std.specs.Prelude.{slice_get, min, replicate, option_map, find, Bool, true, false, not, if◌then◌else◌}
use mir.Val.{bool_byte}
use Rattle.std.proofs.lemmas.List.Sums.{fold-append}
use Rattle.std.proofs.lemmas.List.{append-nil, map-append, replicate_more}
use Rattle.pre_base.specs.declared.numbers.ArcId.{ArcId}
use Rattle.pre_rings.specs.declared.slots.FrameRef.{FrameRef}
use Rattle.pre_topo.specs.declared.network.Network.{Network}
use Rattle.pre_streams.specs.declared.rows.Streams.{Streams}
use Rattle.pre_history.specs.Scenario.{Scenario}
use Rattle.pre_history.specs.History.{History}
use Rattle.pre_bridge.specs.declared.relays.Relay.{Relay}
use Rattle.pre_bridge.specs.Inside.{Call, Entry, taken, inside, after, comes_out, without_first, leaving, handed}
use Rattle.pre_bridge.specs.Turns.{IsTurn, dues}
use Rattle.pre_bridge.specs.Relays.{Stands}
use Rattle.pre_sim.specs.declared.lanes.Lane.{Lane}
use Rattle.pre_laws.specs.Routed.{IsRouted}
use Rattle.pre_sim.specs.Keeps.{Store, GoesOver, Keeps}
use Rattle.pre_sim.specs.Sends.{ComesPart, ComesFront, RelaysPart, RelaysFront, coming_of, comes_to, drops_of, handed_on}
use Rattle.pre_sim.proofs.Keeping.{keep_taken}
use Rattle.pre_sim.proofs.EntriesRun.{none_come, come_then, front_then, front_more, comes_same, front_same}
use Rattle.pre_sim.proofs.Lists.{take_one, take_no_more, few_at, take_rest}

-- ---- takes

handed_of : (o : Option Entry) (next : ArcId) (f : FrameRef) → Some (next, f) ≡ option_map handed o → (e : Entry) × (o ≡ Some e) × (e.next ≡ next) × (e.frame ≡ f)
handed_of None next f is = absurd (cc is)
handed_of (Some e) next f is = let same : handed e ≡ (next, f) = sym (cc is) in (e, refl, ap (λ p. p.0) same, ap (λ p. p.1) same)

none_handed : (o : Option Entry) → None ≡ option_map handed o → o ≡ None
none_handed None is = refl
none_handed (Some e) is = absurd (cc is)

without_none : (test : Entry → Bool) (xs : List Entry) → find test xs ≡ None → without_first test xs ≡ xs
without_none test [] none = refl
without_none test (x ∷ xs) none = go (test x) (without_none test xs) none
  where
    go : (b : Bool) → (find test xs ≡ None → without_first test xs ≡ xs) → (if b then Some x else find test xs) ≡ None → (if b then xs else x ∷ without_first test xs) ≡ x ∷ xs
    go true more none = absurd (cc none)
    go false more none = ap (λ zs. x ∷ zs) (more none)

-- a take that gives none leaves all
pub take_none : (net : Network) (streams : Streams) (calls : List Call) (t : ℕ) → leaving t (inside net streams calls) ≡ None → inside net streams (calls ++ taken t ∷ []) ≡ inside net streams calls
take_none net streams calls t none = fold-append (after net streams) [] calls (taken t ∷ []) ∙ without_none (comes_out t (inside net streams calls)) (inside net streams calls) none

-- a frame that didn't enter counts for one
pub lost_byte : (b : Bool) → bool_byte (not b) ≡ drops_of b
lost_byte true = refl
lost_byte false = refl

pub one_dropped : (b : Bool) → drops_of b ≤ 1
one_dropped true = omega arith
one_dropped false = omega arith

-- what is known of takes
pub record TakeLaws : Type 0 where
  pub each : (relay : Relay) (net : Network) (streams : Streams) (calls : List Call) (t k : ℕ) → Stands relay net streams calls
      → leaving t (inside net streams (calls ++ replicate k (taken t))) ≡ slice_get (dues t (length net.arcs) (inside net streams calls)) k
  pub comes_out : (net : Network) (streams : Streams) (calls : List Call) (t : ℕ) (before behind : List Entry) (entry : Entry)
      → inside net streams calls ≡ before ++ entry ∷ behind → IsTurn t before entry behind
      → (leaving t (inside net streams calls) ≡ Some entry) × (inside net streams (calls ++ taken t ∷ []) ≡ before ++ behind)
  pub turn : (relay : Relay) (net : Network) (streams : Streams) (calls : List Call) (t : ℕ) (entry : Entry) → Stands relay net streams calls
      → leaving t (inside net streams calls) ≡ Some entry
      → (before : List Entry) × (behind : List Entry) × (inside net streams calls ≡ before ++ entry ∷ behind) × IsTurn t before entry behind

-- A take hands this out.
abbrev pub RelayGives : Relay → ℕ → Option (ArcId × FrameRef) → Type 0
RelayGives relay t given = (net : Network) (streams : Streams) (calls : List Call) → Stands relay net streams calls → given ≡ option_map handed (leaving t (inside net streams calls))

-- So it stands behind the take.
abbrev pub StandsOn : Relay → Relay → ℕ → Type 0
StandsOn relay relay' t = (net : Network) (streams : Streams) (calls : List Call) → Stands relay net streams calls → Stands relay' net streams (calls ++ taken t ∷ [])

-- this many came out, and what became of each was told
pub record TakesPart (w : Scenario) (t : ℕ) (relay now : Relay) (old new : List Lane) (k lost : ℕ) (es : History) : Type 0 where
  pub comes : (calls : List Call) → Stands relay w.net w.streams calls → ComesPart w t (map coming_of (take k (dues t (length w.net.arcs) (inside w.net w.streams calls)))) old new lost es
  pub stands : (calls : List Call) → Stands relay w.net w.streams calls → Stands now w.net w.streams (calls ++ replicate k (taken t))

-- what is kept between takes
abbrev pub IsStanding : Scenario → Store → Relay → List Lane → Type 0
IsStanding w store relay lanes = (calls : List Call) × Stands relay w.net w.streams calls × Keeps w store lanes (inside w.net w.streams calls) []

module _ (w : Scenario) (t : ℕ) (relay : Relay) (old : List Lane) where
  -- none yet
  pub none_taken : TakesPart w t relay relay old old 0 0 []
  none_taken = record {
    comes = λ calls stands. none_come w t old;
    stands = λ calls stands. subst (Stands relay w.net w.streams) (sym (append-nil calls)) stands;
  }

  module _ (laws : TakeLaws) (now : Relay) (mid : List Lane) (k lost : ℕ) (es : History) (so_far : TakesPart w t relay now old mid k lost es) where
    abbrev all : List Call → List Entry
    all calls = dues t (length w.net.arcs) (inside w.net w.streams calls)

    replicated : (calls : List Call) → (calls ++ replicate k (taken t)) ++ taken t ∷ [] ≡ calls ++ replicate (k + 1) (taken t)
    replicated calls = append_assoc calls (replicate k (taken t)) (taken t ∷ []) ∙ ap (λ xs. calls ++ xs) (replicate_more k (taken t))

    -- the next take
    given_at : (given : Option (ArcId × FrameRef)) → RelayGives now t given → (calls : List Call) → Stands relay w.net w.streams calls → given ≡ option_map handed (slice_get (all calls) k)
    given_at given gives calls stands =
        gives w.net w.streams (calls ++ replicate k (taken t)) (so_far.stands calls stands) ∙ ap (option_map handed) (laws.each relay w.net w.streams calls t k stands)

    stands_on : (now' : Relay) → StandsOn now now' t → (calls : List Call) → Stands relay w.net w.streams calls → Stands now' w.net w.streams (calls ++ replicate (k + 1) (taken t))
    stands_on now' on calls stands = subst (Stands now' w.net w.streams) (replicated calls) (on w.net w.streams (calls ++ replicate k (taken t)) (so_far.stands calls stands))

    module _ (next : ArcId) (f : FrameRef) (gives : RelayGives now t (Some (next, f))) where
      its_coming : (calls : List Call) → Stands relay w.net w.streams calls → map coming_of (take k (all calls)) ++ comes_to next.0 f ∷ [] ≡ map coming_of (take (k + 1) (all calls))
      its_coming calls stands =
          let e = handed_of (slice_get (all calls) k) next f (given_at (Some (next, f)) gives calls stands) in
          let same : comes_to next.0 f ≡ coming_of e.0 = λ i. record { arc = (sym e.2 i).0; frame = (sym e.3 i).frame.0 } in
          sym (ap (map coming_of) (take_one k (all calls) e.0 e.1) ∙ (map-append coming_of (take k (all calls)) (e.0 ∷ []) ∙ ap (λ c. map coming_of (take k (all calls)) ++ c ∷ []) (sym same)))

      -- one more came out and came to its ring
      pub one_taken : (now' : Relay) → StandsOn now now' t → (new : List Lane) (more : ℕ) (fs : History) → ComesPart w t (comes_to next.0 f ∷ []) mid new more fs
          → TakesPart w t relay now' old new (k + 1) (lost + more) (es ++ fs)
      one_taken now' on new more fs part = record {
        comes = λ calls stands.
            comes_same w t old new (map coming_of (take k (all calls)) ++ comes_to next.0 f ∷ []) (map coming_of (take (k + 1) (all calls))) (lost + more) (es ++ fs) (its_coming calls stands)
            (come_then w t old (map coming_of (take k (all calls))) (comes_to next.0 f ∷ []) mid lost es (so_far.comes calls stands) new more fs part);
        stands = stands_on now' on;
      }

      -- some of it
      pub taken_front : k < length w.net.arcs → (fs : History) → ComesFront w t (comes_to next.0 f ∷ []) mid fs → RelaysFront w t relay old (es ++ fs)
      taken_front lt fs front calls stands =
          let rest = take_rest (k + 1) (length w.net.arcs) (all calls) (omega (arith, lt)) in
          let whole : (map coming_of (take k (all calls)) ++ comes_to next.0 f ∷ []) ++ map coming_of rest.0 ≡ handed_on w t (inside w.net w.streams calls) =
          ap (λ cs. cs ++ map coming_of rest.0) (its_coming calls stands) ∙ sym (ap (map coming_of) rest.1 ∙ map-append coming_of (take (k + 1) (all calls)) rest.0) in
          front_same w t old ((map coming_of (take k (all calls)) ++ comes_to next.0 f ∷ []) ++ map coming_of rest.0) (handed_on w t (inside w.net w.streams calls)) (es ++ fs) whole
          (front_more w t old (map coming_of (take k (all calls)) ++ comes_to next.0 f ∷ []) (map coming_of rest.0) (es ++ fs)
          (front_then w t old (map coming_of (take k (all calls))) (comes_to next.0 f ∷ []) mid lost es (so_far.comes calls stands) fs front))

    -- all that may come out did
    whole_part : (n : ℕ) (now' : Relay) → (calls : List Call) → Stands relay w.net w.streams calls
        → ((calls : List Call) → Stands relay w.net w.streams calls → Stands now' w.net w.streams (calls ++ replicate n (taken t)))
        → ((calls : List Call) → Stands relay w.net w.streams calls → take k (all calls) ≡ take (length w.net.arcs) (all calls))
        → ((calls : List Call) → Stands relay w.net w.streams calls → min (length w.net.arcs) (length (all calls)) ≤ n) → RelaysPart w t relay old now' mid lost es
    whole_part n now' calls0 stands0 on same few = record {
      deliveries = (so_far.comes calls0 stands0).deliveries;
      drops = (so_far.comes calls0 stands0).drops;
      come = λ calls stands. comes_same w t old mid (map coming_of (take k (all calls))) (handed_on w t (inside w.net w.streams calls)) lost es (ap (map coming_of) (same calls stands))
          (so_far.comes calls stands);
      left = λ calls stands. (n, on calls stands, few calls stands);
    }

    -- there were as many takes as arcs
    pub all_taken : (calls : List Call) → Stands relay w.net w.streams calls → k ≡ length w.net.arcs → RelaysPart w t relay old now mid lost es
    all_taken calls0 stands0 is =
        whole_part k now calls0 stands0 so_far.stands (λ calls stands. ap (λ n. take n (all calls)) is) (λ calls stands. omega (arith, is))

    -- the next take gives none
    pub no_more_taken : (calls : List Call) → Stands relay w.net w.streams calls → k < length w.net.arcs → (now' : Relay) → StandsOn now now' t → RelayGives now t None
        → RelaysPart w t relay old now' mid lost es
    no_more_taken calls0 stands0 lt now' on gives =
        let none : (calls : List Call) → Stands relay w.net w.streams calls → slice_get (all calls) k ≡ None =
        λ calls stands. none_handed (slice_get (all calls) k) (given_at None gives calls stands) in
        whole_part (k + 1) now' calls0 stands0 (stands_on now' on) (λ calls stands. take_no_more k (length w.net.arcs) (all calls) (none calls stands) (omega (arith, lt)))
        (λ calls stands. let few = few_at k (all calls) (none calls stands) in omega (arith, few))

-- ---- what is kept

module _ (w : Scenario) (routed : IsRouted w) (laws : TakeLaws) (t : ℕ) (store : Store) (relay now : Relay) (lanes : List Lane) (on : StandsOn relay now t) where
  -- a frame came out
  pub record Left (next : ArcId) (f : FrameRef) : Type 0 where
    pub calls : List Call
    pub stands : Stands now w.net w.streams calls
    pub keeps : Keeps w store lanes (inside w.net w.streams calls) (f ∷ [])
    pub over : GoesOver w f.frame next.0
    pub known : next.0 < length w.net.arcs

  pub keeps_taken : (next : ArcId) (f : FrameRef) → RelayGives relay t (Some (next, f)) → IsStanding w store relay lanes → Left next f
  keeps_taken next f gives (calls, stands, keeps) =
      let e = handed_of (leaving t (inside w.net w.streams calls)) next f (gives w.net w.streams calls stands) in
      let turn = laws.turn relay w.net w.streams calls t e.0 stands e.1 in
      let out = laws.comes_out w.net w.streams calls t turn.0 turn.1 e.0 turn.2 turn.3 in
      let before = subst (λ (xs : List Entry). Keeps w store lanes xs []) turn.2 keeps in
      let after = keep_taken w store lanes turn.0 turn.1 e.0 before in
      let moving : Keeps w store lanes (turn.0 ++ turn.1) (f ∷ []) = subst (λ (x : FrameRef). Keeps w store lanes (turn.0 ++ turn.1) (x ∷ [])) e.3 after.0 in
      let first : GoesOver w f.frame e.0.next.0 = subst (λ (x : FrameRef). GoesOver w x.frame e.0.next.0) e.3 after.1 in
      let over : GoesOver w f.frame next.0 = subst (λ (x : ArcId). GoesOver w f.frame x.0) e.2 first in
      record {
        calls = calls ++ taken t ∷ [];
        stands = on w.net w.streams calls stands;
        keeps = subst (λ (xs : List Entry). Keeps w store lanes xs (f ∷ [])) (sym out.1) moving;
        over = over;
        known = routed.arcs f.frame.0 next.0 moving.apart.each_moving.0.known over;
      }

  -- none came out
  pub keeps_none : RelayGives relay t None → IsStanding w store relay lanes → IsStanding w store now lanes
  keeps_none gives (calls, stands, keeps) =
      let none = none_handed (leaving t (inside w.net w.streams calls)) (gives w.net w.streams calls stands) in
      (calls ++ taken t ∷ [], on w.net w.streams calls stands, subst (λ (xs : List Entry). Keeps w store lanes xs []) (sym (take_none w.net w.streams calls t none)) keeps)
