-- The moments of the run in which a frame is cut, one after another, up to the end.
use Rattle.std.proofs.Common.{ℕ, zero, suc, ◌≡◌, ◌≢◌, ◌==◌, ◌+◌, ◌*◌, ◌<◌, ◌≤◌, nat_lt, nat_le, drop, ◌-◌}
use Rattle.std.proofs.Common.{Bool, true, false, [], ◌∷◌, ◌++◌, length, refl, sym, ◌∙◌, ap, inl, inr, arith, subst, Some, take}
use Rattle.std.proofs.Common.{length-append}
use Rattle.std.specs.Prelude.{if◌then◌else◌, slice_get}
use Rattle.std.proofs.lemmas.Bool.Decides.{nat_tests}
use Rattle.std.proofs.lemmas.List.{append-nil, length-take-le, take-append-drop}
use Rattle.std.proofs.Math.Seq.{take-add}
use Rattle.pre_history.specs.Selected.{frame_number}
use Rattle.pre_crc.specs.Checks.{Mcrc}
use Rattle.pre_crc.proofs.CheckFacts.{length-Mcrc}
use Rattle.pre_lldp.specs.LldpLayout.{is_lldp_frame}
use Rattle.pre_topo.specs.declared.arcs.Mode.TheVariants as mode
use Rattle.pre_mpacket.specs.declared.packets.Kind.TheVariants as kind
use Rattle.pre_mpacket.specs.Pieces.{CutRule}
use Rattle.pre_mpacket.specs.Arrivals.{Given, Gives}
use Rattle.pre_history.specs.declared.events.Outcome.TheVariants as outcome
use Rattle.pre_history.specs.Scenario.{Scenario, arc, row, FrameOf}
use Rattle.pre_history.specs.Moments.{Phase}
use Rattle.pre_history.specs.History.{PlainEvent, History, Ended}
use Rattle.pre_history.specs.Queries.{Begins, Ends, Arrivals, Entries, Packet, packet, Packets, Waiting, LastRun, Rest, Interrupted, joined_data, last_check}
use Rattle.pre_history.specs.Octets.{Air}
use Rattle.pre_history.specs.LinkState.{Active}
use Rattle.pre_history.specs.Starts.{Item, Choice, There, ExpressWaits, begun, SizeOf, IsFront, whole_frame, rest_begins, place}
use Rattle.pre_history.specs.Comings.{Comings, EntriesOf, frame_at}
use Rattle.pre_history.specs.Rules.{EndDue, Arriving, StartDue, Expiry, HappensIn, CheckOf, last_four, delivered}
use Rattle.pre_history.specs.Legal.{LegalUpTo, Spared}
use Rattle.pre_history.proofs.NatTests.{cases_eq}
use Rattle.pre_history.proofs.Undamaged.{user_frame}
use Rattle.pre_witnesses.specs.CutFrame.{enters, start_begin, express_begin, rest_begin, arrives, start_end, express_end, rest_end, delivers}
use Rattle.pre_witnesses.proofs.Steps.{step, ends_now, none_ends, arrives_now, Within, IsNotDue, turn, quiet}
use Rattle.pre_witnesses.proofs.Occupation.{busy, free, occupied_quiet, empty_quiet, rested_quiet, begins_now}
use Rattle.pre_witnesses.proofs.Receptions.{part_given}
use Rattle.pre_laws.proofs.Reassembled.{told, spelled}
use Rattle.pre_laws.proofs.Spared.{gives}
use Rattle.pre_laws.proofs.SparedFlows.{spared_gives}
use Rattle.pre_witnesses.proofs.PairCut.{Files, scenario_of, no_next, flow_prio, express_prio, flow_long, express_long, routed, none_comes, flow_comes, express_comes}

no_eq : (m n : ℕ) → m ≢ n → (m == n) ≡ false
no_eq m n e = grind (arith, nat_tests)

-- ---- the history so far

abbrev pub flow_in : History
flow_in = enters 0 0 0 ∷ []

abbrev pub start_on : History
start_on = flow_in ++ PlainEvent.begin start_begin ∷ []

abbrev pub express_in : History
express_in = start_on ++ enters 20 6 1 ∷ []

module _ (g : Files) where
  abbrev w : Scenario
  w = scenario_of g

  abbrev pub start_over : History
  start_over = express_in ++ PlainEvent.ended (start_end w) ∷ []

  abbrev pub part_there : History
  part_there = start_over ++ arrives 72 0 outcome.Part ∷ []

  abbrev pub express_on : History
  express_on = part_there ++ PlainEvent.begin express_begin ∷ []

  abbrev pub express_over : History
  express_over = express_on ++ PlainEvent.ended (express_end w) ∷ []

  abbrev pub express_there : History
  express_there = express_over ++ arrives 156 1 outcome.Frame ∷ delivers w 156 1 ∷ []

  abbrev pub rest_on : History
  rest_on = express_there ++ PlainEvent.begin rest_begin ∷ []

  abbrev pub rest_over : History
  rest_over = rest_on ++ PlainEvent.ended (rest_end w) ∷ []

  abbrev pub all_there : History
  all_there = rest_over ++ arrives 1638 2 outcome.Frame ∷ delivers w 1638 0 ∷ []

  -- ---- sizes and ends

  start_long : (h : History) (size : ℕ) → SizeOf w h (kind.Start 0) start_begin size → 64 ≤ size
  start_long h size sized = let long = flow_long g in elim sized [
    | inl (d, (least, more, waits), first, is) ↦ omega (arith, least, is)
    | inr (none, is) ↦ omega (arith, is, long)
  ]

  start_later : (h : History) (r : ℕ) → r < 72 → (e : PlainEvent) → ¬ EndDue w h r start_begin e
  start_later h r early e (size, sized, due, is) = let long = start_long h size sized in omega (arith, long, due, early)

  express_later : (h : History) (r : ℕ) → r < 156 → (e : PlainEvent) → ¬ EndDue w h r express_begin e
  express_later h r early e (size, sized, due, is) = let long = express_long g in omega (arith, long, sized, due, early)

  waits_by_then : ExpressWaits w express_in 0 68
  unfolding Waiting
  waits_by_then = (6, omega arith, omega arith, λ none. cc none)

  start_cut : CutRule (ExpressWaits w express_in 0) (begun w express_in start_begin) 64
  start_cut = let long = flow_long g in inl (60, (omega arith, omega (arith, long), waits_by_then), (λ e is. let least = is.0 in omega (arith, least)), refl)

  start_ends : EndDue w express_in 72 start_begin (PlainEvent.ended (start_end w))
  start_ends =
      let check : CheckOf w express_in start_begin 64 ≡ Mcrc (take 60 (FrameOf w 0)) = ap (λ (n : ℕ). if 64 == n then last_four (FrameOf w 0) else Mcrc (take 60 (FrameOf w 0))) (flow_long g) in
      (64, start_cut, refl, ap (λ x. PlainEvent.ended (record { tick = 72; arc = 0; ord = 0; size = 64; check = x })) (sym check))

  express_check : (h : History) → CheckOf w h express_begin 64 ≡ last_four (FrameOf w 1)
  express_check h = ap (λ (n : ℕ). if 64 == n then last_four (FrameOf w 1) else Mcrc (take 60 (FrameOf w 1))) (express_long g)

  express_ends : EndDue w express_on 156 express_begin (PlainEvent.ended (express_end w))
  express_ends = (64, sym (express_long g), refl, ap (λ x. PlainEvent.ended (record { tick = 156; arc = 0; ord = 1; size = 64; check = x })) (sym (express_check express_on)))

  -- behind the start of the express frame no other one waits
  none_waits : (p t : ℕ) → 4 ≤ p → 84 < t → Waiting rest_on 0 p t ≡ []
  unfolding Waiting
  none_waits p t low late =
      let other : (0 == p) ≡ false = grind (arith, nat_tests) in
      let early : nat_lt 0 t ≡ true = grind (arith, nat_tests) in
      let begun' : nat_lt 84 t ≡ true = grind (arith, nat_tests) in
      let by : nat_le 20 t ≡ true = grind (arith, nat_tests) in
      elim (cases_eq 6 p) [
        | inl same ↦ subst (λ x. Waiting rest_on 0 x t ≡ []) same (rw (early, begun', by) refl)
        | inr less ↦ let off = no_eq 6 p less in rw (other, off) refl
      ]

  rest_size : (size : ℕ) → SizeOf w rest_on (kind.Continue 0 0) rest_begin size → size ≡ 1462
  rest_size size sized = let long = flow_long g in elim sized [
    | inl (d, (least, more, (p, low, high, waits)), first, is) ↦ absurd (waits (none_waits p (168 + 1 * (8 + d)) low (omega arith)))
    | inr (none, is) ↦ omega (arith, is, long)
  ]

  rest_later : (r : ℕ) → r < 1638 → (e : PlainEvent) → ¬ EndDue w rest_on r rest_begin e
  rest_later r early e (size, sized, due, is) = let all = rest_size size sized in omega (arith, all, due, early)

  rest_ends : EndDue w rest_on 1638 rest_begin (PlainEvent.ended (rest_end w))
  rest_ends =
      let long = flow_long g in
      let check : CheckOf w rest_on rest_begin 1462 ≡ last_four (FrameOf w 0) = ap (λ (n : ℕ). if 1522 == n then last_four (FrameOf w 0) else Mcrc (take 1518 (FrameOf w 0))) long in
      let uncut : CutRule (ExpressWaits w rest_on 0) (begun w rest_on rest_begin) 1462
      = inr ((λ d cut. cut.2.3 (none_waits cut.2.0 (168 + 1 * (8 + d)) cut.2.1 (omega arith))), omega (arith, long)) in
      (1462, uncut, refl, ap (λ x. PlainEvent.ended (record { tick = 1638; arc = 0; ord = 2; size = 1462; check = x })) (sym check))

  -- ---- entries

  flow_enters : HappensIn w [] 0 Phase.entries flow_in
  unfolding HappensIn Waiting
  flow_enters = sym (ap (EntriesOf w 0 []) (flow_comes g []) ∙ enter (flow_prio g))
    where
      enter : (row w 0).prio ≡ 0 → EntriesOf w 0 [] (record { arc = 0; frame = 0 } ∷ []) ≡ flow_in
      enter prio = rw prio refl

  express_enters : HappensIn w start_on 20 Phase.entries (enters 20 6 1 ∷ [])
  unfolding HappensIn Waiting
  express_enters = sym (ap (EntriesOf w 20 start_on) (express_comes g start_on) ∙ enter (express_prio g))
    where
      enter : (row w 1).prio ≡ 6 → EntriesOf w 20 start_on (record { arc = 0; frame = 1 } ∷ []) ≡ enters 20 6 1 ∷ []
      enter prio = rw prio refl

  -- ---- starts

  silent : (a : ℕ) → a < 2 → (arc w a).mode ≢ mode.Negotiate
  silent zero lt e = cc e
  silent (suc zero) lt e = cc e
  silent (suc (suc a)) lt e = absurd (omega (arith, lt))

  flow_front : IsFront w flow_in 0 0 0 4 0
  unfolding Waiting
  flow_front = (0, omega arith, omega arith, ([], refl), λ q lt lt'. let other : (0 == q) ≡ false = grind (arith, nat_tests) in rw other refl)

  active : Active w flow_in 0 0
  unfolding Active
  active = tt

  flow_there : There w flow_in 0 0 Item.preemptable (whole_frame 0 (kind.Start 0))
  flow_there = (0, kind.Start 0, flow_front, inl (active, refl), refl)

  -- an item that isn't there where no express frame waits and no frame is interrupted
  not_express : (h : History) (t : ℕ) → ((p : ℕ) → 4 ≤ p → Waiting h 0 p t ≡ []) → (c : Choice) → There w h 0 t Item.express c → ⊥
  not_express h t none c (f, (p, from, to, (behind, waits), above), is) = cc (none p from, waits)

  flow_low : (p : ℕ) → 4 ≤ p → Waiting flow_in 0 p 0 ≡ []
  unfolding Waiting
  flow_low p low = let other : (0 == p) ≡ false = grind (arith, nat_tests) in rw other refl

  no_run : LastRun flow_in 0 0 ≡ []
  unfolding Packets
  no_run = refl

  flow_first : (i : Item) (c : Choice) → place i < 6 → There w flow_in 0 0 i c → ⊥
  flow_first Item.express c lt here = not_express flow_in 0 flow_low c here
  flow_first Item.respond c lt here = silent 0 (omega arith) here.0
  flow_first Item.verify c lt here = silent 0 (omega arith) here.0
  flow_first Item.lldp c lt here = silent 0 (omega arith) here.0
  flow_first Item.rest c lt (r, (first, more, run, ended, cut, left), is) = cc (no_run, run)
  flow_first Item.preemptable c lt here = absurd (omega (arith, lt))

  start_begins : HappensIn w flow_in 0 (Phase.starts 0) (PlainEvent.begin start_begin ∷ [])
  start_begins = begins_now w flow_in 0 0 Item.preemptable (whole_frame 0 (kind.Start 0)) (free w flow_in 0 0 tt) flow_there (λ j d lt. flow_first j d lt)

  express_front : IsFront w part_there 0 84 4 8 1
  unfolding Waiting
  express_front = (
    6,
    omega arith,
    omega arith,
    ([], refl),
    λ q lt lt'. let other : (6 == q) ≡ false = grind (arith, nat_tests) in let other' : (0 == q) ≡ false = grind (arith, nat_tests) in rw
        (other, other') refl,
  )

  express_first : (i : Item) (c : Choice) → place i < 1 → There w part_there 0 84 i c → ⊥
  express_first Item.express c lt here = absurd (omega (arith, lt))
  express_first Item.respond c lt here = absurd (omega (arith, lt))
  express_first Item.verify c lt here = absurd (omega (arith, lt))
  express_first Item.lldp c lt here = absurd (omega (arith, lt))
  express_first Item.rest c lt here = absurd (omega (arith, lt))
  express_first Item.preemptable c lt here = absurd (omega (arith, lt))

  express_begins : HappensIn w part_there 84 (Phase.starts 0) (PlainEvent.begin express_begin ∷ [])
  express_begins =
      begins_now w part_there 0 84 Item.express (whole_frame 1 kind.Express) (free w part_there 0 84 ((λ on. absurd (omega (arith, on.1))), tt)) (1, express_front, refl)
      (λ j d lt. express_first j d lt)

  -- the fragment that was sent is less than the frame
  abbrev first_part : Packet
  first_part = packet express_there 0 start_begin

  part_run : LastRun express_there 0 168 ≡ first_part ∷ []
  unfolding Packets
  part_run = refl

  part_long : length (joined_data w express_there (first_part ∷ [])) ≡ 60
  part_long = let long = flow_long g in ap length (append-nil (take 60 (FrameOf w 0))) ∙ length-take-le 60 (FrameOf w 0) (omega (arith, long))

  rest_there : There w express_there 0 168 Item.rest (rest_begins (record { frame = 0; from = 60; frame_count = 0; fragment_count = 0 }))
  rest_there = (
    record { frame = 0; from = 60; frame_count = 0; fragment_count = 0 },
    (
      first_part,
      [],
      part_run,
      (omega arith, tt),
      (λ whole. let long = flow_long g in let same = ap length whole in let sum = length-append (joined_data w express_there (first_part ∷ []))
          (Mcrc (take 60 (FrameOf w 0))) in let check = length-Mcrc (take 60 (FrameOf w 0)) in omega (arith, long, same, sum, check, part_long)),
      ap (λ n. record { frame = 0; from = n; frame_count = 0; fragment_count = 0 }) (sym part_long),
    ),
    refl,
  )

  express_gone : (p : ℕ) → 4 ≤ p → Waiting express_there 0 p 168 ≡ []
  unfolding Waiting
  express_gone p low =
      let other : (0 == p) ≡ false = grind (arith, nat_tests) in
      elim (cases_eq 6 p) [
        | inl same ↦ subst (λ x. Waiting express_there 0 x 168 ≡ []) same refl
        | inr less ↦ let off = no_eq 6 p less in rw (other, off) refl
      ]

  rest_first : (i : Item) (c : Choice) → place i < 5 → There w express_there 0 168 i c → ⊥
  rest_first Item.express c lt here = not_express express_there 168 express_gone c here
  rest_first Item.respond c lt here = silent 0 (omega arith) here.0
  rest_first Item.verify c lt here = silent 0 (omega arith) here.0
  rest_first Item.lldp c lt here = silent 0 (omega arith) here.0
  rest_first Item.rest c lt here = absurd (omega (arith, lt))
  rest_first Item.preemptable c lt here = absurd (omega (arith, lt))

  rest_starts : HappensIn w express_there 168 (Phase.starts 0) (PlainEvent.begin rest_begin ∷ [])
  rest_starts =
      begins_now w express_there 0 168 Item.rest (rest_begins (record { frame = 0; from = 60; frame_count = 0; fragment_count = 0 }))
      (free w express_there 0 168 ((λ on. absurd (omega (arith, on.1))), ((λ on. absurd (omega (arith, on.1))), tt))) rest_there (λ j d lt. rest_first j d lt)

  -- ---- arrivals

  pub part_told : (n : ℕ) (h : History) (legal : LegalUpTo w n h) (over : slice_get (Ends h 0) 0 ≡ Some (start_end w)) (at : slice_get (Begins h 0) 0 ≡ Some start_begin)
      → Gives (Air w h 0) 0 Given.part
  part_told n h legal over at =
      let long = flow_long g in
      part_given (Air w h 0) 0 (told w (routed g) n h legal 0 (omega arith) 0 start_begin (start_end w) at over)
      (spelled w (routed g) n h legal 0 (omega arith) 0 start_begin (start_end w) at over (refl, refl))
      0 refl (let cut = length-take-le 60 (FrameOf w 0) (omega (arith, long)) in omega (arith, cut)) refl

  part_arrives : (n : ℕ) → LegalUpTo w n start_over → Arriving w start_over 72 0 (start_end w) (arrives 72 0 outcome.Part ∷ [])
  part_arrives n legal = inl (refl, (outcome.Part, inr (inl (Given.part, part_told n start_over legal refl refl, refl)), refl))

  frame_arrives : (h : History) (f : ℕ) (e : Ended) → frame_at h 0 e.ord ≡ Some f → Gives (Air w h 0) e.ord (Given.frame (FrameOf w f))
      → Arriving w h e.tick 0 e (arrives e.tick e.ord outcome.Frame ∷ delivers w e.tick f ∷ [])
  frame_arrives h f e carries gives =
      let now : e.tick + 0 ≡ e.tick = omega arith in
      let result : outcome.Frame ≡ (if is_lldp_frame (FrameOf w f) then outcome.Lldp else outcome.Frame) = ap (λ (b : Bool). if b then outcome.Lldp else outcome.Frame) (sym (user_frame w f)) in
      let events = ap (λ o. arrives e.tick e.ord outcome.Frame ∷ delivered e.tick 1 f (FrameOf w f) o) (sym (no_next g 0 f)) in
      inl (now, (outcome.Frame, inr (inl (Given.frame (FrameOf w f), gives, result)), (f, FrameOf w f, carries, gives, events)))

  -- what carries octets of a frame is neither lost nor damaged
  spared : (h : History) (f : ℕ) → Spared w h f
  spared h f a k d lt carries = ((λ j l within. absurd (omega (arith, within))), (λ j l within. absurd (omega (arith, within))))

  pub express_given : (n : ℕ) (h : History) → LegalUpTo w n h → slice_get (Begins h 0) 1 ≡ Some express_begin → slice_get (Ends h 0) 1 ≡ Some (express_end w)
      → Gives (Air w h 0) 1 (Given.frame (FrameOf w 1))
  express_given n h legal at over = gives w (routed g) n h legal 0 (omega arith) 1 express_begin (express_end w) (record { 0 = 1 }) at over refl refl (spared h 1)

  pub rest_given : (n : ℕ) (h : History) → LegalUpTo w n h → slice_get (Begins h 0) 0 ≡ Some start_begin → slice_get (Begins h 0) 2 ≡ Some rest_begin → slice_get (Ends h 0) 2 ≡ Some (rest_end w)
      → Gives (Air w h 0) 2 (Given.frame (FrameOf w 0))
  rest_given n h legal first at over =
      spared_gives w (routed g) n h legal 0 (omega arith) (record { 0 = 0 }) (spared h 0) 0 2 start_begin rest_begin (rest_end w) first refl refl at over refl (sym (flow_long g))
      (λ k b low high here. refl)

  -- ---- what is left when all has arrived: nothing

  all_begun : (p r : ℕ) → 84 < r → Waiting all_there 0 p r ≡ []
  unfolding Waiting
  all_begun p r late =
      let early : nat_lt 0 r ≡ true = grind (arith, nat_tests) in
      let begun' : nat_lt 84 r ≡ true = grind (arith, nat_tests) in
      let by : nat_le 20 r ≡ true = grind (arith, nat_tests) in
      let by' : nat_le 0 r ≡ true = grind (arith, nat_tests) in
      elim (cases_eq 6 p) [
        | inl same ↦ subst (λ x. Waiting all_there 0 x r ≡ []) same (rw (early, begun', by) refl)
        | inr less ↦ elim (cases_eq 0 p) [
          | inl same ↦ subst (λ x. Waiting all_there 0 x r ≡ []) same (rw (early, by') refl)
          | inr other ↦ let off = no_eq 6 p less in let off' = no_eq 0 p other in rw (off, off') refl
        ]
      ]

  abbrev start_part : Packet
  start_part = packet all_there 0 start_begin

  abbrev rest_part : Packet
  rest_part = packet all_there 0 rest_begin

  both_parts : (r : ℕ) → 168 < r → LastRun all_there 0 r ≡ start_part ∷ rest_part ∷ []
  unfolding Packets
  both_parts r late =
      let early : nat_lt 0 r ≡ true = grind (arith, nat_tests) in
      let between : nat_lt 84 r ≡ true = grind (arith, nat_tests) in
      let last' : nat_lt 168 r ≡ true = grind (arith, nat_tests) in
      rw (early, between, last') refl

  parts_whole : joined_data w all_there (start_part ∷ rest_part ∷ []) ++ last_check w all_there (start_part ∷ rest_part ∷ []) ≡ FrameOf w 0
  parts_whole =
      let F = FrameOf w 0 in
      ap (λ l. (take 60 F ++ l) ++ last_four F) (append-nil (take 1458 (drop 60 F)))
      ∙ (ap (λ l. l ++ last_four F) (sym (take-add 60 1458 F)) ∙ (ap (λ n. take 1518 F ++ drop (n - 4) F) (flow_long g) ∙ take-append-drop 1518 F))

  not_interrupted : (r : ℕ) → 168 < r → (left : Rest) → ¬ Interrupted w all_there 0 r left
  not_interrupted r late left (first, more, run, ended, cut, is) =
      let same : first ∷ more ≡ start_part ∷ rest_part ∷ [] = sym run ∙ both_parts r late in
      let first_is : first ≡ start_part = cc same in
      cut (ap (λ ps. joined_data w all_there ps ++ last_check w all_there ps) same ∙ (parts_whole ∙ ap (λ (p : Packet). FrameOf w (frame_number p.begin.what)) (sym first_is)))

  all_quiet : (r : ℕ) → 1638 ≤ r → (e : PlainEvent) → ¬ StartDue w all_there r 0 e
  all_quiet r late = rested_quiet w all_there 0 r (silent 0 (omega arith)) (λ p. all_begun p r (omega (arith, late))) (not_interrupted r (omega (arith, late)))

  -- ---- stretches in which nothing happens

  -- up to moment m, on the arc a>b, while it is occupied
  idle : (h : History) (n m : ℕ) → length (Ends h 0) ≤ length (Arrivals h 0) → Begins h 1 ≡ [] → Ends h 1 ≡ [] → ((p : ℕ) → Entries h 1 p ≡ [])
      → ((r : ℕ) → Within n m r 1 → IsNotDue w h r (turn h 0))
      → ((r : ℕ) → Within n m r 7 → (r ≢ 0) × (r ≢ 20)) → ((r : ℕ) → Within n m r 8 → (e : PlainEvent) → ¬ StartDue w h r 0 e) → n ≤ m → LegalUpTo w n h → LegalUpTo w m h
  idle h n m settled begins ends entries no_end no_entry idle' le legal =
      quiet w refl refl h n m (record { settled = all_settled; no_end = none_due; no_change = steady; no_entry = no_coming; no_start = none_begins }) le legal
    where
      all_settled : (a : ℕ) → a < 2 → length (Ends h a) ≤ length (Arrivals h a)
      all_settled zero lt = settled
      all_settled (suc zero) lt = let none = ap length ends in omega (arith, none)
      all_settled (suc (suc a)) lt = absurd (omega (arith, lt))

      none_due : (a r : ℕ) → a < 2 → Within n m r (1 + a) → IsNotDue w h r (turn h a)
      none_due zero r lt within = no_end r within
      none_due (suc zero) r lt within = subst (λ xs. IsNotDue w h r (slice_get xs (length (Ends h 1)))) (sym begins) tt
      none_due (suc (suc a)) r lt within = absurd (omega (arith, lt))

      steady : (a r : ℕ) → a < 2 → Within n m r (5 + a) → LegalUpTo w (r * 10 + (5 + a)) h → Expiry w h r a []
      steady a r lt within before = inr (silent a lt, refl)

      no_coming : (r : ℕ) → Within n m r 7 → EntriesOf w r h (Comings w h r) ≡ []
      no_coming r within = let other = no_entry r within in ap (EntriesOf w r h) (none_comes g h r other.0 other.1)

      none_begins : (a r : ℕ) → a < 2 → Within n m r (8 + a) → (e : PlainEvent) → ¬ StartDue w h r a e
      none_begins zero r lt within = idle' r within
      none_begins (suc zero) r lt within = empty_quiet w h 1 r (silent 1 lt) entries begins
      none_begins (suc (suc a)) r lt within = absurd (omega (arith, lt))

  -- ---- moment by moment

  up_to_start : LegalUpTo w 9 start_on
  up_to_start =
      let l7 : LegalUpTo w 7 []
      = idle [] 0 7 (omega arith) refl refl (λ p. refl) (λ r within. tt) (λ r within. absurd (omega (arith, within.1))) (λ r within. absurd (omega (arith, within.1))) (omega arith) refl in
      let l8 : LegalUpTo w 8 flow_in = step w refl 7 [] flow_in l7 flow_enters in
      step w refl 8 flow_in (PlainEvent.begin start_begin ∷ []) l8 start_begins

  up_to_cut : LegalUpTo w 724 part_there
  up_to_cut =
      let l207 : LegalUpTo w 207 start_on
      = idle start_on 9 207 (omega arith) refl refl (λ p. refl) (λ r within. start_later start_on r (omega (arith, within.1)))
      (λ r within. ((λ e. omega (arith, e, within.0)), (λ e. omega (arith, e, within.1))))
      (λ r within. occupied_quiet w start_on 0 r (busy w start_on 0 r 0 start_begin refl (omega (arith, within.0), tt))) (omega arith) up_to_start in
      let l208 : LegalUpTo w 208 express_in = step w refl 207 start_on (enters 20 6 1 ∷ []) l207 express_enters in
      let l721 : LegalUpTo w 721 express_in
      = idle express_in 208 721 (omega arith) refl refl (λ p. refl) (λ r within. start_later express_in r (omega (arith, within.1)))
      (λ r within. ((λ e. omega (arith, e, within.0)), (λ e. omega (arith, e, within.0))))
      (λ r within. occupied_quiet w express_in 0 r (busy w express_in 0 r 0 start_begin refl (omega (arith, within.0), tt))) (omega arith) l208 in
      let l722 : LegalUpTo w 722 start_over
      = step w refl 721 express_in (PlainEvent.ended (start_end w) ∷ []) l721 (ends_now w refl express_in 72 0 (omega arith) l721 start_begin (PlainEvent.ended (start_end w)) refl start_ends) in
      let l723 : LegalUpTo w 723 start_over = step w refl 722 start_over [] l722 (none_ends w refl start_over 72 1 (omega arith) l722 tt) in
      step w refl 723 start_over (arrives 72 0 outcome.Part ∷ []) l723
      (arrives_now w refl start_over 72 0 (omega arith) l723 (arrives 72 0 outcome.Part ∷ []) (start_end w) refl (part_arrives 723 l723))

  up_to_express : LegalUpTo w 1564 express_there
  up_to_express =
      let l848 : LegalUpTo w 848 part_there
      = idle part_there 724 848 (omega arith) refl refl (λ p. refl) (λ r within. tt) (λ r within. ((λ e. omega (arith, e, within.0)), (λ e. omega (arith, e, within.0))))
      (λ r within. occupied_quiet w part_there 0 r (busy w part_there 0 r 0 start_begin refl (omega (arith, within.0), omega (arith, within.1)))) (omega arith) up_to_cut in
      let l849 : LegalUpTo w 849 express_on = step w refl 848 part_there (PlainEvent.begin express_begin ∷ []) l848 express_begins in
      let l1561 : LegalUpTo w 1561 express_on
      = idle express_on 849 1561 (omega arith) refl refl (λ p. refl) (λ r within. express_later express_on r (omega (arith, within.1)))
      (λ r within. ((λ e. omega (arith, e, within.0)), (λ e. omega (arith, e, within.0))))
      (λ r within. occupied_quiet w express_on 0 r (busy w express_on 0 r 1 express_begin refl (omega (arith, within.0), tt))) (omega arith) l849 in
      let l1562 : LegalUpTo w 1562 express_over
      = step w refl 1561 express_on (PlainEvent.ended (express_end w) ∷ []) l1561
      (ends_now w refl express_on 156 0 (omega arith) l1561 express_begin (PlainEvent.ended (express_end w)) refl express_ends) in
      let l1563 : LegalUpTo w 1563 express_over = step w refl 1562 express_over [] l1562 (none_ends w refl express_over 156 1 (omega arith) l1562 tt) in
      step w refl 1563 express_over (arrives 156 1 outcome.Frame ∷ delivers w 156 1 ∷ []) l1563
      (arrives_now w refl express_over 156 0 (omega arith) l1563 (arrives 156 1 outcome.Frame ∷ delivers w 156 1 ∷ []) (express_end w) refl
      (frame_arrives express_over 1 (express_end w) refl (express_given 1563 express_over l1563 refl refl)))

  pub up_to_end : LegalUpTo w 20010 all_there
  up_to_end =
      let l1688 : LegalUpTo w 1688 express_there
      = idle express_there 1564 1688 (omega arith) refl refl (λ p. refl) (λ r within. tt) (λ r within. ((λ e. omega (arith, e, within.0)), (λ e. omega (arith, e, within.0))))
      (λ r within. occupied_quiet w express_there 0 r (busy w express_there 0 r 1 express_begin refl (omega (arith, within.0), omega (arith, within.1)))) (omega arith) up_to_express in
      let l1689 : LegalUpTo w 1689 rest_on = step w refl 1688 express_there (PlainEvent.begin rest_begin ∷ []) l1688 rest_starts in
      let l16381 : LegalUpTo w 16381 rest_on
      = idle rest_on 1689 16381 (omega arith) refl refl (λ p. refl) (λ r within. rest_later r (omega (arith, within.1)))
      (λ r within. ((λ e. omega (arith, e, within.0)), (λ e. omega (arith, e, within.0))))
      (λ r within. occupied_quiet w rest_on 0 r (busy w rest_on 0 r 2 rest_begin refl (omega (arith, within.0), tt))) (omega arith) l1689 in
      let l16382 : LegalUpTo w 16382 rest_over
      = step w refl 16381 rest_on (PlainEvent.ended (rest_end w) ∷ []) l16381 (ends_now w refl rest_on 1638 0 (omega arith) l16381 rest_begin (PlainEvent.ended (rest_end w)) refl rest_ends) in
      let l16383 : LegalUpTo w 16383 rest_over = step w refl 16382 rest_over [] l16382 (none_ends w refl rest_over 1638 1 (omega arith) l16382 tt) in
      let l16384 : LegalUpTo w 16384 all_there
      = step w refl 16383 rest_over (arrives 1638 2 outcome.Frame ∷ delivers w 1638 0 ∷ []) l16383
      (arrives_now w refl rest_over 1638 0 (omega arith) l16383 (arrives 1638 2 outcome.Frame ∷ delivers w 1638 0 ∷ []) (rest_end w) refl
      (frame_arrives rest_over 0 (rest_end w) refl (rest_given 16383 rest_over l16383 refl refl refl))) in
      idle all_there 16384 20010 (omega arith) refl refl (λ p. refl) (λ r within. tt) (λ r within. ((λ e. omega (arith, e, within.0)), (λ e. omega (arith, e, within.0))))
      (λ r within. all_quiet r (omega (arith, within.0))) (omega arith) l16384
