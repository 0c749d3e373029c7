-- There is one legal history, or one first alias.
use Rattle.std.proofs.Common.{ℕ, suc, ◌≡◌, ◌⊎◌, ◌+◌, ◌*◌, ◌<◌, ◌≤◌, [], ◌∷◌, ◌++◌, length, refl, sym, ◌∙◌, ap, inl, inr, arith, subst, zero, List}
use Rattle.std.specs.Prelude.{count_by}
use Rattle.std.proofs.lemmas.Bool.{cases_lt}
use Rattle.std.proofs.Math.Nat.{mul-le-mul_right}
use Rattle.pre_history.specs.Scenario.{Scenario}
use Rattle.pre_history.specs.Moments.{Phase, Moment, moments}
use Rattle.pre_history.specs.History.{PlainEvent, History, Counts}
use Rattle.pre_history.specs.Queries.{Begins, Arrivals}
use Rattle.pre_history.specs.Placed.{moment_of}
use Rattle.pre_history.specs.Legal.{LegalBefore, Legal, ArrivesAsAlias, FirstAliasAt, last_moment, closing, CountLines, count_line}
use Rattle.pre_history.proofs.OneHistory.{legal_one}
use Rattle.pre_history.proofs.FirstAliases.{AliasNext, arrivals_at, goes_on, not_both}
use Rattle.pre_mpacket.proofs.CountersFound.{counters_some}
use Rattle.pre_history.proofs.Known.{one_given}
use Rattle.pre_history.proofs.Rising.{ends_rise}
use Rattle.pre_history.specs.Octets.{Air}
use Rattle.pre_mpacket.specs.Arrivals.{is_continue}

-- moments of a tick up to `until` are those before the last moment
pub tick_up_to : (size t u k : ℕ) → t * size + k < (u + 1) * size → t ≤ u
tick_up_to size t u k lt = elim (cases_lt u t) [
  | inr le ↦ le
  | inl more ↦ let reach : (u + 1) * size ≤ t * size = mul-le-mul_right size (let le : u + 1 ≤ t = omega (arith, more) in le) in absurd (omega (arith, reach, lt))
]

before_last : (size t u k : ℕ) → k < size → t ≤ u → t * size + k < (u + 1) * size
before_last size t u k lt le =
    let reach : (t + 1) * size ≤ (u + 1) * size = mul-le-mul_right size (let more : t + 1 ≤ u + 1 = omega (arith, le) in more) in
    let next : (t + 1) * size ≡ t * size + size = omega arith in
    omega (arith, reach, next, lt)

-- a first alias before the last moment is due up to `until`
first_alias : (w : Scenario) (m : ℕ) (h : History) → m < last_moment w → LegalBefore w h m → AliasNext w h m → (t a i : ℕ) × FirstAliasAt w h t a i
first_alias w m h lt before (t, a, i, a_lt, is, alias) =
    (t, a, i, (tick_up_to (moments (length w.net.arcs)) t w.script.until.0 (1 + length w.net.arcs + a) (subst (λ k. k < last_moment w) is lt), a_lt, subst (LegalBefore w h) is before, alias))

-- the `count` lines of a history
lines_some : (w : Scenario) (h : History) (n : ℕ) → (es : List PlainEvent) × CountLines w h n es
lines_some w h zero = ([], refl)
lines_some w h (suc a) =
    let before = lines_some w h a in
    let o = counters_some (Air w h a) (length (Arrivals h a)) in
    let c : Counts = record { err = o.0; smd = o.1; ok = o.2; rx = o.3; tx = count_by (λ b. is_continue b.kind) (Begins h a) } in
    (before.0 ++ count_line a c, (before.0, c, before.1, (o.4, refl), refl))

pub some_history : (w : Scenario) → ((h : History) × Legal w h) ⊎ ((h : History) × (t a i : ℕ) × FirstAliasAt w h t a i)
some_history w = elim (goes_on w (last_moment w)) [
  | inr (m, h, lt, before, alias) ↦ let f = first_alias w m h lt before alias in inr (h, f.0, f.1, f.2, f.3)
  | inl (body, legal) ↦
      let lines = lines_some w body (length w.net.arcs) in
      inl (body ++ lines.0 ++ PlainEvent.end (closing w body) ∷ [], (body, lines.0, legal, lines.1, refl))
]

pub never_both : (w : Scenario) (g h : History) (t a i : ℕ) → Legal w g → FirstAliasAt w h t a i → ⊥
never_both w g h t a i (body, counts, legal, lines, is) (le, a_lt, before, alias) =
    not_both w (last_moment w) t a i body h legal a_lt (before_last (moments (length w.net.arcs)) t w.script.until.0 (1 + length w.net.arcs + a) (omega (arith, a_lt)) le) before.0 alias

-- two histories that are legal before one moment are the same
pub one_before : (w : Scenario) (n : ℕ) (g h : History) → LegalBefore w g n → LegalBefore w h n → g ≡ h
one_before w n g h legal legal' = legal_one one_given w n g h legal.0 legal'.0

-- there is one first alias
pub one_alias : (w : Scenario) (g h : History) (s a i t b j : ℕ) → FirstAliasAt w g s a i → FirstAliasAt w h t b j → (g ≡ h) × (s ≡ t) × (a ≡ b) × (i ≡ j)
one_alias w g h s a i t b j (le, a_lt, before, alias) (le', b_lt, before', alias') = elim (cases_lt m n) [
  | inl less ↦ absurd (not_both w n s a i h g before' a_lt less before.0 alias)
  | inr not_less ↦ elim (cases_lt n m) [
    | inl more ↦ absurd (not_both w m t b j g h before b_lt more before'.0 alias')
    | inr not_more ↦ at_once (let same : m ≡ n = omega (arith, not_less, not_more) in same)
  ]
]
  where
    m : ℕ
    m = moment_of w s (Phase.arrivals a)

    n : ℕ
    n = moment_of w t (Phase.arrivals b)

    -- of two that are due at one tick neither comes first
    one_due : (k l : ℕ) → ArrivesAsAlias w g s a k → ArrivesAsAlias w g s a l → k < l → ⊥
    one_due k l (d, at, due, x) (e, at', due', y) lt = let later = ends_rise w m g before.0 a a_lt k l d e lt at at' in omega (arith, later, due, due')

    at_once : m ≡ n → (g ≡ h) × (s ≡ t) × (a ≡ b) × (i ≡ j)
    at_once same =
        let moment : record { tick = s; phase = Phase.arrivals a } ≡ record { tick = t; phase = Phase.arrivals b } = sym (arrivals_at w m s a a_lt refl) ∙ arrivals_at w m t b b_lt same in
        let tick_is : s ≡ t = ap (λ (m : Moment). m.tick) moment in
        let phases : Phase.arrivals a ≡ Phase.arrivals b = ap (λ (m : Moment). m.phase) moment in
        let arc_is : a ≡ b = cc phases in
        let history : g ≡ h = one_before w m g h before (subst (LegalBefore w h) (sym same) before') in
        let other : ArrivesAsAlias w g s a j = subst (λ x. ArrivesAsAlias w g s x j) (sym arc_is) (subst (λ x. ArrivesAsAlias w g x b j) (sym tick_is) (subst (λ (x : History). ArrivesAsAlias w x t b j) (sym history) alias')) in
        (history, tick_is, arc_is, place alias other)
      where
        place : ArrivesAsAlias w g s a i → ArrivesAsAlias w g s a j → i ≡ j
        place x y = elim (cases_lt i j) [
          | inl less ↦ absurd (one_due i j x y less)
          | inr not_less ↦ elim (cases_lt j i) [ inl more ↦ absurd (one_due j i y x more) | inr not_more ↦ omega (arith, not_less, not_more) ]
        ]
