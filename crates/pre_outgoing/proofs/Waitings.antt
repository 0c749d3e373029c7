-- While no mPacket begins, an express frame that waits goes on waiting; and none waits that has not entered.
use Rattle.std.proofs.Common.{ℕ, ◌≡◌, ◌≢◌, ◌==◌, ◌&&◌, ◌||◌, ◌+◌, ◌*◌, ◌<◌, ◌≤◌, nat_lt, nat_le, not}
use Rattle.std.proofs.Common.{Bool, true, false, List, [], ◌∷◌, refl, ◌∙◌, ap, inl, inr, arith, Some, filter}
use Rattle.std.specs.Prelude.{slice_get, ◌↔◌}
use Rattle.std.specs.List.{list_any, AllByRecursion as Every}
use Rattle.std.proofs.Math.Nat.{mul-le-mul_left}
use Rattle.std.proofs.lemmas.Bool.{cases_lt}
use Rattle.std.proofs.lemmas.Bool.Decides.{nat_tests}
use Rattle.pre_mpacket.specs.Pieces.{Begun, CutRule}
use Rattle.pre_history.specs.Scenario.{Scenario}
use Rattle.pre_history.specs.History.{History, Begin}
use Rattle.pre_history.specs.Selected.{RingEntry, what_is}
use Rattle.pre_history.specs.Queries.{Begins, Entries, begun_before, Waiting}
use Rattle.pre_history.specs.Starts.{ExpressWaits}
use Rattle.pre_history.proofs.Chosen.{from_filter, into_filter, from_map, into_map}

-- ---- tests of lists

any_weaker : {X : Type 0} (f g : X → Bool) (xs : List X) → Every (λ x. f x ≡ true → g x ≡ true) xs → list_any f xs ≡ true → list_any g xs ≡ true
any_weaker f g [] weak is = is
any_weaker {X} f g (x ∷ xs) (here, more) is = go (f x) (list_any f xs) here (any_weaker f g xs more) is
  where
    or_right : (b : Bool) → (b || true) ≡ true
    or_right true = refl
    or_right false = refl

    go : (b c : Bool) → (b ≡ true → g x ≡ true) → (c ≡ true → list_any g xs ≡ true) → (b || c) ≡ true → (g x || list_any g xs) ≡ true
    go true c first rest is = ap (λ y. y || list_any g xs) (first refl)
    go false c first rest is = ap (λ y. g x || y) (rest is) ∙ or_right (g x)

some_there : {X : Type 0} (xs : List X) → xs ≢ [] → (x : X) × (slice_get xs 0 ≡ Some x)
some_there [] some = absurd (some refl)
some_there (x ∷ xs) some = (x, refl)

not_nil : {X : Type 0} (xs : List X) (i : ℕ) (x : X) → slice_get xs i ≡ Some x → xs ≢ []
not_nil [] i x at is = absurd (cc at)
not_nil (y ∷ xs) i x at is = absurd (cc is)

not_flips : (b c : Bool) → (b ≡ true → c ≡ true) → not c ≡ true → not b ≡ true
not_flips true c to is = absurd (cc (to refl, is))
not_flips false c to is = refl

-- ---- what waits at one tick and at another

abbrev waits : History → ℕ → ℕ → RingEntry → Bool
waits h a t e = e.entered && nat_le e.tick t && not (begun_before h a t e.frame)

waiting_weaker : (h : History) (a p s t : ℕ) → ((i : ℕ) (e : RingEntry) → slice_get (Entries h a p) i ≡ Some e → waits h a s e ≡ true → waits h a t e ≡ true)
    → Waiting h a p s ≢ [] → Waiting h a p t ≢ []
unfolding Waiting
waiting_weaker h a p s t weak some =
    let x = some_there (Waiting h a p s) some in
    let m = from_map (λ (e : RingEntry). e.frame) (filter (waits h a s) (Entries h a p)) 0 x.0 x.1 in
    let e = from_filter (waits h a s) (Entries h a p) 0 m.0 m.1 in
    let i = into_filter (waits h a t) (Entries h a p) e.0 m.0 e.1 (weak e.0 m.0 e.1 e.2) in
    not_nil (Waiting h a p t) i.0 m.0.frame (into_map (λ (e : RingEntry). e.frame) (filter (waits h a t) (Entries h a p)) i.0 m.0 i.1)

begun_first : (s t f : ℕ) (b : Begin) → (nat_lt b.tick t ≡ true → nat_lt b.tick s ≡ true) → (nat_lt b.tick t && what_is b.what f && (b.from == 0)) ≡ true
    → (nat_lt b.tick s && what_is b.what f && (b.from == 0)) ≡ true
begun_first s t f b early is = go (nat_lt b.tick t) (nat_lt b.tick s) (what_is b.what f) (b.from == 0) early is
  where
    go : (x y u v : Bool) → (x ≡ true → y ≡ true) → (x && u && v) ≡ true → (y && u && v) ≡ true
    go true true u v to is = is
    go true false u v to is = absurd (cc (to refl))
    go false y u v to is = absurd (cc is)

begun_weaker : (h : History) (a s t f : ℕ) → Every (λ (b : Begin). b.tick < t → b.tick < s) (Begins h a) → begun_before h a t f ≡ true → begun_before h a s f ≡ true
begun_weaker h a s t f early is =
    any_weaker (λ (b : Begin). nat_lt b.tick t && what_is b.what f && (b.from == 0)) (λ (b : Begin). nat_lt b.tick s && what_is b.what f && (b.from == 0)) (Begins h a)
    (go (Begins h a) early) is
  where
    tests : (b : Begin) → (b.tick < t → b.tick < s) → nat_lt b.tick t ≡ true → nat_lt b.tick s ≡ true
    tests b to is = let lt : b.tick < t = grind (arith, nat_tests) in let lt' : b.tick < s = to lt in grind (arith, nat_tests)

    go : (bs : List Begin) → Every (λ (b : Begin). b.tick < t → b.tick < s) bs
        → Every (λ (b : Begin). (nat_lt b.tick t && what_is b.what f && (b.from == 0)) ≡ true → (nat_lt b.tick s && what_is b.what f && (b.from == 0)) ≡ true) bs
    go [] early = tt
    go (b ∷ bs) (here, more) = (begun_first s t f b (tests b here), go bs more)

three : (b c d e f : Bool) → (c ≡ true → e ≡ true) → (d ≡ true → f ≡ true) → (b && c && d) ≡ true → (b && e && f) ≡ true
three true true true e f c_to d_to is = let p = c_to refl in let q = d_to refl in rw (p, q) refl
three true true false e f c_to d_to is = absurd (cc is)
three true false d e f c_to d_to is = absurd (cc is)
three false c d e f c_to d_to is = absurd (cc is)

-- it goes on waiting where nothing begins
pub waits_on : (w : Scenario) (h : History) (a s t : ℕ) → s ≤ t → Every (λ (b : Begin). b.tick < t → b.tick < s) (Begins h a) → ExpressWaits w h a s → ExpressWaits w h a t
waits_on w h a s t le early (p, from, below, some) = (
  p,
  from,
  below,
  waiting_weaker h a p s t (λ i e at is. three e.entered (nat_le e.tick s) (not (begun_before h a s e.frame)) (nat_le e.tick t) (not (begun_before h a t e.frame)) (later e)
      (not_flips (begun_before h a t e.frame) (begun_before h a s e.frame) (begun_weaker h a s t e.frame early)) is) some,
)
  where
    later : (e : RingEntry) → nat_le e.tick s ≡ true → nat_le e.tick t ≡ true
    later e is = let by : e.tick ≤ s = grind (arith, nat_tests) in grind (arith, nat_tests)

-- it waited before where nothing entered since
pub waited_before : (w : Scenario) (h : History) (a s t : ℕ) → s ≤ t → ((p i : ℕ) (e : RingEntry) → slice_get (Entries h a p) i ≡ Some e → e.tick ≤ s) → ExpressWaits w h a t → ExpressWaits w h a s
waited_before w h a s t le entered (p, from, below, some) = (
  p,
  from,
  below,
  waiting_weaker h a p t s (λ i e at is. three e.entered (nat_le e.tick t) (not (begun_before h a t e.frame)) (nat_le e.tick s) (not (begun_before h a s e.frame)) (by e (entered p i e at))
      (not_flips (begun_before h a s e.frame) (begun_before h a t e.frame) (begun_weaker h a t s e.frame (all (Begins h a)))) is) some,
)
  where
    by : (e : RingEntry) → e.tick ≤ s → nat_le e.tick t ≡ true → nat_le e.tick s ≡ true
    by e lt is = grind (arith, nat_tests)

    all : (bs : List Begin) → Every (λ (b : Begin). b.tick < s → b.tick < t) bs
    all [] = tt
    all (b ∷ bs) = (λ lt. omega (arith, lt, le), all bs)

-- ---- a size that fits what waits after the begin and up to the end

pub cut_between : (W V : ℕ → Type 0) (b : Begun) (size : ℕ) → 1 ≤ b.octet_ticks
    → ((t : ℕ) → b.tick < t → t < b.tick + b.octet_ticks * (size + 8) → W t ↔ V t)
    → CutRule W b size → CutRule V b size
cut_between W V b size some same (inl (d, (long, left, waits'), least, is)) =
    let reach : b.octet_ticks * (1 + (8 + d)) ≤ b.octet_ticks * (size + 8) = mul-le-mul_left b.octet_ticks (omega (arith, is)) in
    let after : b.octet_ticks * 8 ≤ b.octet_ticks * (8 + d) = mul-le-mul_left b.octet_ticks (omega arith) in
    let now : b.tick + b.octet_ticks * (8 + d) < b.tick + b.octet_ticks * (size + 8) = omega (arith, reach, some) in
    inl (
      d,
      (long, left, (same (b.tick + b.octet_ticks * (8 + d)) (omega (arith, after, some)) now).0 waits'),
      (λ e cut. elim (cases_lt e d) [
        | inr le ↦ le
        | inl lt ↦
            let reach' : b.octet_ticks * (8 + e) ≤ b.octet_ticks * (8 + d) = mul-le-mul_left b.octet_ticks (omega (arith, lt)) in
            let after' : b.octet_ticks * 8 ≤ b.octet_ticks * (8 + e) = mul-le-mul_left b.octet_ticks (omega arith) in
            least e (cut.0, cut.1, (same (b.tick + b.octet_ticks * (8 + e)) (omega (arith, after', some)) (omega (arith, reach', now))).1 cut.2)
      ]),
      is,
    )
cut_between W V b size some same (inr (none, is)) =
    inr (
      (λ e cut.
          let reach : b.octet_ticks * (1 + (8 + e)) ≤ b.octet_ticks * (size + 8) = mul-le-mul_left b.octet_ticks (omega (arith, is, cut.1)) in
          let after : b.octet_ticks * 8 ≤ b.octet_ticks * (8 + e) = mul-le-mul_left b.octet_ticks (omega arith) in
          none e (cut.0, cut.1, (same (b.tick + b.octet_ticks * (8 + e)) (omega (arith, after, some)) (omega (arith, reach, some))).1 cut.2)),
      is,
    )
