-- The state of a link that negotiates preemption (IEEE 802.3 clause 99.4.3), as conditions on ticks: those at which Good
-- holds, those at which verifies began and ended, and those at which responds came.
use Rattle.std.specs.Prelude.{◌≡◌, ℕ, zero, suc, ◌+◌, ◌<◌, ◌≤◌, ◌&&◌, nat_le, nat_lt, not, Bool, true, false}
use Rattle.std.specs.Prelude.{if◌then◌else◌, List, length, filter, Any, Option, Some, None, unwrap_or, MatchOption, ⊤}
use Rattle.std.specs.List.{list_any}
use Rattle.std.specs.Option.{option_map_or}
use Rattle.pre_base.specs.Last.{last}

-- a verify: when it began, and when it ended if it has
pub record Verify : Type 0 where
  pub began : ℕ
  pub ended : Option ℕ

-- Good holds at each tick from u to t.
abbrev pub GoodFrom : (ℕ → Type 0) → ℕ → ℕ → Type 0
GoodFrom Good u t = (u ≤ t) × ((i : ℕ) → u ≤ i → i ≤ t → Good i)

-- u is the first tick of the run of Good that t lies in.
abbrev pub GoodSince : (ℕ → Type 0) → ℕ → ℕ → Type 0
GoodSince Good u t = GoodFrom Good u t × ((v : ℕ) → GoodFrom Good v t → u ≤ v)

-- A verify began in the present run of Good, and a respond came after that tick.
abbrev pub Verified : (ℕ → Type 0) → List Verify → List ℕ → ℕ → Type 0
Verified Good verifies responds t =
    (u : ℕ) × GoodFrom Good u t × Any (λ verify. (u ≤ verify.began) × Any (λ r. (verify.began < r) × (r ≤ t)) responds) verifies

-- the verifies of a run of Good that began at u
abbrev pub verifies_since : ℕ → List Verify → List Verify
verifies_since u verifies = filter (λ verify. nat_le u verify.began) verifies

abbrev pub last_verify : List Verify → Option Verify
last_verify verifies = last verifies

-- There was no verify, or the last one has ended and the verify time after it is over.
abbrev pub IsOver : ℕ → ℕ → Option Verify → Type 0
IsOver wait t None = ⊤
IsOver wait t (Some verify) = MatchOption verify.ended ⊥ (λ ended. ended + wait ≤ t)

-- Good holds and the link isn't verified; fewer than three verifies began in the present run of Good, and the verify time after
-- the last of them is over. The list has the verifies that began so far.
abbrev pub VerifyWanted : (ℕ → Type 0) → List Verify → List ℕ → ℕ → ℕ → Type 0
VerifyWanted Good verifies responds wait t =
    ¬ Verified Good verifies responds t
    × ((u : ℕ) × GoodSince Good u t × (length (verifies_since u verifies) < 3) × IsOver wait t (last_verify (verifies_since u verifies)))

-- ---- the same, computed

-- the first tick of the run that a tick lies in
abbrev pub run_start : (ℕ → Bool) → ℕ → Option ℕ
run_start good zero = if good 0 then Some 0 else None
run_start good (suc t) = if good (suc t) then Some (unwrap_or (run_start good t) (suc t)) else None

abbrev pub is_answered : List ℕ → ℕ → ℕ → Bool
is_answered responds t began = list_any (λ r. nat_lt began r && nat_le r t) responds

abbrev pub is_verified_since : List Verify → List ℕ → ℕ → Option ℕ → Bool
is_verified_since verifies responds t None = false
is_verified_since verifies responds t (Some u) = list_any (λ verify. nat_le u verify.began && is_answered responds t verify.began) verifies

abbrev pub is_verified : (ℕ → Bool) → List Verify → List ℕ → ℕ → Bool
is_verified good verifies responds t = is_verified_since verifies responds t (run_start good t)

abbrev pub is_over : ℕ → ℕ → Option Verify → Bool
is_over wait t None = true
is_over wait t (Some verify) = option_map_or (λ ended. nat_le (ended + wait) t) verify.ended false

abbrev pub is_wanted_since : List Verify → ℕ → ℕ → Option ℕ → Bool
is_wanted_since verifies wait t None = false
is_wanted_since verifies wait t (Some u) = nat_lt (length (verifies_since u verifies)) 3 && is_over wait t (last_verify (verifies_since u verifies))

abbrev pub is_verify_wanted : (ℕ → Bool) → List Verify → List ℕ → ℕ → ℕ → Bool
is_verify_wanted good verifies responds wait t = not (is_verified good verifies responds t) && is_wanted_since verifies wait t (run_start good t)

-- Good by a test
abbrev pub AtTrue : (ℕ → Bool) → ℕ → Type 0
AtTrue good t = good t ≡ true
