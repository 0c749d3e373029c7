-- For which calls so far a verifier stands.
use Rattle.std.specs.Prelude.{◌≡◌, ℕ, ◌+◌, ◌<◌, ◌≤◌, ◌&&◌, ◌||◌, ◌==◌, nat_le, nat_lt, not, Bool, true, false}
use Rattle.std.specs.Prelude.{List, [], length, is_some, is_none, Option, Some, None, option_map, ⊤}
use Rattle.std.specs.List.{list_any}
use Rattle.std.specs.Option.{option_map_or}
use Rattle.pre_lldp.specs.LinkState.{Verify, verifies_since, last_verify, run_start, is_answered, is_verified_since}
use Rattle.pre_verify.specs.Calls.{Call, last_tick, good_of, verifies_of, responds_of}
use Rattle.pre_verify.specs.declared.verifiers.Verifier.{Verifier}

-- the tick, where there is one, is at most that, or below it
abbrev pub IsBy : Option ℕ → ℕ → Type 0
IsBy None t = ⊤
IsBy (Some s) t = s ≤ t

abbrev pub IsBelow : Option ℕ → ℕ → Type 0
IsBelow None t = ⊤
IsBelow (Some s) t = s < t

abbrev pub IsFrom : ℕ → Option ℕ → Type 0
IsFrom t None = ⊥
IsFrom t (Some s) = t ≤ s

-- No verify began after Good was settled last.
abbrev pub IsQuiet : Option ℕ → Option ℕ → Type 0
IsQuiet last None = last ≡ None
IsQuiet last (Some s) = IsBy last s

-- what a verifier knows of a run of Good that began at u
pub record IsRun (settled : Option ℕ) (latest attempts : ℕ) (last first : Option ℕ) (verifies : List Verify) (u : ℕ) : Type 0 where
  pub settled_is : is_some settled ≡ true
  pub began : u ≤ latest
  pub count : length (verifies_since u verifies) ≡ attempts
  pub recent : 0 < attempts → IsFrom u last
  pub first_is : (r : ℕ) → list_any (λ verify. nat_le u verify.began && nat_lt verify.began r) verifies ≡ option_map_or (λ b. nat_lt b r) first false
  pub first_by : IsBy first latest

-- and where Good doesn't hold
abbrev pub IsPresent : Option ℕ → ℕ → ℕ → Option ℕ → Option ℕ → List Verify → Option ℕ → Type 0
IsPresent settled latest attempts last first verifies None = IsQuiet last settled
IsPresent settled latest attempts last first verifies (Some u) = IsRun settled latest attempts last first verifies u

pub record Stands (v : Verifier) (wait : ℕ) (calls : List Call) : Type 0 where
  pub wait_is : v.wait ≡ wait
  pub latest : v.latest.0 ≡ last_tick calls
  pub settled_by : IsBy (option_map (λ tick. tick.0) v.settled) v.latest.0
  pub last_by : IsBy v.last v.latest.0
  pub steady : (t : ℕ) → IsBy (option_map (λ tick. tick.0) v.settled) t → good_of calls t ≡ is_some v.since
  pub run : run_start (good_of calls) v.latest.0 ≡ v.since
  pub heard : (t began : ℕ) → v.latest.0 ≤ t → is_answered (responds_of calls) t began ≡ is_answered (responds_of calls) v.latest.0 began
  pub verified : v.verified ≡ is_verified_since (verifies_of calls) (responds_of calls) v.latest.0 v.since
  pub last : last_verify (verifies_of calls) ≡ option_map (λ b. record { began = b; ended = v.ended }) v.last
  pub newest : (u : ℕ) → IsBelow v.last u → verifies_since u (verifies_of calls) ≡ []
  pub present : IsPresent (option_map (λ tick. tick.0) v.settled) v.latest.0 v.attempts v.last v.first (verifies_of calls) v.since

-- a verify is under way
unfoldable pub is_under_way : Verifier → Bool
is_under_way v = is_some v.last && is_none v.ended

-- no verify began in the present run of Good, or the verify time after the last one is over
abbrev pub waited : Verifier → ℕ → Bool
waited v t = (v.attempts == 0) || option_map_or (λ ended. nat_le (ended + v.wait) t) v.ended false

-- a verify is wanted, or may be later
abbrev pub is_trying : Verifier → Bool
is_trying v = is_some v.since && not v.verified && nat_lt v.attempts 3

-- a verify is wanted
unfoldable pub is_wanting : Verifier → ℕ → Bool
is_wanting v t = is_trying v && waited v t
