-- What a list of calls of a verifier tells of ticks, and what follows from it.
use Rattle.std.specs.Prelude.{◌≡◌, ℕ, ◌<◌, ◌≤◌, ◌&&◌, nat_le, not, Bool, false, if◌then◌else◌, List, [], ◌∷◌}
use Rattle.std.specs.Prelude.{◌++◌, length, fold, filter_map, Option, Some, None, is_none}
use Rattle.pre_lldp.specs.LinkState.{Verify, verifies_since, last_verify, run_start, is_over, is_verified, is_verify_wanted}
use Rattle.pre_verify.specs.declared.states.VerifyState.{VerifyState}
use Rattle.pre_verify.specs.declared.states.VerifyState.TheVariants.{Idle, Wanted, Sending, Waiting, Failed, Verified}

-- a call, with its tick
pub data Call : Type 0 where
  settled : ℕ → Bool → Call
  begun : ℕ → Call
  ended : ℕ → Call
  responded : ℕ → Call

abbrev pub tick_of : Call → ℕ
tick_of (settled t good) = t
tick_of (begun t) = t
tick_of (ended t) = t
tick_of (responded t) = t

-- the tick of the last one, and 0 where there is none
abbrev pub last_tick : List Call → ℕ
last_tick calls = fold (λ before call. tick_of call) 0 calls

-- Good at a tick, as the last call that settles it for this tick says; where none does it doesn't hold
abbrev pub settles : ℕ → Bool → Call → Bool
settles t before (settled s good) = if nat_le s t then good else before
settles t before _ = before

abbrev pub good_of : List Call → ℕ → Bool
good_of calls t = fold (settles t) false calls

-- the list of verifies with the last one ended
abbrev pub end_last : ℕ → List Verify → List Verify
end_last t [] = []
end_last t (verify ∷ []) = record verify { ended = Some t } ∷ []
end_last t (verify ∷ next ∷ more) = verify ∷ end_last t (next ∷ more)

abbrev pub tells : List Verify → Call → List Verify
tells verifies (begun t) = verifies ++ record { began = t; ended = None } ∷ []
tells verifies (ended t) = end_last t verifies
tells verifies _ = verifies

-- the verifies that began
abbrev pub verifies_of : List Call → List Verify
verifies_of calls = fold tells [] calls

abbrev pub respond_tick : Call → Option ℕ
respond_tick (responded t) = Some t
respond_tick _ = None

-- the ticks at which responds came
abbrev pub responds_of : List Call → List ℕ
responds_of calls = filter_map respond_tick calls

-- whether the link is verified at a tick, and whether a verify is wanted there, by the calls and nothing later
abbrev pub verified_at : List Call → ℕ → Bool
verified_at calls t = is_verified (good_of calls) (verifies_of calls) (responds_of calls) t

abbrev pub wanted_at : ℕ → List Call → ℕ → Bool
wanted_at wait calls t = is_verify_wanted (good_of calls) (verifies_of calls) (responds_of calls) wait t

-- whether the last verify hasn't ended
abbrev pub is_going : Option Verify → Bool
is_going None = false
is_going (Some verify) = is_none verify.ended

-- whether three verifies began in a run of Good, and the verify time after the last is over
abbrev pub has_failed_since : ℕ → List Verify → ℕ → Option ℕ → Bool
has_failed_since wait verifies t None = false
has_failed_since wait verifies t (Some u) = nat_le 3 (length (verifies_since u verifies)) && is_over wait t (last_verify (verifies_since u verifies))

abbrev pub has_failed : ℕ → List Call → ℕ → Bool
has_failed wait calls t = has_failed_since wait (verifies_of calls) t (run_start (good_of calls) t)

-- the state at a tick: the first of these that holds
abbrev pub state_at : ℕ → List Call → ℕ → VerifyState
state_at wait calls t =
    if not (good_of calls t) then Idle
    else if verified_at calls t then Verified
    else if is_going (last_verify (verifies_of calls)) then Sending
    else if has_failed wait calls t then Failed
    else if wanted_at wait calls t then Wanted
    else Waiting

-- what may change with time alone
abbrev pub Same : ℕ → List Call → ℕ → ℕ → Type 0
Same wait calls s t = (verified_at calls t ≡ verified_at calls s) × (wanted_at wait calls t ≡ wanted_at wait calls s)

-- It is the first later tick at which one of them changes, or there is none.
abbrev pub IsDue : ℕ → List Call → Option ℕ → Type 0
IsDue wait calls None = (t : ℕ) → last_tick calls ≤ t → Same wait calls (last_tick calls) t
IsDue wait calls (Some due) =
    (last_tick calls < due) × (¬ Same wait calls (last_tick calls) due)
    × ((t : ℕ) → last_tick calls ≤ t → t < due → Same wait calls (last_tick calls) t)
