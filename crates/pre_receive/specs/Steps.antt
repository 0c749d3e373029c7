-- What an mPacket comes to by its own octets and those of the open frame.
use Rattle.std.specs.Prelude.{◌≡◌, ◌≢◌, ◌⊎◌, ℕ, ◌+◌, ◌%◌, ◌<◌, ◌≤◌, List, ◌++◌, length, replicate, Option, Some, None}
use Rattle.pre_base.specs.declared.limits.TheConstants.{LEAST_DATA, GREATEST_DATA}
use Rattle.pre_crc.specs.Checks.{Fcs, Mcrc}
use Rattle.pre_crc.specs.Register as register
use Rattle.pre_receive.specs.declared.taken.Cause.TheVariants as cause
use Rattle.pre_receive.specs.declared.opened.Opened.{Opened}
use Rattle.pre_receive.specs.declared.outcomes.Outcome.{Outcome}
use Rattle.pre_receive.specs.declared.outcomes.Outcome.TheVariants as outcome
use Rattle.pre_receive.specs.Held.{IsOf}

-- an express mPacket, and the frame that is kept of it
abbrev pub ExpressTo : Outcome → List ℕ → List ℕ → List ℕ → Type 0
ExpressTo outcome.Express mdata check whole = (length mdata ≤ GREATEST_DATA) × (check ≡ Fcs mdata) × (whole ≡ mdata ++ check)
ExpressTo (outcome.Nothing c) mdata check whole = ((c ≡ cause.Size) × (GREATEST_DATA < length mdata)) ⊎ ((c ≡ cause.Check) × (length mdata ≤ GREATEST_DATA) × (check ≢ Fcs mdata))
ExpressTo _ mdata check whole = ⊥

-- a verify or respond, where this is the outcome of a good one
abbrev pub BareTo : Outcome → Outcome → List ℕ → List ℕ → Type 0
BareTo good o mdata check =
    (o ≡ good) × (mdata ≡ replicate LEAST_DATA 0) × (check ≡ Mcrc mdata)
    ⊎ (o ≡ outcome.Nothing cause.Size) × (length mdata ≢ LEAST_DATA)
    ⊎ (o ≡ outcome.Nothing cause.Check) × (length mdata ≡ LEAST_DATA) × ¬ ((mdata ≡ replicate LEAST_DATA 0) × (check ≡ Mcrc mdata))

-- what is open, with these counts and octets
abbrev pub Opens : Option Opened → ℕ → ℕ → List ℕ → Type 0
Opens None frame_count next octets = ⊥
Opens (Some o) frame_count next octets = IsOf o frame_count next octets

-- data that is joined, whose next fragment count is this, with the check behind it; and what is kept of it
abbrev pub JoinedTo : Outcome → ℕ → ℕ → List ℕ → List ℕ → Option Opened → List ℕ → Type 0
JoinedTo outcome.Joined frame_count next all check now_open kept =
    (length all ≤ GREATEST_DATA) × (check ≡ Fcs all) × (now_open ≡ None) × (kept ≡ all ++ check)
JoinedTo outcome.Part frame_count next all check now_open kept =
    (length all ≤ GREATEST_DATA) × (check ≡ Mcrc all) × Opens now_open frame_count next all × (kept ≡ all)
JoinedTo (outcome.Nothing c) frame_count next all check now_open kept =
    (now_open ≡ None) × (((c ≡ cause.Size) × (GREATEST_DATA < length all)) ⊎ ((c ≡ cause.Check) × (length all ≤ GREATEST_DATA) × (check ≢ Fcs all) × (check ≢ Mcrc all)))
JoinedTo _ frame_count next all check now_open kept = ⊥

-- a continuation, by the frame that was open with these octets
abbrev pub ContinuedTo : Outcome → ℕ → ℕ → List ℕ → List ℕ → Option Opened → List ℕ → Option Opened → List ℕ → Type 0
ContinuedTo o c n mdata check None before now_open kept = (o ≡ outcome.Nothing cause.NoFrame) × (now_open ≡ None)
ContinuedTo o c n mdata check (Some was) before now_open kept =
    (o ≡ outcome.Nothing cause.Count) × (c ≢ was.frame_count) × (now_open ≡ None)
    ⊎ (o ≡ outcome.Nothing cause.Fragment) × (c ≡ was.frame_count) × (n ≢ was.next) × (now_open ≡ None)
    ⊎ (c ≡ was.frame_count) × (n ≡ was.next) × (register.Stands was.check before → JoinedTo o c ((n + 1) % 4) (before ++ mdata) check now_open kept)
