-- What comes of rows that are admitted one after the other.
use Rattle.std.specs.Prelude.{◌≡◌, ◌≢◌, List, [], ◌∷◌, ◌++◌, take, drop}
use Rattle.pre_topo.specs.declared.network.Network.{Network}
use Rattle.pre_streams.specs.declared.rows.Row.{Row}
use Rattle.pre_streams.specs.Joined.{first_flow, with_stream}
use Rattle.pre_certify.specs.Refusals.{NoneRefuses}
use Rattle.pre_admit.specs.declared.reasons.Why.TheVariants as why
use Rattle.pre_admit.specs.declared.admissions.Outcome.{Outcome}
use Rattle.pre_admit.specs.declared.admissions.Outcome.TheVariants.{Admitted, Refused}
use Rattle.pre_admit.specs.Reasons.{NoReason, IsReason}

-- one row: it stands behind the streams, before the flows, where no reason is against it; else the rows stay
abbrev pub AdmitsOne : Network → List Row → Row → Outcome → List Row → Type 0
AdmitsOne net held row (Admitted id) after = (id.0 ≡ first_flow held) × (after ≡ with_stream held row) × NoReason held row × NoneRefuses net (with_stream held row)
AdmitsOne net held row (Refused e) after = (e.row ≡ row) × (after ≡ held) × (e.why ≢ why.Memory) × IsReason net held row e.why

-- all rows in order, and the rows that are held after them
abbrev pub Admits : Network → List Row → List Row → List Outcome → List Row → Type 0
Admits net held [] [] after = after ≡ held
Admits net held (row ∷ rows) (o ∷ outcomes) after = (between : List Row) × AdmitsOne net held row o between × Admits net between rows outcomes after
Admits net held [] (o ∷ outcomes) after = ⊥
Admits net held (row ∷ rows) [] after = ⊥

-- those of them that were admitted, in order
abbrev pub admitted : List Row → List Outcome → List Row
admitted [] outcomes = []
admitted (row ∷ rows) [] = []
admitted (row ∷ rows) (Admitted id ∷ outcomes) = row ∷ admitted rows outcomes
admitted (row ∷ rows) (Refused e ∷ outcomes) = admitted rows outcomes

-- the rows with more of them behind the streams, before the flows
abbrev pub with_streams : List Row → List Row → List Row
with_streams rows more = take (first_flow rows) rows ++ (more ++ drop (first_flow rows) rows)
