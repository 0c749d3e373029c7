-- Why a row isn't admitted to streams: each reason comes only where none of those before it does.
use Rattle.std.specs.Prelude.{◌≡◌, ◌≢◌, ◌<◌, ◌≤◌, false, List, All, IsTrue}
use Rattle.pre_topo.specs.declared.network.Network.{Network}
use Rattle.pre_streams.specs.declared.rows.Row.{Row}
use Rattle.pre_streams.specs.Joined.{first_flow, with_stream}
use Rattle.pre_certify.specs.declared.unfit.Unfit.{Unfit}
use Rattle.pre_certify.specs.declared.unfit.Unfit.TheVariants as unfit
use Rattle.pre_certify.specs.Causes.{Cause}
use Rattle.pre_admit.specs.declared.reasons.Why.{Why}
use Rattle.pre_admit.specs.declared.reasons.Why.TheVariants as why
use Rattle.pre_admit.specs.Names.{has_name}
use Rattle.pre_admit.specs.Routes.{SharesNodes, HasOtherRoute}

-- its name is new, no row with its VID takes another route, and there is room for it
pub record NoReason (rows : List Row) (row : Row) : Type 0 where
  pub name : has_name rows row.name ≡ false
  pub route : All (SharesNodes row) rows
  pub count : first_flow rows < 256

-- the reasons that come before any certificate is asked for
abbrev pub IsPlainReason : List Row → Row → Why → Type 0
IsPlainReason rows row why.Name = IsTrue (has_name rows row.name)
IsPlainReason rows row (why.Route hop) = (has_name rows row.name ≡ false) × HasOtherRoute rows row hop
IsPlainReason rows row why.Count = (has_name rows row.name ≡ false) × All (SharesNodes row) rows × (256 ≤ first_flow rows)
IsPlainReason rows row (why.Unfit e) = ⊥
IsPlainReason rows row why.Memory = ⊥

-- what the certifier refuses the rows for; want of memory always may come
abbrev pub IsCause : Network → List Row → Why → Type 0
IsCause net rows why.Name = ⊥
IsCause net rows (why.Route hop) = ⊥
IsCause net rows why.Count = ⊥
IsCause net rows (why.Unfit e) = (e ≢ unfit.Memory) × Cause net rows e
IsCause net rows why.Memory = Unit {0}

-- the reason: after those, what the certifier refuses the streams with the row for; want of memory comes where no other does
abbrev pub IsReason : Network → List Row → Row → Why → Type 0
IsReason net rows row why.Name = IsTrue (has_name rows row.name)
IsReason net rows row (why.Route hop) = (has_name rows row.name ≡ false) × HasOtherRoute rows row hop
IsReason net rows row why.Count = (has_name rows row.name ≡ false) × All (SharesNodes row) rows × (256 ≤ first_flow rows)
IsReason net rows row (why.Unfit e) = NoReason rows row × ((e ≢ unfit.Memory) × Cause net (with_stream rows row) e)
IsReason net rows row why.Memory = NoReason rows row

-- a refusal of the certifier as a reason
abbrev pub why_of : Unfit → Why
why_of (unfit.Overload arc) = why.Unfit (unfit.Overload arc)
why_of (unfit.Cycle arcs) = why.Unfit (unfit.Cycle arcs)
why_of (unfit.Large arc prio) = why.Unfit (unfit.Large arc prio)
why_of (unfit.Ring arc prio need) = why.Unfit (unfit.Ring arc prio need)
why_of unfit.Memory = why.Memory
