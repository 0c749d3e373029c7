use Rattle.std.proofs.Common.{◌≡◌, ◌+◌, ◌≤◌, ◌^◌, take, max}
use Rattle.std.specs.Prelude.{fold, filter}
use Rattle.pre_base.specs.declared.limits.TheConstants.{OVERHEAD}
use Rattle.pre_bound.specs.Uses.{is_on, preemptable_at, largest_used}
use Rattle.pre_certify.proofs.ports.block_octets.Given as goal

abbrev pub invariant-loop-row : goal.invariant-loop-row
invariant-loop-row l =
    (l.most ≡ fold (λ most r. max most (r.max + OVERHEAD)) (max 84 (preemptable_at l.net l.arc.0 (largest_used l.net l.rows l.arc.0))) (filter (is_on l.arc.0 0 l.prio) (take l.row-index l.rows)))
    × (l.most ≤ 10 ^ 5)
