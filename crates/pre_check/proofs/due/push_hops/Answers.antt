use Rattle.std.proofs.Common.{ℕ, [], ◌∷◌, map}
use Rattle.std.specs.List.{range_with_len}
use Rattle.pre_check.specs.Due.{due_hop}
use Rattle.pre_check.proofs.Dues.{further, hops_more}
use Rattle.pre_check.proofs.due.push_hops.Goals as goal

pub loop-hop-preserved : goal.loop-hop-preserved
loop-hop-preserved c =
    let s = c.args.stream.0 in
    let k = c.loop-hop.hop in
    further c.args.due.now (map due_hop (map (λ (hop : ℕ). (s, hop)) (range_with_len 0 k))) _ (due_hop (s, k) ∷ []) c.loop-hop.due c.push.new.self c.loop-hop.invariant c.in_ok-push.ensures.ok (hops_more s k)
