use Rattle.std.proofs.Common.{ℕ, ◌++◌, ◌∙◌, ap, sym, length, map, take}
use Rattle.std.specs.List.{range_with_len}
use Rattle.pre_check.specs.Due.{due_hop, due_hops}
use Rattle.pre_check.proofs.Dues.{further, routes_more, routes_same}
use Rattle.pre_check.proofs.due.push_routes.Goals as goal
use Rattle.pre_check.proofs.due.push_routes.Goals.{then-is_some+in_ok-push_hops, else-is_some}

pub loop-stream-preserved : goal.loop-stream-preserved
loop-stream-preserved c =
    let rows = c.args.rows.now in
    let k = c.loop-stream.stream in
    let r = c.index-rows-stream.result in
    elim c.if-is_some.branch [
      | then-is_some+in_ok-push_hops w ↦
          further c.args.due.now (due_hops (take k rows)) _ (map due_hop (map (λ (hop : ℕ). (k, hop)) (range_with_len 0 (length r.arcs)))) c.loop-stream.due c.if-is_some.due c.loop-stream.invariant
          (w.due-is ∙ w.in_ok-push_hops.ensures ∙ ap (λ n. c.loop-stream.due ++ map due_hop (map (λ (hop : ℕ). (k, hop)) (range_with_len 0 n))) w.len.ensures) (routes_more rows k r c.loop-stream-test.true c.index-rows-stream.is (sym w.if-is_some.ensures))
      | else-is_some w ↦ w.due-is ∙ c.loop-stream.invariant ∙ ap (λ l. c.args.due.now ++ l) (sym (routes_same rows k r c.loop-stream-test.true c.index-rows-stream.is (sym w.if-is_some.ensures)))
    ]
