use Rattle.std.proofs.Common.{◌++◌, sym, ◌∙◌, ap, take}
use Rattle.std.specs.Prelude.{filter}
use Rattle.std.specs.List.{enumerate_from}
use Rattle.pre_bound.specs.Uses.{is_stream}
use Rattle.pre_certify.specs.Tables.{delays_in}
use Rattle.pre_certify.specs.Written.{all_hops, hops_at}
use Rattle.pre_certify.proofs.Listing.{numbered_yes, numbered_no, all_hops-push}
use Rattle.pre_certify.proofs.rows.hop_rows.Goals as goal
use Rattle.pre_certify.proofs.rows.hop_rows.Goals.{then-is_some+in_ok-push_hops, else-is_some}

pub loop-stream-preserved : goal.loop-stream-preserved
loop-stream-preserved c = elim c.if-is_some.branch [
  | then-is_some+in_ok-push_hops w ↦
      let d = delays_in c.args.delays.now in
      let r = c.index-rows-stream.result in
      let k = c.loop-stream.stream in
      w.found-is ∙ w.in_ok-push_hops.ensures ∙ ap (λ l. l ++ hops_at c.args.net.now d k r) c.loop-stream.invariant
      ∙ all_hops-push c.args.net.now d (filter (λ e. is_stream e.1) (enumerate_from 0 (take k c.args.rows.now))) k r
      ∙ sym (ap (all_hops c.args.net.now d) (numbered_yes is_stream c.args.rows.now k r c.loop-stream-test.true c.index-rows-stream.is (sym w.if-is_some.ensures)))
  | else-is_some w ↦
      w.found-is ∙ c.loop-stream.invariant
      ∙ sym (ap (all_hops c.args.net.now (delays_in c.args.delays.now)) (numbered_no is_stream c.args.rows.now c.loop-stream.stream c.index-rows-stream.result c.loop-stream-test.true c.index-rows-stream.is (sym w.if-is_some.ensures)))
]
