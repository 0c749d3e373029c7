use Rattle.std.proofs.Common.{◌++◌, ◌∷◌, [], sym, ◌∙◌, ap, take, map}
use Rattle.std.specs.Prelude.{filter}
use Rattle.std.specs.List.{enumerate_from}
use Rattle.std.proofs.lemmas.List.{map-append}
use Rattle.pre_base.specs.declared.numbers.StreamId.{StreamId}
use Rattle.pre_bound.specs.Uses.{is_stream}
use Rattle.pre_certify.specs.Tables.{delays_in}
use Rattle.pre_certify.specs.Written.{bound_at}
use Rattle.pre_certify.proofs.Listing.{numbered_yes, numbered_no}
use Rattle.pre_certify.proofs.rows.bound_rows.Goals as goal
use Rattle.pre_certify.proofs.rows.bound_rows.Goals.{then-is_some+in_ok-push, else-is_some}

pub loop-stream-preserved : goal.loop-stream-preserved
loop-stream-preserved c = elim c.if-is_some.branch [
  | then-is_some+in_ok-push w ↦
      let d = delays_in c.args.delays.now in
      let r = c.index-rows-stream.result in
      let k = c.loop-stream.stream in
      let old = filter (λ e. is_stream e.1) (enumerate_from 0 (take k c.args.rows.now)) in
      let id : StreamId = record { 0 = k } in
      w.found-is ∙ w.in_ok-push.ensures.ok ∙ ap (λ l. l ++ (id, w.settled_bound.result) ∷ []) c.loop-stream.invariant
      ∙ ap (λ b. map (bound_at c.args.net.now d) old ++ (id, b) ∷ []) w.settled_bound.ensures
      ∙ sym (ap (map (bound_at c.args.net.now d)) (numbered_yes is_stream c.args.rows.now k r c.loop-stream-test.true c.index-rows-stream.is (sym w.if-is_some.ensures)) ∙ map-append (bound_at c.args.net.now d) old ((k, r) ∷ []))
  | else-is_some w ↦
      w.found-is ∙ c.loop-stream.invariant
      ∙ sym (ap (map (bound_at c.args.net.now (delays_in c.args.delays.now))) (numbered_no is_stream c.args.rows.now c.loop-stream.stream c.index-rows-stream.result c.loop-stream-test.true c.index-rows-stream.is (sym w.if-is_some.ensures)))
]
