use Rattle.std.proofs.Common.{◌≡◌, ℕ, List, ◌++◌, ◌∷◌, [], sym, ◌∙◌, ap, take}
use Rattle.std.specs.Prelude.{filter}
use Rattle.std.specs.List.{enumerate_from}
use Rattle.std.proofs.lemmas.List.{append-nil}
use Rattle.std.proofs.lemmas.List.Concat.{flat_map-append}
use Rattle.pre_streams.specs.declared.rows.Row.{Row}
use Rattle.pre_bound.specs.Uses.{is_stream}
use Rattle.pre_certify.proofs.Listing.{numbered_yes, numbered_no}
use Rattle.pre_rounds.specs.Tables.{bursts_in}
use Rattle.pre_rounds.specs.Written.{all_hops, hops_at}
use Rattle.pre_rounds.specs.Rounds.{Bursts}
use Rattle.pre_rounds.proofs.rows.hop_rows.Goals as goal
use Rattle.pre_rounds.proofs.rows.hop_rows.Goals.{then-is_some+in_ok-push_hops, else-is_some}

hops_more : (b : Bursts) (streams : List (ℕ × Row)) (k : ℕ) (r : Row) → all_hops b streams ++ hops_at b k r ≡ all_hops b (streams ++ (k, r) ∷ [])
hops_more b streams k r =
    ap (λ l. all_hops b streams ++ l) (sym (append-nil (hops_at b k r)))
    ∙ sym (flat_map-append (λ (e : ℕ × Row). hops_at b e.0 e.1) streams ((k, r) ∷ []))

pub loop-stream-preserved : goal.loop-stream-preserved
loop-stream-preserved c = elim c.if-is_some.branch [
  | then-is_some+in_ok-push_hops w ↦
      let b = bursts_in c.args.bursts.now in
      let r = c.index-rows-stream.result in
      let k = c.loop-stream.stream in
      w.found-is ∙ w.in_ok-push_hops.ensures ∙ ap (λ l. l ++ hops_at b k r) c.loop-stream.invariant
      ∙ hops_more b (filter (λ e. is_stream e.1) (enumerate_from 0 (take k c.args.rows.now))) k r
      ∙ sym (ap (all_hops b) (numbered_yes is_stream c.args.rows.now k r c.loop-stream-test.true c.index-rows-stream.is (sym w.if-is_some.ensures)))
  | else-is_some w ↦
      w.found-is ∙ c.loop-stream.invariant
      ∙ sym (ap (all_hops (bursts_in c.args.bursts.now)) (numbered_no is_stream c.args.rows.now c.loop-stream.stream c.index-rows-stream.result c.loop-stream-test.true c.index-rows-stream.is (sym w.if-is_some.ensures)))
]
