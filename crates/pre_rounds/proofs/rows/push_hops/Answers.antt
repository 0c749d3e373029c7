use Rattle.std.proofs.Common.{ℕ, ◌++◌, ◌∷◌, [], sym, ◌∙◌, ap, map}
use Rattle.std.specs.List.{range_with_len}
use Rattle.std.proofs.lemmas.List.{append_assoc, map-append}
use Rattle.pre_bound.specs.declared.rows.HopRow.{HopRow}
use Rattle.pre_certify.proofs.Listing.{range_more}
use Rattle.pre_rounds.specs.Tables.{bursts_in}
use Rattle.pre_rounds.proofs.rows.push_hops.Goals as goal

pub loop-hop-preserved : goal.loop-hop-preserved
loop-hop-preserved c =
    let row : ℕ → HopRow = λ hop. record { stream = record { 0 = c.args.stream }; hop = hop; burst = bursts_in c.args.bursts.now c.args.stream hop } in
    let made : ℕ → HopRow = λ burst. record { stream = record { 0 = c.args.stream }; hop = c.loop-hop.hop; burst = burst } in
    let old = map row (range_with_len 0 c.loop-hop.hop) in
    c.in_ok-push.ensures.ok ∙ ap (λ l. l ++ made c.burst_at.result ∷ []) c.loop-hop.invariant
    ∙ ap (λ b. (c.args.found.now ++ old) ++ made b ∷ []) c.burst_at.ensures.burst
    ∙ append_assoc c.args.found.now old (row c.loop-hop.hop ∷ [])
    ∙ ap (λ l. c.args.found.now ++ l) (sym (ap (map row) (range_more c.loop-hop.hop) ∙ map-append row (range_with_len 0 c.loop-hop.hop) (c.loop-hop.hop ∷ [])))
