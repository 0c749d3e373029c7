use Rattle.std.proofs.Common.{◌≡◌, sym, ◌∙◌, arith, inl, inr}
use Rattle.std.proofs.lemmas.Bool.{cases_lt, eqb-true}
use Rattle.std.proofs.lemmas.List.{nil_from_length}
use Rattle.pre_rings.proofs.PortLemmas.{frames_at-read}
use Rattle.pre_rings.proofs.rings.PortRings.highest.Goals as goal

pub loop-number-preserved : goal.loop-number-preserved
loop-number-preserved c q low high =
    elim (cases_lt q c.loop-number.number) [
      | inl below ↦
          let here : c.from.result ≡ q = omega (arith, c.from.ensures) in
          frames_at-read c.self.inside.rings.items q c.from.result c.index.result.now c.args.self.now c.self.view_is c.self.invariant
          (omega (arith, c.number-number.ensures.within)) here c.index.ensures
          ∙ nil_from_length c.index.result.now.items (eqb-true _ _ (sym c.is_empty.ensures ∙ c.if-not-is_empty.false))
      | inr more ↦ c.loop-number.invariant q more high
    ]
