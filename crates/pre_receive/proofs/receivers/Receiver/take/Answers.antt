use Rattle.std.proofs.Common.{List, ℕ, Option, Some, [], ◌∷◌, ◌++◌, length, refl, sym, subst}
use Rattle.pre_receive.specs.Takings.{plain, IsTaken, HasCheck}
use Rattle.pre_receive.specs.Receivers.{Stands}
use Rattle.pre_receive.proofs.Sizes.{taken_size}
use Rattle.pre_receive.proofs.receivers.Receiver.take.Goals as goal

pub returns : goal.returns
returns c =
    let taken : (A : List (Option (List ℕ))) → Stands c.args.self.now A → IsTaken (A ++ Some c.args.arrived.now ∷ []) (length A) (plain c.lent.result) =
    λ A stands. subst (IsTaken (A ++ Some c.args.arrived.now ∷ []) (length A)) (sym c.lent.ensures) (c.receive-outcome.ensures.taken A stands) in (
      (refl, λ _. tt, c.receive-outcome.ensures.stands),
      record {
        after = tt;
        taken = taken;
        size = λ A stands. taken_size c.frames_have_their_size.ensures (A ++ Some c.args.arrived.now ∷ []) (length A) (plain c.lent.result) (taken A stands);
        check = subst HasCheck (sym c.lent.ensures) c.receive-outcome.ensures.check;
      },
    )
