-- A frame that a receiver keeps and gives ends with its check.
use Rattle.std.proofs.Common.{◌≡◌, ◌≢◌, ◌⊎◌, ℕ, List, ◌++◌, length, Option, Some, None, ap, ◌∙◌, sym, refl, inl, inr, subst}
use Rattle.std.specs.Option.{ForSome}
use Rattle.pre_crc.specs.Register as register
use Rattle.pre_mpacket.specs.declared.packets.Kind.{Kind}
use Rattle.pre_mpacket.specs.declared.packets.Kind.TheVariants as kind
use Rattle.pre_receive.specs.declared.opened.Opened.{Opened}
use Rattle.pre_receive.specs.declared.outcomes.Outcome.{Outcome}
use Rattle.pre_receive.specs.declared.outcomes.Outcome.TheVariants as outcome
use Rattle.pre_receive.specs.declared.receivers.Receiver.{Receiver}
use Rattle.pre_receive.specs.Takings.{HasCheck}
use Rattle.pre_receive.specs.Receivers.{taking, SortedTo}
use Rattle.pre_receive.specs.Steps.{ExpressTo, BareTo, JoinedTo, ContinuedTo}

express : (o : Outcome) (mdata check whole joined : List ℕ) → ExpressTo o mdata check whole → HasCheck (taking whole joined o)
express outcome.Express mdata check whole joined (short, is, kept) = (mdata, kept ∙ ap (λ c. mdata ++ c) is)
express (outcome.Nothing c) mdata check whole joined to = tt
express outcome.Joined mdata check whole joined to = absurd to
express outcome.Verify mdata check whole joined to = tt
express outcome.Respond mdata check whole joined to = tt
express outcome.Part mdata check whole joined to = tt

bare : (good o : Outcome) (mdata check whole joined : List ℕ) → HasCheck (taking whole joined good) → BareTo good o mdata check → HasCheck (taking whole joined o)
bare good o mdata check whole joined fine (inl (is, zeros, right)) = subst (λ p. HasCheck (taking whole joined p)) (sym is) fine
bare good o mdata check whole joined fine (inr (inl (is, size))) = subst (λ p. HasCheck (taking whole joined p)) (sym is) tt
bare good o mdata check whole joined fine (inr (inr (is, size, wrong))) = subst (λ p. HasCheck (taking whole joined p)) (sym is) tt

joins : (o : Outcome) (c n : ℕ) (all check : List ℕ) (now_open : Option Opened) (whole joined : List ℕ) → JoinedTo o c n all check now_open joined → HasCheck (taking whole joined o)
joins outcome.Joined c n all check now_open whole joined (short, is, none, kept) = (all, kept ∙ ap (λ k. all ++ k) is)
joins outcome.Part c n all check now_open whole joined to = tt
joins (outcome.Nothing cause) c n all check now_open whole joined to = tt
joins outcome.Express c n all check now_open whole joined to = absurd to
joins outcome.Verify c n all check now_open whole joined to = tt
joins outcome.Respond c n all check now_open whole joined to = tt

nothing : (o : Outcome) (whole joined : List ℕ) (told : Outcome) → HasCheck (taking whole joined told) → o ≡ told → HasCheck (taking whole joined o)
nothing o whole joined told fine is = subst (λ p. HasCheck (taking whole joined p)) (sym is) fine

goes_on : (o : Outcome) (c n : ℕ) (mdata check : List ℕ) (was : Option Opened) (before : List ℕ) (now_open : Option Opened) (whole joined : List ℕ)
    → ForSome was (λ x. register.Stands x.check before) → ContinuedTo o c n mdata check was before now_open joined → HasCheck (taking whole joined o)
goes_on o c n mdata check None before now_open whole joined stands (is, none) = nothing o whole joined _ tt is
goes_on o c n mdata check (Some was) before now_open whole joined stands (inl (is, other, none)) = nothing o whole joined _ tt is
goes_on o c n mdata check (Some was) before now_open whole joined stands (inr (inl (is, same, other, none))) = nothing o whole joined _ tt is
goes_on o c n mdata check (Some was) before now_open whole joined stands (inr (inr (same, next, to))) = joins o c _ _ check now_open whole joined (to (stands was refl))

pub sorted_checked : (k : Kind) (o : Outcome) (mdata check : List ℕ) (old new : Receiver) → ForSome old.opened (λ x. register.Stands x.check old.octets.items)
    → SortedTo k o mdata check old new → HasCheck (taking new.whole.items new.octets.items o)
sorted_checked kind.Express o mdata check old new stands (to, opened, octets) = express o mdata check new.whole.items new.octets.items to
sorted_checked kind.Verify o mdata check old new stands (to, opened, octets) = bare outcome.Verify o mdata check new.whole.items new.octets.items tt to
sorted_checked kind.Respond o mdata check old new stands (to, opened, octets) = bare outcome.Respond o mdata check new.whole.items new.octets.items tt to
sorted_checked (kind.Start c) o mdata check old new stands to = joins o c 0 mdata check new.opened new.whole.items new.octets.items to
sorted_checked (kind.Continue c n) o mdata check old new stands to = goes_on o c n mdata check old.opened old.octets.items new.opened new.whole.items new.octets.items stands to
