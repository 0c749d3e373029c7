-- The frames that a sender has after a begin.
use Rattle.std.proofs.Common.{ℕ, ◌≡◌, true, [], ◌∷◌, ◌++◌, refl, sym, ◌∙◌, ap, Option, Some, None}
use Rattle.pre_rings.specs.declared.slots.FrameRef.{FrameRef}
use Rattle.pre_send.specs.declared.choices.Choice.{Choice}
use Rattle.pre_send.specs.declared.choices.Choice.TheVariants as choice
use Rattle.pre_send.specs.declared.going.Task.{Task}
use Rattle.pre_send.specs.declared.going.Task.TheVariants as task
use Rattle.pre_send.specs.declared.going.Going.{Going}
use Rattle.pre_send.specs.declared.senders.Sender.{Sender}
use Rattle.pre_send.specs.Senders.{Chooses, is_free, is_free_with}
use Rattle.pre_send.specs.Owned.{frames_of_task, frames_going, frames_kept, frames_chosen, frames_of}

-- nothing is under way where it is free
none_under_way : (going : Option Going) (cost : ℕ) (last : Option ℕ) (t : ℕ) → is_free_with going cost last t ≡ true → frames_going going ≡ []
none_under_way None cost last t free = refl
none_under_way (Some g) cost last t free = absurd (cc free)

module _ (old new : Sender) where
  abbrev Owns : Choice → Task → Type 0
  Owns ch x = frames_of_task x ++ frames_kept new.kept ≡ frames_chosen ch ++ frames_kept old.kept

  owns : (ch : Choice) (x : Task) → Chooses ch old new x → Owns ch x
  owns (choice.Express f) x (alike, is) = rw is (ap (λ k. f ∷ frames_kept k) alike.1)
  owns (choice.Whole f) x (alike, is) = rw is (ap (λ k. f ∷ frames_kept k) alike.1)
  owns (choice.First f) (task.Fragment x) (firsts, none) = ap (λ (g : FrameRef). g ∷ frames_kept new.kept) firsts.3 ∙ ap (λ k. f ∷ frames_kept k) firsts.1
  owns (choice.First f) (task.Frame g) (firsts, none) = absurd firsts
  owns (choice.First f) task.Verify (firsts, none) = absurd firsts
  owns (choice.First f) task.Respond (firsts, none) = absurd firsts
  owns (choice.First f) task.Lldp (firsts, none) = absurd firsts
  owns choice.Rest (task.Fragment x) rests = ap (λ k. x.frame ∷ frames_kept k) rests.1 ∙ ap frames_kept (sym rests.3)
  owns choice.Rest (task.Frame g) rests = absurd rests
  owns choice.Rest task.Verify rests = absurd rests
  owns choice.Rest task.Respond rests = absurd rests
  owns choice.Rest task.Lldp rests = absurd rests
  owns choice.Verify x (alike, is) = rw is (ap frames_kept alike.1)
  owns choice.Respond x (alike, is) = rw is (ap frames_kept alike.1)
  owns choice.Lldp x (alike, is) = rw is (ap frames_kept alike.1)

pub begun_frames : (old mid : Sender) (ch : Choice) (x : Task) (t : ℕ) → Chooses ch old mid x → is_free old t ≡ true → frames_of_task x ++ frames_kept mid.kept ≡ frames_chosen ch ++ frames_of old
unfolding is_free frames_of
begun_frames old mid ch x t chooses free =
    owns old mid ch x chooses ∙ ap (λ fs. frames_chosen ch ++ (fs ++ frames_kept old.kept)) (sym (none_under_way old.going old.cost old.last t free))
