-- Scripts that are the same but for the numbers of their lines.
use Rattle.std.specs.Prelude.{◌≡◌, map}
use Rattle.pre_script.specs.declared.scripts.Script.{Script}

pub record IsSame (a b : Script) : Type 0 where
  pub sends : map (λ s. s.send) a.sends ≡ map (λ s. s.send) b.sends
  pub sets : a.sets ≡ b.sets
  pub losses : a.losses ≡ b.losses
  pub damages : a.damages ≡ b.damages
  pub until : a.until ≡ b.until
