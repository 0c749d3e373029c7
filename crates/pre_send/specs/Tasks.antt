-- The size of what is under way.
use Rattle.std.specs.Prelude.{◌≡◌, ℕ}
use Rattle.pre_send.specs.declared.going.Task.{Task}
use Rattle.pre_send.specs.declared.going.Task.TheVariants as task
use Rattle.pre_mpacket.specs.declared.packets.Kind.{Kind}
use Rattle.pre_mpacket.specs.declared.packets.Kind.TheVariants as kind
use Rattle.pre_send.specs.Plans.{piece_kind, piece_size, PieceTold}

abbrev pub task_size : Task → ℕ
task_size (task.Frame f) = f.size
task_size (task.Fragment x) = piece_size x
task_size _ = 64

-- a fragment has its cut by a tick from which on an express frame waits
abbrev pub TaskTold : Task → Task → ℕ → ℕ → ℕ → ℕ → Type 0
TaskTold (task.Fragment x) (task.Fragment y) began waits cost add_frag = PieceTold x y began waits cost add_frag
TaskTold (task.Fragment x) _ began waits cost add_frag = ⊥
TaskTold old new began waits cost add_frag = new ≡ old

-- its kind and its place
abbrev pub task_kind : Task → Kind × ℕ
task_kind (task.Frame f) = (kind.Express, 0)
task_kind (task.Fragment x) = (piece_kind x, x.from)
task_kind task.Verify = (kind.Verify, 0)
task_kind task.Respond = (kind.Respond, 0)
task_kind task.Lldp = (kind.Express, 0)
