-- The latest tick at which something holds.
use Rattle.std.proofs.Common.{ℕ, Option, Some, None}
use Rattle.std.specs.Prelude.{◌↔◌}
use Rattle.pre_links.specs.Listening.{IsLatest}

pub latest_like : (P Q : ℕ → Type 0) (o : Option ℕ) → ((t : ℕ) → Q t ↔ P t) → IsLatest P o → IsLatest Q o
latest_like P Q None like none = λ t q. none t ((like t).0 q)
latest_like P Q (Some s) like (here, most) = ((like s).1 here, λ t q. most t ((like t).0 q))
