-- A begin by the start rule keeps the relation.
use Rattle.std.proofs.Common.{ℕ, ◌+◌, ◌*◌, ◌<◌, Bool, true, List, [], ◌∷◌, ◌++◌, length}
use Rattle.pre_send.specs.Calls.{Call, Chosen, begun, told_by}
use Rattle.pre_send.specs.Sendings.{interrupted, firsts, IsFree}
use Rattle.pre_history.specs.Scenario.{Scenario, arc}
use Rattle.pre_history.specs.History.{PlainEvent, History}
use Rattle.pre_history.specs.Starts.{Choice, StartRule}
use Rattle.pre_history.specs.Legal.{LegalUpTo}
use Rattle.pre_history.specs.Placed.{number}
use Rattle.pre_outgoing.specs.Matching.{Matches, IsTold}
use Rattle.pre_outgoing.proofs.Agreeing.{gaps, interrupts, started}
use Rattle.pre_outgoing.proofs.Stepping.{beginning}
use Rattle.pre_outgoing.proofs.Picking.{picks, quiet}

pub begins : (w : Scenario) (past : History) (t a now ord : ℕ) (settled : Bool) (calls : List Call) (ch : Chosen) (c : Choice) → a < length w.net.arcs
    → LegalUpTo w (number (length w.net.arcs) t (2 + 3 * length w.net.arcs + a)) past → Matches w past a now settled calls → StartRule w past a t c → IsTold w ch c
    → Matches w (past ++ PlainEvent.begin (record { tick = t; arc = a; ord = ord; kind = c.kind; what = c.what; from = c.from }) ∷ []) a (t + 1) true (calls ++ begun t ch ∷ [])
unfolding StartRule
begins w past t a now ord settled calls ch c a_lt legal m (unoccupied, (i, there, before)) told =
    let free = (gaps w past t a now settled calls a_lt legal m).1 unoccupied in
    let leaves = interrupts w past t a now settled calls a_lt legal m m.packets m.sending free in
    let count = started w past t a now settled calls a_lt legal m m.packets m.sending in
    beginning w past t a now ord settled calls m.packets ch c a_lt legal m m.sending free
    (picks w past a t (interrupted m.packets) (firsts m.packets) leaves count c i there ch told)
    (quiet w past a t (interrupted m.packets) (firsts m.packets) leaves count c i there before ch told)

-- the arc is then free
pub free_then : (w : Scenario) (past : History) (t a now : ℕ) (settled : Bool) (calls : List Call) (c : Choice) → a < length w.net.arcs
    → LegalUpTo w (number (length w.net.arcs) t (2 + 3 * length w.net.arcs + a)) past → Matches w past a now settled calls → StartRule w past a t c → IsFree (arc w a).cost (told_by calls) t
unfolding StartRule
free_then w past t a now settled calls c a_lt legal m (unoccupied, item) = (gaps w past t a now settled calls a_lt legal m).1 unoccupied
