-- Sends and sets that are written by their ticks.
use Rattle.std.proofs.Common.{◌≡◌, ℕ, ◌+◌, ◌<◌, ◌≤◌, List, ◌++◌, length, get_or, drop, Option, Result, ap, subst}
use Rattle.std.proofs.lemmas.List.{drop_more, drop_all}
use Rattle.std.specs.Result.{IsErr}
use Rattle.pre_base.specs.Told.{WhereTold}
use Rattle.pre_base.specs.Sinks.{Taken, TakesBut, TakesAll}
use Rattle.pre_base.specs.Sinks.{TakesFront, TakesWhole}
use Rattle.pre_base.proofs.Pieces.{breaks, goes_on}
use Rattle.pre_topo.specs.declared.network.Network.{Network}
use Rattle.pre_streams.specs.declared.rows.Streams.{Streams}
use Rattle.pre_script.specs.declared.scripts.SendLine.{SendLine}
use Rattle.pre_script.specs.declared.scripts.SetLine.{SetLine}
use Rattle.pre_script.specs.Text.{send_line, set_lines, sets_before, sets_since, timed_lines}

next_is : (net : Network) (streams : Streams) (sends : List SendLine) (rest : List SetLine) (i : ℕ) (d : SendLine) → i < length sends → timed_lines net streams (drop i sends) rest
    ≡ set_lines net (sets_before (get_or sends i d).send.tick.0 rest) ++ (send_line streams (get_or sends i d) ++ timed_lines net streams (drop (i + 1) sends) (sets_since (get_or sends i d).send.tick.0 rest))
next_is net streams sends rest i d lt = ap (λ (l : List SendLine). timed_lines net streams l rest) (drop_more sends i d lt)

-- the sets before a send break
pub sets_break : {U E : Type 0} (net : Network) (streams : Streams) (sends : List SendLine) (rest : List SetLine) (whole : List ℕ) (i : ℕ) (d : SendLine) (a b c : Option Taken) (r : Result U E)
    → i < length sends → IsErr r → WhereTold a b (TakesBut (timed_lines net streams (drop i sends) rest) whole)
    → WhereTold b c (TakesFront (set_lines net (sets_before (get_or sends i d).send.tick.0 rest))) → WhereTold a c (TakesAll r whole)
sets_break net streams sends rest whole i d a b c r lt fails so_far took =
    let tick = (get_or sends i d).send.tick.0 in
    breaks a b c whole (set_lines net (sets_before tick rest)) (send_line streams (get_or sends i d) ++ timed_lines net streams (drop (i + 1) sends) (sets_since tick rest)) r fails
    (subst (λ (l : List ℕ). WhereTold a b (TakesBut l whole)) (next_is net streams sends rest i d lt) so_far) took

-- the send behind them breaks
pub send_breaks : {U E : Type 0} (net : Network) (streams : Streams) (sends : List SendLine) (rest : List SetLine) (whole : List ℕ) (i : ℕ) (d : SendLine) (a b c e : Option Taken) (r : Result U E)
    → i < length sends → IsErr r → WhereTold a b (TakesBut (timed_lines net streams (drop i sends) rest) whole)
    → WhereTold b c (TakesWhole (set_lines net (sets_before (get_or sends i d).send.tick.0 rest))) → WhereTold c e (TakesFront (send_line streams (get_or sends i d))) → WhereTold a e (TakesAll r whole)
send_breaks net streams sends rest whole i d a b c e r lt fails so_far sets took =
    let tick = (get_or sends i d).send.tick.0 in
    let left = timed_lines net streams (drop (i + 1) sends) (sets_since tick rest) in
    let more = goes_on a b c whole (set_lines net (sets_before tick rest)) (send_line streams (get_or sends i d) ++ left)
    (subst (λ (l : List ℕ). WhereTold a b (TakesBut l whole)) (next_is net streams sends rest i d lt) so_far) sets in
    breaks a c e whole (send_line streams (get_or sends i d)) left r fails more took

-- no send is left
pub all_sent : (net : Network) (streams : Streams) (sends : List SendLine) (rest : List SetLine) (whole : List ℕ) (i : ℕ) (a b : Option Taken)
    → length sends ≤ i → WhereTold a b (TakesBut (timed_lines net streams (drop i sends) rest) whole) → WhereTold a b (TakesBut (set_lines net rest) whole)
all_sent net streams sends rest whole i a b le so_far =
    subst (λ (l : List ℕ). WhereTold a b (TakesBut l whole)) (ap (λ (l : List SendLine). timed_lines net streams l rest) (drop_all i sends le)) so_far
