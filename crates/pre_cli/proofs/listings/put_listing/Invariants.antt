use Rattle.std.proofs.Common.{◌≤◌, take}
use Rattle.pre_base.specs.Told.{WhereTold}
use Rattle.pre_receive.specs.Receivers.{Stands}
use Rattle.pre_cli.specs.Listing.{come, TakesList}
use Rattle.pre_cli.proofs.listings.put_listing.Given as goal

abbrev pub invariant-loop-place : goal.invariant-loop-place
invariant-loop-place g l = record {
  told : WhereTold (g.S.Sink.tells l.fn.sink) (g.S.Sink.tells l.sink) (TakesList (take l.place l.arrivals));
  stands : Stands l.receiver (come (take l.place l.arrivals));
  later : g.S.Sink.faults l.fn.sink ≤ g.S.Sink.faults l.sink;
}
