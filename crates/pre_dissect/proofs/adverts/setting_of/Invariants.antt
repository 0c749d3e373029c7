use Rattle.std.proofs.Common.{◌≡◌, take}
use Rattle.pre_dissect.proofs.Settings.{setting_in}
use Rattle.pre_dissect.proofs.adverts.setting_of.Given as goal

abbrev pub invariant-loop-line : goal.invariant-loop-line
invariant-loop-line l = l.setting ≡ setting_in l.arc.0 l.tick.0 (take l.line-index l.line-items)
