use Rattle.std.proofs.Common.{rules, refl, ◌≡◌, length, arith}
use Rattle.pre_mpacket.specs.Spelling.{PlainPacket}
use Rattle.pre_sim.proofs.ends.next_to_leave.Goals as goal

pub unreachable-requires : goal.unreachable-requires
unreachable-requires c =
    let m : PlainPacket = record { kind = c.packet-kind.result.0; mdata = c.packet-kind.result.1.now; check = c.packet-kind.result.2 } in
    let long : length c.args.into.now ≡ 2008 = search rules in
    absurd (omega (arith, c.in_default.ensures.room.0 refl, c.requires.short m c.packet-kind.ensures.leaves, long))
