use Rattle.netlist.proofs.TableRoom.{room_more}
use Rattle.netlist.proofs.net.Net.put_gate.Goals as goal

pub fill-requires : goal.fill-requires
fill-requires c =
    room_more c.self.inside.pair c.put_gate.new.self c.args.side c.args.gate c.args.before c.self.inside.tables c.reserve.new.self
    c.self.invariant c.in_ok-reserve.ensures.room_fanins c.in_ok-reserve.ensures.room_starts c.in_ok-put_gate.ensures.ok
