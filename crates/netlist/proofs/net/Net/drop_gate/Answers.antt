use Rattle.netlist.proofs.TableRoom.{room_less}
use Rattle.netlist.proofs.net.Net.drop_gate.Goals as goal

pub fill-requires : goal.fill-requires
fill-requires c =
    room_less c.self.inside.pair c.drop_gate.new.self c.args.side c.args.var c.self.inside.tables c.self.invariant c.drop_gate.ensures
