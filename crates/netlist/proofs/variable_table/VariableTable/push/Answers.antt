use Rattle.std.proofs.Common.{◌<◌, length, sym, subst}
use Rattle.netlist.specs.VariableTable.{Places, IsTable}
use Rattle.netlist.proofs.TableLemmas.{push_table}
use Rattle.netlist.proofs.variable_table.VariableTable.push.Goals as goal

pub returns-clause-table : goal.returns-clause-table
returns-clause-table c = λ vars table new.
    push_table (record { by_variable = c.self.inside.places.items; count = c.self.inside.count }) vars c.args.var
    (subst (λ (t : Places). IsTable t vars) (sym c.self.view_is) table)
    (subst (λ (t : Places). c.args.var < length t.by_variable) (sym c.self.view_is) c.requires.room)
    new
