use Rattle.netlist.proofs.NamesakeValues.{namesake-constraints, namesake-inputs, namesake-outputs, namesake-values, net-by_name}
use Rattle.netlist.proofs.laws.same_by_name.Goals as goal

pub returns-clause-inputs : goal.returns-clause-inputs
returns-clause-inputs c =
    let both = net-by_name c.args.a.now c.args.b.now c.names-a.ensures.circuit c.names-b.ensures.circuit c.requires in
    namesake-inputs c.args.a.now c.args.b.now both.0 both.1

pub returns-clause-outputs : goal.returns-clause-outputs
returns-clause-outputs c =
    let both = net-by_name c.args.a.now c.args.b.now c.names-a.ensures.circuit c.names-b.ensures.circuit c.requires in
    namesake-outputs c.args.a.now c.args.b.now both.0 both.1

pub returns-clause-values : goal.returns-clause-values
returns-clause-values c =
    let both = net-by_name c.args.a.now c.args.b.now c.names-a.ensures.circuit c.names-b.ensures.circuit c.requires in
    namesake-values c.args.a.now c.args.b.now both.0 both.1

pub returns-clause-constraints : goal.returns-clause-constraints
returns-clause-constraints c =
    let both = net-by_name c.args.a.now c.args.b.now c.names-a.ensures.circuit c.names-b.ensures.circuit c.requires in
    namesake-constraints c.args.a.now c.args.b.now both.0 both.1
