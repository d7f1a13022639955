use Rattle.std.proofs.lemmas.Result.{err_from_is_err_and}
use Rattle.netlist.specs.NameIndex.{IsIndex}
use Rattle.netlist.proofs.UnlikeLemmas.{sides-unnamed_a, sides-unnamed_b, sides-doubled_a, sides-doubled_b}
use Rattle.netlist.proofs.by_name.index_of.Goals as goal

pub returns-in_err-all_named : goal.returns-in_err-all_named
returns-in_err-all_named c =
    let p = err_from_is_err_and c.from_residual.result c.from_residual.ensures.1 in
    rw (p.1, p.2) (sides-unnamed_a c.args.port c.args.a.now c.args.b.now c.in_err-all_named.field-0.0 c.in_err-all_named.ensures)

pub returns-in_err-all_named-2 : goal.returns-in_err-all_named-2
returns-in_err-all_named-2 c =
    let p = err_from_is_err_and c.from_residual-in_err-all_named-2.result c.from_residual-in_err-all_named-2.ensures.1 in
    rw (p.1, p.2) (sides-unnamed_b c.args.port c.args.a.now c.args.b.now c.in_err-all_named-2.field-0.0 c.in_ok-all_named.ensures c.in_err-all_named-2.ensures)

pub returns-in_err-of : goal.returns-in_err-of
returns-in_err-of c =
    let p = err_from_is_err_and c.from_residual-in_err-of.result c.from_residual-in_err-of.ensures.1 in
    rw (p.1, p.2) (sides-doubled_a c.args.port c.args.a.now c.args.b.now c.in_err-of.field-0.0 c.in_ok-all_named.ensures c.in_ok-all_named-2.ensures c.in_err-of.ensures)

pub returns : goal.returns
returns c =
    sides-doubled_b c.args.port c.args.a.now c.args.b.now (λ index. IsIndex index.places c.args.b.now) c.of-2.result
    c.in_ok-all_named.ensures c.in_ok-all_named-2.ensures c.in_ok-of.ensures.0 c.of-2.ensures
