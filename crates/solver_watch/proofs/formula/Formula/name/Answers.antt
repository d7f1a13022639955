use Rattle.std.proofs.Common.{◌≡◌, ◌<◌, ◌≤◌, length, arith}
use Rattle.solver_watch.specs.Known.{base_in}
use Rattle.solver_watch.proofs.BaseLemmas.{with-length, with-name}
use Rattle.solver_watch.proofs.NameLemmas.{name-base, name-past}
use Rattle.solver_watch.proofs.formula.Formula.name.Goals as goal

pub returns-then-number-base : goal.returns-then-number-base
returns-then-number-base c =
    let f = c.args.self.now in
    let size : length (base_in f) ≡ length f.names.items = with-length f.names.items f.trail.clauses c.requires.known.few in
    let within : c.args.number < length f.names.items = omega (arith, c.if-number-base.true, c.len-base.ensures, f.names.ok.0) in
    name-base f c.args.number c.index.result.now c.requires.known (omega (arith, size, within))
    (with-name f.names.items f.trail.clauses c.args.number c.index.result.now c.requires.known.few within c.index.ensures)

pub returns-else-number-base : goal.returns-else-number-base
returns-else-number-base c =
    let f = c.args.self.now in
    let size : length (base_in f) ≡ length f.names.items = with-length f.names.items f.trail.clauses c.requires.known.few in
    let same : c.len-base.result ≡ length (base_in f) = omega (arith, size, c.len-base.ensures, f.names.ok.0) in
    rw same (let past : length (base_in f) ≤ c.args.number = omega (arith, c.if-number-base.false, same) in
    name-past f c.args.number c.requires.known c.requires.within past)
