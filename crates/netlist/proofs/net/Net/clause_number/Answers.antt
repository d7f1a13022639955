use Rattle.std.proofs.Common.{◌≡◌, ◌∙◌, ◌+◌, ◌-◌, ◌<◌, ◌≤◌, Some, None, sym, subst, arith}
use Rattle.netlist.specs.Net.{AigPair}
use Rattle.std.specs.Prelude.{slice_index}
use Rattle.netlist.specs.Miter.{clause_number_of}
use Rattle.netlist.proofs.StartLemmas.{place_inside, place_next, number_few, number_below, number_past, clause_number_of-none}
use Rattle.netlist.proofs.NetLemmas.{axioms_of-none}
use Rattle.netlist.proofs.net.Net.clause_number.Goals as goal

pub first-requires : goal.first-requires
first-requires c =
    place_inside c.self.inside.pair c.self.inside.tables.starts.items c.self.invariant.starts c.args.node c.in-Some.variable
    (sym c.variable.ensures.variable ∙ c.in-Some.is)

pub first-requires-in-Some : goal.first-requires-in-Some
first-requires-in-Some c =
    place_next c.self.inside.pair c.self.inside.tables.starts.items c.self.invariant.starts c.args.node c.in-Some.variable
    (sym c.variable.ensures.variable ∙ c.in-Some.is)

pub overflow_add-number : goal.overflow_add-number
overflow_add-number c =
    let few = number_few c.self.inside.pair c.self.inside.tables.starts.items c.self.invariant.starts c.args.node c.in-Some.variable
    (sym c.variable.ensures.variable ∙ c.in-Some.is) in
    let range = c.in-Some.ensures.range in
    omega (arith, few, range, c.first.ensures, c.from.ensures, c.ranges.k)

pub returns-then-number-first : goal.returns-then-number-first
returns-then-number-first c =
    let first = c.first.ensures in
    let below : slice_index c.self.inside.tables.starts.items (c.in-Some.variable - 1) + c.args.k < slice_index c.self.inside.tables.starts.items c.in-Some.variable =
    omega (arith, c.first.ensures, c.first-in-Some.ensures, c.from.ensures, c.if-number-first.true) in
    rw (c.first.ensures, c.from.ensures)
    (subst (λ (net : AigPair). Some (slice_index c.self.inside.tables.starts.items (c.in-Some.variable - 1) + c.args.k) ≡ clause_number_of net c.args.node c.args.k)
    c.self.view_is
    (number_below c.self.inside.pair c.self.inside.tables.starts.items c.self.invariant.starts c.args.node c.args.k c.in-Some.variable
    (sym c.variable.ensures.variable ∙ c.in-Some.is) below))

pub returns-else-number-first : goal.returns-else-number-first
returns-else-number-first c =
    let past : slice_index c.self.inside.tables.starts.items c.in-Some.variable ≤ slice_index c.self.inside.tables.starts.items (c.in-Some.variable - 1) + c.args.k =
    omega (arith, c.first.ensures, c.first-in-Some.ensures, c.from.ensures, c.if-number-first.false) in
    subst (λ (net : AigPair). None ≡ clause_number_of net c.args.node c.args.k) c.self.view_is
    (number_past c.self.inside.pair c.self.inside.tables.starts.items c.self.invariant.starts c.args.node c.args.k c.in-Some.variable
    (sym c.variable.ensures.variable ∙ c.in-Some.is) past)

pub returns-in-None : goal.returns-in-None
returns-in-None c =
    subst (λ (net : AigPair). None ≡ clause_number_of net c.args.node c.args.k) c.self.view_is
    (sym (clause_number_of-none c.self.inside.pair c.args.node c.args.k
    (axioms_of-none c.self.inside.pair c.args.node (sym c.variable.ensures.variable ∙ c.in-None.is))))
