use Rattle.std.proofs.Common.{ap, ◌-◌, List, take, drop, arith, subst}
use Rattle.std.specs.List.{AllByRecursion}
use Rattle.lits.specs.declared.node.Node.{Node}
use Rattle.flat_base.specs.Flat.{Coded, Flat, IsCoded}
use Rattle.flat_base.proofs.FlatLemmas.{is-coded, size-of}
use Rattle.flat_base.proofs.flat_base.FlatBase.codes.Goals as goal

pub returns-clause-coded : goal.returns-clause-coded
returns-clause-coded c =
    let p = c.index-place.result.now in
    let size = size-of c.self.inside.codes.items c.self.inside.places.items c.args.self.now.clauses (ap (λ (f : Flat). f.clauses) c.self.view_is) in
    rw c.as_slice.ensures.value (
    subst (λ (ns : List Node). IsCoded ns (take (p.end - p.start) (drop p.start c.self.inside.codes.items))) (ap (λ (f : Flat). f.nodes) c.self.view_is)
    (is-coded c.self.inside.nodes.items c.self.inside.codes.items c.self.inside.places.items c.args.self.now.clauses c.args.number p (ap (λ (f : Flat). f.clauses) c.self.view_is)
    (omega (arith, c.requires, size)) c.index-place.ensures
    (subst (λ (cs : List Coded). AllByRecursion (λ d. IsCoded c.self.inside.nodes.items d.codes) cs) (ap (λ (f : Flat). f.clauses) c.self.view_is) c.self.invariant.0.coded)))
