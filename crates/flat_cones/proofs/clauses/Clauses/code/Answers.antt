-- Each round numbers one node and puts one code.
use Rattle.std.proofs.Common.{◌∷◌, ◌∙◌, [], List, false, get_or, subst, sym, take, arith}
use Rattle.std.proofs.lemmas.List.{take_all}
use Rattle.lits.specs.declared.literal.Lit.{Lit}
use Rattle.lits.specs.declared.node.Node.{Node}
use Rattle.lits.specs.declared.node.Node.TheVariants.{Const}
use Rattle.lemma_book.specs.Cone.{nodes_in}
use Rattle.flat_cones.specs.Numbered.{Takes, AreCodes, PutsCode}
use Rattle.flat_cones.proofs.BoundLemmas.{lits-next, nodes-next}
use Rattle.flat_cones.proofs.NumberLemmas.{takes-none, takes-more, codes-none, codes-next}
use Rattle.flat_cones.proofs.clauses.Clauses.code.Goals as goal

pub loop-place-init : goal.loop-place-init
loop-place-init c = (
  takes-none c.args.net.now c.args.spots.now c.args.self.now.base c.requires.places,
  rw c.clear.ensures.items (codes-none c.args.self.now.base.nodes),
)

pub put_code-requires-clause-places : goal.put_code-requires-clause-places
put_code-requires-clause-places c = c.loop-place.invariant.0.places

pub loop-place-preserved : goal.loop-place-preserved
loop-place-preserved c =
    let none : Lit = record { node = Const; neg = false } in
    let lit = get_or c.args.lits.now c.loop-place.place none in
    let same = c.dim_of.ensures.lit in (
      subst (λ (ns : List Node). Takes c.args.net.now c.args.self.now.base ns c.put_code.new.spots c.put_code.new.self.base)
          (nodes-next c.args.lits.now c.loop-place.place none c.loop-place-test.true)
          (takes-more c.args.net.now c.args.self.now.base c.loop-place.self.base c.put_code.new.self.base
          (nodes_in (take c.loop-place.place c.args.lits.now)) (lit.node ∷ []) c.loop-place.spots c.put_code.new.spots
          c.loop-place.invariant.0
          (subst (λ (l : Lit). Takes c.args.net.now c.loop-place.self.base (l.node ∷ []) c.put_code.new.spots c.put_code.new.self.base)
          same c.in_ok-put_code.ensures.takes)),
      subst (λ (ls : List Lit). AreCodes c.put_code.new.self.base.nodes ls c.put_code.new.self.codes.items)
          (sym (lits-next c.args.lits.now c.loop-place.place none c.loop-place-test.true))
          (codes-next c.loop-place.self.base.nodes c.put_code.new.self.base.nodes c.in_ok-put_code.ensures.takes.more
          (take c.loop-place.place c.args.lits.now) lit c.loop-place.self.codes.items c.put_code.new.self.codes.items
          c.in_ok-put_code.ensures.takes.grows c.loop-place.invariant.1
          (subst (λ (l : Lit). PutsCode c.loop-place.self.codes.items l c.put_code.new.self.base.nodes c.put_code.new.self.codes.items)
          same c.in_ok-put_code.ensures.code)),
    )

pub returns-clause-takes : goal.returns-clause-takes
returns-clause-takes c =
    subst (λ (l : List Lit). Takes c.args.net.now c.args.self.now.base (nodes_in l) c.loop-place.spots c.loop-place.self.base)
    (take_all c.loop-place.place c.args.lits.now (omega (arith, c.loop-place-test.false))) c.loop-place.invariant.0

pub returns-clause-codes : goal.returns-clause-codes
returns-clause-codes c =
    subst (λ (l : List Lit). AreCodes c.loop-place.self.base.nodes l c.loop-place.self.codes.items)
    (take_all c.loop-place.place c.args.lits.now (omega (arith, c.loop-place-test.false))) c.loop-place.invariant.1
