-- The cone over what the starts reach, and behind it the units of both sides.
use Rattle.std.proofs.Common.{◌∙◌, ◌++◌, List, take, ap, sym, subst, append_assoc}
use Rattle.lits.specs.declared.literal.Lit.{Lit}
use Rattle.lits.specs.declared.node.Side.TheVariants.{A, B}
use Rattle.lits.specs.declared.step.Named.{Named}
use Rattle.lemma_book.specs.Cone.{AreThere, nodes_in, named_bounds, IsCone}
use Rattle.lemma_book.proofs.OutputCones.{starts-there}
use Rattle.lemma_book.proofs.output_cone.output_cone_over.Goals as goal

pub cone_over-requires-clause-there : goal.cone_over-requires-clause-there
cone_over-requires-clause-there c =
    subst (AreThere c.args.net.now) (sym (c.as_slice.ensures.value ∙ c.in_ok-starts.ensures))
    (starts-there c.args.net.now c.is_net.ensures c.args.output c.requires.there)

pub returns : goal.returns
returns c = record {
  nodes = c.in_ok-cone.cone.items;
  is_cone = subst (λ (l : List Lit). IsCone c.args.net.now (take c.args.seen c.args.book.now.entries) (nodes_in l) c.in_ok-cone.cone.items)
      (c.as_slice.ensures.value ∙ c.in_ok-starts.ensures) c.in_ok-cone.ensures;
  clauses = c.in_ok-add_units-2.ensures
      ∙ ap (λ (l : List Named). l ++ named_bounds c.args.net.now B) c.in_ok-add_units.ensures
      ∙ append_assoc c.in_ok-cone.cone.items (named_bounds c.args.net.now A) (named_bounds c.args.net.now B);
}
