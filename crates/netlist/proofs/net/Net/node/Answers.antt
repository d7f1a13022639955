use Rattle.std.proofs.Common.{◌∙◌, ◌<◌, length, ap, sym, subst, arith}
use Rattle.std.proofs.lemmas.Option.{get_or_from_slice_get}
use Rattle.lits.specs.declared.node.Node.TheVariants.{Const}
use Rattle.netlist.specs.Net.{AigPair, nodes_of, node_at}
use Rattle.netlist.specs.Miter.{xors_of, variables_of}
use Rattle.netlist.proofs.PlaceLemmas.{slice_get-left}
use Rattle.netlist.proofs.NetLemmas.{length-variables}
use Rattle.netlist.proofs.net.Net.node.Goals as goal

pub node-requires : goal.node-requires
node-requires c =
    subst (λ (net : AigPair). c.args.position < length (variables_of net)) (sym c.self.view_is)
    (omega (arith, c.requires, length-variables c.args.self.now))

pub returns : goal.returns
returns c =
    let net = c.self.inside.pair in
    let below : c.args.position < length (nodes_of net) =
    subst (λ (n : AigPair). c.args.position < length (nodes_of n)) (sym c.self.view_is) c.requires in
    sym (get_or_from_slice_get (nodes_of net) c.args.position c.node.result Const
    (sym (slice_get-left (nodes_of net) (xors_of net) c.args.position below) ∙ c.node.ensures))
    ∙ ap (λ (n : AigPair). node_at n c.args.position) c.self.view_is
