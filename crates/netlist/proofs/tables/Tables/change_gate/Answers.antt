use Rattle.std.proofs.Common.{◌≡◌, ◌∙◌, ◌-◌, ℕ, Option, Some, ap, refl, sym, subst, arith}
use Rattle.std.specs.Prelude.{IsSome, slice_get, slice_set}
use Rattle.std.specs.Option.{option_map}
use Rattle.netlist.specs.declared.gate.Fanins.{Fanins}
use Rattle.netlist.specs.Net.{all_fanins, definitions, fanins_of}
use Rattle.netlist.proofs.NetLemmas.{length-definitions, length-nodes}
use Rattle.netlist.proofs.GateLemmas.{fanins_at-all}
use Rattle.netlist.proofs.OneNode.{element}
use Rattle.netlist.proofs.tables.Tables.change_gate.Goals as goal

pub unwrap-requires : goal.unwrap-requires
unwrap-requires c =
    let net = c.args.pair.now in
    let found = element (definitions net) (c.args.position - c.first_gate.result)
    (omega (arith, c.requires.first, c.requires.last, c.first_gate.ensures.first, length-nodes net, length-definitions net)) in
    subst (λ (o : Option Fanins). IsSome o) (sym (c.fanins.ensures ∙ ap (option_map (fanins_of net)) found.1)) refl

pub index_mut-requires : goal.index_mut-requires
index_mut-requires c =
    let net = c.args.pair.now in
    omega (
      arith,
      c.requires.first,
      c.requires.last,
      c.requires.fanins.count,
      c.first_gate.ensures.first,
      c.args.self.now.fanins.ok.0,
      length-nodes net,
      length-definitions net,
    )

pub returns : goal.returns
returns c =
    let net = c.args.pair.now in
    let found : c.fanins.result ≡ Some c.unwrap.result = cc c.unwrap.ensures in
    let written : (f : Fanins) → slice_get (all_fanins net) (c.args.position - c.first_gate.result) ≡ Some f
    → slice_set c.args.self.now.fanins.items (c.args.position - c.first_gate.result) f ≡ all_fanins net =
    subst (λ (n : ℕ). (f : Fanins) → slice_get (all_fanins net) (c.args.position - n) ≡ Some f
    → slice_set c.args.self.now.fanins.items (c.args.position - n) f ≡ all_fanins net)
    (sym c.first_gate.ensures.first) c.requires.fanins.written in
    record {
      fanins = written c.unwrap.result (fanins_at-all net (c.args.position - c.first_gate.result) ∙ sym c.fanins.ensures ∙ found);
      starts = c.renumber.ensures;
    }
