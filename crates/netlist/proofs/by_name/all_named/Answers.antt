use Rattle.std.proofs.Common.{◌≡◌, ◌<◌, ℕ, length, List, Option, None, Some, not, true, false, refl, sym, ap, ◌∙◌, arith, Bor}
use Rattle.std.specs.Option.{option_map, option_copied, is_some}
use Rattle.netlist.specs.declared.unlike.Unlike.TheVariants.{NoName}
use Rattle.netlist.specs.ByName.{is_nameless}
use Rattle.netlist.proofs.LeastLemmas.{least-here, least-next}
use Rattle.netlist.proofs.by_name.all_named.Goals as goal

copied : (o : Option (Bor (List ℕ))) → is_some (option_copied o) ≡ is_some o
copied None = refl
copied (Some x) = refl

pub returns-then-is_none : goal.returns-then-is_none
returns-then-is_none c =
    let names = c.args.names.now in
    let none : is_nameless names c.loop-k.k ≡ true = ap not (ap is_some (sym c.get.ensures) ∙ copied c.get.result ∙ c.if-is_none.ensures) in
    let below : c.loop-k.k < length names = omega (arith, c.requires, c.loop-k-test.true) in
    ap (option_map (λ (k : ℕ). NoName c.args.side c.args.port k)) (least-here (is_nameless names) c.loop-k.k (length names) below c.loop-k.invariant none)

pub loop-k-preserved : goal.loop-k-preserved
loop-k-preserved c =
    let names = c.args.names.now in
    let named : is_nameless names c.loop-k.k ≡ false = ap not (ap is_some (sym c.get.ensures) ∙ copied c.get.result ∙ c.if-is_none.ensures) in
    least-next (is_nameless names) c.loop-k.k c.loop-k.invariant named
