use Rattle.std.proofs.Common.{◌≡◌, ◌∙◌, ◌<◌, ◌≤◌, ℕ, Option, Some, None, List, ap, sym, length, ltb, get_or, Bor, arith}
use Rattle.std.specs.Prelude.{slice_get, IfSome}
use Rattle.std.specs.Option.{option_copied, is_some}
use Rattle.std.proofs.lemmas.Bool.Decides.{nat_tests}
use Rattle.std.proofs.lemmas.Option.{slice_get_past, slice_get-get_or}
use Rattle.netlist.specs.declared.gate.Fanins.{Fanins}
use Rattle.netlist.specs.Net.{AigPair, fanins_at}
use Rattle.netlist.proofs.GateLemmas.{fanins_at-all}
use Rattle.netlist.proofs.net.Net.fanins.Goals as goal

read : (o : Option (Bor Fanins)) (xs : List Fanins) (k : ℕ) → is_some o ≡ ltb k (length xs) → IfSome o (λ x. x.now ≡ get_or xs k x.now)
    → option_copied o ≡ slice_get xs k
read None xs k there same = let past : length xs ≤ k = grind (arith, nat_tests) in sym (slice_get_past xs k past)
read (Some x) xs k there same = let within : k < length xs = grind (arith, nat_tests) in ap Some same ∙ sym (slice_get-get_or xs k x.now within)

pub returns : goal.returns
returns c =
    c.copied.ensures ∙ read c.get.result c.deref.result.now c.args.k c.get.ensures.lookup.0 c.get.ensures.lookup.1
    ∙ ap (λ (fs : List Fanins). slice_get fs c.args.k) (c.deref.ensures.value ∙ c.self.invariant.fanins)
    ∙ fanins_at-all c.self.inside.pair c.args.k ∙ ap (λ (net : AigPair). fanins_at net c.args.k) c.self.view_is
