-- What stands at the position is the node's.
use Rattle.std.proofs.Common.{◌≡◌, ◌∙◌, ◌<◌, ◌≤◌, ℕ, Option, Some, None, List, ap, sym, length, ltb, get_or, Bor, arith}
use Rattle.std.specs.Prelude.{slice_get, IfSome}
use Rattle.std.specs.Option.{option_copied, is_some}
use Rattle.std.proofs.lemmas.Bool.Decides.{nat_tests}
use Rattle.std.proofs.lemmas.Option.{slice_get_past, slice_get-get_or}
use Rattle.strash_pass.specs.declared.merged.Known.{Known}
use Rattle.strash_pass.proofs.merged.Merged.find.Goals as goal

read : (o : Option (Bor (Option Known))) (xs : List (Option Known)) (k : ℕ) → is_some o ≡ ltb k (length xs) → IfSome o (λ x. x.now ≡ get_or xs k x.now)
    → option_copied o ≡ slice_get xs k
read None xs k there same = let past : length xs ≤ k = grind (arith, nat_tests) in sym (slice_get_past xs k past)
read (Some x) xs k there same = let within : k < length xs = grind (arith, nat_tests) in ap Some same ∙ sym (slice_get-get_or xs k x.now within)

pub returns-in-Some : goal.returns-in-Some
returns-in-Some c =
    c.requires.merged c.args.node c.args.at c.in-Some.known c.requires.at
    (sym (c.copied.ensures ∙ read c.get.result c.deref.result.now c.args.at c.get.ensures.lookup.0 c.get.ensures.lookup.1
    ∙ ap (λ (ks : List (Option Known)). slice_get ks c.args.at) (c.deref.ensures.value ∙ c.self.view_is)) ∙ c.in-Some.is)
