use Rattle.std.proofs.Common.{◌∙◌, ◌++◌, ℕ, Bor, List, ap, sym, None, Some}
use Rattle.std.specs.Prelude.{Option}
use Rattle.std.proofs.lemmas.Bool.Decides.{Decides-eqb}
use Rattle.std.proofs.lemmas.Slice.Eq.{strip_prefix_is}
use Rattle.command_line.proofs.SavedLemmas.{first-behind, first-none}
use Rattle.command_line.proofs.saved.is_first_under.Goals as goal

abbrev none : Option (Bor (List ℕ))
none = None

pub returns-in-Some : goal.returns-in-Some
returns-in-Some c =
    let first = strip_prefix_is Decides-eqb c.as_bytes.result.now c.as_bytes-2.result.now (Some c.in-Some.rest) c.in-Some.ensures.cases in
    c.is_first_ending.ensures
    ∙ first-behind c.args.prefix.now c.args.name.now c.in-Some.rest.now
    (sym c.as_bytes.ensures.value ∙ first ∙ ap (λ (p : List ℕ). p ++ c.in-Some.rest.now) c.as_bytes-2.ensures.value)

pub returns-in-None : goal.returns-in-None
returns-in-None c =
    let first = strip_prefix_is Decides-eqb c.as_bytes.result.now c.as_bytes-2.result.now none c.in-None.ensures.cases in
    first-none c.args.prefix.now c.args.name.now
    (λ rest is. first rest (c.as_bytes.ensures.value ∙ is ∙ ap (λ (p : List ℕ). p ++ rest) (sym c.as_bytes-2.ensures.value)))
