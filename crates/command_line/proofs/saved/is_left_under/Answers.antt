use Rattle.std.proofs.Common.{◌∙◌, ◌++◌, ℕ, Bor, List, codes, sym, ap, None, Some}
use Rattle.std.specs.Prelude.{Option}
use Rattle.std.proofs.lemmas.Bool.Decides.{Decides-eqb}
use Rattle.std.proofs.lemmas.Slice.Eq.{strip_prefix_is}
use Rattle.command_line.proofs.SavedLemmas.{left-behind, none-behind, none-dotted}
use Rattle.command_line.proofs.saved.is_left_under.Goals as goal

abbrev none : Option (Bor (List ℕ))
none = None

pub returns-in-Some-strip_prefix : goal.returns-in-Some-strip_prefix
returns-in-Some-strip_prefix c =
    let first = strip_prefix_is Decides-eqb c.as_bytes.result.now c.as_bytes-2.result.now (Some c.in-Some.rest) c.in-Some.ensures.cases in
    let second = strip_prefix_is Decides-eqb c.in-Some.rest.now (codes ".") (Some c.in-Some-strip_prefix.rest) c.in-Some-strip_prefix.ensures.cases in
    c.is_numbered.ensures
    ∙ left-behind c.args.prefix.now c.args.name.now c.in-Some.rest.now c.in-Some-strip_prefix.rest.now
    (sym c.as_bytes.ensures.value ∙ first ∙ ap (λ (p : List ℕ). p ++ c.in-Some.rest.now) c.as_bytes-2.ensures.value) second

pub returns-in-None-strip_prefix : goal.returns-in-None-strip_prefix
returns-in-None-strip_prefix c =
    let first = strip_prefix_is Decides-eqb c.as_bytes.result.now c.as_bytes-2.result.now (Some c.in-Some.rest) c.in-Some.ensures.cases in
    let second = strip_prefix_is Decides-eqb c.in-Some.rest.now (codes ".") none c.in-None-strip_prefix.ensures.cases in
    none-dotted c.args.prefix.now c.args.name.now c.in-Some.rest.now
    (sym c.as_bytes.ensures.value ∙ first ∙ ap (λ (p : List ℕ). p ++ c.in-Some.rest.now) c.as_bytes-2.ensures.value) second

pub returns-in-None : goal.returns-in-None
returns-in-None c =
    let first = strip_prefix_is Decides-eqb c.as_bytes.result.now c.as_bytes-2.result.now none c.in-None.ensures.cases in
    none-behind c.args.prefix.now c.args.name.now
    (λ rest is. first rest (c.as_bytes.ensures.value ∙ is ∙ ap (λ (p : List ℕ). p ++ rest) (sym c.as_bytes-2.ensures.value)))
