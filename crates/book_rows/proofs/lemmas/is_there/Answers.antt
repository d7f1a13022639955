-- A literal has a number where its node has a variable.
use Rattle.std.proofs.Common.{◌≡◌, ◌∙◌, ◌∷◌, [], ℕ, Option, Some, None, refl, sym, ap}
use Rattle.std.specs.Option.{is_some, option_map}
use Rattle.std.proofs.lemmas.Bool.{OnTrue_from}
use Rattle.netlist.specs.Miter.{variable_of}
use Rattle.lemma_book.specs.Cone.{AreThere}
use Rattle.book_rows.proofs.lemmas.is_there.Goals as goal

is_some-map : {A B : Type 0} (f : A → B) (o : Option A) → is_some (option_map f o) ≡ is_some o
is_some-map f None = refl
is_some-map f (Some x) = refl

pub returns : goal.returns
returns c =
    let variable = variable_of c.args.net.now c.args.lit.node in
    let numbered = sym (is_some-map (λ (v : ℕ). record { var = v; neg = c.args.lit.neg }) variable)
    ∙ ap is_some (sym c.cnf_number.ensures)
    ∙ sym c.is_some.ensures in
    OnTrue_from c.is_some.result (AreThere c.args.net.now (c.args.lit ∷ [])) (λ yes. (numbered ∙ yes, tt))
