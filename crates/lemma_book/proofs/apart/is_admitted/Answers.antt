-- Where A's constraints are true, those of B decide.
use Rattle.std.proofs.Common.{◌∙◌, true, false, sym, refl}
use Rattle.std.specs.Prelude.{IfOk, Result, Ok, Err}
use Rattle.std.specs.List.{list_all}
use Rattle.lits.specs.declared.node.Side.TheVariants.{B}
use Rattle.netlist.specs.Net.{bounds_on, lit_holds, value_of}
use Rattle.lemma_book.proofs.AdmittedInputs.{tells-admitted}
use Rattle.lemma_book.proofs.apart.is_admitted.Goals as goal

-- what holds of a value that came well
if_ok-weaker : {T E : Type 0} {P Q : T → Type 0} (r : Result T E) → IfOk r P → ((x : T) → P x → Q x) → IfOk r Q
if_ok-weaker (Ok x) p f = f x p
if_ok-weaker (Err e) p f = p

pub returns-then-not-branch : goal.returns-then-not-branch
returns-then-not-branch c =
    tells-admitted c.args.net.now c.is_net.ensures c.args.input.now c.requires.whole false
    (list_all (lit_holds (value_of c.args.net.now c.args.input.now)) (bounds_on c.args.net.now B))
    (sym c.if-not-branch.true ∙ c.in_ok-are_met.ensures.value) refl

pub returns : goal.returns
returns c =
    if_ok-weaker c.are_met-2.result c.are_met-2.ensures.value (λ b is.
    tells-admitted c.args.net.now c.is_net.ensures c.args.input.now c.requires.whole true b
    (sym c.if-not-branch.false ∙ c.in_ok-are_met.ensures.value) is)
