use Rattle.std.proofs.Common.{Ok, Err}
use Rattle.std.specs.Prelude.{Result, OnErr}
use Rattle.tokens.proofs.Facts.{begins_after}
use Rattle.circuit_text.proofs.BeginLemmas.{begins_behind}
use Rattle.circuit_text.proofs.writing.append_ascii.Goals as goal

-- what follows from a fact of an error is a fact of it too
err-so : {T E P Q : Type 0} (r : Result T E) → (P → Q) → OnErr r P → OnErr r Q
err-so (Ok x) f h = tt
err-so (Err e) f h = f h

pub returns-clause-err : goal.returns-clause-err
returns-clause-err c =
    err-so c.push_symbols.result
    (λ begins. begins_after _ _ _ _ c.in_ok-push_header.ensures.ok
    (begins_after _ _ _ _ c.in_ok-push_inputs.ensures.ok
    (begins_behind _ _ _ _ _ c.in_ok-push_outputs_and_constraints.ensures.ok
    (begins_after _ _ _ _ c.in_ok-push_gates.ensures.ok begins))))
    c.push_symbols.ensures.err
