use Rattle.std.proofs.Common.{ℕ, sym, subst, length}
use Rattle.sweep_workers.specs.Swept.{HasInputs}
use Rattle.sweep_workers.proofs.AnswerLemmas.{inputs-at, inputs-none, legal-whole, on-ok, whole-at}
use Rattle.sweep_workers.proofs.inputs.join_input_at.Goals as goal

pub join_input-requires : goal.join_input-requires
join_input-requires c =
    let net = c.args.net.now in
    let book = c.args.book.now in
    let entry = c.in-Some.entry.now in
    subst (λ (n : ℕ). HasInputs n entry) (sym c.requires.inputs)
    (whole-at (length net.a.inputs) book.entries c.args.place entry (sym c.in-Some.ensures) (legal-whole net book c.requires.legal))

pub returns-in-Some-clause-patterns : goal.returns-in-Some-clause-patterns
returns-in-Some-clause-patterns c =
    on-ok c.join_input.result _ _ c.join_input.ensures.patterns
    (λ joins. inputs-at c.args.book.now.entries c.args.place c.in-Some.entry.now c.args.pool.now.patterns c.join_input.new.pool.patterns
    (sym c.in-Some.ensures) joins)

pub returns-in-None-clause-patterns : goal.returns-in-None-clause-patterns
returns-in-None-clause-patterns c =
    inputs-none c.args.book.now.entries c.args.place c.args.pool.now.patterns (sym c.in-None.ensures)
