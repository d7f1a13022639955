-- Steps of a proof, and the ids of its additions.
use Rattle.std.specs.Prelude.{ℕ, List, [], ◌∷◌}
use Rattle.lrat_text.specs.declared.step.Line.{Line}
use Rattle.lrat_text.specs.declared.step.LratStep.{LratStep}
use Rattle.lrat_text.specs.declared.step.LratStep.TheVariants.{Add, Del}

-- the id of the last addition, which was `last` before the step
abbrev pub id_after : ℕ → LratStep → ℕ
id_after last (Add id clause hints) = id
id_after last (Del ids) = last

-- the same behind some lines
abbrev pub last_id : ℕ → List Line → ℕ
last_id last [] = last
last_id last (line ∷ lines) = last_id (id_after last line.step) lines
