-- What is left of the lines of a proof where those that nothing rests on are left out, and each clause is deleted once
-- nothing behind it rests on it; as programs that trim proofs do it (Heule, Hunt and Wetzler 2013). Nothing is said here
-- of what a line derives: lines are ids, and the ids that they cite.
use Rattle.std.specs.Prelude.{◌≡◌, ℕ, ◌+◌, Bool, true, false, not, ◌&&◌, ◌||◌, ◌==◌, min, nat_le, List, [], ◌∷◌, ◌++◌, length, map, filter, if◌then◌else◌}
use Rattle.std.specs.List.{list_any}
use Rattle.lrat_text.specs.declared.step.LratStep.{LratStep}
use Rattle.lrat_text.specs.declared.step.LratStep.TheVariants.{Add, Del}

-- the id under which a line adds its clause
abbrev pub id_in : LratStep → ℕ
id_in (Add id clause hints) = id
id_in (Del ids) = 0

-- the id is among these
abbrev pub has_id : List ℕ → ℕ → Bool
has_id ids n = list_any (λ id. id == n) ids

-- the line shows its clause by the one of that id
abbrev pub cites : LratStep → ℕ → Bool
cites (Add id clause hints) n = has_id hints n
cites (Del ids) n = false

-- and one of some lines does
abbrev pub is_cited : List LratStep → ℕ → Bool
is_cited lines n = list_any (λ line. cites line n) lines

-- ---- which lines are reached

-- What is asked for, whoever cites it: the clauses of these ids, the lines that the proof is made for, and what those cite.
abbrev pub is_asked : List ℕ → List LratStep → ℕ → Bool
is_asked units goals n = has_id units n || has_id (map id_in goals) n || is_cited goals n

-- The lines that are reached: a line whose clause is asked for, and one that some reached line behind it cites.
abbrev pub reached : (ℕ → Bool) → List LratStep → List LratStep
reached asked [] = []
reached asked (line ∷ lines) =
    let behind = reached asked lines in
    if asked (id_in line) || is_cited behind (id_in line) then line ∷ behind else behind

-- ---- deletions

-- The ids of the lines before a line that it is the last to cite, and that aren't asked for, in the order of the lines.
abbrev pub last_cited : (ℕ → Bool) → List LratStep → LratStep → List LratStep → List ℕ
last_cited asked before line behind =
    filter (λ n. cites line n && not (asked n || is_cited behind n)) (map id_in before)

-- one line deletes them, if there are any
abbrev pub deletion : List ℕ → List LratStep
deletion [] = []
deletion (n ∷ ns) = Del (n ∷ ns) ∷ []

-- lines that stand behind some others, each with the deletion of what it is the last to cite
abbrev pub with_deletions : (ℕ → Bool) → List LratStep → List LratStep → List LratStep
with_deletions asked before [] = []
with_deletions asked before (line ∷ lines) =
    line ∷ (deletion (last_cited asked before line lines) ++ with_deletions asked (before ++ line ∷ []) lines)

-- ---- ids without gaps

-- The new id of a clause, for a formula of m clauses and the lines that stay: one of the formula has its number, and a line
-- as many more as there are lines up to it.
abbrev pub new_id : ℕ → List LratStep → ℕ → ℕ
new_id m lines n = min n m + length (filter (λ line. nat_le (id_in line) n) lines)

-- a line with each id renamed
abbrev pub renamed : (ℕ → ℕ) → LratStep → LratStep
renamed name (Add id clause hints) = Add (name id) clause (map name hints)
renamed name (Del ids) = Del (map name ids)

-- each addition has the id behind that of the addition before it
abbrev pub HaveNoGaps : ℕ → List LratStep → Type 0
HaveNoGaps last [] = Unit {0}
HaveNoGaps last (Add id clause hints ∷ lines) = (id ≡ last + 1) × HaveNoGaps id lines
HaveNoGaps last (Del ids ∷ lines) = HaveNoGaps last lines

abbrev pub is_addition : LratStep → Bool
is_addition (Add id clause hints) = true
is_addition (Del ids) = false

-- ---- the whole

-- What is written of the lines of a proof, for a formula of m clauses, where these ids are asked for.
abbrev pub trimmed : ℕ → (ℕ → Bool) → List LratStep → List LratStep
trimmed m asked lines =
    let kept = reached asked lines in
    map (renamed (new_id m kept)) (with_deletions asked [] kept)
