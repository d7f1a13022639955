-- Where the writer of a proof stands while it goes through the lines.
use Rattle.std.specs.Prelude.{◌≡◌, ℕ, ◌+◌, ◌-◌, ◌<◌, ◌≤◌, Bool, true, false, ◌||◌, ◌&&◌, ◌==◌, ◌⊎◌, List, [], ◌∷◌, ◌++◌, length, map, min, take, Result, Ok, Err}
use Rattle.std.specs.List.{AllByRecursion}
use Rattle.lits.specs.declared.step.Step.{Step}
use Rattle.netlist.specs.Net.{AigPair}
use Rattle.netlist.specs.Miter.{numbered}
use Rattle.desk_port.specs.Desk.{DeskState, Sizes}
use Rattle.desk_port.specs.Pieces.{Moves, StopsInPieces}
use Rattle.desk_port.specs.declared.errors.PutErr.{PutErr}
use Rattle.lrat_text.specs.declared.step.LratStep.{LratStep}
use Rattle.lrat_text.specs.declared.step.LratStep.TheVariants.{Add, Del}
use Rattle.lrat_text.specs.Writing.{text_from, IsInRange}
use Rattle.proof_stitch.specs.Steps.{id_of}
use Rattle.proof_stitch.specs.Table.{named_in, number_at}
use Rattle.proof_stitch.specs.Trimmed.{deletion, has_id, id_in, is_cited, new_id, reached, renamed, trimmed, with_deletions}
use Rattle.proof_stitch.specs.declared.by_step.ByStep.{ByStep}
use Rattle.proof_stitch.specs.declared.proof_text.ProofText.{ProofText}

-- the line adds a clause with literals in range under the next id, and cites earlier ones
abbrev pub Follows : ℕ → LratStep → Type 0
Follows last (Add id clause hints) =
    (id ≡ last + 1) × AllByRecursion (λ h. (1 ≤ h) × (h ≤ last)) hints × AllByRecursion IsInRange clause
Follows last (Del ids) = ⊥

-- and so does each of some lines
abbrev pub InRow : ℕ → List LratStep → Type 0
InRow last [] = Unit {0}
InRow last (line ∷ lines) = Follows last line × InRow (last + 1) lines

-- each number is below those behind it
abbrev pub Rises : List ℕ → Type 0
Rises [] = Unit {0}
Rises (n ∷ ns) = AllByRecursion (λ k. n < k) ns × Rises ns

-- what a count in a machine word of 64 bits tells, which stands still at the greatest one
abbrev pub counted : ℕ → ℕ
counted n = min n 18446744073709551615

-- Of all lines, some are left, from the id `next` on. Those of the others that are reached are written and have their new
-- ids, and with what is left they are as many lines as the whole.
pub record IsAtLine (m : ℕ) (asked : ℕ → Bool) (all left : List LratStep) (next : ℕ) (names : ByStep) (proof : ProofText) : Type 0 where
  pub last : ℕ
  pub next_is : next ≡ last + 1
  pub row : InRow last left
  pub done : List LratStep
  pub parts : reached asked all ≡ done ++ reached asked left
  pub least : m ≤ last
  pub low : AllByRecursion (λ l. (m < id_in l) × (id_in l ≤ last)) done
  pub rises : Rises (map id_in done)
  pub cited : (n : ℕ) → last < n → is_cited done n ≡ false
  pub known : (n : ℕ) → (asked n || is_cited (reached asked left) n) ≡ true → n ≤ last
      → (n ≤ m) ⊎ (has_id (map id_in done) n ≡ true)
  pub names_are : (n : ℕ) → has_id (map id_in done) n ≡ true → named_in names n ≡ new_id m (reached asked all) n
  pub last_is : proof.last ≡ m + length done
  pub lines_is :
      counted (proof.lines + length (with_deletions asked done (reached asked left)))
      ≡ counted (length (trimmed m asked all))

-- ---- a step that is written

-- these are the steps that the step cites and that bear its mark
pub record AreLastCited (net : AigPair) (shown : List ℕ) (marks : ByStep) (first id : ℕ) (step : Step) (gone : List ℕ) : Type 0 where
  pub rises : Rises gone
  pub members : (n : ℕ) → has_id gone n ≡ (has_id (map (id_of net shown first) step.hints) n && (number_at marks n == id))

-- the step's line under the next id, and the deletion of these
abbrev pub step_lines : AigPair → List ℕ → ℕ → Step → ByStep → ℕ → List ℕ → List LratStep
step_lines net shown first step names last gone =
    Add (last + 1) (map (numbered net) step.clause) (map (named_in names) (map (id_of net shown first) step.hints))
    ∷ deletion (map (named_in names) gone)

-- ---- the text that goes out

-- what is reached of the lines before those that are left
abbrev pub done_before : (ℕ → Bool) → List LratStep → List LratStep → List LratStep
done_before asked all left = take (length (reached asked all) - length (reached asked left)) (reached asked all)

-- the text of what is left
abbrev pub text_left : ℕ → (ℕ → Bool) → List LratStep → List LratStep → List ℕ
text_left m asked all left =
    text_from (m + length (done_before asked all left))
    (map (renamed (new_id m (reached asked all))) (with_deletions asked (done_before asked all left) (reached asked left)))

-- the bytes that aren't in the file yet: what the writer holds, and the text of what is left
abbrev pub unsent : ℕ → (ℕ → Bool) → List LratStep → List LratStep → ProofText → List ℕ
unsent m asked all left proof = proof.pieces ++ text_left m asked all left

-- From where the writer stands it went on to there, and of the bytes that weren't in the file whole pieces went out.
pub record GoesOn (m : ℕ) (asked : ℕ → Bool) (all lines left : List LratStep) (next next' : ℕ) (names names' : ByStep) (proof proof' : ProofText)
    (old new : DeskState) (sizes told : Sizes) : Type 0 where
  pub stands : IsAtLine m asked all lines next names proof → IsAtLine m asked all left next' names' proof'
  pub moves :
      IsAtLine m asked all lines next names proof
      → Moves [] (unsent m asked all lines proof) (unsent m asked all left proof') old new sizes told

-- It went on, or it stopped.
abbrev pub Goes : {A : Type 0} → ℕ → (ℕ → Bool) → List LratStep → List LratStep → List LratStep → ℕ → ℕ → ByStep → ByStep → ProofText → ProofText
    → DeskState → DeskState → Sizes → Sizes → Result A PutErr → Type 0
Goes m asked all lines left next next' names names' proof proof' old new sizes told (Ok _) =
    GoesOn m asked all lines left next next' names names' proof proof' old new sizes told
Goes m asked all lines left next next' names names' proof proof' old new sizes told (Err error) =
    IsAtLine m asked all lines next names proof → StopsInPieces (unsent m asked all lines proof) error old new sizes told
