-- Gates that are simulated, in order, and what their rows are.
use Rattle.std.specs.Prelude.{◌≡◌, ℕ, ◌*◌, ◌<◌, ◌==◌, ◌||◌, ◌&&◌, Bool, true, ⊤, List, [], ◌∷◌}
use Rattle.std.specs.List.{AllByRecursion, list_any}
use Rattle.word_sim.specs.declared.gates.GateAt.{GateAt}
use Rattle.word_sim.specs.Rows.{HasBits, row_at, turned}

-- gates in order, and how many places for rows there are
pub record Gates : Type 0 where
  pub places : ℕ
  pub gates : List GateAt

-- the gate's row has a place, behind those of its fanins
pub record IsInside (places : ℕ) (gate : GateAt) : Type 0 where
  pub place : gate.place < places
  pub left : gate.fanins.left.position < gate.place
  pub right : gate.fanins.right.position < gate.place

abbrev pub AreInside : ℕ → List GateAt → Type 0
AreInside places gates = AllByRecursion (IsInside places) gates

-- some gate of the list has its row at this place
abbrev pub has_place : List GateAt → ℕ → Bool
has_place gates q = list_any (λ g. q == g.place) gates

-- a place more whose row is known
abbrev pub with_place : ℕ → (ℕ → Bool) → ℕ → Bool
with_place p known q = q == p || known q

-- the places whose rows are known when the gates were simulated
abbrev pub known_after : (ℕ → Bool) → List GateAt → ℕ → Bool
known_after known [] = known
known_after known (g ∷ gs) = known_after (with_place g.place known) gs

-- the gate is the AND of its fanins, whose rows are known, and no row at its place or behind is
pub record IsAnd (truth : ℕ → ℕ → Bool) (known : ℕ → Bool) (gate : GateAt) : Type 0 where
  pub left : known gate.fanins.left.position ≡ true
  pub right : known gate.fanins.right.position ≡ true
  pub behind : (q : ℕ) → known q ≡ true → q < gate.place
  pub value : (p : ℕ) → truth gate.place p
      ≡ (turned gate.fanins.left.neg (truth gate.fanins.left.position p)
      && turned gate.fanins.right.neg (truth gate.fanins.right.position p))

-- each gate is so when those before it were simulated
abbrev pub AreAnds : (ℕ → ℕ → Bool) → (ℕ → Bool) → List GateAt → Type 0
AreAnds truth known [] = ⊤
AreAnds truth known (g ∷ gs) = IsAnd truth known g × AreAnds truth (with_place g.place known) gs

-- the rows at these places have the values on so many words of patterns
abbrev pub HaveRows : ℕ → (ℕ → ℕ → Bool) → (ℕ → Bool) → List ℕ → Type 0
HaveRows words truth known rows = (q : ℕ) → known q ≡ true → HasBits (64 * words) (truth q) (row_at words q rows)
