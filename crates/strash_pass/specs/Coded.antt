-- Clauses and sets of literals as words of bits, where each literal of a few nodes has a bit.
use Rattle.std.specs.Prelude.{◌≡◌, ◌≢◌, ℕ, ◌+◌, ◌-◌, ◌*◌, ◌%◌, ◌^◌, ◌<◌, ◌==◌, ◌||◌, ◌&&◌, Bool, true, List, [], ◌∷◌, Option, Some, bit_and, if◌then◌else◌, ⊤}
use Rattle.std.specs.Int.{bit_at, bit_not, trailing_zeros, w64}
use Rattle.std.specs.List.{position}
use Rattle.std.specs.Option.{option_map}
use Rattle.lits.specs.declared.node.Node.{Node}
use Rattle.lits.specs.declared.literal.Lit.{Lit}
use Rattle.lits.specs.declared.step.Named.{Named}
use Rattle.lits.specs.Clause.{has}
use Rattle.lits.specs.Same.{same_lit, same_node, opposite}
use Rattle.strash_pass.specs.declared.marks.Marks.{Marks}
use Rattle.strash_pass.specs.declared.coded.Coded.{Coded}

-- the bit of a literal: twice its node's place among the nodes, and one more for a negation
abbrev pub bit_of : List Node → Lit → Option ℕ
bit_of nodes l = option_map (λ p. 2 * p + (if l.neg then 1 else 0)) (position (λ n. same_node n l.node) nodes)

-- the bit of the negation
abbrev pub turned : ℕ → ℕ
turned b = if b % 2 == 0 then b + 1 else b - 1

abbrev pub is_set : ℕ → ℕ → Bool
is_set word b = bit_at word b == 1

-- the new word has the bit, and else what the old one has
pub record Sets (old b new : ℕ) : Type 0 where
  pub same : is_set new b ≡ true
  pub other : (i : ℕ) → i ≢ b → is_set new i ≡ is_set old i

-- the word's bits are those of the literals, each of which has one
pub record AreBits (bit : Lit → Option ℕ) (lits : List Lit) (word : ℕ) : Type 0 where
  pub each : (l : Lit) (b : ℕ) → bit l ≡ Some b → is_set word b ≡ has same_lit lits l
  pub have : (l : Lit) → has same_lit lits l ≡ true → (b : ℕ) × (bit l ≡ Some b)
  pub only : (b : ℕ) → is_set word b ≡ true → (l : Lit) × (bit l ≡ Some b)

-- the literals that are true are those of the set: `yes` has their bits, `no` those of their negations
pub record AreMarks (bit : Lit → Option ℕ) (set : List Lit) (marks : Marks) : Type 0 where
  pub small : marks.no < 2 ^ 64
  pub yes : (l : Lit) (b : ℕ) → bit l ≡ Some b → is_set marks.yes b ≡ has same_lit set l
  pub no : (l : Lit) (b : ℕ) → bit l ≡ Some b → is_set marks.no b ≡ has same_lit set (opposite l)

-- what the marks leave of a clause: the bits of the literals that aren't false
abbrev pub open_word : Marks → ℕ → ℕ
open_word marks word = bit_and word (bit_not w64 marks.no)

-- the word has one bit at most
abbrev pub is_single : ℕ → Bool
is_single word = word == 0 || word == 2 ^ trailing_zeros w64 word

-- the marks leave one literal of the clause at most, which isn't true
abbrev pub asks_word : Marks → ℕ → Bool
asks_word marks word = bit_and marks.yes (open_word marks word) == 0 && is_single (open_word marks word)

-- the named clauses as words, one by one
abbrev pub AreCoded : (Lit → Option ℕ) → List Named → List Coded → Type 0
AreCoded bit [] [] = ⊤
AreCoded bit (n ∷ ns) (c ∷ cs) = ((c.by ≡ n.by) × AreBits bit n.clause c.word) × AreCoded bit ns cs
AreCoded bit _ _ = ⊥
