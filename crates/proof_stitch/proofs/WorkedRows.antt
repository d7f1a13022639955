-- The definitions computed on small nets, by hand from the text of the definitions.
use Rattle.std.proofs.Common.{◌≡◌, ℕ, true, false, List, [], ◌∷◌, map, refl, lit<, lit≤}
use Rattle.lits.specs.Dimacs.{DimacsLiteral}
use Rattle.lits.specs.declared.node.Side.TheVariants.{A, B}
use Rattle.lits.specs.declared.node.Node.{Node}
use Rattle.lits.specs.declared.node.Node.TheVariants.{Input, Gate, Xor}
use Rattle.lits.specs.declared.step.Ref.TheVariants.{Axiom, Entry as Shown, Own, Bound}
use Rattle.lits.specs.declared.step.Step.{Step}
use Rattle.netlist.specs.Circuit.{Aig, plain}
use Rattle.netlist.specs.Net.{AigPair}
use Rattle.netlist.specs.Miter.{positive, negative}
use Rattle.lrat_text.specs.declared.step.LratStep.TheVariants.{Add, Del}
use Rattle.lemma_book.specs.declared.entry.Entry.{Entry}
use Rattle.lemma_book.specs.declared.entry.Entry.TheVariants.{Merge, Spent, Out, OutSpent}
use Rattle.lemma_book.specs.Entry.{Entries, has_out}
use Rattle.lemma_book.specs.Book.{IsLegal}
use Rattle.lemma_book.proofs.Facts.{good-merge, good-out}
use Rattle.proof_stitch.specs.Steps.{id_of}
use Rattle.proof_stitch.specs.Stitch.{refutation_of}
use Rattle.proof_stitch.specs.Derivation.{derivation_of, spans_of}

abbrev n : ℕ → DimacsLiteral
n v = record { var = v; neg = true }

abbrev p : ℕ → DimacsLiteral
p v = record { var = v; neg = false }

-- Two AND gates of the same two inputs, in either order: gate a has the CNF variable 4, gate b 5 and the XOR 6. The miter
-- is 1: (1), 2: (-4 2), 3: (-4 3), 4: (4 -2 -3), 5: (-5 3), 6: (-5 2), 7: (5 -3 -2), 8: (-6 4 5), 9: (-6 -4 -5),
-- 10: (6 -4 5), 11: (6 4 -5), 12: (6).
abbrev swapped : AigPair
swapped = record {
  a = plain (1 ∷ 2 ∷ []) (record { var = 3; left = 2; right = 4 } ∷ []) (6 ∷ []);
  b = plain (1 ∷ 2 ∷ []) (record { var = 3; left = 4; right = 2 } ∷ []) (6 ∷ []);
}

abbrev a : Node
a = Gate A 3

abbrev b : Node
b = Gate B 3

-- b has a's value, and so the output is equal
abbrev merge_steps : List Step
merge_steps =
    record { clause = negative b ∷ positive a ∷ []; hints = Axiom b 0 ∷ Axiom b 1 ∷ Axiom a 2 ∷ [] }
    ∷ record { clause = positive b ∷ negative a ∷ []; hints = Axiom a 0 ∷ Axiom a 1 ∷ Axiom b 2 ∷ [] } ∷ []

abbrev equal_steps : List Step
equal_steps =
    record { clause = negative (Xor 0) ∷ positive a ∷ []; hints = Axiom (Xor 0) 0 ∷ Shown 0 0 ∷ [] }
    ∷ record { clause = negative (Xor 0) ∷ []; hints = Own 0 ∷ Shown 0 1 ∷ Axiom (Xor 0) 1 ∷ [] } ∷ []

abbrev merged : Entry
merged = Merge b (positive a) merge_steps

abbrev swapped_book : Entries
swapped_book = record { sweep_budget = 1; out_budget = 1; entries = merged ∷ Out 0 equal_steps ∷ [] }

swapped_legal : IsLegal swapped swapped_book
swapped_legal = (
  good-merge swapped (record { sweep_budget = 1; out_budget = 1; entries = [] }) b (positive a) merge_steps (refl, refl)
      ((refl, (refl, tt)), ((refl, (refl, tt)), tt)) refl (lit< tt)
      (record { before = []; last = merge_steps; parts = refl; clauses_are = refl }) (lit≤ tt) (refl, (refl, tt)),
  (
    good-out swapped (record { sweep_budget = 1; out_budget = 1; entries = merged ∷ [] }) 0 equal_steps (lit< tt)
        ((refl, (refl, tt)), ((refl, tt), tt)) refl
        (record {
          before = record { clause = negative (Xor 0) ∷ positive a ∷ []; hints = Axiom (Xor 0) 0 ∷ Shown 0 0 ∷ [] } ∷ [];
          last = record { clause = negative (Xor 0) ∷ []; hints = Own 0 ∷ Shown 0 1 ∷ Axiom (Xor 0) 1 ∷ [] } ∷ [];
          parts = refl;
          clauses_are = refl;
        })
        (lit≤ tt) (refl, (refl, tt)),
    tt,
  ),
)

swapped_out : has_out (merged ∷ Out 0 equal_steps ∷ []) 0 ≡ true
swapped_out = refl

-- the steps of both entries by their ids, each deleted behind the last that cites it, and the empty clause
refutation_of-swapped : refutation_of swapped (merged ∷ Out 0 equal_steps ∷ [])
    ≡ Add 13 (n 5 ∷ p 4 ∷ []) (5 ∷ 6 ∷ 4 ∷ []) ∷ Add 14 (p 5 ∷ n 4 ∷ []) (2 ∷ 3 ∷ 7 ∷ [])
    ∷ Add 15 (n 6 ∷ p 4 ∷ []) (8 ∷ 13 ∷ []) ∷ Del (13 ∷ []) ∷ Add 16 (n 6 ∷ []) (15 ∷ 14 ∷ 9 ∷ []) ∷ Del (14 ∷ 15 ∷ [])
    ∷ Add 17 [] (16 ∷ 12 ∷ []) ∷ []
unfolding refutation_of
refutation_of-swapped = refl

-- The log of a query about two nodes takes no ids. The merge's second step is cited by nothing, and what the log cites isn't deleted.
spent_entries : List Entry
spent_entries = Spent b (positive a) 0 merge_steps ∷ merged ∷ OutSpent 0 2 (record { clause = negative (Xor 0) ∷ positive a ∷ []; hints = Axiom (Xor 0) 0 ∷ Shown 1 0 ∷ [] } ∷ []) ∷ []

derivation_of-swapped : derivation_of swapped spent_entries
    ≡ Add 13 (n 5 ∷ p 4 ∷ []) (5 ∷ 6 ∷ 4 ∷ []) ∷ Add 14 (n 6 ∷ p 4 ∷ []) (8 ∷ 13 ∷ []) ∷ []
unfolding derivation_of spent_entries
derivation_of-swapped = refl

-- Two outputs, the input and its negation, the same on both sides. The miter is 1: (1), 2: (-3 2), 3: (-3 -2), 4: (-4 -2),
-- 5: (-4 2), 6: (3 4).
abbrev wire : Aig
wire = plain (1 ∷ []) [] (2 ∷ 3 ∷ [])

abbrev wires : AigPair
wires = record { a = wire; b = wire }

-- output 1 in one step, and output 0 in two
abbrev only : Step
only = record { clause = negative (Xor 1) ∷ []; hints = Axiom (Xor 1) 0 ∷ Axiom (Xor 1) 1 ∷ [] }

abbrev first : Step
first = record { clause = negative (Xor 0) ∷ positive (Input 0) ∷ []; hints = Axiom (Xor 0) 0 ∷ [] }

abbrev second : Step
second = record { clause = negative (Xor 0) ∷ []; hints = Own 0 ∷ Axiom (Xor 0) 1 ∷ [] }

refutation_of-wires : refutation_of wires (Out 1 (only ∷ []) ∷ Out 0 (first ∷ second ∷ []) ∷ [])
    ≡ Add 7 (n 4 ∷ []) (4 ∷ 5 ∷ []) ∷ Add 8 (n 3 ∷ p 2 ∷ []) (2 ∷ []) ∷ Add 9 (n 3 ∷ []) (8 ∷ 3 ∷ []) ∷ Del (8 ∷ [])
    ∷ Add 10 [] (9 ∷ 7 ∷ 6 ∷ []) ∷ []
unfolding refutation_of
refutation_of-wires = refl

-- a step that nothing cites isn't written, nor what it alone cites, and those behind have the next ids
refutation_of-unreached :
    refutation_of wires (Out 1 (first ∷ second ∷ only ∷ []) ∷ Out 0 (first ∷ second ∷ []) ∷ [])
    ≡ Add 7 (n 4 ∷ []) (4 ∷ 5 ∷ []) ∷ Add 8 (n 3 ∷ p 2 ∷ []) (2 ∷ []) ∷ Add 9 (n 3 ∷ []) (8 ∷ 3 ∷ []) ∷ Del (8 ∷ [])
    ∷ Add 10 [] (9 ∷ 7 ∷ 6 ∷ []) ∷ []
unfolding refutation_of
refutation_of-unreached = refl

-- logs come in the order of the outputs, and what is no output of the circuits isn't written
open_entries : List Entry
open_entries = OutSpent 1 0 (only ∷ []) ∷ Out 2 (first ∷ []) ∷ OutSpent 0 0 (first ∷ second ∷ []) ∷ []

derivation_of-wires : derivation_of wires open_entries
    ≡ Add 7 (n 3 ∷ p 2 ∷ []) (2 ∷ []) ∷ Add 8 (n 3 ∷ []) (7 ∷ 3 ∷ []) ∷ Add 9 (n 4 ∷ []) (4 ∷ 5 ∷ []) ∷ []
unfolding derivation_of open_entries
derivation_of-wires = refl

spans_of-wires : spans_of wires open_entries
    ≡ record { output = 0; first = 7; last = 8 } ∷ record { output = 1; first = 9; last = 9 } ∷ []
unfolding open_entries
spans_of-wires = refl

-- The unit of an Out is written, with what it cites and nothing else, and each of its steps is deleted behind the last that cites it,
-- but for the unit.
shown_entries : List Entry
shown_entries = Out 0 (first ∷ first ∷ second ∷ []) ∷ OutSpent 1 1 (only ∷ []) ∷ []

derivation_of-shown : derivation_of wires shown_entries
    ≡ Add 7 (n 3 ∷ p 2 ∷ []) (2 ∷ []) ∷ Add 8 (n 3 ∷ []) (7 ∷ 3 ∷ []) ∷ Del (7 ∷ []) ∷ Add 9 (n 4 ∷ []) (4 ∷ 5 ∷ []) ∷ []
unfolding derivation_of shown_entries
derivation_of-shown = refl

spans_of-shown : spans_of wires shown_entries ≡ record { output = 1; first = 9; last = 9 } ∷ []
unfolding shown_entries
spans_of-shown = refl

-- A's output is the AND of its inputs, B's is the second input, and A has the constraint that the first input is true. The
-- AND has the CNF variable 4, the XOR 5. The miter is 1: (1), 2: (-4 2), 3: (-4 3), 4: (4 -2 -3), 5: (-5 4 3),
-- 6: (-5 -4 -3), 7: (5 -4 3), 8: (5 4 -3), 9: (2), 10: (5).
abbrev bounded : AigPair
bounded = record {
  a = record (plain (1 ∷ 2 ∷ []) (record { var = 3; left = 2; right = 4 } ∷ []) (6 ∷ [])) { constraints = 2 ∷ [] };
  b = plain (1 ∷ 2 ∷ []) [] (4 ∷ []);
}

-- where the first input is true the AND is the second one
abbrev bounded_steps : List Step
bounded_steps =
    record { clause = negative (Xor 0) ∷ positive (Input 1) ∷ []; hints = Axiom a 1 ∷ Axiom (Xor 0) 0 ∷ [] }
    ∷ record { clause = negative (Xor 0) ∷ []; hints = Own 0 ∷ Axiom (Xor 0) 1 ∷ Bound A 0 ∷ Axiom a 2 ∷ [] } ∷ []

bounded_legal : IsLegal bounded (record { sweep_budget = 1; out_budget = 1; entries = Out 0 bounded_steps ∷ [] })
bounded_legal = (
  good-out bounded (record { sweep_budget = 1; out_budget = 1; entries = [] }) 0 bounded_steps (lit< tt)
      ((refl, (refl, tt)), ((refl, tt), tt)) refl
      (record {
        before = record { clause = negative (Xor 0) ∷ positive (Input 1) ∷ []; hints = Axiom a 1 ∷ Axiom (Xor 0) 0 ∷ [] } ∷ [];
        last = record { clause = negative (Xor 0) ∷ []; hints = Own 0 ∷ Axiom (Xor 0) 1 ∷ Bound A 0 ∷ Axiom a 2 ∷ [] } ∷ [];
        parts = refl;
        clauses_are = refl;
      })
      (lit≤ tt) (refl, (refl, tt)),
  tt,
)

refutation_of-bounded : refutation_of bounded (Out 0 bounded_steps ∷ [])
    ≡ Add 11 (n 5 ∷ p 3 ∷ []) (3 ∷ 5 ∷ []) ∷ Add 12 (n 5 ∷ []) (11 ∷ 6 ∷ 9 ∷ 4 ∷ []) ∷ Del (11 ∷ [])
    ∷ Add 13 [] (12 ∷ 10 ∷ []) ∷ []
unfolding refutation_of
refutation_of-bounded = refl

-- An input and no output on each side, and the constraint that the input is true. The miter is 1: (1), 2: (2), 3: (2), 4: ().
abbrev no_outputs : AigPair
no_outputs = record {
  a = record (plain (1 ∷ []) [] []) { constraints = 2 ∷ [] };
  b = record (plain (1 ∷ []) [] []) { constraints = 2 ∷ [] };
}

refutation_of-no_outputs : refutation_of no_outputs [] ≡ Add 5 [] (4 ∷ []) ∷ []
unfolding refutation_of
refutation_of-no_outputs = refl

-- the units of A in order, and then those of B
ids-no_outputs : map (id_of no_outputs [] 5) (Bound A 0 ∷ Bound B 0 ∷ []) ≡ 2 ∷ 3 ∷ []
ids-no_outputs = refl
