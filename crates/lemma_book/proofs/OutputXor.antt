-- The XOR of an output: it has a variable and no position, no book merges it, and which clauses define it. And an output
-- without an entry is none's subject.
use Rattle.std.proofs.Common.{◌≡◌, ℕ, ◌<◌, true, false, Option, Some, None, List, length, take, refl, sym, ap, ◌∙◌, arith}
use Rattle.std.specs.Prelude.{slice_get, slice_index}
use Rattle.std.specs.Option.{IsSome, is_some, option_and_then}
use Rattle.std.specs.List.{find}
use Rattle.std.proofs.lemmas.Option.{none-some}
use Rattle.lits.specs.Clause.{has}
use Rattle.lits.specs.declared.node.Side.{Side}
use Rattle.lits.specs.declared.node.Side.TheVariants.{A, B}
use Rattle.lits.specs.declared.node.Node.TheVariants.{Xor}
use Rattle.lits.specs.declared.literal.Lit.{Lit}
use Rattle.lits.specs.Same.{same_node}
use Rattle.netlist.specs.Circuit.{var_of}
use Rattle.netlist.specs.Net.{AigPair, IsNet, circuit_of, output_of, position_of, defined_by, difference}
use Rattle.netlist.specs.Miter.{kept, xor_clauses, xor_axioms, axioms_of, variables_of, variable_of}
use Rattle.netlist.proofs.Facts.{at_place, find-place, has-xor, range-has, output_lit, output_of-below, position_of-xor}
use Rattle.unit_prop.proofs.Facts.{contrary}
use Rattle.lemma_book.specs.declared.entry.Entry.{Entry}
use Rattle.lemma_book.specs.declared.entry.Subject.TheVariants.{Output}
use Rattle.lemma_book.specs.Entry.{Entries, is_on, place_on, about}
use Rattle.lemma_book.specs.Root.{MergeAt, merge_of}
use Rattle.lemma_book.specs.Book.{IsLegal}
use Rattle.lemma_book.proofs.FaninLemmas.{node_of-no_xor}
use Rattle.lemma_book.proofs.MergedNodes.{merge-placed}
use Rattle.lemma_book.proofs.ThereLemmas.{is_some-variable}

-- an output without an entry has none at any place
pub output-unsettled : (entries : List Entry) (j : ℕ) → about entries j ≡ None → place_on entries (Output j) ≡ None
output-unsettled entries j none = go (place_on entries (Output j)) refl
  where
    go : (o : Option ℕ) → place_on entries (Output j) ≡ o → place_on entries (Output j) ≡ None
    go None e = e
    go (Some k) e =
        let at = at_place (is_on (Output j)) entries k e in
        let found : find (is_on (Output j)) entries ≡ Some at.0 =
        find-place (is_on (Output j)) entries ∙ (ap (option_and_then (slice_get entries)) e ∙ at.1) in
        absurd (none-some at.0 (sym none ∙ found))

-- the literals of outputs aren't over it
pub output-no_xor : (net : AigPair) (s : Side) (i j : ℕ) → same_node (output_lit net s i).node (Xor j) ≡ false
output-no_xor net s i j =
    node_of-no_xor s (circuit_of net s) (var_of (slice_index (circuit_of net s).outputs i)) j

-- an XOR isn't merged
pub xor-unmerged : (net : AigPair) (book : Entries) → IsLegal net book → (seen j : ℕ)
    → merge_of (take seen book.entries) (Xor j) ≡ None
xor-unmerged net book legal seen j = go (merge_of (take seen book.entries) (Xor j)) refl
  where
    go : (o : Option MergeAt) → merge_of (take seen book.entries) (Xor j) ≡ o
        → merge_of (take seen book.entries) (Xor j) ≡ None
    go None e = e
    go (Some m) e =
        contrary (is_some (position_of net (Xor j))) (merge-placed net book legal seen (Xor j) m e).0
        (ap is_some (position_of-xor net j))

module _ (net : AigPair) (is : IsNet net) (j : ℕ) (below : j < length net.a.outputs) where
  -- the miter has a variable for it
  pub xor-there : has same_node (variables_of net) (Xor j) ≡ true
  xor-there = has-xor net j ∙ range-has 0 (length net.a.outputs) j (omega arith) (omega (arith, below))

  pub xor-variable : IsSome (variable_of net (Xor j))
  xor-variable = is_some-variable net (Xor j) ∙ xor-there

  -- its definition, and the clauses that say so
  pub xor-definition : defined_by net (Xor j)
      ≡ Some (record { node = Xor j; left = output_lit net A j; right = output_lit net B j })
  xor-definition =
      ap (λ (o : Option Lit). difference j o (output_of net B j)) (output_of-below net is A j below)
      ∙ ap (λ (o : Option Lit). difference j (Some (output_lit net A j)) o) (output_of-below net is B j below)

  pub xor-axioms_are : axioms_of net (Xor j) ≡ kept (xor_clauses (Xor j) (output_lit net A j) (output_lit net B j))
  xor-axioms_are =
      ap (λ (o : Option Lit). xor_axioms j o (output_of net B j)) (output_of-below net is A j below)
      ∙ ap (λ (o : Option Lit). xor_axioms j (Some (output_lit net A j)) o) (output_of-below net is B j below)
