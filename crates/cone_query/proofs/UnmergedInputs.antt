-- A legal book merges no input: the merge would say that the input has the value of an earlier literal on all inputs, and
-- what is earlier is the constant or another input.
use Rattle.std.proofs.Common.{◌≡◌, ◌≢◌, ℕ, zero, suc, ◌+◌, ◌<◌, Bool, true, false, not, Option, None, Some, List, length, take}
use Rattle.std.proofs.Common.{set, get_or, replicate, refl, sym, ap, ◌∙◌, subst, add-one, if◌then◌else◌, arith, inl, inr}
use Rattle.std.proofs.Common.{length-set, get_or-set_same, get_or-set_other}
use Rattle.std.specs.Prelude.{nat_lt}
use Rattle.std.specs.List.{AllByRecursion}
use Rattle.std.proofs.lemmas.Bool.Decides.{nat_tests}
use Rattle.std.proofs.lemmas.Bool.{cases_lt}
use Rattle.std.proofs.lemmas.List.{get_or-replicate, length-replicate, get_or_past}
use Rattle.std.proofs.lemmas.Option.{none-some, same_Some}
use Rattle.lits.specs.declared.node.Node.{Node}
use Rattle.lits.specs.declared.node.Node.TheVariants.{Const, Input}
use Rattle.netlist.specs.Net.{AigPair, position_of, node_at, value_of}
use Rattle.netlist.proofs.Facts.{node-at, node-input, position_of-input}
use Rattle.lemma_book.specs.declared.entry.Entry.{Entry}
use Rattle.lemma_book.specs.Agreement.{IsTrue}
use Rattle.lemma_book.specs.Book.{IsLegal}
use Rattle.lemma_book.specs.Entry.{Entries}
use Rattle.lemma_book.specs.Good.{IsBefore}
use Rattle.lemma_book.specs.Root.{MergeAt, merge_of}
use Rattle.lemma_book.proofs.Facts.{merge-earlier, merge-value}

-- the inputs' truth values with one set among false ones
pub zeros-at : (n i : ℕ) → get_or (replicate n false) i false ≡ false
zeros-at n i = elim (cases_lt i n) [
  | inl below ↦ get_or-replicate n i false false below
  | inr past ↦ get_or_past (replicate n false) i false (omega (arith, length-replicate n false))
]

pub one-other : (n k i : ℕ) (b : Bool) → i ≢ k → get_or (set (replicate n false) k b) i false ≡ false
one-other n k i b other = get_or-set_other (replicate n false) k i b false other ∙ zeros-at n i

-- what comes before has a place below
before-places : (p q : Option ℕ) → IsBefore p q → (i : ℕ) × (j : ℕ) × (p ≡ Some i) × (q ≡ Some j) × (i < j)
before-places (Some i) (Some j) less = (i, j, refl, refl, less)
before-places (Some i) None less = absurd less
before-places None q less = absurd less

module _ (net : AigPair) (entries : List Entry) (all : AllByRecursion (IsTrue net) entries) (k : ℕ) (m : MergeAt)
    (merged : merge_of entries (Input k) ≡ Some m) (below : k < length net.a.inputs) where
  abbrev zeros : List Bool
  zeros = replicate (length net.a.inputs) false

  abbrev ones : List Bool
  ones = set zeros k true

  zeros-whole : length zeros ≡ length net.a.inputs
  zeros-whole = length-replicate (length net.a.inputs) false

  -- the target's value is the same where this input alone is true, so it isn't the input's
  alike : value_of net zeros m.lit.node ≡ value_of net ones m.lit.node → ⊥
  alike same = go m.lit.neg (value_of net zeros m.lit.node) (value_of net ones m.lit.node) same
      (sym (zeros-at (length net.a.inputs) k) ∙ merge-value net entries all (Input k) m merged zeros zeros-whole)
      (sym (get_or-set_same zeros k true false (omega (arith, below, zeros-whole)))
      ∙ merge-value net entries all (Input k) m merged ones (length-set zeros k true ∙ zeros-whole))
    where
      go : (neg x y : Bool) → x ≡ y → false ≡ (if neg then not x else x) → true ≡ (if neg then not y else y) → ⊥
      go true true y s e f = let g : y ≡ true = sym s in let h : true ≡ false = f ∙ ap not g in cc
      go true false y s e f = let h : false ≡ true = e in cc
      go false true y s e f = let h : false ≡ true = e in cc
      go false false y s e f = let h : true ≡ false = f ∙ sym s in cc

  -- the nodes before an input
  pub no-target : (i : ℕ) → i < k + 1 → position_of net m.lit.node ≡ Some i → ⊥
  no-target zero less at =
      let node : Const ≡ m.lit.node = node-at net m.lit.node zero at in
      alike (subst (λ (n : Node). value_of net zeros n ≡ value_of net ones n) node refl)
  no-target (suc i) less at =
      let node : Input i ≡ m.lit.node =
      sym (node-input net i (omega (arith, less, below))) ∙ ap (node_at net) (add-one i) ∙ node-at net m.lit.node (suc i) at in
      let other : i ≢ k = λ e. absurd (omega (arith, less, e)) in
      alike (subst (λ (n : Node). value_of net zeros n ≡ value_of net ones n) node
      (zeros-at (length net.a.inputs) i ∙ sym (one-other (length net.a.inputs) k i true other)))

module _ (net : AigPair) (book : Entries) (legal : IsLegal net book) (seen : ℕ)
    (all : AllByRecursion (IsTrue net) (take seen book.entries)) (k : ℕ) where
  pub input-unmerged : merge_of (take seen book.entries) (Input k) ≡ None
  input-unmerged = go (merge_of (take seen book.entries) (Input k)) refl
    where
      go : (o : Option MergeAt) → merge_of (take seen book.entries) (Input k) ≡ o
          → merge_of (take seen book.entries) (Input k) ≡ None
      go None e = e
      go (Some m) e =
          let r = before-places (position_of net m.lit.node) (position_of net (Input k))
          (merge-earlier net book legal seen (Input k) m e) in
          absurd (inside (nat_lt k (length net.a.inputs)) refl r.0 r.1 r.2 (sym r.3) r.4)
        where
          inside : (b : Bool) → nat_lt k (length net.a.inputs) ≡ b → (i j : ℕ) → position_of net m.lit.node ≡ Some i
              → Some j ≡ position_of net (Input k) → i < j → ⊥
          inside true t i j at there less =
              let below : k < length net.a.inputs = grind (arith, nat_tests) in
              let place : j ≡ k + 1 = same_Some j (k + 1) (there ∙ position_of-input net k ∙ rw t refl) in
              no-target net (take seen book.entries) all k m e below i (omega (arith, less, place)) at
          inside false t i j at there less = none-some j (sym (there ∙ position_of-input net k ∙ rw t refl))
