-- The clauses of some nodes of a cone: each is the one that its name has, also for the steps of a merge where none of the
-- nodes is an XOR.
use Rattle.std.proofs.Common.{◌≡◌, ℕ, ◌+◌, Bool, true, false, ◌||◌, Option, Some, None, List, [], ◌∷◌, filter, refl, sym, ap, ◌∙◌, subst}
use Rattle.std.specs.List.{AllByRecursion, flat_map}
use Rattle.lits.specs.Clause.{has}
use Rattle.lits.specs.Same.{same_node}
use Rattle.lits.specs.declared.node.Node.{Node}
use Rattle.lits.specs.declared.node.Node.TheVariants.{Const, Input, Gate, Xor}
use Rattle.lits.specs.declared.literal.Lit.{Lit}
use Rattle.lits.specs.declared.step.Ref.{Ref}
use Rattle.lits.specs.declared.step.Ref.TheVariants.{Axiom, Entry as Shown}
use Rattle.lits.specs.declared.step.Named.{Named}
use Rattle.lits.proofs.Facts.{exact-node, all-append}
use Rattle.netlist.specs.Net.{AigPair}
use Rattle.netlist.specs.Miter.{axioms_of, variables_of}
use Rattle.lemma_book.specs.declared.entry.Entry.{Entry}
use Rattle.lemma_book.specs.Entry.{merge_clauses}
use Rattle.lemma_book.specs.Root.{MergeAt, merge_of}
use Rattle.lemma_book.specs.Cone.{named_from, named_clauses, clauses_on}
use Rattle.lemma_book.specs.Good.{out_clause, node_clause}
use Rattle.lemma_book.proofs.NamedClauses.{HasItsName, named-clauses, named-all}

-- each clause is the one that its name has for an output's steps
pub on-named : (net : AigPair) (es : List Entry) (nodes : List Node) → AllByRecursion (HasItsName net es) (clauses_on net es nodes)
on-named net es nodes = named-all net es (filter (has same_node nodes) (variables_of net))

-- no XOR is named
abbrev pub IsNoXor : Node → Type 0
IsNoXor (Xor j) = ⊥
IsNoXor _ = Unit {0}

-- the clause is the one that its name has for the steps of a merge
abbrev pub HasNodeName : AigPair → List Entry → Named → Type 0
HasNodeName net es n = node_clause net es n.by ≡ Some n.clause

module _ (net : AigPair) (es : List Entry) where
  renamed : (name : ℕ → Ref) → ((j : ℕ) → node_clause net es (name j) ≡ out_clause net es (name j)) → (cs : List (List Lit)) (k : ℕ)
      → AllByRecursion (HasItsName net es) (named_from name k cs) → AllByRecursion (HasNodeName net es) (named_from name k cs)
  renamed name same [] k all = tt
  renamed name same (c ∷ cs) k all = (same k ∙ all.0, renamed name same cs (k + 1) all.1)

  axiom-same : (n : Node) → IsNoXor n → (j : ℕ) → node_clause net es (Axiom n j) ≡ out_clause net es (Axiom n j)
  axiom-same Const p j = refl
  axiom-same (Input i) p j = refl
  axiom-same (Gate s v) p j = refl
  axiom-same (Xor i) p j = absurd p

  node-named : (n : Node) → IsNoXor n → AllByRecursion (HasNodeName net es) (named_clauses net es n)
  node-named n p = go (merge_of es n) refl (named-clauses net es n)
    where
      go : (o : Option MergeAt) → merge_of es n ≡ o → AllByRecursion (HasItsName net es) (named_clauses net es n)
          → AllByRecursion (HasNodeName net es) (named_clauses net es n)
      go None e all = rw e (renamed (Axiom n) (axiom-same n p) (axioms_of net n) 0 (rw e at all))
      go (Some m) e all = rw e (renamed (Shown m.entry) (λ j. refl) (merge_clauses n m.lit) 0 (rw e at all))

  pub on-node-named : (nodes : List Node) → AllByRecursion IsNoXor nodes → AllByRecursion (HasNodeName net es) (clauses_on net es nodes)
  on-node-named nodes none = all (variables_of net)
    where
      within : (ns : List Node) → AllByRecursion IsNoXor ns → (n : Node) → has same_node ns n ≡ true → IsNoXor n
      within [] none n h = cc
      within (m ∷ ms) none n h = go (same_node m n) refl (within ms none.1 n)
        where
          go : (b : Bool) → same_node m n ≡ b → (has same_node ms n ≡ true → IsNoXor n) → IsNoXor n
          go true e rest = subst IsNoXor (exact-node m n e) none.0
          go false e rest = rest (sym (ap (λ (b : Bool). b || has same_node ms n) e) ∙ h)

      all : (ns : List Node) → AllByRecursion (HasNodeName net es) (flat_map (named_clauses net es) (filter (has same_node nodes) ns))
      all [] = tt
      all (n ∷ ns) = go (has same_node nodes n) refl (all ns)
        where
          go : (b : Bool) → has same_node nodes n ≡ b → AllByRecursion (HasNodeName net es) (flat_map (named_clauses net es) (filter (has same_node nodes) ns))
              → AllByRecursion (HasNodeName net es) (flat_map (named_clauses net es) (filter (has same_node nodes) (n ∷ ns)))
          go false e rest = rw e rest
          go true e rest =
              rw e (all-append (HasNodeName net es) (named_clauses net es n) (flat_map (named_clauses net es) (filter (has same_node nodes) ns))
              (node-named n (within nodes none n e)) rest)
