-- Unit propagation over the clauses of a few nodes, along the merges on the path to a root.
use Rattle.std.proofs.Common.{◌≡◌, ℕ, zero, suc, ◌+◌, Bool, true, false, ◌||◌, Option, Some, None, List, [], ◌∷◌, ◌++◌, filter, length, refl, sym, ap, ◌∙◌}
use Rattle.std.specs.Option.{IsSome}
use Rattle.std.specs.List.{AllByRecursion}
use Rattle.std.proofs.Math.Seq.{take-length}
use Rattle.std.proofs.lemmas.Map.Views.{any-filter_same}
use Rattle.std.proofs.lemmas.List.{map-append}
use Rattle.std.proofs.lemmas.List.Folds.{list_any-append}
use Rattle.std.proofs.lemmas.Bool.{or_left, or_right}
use Rattle.lits.specs.Clause.{has}
use Rattle.lits.specs.Same.{same_node, opposite}
use Rattle.lits.specs.declared.node.Node.{Node}
use Rattle.lits.specs.declared.literal.Lit.{Lit}
use Rattle.lits.specs.declared.step.Ref.{Ref}
use Rattle.lits.specs.declared.step.Ref.TheVariants.{Axiom, Entry as Shown}
use Rattle.lits.specs.declared.step.Named.{Named}
use Rattle.lits.specs.contracts.literal.LitLiteral.TheImpl.Laws as laws
use Rattle.lits.proofs.Facts.{exact-node, same-node_self}
use Rattle.netlist.specs.Net.{AigPair, position_of}
use Rattle.netlist.specs.Miter.{axioms_of, variables_of, positive, negative}
use Rattle.netlist.proofs.Facts.{flat_map-member}
use Rattle.unit_prop.specs.Log.{base_clauses}
use Rattle.unit_prop.proofs.Facts.{Takes, take-first, take-second}
use Rattle.lemma_book.specs.declared.entry.Entry.{Entry}
use Rattle.lemma_book.specs.Entry.{Entries, merge_clauses}
use Rattle.lemma_book.specs.Root.{MergeAt, merge_of, carried, follow, passed, passed_by, root_of, IsRoot}
use Rattle.lemma_book.specs.Cone.{AreThere, Covers, nodes_in, named_from, named_clauses, clauses_on}
use Rattle.lemma_book.specs.Book.{IsLegal}
use Rattle.lemma_book.proofs.RootLemmas.{carried-opposite}
use Rattle.lemma_book.proofs.MergedNodes.{merge-placed, placed-there}
use Rattle.lemma_book.proofs.ThereLemmas.{is_some-variable}

-- ---- over the clauses of some nodes
module _ (net : AigPair) (es : List Entry) (nodes : List Node) (p : Lit → Bool)
    (units : AllByRecursion (Takes p) (base_clauses (clauses_on net es nodes))) where
  bare : (ms : List Named) → AllByRecursion (Takes p) (base_clauses ms) → AllByRecursion (λ m. Takes p m.clause) ms
  bare [] all = tt
  bare (m ∷ ms) all = (all.0, bare ms all.1)

  plain : (name : ℕ → Ref) (cs : List (List Lit)) (k : ℕ) → AllByRecursion (λ m. Takes p m.clause) (named_from name k cs) → AllByRecursion (Takes p) cs
  plain name [] k all = tt
  plain name (c ∷ cs) k all = (all.0, plain name cs (k + 1) all.1)

  module _ (n : Node) (inside : has same_node nodes n ≡ true) (there : has same_node (variables_of net) n ≡ true) where
    at-node : AllByRecursion (λ m. Takes p m.clause) (named_clauses net es n)
    at-node =
        flat_map-member (λ m. Takes p m.clause) (named_clauses net es) (filter (has same_node nodes) (variables_of net))
        (bare (clauses_on net es nodes) units) n
        (any-filter_same (λ y. same_node y n) (has same_node nodes) true (λ k same. ap (has same_node nodes) (exact-node k n same) ∙ inside) (variables_of net) ∙ there)

    -- an unmerged one has its axioms, a merged one the clauses of its merge
    pub takes-axioms : IsRoot es n → AllByRecursion (Takes p) (axioms_of net n)
    takes-axioms root = plain (Axiom n) (axioms_of net n) 0 (rw root at at-node)

    pub takes-merge : (m : MergeAt) → merge_of es n ≡ Some m → AllByRecursion (Takes p) (merge_clauses n m.lit)
    takes-merge m e = plain (Shown m.entry) (merge_clauses n m.lit) 0 (rw e at at-node)

  -- a literal and its target are true together
  module _ (l : Lit) (inside : has same_node nodes l.node ≡ true) (there : has same_node (variables_of net) l.node ≡ true) (m : MergeAt) (e : merge_of es l.node ≡ Some m) where
    both : AllByRecursion (Takes p) (merge_clauses l.node m.lit)
    both = takes-merge l.node inside there m e

    down : p l ≡ true → p (carried l.neg m.lit) ≡ true
    down h = go l.neg refl
      where
        go : (b : Bool) → l.neg ≡ b → p (carried b m.lit) ≡ true
        go false f = take-second p (negative l.node) m.lit both.0 (ap (λ (x : Bool). p (record { node = l.node; neg = x })) (sym f) ∙ h)
        go true f = take-second p (positive l.node) (opposite m.lit) both.1.0 (ap (λ (x : Bool). p (record { node = l.node; neg = x })) (sym f) ∙ h)

    up : p (carried l.neg m.lit) ≡ true → p l ≡ true
    up h = go l.neg refl
      where
        go : (b : Bool) → l.neg ≡ b → p l ≡ true
        go false f =
            ap (λ (x : Bool). p (record { node = l.node; neg = x })) f
            ∙ take-first p (positive l.node) (opposite m.lit) both.1.0 (ap p (laws.twice-law m.lit) ∙ (ap (λ (x : Bool). p (carried x m.lit)) (sym f) ∙ h))
        go true f =
            ap (λ (x : Bool). p (record { node = l.node; neg = x })) f
            ∙ take-first p (negative l.node) m.lit both.0 (ap (λ (x : Bool). p (carried x m.lit)) (sym f) ∙ h)

-- ---- nodes that are covered
-- more nodes have what one of both parts has
pub has-nodes_append : (xs ys : List Lit) (n : Node) → has same_node (nodes_in (xs ++ ys)) n ≡ (has same_node (nodes_in xs) n || has same_node (nodes_in ys) n)
has-nodes_append xs ys n =
    ap (λ (l : List Node). has same_node l n) (map-append (λ l. l.node) xs ys)
    ∙ list_any-append (λ y. same_node y n) (nodes_in xs) (nodes_in ys)

-- and cover what one of both covers
pub covers-left : (xs ys ls : List Lit) → Covers (nodes_in xs) ls → Covers (nodes_in (xs ++ ys)) ls
covers-left xs ys [] all = tt
covers-left xs ys (l ∷ ls) all = (has-nodes_append xs ys l.node ∙ or_left _ _ all.0, covers-left xs ys ls all.1)

-- and what the second covers
pub covers-right : (xs ys ls : List Lit) → Covers (nodes_in ys) ls → Covers (nodes_in (xs ++ ys)) ls
covers-right xs ys [] all = tt
covers-right xs ys (l ∷ ls) all = (has-nodes_append xs ys l.node ∙ or_right (has same_node (nodes_in xs) l.node) _ all.0, covers-right xs ys ls all.1)

-- the nodes of literals cover them
pub covers-self : (xs : List Lit) → Covers (nodes_in xs) xs
covers-self [] = tt
covers-self (x ∷ xs) = (or_left _ _ (same-node_self x.node), covers-right (x ∷ []) xs xs (covers-self xs))

-- ---- along the path to a root
pub covers-opposite : (nodes : List Node) (k : ℕ) (es : List Entry) (l : Lit) → Covers nodes (passed k es l) → Covers nodes (passed k es (opposite l))
covers-opposite nodes zero es l covers = tt
covers-opposite nodes (suc k) es l covers = go (merge_of es l.node) refl (λ t. covers-opposite nodes k es t)
  where
    go : (o : Option MergeAt) → merge_of es l.node ≡ o → ((t : Lit) → Covers nodes (passed k es t) → Covers nodes (passed k es (opposite t)))
        → Covers nodes (passed (suc k) es (opposite l))
    go None e rest = rw e tt
    go (Some m) e rest =
        let all : Covers nodes (l ∷ passed k es (carried l.neg m.lit)) = rw e at covers in
        rw (e, carried-opposite l.neg m.lit) (all.0, rest (carried l.neg m.lit) all.1)

-- literals whose nodes have positions
abbrev pub ArePlacedAll : AigPair → List Lit → Type 0
ArePlacedAll net lits = AllByRecursion (λ l. IsSome (position_of net l.node)) lits

-- so their nodes have variables
pub placed-all : (net : AigPair) (lits : List Lit) → ArePlacedAll net lits → AreThere net lits
placed-all net [] all = tt
placed-all net (l ∷ ls) all = (placed-there net l.node all.0, placed-all net ls all.1)

module _ (net : AigPair) (book : Entries) (legal : IsLegal net book) where
  merged-placed : (n : Node) (m : MergeAt) → merge_of book.entries n ≡ Some m → IsSome (position_of net n)
  merged-placed n m e = (merge-placed net book legal (length book.entries) n m (ap (λ (l : List Entry). merge_of l n) (take-length book.entries) ∙ e)).0

  -- what is passed is merged, and so has a position
  pub passed-placed : (k : ℕ) (l : Lit) → ArePlacedAll net (passed k book.entries l)
  passed-placed zero l = tt
  passed-placed (suc k) l = go (merge_of book.entries l.node) refl (passed-placed k)
    where
      go : (o : Option MergeAt) → merge_of book.entries l.node ≡ o → ((x : Lit) → ArePlacedAll net (passed k book.entries x))
          → ArePlacedAll net (passed (suc k) book.entries l)
      go None e rest = rw e tt
      go (Some m) e rest = rw e (merged-placed l.node m e, rest (carried l.neg m.lit))

  -- and a variable
  pub passed-there : (k : ℕ) (l : Lit) → AreThere net (passed k book.entries l)
  passed-there k l = placed-all net (passed k book.entries l) (passed-placed k l)

  -- a literal and what the merges on its path lead to are true together
  module _ (nodes : List Node) (p : Lit → Bool) (units : AllByRecursion (Takes p) (base_clauses (clauses_on net book.entries nodes))) where
    pub along : (k : ℕ) (l : Lit) → Covers nodes (passed k book.entries l)
        → (p l ≡ true → p (follow k book.entries l) ≡ true) × (p (follow k book.entries l) ≡ true → p l ≡ true)
    along zero l covers = (λ h. h, λ h. h)
    along (suc k) l covers = go (merge_of book.entries l.node) refl (along k)
      where
        go : (o : Option MergeAt) → merge_of book.entries l.node ≡ o
            → ((x : Lit) → Covers nodes (passed k book.entries x)
            → (p x ≡ true → p (follow k book.entries x) ≡ true) × (p (follow k book.entries x) ≡ true → p x ≡ true))
            → (p l ≡ true → p (follow (suc k) book.entries l) ≡ true) × (p (follow (suc k) book.entries l) ≡ true → p l ≡ true)
        go None e rest = rw e (λ h. h, λ h. h)
        go (Some m) e rest =
            let all : Covers nodes (l ∷ passed k book.entries (carried l.neg m.lit)) = rw e at covers in
            let there : has same_node (variables_of net) l.node ≡ true = sym (is_some-variable net l.node) ∙ placed-there net l.node (merged-placed l.node m e) in
            let next = rest (carried l.neg m.lit) all.1 in
            rw e (λ h. next.0 (down net book.entries nodes p units l all.0 there m e h), λ h. up net book.entries nodes p units l all.0 there m e (next.1 h))

    -- so two literals with one root are true together
    pub together : (a b : Lit) → root_of book.entries a ≡ root_of book.entries b
        → Covers nodes (passed_by book.entries a) → Covers nodes (passed_by book.entries b) → p a ≡ true → p b ≡ true
    together a b same on_a on_b h =
        (along (length book.entries) b on_b).1 (ap p (sym same) ∙ (along (length book.entries) a on_a).0 h)
