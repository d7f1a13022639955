-- What is reached: nodes of A that are their own roots, so each has a new number.
use Rattle.std.proofs.Common.{◌≡◌, ℕ, zero, suc, ◌<◌, Bool, true, false, ◌&&◌, Option, Some, List, [], ◌∷◌, ◌++◌, length, map, refl, sym, ap, ap₂, ◌∙◌, subst, arith}
use Rattle.std.specs.Prelude.{◌==◌, nat_lt, slice_get, filter, is_some}
use Rattle.std.specs.Option.{option_map_or}
use Rattle.std.specs.List.{list_any, AllByRecursion}
use Rattle.std.proofs.lemmas.Bool.{and_parts}
use Rattle.std.proofs.lemmas.Bool.Decides.{nat_tests}
use Rattle.lits.specs.Same.{same_lit}
use Rattle.lits.specs.declared.node.Side.TheVariants.{A, B}
use Rattle.lits.specs.declared.node.Node.{Node}
use Rattle.lits.specs.declared.node.Node.TheVariants.{Const, Input, Gate, Xor}
use Rattle.lits.specs.declared.literal.Lit.{Lit}
use Rattle.lits.proofs.Facts.{all-parts, same-lit_self}
use Rattle.netlist.specs.declared.gate.And.{And}
use Rattle.netlist.specs.Place.{place_of}
use Rattle.netlist.specs.Miter.{positive}
use Rattle.netlist.specs.Net.{AigPair, IsNet, lit_named}
use Rattle.netlist.proofs.Facts.{equal-number, is_some-place}
use Rattle.lemma_book.specs.declared.entry.Entry.{Entry}
use Rattle.lemma_book.specs.Entry.{Entries}
use Rattle.lemma_book.specs.Root.{MergeAt, carried, follow, root_of, IsRoot}
use Rattle.lemma_book.specs.Cone.{AreIn, IsClosed}
use Rattle.lemma_book.specs.Book.{IsLegal}
use Rattle.lemma_book.proofs.Facts.{root-unmerged}
use Rattle.fraig_write.specs.Marks.{is_in, next_roots, root_ends}
use Rattle.fraig_write.specs.Reduced.{ends_of, fanins_in, is_own_root, root_nodes, AreReached}
use Rattle.fraig_write.specs.Renumbering.{GateHasNumbers, HasNumber, Numbering, RootHasNumber}
use Rattle.fraig_write.proofs.FilterLemmas.{all-kept, filter-any}
use Rattle.fraig_write.proofs.NodesOfA.{ends-in, fanins-at, fanins-in, root-in}

-- an unmerged node's literal is its own root
pub own-root : (es : List Entry) (l : Lit) → IsRoot es l.node → root_of es l ≡ l
own-root es l root = go (length es)
  where
    go : (k : ℕ) → follow k es l ≡ l
    go zero = refl
    go (suc k) = ap (λ (o : Option MergeAt). option_map_or (λ m. follow k es (carried l.neg m.lit)) o l) root

-- the node's literal is its own root
abbrev pub is_own : List Entry → Node → Bool
is_own entries n = same_lit (root_of entries (positive n)) (positive n)

module _ (net : AigPair) (is : IsNet net) (book : Entries) (legal : IsLegal net book) where
  -- a node of A that is its own root
  abbrev fits : Node → Bool
  fits n = is_in net.a n && is_own book.entries n

  fits-root : (l : Lit) → is_in net.a l.node ≡ true → fits (root_of book.entries l).node ≡ true
  fits-root l e =
      let inside = root-in net book legal l e in
      let n = (root_of book.entries l).node in
      let own : root_of book.entries (positive n) ≡ positive n = own-root book.entries (positive n) (root-unmerged net book legal l) in
      let same : is_own book.entries n ≡ true = ap (λ (x : Lit). same_lit x (positive n)) own ∙ same-lit_self (positive n) in
      ap₂ ◌&&◌ inside same

  fit-roots : (ls : List Lit) → AllByRecursion (λ l. is_in net.a l.node ≡ true) ls → AreIn fits (root_nodes book.entries ls)
  fit-roots [] all = tt
  fit-roots (l ∷ ls) all = (fits-root l all.0, fit-roots ls all.1)

  closed-fits : IsClosed (next_roots net book.entries) (root_ends net book.entries) fits
  closed-fits = record {
    starts = fit-roots (ends_of net.a) (ends-in net is);
    nexts = λ n h. fit-roots (fanins_in net.a n) (fanins-in net is n);
  }

  module _ (reached : Node → Bool) (are_reached : AreReached net.a book.entries reached) where
    parts-of : (n : Node) → reached n ≡ true → (is_in net.a n ≡ true) × (is_own book.entries n ≡ true)
    parts-of n h = and_parts (is_in net.a n) (is_own book.entries n) (are_reached.least fits closed-fits n h)

    -- what is reached is a node of A
    pub reached-in : (n : Node) → reached n ≡ true → is_in net.a n ≡ true
    reached-in n h = (parts-of n h).0

    -- and its own root
    pub reached-own : (n : Node) → reached n ≡ true → is_own book.entries n ≡ true
    reached-own n h = (parts-of n h).1

    -- so a gate stays exactly where it is reached
    pub stays-reached : (g : And) → (is_own_root book.entries g && reached (Gate A g.var)) ≡ reached (Gate A g.var)
    stays-reached g = go (reached (Gate A g.var)) (is_own_root book.entries g) refl refl
      where
        go : (b o : Bool) → reached (Gate A g.var) ≡ b → is_own_root book.entries g ≡ o → (o && b) ≡ b
        go true true e f = refl
        go true false e f = let own : is_own_root book.entries g ≡ true = reached-own (Gate A g.var) e in cc
        go false true e f = refl
        go false false e f = refl

    module _ (numbering : Numbering) (inputs : numbering.inputs ≡ length net.a.inputs)
        (gates : numbering.staying ≡ filter (λ g. is_own_root book.entries g && reached (Gate A g.var)) net.a.gates) where
      -- what is reached has a new number
      pub reached-number : (n : Node) → reached n ≡ true → HasNumber numbering n
      reached-number Const h = tt
      reached-number (Input k) h =
          let t : nat_lt k (length net.a.inputs) ≡ true = reached-in (Input k) h in
          let lt : k < length net.a.inputs = grind (arith, nat_tests, t) in
          omega (arith, lt, inputs)
      reached-number (Gate A v) h =
          subst (λ (gs : List And). is_some (place_of (λ g. g.var == v) gs) ≡ true) (sym gates)
          (is_some-place (λ g. g.var == v) (filter (λ g. is_own_root book.entries g && reached (Gate A g.var)) net.a.gates)
          ∙ filter-any (λ g. g.var == v) (λ g. is_own_root book.entries g && reached (Gate A g.var)) net.a.gates kept (reached-in (Gate A v) h))
        where
          kept : (g : And) → (g.var == v) ≡ true → list_any (λ g. g.var == v) net.a.gates ≡ true
              → (is_own_root book.entries g && reached (Gate A g.var)) ≡ true
          kept g e there = stays-reached g ∙ ap (λ (x : ℕ). reached (Gate A x)) (equal-number g.var v e) ∙ h
      reached-number (Gate B v) h = let f : false ≡ true = reached-in (Gate B v) h in cc
      reached-number (Xor j) h = let f : false ≡ true = reached-in (Xor j) h in cc

      -- so have the roots of literals whose roots are reached
      roots-number : (xs : List ℕ) → AreIn reached (root_nodes book.entries (map (lit_named A net.a) xs))
          → AllByRecursion (RootHasNumber net.a book.entries numbering) xs
      roots-number [] all = tt
      roots-number (x ∷ xs) all = (reached-number (root_of book.entries (lit_named A net.a x)).node all.0, roots-number xs all.1)

      pub ends-number : AllByRecursion (RootHasNumber net.a book.entries numbering) net.a.outputs
          × AllByRecursion (RootHasNumber net.a book.entries numbering) net.a.constraints
      ends-number =
          all-parts (RootHasNumber net.a book.entries numbering) net.a.outputs net.a.constraints
          (roots-number (net.a.outputs ++ net.a.constraints) are_reached.closed.starts)

      -- the roots of the fanins of a gate that is reached are reached
      pub next-reached : (j : ℕ) (g : And) → slice_get net.a.gates j ≡ Some g → reached (Gate A g.var) ≡ true
          → AreIn reached (root_nodes book.entries (lit_named A net.a g.left ∷ lit_named A net.a g.right ∷ []))
      next-reached j g e h =
          subst (λ (ls : List Lit). AreIn reached (root_nodes book.entries ls)) (fanins-at net is j g e)
          (are_reached.closed.nexts (Gate A g.var) h)

      -- a gate that stays, and the roots of its fanins have new numbers
      pub gates-number : AllByRecursion (GateHasNumbers net.a book.entries numbering) numbering.staying
      gates-number =
          subst (λ (gs : List And). AllByRecursion (GateHasNumbers net.a book.entries numbering) gs) (sym gates)
          (all-kept (GateHasNumbers net.a book.entries numbering) (λ g. is_own_root book.entries g && reached (Gate A g.var)) net.a.gates each)
        where
          each : (k : ℕ) (g : And) → slice_get net.a.gates k ≡ Some g → (is_own_root book.entries g && reached (Gate A g.var)) ≡ true
              → GateHasNumbers net.a book.entries numbering g
          each k g at h =
              let there : reached (Gate A g.var) ≡ true = sym (stays-reached g) ∙ h in
              let next = next-reached k g at there in
              record {
                place = k;
                at = at;
                own = reached-number (Gate A g.var) there;
                left = reached-number (root_of book.entries (lit_named A net.a g.left)).node next.0;
                right = reached-number (root_of book.entries (lit_named A net.a g.right)).node next.1.0;
              }
