-- A merge by two steps over the clauses of some nodes is good.
use Rattle.std.proofs.Common.{◌≡◌, ℕ, ◌+◌, ◌≤◌, Bool, true, false, not, Option, Some, None, List, [], ◌∷◌, ◌++◌, length, map, take, get_or, refl, sym, ap, ◌∙◌, subst, arith}
use Rattle.std.specs.Option.{option_map_or}
use Rattle.std.specs.List.{AllByRecursion}
use Rattle.std.proofs.lemmas.Option.{none-some}
use Rattle.std.proofs.Math.Seq.{take-length}
use Rattle.lits.specs.declared.node.Node.{Node}
use Rattle.lits.specs.declared.node.Node.TheVariants.{Const, Input, Gate, Xor}
use Rattle.lits.specs.declared.literal.Lit.{Lit}
use Rattle.lits.specs.declared.step.Ref.{Ref}
use Rattle.lits.specs.declared.step.Ref.TheVariants.{Axiom, Entry as Shown, Own, Bound}
use Rattle.lits.specs.declared.step.Named.{Named}
use Rattle.lits.specs.declared.step.Step.{Step}
use Rattle.lits.specs.Clause.{IsClause}
use Rattle.lits.specs.Same.{same_lit, same_node, opposite}
use Rattle.lits.proofs.Facts.{exact-node}
use Rattle.netlist.specs.Net.{AigPair, position_of}
use Rattle.netlist.specs.Miter.{positive, negative}
use Rattle.unit_prop.specs.Step.{IsStep}
use Rattle.unit_prop.specs.HintScan.{IsNamed, ScansTo}
use Rattle.unit_prop.specs.Log.{base_clause, with_own, IsStepAfter}
use Rattle.unit_prop.proofs.Facts.{step-more, base_clause-is, named-all}
use Rattle.lemma_book.specs.declared.entry.Entry.{Entry}
use Rattle.lemma_book.specs.declared.entry.Entry.TheVariants.{Merge}
use Rattle.lemma_book.specs.declared.entry.Subject.TheVariants.{Merged}
use Rattle.lemma_book.specs.Entry.{Entries, first_entries, merge_clauses, place_on, with_last}
use Rattle.lemma_book.specs.Root.{IsRoot}
use Rattle.lemma_book.specs.Cone.{AreThere, clauses_on, nodes_in}
use Rattle.lemma_book.specs.Good.{ArePlaced, AreOver, IsBefore, IsEarlier, EndsIn, IsGood, node_clause}
use Rattle.lemma_book.specs.Book.{book_after}
use Rattle.lemma_book.proofs.Facts.{good-merge, root-unsettled, placed-there, on-node-named, IsNoXor, HasNodeName, irreflexive}
use Rattle.strash_pass.specs.Strash.{AreScanned}
use Rattle.strash_pass.specs.Pass.{AreNotXors, is_xor, AreSteps}
use Rattle.strash_pass.proofs.HintLemmas.{scanned-step}

no-xors : (lits : List Lit) → AreNotXors lits → AllByRecursion IsNoXor (nodes_in lits)
no-xors [] all = tt
no-xors (l ∷ ls) all = (go l.node all.0, no-xors ls all.1)
  where
    go : (n : Node) → is_xor n ≡ false → IsNoXor n
    go Const e = tt
    go (Input k) e = tt
    go (Gate s v) e = tt
    go (Xor j) e = let f : true ≡ false = e in cc

module _ (net : AigPair) (es : List Entry) (way : List Lit) (none : AreNotXors way) (base : List Named) (is : base ≡ clauses_on net es (nodes_in way)) where
  each-named : AllByRecursion (HasNodeName net es) base
  each-named = subst (AllByRecursion (HasNodeName net es)) (sym is) (on-node-named net es (nodes_in way) (no-xors way none))

  -- the clauses of one name are one
  pub base-named : IsNamed base
  base-named = named-all (node_clause net es) base each-named

  -- a step over these clauses is one of a merge, whatever own steps come before it
  pub step-own : (before : List Step) (s : Step) → IsStep same_lit opposite (base_clause base) s.clause s.hints → IsStepAfter (node_clause net es) before s
  step-own before s step =
      step-more same_lit opposite (base_clause base) (with_own (node_clause net es) before) found s.clause s.hints step
    where
      found : (name : Ref) (c : List Lit) → base_clause base name ≡ Some c → with_own (node_clause net es) before name ≡ Some c
      found (Axiom node k) c e = base_clause-is (node_clause net es) base each-named (Axiom node k) c e
      found (Shown i k) c e = base_clause-is (node_clause net es) base each-named (Shown i k) c e
      found (Bound side k) c e = base_clause-is (node_clause net es) base each-named (Bound side k) c e
      found (Own k) c e =
          let f : None ≡ Some c = base_clause-is (node_clause net es) base each-named (Own k) c e in
          absurd (none-some c f)

-- a node is no earlier than itself
pub earlier-apart : (net : AigPair) (node : Node) (target : Lit) → IsEarlier net node target → same_node target.node node ≡ false
earlier-apart net node target earlier = go (same_node target.node node) refl
  where
    go : (b : Bool) → same_node target.node node ≡ b → same_node target.node node ≡ false
    go false e = e
    go true e =
        absurd (irreflexive (position_of net node)
        (subst (λ (n : Node). IsBefore (position_of net n) (position_of net node)) (exact-node target.node node e) earlier))

module _ (node : Node) (target : Lit) (apart : same_node target.node node ≡ false) where
  differ : (a b : Bool) → same_lit (record { node = target.node; neg = b }) (record { node = node; neg = a }) ≡ false
  differ a b = rw apart refl

  pub below-clause : IsClause same_lit opposite (negative node ∷ target ∷ [])
  below-clause = record { once = rw (differ true target.neg) refl; apart = rw (differ false target.neg) refl }

  pub above-clause : IsClause same_lit opposite (positive node ∷ opposite target ∷ [])
  above-clause = record { once = rw (differ false (not target.neg)) refl; apart = rw (differ true (not target.neg)) refl }

  -- the steps that were put into an empty list, with the hints of a scan
  pub steps-scanned : (base : List Named) (l m : Lit) (below above : Step) (none one two : List Step) → l ≡ negative node → m ≡ opposite target
      → none ≡ [] → one ≡ none ++ below ∷ [] → two ≡ one ++ above ∷ []
      → below.clause ≡ l ∷ target ∷ [] → above.clause ≡ positive node ∷ m ∷ []
      → ScansTo base (map opposite (l ∷ target ∷ [])) below.hints → ScansTo base (map opposite (positive node ∷ m ∷ [])) above.hints
      → AreScanned base node target two
  steps-scanned base l m below above none one two l_is m_is e f g first second scans_below scans_above =
      subst (AreScanned base node target) (sym all) (record {
        clauses =
            ap (λ (c : List Lit). c ∷ above.clause ∷ []) (first ∙ ap (λ (x : Lit). x ∷ target ∷ []) l_is)
            ∙ ap (λ (c : List Lit). (negative node ∷ target ∷ []) ∷ c ∷ []) (second ∙ ap (λ (x : Lit). positive node ∷ x ∷ []) m_is);
        hints = (
          subst (λ (c : List Lit). ScansTo base (map opposite c) below.hints) (sym first) scans_below,
          (subst (λ (c : List Lit). ScansTo base (map opposite c) above.hints) (sym second) scans_above, tt),
        );
      })
    where
      all : two ≡ below ∷ above ∷ []
      all = g ∙ ap (λ (s : List Step). s ++ above ∷ []) (f ∙ ap (λ (s : List Step). s ++ below ∷ []) e)

  -- hints of a scan make steps
  pub scanned-steps : (base : List Named) → IsNamed base → (steps : List Step) → AreScanned base node target steps → AreSteps base node target steps
  scanned-steps base named [] s = absurd (omega (arith, ap length s.clauses))
  scanned-steps base named (below ∷ []) s = absurd (omega (arith, ap length s.clauses))
  scanned-steps base named (below ∷ above ∷ []) s =
      let first : below.clause ≡ negative node ∷ target ∷ [] = ap (λ (cs : List (List Lit)). get_or cs 0 []) s.clauses in
      let second : above.clause ≡ positive node ∷ opposite target ∷ [] = ap (λ (cs : List (List Lit)). get_or cs 1 []) s.clauses in (
        (
          first,
          scanned-step base (negative node) target below.clause below.hints named below-clause first
              (subst (λ (c : List Lit). ScansTo base (map opposite c) below.hints) first s.hints.0),
        ),
        (
          second,
          scanned-step base (positive node) (opposite target) above.clause above.hints named above-clause second
              (subst (λ (c : List Lit). ScansTo base (map opposite c) above.hints) second s.hints.1.0),
        ),
      )
  scanned-steps base named (below ∷ above ∷ more ∷ rest) s = absurd (omega (arith, ap length s.clauses))

module _ (net : AigPair) (book : Entries) (node : Node) (target : Lit) (unmerged : IsRoot book.entries node) where
  unsettled : place_on book.entries (Merged node) ≡ None
  unsettled = root-unsettled book.entries node unmerged

  two-steps : ArePlaced net node target → IsEarlier net node target → (below above : Step)
      → below.clause ≡ negative node ∷ target ∷ [] → above.clause ≡ positive node ∷ opposite target ∷ []
      → IsStepAfter (node_clause net book.entries) [] below → IsStepAfter (node_clause net book.entries) (below ∷ []) above
      → IsGood net book (Merge node target (below ∷ above ∷ []))
  two-steps placed earlier below above first second one two =
      good-merge net book node target (below ∷ above ∷ []) placed there unsettled earlier ends few (one, (two, tt))
    where
      there : AreOver net (below ∷ above ∷ [])
      there =
          let n = placed-there net node placed.0 in
          let t = placed-there net target.node placed.1 in
          (subst (AreThere net) (sym first) (n, (t, tt)), (subst (AreThere net) (sym second) (n, (t, tt)), tt))

      ends : EndsIn (merge_clauses node target) (below ∷ above ∷ [])
      ends = record {
        before = [];
        last = below ∷ above ∷ [];
        parts = refl;
        clauses_are = ap (λ (c : List Lit). c ∷ above.clause ∷ []) first ∙ ap (λ (c : List Lit). (negative node ∷ target ∷ []) ∷ c ∷ []) second;
      }

      few : length (below ∷ above ∷ []) ≤ book.sweep_budget + 2
      few = omega arith

  -- the merge by two steps over the clauses of some nodes is good
  pub steps-good : (way : List Lit) → AreNotXors way → (base : List Named) → base ≡ clauses_on net book.entries (nodes_in way)
      → ArePlaced net node target → IsEarlier net node target → (steps : List Step) → AreSteps base node target steps → IsGood net book (Merge node target steps)
  steps-good way none base is placed earlier [] all = absurd all
  steps-good way none base is placed earlier (below ∷ []) all = absurd all
  steps-good way none base is placed earlier (below ∷ above ∷ []) all =
      two-steps placed earlier below above all.0.0 all.1.0
      (step-own net book.entries way none base is [] below all.0.1) (step-own net book.entries way none base is (below ∷ []) above all.1.1)
  steps-good way none base is placed earlier (below ∷ above ∷ more ∷ rest) all = absurd all

  -- so it is over all entries
  pub all-entries : (e : Entry) → IsGood net book e → (known : ℕ) → known ≡ length book.entries → IsGood net (first_entries known book) e
  all-entries e good known count =
      subst (λ (es : List Entry). IsGood net (record { sweep_budget = book.sweep_budget; out_budget = book.out_budget; entries = es }) e)
      (sym (ap (λ (n : ℕ). take n book.entries) count ∙ take-length book.entries)) good

  -- and it is put last
  pub put-last : (steps : List Step) (new : Entries) → new ≡ book_after book (Merge node target steps)
      → new ≡ with_last book (Merge node target steps)
  put-last steps new e =
      e ∙ ap (λ (o : Option ℕ). option_map_or (λ i. book) o (with_last book (Merge node target steps))) unsettled
