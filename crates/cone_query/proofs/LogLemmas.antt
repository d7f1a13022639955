-- What logs over a base are over the whole book: chains over what steps may cite, and over nodes that the miter has
-- variables for where the base is.
use Rattle.std.proofs.Common.{◌≡◌, ℕ, ◌+◌, Bool, true, false, ◌||◌, Option, Some, None, List, [], ◌∷◌, ◌++◌, take, refl, sym, ap, ◌∙◌, subst}
use Rattle.std.specs.Option.{IsSome, is_some, option_map_or}
use Rattle.std.specs.List.{AllByRecursion}
use Rattle.lits.specs.Clause.{has}
use Rattle.lits.specs.declared.node.Node.{Node}
use Rattle.lits.specs.declared.node.Node.TheVariants.{Const, Input, Gate, Xor}
use Rattle.lits.specs.declared.literal.Lit.{Lit}
use Rattle.lits.specs.declared.step.Named.{Named}
use Rattle.lits.specs.declared.step.Step.{Step}
use Rattle.lits.specs.declared.step.Ref.{Ref}
use Rattle.lits.specs.declared.step.Ref.TheVariants.{Axiom, Entry as Shown}
use Rattle.lits.specs.Same.{same_node, same_lit, opposite}
use Rattle.lits.proofs.Facts.{exact-lit, all-append}
use Rattle.netlist.specs.declared.gate.And.{And}
use Rattle.netlist.specs.Circuit.{var_of}
use Rattle.netlist.specs.Net.{AigPair, IsNet, circuit_of, node_of, gate_at, position_of}
use Rattle.netlist.specs.Miter.{axioms_of, variables_of, variable_of}
use Rattle.unit_prop.specs.New.{occurs}
use Rattle.unit_prop.specs.Log.{base_clause, base_clauses, clauses_of, InTurn, IsStepAfter, IsChain, IsLearned, IsLog}
use Rattle.unit_prop.specs.Refuter.{IsOver}
use Rattle.unit_prop.proofs.Facts.{in_turn-map, contrary}
use Rattle.netlist.proofs.Facts.{position_of-xor}
use Rattle.lemma_book.specs.declared.entry.Entry.{Entry}
use Rattle.lemma_book.specs.Book.{IsLegal}
use Rattle.lemma_book.specs.Cone.{AreThere, AreIn, named_from, named_clauses, next_of, IsCone}
use Rattle.lemma_book.specs.Entry.{Entries, merge_clauses}
use Rattle.lemma_book.specs.Good.{AreOver, IsBefore, out_clause, node_clause}
use Rattle.lemma_book.specs.Root.{MergeAt, merge_of}
use Rattle.lemma_book.proofs.Facts.{is_some-variable, cone-named, found-clause, chain-more, merge-placed, placed-there}
use Rattle.cone_query.proofs.ConeModel.{cone-at, cone-from}
use Rattle.cone_query.proofs.GateOrder.{left-earlier, right-earlier}

module _ (P : Node → Type 0) where
  abbrev AllOver : List (List Lit) → Type 0
  AllOver cs = AllByRecursion (λ c. AllByRecursion (λ l. P l.node) c) cs

  in_clause : (ls : List Lit) (q : Lit) → AllByRecursion (λ l. P l.node) ls → has same_lit ls q ≡ true → P q.node
  in_clause [] q all h = cc
  in_clause (l ∷ ls) q all h = go (same_lit l q) refl (in_clause ls q all.1)
    where
      go : (b : Bool) → same_lit l q ≡ b → (has same_lit ls q ≡ true → P q.node) → P q.node
      go true e rest = subst (λ (m : Lit). P m.node) (exact-lit l q e) all.0
      go false e rest = rest (sym (ap (λ (b : Bool). b || has same_lit ls q) e) ∙ h)

  -- a literal whose variable occurs in clauses is over what they are over
  pub occurs-over : (cs : List (List Lit)) (q : Lit) → AllOver cs → occurs same_lit opposite cs q ≡ true → P q.node
  occurs-over [] q all h = cc
  occurs-over (c ∷ cs) q all h = go (has same_lit c q) (has same_lit c (opposite q)) refl refl (occurs-over cs q all.1)
    where
      go : (a b : Bool) → has same_lit c q ≡ a → has same_lit c (opposite q) ≡ b → (occurs same_lit opposite cs q ≡ true → P q.node) → P q.node
      go true b e f rest = in_clause c q all.0 e
      go false true e f rest = in_clause c (opposite q) all.0 f
      go false false e f rest =
          let none : (has same_lit c q || has same_lit c (opposite q)) ≡ false = rw (e, f) refl in
          rest (sym (ap (λ (b : Bool). b || occurs same_lit opposite cs q) none) ∙ h)

  clauses_of-over : (base : List Named) (before : List Step) → AllByRecursion (λ m. AllByRecursion (λ l. P l.node) m.clause) base
      → AllByRecursion (λ s. AllByRecursion (λ l. P l.node) s.clause) before → AllOver (clauses_of base before)
  clauses_of-over [] [] b s = tt
  clauses_of-over [] (x ∷ xs) b s = (s.0, clauses_of-over [] xs b s.1)
  clauses_of-over (m ∷ ms) before b s = (b.0, clauses_of-over ms before b.1 s)

  learned-over : (base : List Named) (before log : List Step) → AllByRecursion (λ m. AllByRecursion (λ l. P l.node) m.clause) base
      → AllByRecursion (λ s. AllByRecursion (λ l. P l.node) s.clause) before → InTurn (IsLearned base) before log
      → AllByRecursion (λ s. AllByRecursion (λ l. P l.node) s.clause) log
  learned-over base before [] b s learned = tt
  learned-over base before (x ∷ xs) b s learned =
      let here = each x.clause learned.0.new.known in
      (here, learned-over base (before ++ x ∷ []) xs b (all-append (λ t. AllByRecursion (λ l. P l.node) t.clause) before (x ∷ []) s (here, tt)) learned.1)
    where
      each : (ls : List Lit) → AllByRecursion (λ l. occurs same_lit opposite (clauses_of base before) l ≡ true) ls → AllByRecursion (λ l. P l.node) ls
      each [] all = tt
      each (l ∷ ls) all = (occurs-over (clauses_of base before) l (clauses_of-over base before b s) all.0, each ls all.1)

module _ (net : AigPair) (base : List Named) (over : AllByRecursion (λ m. AllByRecursion (λ l. has same_node (variables_of net) l.node ≡ true) m.clause) base) where
  all-there : AllByRecursion (λ m. AllByRecursion (λ l. IsSome (variable_of net l.node)) m.clause) base
  all-there = named base over
    where
      named : (ms : List Named) → AllByRecursion (λ m. AllByRecursion (λ l. has same_node (variables_of net) l.node ≡ true) m.clause) ms
          → AllByRecursion (λ m. AllByRecursion (λ l. IsSome (variable_of net l.node)) m.clause) ms
      named [] all = tt
      named (m ∷ ms) all = (clause m.clause all.0, named ms all.1)
        where
          clause : (ls : List Lit) → AllByRecursion (λ l. has same_node (variables_of net) l.node ≡ true) ls → AllByRecursion (λ l. IsSome (variable_of net l.node)) ls
          clause [] a = tt
          clause (l ∷ ls) a = (is_some-variable net l.node ∙ a.0, clause ls a.1)

  -- a log over such a base is over nodes that the miter has variables for
  pub log-over : (log : List Step) → IsLog base log → AreOver net log
  log-over log learned = learned-over (λ n. IsSome (variable_of net n)) base [] log all-there tt learned

  -- so are literals whose variables occur in it
  pub over-there : (ls : List Lit) → IsOver base ls → AreThere net ls
  over-there [] all = tt
  over-there (l ∷ ls) all = (occurs-over (λ n. IsSome (variable_of net n)) (base_clauses base) l (bare base all-there) all.0, over-there ls all.1)
    where
      bare : (ms : List Named) → AllByRecursion (λ m. AllByRecursion (λ k. IsSome (variable_of net k.node)) m.clause) ms
          → AllByRecursion (λ c. AllByRecursion (λ k. IsSome (variable_of net k.node)) c) (base_clauses ms)
      bare [] a = tt
      bare (m ∷ ms) a = (a.0, bare ms a.1)

module _ (net : AigPair) (is : IsNet net) (book : Entries) (legal : IsLegal net book) (seen : ℕ) (seeds : List Node) (cone : List Named)
    (is_cone : IsCone net (take seen book.entries) seeds cone) where
  abbrev IsPlaced : Node → Bool
  IsPlaced n = is_some (position_of net n)

  -- seeds with positions reach only such nodes
  pub reach-placed : AreIn IsPlaced seeds → (n : Node) → is_cone.reached n ≡ true → IsPlaced n ≡ true
  reach-placed starts = is_cone.reach.least IsPlaced (record { starts = starts; nexts = λ n h. go n h (merge_of (take seen book.entries) n) refl })
    where
      earlier : (p q : Option ℕ) → IsBefore p q → is_some p ≡ true
      earlier (Some p) q e = refl
      earlier None q e = absurd e

      go : (n : Node) → IsPlaced n ≡ true → (o : Option MergeAt) → merge_of (take seen book.entries) n ≡ o → AreIn IsPlaced (next_of net (take seen book.entries) n)
      go n h (Some m) e = rw e ((merge-placed net book legal seen n m e).1, tt)
      go Const h None e = rw e tt
      go (Input k) h None e = rw e tt
      go (Gate s v) h None e = rw e (gate (gate_at net s v) refl)
        where
          gate : (o : Option And) → gate_at net s v ≡ o
              → AreIn IsPlaced (option_map_or (λ g. node_of s (circuit_of net s) (var_of g.left) ∷ node_of s (circuit_of net s) (var_of g.right) ∷ []) o [])
          gate None f = tt
          gate (Some g) f = (earlier _ _ (left-earlier net is s v g f), (earlier _ _ (right-earlier net is s v g f), tt))
      go (Xor j) h None e = contrary (is_some (position_of net (Xor j))) h (ap is_some (position_of-xor net j))

  -- in a cone of such seeds each clause is one that a merge's steps may cite
  node-named : AreIn IsPlaced seeds → AllByRecursion (λ m. node_clause net (take seen book.entries) m.by ≡ Some m.clause) cone
  node-named starts = cone-from net es seeds cone is_cone (λ m. node_clause net es m.by ≡ Some m.clause) (λ n h. go n h (merge_of es n) refl)
    where
      es : List Entry
      es = take seen book.entries

      there : (n : Node) → is_cone.reached n ≡ true → has same_node (variables_of net) n ≡ true
      there n h = sym (is_some-variable net n) ∙ placed-there net n (reach-placed starts n h)

      named : (n : Node) → is_cone.reached n ≡ true → AllByRecursion (λ m. out_clause net es m.by ≡ Some m.clause) (named_clauses net es n)
      named n h = cone-at net es seeds cone is_cone (λ m. out_clause net es m.by ≡ Some m.clause) n h (there n h) (cone-named net es seeds cone is_cone)

      each : (name : ℕ → Ref) → ((k : ℕ) (c : List Lit) → out_clause net es (name k) ≡ Some c → node_clause net es (name k) ≡ Some c) → (k : ℕ) (cs : List (List Lit))
          → AllByRecursion (λ m. out_clause net es m.by ≡ Some m.clause) (named_from name k cs)
          → AllByRecursion (λ m. node_clause net es m.by ≡ Some m.clause) (named_from name k cs)
      each name same k [] all = tt
      each name same k (c ∷ cs) all = (same k c all.0, each name same (k + 1) cs all.1)

      plain : (n : Node) → is_cone.reached n ≡ true → (k : ℕ) (c : List Lit) → out_clause net es (Axiom n k) ≡ Some c → node_clause net es (Axiom n k) ≡ Some c
      plain Const h k c e = e
      plain (Input i) h k c e = e
      plain (Gate s v) h k c e = e
      plain (Xor j) h k c e = contrary (is_some (position_of net (Xor j))) (reach-placed starts (Xor j) h) (ap is_some (position_of-xor net j))

      go : (n : Node) → is_cone.reached n ≡ true → (o : Option MergeAt) → merge_of es n ≡ o
          → AllByRecursion (λ m. node_clause net es m.by ≡ Some m.clause) (named_clauses net es n)
      go n h None e = rw e (each (Axiom n) (plain n h) 0 (axioms_of net n) (rw e at (named n h)))
      go n h (Some m) e = rw e (each (Shown m.entry) (λ k c f. f) 0 (merge_clauses n m.lit) (rw e at (named n h)))

  pub node-found : AreIn IsPlaced seeds → (name : Ref) (c : List Lit) → base_clause cone name ≡ Some c → node_clause net (take seen book.entries) name ≡ Some c
  node-found starts = found-clause (node_clause net (take seen book.entries)) cone (node-named starts)

-- a log over a cone is a chain over what its clauses are found in
pub log-chain : (find : Ref → Option (List Lit)) (cone : List Named) (log : List Step)
    → ((name : Ref) (c : List Lit) → base_clause cone name ≡ Some c → find name ≡ Some c) → IsLog cone log → IsChain find log
log-chain find cone log found learned =
    chain-more (base_clause cone) find found log
    (in_turn-map (IsLearned cone) (IsStepAfter (base_clause cone)) [] log (λ before s l. l.step) learned)
