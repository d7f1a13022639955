-- Before the first implication of a pair is asked for: both nodes occur in their cone.
use Rattle.std.proofs.Common.{◌≡◌, ℕ, Bool, true, false, not, Option, Some, None, List, [], ◌∷◌, length, take, refl, sym, ap, ◌∙◌, subst, inl, inr, arith}
use Rattle.std.specs.Prelude.{◌==◌}
use Rattle.std.specs.Option.{IsSome, is_some}
use Rattle.std.proofs.Math.Seq.{take-length}
use Rattle.lits.specs.Clause.{has, IsClause}
use Rattle.lits.specs.declared.node.Node.{Node}
use Rattle.lits.specs.declared.node.Node.TheVariants.{Const, Input, Gate, Xor}
use Rattle.lits.specs.declared.literal.Lit.{Lit}
use Rattle.lits.specs.declared.step.Named.{Named}
use Rattle.lits.specs.Same.{same_node, same_lit, opposite}
use Rattle.lits.proofs.Facts.{exact-node}
use Rattle.netlist.specs.Net.{AigPair, circuit_of, nodes_of, position_of}
use Rattle.netlist.specs.Miter.{positive, negative, variables_of}
use Rattle.netlist.proofs.Facts.{is_some-place, has-gate, position_of-xor}
use Rattle.unit_prop.specs.Refuter.{is_over, IsOver}
use Rattle.unit_prop.proofs.Facts.{contrary}
use Rattle.lemma_book.specs.declared.entry.Task.{Task}
use Rattle.lemma_book.specs.declared.entry.Entry.{Entry}
use Rattle.lemma_book.specs.Cone.{next_of, IsClosed, IsCone}
use Rattle.lemma_book.specs.Entry.{Entries}
use Rattle.lemma_book.specs.Good.{IsBefore}
use Rattle.lemma_book.specs.Root.{MergeAt, merge_of}
use Rattle.lemma_book.proofs.Facts.{reach-there, cone-one, irreflexive}
use Rattle.cone_query.specs.Query.{IsGate, IsUnnamed}
use Rattle.cone_query.specs.Asked.{IsPair, IsQuery, IsImplication, IsNamedInput, seeds_of, forth, back}
use Rattle.cone_query.proofs.ConeModel.{find-any}
use Rattle.cone_query.proofs.OccursLemmas.{occurs-at, occurs-more, spoken-merge, spoken-const, spoken-gate}
use Rattle.cone_query.proofs.PairLemmas.{pair-placed, pair-starts, over-opposite}

-- a node occurs as a literal of it does
over-node : (base : List Named) (l : Lit) → is_over base (negative l.node) ≡ true → is_over base l ≡ true
over-node base l e = go l.neg l.node e
  where
    go : (neg : Bool) (n : Node) → is_over base (negative n) ≡ true → is_over base (record { node = n; neg = neg }) ≡ true
    go true n f = f
    go false n f = over-opposite base (negative n) f

module _ (net : AigPair) (book : Entries) (task : Task) (pair : IsPair net book task) (base : List Named)
    (is_base : IsCone net (take (length book.entries) book.entries) (seeds_of task) base) where
  there : (n : Node) → is_base.reached n ≡ true → has same_node (variables_of net) n ≡ true
  there n h =
      reach-there net pair.net_is book pair.legal (length book.entries) (seeds_of task) (pair-starts net book task pair) is_base.reached is_base.reach n h

  -- a reached node with a position occurs, unless it is an input
  node-occurs : (n : Node) → is_base.reached n ≡ true → IsSome (position_of net n) → ((k : ℕ) → n ≡ Input k → is_over base (negative n) ≡ true)
      → is_over base (negative n) ≡ true
  node-occurs n reached placed input = merged (merge_of (take (length book.entries) book.entries) n) refl
    where
      plain : (m : Node) → n ≡ m → is_base.reached m ≡ true → IsSome (position_of net m)
          → merge_of (take (length book.entries) book.entries) m ≡ None → is_over base (negative m) ≡ true
      plain Const same r p e =
          occurs-at net (take (length book.entries) book.entries) (seeds_of task) base is_base (negative Const) Const r (there Const r)
          (spoken-const net (take (length book.entries) book.entries) e)
      plain (Input k) same r p e = subst (λ (m : Node). is_over base (negative m) ≡ true) same (input k same)
      plain (Gate s v) same r p e =
          let at = find-any (λ g. g.var == v) (circuit_of net s).gates (sym (has-gate net s v) ∙ (sym (is_some-place (λ m. same_node m (Gate s v)) (nodes_of net)) ∙ p)) in
          occurs-at net (take (length book.entries) book.entries) (seeds_of task) base is_base (negative (Gate s v)) (Gate s v) r (there (Gate s v) r)
          (spoken-gate net (take (length book.entries) book.entries) pair.net_is s v at.0 at.1 e)
      plain (Xor j) same r p e = contrary (is_some (position_of net (Xor j))) p (ap is_some (position_of-xor net j))

      merged : (o : Option MergeAt) → merge_of (take (length book.entries) book.entries) n ≡ o → is_over base (negative n) ≡ true
      merged None e = plain n refl reached placed e
      merged (Some m) e =
          occurs-at net (take (length book.entries) book.entries) (seeds_of task) base is_base (negative n) n reached (there n reached)
          (spoken-merge net (take (length book.entries) book.entries) n m e)

  -- an input that the cone of the node alone names occurs
  named-occurs : IsNamedInput net book.entries task → (k : ℕ) → task.lit.node ≡ Input k → is_over base task.lit ≡ true
  named-occurs named k e =
      let own = named k e in
      let own_is : IsCone net (take (length book.entries) book.entries) (task.node ∷ []) own.cone =
      subst (λ (l : List Entry). IsCone net l (task.node ∷ []) own.cone) (sym (take-length book.entries)) own.is_cone in
      let within : IsClosed (next_of net (take (length book.entries) book.entries)) (task.node ∷ []) is_base.reached =
      record { starts = (is_base.reach.closed.starts.0, tt); nexts = is_base.reach.closed.nexts } in
      occurs-more net (take (length book.entries) book.entries) (task.node ∷ []) own.cone own_is (seeds_of task) base is_base
      (λ n h. let r = own_is.reach.least is_base.reached within n h in (r, there n r)) task.lit own.holds

  -- so both occur
  pub start-over : IsGate task.node → IsNamedInput net book.entries task → IsOver base (forth task)
  start-over gate named = (
    node-occurs task.node is_base.reach.closed.starts.0 (pair-placed net book task pair).0 (λ k e. absurd (no-input task.node gate k e)),
    (
      over-node base task.lit (node-occurs task.lit.node is_base.reach.closed.starts.1.0 (pair-placed net book task pair).1
          (λ k e. over-negative task.lit (named-occurs named k e))),
      tt,
    ),
  )
    where
      no-input : (n : Node) → IsGate n → (k : ℕ) → n ≡ Input k → ⊥
      no-input Const g k e = g
      no-input (Input i) g k e = g
      no-input (Gate s v) g k e = cc
      no-input (Xor j) g k e = g

      over-negative : (l : Lit) → is_over base l ≡ true → is_over base (negative l.node) ≡ true
      over-negative l e = go l.neg l.node e
        where
          go : (neg : Bool) (n : Node) → is_over base (record { node = n; neg = neg }) ≡ true → is_over base (negative n) ≡ true
          go true n f = f
          go false n f = over-opposite base (positive n) f

  pub query-start : IsGate task.node → IsNamedInput net book.entries task → (left : ℕ) → left ≡ book.sweep_budget → IsQuery net book task base [] left
  query-start gate named left e = record { cone = is_base; over = start-over gate named; learned = tt; spends = omega (arith, e) }

-- ---- the two implications are clauses
module _ (net : AigPair) (book : Entries) (task : Task) (pair : IsPair net book task) where
  apart : (a b : Bool) → same_lit (record { node = task.node; neg = a }) (record { node = task.lit.node; neg = b }) ≡ false
  apart a b = go (same_node task.node task.lit.node) refl
    where
      go : (t : Bool) → same_node task.node task.lit.node ≡ t → same_lit (record { node = task.node; neg = a }) (record { node = task.lit.node; neg = b }) ≡ false
      go false e = rw e refl
      go true e =
          absurd (irreflexive (position_of net task.node)
          (subst (λ (n : Node). IsBefore (position_of net n) (position_of net task.node)) (sym (exact-node task.node task.lit.node e)) pair.earlier))

  apart-back : (a b : Bool) → same_lit (record { node = task.lit.node; neg = b }) (record { node = task.node; neg = a }) ≡ false
  apart-back a b = go (same_node task.lit.node task.node) refl
    where
      go : (t : Bool) → same_node task.lit.node task.node ≡ t → same_lit (record { node = task.lit.node; neg = b }) (record { node = task.node; neg = a }) ≡ false
      go false e = rw e refl
      go true e =
          absurd (irreflexive (position_of net task.node)
          (subst (λ (n : Node). IsBefore (position_of net n) (position_of net task.node)) (exact-node task.lit.node task.node e) pair.earlier))

  forth-clause : IsClause same_lit opposite (forth task)
  forth-clause = record {
    once = rw (apart-back true task.lit.neg) refl;
    apart = rw (apart-back false task.lit.neg) refl;
  }

  back-clause : IsClause same_lit opposite (back task)
  back-clause = record {
    once = rw (apart-back false (not task.lit.neg)) refl;
    apart = rw (apart-back true (not task.lit.neg)) refl;
  }

  pub implication-clause : (clause : List Lit) → IsImplication task clause → IsClause same_lit opposite clause
  implication-clause clause (inl e) = subst (IsClause same_lit opposite) (sym e) forth-clause
  implication-clause clause (inr e) = subst (IsClause same_lit opposite) (sym e) back-clause

-- an input isn't both named and unnamed
pub named-unnamed : {A : Type 0} (net : AigPair) (entries : List Entry) (task : Task) → IsNamedInput net entries task → IsUnnamed net entries task → A
named-unnamed net entries task named unnamed =
    let own = named unnamed.input unnamed.is_input in
    contrary (is_over own.cone task.lit) own.holds
    (subst (λ (c : List Named). is_over c task.lit ≡ false) (cone-one net entries (task.node ∷ []) unnamed.cone own.cone unnamed.is_cone own.is_cone) unnamed.unnamed)
