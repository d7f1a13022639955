-- In a legal book what merges say holds on all inputs, and what Outs say on all admitted ones, by way of their steps; and
-- a literal has its root's value.
use Rattle.std.proofs.Common.{◌≡◌, ℕ, zero, suc, Bool, true, false, not, ◌||◌, List, [], ◌∷◌, ◌++◌, map, length, Option, None, Some, refl, sym, ap, ◌∙◌, subst, append_assoc}
use Rattle.std.specs.Prelude.{if◌then◌else◌, slice_get}
use Rattle.std.specs.Option.{option_and_then, option_map, option_map_or}
use Rattle.std.specs.List.{AllByRecursion}
use Rattle.std.proofs.lemmas.List.{append-nil}
use Rattle.std.proofs.lemmas.Option.{none-some, same_Some}
use Rattle.std.proofs.Math.Bool.{or-false}
use Rattle.lits.specs.Assignment.{IsAssignment, Holds}
use Rattle.lits.specs.Same.{opposite}
use Rattle.lits.specs.declared.literal.Lit.{Lit}
use Rattle.lits.specs.declared.node.Side.{Side}
use Rattle.lits.specs.declared.node.Side.TheVariants.{A, B}
use Rattle.lits.specs.declared.node.Node.{Node}
use Rattle.lits.specs.declared.node.Node.TheVariants.{Const, Input, Gate, Xor}
use Rattle.lits.specs.declared.step.Ref.{Ref}
use Rattle.lits.specs.declared.step.Ref.TheVariants.{Axiom, Entry as Shown, Own, Bound}
use Rattle.lits.specs.declared.step.Step.{Step}
use Rattle.lits.proofs.Facts.{all-parts, exact-node, all-slice_get, all-append}
use Rattle.netlist.specs.Circuit.{output_value}
use Rattle.netlist.specs.Net.{AigPair, IsNet, IsAdmitted, bound_of, bounds_on, value_of, lit_holds}
use Rattle.netlist.specs.Miter.{axiom_of, axioms_of, unit}
use Rattle.netlist.proofs.Facts.{values-meet, at_place, lit_holds-assigns, same-values, admitted-bounds}
use Rattle.unit_prop.specs.Step.{AllHold}
use Rattle.unit_prop.specs.Log.{IsChain, InTurn}
use Rattle.lemma_book.specs.declared.entry.Entry.{Entry}
use Rattle.lemma_book.specs.declared.entry.Entry.TheVariants.{Merge, Apart, Spent, Out, OutApart, OutSpent}
use Rattle.lemma_book.specs.declared.entry.Subject.TheVariants.{Merged}
use Rattle.lemma_book.specs.Entry.{Entries, is_on, place_on, lemmas_of, merge_clauses, equal_clause}
use Rattle.lemma_book.specs.Root.{MergeAt, merge_in, merge_of, carried, follow, root_of}
use Rattle.lemma_book.specs.Book.{IsLegal}
use Rattle.lemma_book.specs.Good.{EndsIn, Shape, merge_clause, out_clause, node_clause, IsGood}
use Rattle.lemma_book.specs.Agreement.{HasValueOf, HaveOneValue, IsTrue}
use Rattle.lemma_book.proofs.GoodEntries.{merge-chain, out-chain}

-- what a merge's two clauses say: node and literal have one value
module _ (v : Node → Bool) (node : Node) (lit : Lit) where
  clauses-equal : AllByRecursion (Holds (lit_holds v)) (merge_clauses node lit) → v node ≡ lit_holds v lit
  clauses-equal all =
      go (v node) (lit_holds v lit) (lit_holds v (opposite lit)) ((lit_holds-assigns v).negates lit) all.0 all.1.0
    where
      go : (n l o : Bool) → o ≡ not l → (not n || (l || false)) ≡ true → (n || (o || false)) ≡ true → n ≡ l
      go true true o e f g = refl
      go true false o e f g = cc
      go false true true e f g = cc
      go false true false e f g = cc
      go false false o e f g = refl

  equal-clauses : v node ≡ lit_holds v lit → AllByRecursion (Holds (lit_holds v)) (merge_clauses node lit)
  equal-clauses e =
      (first (v node) (lit_holds v lit) e, (second (v node) (lit_holds v lit) (lit_holds v (opposite lit)) e ((lit_holds-assigns v).negates lit), tt))
    where
      first : (n l : Bool) → n ≡ l → (not n || (l || false)) ≡ true
      first true true f = refl
      first true false f = cc
      first false l f = refl

      second : (n l o : Bool) → n ≡ l → o ≡ not l → (n || (o || false)) ≡ true
      second true l o f g = refl
      second false true o f g = cc
      second false false true f g = refl
      second false false false f g = cc

-- clauses at the end of steps whose clauses all hold
ends-hold : (v : Lit → Bool) (clauses : List (List Lit)) (steps : List Step) → EndsIn clauses steps → AllByRecursion (λ s. Holds v s.clause) steps
    → AllByRecursion (Holds v) clauses
ends-hold v clauses steps ends all =
    subst (AllByRecursion (Holds v)) ends.clauses_are
    (bare ends.last (all-parts (λ s. Holds v s.clause) ends.before ends.last (subst (AllByRecursion (λ s. Holds v s.clause)) ends.parts all)).1)
  where
    bare : (ss : List Step) → AllByRecursion (λ s. Holds v s.clause) ss → AllByRecursion (Holds v) (map (λ s. s.clause) ss)
    bare [] a = tt
    bare (s ∷ ss) a = (a.0, bare ss a.1)

module _ (net : AigPair) (is : IsNet net)
    (steps_hold : (find : Ref → Option (List Lit)) (steps : List Step) (v : Lit → Bool)
    → IsAssignment opposite v → AllHold v find
    → IsChain find steps → AllByRecursion (λ s. Holds v s.clause) steps) where
  -- the clauses of true entries hold under the nodes' values
  shown-holds : (entries : List Entry) → AllByRecursion (IsTrue net) entries → (bits : List Bool) → length bits ≡ length net.a.inputs
      → (i k : ℕ) (c : List Lit) → merge_clause entries i k ≡ Some c → Holds (lit_holds (value_of net bits)) c
  shown-holds entries true_all bits whole i k c found = go (slice_get entries i) refl
    where
      of : (x : Entry) → IsTrue net x → slice_get (lemmas_of x) k ≡ Some c → Holds (lit_holds (value_of net bits)) c
      of (Merge node lit steps) t f =
          all-slice_get (Holds (lit_holds (value_of net bits))) (merge_clauses node lit) k c (equal-clauses (value_of net bits) node lit (t bits whole)) f
      of (Apart node lit input) t f = absurd (none-some c f)
      of (Spent node lit seen log) t f = absurd (none-some c f)
      of (Out j steps) t f = absurd (none-some c f)
      of (OutApart j input) t f = absurd (none-some c f)
      of (OutSpent j seen log) t f = absurd (none-some c f)

      go : (o : Option Entry) → slice_get entries i ≡ o → Holds (lit_holds (value_of net bits)) c
      go None f = absurd (none-some c (sym (ap (option_and_then (λ x. slice_get (lemmas_of x) k)) f) ∙ found))
      go (Some x) f =
          of x (all-slice_get (IsTrue net) entries i x true_all f) (sym (ap (option_and_then (λ y. slice_get (lemmas_of y) k)) f) ∙ found)

  -- so do the axioms
  axiom-holds : (bits : List Bool) (node : Node) (k : ℕ) (c : List Lit) → axiom_of net node k ≡ Some c → Holds (lit_holds (value_of net bits)) c
  axiom-holds bits node k c found = all-slice_get (Holds (lit_holds (value_of net bits))) (axioms_of net node) k c (values-meet net is bits node) found

  -- and on an admitted input the constraints' units
  unit-holds : (bits : List Bool) → IsAdmitted net bits → (side : Side) (k : ℕ) (c : List Lit) → option_map unit (bound_of net side k) ≡ Some c
      → Holds (lit_holds (value_of net bits)) c
  unit-holds bits admitted side k c found = go (bound_of net side k) refl
    where
      on : (s : Side) → AllByRecursion (λ l. lit_holds (value_of net bits) l ≡ true) (bounds_on net s)
      on A = (all-parts (λ l. lit_holds (value_of net bits) l ≡ true) (bounds_on net A) (bounds_on net B) (admitted-bounds net is bits admitted)).0
      on B = (all-parts (λ l. lit_holds (value_of net bits) l ≡ true) (bounds_on net A) (bounds_on net B) (admitted-bounds net is bits admitted)).1

      go : (o : Option Lit) → bound_of net side k ≡ o → Holds (lit_holds (value_of net bits)) c
      go None f = absurd (none-some c (sym (ap (option_map unit) f) ∙ found))
      go (Some l) f =
          subst (Holds (lit_holds (value_of net bits))) (same_Some (unit l) c (sym (ap (option_map unit) f) ∙ found))
          (ap (λ (b : Bool). b || false) (all-slice_get (λ m. lit_holds (value_of net bits) m ≡ true) (bounds_on net side) k l (on side) f))

  -- what the steps of a Merge may cite holds on each input, where the entries are true
  nodes-hold : (entries : List Entry) → AllByRecursion (IsTrue net) entries → (bits : List Bool) → length bits ≡ length net.a.inputs
      → AllHold (lit_holds (value_of net bits)) (node_clause net entries)
  nodes-hold entries true_all bits whole (Axiom Const k) c found = axiom-holds bits Const k c found
  nodes-hold entries true_all bits whole (Axiom (Input i) k) c found = axiom-holds bits (Input i) k c found
  nodes-hold entries true_all bits whole (Axiom (Gate s v) k) c found = axiom-holds bits (Gate s v) k c found
  nodes-hold entries true_all bits whole (Axiom (Xor j) k) c found = absurd (none-some c found)
  nodes-hold entries true_all bits whole (Bound side k) c found = absurd (none-some c found)
  nodes-hold entries true_all bits whole (Shown i k) c found = shown-holds entries true_all bits whole i k c found
  nodes-hold entries true_all bits whole (Own k) c found = absurd (none-some c found)

  -- what the steps of an Out may cite holds on each admitted input
  clauses-hold : (entries : List Entry) → AllByRecursion (IsTrue net) entries → (bits : List Bool) → IsAdmitted net bits
      → AllHold (lit_holds (value_of net bits)) (out_clause net entries)
  clauses-hold entries true_all bits admitted (Axiom node k) c found = axiom-holds bits node k c found
  clauses-hold entries true_all bits admitted (Bound side k) c found = unit-holds bits admitted side k c found
  clauses-hold entries true_all bits admitted (Shown i k) c found = shown-holds entries true_all bits admitted.whole i k c found
  clauses-hold entries true_all bits admitted (Own k) c found = absurd (none-some c found)

  -- an entry that is good over true ones is true
  pub good-true : (book : Entries) → AllByRecursion (IsTrue net) book.entries → (e : Entry) → IsGood net book e → IsTrue net e
  good-true book true_all (Merge node lit steps) good =
      λ bits whole. clauses-equal (value_of net bits) node lit
      (ends-hold (lit_holds (value_of net bits)) (merge_clauses node lit) steps (good Shape)
      (steps_hold (node_clause net book.entries) steps (lit_holds (value_of net bits)) (lit_holds-assigns (value_of net bits))
      (nodes-hold book.entries true_all bits whole) (merge-chain net book node lit steps good)))
  good-true book true_all (Apart node lit input) good = tt
  good-true book true_all (Spent node lit seen log) good = tt
  good-true book true_all (Out j steps) good =
      λ bits admitted. same-values (output_value net.a bits j) (output_value net.b bits j)
      (sym (or-false _) ∙
      (ends-hold (lit_holds (value_of net bits)) (equal_clause j ∷ []) steps (good Shape)
      (steps_hold (out_clause net book.entries) steps (lit_holds (value_of net bits)) (lit_holds-assigns (value_of net bits))
      (clauses-hold book.entries true_all bits admitted) (out-chain net book j steps good))).0)
  good-true book true_all (OutApart j input) good = tt
  good-true book true_all (OutSpent j seen log) good = tt

  -- so all entries of a legal book are true
  true-from : (sweep out : ℕ) (before es : List Entry) → AllByRecursion (IsTrue net) before
      → InTurn (λ b e. IsGood net (record { sweep_budget = sweep; out_budget = out; entries = b }) e) before es → AllByRecursion (IsTrue net) (before ++ es)
  true-from sweep out before [] all legal = subst (AllByRecursion (IsTrue net)) (sym (append-nil before)) all
  true-from sweep out before (e ∷ es) all legal =
      let here = good-true (record { sweep_budget = sweep; out_budget = out; entries = before }) all e legal.0 in
      subst (AllByRecursion (IsTrue net)) (append_assoc before (e ∷ []) es)
      (true-from sweep out (before ++ e ∷ []) es (all-append (IsTrue net) before (e ∷ []) all (here, tt)) legal.1)

  pub legal-true : (book : Entries) → IsLegal net book → AllByRecursion (IsTrue net) book.entries
  legal-true book legal = true-from book.sweep_budget book.out_budget [] book.entries tt legal

-- a merged node has its target's value, and so a literal has that of its root
module _ (net : AigPair) (entries : List Entry) (all : AllByRecursion (IsTrue net) entries) where
  pub merge-value : (node : Node) (m : MergeAt) → merge_of entries node ≡ Some m → HasValueOf net node m.lit
  merge-value node m e = go (place_on entries (Merged node)) refl
    where
      of : (k : ℕ) (x : Entry) → IsTrue net x → is_on (Merged node) x ≡ true → merge_in k x ≡ Some m → HasValueOf net node m.lit
      of k (Merge n lit steps) t on f =
          let same : record { entry = k; lit = lit } ≡ m = same_Some (record { entry = k; lit = lit }) m f in
          subst (λ (y : MergeAt). HasValueOf net node y.lit) same (subst (λ (y : Node). HasValueOf net y lit) (exact-node n node on) t)
      of k (Apart n lit input) t on f = absurd (none-some m f)
      of k (Spent n lit seen log) t on f = absurd (none-some m f)
      of k (Out j steps) t on f = absurd (none-some m f)
      of k (OutApart j input) t on f = absurd (none-some m f)
      of k (OutSpent j seen log) t on f = absurd (none-some m f)

      go : (o : Option ℕ) → place_on entries (Merged node) ≡ o → HasValueOf net node m.lit
      go None f = let g : None ≡ Some m = rw f at e in absurd (none-some m g)
      go (Some k) f =
          let at = at_place (is_on (Merged node)) entries k f in
          let g : option_and_then (merge_in k) (slice_get entries k) ≡ Some m = rw f at e in
          let h : merge_in k at.0 ≡ Some m = rw at.1 at g in
          of k at.0 (all-slice_get (IsTrue net) entries k at.0 all at.1) at.2 h

  carried-value : (l t : Lit) → HasValueOf net l.node t → HaveOneValue net l (carried l.neg t)
  carried-value l t same bits whole =
      go l.neg (value_of net bits l.node) (same bits whole)
    where
      go : (neg a : Bool) → a ≡ lit_holds (value_of net bits) t → (if neg then not a else a) ≡ lit_holds (value_of net bits) (carried neg t)
      go true a e = ap not e ∙ sym ((lit_holds-assigns (value_of net bits)).negates t)
      go false a e = e

  pub follow-value : (n : ℕ) (l : Lit) → HaveOneValue net l (follow n entries l)
  follow-value zero l bits whole = refl
  follow-value (suc n) l bits whole = go (merge_of entries l.node) refl (λ m. follow-value n m bits whole)
    where
      go : (o : Option MergeAt) → merge_of entries l.node ≡ o
          → ((m : Lit) → lit_holds (value_of net bits) m ≡ lit_holds (value_of net bits) (follow n entries m))
          → lit_holds (value_of net bits) l ≡ lit_holds (value_of net bits) (follow (suc n) entries l)
      go None e rest = rw e refl
      go (Some m) e rest =
          carried-value l m.lit (merge-value l.node m e) bits whole ∙ rest (carried l.neg m.lit)
          ∙ ap (λ (o : Option MergeAt). lit_holds (value_of net bits) (option_map_or (λ k. follow n entries (carried l.neg k.lit)) o l)) (sym e)

  pub root-value : (l : Lit) → HaveOneValue net l (root_of entries l)
  root-value l = follow-value (length entries) l
