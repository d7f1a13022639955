-- What holds of each cone over a legal book: it is a base, it is over nodes that have variables, and there is one.
use Rattle.std.proofs.Common.{◌≡◌, ℕ, ◌+◌, ◌<◌, Bool, true, false, not, Option, Some, None, List, [], ◌∷◌, ◌++◌, map, filter, take, refl, sym, ap, ◌∙◌, subst, arith}
use Rattle.std.specs.Prelude.{◌==◌}
use Rattle.std.specs.Option.{option_map_or}
use Rattle.std.specs.List.{list_any, AllByRecursion, flat_map}
use Rattle.std.proofs.lemmas.Bool.Decides.{nat_tests}
use Rattle.std.proofs.lemmas.List.{map-append}
use Rattle.std.proofs.lemmas.List.Folds.{list_any-append}
use Rattle.std.proofs.lemmas.Bool.{and_parts, not-true, or_parts}
use Rattle.lits.specs.Clause.{has, no_repeat}
use Rattle.lits.specs.declared.node.Node.{Node}
use Rattle.lits.specs.declared.literal.Lit.{Lit}
use Rattle.lits.specs.declared.step.Ref.{Ref}
use Rattle.lits.specs.declared.step.Ref.TheVariants.{Axiom, Entry as Shown}
use Rattle.lits.specs.declared.step.Named.{Named}
use Rattle.lits.specs.Same.{same_node}
use Rattle.lits.proofs.Facts.{same-node_self, all-append}
use Rattle.netlist.specs.Net.{AigPair, IsNet}
use Rattle.netlist.specs.Miter.{axioms_of, variables_of}
use Rattle.netlist.proofs.Facts.{equal-number, AreOver, over-variables, all-members}
use Rattle.unit_prop.proofs.Facts.{contrary}
use Rattle.unit_prop.specs.Log.{same_name, is_own, IsBase}
use Rattle.lemma_book.specs.declared.entry.Entry.{Entry}
use Rattle.lemma_book.specs.Entry.{Entries, merge_clauses}
use Rattle.lemma_book.specs.Root.{MergeAt, merge_of}
use Rattle.lemma_book.specs.Book.{IsLegal}
use Rattle.lemma_book.specs.Cone.{named_from, named_clauses, next_of, AreIn, IsClosed, IsReach, IsCone}
use Rattle.lemma_book.proofs.RepeatLemmas.{no_repeat-append, no_repeat-filter, filter-agree, all-filtered}
use Rattle.lemma_book.proofs.ThereLemmas.{variables-distinct, is_some-variable}
use Rattle.lemma_book.proofs.FaninLemmas.{there-closed}
use Rattle.lemma_book.proofs.MergedNodes.{merged-one, merge-placed, placed-there}

abbrev pub names : List Named → List Ref
names ns = map (λ n. n.by) ns

-- ---- the names of clauses that count from a place on differ
module _ (name : ℕ → Ref) (exact : (j k : ℕ) → same_name (name j) (name k) ≡ (j == k)) where
  below-none : (cs : List (List Lit)) (j k : ℕ) → j < k → has same_name (names (named_from name k cs)) (name j) ≡ false
  below-none [] j k below = refl
  below-none (c ∷ cs) j k below =
      let apart : (k == j) ≡ false = grind (arith, nat_tests) in
      rw (exact k j, apart, below-none cs j (k + 1) (omega arith)) refl

  pub own-names : (cs : List (List Lit)) (k : ℕ) → no_repeat same_name (names (named_from name k cs)) ≡ true
  own-names [] k = refl
  own-names (c ∷ cs) k = rw (below-none cs k (k + 1) (omega arith), own-names cs (k + 1)) refl

-- names that differ from one aren't that one
pub other-none : (name : ℕ → Ref) (other : Ref) → ((j : ℕ) → same_name (name j) other ≡ false) → (cs : List (List Lit)) (k : ℕ)
    → has same_name (names (named_from name k cs)) other ≡ false
other-none name other apart [] k = refl
other-none name other apart (c ∷ cs) k = rw (apart k, other-none name other apart cs (k + 1)) refl

pub all-names : (P : Ref → Type 0) (name : ℕ → Ref) (cs : List (List Lit)) (k : ℕ) → ((j : ℕ) → P (name j)) → AllByRecursion P (names (named_from name k cs))
all-names P name [] k each = tt
all-names P name (c ∷ cs) k each = (each k, all-names P name cs (k + 1) each)

pub none-own : (name : ℕ → Ref) → ((j : ℕ) → is_own (name j) ≡ false) → (cs : List (List Lit)) (k : ℕ) → list_any (λ x. is_own x.by) (named_from name k cs) ≡ false
none-own name foreign [] k = refl
none-own name foreign (c ∷ cs) k = rw (foreign k, none-own name foreign cs (k + 1)) refl

-- ---- those of a node: by its merge, or by itself
abbrev pub name_by : Node → Option MergeAt → ℕ → Ref
name_by n o = option_map_or (λ m. Shown m.entry) o (Axiom n)

abbrev pub clauses_by : AigPair → Node → Option MergeAt → List (List Lit)
clauses_by net n o = option_map_or (λ m. merge_clauses n m.lit) o (axioms_of net n)

exact-by : (n : Node) (o : Option MergeAt) (j k : ℕ) → same_name (name_by n o j) (name_by n o k) ≡ (j == k)
exact-by n None j k = rw (same-node_self n) refl
exact-by n (Some m) j k = let e : (m.entry == m.entry) ≡ true = grind (arith, nat_tests) in rw e refl

foreign-by : (n : Node) (o : Option MergeAt) (j : ℕ) → is_own (name_by n o j) ≡ false
foreign-by n None j = refl
foreign-by n (Some m) j = refl

module _ (net : AigPair) (es : List Entry) where
  pub named-by : (n : Node) → named_clauses net es n ≡ named_from (name_by n (merge_of es n)) 0 (clauses_by net n (merge_of es n))
  named-by n = go (merge_of es n)
    where
      go : (o : Option MergeAt) → option_map_or (λ m. named_from (Shown m.entry) 0 (merge_clauses n m.lit)) o (named_from (Axiom n) 0 (axioms_of net n))
          ≡ named_from (name_by n o) 0 (clauses_by net n o)
      go None = refl
      go (Some m) = refl

  -- clauses of two nodes have other names
  apart-by : (m n : Node) → same_node m n ≡ false → (j k : ℕ) → same_name (name_by m (merge_of es m) j) (name_by n (merge_of es n) k) ≡ false
  apart-by m n apart j k = go (merge_of es m) (merge_of es n) refl refl
    where
      go : (a b : Option MergeAt) → merge_of es m ≡ a → merge_of es n ≡ b → same_name (name_by m a j) (name_by n b k) ≡ false
      go None None e f = rw apart refl
      go None (Some b) e f = refl
      go (Some a) None e f = refl
      go (Some a) (Some b) e f = entries (a.entry == b.entry) refl
        where
          entries : (t : Bool) → (a.entry == b.entry) ≡ t → same_name (Shown a.entry j) (Shown b.entry k) ≡ false
          entries false g = rw g refl
          entries true g =
              let one = merged-one es m n a b e f (equal-number a.entry b.entry g) in
              contrary (same_node m n) (subst (λ (x : Node). same_node m x ≡ true) one (same-node_self m)) apart

  abbrev pub clauses_of_nodes : List Node → List Named
  clauses_of_nodes ns = flat_map (named_clauses net es) ns

  nodes-none : (ns : List Node) (n : Node) (j : ℕ) → has same_node ns n ≡ false → has same_name (names (clauses_of_nodes ns)) (name_by n (merge_of es n) j) ≡ false
  nodes-none [] n j none = refl
  nodes-none (m ∷ ms) n j none =
      let parts = or_parts (same_node m n) (has same_node ms n) none in
      let other = name_by n (merge_of es n) j in
      ap (λ (l : List Ref). has same_name l other) (map-append (λ x. x.by) (named_clauses net es m) (clauses_of_nodes ms))
      ∙ list_any-append (λ y. same_name y other) (names (named_clauses net es m)) (names (clauses_of_nodes ms))
      ∙ rw (
        ap (λ (l : List Named). has same_name (names l) other) (named-by m)
            ∙ other-none (name_by m (merge_of es m)) other (λ i. apart-by m n parts.0 i j) (clauses_by net m (merge_of es m)) 0,
        nodes-none ms n j parts.1,
      ) refl

  nodes-names : (ns : List Node) → no_repeat same_node ns ≡ true → no_repeat same_name (names (clauses_of_nodes ns)) ≡ true
  nodes-names [] distinct = refl
  nodes-names (n ∷ ns) distinct =
      let parts = and_parts (not (has same_node ns n)) (no_repeat same_node ns) distinct in
      let new = not-true (has same_node ns n) parts.0 in
      let name = name_by n (merge_of es n) in
      let cs = clauses_by net n (merge_of es n) in
      ap (no_repeat same_name) (map-append (λ x. x.by) (named_clauses net es n) (clauses_of_nodes ns)
      ∙ ap (λ (l : List Named). names l ++ names (clauses_of_nodes ns)) (named-by n))
      ∙ no_repeat-append same_name (names (named_from name 0 cs)) (names (clauses_of_nodes ns)) (own-names name (exact-by n (merge_of es n)) cs 0) (nodes-names ns parts.1)
      (all-names (λ x. has same_name (names (clauses_of_nodes ns)) x ≡ false) name cs 0 (λ j. nodes-none ns n j new))

  no-own : (ns : List Node) → list_any (λ x. is_own x.by) (clauses_of_nodes ns) ≡ false
  no-own [] = refl
  no-own (n ∷ ns) =
      list_any-append (λ x. is_own x.by) (named_clauses net es n) (clauses_of_nodes ns)
      ∙ rw (
        ap (λ (l : List Named). list_any (λ x. is_own x.by) l) (named-by n)
            ∙ none-own (name_by n (merge_of es n)) (foreign-by n (merge_of es n)) (clauses_by net n (merge_of es n)) 0,
        no-own ns,
      ) refl

  -- a cone's names differ, and none is that of an own step
  pub cone-base : IsNet net → (seeds : List Node) (cone : List Named) → IsCone net es seeds cone → IsBase cone
  cone-base net_is seeds cone is = subst IsBase (sym is.clauses) (record {
    differ = nodes-names (filter is.reached (variables_of net)) (no_repeat-filter same_node is.reached (variables_of net) (variables-distinct net net_is));
    foreign = no-own (filter is.reached (variables_of net));
  })

-- two lists of nodes that the seeds reach are one
pub reach-one : (next : Node → List Node) (seeds : List Node) (p q : Node → Bool) → IsReach next seeds p → IsReach next seeds q → (n : Node) → p n ≡ q n
reach-one next seeds p q a b n = go (p n) (q n) refl refl
  where
    go : (x y : Bool) → p n ≡ x → q n ≡ y → x ≡ y
    go true true e f = refl
    go false false e f = refl
    go true false e f = contrary (q n) (a.least q b.closed n e) f
    go false true e f = contrary (p n) (b.least p a.closed n f) e

-- there is one cone of the seeds
pub cone-one : (net : AigPair) (es : List Entry) (seeds : List Node) (c d : List Named) → IsCone net es seeds c → IsCone net es seeds d → c ≡ d
cone-one net es seeds c d a b =
    a.clauses
    ∙ ap (flat_map (named_clauses net es)) (filter-agree a.reached b.reached (variables_of net) (same (variables_of net)))
    ∙ sym b.clauses
  where
    same : (ns : List Node) → AllByRecursion (λ n. a.reached n ≡ b.reached n) ns
    same [] = tt
    same (n ∷ ns) = (reach-one (next_of net es) seeds a.reached b.reached a.reach b.reach n, same ns)

module _ (net : AigPair) (is : IsNet net) (book : Entries) (legal : IsLegal net book) (seen : ℕ) where
  abbrev pub is_there : Node → Bool
  is_there = has same_node (variables_of net)

  abbrev pub first_seen : List Entry
  first_seen = take seen book.entries

  -- node and target of a merge have variables
  merge-there : (n : Node) (m : MergeAt) → merge_of first_seen n ≡ Some m → (is_there n ≡ true) × (is_there m.lit.node ≡ true)
  merge-there n m e =
      let placed = merge-placed net book legal seen n m e in
      (sym (is_some-variable net n) ∙ placed-there net n placed.0, sym (is_some-variable net m.lit.node) ∙ placed-there net m.lit.node placed.1)

  -- the nodes that have variables lead to such nodes
  there-next : (seeds : List Node) → AreIn is_there seeds → IsClosed (next_of net first_seen) seeds is_there
  there-next seeds starts = record { starts = starts; nexts = λ n h. go n h (merge_of first_seen n) refl }
    where
      go : (n : Node) → is_there n ≡ true → (o : Option MergeAt) → merge_of first_seen n ≡ o → AreIn is_there (next_of net first_seen n)
      go n h None e = rw e ((there-closed net is [] tt).nexts n h)
      go n h (Some m) e = rw e ((merge-there n m e).1, tt)

  -- so what they reach has variables
  pub reach-there : (seeds : List Node) → AreIn is_there seeds → (reached : Node → Bool) → IsReach (next_of net first_seen) seeds reached
      → (n : Node) → reached n ≡ true → is_there n ≡ true
  reach-there seeds starts reached reach = reach.least is_there (there-next seeds starts)

  over-clauses : (n : Node) → is_there n ≡ true → AreOver is_there (clauses_by net n (merge_of first_seen n))
  over-clauses n h = go (merge_of first_seen n) refl
    where
      go : (o : Option MergeAt) → merge_of first_seen n ≡ o → AreOver is_there (clauses_by net n o)
      go None e = over-variables net is n h
      go (Some m) e = ((h, ((merge-there n m e).1, tt)), ((h, ((merge-there n m e).1, tt)), tt))

  -- the literals of a cone are over nodes that the miter has variables for
  pub cone-over : (seeds : List Node) (cone : List Named) → IsCone net first_seen seeds cone
      → AllByRecursion (λ m. AllByRecursion (λ l. is_there l.node ≡ true) m.clause) cone
  cone-over seeds cone is_cone =
      subst (AllByRecursion (λ m. AllByRecursion (λ l. is_there l.node ≡ true) m.clause)) (sym is_cone.clauses)
      (joined (filter is_cone.reached (variables_of net))
      (all-filtered (λ n. AreOver is_there (clauses_by net n (merge_of first_seen n))) is_cone.reached (variables_of net) (weaker (variables_of net)
      (all-members (λ n. AreOver is_there (clauses_by net n (merge_of first_seen n))) (variables_of net) over-clauses))))
    where
      weaker : (ns : List Node) → AllByRecursion (λ n. AreOver is_there (clauses_by net n (merge_of first_seen n))) ns
          → AllByRecursion (λ n. is_cone.reached n ≡ true → AreOver is_there (clauses_by net n (merge_of first_seen n))) ns
      weaker [] all = tt
      weaker (n ∷ ns) all = (λ e. all.0, weaker ns all.1)

      named : (name : ℕ → Ref) (cs : List (List Lit)) (k : ℕ) → AreOver is_there cs
          → AllByRecursion (λ m. AllByRecursion (λ l. is_there l.node ≡ true) m.clause) (named_from name k cs)
      named name [] k over = tt
      named name (c ∷ cs) k over = (over.0, named name cs (k + 1) over.1)

      joined : (ns : List Node) → AllByRecursion (λ n. AreOver is_there (clauses_by net n (merge_of first_seen n))) ns
          → AllByRecursion (λ m. AllByRecursion (λ l. is_there l.node ≡ true) m.clause) (flat_map (named_clauses net first_seen) ns)
      joined [] over = tt
      joined (n ∷ ns) over =
          all-append (λ m. AllByRecursion (λ l. is_there l.node ≡ true) m.clause) (named_clauses net first_seen n) (flat_map (named_clauses net first_seen) ns)
          (subst (AllByRecursion (λ m. AllByRecursion (λ l. is_there l.node ≡ true) m.clause)) (sym (named-by net first_seen n))
          (named (name_by n (merge_of first_seen n)) (clauses_by net n (merge_of first_seen n)) 0 over.0))
          (joined ns over.1)
