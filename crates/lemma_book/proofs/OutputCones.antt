-- The cone of an output: the constraints' nodes are reached, the units of the constraints stand behind the clauses of the
-- nodes, and what holds of each cone holds of it.
use Rattle.std.proofs.Common.{◌≡◌, ℕ, ◌+◌, ◌<◌, true, false, List, [], ◌∷◌, ◌++◌, length, map, take, Option, Some, None, refl, sym, ap, ◌∙◌, subst, filter}
use Rattle.std.specs.Prelude.{◌==◌}
use Rattle.std.specs.List.{list_any, AllByRecursion, flat_map}
use Rattle.std.proofs.lemmas.List.{map-append}
use Rattle.std.proofs.lemmas.List.Folds.{list_any-append}
use Rattle.lits.specs.Clause.{has, no_repeat}
use Rattle.lits.specs.declared.node.Side.{Side}
use Rattle.lits.specs.declared.node.Side.TheVariants.{A, B}
use Rattle.lits.specs.declared.node.Node.{Node}
use Rattle.lits.specs.declared.node.Node.TheVariants.{Xor}
use Rattle.lits.specs.declared.literal.Lit.{Lit}
use Rattle.lits.specs.declared.step.Ref.{Ref}
use Rattle.lits.specs.declared.step.Ref.TheVariants.{Bound}
use Rattle.lits.specs.declared.step.Named.{Named}
use Rattle.lits.specs.Same.{same_node}
use Rattle.lits.proofs.Facts.{all-append, all-parts}
use Rattle.netlist.specs.Net.{AigPair, IsNet, bounds_on, bounds_of}
use Rattle.netlist.specs.Miter.{positive, unit, variables_of}
use Rattle.netlist.proofs.Facts.{bounds-variables}
use Rattle.unit_prop.specs.Log.{same_name, is_own, IsBase}
use Rattle.lemma_book.specs.declared.entry.Entry.{Entry}
use Rattle.lemma_book.specs.Entry.{Entries, Question, OfPair, OfOutput, seeds_of}
use Rattle.lemma_book.specs.Root.{MergeAt, merge_of}
use Rattle.lemma_book.specs.Book.{IsLegal}
use Rattle.lemma_book.specs.Cone.{AreThere, named_from, named_clauses, named_bounds, named_units, AreIn, IsOutputCone, IsConeOf}
use Rattle.lemma_book.proofs.RepeatLemmas.{no_repeat-append}
use Rattle.lemma_book.proofs.ThereLemmas.{is_some-variable}
use Rattle.lemma_book.proofs.OutputXor.{xor-there, xor-variable}
use Rattle.lemma_book.proofs.ConeLemmas.{names, own-names, other-none, all-names, none-own, name_by, clauses_by, named-by, cone-base, cone-one, cone-over}

-- there is one cone of an output
pub output_cone-one : (net : AigPair) (es : List Entry) (j : ℕ) (c d : List Named) → IsOutputCone net es j c → IsOutputCone net es j d → c ≡ d
output_cone-one net es j c d a b =
    a.clauses ∙ ap (λ (l : List Named). l ++ named_units net) (cone-one net es (seeds_of net (OfOutput j)) a.nodes b.nodes a.is_cone b.is_cone)
    ∙ sym b.clauses

-- and so of a question
pub cone_of-one : (net : AigPair) (es : List Entry) (q : Question) (c d : List Named) → IsConeOf net es q c → IsConeOf net es q d → c ≡ d
cone_of-one net es (OfPair node lit) c d a b = cone-one net es (node ∷ lit.node ∷ []) c d a b
cone_of-one net es (OfOutput j) c d a b = output_cone-one net es j c d a b

-- ---- the names of the units
-- no unit has the name of a node's clause
unit-apart : (side : Side) (n : Node) (o : Option MergeAt) (j i : ℕ) → same_name (Bound side i) (name_by n o j) ≡ false
unit-apart side n None j i = refl
unit-apart side n (Some m) j i = refl

unit-exact : (side : Side) (j k : ℕ) → same_name (Bound side j) (Bound side k) ≡ (j == k)
unit-exact A j k = refl
unit-exact B j k = refl

module _ (net : AigPair) where
  abbrev units : Side → List (List Lit)
  units side = map unit (bounds_on net side)

  joined : names (named_units net) ≡ names (named_bounds net A) ++ names (named_bounds net B)
  joined = map-append (λ x. x.by) (named_bounds net A) (named_bounds net B)

  -- a name that neither side's units have
  neither : (name : Ref) → ((side : Side) (i : ℕ) → same_name (Bound side i) name ≡ false) → has same_name (names (named_units net)) name ≡ false
  neither name apart =
      ap (λ (l : List Ref). has same_name l name) joined
      ∙ list_any-append (λ y. same_name y name) (names (named_bounds net A)) (names (named_bounds net B))
      ∙ rw (other-none (Bound A) name (apart A) (units A) 0, other-none (Bound B) name (apart B) (units B) 0) refl

  units-differ : no_repeat same_name (names (named_units net)) ≡ true
  units-differ =
      ap (no_repeat same_name) joined
      ∙ no_repeat-append same_name (names (named_bounds net A)) (names (named_bounds net B))
      (own-names (Bound A) (unit-exact A) (units A) 0) (own-names (Bound B) (unit-exact B) (units B) 0)
      (all-names (λ x. has same_name (names (named_bounds net B)) x ≡ false) (Bound A) (units A) 0
      (λ i. other-none (Bound B) (Bound A i) (λ k. refl) (units B) 0))

  units-foreign : list_any (λ x. is_own x.by) (named_units net) ≡ false
  units-foreign =
      list_any-append (λ x. is_own x.by) (named_bounds net A) (named_bounds net B)
      ∙ rw (none-own (Bound A) (λ i. refl) (units A) 0, none-own (Bound B) (λ i. refl) (units B) 0) refl

  module _ (es : List Entry) where
    abbrev IsNoUnit : Ref → Type 0
    IsNoUnit x = has same_name (names (named_units net)) x ≡ false

    no-unit : (ns : List Node) → AllByRecursion IsNoUnit (names (flat_map (named_clauses net es) ns))
    no-unit [] = tt
    no-unit (n ∷ ns) =
        subst (AllByRecursion IsNoUnit)
        (sym (map-append (λ x. x.by) (named_clauses net es n) (flat_map (named_clauses net es) ns)))
        (all-append IsNoUnit (names (named_clauses net es n)) (names (flat_map (named_clauses net es) ns))
        (subst (λ (l : List Named). AllByRecursion IsNoUnit (names l)) (sym (named-by net es n))
        (all-names IsNoUnit (name_by n (merge_of es n)) (clauses_by net n (merge_of es n)) 0
        (λ i. neither (name_by n (merge_of es n) i) (λ side k. unit-apart side n (merge_of es n) i k))))
        (no-unit ns))

    -- the names of an output's cone differ, and none is that of an own step
    pub output_cone-base : IsNet net → (j : ℕ) (cone : List Named) → IsOutputCone net es j cone → IsBase cone
    output_cone-base net_is j cone is =
        let base = cone-base net es net_is (seeds_of net (OfOutput j)) is.nodes is.is_cone in
        let apart : AllByRecursion IsNoUnit (names is.nodes) =
        subst (λ (l : List Named). AllByRecursion IsNoUnit (names l)) (sym is.is_cone.clauses) (no-unit (filter is.is_cone.reached (variables_of net))) in
        subst IsBase (sym is.clauses) (record {
          differ = ap (no_repeat same_name) (map-append (λ x. x.by) is.nodes (named_units net))
              ∙ no_repeat-append same_name (names is.nodes) (names (named_units net)) base.differ units-differ apart;
          foreign = list_any-append (λ x. is_own x.by) is.nodes (named_units net) ∙ rw (base.foreign, units-foreign) refl;
        })

-- ---- what the constraints speak of
-- the constraints' nodes are reached
pub bounds-reached : (net : AigPair) (es : List Entry) (j : ℕ) (cone : List Named) (is : IsOutputCone net es j cone)
    → AllByRecursion (λ l. is.is_cone.reached l.node ≡ true) (bounds_of net)
bounds-reached net es j cone is = each (bounds_of net) is.is_cone.reach.closed.starts.1
  where
    each : (ls : List Lit) → AreIn is.is_cone.reached (map (λ l. l.node) ls) → AllByRecursion (λ l. is.is_cone.reached l.node ≡ true) ls
    each [] all = tt
    each (l ∷ ls) all = (all.0, each ls all.1)

-- the literals at which the walk through an output's cone begins
abbrev pub starts_of : AigPair → ℕ → List Lit
starts_of net j = positive (Xor j) ∷ bounds_of net

module _ (net : AigPair) (is : IsNet net) where
  module _ (j : ℕ) (below : j < length net.a.outputs) where
    -- so have all at which an output's cone begins
    pub starts-there : AreThere net (starts_of net j)
    starts-there = (xor-variable net is j below, each (bounds_of net) (bounds-variables net is))
      where
        each : (ls : List Lit) → AllByRecursion (λ l. has same_node (variables_of net) l.node ≡ true) ls → AreThere net ls
        each [] all = tt
        each (l ∷ ls) all = (is_some-variable net l.node ∙ all.0, each ls all.1)

    pub seeds-there : AreIn (has same_node (variables_of net)) (seeds_of net (OfOutput j))
    seeds-there = (xor-there net is j below, each (bounds_of net) (bounds-variables net is))
      where
        each : (ls : List Lit) → AllByRecursion (λ l. has same_node (variables_of net) l.node ≡ true) ls → AreIn (has same_node (variables_of net)) (map (λ l. l.node) ls)
        each [] all = tt
        each (l ∷ ls) all = (all.0, each ls all.1)

  -- the literals of an output's cone are over nodes that have variables
  pub output_cone-over : (book : Entries) → IsLegal net book → (seen j : ℕ) (cone : List Named) → IsOutputCone net (take seen book.entries) j cone
      → AllByRecursion (λ m. AllByRecursion (λ l. has same_node (variables_of net) l.node ≡ true) m.clause) cone
  output_cone-over book legal seen j cone is_cone =
      subst (AllByRecursion IsOver) (sym is_cone.clauses)
      (all-append IsOver is_cone.nodes (named_units net) (cone-over net is book legal seen (seeds_of net (OfOutput j)) is_cone.nodes is_cone.is_cone)
      (all-append IsOver (named_bounds net A) (named_bounds net B)
      (named (Bound A) (bounds_on net A) 0 both.0) (named (Bound B) (bounds_on net B) 0 both.1)))
    where
      IsOver : Named → Type 0
      IsOver m = AllByRecursion (λ l. has same_node (variables_of net) l.node ≡ true) m.clause

      both : AllByRecursion (λ l. has same_node (variables_of net) l.node ≡ true) (bounds_on net A)
          × AllByRecursion (λ l. has same_node (variables_of net) l.node ≡ true) (bounds_on net B)
      both = all-parts (λ l. has same_node (variables_of net) l.node ≡ true) (bounds_on net A) (bounds_on net B) (bounds-variables net is)

      named : (name : ℕ → Ref) (ls : List Lit) (k : ℕ) → AllByRecursion (λ l. has same_node (variables_of net) l.node ≡ true) ls
          → AllByRecursion IsOver (named_from name k (map unit ls))
      named name [] k all = tt
      named name (l ∷ ls) k all = ((all.0, tt), named name ls (k + 1) all.1)
