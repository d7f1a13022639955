-- A legal book about circuit A stays legal when another circuit stands beside A, where the one before had no gates: nodes of A have the
-- same positions, values and clauses.
use Rattle.std.proofs.Common.{◌≡◌, ℕ, zero, suc, ◌+◌, min, Bool, true, false, not, cond, Option, Some, None, List, [], ◌∷◌, ◌++◌, length, map, take, find, refl, sym, ap, ◌∙◌, subst, append_assoc, arith}
use Rattle.std.specs.Prelude.{◌==◌, ◌||◌, ◌&&◌, slice_get}
use Rattle.std.specs.Option.{is_some, option_map, option_map_or, IsSome}
use Rattle.std.specs.List.{filter, flat_map, list_any, range_with_len, AllByRecursion}
use Rattle.std.proofs.lemmas.List.{append-nil, map-append}
use Rattle.std.proofs.lemmas.List.Folds.{list_any-append}
use Rattle.std.proofs.lemmas.Bool.{and_parts}
use Rattle.std.proofs.lemmas.Option.{none-some, same_Some}
use Rattle.lits.specs.Same.{same_node}
use Rattle.lits.specs.declared.node.Side.TheVariants.{A, B}
use Rattle.lits.specs.declared.node.Node.{Node}
use Rattle.lits.specs.declared.node.Node.TheVariants.{Const, Input, Gate, Xor}
use Rattle.lits.specs.declared.literal.Lit.{Lit}
use Rattle.lits.specs.declared.step.Ref.{Ref}
use Rattle.lits.specs.declared.step.Ref.TheVariants.{Axiom, Entry as Shown, Own, Bound}
use Rattle.lits.specs.declared.step.Step.{Step}
use Rattle.lits.specs.declared.step.Named.{Named}
use Rattle.netlist.specs.declared.gate.And.{And}
use Rattle.netlist.specs.declared.gate.Definition.{Definition}
use Rattle.netlist.specs.Circuit.{Aig, var_of}
use Rattle.netlist.specs.Pair.{first_gate}
use Rattle.netlist.specs.Place.{place_of}
use Rattle.netlist.specs.Net.{AigPair, definition_of, gate_at, lit_holds, node_of, nodes_of, position_of, value_of}
use Rattle.netlist.specs.Miter.{gate_clauses, kept, variable_of, variables_of, xors_of}
use Rattle.netlist.proofs.Facts.{or_place, place_of-append, position-gate, position_of-xor}
use Rattle.unit_prop.specs.Log.{InTurn}
use Rattle.lemma_book.specs.declared.entry.Entry.{Entry}
use Rattle.lemma_book.specs.declared.entry.Entry.TheVariants.{Merge, Apart, Spent, Out, OutApart, OutSpent}
use Rattle.lemma_book.specs.Entry.{Entries, OfPair}
use Rattle.lemma_book.specs.Root.{MergeAt, merge_of}
use Rattle.lemma_book.specs.Cone.{fanins_of, named_clauses, next_of, AreIn, AreThere, IsClosed, IsCone, IsReach}
use Rattle.lemma_book.specs.Good.{NoNode, Already, NotEarlier, NotApart, Shape, Count, Seen, NoStep, NotNew, node_clause, AreOver, IsApart, IsBefore, IsEarlier, OfQuery}
use Rattle.lemma_book.specs.Book.{IsLegal}
use Rattle.lemma_book.proofs.Facts.{in_turn-each, is_some-variable, merge-placed, step_after-more, IsGoodAfter}
use Rattle.fraig_write.specs.Mirror.{is_of_a, AreOfA, IsOfA}
use Rattle.fraig_write.proofs.MirrorGates.{named-of_a}

-- ---- lists
take-twice : {X : Type 0} (m k : ℕ) (xs : List X) → take m (take k xs) ≡ take (min m k) xs
take-twice zero k xs = let e : min 0 k ≡ 0 = omega arith in ap (λ (n : ℕ). take n xs) (sym e)
take-twice (suc m) zero xs = let e : min (suc m) 0 ≡ 0 = omega arith in ap (λ (n : ℕ). take n xs) (sym e)
take-twice (suc m) (suc k) [] = let e : min (suc m) (suc k) ≡ suc (min m k) = omega arith in ap (λ (n : ℕ). take n []) (sym e)
take-twice {X} (suc m) (suc k) (x ∷ xs) =
    let e : min (suc m) (suc k) ≡ suc (min m k) = omega arith in
    ap (λ (l : List X). x ∷ l) (take-twice m k xs) ∙ ap (λ (n : ℕ). take n (x ∷ xs)) (sym e)

in_turn-at : {X : Type 0} (P : List X → X → Type 0) (before xs : List X) (k : ℕ) (x : X) → InTurn P before xs → slice_get xs k ≡ Some x
    → P (before ++ take k xs) x
in_turn-at P before [] k x all e = absurd (none-some x e)
in_turn-at P before (y ∷ ys) zero x all e =
    let same = same_Some y x e in
    subst (λ (b : List _). P b x) (sym (append-nil before)) (subst (P before) same all.0)
in_turn-at P before (y ∷ ys) (suc k) x all e =
    subst (λ (b : List _). P b x) (append_assoc before (y ∷ []) (take k ys)) (in_turn-at P (before ++ y ∷ []) ys k x all.1 e)

all-at : {X : Type 0} (P : X → Type 0) (xs : List X) (k : ℕ) (x : X) → AllByRecursion P xs → slice_get xs k ≡ Some x → P x
all-at P [] k x all e = absurd (none-some x e)
all-at P (y ∷ ys) zero x all e = subst P (same_Some y x e) all.0
all-at P (y ∷ ys) (suc k) x all e = all-at P ys k x all.1 e

filter-append : {X : Type 0} (p : X → Bool) (xs ys : List X) → filter p (xs ++ ys) ≡ filter p xs ++ filter p ys
filter-append p [] ys = refl
filter-append {X} p (x ∷ xs) ys = go (p x) (filter-append p xs ys)
  where
    go : (b : Bool) → filter p (xs ++ ys) ≡ filter p xs ++ filter p ys
        → cond b (x ∷ filter p (xs ++ ys)) (filter p (xs ++ ys)) ≡ cond b (x ∷ filter p xs) (filter p xs) ++ filter p ys
    go true e = ap (λ (l : List X). x ∷ l) e
    go false e = e

or-between : (x y z : Bool) → (x || z) ≡ true → ((x || y) || z) ≡ true
or-between true y z e = refl
or-between false true z e = refl
or-between false false z e = e

-- what isn't so of the one isn't so of both
not-both : (b : Bool) → (b ≡ true → ⊥) → b ≡ false
not-both true never = absurd (never refl)
not-both false never = refl

module _ (a z b : Aig) (none : z.gates ≡ []) where
  abbrev old : AigPair
  old = record { a = a; b = z }

  abbrev new : AigPair
  new = record { a = a; b = b }

  -- ---- positions
  first : List Node
  first = Const ∷ (map Input (range_with_len 0 (length a.inputs)) ++ map (λ d. d.node) (map (definition_of A a) a.gates))

  second : List Node
  second = map (λ d. d.node) (map (definition_of B b) b.gates)

  nodes-old : nodes_of old ≡ first
  unfolding first
  nodes-old =
      ap (λ (gs : List And). Const ∷ (map Input (range_with_len 0 (length a.inputs))
      ++ map (λ d. d.node) (map (definition_of A a) a.gates ++ map (definition_of B z) gs))) none
      ∙ ap (λ (l : List Definition). Const ∷ (map Input (range_with_len 0 (length a.inputs)) ++ map (λ d. d.node) l))
      (append-nil (map (definition_of A a) a.gates))

  nodes-new : nodes_of new ≡ first ++ second
  unfolding first second
  nodes-new =
      ap (λ (l : List Node). Const ∷ (map Input (range_with_len 0 (length a.inputs)) ++ l))
      (map-append (λ d. d.node) (map (definition_of A a) a.gates) (map (definition_of B b) b.gates))
      ∙ ap (λ (l : List Node). Const ∷ l)
      (sym (append_assoc (map Input (range_with_len 0 (length a.inputs))) (map (λ d. d.node) (map (definition_of A a) a.gates))
      (map (λ d. d.node) (map (definition_of B b) b.gates))))

  position-more : (n : Node) (i : ℕ) → position_of old n ≡ Some i → position_of new n ≡ Some i
  position-more n i e =
      ap (place_of (λ m. same_node m n)) nodes-new
      ∙ place_of-append (λ m. same_node m n) first second
      ∙ ap (λ (o : Option ℕ). or_place o (option_map (λ k. length first + k) (place_of (λ m. same_node m n) second)))
      (sym (ap (place_of (λ m. same_node m n)) nodes-old) ∙ e)

  placed-more : (n : Node) → IsSome (position_of old n) → IsSome (position_of new n)
  placed-more n there = go (position_of old n) refl
    where
      go : (o : Option ℕ) → position_of old n ≡ o → IsSome (position_of new n)
      go None e = let f : false ≡ true = sym (ap is_some e) ∙ there in cc
      go (Some i) e = ap is_some (position-more n i e)

  earlier-more : (n : Node) (l : Lit) → IsEarlier old n l → IsEarlier new n l
  earlier-more n l less = go (position_of old l.node) (position_of old n) refl refl less
    where
      go : (o p : Option ℕ) → position_of old l.node ≡ o → position_of old n ≡ p → IsBefore o p → IsEarlier new n l
      go None p g h less = absurd less
      go (Some i) None g h less = absurd less
      go (Some i) (Some j) g h less = rw (position-more l.node i g, position-more n j h) less

  variable-more : (n : Node) → IsSome (variable_of old n) → IsSome (variable_of new n)
  variable-more n there =
      is_some-variable new n
      ∙ list_any-append (λ m. same_node m n) (nodes_of new) (xors_of new)
      ∙ ap (λ (l : List Node). list_any (λ m. same_node m n) l || list_any (λ m. same_node m n) (xors_of new)) nodes-new
      ∙ ap (λ (c : Bool). c || list_any (λ m. same_node m n) (xors_of new)) (list_any-append (λ m. same_node m n) first second)
      ∙ or-between (list_any (λ m. same_node m n) first) (list_any (λ m. same_node m n) second) (list_any (λ m. same_node m n) (xors_of old))
      (sym (is_some-variable old n
      ∙ list_any-append (λ m. same_node m n) (nodes_of old) (xors_of old)
      ∙ ap (λ (l : List Node). list_any (λ m. same_node m n) l || list_any (λ m. same_node m n) (xors_of old)) nodes-old) ∙ there)

  there-more : (lits : List Lit) → AreThere old lits → AreThere new lits
  there-more [] all = tt
  there-more (l ∷ ls) all = (variable-more l.node all.0, there-more ls all.1)

  over-more : (steps : List Step) → AreOver old steps → AreOver new steps
  over-more [] all = tt
  over-more (s ∷ ss) all = (there-more s.clause all.0, over-more ss all.1)

  -- ---- nodes of A
  pub placed-of_a : (n : Node) → IsSome (position_of old n) → is_of_a n ≡ true
  placed-of_a Const there = refl
  placed-of_a (Input k) there = refl
  placed-of_a (Gate A v) there = refl
  placed-of_a (Gate B v) there =
      let nothing : position_of old (Gate B v) ≡ None =
      sym (position-gate old B v)
      ∙ ap (λ (gs : List And). option_map (λ g. first_gate old B + g) (place_of (λ g. g.var == v) gs)) none in
      let f : false ≡ true = sym (ap is_some nothing) ∙ there in cc
  placed-of_a (Xor j) there = let f : false ≡ true = sym (ap is_some (position_of-xor old j)) ∙ there in cc

  pub value-same : (bits : List Bool) (n : Node) → is_of_a n ≡ true → value_of new bits n ≡ value_of old bits n
  value-same bits Const of = refl
  value-same bits (Input k) of = refl
  value-same bits (Gate A v) of = refl
  value-same bits (Gate B v) of = cc
  value-same bits (Xor j) of = cc

  pub holds-same : (bits : List Bool) (l : Lit) → is_of_a l.node ≡ true → lit_holds (value_of new bits) l ≡ lit_holds (value_of old bits) l
  holds-same bits l of = ap (λ (x : Bool). cond l.neg (not x) x) (value-same bits l.node of)

  -- ---- clauses
  node-named : (es : List Entry) (r : Ref) (c : List Lit) → node_clause old es r ≡ Some c → node_clause new es r ≡ Some c
  node-named es (Axiom Const k) c e = e
  node-named es (Axiom (Input i) k) c e = e
  node-named es (Axiom (Gate A v) k) c e = e
  node-named es (Axiom (Gate B v) k) c e =
      absurd (none-some c (sym (ap (λ (gs : List And).
      slice_get (option_map_or (λ g. kept (gate_clauses (definition_of B z g))) (find (λ g. g.var == v) gs) []) k) none) ∙ e))
  node-named es (Axiom (Xor j) k) c e = e
  node-named es (Shown i k) c e = e
  node-named es (Own k) c e = e
  node-named es (Bound s k) c e = e

  clauses-same : (es : List Entry) (n : Node) → is_of_a n ≡ true → named_clauses old es n ≡ named_clauses new es n
  clauses-same es Const of = refl
  clauses-same es (Input k) of = refl
  clauses-same es (Gate A v) of = refl
  clauses-same es (Gate B v) of = cc
  clauses-same es (Xor j) of = cc

  -- ---- cones
  module _ (es : List Entry) (targets : (n : Node) (m : MergeAt) → merge_of es n ≡ Some m → is_of_a m.lit.node ≡ true) where
    next-same : (n : Node) → is_of_a n ≡ true → next_of new es n ≡ next_of old es n
    next-same Const of = refl
    next-same (Input k) of = refl
    next-same (Gate A v) of = refl
    next-same (Gate B v) of = cc
    next-same (Xor j) of = cc

    -- a node of A leads to nodes of A
    fanins-of_a : (n : Node) → is_of_a n ≡ true → AllByRecursion (λ m. is_of_a m ≡ true) (fanins_of old n)
    fanins-of_a Const of = tt
    fanins-of_a (Input k) of = tt
    fanins-of_a (Gate A v) of = go (gate_at old A v)
      where
        go : (o : Option And) → AllByRecursion (λ m. is_of_a m ≡ true)
            (option_map_or (λ g. node_of A a (var_of g.left) ∷ node_of A a (var_of g.right) ∷ []) o [])
        go None = tt
        go (Some g) = (named-of_a a (var_of g.left), (named-of_a a (var_of g.right), tt))
    fanins-of_a (Gate B v) of = cc
    fanins-of_a (Xor j) of = cc

    next-of_a : (n : Node) → is_of_a n ≡ true → AllByRecursion (λ m. is_of_a m ≡ true) (next_of old es n)
    next-of_a n of = go (merge_of es n) refl
      where
        go : (o : Option MergeAt) → merge_of es n ≡ o
            → AllByRecursion (λ m. is_of_a m ≡ true) (option_map_or (λ m. m.lit.node ∷ []) o (fanins_of old n))
        go None e = fanins-of_a n of
        go (Some m) e = (targets n m e, tt)

    both-in : (set : Node → Bool) (ns : List Node) → AllByRecursion (λ m. is_of_a m ≡ true) ns → AreIn set ns → AreIn (λ n. is_of_a n && set n) ns
    both-in set [] of all = tt
    both-in set (n ∷ ns) of all = (rw (of.0, all.0) refl, both-in set ns of.1 all.1)

    module _ (seeds : List Node) (of : AllByRecursion (λ m. is_of_a m ≡ true) seeds) where
      -- a set that is closed beside the new circuit is so beside the old one on A's nodes
      closed-back : (set : Node → Bool) → ((n : Node) → is_of_a n ≡ true → set n ≡ true → AreIn set (next_of old es n)) → AreIn set seeds
          → IsClosed (next_of old es) seeds (λ n. is_of_a n && set n)
      closed-back set nexts starts = record {
        starts = both-in set seeds of starts;
        nexts = λ n e.
            let both = and_parts (is_of_a n) (set n) e in
            both-in set (next_of old es n) (next-of_a n both.0) (nexts n both.0 both.1);
      }

      module _ (reached : Node → Bool) (reach : IsReach (next_of old es) seeds reached) where
        reached-of_a : (n : Node) → reached n ≡ true → is_of_a n ≡ true
        reached-of_a n e =
            (and_parts (is_of_a n) (reached n)
            (reach.least (λ m. is_of_a m && reached m) (closed-back reached (λ m f g. reach.closed.nexts m g) reach.closed.starts) n e)).0

        reach-new : IsReach (next_of new es) seeds reached
        reach-new = record {
          closed = record {
            starts = reach.closed.starts;
            nexts = λ n e. subst (AreIn reached) (sym (next-same n (reached-of_a n e))) (reach.closed.nexts n e);
          };
          least = λ set closed n e.
              (and_parts (is_of_a n) (set n)
              (reach.least (λ m. is_of_a m && set m)
              (closed-back set (λ m f g. subst (AreIn set) (next-same m f) (closed.nexts m g)) closed.starts) n e)).1;
        }

        -- no gate of B is reached
        none-second : (gs : List And) → filter reached (map (λ d. d.node) (map (definition_of B b) gs)) ≡ []
        none-second [] = refl
        none-second (g ∷ gs) =
            let f : reached (Gate B g.var) ≡ false =
            not-both (reached (Gate B g.var)) (λ e. let h : false ≡ true = reached-of_a (Gate B g.var) e in cc) in
            rw (f, none-second gs) refl

        same-clauses : (ns : List Node) → flat_map (named_clauses old es) (filter reached ns) ≡ flat_map (named_clauses new es) (filter reached ns)
        same-clauses [] = refl
        same-clauses (n ∷ ns) = go (reached n) refl (same-clauses ns)
          where
            go : (c : Bool) → reached n ≡ c
                → flat_map (named_clauses old es) (filter reached ns) ≡ flat_map (named_clauses new es) (filter reached ns)
                → flat_map (named_clauses old es) (cond c (n ∷ filter reached ns) (filter reached ns))
                ≡ flat_map (named_clauses new es) (cond c (n ∷ filter reached ns) (filter reached ns))
            go true e rest =
                ap (λ (l : List Named). l ++ flat_map (named_clauses old es) (filter reached ns)) (clauses-same es n (reached-of_a n e))
                ∙ ap (λ (l : List Named). named_clauses new es n ++ l) rest
            go false e rest = rest

        filtered : filter reached (variables_of old) ≡ filter reached (variables_of new)
        unfolding second
        filtered =
            ap (λ (l : List Node). filter reached (l ++ xors_of old)) nodes-old
            ∙ filter-append reached first (xors_of old)
            ∙ ap (λ (l : List Node). l ++ filter reached (xors_of old))
            (sym (filter-append reached first second
            ∙ ap (λ (l : List Node). filter reached first ++ l) (none-second b.gates)
            ∙ append-nil (filter reached first)))
            ∙ sym (filter-append reached (first ++ second) (xors_of new))
            ∙ ap (λ (l : List Node). filter reached (l ++ xors_of new)) (sym nodes-new)

      cone-more : (cone : List Named) → IsCone old es seeds cone → IsCone new es seeds cone
      cone-more cone is = record {
        reached = is.reached;
        reach = reach-new is.reached is.reach;
        clauses =
            is.clauses ∙ same-clauses is.reached is.reach (variables_of old)
            ∙ ap (flat_map (named_clauses new es)) (filtered is.reached is.reach);
      }

  -- ---- entries
  apart-more : (n : Node) (l : Lit) (input : List Bool) → is_of_a n ≡ true → is_of_a l.node ≡ true → IsApart old n l input → IsApart new n l input
  apart-more n l input of_n of_l apart = record {
    whole = apart.whole;
    apart = λ same. apart.apart (sym (value-same input n of_n) ∙ same ∙ holds-same input l of_l);
  }

  module _ (book : Entries) (legal : IsLegal old book) where
    targets-of_a : (seen : ℕ) (n : Node) (m : MergeAt) → merge_of (take seen book.entries) n ≡ Some m → is_of_a m.lit.node ≡ true
    targets-of_a seen n m e = placed-of_a m.lit.node (merge-placed old book legal seen n m e).1

    query-more : (seen k : ℕ) (n : Node) (l : Lit) (P : List Named → Type 0) → is_of_a n ≡ true → is_of_a l.node ≡ true
        → OfQuery old (take seen (take k book.entries)) (OfPair n l) P → OfQuery new (take seen (take k book.entries)) (OfPair n l) P
    query-more seen k n l P of_n of_l o = record {
      cone = o.cone;
      is_cone =
          cone-more (take seen (take k book.entries))
          (λ x m e. targets-of_a (min seen k) x m (ap (λ (es : List Entry). merge_of es x) (sym (take-twice seen k book.entries)) ∙ e))
          (n ∷ l.node ∷ []) (of_n, (of_l, tt)) o.cone o.is_cone;
      holds = o.holds;
    }

    good-more : (k : ℕ) (e : Entry) → IsOfA e → IsGoodAfter old book.sweep_budget book.out_budget (take k book.entries) e
        → IsGoodAfter new book.sweep_budget book.out_budget (take k book.entries) e
    good-more k (Merge n l ss) of good NoNode =
        ((placed-more n (good NoNode).0.0, placed-more l.node (good NoNode).0.1), over-more ss (good NoNode).1)
    good-more k (Merge n l ss) of good Already = good Already
    good-more k (Merge n l ss) of good NotEarlier = earlier-more n l (good NotEarlier)
    good-more k (Merge n l ss) of good NotApart = tt
    good-more k (Merge n l ss) of good Shape = good Shape
    good-more k (Merge n l ss) of good Count = good Count
    good-more k (Merge n l ss) of good Seen = tt
    good-more k (Merge n l ss) of good (NoStep i) =
        λ s at. step_after-more (node_clause old (take k book.entries)) (node_clause new (take k book.entries)) (node-named (take k book.entries))
        (take i ss) s.clause s.hints (good (NoStep i) s at)
    good-more k (Merge n l ss) of good (NotNew i) = tt
    good-more k (Apart n l input) of good NoNode = (placed-more n (good NoNode).0, placed-more l.node (good NoNode).1)
    good-more k (Apart n l input) of good Already = good Already
    good-more k (Apart n l input) of good NotEarlier = earlier-more n l (good NotEarlier)
    good-more k (Apart n l input) of good NotApart =
        apart-more n l input (placed-of_a n (good NoNode).0) (placed-of_a l.node (good NoNode).1) (good NotApart)
    good-more k (Apart n l input) of good Shape = tt
    good-more k (Apart n l input) of good Count = tt
    good-more k (Apart n l input) of good Seen = tt
    good-more k (Apart n l input) of good (NoStep i) = tt
    good-more k (Apart n l input) of good (NotNew i) = tt
    good-more k (Spent n l seen log) of good NoNode =
        ((placed-more n (good NoNode).0.0, placed-more l.node (good NoNode).0.1), over-more log (good NoNode).1)
    good-more k (Spent n l seen log) of good Already = good Already
    good-more k (Spent n l seen log) of good NotEarlier = earlier-more n l (good NotEarlier)
    good-more k (Spent n l seen log) of good NotApart = tt
    good-more k (Spent n l seen log) of good Shape = tt
    good-more k (Spent n l seen log) of good Count = good Count
    good-more k (Spent n l seen log) of good Seen = good Seen
    good-more k (Spent n l seen log) of good (NoStep i) =
        query-more seen k n l _ (placed-of_a n (good NoNode).0.0) (placed-of_a l.node (good NoNode).0.1) (good (NoStep i))
    good-more k (Spent n l seen log) of good (NotNew i) =
        query-more seen k n l _ (placed-of_a n (good NoNode).0.0) (placed-of_a l.node (good NoNode).0.1) (good (NotNew i))
    good-more k (Out j ss) of good cause = absurd of
    good-more k (OutApart j input) of good cause = absurd of
    good-more k (OutSpent j seen log) of good cause = absurd of

    -- the book is legal beside the new circuit
    pub legal-other : AreOfA book.entries → IsLegal new book
    legal-other of =
        in_turn-each (IsGoodAfter new book.sweep_budget book.out_budget) [] book.entries
        (λ k e at. good-more k e (all-at IsOfA book.entries k e of at)
        (in_turn-at (IsGoodAfter old book.sweep_budget book.out_budget) [] book.entries k e legal at))
