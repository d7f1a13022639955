-- What marks of roots add, and that a walk over A's gates from the last to the first marks what is reached.
use Rattle.std.proofs.Common.{◌≡◌, ℕ, zero, suc, ◌+◌, ◌<◌, ◌≤◌, Bool, true, false, not, ◌||◌, Option, Some, None, List, [], ◌∷◌, ◌++◌, length, map, refl, sym, ap, ◌∙◌, subst, arith, eqb}
use Rattle.std.specs.Prelude.{◌==◌, ◌≢◌, slice_get, slice_index_or, slice_set}
use Rattle.std.specs.Option.{option_map, option_map_or}
use Rattle.std.specs.List.{AllByRecursion}
use Rattle.std.proofs.lemmas.Bool.{and_parts, or_left, or_right}
use Rattle.std.proofs.lemmas.Bool.{cases_lt, eqb-true, eq-eqb}
use Rattle.std.proofs.Common.{inl, inr}
use Rattle.std.proofs.Math.Bool.{or-false}
use Rattle.std.proofs.lemmas.List.{get_or-set_same, get_or-set_other}
use Rattle.std.proofs.lemmas.List.Folds.{list_any-append}
use Rattle.std.proofs.lemmas.Option.{none-some, same_Some, slice_get_within}
use Rattle.lits.specs.Clause.{has, no_repeat}
use Rattle.lits.specs.Same.{same_node}
use Rattle.lits.specs.declared.node.Side.TheVariants.{A, B}
use Rattle.lits.specs.declared.node.Node.{Node}
use Rattle.lits.specs.declared.node.Node.TheVariants.{Const, Input, Gate, Xor}
use Rattle.lits.specs.declared.literal.Lit.{Lit}
use Rattle.lits.proofs.Facts.{exact-node, same-node_self}
use Rattle.netlist.specs.declared.gate.And.{And}
use Rattle.netlist.specs.Pair.{first_gate}
use Rattle.netlist.specs.Circuit.{gate_vars}
use Rattle.netlist.specs.Net.{AigPair, IsNet, gate_at, lit_named, node_at, nodes_of, position_of}
use Rattle.netlist.proofs.Facts.{all-members, node-at, position-gate, variables}
use Rattle.lemma_book.specs.declared.entry.Entry.{Entry}
use Rattle.lemma_book.specs.Entry.{Entries}
use Rattle.lemma_book.specs.Root.{root_of}
use Rattle.lemma_book.specs.Cone.{AreIn, IsClosed}
use Rattle.lemma_book.specs.Book.{IsLegal}
use Rattle.fraig_write.specs.Marks.{is_marked, next_roots, root_ends, AreMarked, IsWalked}
use Rattle.fraig_write.specs.Reduced.{root_nodes, AreReached}
use Rattle.fraig_write.proofs.FilterLemmas.{place-own}
use Rattle.fraig_write.proofs.NodesOfA.{fanins-at, fanins-before, gate-there, root-before, IsBelow}

-- what holds of all nodes holds of each of them
pub member : (P : Node → Type 0) (xs : List Node) (n : Node) → AllByRecursion P xs → has same_node xs n ≡ true → P n
member P [] n all h = cc
member P (x ∷ xs) n all h = go (same_node x n) refl (member P xs n all.1)
  where
    go : (b : Bool) → same_node x n ≡ b → (has same_node xs n ≡ true → P n) → P n
    go true e rest = subst P (exact-node x n e) all.0
    go false e rest = rest (sym (ap (λ (b : Bool). b || has same_node xs n) e) ∙ h)

-- within a list it doesn't matter what stands behind it
pub same-default : (xs : List Bool) (i : ℕ) (d e : Bool) → i < length xs → slice_index_or xs i d ≡ slice_index_or xs i e
same-default [] i d e less = absurd (omega (arith, less))
same-default (x ∷ xs) zero d e less = refl
same-default (x ∷ xs) (suc i) d e less = same-default xs i d e (omega (arith, less))

-- ---- marks

module _ (net : AigPair) where
  -- no node is marked by none
  pub marks-none : (old : List Bool) → AreMarked net [] old old
  marks-none old = record { room = refl; marked = λ n. sym (or-false (is_marked net old n)) }

  -- one lot of nodes after another
  pub marks-more : (xs ys : List Node) (a b c : List Bool) → AreMarked net xs a b → AreMarked net ys b c → AreMarked net (xs ++ ys) a c
  marks-more xs ys a b c p q = record { room = q.room ∙ p.room; marked = marked }
    where
      both : (x y z : Bool) → ((x || y) || z) ≡ (x || (y || z))
      both true y z = refl
      both false y z = refl

      marked : (n : Node) → is_marked net c n ≡ (is_marked net a n || has same_node (xs ++ ys) n)
      marked n =
          q.marked n ∙ ap (λ (b : Bool). b || has same_node ys n) (p.marked n)
          ∙ both (is_marked net a n) (has same_node xs n) (has same_node ys n)
          ∙ ap (λ (b : Bool). is_marked net a n || b) (sym (list_any-append (λ y. same_node y n) xs ys))

  -- the node at a position
  pub mark-one : (n : Node) (p : ℕ) (old new : List Bool) → position_of net n ≡ Some p → p < length old
      → new ≡ slice_set old p true → length new ≡ length old → AreMarked net (n ∷ []) old new
  mark-one n p old new at within is room = record { room = room; marked = marked }
    where
      there : (q : ℕ) (m : Node) → position_of net m ≡ Some q → slice_index_or new q false ≡ (slice_index_or old q false || (same_node n m || false))
      there q m e = go (eqb q p) refl
        where
          other : q ≢ p → (b : Bool) → same_node n m ≡ b → b ≡ false
          other apart false f = refl
          other apart true f =
              let one : n ≡ m = exact-node n m f in
              absurd (apart (same_Some q p (sym e ∙ ap (position_of net) (sym one) ∙ at)))

          go : (b : Bool) → eqb q p ≡ b → slice_index_or new q false ≡ (slice_index_or old q false || (same_node n m || false))
          go true f =
              let same : q ≡ p = eqb-true q p f in
              let one : n ≡ m = sym (node-at net n p at) ∙ ap (node_at net) (sym same) ∙ node-at net m q e in
              let put : slice_index_or new q false ≡ true =
              ap (λ (k : ℕ). slice_index_or new k false) same ∙ ap (λ (l : List Bool). slice_index_or l p false) is ∙ get_or-set_same old p true false within in
              let found : same_node n m ≡ true = ap (same_node n) (sym one) ∙ same-node_self n in
              put ∙ sym (or_right (slice_index_or old q false) (same_node n m || false) (or_left (same_node n m) false found))
          go false f =
              let apart : q ≢ p = λ (same : q ≡ p). let g : true ≡ false = sym (eq-eqb q p same) ∙ f in cc in
              let stays : slice_index_or new q false ≡ slice_index_or old q false =
              ap (λ (l : List Bool). slice_index_or l q false) is ∙ get_or-set_other old p q true false apart in
              stays ∙ sym (ap (λ (b : Bool). slice_index_or old q false || (b || false)) (other apart (same_node n m) refl) ∙ or-false (slice_index_or old q false))

      marked : (m : Node) → is_marked net new m ≡ (is_marked net old m || has same_node (n ∷ []) m)
      marked m = go (position_of net m) refl
        where
          go : (o : Option ℕ) → position_of net m ≡ o
              → option_map_or (λ q. slice_index_or new q false) o false ≡ (option_map_or (λ q. slice_index_or old q false) o false || (same_node n m || false))
          go (Some q) e = there q m e
          go None e = sym (ap (λ (b : Bool). b || false) (none (same_node n m) refl))
            where
              none : (b : Bool) → same_node n m ≡ b → b ≡ false
              none false f = refl
              none true f =
                  let one : n ≡ m = exact-node n m f in
                  absurd (none-some p (sym e ∙ ap (position_of net) (sym one) ∙ at))

  -- what was marked stays so
  stay : (xs : List Node) (old new : List Bool) → AreMarked net xs old new → (n : Node) → is_marked net old n ≡ true → is_marked net new n ≡ true
  stay xs old new p n h = p.marked n ∙ or_left (is_marked net old n) (has same_node xs n) h

  all-stay : (xs ns : List Node) (old new : List Bool) → AreMarked net xs old new → AreIn (is_marked net old) ns → AreIn (is_marked net new) ns
  all-stay xs [] old new p all = tt
  all-stay xs (n ∷ ns) old new p all = (stay xs old new p n all.0, all-stay xs ns old new p all.1)

  -- and these are marked
  all-new : (xs : List Node) (old new : List Bool) → AreMarked net xs old new → AreIn (is_marked net new) xs
  all-new xs old new p =
      all-members (λ n. is_marked net new n ≡ true) xs (λ n h. p.marked n ∙ or_right (is_marked net old n) (has same_node xs n) h)

roots-append : (es : List Entry) (named : ℕ → Lit) (xs ys : List ℕ)
    → root_nodes es (map named (xs ++ ys)) ≡ root_nodes es (map named xs) ++ root_nodes es (map named ys)
roots-append es named [] ys = refl
roots-append es named (x ∷ xs) ys = ap (λ (l : List Node). (root_of es (named x)).node ∷ l) (roots-append es named xs ys)

pub roots-joined : (es : List Entry) (ls ms : List Lit) → root_nodes es (ls ++ ms) ≡ root_nodes es ls ++ root_nodes es ms
roots-joined es [] ms = refl
roots-joined es (l ∷ ls) ms = ap (λ (ns : List Node). (root_of es l).node ∷ ns) (roots-joined es ls ms)

no_repeat-behind : (xs ys : List ℕ) → no_repeat ◌==◌ (xs ++ ys) ≡ true → no_repeat ◌==◌ ys ≡ true
no_repeat-behind [] ys e = e
no_repeat-behind (x ∷ xs) ys e =
    no_repeat-behind xs ys (and_parts (not (has ◌==◌ (xs ++ ys) x)) (no_repeat ◌==◌ (xs ++ ys)) e).1

-- the variables of A's gates differ
pub vars-differ : (net : AigPair) → IsNet net → no_repeat ◌==◌ (gate_vars net.a.gates) ≡ true
vars-differ net is = no_repeat-behind (0 ∷ net.a.inputs) (gate_vars net.a.gates) (variables net.a is.a).distinct

-- the gate at a place has its position
pub gate-position : (net : AigPair) → IsNet net → (j : ℕ) (g : And) → slice_get net.a.gates j ≡ Some g
    → position_of net (Gate A g.var) ≡ Some (first_gate net A + j)
gate-position net is j g e =
    sym (position-gate net A g.var)
    ∙ ap (option_map (λ k. first_gate net A + k)) (place-own net.a.gates j g (vars-differ net is) e)

-- ---- the walk

module _ (net : AigPair) (is : IsNet net) (book : Entries) (legal : IsLegal net book) where
  -- it begins where the outputs and constraints are marked
  pub walk-start : (old mid new : List Bool) → length old ≡ length (nodes_of net) → ((n : Node) → is_marked net old n ≡ false)
      → AreMarked net (root_nodes book.entries (map (lit_named A net.a) net.a.outputs)) old mid
      → AreMarked net (root_nodes book.entries (map (lit_named A net.a) net.a.constraints)) mid new
      → IsWalked net book.entries (length net.a.gates) new
  walk-start old mid new room none p q = record {
    room = all.room ∙ room;
    ends = all-new net (root_ends net book.entries) old new all;
    nexts = λ j g le e h. absurd (past j g le e);
    least = λ set closed n h.
        member (λ m. set m ≡ true) (root_ends net book.entries) n closed.starts
        (sym (all.marked n ∙ ap (λ (b : Bool). b || has same_node (root_ends net book.entries) n) (none n)) ∙ h);
  }
    where
      all : AreMarked net (root_ends net book.entries) old new
      all = subst (λ (l : List Node). AreMarked net l old new) (sym (roots-append book.entries (lit_named A net.a) net.a.outputs net.a.constraints))
          (marks-more net _ _ old mid new p q)

      past : (j : ℕ) (g : And) → length net.a.gates ≤ j → slice_get net.a.gates j ≡ Some g → ⊥
      past j g le e = let within = slice_get_within net.a.gates j g e in omega (arith, le, within)

  -- the roots of a gate's fanins stand before it
  next-below : (k : ℕ) (g : And) → slice_get net.a.gates k ≡ Some g
      → AllByRecursion (λ n. (p : ℕ) × (position_of net n ≡ Some p) × (p < first_gate net A + k)) (next_roots net book.entries (Gate A g.var))
  next-below k g at =
      subst (λ (ls : List Lit). AllByRecursion (λ n. (p : ℕ) × (position_of net n ≡ Some p) × (p < first_gate net A + k)) (root_nodes book.entries ls))
      (sym (fanins-at net is k g at)) (
        root-before net book legal (first_gate net A + k) (lit_named A net.a g.left) before.0,
        (root-before net book legal (first_gate net A + k) (lit_named A net.a g.right) before.1.0, tt),
      )
    where
      before : AllByRecursion (IsBelow net (first_gate net A + k)) (lit_named A net.a g.left ∷ lit_named A net.a g.right ∷ [])
      before = fanins-before net is k g at

  -- a marked one is passed when the roots of its fanins are marked
  pub walk-next : (k : ℕ) (g : And) (old new : List Bool) → IsWalked net book.entries (k + 1) old → slice_get net.a.gates k ≡ Some g
      → is_marked net old (Gate A g.var) ≡ true → AreMarked net (next_roots net book.entries (Gate A g.var)) old new
      → IsWalked net book.entries k new
  walk-next k g old new w at marked p = record {
    room = p.room ∙ w.room;
    ends = all-stay net next (root_ends net book.entries) old new p w.ends;
    nexts = nexts;
    least = least;
  }
    where
      next : List Node
      next = next_roots net book.entries (Gate A g.var)

      least : (set : Node → Bool) → IsClosed (next_roots net book.entries) (root_ends net book.entries) set
          → (n : Node) → is_marked net new n ≡ true → set n ≡ true
      least set closed n h = go (is_marked net old n) refl
        where
          go : (b : Bool) → is_marked net old n ≡ b → set n ≡ true
          go true e = w.least set closed n e
          go false e =
              member (λ m. set m ≡ true) next n (closed.nexts (Gate A g.var) (w.least set closed (Gate A g.var) marked))
              (sym (p.marked n ∙ ap (λ (b : Bool). b || has same_node next n) e) ∙ h)

      nexts : (j : ℕ) (h : And) → k ≤ j → slice_get net.a.gates j ≡ Some h → is_marked net new (Gate A h.var) ≡ true
          → AreIn (is_marked net new) (next_roots net book.entries (Gate A h.var))
      nexts j h le e m = elim (cases_lt k j) [
        | inl less ↦ go (is_marked net old (Gate A h.var)) refl less
        | inr more ↦
            let same : j ≡ k = omega (arith, le, more) in
            let one : g ≡ h = same_Some g h (sym at ∙ ap (slice_get net.a.gates) (sym same) ∙ e) in
            subst (λ (x : And). AreIn (is_marked net new) (next_roots net book.entries (Gate A x.var))) one (all-new net next old new p)
      ]
        where
          go : (b : Bool) → is_marked net old (Gate A h.var) ≡ b → k < j → AreIn (is_marked net new) (next_roots net book.entries (Gate A h.var))
          go true f less =
              all-stay net next (next_roots net book.entries (Gate A h.var)) old new p (w.nexts j h (omega (arith, less)) e f)
          go false f less =
              let there : has same_node next (Gate A h.var) ≡ true =
              sym (p.marked (Gate A h.var) ∙ ap (λ (b : Bool). b || has same_node next (Gate A h.var)) f) ∙ m in
              let r = member (λ n. (p : ℕ) × (position_of net n ≡ Some p) × (p < first_gate net A + k)) next (Gate A h.var) (next-below k g at) there in
              let same : r.0 ≡ first_gate net A + j = same_Some r.0 (first_gate net A + j) (sym r.1 ∙ gate-position net is j h e) in
              absurd (omega (arith, same, r.2, less))

  -- when all are passed, what is marked is what is reached
  pub walked-reached : (marks : List Bool) → IsWalked net book.entries 0 marks → AreReached net.a book.entries (is_marked net marks)
  walked-reached marks w = record { closed = record { starts = w.ends; nexts = nexts }; least = w.least }
    where
      nexts : (n : Node) → is_marked net marks n ≡ true → AreIn (is_marked net marks) (next_roots net book.entries n)
      nexts Const h = tt
      nexts (Input k) h = tt
      nexts (Gate B v) h = tt
      nexts (Xor j) h = tt
      nexts (Gate A v) h = go (gate_at net A v) refl
        where
          go : (o : Option And) → gate_at net A v ≡ o
              → AreIn (is_marked net marks) (root_nodes book.entries (option_map_or (λ g. lit_named A net.a g.left ∷ lit_named A net.a g.right ∷ []) o []))
          go None e = tt
          go (Some g) e =
              let r = gate-there net is v g e in
              subst (λ (ls : List Lit). AreIn (is_marked net marks) (root_nodes book.entries ls)) (fanins-at net is r.0 g r.1)
              (w.nexts r.0 g (omega arith) r.1 (ap (λ (x : ℕ). is_marked net marks (Gate A x)) r.2 ∙ h))
