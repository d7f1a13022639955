-- An input that no clause of a node's cone names can be set without a change of the node's value.
use Rattle.std.proofs.Common.{◌≡◌, ◌≢◌, ℕ, ◌<◌, Bool, true, false, not, ◌||◌, List, [], ◌∷◌, length, take, set, replicate, refl, sym, ap, ◌∙◌, subst, if◌then◌else◌, arith, length-set, get_or-set_same}
use Rattle.std.specs.Prelude.{◌==◌, slice_index_or}
use Rattle.std.specs.List.{list_any, AllByRecursion}
use Rattle.std.proofs.lemmas.Bool.Decides.{nat_tests}
use Rattle.std.proofs.lemmas.Bool.{or_parts, or_left, or_right}
use Rattle.std.proofs.lemmas.List.{length-replicate}
use Rattle.std.proofs.Math.Seq.{take-length}
use Rattle.lits.specs.Assignment.{Holds}
use Rattle.lits.specs.Clause.{has}
use Rattle.lits.specs.declared.node.Node.{Node}
use Rattle.lits.specs.declared.node.Node.TheVariants.{Const, Input, Gate, Xor}
use Rattle.lits.specs.declared.literal.Lit.{Lit}
use Rattle.lits.specs.declared.step.Named.{Named}
use Rattle.lits.specs.Same.{same_node, same_lit, opposite}
use Rattle.lits.proofs.Facts.{exact-node, same-node_self}
use Rattle.netlist.specs.Net.{AigPair, value_of, lit_holds}
use Rattle.netlist.proofs.Facts.{equal-number, all-weaker}
use Rattle.unit_prop.proofs.Facts.{contrary}
use Rattle.lemma_book.specs.declared.entry.Task.{Task}
use Rattle.lemma_book.specs.declared.entry.Entry.{Entry}
use Rattle.lemma_book.specs.declared.entry.Entry.TheVariants.{Apart}
use Rattle.lemma_book.specs.Agreement.{IsTrue}
use Rattle.lemma_book.specs.Cone.{next_of, AreIn, IsClosed, IsReach, IsCone}
use Rattle.lemma_book.specs.Entry.{Entries}
use Rattle.lemma_book.proofs.Facts.{good-apart}
use Rattle.cone_query.specs.Input.{IsBelow, with_input, other_value}
use Rattle.cone_query.specs.Query.{IsUnnamed, IsSetAlone, IsGate}
use Rattle.cone_query.specs.Asked.{IsPair, Settles, seeds_of}
use Rattle.cone_query.proofs.ConeModel.{agree, values-meet_cone}
use Rattle.cone_query.proofs.InputLemmas.{there-below}
use Rattle.cone_query.proofs.OccursLemmas.{speaks_of, silent}
use Rattle.cone_query.proofs.UnmergedInputs.{zeros-at, one-other, input-unmerged}
use Rattle.cone_query.proofs.PairLemmas.{pair-there, pair-placed, pair-starts}

-- a literal over the node is it or its negation
same-or-opposite : (l m : Lit) → l.node ≡ m.node → (same_lit l m || same_lit l (opposite m)) ≡ true
same-or-opposite l m e = go l.neg m.neg l.node m.node e
  where
    go : (a b : Bool) (x y : Node) → x ≡ y
        → (same_lit (record { node = x; neg = a }) (record { node = y; neg = b }) || same_lit (record { node = x; neg = a }) (record { node = y; neg = not b })) ≡ true
    go true true x y f = rw (ap (λ (n : Node). same_node n y) f ∙ same-node_self y) refl
    go true false x y f = rw (ap (λ (n : Node). same_node n y) f ∙ same-node_self y) refl
    go false true x y f = rw (ap (λ (n : Node). same_node n y) f ∙ same-node_self y) refl
    go false false x y f = rw (ap (λ (n : Node). same_node n y) f ∙ same-node_self y) refl

-- values that differ at one node alone hold of the same clauses that don't speak of it
module _ (v a : Node → Bool) (lit : Lit) (others : (n : Node) → same_node n lit.node ≡ false → a n ≡ v n) where
  lit-same : (l : Lit) → same_node l.node lit.node ≡ false → lit_holds a l ≡ lit_holds v l
  lit-same l e = ap (λ (b : Bool). if l.neg then not b else b) (others l.node e)

  clause-same : (c : List Lit) → has same_lit c lit ≡ false → has same_lit c (opposite lit) ≡ false → list_any (lit_holds a) c ≡ list_any (lit_holds v) c
  clause-same [] e f = refl
  clause-same (l ∷ ls) e f = rw (lit-same l (apart (same_node l.node lit.node) refl), clause-same ls one.1 two.1) refl
    where
      one : (same_lit l lit ≡ false) × (has same_lit ls lit ≡ false)
      one = or_parts (same_lit l lit) (has same_lit ls lit) e

      two : (same_lit l (opposite lit) ≡ false) × (has same_lit ls (opposite lit) ≡ false)
      two = or_parts (same_lit l (opposite lit)) (has same_lit ls (opposite lit)) f

      apart : (b : Bool) → same_node l.node lit.node ≡ b → same_node l.node lit.node ≡ false
      apart false g = g
      apart true g =
          let h : (same_lit l lit || same_lit l (opposite lit)) ≡ true = same-or-opposite l lit (exact-node l.node lit.node g) in
          let k : (same_lit l lit || same_lit l (opposite lit)) ≡ false = rw (one.0, two.0) refl in
          contrary (same_lit l lit || same_lit l (opposite lit)) h k

  all-same : (ms : List Named) → AllByRecursion (λ m. speaks_of lit m.clause ≡ false) ms → AllByRecursion (λ m. Holds (lit_holds v) m.clause) ms
      → AllByRecursion (λ m. Holds (lit_holds a) m.clause) ms
  all-same [] quiet all = tt
  all-same (m ∷ ms) quiet all = (clause-same m.clause parts.0 parts.1 ∙ all.0, all-same ms quiet.1 all.1)
    where
      parts : (has same_lit m.clause lit ≡ false) × (has same_lit m.clause (opposite lit) ≡ false)
      parts = or_parts (has same_lit m.clause lit) (has same_lit m.clause (opposite lit)) quiet.0

module _ (net : AigPair) (book : Entries) (task : Task) (pair : IsPair net book task) (gate : IsGate task.node)
    (unnamed : IsUnnamed net book.entries task) (value : Bool)
    (zeros bits : List Bool) (zeros_are : zeros ≡ replicate (length net.a.inputs) false) (value_is : value ≡ value_of net zeros task.node)
    (bits_are : bits ≡ with_input task.lit.node (other_value value task.lit.neg) zeros) where
  abbrev k : ℕ
  k = unnamed.input

  abbrev b : Bool
  b = other_value value task.lit.neg

  below : k < length net.a.inputs
  below = subst (IsBelow (length net.a.inputs)) unnamed.is_input (there-below net task.lit.node (pair-there net book task pair).1.0)

  bits_set : bits ≡ set (replicate (length net.a.inputs) false) k b
  bits_set =
      bits_are ∙ (ap (λ (n : Node). with_input n b zeros) unnamed.is_input ∙ ap (λ (l : List Bool). set l k b) zeros_are)

  whole : length bits ≡ length net.a.inputs
  whole = ap length bits_set ∙ (length-set (replicate (length net.a.inputs) false) k b ∙ length-replicate (length net.a.inputs) false)

  at_k : slice_index_or bits k false ≡ b
  at_k =
      ap (λ (l : List Bool). slice_index_or l k false) bits_set
      ∙ get_or-set_same (replicate (length net.a.inputs) false) k b false (omega (arith, below, length-replicate (length net.a.inputs) false))

  elsewhere : (i : ℕ) → i ≢ k → slice_index_or bits i false ≡ false
  elsewhere i other = ap (λ (l : List Bool). slice_index_or l i false) bits_set ∙ one-other (length net.a.inputs) k i b other

  -- node's values for all inputs false, but for the one input
  a : Node → Bool
  a n = if same_node n task.lit.node then b else value_of net zeros n

  a_other : (n : Node) → same_node n task.lit.node ≡ false → a n ≡ value_of net zeros n
  unfolding a
  a_other n e = rw e refl

  a_input : (i : ℕ) → a (Input i) ≡ slice_index_or bits i false
  unfolding a
  a_input i = go (same_node (Input i) task.lit.node) refl
    where
      go : (t : Bool) → same_node (Input i) task.lit.node ≡ t → (if same_node (Input i) task.lit.node then b else value_of net zeros (Input i)) ≡ slice_index_or bits i false
      go true e =
          let same : Input i ≡ Input k = exact-node (Input i) task.lit.node e ∙ unnamed.is_input in
          let number : i ≡ k = cc in
          rw e (sym (ap (λ (j : ℕ). slice_index_or bits j false) number ∙ at_k))
      go false e = rw e (ap (λ (l : List Bool). slice_index_or l i false) zeros_are ∙ zeros-at (length net.a.inputs) i ∙ sym (elsewhere i different))
        where
          different : i ≢ k
          different same =
              contrary (same_node (Input i) task.lit.node)
              (subst (λ (n : Node). same_node (Input i) n ≡ true) (ap Input same ∙ sym unnamed.is_input) (same-node_self (Input i))) e

  own_is : IsCone net (take (length book.entries) book.entries) (task.node ∷ []) unnamed.cone
  own_is = subst (λ (es : List Entry). IsCone net es (task.node ∷ []) unnamed.cone) (sym (take-length book.entries)) unnamed.is_cone

  apart_nodes : same_node task.node task.lit.node ≡ false
  apart_nodes = go task.node gate
    where
      go : (n : Node) → IsGate n → same_node n task.lit.node ≡ false
      go Const g = absurd g
      go (Input i) g = absurd g
      go (Gate s v) g = ap (same_node (Gate s v)) unnamed.is_input
      go (Xor j) g = absurd g

  zeros_whole : length zeros ≡ length net.a.inputs
  zeros_whole = ap length zeros_are ∙ length-replicate (length net.a.inputs) false

  keeps : value_of net bits task.node ≡ value
  keeps =
      sym (agree net pair.net_is book pair.legal (length book.entries) pair.all_true (task.node ∷ []) unnamed.cone own_is
      ((pair-starts net book task pair).0, tt) a
      (all-same (value_of net zeros) a task.lit a_other unnamed.cone (silent unnamed.cone task.lit unnamed.unnamed)
      (values-meet_cone net pair.net_is book pair.legal (length book.entries) pair.all_true (task.node ∷ []) unnamed.cone own_is zeros zeros_whole))
      bits whole (λ i inside q. a_input i) task.node (pair-placed net book task pair).0 own_is.reach.closed.starts.0)
      ∙ (a_other task.node apart_nodes ∙ sym value_is)

  differ : value_of net bits task.node ≢ lit_holds (value_of net bits) task.lit
  differ same = go value task.lit.neg (value_of net bits task.lit.node) (sym keeps ∙ same) (ap (value_of net bits) unnamed.is_input ∙ at_k)
    where
      go : (v neg x : Bool) → v ≡ (if neg then not x else x) → x ≡ other_value v neg → ⊥
      go true true true e f = cc
      go true true false e f = cc
      go true false true e f = cc
      go true false false e f = cc
      go false true true e f = cc
      go false true false e f = cc
      go false false true e f = cc
      go false false false e f = cc

  -- the seeds reach what the gate reaches, and the input
  both : Node → Bool
  both n = own_is.reached n || same_node n task.lit.node

  both-reach : IsReach (next_of net (take (length book.entries) book.entries)) (seeds_of task) both
  unfolding both
  both-reach = record {
    closed = record {
      starts = (
        or_left (own_is.reached task.node) (same_node task.node task.lit.node) own_is.reach.closed.starts.0,
        (or_right (own_is.reached task.lit.node) (same_node task.lit.node task.lit.node) (same-node_self task.lit.node), tt),
      );
      nexts = nexts;
    };
    least = λ set closed n h. least set closed n (own_is.reached n) refl h;
  }
    where
      nothing : next_of net (take (length book.entries) book.entries) task.lit.node ≡ []
      nothing =
          rw (
            unnamed.is_input,
            input-unmerged net book pair.legal (length book.entries)
                (subst (AllByRecursion (IsTrue net)) (sym (take-length book.entries)) pair.all_true) k,
          ) refl

      nexts : (n : Node) → both n ≡ true → AreIn both (next_of net (take (length book.entries) book.entries) n)
      nexts n h = go (own_is.reached n) refl h
        where
          go : (t : Bool) → own_is.reached n ≡ t → (own_is.reached n || same_node n task.lit.node) ≡ true
              → AreIn (λ m. own_is.reached m || same_node m task.lit.node) (next_of net (take (length book.entries) book.entries) n)
          go true e g =
              all-weaker (λ m. own_is.reached m ≡ true) (λ m. (own_is.reached m || same_node m task.lit.node) ≡ true)
              (λ m r. or_left (own_is.reached m) (same_node m task.lit.node) r)
              (next_of net (take (length book.entries) book.entries) n) (own_is.reach.closed.nexts n e)
          go false e g =
              let same : n ≡ task.lit.node = exact-node n task.lit.node (rw e at g) in
              rw (same, nothing) tt

      least : (set : Node → Bool) → IsClosed (next_of net (take (length book.entries) book.entries)) (seeds_of task) set
          → (n : Node) (t : Bool) → own_is.reached n ≡ t → (own_is.reached n || same_node n task.lit.node) ≡ true → set n ≡ true
      least set closed n true e g =
          own_is.reach.least set (record { starts = (closed.starts.0, tt); nexts = closed.nexts }) n e
      least set closed n false e g =
          let same : n ≡ task.lit.node = exact-node n task.lit.node (rw e at g) in
          rw same closed.starts.1.0

  pub set-settles : Settles net book task (Apart task.node task.lit bits)
  set-settles = record {
    about = refl;
    good = good-apart net book task.node task.lit bits (pair-placed net book task pair) pair.earlier (record { whole = whole; apart = differ });
    seen = tt;
    outside = record {
      reached = both;
      reach = subst (λ (es : List Entry). IsReach (next_of net es) (seeds_of task) both) (take-length book.entries) both-reach;
      outside = λ i out. elsewhere i (λ same.
          contrary (both (Input i))
          (subst (λ (n : Node). both n ≡ true) (unnamed.is_input ∙ ap Input (sym same)) both-reach.closed.starts.1.0) out);
    };
    within = tt;
  }

  pub set-alone : IsSetAlone (Apart task.node task.lit bits)
  set-alone i e = go (i == k) refl
    where
      go : (t : Bool) → (i == k) ≡ t → task.lit.node ≡ Input i
      go true f = unnamed.is_input ∙ ap Input (sym (equal-number i k f))
      go false f =
          let other : i ≢ k = grind (arith, nat_tests) in
          contrary (slice_index_or bits i false) e (elsewhere i other)
