-- What a walk has found in order, node for node, is a cone.
use Rattle.std.proofs.Common.{◌≡◌, ℕ, ◌+◌, ◌-◌, ◌<◌, Bool, true, false, ◌==◌, Some, List, [], ◌∷◌, ◌++◌, length, map, take, get_or, refl, sym, ap, ◌∙◌, subst, append-nil, append_assoc}
use Rattle.std.specs.Prelude.{slice_get}
use Rattle.std.specs.Option.{IsSome}
use Rattle.std.proofs.Math.Seq.{take-length}
use Rattle.std.specs.List.{flat_map, list_any}
use Rattle.std.specs.List.Sorted.{IsStrictlyIncreasing}
use Rattle.std.proofs.lemmas.List.{map-append}
use Rattle.std.proofs.lemmas.Option.{slice_get-get_or, get_or_from_slice_get}
use Rattle.lits.specs.declared.node.Node.{Node}
use Rattle.lits.specs.declared.node.Node.TheVariants.{Const}
use Rattle.lits.specs.declared.step.Named.{Named}
use Rattle.lits.specs.declared.literal.Lit.{Lit}
use Rattle.lits.specs.Same.{same_node}
use Rattle.lits.proofs.Facts.{exact-node, take_next}
use Rattle.netlist.specs.Net.{AigPair, IsNet, position_of}
use Rattle.netlist.specs.Miter.{variables_of, variable_of}
use Rattle.lemma_book.specs.declared.entry.Entry.{Entry}
use Rattle.lemma_book.specs.Book.{IsLegal}
use Rattle.lemma_book.specs.Entry.{Entries}
use Rattle.lemma_book.specs.Good.{IsBefore, IsEarlier}
use Rattle.lemma_book.specs.Root.{MergeAt, merge_of}
use Rattle.lemma_book.proofs.Facts.{merge-placed, merge-earlier, placed-there, irreflexive}
use Rattle.lemma_book.specs.Cone.{next_of, named_clauses, IsReach, IsCone}
use Rattle.flat_cones.specs.declared.walk.Walk.{Walk}
use Rattle.flat_cones.specs.Spots.{Table, is_marked}
use Rattle.flat_cones.specs.Walk.{is_found, node_by, IsVariable, IsWalk}
use Rattle.flat_cones.proofs.VariableLemmas.{variable-place}
use Rattle.flat_cones.proofs.OrderLemmas.{in-order}

-- what an index reads
pub at-index : (vs : List ℕ) (k v : ℕ) → k < length vs → v ≡ get_or vs k v → slice_get vs k ≡ Some v
at-index vs k v l e = slice_get-get_or vs k v l ∙ ap Some (sym e)

-- the node of a found variable, and that it has this variable
pub node-at : (net : AigPair) (v : ℕ) (n : Node) → slice_get (variables_of net) (v - 1) ≡ Some n → node_by net v ≡ n
node-at net v n e = get_or_from_slice_get (variables_of net) (v - 1) n Const e

pub node-variable : (net : AigPair) → IsNet net → (v : ℕ) (n : Node) → IsVariable net v → slice_get (variables_of net) (v - 1) ≡ Some n
    → variable_of net n ≡ Some v
node-variable net is v n range e = subst (λ (m : Node). variable_of net m ≡ Some v) (node-at net v n e) (variable-place net is v range)

flat_map-join : (f : Node → List Named) (xs : List Node) (x : Node) → flat_map f xs ++ f x ≡ flat_map f (xs ++ x ∷ [])
flat_map-join f [] x = sym (append-nil (f x))
flat_map-join f (y ∷ ys) x = append_assoc (f y) (flat_map f ys) (f x) ∙ ap (λ (l : List Named). f y ++ l) (flat_map-join f ys x)

-- the clauses so far, and those of the next node
pub clauses-next : (net : AigPair) (f : Node → List Named) (vs : List ℕ) (k v : ℕ) (n : Node) → slice_get vs k ≡ Some v → node_by net v ≡ n
    → flat_map f (map (node_by net) (take k vs)) ++ f n ≡ flat_map f (map (node_by net) (take (k + 1) vs))
clauses-next net f vs k v n here node =
    ap (λ (m : Node). flat_map f (map (node_by net) (take k vs)) ++ f m) (sym node)
    ∙ flat_map-join f (map (node_by net) (take k vs)) (node_by net v)
    ∙ ap (flat_map f) (sym (map-append (node_by net) (take k vs) (v ∷ [])) ∙ ap (map (node_by net)) (sym (take_next vs k v here)))

-- a walk whose list is put into another order
pub arranged-there : (net : AigPair) (old new : Walk) → IsWalk net old → new.spots ≡ old.spots
    → ((v : ℕ) → is_marked new.spots v ≡ list_any (λ y. v == y) new.found.items)
    → (v : ℕ) → list_any (λ y. v == y) new.found.items ≡ true → IsVariable net v
arranged-there net old new walk same marked v h =
    walk.there v (sym (walk.marked v) ∙ (ap (λ (t : Table). is_marked t v) (sym same) ∙ (marked v ∙ h)))

pub made-cone : (net : AigPair) → IsNet net → (es : List Entry) (seeds : List Node) (t : Table) (vs : List ℕ) (cone : List Named)
    → IsStrictlyIncreasing vs → ((v : ℕ) → is_marked t v ≡ list_any (λ y. v == y) vs)
    → ((v : ℕ) → list_any (λ y. v == y) vs ≡ true → IsVariable net v) → IsReach (next_of net es) seeds (is_found net t)
    → cone ≡ flat_map (named_clauses net es) (map (node_by net) vs) → IsCone net es seeds cone
made-cone net is es seeds t vs cone up marked there reach e = record {
  reached = is_found net t;
  reach = reach;
  clauses = e ∙ ap (flat_map (named_clauses net es)) (in-order net is t vs up marked there);
}

-- ---- merges
abbrev pub merge_at : ℕ × Lit → MergeAt
merge_at m = record { entry = m.0; lit = m.1 }

module _ (net : AigPair) (book : Entries) (legal : IsLegal net book) (n : Node) (m : MergeAt) (e : merge_of book.entries n ≡ Some m) where
  among : merge_of (take (length book.entries) book.entries) n ≡ Some m
  among = ap (λ (es : List Entry). merge_of es n) (take-length book.entries) ∙ e

  pub target-there : IsSome (variable_of net m.lit.node)
  target-there = placed-there net m.lit.node (merge-placed net book legal (length book.entries) n m among).1

  pub target-apart : same_node n m.lit.node ≡ false
  target-apart = go (same_node n m.lit.node) refl
    where
      earlier : IsEarlier net n m.lit
      earlier = merge-earlier net book legal (length book.entries) n m among

      go : (b : Bool) → same_node n m.lit.node ≡ b → b ≡ false
      go false f = refl
      go true f =
          absurd (irreflexive (position_of net m.lit.node)
          (subst (λ (x : Node). IsBefore (position_of net m.lit.node) (position_of net x)) (exact-node n m.lit.node f) earlier))
