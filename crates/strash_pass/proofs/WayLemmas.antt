-- The nodes whose clauses a merge stands on: they have positions, none is an XOR, and they have what the proof needs.
use Rattle.std.proofs.Common.{◌≡◌, ℕ, ◌+◌, ◌<◌, Bool, true, false, ◌||◌, Option, Some, None, List, [], ◌∷◌, ◌++◌, length, refl, sym, ap, ◌∙◌, arith}
use Rattle.std.specs.Option.{IsSome, is_some}
use Rattle.std.proofs.lemmas.Bool.{or_right}
use Rattle.lits.specs.Clause.{has}
use Rattle.lits.specs.Same.{same_node}
use Rattle.lits.specs.declared.node.Node.{Node}
use Rattle.lits.specs.declared.node.Node.TheVariants.{Const, Input, Gate, Xor}
use Rattle.lits.specs.declared.literal.Lit.{Lit}
use Rattle.lits.proofs.Facts.{all-append}
use Rattle.netlist.specs.declared.gate.Definition.{Definition}
use Rattle.netlist.specs.Net.{AigPair, IsNet, nodes_of, position_of}
use Rattle.netlist.specs.Miter.{positive, negative}
use Rattle.netlist.proofs.Facts.{is_some-place, no-xor}
use Rattle.lemma_book.specs.declared.entry.Entry.{Entry}
use Rattle.lemma_book.specs.Entry.{Entries}
use Rattle.lemma_book.specs.Root.{MergeAt, merge_of, passed_by, root_of, IsRoot}
use Rattle.lemma_book.specs.Cone.{nodes_in}
use Rattle.lemma_book.specs.Good.{ArePlaced, IsEarlier}
use Rattle.lemma_book.specs.Book.{IsLegal}
use Rattle.lemma_book.proofs.Facts.{ArePlacedAll, passed-placed, target-lower, root-lower, has-nodes_append, covers-left, covers-right, covers-self}
use Rattle.strash_pass.specs.Strash.{constant_among, folded, is_const}
use Rattle.strash_pass.specs.Pass.{AreNotXors, IsTwin, IsWay, Reaches, ShowsMerge, is_xor}
use Rattle.strash_pass.proofs.GateFacts.{IsGate, is-gate}
use Rattle.strash_pass.proofs.ShowsLemmas.{fold-cases, fold-shows, twin-shows}

pub placed-no_xors : (net : AigPair) (lits : List Lit) → ArePlacedAll net lits → AreNotXors lits
placed-no_xors net [] all = tt
placed-no_xors net (l ∷ ls) all = (go l.node all.0, placed-no_xors net ls all.1)
  where
    go : (n : Node) → IsSome (position_of net n) → is_xor n ≡ false
    go Const h = refl
    go (Input k) h = refl
    go (Gate s v) h = refl
    go (Xor j) h =
        let none : true ≡ false = sym h ∙ is_some-place (λ m. same_node m (Xor j)) (nodes_of net) ∙ no-xor net j in
        cc

-- ---- more nodes
pub reaches-more : (es : List Entry) (xs ys : List Lit) (d : Definition) → Reaches es (nodes_in xs) d → Reaches es (nodes_in (xs ++ ys)) d
reaches-more es xs ys d r = record {
  inside = has-nodes_append xs ys d.node ∙ rw r.inside refl;
  unmerged = r.unmerged;
  left = covers-left xs ys (passed_by es d.left) r.left;
  right = covers-left xs ys (passed_by es d.right) r.right;
}

module _ (net : AigPair) (book : Entries) (legal : IsLegal net book) where
  -- a gate and what its fanins pass
  pub way-of : (way : List Lit) → ArePlacedAll net way → (k : ℕ) (c : Definition) → IsGate net k c → IsRoot book.entries c.node
      → IsWay net book.entries (((way ++ positive c.node ∷ []) ++ passed_by book.entries c.left) ++ passed_by book.entries c.right) c
  way-of way placed k c gate root =
      let here = way ++ positive c.node ∷ [] in
      let left = passed_by book.entries c.left in
      let right = passed_by book.entries c.right in
      record {
        placed = all-append (λ l. IsSome (position_of net l.node)) (here ++ left) right
            (all-append (λ l. IsSome (position_of net l.node)) here left
            (all-append (λ l. IsSome (position_of net l.node)) way (positive c.node ∷ []) placed (ap is_some gate.node, tt)) (passed-placed net book legal (length book.entries) c.left))
            (passed-placed net book legal (length book.entries) c.right);
        reaches = record {
          inside = (covers-left (here ++ left) right (positive c.node ∷ []) (covers-left here left (positive c.node ∷ [])
              (covers-right way (positive c.node ∷ []) (positive c.node ∷ []) (covers-self (positive c.node ∷ []))))).0;
          unmerged = root;
          left = covers-left (here ++ left) right left (covers-right here left left (covers-self left));
          right = covers-right (here ++ left) right right (covers-self right);
        };
      }

  -- the constant isn't merged
  const-root : IsRoot book.entries Const
  const-root = go (merge_of book.entries Const) refl
    where
      go : (o : Option MergeAt) → merge_of book.entries Const ≡ o → merge_of book.entries Const ≡ None
      go None e = e
      go (Some m) e = let lower = target-lower net book legal Const m 0 e refl in absurd (omega (arith, lower.2))

  -- ---- a gate that folds
  module _ (way : List Lit) (k : ℕ) (d : Definition) (gate : IsGate net k d) (a b t : Lit)
      (left : a ≡ root_of book.entries d.left) (right : b ≡ root_of book.entries d.right) (folds : folded a b ≡ Some t) where
    -- what it folds to stands earlier
    fold-lower : (q : ℕ) × (position_of net t.node ≡ Some q) × (q < 1 + length net.a.inputs + k)
    fold-lower =
        fold-cases ((q : ℕ) × (position_of net t.node ≡ Some q) × (q < 1 + length net.a.inputs + k)) a b t folds
        (λ f g. const g) (λ f g. const g) (λ f g. const g) (λ p f g. at_b g) (λ p f g. at_a g) (λ p f g. at_a g)
      where
        const : t ≡ negative Const → (q : ℕ) × (position_of net t.node ≡ Some q) × (q < 1 + length net.a.inputs + k)
        const g = (0, ap (λ (x : Lit). position_of net x.node) g, omega arith)

        at_a : t ≡ a → (q : ℕ) × (position_of net t.node ≡ Some q) × (q < 1 + length net.a.inputs + k)
        at_a g =
            let r = root-lower net book legal d.left gate.left.0 gate.left.1 in
            (r.0, ap (λ (x : Lit). position_of net x.node) (g ∙ left) ∙ r.1, omega (arith, r.2, gate.left.2))

        at_b : t ≡ b → (q : ℕ) × (position_of net t.node ≡ Some q) × (q < 1 + length net.a.inputs + k)
        at_b g =
            let r = root-lower net book legal d.right gate.right.0 gate.right.1 in
            (r.0, ap (λ (x : Lit). position_of net x.node) (g ∙ right) ∙ r.1, omega (arith, r.2, gate.right.2))

    pub fold-placed : ArePlaced net d.node t
    fold-placed = (ap is_some gate.node, ap is_some fold-lower.1)

    pub fold-earlier : IsEarlier net d.node t
    fold-earlier = rw (fold-lower.1, gate.node) fold-lower.2

    -- with the constant, where it is needed
    pub constant-placed : ArePlacedAll net way → ArePlacedAll net (way ++ constant_among a b t)
    constant-placed placed = all-append (λ l. IsSome (position_of net l.node)) way (constant_among a b t) placed (go (is_const a || (is_const b || is_const t)) refl)
      where
        go : (c : Bool) → (is_const a || (is_const b || is_const t)) ≡ c → ArePlacedAll net (constant_among a b t)
        go true e = rw e (refl, tt)
        go false e = rw e tt

    constant-inside : (is_const a || (is_const b || is_const t)) ≡ true → has same_node (nodes_in (way ++ constant_among a b t)) Const ≡ true
    constant-inside e =
        has-nodes_append way (constant_among a b t) Const
        ∙ or_right (has same_node (nodes_in way) Const) (has same_node (nodes_in (constant_among a b t)) Const) (rw e refl)

    is-const : (l : Lit) → l.node ≡ Const → is_const l ≡ true
    is-const l e = ap (λ (n : Node). same_node n Const) e

    pub fold-way : Reaches book.entries (nodes_in way) d → ShowsMerge net book.entries (way ++ constant_among a b t) d.node t
    fold-way reaches =
        fold-shows net book legal (way ++ constant_among a b t) k d gate (reaches-more book.entries way (constant_among a b t) d reaches) t
        (ap (λ (x : Lit). folded x (root_of book.entries d.right)) (sym left) ∙ ap (λ (y : Lit). folded a y) (sym right) ∙ folds) const-root
        (λ e. constant-inside (rw (is-const a (ap (λ (x : Lit). x.node) left ∙ e)) refl))
        (λ e. constant-inside (or_right (is_const a) (is_const b || is_const t) (rw (is-const b (ap (λ (x : Lit). x.node) right ∙ e)) refl)))
        (λ e. constant-inside (or_right (is_const a) (is_const b || is_const t) (or_right (is_const b) (is_const t) (is-const t e))))

  -- ---- a gate with a twin
  module _ (is : IsNet net) (way : List Lit) (c d : Definition) (twin : IsTwin net book.entries c d) (reach : IsWay net book.entries way d) where
    abbrev whole_way : List Lit
    whole_way = ((way ++ positive c.node ∷ []) ++ passed_by book.entries c.left) ++ passed_by book.entries c.right

    gate-c : IsGate net twin.first c
    gate-c = is-gate net is twin.first c twin.at_first

    gate-d : IsGate net twin.second d
    gate-d = is-gate net is twin.second d twin.at_second

    twin-reach : IsWay net book.entries whole_way c
    twin-reach = way-of way reach.placed twin.first c gate-c twin.unmerged

    pub twin-placed_all : ArePlacedAll net whole_way
    twin-placed_all = twin-reach.placed

    pub twin-placed : ArePlaced net d.node (positive c.node)
    twin-placed = (ap is_some gate-d.node, ap is_some gate-c.node)

    pub twin-earlier : IsEarlier net d.node (positive c.node)
    twin-earlier = let below : 1 + length net.a.inputs + twin.first < 1 + length net.a.inputs + twin.second = omega (arith, twin.earlier) in rw (gate-c.node, gate-d.node) below

    pub twin-way : ShowsMerge net book.entries whole_way d.node (positive c.node)
    twin-way =
        twin-shows net book legal whole_way twin.second d gate-d
        (reaches-more book.entries ((way ++ positive c.node ∷ []) ++ passed_by book.entries c.left) (passed_by book.entries c.right) d
        (reaches-more book.entries (way ++ positive c.node ∷ []) (passed_by book.entries c.left) d
        (reaches-more book.entries way (positive c.node ∷ []) d reach.reaches)))
        twin.first c gate-c twin-reach.reaches twin.twins
