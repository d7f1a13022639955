-- The clauses of a gate, of its twin, and of the merges on their fanins' ways show by unit propagation that a gate that
-- folds, or has a twin, has the value that it is merged to.
use Rattle.std.proofs.Common.{◌≡◌, ℕ, ◌+◌, Bool, true, false, ◌||◌, Some, None, List, [], ◌∷◌, length, refl, sym, ap, ◌∙◌, subst, inl, inr}
use Rattle.std.specs.List.{AllByRecursion}
use Rattle.std.proofs.lemmas.Option.{none-some, same_Some}
use Rattle.lits.specs.Clause.{has}
use Rattle.lits.specs.Same.{same_node, same_lit, opposite}
use Rattle.lits.specs.declared.node.Node.{Node}
use Rattle.lits.specs.declared.node.Node.TheVariants.{Const}
use Rattle.lits.specs.declared.literal.Lit.{Lit}
use Rattle.lits.specs.contracts.literal.LitLiteral.TheImpl.Laws as laws
use Rattle.lits.proofs.Facts.{exact-lit, same-lit_self}
use Rattle.netlist.specs.declared.gate.Definition.{Definition}
use Rattle.netlist.specs.Net.{AigPair}
use Rattle.netlist.specs.Miter.{positive, negative, gate_clauses, kept}
use Rattle.unit_prop.specs.Closure.{IsOpen}
use Rattle.unit_prop.specs.Log.{base_clauses}
use Rattle.unit_prop.proofs.Facts.{Takes, take-one}
use Rattle.lemma_book.specs.declared.entry.Entry.{Entry}
use Rattle.lemma_book.specs.Entry.{Entries}
use Rattle.lemma_book.specs.Root.{root_of, IsRoot}
use Rattle.lemma_book.specs.Cone.{clauses_on, nodes_in}
use Rattle.lemma_book.specs.Book.{IsLegal}
use Rattle.lemma_book.proofs.Facts.{root-opposite, is_some-variable, placed-there, takes-axioms, along}
use Rattle.strash_pass.specs.Strash.{folded, AreTwins}
use Rattle.strash_pass.specs.Pass.{Reaches, Shows, ShowsMerge}
use Rattle.strash_pass.proofs.GatePropagation.{gate-left, gate-right, gate-both}
use Rattle.strash_pass.proofs.GateFacts.{IsGate, apart-placed}

-- fanins whose roots aren't complements of each other aren't either
pub apart-fanins : (es : List Entry) (l r : Lit) → same_lit (root_of es l) (opposite (root_of es r)) ≡ false → same_lit l (opposite r) ≡ false
apart-fanins es l r apart = go (same_lit l (opposite r)) refl
  where
    go : (b : Bool) → same_lit l (opposite r) ≡ b → b ≡ false
    go false e = refl
    go true e =
        let roots : root_of es l ≡ opposite (root_of es r) = ap (root_of es) (exact-lit l (opposite r) e) ∙ root-opposite es r in
        let f : true ≡ false = sym (same-lit_self (root_of es l)) ∙ ap (same_lit (root_of es l)) roots ∙ apart in cc

-- what folding found
pub fold-cases : (P : Type 0) (a b t : Lit) → folded a b ≡ Some t
    → (a ≡ negative Const → t ≡ negative Const → P) → (b ≡ negative Const → t ≡ negative Const → P) → (a ≡ opposite b → t ≡ negative Const → P)
    → (same_lit a (opposite b) ≡ false → a ≡ positive Const → t ≡ b → P) → (same_lit a (opposite b) ≡ false → b ≡ positive Const → t ≡ a → P)
    → (same_lit a (opposite b) ≡ false → a ≡ b → t ≡ a → P) → P
fold-cases P a b t e one two three four five six =
    go (same_lit a (negative Const)) (same_lit b (negative Const)) (same_lit a (opposite b)) (same_lit a (positive Const)) (same_lit b (positive Const)) (same_lit a b)
    refl refl refl refl refl refl
  where
    some : (x : Lit) → Some x ≡ folded a b → t ≡ x
    some x f = same_Some t x (sym (f ∙ e))

    go : (f1 f2 f3 t1 t2 s : Bool) → same_lit a (negative Const) ≡ f1 → same_lit b (negative Const) ≡ f2 → same_lit a (opposite b) ≡ f3
        → same_lit a (positive Const) ≡ t1 → same_lit b (positive Const) ≡ t2 → same_lit a b ≡ s → P
    go true f2 f3 t1 t2 s e1 e2 e3 e4 e5 e6 = one (exact-lit a (negative Const) e1) (some (negative Const) (rw e1 refl))
    go false true f3 t1 t2 s e1 e2 e3 e4 e5 e6 = two (exact-lit b (negative Const) e2) (some (negative Const) (rw (e1, e2) refl))
    go false false true t1 t2 s e1 e2 e3 e4 e5 e6 = three (exact-lit a (opposite b) e3) (some (negative Const) (rw (e1, e2, e3) refl))
    go false false false true t2 s e1 e2 e3 e4 e5 e6 = four e3 (exact-lit a (positive Const) e4) (some b (rw (e1, e2, e3, e4) refl))
    go false false false false true s e1 e2 e3 e4 e5 e6 = five e3 (exact-lit b (positive Const) e5) (some a (rw (e1, e2, e3, e4, e5) refl))
    go false false false false false true e1 e2 e3 e4 e5 e6 = six e3 (exact-lit a b e6) (some a (rw (e1, e2, e3, e4, e5, e6) refl))
    go false false false false false false e1 e2 e3 e4 e5 e6 =
        let none : None ≡ Some t = sym (rw (e1, e2, e3, e4, e5, e6) refl) ∙ e in absurd (none-some t none)

module _ (net : AigPair) (book : Entries) (legal : IsLegal net book) (nodes : List Node) (given : List Lit)
    (is : IsOpen same_lit opposite (base_clauses (clauses_on net book.entries nodes)) given) where
  clash : (l : Lit) → is.set l ≡ true → is.set (opposite l) ≡ true → ⊥
  clash l e f = is.apart (inr (l, e, f))

  module _ (k : ℕ) (d : Definition) (gate : IsGate net k d) (reaches : Reaches book.entries nodes d) where
    takes-gate : AllByRecursion (Takes is.set) (kept (gate_clauses d))
    takes-gate =
        subst (AllByRecursion (Takes is.set)) gate.axioms
        (takes-axioms net book.entries nodes is.set is.closed.units d.node reaches.inside (sym (is_some-variable net d.node) ∙ placed-there net d.node (rw gate.node refl)) reaches.unmerged)

    far-left : same_node d.node d.left.node ≡ false
    far-left = apart-placed net d.node d.left.node (1 + length net.a.inputs + k) gate.left.0 gate.node gate.left.1 gate.left.2

    far-right : same_node d.node d.right.node ≡ false
    far-right = apart-placed net d.node d.right.node (1 + length net.a.inputs + k) gate.right.0 gate.node gate.right.1 gate.right.2

    -- where the gate is true the roots of its fanins are
    down-left : is.set (positive d.node) ≡ true → is.set (root_of book.entries d.left) ≡ true
    down-left h =
        (along net book legal nodes is.set is.closed.units (length book.entries) d.left reaches.left).0 (gate-left is.set d.node d.left d.right far-left far-right takes-gate h)

    down-right : is.set (positive d.node) ≡ true → is.set (root_of book.entries d.right) ≡ true
    down-right h =
        (along net book legal nodes is.set is.closed.units (length book.entries) d.right reaches.right).0 (gate-right is.set d.node d.left d.right far-left far-right takes-gate h)

    -- and the other way round
    both-up : same_lit (root_of book.entries d.left) (opposite (root_of book.entries d.right)) ≡ false
        → is.set (root_of book.entries d.left) ≡ true → is.set (root_of book.entries d.right) ≡ true → is.set (positive d.node) ≡ true
    both-up apart e f =
        gate-both is.set d.node d.left d.right far-left far-right takes-gate (apart-fanins book.entries d.left d.right apart)
        ((along net book legal nodes is.set is.closed.units (length book.entries) d.left reaches.left).1 e)
        ((along net book legal nodes is.set is.closed.units (length book.entries) d.right reaches.right).1 f)

    -- a gate isn't false where these roots are true, which they aren't where they are complements
    not-down : is.set (root_of book.entries d.left) ≡ true → is.set (root_of book.entries d.right) ≡ true → is.set (negative d.node) ≡ true → ⊥
    not-down e f off = go (same_lit (root_of book.entries d.left) (opposite (root_of book.entries d.right))) refl
      where
        go : (b : Bool) → same_lit (root_of book.entries d.left) (opposite (root_of book.entries d.right)) ≡ b → ⊥
        go false apart = clash (positive d.node) (both-up apart e f) off
        go true same =
            clash (root_of book.entries d.right) f
            (ap is.set (sym (exact-lit (root_of book.entries d.left) (opposite (root_of book.entries d.right)) same)) ∙ e)

  -- the constant is true, where the nodes have it
  const-true : has same_node nodes Const ≡ true → IsRoot book.entries Const → is.set (positive Const) ≡ true
  const-true inside root =
      take-one is.set (positive Const)
      (takes-axioms net book.entries nodes is.set is.closed.units Const inside refl root).0

-- what is given is true
given-first : (x y : Lit) → has same_lit (x ∷ y ∷ []) x ≡ true
given-first x y = rw (same-lit_self x) refl

given-second : (x y : Lit) → has same_lit (x ∷ y ∷ []) y ≡ true
given-second x y = go (same_lit x y)
  where
    go : (b : Bool) → (b || (same_lit y y || false)) ≡ true
    go true = refl
    go false = rw (same-lit_self y) refl

module _ (net : AigPair) (book : Entries) (legal : IsLegal net book) (way : List Lit) (k : ℕ) (d : Definition) (gate : IsGate net k d)
    (reaches : Reaches book.entries (nodes_in way) d) where
  abbrev a : Lit
  a = root_of book.entries d.left

  abbrev b : Lit
  b = root_of book.entries d.right

  -- a gate that folds
  pub fold-shows : (t : Lit) → folded a b ≡ Some t → IsRoot book.entries Const
      → (a.node ≡ Const → has same_node (nodes_in way) Const ≡ true) → (b.node ≡ Const → has same_node (nodes_in way) Const ≡ true)
      → (t.node ≡ Const → has same_node (nodes_in way) Const ≡ true) → ShowsMerge net book.entries way d.node t
  fold-shows t e root const_a const_b const_t = record { below = below; above = above }
    where
      below : Shows net book.entries way (negative d.node) t
      below is =
          let n : is.set (positive d.node) ≡ true = is.closed.starts (positive d.node) (given-first (positive d.node) (opposite t)) in
          let off : is.set (opposite t) ≡ true = is.closed.starts (opposite t) (given-second (positive d.node) (opposite t)) in
          let one = down-left net book legal (nodes_in way) _ is k d gate reaches n in
          let two = down-right net book legal (nodes_in way) _ is k d gate reaches n in
          let at_a : t ≡ a → ⊥ = λ s. clash net book legal (nodes_in way) _ is a one (ap (λ (x : Lit). is.set (opposite x)) (sym s) ∙ off) in
          let at_b : t ≡ b → ⊥ = λ s. clash net book legal (nodes_in way) _ is b two (ap (λ (x : Lit). is.set (opposite x)) (sym s) ∙ off) in
          fold-cases ⊥ a b t e (λ f g. at_a (g ∙ sym f)) (λ f g. at_b (g ∙ sym f))
          (λ f g. clash net book legal (nodes_in way) _ is b two (ap is.set (sym f) ∙ one))
          (λ p f g. at_b g) (λ p f g. at_a g) (λ p f g. at_a g)

      above : Shows net book.entries way (positive d.node) (opposite t)
      above is =
          let off : is.set (negative d.node) ≡ true = is.closed.starts (negative d.node) (given-first (negative d.node) (opposite (opposite t))) in
          let on : is.set t ≡ true = ap is.set (sym (laws.twice-law t)) ∙ is.closed.starts (opposite (opposite t)) (given-second (negative d.node) (opposite (opposite t))) in
          let no : t ≡ negative Const → ⊥ = λ g.
          clash net book legal (nodes_in way) _ is (positive Const)
          (const-true net book legal (nodes_in way) _ is (const_t (ap (λ (x : Lit). x.node) g)) root) (ap is.set (sym g) ∙ on) in
          let up : same_lit a (opposite b) ≡ false → is.set a ≡ true → is.set b ≡ true → ⊥ = λ p x y.
          clash net book legal (nodes_in way) _ is (positive d.node) (both-up net book legal (nodes_in way) _ is k d gate reaches p x y) off in
          fold-cases ⊥ a b t e (λ f g. no g) (λ f g. no g) (λ f g. no g)
          (λ p f g. up p (ap is.set f ∙ const-true net book legal (nodes_in way) _ is (const_a (ap (λ (x : Lit). x.node) f)) root) (ap is.set (sym g) ∙ on))
          (λ p f g. up p (ap is.set (sym g) ∙ on) (ap is.set f ∙ const-true net book legal (nodes_in way) _ is (const_b (ap (λ (x : Lit). x.node) f)) root))
          (λ p f g. up p (ap is.set (sym g) ∙ on) (ap is.set (sym f ∙ sym g) ∙ on))

  -- a gate with a twin
  module _ (j : ℕ) (c : Definition) (twin_gate : IsGate net j c) (twin_reaches : Reaches book.entries (nodes_in way) c) (twins : AreTwins book.entries c d) where
    abbrev x : Lit
    x = root_of book.entries c.left

    abbrev y : Lit
    y = root_of book.entries c.right

    pub twin-shows : ShowsMerge net book.entries way d.node (positive c.node)
    twin-shows = record { below = below; above = above }
      where
        below : Shows net book.entries way (negative d.node) (positive c.node)
        below is =
            let n : is.set (positive d.node) ≡ true = is.closed.starts (positive d.node) (given-first (positive d.node) (negative c.node)) in
            let off : is.set (negative c.node) ≡ true = is.closed.starts (negative c.node) (given-second (positive d.node) (negative c.node)) in
            let one = down-left net book legal (nodes_in way) _ is k d gate reaches n in
            let two = down-right net book legal (nodes_in way) _ is k d gate reaches n in
            let up : is.set x ≡ true → is.set y ≡ true → ⊥ = λ e f. not-down net book legal (nodes_in way) _ is j c twin_gate twin_reaches e f off in
            elim twins [
              | inl s ↦ up (ap is.set s.0 ∙ one) (ap is.set s.1 ∙ two)
              | inr s ↦ up (ap is.set s.0 ∙ two) (ap is.set s.1 ∙ one)
            ]

        above : Shows net book.entries way (positive d.node) (opposite (positive c.node))
        above is =
            let off : is.set (negative d.node) ≡ true = is.closed.starts (negative d.node) (given-first (negative d.node) (positive c.node)) in
            let m : is.set (positive c.node) ≡ true = is.closed.starts (positive c.node) (given-second (negative d.node) (positive c.node)) in
            let one = down-left net book legal (nodes_in way) _ is j c twin_gate twin_reaches m in
            let two = down-right net book legal (nodes_in way) _ is j c twin_gate twin_reaches m in
            let up : is.set a ≡ true → is.set b ≡ true → ⊥ = λ e f. not-down net book legal (nodes_in way) _ is k d gate reaches e f off in
            elim twins [
              | inl s ↦ up (ap is.set (sym s.0) ∙ one) (ap is.set (sym s.1) ∙ two)
              | inr s ↦ up (ap is.set (sym s.1) ∙ two) (ap is.set (sym s.0) ∙ one)
            ]
