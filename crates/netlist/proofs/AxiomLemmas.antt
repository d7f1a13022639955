-- The clauses that define a node: which of them stay, and how many they are.
use Rattle.std.proofs.Common.{◌≡◌, ◌≢◌, ℕ, suc, ◌+◌, Bool, true, false, not, cond, Option, Some, None, List, [], ◌∷◌, ◌++◌, length, refl, sym, ap, ap₂, ◌∙◌, subst, arith}
use Rattle.std.specs.Prelude.{◌==◌, ◌||◌, slice_get, option_and_then, IfSome}
use Rattle.std.specs.Option.{option_map, option_map_or, option_to_list}
use Rattle.std.specs.List.{AllByRecursion}
use Rattle.std.proofs.lemmas.Option.{none-some, same_Some}
use Rattle.std.proofs.lemmas.List.{append-nil, append_assoc}
use Rattle.std.proofs.lemmas.Bool.{both_ways}
use Rattle.lits.specs.Clause.{has, firsts, has_pair, IsClause}
use Rattle.lits.specs.Same.{same_node, same_lit, opposite}
use Rattle.lits.specs.declared.node.Side.{Side}
use Rattle.lits.specs.declared.node.Side.TheVariants.{A, B}
use Rattle.lits.specs.declared.node.Node.{Node}
use Rattle.lits.specs.declared.node.Node.TheVariants.{Const, Input, Gate, Xor}
use Rattle.lits.specs.declared.literal.Lit.{Lit}
use Rattle.lits.specs.contracts.literal.LitEq.TheImpl.Laws as lit_eq
use Rattle.lits.proofs.Facts.{exact-lit, exact-node, same-node_self}
use Rattle.netlist.specs.declared.gate.And.{And}
use Rattle.netlist.specs.declared.gate.Definition.{Definition}
use Rattle.netlist.specs.Place.{place_of}
use Rattle.netlist.specs.Circuit.{Aig, AreOrdered, var_of}
use Rattle.netlist.specs.Net.{AigPair, IsNet, circuit_of, node_of, lit_named, definition_of, defined_by, difference, gate_at, output_of}
use Rattle.netlist.specs.Miter.{positive, negative, kept, gate_clauses, xor_clauses, xor_axioms, axioms_of}
use Rattle.netlist.specs.Short.{kept_clause, IsApart}
use Rattle.netlist.proofs.SameNodes.{found-one}
use Rattle.netlist.proofs.PlaceLemmas.{find-place}

-- literals over two nodes differ
apart-lit : (x y : Lit) → x.node ≢ y.node → same_lit x y ≡ false
apart-lit x y apart = go (same_lit x y) refl
  where
    go : (b : Bool) → same_lit x y ≡ b → b ≡ false
    go true e = absurd (apart (ap (λ (l : Lit). l.node) (exact-lit x y e)))
    go false e = refl

turned : {X : Type 0} (x y : X) → x ≢ y → y ≢ x
turned x y apart e = apart (sym e)

symm-lit : (x y : Lit) → same_lit x y ≡ same_lit y x
symm-lit x y = (lit_eq.laws-law).symm x y

-- negating both changes nothing
same-opposite : (x y : Lit) → same_lit (opposite x) (opposite y) ≡ same_lit x y
same-opposite x y = go x.node y.node x.neg y.neg
  where
    go : (n m : Node) (p q : Bool)
        → same_lit (record { node = n; neg = not p }) (record { node = m; neg = not q }) ≡ same_lit (record { node = n; neg = p }) (record { node = m; neg = q })
    go n m true true = refl
    go n m true false = refl
    go n m false true = refl
    go n m false false = refl

twice : (x y : Lit) → same_lit x (opposite (opposite y)) ≡ same_lit x y
twice x y = go x.node y.node x.neg y.neg
  where
    go : (n m : Node) (p q : Bool)
        → same_lit (record { node = n; neg = p }) (record { node = m; neg = not (not q) }) ≡ same_lit (record { node = n; neg = p }) (record { node = m; neg = q })
    go n m p true = refl
    go n m p false = refl

-- a third literal may join them that is neither the second nor its negation
pub clause-three : (x y z : Lit) → x.node ≢ y.node → x.node ≢ z.node → same_lit z (opposite y) ≡ false → same_lit y z ≡ false
    → IsClause same_lit opposite (x ∷ y ∷ z ∷ [])
clause-three x y z y_apart z_apart no_pair no_repeat = record {
  once = rw (apart-lit y x (turned x.node y.node y_apart), apart-lit z x (turned x.node z.node z_apart), symm-lit z y ∙ no_repeat) refl;
  apart = rw (apart-lit y (opposite x) (turned x.node y.node y_apart), apart-lit z (opposite x) (turned x.node z.node z_apart), no_pair) refl;
}

-- what stays of three literals of which the first is over a node of its own
pub kept-three : (x y z : Lit) → x.node ≢ y.node → x.node ≢ z.node
    → kept_clause (x ∷ y ∷ z ∷ []) ≡ cond (same_lit z (opposite y)) None (Some (cond (same_lit y z) (x ∷ y ∷ []) (x ∷ y ∷ z ∷ [])))
kept-three x y z y_apart z_apart =
    rw (apart-lit y (opposite x) (turned x.node y.node y_apart), apart-lit z (opposite x) (turned x.node z.node z_apart))
    (go (same_lit z (opposite y)) (same_lit y z) refl)
  where
    go : (pair repeat : Bool) → same_lit y z ≡ repeat
        → cond ((pair || false) || false) None (Some (firsts same_lit (x ∷ y ∷ z ∷ []))) ≡ cond pair None (Some (cond (same_lit y z) (x ∷ y ∷ []) (x ∷ y ∷ z ∷ [])))
    go true repeat e = refl
    go false true e = rw (e, apart-lit x y y_apart) refl
    go false false e = rw (e, apart-lit x y y_apart, apart-lit x z z_apart) refl

-- the first clause stays or is left out
kept-cons : (c : List Lit) (cs : List (List Lit)) → kept (c ∷ cs) ≡ option_to_list (kept_clause c) ++ kept cs
kept-cons c cs = go (has_pair same_lit opposite c)
  where
    go : (b : Bool) → cond b (kept cs) (firsts same_lit c ∷ kept cs) ≡ option_to_list (cond b None (Some (firsts same_lit c))) ++ kept cs
    go true = refl
    go false = refl

-- a clause of two literals over two nodes stays
kept-two : (x y : Lit) (cs : List (List Lit)) → x.node ≢ y.node → kept ((x ∷ y ∷ []) ∷ cs) ≡ (x ∷ y ∷ []) ∷ kept cs
kept-two x y cs apart =
    rw (apart-lit y (opposite x) (turned x.node y.node apart), apart-lit x y apart) refl

-- literals with two signs differ
differ-lit : (x y : Lit) → x.neg ≢ y.neg → same_lit x y ≡ false
differ-lit x y apart = go (same_lit x y) refl
  where
    go : (b : Bool) → same_lit x y ≡ b → b ≡ false
    go true e = absurd (apart (ap (λ (l : Lit). l.neg) (exact-lit x y e)))
    go false e = refl

-- of two literals over one node the first is the second or its negation
same-or-opposite : (x y : Lit) → x.node ≡ y.node → same_lit x (opposite y) ≡ not (same_lit x y)
same-or-opposite x y e = go x.node y.node x.neg y.neg e
  where
    self : (n m : Node) (p : Bool) → n ≡ m → same_lit (record { node = n; neg = p }) (record { node = m; neg = p }) ≡ true
    self n m p e =
        subst (λ (k : Node). same_lit (record { node = n; neg = p }) (record { node = k; neg = p }) ≡ true) e
        ((lit_eq.laws-law).refl (record { node = n; neg = p }))

    other : (n m : Node) (p q : Bool) → p ≢ q → same_lit (record { node = n; neg = p }) (record { node = m; neg = q }) ≡ false
    other n m p q apart = differ-lit (record { node = n; neg = p }) (record { node = m; neg = q }) apart

    go : (n m : Node) (p q : Bool) → n ≡ m
        → same_lit (record { node = n; neg = p }) (record { node = m; neg = not q }) ≡ not (same_lit (record { node = n; neg = p }) (record { node = m; neg = q }))
    go n m true true e = other n m true false (λ f. cc) ∙ ap not (sym (self n m true e))
    go n m true false e = self n m true e ∙ ap not (sym (other n m true false (λ f. cc)))
    go n m false true e = self n m false e ∙ ap not (sym (other n m false true (λ f. cc)))
    go n m false false e = other n m false true (λ f. cc) ∙ ap not (sym (self n m false e))

length-three : (x y z : Lit) (cs : List (List Lit)) → x.node ≢ y.node → x.node ≢ z.node
    → length (option_to_list (kept_clause (x ∷ y ∷ z ∷ [])) ++ cs) ≡ cond (same_lit z (opposite y)) 0 1 + length cs
length-three x y z cs y_apart z_apart =
    ap (λ (o : Option (List Lit)). length (option_to_list o ++ cs)) (kept-three x y z y_apart z_apart)
    ∙ go (same_lit z (opposite y)) (cond (same_lit y z) (x ∷ y ∷ []) (x ∷ y ∷ z ∷ []))
  where
    go : (b : Bool) (c : List Lit) → length (option_to_list (cond b None (Some c)) ++ cs) ≡ cond b 0 1 + length cs
    go true c = omega arith
    go false c = omega arith

module _ (d : Definition) (apart : IsApart d) where
  pub kept-gate : kept (gate_clauses d)
      ≡ (negative d.node ∷ d.left ∷ []) ∷ (negative d.node ∷ d.right ∷ [])
      ∷ (option_to_list (kept_clause (positive d.node ∷ opposite d.left ∷ opposite d.right ∷ [])) ++ [])
  kept-gate =
      kept-two (negative d.node) d.left ((negative d.node ∷ d.right ∷ []) ∷ (positive d.node ∷ opposite d.left ∷ opposite d.right ∷ []) ∷ []) apart.left
      ∙ ap (λ (cs : List (List Lit)). (negative d.node ∷ d.left ∷ []) ∷ cs) (
      kept-two (negative d.node) d.right ((positive d.node ∷ opposite d.left ∷ opposite d.right ∷ []) ∷ []) apart.right
      ∙ ap (λ (cs : List (List Lit)). (negative d.node ∷ d.right ∷ []) ∷ cs) (kept-cons (positive d.node ∷ opposite d.left ∷ opposite d.right ∷ []) []))

  pub kept-xor : kept (xor_clauses d.node d.left d.right)
      ≡ option_to_list (kept_clause (negative d.node ∷ d.left ∷ d.right ∷ []))
      ++ (option_to_list (kept_clause (negative d.node ∷ opposite d.left ∷ opposite d.right ∷ []))
      ++ (option_to_list (kept_clause (positive d.node ∷ opposite d.left ∷ d.right ∷ []))
      ++ (option_to_list (kept_clause (positive d.node ∷ d.left ∷ opposite d.right ∷ [])) ++ [])))
  kept-xor =
      kept-cons (negative d.node ∷ d.left ∷ d.right ∷ []) ((negative d.node ∷ opposite d.left ∷ opposite d.right ∷ []) ∷ (positive d.node ∷ opposite d.left ∷ d.right ∷ []) ∷ (positive d.node ∷ d.left ∷ opposite d.right ∷ []) ∷ [])
      ∙ ap (λ (cs : List (List Lit)). option_to_list (kept_clause (negative d.node ∷ d.left ∷ d.right ∷ [])) ++ cs) (
      kept-cons (negative d.node ∷ opposite d.left ∷ opposite d.right ∷ []) ((positive d.node ∷ opposite d.left ∷ d.right ∷ []) ∷ (positive d.node ∷ d.left ∷ opposite d.right ∷ []) ∷ [])
      ∙ ap (λ (cs : List (List Lit)). option_to_list (kept_clause (negative d.node ∷ opposite d.left ∷ opposite d.right ∷ [])) ++ cs) (
      kept-cons (positive d.node ∷ opposite d.left ∷ d.right ∷ []) ((positive d.node ∷ d.left ∷ opposite d.right ∷ []) ∷ [])
      ∙ ap (λ (cs : List (List Lit)). option_to_list (kept_clause (positive d.node ∷ opposite d.left ∷ d.right ∷ [])) ++ cs)
      (kept-cons (positive d.node ∷ d.left ∷ opposite d.right ∷ []) [])))

  pub kept-gate_each : (negative d.node ∷ d.left ∷ []) ∷ (negative d.node ∷ d.right ∷ [])
      ∷ option_to_list (kept_clause (positive d.node ∷ opposite d.left ∷ opposite d.right ∷ []))
      ≡ kept (gate_clauses d)
  kept-gate_each = sym (kept-gate
      ∙ ap (λ (cs : List (List Lit)). (negative d.node ∷ d.left ∷ []) ∷ (negative d.node ∷ d.right ∷ []) ∷ cs) (append-nil _))

  -- the same, put one behind the other
  -- clause k of a gate's
  pub gate-clause_0 : slice_get (kept (gate_clauses d)) 0 ≡ Some (negative d.node ∷ d.left ∷ [])
  gate-clause_0 = ap (λ (cs : List (List Lit)). slice_get cs 0) (sym kept-gate_each)

  pub gate-clause_1 : slice_get (kept (gate_clauses d)) 1 ≡ Some (negative d.node ∷ d.right ∷ [])
  gate-clause_1 = ap (λ (cs : List (List Lit)). slice_get cs 1) (sym kept-gate_each)

  pub gate-clause_2 : slice_get (kept (gate_clauses d)) 2 ≡ kept_clause (positive d.node ∷ opposite d.left ∷ opposite d.right ∷ [])
  gate-clause_2 =
      ap (λ (cs : List (List Lit)). slice_get cs 2) (sym kept-gate_each)
      ∙ only (kept_clause (positive d.node ∷ opposite d.left ∷ opposite d.right ∷ []))
    where
      only : (o : Option (List Lit)) → slice_get (option_to_list o) 0 ≡ o
      only None = refl
      only (Some c) = refl

  pub gate-clause_past : (k : ℕ) → slice_get (kept (gate_clauses d)) (suc (suc (suc k))) ≡ None
  gate-clause_past k =
      ap (λ (cs : List (List Lit)). slice_get cs (suc (suc (suc k)))) (sym kept-gate_each)
      ∙ none (kept_clause (positive d.node ∷ opposite d.left ∷ opposite d.right ∷ []))
    where
      none : (o : Option (List Lit)) → slice_get (option_to_list o) (suc k) ≡ None
      none None = refl
      none (Some c) = refl

  pub kept-xor_each : (((option_to_list (kept_clause (negative d.node ∷ d.left ∷ d.right ∷ []))
      ++ option_to_list (kept_clause (negative d.node ∷ opposite d.left ∷ opposite d.right ∷ [])))
      ++ option_to_list (kept_clause (positive d.node ∷ opposite d.left ∷ d.right ∷ [])))
      ++ option_to_list (kept_clause (positive d.node ∷ d.left ∷ opposite d.right ∷ [])))
      ≡ kept (xor_clauses d.node d.left d.right)
  kept-xor_each =
      four
      (option_to_list (kept_clause (negative d.node ∷ d.left ∷ d.right ∷ [])))
      (option_to_list (kept_clause (negative d.node ∷ opposite d.left ∷ opposite d.right ∷ [])))
      (option_to_list (kept_clause (positive d.node ∷ opposite d.left ∷ d.right ∷ [])))
      (option_to_list (kept_clause (positive d.node ∷ d.left ∷ opposite d.right ∷ [])))
      ∙ sym kept-xor
    where
      four : (k l m n : List (List Lit)) → (((k ++ l) ++ m) ++ n) ≡ k ++ (l ++ (m ++ (n ++ [])))
      four k l m n = rw append-nil (simp append_assoc)

  -- a gate has three clauses, or two where its fanins are each other's negation
  pub length-gate : (b : Bool) → same_lit d.right (opposite d.left) ≡ b → length (kept (gate_clauses d)) ≡ cond b 2 3
  length-gate b e =
      let rest : length (option_to_list (kept_clause (positive d.node ∷ opposite d.left ∷ opposite d.right ∷ [])) ++ []) ≡ cond b 0 1 + 0 =
      length-three (positive d.node) (opposite d.left) (opposite d.right) [] apart.left apart.right
      ∙ ap (λ (c : Bool). cond c 0 1 + 0) (same-opposite d.right (opposite d.left) ∙ e) in
      ap length kept-gate ∙ go b (option_to_list (kept_clause (positive d.node ∷ opposite d.left ∷ opposite d.right ∷ [])) ++ []) rest
    where
      go : (b : Bool) (cs : List (List Lit)) → length cs ≡ cond b 0 1 + 0
          → length ((negative d.node ∷ d.left ∷ []) ∷ (negative d.node ∷ d.right ∷ []) ∷ cs) ≡ cond b 2 3
      go true cs f = omega arith
      go false cs f = omega arith

  -- an XOR has four clauses, or two where its literals are over one node
  pub length-xor : (b : Bool) → same_node d.left.node d.right.node ≡ b → length (kept (xor_clauses d.node d.left d.right)) ≡ cond b 2 4
  length-xor b e =
      ap length kept-xor
      ∙ length-three (negative d.node) d.left d.right _ apart.left apart.right
      ∙ ap (λ (n : ℕ). cond (same_lit d.right (opposite d.left)) 0 1 + n) (
      length-three (negative d.node) (opposite d.left) (opposite d.right) _ apart.left apart.right
      ∙ ap (λ (n : ℕ). cond (same_lit (opposite d.right) (opposite (opposite d.left))) 0 1 + n) (
      length-three (positive d.node) (opposite d.left) d.right _ apart.left apart.right
      ∙ ap (λ (n : ℕ). cond (same_lit d.right (opposite (opposite d.left))) 0 1 + n)
      (length-three (positive d.node) d.left (opposite d.right) [] apart.left apart.right)))
      ∙ sum (same_lit d.right (opposite d.left)) (same_lit (opposite d.right) (opposite (opposite d.left))) (same_lit d.right (opposite (opposite d.left)))
      (same_lit (opposite d.right) (opposite d.left)) (same_lit d.right d.left)
      refl (same-opposite d.right (opposite d.left)) (twice d.right d.left) (same-opposite d.right d.left)
      ∙ go b e
    where
      sum : (a b c d q : Bool) → a ≡ a → b ≡ a → c ≡ q → d ≡ q
          → cond a 0 1 + (cond b 0 1 + (cond c 0 1 + (cond d 0 1 + 0))) ≡ cond a 0 1 + (cond a 0 1 + (cond q 0 1 + (cond q 0 1 + 0)))
      sum a b c d q r s t u = rw (s, t, u) refl

      opposed : (q : Bool) → cond (not q) 0 1 + (cond (not q) 0 1 + (cond q 0 1 + (cond q 0 1 + 0))) ≡ 2
      opposed true = refl
      opposed false = refl

      go : (b : Bool) → same_node d.left.node d.right.node ≡ b
          → cond (same_lit d.right (opposite d.left)) 0 1 + (cond (same_lit d.right (opposite d.left)) 0 1
          + (cond (same_lit d.right d.left) 0 1 + (cond (same_lit d.right d.left) 0 1 + 0))) ≡ cond b 2 4
      go true f =
          rw (same-or-opposite d.right d.left (sym (exact-node d.left.node d.right.node f))) (opposed (same_lit d.right d.left))
      go false f =
          let other : d.right.node ≢ d.left.node = λ g. apart-same (ap (same_node d.left.node) g ∙ same-node_self d.left.node) f in
          rw (apart-lit d.right (opposite d.left) other, apart-lit d.right d.left other) refl
        where
          apart-same : {b : Bool} → b ≡ true → b ≡ false → ⊥
          apart-same g h = cc

-- The clauses put one behind the other.
abbrev put_last : List (List Lit) → List Lit → List (List Lit)
put_last cs c = cs ++ c ∷ []

abbrev put_some : List (List Lit) → Option (List Lit) → List (List Lit)
put_some cs o = cs ++ option_to_list o

of_three : {x y z x' y' z' : Lit} → x ≡ x' → y ≡ y' → z ≡ z' → kept_clause (x ∷ y ∷ z ∷ []) ≡ kept_clause (x' ∷ y' ∷ z' ∷ [])
of_three {x} {y} {z} {x'} {y'} {z'} e f g =
    ap (λ (w : Lit). kept_clause (w ∷ y ∷ z ∷ [])) e ∙ ap (λ (w : Lit). kept_clause (x' ∷ w ∷ z ∷ [])) f ∙ ap (λ (w : Lit). kept_clause (x' ∷ y' ∷ w ∷ [])) g

module _ (d : Definition) (apart : IsApart d) where
  pub gate-put : {n m p l r : Lit} → n ≡ negative d.node → m ≡ negative d.node → p ≡ positive d.node → l ≡ opposite d.left → r ≡ opposite d.right
      → {first second : List Lit} {third : Option (List Lit)} → first ≡ n ∷ d.left ∷ [] → second ≡ m ∷ d.right ∷ [] → third ≡ kept_clause (p ∷ l ∷ r ∷ [])
      → {none one two all : List (List Lit)} → none ≡ [] → one ≡ none ++ first ∷ [] → two ≡ one ++ second ∷ [] → all ≡ two ++ option_to_list third
      → all ≡ kept (gate_clauses d)
  gate-put {n} {m} {p} {l} {r} en em ep el er e1 e2 e3 e f g h =
      h
      ∙ ap₂ put_some (g ∙ ap₂ put_last (f ∙ ap₂ put_last e (e1 ∙ ap (λ (x : Lit). x ∷ d.left ∷ []) en)) (e2 ∙ ap (λ (x : Lit). x ∷ d.right ∷ []) em))
      (e3 ∙ of_three ep el er)
      ∙ kept-gate_each d apart

  pub xor-put : {n m p q l2 r2 l3 r4 : Lit} → n ≡ negative d.node → m ≡ negative d.node → p ≡ positive d.node → q ≡ positive d.node
      → l2 ≡ opposite d.left → r2 ≡ opposite d.right → l3 ≡ opposite d.left → r4 ≡ opposite d.right
      → {o1 o2 o3 o4 : Option (List Lit)} → o1 ≡ kept_clause (n ∷ d.left ∷ d.right ∷ []) → o2 ≡ kept_clause (m ∷ l2 ∷ r2 ∷ [])
      → o3 ≡ kept_clause (p ∷ l3 ∷ d.right ∷ []) → o4 ≡ kept_clause (q ∷ d.left ∷ r4 ∷ [])
      → {none one two three all : List (List Lit)} → none ≡ [] → one ≡ none ++ option_to_list o1 → two ≡ one ++ option_to_list o2
      → three ≡ two ++ option_to_list o3 → all ≡ three ++ option_to_list o4 → all ≡ kept (xor_clauses d.node d.left d.right)
  xor-put en em ep eq el2 er2 el3 er4 e1 e2 e3 e4 e f g h i =
      i
      ∙ ap₂ put_some (h ∙ ap₂ put_some (g ∙ ap₂ put_some (f ∙ ap₂ put_some e (e1 ∙ of_three en refl refl)) (e2 ∙ of_three em el2 er2)) (e3 ∙ of_three ep el3 refl))
      (e4 ∙ of_three eq refl er4)
      ∙ kept-xor_each d apart

-- A node and what defines it
module _ (net : AigPair) where
  pub defined-gate : (side : Side) (v k : ℕ) (g : And) → slice_get (circuit_of net side).gates k ≡ Some g
      → place_of (λ g. g.var == v) (circuit_of net side).gates ≡ Some k
      → defined_by net (Gate side v) ≡ Some (definition_of side (circuit_of net side) g)
  defined-gate side v k g at e =
      ap (option_map (definition_of side (circuit_of net side))) (
      find-place (λ g. g.var == v) (circuit_of net side).gates
      ∙ ap (option_and_then (slice_get (circuit_of net side).gates)) e ∙ at)

  pub defined-no_gate : (side : Side) (v : ℕ) → place_of (λ g. g.var == v) (circuit_of net side).gates ≡ None
      → defined_by net (Gate side v) ≡ None
  defined-no_gate side v e =
      ap (option_map (definition_of side (circuit_of net side))) (
      find-place (λ g. g.var == v) (circuit_of net side).gates ∙ ap (option_and_then (slice_get (circuit_of net side).gates)) e)

  -- the axioms of a gate and of an XOR, by what defines them
  pub axioms_of-gate : (side : Side) (v : ℕ)
      → axioms_of net (Gate side v) ≡ option_map_or (λ d. kept (gate_clauses d)) (defined_by net (Gate side v)) []
  axioms_of-gate side v = go (gate_at net side v)
    where
      go : (o : Option And) → option_map_or (λ g. kept (gate_clauses (definition_of side (circuit_of net side) g))) o []
          ≡ option_map_or (λ d. kept (gate_clauses d)) (option_map (definition_of side (circuit_of net side)) o) []
      go None = refl
      go (Some g) = refl

  pub axioms_of-xor : (j : ℕ)
      → axioms_of net (Xor j) ≡ option_map_or (λ d. kept (xor_clauses d.node d.left d.right)) (defined_by net (Xor j)) []
  axioms_of-xor j = go (output_of net A j) (output_of net B j)
    where
      go : (a b : Option Lit) → xor_axioms j a b ≡ option_map_or (λ d. kept (xor_clauses d.node d.left d.right)) (difference j a b) []
      go (Some a) (Some b) = refl
      go (Some a) None = refl
      go None b = refl

  pub gate_axioms_of : (node : Node) (side : Side) (v : ℕ) (d : Definition) → node ≡ Gate side v → Some d ≡ defined_by net node
      → kept (gate_clauses d) ≡ axioms_of net node
  gate_axioms_of node side v d is e =
      sym (ap (axioms_of net) is ∙ axioms_of-gate side v
      ∙ ap (λ (o : Option Definition). option_map_or (λ d. kept (gate_clauses d)) o []) (ap (defined_by net) (sym is) ∙ sym e))

  pub xor_axioms_of : (node : Node) (j : ℕ) (d : Definition) → node ≡ Xor j → Some d ≡ defined_by net node
      → kept (xor_clauses d.node d.left d.right) ≡ axioms_of net node
  xor_axioms_of node j d is e =
      sym (ap (axioms_of net) is ∙ axioms_of-xor j
      ∙ ap (λ (o : Option Definition). option_map_or (λ d. kept (xor_clauses d.node d.left d.right)) o []) (ap (defined_by net) (sym is) ∙ sym e))

-- no fanin of a gate is the gate
apart-gates : (known : List ℕ) (gates : List And) → AreOrdered known gates
    → AllByRecursion (λ g. (var_of g.left ≢ g.var) × (var_of g.right ≢ g.var)) gates
apart-gates known [] ordered = tt
apart-gates known (g ∷ gs) ordered = (
  (
    λ e. both_ways (has ◌==◌ known g.var) ordered.0.new (subst (λ (v : ℕ). has ◌==◌ known v ≡ true) e ordered.0.left),
    λ e. both_ways (has ◌==◌ known g.var) ordered.0.new (subst (λ (v : ℕ). has ◌==◌ known v ≡ true) e ordered.0.right),
  ),
  apart-gates (g.var ∷ known) gs ordered.1,
)

-- the node of a variable is the gate of that variable, if of any, and no XOR
node_of-gate : (side : Side) (c : Aig) (v w : ℕ) → Gate side w ≡ node_of side c v → v ≡ w
node_of-gate side c v w e = go (v == 0) (place_of (λ x. x == v) c.inputs) e
  where
    go : (b : Bool) (o : Option ℕ) → Gate side w ≡ cond b Const (option_map_or Input o (Gate side v)) → v ≡ w
    go true o e = cc
    go false (Some k) e = cc
    go false None e = cc

node_of-xor : (side : Side) (c : Aig) (v j : ℕ) → Xor j ≢ node_of side c v
node_of-xor side c v j e = go (v == 0) (place_of (λ x. x == v) c.inputs) e
  where
    go : (b : Bool) (o : Option ℕ) → Xor j ≡ cond b Const (option_map_or Input o (Gate side v)) → ⊥
    go true o e = cc
    go false (Some k) e = cc
    go false None e = cc

gates_of : (net : AigPair) (side : Side) → IsNet net
    → AllByRecursion (λ g. (var_of g.left ≢ g.var) × (var_of g.right ≢ g.var)) (circuit_of net side).gates
gates_of net A is = apart-gates (0 ∷ net.a.inputs) net.a.gates is.a.gates
gates_of net B is = apart-gates (0 ∷ net.b.inputs) net.b.gates is.b.gates

pub apart-defined : (net : AigPair) (node : Node) (d : Definition) → IsNet net → defined_by net node ≡ Some d → IsApart d
apart-defined net Const d is e = absurd (none-some d e)
apart-defined net (Input k) d is e = absurd (none-some d e)
apart-defined net (Gate side v) d is e = go (gate_at net side v) refl e
  where
    go : (o : Option And) → gate_at net side v ≡ o → option_map (definition_of side (circuit_of net side)) o ≡ Some d → IsApart d
    go None f e = absurd (none-some d e)
    go (Some g) f e =
        let apart = (found-one (λ h. h.var == v) (λ h. (var_of h.left ≢ h.var) × (var_of h.right ≢ h.var)) (circuit_of net side).gates g (gates_of net side is) f).0 in
        let here : IsApart (definition_of side (circuit_of net side) g) = record {
          left = λ same. apart.0 (node_of-gate side (circuit_of net side) (var_of g.left) g.var same);
          right = λ same. apart.1 (node_of-gate side (circuit_of net side) (var_of g.right) g.var same);
        } in
        subst IsApart (same_Some (definition_of side (circuit_of net side) g) d e) here
apart-defined net (Xor j) d is e = go (output_of net A j) (output_of net B j) refl refl e
  where
    none_xor : (side : Side) (a : Lit) → output_of net side j ≡ Some a → Xor j ≢ a.node
    none_xor side a f = from _ f
      where
        from : (o : Option ℕ) → option_map (lit_named side (circuit_of net side)) o ≡ Some a → Xor j ≢ a.node
        from None g = absurd (none-some a g)
        from (Some l) g =
            subst (λ (m : Lit). Xor j ≢ m.node) (same_Some (lit_named side (circuit_of net side) l) a g)
            (node_of-xor side (circuit_of net side) (var_of l) j)

    go : (o r : Option Lit) → output_of net A j ≡ o → output_of net B j ≡ r → difference j o r ≡ Some d → IsApart d
    go (Some a) (Some b) f g e =
        let here : IsApart (record { node = Xor j; left = a; right = b }) = record { left = none_xor A a f; right = none_xor B b g } in
        subst IsApart (same_Some (record { node = Xor j; left = a; right = b }) d e) here
    go (Some a) None f g e = absurd (none-some d e)
    go None r f g e = absurd (none-some d e)

pub apart-some : (net : AigPair) (node : Node) (o : Option Definition) → IsNet net → o ≡ defined_by net node → IfSome o IsApart
apart-some net node None is e = tt
apart-some net node (Some d) is e = apart-defined net node d is (sym e)
