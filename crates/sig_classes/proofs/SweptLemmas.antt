-- A book that is reduced over patterns is swept.
use Rattle.std.proofs.Common.{◌≡◌, ◌∙◌, ℕ, ◌<◌, ◌≤◌, ◌&&◌, ◌||◌, ◌⊎◌, Bool, true, false, not, Some, List, [], ◌∷◌, length, refl, sym, ap, subst, arith, inl, inr}
use Rattle.std.specs.Option.{is_some}
use Rattle.std.specs.List.{list_all, AllByRecursion}
use Rattle.std.proofs.lemmas.Bool.{cases_lt, and_parts}
use Rattle.std.proofs.Math.Bool.{or-true}
use Rattle.lits.specs.declared.node.Node.{Node}
use Rattle.lits.specs.declared.literal.Lit.{Lit}
use Rattle.netlist.specs.Net.{AigPair, IsNet, nodes_of, node_at, position_of, value_of, lit_holds, differs}
use Rattle.netlist.proofs.Facts.{node-at, position-node, same-values}
use Rattle.lemma_book.specs.declared.entry.Entry.{Entry}
use Rattle.lemma_book.specs.Root.{IsRoot}
use Rattle.lemma_book.specs.Good.{IsEarlier}
use Rattle.lemma_book.specs.Agreement.{HasValueOf}
use Rattle.sig_classes.specs.Leader.{IsAlike, IsCandidate, IsLeader, IsOpenGate, IsReduced, HasSpent, IsLone}
use Rattle.sig_classes.specs.Pass.{root_at}
use Rattle.sig_classes.proofs.FirstLemmas.{least}
use Rattle.sig_classes.proofs.LeaderLemmas.{is-root, root-is, place-of, place-inside, earlier-is, is-earlier}

-- whether the node has the literal's value on each pattern
abbrev same_on : AigPair → List (List Bool) → Node → Lit → Bool
same_on net patterns n l = list_all (λ bits. not (differs (value_of net bits n) (lit_holds (value_of net bits) l))) patterns

itself : (x y : Bool) → x ≡ y → not (differs x y) ≡ true
itself true true e = refl
itself true false e = cc
itself false true e = cc
itself false false e = refl

same-alike : (net : AigPair) (patterns : List (List Bool)) (n : Node) (l : Lit) → same_on net patterns n l ≡ true → IsAlike net patterns n l
same-alike net [] n l all = tt
same-alike net (bits ∷ rest) n l all =
    let parts = and_parts (not (differs (value_of net bits n) (lit_holds (value_of net bits) l))) (same_on net rest n l) all in
    (same-values (value_of net bits n) (lit_holds (value_of net bits) l) parts.0, same-alike net rest n l parts.1)

alike-same : (net : AigPair) (patterns : List (List Bool)) (n : Node) (l : Lit) → IsAlike net patterns n l → same_on net patterns n l ≡ true
alike-same net [] n l all = refl
alike-same net (bits ∷ rest) n l all =
    rw (itself (value_of net bits n) (lit_holds (value_of net bits) l) all.0) (alike-same net rest n l all.1)

-- what holds on every input holds on patterns with a truth value per input
pub value-alike : (net : AigPair) (patterns : List (List Bool)) (n : Node) (l : Lit) → AllByRecursion (λ bits. length bits ≡ length net.a.inputs) patterns
    → HasValueOf net n l → IsAlike net patterns n l
value-alike net [] n l whole same = tt
value-alike net (bits ∷ rest) n l whole same = (same bits whole.0, value-alike net rest n l whole.1 same)

module _ (net : AigPair) (is : IsNet net) (entries : List Entry) (patterns : List (List Bool)) (n : Node) where
  abbrev literal : ℕ → Bool → Lit
  literal r neg = record { node = node_at net r; neg = neg }

  -- a root at the position, or its complement, that no pattern tells apart from the node
  abbrev test : ℕ → Bool
  test r = root_at net entries r && (same_on net patterns n (literal r false) || same_on net patterns n (literal r true))

  test-true : (r : ℕ) (neg : Bool) → root_at net entries r ≡ true → same_on net patterns n (literal r neg) ≡ true → test r ≡ true
  test-true r false root e = rw (root, e) refl
  test-true r true root e = rw (root, e) (or-true (same_on net patterns n (literal r false)))

  -- each candidate passes at its position
  candidate-passes : (m : Lit) (r : ℕ) → position_of net m.node ≡ Some r → IsRoot entries m.node → IsAlike net patterns n m → test r ≡ true
  candidate-passes m r place root alike =
      let here : node_at net r ≡ m.node = node-at net m.node r place in
      test-true r m.neg (is-root entries (node_at net r) (subst (IsRoot entries) (sym here) root))
      (ap (λ (k : Node). same_on net patterns n (record { node = k; neg = m.neg })) here ∙ alike-same net patterns n m alike)

  -- and what passes is one
  passes-candidate : (k : ℕ) → k < length (nodes_of net) → test k ≡ true
      → (neg : Bool) × IsCandidate net entries patterns n (record { node = node_at net k; neg = neg })
  passes-candidate k below passes =
      let parts = and_parts (root_at net entries k) (same_on net patterns n (literal k false) || same_on net patterns n (literal k true)) passes in
      go (same_on net patterns n (literal k false)) (same_on net patterns n (literal k true)) refl refl parts.0 parts.1
    where
      made : (neg : Bool) → root_at net entries k ≡ true → same_on net patterns n (record { node = node_at net k; neg = neg }) ≡ true
          → IsCandidate net entries patterns n (record { node = node_at net k; neg = neg })
      made neg root e = record {
        there = ap is_some (position-node net is k below);
        root = root-is entries (node_at net k) root;
        alike = same-alike net patterns n (record { node = node_at net k; neg = neg }) e;
      }

      go : (a b : Bool) → same_on net patterns n (literal k false) ≡ a → same_on net patterns n (literal k true) ≡ b
          → root_at net entries k ≡ true → (a || b) ≡ true
          → (neg : Bool) × IsCandidate net entries patterns n (record { node = node_at net k; neg = neg })
      go true b e f root h = (false, made false root e)
      go false true e f root h = (true, made true root f)
      go false false e f root h = cc

  pub reduced-swept : AllByRecursion (λ bits. length bits ≡ length net.a.inputs) patterns → IsReduced net entries patterns
      → IsOpenGate net entries n → HasSpent entries n ⊎ IsLone net entries n
  reduced-swept whole reduced gate =
      let place = place-of net n gate.there in
      let itself-alike : IsAlike net patterns n (record { node = n; neg = false }) = each patterns in
      let first = least test place.0 (candidate-passes (record { node = n; neg = false }) place.0 place.1 gate.root itself-alike) in
      decide place.0 place.1 first.0 first.1 first.2 first.3
    where
      each : (ps : List (List Bool)) → IsAlike net ps n (record { node = n; neg = false })
      each [] = tt
      each (p ∷ ps) = (refl, each ps)

      decide : (p : ℕ) → position_of net n ≡ Some p → (k : ℕ) → k ≤ p → test k ≡ true → ((r : ℕ) → r < k → test r ≡ false)
          → HasSpent entries n ⊎ IsLone net entries n
      decide p place k le passes before = elim (cases_lt k p) [
        | inl less ↦
            let below : k < length (nodes_of net) = omega (arith, place-inside net n p place) in
            let candidate = passes-candidate k below passes in
            let earlier : IsEarlier net n (record { node = node_at net k; neg = candidate.0 }) =
            earlier-is net n (record { node = node_at net k; neg = candidate.0 }) p k place (position-node net is k below) less in
            let leader : IsLeader net entries patterns n (record { node = node_at net k; neg = candidate.0 }) = record {
              candidate = candidate.1;
              least = λ m before-k other.
                  let e = is-earlier net (node_at net k) m k (position-node net is k below) before-k in
                  let f : true ≡ false = sym (candidate-passes m e.0 e.1 other.root other.alike) ∙ before e.0 e.2 in cc;
            } in
            inl (record {
              lit = record { node = node_at net k; neg = candidate.0 };
              spent = reduced (record { node = n; lit = record { node = node_at net k; neg = candidate.0 } }) gate leader earlier;
            })
        | inr more ↦ inr (λ m earlier root same.
            let e = is-earlier net n m p place earlier in
            let f : true ≡ false = sym (candidate-passes m e.0 e.1 root (value-alike net patterns n m whole same)) ∙ before e.0 (omega (arith, e.2, more)) in cc)
      ]
