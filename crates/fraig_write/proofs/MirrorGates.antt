-- The gates that stay and the gates of B that are made from them: where they stand, that they are roots, and that the fanins of the ones
-- and of the others have the same roots.
use Rattle.std.proofs.Common.{◌≡◌, ℕ, zero, suc, ◌+◌, ◌<◌, ◌≤◌, Bool, true, false, cond, min, max, Option, Some, None, List, [], ◌∷◌, length, map, refl, sym, ap, ◌∙◌, subst, inl, inr, ◌⊎◌, arith}
use Rattle.std.specs.Prelude.{◌==◌, ◌&&◌, nat_lt, slice_get}
use Rattle.std.specs.Option.{option_map, option_map_or}
use Rattle.std.specs.List.{filter, find, list_any, range_with_len, AllByRecursion}
use Rattle.std.proofs.lemmas.List.{length-map}
use Rattle.std.proofs.lemmas.Bool.{and_parts, cases_lt, or_right}
use Rattle.std.proofs.lemmas.Bool.Decides.{nat_tests}
use Rattle.std.proofs.lemmas.Option.{none-some, same_Some, slice_get-map, slice_get_within}
use Rattle.lits.specs.Clause.{has}
use Rattle.lits.specs.Same.{same_lit, same_node, opposite}
use Rattle.lits.specs.declared.node.Side.TheVariants.{A, B}
use Rattle.lits.specs.declared.node.Node.{Node}
use Rattle.lits.specs.declared.node.Node.TheVariants.{Const, Input, Gate, Xor}
use Rattle.lits.specs.declared.literal.Lit.{Lit}
use Rattle.lits.proofs.Facts.{exact-lit, same-lit_self}
use Rattle.netlist.specs.declared.gate.And.{And}
use Rattle.netlist.specs.declared.gate.Definition.{Definition}
use Rattle.netlist.specs.Circuit.{Aig}
use Rattle.netlist.specs.Pair.{first_gate}
use Rattle.netlist.specs.Place.{place_of}
use Rattle.netlist.specs.Net.{AigPair, definition_of, lit_named, node_of, nodes_of, position_of}
use Rattle.netlist.specs.Miter.{positive}
use Rattle.netlist.proofs.Facts.{at-place, equal-number, gate-definition, has-gate, input-below, position-gate, position_of-input, position_of-xor}
use Rattle.lemma_book.specs.Entry.{Entries}
use Rattle.lemma_book.specs.Root.{root_of, IsRoot}
use Rattle.lemma_book.proofs.Facts.{root-lower, root-opposite, root-unmerged}
use Rattle.strash_pass.specs.Strash.{AreTwins}
use Rattle.strash_pass.specs.Pass.{IsTwin}
use Rattle.strash_pass.proofs.Facts.{gate-a, gate-b, is-gate}
use Rattle.fraig_write.specs.Reduced.{is_own_root, new_variable, reduced_gate, root_nodes, root_renumbered}
use Rattle.fraig_write.specs.Mirror.{is_of_a}
use Rattle.fraig_write.specs.Mirroring.{IsAsked, IsUpToGate, StandsInA}
use Rattle.fraig_write.proofs.FilterLemmas.{place-some}
use Rattle.fraig_write.proofs.MirrorNumbers.{IsNumbered, named-renumbered, new_node}
use Rattle.fraig_write.proofs.ReachedNodes.{own-root}

-- ---- a part of a list
module _ {X : Type 0} (p : X → Bool) where
  -- what stands in the part stands in the list, and passes
  pub filter-at : (xs : List X) (k : ℕ) (x : X) → slice_get (filter p xs) k ≡ Some x → (i : ℕ) × (slice_get xs i ≡ Some x) × (p x ≡ true)
  filter-at [] k x e = absurd (none-some x e)
  filter-at (y ∷ ys) k x e = go (p y) refl k e (λ j f. filter-at ys j x f)
    where
      go : (b : Bool) → p y ≡ b → (j : ℕ) → slice_get (cond b (y ∷ filter p ys) (filter p ys)) j ≡ Some x
          → ((j : ℕ) → slice_get (filter p ys) j ≡ Some x → (i : ℕ) × (slice_get ys i ≡ Some x) × (p x ≡ true))
          → (i : ℕ) × (slice_get (y ∷ ys) i ≡ Some x) × (p x ≡ true)
      go true f zero g rest = (0, g, subst (λ (z : X). p z ≡ true) (same_Some y x g) f)
      go true f (suc j) g rest = let r = rest j g in (suc r.0, r.1, r.2)
      go false f j g rest = let r = rest j g in (suc r.0, r.1, r.2)

  -- what passes stands in the part
  pub filter-has : (test : X → Bool) (xs : List X) (i : ℕ) (x : X) → slice_get xs i ≡ Some x → p x ≡ true → test x ≡ true
      → list_any test (filter p xs) ≡ true
  filter-has test [] i x e pass t = absurd (none-some x e)
  filter-has test (y ∷ ys) zero x e pass t =
      let here : p y ≡ true = ap p (same_Some y x e) ∙ pass in
      let first : test y ≡ true = ap test (same_Some y x e) ∙ t in
      rw (here, first) refl
  filter-has test (y ∷ ys) (suc i) x e pass t = go (p y) (filter-has test ys i x e pass t)
    where
      go : (b : Bool) → list_any test (filter p ys) ≡ true → list_any test (cond b (y ∷ filter p ys) (filter p ys)) ≡ true
      go true rest = or_right (test y) (list_any test (filter p ys)) rest
      go false rest = rest

-- what is mapped
mapped : {X Y : Type 0} (f : X → Y) (o : Option X) (y : Y) → option_map f o ≡ Some y → (x : X) × (o ≡ Some x) × (f x ≡ y)
mapped f None y e = absurd (none-some y e)
mapped f (Some x) y e = (x, refl, same_Some (f x) y e)

-- ---- nodes of A
pub named-of_a : (a : Aig) (v : ℕ) → is_of_a (node_of A a v) ≡ true
named-of_a a v = go (v == 0) (place_of (λ x. x == v) a.inputs)
  where
    go : (b : Bool) (o : Option ℕ) → is_of_a (cond b Const (option_map_or Input o (Gate A v))) ≡ true
    go true o = refl
    go false None = refl
    go false (Some k) = refl

module _ (net : AigPair) where
  -- one that is there stands before the gates of B
  pub of_a-stands : (n : Node) → is_of_a n ≡ true → has same_node (nodes_of net) n ≡ true
      → (p : ℕ) × (position_of net n ≡ Some p) × (p < 1 + length net.a.inputs + length net.a.gates)
  of_a-stands Const of there = (0, refl, omega arith)
  of_a-stands (Input k) of there =
      let below = input-below net k there in
      let test : nat_lt k (length net.a.inputs) ≡ true = grind (arith, nat_tests, below) in
      (k + 1, position_of-input net k ∙ rw test refl, omega (arith, below))
  of_a-stands (Gate A v) of there =
      let place = place-some (λ g. g.var == v) net.a.gates (sym (has-gate net A v) ∙ there) in
      let at = at-place (λ g. g.var == v) net.a.gates place.0 place.1 in
      (first_gate net A + place.0, sym (position-gate net A v) ∙ ap (option_map (λ g. first_gate net A + g)) place.1, omega (arith, at.3))
  of_a-stands (Gate B v) of there = cc
  of_a-stands (Xor j) of there = cc

  -- and what stands there is one
  pub placed-numbered : (n : Node) (p : ℕ) → position_of net n ≡ Some p → p < 1 + length net.a.inputs + length net.a.gates → IsNumbered net.a n
  placed-numbered Const p at below = tt
  placed-numbered (Input k) p at below = go (nat_lt k (length net.a.inputs)) refl
    where
      go : (b : Bool) → nat_lt k (length net.a.inputs) ≡ b → k < length net.a.inputs
      go true e = grind (arith, nat_tests, e)
      go false e = absurd (none-some p (sym (position_of-input net k ∙ rw e refl) ∙ at))
  placed-numbered (Gate A v) p at below = tt
  placed-numbered (Gate B v) p at below =
      let r = mapped (λ g. first_gate net B + g) (place_of (λ g. g.var == v) net.b.gates) p (position-gate net B v ∙ at) in
      absurd (omega (arith, r.2, below))
  placed-numbered (Xor j) p at below = absurd (none-some p (sym (position_of-xor net j) ∙ at))

-- ---- the greater and the lesser of two numbers
min-first : (x y : ℕ) → x < y → min x y ≡ x
min-first x y less = omega (arith, less)

max-second : (x y : ℕ) → x < y → max x y ≡ y
max-second x y less = omega (arith, less)

max-first : (x y : ℕ) → y ≤ x → max x y ≡ x
max-first x y more = omega (arith, more)

min-second : (x y : ℕ) → y ≤ x → min x y ≡ y
min-second x y more = omega (arith, more)

-- a gate of A that is its own root and is reached
pub record IsOriginal (net : AigPair) (given : Entries) (staying : List And) (asked : IsAsked net given staying) (o : And) : Type 0 where
  pub place : ℕ
  pub at : slice_get net.a.gates place ≡ Some o
  pub below : place < length net.a.gates
  pub root : IsRoot given.entries (Gate A o.var)
  pub reaches : asked.are_staying.reached (Gate A o.var) ≡ true

-- a variable of A whose gate stays, and B's gate that was made from it
pub record IsMade (net : AigPair) (given : Entries) (staying : List And) (v : ℕ) : Type 0 where
  pub place : ℕ
  pub gate : And
  pub below : place < length staying
  pub at : slice_get staying place ≡ Some gate
  pub var : gate.var ≡ v
  pub variable : (reduced_gate net.a given.entries staying gate).var ≡ new_variable (length net.a.inputs) staying (Gate A v)
  pub position : position_of net (Gate B (new_variable (length net.a.inputs) staying (Gate A v))) ≡ Some (1 + length net.a.inputs + length net.a.gates + place)

-- ---- what stands where B is made from A
module _ (net : AigPair) (given : Entries) (staying : List And) (asked : IsAsked net given staying) where
  -- gates of B and their originals
  gates-b : net.b.gates ≡ map (reduced_gate net.a given.entries staying) staying
  gates-b = ap (λ (c : Aig). c.gates) asked.circuit

  pub count-b : length net.b.gates ≡ length staying
  count-b = ap length gates-b ∙ length-map staying (reduced_gate net.a given.entries staying)

  inputs-b : net.b.inputs ≡ range_with_len 1 (length net.a.inputs)
  inputs-b = ap (λ (c : Aig). c.inputs) asked.circuit

  pub made : (k : ℕ) (o : And) → slice_get staying k ≡ Some o → slice_get net.b.gates k ≡ Some (reduced_gate net.a given.entries staying o)
  made k o e =
      ap (λ (gs : List And). slice_get gs k) gates-b
      ∙ slice_get-map (reduced_gate net.a given.entries staying) staying k
      ∙ ap (option_map (reduced_gate net.a given.entries staying)) e

  pub made-from : (k : ℕ) (g o : And) → slice_get net.b.gates k ≡ Some g → slice_get staying k ≡ Some o
      → g ≡ reduced_gate net.a given.entries staying o
  made-from k g o e f = same_Some g (reduced_gate net.a given.entries staying o) (sym e ∙ made k o f)

  -- a gate that stays is one of A, and is its own root
  pub original : (k : ℕ) (o : And) → slice_get staying k ≡ Some o → IsOriginal net given staying asked o
  original k o e =
      let test : And → Bool = λ g. is_own_root given.entries g && asked.are_staying.reached (Gate A g.var) in
      let r = filter-at test net.a.gates k o (ap (λ (gs : List And). slice_get gs k) (sym asked.are_staying.gates) ∙ e) in
      let both = and_parts (is_own_root given.entries o) (asked.are_staying.reached (Gate A o.var)) r.2 in
      let own = exact-lit (root_of given.entries (positive (Gate A o.var))) (positive (Gate A o.var)) both.0 in
      record {
        place = r.0;
        at = r.1;
        below = slice_get_within net.a.gates r.0 o r.1;
        root = subst (λ (l : Lit). IsRoot given.entries l.node) own (root-unmerged net given asked.legal (positive (Gate A o.var)));
        reaches = both.1;
      }

  -- a root stands in A where its literal does
  root-stands : (l : Lit) → StandsInA net l → StandsInA net (root_of given.entries l)
  root-stands l s =
      let r = root-lower net given asked.legal l s.place s.at in
      record { place = r.0; at = r.1; below = omega (arith, r.2, s.below) }

  fanin-stands : (k : ℕ) (o : And) → slice_get staying k ≡ Some o
      → StandsInA net (lit_named A net.a o.left) × StandsInA net (lit_named A net.a o.right)
  fanin-stands k o e =
      let is = original k o e in
      let d = gate-definition net asked.net_is A is.place o is.at in (
        record { place = d.1.0; at = d.1.1; below = omega (arith, d.1.2, is.below) },
        record { place = d.2.0; at = d.2.1; below = omega (arith, d.2.2, is.below) },
      )

  fanin-reached : (k : ℕ) (o : And) → slice_get staying k ≡ Some o
      → (asked.are_staying.reached (root_of given.entries (lit_named A net.a o.left)).node ≡ true)
      × (asked.are_staying.reached (root_of given.entries (lit_named A net.a o.right)).node ≡ true)
  fanin-reached k o e =
      let is = original k o e in
      let d = gate-definition net asked.net_is A is.place o is.at in
      let found = mapped (definition_of A net.a) (find (λ g. g.var == o.var) net.a.gates) (definition_of A net.a o) d.0 in
      let all = asked.are_staying.are_reached.closed.nexts (Gate A o.var) is.reaches in
      let both = subst (λ (x : Option And). AllByRecursion (λ n. asked.are_staying.reached n ≡ true) (root_nodes given.entries
      (option_map_or (λ g. lit_named A net.a g.left ∷ lit_named A net.a g.right ∷ []) x []))) found.1 all in (
        subst (λ (l : Lit). asked.are_staying.reached (root_of given.entries l).node ≡ true) (ap (λ (x : Definition). x.left) found.2) both.0,
        subst (λ (l : Lit). asked.are_staying.reached (root_of given.entries l).node ≡ true) (ap (λ (x : Definition). x.right) found.2) both.1.0,
      )

  root-made : (v p : ℕ) → position_of net (Gate A v) ≡ Some p → IsRoot given.entries (Gate A v) → asked.are_staying.reached (Gate A v) ≡ true
      → IsMade net given staying v
  root-made v p at root reaches =
      let r = mapped (λ g. first_gate net A + g) (place_of (λ g. g.var == v) net.a.gates) p (position-gate net A v ∙ at) in
      let here = at-place (λ g. g.var == v) net.a.gates r.0 r.1 in
      let same : here.0.var ≡ v = equal-number here.0.var v here.2 in
      let test : And → Bool = λ g. is_own_root given.entries g && asked.are_staying.reached (Gate A g.var) in
      let own : is_own_root given.entries here.0 ≡ true =
      ap (λ (l : Lit). same_lit l (positive (Gate A here.0.var)))
      (own-root given.entries (positive (Gate A here.0.var)) (subst (λ (x : ℕ). IsRoot given.entries (Gate A x)) (sym same) root))
      ∙ same-lit_self (positive (Gate A here.0.var)) in
      let reach : asked.are_staying.reached (Gate A here.0.var) ≡ true = ap (λ (x : ℕ). asked.are_staying.reached (Gate A x)) same ∙ reaches in
      let pass : test here.0 ≡ true = rw (own, reach) refl in
      let any : list_any (λ g. g.var == v) staying ≡ true =
      ap (list_any (λ g. g.var == v)) asked.are_staying.gates ∙ filter-has test (λ g. g.var == v) net.a.gates r.0 here.0 here.1 pass here.2 in
      let place = place-some (λ g. g.var == v) staying any in
      let stay = at-place (λ g. g.var == v) staying place.0 place.1 in
      let var : stay.0.var ≡ v = equal-number stay.0.var v stay.2 in
      let variable : (reduced_gate net.a given.entries staying stay.0).var ≡ new_variable (length net.a.inputs) staying (Gate A v) =
      ap (λ (x : ℕ). new_variable (length net.a.inputs) staying (Gate A x)) var in
      let gate = is-gate net asked.net_is (length net.a.gates + place.0) (definition_of B net.b (reduced_gate net.a given.entries staying stay.0))
      (gate-b net asked.net_is place.0 (reduced_gate net.a given.entries staying stay.0) (made place.0 stay.0 stay.1)) in
      record {
        place = place.0;
        gate = stay.0;
        below = stay.3;
        at = stay.1;
        var = var;
        variable = variable;
        position = ap (λ (x : ℕ). position_of net (Gate B x)) (sym variable) ∙ gate.node ∙ ap Some (omega arith);
      }

  -- ---- the root of a literal of B
  module _ (k : ℕ) (book : Entries) (up : IsUpToGate net given staying k book) where
    root-as : (n : Node) (neg : Bool) → StandsInA net (record { node = n; neg = neg }) → IsRoot given.entries n
        → root_of book.entries (record { node = n; neg = neg }) ≡ record { node = n; neg = neg }
    root-as n neg s root = up.keeps (record { node = n; neg = neg }) s ∙ own-root given.entries (record { node = n; neg = neg }) root

    back-as : (n : Node) (neg : Bool) → StandsInA net (record { node = n; neg = neg }) → IsRoot given.entries n
        → asked.are_staying.reached n ≡ true → IsNumbered net.a n → ((v : ℕ) (m : IsMade net given staying v) → n ≡ Gate A v → m.place < k)
        → root_of book.entries (record { node = new_node net.a staying n; neg = neg }) ≡ record { node = n; neg = neg }
    back-as Const neg s root reaches is below = root-as Const neg s root
    back-as (Input i) neg s root reaches is below = root-as (Input i) neg s root
    back-as (Gate A v) neg s root reaches is below = go neg
      where
        m : IsMade net given staying v
        m = root-made v s.place s.at root reaches

        first : root_of book.entries (positive (Gate B (new_variable (length net.a.inputs) staying (Gate A v)))) ≡ positive (Gate A v)
        first =
            ap (λ (x : ℕ). root_of book.entries (positive (Gate B x))) (sym m.variable)
            ∙ up.merged m.place (reduced_gate net.a given.entries staying m.gate) m.gate (below v m refl) (made m.place m.gate m.at) m.at
            ∙ ap (λ (x : ℕ). positive (Gate A x)) m.var

        go : (b : Bool) → root_of book.entries (record { node = Gate B (new_variable (length net.a.inputs) staying (Gate A v)); neg = b }) ≡ record { node = Gate A v; neg = b }
        go false = first
        go true = root-opposite book.entries (positive (Gate B (new_variable (length net.a.inputs) staying (Gate A v)))) ∙ ap opposite first
    back-as (Gate B v) neg s root reaches is below = absurd is
    back-as (Xor j) neg s root reaches is below = absurd is

    -- a literal of B that was renumbered has the root that was renumbered
    pub root-back : (lit : ℕ) → StandsInA net (lit_named A net.a lit)
        → asked.are_staying.reached (root_of given.entries (lit_named A net.a lit)).node ≡ true
        → ((v : ℕ) (m : IsMade net given staying v) → (root_of given.entries (lit_named A net.a lit)).node ≡ Gate A v → m.place < k)
        → root_of book.entries (lit_named B net.b (root_renumbered net.a given.entries staying lit)) ≡ root_of given.entries (lit_named A net.a lit)
    root-back lit s reaches below =
        let r = root_of given.entries (lit_named A net.a lit) in
        let stands = root-stands (lit_named A net.a lit) s in
        let is = placed-numbered net r.node stands.place stands.at stands.below in
        ap (root_of book.entries) (named-renumbered net.a net.b inputs-b staying r.node r.neg is)
        ∙ back-as r.node r.neg stands (root-unmerged net given asked.legal (lit_named A net.a lit)) reaches is below

    -- ---- a gate of B and its original
    module _ (g o : And) (at_b : slice_get net.b.gates k ≡ Some g) (at_a : slice_get staying k ≡ Some o) where
      -- what a fanin of the gate rests on is merged
      fanin-merged : (lit : ℕ) → StandsInA net (lit_named A net.a lit)
          → (root_renumbered net.a given.entries staying lit ≡ g.left) ⊎ (root_renumbered net.a given.entries staying lit ≡ g.right)
          → (v : ℕ) (m : IsMade net given staying v) → (root_of given.entries (lit_named A net.a lit)).node ≡ Gate A v → m.place < k
      fanin-merged lit s which v m at =
          let r = root_of given.entries (lit_named A net.a lit) in
          let stands = root-stands (lit_named A net.a lit) s in
          let is = placed-numbered net r.node stands.place stands.at stands.below in
          let named : (lit_named B net.b (root_renumbered net.a given.entries staying lit)).node ≡ Gate B (new_variable (length net.a.inputs) staying (Gate A v)) =
          ap (λ (l : Lit). l.node) (named-renumbered net.a net.b inputs-b staying r.node r.neg is) ∙ ap (new_node net.a staying) at in
          let d = gate-definition net asked.net_is B k g at_b in
          let go : (x : ℕ) → root_renumbered net.a given.entries staying lit ≡ x
          → ((p : ℕ) × (position_of net (lit_named B net.b x).node ≡ Some p) × (p < first_gate net B + k)) → m.place < k = λ x e q.
          let place : position_of net (lit_named B net.b x).node ≡ Some (1 + length net.a.inputs + length net.a.gates + m.place) =
          ap (λ (y : ℕ). position_of net (lit_named B net.b y).node) (sym e) ∙ ap (position_of net) named ∙ m.position in
          let same : q.0 ≡ 1 + length net.a.inputs + length net.a.gates + m.place =
          same_Some q.0 (1 + length net.a.inputs + length net.a.gates + m.place) (sym q.1 ∙ place) in
          omega (arith, q.2) in
          elim which [
            | inl e ↦ go g.left e d.1
            | inr e ↦ go g.right e d.2
          ]

      pub twin-unmerged : IsRoot book.entries (Gate B g.var)
      twin-unmerged = up.open_gates k g (omega arith) at_b

      pub original-root : IsRoot book.entries (Gate A o.var)
      original-root =
          let is = original k o at_a in
          let place = (is-gate net asked.net_is is.place (definition_of A net.a o) (gate-a net asked.net_is is.place o is.at)).node in
          let stands : StandsInA net (positive (Gate A o.var)) = record { place = 1 + length net.a.inputs + is.place; at = place; below = omega (arith, is.below) } in
          subst (λ (l : Lit). IsRoot book.entries l.node) (root-as (Gate A o.var) false stands is.root)
          (root-unmerged net book up.legal (positive (Gate A o.var)))

      pub is-twin : IsTwin net book.entries (definition_of A net.a o) (definition_of B net.b g)
      is-twin = record {
        first = (original k o at_a).place;
        second = length net.a.gates + k;
        earlier = let below = (original k o at_a).below in omega (arith, below);
        at_first = gate-a net asked.net_is (original k o at_a).place o (original k o at_a).at;
        at_second = gate-b net asked.net_is k g at_b;
        unmerged = original-root;
        twins = twins;
      }
        where
          from : g ≡ reduced_gate net.a given.entries staying o
          from = made-from k g o at_b at_a

          left : ℕ
          left = root_renumbered net.a given.entries staying o.left

          right : ℕ
          right = root_renumbered net.a given.entries staying o.right

          stands : StandsInA net (lit_named A net.a o.left) × StandsInA net (lit_named A net.a o.right)
          stands = fanin-stands k o at_a

          same-left : (root_renumbered net.a given.entries staying o.left ≡ g.left) ⊎ (root_renumbered net.a given.entries staying o.left ≡ g.right)
              → root_of book.entries (lit_named A net.a o.left) ≡ root_of book.entries (lit_named B net.b (root_renumbered net.a given.entries staying o.left))
          same-left which =
              up.keeps (lit_named A net.a o.left) stands.0
              ∙ sym (root-back o.left stands.0 (fanin-reached k o at_a).0 (fanin-merged o.left stands.0 which))

          same-right : (root_renumbered net.a given.entries staying o.right ≡ g.left) ⊎ (root_renumbered net.a given.entries staying o.right ≡ g.right)
              → root_of book.entries (lit_named A net.a o.right) ≡ root_of book.entries (lit_named B net.b (root_renumbered net.a given.entries staying o.right))
          same-right which =
              up.keeps (lit_named A net.a o.right) stands.1
              ∙ sym (root-back o.right stands.1 (fanin-reached k o at_a).1 (fanin-merged o.right stands.1 which))

          by : (x : ℕ) (y : ℕ) → x ≡ y → root_of book.entries (lit_named B net.b x) ≡ root_of book.entries (lit_named B net.b y)
          by x y e = ap (λ (z : ℕ). root_of book.entries (lit_named B net.b z)) e

          twins : AreTwins book.entries (definition_of A net.a o) (definition_of B net.b g)
          twins = elim (cases_lt (root_renumbered net.a given.entries staying o.left) (root_renumbered net.a given.entries staying o.right)) [
            | inl less ↦
                let l : root_renumbered net.a given.entries staying o.left ≡ g.right =
                sym (ap (λ (x : And). x.right) from ∙ min-first _ _ less) in
                let r : root_renumbered net.a given.entries staying o.right ≡ g.left =
                sym (ap (λ (x : And). x.left) from ∙ max-second _ _ less) in
                inr (same-left (inr l) ∙ by _ _ l, same-right (inl r) ∙ by _ _ r)
            | inr more ↦
                let l : root_renumbered net.a given.entries staying o.left ≡ g.left =
                sym (ap (λ (x : And). x.left) from ∙ max-first _ _ more) in
                let r : root_renumbered net.a given.entries staying o.right ≡ g.right =
                sym (ap (λ (x : And). x.right) from ∙ min-second _ _ more) in
                inl (same-left (inl l) ∙ by _ _ l, same-right (inr r) ∙ by _ _ r)
          ]
