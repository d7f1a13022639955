-- Candidates and leaders by rows: a literal is a candidate exactly where its node's row is alike and its sign fits.
use Rattle.std.proofs.Common.{◌≡◌, ◌∙◌, ℕ, zero, suc, ◌<◌, nat_lt, Bool, true, false, not, Option, None, Some, List, [], ◌∷◌, length, refl, sym, ap, ap₂, subst, arith, if◌then◌else◌}
use Rattle.std.specs.Option.{is_some, IsSome}
use Rattle.std.specs.List.{AllByRecursion, slice_index_or}
use Rattle.std.proofs.lemmas.Bool.Decides.{nat_tests}
use Rattle.lits.specs.declared.node.Node.{Node}
use Rattle.lits.specs.declared.literal.Lit.{Lit}
use Rattle.netlist.specs.Net.{AigPair, IsNet, nodes_of, node_at, position_of, value_of, lit_holds, differs}
use Rattle.netlist.proofs.Facts.{at-place, node-at, position-node}
use Rattle.word_sim.specs.Rows.{HasBits, Signatures, AreSignatures, value_on, turned}
use Rattle.lemma_book.specs.declared.entry.Entry.{Entry}
use Rattle.lemma_book.specs.Root.{MergeAt, merge_of, IsRoot}
use Rattle.lemma_book.specs.Good.{IsBefore, IsEarlier}
use Rattle.sig_classes.specs.Leader.{IsAlike, IsCandidate, IsLeader}
use Rattle.sig_classes.specs.Alike.{row_of, first_bit}
use Rattle.sig_classes.specs.Chains.{are_alike}
use Rattle.sig_classes.specs.Pass.{root_at, lit_between}
use Rattle.sig_classes.specs.Kept.{AreSame}
use Rattle.sig_classes.proofs.AlikeLemmas.{first-value, alike-values, values-alike}

-- what holds of each element, by its place
pub fact-at : {X : Type 0} (P : X → Type 0) (xs : List X) (k : ℕ) (d : X) → AllByRecursion P xs → k < length xs → P (slice_index_or xs k d)
fact-at P [] k d all below = absurd (omega arith)
fact-at P (x ∷ xs) zero d all below = all.0
fact-at P (x ∷ xs) (suc k) d all below = fact-at P xs k d all.1 (omega arith)

pub fact-each : {X : Type 0} (P : X → Type 0) (xs : List X) (d : X) → ((k : ℕ) → k < length xs → P (slice_index_or xs k d)) → AllByRecursion P xs
fact-each P [] d each = tt
fact-each P (x ∷ xs) d each = (each 0 (omega arith), fact-each P xs d (λ k below. each (suc k) (omega arith)))

-- a node that isn't merged
pub root-is : (entries : List Entry) (n : Node) → not (is_some (merge_of entries n)) ≡ true → IsRoot entries n
root-is entries n e = go (merge_of entries n) e
  where
    go : (o : Option MergeAt) → not (is_some o) ≡ true → o ≡ None
    go None f = refl
    go (Some m) f = cc

pub is-root : (entries : List Entry) (n : Node) → IsRoot entries n → not (is_some (merge_of entries n)) ≡ true
is-root entries n e = rw e refl

-- the position of a node that has one
pub place-of : (net : AigPair) (n : Node) → IsSome (position_of net n) → (p : ℕ) × (position_of net n ≡ Some p)
place-of net n there = go (position_of net n) refl there
  where
    go : (o : Option ℕ) → position_of net n ≡ o → IsSome o → (p : ℕ) × (position_of net n ≡ Some p)
    go (Some p) e h = (p, e)
    go None e h = cc

pub place-inside : (net : AigPair) (n : Node) (p : ℕ) → position_of net n ≡ Some p → p < length (nodes_of net)
place-inside net n p e = (at-place (λ m. Rattle.lits.specs.Same.same_node m n) (nodes_of net) p e).3

-- an earlier literal, by positions
pub earlier-is : (net : AigPair) (n : Node) (l : Lit) (p q : ℕ) → position_of net n ≡ Some p → position_of net l.node ≡ Some q → q < p
    → IsEarlier net n l
earlier-is net n l p q here there less = rw (there, here) less

pub is-earlier : (net : AigPair) (n : Node) (l : Lit) (p : ℕ) → position_of net n ≡ Some p → IsEarlier net n l
    → (q : ℕ) × (position_of net l.node ≡ Some q) × (q < p)
is-earlier net n l p here less = go (position_of net l.node) refl (rw here at less)
  where
    go : (o : Option ℕ) → position_of net l.node ≡ o → IsBefore o (Some p) → (q : ℕ) × (position_of net l.node ≡ Some q) × (q < p)
    go (Some q) e h = (q, e, h)
    go None e h = absurd h

turned-left : (a b x y : Bool) → turned a x ≡ turned b y → y ≡ (if differs a b then not x else x)
turned-left true true true true e = refl
turned-left true true true false e = cc
turned-left true true false true e = cc
turned-left true true false false e = refl
turned-left true false x y e = sym e
turned-left false true true true e = cc
turned-left false true true false e = refl
turned-left false true false true e = refl
turned-left false true false false e = cc
turned-left false false x y e = sym e

pub turned-right : (x first neg : Bool) → turned first x ≡ turned (if neg then not first else first) (if neg then not x else x)
turned-right true true true = refl
turned-right true true false = refl
turned-right true false true = refl
turned-right true false false = refl
turned-right false true true = refl
turned-right false true false = refl
turned-right false false true = refl
turned-right false false false = refl

sign-is : (first neg : Bool) → neg ≡ differs first (if neg then not first else first)
sign-is true true = refl
sign-is true false = refl
sign-is false true = refl
sign-is false false = refl

module _ (net : AigPair) (is : IsNet net) (entries : List Entry) (patterns : List (List Bool)) (sigs : Signatures)
    (are : AreSignatures net patterns sigs) where
  abbrev row : ℕ → List ℕ
  row p = row_of sigs p

  abbrev value : ℕ → ℕ → Bool
  value p k = value_on net patterns (node_at net p) k

  inside : (p : ℕ) → p < length (nodes_of net) → p < length sigs.rows
  inside p below = omega (arith, are.count)

  bits : (p : ℕ) → p < length (nodes_of net) → HasBits sigs.patterns (value p) (row p)
  bits p below = subst (λ (n : ℕ). HasBits n (value p) (row p)) (sym are.size) (are.each p (inside p below))

  -- the node at q, with the sign that the first bits give, has the value of that at p where their rows are alike
  pub alike-literal : (p q : ℕ) → p < length (nodes_of net) → q < length (nodes_of net) → are_alike sigs q p ≡ true
      → IsAlike net patterns (node_at net p) (lit_between net sigs q p)
  alike-literal p q below there one =
      fact-each (λ bs. value_of net bs (node_at net p) ≡ lit_holds (value_of net bs) (lit_between net sigs q p)) patterns []
      (λ k less. turned-left (first_bit (row q)) (first_bit (row p)) (value q k) (value p k)
      (alike-values sigs.patterns (value q) (value p) (row q) (row p) (bits q there) (bits p below) one k (omega (arith, are.size, less))))

  pub first-bit : (p : ℕ) → p < length (nodes_of net) → first_bit (row p) ≡ value p 0
  first-bit p below =
      let some : nat_lt 0 sigs.patterns ≡ true = let l : 0 < sigs.patterns = omega (arith, are.size, are.some) in grind (arith, nat_tests, l) in
      first-value sigs.patterns (value p) (row p) (bits p below) ∙ rw some refl

  -- positions with rows alike have values that no pattern tells apart, and the other way round
  pub alike-same : (p q : ℕ) → p < length (nodes_of net) → q < length (nodes_of net) → are_alike sigs q p ≡ true → AreSame net patterns q p
  alike-same p q below there one k less =
      sym (ap (λ (b : Bool). turned b (value q k)) (first-bit q there))
      ∙ alike-values sigs.patterns (value q) (value p) (row q) (row p) (bits q there) (bits p below) one k (omega (arith, are.size, less))
      ∙ ap (λ (b : Bool). turned b (value p k)) (first-bit p below)

  pub same-alike : (p q : ℕ) → p < length (nodes_of net) → q < length (nodes_of net) → AreSame net patterns q p → are_alike sigs q p ≡ true
  same-alike p q below there same =
      values-alike sigs.patterns (value q) (value p) (row q) (row p) (bits q there) (bits p below) (λ k less.
      ap (λ (b : Bool). turned b (value q k)) (first-bit q there) ∙ same k (omega (arith, are.size, less))
      ∙ sym (ap (λ (b : Bool). turned b (value p k)) (first-bit p below)))

  -- and the other way round: a literal with the node's value on each pattern
  pub literal-alike : (p q : ℕ) (neg : Bool) → p < length (nodes_of net) → q < length (nodes_of net)
      → IsAlike net patterns (node_at net p) (record { node = node_at net q; neg = neg })
      → (are_alike sigs q p ≡ true) × (neg ≡ differs (first_bit (row q)) (first_bit (row p)))
  literal-alike p q neg below there same =
      let each : (k : ℕ) → k < length patterns → value p k ≡ (if neg then not (value q k) else value q k) =
      λ k less. fact-at (λ bs. value_of net bs (node_at net p) ≡ lit_holds (value_of net bs) (record { node = node_at net q; neg = neg })) patterns k [] same less in
      let zero-at : value p 0 ≡ (if neg then not (value q 0) else value q 0) = each 0 are.some in
      let second : first_bit (row p) ≡ (if neg then not (value q 0) else value q 0) = first-bit p below ∙ zero-at in (
        values-alike sigs.patterns (value q) (value p) (row q) (row p) (bits q there) (bits p below) (λ k less.
            rw (first-bit q there, second, each k (omega (arith, are.size, less))) (turned-right (value q k) (value q 0) neg)),
        sign-is (value q 0) neg ∙ sym (ap₂ differs (first-bit q there) second),
      )

  -- a candidate, by its position
  pub candidate-at : (p : ℕ) (l : Lit) → p < length (nodes_of net) → IsCandidate net entries patterns (node_at net p) l
      → (q : ℕ) → position_of net l.node ≡ Some q
      → (root_at net entries q ≡ true) × (are_alike sigs q p ≡ true) × (l ≡ lit_between net sigs q p)
  candidate-at p l below candidate q place =
      let here : node_at net q ≡ l.node = node-at net l.node q place in
      let there : q < length (nodes_of net) = place-inside net l.node q place in
      let alike = literal-alike p q l.neg below there
      (subst (λ (n : Node). IsAlike net patterns (node_at net p) (record { node = n; neg = l.neg })) (sym here) candidate.alike) in (
        is-root entries (node_at net q) (subst (IsRoot entries) (sym here) candidate.root),
        alike.0,
        ap₂ (λ (n : Node) (b : Bool). record { node = n; neg = b }) (sym here) alike.1,
      )

  pub is-candidate : (p q : ℕ) → p < length (nodes_of net) → q < length (nodes_of net) → root_at net entries q ≡ true
      → are_alike sigs q p ≡ true → IsCandidate net entries patterns (node_at net p) (lit_between net sigs q p)
  is-candidate p q below there root one = record {
    there = ap is_some (position-node net is q there);
    root = root-is entries (node_at net q) root;
    alike = alike-literal p q below there one;
  }

  -- the least root whose row is alike leads
  pub leader-at : (p q : ℕ) → p < length (nodes_of net) → q < length (nodes_of net) → root_at net entries q ≡ true
      → are_alike sigs q p ≡ true → ((r : ℕ) → r < q → root_at net entries r ≡ true → are_alike sigs r p ≡ false)
      → IsLeader net entries patterns (node_at net p) (lit_between net sigs q p)
  leader-at p q below there root one least = record {
    candidate = is-candidate p q below there root one;
    least = λ m earlier candidate.
        let e = is-earlier net (node_at net q) m q (position-node net is q there) earlier in
        let c = candidate-at p m below candidate e.0 e.1 in
        let f : true ≡ false = sym c.1 ∙ least e.0 e.2 c.0 in cc;
  }

  -- and it alone
  pub leader-is : (p q : ℕ) (l : Lit) → p < length (nodes_of net) → q < length (nodes_of net) → root_at net entries q ≡ true
      → are_alike sigs q p ≡ true → ((r : ℕ) → r < q → root_at net entries r ≡ true → are_alike sigs r p ≡ false)
      → IsLeader net entries patterns (node_at net p) l → l ≡ lit_between net sigs q p
  leader-is p q l below there root one least leader =
      let place = place-of net l.node leader.candidate.there in
      let c = candidate-at p l below leader.candidate place.0 place.1 in
      let not-less : place.0 < q → ⊥ = λ less. let f : true ≡ false = sym c.1 ∙ least place.0 less c.0 in cc in
      let not-more : q < place.0 → ⊥ = λ more.
      leader.least (lit_between net sigs q p)
      (earlier-is net l.node (lit_between net sigs q p) place.0 q place.1 (position-node net is q there) more)
      (is-candidate p q below there root one) in
      let same : place.0 ≡ q = omega (arith, not-less, not-more) in
      subst (λ (k : ℕ). l ≡ lit_between net sigs k p) same c.2
