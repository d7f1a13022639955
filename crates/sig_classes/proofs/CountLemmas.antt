-- Which positions count, and what is left of classes without merged nodes.
use Rattle.std.proofs.Common.{◌≡◌, ◌∙◌, ℕ, ◌<◌, ◌≤◌, ◌==◌, ◌&&◌, nat_lt, Bool, true, false, not, List, [], length, take, refl, sym, ap, subst, arith, inl, inr, length-take, if◌then◌else◌}
use Rattle.std.specs.List.{AllByRecursion, slice_index_or}
use Rattle.std.proofs.lemmas.Bool.Decides.{nat_tests, eqb_tells}
use Rattle.std.proofs.lemmas.List.{get_or-take}
use Rattle.lits.specs.declared.node.Node.{Node}
use Rattle.lits.specs.declared.literal.Lit.{Lit}
use Rattle.netlist.specs.Net.{AigPair, IsNet, nodes_of, node_at, value_of}
use Rattle.netlist.proofs.Facts.{node-at, position-node}
use Rattle.word_sim.specs.Rows.{Signatures}
use Rattle.lemma_book.specs.Entry.{Entries}
use Rattle.lemma_book.specs.Root.{IsRoot, root_of}
use Rattle.lemma_book.specs.Book.{IsLegal}
use Rattle.lemma_book.specs.Agreement.{HaveOneValue}
use Rattle.lemma_book.proofs.Facts.{root-unmerged, root-lower}
use Rattle.sig_classes.specs.Chains.{class_of}
use Rattle.sig_classes.specs.Pass.{root_at}
use Rattle.sig_classes.specs.Kept.{AreSame, AreClasses, AreKept, AreLeast, AreWithout, HaveRoots, Kept, counts}
use Rattle.sig_classes.proofs.LeaderLemmas.{fact-at, is-root, place-inside, turned-right}

-- a position that is small enough counts, and one that is left out doesn't
pub counts-low : (leaders : List ℕ) (p : ℕ) → class_of leaders p < 4294967295 → counts leaders p ≡ true
counts-low leaders p low = elim (eqb_tells (class_of leaders p) 4294967295) [
  | inl e ↦ absurd (omega (arith, e.1, low))
  | inr e ↦ rw e.0 refl
]

pub counts-out : (leaders : List ℕ) (p : ℕ) → class_of leaders p ≡ 4294967295 → counts leaders p ≡ false
counts-out leaders p out = rw out refl

-- what counted before counts after
pub stays : (classes : List ℕ) (sigs : Signatures) (n : ℕ) (new : List ℕ) → AreLeast classes sigs n new → n ≤ 4294967295
    → (p : ℕ) → p < n → counts new p ≡ counts classes p
stays classes sigs n new least few p below = go (counts classes p) refl
  where
    go : (b : Bool) → counts classes p ≡ b → counts new p ≡ b
    go true e = counts-low new p (omega (arith, (least.each p below e).low, below, few))
    go false e = counts-out new p (least.out p below e)

-- ---- without merged nodes

module _ (net : AigPair) (is : IsNet net) (book : Entries) (legal : IsLegal net book)
    (keeps : (l : Lit) → HaveOneValue net l (root_of book.entries l)) (patterns : List (List Bool))
    (whole : (k : ℕ) → k < length patterns → length (slice_index_or patterns k []) ≡ length net.a.inputs) where
  abbrev root : ℕ → Bool
  root = root_at net book.entries

  -- a root that no pattern tells apart from the position, which isn't later
  root-same : (p : ℕ) → p < length (nodes_of net)
      → (r : ℕ) × (r < length (nodes_of net)) × (root r ≡ true) × AreSame net patterns r p × (r ≤ p)
  root-same p below =
      let node = node_at net p in
      let lit : Lit = record { node = node_at net p; neg = false } in
      let target = root_of book.entries (record { node = node_at net p; neg = false }) in
      let low = root-lower net book legal (record { node = node_at net p; neg = false }) p (position-node net is p below) in
      let here : node_at net low.0 ≡ target.node = node-at net target.node low.0 low.1 in
      let value : (k : ℕ) → k < length patterns → value_of net (slice_index_or patterns k []) (node_at net p)
      ≡ (if target.neg then not (value_of net (slice_index_or patterns k []) (node_at net low.0))
      else value_of net (slice_index_or patterns k []) (node_at net low.0)) =
      λ k less.
      subst (λ (n : Node). value_of net (slice_index_or patterns k []) (node_at net p)
      ≡ (if target.neg then not (value_of net (slice_index_or patterns k []) n) else value_of net (slice_index_or patterns k []) n))
      (sym here) (keeps (record { node = node_at net p; neg = false }) (slice_index_or patterns k []) (whole k less)) in (
        low.0,
        place-inside net target.node low.0 low.1,
        is-root book.entries (node_at net low.0) (subst (IsRoot book.entries) (sym here) (root-unmerged net book legal (record { node = node_at net p; neg = false }))),
        (λ k less.
            rw (value 0 (omega (arith, less)), value k less)
            (turned-right (value_of net (slice_index_or patterns k []) (node_at net low.0)) (value_of net (slice_index_or patterns 0 []) (node_at net low.0)) target.neg)),
        low.2,
      )

  module _ (old new : List ℕ) (without : AreWithout net book.entries (length (nodes_of net)) old new) (roots : HaveRoots net book.entries old) where
    -- a root stays as it was
    kept-root : (p : ℕ) → root p ≡ true → class_of new p ≡ class_of old p
    kept-root p is_root =
        without.each p ∙ rw is_root (go (nat_lt p (length (nodes_of net))))
      where
        go : (b : Bool) → (if b && false then 4294967295 else class_of old p) ≡ class_of old p
        go true = refl
        go false = refl

    pub roots-stay : HaveRoots net book.entries new
    roots-stay p below is_root = ap (λ (q : ℕ). not (q == 4294967295)) (kept-root p is_root) ∙ roots p below is_root

    -- and else nothing counts
    only-roots : (p : ℕ) → p < length (nodes_of net) → counts new p ≡ true → root p ≡ true
    only-roots p below counting = go (root p) refl
      where
        go : (b : Bool) → root p ≡ b → b ≡ true
        go true e = refl
        go false e =
            let inside : nat_lt p (length (nodes_of net)) ≡ true = grind (arith, nat_tests, below) in
            let out : class_of new p ≡ 4294967295 = without.each p ∙ rw (inside, e) refl in
            let f : true ≡ false = sym counting ∙ counts-out new p out in cc

    pub without-merged : AreClasses net patterns old → AreClasses net patterns new
    without-merged classes = record {
      size = without.size ∙ classes.size;
      each = λ p below counting.
          let open-p : root p ≡ true = only-roots p below counting in
          let l = classes.each p below (roots p below open-p) in
          let there : class_of old p < length (nodes_of net) = omega (arith, l.low, below) in
          let earlier = root-same (class_of old p) there in
          let not-less : earlier.0 < class_of old p → ⊥ = λ less.
          l.least earlier.0 less (roots earlier.0 earlier.1 earlier.2) (join earlier.0 (class_of old p) p earlier.3 l.same) in
          let same : earlier.0 ≡ class_of old p = omega (arith, not-less, earlier.4) in
          let lead : root (class_of old p) ≡ true = sym (ap root same) ∙ earlier.2 in
          subst (λ (q : ℕ). Rattle.sig_classes.specs.Kept.IsLeastSame net patterns (counts new) q p) (sym (kept-root p open-p))
          (record {
            low = l.low;
            own = roots-stay (class_of old p) there lead;
            same = l.same;
            least = λ r less counts-r.
                let inside : r < length (nodes_of net) = omega (arith, less, there) in
                l.least r less (roots r inside (only-roots r inside counts-r));
          });
    }
      where
        join : (r q p : ℕ) → AreSame net patterns r q → AreSame net patterns q p → AreSame net patterns r p
        join r q p one two k less = one k less ∙ two k less

-- the classes that are kept
pub kept-without : (net : AigPair) → IsNet net → (book : Entries) → IsLegal net book → ((l : Lit) → HaveOneValue net l (root_of book.entries l))
    → (patterns : List (List Bool)) → AllByRecursion (λ bits. length bits ≡ length net.a.inputs) patterns → (seen : ℕ) (old new : List ℕ)
    → AreWithout net book.entries (length (nodes_of net)) old new → HaveRoots net book.entries old
    → AreKept net patterns (record { seen = seen; leaders = old }) → AreKept net patterns (record { seen = seen; leaders = new })
kept-without net is book legal keeps patterns whole seen old new without roots kept = record {
  some = kept.some;
  classes = without-merged net is book legal keeps (take seen patterns)
      (λ k less.
      let inside : k < seen = omega (arith, length-take seen patterns, less) in
      ap (λ (bits : List Bool). length bits) (get_or-take seen patterns k [] inside)
      ∙ fact-at (λ bits. length bits ≡ length net.a.inputs) patterns k [] whole (omega (arith, length-take seen patterns, less)))
      old new without roots kept.classes;
}
