-- An output whose literals have one root: unit propagation over the clauses of the XOR and of the merges on the two paths
-- shows that the XOR is false, in two steps at most.
use Rattle.std.proofs.Common.{◌≡◌, ◌≢◌, ℕ, ◌≤◌, Bool, true, false, not, Some, None, List, [], ◌∷◌, ◌++◌, length, take, refl, sym, ap, ◌∙◌, subst, inr, arith}
use Rattle.std.specs.Option.{IsSome}
use Rattle.std.specs.List.{AllByRecursion}
use Rattle.std.proofs.lemmas.List.{map-append}
use Rattle.std.proofs.lemmas.Bool.{or_left, or_right}
use Rattle.std.proofs.lemmas.Option.{none-some, same_Some}
use Rattle.std.proofs.Math.Seq.{take-length}
use Rattle.lits.specs.Clause.{has}
use Rattle.lits.specs.Same.{same_node, same_lit, opposite}
use Rattle.lits.specs.declared.node.Side.TheVariants.{A, B}
use Rattle.lits.specs.declared.node.Side.{Side}
use Rattle.lits.specs.declared.node.Node.{Node}
use Rattle.lits.specs.declared.node.Node.TheVariants.{Xor}
use Rattle.lits.specs.declared.literal.Lit.{Lit}
use Rattle.lits.specs.declared.step.Ref.{Ref}
use Rattle.lits.specs.declared.step.Ref.TheVariants.{Axiom, Entry as Shown, Own, Bound}
use Rattle.lits.specs.declared.step.Named.{Named}
use Rattle.lits.specs.declared.step.Step.{Step}
use Rattle.lits.specs.contracts.literal.LitLiteral.TheImpl.Laws as lit
use Rattle.lits.proofs.Facts.{exact-lit, all-append, all-parts, lit_laws}
use Rattle.netlist.specs.declared.gate.Definition.{Definition}
use Rattle.netlist.specs.Net.{AigPair, defined_by}
use Rattle.netlist.specs.Miter.{positive, negative, kept, xor_clauses, variable_of}
use Rattle.netlist.proofs.Facts.{output_lit, output_of-below, variables-outputs}
use Rattle.unit_prop.specs.Closure.{IsOpen}
use Rattle.unit_prop.specs.Log.{base_clause, base_clauses, with_own, IsStepAfter, IsChain}
use Rattle.unit_prop.specs.Step.{IsStep}
use Rattle.unit_prop.proofs.Facts.{contrary, step-more, AreNamed, base_clause-is, named-all, Takes, take-second}
use Rattle.lemma_book.specs.declared.entry.Entry.{Entry}
use Rattle.lemma_book.specs.declared.entry.Entry.TheVariants.{Out}
use Rattle.lemma_book.specs.Cone.{AreThere, Covers, clauses_on, nodes_in}
use Rattle.lemma_book.specs.Entry.{Entries, equal_clause}
use Rattle.lemma_book.specs.Good.{AreOver, EndsIn, out_clause, IsGood}
use Rattle.lemma_book.specs.Root.{merge_of, passed_by, root_of, IsRoot}
use Rattle.lemma_book.proofs.Facts.{good-out, root-opposite, is_some-variable, apart-lits, on-named, HasItsName, takes-axioms, covers-opposite, passed-there, together, covers-left, covers-right, covers-self}
use Rattle.lemma_book.proofs.Facts.{xor-there, xor-variable, xor-unmerged, output-no_xor, xor-definition, xor-axioms_are}
use Rattle.lemma_book.proofs.Facts.{output-unsettled}
use Rattle.equal_outputs.specs.EqualRoots.{with_first, AreShown, HaveOneRoot, HaveOtherRoots, IsUnsettled, IsWayTo, Shows}
use Rattle.equal_outputs.proofs.XorPropagation.{xor-other, xor-same}

module _ (net : AigPair) (book : Entries) (j : ℕ) (asks : IsUnsettled net book j) where
  abbrev x : Node
  x = Xor j

  abbrev a : Lit
  a = output_lit net A j

  abbrev b : Lit
  b = output_lit net B j

  -- an output's literal has a variable
  pub side-there : (s : Side) → IsSome (variable_of net (output_lit net s j).node)
  side-there s =
      is_some-variable net (output_lit net s j).node
      ∙ (variables-outputs net asks.net_is).output s j (output_lit net s j) (output_of-below net asks.net_is s j asks.below)
      (xor-there net asks.net_is j asks.below)

  abbrev way : List Lit
  way = ((positive x ∷ []) ++ passed_by book.entries a) ++ passed_by book.entries b

  pub way-there : AreThere net way
  way-there =
      all-append (λ l. IsSome (variable_of net l.node)) ((positive x ∷ []) ++ passed_by book.entries a) (passed_by book.entries b)
      (all-append (λ l. IsSome (variable_of net l.node)) (positive x ∷ []) (passed_by book.entries a) (xor-variable net asks.net_is j asks.below, tt)
      (passed-there net book asks.legal (length book.entries) a))
      (passed-there net book asks.legal (length book.entries) b)

  abbrev base : List Named
  base = clauses_on net book.entries (nodes_in way)

  xor-inside : has same_node (nodes_in way) x ≡ true
  xor-inside =
      (covers-left ((positive x ∷ []) ++ passed_by book.entries a) (passed_by book.entries b) (positive x ∷ [])
      (covers-left (positive x ∷ []) (passed_by book.entries a) (positive x ∷ []) (covers-self (positive x ∷ [])))).0

  on_a : Covers (nodes_in way) (passed_by book.entries a)
  on_a =
      covers-left ((positive x ∷ []) ++ passed_by book.entries a) (passed_by book.entries b) (passed_by book.entries a)
      (covers-right (positive x ∷ []) (passed_by book.entries a) (passed_by book.entries a) (covers-self (passed_by book.entries a)))

  on_b : Covers (nodes_in way) (passed_by book.entries b)
  on_b =
      covers-right ((positive x ∷ []) ++ passed_by book.entries a) (passed_by book.entries b) (passed_by book.entries b)
      (covers-self (passed_by book.entries b))

  root : IsRoot book.entries x
  root =
      subst (λ (es : List Entry). merge_of es x ≡ None) (take-length book.entries)
      (xor-unmerged net book asks.legal (length book.entries) j)

  module _ (same : root_of book.entries a ≡ root_of book.entries b) where
    -- they aren't complements of each other
    apart : same_lit b (opposite a) ≡ false
    apart = go (same_lit b (opposite a)) refl
      where
        go : (c : Bool) → same_lit b (opposite a) ≡ c → c ≡ false
        go false e = refl
        go true e =
            let r = root_of book.entries a in
            let turned : opposite r ≡ r =
            sym (root-opposite book.entries a) ∙ (ap (root_of book.entries) (sym (exact-lit b (opposite a) e)) ∙ sym same) in
            contrary (same_lit r r) (lit_laws.equivalence.refl r) (ap (same_lit r) (sym turned) ∙ lit.differs-law r)

    module _ (p : Lit → Bool) (units : AllByRecursion (Takes p) (base_clauses base)) (on : p (positive x) ≡ true) where
      xor-takes : AllByRecursion (Takes p) (kept (xor_clauses x a b))
      xor-takes =
          subst (AllByRecursion (Takes p)) (xor-axioms_are net asks.net_is j asks.below)
          (takes-axioms net book.entries (nodes_in way) p units x xor-inside (xor-there net asks.net_is j asks.below) root)

      -- where the XOR is true, no output is: the other one has its value
      off-clash : p (opposite a) ≡ true → (p b ≡ true) × (p (opposite b) ≡ true)
      off-clash off = (
        xor-other p x a b (output-no_xor net A j j) (output-no_xor net B j j) apart xor-takes on off,
        together net book asks.legal (nodes_in way) p units (opposite a) (opposite b)
            (root-opposite book.entries a ∙ (ap opposite same ∙ sym (root-opposite book.entries b)))
            (covers-opposite (nodes_in way) (length book.entries) book.entries a on_a) (covers-opposite (nodes_in way) (length book.entries) book.entries b on_b) off,
      )

      on-clash : p a ≡ true → (p b ≡ true) × (p (opposite b) ≡ true)
      on-clash h = (
        together net book asks.legal (nodes_in way) p units a b same on_a on_b h,
        xor-same p x a b (output-no_xor net A j j) (output-no_xor net B j j) apart xor-takes on h,
      )

    first : Shows (base_clauses base) (negative x ∷ a ∷ [])
    first is =
        let both = off-clash is.set is.closed.units (is.closed.starts (positive x) (or_left _ _ (lit_laws.equivalence.refl (positive x))))
        (is.closed.starts (opposite a) (or_right (same_lit (positive x) (opposite a)) _ (or_left _ false (lit_laws.equivalence.refl (opposite a))))) in
        is.apart (inr (b, both.0, both.1))

    -- the base with the first step's clause
    abbrev half : List Lit
    half = negative x ∷ a ∷ []

    split : base_clauses (with_first base half) ≡ base_clauses base ++ half ∷ []
    split = map-append (λ n. n.clause) base (record { clause = half; by = Own 0 } ∷ [])

    second : Shows (base_clauses (with_first base half)) (negative x ∷ [])
    second given =
        let is : IsOpen same_lit opposite (base_clauses base ++ half ∷ []) (positive x ∷ []) =
        subst (λ (cs : List (List Lit)). IsOpen same_lit opposite cs (positive x ∷ [])) split given in
        let on : is.set (positive x) ≡ true = is.closed.starts (positive x) (or_left _ false (lit_laws.equivalence.refl (positive x))) in
        let parts = all-parts (Takes is.set) (base_clauses base) (half ∷ []) is.closed.units in
        let both = on-clash is.set parts.0 on (take-second is.set (negative x) a parts.1.0 on) in
        is.apart (inr (b, both.0, both.1))

    -- ---- names
    owned : (before : List Step) (ms : List Named) → AllByRecursion (HasItsName net book.entries) ms → AreNamed (with_own (out_clause net book.entries) before) ms
    owned before [] all = tt
    owned before (m ∷ ms) all = (go m.by all.0, owned before ms all.1)
      where
        go : (r : Ref) → out_clause net book.entries r ≡ Some m.clause → with_own (out_clause net book.entries) before r ≡ Some m.clause
        go (Axiom node k) e = e
        go (Shown i k) e = e
        go (Bound side k) e = e
        go (Own k) e = absurd (none-some m.clause e)

    base-owned : (before : List Step) → AreNamed (with_own (out_clause net book.entries) before) base
    base-owned before = owned before base (on-named net book.entries (nodes_in way))

    more-owned : (r : Step) → AreNamed (with_own (out_clause net book.entries) (r ∷ [])) (with_first base r.clause)
    more-owned r =
        all-append (λ n. with_own (out_clause net book.entries) (r ∷ []) n.by ≡ Some n.clause) base (record { clause = r.clause; by = Own 0 } ∷ [])
        (base-owned (r ∷ [])) (refl, tt)

    pub way-to : IsWayTo base (negative x) a
    way-to = record {
      clause = record {
        once = rw (apart-lits a (negative x) (output-no_xor net A j j)) refl;
        apart = rw (apart-lits a (positive x) (output-no_xor net A j j)) refl;
      };
      named = named-all (with_own (out_clause net book.entries) []) base (base-owned []);
      named_more = named-all (with_own (out_clause net book.entries) (record { clause = half; hints = [] } ∷ [])) (with_first base half) (more-owned (record { clause = half; hints = [] }));
      first = first;
      second = second;
    }

    -- ---- the entry
    module _ (steps : List Step) (over : AreOver net steps) (ends : EndsIn (equal_clause j ∷ []) steps) (few : length steps ≤ 2)
        (chain : IsChain (out_clause net book.entries) steps) where
      settles : IsGood net book (Out j steps)
      settles =
          good-out net book j steps asks.below over (output-unsettled book.entries j asks.unsettled) ends (omega (arith, few)) chain

    -- a step over the base, or over it with the first step's clause, is one of the entry
    step-in : (before : List Step) (ms : List Named) → AreNamed (with_own (out_clause net book.entries) before) ms → (s : Step)
        → IsStep same_lit opposite (base_clause ms) s.clause s.hints → IsStepAfter (out_clause net book.entries) before s
    step-in before ms named s step =
        step-more same_lit opposite (base_clause ms) (with_own (out_clause net book.entries) before)
        (base_clause-is (with_own (out_clause net book.entries) before) ms named) s.clause s.hints step

    pub shown-settles : (steps : List Step) → AreShown base (negative x) a steps → IsGood net book (Out j steps)
    shown-settles [] shown = absurd shown
    shown-settles (s ∷ []) shown =
        settles (s ∷ []) (subst (AreThere net) (sym shown.0) (xor-variable net asks.net_is j asks.below, tt), tt)
        (record { before = []; last = s ∷ []; parts = refl; clauses_are = ap (λ (c : List Lit). c ∷ []) shown.0 }) (omega arith)
        (step-in [] base (base-owned []) s shown.1, tt)
    shown-settles (r ∷ s ∷ []) shown =
        settles (r ∷ s ∷ [])
        (subst (AreThere net) (sym shown.0.0) (xor-variable net asks.net_is j asks.below, (side-there A, tt)), (subst (AreThere net) (sym shown.1.0) (xor-variable net asks.net_is j asks.below, tt), tt))
        (record { before = r ∷ []; last = s ∷ []; parts = refl; clauses_are = ap (λ (c : List Lit). c ∷ []) shown.1.0 }) (omega arith)
        (step-in [] base (base-owned []) r shown.0.1, (step-in (r ∷ []) (with_first base r.clause) (more-owned r) s shown.1.1, tt))
    shown-settles (q ∷ r ∷ s ∷ ss) shown = absurd shown

-- ---- as the program meets them
pub equal-lits : (l r : Lit) (b : Bool) → b ≡ not (same_lit l r) → b ≡ false → l ≡ r
equal-lits l r b e f = go (same_lit l r) refl
  where
    go : (c : Bool) → same_lit l r ≡ c → l ≡ r
    go true g = exact-lit l r g
    go false g = let h : true ≡ false = ap not (sym g) ∙ (sym e ∙ f) in cc

pub other-lits : (l r : Lit) (b : Bool) → b ≡ not (same_lit l r) → b ≡ true → l ≢ r
other-lits l r b e f same =
    let g : same_lit l r ≡ true = subst (λ (m : Lit). same_lit l m ≡ true) same (lit_laws.equivalence.refl l) in
    let h : true ≡ false = sym f ∙ (e ∙ ap not g) in cc

module _ (net : AigPair) (book : Entries) (j : ℕ) (asks : IsUnsettled net book j) (d : Definition) (is : defined_by net (Xor j) ≡ Some d)
    (l r : Lit) (left : l ≡ root_of book.entries d.left) (right : r ≡ root_of book.entries d.right) where
  definition-is : d ≡ record { node = Xor j; left = output_lit net A j; right = output_lit net B j }
  definition-is = same_Some d (record { node = Xor j; left = output_lit net A j; right = output_lit net B j }) (sym is ∙ xor-definition net asks.net_is j asks.below)

  left-is : d.left ≡ output_lit net A j
  left-is = ap (λ (e : Definition). e.left) definition-is

  right-is : d.right ≡ output_lit net B j
  right-is = ap (λ (e : Definition). e.right) definition-is

  pub other-roots : l ≢ r → HaveOtherRoots net book.entries j
  other-roots differ p q e f same =
      let on_a : p ≡ d.left = same_Some p (output_lit net A j) (sym e ∙ output_of-below net asks.net_is A j asks.below) ∙ sym left-is in
      let on_b : q ≡ d.right = same_Some q (output_lit net B j) (sym f ∙ output_of-below net asks.net_is B j asks.below) ∙ sym right-is in
      differ (left ∙ (ap (root_of book.entries) (sym on_a) ∙ (same ∙ (ap (root_of book.entries) on_b ∙ sym right))))

  pub one-root : l ≡ r → HaveOneRoot net book.entries j
  one-root same p q e f =
      let on_a : p ≡ d.left = same_Some p (output_lit net A j) (sym e ∙ output_of-below net asks.net_is A j asks.below) ∙ sym left-is in
      let on_b : q ≡ d.right = same_Some q (output_lit net B j) (sym f ∙ output_of-below net asks.net_is B j asks.below) ∙ sym right-is in
      ap (root_of book.entries) on_a ∙ (sym left ∙ (same ∙ (right ∙ ap (root_of book.entries) (sym on_b))))

  module _ (lits : List Lit) (are : lits ≡ ((positive (Xor j) ∷ []) ++ passed_by book.entries d.left) ++ passed_by book.entries d.right) where
    lits-way : lits ≡ way net book j asks
    lits-way =
        are ∙ ap (λ (e : Definition). ((positive (Xor j) ∷ []) ++ passed_by book.entries e.left) ++ passed_by book.entries e.right) definition-is

    pub lits-there : AreThere net lits
    lits-there = subst (AreThere net) (sym lits-way) (way-there net book j asks)

    module _ (equal : l ≡ r) (ms : List Named) (seen : ℕ) (count : seen ≡ length book.entries)
        (clauses : ms ≡ clauses_on net (take seen book.entries) (nodes_in lits)) (x : Lit) (x-is : x ≡ negative (Xor j)) where
      same-roots : root_of book.entries (output_lit net A j) ≡ root_of book.entries (output_lit net B j)
      same-roots = ap (root_of book.entries) (sym left-is) ∙ (sym left ∙ (equal ∙ (right ∙ ap (root_of book.entries) right-is)))

      base-is : ms ≡ base net book j asks
      base-is =
          clauses ∙ (ap (λ (ls : List Lit). clauses_on net (take seen book.entries) (nodes_in ls)) lits-way
          ∙ ap (λ (es : List Entry). clauses_on net es (nodes_in (way net book j asks))) (ap (λ (n : ℕ). take n book.entries) count ∙ take-length book.entries))

      pub lits-way_to : IsWayTo ms x d.left
      lits-way_to =
          subst (λ (b : List Named). IsWayTo b x d.left) (sym base-is)
          (subst (λ (y : Lit). IsWayTo (base net book j asks) y d.left) (sym x-is)
          (subst (IsWayTo (base net book j asks) (negative (Xor j))) (sym left-is) (way-to net book j asks same-roots)))

      pub lits-settle : (steps : List Step) → AreShown ms x d.left steps → IsGood net book (Out j steps)
      lits-settle steps shown =
          shown-settles net book j asks same-roots steps
          (subst (λ (h : Lit). AreShown (base net book j asks) (negative (Xor j)) h steps) left-is
          (subst (λ (y : Lit). AreShown (base net book j asks) y d.left steps) x-is
          (subst (λ (b : List Named). AreShown b x d.left steps) base-is shown)))

-- what shows an output equal are two steps at most
pub few-shown : (base : List Named) (lit half : Lit) (steps : List Step) → AreShown base lit half steps → length steps ≤ 2
few-shown base lit half [] shown = omega arith
few-shown base lit half (r ∷ []) shown = omega arith
few-shown base lit half (r ∷ s ∷ []) shown = omega arith
few-shown base lit half (q ∷ r ∷ s ∷ steps) shown = absurd shown
