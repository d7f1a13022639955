-- The book of a reduced circuit grows by a merge for each gate of B, and then by an entry for each output.
use Rattle.std.proofs.Common.{◌≡◌, ℕ, zero, suc, ◌+◌, ◌<◌, ◌≤◌, Bool, true, false, cond, Option, Some, None, List, [], ◌∷◌, ◌++◌, length, map, take, refl, sym, ap, ◌∙◌, subst, inl, inr, append_assoc, arith}
use Rattle.std.specs.Prelude.{◌==◌, slice_get, slice_index, slice_index_or}
use Rattle.std.specs.Option.{is_some, option_map, option_map_or}
use Rattle.std.proofs.lemmas.Bool.{cases_lt}
use Rattle.std.proofs.lemmas.List.{append-nil, length-append, take-append-le, take_all}
use Rattle.std.proofs.lemmas.Option.{none-some, same_Some, slice_get-map, slice_get_within}
use Rattle.lits.specs.Clause.{has}
use Rattle.lits.specs.Same.{same_node}
use Rattle.lits.specs.declared.node.Side.{Side}
use Rattle.lits.specs.declared.node.Side.TheVariants.{A, B}
use Rattle.lits.specs.declared.node.Node.{Node}
use Rattle.lits.specs.declared.node.Node.TheVariants.{Const, Input, Gate, Xor}
use Rattle.lits.specs.declared.literal.Lit.{Lit}
use Rattle.lits.specs.declared.step.Step.{Step}
use Rattle.lits.proofs.Facts.{all-slice_get, exact-node, same-node_self}
use Rattle.netlist.specs.declared.gate.And.{And}
use Rattle.netlist.specs.Circuit.{Aig, var_of}
use Rattle.netlist.specs.Place.{place_of}
use Rattle.netlist.specs.Net.{AigPair, IsNet, circuit_of, defined_by, definition_of, lit_named, node_of, nodes_of, position_of}
use Rattle.netlist.specs.Miter.{positive}
use Rattle.netlist.proofs.Facts.{gate-definition, has-position, is_some-place, output_lit, output_of-below, slice_get-left, slice_get-right, variables-outputs}
use Rattle.lemma_book.specs.declared.entry.Entry.{Entry}
use Rattle.lemma_book.specs.declared.entry.Entry.TheVariants.{Merge, Apart, Spent, Out, OutApart, OutSpent}
use Rattle.lemma_book.specs.declared.entry.Subject.TheVariants.{Output}
use Rattle.lemma_book.specs.Entry.{Entries, about, has_out, is_on, is_out, with_last}
use Rattle.lemma_book.specs.Root.{MergeAt, merge_of, root_of}
use Rattle.lemma_book.specs.Cone.{clauses_on, nodes_in}
use Rattle.lemma_book.specs.Book.{IsLegal}
use Rattle.lemma_book.proofs.Facts.{exact-subject, root-kept, same-subject_self, xor-there}
use Rattle.strash_pass.specs.Strash.{AreScanned, way_of}
use Rattle.strash_pass.specs.Pass.{Merges}
use Rattle.strash_pass.proofs.Facts.{apart-placed, gate-b, is-gate}
use Rattle.equal_outputs.specs.EqualRoots.{HasFewSteps, HaveOtherRoots, IsOutOf}
use Rattle.fraig_write.specs.Reduced.{ends_of, root_nodes, root_renumbered}
use Rattle.fraig_write.specs.Mirror.{AreMirrored, IsMirrored, ShowsOutput}
use Rattle.fraig_write.specs.Mirroring.{IsAsked, IsUpToGate, IsUpToOutput, StandsInA}
use Rattle.fraig_write.proofs.MirrorBooks.{find-apart, find-last, gate-unmerged, merge-apart, merge-last, output-unknown, root-through}
use Rattle.fraig_write.proofs.MirrorGates.{count-b, named-of_a, of_a-stands, original, original-root, root-back}

-- what stands at an index
slice_get-index : (xs : List ℕ) (k : ℕ) → k < length xs → slice_get xs k ≡ Some (slice_index xs k)
slice_get-index [] k below = absurd (omega (arith, below))
slice_get-index (x ∷ xs) zero below = refl
slice_get-index (x ∷ xs) (suc k) below = slice_get-index xs k (omega (arith, below))

-- ---- one element more
module _ {X : Type 0} (xs : List X) (x : X) where
  -- what the longer list has at a place
  last-cases : (P : ℕ → X → Type 0) (i : ℕ) (y : X) → slice_get (xs ++ x ∷ []) i ≡ Some y
      → (i < length xs → slice_get xs i ≡ Some y → P i y) → P (length xs) x → P i y
  last-cases P i y e before last = elim (cases_lt i (length xs)) [
    | inl less ↦ before less (sym (slice_get-left xs (x ∷ []) i less) ∙ e)
    | inr more ↦
        let within = slice_get_within (xs ++ x ∷ []) i y e in
        let here : i ≡ length xs + 0 = omega (arith, within, more, length-append xs (x ∷ [])) in
        let same : x ≡ y = same_Some x y (sym (slice_get-right xs (x ∷ []) 0) ∙ ap (slice_get (xs ++ x ∷ [])) (sym here) ∙ e) in
        let place : length xs ≡ i = omega (arith, here) in
        subst (λ (z : X). P i z) same (subst (λ (j : ℕ). P j x) place last)
  ]

  take-before : (i : ℕ) → i < length xs → take i (xs ++ x ∷ []) ≡ take i xs
  take-before i less = take-append-le i xs (x ∷ []) (omega (arith, less))

  take-whole : take (length xs) (xs ++ x ∷ []) ≡ xs
  take-whole = take-append-le (length xs) xs (x ∷ []) (omega arith) ∙ take_all (length xs) xs (omega arith)

-- ---- gates
module _ (net : AigPair) (given : Entries) (staying : List And) (asked : IsAsked net given staying) where
  -- no gate is merged
  pub none-merged : IsUpToGate net given staying 0 given
  none-merged = record {
    legal = asked.legal;
    merges = [];
    entries = sym (append-nil given.entries);
    sweep = refl;
    out = refl;
    count = refl;
    mirrored = λ k e at. absurd (none-some e at);
    keeps = λ l s. refl;
    merged = λ m g o below. absurd (omega (arith, below));
    open_gates = λ m g from at. gate-unmerged given.entries asked.of_a g.var;
    open_outputs = output-unknown given.entries asked.of_a;
  }

  -- one gate more
  module _ (k : ℕ) (book new : Entries) (up : IsUpToGate net given staying k book) (g o : And) (at_b : slice_get net.b.gates k ≡ Some g)
      (at_a : slice_get staying k ≡ Some o) (legal : IsLegal net new) (merges : Merges net book new
      (way_of book.entries (definition_of B net.b g) ++ way_of book.entries (definition_of A net.a o)) (Gate B g.var) (positive (Gate A o.var))) where
    abbrev entry : Entry
    entry = Merge (Gate B g.var) (positive (Gate A o.var)) merges.steps

    longer : new.entries ≡ book.entries ++ Merge (Gate B g.var) (positive (Gate A o.var)) merges.steps ∷ []
    longer = ap (λ (b : Entries). b.entries) merges.last

    count-longer : length new.entries ≡ suc (length book.entries)
    count-longer =
        let n = length-append book.entries (Merge (Gate B g.var) (positive (Gate A o.var)) merges.steps ∷ []) in
        omega (arith, ap length longer, n)

    gate-place : (m : ℕ) (h : And) → slice_get net.b.gates m ≡ Some h
        → position_of net (Gate B h.var) ≡ Some (1 + length net.a.inputs + (length net.a.gates + m))
    gate-place m h at = (is-gate net asked.net_is (length net.a.gates + m) (definition_of B net.b h) (gate-b net asked.net_is m h at)).node

    other-merge : (n : Node) → same_node (Gate B g.var) n ≡ false → merge_of new.entries n ≡ merge_of book.entries n
    other-merge n apart =
        ap (λ (l : List Entry). merge_of l n) longer
        ∙ merge-apart book.entries (Merge (Gate B g.var) (positive (Gate A o.var)) merges.steps) n apart

    below-same : (n : Node) (p : ℕ) → position_of net n ≡ Some p → p < 1 + length net.a.inputs + (length net.a.gates + k)
        → merge_of new.entries n ≡ merge_of book.entries n
    below-same n p at below =
        other-merge n (apart-placed net (Gate B g.var) n (1 + length net.a.inputs + (length net.a.gates + k)) p (gate-place k g at_b) at below)

    root-same : (l : Lit) (p : ℕ) → position_of net l.node ≡ Some p → p < 1 + length net.a.inputs + (length net.a.gates + k)
        → root_of new.entries l ≡ root_of book.entries l
    root-same l p at below =
        root-kept net book up.legal new.entries (1 + length net.a.inputs + (length net.a.gates + k)) below-same count-longer l p at below

    later-apart : (m : ℕ) (h : And) → k + 1 ≤ m → slice_get net.b.gates m ≡ Some h → same_node (Gate B g.var) (Gate B h.var) ≡ false
    later-apart m h later at = go (same_node (Gate B g.var) (Gate B h.var)) refl
      where
        go : (b : Bool) → same_node (Gate B g.var) (Gate B h.var) ≡ b → b ≡ false
        go false e = refl
        go true e =
            let f : same_node (Gate B h.var) (Gate B g.var) ≡ false =
            apart-placed net (Gate B h.var) (Gate B g.var) (1 + length net.a.inputs + (length net.a.gates + m)) (1 + length net.a.inputs + (length net.a.gates + k))
            (gate-place m h at) (gate-place k g at_b) (omega (arith, later)) in
            let same : Gate B g.var ≡ Gate B h.var = exact-node (Gate B g.var) (Gate B h.var) e in
            let t : same_node (Gate B h.var) (Gate B g.var) ≡ true =
            ap (λ (n : Node). same_node (Gate B h.var) n) same ∙ same-node_self (Gate B h.var) in
            let c : true ≡ false = sym t ∙ f in cc

    new-root : root_of new.entries (positive (Gate B g.var)) ≡ positive (Gate A o.var)
    new-root =
        let target : MergeAt = record { entry = length book.entries + 0; lit = positive (Gate A o.var) } in
        root-through new.entries (Gate B g.var) target (length book.entries) count-longer
        (ap (λ (l : List Entry). merge_of l (Gate B g.var)) longer
        ∙ merge-last book.entries (Gate B g.var) (positive (Gate A o.var)) merges.steps (up.open_gates k g (omega arith) at_b))
        (other-merge (Gate A o.var) refl ∙ original-root net given staying asked k book up g o at_b at_a)

    pub more-merged : IsUpToGate net given staying (k + 1) new
    more-merged = record {
      legal = legal;
      merges = up.merges ++ entry ∷ [];
      entries =
          longer ∙ ap (λ (l : List Entry). l ++ Merge (Gate B g.var) (positive (Gate A o.var)) merges.steps ∷ []) up.entries
          ∙ append_assoc given.entries up.merges (Merge (Gate B g.var) (positive (Gate A o.var)) merges.steps ∷ []);
      sweep = ap (λ (b : Entries). b.sweep_budget) merges.last ∙ up.sweep;
      out = ap (λ (b : Entries). b.out_budget) merges.last ∙ up.out;
      count = length-append up.merges (Merge (Gate B g.var) (positive (Gate A o.var)) merges.steps ∷ []) ∙ ap (λ (n : ℕ). n + 1) up.count;
      mirrored = mirrored;
      keeps = λ l s. root-same l s.place s.at (omega (arith, s.below)) ∙ up.keeps l s;
      merged = merged;
      open_gates = λ m h later at. other-merge (Gate B h.var) (later-apart m h later at) ∙ up.open_gates m h (omega (arith, later)) at;
      open_outputs = λ j.
          ap (λ (l : List Entry). about l j) longer
          ∙ find-apart (is_on (Output j)) book.entries (Merge (Gate B g.var) (positive (Gate A o.var)) merges.steps) refl
          ∙ up.open_outputs j;
    }
      where
        here : IsMirrored net staying (given.entries ++ up.merges) k (Merge (Gate B g.var) (positive (Gate A o.var)) merges.steps)
        here = record {
          gate = g;
          original = o;
          of_b = at_b;
          of_a = at_a;
          steps = merges.steps;
          entry = refl;
          scanned =
              subst (λ (l : List Entry). AreScanned
              (clauses_on net l (nodes_in (way_of l (definition_of B net.b g) ++ way_of l (definition_of A net.a o))))
              (Gate B g.var) (positive (Gate A o.var)) merges.steps) up.entries merges.scanned;
        }

        mirrored : AreMirrored net staying given.entries (up.merges ++ Merge (Gate B g.var) (positive (Gate A o.var)) merges.steps ∷ [])
        mirrored i e at =
            let x = Merge (Gate B g.var) (positive (Gate A o.var)) merges.steps in
            last-cases up.merges x (λ j y. IsMirrored net staying (given.entries ++ take j (up.merges ++ x ∷ [])) j y) i e at
            (λ less before.
            subst (λ (l : List Entry). IsMirrored net staying (given.entries ++ l) i e) (sym (take-before up.merges x i less)) (up.mirrored i e before))
            (subst (λ (l : List Entry). IsMirrored net staying (given.entries ++ l) (length up.merges) x) (sym (take-whole up.merges x))
            (subst (λ (n : ℕ). IsMirrored net staying (given.entries ++ up.merges) n x) (sym up.count) here))

        merged : (m : ℕ) (h q : And) → m < k + 1 → slice_get net.b.gates m ≡ Some h → slice_get staying m ≡ Some q
            → root_of new.entries (positive (Gate B h.var)) ≡ positive (Gate A q.var)
        merged m h q below of_b of_a = elim (cases_lt m k) [
          | inl less ↦
              root-same (positive (Gate B h.var)) (1 + length net.a.inputs + (length net.a.gates + m)) (gate-place m h of_b) (omega (arith, less))
              ∙ up.merged m h q less of_b of_a
          | inr more ↦
              let same : m ≡ k = omega (arith, below, more) in
              let gate : g ≡ h = same_Some g h (sym at_b ∙ ap (slice_get net.b.gates) (sym same) ∙ of_b) in
              let old : o ≡ q = same_Some o q (sym at_a ∙ ap (slice_get staying) (sym same) ∙ of_a) in
              ap (λ (x : And). root_of new.entries (positive (Gate B x.var))) (sym gate) ∙ new-root ∙ ap (λ (x : And). positive (Gate A x.var)) old
        ]

-- ---- outputs

-- no node of a circuit is an XOR
named-no_xor : (s : Side) (c : Aig) (v j : ℕ) → same_node (Xor j) (node_of s c v) ≡ false
named-no_xor s c v j = go (v == 0) (place_of (λ x. x == v) c.inputs)
  where
    go : (b : Bool) (o : Option ℕ) → same_node (Xor j) (cond b Const (option_map_or Input o (Gate s v))) ≡ false
    go true o = refl
    go false None = refl
    go false (Some k) = refl

module _ (net : AigPair) (is : IsNet net) where
  -- the node of an output's literal has a position
  output-has : (s : Side) (j : ℕ) → j < length net.a.outputs → has same_node (nodes_of net) (output_lit net s j).node ≡ true
  output-has s j below =
      has-position net (output_lit net s j).node (λ i. named-no_xor s (circuit_of net s) (var_of (slice_index (circuit_of net s).outputs j)) i)
      ((variables-outputs net is).output s j (output_lit net s j) (output_of-below net is s j below) (xor-there net is j below))

  output-placed : (s : Side) (j : ℕ) → j < length net.a.outputs → (p : ℕ) × (position_of net (output_lit net s j).node ≡ Some p)
  output-placed s j below = go (position_of net (output_lit net s j).node) refl
    where
      go : (o : Option ℕ) → position_of net (output_lit net s j).node ≡ o → (p : ℕ) × (position_of net (output_lit net s j).node ≡ Some p)
      go (Some p) e = (p, e)
      go None e =
          let f : false ≡ true = sym (ap is_some e) ∙ is_some-place (λ m. same_node m (output_lit net s j).node) (nodes_of net) ∙ output-has s j below in cc

module _ (net : AigPair) (given : Entries) (staying : List And) (asked : IsAsked net given staying) where
  -- behind the merges of all gates the literals of an output have one root
  pub same-roots : (merged : Entries) → IsUpToGate net given staying (length net.b.gates) merged → (j : ℕ) → j < length net.a.outputs
      → root_of merged.entries (output_lit net A j) ≡ root_of merged.entries (output_lit net B j)
  same-roots merged up j below =
      let lit = slice_index net.a.outputs j in
      let there : slice_get net.a.outputs j ≡ Some lit = slice_get-index net.a.outputs j below in
      let of_b : slice_get net.b.outputs j ≡ Some (root_renumbered net.a given.entries staying lit) =
      ap (λ (c : Aig). slice_get c.outputs j) asked.circuit
      ∙ slice_get-map (root_renumbered net.a given.entries staying) net.a.outputs j
      ∙ ap (option_map (root_renumbered net.a given.entries staying)) there in
      let second : output_lit net B j ≡ lit_named B net.b (root_renumbered net.a given.entries staying lit) =
      ap (lit_named B net.b) (same_Some (slice_index net.b.outputs j) (root_renumbered net.a given.entries staying lit)
      (sym (slice_get-index net.b.outputs j (slice_get_within net.b.outputs j _ of_b)) ∙ of_b)) in
      let stands = of_a-stands net (output_lit net A j).node (named-of_a net.a (var_of lit)) (output-has net asked.net_is A j below) in
      let s : StandsInA net (output_lit net A j) = record { place = stands.0; at = stands.1; below = stands.2 } in
      let ends : slice_get (root_nodes given.entries (ends_of net.a)) j ≡ Some (root_of given.entries (output_lit net A j)).node =
      slice_get-map (λ (l : Lit). l.node) (map (root_of given.entries) (ends_of net.a)) j
      ∙ ap (option_map (λ (l : Lit). l.node)) (slice_get-map (root_of given.entries) (ends_of net.a) j
      ∙ ap (option_map (root_of given.entries)) (slice_get-map (lit_named A net.a) (net.a.outputs ++ net.a.constraints) j
      ∙ ap (option_map (lit_named A net.a)) (slice_get-left net.a.outputs net.a.constraints j below ∙ there))) in
      let reaches : asked.are_staying.reached (root_of given.entries (output_lit net A j)).node ≡ true =
      all-slice_get (λ n. asked.are_staying.reached n ≡ true) (root_nodes given.entries (ends_of net.a)) j
      (root_of given.entries (output_lit net A j)).node asked.are_staying.are_reached.closed.starts ends in
      up.keeps (output_lit net A j) s
      ∙ sym (ap (root_of merged.entries) second
      ∙ root-back net given staying asked (length net.b.gates) merged up lit s reaches
      (λ v m e. let count = count-b net given staying asked in omega (arith, m.below, count)))

module _ (net : AigPair) (is : IsNet net) (merged : Entries) where
  -- no output is shown
  pub none-shown : IsLegal net merged → ((j : ℕ) → about merged.entries j ≡ None) → IsUpToOutput net merged 0 merged
  none-shown legal open_all = record {
    legal = legal;
    outs = [];
    entries = sym (append-nil merged.entries);
    sweep = refl;
    out = refl;
    count = refl;
    shown = λ j e at. absurd (none-some e at);
    roots = λ l p at. refl;
    closed = λ j below. absurd (omega (arith, below));
    open_outputs = λ j from. open_all j;
  }

  -- the next output's literals have one root still
  pub roots-agree : (j : ℕ) (book : Entries) → IsUpToOutput net merged j book → j < length net.a.outputs
      → root_of merged.entries (output_lit net A j) ≡ root_of merged.entries (output_lit net B j) → HaveOtherRoots net book.entries j → ⊥
  roots-agree j book up below same differ =
      let a = output-placed net is A j below in
      let b = output-placed net is B j below in
      differ (output_lit net A j) (output_lit net B j) (output_of-below net is A j below) (output_of-below net is B j below)
      (up.roots (output_lit net A j) a.0 a.1 ∙ same ∙ sym (up.roots (output_lit net B j) b.0 b.1))

  -- one output more
  module _ (j : ℕ) (book new : Entries) (up : IsUpToOutput net merged j book) (steps : List Step) (legal : IsLegal net new)
      (last : new ≡ with_last book (Out j steps)) (few : length steps ≤ 2) where
    longer-out : new.entries ≡ book.entries ++ Out j steps ∷ []
    longer-out = ap (λ (b : Entries). b.entries) last

    count-out : length new.entries ≡ suc (length book.entries)
    count-out = let n = length-append book.entries (Out j steps ∷ []) in omega (arith, ap length longer-out, n)

    merge-same : (n : Node) → merge_of new.entries n ≡ merge_of book.entries n
    merge-same n = ap (λ (l : List Entry). merge_of l n) longer-out ∙ merge-apart book.entries (Out j steps) n refl

    other-output : (i : ℕ) → (i ≡ j → ⊥) → about new.entries i ≡ about book.entries i
    other-output i apart = ap (λ (l : List Entry). about l i) longer-out ∙ find-apart (is_on (Output i)) book.entries (Out j steps) (go (is_on (Output i) (Out j steps)) refl)
      where
        go : (b : Bool) → is_on (Output i) (Out j steps) ≡ b → b ≡ false
        go false e = refl
        go true e =
            let same : Output j ≡ Output i = exact-subject (Output j) (Output i) e in
            let numbers : i ≡ j = cc in
            absurd (apart numbers)

    this-output : about new.entries j ≡ Some (Out j steps)
    this-output =
        ap (λ (l : List Entry). about l j) longer-out
        ∙ find-last (is_on (Output j)) book.entries (Out j steps) (up.open_outputs j (omega arith)) (same-subject_self (Output j))

    pub more-shown : IsUpToOutput net merged (j + 1) new
    more-shown = record {
      legal = legal;
      outs = up.outs ++ Out j steps ∷ [];
      entries =
          longer-out ∙ ap (λ (l : List Entry). l ++ Out j steps ∷ []) up.entries ∙ append_assoc merged.entries up.outs (Out j steps ∷ []);
      sweep = ap (λ (b : Entries). b.sweep_budget) last ∙ up.sweep;
      out = ap (λ (b : Entries). b.out_budget) last ∙ up.out;
      count = length-append up.outs (Out j steps ∷ []) ∙ ap (λ (n : ℕ). n + 1) up.count;
      shown = λ i e at.
          last-cases up.outs (Out j steps) ShowsOutput i e at (λ less before. up.shown i e before)
          (subst (λ (n : ℕ). ShowsOutput n (Out j steps)) (sym up.count) (refl, few));
      roots = λ l p at.
          root-kept net book up.legal new.entries (p + 1) (λ n q there below. merge-same n) count-out l p at (omega arith) ∙ up.roots l p at;
      closed = λ i below. elim (cases_lt i j) [
        | inl less ↦ ap (λ (o : Option Entry). option_map_or is_out o false) (other-output i (λ same. omega (arith, less, same))) ∙ up.closed i less
        | inr more ↦
            let same : i ≡ j = omega (arith, below, more) in
            ap (λ (n : ℕ). has_out new.entries n) same ∙ ap (λ (o : Option Entry). option_map_or is_out o false) this-output
      ];
      open_outputs = λ i from. other-output i (λ same. omega (arith, from, same)) ∙ up.open_outputs i (omega (arith, from));
    }

-- ---- as the loops have it

-- what a list has at a place
index-at : (xs : List And) (d : And) (k : ℕ) → k < length xs → slice_get xs k ≡ Some (slice_index_or xs k d)
index-at [] d k below = absurd (omega (arith, below))
index-at (x ∷ xs) d zero below = refl
index-at (x ∷ xs) d (suc k) below = index-at xs d k (omega (arith, below))

module _ (net : AigPair) (given : Entries) (staying : List And) (asked : IsAsked net given staying) where
  pub at-gate : (gates : List And) (d : And) (k : ℕ) → gates ≡ net.b.gates → k < length gates → slice_get net.b.gates k ≡ Some (slice_index_or gates k d)
  at-gate gates d k same below = ap (λ (gs : List And). slice_get gs k) (sym same) ∙ index-at gates d k below

  pub at-original : (gates : List And) (d : And) (k : ℕ) → gates ≡ net.b.gates → k < length gates → slice_get staying k ≡ Some (slice_index_or staying k d)
  at-original gates d k same below =
      let count : length gates ≡ length staying = ap length same ∙ count-b net given staying asked in
      index-at staying d k (omega (arith, below, count))

  pub gate-defined : (k : ℕ) (g : And) → slice_get net.b.gates k ≡ Some g → defined_by net (Gate B g.var) ≡ Some (definition_of B net.b g)
  gate-defined k g at = (gate-definition net asked.net_is B k g at).0

  pub original-defined : (k : ℕ) (o : And) → slice_get staying k ≡ Some o → defined_by net (Gate A o.var) ≡ Some (definition_of A net.a o)
  original-defined k o at =
      let is = original net given staying asked k o at in (gate-definition net asked.net_is A is.place o is.at).0

module _ (net : AigPair) (is : IsNet net) (merged : Entries) (j : ℕ) (book new : Entries) (up : IsUpToOutput net merged j book) where
  -- one output more, by its entry
  pub more-entry : (e : Entry) → IsOutOf j e → HasFewSteps e → new ≡ with_last book e → IsLegal net new → IsUpToOutput net merged (j + 1) new
  more-entry (Out i steps) of few last legal =
      more-shown net is merged j book new up steps legal (last ∙ ap (λ (n : ℕ). with_last book (Out n steps)) of) few
  more-entry (Merge n l steps) of few last legal = absurd of
  more-entry (Apart n l input) of few last legal = absurd of
  more-entry (Spent n l seen log) of few last legal = absurd of
  more-entry (OutApart i input) of few last legal = absurd of
  more-entry (OutSpent i seen log) of few last legal = absurd of
