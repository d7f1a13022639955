-- The sweep of a circuit by itself, and the book that shows the circuit and its reduced one equal: it is settled, and swept as the
-- sweep's is.
use Rattle.std.proofs.Common.{◌≡◌, ℕ, zero, suc, ◌+◌, ◌<◌, ◌≤◌, Bool, true, false, Option, Some, None, List, [], ◌∷◌, ◌++◌, length, replicate, refl, sym, ap, ◌∙◌, subst, inl, inr, ◌⊎◌, append_assoc, arith}
use Rattle.std.specs.Prelude.{◌==◌, nat_le, slice_get}
use Rattle.std.specs.Option.{is_some, option_and_then, option_map, IsSome}
use Rattle.std.specs.List.{list_all, list_any, AllByRecursion}
use Rattle.std.proofs.lemmas.List.{length-replicate}
use Rattle.std.proofs.lemmas.List.Folds.{list_any-append}
use Rattle.std.proofs.lemmas.Bool.{and_parts, or_left, or_right}
use Rattle.std.proofs.lemmas.Bool.Decides.{nat_tests}
use Rattle.std.proofs.lemmas.Option.{none-some, same_Some}
use Rattle.lits.specs.Same.{same_node}
use Rattle.lits.proofs.Facts.{same-node_self}
use Rattle.lits.specs.declared.node.Side.{Side}
use Rattle.lits.specs.declared.node.Side.TheVariants.{A, B}
use Rattle.lits.specs.declared.node.Node.{Node}
use Rattle.lits.specs.declared.node.Node.TheVariants.{Const, Input, Gate, Xor}
use Rattle.symbol_names.specs.declared.names.Names.{Names}
use Rattle.symbol_names.specs.Names.{unnamed}
use Rattle.symbol_names.specs.NameList.{is_name}
use Rattle.netlist.specs.declared.gate.And.{And}
use Rattle.netlist.specs.Circuit.{Aig, IsCircuit, gate_vars, is_over, most, variables_in}
use Rattle.netlist.specs.Unlike.{unlike_of}
use Rattle.netlist.specs.Pair.{first_gate}
use Rattle.netlist.specs.Place.{place_of}
use Rattle.netlist.specs.Net.{AigPair, position_of}
use Rattle.netlist.proofs.Facts.{at-place, equal-number, is_some-place, or_place, place_of-append, position-gate, position_of-input, position_of-xor}
use Rattle.lemma_book.specs.declared.entry.Entry.{Entry}
use Rattle.lemma_book.specs.declared.entry.Entry.TheVariants.{Merge, Apart, Spent, Out, OutApart, OutSpent}
use Rattle.lemma_book.specs.declared.entry.Subject.TheVariants.{Merged}
use Rattle.lemma_book.specs.Entry.{Entries, is_on, is_spent_on, place_on}
use Rattle.lemma_book.specs.Root.{merge_in, merge_of, IsRoot}
use Rattle.lemma_book.specs.Book.{IsLegal}
use Rattle.lemma_book.specs.Good.{NoNode, IsBefore, IsGood}
use Rattle.lemma_book.proofs.Facts.{root-unsettled}
use Rattle.unit_prop.specs.Log.{InTurn}
use Rattle.sig_classes.specs.Leader.{HasSpent, IsLone, IsOpenGate, IsReduced, IsSwept}
use Rattle.strash_pass.specs.Strash.{AddsMerges, IsMerge}
use Rattle.sweep_workers.specs.Swept.{is_of_pair, Sweeps}
use Rattle.fraig_write.specs.Mirror.{is_of_a, AreOfA, IsMirror}
use Rattle.fraig_write.proofs.Facts.{holds-same, legal-other, placed-of_a, value-same}
use Rattle.word_sim.specs.Patterns.{Patterns}
use Rattle.circuit_text.specs.BinaryText.{IsInSequence}
use Rattle.fraig_write.specs.Reduced.{HasValuesOf, IsReducedCircuit}
use Rattle.check_session.specs.declared.options.Options.{Options}
use Rattle.check_session.specs.Finding.{Finding, Equivalent, Finds, Means}
use Rattle.check_session.specs.Pool.{first_pool}
use Rattle.check_session.specs.Sweep.{AddsStructure, IsSweptFrom}
use Rattle.check_session.specs.Check.{IsSettled, State, empty_book, opened}
use Rattle.check_session.specs.Reduction.{swept_pair, without_gates, IsReduction, IsSweptBook}
use Rattle.check_session.proofs.SweptLemmas.{structure-merges}

-- ---- the circuit without gates
all-first : {X : Type 0} (p : X → Bool) (xs ys : List X) → list_all p (xs ++ ys) ≡ true → list_all p (xs ++ []) ≡ true
all-first p [] ys all = refl
all-first p (x ∷ xs) ys all =
    let both = and_parts (p x) (list_all p (xs ++ ys)) all in
    rw (both.0, all-first p xs ys both.1) refl

all-zero : (p : ℕ → Bool) → p 0 ≡ true → (n : ℕ) → list_all p (replicate n 0) ≡ true
all-zero p e zero = refl
all-zero p e (suc n) = rw (e, all-zero p e n) refl

all-none : (n : ℕ) → list_all is_name (replicate n None) ≡ true
all-none zero = refl
all-none (suc n) = rw (all-none n) refl

pub without_gates-circuit : (a : Aig) → IsCircuit a → IsCircuit (without_gates a)
without_gates-circuit a is = record {
  inputs = is.inputs;
  gates = tt;
  outputs = all-zero (is_over (variables_in (without_gates a))) refl (length a.outputs);
  range = all-first (λ v. nat_le v most) (0 ∷ a.inputs) (gate_vars a.gates) is.range;
  count = subst (λ (n : ℕ). n ≤ most) (sym (length-replicate (length a.outputs) 0)) is.count;
  constraints = refl;
  constraint_count = omega arith;
  names = record {
    input_places = length-replicate (length a.inputs) None;
    output_places = length-replicate (length (replicate (length a.outputs) 0)) None;
    of_inputs = all-none (length a.inputs);
    of_outputs = all-none (length (replicate (length a.outputs) 0));
  };
}

-- as its parts are made
pub made-without_gates : (a : Aig) (inputs : List ℕ) (gates : List And) (outputs constraints : List ℕ) (names : Names) → inputs ≡ a.inputs
    → gates ≡ [] → outputs ≡ replicate (length a.outputs) 0 → constraints ≡ [] → names ≡ unnamed (length inputs) (length outputs)
    → without_gates a ≡ record { inputs = inputs; gates = gates; outputs = outputs; constraints = constraints; names = names }
made-without_gates a inputs gates outputs constraints names ins none outs no_more unnamed_is =
    rw (unnamed_is, ins, none, outs, no_more) refl

-- circuits with equal numbers of inputs and outputs make a net
pub alike : (a b : Aig) → length b.inputs ≡ length a.inputs → length b.outputs ≡ length a.outputs → unlike_of a b ≡ None
alike a b inputs outputs =
    let e : (length a.inputs == length b.inputs) ≡ true = grind (arith, nat_tests, inputs) in
    let f : (length a.outputs == length b.outputs) ≡ true = grind (arith, nat_tests, outputs) in
    rw (e, f) refl

pub alike-without_gates : (a : Aig) → unlike_of a (without_gates a) ≡ None
alike-without_gates a = alike a (without_gates a) refl (length-replicate (length a.outputs) 0)

-- ---- the sweep's book
merges-pairs : (es : List Entry) → AllByRecursion IsMerge es → list_all is_of_pair es ≡ true
merges-pairs [] all = refl
merges-pairs (Merge n l ss ∷ es) all = merges-pairs es all.1
merges-pairs (Apart n l i ∷ es) all = absurd all.0
merges-pairs (Spent n l s g ∷ es) all = absurd all.0
merges-pairs (Out j ss ∷ es) all = absurd all.0
merges-pairs (OutApart j i ∷ es) all = absurd all.0
merges-pairs (OutSpent j s g ∷ es) all = absurd all.0

all-joined : {X : Type 0} (p : X → Bool) (xs ys : List X) → list_all p xs ≡ true → list_all p ys ≡ true → list_all p (xs ++ ys) ≡ true
all-joined p [] ys all more = more
all-joined p (x ∷ xs) ys all more = let both = and_parts (p x) (list_all p xs) all in rw (both.0, all-joined p xs ys both.1 more) refl

-- behind an empty book the structure's merges and the sweep's entries are about pairs alone
pub swept-pairs : (empty merged : Entries) (added all : List Entry) → empty.entries ≡ [] → AddsMerges empty merged → all ≡ merged.entries ++ added
    → list_all is_of_pair added ≡ true → list_all is_of_pair all ≡ true
swept-pairs empty merged added all none adds begins kinds =
    subst (λ (l : List Entry). list_all is_of_pair l ≡ true) (sym begins)
    (all-joined is_of_pair merged.entries added
    (subst (λ (l : List Entry). list_all is_of_pair l ≡ true) (sym (adds.entries ∙ ap (λ (l : List Entry). l ++ adds.added) none))
    (merges-pairs adds.added adds.merges)) kinds)

-- so all are about nodes of A
turn-of_a : (a : Aig) (sweep out : ℕ) (before es : List Entry)
    → InTurn (λ b e. IsGood (swept_pair a) (record { sweep_budget = sweep; out_budget = out; entries = b }) e) before es
    → list_all is_of_pair es ≡ true → AreOfA es
turn-of_a a sweep out before [] turn pairs = tt
turn-of_a a sweep out before (Merge n l ss ∷ es) turn pairs =
    (placed-of_a a (without_gates a) a refl n (turn.0 NoNode).0.0, turn-of_a a sweep out (before ++ Merge n l ss ∷ []) es turn.1 pairs)
turn-of_a a sweep out before (Apart n l i ∷ es) turn pairs =
    (placed-of_a a (without_gates a) a refl n (turn.0 NoNode).0, turn-of_a a sweep out (before ++ Apart n l i ∷ []) es turn.1 pairs)
turn-of_a a sweep out before (Spent n l s g ∷ es) turn pairs =
    (placed-of_a a (without_gates a) a refl n (turn.0 NoNode).0.0, turn-of_a a sweep out (before ++ Spent n l s g ∷ []) es turn.1 pairs)
turn-of_a a sweep out before (Out j ss ∷ es) turn pairs = cc
turn-of_a a sweep out before (OutApart j i ∷ es) turn pairs = cc
turn-of_a a sweep out before (OutSpent j s g ∷ es) turn pairs = cc

pub pairs-of_a : (a : Aig) (book : Entries) → IsLegal (swept_pair a) book → list_all is_of_pair book.entries ≡ true → AreOfA book.entries
pairs-of_a a book legal pairs = turn-of_a a book.sweep_budget book.out_budget [] book.entries legal pairs

-- ---- a longer book
root-shorter : (es rest : List Entry) (n : Node) → IsRoot (es ++ rest) n → IsRoot es n
root-shorter es rest n root = go (place_on es (Merged n)) refl
  where
    whole : or_place (place_on es (Merged n)) (option_map (λ k. length es + k) (place_on rest (Merged n))) ≡ None
    whole = sym (place_of-append (is_on (Merged n)) es rest) ∙ root-unsettled (es ++ rest) n root

    go : (o : Option ℕ) → place_on es (Merged n) ≡ o → merge_of es n ≡ None
    go None e = ap (option_and_then (λ k. option_and_then (merge_in k) (slice_get es k))) e
    go (Some k) e =
        absurd (none-some k (sym whole ∙ ap (λ (o : Option ℕ). or_place o (option_map (λ k. length es + k) (place_on rest (Merged n)))) e))

spent-longer : (es rest : List Entry) (n : Node) → HasSpent es n → HasSpent (es ++ rest) n
spent-longer es rest n spent = record {
  lit = spent.lit;
  spent =
      list_any-append (is_spent_on n spent.lit) es rest
      ∙ or_left (list_any (is_spent_on n spent.lit) es) (list_any (is_spent_on n spent.lit) rest) spent.spent;
}

any-at : {X : Type 0} (test : X → Bool) (xs : List X) (k : ℕ) (x : X) → slice_get xs k ≡ Some x → test x ≡ true → list_any test xs ≡ true
any-at test [] k x e t = absurd (none-some x e)
any-at test (y ∷ ys) zero x e t = or_left (test y) (list_any test ys) (ap test (same_Some y x e) ∙ t)
any-at test (y ∷ ys) (suc k) x e t = or_right (test y) (list_any test ys) (any-at test ys k x e t)

element : {X : Type 0} (xs : List X) (k : ℕ) → k < length xs → (x : X) × (slice_get xs k ≡ Some x)
element [] k below = absurd (omega (arith, below))
element (x ∷ xs) zero below = (x, refl)
element (x ∷ xs) (suc k) below = element xs k (omega (arith, below))

some-place : {X : Type 0} (test : X → Bool) (xs : List X) (f : ℕ → ℕ) → IsSome (option_map f (place_of test xs)) → (k : ℕ) × (place_of test xs ≡ Some k)
some-place test xs f there = go (place_of test xs) refl
  where
    go : (o : Option ℕ) → place_of test xs ≡ o → (k : ℕ) × (place_of test xs ≡ Some k)
    go (Some k) e = (k, e)
    go None e = let g : false ≡ true = sym (ap (λ (o : Option ℕ). is_some (option_map f o)) e) ∙ there in cc

-- ---- a circuit beside another one
module _ (a b : Aig) where
  abbrev old : AigPair
  old = swept_pair a

  abbrev new : AigPair
  new = record { a = a; b = b }

  position-same : (n : Node) → is_of_a n ≡ true → position_of (record { a = a; b = b }) n ≡ position_of (swept_pair a) n
  position-same Const of = refl
  position-same (Input k) of = position_of-input (record { a = a; b = b }) k ∙ sym (position_of-input (swept_pair a) k)
  position-same (Gate A v) of = sym (position-gate (record { a = a; b = b }) A v) ∙ position-gate (swept_pair a) A v
  position-same (Gate B v) of = cc
  position-same (Xor j) of = cc

  -- what stands before a gate of A is of A
  earlier-of_a : (v : ℕ) (m : Node) → IsBefore (position_of (record { a = a; b = b }) m) (position_of (record { a = a; b = b }) (Gate A v)) → is_of_a m ≡ true
  earlier-of_a v Const less = refl
  earlier-of_a v (Input k) less = refl
  earlier-of_a v (Gate A u) less = refl
  earlier-of_a v (Xor j) less =
      absurd (subst (λ (o : Option ℕ). IsBefore o (position_of (record { a = a; b = b }) (Gate A v))) (position_of-xor (record { a = a; b = b }) j) less)
  earlier-of_a v (Gate B u) less = go (place_of (λ g. g.var == u) b.gates) (place_of (λ g. g.var == v) a.gates) refl
      (subst (λ (o : Option ℕ). IsBefore o (option_map (λ g. first_gate (record { a = a; b = b }) A + g) (place_of (λ g. g.var == v) a.gates)))
      (sym (position-gate (record { a = a; b = b }) B u))
      (subst (λ (o : Option ℕ). IsBefore (position_of (record { a = a; b = b }) (Gate B u)) o) (sym (position-gate (record { a = a; b = b }) A v)) less))
    where
      go : (o p : Option ℕ) → place_of (λ g. g.var == v) a.gates ≡ p
          → IsBefore (option_map (λ g. first_gate (record { a = a; b = b }) B + g) o) (option_map (λ g. first_gate (record { a = a; b = b }) A + g) p) → false ≡ true
      go None p e less = absurd less
      go (Some j) None e less = absurd less
      go (Some j) (Some i) e less = let below = (at-place (λ g. g.var == v) a.gates i e).3 in absurd (omega (arith, less, below))

  module _ (given book : Entries) (mirror : IsMirror (record { a = a; b = b }) given book) where
    abbrev behind : List Entry
    behind = mirror.merges ++ mirror.outs

    longer : book.entries ≡ given.entries ++ (mirror.merges ++ mirror.outs)
    longer = mirror.entries ∙ append_assoc given.entries mirror.merges mirror.outs

    -- each gate of B is merged
    gate-merged : (v : ℕ) → IsSome (position_of (record { a = a; b = b }) (Gate B v)) → IsRoot book.entries (Gate B v) → ⊥
    gate-merged v there root =
        let place = some-place (λ g. g.var == v) b.gates (λ g. first_gate (record { a = a; b = b }) B + g)
        (ap is_some (position-gate (record { a = a; b = b }) B v) ∙ there) in
        let at = at-place (λ g. g.var == v) b.gates place.0 place.1 in
        let e = element mirror.merges place.0 (omega (arith, at.3, mirror.merge_count)) in
        let is = mirror.mirrored place.0 e.0 e.1 in
        let same : is.gate ≡ at.0 = same_Some is.gate at.0 (sym is.of_b ∙ at.1) in
        let var : is.gate.var ≡ v = ap (λ (g : And). g.var) same ∙ equal-number at.0.var v at.2 in
        let on : is_on (Merged (Gate B v)) e.0 ≡ true =
        ap (is_on (Merged (Gate B v))) is.entry ∙ ap (λ (x : ℕ). same_node (Gate B x) (Gate B v)) var ∙ same-node_self (Gate B v) in
        let any : list_any (is_on (Merged (Gate B v))) book.entries ≡ true =
        ap (list_any (is_on (Merged (Gate B v)))) longer
        ∙ list_any-append (is_on (Merged (Gate B v))) given.entries (mirror.merges ++ mirror.outs)
        ∙ or_right (list_any (is_on (Merged (Gate B v))) given.entries) (list_any (is_on (Merged (Gate B v))) (mirror.merges ++ mirror.outs))
        (list_any-append (is_on (Merged (Gate B v))) mirror.merges mirror.outs
        ∙ or_left (list_any (is_on (Merged (Gate B v))) mirror.merges) (list_any (is_on (Merged (Gate B v))) mirror.outs)
        (any-at (is_on (Merged (Gate B v))) mirror.merges place.0 e.0 e.1 on)) in
        let f : false ≡ true =
        sym (sym (is_some-place (is_on (Merged (Gate B v))) book.entries) ∙ ap is_some (root-unsettled book.entries (Gate B v) root)) ∙ any in
        cc

    -- the book is swept where the given one is
    pub swept-mirror : IsSwept (swept_pair a) given.entries → IsSwept (record { a = a; b = b }) book.entries
    swept-mirror swept n open_gate = go open_gate.side open_gate.gate
      where
        go : (s : Side) → n ≡ Gate s open_gate.var → HasSpent book.entries n ⊎ IsLone (record { a = a; b = b }) book.entries n
        go B e =
            absurd (gate-merged open_gate.var (subst (λ (m : Node). IsSome (position_of (record { a = a; b = b }) m)) e open_gate.there)
            (subst (IsRoot book.entries) e open_gate.root))
        go A e = elim (swept n here) [
          | inl spent ↦
              inl (subst (λ (l : List Entry). HasSpent l n) (sym longer) (spent-longer given.entries (mirror.merges ++ mirror.outs) n spent))
          | inr lone ↦
              inr (λ m less root value.
              let before = subst (λ (x : Node). IsBefore (position_of (record { a = a; b = b }) m.node) (position_of (record { a = a; b = b }) x)) e less in
              let of = earlier-of_a open_gate.var m.node before in
              lone m
              (subst (λ (o : Option ℕ). IsBefore o (position_of (swept_pair a) n)) (position-same m.node of)
              (subst (λ (o : Option ℕ). IsBefore (position_of (record { a = a; b = b }) m.node) o) (position-same n of_n) less))
              (root-shorter given.entries (mirror.merges ++ mirror.outs) m.node (subst (λ (l : List Entry). IsRoot l m.node) longer root))
              (λ bits whole. sym (value-same a (without_gates a) b refl bits n of_n) ∙ value bits whole ∙ holds-same a (without_gates a) b refl bits m of))
        ]
          where
            of_n : is_of_a n ≡ true
            of_n = ap is_of_a e

            here : IsOpenGate (swept_pair a) given.entries n
            here = record {
              side = A;
              var = open_gate.var;
              gate = e;
              there = ap is_some (sym (position-same n of_n)) ∙ open_gate.there;
              root = root-shorter given.entries (mirror.merges ++ mirror.outs) n (subst (λ (l : List Entry). IsRoot l n) longer open_gate.root);
            }

-- ---- what the calls leave

-- the book of a sweep of a circuit by itself
pub swept-book : (net : AigPair) (o : Options) (empty merged swept : Entries) (pool patterns : Patterns) → net ≡ swept_pair net.a
    → empty ≡ empty_book o → pool ≡ first_pool net o → AddsStructure net empty merged → Sweeps net merged swept pool patterns
    → IsReduced net swept.entries patterns.patterns → IsSwept net swept.entries → IsSweptBook net.a o swept
swept-book net o empty merged swept pool patterns alone none first structure s reduced is = record {
  book_of = record {
    sweep_is = s.sweep_budget ∙ structure.merges.sweep ∙ ap (λ (b : Entries). b.sweep_budget) none;
    budget_is = s.out_budget ∙ structure.merges.out ∙ ap (λ (b : Entries). b.out_budget) none;
    legal = legal;
  };
  of_a =
      pairs-of_a net.a swept legal
      (swept-pairs empty merged s.added swept.entries (ap (λ (b : Entries). b.entries) none) (structure-merges net empty merged structure)
      s.begins s.kinds);
  alone = record {
    patterns = patterns;
    sweep = subst (λ (n : AigPair). IsSweptFrom n (record { book = empty_book o; pool = first_pool n o }) swept patterns) alone sweep;
    reduced = subst (λ (n : AigPair). IsReduced n swept.entries patterns.patterns) alone reduced;
  };
  swept = subst (λ (n : AigPair). IsSwept n swept.entries) alone is;
}
  where
    legal : IsLegal (swept_pair net.a) swept
    legal = subst (λ (n : AigPair). IsLegal n swept) alone s.legal

    sweep : IsSweptFrom net (record { book = empty_book o; pool = first_pool net o }) swept patterns
    sweep = record {
      merged = merged;
      structure = subst (λ (b : Entries). AddsStructure net b merged) none structure;
      pairs = subst (λ (p : Patterns). Sweeps net merged swept p patterns) first s;
    }

-- it is legal beside another circuit
pub legal-beside : (net : AigPair) (o : Options) (book : Entries) → IsSweptBook net.a o book → IsLegal net book
legal-beside net o book swept = legal-other net.a (without_gates net.a) net.b refl book swept.book_of.legal swept.of_a

-- the book that shows the circuit and its reduced one equal
pub settled-mirror : (net : AigPair) (o : Options) (book mirrored : Entries) → IsSweptBook net.a o book → IsMirror net book mirrored
    → IsLegal net mirrored → Finds net mirrored.entries Equivalent
    → ((f : Finding) → Finds net mirrored.entries f → Means net mirrored.entries f)
    → IsSettled net o.sweep_budget o.out_budget mirrored Equivalent
settled-mirror net o book mirrored swept mirror legal finds means = record {
  sweep_is = mirror.sweep ∙ swept.book_of.sweep_is;
  budget_is = mirror.out ∙ swept.book_of.budget_is;
  legal = legal;
  finds = finds;
  means = means Equivalent finds;
  swept = swept-mirror net.a net.b book mirrored mirror swept.swept;
  within = tt;
}

-- the pair is that of its own A, over which the book is legal
pub swept-own : (a : Aig) (alone : AigPair) → alone ≡ swept_pair a → alone ≡ swept_pair alone.a
swept-own a alone is = is ∙ ap (λ (x : Aig). swept_pair x) (sym (ap (λ (n : AigPair). n.a) is))

pub swept-legal : (a : Aig) (o : Options) (alone : AigPair) (book : Entries) → alone ≡ swept_pair a → IsSweptBook alone.a o book
    → IsLegal alone book
swept-legal a o alone book is swept = subst (λ (n : AigPair). IsLegal n book) (sym (swept-own a alone is)) swept.book_of.legal

-- beside the reduced circuit A is the same
same-beside : (a c : Aig) (alone net : AigPair) → alone ≡ swept_pair a → net ≡ record { a = a; b = c } → alone.a ≡ net.a
same-beside a c alone net alone_is net_is = ap (λ (n : AigPair). n.a) alone_is ∙ sym (ap (λ (n : AigPair). n.a) net_is)

pub swept-beside : (a c : Aig) (o : Options) (alone net : AigPair) (book : Entries) → alone ≡ swept_pair a → net ≡ record { a = a; b = c }
    → IsSweptBook alone.a o book → IsSweptBook net.a o book
swept-beside a c o alone net book alone_is net_is swept =
    subst (λ (x : Aig). IsSweptBook x o book) (same-beside a c alone net alone_is net_is) swept

pub reduced-beside : (a c : Aig) (alone net : AigPair) (es : List Entry) → alone ≡ swept_pair a → net ≡ record { a = a; b = c }
    → IsReducedCircuit alone.a es c → IsReducedCircuit net.a es net.b
reduced-beside a c alone net es alone_is net_is reduced =
    subst (λ (y : Aig). IsReducedCircuit net.a es y) (sym (ap (λ (n : AigPair). n.b) net_is))
    (subst (λ (x : Aig). IsReducedCircuit x es c) (same-beside a c alone net alone_is net_is) reduced)

pub values-beside : (a c : Aig) (alone : AigPair) → alone ≡ swept_pair a → HasValuesOf alone.a c → HasValuesOf a c
values-beside a c alone is values = subst (λ (x : Aig). HasValuesOf x c) (ap (λ (n : AigPair). n.a) is) values

-- and all together
pub reduction : (a circuit : Aig) (o : Options) (alone net : AigPair) (book mirrored : Entries) (s : State) → alone ≡ swept_pair a
    → net ≡ record { a = a; b = circuit } → IsSweptBook alone.a o book → IsReducedCircuit alone.a book.entries circuit
    → HasValuesOf alone.a circuit → IsInSequence circuit → IsMirror net book mirrored
    → IsSettled net o.sweep_budget o.out_budget mirrored Equivalent
    → s ≡ record (opened net o) { book = mirrored; found = Some Equivalent } → IsReduction a o circuit book s
reduction a circuit o alone net book mirrored s alone_is net_is swept reduced values sequence mirror settled s_is =
    subst (λ (t : State). IsReduction a o circuit book t) (sym s_is) (record {
      book_of = of.book_of;
      alone = of.alone;
      swept = of.swept;
      reduced = subst (λ (x : Aig). IsReducedCircuit x book.entries circuit) same reduced;
      values = subst (λ (x : Aig). HasValuesOf x circuit) same values;
      sequence = sequence;
      net = net_is;
      found = refl;
      else_opened = refl;
      mirror = mirror;
      settled = settled;
    })
  where
    same : alone.a ≡ a
    same = ap (λ (n : AigPair). n.a) alone_is

    of : IsSweptBook a o book
    of = subst (λ (x : Aig). IsSweptBook x o book) same swept
