-- An entry that stays is good over the entries that stayed before it and the edited net.
use Rattle.std.proofs.Common.{◌≡◌, ℕ, zero, suc, ◌+◌, ◌<◌, ◌≤◌, Bool, true, false, not, cond, Option, Some, None, List, [], ◌∷◌, ◌++◌, length, map, take, refl, sym, ap, ◌∙◌, subst}
use Rattle.std.specs.Prelude.{◌==◌, ◌||◌, slice_get}
use Rattle.std.specs.Option.{option_map, option_map_or, option_and_then, is_some}
use Rattle.std.specs.List.{list_any, list_all, AllByRecursion}
use Rattle.std.proofs.lemmas.List.{map-append, length-map}
use Rattle.std.proofs.lemmas.Option.{none-some, same_Some, slice_get-map}
use Rattle.std.proofs.lemmas.Bool.{and_parts, or_left}
use Rattle.lits.specs.Clause.{has_pair, firsts}
use Rattle.lits.specs.Same.{same_lit, opposite}
use Rattle.lits.specs.declared.node.Side.{Side}
use Rattle.lits.specs.declared.node.Side.TheVariants.{A, B}
use Rattle.lits.specs.declared.node.Node.{Node}
use Rattle.lits.specs.declared.node.Node.TheVariants.{Const, Input, Gate, Xor}
use Rattle.lits.specs.declared.literal.Lit.{Lit}
use Rattle.lits.specs.declared.step.Ref.{Ref}
use Rattle.lits.specs.declared.step.Ref.TheVariants.{Axiom, Entry as Shown, Own, Bound}
use Rattle.lits.specs.declared.step.Step.{Step}
use Rattle.lits.proofs.Facts.{all-slice_get}
use Rattle.netlist.specs.declared.gate.And.{And}
use Rattle.netlist.specs.Net.{AigPair, IsNet, circuit_of, definition_of, gate_at, output_of}
use Rattle.netlist.specs.Miter.{kept, unit, axioms_of, axiom_of, gate_clauses, xor_clauses, xor_axioms}
use Rattle.netlist.proofs.Facts.{found-one, no-facts, equal-number}
use Rattle.lemma_book.specs.declared.entry.Entry.{Entry}
use Rattle.lemma_book.specs.declared.entry.Entry.TheVariants.{Merge, Apart, Spent, Out, OutApart, OutSpent}
use Rattle.lemma_book.specs.declared.entry.Subject.{Subject}
use Rattle.lemma_book.specs.Entry.{subject_of, same_subject, is_on, place_on, settled_at, lemmas_of, merge_clauses, equal_clause}
use Rattle.lemma_book.specs.Cone.{AreThere}
use Rattle.lemma_book.specs.Good.{NoNode, Already, NotEarlier, Shape, Count, NoStep, AreOver, EndsIn, IsStepAt, merge_clause, out_clause, node_clause}
use Rattle.lemma_book.proofs.Facts.{IsGoodAfter, good-merge, good-out, in_turn-each}
use Rattle.netlist.proofs.Facts.{is_some-place, none_from_is_some}
use Rattle.unit_prop.specs.Log.{with_own, IsStepAfter, IsChain}
use Rattle.keep_lemmas.proofs.Renaming.{IsNamed, step-renamed}
use Rattle.keep_lemmas.proofs.EditedNets.{NetStays, axiom-stays, bound-same, position-stays, earlier-stays, variable-stays, count-stays}
use Rattle.keep_lemmas.specs.Kept.{is_clear, hint_stays, step_stays, entry_stays, renewed_hint, renewed_step, renewed}

-- ---- a clause that defines a node has a literal of it

module _ (P : List Lit → Type 0) where
  kept-each : (cs : List (List Lit)) → AllByRecursion (λ c. P (firsts same_lit c)) cs → AllByRecursion P (kept cs)
  kept-each [] all = tt
  kept-each (c ∷ cs) all = go (has_pair same_lit opposite c) (kept-each cs all.1)
    where
      go : (b : Bool) → AllByRecursion P (kept cs) → AllByRecursion P (cond b (kept cs) (firsts same_lit c ∷ kept cs))
      go true rest = rest
      go false rest = (all.0, rest)

module _ (t : Node → Bool) where
  -- a touched node stands in it
  abbrev Shows : Node → List Lit → Type 0
  Shows n c = t n ≡ true → list_any (λ l. t l.node) c ≡ true

  gate-shows : (net : AigPair) (s : Side) (v : ℕ) (o : Option And) → gate_at net s v ≡ o
      → AllByRecursion (Shows (Gate s v)) (option_map_or (λ g. kept (gate_clauses (definition_of s (circuit_of net s) g))) o [])
  gate-shows net s v None f = tt
  gate-shows net s v (Some g) f =
      let found = found-one (λ (x : And). x.var == v) (λ (x : And). Unit {0}) (circuit_of net s).gates g (no-facts (circuit_of net s).gates) f in
      let same : Gate s g.var ≡ Gate s v = ap (Gate s) (equal-number g.var v found.1) in
      kept-each (Shows (Gate s v)) (gate_clauses (definition_of s (circuit_of net s) g)) (
        λ e. or_left (t (Gate s g.var)) _ (ap t same ∙ e),
        (λ e. or_left (t (Gate s g.var)) _ (ap t same ∙ e), (λ e. or_left (t (Gate s g.var)) _ (ap t same ∙ e), tt)),
      )

  xor-shows : (j : ℕ) (a b : Option Lit) → AllByRecursion (Shows (Xor j)) (xor_axioms j a b)
  xor-shows j None b = tt
  xor-shows j (Some a) None = tt
  xor-shows j (Some a) (Some b) =
      kept-each (Shows (Xor j)) (xor_clauses (Xor j) a b)
      (or_left (t (Xor j)) _, (or_left (t (Xor j)) _, (or_left (t (Xor j)) _, (or_left (t (Xor j)) _, tt))))

  axioms-show : (net : AigPair) (n : Node) → AllByRecursion (Shows n) (axioms_of net n)
  axioms-show net Const = (λ e. or_left (t Const) false e, tt)
  axioms-show net (Input k) = tt
  axioms-show net (Gate s v) = gate-shows net s v (gate_at net s v) refl
  axioms-show net (Xor j) = xor-shows j (output_of net A j) (output_of net B j)

  -- a node isn't touched that has an axiom clear of touched nodes
  pub clear-node : (net : AigPair) (n : Node) (k : ℕ) (c : List Lit) → axiom_of net n k ≡ Some c → is_clear t c ≡ true → t n ≡ false
  clear-node net n k c at clear = go (t n) refl
    where
      go : (b : Bool) → t n ≡ b → b ≡ false
      go false e = refl
      go true e = let f = all-slice_get (Shows n) (axioms_of net n) k c (axioms-show net n) at e in let g : false ≡ true = sym (ap not f) ∙ clear in cc

  -- a literal of a clear clause
  pub clear-first : (l : Lit) (ls : List Lit) → is_clear t (l ∷ ls) ≡ true → (t l.node ≡ false) × (is_clear t ls ≡ true)
  clear-first l ls clear = go (t l.node) refl
    where
      go : (b : Bool) → t l.node ≡ b → (t l.node ≡ false) × (is_clear t ls ≡ true)
      go true e = let f : false ≡ true = ap (λ (b : Bool). not (b || list_any (λ m. t m.node) ls)) (sym e) ∙ clear in cc
      go false e = (e, ap (λ (b : Bool). not (b || list_any (λ m. t m.node) ls)) (sym e) ∙ clear)

-- ---- lists of steps

list_all-at : {X : Type 0} (p : X → Bool) (xs : List X) (k : ℕ) (x : X) → list_all p xs ≡ true → slice_get xs k ≡ Some x → p x ≡ true
list_all-at p [] k x all e = absurd (none-some x e)
list_all-at p (y ∷ ys) zero x all e = subst (λ (z : _). p z ≡ true) (same_Some y x e) (and_parts (p y) (list_all p ys) all).0
list_all-at p (y ∷ ys) (suc k) x all e = list_all-at p ys k x (and_parts (p y) (list_all p ys) all).1 e

list_all-right : {X : Type 0} (p : X → Bool) (xs ys : List X) → list_all p (xs ++ ys) ≡ true → list_all p ys ≡ true
list_all-right p [] ys all = all
list_all-right p (x ∷ xs) ys all = list_all-right p xs ys (and_parts (p x) (list_all p (xs ++ ys)) all).1

take-map : {X Y : Type 0} (f : X → Y) (k : ℕ) (xs : List X) → take k (map f xs) ≡ map f (take k xs)
take-map f zero xs = refl
take-map f (suc k) [] = refl
take-map f (suc k) (x ∷ xs) = ap (λ (l : List _). f x ∷ l) (take-map f k xs)

-- what a mapped list has at a place
map-at : {X Y : Type 0} (f : X → Y) (xs : List X) (k : ℕ) (y : Y) → slice_get (map f xs) k ≡ Some y → (x : X) × (slice_get xs k ≡ Some x) × (f x ≡ y)
map-at f [] k y e = absurd (none-some y e)
map-at f (x ∷ xs) zero y e = (x, refl, same_Some (f x) y e)
map-at f (x ∷ xs) (suc k) y e = map-at f xs k y e

abbrev on_subject : Subject → Option Subject → Bool
on_subject s o = option_map_or (λ t. same_subject t s) o false

module _ (number : ℕ → ℕ) where
  clauses-renewed : (steps : List Step) → map (λ s. s.clause) (map (renewed_step number) steps) ≡ map (λ s. s.clause) steps
  clauses-renewed [] = refl
  clauses-renewed (s ∷ ss) = ap (λ (cs : List (List Lit)). s.clause ∷ cs) (clauses-renewed ss)

  ends-renewed : (clauses : List (List Lit)) (steps : List Step) → EndsIn clauses steps → EndsIn clauses (map (renewed_step number) steps)
  ends-renewed clauses steps ends = record {
    before = map (renewed_step number) ends.before;
    last = map (renewed_step number) ends.last;
    parts = ap (map (renewed_step number)) ends.parts ∙ map-append (renewed_step number) ends.before ends.last;
    clauses_are = clauses-renewed ends.last ∙ ends.clauses_are;
  }

  lemmas-renewed : (x : Entry) → lemmas_of (renewed number x) ≡ lemmas_of x
  lemmas-renewed (Merge node lit steps) = refl
  lemmas-renewed (Apart node lit input) = refl
  lemmas-renewed (Spent node lit seen log) = refl
  lemmas-renewed (Out j steps) = refl
  lemmas-renewed (OutApart j input) = refl
  lemmas-renewed (OutSpent j seen log) = refl

  pub subject-renewed : (x : Entry) → subject_of (renewed number x) ≡ subject_of x
  subject-renewed (Merge node lit steps) = refl
  subject-renewed (Apart node lit input) = refl
  subject-renewed (Spent node lit seen log) = refl
  subject-renewed (Out j steps) = refl
  subject-renewed (OutApart j input) = refl
  subject-renewed (OutSpent j seen log) = refl

  -- renewed entries are on the same subjects
  pub on-renewed : (s : Subject) (xs : List Entry) → list_any (is_on s) (map (renewed number) xs) ≡ list_any (is_on s) xs
  on-renewed s [] = refl
  on-renewed s (x ∷ xs) =
      ap (λ (b : Bool). is_on s (renewed number x) || b) (on-renewed s xs)
      ∙ ap (λ (o : Option Subject). on_subject s o || list_any (is_on s) xs) (subject-renewed x)

-- where the first entries settle nothing of the subject, fewer of them don't either
settled-none : (before after : List Entry) (o : Option Subject)
    → ((s : Subject) → list_any (is_on s) before ≡ false → list_any (is_on s) after ≡ false)
    → option_map_or (place_on before) o None ≡ None → option_map_or (place_on after) o None ≡ None
settled-none before after None only e = refl
settled-none before after (Some s) only e =
    none_from_is_some (place_on after s) (is_some-place (is_on s) after ∙ only s (sym (is_some-place (is_on s) before) ∙ ap is_some e))

-- ---- an entry that stays, between the entries of the old book before it and those of the new one

module _ (t : Node → Bool) (old new : AigPair) (is : IsNet new) (nets : NetStays t old new) (before after : List Entry) (set : ℕ → Bool) (number : ℕ → ℕ)
    (found : (i : ℕ) (x : Entry) → set i ≡ true → slice_get before i ≡ Some x → slice_get after (number i) ≡ Some (renewed number x))
    (only : (s : Subject) → list_any (is_on s) before ≡ false → list_any (is_on s) after ≡ false) where
  merge-named : (i k : ℕ) (c : List Lit) → set i ≡ true → merge_clause before i k ≡ Some c → merge_clause after (number i) k ≡ Some c
  merge-named i k c stay at = go (slice_get before i) refl
    where
      go : (o : Option Entry) → slice_get before i ≡ o → merge_clause after (number i) k ≡ Some c
      go None f = absurd (none-some c (sym (ap (option_and_then (λ x. slice_get (lemmas_of x) k)) f) ∙ at))
      go (Some x) f =
          ap (option_and_then (λ x. slice_get (lemmas_of x) k)) (found i x stay f)
          ∙ ap (λ (cs : List (List Lit)). slice_get cs k) (lemmas-renewed number x)
          ∙ sym (ap (option_and_then (λ x. slice_get (lemmas_of x) k)) f) ∙ at

  out-named : (h : Ref) (c : List Lit) → hint_stays old t set h ≡ true → out_clause old before h ≡ Some c
      → out_clause new after (renewed_hint number h) ≡ Some c
  out-named (Axiom n k) c stay at =
      axiom-stays t old new nets is n k c
      (clear-node t old n k c at (sym (ap (λ (o : Option (List Lit)). option_map_or (is_clear t) o true) at) ∙ stay)) at
  out-named (Shown i k) c stay at = merge-named i k c stay at
  out-named (Own k) c stay at = absurd (none-some c at)
  out-named (Bound side k) c stay at = ap (option_map unit) (bound-same t old new nets side k) ∙ at

  node-named : (h : Ref) (c : List Lit) → hint_stays old t set h ≡ true → node_clause old before h ≡ Some c
      → node_clause new after (renewed_hint number h) ≡ Some c
  node-named (Axiom Const k) c stay at = out-named (Axiom Const k) c stay at
  node-named (Axiom (Input i) k) c stay at = out-named (Axiom (Input i) k) c stay at
  node-named (Axiom (Gate s v) k) c stay at = out-named (Axiom (Gate s v) k) c stay at
  node-named (Axiom (Xor j) k) c stay at = absurd (none-some c at)
  node-named (Shown i k) c stay at = merge-named i k c stay at
  node-named (Own k) c stay at = absurd (none-some c at)
  node-named (Bound side k) c stay at = absurd (none-some c at)

  module _ (find more : Ref → Option (List Lit))
      (named : (h : Ref) (c : List Lit) → hint_stays old t set h ≡ true → find h ≡ Some c → more (renewed_hint number h) ≡ Some c) where
    own-named : (steps : List Step) (h : Ref) (c : List Lit) → hint_stays old t set h ≡ true → with_own find steps h ≡ Some c
        → with_own more (map (renewed_step number) steps) (renewed_hint number h) ≡ Some c
    own-named steps (Axiom n k) c stay at = named (Axiom n k) c stay at
    own-named steps (Shown i k) c stay at = named (Shown i k) c stay at
    own-named steps (Bound side k) c stay at = named (Bound side k) c stay at
    own-named steps (Own k) c stay at =
        ap (option_map (λ s. s.clause)) (slice_get-map (renewed_step number) steps k) ∙ go (slice_get steps k) ∙ at
      where
        go : (o : Option Step) → option_map (λ s. s.clause) (option_map (renewed_step number) o) ≡ option_map (λ s. s.clause) o
        go None = refl
        go (Some s) = refl

    hints-named : (steps : List Step) (hints : List Ref) → list_all (hint_stays old t set) hints ≡ true
        → AllByRecursion (IsNamed same_lit opposite (with_own find steps) (with_own more (map (renewed_step number) steps)) (renewed_hint number)) hints
    hints-named steps [] all = tt
    hints-named steps (h ∷ hs) all =
        let both = and_parts (hint_stays old t set h) (list_all (hint_stays old t set) hs) all in
        (λ c at. own-named steps h c both.0 at, hints-named steps hs both.1)

    steps-named : (steps : List Step) (k : ℕ) → list_all (step_stays old t set) steps ≡ true → IsStepAt find steps k
        → IsStepAt more (map (renewed_step number) steps) k
    steps-named steps k all step s at =
        let r = map-at (renewed_step number) steps k s at in
        let stay = list_all-at (step_stays old t set) steps k r.0 all r.1 in
        let hints = (and_parts (is_clear t r.0.clause) (list_all (hint_stays old t set) r.0.hints) stay).1 in
        subst (λ (z : Step). IsStepAfter more (take k (map (renewed_step number) steps)) z) r.2
        (subst (λ (l : List Step). IsStepAfter more l (renewed_step number r.0)) (sym (take-map (renewed_step number) k steps))
        (step-renamed same_lit opposite (with_own find (take k steps)) (with_own more (map (renewed_step number) (take k steps))) (renewed_hint number)
        r.0.clause r.0.hints (hints-named (take k steps) r.0.hints hints) (step r.0 r.1)))

    chain-named : (steps : List Step) → list_all (step_stays old t set) steps ≡ true → ((k : ℕ) → IsStepAt find steps k)
        → IsChain more (map (renewed_step number) steps)
    chain-named steps all each =
        in_turn-each (IsStepAfter more) [] (map (renewed_step number) steps) (λ k s at. steps-named steps k all (each k) s at)

  clause-there : (clause : List Lit) → is_clear t clause ≡ true → AreThere old clause → AreThere new clause
  clause-there [] clear all = tt
  clause-there (l ∷ ls) clear all =
      let both = clear-first t l ls clear in
      (variable-stays t old new nets is l.node both.0 all.0, clause-there ls both.1 all.1)

  steps-there : (steps : List Step) → list_all (step_stays old t set) steps ≡ true → AreOver old steps → AreOver new (map (renewed_step number) steps)
  steps-there [] stay all = tt
  steps-there (s ∷ ss) stay all =
      let both = and_parts (step_stays old t set s) (list_all (step_stays old t set) ss) stay in
      let clear = (and_parts (is_clear t s.clause) (list_all (hint_stays old t set) s.hints) both.0).0 in
      (clause-there s.clause clear all.0, steps-there ss both.1 all.1)

  -- the first of the clauses that an entry shows is clear
  shown-clear : (c : List Lit) (cs : List (List Lit)) (steps : List Step) → list_all (step_stays old t set) steps ≡ true → EndsIn (c ∷ cs) steps
      → is_clear t c ≡ true
  shown-clear c cs steps stay ends = go ends.last ends.clauses_are (list_all-right (step_stays old t set) ends.before ends.last
      (subst (λ (l : List Step). list_all (step_stays old t set) l ≡ true) ends.parts stay))
    where
      go : (last : List Step) → map (λ s. s.clause) last ≡ c ∷ cs → list_all (step_stays old t set) last ≡ true → is_clear t c ≡ true
      go [] e all = cc
      go (s ∷ ss) e all =
          let same : s.clause ≡ c = cc in
          subst (λ (l : List Lit). is_clear t l ≡ true) same
          (and_parts (is_clear t s.clause) (list_all (hint_stays old t set) s.hints) (and_parts (step_stays old t set s) (list_all (step_stays old t set) ss) all).0).0

  settled-renewed : (e : Entry) → settled_at before e ≡ None → settled_at after (renewed number e) ≡ None
  settled-renewed e none =
      ap (λ (o : Option Subject). option_map_or (place_on after) o None) (subject-renewed number e)
      ∙ settled-none before after (subject_of e) only none

  few-steps : (steps : List Step) (most : ℕ) → length steps ≤ most → length (map (renewed_step number) steps) ≤ most
  few-steps steps most few = subst (λ (n : ℕ). n ≤ most) (sym (length-map steps (renewed_step number))) few

  -- what is good over the old entries is good over the new ones
  pub good-stays : (sweep out : ℕ) (e : Entry) → entry_stays old t set e ≡ true → IsGoodAfter old sweep out before e
      → IsGoodAfter new sweep out after (renewed number e)
  good-stays sweep out (Merge node lit steps) stay good =
      let clear = shown-clear _ _ steps stay (good Shape) in
      let first = clear-first t (record { node = node; neg = true }) (lit ∷ []) clear in
      let second = clear-first t lit [] first.1 in
      good-merge new (record { sweep_budget = sweep; out_budget = out; entries = after }) node lit (map (renewed_step number) steps)
      (position-stays t old new nets is node first.0 (good NoNode).0.0, position-stays t old new nets is lit.node second.0 (good NoNode).0.1)
      (steps-there steps stay (good NoNode).1)
      (settled-renewed (Merge node lit steps) (good Already))
      (earlier-stays t old new nets is node lit first.0 second.0 (good NotEarlier))
      (ends-renewed number (merge_clauses node lit) steps (good Shape))
      (few-steps steps (sweep + 2) (good Count))
      (chain-named (node_clause old before) (node_clause new after) node-named steps stay (λ k. good (NoStep k)))
  good-stays sweep out (Out j steps) stay good =
      good-out new (record { sweep_budget = sweep; out_budget = out; entries = after }) j (map (renewed_step number) steps)
      (subst (λ (n : ℕ). j < n) (sym (count-stays t old new nets is)) (good NoNode).0)
      (steps-there steps stay (good NoNode).1)
      (settled-renewed (Out j steps) (good Already))
      (ends-renewed number (equal_clause j ∷ []) steps (good Shape))
      (few-steps steps (out + 2) (good Count))
      (chain-named (out_clause old before) (out_clause new after) out-named steps stay (λ k. good (NoStep k)))
  good-stays sweep out (Apart node lit input) stay good = cc
  good-stays sweep out (Spent node lit seen log) stay good = cc
  good-stays sweep out (OutApart j input) stay good = cc
  good-stays sweep out (OutSpent j seen log) stay good = cc
