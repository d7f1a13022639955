-- What the pass finds at a position, and the tasks of the positions that were passed.
use Rattle.std.proofs.Common.{◌≡◌, ◌∙◌, ℕ, ◌+◌, ◌<◌, ◌≤◌, ◌&&◌, ◌⊎◌, Bool, true, false, not, None, Some, List, [], ◌∷◌, ◌++◌, length, refl, sym, ap, ap₂, subst, arith, inl, inr, if◌then◌else◌}
use Rattle.std.specs.Option.{is_some}
use Rattle.std.specs.List.{AllByRecursion}
use Rattle.std.proofs.lemmas.Bool.{cases_lt}
use Rattle.lits.specs.declared.node.Side.{Side}
use Rattle.lits.specs.declared.node.Node.{Node}
use Rattle.lits.specs.declared.node.Node.TheVariants.{Const, Input, Gate, Xor}
use Rattle.lits.specs.declared.literal.Lit.{Lit}
use Rattle.netlist.specs.Net.{AigPair, IsNet, nodes_of, node_at, position_of}
use Rattle.netlist.proofs.Facts.{node-at, position-node, all-weaker}
use Rattle.word_sim.specs.Rows.{Signatures, AreSignatures}
use Rattle.lemma_book.specs.declared.entry.Entry.{Entry}
use Rattle.lemma_book.specs.declared.entry.Task.{Task}
use Rattle.lemma_book.specs.Entry.{has_spent_on}
use Rattle.lemma_book.specs.Root.{merge_of}
use Rattle.lemma_book.specs.Good.{IsEarlier}
use Rattle.sig_classes.specs.Leader.{IsLeader, IsDue, AreRising, IsIn, AreTasks}
use Rattle.sig_classes.specs.Chains.{are_one, are_alike, is_first}
use Rattle.sig_classes.specs.Pass.{root_at, is_gate, lit_between, task_at, IsNext, IsNextTask}
use Rattle.sig_classes.proofs.ChainLemmas.{one-none}
use Rattle.sig_classes.proofs.FirstLemmas.{first-parts, first-least, none-alike}
use Rattle.sig_classes.proofs.LeaderLemmas.{is-root, root-is, place-of, place-inside, earlier-is, is-earlier, candidate-at, leader-at, leader-is}

gate-is : (n : Node) → is_gate n ≡ true → (s : Side) × (v : ℕ) × (n ≡ Gate s v)
gate-is (Gate s v) e = (s, v, refl)
gate-is Const e = cc
gate-is (Input k) e = cc
gate-is (Xor j) e = cc

pub is-gate : (n : Node) (s : Side) (v : ℕ) → n ≡ Gate s v → is_gate n ≡ true
is-gate n s v e = ap is_gate e

module _ (net : AigPair) (is : IsNet net) (entries : List Entry) (patterns : List (List Bool)) (p : ℕ) (below : p < length (nodes_of net)) where
  -- of a merged node no task is due
  pub next-merged : root_at net entries p ≡ false → IsNextTask net entries patterns p None
  next-merged merged t same due =
      let root = is-root entries t.node due.gate.root in
      let f : true ≡ false = sym root ∙ ap (λ (n : Node). not (is_some (merge_of entries n))) same ∙ merged in cc

  module _ (sigs : Signatures) (are : AreSignatures net patterns sigs) where
    -- nor of one that no earlier root is alike to
    pub next-lone : ((q : ℕ) → is_first [] sigs (root_at net entries) p q ≡ true → are_one [] sigs q p ≡ false) → IsNextTask net entries patterns p None
    next-lone none t same due =
        let earlier = is-earlier net t.node t.lit p (ap (position_of net) same ∙ position-node net is p below) due.earlier in
        let candidate = subst (λ (n : Node). IsLeader net entries patterns n t.lit) same due.leader in
        let c = candidate-at net is entries patterns sigs are p t.lit below candidate.candidate earlier.0 earlier.1 in
        let f : true ≡ false = sym c.1 ∙ sym (one-none sigs earlier.0 p) ∙ none-alike [] sigs (root_at net entries) p p none earlier.0 earlier.2 c.0 in cc

    module _ (q : ℕ) (first : is_first [] sigs (root_at net entries) p q ≡ true) (both : are_one [] sigs q p ≡ true)
        (root : root_at net entries p ≡ true) where
      parts : (q < p) × (root_at net entries q ≡ true)
      parts = let r = first-parts [] sigs (root_at net entries) p q first in (r.0, r.1)

      one : are_alike sigs q p ≡ true
      one = sym (one-none sigs q p) ∙ both

      there : q < length (nodes_of net)
      there = omega (arith, parts.0, below)

      least : (r : ℕ) → r < q → root_at net entries r ≡ true → are_alike sigs r p ≡ false
      least r below is_root = sym (one-none sigs r p) ∙ first-least [] sigs (root_at net entries) p q p first both r below is_root

      leads : IsLeader net entries patterns (node_at net p) (lit_between net sigs q p)
      leads = leader-at net is entries patterns sigs are p q below there parts.1 one least

      alone : (l : Lit) → IsLeader net entries patterns (node_at net p) l → l ≡ lit_between net sigs q p
      alone l = leader-is net is entries patterns sigs are p q l below there parts.1 one least

      -- of any other its leader is the one that was found
      pub next-found : IsNextTask net entries patterns p (task_at net entries sigs q p)
      next-found = go (is_gate (node_at net p)) (has_spent_on entries (node_at net p) (lit_between net sigs q p)) refl refl
        where
          go : (gate spent : Bool) → is_gate (node_at net p) ≡ gate → has_spent_on entries (node_at net p) (lit_between net sigs q p) ≡ spent
              → IsNextTask net entries patterns p (if gate && not spent then Some (record { node = node_at net p; lit = lit_between net sigs q p }) else None)
          go true false e f =
              let g = gate-is (node_at net p) e in record {
                node = refl;
                due = record {
                  gate = record {
                    side = g.0;
                    var = g.1;
                    gate = g.2;
                    there = ap is_some (position-node net is p below);
                    root = root-is entries (node_at net p) root;
                  };
                  leader = leads;
                  earlier = earlier-is net (node_at net p) (lit_between net sigs q p) p q (position-node net is p below) (position-node net is q there) parts.0;
                  unspent = f;
                };
                only = λ u same due.
                    ap₂ (λ (n : Node) (l : Lit). record { node = n; lit = l }) same
                    (alone u.lit (subst (λ (n : Node). IsLeader net entries patterns n u.lit) same due.leader));
              }
          go true true e f = λ t same due.
              let lit : t.lit ≡ lit_between net sigs q p = alone t.lit (subst (λ (n : Node). IsLeader net entries patterns n t.lit) same due.leader) in
              let spent : has_spent_on entries t.node t.lit ≡ true =
              ap (λ (n : Node). has_spent_on entries n t.lit) same ∙ ap (has_spent_on entries (node_at net p)) lit ∙ f in
              let h : true ≡ false = sym spent ∙ due.unspent in cc
          go false spent e f = λ t same due.
              let h : true ≡ false = sym (is-gate t.node due.gate.side due.gate.var due.gate.gate) ∙ ap is_gate same ∙ e in cc

-- the node stands before the position
pub record IsPassed (net : AigPair) (n : ℕ) (t : Task) : Type 0 where
  pub place : ℕ
  pub is : position_of net t.node ≡ Some place
  pub less : place < n

-- the tasks of the nodes before the position, in order
pub record AreTasksBefore (net : AigPair) (entries : List Entry) (patterns : List (List Bool)) (n : ℕ) (tasks : List Task) : Type 0 where
  pub due : AllByRecursion (IsDue net entries patterns) tasks
  pub rising : AreRising net tasks
  pub passed : AllByRecursion (IsPassed net n) tasks
  pub whole : (t : Task) → IsDue net entries patterns t → IsPassed net n t → IsIn t tasks

all-last : {X : Type 0} (P : X → Type 0) (xs : List X) (x : X) → AllByRecursion P xs → P x → AllByRecursion P (xs ++ x ∷ [])
all-last P [] x all here = (here, tt)
all-last P (y ∷ ys) x all here = (all.0, all-last P ys x all.1 here)

in-left : (t : Task) (xs ys : List Task) → IsIn t xs → IsIn t (xs ++ ys)
in-left t [] ys h = absurd h
in-left t (x ∷ xs) ys (inl e) = inl e
in-left t (x ∷ xs) ys (inr h) = inr (in-left t xs ys h)

in-last : (t : Task) (xs : List Task) → IsIn t (xs ++ t ∷ [])
in-last t [] = inl refl
in-last t (x ∷ xs) = inr (in-last t xs)

rising-last : (net : AigPair) (xs : List Task) (n : ℕ) (t : Task) → AreRising net xs → AllByRecursion (IsPassed net n) xs
    → position_of net t.node ≡ Some n → AreRising net (xs ++ t ∷ [])
rising-last net [] n t rising passed place = (tt, tt)
rising-last net (x ∷ xs) n t rising passed place = (
  all-last (λ u. IsEarlier net u.node (record { node = x.node; neg = false })) xs t rising.0
      (earlier-is net t.node (record { node = x.node; neg = false }) n passed.0.place place passed.0.is passed.0.less),
  rising-last net xs n t rising.1 passed.1 place,
)

module _ (net : AigPair) (is : IsNet net) (entries : List Entry) (patterns : List (List Bool)) where
  longer : (n : ℕ) (t : Task) → IsPassed net n t → IsPassed net (n + 1) t
  longer n t p = record { place = p.place; is = p.is; less = omega (arith, p.less) }

  last-cases : (n : ℕ) (t : Task) → IsPassed net (n + 1) t → IsPassed net n t ⊎ (t.node ≡ node_at net n)
  last-cases n t p = elim (cases_lt p.place n) [
    | inl less ↦ inl (record { place = p.place; is = p.is; less = less })
    | inr more ↦
        let same : p.place ≡ n = omega (arith, p.less) in
        inr (sym (ap (node_at net) (sym same) ∙ node-at net t.node p.place p.is))
  ]

  -- a position without a task, and one with a task
  pub before-same : (n : ℕ) (tasks : List Task) → IsNextTask net entries patterns n None → AreTasksBefore net entries patterns n tasks
      → AreTasksBefore net entries patterns (n + 1) tasks
  before-same n tasks none old = record {
    due = old.due;
    rising = old.rising;
    passed = all-weaker (IsPassed net n) (IsPassed net (n + 1)) (longer n) tasks old.passed;
    whole = λ t due p. elim (last-cases n t p) [
      | inl before ↦ old.whole t due before
      | inr here ↦ absurd (none t here due)
    ];
  }

  pub before-more : (n : ℕ) (tasks : List Task) (task : Task) → n < length (nodes_of net)
      → IsNext net entries patterns n task → AreTasksBefore net entries patterns n tasks → AreTasksBefore net entries patterns (n + 1) (tasks ++ task ∷ [])
  before-more n tasks task below next old =
      let place : position_of net task.node ≡ Some n = ap (position_of net) next.node ∙ position-node net is n below in
      record {
        due = all-last (IsDue net entries patterns) tasks task old.due next.due;
        rising = rising-last net tasks n task old.rising old.passed place;
        passed = all-last (IsPassed net (n + 1)) tasks task
            (all-weaker (IsPassed net n) (IsPassed net (n + 1)) (longer n) tasks old.passed)
            (record { place = n; is = place; less = omega arith });
        whole = λ t due p. elim (last-cases n t p) [
          | inl before ↦ in-left t tasks (task ∷ []) (old.whole t due before)
          | inr here ↦ subst (λ (u : Task). IsIn t (tasks ++ u ∷ [])) (next.only t here due) (in-last t tasks)
        ];
      }

  -- all positions
  pub before-all : (n : ℕ) (tasks : List Task) → length (nodes_of net) ≤ n → AreTasksBefore net entries patterns n tasks → AreTasks net entries patterns tasks
  before-all n tasks all old = record {
    due = old.due;
    rising = old.rising;
    whole = λ t due.
        let place = place-of net t.node due.gate.there in
        old.whole t due (record { place = place.0; is = place.1; less = omega (arith, place-inside net t.node place.0 place.1, all) });
  }
