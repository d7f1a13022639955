-- How long logs over a base can be, and what that makes of a query's budget.
use Rattle.std.proofs.Common.{◌≡◌, ◌≢◌, ℕ, ◌+◌, ◌^◌, ◌<◌, ◌≤◌, Bool, true, false, not, ◌||◌, List, [], ◌∷◌, ◌++◌, length, map, refl, sym, ap, ◌∙◌, subst, inl, inr, arith}
use Rattle.std.specs.Prelude.{filter}
use Rattle.std.specs.List.{AllByRecursion, list_any, flat_map, IsDistinct}
use Rattle.std.proofs.lemmas.List.{map-append, length-append, length-map}
use Rattle.std.proofs.lemmas.List.Folds.{list_any-append}
use Rattle.std.proofs.lemmas.Map.Made.{length-le_from_is_member}
use Rattle.std.proofs.lemmas.Bool.{or_left, or_right, or_cases}
use Rattle.lits.specs.Clause.{has, firsts}
use Rattle.lits.specs.Same.{same_lit, same_node, opposite}
use Rattle.lits.specs.declared.literal.Lit.{Lit}
use Rattle.lits.specs.declared.node.Node.{Node}
use Rattle.lits.specs.declared.step.Named.{Named}
use Rattle.lits.specs.declared.step.Step.{Step}
use Rattle.lits.specs.contracts.literal.LitLiteral.TheImpl.Laws as lit
use Rattle.lits.proofs.Facts.{all-filter, has-firsts, exact-node, lit_laws, node_laws}
use Rattle.unit_prop.specs.Log.{base_clauses, InTurn, IsLearned, IsLog, IsBudgetLog}
use Rattle.unit_prop.specs.New.{IsNew}
use Rattle.unit_prop.specs.Refuter.{Answers, IsAnswer}
use Rattle.unit_prop.specs.Variables.{variables_in, variables}
use Rattle.unit_prop.specs.declared.refuter.Refuted.{Refuted}
use Rattle.unit_prop.specs.declared.refuter.Refuted.TheVariants.{Spent}
use Rattle.unit_prop.proofs.ChainLemmas.{log-grows}
use Rattle.unit_prop.proofs.CountLemmas.{IsAmong, new-count}

-- the literal of each variable without a sign
positive : Node → Lit
positive n = record { node = n; neg = false }

clause_of : Step → List Lit
clause_of s = s.clause

has-positive : (ns : List Node) (n : Node) → has same_node ns n ≡ true → has same_lit (map positive ns) (positive n) ≡ true
has-positive [] n e = cc
has-positive (m ∷ ns) n e =
    elim (or_cases (same_node m n) (has same_node ns n) e) [
      | inl f ↦ or_left _ _ (subst (λ (k : Node). same_lit (positive k) (positive n) ≡ true) (sym (exact-node m n f)) (lit_laws.equivalence.refl (positive n)))
      | inr f ↦ or_right (same_lit (positive m) (positive n)) _ (has-positive ns n f)
    ]

-- each literal's node is among the nodes
AreNodesIn : List Node → List Lit → Type 0
AreNodesIn nodes clause = AllByRecursion (λ l. has same_node nodes l.node ≡ true) clause

-- a list that has the literal's variable without a sign has the literal or its negation
signed : (xs : List Lit) (q : Lit) → has same_lit xs (positive q.node) ≡ true → (has same_lit xs q || has same_lit xs (opposite q)) ≡ true
unfolding positive
signed xs q h = go q.neg refl
  where
    go : (b : Bool) → q.neg ≡ b → (has same_lit xs q || has same_lit xs (opposite q)) ≡ true
    go false e =
        let same : record { node = q.node; neg = false } ≡ q = ap (λ (b : Bool). record { node = q.node; neg = b }) (sym e) in
        or_left _ _ (subst (λ (z : Lit). has same_lit xs z ≡ true) same h)
    go true e =
        let same : record { node = q.node; neg = false } ≡ opposite q = ap (λ (b : Bool). record { node = q.node; neg = not b }) (sym e) in
        or_right (has same_lit xs q) _ (subst (λ (z : Lit). has same_lit xs z ≡ true) same h)

node-among : (nodes : List Node) (clause : List Lit) → AreNodesIn nodes clause → IsAmong same_lit opposite (map positive nodes) clause
unfolding AreNodesIn
node-among nodes clause all = record { among = each clause all }
  where
    each : (c : List Lit) → AllByRecursion (λ l. has same_node nodes l.node ≡ true) c → (q : Lit) → has same_lit c q ≡ true
        → (has same_lit (map positive nodes) q || has same_lit (map positive nodes) (opposite q)) ≡ true
    each [] all q e = cc
    each (l ∷ ls) all q e =
        elim (or_cases (same_lit l q) (has same_lit ls q) e) [
          | inl f ↦
              let here = subst (λ (z : Lit). has same_node nodes z.node ≡ true) (lit_laws.exact l q f) all.0 in
              signed (map positive nodes) q (has-positive nodes q.node here)
          | inr f ↦ each ls all.1 q f
        ]

-- the nodes of clauses, as often as they stand
abbrev nodes_of : List (List Lit) → List Node
nodes_of clauses = flat_map (map (λ l. l.node)) clauses

clause-in : (nodes : List Node) (clause : List Lit)
    → ((n : Node) → has same_node (map (λ (l : Lit). l.node) clause) n ≡ true → has same_node nodes n ≡ true) → AreNodesIn nodes clause
unfolding AreNodesIn
clause-in nodes [] f = tt
clause-in nodes (l ∷ ls) f =
    (f l.node (or_left _ _ (node_laws.equivalence.refl l.node)), clause-in nodes ls (λ n e. f n (or_right (same_node l.node n) _ e)))

clauses-in : (nodes : List Node) (clauses : List (List Lit))
    → ((n : Node) → has same_node (nodes_of clauses) n ≡ true → has same_node nodes n ≡ true) → AllByRecursion (AreNodesIn nodes) clauses
clauses-in nodes [] f = tt
clauses-in nodes (c ∷ cs) f = (
  clause-in nodes c (λ n e. f n (list_any-append (λ m. same_node m n) (map (λ (l : Lit). l.node) c) (nodes_of cs) ∙ or_left _ _ e)),
  clauses-in nodes cs (λ n e. f n (list_any-append (λ m. same_node m n) (map (λ (l : Lit). l.node) c) (nodes_of cs)
      ∙ or_right (has same_node (map (λ (l : Lit). l.node) c) n) _ e)),
)

all-among : (nodes : List Node) (clauses : List (List Lit)) → AllByRecursion (AreNodesIn nodes) clauses
    → AllByRecursion (IsAmong same_lit opposite (map positive nodes)) clauses
all-among nodes [] all = tt
all-among nodes (c ∷ cs) all = (node-among nodes c all.0, all-among nodes cs all.1)

-- a log's clauses, each new over the base's and those before it
learned-new : (base : List Named) (before log : List Step) → InTurn (IsLearned base) before log
    → InTurn (λ b c. IsNew same_lit opposite (base_clauses base ++ b) c) (map clause_of before) (map clause_of log)
unfolding clause_of
learned-new base before [] turn = tt
learned-new base before (s ∷ ss) turn = (
  turn.0.new,
  subst (λ (b : List (List Lit)). InTurn (λ b c. IsNew same_lit opposite (base_clauses base ++ b) c) b (map clause_of ss))
      (map-append clause_of before (s ∷ [])) (learned-new base (before ++ s ∷ []) ss turn.1),
)

pub log-length : (base : List Named) (log : List Step) → IsLog base log → length log ≤ 3 ^ variables base
log-length base log learned =
    let nodes = variables_in (base_clauses base) in
    let inside = clauses-in nodes (base_clauses base) (λ n e. has-firsts node_laws (nodes_of (base_clauses base)) n ∙ e) in
    let count = new-count lit_laws lit.differs-law (map positive nodes) (base_clauses base) (all-among nodes (base_clauses base) inside)
    (map clause_of log) (learned-new base [] log learned) in
    rw (length-map log, length-map nodes) at count

pub budget_log-length : (base : List Named) (budget : ℕ) (log : List Step) → IsBudgetLog base budget log → budget ≤ 3 ^ variables base
budget_log-length base budget log l =
    subst (λ (n : ℕ). n ≤ 3 ^ variables base) l.whole (log-length base log l.learned)

module _ (base : List Named) (target : List Lit) (log : List Step) (left : ℕ) (log' : List Step) (left' : ℕ) (result : Refuted)
    (above : 3 ^ variables base < left + length log) (learned : IsLog base log)
    (answers : Answers base target log left log' left' result) where
  -- the units that are left and the steps of the log stay as many
  pub units-last : 3 ^ variables base < left' + length log'
  units-last =
      let grown = ap length answers.grows ∙ length-append log answers.steps in
      let spent = answers.spends in
      omega arith

  pub never-spent : result ≢ Spent
  never-spent e =
      let empty : left' ≡ 0 = subst (λ r. IsAnswer base log' target left' r) e answers.answer in
      let most = log-length base log' (log-grows base target log left log' left' result learned answers) in
      let last = units-last in
      absurd (omega arith)

distinct-filter : (p : Node → Bool) (ns : List Node) → IsDistinct same_node ns → IsDistinct same_node (filter p ns)
unfolding IsDistinct
distinct-filter p [] d = tt
distinct-filter p (n ∷ ns) d = go (p n) refl (distinct-filter p ns d.1)
  where
    go : (b : Bool) → p n ≡ b → IsDistinct same_node (filter p ns) → IsDistinct same_node (filter p (n ∷ ns))
    go true e rest = rw e (all-filter (λ m. same_node n m ≡ false) p ns d.0, rest)
    go false e rest = rw e rest

filter-apart : (n : Node) (ns : List Node) → AllByRecursion (λ m. same_node n m ≡ false) (filter (λ m. not (same_node n m)) ns)
filter-apart n [] = tt
filter-apart n (m ∷ ms) = go (same_node n m) refl (filter-apart n ms)
  where
    go : (b : Bool) → same_node n m ≡ b → AllByRecursion (λ m. same_node n m ≡ false) (filter (λ m. not (same_node n m)) ms)
        → AllByRecursion (λ m. same_node n m ≡ false) (filter (λ m. not (same_node n m)) (m ∷ ms))
    go true e rest = rw e rest
    go false e rest = rw e (e, rest)

firsts-distinct : (ns : List Node) → IsDistinct same_node (firsts same_node ns)
unfolding IsDistinct
firsts-distinct [] = tt
firsts-distinct (n ∷ ns) = (
  filter-apart n (firsts same_node ns),
  distinct-filter (λ m. not (same_node n m)) (firsts same_node ns) (firsts-distinct ns),
)

-- the other way round than `has`
member : (ns : List Node) (q : Node) → list_any (same_node q) ns ≡ has same_node ns q
member [] q = refl
member (n ∷ ns) q = rw (node_laws.equivalence.symm q n, member ns q) refl

clause-nodes : (nodes : List Node) (clause : List Lit) (q : Node) → AreNodesIn nodes clause
    → has same_node (map (λ (l : Lit). l.node) clause) q ≡ true → has same_node nodes q ≡ true
unfolding AreNodesIn
clause-nodes nodes [] q all e = cc
clause-nodes nodes (l ∷ ls) q all e =
    elim (or_cases (same_node l.node q) (has same_node (map (λ (l : Lit). l.node) ls) q) e) [
      | inl f ↦ subst (λ (z : Node). has same_node nodes z ≡ true) (exact-node l.node q f) all.0
      | inr f ↦ clause-nodes nodes ls q all.1 f
    ]

base-nodes : (nodes : List Node) (base : List Named) (q : Node) → AllByRecursion (λ n. AreNodesIn nodes n.clause) base
    → has same_node (nodes_of (base_clauses base)) q ≡ true → has same_node nodes q ≡ true
base-nodes nodes [] q all e = cc
base-nodes nodes (n ∷ ns) q all e =
    elim (or_cases _ _ (sym (list_any-append (λ m. same_node m q) (map (λ (l : Lit). l.node) n.clause) (nodes_of (base_clauses ns))) ∙ e)) [
      | inl f ↦ clause-nodes nodes n.clause q all.0 f
      | inr f ↦ base-nodes nodes ns q all.1 f
    ]

pub variables-among : (base : List Named) (nodes : List Node)
    → AllByRecursion (λ n. AllByRecursion (λ l. has same_node nodes l.node ≡ true) n.clause) base → variables base ≤ length nodes
unfolding AreNodesIn
variables-among base nodes all =
    length-le_from_is_member node_laws.equivalence (variables_in (base_clauses base)) nodes (firsts-distinct (nodes_of (base_clauses base)))
    (λ q e. member nodes q ∙ base-nodes nodes base q all
    (sym (has-firsts node_laws (nodes_of (base_clauses base)) q) ∙ (sym (member (variables_in (base_clauses base)) q) ∙ e)))
