-- In a legal book the budget that an output's query spent is at most 3^V, V being the number of the CNF's variables.
use Rattle.std.proofs.Common.{◌≡◌, ◌≢◌, ℕ, zero, suc, ◌+◌, ◌-◌, ◌*◌, ◌≤◌, ◌^◌, Bool, true, false, Option, Some, None, List, [], ◌∷◌, ◌++◌, length, take, refl, subst, arith, add-zero, pow-suc}
use Rattle.std.specs.Prelude.{slice_get, filter}
use Rattle.std.specs.List.{AllByRecursion}
use Rattle.lits.specs.Clause.{has}
use Rattle.lits.specs.Same.{same_node, same_lit, opposite}
use Rattle.lits.specs.declared.node.Node.{Node}
use Rattle.lits.specs.declared.node.Node.TheVariants.{Xor}
use Rattle.lits.specs.declared.step.Named.{Named}
use Rattle.lits.specs.declared.step.Step.{Step}
use Rattle.netlist.specs.Net.{AigPair, IsNet}
use Rattle.netlist.specs.Miter.{variables_of}
use Rattle.unit_prop.specs.New.{IsNew}
use Rattle.unit_prop.specs.Log.{InTurn, IsStepAfter, IsLearned, IsBudgetLog, base_clause, clauses_of}
use Rattle.unit_prop.specs.Variables.{variables}
use Rattle.unit_prop.proofs.Facts.{in_turn-append}
use Rattle.lemma_book.specs.declared.entry.Entry.{Entry}
use Rattle.lemma_book.specs.declared.entry.Entry.TheVariants.{Merge, Apart, Spent, Out, OutApart, OutSpent}
use Rattle.lemma_book.specs.Entry.{Entries, about, is_spent, has_spent, outputs_of}
use Rattle.lemma_book.specs.Good.{Count, NoStep, NotNew, IsGood}
use Rattle.lemma_book.specs.Book.{IsLegal}
use Rattle.lemma_book.proofs.Facts.{IsGoodAfter, about-all, in_turn-each, output_cone-one, output_cone-over}
use Rattle.check_session.specs.Finding.{Finding, Equivalent, Different, Undecided, Finds}
use Rattle.check_session.specs.Check.{IsWithinFor}

-- the laws about budgets
abbrev pub BudgetsAreSmall : Type 0
BudgetsAreSmall = (base : List Named) (budget : ℕ) (log : List Step) → IsBudgetLog base budget log → budget ≤ 3 ^ variables base

abbrev pub VariablesAreAmong : Type 0
VariablesAreAmong = (base : List Named) (nodes : List Node)
    → AllByRecursion (λ n. AllByRecursion (λ l. has same_node nodes l.node ≡ true) n.clause) base → variables base ≤ length nodes

-- the entry is good over some legal book
record IsGoodSomewhere (net : AigPair) (sweep out : ℕ) (e : Entry) : Type 0 where
  pub before : List Entry
  pub legal : InTurn (IsGoodAfter net sweep out) [] before
  pub good : IsGoodAfter net sweep out before e

good-each : (net : AigPair) (sweep out : ℕ) (before left : List Entry) → InTurn (IsGoodAfter net sweep out) [] before
    → InTurn (IsGoodAfter net sweep out) before left → AllByRecursion (IsGoodSomewhere net sweep out) left
good-each net sweep out before [] legal rest = tt
good-each net sweep out before (e ∷ es) legal rest = (
  record { before = before; legal = legal; good = rest.0 },
  good-each net sweep out (before ++ e ∷ []) es
      (in_turn-append (IsGoodAfter net sweep out) [] before (e ∷ []) legal (rest.0, tt)) rest.1,
)

grows : (a n : ℕ) → 3 ^ a ≤ 3 ^ (a + n)
grows a zero = rw (add-zero a) (omega arith)
grows a (suc n) =
    let shift : a + suc n ≡ suc (a + n) = omega arith in
    let most : 3 ^ suc (a + n) ≡ 3 ^ (a + n) * 3 = pow-suc 3 (a + n) in
    rw (shift, most) (omega (arith, grows a n))

power-grows : (a b : ℕ) → a ≤ b → 3 ^ a ≤ 3 ^ b
power-grows a b le =
    let same : a + (b - a) ≡ b = omega arith in
    subst (λ (n : ℕ). 3 ^ a ≤ 3 ^ n) same (grows a (b - a))

spent-within : (net : AigPair) → IsNet net → BudgetsAreSmall → VariablesAreAmong → (sweep out : ℕ) (e : Entry) → IsGoodSomewhere net sweep out e
    → is_spent e ≡ true → out ≤ 3 ^ length (variables_of net)
spent-within net is small among sweep out (OutSpent j seen log) later spent =
    let in_cone : out ≤ 3 ^ variables cone = small cone out log (record {
      whole = good Count;
      learned = in_turn-each (IsLearned cone) [] log (λ k x at. record { step = step k x at; new = new k x at });
    }) in
    let few : variables cone ≤ length (variables_of net) = among cone (variables_of net) (output_cone-over net is book later.legal seen j cone (good (NoStep 0)).is_cone) in
    omega (arith, in_cone, power-grows (variables cone) (length (variables_of net)) few)
  where
    book : Entries
    book = record { sweep_budget = sweep; out_budget = out; entries = later.before }

    good : IsGood net book (OutSpent j seen log)
    good = later.good

    cone : List Named
    cone = (good (NoStep 0)).cone

    step : (k : ℕ) (x : Step) → slice_get log k ≡ Some x → IsStepAfter (base_clause cone) (take k log) x
    step k x at =
        let over = good (NoStep k) in
        subst (λ (c : List Named). IsStepAfter (base_clause c) (take k log) x)
        (output_cone-one net (take seen later.before) j over.cone cone over.is_cone (good (NoStep 0)).is_cone) (over.holds x at)

    new : (k : ℕ) (x : Step) → slice_get log k ≡ Some x → IsNew same_lit opposite (clauses_of cone (take k log)) x.clause
    new k x at =
        let over = good (NotNew k) in
        subst (λ (c : List Named). IsNew same_lit opposite (clauses_of c (take k log)) x.clause)
        (output_cone-one net (take seen later.before) j over.cone cone over.is_cone (good (NoStep 0)).is_cone) (over.holds.0 x at)
spent-within net is small among sweep out (Merge node lit steps) later spent = cc
spent-within net is small among sweep out (Apart node lit input) later spent = cc
spent-within net is small among sweep out (Spent node lit seen log) later spent = cc
spent-within net is small among sweep out (Out j steps) later spent = cc
spent-within net is small among sweep out (OutApart j input) later spent = cc

-- some element passes the test
record Passes {X : Type 0} (test : X → Bool) : Type 0 where
  pub one : X
  pub passes : test one ≡ true

filter-some : {X : Type 0} (test : X → Bool) (xs : List X) → filter test xs ≢ [] → Passes test
filter-some test [] some = absurd (some refl)
filter-some test (x ∷ xs) some = go (test x) refl (filter-some test xs)
  where
    go : (b : Bool) → test x ≡ b → (filter test xs ≢ [] → Passes test) → Passes test
    go true e rest = record { one = x; passes = e }
    go false e rest = rest (λ f. some (rw e f))

-- a finding that leaves outputs open was dear enough
pub finds-within : (net : AigPair) → IsNet net → BudgetsAreSmall → VariablesAreAmong → (book : Entries) → IsLegal net book
    → (f : Finding) → Finds net book.entries f → IsWithinFor net book.out_budget f
finds-within net is small among book legal Equivalent finds = tt
finds-within net is small among book legal (Different j input) finds = tt
finds-within net is small among book legal Undecided finds = go open_output.one open_output.passes (about book.entries open_output.one) refl
  where
    open_output : Passes (has_spent book.entries)
    open_output = filter-some (has_spent book.entries) (outputs_of net) finds.some_open

    all : AllByRecursion (IsGoodSomewhere net book.sweep_budget book.out_budget) book.entries
    all = good-each net book.sweep_budget book.out_budget [] book.entries tt legal

    go : (j : ℕ) → has_spent book.entries j ≡ true → (o : Option Entry) → about book.entries j ≡ o
        → book.out_budget ≤ 3 ^ length (variables_of net)
    go j h None e = let g : false ≡ true = rw e at h in cc
    go j h (Some x) e =
        let g : is_spent x ≡ true = rw e at h in
        spent-within net is small among book.sweep_budget book.out_budget x
        (about-all (IsGoodSomewhere net book.sweep_budget book.out_budget) book.entries j x all e) g
