-- A circuit is its own draft's: nothing is undefined, and the order of its gates serves.
use Rattle.std.proofs.Common.{◌≡◌, ℕ, Bool, true, false, List, [], ◌∷◌, ◌++◌, None, Ok, refl, sym, ◌∙◌}
use Rattle.std.specs.Prelude.{◌==◌, ◌||◌, ◌&&◌, not}
use Rattle.std.specs.List.{list_all, find, flat_map}
use Rattle.std.proofs.lemmas.List.Folds.{list_any-append, list_all-append}
use Rattle.std.proofs.lemmas.Bool.{or_left, or_right}
use Rattle.lits.specs.Clause.{has}
use Rattle.netlist.specs.declared.gate.And.{And}
use Rattle.netlist.specs.Circuit.{Aig, IsCircuit, AreOrdered, gate_vars, variables_in, is_over, var_of, without_names}
use Rattle.symbol_names.specs.declared.names.Names.{Names}
use Rattle.netlist.proofs.Facts.{variables}
use Rattle.circuit_draft.specs.Draft.{undefined_in, uses_in, finished}
use Rattle.circuit_draft.specs.Levels.{is_in_order}
use Rattle.circuit_draft.proofs.Facts.{no_cycle-order, finished-order, Same, Same-push}

in_order : (known others : List ℕ) (gates : List And) → Same known others → AreOrdered known gates
    → is_in_order others gates ≡ true
in_order known others [] same ordered = refl
in_order known others (g ∷ gs) same ordered =
    let left : is_over others g.left ≡ true = sym (same (var_of g.left)) ∙ ordered.0.left in
    let right : is_over others g.right ≡ true = sym (same (var_of g.right)) ∙ ordered.0.right in
    rw (left, right)
    (in_order (g.var ∷ known) (others ++ g.var ∷ []) gs (Same-push known others g.var same)
    ordered.1)

-- ---- each fanin is over the circuit's variables

abbrev pub fanins_in : List And → List ℕ
fanins_in gates = flat_map (λ g. g.left ∷ g.right ∷ []) gates

-- known variables, all of which are among these, and so are the gates'
pub fanins_over : (vars known : List ℕ) (gates : List And)
    → ((v : ℕ) → has ◌==◌ known v ≡ true → has ◌==◌ vars v ≡ true)
    → ((v : ℕ) → has ◌==◌ (gate_vars gates) v ≡ true → has ◌==◌ vars v ≡ true)
    → AreOrdered known gates → list_all (is_over vars) (fanins_in gates) ≡ true
fanins_over vars known [] old new ordered = refl
fanins_over vars known (g ∷ gs) old new ordered =
    rw (
      old (var_of g.left) ordered.0.left,
      old (var_of g.right) ordered.0.right,
      fanins_over vars (g.var ∷ known) gs more (λ v h. new v (or_right (g.var == v) _ h)) ordered.1,
    ) refl
  where
    more : (v : ℕ) → has ◌==◌ (g.var ∷ known) v ≡ true → has ◌==◌ vars v ≡ true
    more v h = go (g.var == v) refl h
      where
        go : (b : Bool) → (g.var == v) ≡ b → (b || has ◌==◌ known v) ≡ true → has ◌==◌ vars v ≡ true
        go true e f = new v (or_left (g.var == v) _ e)
        go false e f = old v f

pub fanins_known : (c : Aig) → IsCircuit c
    → list_all (is_over (variables_in c)) (fanins_in c.gates) ≡ true
fanins_known c circuit =
    fanins_over (variables_in c) (0 ∷ c.inputs) c.gates
    (λ v h. list_any-append (λ y. y == v) (0 ∷ c.inputs) (gate_vars c.gates) ∙ or_left _ _ h)
    (λ v h. list_any-append (λ y. y == v) (0 ∷ c.inputs) (gate_vars c.gates) ∙ or_right _ _ h)
    circuit.gates

none_found : (test : ℕ → Bool) (xs : List ℕ) → list_all test xs ≡ true
    → find (λ n. not (test n)) xs ≡ None
none_found test [] e = refl
none_found test (x ∷ xs) e = go (test x) refl e (none_found test xs)
  where
    go : (b : Bool) → test x ≡ b → (b && list_all test xs) ≡ true
        → (list_all test xs ≡ true → find (λ n. not (test n)) xs ≡ None)
        → find (λ n. not (test n)) (x ∷ xs) ≡ None
    go true t e rest = rw t (rest e)
    go false t e rest = absurd (cc)

undefined-none : (c : Aig) → IsCircuit c → undefined_in c ≡ None
undefined-none c circuit =
    none_found (is_over (variables_in c)) (uses_in c)
    (list_all-append (is_over (variables_in c)) c.outputs (c.constraints ++ fanins_in c.gates)
    ∙ rw (circuit.outputs, list_all-append (is_over (variables_in c)) c.constraints (fanins_in c.gates), circuit.constraints, fanins_known c circuit) refl)

-- the circuit as a draft, whatever names it has
pub finished-circuit : (c : Aig) (names : Names) → IsCircuit c
    → finished (record c { names = names }) ≡ Ok (without_names c)
finished-circuit c names circuit =
    let draft : Aig = record c { names = names } in
    let order = in_order (0 ∷ c.inputs) (0 ∷ c.inputs) c.gates (λ v. refl) circuit.gates in
    finished-order draft (undefined-none c circuit) (no_cycle-order draft (variables c circuit) order) order
