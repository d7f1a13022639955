-- The numbers of the first clauses, node by node.
use Rattle.std.proofs.Common.{◌≡◌, ℕ, ◌+◌, ◌-◌, ◌<◌, ◌≤◌, Bool, true, false, cond, Option, Some, None, List, [], ◌∷◌, ◌++◌, length, take, map, refl, sym, ap, ◌∙◌, subst, arith, length-append, ⊎_elim}
use Rattle.std.specs.Prelude.{slice_get, slice_index, nat_lt, ◌*◌}
use Rattle.std.specs.List.{flat_map}
use Rattle.std.proofs.Math.Seq.{take-length, get_or-append_seam}
use Rattle.std.proofs.Math.ListN.{get_or-append}
use Rattle.std.proofs.Math.Nat.{eq-or-lt_of_le}
use Rattle.std.specs.Option.{option_map}
use Rattle.std.proofs.lemmas.List.{length-map, append-nil, length-take-le, get_or-take}
use Rattle.std.proofs.lemmas.Grind.{flat_map-append}
use Rattle.std.proofs.lemmas.Option.{none-some, same_Some}
use Rattle.lits.specs.declared.node.Side.{Side}
use Rattle.lits.specs.declared.node.Side.TheVariants.{A, B}
use Rattle.lits.specs.declared.node.Node.{Node}
use Rattle.lits.specs.declared.literal.Lit.{Lit}
use Rattle.netlist.specs.Place.{place_of, before}
use Rattle.netlist.specs.Net.{AigPair, bounds_of, bounds_on, circuit_of, lit_named}
use Rattle.lits.specs.Same.{same_node}
use Rattle.netlist.specs.Miter.{positive, axioms_of, xors_of, variables_of, variable_of, numbered, miter_of, clause_number_of, unit, units_of, defining_clauses, clauses_of, first_unit, bound_number_of}
use Rattle.netlist.specs.Starts.{first_clause, AreStarts, AreFirst, WereStarts}
use Rattle.std.proofs.lemmas.Bool.Decides.{nat_tests}
use Rattle.lits.proofs.Facts.{take_next, exact-node}
use Rattle.netlist.proofs.PlaceLemmas.{before-take, at_place}
use Rattle.netlist.proofs.SourceLemmas.{place_within}

pub flat_next : {X Y : Type 0} (f : X → List Y) (xs : List X) (i : ℕ) (x : X) → slice_get xs i ≡ Some x
    → flat_map f (take (i + 1) xs) ≡ flat_map f (take i xs) ++ f x
flat_next f xs i x e =
    ap (flat_map f) (take_next xs i x e) ∙ flat_map-append f (take i xs) (x ∷ [])
    ∙ ap (λ ys. flat_map f (take i xs) ++ ys) (append-nil (f x))

pub first_clause-none : (net : AigPair) → first_clause net 0 ≡ 1
unfolding first_clause
first_clause-none net = refl

length-next : {X Y : Type 0} (f : X → List Y) (xs : List X) (i : ℕ) (x : X) → slice_get xs i ≡ Some x
    → length (flat_map f (take (i + 1) xs)) + 1 ≡ length (flat_map f (take i xs)) + 1 + length (f x)
length-next f xs i x e = omega (arith, ap length (flat_next f xs i x e), length-append (flat_map f (take i xs)) (f x))

pub first_clause-more : (net : AigPair) (place : ℕ) (node : Node) → slice_get (variables_of net) place ≡ Some node
    → first_clause net (place + 1) ≡ first_clause net place + length (axioms_of net node)
unfolding first_clause
first_clause-more net place node e = length-next (axioms_of net) (variables_of net) place node e

pub first_clause-all : (net : AigPair) → first_clause net (length (variables_of net)) ≡ length (defining_clauses net) + 1
unfolding first_clause
first_clause-all net = ap (λ (ns : List Node). length (flat_map (axioms_of net) ns) + 1) (take-length (variables_of net))

pub length-bounds : (net : AigPair) (side : Side) → length (bounds_on net side) ≡ length (circuit_of net side).constraints
length-bounds net side = length-map (circuit_of net side).constraints (lit_named side (circuit_of net side))

-- behind the clauses that define the nodes stand as many units as there are constraints, and one clause more
pub length-miter : (net : AigPair)
    → length (miter_of net) ≡ length (defining_clauses net) + 1 + (length net.a.constraints + length net.b.constraints)
length-miter net =
    omega (
      arith,
      length-map (clauses_of net) (λ c. map (numbered net) c),
      length-append (defining_clauses net ++ units_of net) (map positive (xors_of net) ∷ []),
      length-append (defining_clauses net) (units_of net),
      length-map (bounds_of net) unit,
      length-append (bounds_on net A) (bounds_on net B),
      length-bounds net A,
      length-bounds net B,
    )

-- the number of the unit of constraint k, and that there is none
pub bound_number : (net : AigPair) (side : Side) (k n : ℕ) → k < length (circuit_of net side).constraints
    → n ≡ length (defining_clauses net) + 1 + first_unit net side + k → Some n ≡ bound_number_of net side k
bound_number net side k n below e =
    let t : nat_lt k (length (circuit_of net side).constraints) ≡ true = grind (arith, nat_tests, below) in
    let same : n ≡ length (defining_clauses net) + (first_unit net side + k) + 1 = omega (arith, e) in
    rw t (ap Some same)

pub no_bound_number : (net : AigPair) (side : Side) (k : ℕ) → length (circuit_of net side).constraints ≤ k → None ≡ bound_number_of net side k
no_bound_number net side k past =
    let t : nat_lt k (length (circuit_of net side).constraints) ≡ false = grind (arith, nat_tests, past) in
    rw t refl

number_at : (b : Bool) (m n k : ℕ) → m ≡ n → cond b (Some (m + k + 1)) None ≡ cond b (Some ((n + 1) + k)) None
number_at true m n k e = let f : m + k + 1 ≡ (n + 1) + k = omega (arith, e) in ap Some f
number_at false m n k e = refl

pub clause_number_of-place : (net : AigPair) (node : Node) (k place : ℕ) → place_of (λ n. same_node n node) (variables_of net) ≡ Some place
    → clause_number_of net node k ≡ cond (nat_lt k (length (axioms_of net node))) (Some (first_clause net place + k)) None
unfolding first_clause
clause_number_of-place net node k place e =
    number_at (nat_lt k (length (axioms_of net node)))
    (length (flat_map (axioms_of net) (before (λ n. same_node n node) (variables_of net))))
    (length (flat_map (axioms_of net) (take place (variables_of net)))) k
    (ap (λ (ns : List Node). length (flat_map (axioms_of net) ns)) (before-take (λ n. same_node n node) (variables_of net) place e))

-- the same for a node that isn't there
pub clause_number_of-none : (net : AigPair) (node : Node) (k : ℕ) → axioms_of net node ≡ [] → clause_number_of net node k ≡ None
clause_number_of-none net node k e =
    let f : nat_lt k 0 ≡ false = grind (arith, nat_tests) in
    ap (λ (cs : List (List Lit)). cond (nat_lt k (length cs)) (Some (length (flat_map (axioms_of net) (before (λ n. same_node n node) (variables_of net))) + k + 1)) None) e
    ∙ rw f refl

-- what a net's table of numbers says
module _ (net : AigPair) (starts : List ℕ) (table : AreStarts net starts) where
  pub count_of : (n : ℕ) → n ≡ length (variables_of net) → slice_index starts n ≡ length (defining_clauses net) + 1
  count_of n e =
      let here = table.each n (omega arith) in
      here ∙ ap (first_clause net) e ∙ first_clause-all net

  -- the place of a variable
  place_at : (node : Node) (v : ℕ) → variable_of net node ≡ Some v
      → (place_of (λ n. same_node n node) (variables_of net) ≡ Some (v - 1)) × (v - 1 < length (variables_of net))
  place_at node v e = go (place_of (λ n. same_node n node) (variables_of net)) refl e
    where
      go : (o : Option ℕ) → place_of (λ n. same_node n node) (variables_of net) ≡ o → option_map (λ k. k + 1) o ≡ Some v
          → (place_of (λ n. same_node n node) (variables_of net) ≡ Some (v - 1)) × (v - 1 < length (variables_of net))
      go None f e = absurd (none-some v e)
      go (Some k) f e =
          let same : k ≡ v - 1 = (let h = same_Some (k + 1) v e in omega arith) in
          (f ∙ ap Some same, subst (λ (n : ℕ). n < length (variables_of net)) same (place_within (λ n. same_node n node) (variables_of net) k f))

  pub place_inside : (node : Node) (v : ℕ) → variable_of net node ≡ Some v → v - 1 < length starts
  place_inside node v e = omega (arith, (place_at node v e).1, table.count)

  pub number_few : (node : Node) (v : ℕ) → variable_of net node ≡ Some v → slice_index starts (v - 1) ≤ 4 * v + 1
  number_few node v e =
      let below = (place_at node v e).1 in
      let few = table.few (v - 1) (omega arith) in
      omega arith

  pub number_in : (node : Node) (k v : ℕ) → variable_of net node ≡ Some v → k < length (axioms_of net node)
      → Some (slice_index starts (v - 1) + k) ≡ clause_number_of net node k
  number_in node k v e l =
      let place = place_at node v e in
      let t : nat_lt k (length (axioms_of net node)) ≡ true = grind (arith, nat_tests, l) in
      let here = table.each (v - 1) (let below = place.1 in omega arith) in
      ap (λ (n : ℕ). Some (n + k)) here ∙ sym (clause_number_of-place net node k (v - 1) place.0 ∙ rw t refl)

  -- a variable is at least 1
  pub positive_variable : (node : Node) (v : ℕ) → variable_of net node ≡ Some v → 1 ≤ v
  positive_variable node v e = go (place_of (λ n. same_node n node) (variables_of net)) e
    where
      go : (o : Option ℕ) → option_map (λ k. k + 1) o ≡ Some v → 1 ≤ v
      go None e = absurd (none-some v e)
      go (Some k) e = let h = same_Some (k + 1) v e in omega arith

  -- the next node's first clause is behind the clauses of this one
  gap : (node : Node) (v : ℕ) → variable_of net node ≡ Some v
      → slice_index starts v ≡ slice_index starts (v - 1) + length (axioms_of net node)
  gap node v e =
      let place = place_at node v e in
      let below : v - 1 < length (variables_of net) = place.1 in
      let at = at_place (λ n. same_node n node) (variables_of net) (v - 1) place.0 in
      let found : slice_get (variables_of net) (v - 1) ≡ Some node = at.1 ∙ ap Some (exact-node at.0 node at.2) in
      let next : (v - 1) + 1 ≡ v = (let low = positive_variable node v e in omega arith) in
      table.each v (omega (arith, next)) ∙ ap (first_clause net) (sym next) ∙ first_clause-more net (v - 1) node found
      ∙ ap (λ (n : ℕ). n + length (axioms_of net node)) (sym (table.each (v - 1) (omega arith)))

  pub place_next : (node : Node) (v : ℕ) → variable_of net node ≡ Some v → v < length starts
  place_next node v e =
      let low = positive_variable node v e in
      omega (arith, (place_at node v e).1, table.count)

  pub number_below : (node : Node) (k v : ℕ) → variable_of net node ≡ Some v
      → slice_index starts (v - 1) + k < slice_index starts v → Some (slice_index starts (v - 1) + k) ≡ clause_number_of net node k
  number_below node k v e less = number_in node k v e (omega (arith, less, gap node v e))

  pub number_past : (node : Node) (k v : ℕ) → variable_of net node ≡ Some v
      → slice_index starts v ≤ slice_index starts (v - 1) + k → None ≡ clause_number_of net node k
  number_past node k v e more =
      let past : length (axioms_of net node) ≤ k = omega (arith, more, gap node v e) in
      let t : nat_lt k (length (axioms_of net node)) ≡ false = grind (arith, nat_tests, past) in
      sym (clause_number_of-place net node k (v - 1) (place_at node v e).0 ∙ rw t refl)

pub first_none : (net : AigPair) → AreFirst net [] 0 1
first_none net = record {
  count = refl;
  next_is = sym (first_clause-none net);
  few_next = omega arith;
  each = λ k l. absurd (omega arith);
  few = λ k l. absurd (omega arith);
}

-- what holds of the numbers and of the next one holds of all of them
read_push : (P : ℕ → ℕ → Type 0) (numbers : List ℕ) (place next : ℕ) → length numbers ≡ place
    → ((k : ℕ) → k < place → P k (slice_index numbers k)) → P place next → (k : ℕ) → k ≤ place → P k (slice_index (numbers ++ next ∷ []) k)
read_push P numbers place next e each last k l = ⊎_elim
    (λ (same : k ≡ place). subst (λ (n : ℕ). P n (slice_index (numbers ++ next ∷ []) n)) (e ∙ sym same)
    (subst (λ (n : ℕ). P (length numbers) n) (sym (get_or-append_seam numbers next [] 0)) (subst (λ (n : ℕ). P n next) (sym e) last)))
    (λ (below : k < place). subst (λ (n : ℕ). P k n) (sym (get_or-append numbers (next ∷ []) 0 k (omega arith))) (each k below))
    (eq-or-lt_of_le l)

pub first_more : (net : AigPair) (numbers : List ℕ) (place next count : ℕ) → AreFirst net numbers place next
    → first_clause net (place + 1) ≡ first_clause net place + count → count ≤ 4 → AreFirst net (numbers ++ next ∷ []) (place + 1) (next + count)
first_more net numbers place next count old step few = record {
  count = omega (arith, length-append numbers (next ∷ []), old.count);
  next_is = omega (arith, old.next_is, step);
  few_next = omega (arith, old.few_next);
  each = λ k l. read_push (λ k n. n ≡ first_clause net k) numbers place next old.count old.each old.next_is k (omega arith);
  few = λ k l. read_push (λ k n. n ≤ 4 * k + 1) numbers place next old.count old.few old.few_next k (omega arith);
}

pub first_all : (net : AigPair) (numbers : List ℕ) (place next : ℕ) → AreFirst net numbers place next → place ≡ length (variables_of net)
    → AreStarts net (numbers ++ next ∷ [])
first_all net numbers place next old e = record {
  count = omega (arith, length-append numbers (next ∷ []), old.count);
  each = λ k l. read_push (λ k n. n ≡ first_clause net k) numbers place next old.count old.each old.next_is k (omega arith);
  few = λ k l. read_push (λ k n. n ≤ 4 * k + 1) numbers place next old.count old.few old.few_next k (omega arith);
}

-- the first of so many numbers that are right, and the next one
pub first_taken : (net : AigPair) (starts : List ℕ) (place n : ℕ) → WereStarts net place starts → place < length (variables_of net)
    → n ≡ place + 1 → (next : ℕ) → next ≡ first_clause net n → next ≤ 4 * n + 1 → AreFirst net (take n starts) n next
first_taken net starts place n were below e next is few = record {
  count = length-take-le n starts (omega (arith, were.count, below, e));
  next_is = is;
  few_next = few;
  each = λ k l. get_or-take n starts k 0 l ∙ were.before k (omega (arith, l, e));
  few = λ k l. subst (λ (m : ℕ). m ≤ 4 * k + 1) (sym (get_or-take n starts k 0 l)) (were.few k (omega (arith, l, e, below)));
}

-- where the next number is right too
pub all_first : (net : AigPair) (starts : List ℕ) (place : ℕ) → WereStarts net place starts
    → slice_index starts (place + 1) ≡ first_clause net (place + 1) → AreStarts net starts
all_first net starts place were same = record { count = were.count; each = were.behind same; few = were.few }
