-- What is undefined, and whether gates stand behind their fanins, gate by gate.
use Rattle.std.proofs.Common.{◌≡◌, ℕ, zero, suc, ◌+◌, ◌<◌, ◌≤◌, Bool, true, false, cond, Option, None, Some, List, [], ◌∷◌, ◌++◌, length, take, drop, get_or, refl, sym, ap, ◌∙◌, subst, arith}
use Rattle.std.specs.Prelude.{◌==◌, ◌&&◌, ◌||◌, nat_lt}
use Rattle.std.specs.Option.{option_map, option_map_or}
use Rattle.std.proofs.lemmas.Bool.Decides.{nat_tests}
use Rattle.std.proofs.lemmas.List.{append-nil, drop_more, take_more, map-append, append_assoc, take_at, length-append, length-map, length-take}
use Rattle.lits.specs.Clause.{has}
use Rattle.netlist.specs.declared.gate.And.{And}
use Rattle.netlist.specs.Circuit.{Aig, gate_vars, variables_in, is_over}
use Rattle.netlist.specs.Place.{place_of}
use Rattle.circuit_draft.specs.Levels.{is_in_order}

-- among the first n of some variables is one whose place is below n
pub has-take : (vars : List ℕ) (n v : ℕ) → option_map_or (λ k. nat_lt k n) (place_of (λ x. x == v) vars) false ≡ has ◌==◌ (take n vars) v
has-take [] zero v = refl
has-take [] (suc n) v = refl
has-take (x ∷ xs) zero v = none (place_of (λ y. y == v) (x ∷ xs))
  where
    none : (o : Option ℕ) → option_map_or (λ k. nat_lt k zero) o false ≡ false
    none None = refl
    none (Some k) = grind (arith, nat_tests)
has-take (x ∷ xs) (suc n) v = go (x == v) (place_of (λ y. y == v) xs) (has-take xs n v)
  where
    go : (b : Bool) (o : Option ℕ) → option_map_or (λ k. nat_lt k n) o false ≡ has ◌==◌ (take n xs) v
        → option_map_or (λ k. nat_lt k (suc n)) (cond b (Some 0) (option_map (λ k. k + 1) o)) false ≡ (b || has ◌==◌ (take n xs) v)
    go true o e = grind (arith, nat_tests)
    go false None e = e
    go false (Some k) e = step ∙ e
      where
        step : nat_lt (k + 1) (suc n) ≡ nat_lt k n
        step = grind (arith, nat_tests)

-- the variables known before the gate at a place
pub known_before : (c : Aig) (p n : ℕ) → p ≤ length c.gates → n ≡ length c.inputs + 1 + p
    → take n (variables_in c) ≡ 0 ∷ (c.inputs ++ gate_vars (take p c.gates))
known_before c p n le is =
    let whole : variables_in c ≡ (0 ∷ (c.inputs ++ gate_vars (take p c.gates))) ++ gate_vars (drop p c.gates) =
    ap (λ (vs : List ℕ). 0 ∷ vs) (ap (λ (vs : List ℕ). c.inputs ++ vs) (parts c.gates p) ∙ sym (append_assoc c.inputs (gate_vars (take p c.gates)) (gate_vars (drop p c.gates)))) in
    let count : length (0 ∷ (c.inputs ++ gate_vars (take p c.gates))) ≡ n = omega (arith, length-append c.inputs (gate_vars (take p c.gates)), length-map (take p c.gates) (λ g. g.var), length-take p c.gates) in
    rw whole (take_at (0 ∷ (c.inputs ++ gate_vars (take p c.gates))) (gate_vars (drop p c.gates)) n count)
  where
    parts : (gs : List And) (k : ℕ) → gate_vars gs ≡ gate_vars (take k gs) ++ gate_vars (drop k gs)
    parts gs zero = refl
    parts [] (suc k) = refl
    parts (g ∷ gs) (suc k) = ap (λ (vs : List ℕ). g.var ∷ vs) (parts gs k)

known_more : (c : Aig) (p : ℕ) (d : And) → p < length c.gates
    → 0 ∷ (c.inputs ++ gate_vars (take (p + 1) c.gates)) ≡ (0 ∷ (c.inputs ++ gate_vars (take p c.gates))) ++ (get_or c.gates p d).var ∷ []
known_more c p d lt =
    ap (λ (gs : List And). 0 ∷ (c.inputs ++ gate_vars gs)) (take_more c.gates p d lt)
    ∙ ap (λ (vs : List ℕ). 0 ∷ (c.inputs ++ vs)) (map-append (λ g. g.var) (take p c.gates) (get_or c.gates p d ∷ []))
    ∙ ap (λ (vs : List ℕ). 0 ∷ vs) (sym (append_assoc c.inputs (gate_vars (take p c.gates)) ((get_or c.gates p d).var ∷ [])))

-- the gates from place p on are in order behind those before them
abbrev pub order_from : Aig → ℕ → Bool
order_from c p = is_in_order (0 ∷ (c.inputs ++ gate_vars (take p c.gates))) (drop p c.gates)

pub order-step : (c : Aig) (p : ℕ) (d : And) → p < length c.gates
    → order_from c p ≡ (is_over (0 ∷ (c.inputs ++ gate_vars (take p c.gates))) (get_or c.gates p d).left
    && is_over (0 ∷ (c.inputs ++ gate_vars (take p c.gates))) (get_or c.gates p d).right && order_from c (p + 1))
order-step c p d lt = rw (drop_more c.gates p d lt, known_more c p d lt) refl

order-start : (c : Aig) → order_from c 0 ≡ is_in_order (0 ∷ c.inputs) c.gates
order-start c = ap (λ (vs : List ℕ). is_in_order (0 ∷ vs) c.gates) (append-nil c.inputs)

-- what the place of a fanin says of the gate at place i, where `gs` are the gates
over_at : (c : Aig) (i n lit : ℕ) (b : Bool) → i ≤ length c.gates → n ≡ length c.inputs + 1 + i → b ≡ is_over (take n (variables_in c)) lit
    → is_over (0 ∷ (c.inputs ++ gate_vars (take i c.gates))) lit ≡ b
over_at c i n lit b le is over = sym (over ∙ ap (λ (vs : List ℕ). is_over vs lit) (known_before c i n le is))

pub stops_left : (c : Aig) (gs : List And) (d : And) (i n : ℕ) → gs ≡ c.gates → i < length gs → n ≡ length c.inputs + 1 + i → order_from c 0 ≡ order_from c i
    → false ≡ is_over (take n (variables_in c)) (get_or gs i d).left → false ≡ is_in_order (0 ∷ c.inputs) c.gates
stops_left c gs d i n e lt is same over =
    let here : i < length c.gates = subst (λ (hs : List And). i < length hs) e lt in
    let left = over_at c i n (get_or c.gates i d).left false (omega arith) is (subst (λ (hs : List And). false ≡ is_over (take n (variables_in c)) (get_or hs i d).left) e over) in
    sym (sym (order-start c) ∙ same ∙ order-step c i d here ∙ rw left refl)

pub stops_right : (c : Aig) (gs : List And) (d : And) (i n : ℕ) → gs ≡ c.gates → i < length gs → n ≡ length c.inputs + 1 + i → order_from c 0 ≡ order_from c i
    → true ≡ is_over (take n (variables_in c)) (get_or gs i d).left → false ≡ is_over (take n (variables_in c)) (get_or gs i d).right
    → false ≡ is_in_order (0 ∷ c.inputs) c.gates
stops_right c gs d i n e lt is same first over =
    let here : i < length c.gates = subst (λ (hs : List And). i < length hs) e lt in
    let left = over_at c i n (get_or c.gates i d).left true (omega arith) is (subst (λ (hs : List And). true ≡ is_over (take n (variables_in c)) (get_or hs i d).left) e first) in
    let right = over_at c i n (get_or c.gates i d).right false (omega arith) is (subst (λ (hs : List And). false ≡ is_over (take n (variables_in c)) (get_or hs i d).right) e over) in
    sym (sym (order-start c) ∙ same ∙ order-step c i d here ∙ rw (left, right) refl)

pub goes_on : (c : Aig) (gs : List And) (d : And) (i n : ℕ) → gs ≡ c.gates → i < length gs → n ≡ length c.inputs + 1 + i → order_from c 0 ≡ order_from c i
    → true ≡ is_over (take n (variables_in c)) (get_or gs i d).left → true ≡ is_over (take n (variables_in c)) (get_or gs i d).right
    → order_from c 0 ≡ order_from c (i + 1)
goes_on c gs d i n e lt is same first second =
    let here : i < length c.gates = subst (λ (hs : List And). i < length hs) e lt in
    let left = over_at c i n (get_or c.gates i d).left true (omega arith) is (subst (λ (hs : List And). true ≡ is_over (take n (variables_in c)) (get_or hs i d).left) e first) in
    let right = over_at c i n (get_or c.gates i d).right true (omega arith) is (subst (λ (hs : List And). true ≡ is_over (take n (variables_in c)) (get_or hs i d).right) e second) in
    same ∙ order-step c i d here ∙ rw (left, right) refl
