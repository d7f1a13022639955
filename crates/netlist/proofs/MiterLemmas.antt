-- The numbered clauses of the miter.
use Rattle.std.proofs.Common.{◌≡◌, ℕ, zero, suc, ◌+◌, ◌<◌, ◌≤◌, Bool, true, false, not, Option, Some, None, List, [], ◌∷◌, ◌++◌, length, take, map, get_or, add-one, zero-add, refl, sym, ap, ◌∙◌, subst, arith}
use Rattle.std.specs.Prelude.{◌&&◌, ◌||◌, slice_get}
use Rattle.std.specs.Option.{option_map, option_map_or}
use Rattle.std.specs.List.{AllByRecursion, range_with_len, flat_map}
use Rattle.std.proofs.Math.Seq.{take-length}
use Rattle.std.proofs.lemmas.List.{append_assoc, length-map, map-append, take_all}
use Rattle.std.proofs.lemmas.Option.{none-some, slice_get-get_or}
use Rattle.lits.specs.Clause.{has, no_repeat, has_pair, IsClause}
use Rattle.lits.specs.Dimacs.{DimacsLiteral}
use Rattle.lits.specs.declared.node.Side.{Side}
use Rattle.lits.specs.declared.node.Side.TheVariants.{A, B}
use Rattle.lits.specs.declared.node.Node.{Node}
use Rattle.lits.specs.declared.node.Node.TheVariants.{Const, Xor}
use Rattle.lits.specs.declared.literal.Lit.{Lit}
use Rattle.netlist.specs.Net.{AigPair, IsNet, bound_of, bounds_on, circuit_of, lit_named}
use Rattle.lits.specs.Same.{same_node, same_lit, opposite, same_dim, opposite_dim}
use Rattle.lits.proofs.Facts.{take_next, all-parts, exact-lit, all-slice_get}
use Rattle.netlist.specs.Miter.{positive, axioms_of, axiom_of, xors_of, variables_of, variable_of, numbered, miter_of, unit, units_of, defining_clauses}
use Rattle.netlist.specs.Numbered.{AreThere, numbered_at, numbered_before}
use Rattle.netlist.proofs.StartLemmas.{flat_next}
use Rattle.netlist.proofs.NumberedClauses.{numbered-same}
use Rattle.netlist.proofs.ClausesOver.{over-variables, over-clauses}
use Rattle.netlist.proofs.SameNodes.{range-has}
use Rattle.netlist.proofs.NetLemmas.{axioms_of-none}
use Rattle.netlist.proofs.NodesThere.{has-xor}
use Rattle.netlist.proofs.PlaceLemmas.{place_none}

-- numbering keeps clauses
has-numbered : (net : AigPair) (xs : List Lit) (x : Lit) → AreThere net xs → has same_node (variables_of net) x.node ≡ true
    → has same_dim (map (numbered net) xs) (numbered net x) ≡ has same_lit xs x
has-numbered net [] x all there = refl
has-numbered net (y ∷ ys) x all there =
    rw (numbered-same net y x all.0 there) (ap (λ (b : Bool). same_lit y x || b) (has-numbered net ys x all.1 there))

no_repeat-numbered : (net : AigPair) (xs : List Lit) → AreThere net xs → no_repeat same_dim (map (numbered net) xs) ≡ no_repeat same_lit xs
no_repeat-numbered net [] all = refl
no_repeat-numbered net (x ∷ xs) all =
    rw (has-numbered net xs x all.1 all.0) (ap (λ (b : Bool). not (has same_lit xs x) && b) (no_repeat-numbered net xs all.1))

has_pair-numbered : (net : AigPair) (xs : List Lit) → AreThere net xs
    → has_pair same_dim opposite_dim (map (numbered net) xs) ≡ has_pair same_lit opposite xs
has_pair-numbered net [] all = refl
has_pair-numbered net (x ∷ xs) all =
    ap (λ (b : Bool). b || has_pair same_dim opposite_dim (map (numbered net) xs)) (has-numbered net xs (opposite x) all.1 all.0)
    ∙ ap (λ (b : Bool). has same_lit xs (opposite x) || b) (has_pair-numbered net xs all.1)

pub clause-numbered : (net : AigPair) (xs : List Lit) → AreThere net xs → IsClause same_lit opposite xs
    → IsClause same_dim opposite_dim (map (numbered net) xs)
clause-numbered net xs all clause = record {
  once = no_repeat-numbered net xs all ∙ clause.once;
  apart = has_pair-numbered net xs all ∙ clause.apart;
}

-- the literals of an axiom are there
pub axiom-there : (net : AigPair) (node : Node) (k : ℕ) (c : List Lit) → IsNet net → axiom_of net node k ≡ Some c → AreThere net c
axiom-there net node k c is e = go (has same_node (variables_of net) node) refl
  where
    go : (b : Bool) → has same_node (variables_of net) node ≡ b → AreThere net c
    go true t = all-slice_get (AreThere net) (axioms_of net node) k c (over-variables net is node t) e
    go false f =
        let none : variable_of net node ≡ None = ap (option_map (λ n. n + 1)) (place_none (λ n. same_node n node) (variables_of net) f) in
        absurd (none-some c (sym (ap (λ (cs : List (List Lit)). slice_get cs k) (axioms_of-none net node none)) ∙ e))

-- the first k clauses of a node, numbered
pub numbered_axioms : AigPair → Node → ℕ → List (List DimacsLiteral)
numbered_axioms net node k = map (λ c. map (numbered net) c) (take k (axioms_of net node))

pub axioms_none : (net : AigPair) (node : Node) → numbered_axioms net node 0 ≡ []
unfolding numbered_axioms
axioms_none net node = refl

pub axioms_some : (net : AigPair) (node : Node) (k : ℕ) (c : List Lit) → axiom_of net node k ≡ Some c
    → numbered_axioms net node (k + 1) ≡ numbered_axioms net node k ++ map (numbered net) c ∷ []
unfolding numbered_axioms
axioms_some net node k c e =
    ap (map (λ c. map (numbered net) c)) (take_next (axioms_of net node) k c e) ∙ map-append (λ c. map (numbered net) c) (take k (axioms_of net node)) (c ∷ [])

pub axioms_all : (net : AigPair) (node : Node) (k : ℕ) → length (axioms_of net node) ≤ k
    → numbered_axioms net node k ≡ map (λ c. map (numbered net) c) (axioms_of net node)
unfolding numbered_axioms
axioms_all net node k l = ap (map (λ c. map (numbered net) c)) (take_all k (axioms_of net node) l)

pub numbered_at-node : (net : AigPair) (node : Node) (place : ℕ) → slice_get (variables_of net) place ≡ Some node
    → map (λ c. map (numbered net) c) (axioms_of net node) ≡ numbered_at net place
unfolding numbered_at
numbered_at-node net node place e =
    ap (map (λ c. map (numbered net) c)) (ap (λ (o : Option Node). option_map_or (axioms_of net) o []) (sym e))

-- the clause that a walk through a node's clauses has come to
pub axiom-at : (net : AigPair) (node : Node) (k : ℕ) (c : List Lit) (cs : List (List Lit)) → cs ≡ axioms_of net node → k < length cs → c ≡ get_or cs k c
    → axiom_of net node k ≡ Some c
axiom-at net node k c cs whole l e =
    ap (λ (ds : List (List Lit)). slice_get ds k) (sym whole) ∙ slice_get-get_or cs k c l ∙ ap Some (sym e)

-- the first i literals of a list, numbered in an array
pub record AreNumbered (net : AigPair) (lits : List Lit) (numbers : List DimacsLiteral) (i : ℕ) : Type 0 where
  pub long : length numbers ≡ 3
  pub done : take i numbers ≡ map (numbered net) (take i lits)

pub numbered_whole : (net : AigPair) (lits : List Lit) (numbers : List DimacsLiteral) (i : ℕ) → length lits ≡ i
    → AreNumbered net lits numbers i → take (length lits) numbers ≡ map (numbered net) lits
numbered_whole net lits numbers i e done =
    ap (λ (n : ℕ). take n numbers) e ∙ done.done ∙ ap (λ (n : ℕ). map (numbered net) (take n lits)) (sym e) ∙ ap (map (numbered net)) (take-length lits)

-- the numbers of the first j XORs
pub numbered_xors : AigPair → ℕ → List DimacsLiteral
numbered_xors net j = map (numbered net) (map positive (map Xor (range_with_len 0 j)))

pub xors_none : (net : AigPair) → numbered_xors net 0 ≡ []
unfolding numbered_xors
xors_none net = refl

pub xors_more : (net : AigPair) (j : ℕ) → numbered_xors net (j + 1) ≡ numbered_xors net j ++ numbered net (positive (Xor j)) ∷ []
unfolding numbered_xors
xors_more net j =
    ap (λ (js : List ℕ). map (numbered net) (map positive (map Xor js))) (range-more 0 j)
    ∙ ap (λ (ls : List Node). map (numbered net) (map positive ls)) (map-append Xor (range_with_len 0 j) ((0 + j) ∷ []))
    ∙ ap (map (numbered net)) (map-append positive (map Xor (range_with_len 0 j)) (Xor (0 + j) ∷ []))
    ∙ map-append (numbered net) (map positive (map Xor (range_with_len 0 j))) (positive (Xor (0 + j)) ∷ [])
    ∙ ap (λ (n : ℕ). map (numbered net) (map positive (map Xor (range_with_len 0 j))) ++ numbered net (positive (Xor n)) ∷ []) (zero-add j)
  where
    range-more : (a n : ℕ) → range_with_len a (n + 1) ≡ range_with_len a n ++ ((a + n) ∷ [])
    range-more a n = ap (range_with_len a) (add-one n) ∙ go a n
      where
        go : (a n : ℕ) → range_with_len a (suc n) ≡ range_with_len a n ++ ((a + n) ∷ [])
        go a zero = let e : a ≡ a + 0 = omega arith in ap (λ (k : ℕ). k ∷ []) e
        go a (suc n) = let e : a + 1 + n ≡ a + suc n = omega arith in ap (λ (ks : List ℕ). a ∷ ks) (go (a + 1) n ∙ ap (λ (k : ℕ). range_with_len (a + 1) n ++ (k ∷ [])) e)

pub xors_all : (net : AigPair) (j : ℕ) → j ≡ length net.a.outputs → numbered_xors net j ≡ map (numbered net) (map positive (xors_of net))
unfolding numbered_xors
xors_all net j e = ap (λ (n : ℕ). map (numbered net) (map positive (map Xor (range_with_len 0 n)))) e

pub xor-there : (net : AigPair) (j : ℕ) → j < length net.a.outputs → has same_node (variables_of net) (Xor j) ≡ true
xor-there net j l = has-xor net j ∙ range-has 0 (length net.a.outputs) j (omega arith) (omega arith)

-- the clause of the XORs
pub xors-clause : (net : AigPair) → IsClause same_lit opposite (map positive (xors_of net))
xors-clause net = record {
  once = once (length net.a.outputs) 0;
  apart = apart (xors_of net);
}
  where
    other : (x y : Lit) → (x ≡ y → ⊥) → (b : Bool) → same_lit x y ≡ b → b ≡ false
    other x y ne true e = absurd (ne (exact-lit x y e))
    other x y ne false e = refl

    different : (a b : ℕ) → a < b → same_lit (positive (Xor b)) (positive (Xor a)) ≡ false
    different a b l = other (positive (Xor b)) (positive (Xor a)) (λ e. apart_numbers a b l (xor_index e)) (same_lit (positive (Xor b)) (positive (Xor a))) refl
      where
        index : Node → ℕ
        index (Xor j) = j
        index _ = 0

        xor_index : positive (Xor b) ≡ positive (Xor a) → b ≡ a
        xor_index e = ap (λ (x : Lit). index x.node) e

        apart_numbers : (a b : ℕ) → a < b → b ≡ a → ⊥
        apart_numbers a b l e = omega arith

    above : (n a b : ℕ) → a < b → has same_lit (map positive (map Xor (range_with_len b n))) (positive (Xor a)) ≡ false
    above zero a b l = refl
    above (suc n) a b l = rw (different a b l) (above n a (b + 1) (omega arith))

    once : (n a : ℕ) → no_repeat same_lit (map positive (map Xor (range_with_len a n))) ≡ true
    once zero a = refl
    once (suc n) a = rw (above n a (a + 1) (omega arith)) (once n (a + 1))

    opposed : (m n : Node) → same_lit (positive m) (opposite (positive n)) ≡ false
    opposed m n = other (positive m) (opposite (positive n)) (λ e. signs (ap (λ (x : Lit). x.neg) e)) (same_lit (positive m) (opposite (positive n))) refl
      where
        signs : false ≡ true → ⊥
        signs e = cc

    no_negative : (ns : List Node) (n : Node) → has same_lit (map positive ns) (opposite (positive n)) ≡ false
    no_negative [] n = refl
    no_negative (m ∷ ms) n = rw (opposed m n) (no_negative ms n)

    apart : (ns : List Node) → has_pair same_lit opposite (map positive ns) ≡ false
    apart [] = refl
    apart (n ∷ ns) = rw (no_negative ns n) (apart ns)

pub xors-there : (net : AigPair) → IsNet net → AreThere net (map positive (xors_of net))
xors-there net is =
    (all-parts (λ c. AllByRecursion (λ l. has same_node (variables_of net) l.node ≡ true) c) (defining_clauses net ++ units_of net)
    (map positive (xors_of net) ∷ []) (over-clauses net is)).1.0

next_part : {X Y Z : Type 0} (f : X → List Y) (h : Y → Z) (xs : List X) (i : ℕ) (x : X) → slice_get xs i ≡ Some x
    → map h (flat_map f (take (i + 1) xs)) ≡ map h (flat_map f (take i xs)) ++ map h (option_map_or f (slice_get xs i) [])
next_part f h xs i x e =
    ap (map h) (flat_next f xs i x e) ∙ map-append h (flat_map f (take i xs)) (f x)
    ∙ ap (λ o. map h (flat_map f (take i xs)) ++ map h (option_map_or f o [])) (sym e)

-- clauses, those of two lists of literals behind them, and one clause more
in_parts : {X C D : Type 0} (h : C → D) (f : X → C) (cs : List C) (xs ys : List X) (c : C)
    → ((map h cs ++ map h (map f xs)) ++ map h (map f ys)) ++ (h c ∷ []) ≡ map h ((cs ++ map f (xs ++ ys)) ++ (c ∷ []))
in_parts h f cs xs ys c =
    ap (λ ds. ds ++ (h c ∷ [])) (
    append_assoc (map h cs) (map h (map f xs)) (map h (map f ys))
    ∙ ap (λ ds. map h cs ++ ds) (sym (ap (map h) (map-append f xs ys) ∙ map-append h (map f xs) (map f ys)))
    ∙ sym (map-append h cs (map f (xs ++ ys)))
    )
    ∙ sym (map-append h (cs ++ map f (xs ++ ys)) (c ∷ []))

-- the first k units of one side, by their numbers
pub numbered_units : AigPair → Side → ℕ → List (List DimacsLiteral)
numbered_units net side k = map (λ c. map (numbered net) c) (map unit (take k (bounds_on net side)))

pub units_none : (net : AigPair) (side : Side) → numbered_units net side 0 ≡ []
unfolding numbered_units
units_none net side = refl

pub units_more : (net : AigPair) (side : Side) (k : ℕ) (l : Lit) → bound_of net side k ≡ Some l
    → numbered_units net side (k + 1) ≡ numbered_units net side k ++ map (numbered net) (l ∷ []) ∷ []
unfolding numbered_units
units_more net side k l e =
    ap (λ (ls : List Lit). map (λ c. map (numbered net) c) (map unit ls)) (take_next (bounds_on net side) k l e)
    ∙ ap (map (λ c. map (numbered net) c)) (map-append unit (take k (bounds_on net side)) (l ∷ []))
    ∙ map-append (λ c. map (numbered net) c) (map unit (take k (bounds_on net side))) (unit l ∷ [])

pub units_all : (net : AigPair) (side : Side) (k : ℕ) → length (circuit_of net side).constraints ≤ k
    → numbered_units net side k ≡ map (λ c. map (numbered net) c) (map unit (bounds_on net side))
unfolding numbered_units
units_all net side k past =
    ap (λ (ls : List Lit). map (λ c. map (numbered net) c) (map unit ls))
    (take_all k (bounds_on net side) (omega (arith, past, length-map (circuit_of net side).constraints (lit_named side (circuit_of net side)))))

-- the clauses, node by node
pub before_none : (net : AigPair) → numbered_before net 0 ≡ []
unfolding numbered_before
before_none net = refl

pub before_more : (net : AigPair) (place : ℕ) → place < length (variables_of net) → numbered_before net (place + 1) ≡ numbered_before net place ++ numbered_at net place
unfolding numbered_before numbered_at
before_more net place l =
    next_part (axioms_of net) (λ c. map (numbered net) c) (variables_of net) place _ (slice_get-get_or (variables_of net) place Const l)

pub before_all : (net : AigPair) (place : ℕ) → place ≡ length (variables_of net)
    → ((numbered_before net place ++ map (λ c. map (numbered net) c) (map unit (bounds_on net A))) ++ map (λ c. map (numbered net) c) (map unit (bounds_on net B)))
    ++ (map (numbered net) (map positive (xors_of net)) ∷ []) ≡ miter_of net
unfolding numbered_before
before_all net place e =
    ap (λ (ns : List Node). ((map (λ c. map (numbered net) c) (flat_map (axioms_of net) ns) ++ map (λ c. map (numbered net) c) (map unit (bounds_on net A))) ++ map (λ c. map (numbered net) c) (map unit (bounds_on net B))) ++ (map (numbered net) (map positive (xors_of net)) ∷ []))
    (ap (λ (n : ℕ). take n (variables_of net)) e ∙ take-length (variables_of net))
    ∙ in_parts (λ c. map (numbered net) c) unit (defining_clauses net) (bounds_on net A) (bounds_on net B) (map positive (xors_of net))

-- the clause of all numbers of an array
pub numbered_clause : (net : AigPair) (lits : List Lit) (numbers : List DimacsLiteral) (i : ℕ) → length lits ≡ i → AreThere net lits
    → IsClause same_lit opposite lits → AreNumbered net lits numbers i → IsClause same_dim opposite_dim (take (length lits) numbers)
numbered_clause net lits numbers i e all clause done =
    subst (λ (ds : List DimacsLiteral). IsClause same_dim opposite_dim ds) (sym (numbered_whole net lits numbers i e done)) (clause-numbered net lits all clause)

pub xors_clause : (net : AigPair) (j : ℕ) → IsNet net → j ≡ length net.a.outputs → IsClause same_dim opposite_dim (numbered_xors net j)
xors_clause net j is e =
    subst (λ (ds : List DimacsLiteral). IsClause same_dim opposite_dim ds) (sym (xors_all net j e))
    (clause-numbered net (map positive (xors_of net)) (xors-there net is) (xors-clause net))
