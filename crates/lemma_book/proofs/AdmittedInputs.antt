-- Whether an input is admitted, constraint by constraint.
use Rattle.std.proofs.Common.{◌≡◌, ℕ, zero, suc, ◌+◌, ◌<◌, Bool, true, false, not, ◌&&◌, List, [], ◌∷◌, length, take, get_or, Some, refl, sym, ap, ap₂, ◌∙◌, if◌then◌else◌, arith}
use Rattle.std.specs.Prelude.{IfSome}
use Rattle.std.specs.Option.{IsSome}
use Rattle.std.specs.List.{list_all, AllByRecursion}
use Rattle.std.proofs.Math.Bool.{beq, and-false}
use Rattle.std.proofs.lemmas.Bool.{and_parts}
use Rattle.std.proofs.lemmas.List.{length-map}
use Rattle.std.proofs.lemmas.List.Folds.{list_all_more}
use Rattle.std.proofs.lemmas.Option.{slice_get-get_or}
use Rattle.lits.specs.declared.node.Side.{Side}
use Rattle.lits.specs.declared.node.Side.TheVariants.{A, B}
use Rattle.lits.specs.declared.node.Node.TheVariants.{Const}
use Rattle.lits.specs.declared.literal.Lit.{Lit}
use Rattle.lits.specs.Same.{same_node}
use Rattle.lits.proofs.Facts.{all-append, all-parts}
use Rattle.netlist.specs.Net.{AigPair, IsNet, IsAdmitted, bound_of, bounds_on, circuit_of, lit_holds, lit_named, nodes_of, position_of, value_of}
use Rattle.netlist.proofs.Facts.{is_some-place, bound-there, admitted-bounds, bounds-admitted}
use Rattle.lemma_book.specs.Judging.{Tells}

-- ---- the elements of a list that pass a test
module _ {X : Type 0} (test : X → Bool) where
  -- one more of the first ones
  pub passes-next : (xs : List X) (k : ℕ) (d : X) → k < length xs → list_all test (take k xs) ≡ true → test (get_or xs k d) ≡ true
      → list_all test (take (k + 1) xs) ≡ true
  passes-next xs k d below all e = list_all_more test xs k d below ∙ rw (all, e) refl

  -- one that doesn't
  pub fails-one : (xs : List X) (k : ℕ) (d : X) → k < length xs → test (get_or xs k d) ≡ false → list_all test xs ≡ false
  fails-one [] k d below e = absurd (omega arith)
  fails-one (x ∷ xs) zero d below e = rw e refl
  fails-one (x ∷ xs) (suc k) d below e = rw (fails-one xs k d (omega arith) e) (and-false (test x))

  -- all pass, as a fact of each
  each-passes : (xs : List X) → list_all test xs ≡ true → AllByRecursion (λ x. test x ≡ true) xs
  each-passes [] all = tt
  each-passes (x ∷ xs) all = let parts = and_parts (test x) (list_all test xs) all in (parts.0, each-passes xs parts.1)

  passes-all : (xs : List X) → AllByRecursion (λ x. test x ≡ true) xs → list_all test xs ≡ true
  passes-all [] each = refl
  passes-all (x ∷ xs) each = ap₂ ◌&&◌ each.0 (passes-all xs each.1)

-- the truth value of a literal by that of its node
signed : (x n : Bool) → not (beq x n) ≡ (if n then not x else x)
signed true true = refl
signed true false = refl
signed false true = refl
signed false false = refl

module _ (net : AigPair) (is : IsNet net) where
  -- the node of a constraint's literal has a position
  pub bound-placed : (s : Side) (k : ℕ) (l : Lit) → bound_of net s k ≡ Some l → IsSome (position_of net l.node)
  bound-placed s k l found = is_some-place (λ n. same_node n l.node) (nodes_of net) ∙ bound-there net is s k l found

  module _ (bits : List Bool) where
    abbrev holds : Lit → Bool
    holds = lit_holds (value_of net bits)

    -- its truth value
    pub bound-value : (s : Side) (k : ℕ) (l : Lit) (b : Bool) → bound_of net s k ≡ Some l → b ≡ value_of net bits l.node
        → IfSome (bound_of net s k) (λ m. not (beq b l.neg) ≡ holds m)
    bound-value s k l b found e = rw found (signed b l.neg ∙ ap (λ (x : Bool). if l.neg then not x else x) e)

    -- after the first ones, constraint k is true or not
    module _ (s : Side) (k count : ℕ) (below : k < count) (all : count ≡ length (circuit_of net s).constraints) (b : Bool)
        (told : IfSome (bound_of net s k) (λ l. b ≡ holds l)) where
      inside : k < length (bounds_on net s)
      inside = omega (arith, below, all, length-map (circuit_of net s).constraints (lit_named s (circuit_of net s)))

      abbrev literal : Lit
      literal = get_or (bounds_on net s) k (record { node = Const; neg = false })

      here : b ≡ holds literal
      here = rw (slice_get-get_or (bounds_on net s) k (record { node = Const; neg = false }) inside) at told

      pub met-next : b ≡ true → list_all holds (take k (bounds_on net s)) ≡ true → list_all holds (take (k + 1) (bounds_on net s)) ≡ true
      met-next e before =
          passes-next holds (bounds_on net s) k (record { node = Const; neg = false }) inside before (sym here ∙ e)

      pub unmet-one : b ≡ false → false ≡ list_all holds (bounds_on net s)
      unmet-one e = sym (fails-one holds (bounds_on net s) k (record { node = Const; neg = false }) inside (sym here ∙ e))

    -- the constraints of both sides tell
    pub tells-admitted : length bits ≡ length net.a.inputs → (x y : Bool) → x ≡ list_all holds (bounds_on net A) → y ≡ list_all holds (bounds_on net B)
        → Tells (IsAdmitted net bits) (x && y)
    tells-admitted whole true true e f =
        bounds-admitted net is bits whole
        (all-append (λ l. holds l ≡ true) (bounds_on net A) (bounds_on net B)
        (each-passes holds (bounds_on net A) (sym e)) (each-passes holds (bounds_on net B) (sym f)))
    tells-admitted whole true false e f =
        λ admitted.
        let both = all-parts (λ l. holds l ≡ true) (bounds_on net A) (bounds_on net B) (admitted-bounds net is bits admitted) in
        let no : false ≡ true = f ∙ passes-all holds (bounds_on net B) both.1 in cc
    tells-admitted whole false y e f =
        λ admitted.
        let both = all-parts (λ l. holds l ≡ true) (bounds_on net A) (bounds_on net B) (admitted-bounds net is bits admitted) in
        let no : false ≡ true = e ∙ passes-all holds (bounds_on net A) both.0 in cc
