-- The clauses that an entry's steps stand on: each clause of a cone is the one that its name has, an axiom of the miter, a
-- clause of a merge or, in an output's cone, a constraint's unit. So each step of a good entry is one over those.
use Rattle.std.proofs.Common.{◌≡◌, ℕ, ◌+◌, Bool, true, false, Option, Some, None, List, [], ◌∷◌, ◌++◌, length, map, take, refl, sym, ap, ◌∙◌, subst, arith, append_assoc, length-append}
use Rattle.std.specs.Prelude.{slice_get, filter}
use Rattle.std.specs.Option.{option_and_then}
use Rattle.std.specs.List.{flat_map, AllByRecursion}
use Rattle.std.proofs.lemmas.Option.{none-some, same_Some, slice_get-map, slice_get_within}
use Rattle.lits.specs.declared.node.Side.{Side}
use Rattle.lits.specs.declared.node.Side.TheVariants.{A, B}
use Rattle.lits.specs.declared.node.Node.{Node}
use Rattle.lits.specs.declared.node.Node.TheVariants.{Const, Input, Gate, Xor}
use Rattle.lits.specs.declared.literal.Lit.{Lit}
use Rattle.lits.specs.declared.step.Ref.{Ref}
use Rattle.lits.specs.declared.step.Ref.TheVariants.{Axiom, Entry as Shown, Own, Bound}
use Rattle.lits.specs.declared.step.Named.{Named}
use Rattle.lits.specs.declared.step.Step.{Step}
use Rattle.lits.proofs.Facts.{exact-node, all-append}
use Rattle.netlist.specs.Net.{AigPair, bounds_on}
use Rattle.netlist.specs.Miter.{axioms_of, unit, variables_of}
use Rattle.netlist.proofs.Facts.{slice_get-left, slice_get-right, at_place}
use Rattle.unit_prop.specs.Log.{same_name, base_clause, IsChain}
use Rattle.unit_prop.proofs.Facts.{exact-name}
use Rattle.lemma_book.specs.declared.entry.Entry.{Entry}
use Rattle.lemma_book.specs.declared.entry.Entry.TheVariants.{Merge, Apart, Spent, Out, OutApart, OutSpent}
use Rattle.lemma_book.specs.declared.entry.Subject.TheVariants.{Merged}
use Rattle.lemma_book.specs.Entry.{Entries, OfOutput, seeds_of, same_subject, is_on, place_on, merge_clauses, lemmas_of}
use Rattle.lemma_book.specs.Root.{MergeAt, merge_in, merge_of}
use Rattle.lemma_book.specs.Cone.{named_from, named_clauses, named_bounds, named_units, IsCone, IsOutputCone}
use Rattle.lemma_book.proofs.GoodEntries.{merge-chain, steps-chain}
use Rattle.lemma_book.proofs.MoreClauses.{step_after-more, chain-more}
use Rattle.lemma_book.specs.Good.{NoStep, out_clause, node_clause, merge_clause, IsGood}

-- the clause is the one that its name has
abbrev pub HasItsName : AigPair → List Entry → Named → Type 0
HasItsName net entries n = out_clause net entries n.by ≡ Some n.clause

named-each : (find : Ref → Option (List Lit)) (name : ℕ → Ref) (all : List (List Lit)) → ((k : ℕ) → find (name k) ≡ slice_get all k)
    → (before cs : List (List Lit)) (k : ℕ) → k ≡ length before → all ≡ before ++ cs
    → AllByRecursion (λ n. find n.by ≡ Some n.clause) (named_from name k cs)
named-each find name all each before [] k e f = tt
named-each find name all each before (c ∷ cs) k e f = (
  each k ∙ ap (slice_get all) at ∙ ap (λ (l : List (List Lit)). slice_get l (length before + 0)) f ∙ slice_get-right before (c ∷ cs) 0,
  named-each find name all each (before ++ c ∷ []) cs (k + 1) (omega (arith, length-append before (c ∷ [])))
      (f ∙ sym (append_assoc before (c ∷ []) cs)),
)
  where
    at : k ≡ length before + 0
    at = omega arith

same-node : (n m : Node) → same_subject (Merged n) (Merged m) ≡ true → n ≡ m
same-node n m e = exact-node n m e

-- the clauses of a merge, by the place of its entry
merge-found : (entries : List Entry) (n : Node) (m : MergeAt) → merge_of entries n ≡ Some m
    → (k : ℕ) → merge_clause entries m.entry k ≡ slice_get (merge_clauses n m.lit) k
merge-found entries n m e k = go (place_on entries (Merged n)) refl
  where
    in-entry : (place : ℕ) (x : Entry) → slice_get entries place ≡ Some x → is_on (Merged n) x ≡ true → merge_in place x ≡ Some m
        → merge_clause entries m.entry k ≡ slice_get (merge_clauses n m.lit) k
    in-entry place (Merge node lit steps) f g h =
        let same : record { entry = place; lit = lit } ≡ m = same_Some (record { entry = place; lit = lit }) m h in
        subst (λ (z : MergeAt). merge_clause entries z.entry k ≡ slice_get (merge_clauses n z.lit) k) same
        (subst (λ (z : Node). merge_clause entries place k ≡ slice_get (merge_clauses z lit) k) (same-node node n g) (rw f refl))
    in-entry place (Apart node lit input) f g h = absurd (none-some m h)
    in-entry place (Spent node lit seen log) f g h = absurd (none-some m h)
    in-entry place (Out j steps) f g h = absurd (none-some m h)
    in-entry place (OutApart j input) f g h = absurd (none-some m h)
    in-entry place (OutSpent j seen log) f g h = absurd (none-some m h)

    go : (o : Option ℕ) → place_on entries (Merged n) ≡ o → merge_clause entries m.entry k ≡ slice_get (merge_clauses n m.lit) k
    go None f = let g : None ≡ Some m = rw f at e in absurd (none-some m g)
    go (Some place) f =
        let at = at_place (is_on (Merged n)) entries place f in
        let h : option_and_then (merge_in place) (slice_get entries place) ≡ Some m = rw f at e in
        let i : merge_in place at.0 ≡ Some m = rw at.1 at h in
        in-entry place at.0 at.1 at.2 i

pub named-clauses : (net : AigPair) (entries : List Entry) (n : Node) → AllByRecursion (HasItsName net entries) (named_clauses net entries n)
named-clauses net entries n = go (merge_of entries n) refl
  where
    go : (o : Option MergeAt) → merge_of entries n ≡ o → AllByRecursion (HasItsName net entries) (named_clauses net entries n)
    go None e =
        rw e (named-each (out_clause net entries) (Axiom n) (axioms_of net n) (λ k. refl) [] (axioms_of net n) 0 refl refl)
    go (Some m) e =
        rw e
        (named-each (out_clause net entries) (Shown m.entry) (merge_clauses n m.lit) (merge-found entries n m e) [] (merge_clauses n m.lit) 0 refl refl)

-- so is each clause of some nodes
pub named-all : (net : AigPair) (entries : List Entry) (nodes : List Node)
    → AllByRecursion (HasItsName net entries) (flat_map (named_clauses net entries) nodes)
named-all net entries [] = tt
named-all net entries (n ∷ ns) =
    all-append (HasItsName net entries) (named_clauses net entries n) (flat_map (named_clauses net entries) ns)
    (named-clauses net entries n) (named-all net entries ns)

-- each clause of a cone is the one that its name has
pub cone-named : (net : AigPair) (entries : List Entry) (seeds : List Node) (cone : List Named) → IsCone net entries seeds cone
    → AllByRecursion (HasItsName net entries) cone
cone-named net entries seeds cone is =
    subst (λ (l : List Named). AllByRecursion (HasItsName net entries) l) (sym is.clauses)
    (named-all net entries (filter is.reached (variables_of net)))

-- so is each unit of a constraint
named-bounds : (net : AigPair) (entries : List Entry) (side : Side) → AllByRecursion (HasItsName net entries) (named_bounds net side)
named-bounds net entries side =
    named-each (out_clause net entries) (Bound side) (map unit (bounds_on net side)) (λ k. sym (slice_get-map unit (bounds_on net side) k))
    [] (map unit (bounds_on net side)) 0 refl refl

-- and each clause of an output's cone
pub output_cone-named : (net : AigPair) (entries : List Entry) (j : ℕ) (cone : List Named) → IsOutputCone net entries j cone
    → AllByRecursion (HasItsName net entries) cone
output_cone-named net entries j cone is =
    subst (λ (l : List Named). AllByRecursion (HasItsName net entries) l) (sym is.clauses)
    (all-append (HasItsName net entries) is.nodes (named_units net) (cone-named net entries (seeds_of net (OfOutput j)) is.nodes is.is_cone)
    (all-append (HasItsName net entries) (named_bounds net A) (named_bounds net B) (named-bounds net entries A) (named-bounds net entries B)))

-- so what is found under a name is the clause of that name
pub found-clause : (find : Ref → Option (List Lit)) (cone : List Named) → AllByRecursion (λ n. find n.by ≡ Some n.clause) cone
    → (name : Ref) (c : List Lit) → base_clause cone name ≡ Some c → find name ≡ Some c
found-clause find [] all name c e = absurd (none-some c e)
found-clause find (n ∷ ns) all name c e = go (same_name n.by name) refl (found-clause find ns all.1 name c)
  where
    go : (b : Bool) → same_name n.by name ≡ b → (base_clause ns name ≡ Some c → find name ≡ Some c) → find name ≡ Some c
    go true f rest =
        let g : Some n.clause ≡ Some c = rw f at e in
        subst (λ (x : Ref). find x ≡ Some c) (exact-name n.by name f) (all.0 ∙ g)
    go false f rest = rest (rw f at e)

-- what entries show, longer lists of entries show too
pub clause-more : (net : AigPair) (entries more : List Entry) (name : Ref) (c : List Lit) → out_clause net entries name ≡ Some c
    → out_clause net (entries ++ more) name ≡ Some c
clause-more net entries more (Axiom node k) c e = e
clause-more net entries more (Own k) c e = absurd (none-some c e)
clause-more net entries more (Bound side k) c e = e
clause-more net entries more (Shown i k) c e = go (slice_get entries i) refl
  where
    go : (o : Option Entry) → slice_get entries i ≡ o → out_clause net (entries ++ more) (Shown i k) ≡ Some c
    go None f = let g : None ≡ Some c = rw f at e in absurd (none-some c g)
    go (Some x) f =
        let g : slice_get (lemmas_of x) k ≡ Some c = rw f at e in
        let h : slice_get (entries ++ more) i ≡ Some x = slice_get-left entries more i (slice_get_within entries i x f) ∙ f in
        rw h g

-- a merge's steps find no more
node-clause : (net : AigPair) (entries : List Entry) (name : Ref) (c : List Lit) → node_clause net entries name ≡ Some c
    → out_clause net entries name ≡ Some c
node-clause net entries (Axiom Const k) c e = e
node-clause net entries (Axiom (Input i) k) c e = e
node-clause net entries (Axiom (Gate side v) k) c e = e
node-clause net entries (Axiom (Xor j) k) c e = absurd (none-some c e)
node-clause net entries (Shown i k) c e = e
node-clause net entries (Own k) c e = absurd (none-some c e)
node-clause net entries (Bound side k) c e = absurd (none-some c e)

-- the steps of a merge that is good are a chain over what an output's steps may cite
pub merge-chain_out : (net : AigPair) (book : Entries) (node : Node) (lit : Lit) (steps : List Step) → IsGood net book (Merge node lit steps)
    → IsChain (out_clause net book.entries) steps
merge-chain_out net book node lit steps good =
    chain-more (node_clause net book.entries) (out_clause net book.entries) (node-clause net book.entries) steps
    (merge-chain net book node lit steps good)

-- and the log of an output is one over the entries that were seen
pub out_spent-chain : (net : AigPair) (book : Entries) (j seen : ℕ) (log : List Step) → IsGood net book (OutSpent j seen log)
    → IsChain (out_clause net (take seen book.entries)) log
out_spent-chain net book j seen log good =
    steps-chain (out_clause net (take seen book.entries)) log
    (λ k s e. let over = good (NoStep k) in
    step_after-more (base_clause over.cone) (out_clause net (take seen book.entries))
    (found-clause (out_clause net (take seen book.entries)) over.cone (output_cone-named net (take seen book.entries) j over.cone over.is_cone))
    (take k log) s.clause s.hints (over.holds s e))
