-- How nodes get numbers, literals codes, and a base its clauses.
use Rattle.std.proofs.Common.{◌≡◌, ℕ, ◌+◌, ◌*◌, ◌/◌, ◌%◌, ◌<◌, Bool, true, false, ◌==◌, ◌||◌, Option, None, Some, List, [], ◌∷◌, ◌++◌, length, refl, sym, ap, ap₂, ◌∙◌, arith, subst, append_assoc, append-nil, length-append}
use Rattle.std.specs.Prelude.{slice_get, if◌then◌else◌, get_or, Result, Ok, Err, OnOk}
use Rattle.std.specs.Option.{option_map, option_and_then, is_some}
use Rattle.std.specs.List.{AllByRecursion, list_any}
use Rattle.std.proofs.lemmas.List.{map-append}
use Rattle.std.proofs.lemmas.List.Folds.{list_any-append}
use Rattle.std.proofs.lemmas.Option.{slice_get_within, get_or_from_slice_get}
use Rattle.std.proofs.lemmas.List.{get_or_append_left}
use Rattle.lits.specs.Clause.{has, IsClause}
use Rattle.lits.specs.Same.{same_node, same_lit, opposite}
use Rattle.lits.specs.declared.node.Node.{Node}
use Rattle.lits.specs.declared.node.Node.TheVariants.{Const}
use Rattle.lits.specs.declared.literal.Lit.{Lit}
use Rattle.lits.specs.declared.step.Named.{Named}
use Rattle.lits.specs.declared.step.Ref.{Ref}
use Rattle.lits.proofs.Facts.{exact-node, same-node_self, all-append}
use Rattle.netlist.specs.Net.{AigPair}
use Rattle.netlist.specs.Miter.{positive, negative, variable_of}
use Rattle.netlist.specs.Place.{place_of}
use Rattle.netlist.proofs.Facts.{is_some-place, at_place, or_place, place_of-append, or_place-none, variable-one, slice_get-right}
use Rattle.unit_prop.proofs.Facts.{contrary}
use Rattle.flat_base.specs.Codes.{lit_at, IsCode}
use Rattle.flat_base.specs.Flat.{Flat, IsCoded, clause_at, named_of}
use Rattle.lits.specs.declared.step.Ref.TheVariants.{Entry as Shown}
use Rattle.lemma_book.specs.Cone.{named_from, nodes_in}
use Rattle.lemma_book.specs.Entry.{merge_clauses}
use Rattle.flat_cones.specs.Spots.{Table, number_at}
use Rattle.flat_cones.specs.Numbered.{number_of, is_named, ArePlaces, IsNumbered, Takes, PutsCode, AreCodes, Adds}
use Rattle.flat_cones.proofs.SpotLemmas.{same-number, number-self}

or-none : (b : Bool) → (b || false) ≡ b
or-none true = refl
or-none false = refl

-- ---- nodes
module _ (net : AigPair) where
  pub takes-none : (t : Table) (f : Flat) → ArePlaces net t f → Takes net f [] t f
  takes-none t f places = record {
    places = places;
    numbered = λ n. sym (or-none (has same_node f.nodes n));
    named = refl;
    more = [];
    grows = sym (append-nil f.nodes);
  }

  pub takes-more : (old mid new : Flat) (ms ns : List Node) (t u : Table) → Takes net old ms t mid → Takes net mid ns u new
      → Takes net old (ms ++ ns) u new
  takes-more old mid new ms ns t u first second = record {
    places = second.places;
    numbered = numbered;
    named = second.named ∙ first.named;
    more = first.more ++ second.more;
    grows = second.grows ∙ ap (λ (l : List Node). l ++ second.more) first.grows ∙ append_assoc old.nodes first.more second.more;
  }
    where
      assoc : (a b c : Bool) → ((a || b) || c) ≡ (a || (b || c))
      assoc true b c = refl
      assoc false b c = refl

      numbered : (n : Node) → has same_node new.nodes n ≡ (has same_node old.nodes n || has same_node (ms ++ ns) n)
      numbered n =
          second.numbered n ∙ ap (λ (b : Bool). b || has same_node ns n) (first.numbered n)
          ∙ assoc (has same_node old.nodes n) (has same_node ms n) (has same_node ns n)
          ∙ ap (λ (b : Bool). has same_node old.nodes n || b) (sym (list_any-append (λ y. same_node y n) ms ns))

  module _ (t : Table) (f : Flat) (places : ArePlaces net t f) (n : Node) (v : ℕ) (at : variable_of net n ≡ Some v) where
    number-here : number_of net t n ≡ number_at t v
    number-here = ap (option_and_then (number_at t)) at

    -- a node that has a number stands at its place
    module _ (k : ℕ) (known : number_at t v ≡ Some k) where
      place : place_of (λ m. same_node m n) f.nodes ≡ Some k
      place = sym (places n) ∙ (number-here ∙ known)

      pub known-at : slice_get f.nodes k ≡ Some n
      known-at =
          let r = at_place (λ m. same_node m n) f.nodes k place in
          r.1 ∙ ap Some (exact-node r.0 n r.2)

      known-has : has same_node f.nodes n ≡ true
      known-has = sym (is_some-place (λ m. same_node m n) f.nodes) ∙ ap is_some place

      pub takes-known : Takes net f (n ∷ []) t f
      takes-known = record {
        places = places;
        numbered = here;
        named = refl;
        more = [];
        grows = sym (append-nil f.nodes);
      }
        where
          here : (m : Node) → has same_node f.nodes m ≡ (has same_node f.nodes m || (same_node n m || false))
          here m = go (same_node n m) refl
            where
              go : (b : Bool) → same_node n m ≡ b → has same_node f.nodes m ≡ (has same_node f.nodes m || (b || false))
              go false e = sym (or-none (has same_node f.nodes m))
              go true e =
                  let there : has same_node f.nodes m ≡ true = subst (λ (x : Node). has same_node f.nodes x ≡ true) (exact-node n m e) known-has in
                  rw there refl

    -- one that has none isn't among the numbered ones
    pub new-absent : number_at t v ≡ None → has same_node f.nodes n ≡ false
    new-absent none =
        sym (is_some-place (λ m. same_node m n) f.nodes) ∙ ap is_some (sym (places n) ∙ (number-here ∙ none))

    -- and is the next one
    pub takes-new : (u : Table) (g : Flat) (k : ℕ) → number_at t v ≡ None → k ≡ length f.nodes → g.nodes ≡ f.nodes ++ n ∷ []
        → named_of g ≡ named_of f → ((w : ℕ) → number_at u w ≡ (if v == w then Some k else number_at t w))
        → Takes net f (n ∷ []) u g
    takes-new u g k none count grows named put = record {
      places = all;
      numbered = λ m. ap (λ (l : List Node). has same_node l m) grows ∙ list_any-append (λ y. same_node y m) f.nodes (n ∷ []);
      named = named;
      more = n ∷ [];
      grows = grows;
    }
      where
        absent : place_of (λ m. same_node m n) f.nodes ≡ None
        absent = sym (places n) ∙ (number-here ∙ none)

        behind : (m : Node) → place_of (λ x. same_node x m) g.nodes
            ≡ or_place (place_of (λ x. same_node x m) f.nodes) (option_map (λ j. length f.nodes + j) (place_of (λ x. same_node x m) (n ∷ [])))
        behind m = ap (place_of (λ x. same_node x m)) grows ∙ place_of-append (λ x. same_node x m) f.nodes (n ∷ [])

        number-put : (m : Node) (o : Option ℕ) → variable_of net m ≡ o → number_of net u m ≡ option_and_then (number_at u) o
        number-put m o e = ap (option_and_then (number_at u)) e

        all : (m : Node) → number_of net u m ≡ place_of (λ x. same_node x m) g.nodes
        all m = by (same_node n m) refl
          where
            by : (b : Bool) → same_node n m ≡ b → number_of net u m ≡ place_of (λ x. same_node x m) g.nodes
            by true e =
                let same : n ≡ m = exact-node n m e in
                let at_m : variable_of net m ≡ Some v = subst (λ (x : Node). variable_of net x ≡ Some v) same at in
                let none_m : place_of (λ x. same_node x m) f.nodes ≡ None = subst (λ (z : Node). place_of (λ x. same_node x z) f.nodes ≡ None) same absent in
                let whole : k ≡ length f.nodes + 0 = omega (arith, count) in
                number-put m (Some v) at_m ∙ put v ∙ rw (number-self v) refl
                ∙ ap Some whole ∙ sym (behind m ∙ rw (none_m, e) refl)
            by false e = other (variable_of net m) refl
              where
                kept : place_of (λ x. same_node x m) g.nodes ≡ place_of (λ x. same_node x m) f.nodes
                kept = behind m ∙ rw e (or_place-none (place_of (λ x. same_node x m) f.nodes))

                other : (o : Option ℕ) → variable_of net m ≡ o → number_of net u m ≡ place_of (λ x. same_node x m) g.nodes
                other None h = number-put m None h ∙ sym (ap (option_and_then (number_at t)) h) ∙ places m ∙ sym kept
                other (Some w) h = number-put m (Some w) h ∙ put w ∙ here (v == w) refl
                  where
                    here : (b : Bool) → (v == w) ≡ b → (if b then Some k else number_at t w) ≡ place_of (λ x. same_node x m) g.nodes
                    here true i =
                        let one : n ≡ m = variable-one net n m v at (h ∙ ap Some (sym (same-number v w i))) in
                        contrary (same_node n m) (subst (λ (x : Node). same_node n x ≡ true) one (same-node_self n)) e
                    here false i = sym (ap (option_and_then (number_at t)) h) ∙ places m ∙ sym kept

-- ---- codes
-- the code of a numbered node's literal
halves : (k code : ℕ) (b : Bool) → code ≡ 2 * k + (if b then 1 else 0) → (code / 2 ≡ k) × ((code % 2 == 1) ≡ b)
halves k code true e = (omega arith, let one : code % 2 ≡ 1 = omega arith in ap (λ (x : ℕ). x == 1) one)
halves k code false e = (omega arith, let zero : code % 2 ≡ 0 = omega arith in ap (λ (x : ℕ). x == 1) zero)

pub code-at : (nodes : List Node) (k : ℕ) (l : Lit) → slice_get nodes k ≡ Some l.node → (code : ℕ) → code ≡ 2 * k + (if l.neg then 1 else 0)
    → lit_at nodes code ≡ l
unfolding lit_at
code-at nodes k l at code is =
    let h = halves k code l.neg is in
    ap₂ (λ (n : Node) (b : Bool). let x : Lit = record { node = n; neg = b } in x)
    (ap (λ (i : ℕ). get_or nodes i Const) h.0 ∙ get_or_from_slice_get nodes k l.node Const at) h.1

pub code-within : (nodes : List Node) (k : ℕ) (l : Lit) → slice_get nodes k ≡ Some l.node → (code : ℕ) → code ≡ 2 * k + (if l.neg then 1 else 0)
    → IsCode nodes code
code-within nodes k l at code is = by l.neg is
  where
    below : k < length nodes
    below = slice_get_within nodes k l.node at

    by : (b : Bool) → code ≡ 2 * k + (if b then 1 else 0) → code < 2 * length nodes
    by true e = omega (arith, below)
    by false e = omega (arith, below)

pub new-at : (nodes new : List Node) (n : Node) (k : ℕ) → k ≡ length nodes → new ≡ nodes ++ n ∷ [] → slice_get new k ≡ Some n
new-at nodes new n k count grows =
    let place : k ≡ length nodes + 0 = omega (arith, count) in
    ap (slice_get new) place ∙ ap (λ (l : List Node). slice_get l (length nodes + 0)) grows ∙ slice_get-right nodes (n ∷ []) 0

-- the code of a literal whose node has a number is put last
pub puts-code : (old mid new : List ℕ) (l : Lit) (nodes : List Node) (k code : ℕ) → slice_get nodes k ≡ Some l.node
    → code ≡ 2 * k + (if l.neg then 1 else 0) → mid ≡ old → new ≡ mid ++ code ∷ [] → PutsCode old l nodes new
puts-code old mid new l nodes k code at is same put = record {
  code = code;
  put = put ∙ ap (λ (cs : List ℕ). cs ++ code ∷ []) same;
  is_code = code-within nodes k l at code is;
  at = code-at nodes k l at code is;
}

-- codes stay where variables come after
lit_at-more : (nodes more : List Node) (c : ℕ) → IsCode nodes c → lit_at (nodes ++ more) c ≡ lit_at nodes c
unfolding lit_at
lit_at-more nodes more c h = rw (get_or_append_left nodes more Const (c / 2) (omega arith)) refl

clause_at-more : (nodes more : List Node) (codes : List ℕ) → AllByRecursion (IsCode nodes) codes
    → clause_at (nodes ++ more) codes ≡ clause_at nodes codes
clause_at-more nodes more [] all = refl
clause_at-more nodes more (c ∷ cs) all = rw (lit_at-more nodes more c all.0, clause_at-more nodes more cs all.1) refl

codes-more : (nodes more : List Node) (codes : List ℕ) → AllByRecursion (IsCode nodes) codes
    → AllByRecursion (IsCode (nodes ++ more)) codes
codes-more nodes more [] all = tt
codes-more nodes more (c ∷ cs) all = (omega (arith, all.0, length-append nodes more), codes-more nodes more cs all.1)

pub codes-none : (nodes : List Node) → AreCodes nodes [] []
codes-none nodes = record { within = tt; at = refl }

-- the codes so far, and that of the next literal
pub codes-next : (mid nodes more : List Node) (lits : List Lit) (l : Lit) (old new : List ℕ) → nodes ≡ mid ++ more
    → AreCodes mid lits old → PutsCode old l nodes new → AreCodes nodes (lits ++ l ∷ []) new
codes-next mid nodes more lits l old new grows are puts = record {
  within = subst (AllByRecursion (IsCode nodes)) (sym puts.put)
      (all-append (IsCode nodes) old (puts.code ∷ [])
      (subst (λ (ns : List Node). AllByRecursion (IsCode ns) old) (sym grows) (codes-more mid more old are.within)) (puts.is_code, tt));
  at = ap (clause_at nodes) puts.put ∙ map-append (lit_at nodes) old (puts.code ∷ [])
      ∙ ap (λ (c : List Lit). c ++ lit_at nodes puts.code ∷ [])
      (ap (λ (ns : List Node). clause_at ns old) grows ∙ clause_at-more mid more old are.within ∙ are.at)
      ∙ ap (λ (x : Lit). lits ++ x ∷ []) puts.at;
}

pub coded : (nodes : List Node) (lits : List Lit) (codes : List ℕ) → AreCodes nodes lits codes → IsClause same_lit opposite lits → IsCoded nodes codes
coded nodes lits codes are clause = record {
  within = are.within;
  clause = subst (λ (c : List Lit). IsClause same_lit opposite c) (sym are.at) clause;
}

-- ---- clauses
has-nodes : (lits : List Lit) (n : Node) → has same_node (nodes_in lits) n ≡ list_any (λ l. same_node l.node n) lits
has-nodes [] n = refl
has-nodes (l ∷ ls) n = ap (λ (b : Bool). same_node l.node n || b) (has-nodes ls n)

module _ (net : AigPair) where
  pub adds-none : (t : Table) (f : Flat) → IsNumbered net t f → Adds net f [] t f
  adds-none t f is = record { numbered = is; named = sym (append-nil (named_of f)) }

  pub adds-more : (old mid new : Flat) (cs ds : List Named) (t u : Table) → Adds net old cs t mid → Adds net mid ds u new → Adds net old (cs ++ ds) u new
  adds-more old mid new cs ds t u first second = record {
    numbered = second.numbered;
    named = second.named ∙ ap (λ (l : List Named). l ++ ds) first.named ∙ append_assoc (named_of old) cs ds;
  }

  -- a clause whose nodes are numbered is put last
  pub adds-clause : (old mid new : Flat) (lits : List Lit) (codes : List ℕ) (by : Ref) (t u : Table) → IsNumbered net t old
      → Takes net old (nodes_in lits) u mid → AreCodes mid.nodes lits codes → new.nodes ≡ mid.nodes
      → named_of new ≡ named_of mid ++ record { clause = clause_at mid.nodes codes; by = by } ∷ []
      → Adds net old (record { clause = lits; by = by } ∷ []) u new
  adds-clause old mid new lits codes by t u is takes are nodes pushed = record {
    numbered = record {
      places = λ n. takes.places n ∙ ap (place_of (λ m. same_node m n)) (sym nodes);
      named = λ n. ap (λ (ns : List Node). has same_node ns n) nodes ∙ takes.numbered n
          ∙ rw (is.named n, has-nodes lits n) (sym (ap (λ (l : List Named). is_named l n) named
          ∙ list_any-append (λ m. list_any (λ l. same_node l.node n) m.clause) (named_of old) (record { clause = lits; by = by } ∷ [])
          ∙ ap (λ (b : Bool). is_named (named_of old) n || b) (or-none (list_any (λ l. same_node l.node n) lits))));
    };
    named = named;
  }
    where
      named : named_of new ≡ named_of old ++ record { clause = lits; by = by } ∷ []
      named =
          pushed ∙ ap (λ (c : List Lit). named_of mid ++ record { clause = c; by = by } ∷ []) are.at
          ∙ ap (λ (l : List Named). l ++ record { clause = lits; by = by } ∷ []) takes.named

  pub numbered-empty : (t : Table) → ((v : ℕ) → number_at t v ≡ None) → IsNumbered net t (record { nodes = []; clauses = [] })
  numbered-empty t none = record {
    places = λ n. go (variable_of net n);
    named = λ n. refl;
  }
    where
      go : (o : Option ℕ) → option_and_then (number_at t) o ≡ None
      go None = refl
      go (Some v) = none v

  pub names-node : (t : Table) (f : Flat) → IsNumbered net t f → (n : Node) (v : ℕ) → variable_of net n ≡ Some v
      → is_some (number_at t v) ≡ is_named (named_of f) n
  names-node t f is n v at =
      ap is_some (sym (ap (option_and_then (number_at t)) at) ∙ is.places n) ∙ (is_some-place (λ m. same_node m n) f.nodes ∙ is.named n)

  -- the clauses of a merge
  pub merge-adds : (f g : Flat) (u : Table) (place : ℕ) (node : Node) (target x y z w : Lit)
      → x ≡ negative node → y ≡ target → z ≡ positive node → w ≡ opposite target
      → Adds net f (record { clause = x ∷ y ∷ []; by = Shown place 0 } ∷ record { clause = z ∷ w ∷ []; by = Shown place 1 } ∷ []) u g
      → Adds net f (named_from (Shown place) 0 (merge_clauses node target)) u g
  merge-adds f g u place node target x y z w ex ey ez ew adds =
      subst (λ (cs : List (List Lit)). Adds net f (named_from (Shown place) 0 cs) u g) same adds
    where
      same : (x ∷ y ∷ []) ∷ (z ∷ w ∷ []) ∷ [] ≡ merge_clauses node target
      same =
          ap₂ (λ (a b : Lit). (a ∷ b ∷ []) ∷ (z ∷ w ∷ []) ∷ []) ex ey
          ∙ ap₂ (λ (a b : Lit). (negative node ∷ target ∷ []) ∷ (a ∷ b ∷ []) ∷ []) ez ew

-- what follows from what an answer promises is promised too
pub on_ok-weaker : {T E : Type 0} (P Q : Type 0) (r : Result T E) → (P → Q) → OnOk r P → OnOk r Q
on_ok-weaker P Q (Ok t) f p = f p
on_ok-weaker P Q (Err e) f p = tt
