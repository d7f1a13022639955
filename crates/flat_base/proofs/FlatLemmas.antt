-- How a flat base grows, and what is read of it.
use Rattle.std.proofs.Common.{◌≡◌, ◌+◌, ◌-◌, ◌<◌, ◌≤◌, ◌^◌, ℕ, zero, suc, false, List, [], ◌∷◌, ◌++◌, length, refl, sym, ap, subst, ◌∙◌, arith, take, drop, map, get_or}
use Rattle.std.specs.List.{AllByRecursion}
use Rattle.std.proofs.lemmas.List.{length-append, take-append-le, drop-append-le, drop_at, take_all, length-drop, map-append, get_or-map, length-map, take_more}
use Rattle.lits.specs.Clause.{has, IsClause}
use Rattle.lits.specs.Same.{same_lit, same_node, opposite}
use Rattle.lits.specs.declared.node.Node.{Node}
use Rattle.lits.specs.declared.literal.Lit.{Lit}
use Rattle.lits.specs.declared.step.Ref.{Ref}
use Rattle.lits.proofs.Facts.{node_laws, no_repeat-push, all-append}
use Rattle.flat_base.specs.Codes.{lit_at, IsCode}
use Rattle.flat_base.specs.Flat.{Coded, IsCoded, IsFlat, IsWithin, ArePlaces, clause_at, named_by, coded_at}
use Rattle.flat_base.specs.declared.flat_base.Place.{Place}
use Rattle.flat_base.proofs.CodeLemmas.{clause_at-more, codes-more}

-- ---- one node more

coded-more : (nodes more : List Node) (codes : List ℕ) → IsCoded nodes codes → IsCoded (nodes ++ more) codes
coded-more nodes more codes is = record {
  within = codes-more nodes more codes is.within;
  clause = subst (λ (c : List Lit). IsClause same_lit opposite c) (sym (clause_at-more nodes more codes is.within)) is.clause;
}

all-coded-more : (nodes more : List Node) (cs : List Coded) → AllByRecursion (λ c. IsCoded nodes c.codes) cs
    → AllByRecursion (λ c. IsCoded (nodes ++ more) c.codes) cs
all-coded-more nodes more [] all = tt
all-coded-more nodes more (c ∷ cs) all = (coded-more nodes more c.codes all.0, all-coded-more nodes more cs all.1)

pub flat-number : (nodes : List Node) (cs : List Coded) (n : Node) → IsFlat (record { nodes = nodes; clauses = cs })
    → has same_node nodes n ≡ false → length nodes < 2 ^ 31 → IsFlat (record { nodes = nodes ++ n ∷ []; clauses = cs })
flat-number nodes cs n flat fresh few = record {
  once = rw (no_repeat-push node_laws nodes n, flat.once, fresh) refl;
  few = omega (arith, length-append nodes (n ∷ []));
  coded = all-coded-more nodes (n ∷ []) cs flat.coded;
}

pub named-number : (nodes : List Node) (cs : List Coded) (n : Node) → AllByRecursion (λ c. IsCoded nodes c.codes) cs
    → map (named_by (nodes ++ n ∷ [])) cs ≡ map (named_by nodes) cs
named-number nodes [] n all = refl
named-number nodes (c ∷ cs) n all = rw (clause_at-more nodes (n ∷ []) c.codes all.0.within, named-number nodes cs n all.1) refl

-- ---- one clause more

same-at : (codes more : List ℕ) (p : Place) → IsWithin codes p → coded_at (codes ++ more) p ≡ coded_at codes p
same-at codes more p w =
    let low : p.start ≤ length codes = omega (arith, w.0, w.1) in
    ap (λ (l : List ℕ). let c : Coded = record { codes = l; by = p.by } in c)
    (ap (λ (l : List ℕ). take (p.end - p.start) l) (drop-append-le p.start codes more low)
    ∙ take-append-le (p.end - p.start) (drop p.start codes) more (omega (arith, length-drop p.start codes, w.0, w.1)))

same-all : (codes more : List ℕ) (ps : List Place) → ArePlaces ps codes → map (coded_at (codes ++ more)) ps ≡ map (coded_at codes) ps
same-all codes more [] all = refl
same-all codes more (p ∷ ps) all =
    ap (λ (n : Coded). n ∷ map (coded_at (codes ++ more)) ps) (same-at codes more p all.0)
    ∙ ap (λ (ns : List Coded). coded_at codes p ∷ ns) (same-all codes more ps all.1)

pub coded-push : (codes more : List ℕ) (by : Ref) (ps : List Place) → ArePlaces ps codes
    → map (coded_at (codes ++ more)) (ps ++ record { by = by; start = length codes; end = length codes + length more } ∷ [])
    ≡ map (coded_at codes) ps ++ record { codes = more; by = by } ∷ []
coded-push codes more by ps all =
    map-append (coded_at (codes ++ more)) ps _
    ∙ (ap (λ (ns : List Coded). ns ++ coded_at (codes ++ more) (record { by = by; start = length codes; end = length codes + length more }) ∷ []) (same-all codes more ps all)
    ∙ ap (λ (c : List ℕ). map (coded_at codes) ps ++ record { codes = c; by = by } ∷ []) new)
  where
    new : take (length codes + length more - length codes) (drop (length codes) (codes ++ more)) ≡ more
    new = ap (λ (l : List ℕ). take (length codes + length more - length codes) l) (drop_at codes more (length codes) refl)
        ∙ take_all (length codes + length more - length codes) more (omega arith)

pub places-push : (codes more : List ℕ) (by : Ref) (ps : List Place) → ArePlaces ps codes
    → ArePlaces (ps ++ record { by = by; start = length codes; end = length codes + length more } ∷ []) (codes ++ more)
places-push codes more by [] all = ((omega arith, omega (arith, length-append codes more)), tt)
places-push codes more by (p ∷ ps) all = ((all.0.0, omega (arith, all.0.1, length-append codes more)), places-push codes more by ps all.1)

pub places-more : (codes more : List ℕ) (ps : List Place) → ArePlaces ps codes → ArePlaces ps (codes ++ more)
places-more codes more [] all = tt
places-more codes more (p ∷ ps) all = ((all.0.0, omega (arith, all.0.1, length-append codes more)), places-more codes more ps all.1)

pub flat-push : (nodes : List Node) (cs : List Coded) (codes : List ℕ) (by : Ref) → IsFlat (record { nodes = nodes; clauses = cs })
    → IsCoded nodes codes → IsFlat (record { nodes = nodes; clauses = cs ++ record { codes = codes; by = by } ∷ [] })
flat-push nodes cs codes by flat is = record {
  once = flat.once;
  few = flat.few;
  coded = all-append (λ (c : Coded). IsCoded nodes c.codes) cs (record { codes = codes; by = by } ∷ []) flat.coded (is, tt);
}

pub named-push : (nodes : List Node) (cs : List Coded) (codes : List ℕ) (by : Ref)
    → map (named_by nodes) (cs ++ record { codes = codes; by = by } ∷ []) ≡ map (named_by nodes) cs ++ record { clause = clause_at nodes codes; by = by } ∷ []
named-push nodes cs codes by = map-append (named_by nodes) cs _

-- ---- what is read

pub place-at : (codes : List ℕ) (ps : List Place) (i : ℕ) (d : Place) → ArePlaces ps codes → i < length ps → IsWithin codes (get_or ps i d)
place-at codes [] i d all h = absurd (omega arith)
place-at codes (p ∷ ps) zero d all h = all.0
place-at codes (p ∷ ps) (suc i) d all h = place-at codes ps i d all.1 (omega arith)

coded-in : (nodes : List Node) (cs : List Coded) (i : ℕ) (d : Coded) → AllByRecursion (λ c. IsCoded nodes c.codes) cs → i < length cs
    → IsCoded nodes (get_or cs i d).codes
coded-in nodes [] i d all h = absurd (omega arith)
coded-in nodes (c ∷ cs) zero d all h = all.0
coded-in nodes (c ∷ cs) (suc i) d all h = coded-in nodes cs i d all.1 (omega arith)

pub size-of : (codes : List ℕ) (ps : List Place) (cs : List Coded) → map (coded_at codes) ps ≡ cs → length ps ≡ length cs
size-of codes ps cs view = sym (length-map ps (coded_at codes)) ∙ ap length view

pub coded-at : (codes : List ℕ) (ps : List Place) (cs : List Coded) (i : ℕ) (p : Place) → map (coded_at codes) ps ≡ cs → i < length ps
    → p ≡ get_or ps i p → (d : Coded) → coded_at codes p ≡ get_or cs i d
coded-at codes ps cs i p view within read d =
    ap (coded_at codes) read
    ∙ sym (sym (ap (λ (ns : List Coded). get_or ns i d) view) ∙ get_or-map (coded_at codes) ps i p d within)

pub is-coded : (nodes : List Node) (codes : List ℕ) (ps : List Place) (cs : List Coded) (i : ℕ) (p : Place) → map (coded_at codes) ps ≡ cs → i < length ps
    → p ≡ get_or ps i p → AllByRecursion (λ c. IsCoded nodes c.codes) cs → IsCoded nodes (coded_at codes p).codes
is-coded nodes codes ps cs i p view within read all =
    subst (λ (c : Coded). IsCoded nodes c.codes) (sym (coded-at codes ps cs i p view within read (coded_at codes p)))
    (coded-in nodes cs i (coded_at codes p) all (omega (arith, within, size-of codes ps cs view)))

-- the list so far and the next clause
pub listed-next : (nodes : List Node) (cs : List Coded) (i : ℕ) (lits : List Lit) (by : Ref) (d : Coded) → i < length cs
    → lits ≡ clause_at nodes (get_or cs i d).codes → by ≡ (get_or cs i d).by
    → map (named_by nodes) (take i cs) ++ record { clause = lits; by = by } ∷ [] ≡ map (named_by nodes) (take (i + 1) cs)
listed-next nodes cs i lits by d h same name =
    rw (same, name) (sym (ap (map (named_by nodes)) (take_more cs i d h) ∙ map-append (named_by nodes) (take i cs) (get_or cs i d ∷ [])))

pub clause-next : (nodes : List Node) (codes : List ℕ) (i : ℕ) (lit : Lit) (code : ℕ) → i < length codes → code ≡ get_or codes i code → lit ≡ lit_at nodes code
    → map (lit_at nodes) (take i codes) ++ lit ∷ [] ≡ map (lit_at nodes) (take (i + 1) codes)
clause-next nodes codes i lit code h read same =
    ap (λ (l : Lit). map (lit_at nodes) (take i codes) ++ l ∷ []) (same ∙ ap (lit_at nodes) read)
    ∙ sym (ap (map (lit_at nodes)) (take_more codes i code h) ∙ map-append (lit_at nodes) (take i codes) (get_or codes i code ∷ []))

pub code-in : (nodes : List Node) (codes : List ℕ) (i : ℕ) (d : ℕ) → AllByRecursion (IsCode nodes) codes → i < length codes → IsCode nodes (get_or codes i d)
code-in nodes [] i d all h = absurd (omega arith)
code-in nodes (c ∷ cs) zero d all h = all.0
code-in nodes (c ∷ cs) (suc i) d all h = code-in nodes cs i d all.1 (omega arith)
