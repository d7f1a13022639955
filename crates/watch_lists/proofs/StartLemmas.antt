-- How a flat base is taken.
use Rattle.std.proofs.Common.{◌≡◌, ◌+◌, ◌<◌, ℕ, zero, suc, Bool, true, false, not, List, [], ◌∷◌, ◌++◌, map, take, length, get_or, refl, sym, ap, ◌∙◌, subst, arith}
use Rattle.std.proofs.lemmas.List.{take_more, map-append}
use Rattle.std.proofs.lemmas.Bool.{and_parts}
use Rattle.lits.specs.Clause.{has, no_repeat}
use Rattle.lits.specs.Same.{same_node}
use Rattle.lits.specs.declared.node.Node.{Node}
use Rattle.lits.specs.declared.node.Node.TheVariants.{Const}
use Rattle.lits.specs.declared.literal.Lit.{Lit}
use Rattle.lits.proofs.Facts.{exact-node}
use Rattle.flat_base.specs.Codes.{lit_at}
use Rattle.flat_base.specs.Flat.{Coded, Flat, named_by}
use Rattle.unit_prop.specs.Log.{base_clauses}
use Rattle.unit_prop.proofs.Facts.{contrary}
use Rattle.watch_lists.specs.Trail.{TrailState, trail_of, with_clause}
use Rattle.watch_lists.proofs.Facts.{node-at}

-- a node isn't among those before it
pub fresh-at : (nodes : List Node) (i : ℕ) → no_repeat same_node nodes ≡ true → i < length nodes → has same_node (take i nodes) (get_or nodes i Const) ≡ false
fresh-at [] i once h = absurd (omega arith)
fresh-at (n ∷ ns) zero once h = refl
fresh-at (n ∷ ns) (suc i) once h =
    let parts = and_parts (not (has same_node ns n)) (no_repeat same_node ns) once in
    rw (other (same_node n (get_or ns i Const)) refl parts.0, fresh-at ns i parts.1 (omega arith)) refl
  where
    other : (b : Bool) → same_node n (get_or ns i Const) ≡ b → not (has same_node ns n) ≡ true → same_node n (get_or ns i Const) ≡ false
    other false e lacks = e
    other true e lacks =
        let there : has same_node ns n ≡ true = subst (λ (m : Node). has same_node ns m ≡ true) (sym (exact-node n (get_or ns i Const) e)) (node-at ns i (omega arith)) in
        contrary _ lacks (rw there refl)

-- one clause more
pub taken-next : (t : TrailState) (f : Flat) (i : ℕ) (codes : List ℕ) (d : Coded) → i < length f.clauses → codes ≡ (get_or f.clauses i d).codes
    → t ≡ with_clause (trail_of (record { nodes = f.nodes; clauses = take i f.clauses })) (map (lit_at f.nodes) codes)
    → t ≡ trail_of (record { nodes = f.nodes; clauses = take (i + 1) f.clauses })
taken-next t f i codes d h read is =
    is ∙ ap (λ (cs : List (List Lit)). let s : TrailState = record { nodes = f.nodes; clauses = cs; puts = []; last = 0 } in s) (sym (
    ap (λ (cs : List Coded). base_clauses (map (named_by f.nodes) cs)) (take_more f.clauses i d h)
    ∙ (ap base_clauses (map-append (named_by f.nodes) (take i f.clauses) (get_or f.clauses i d ∷ []))
    ∙ (map-append (λ n. n.clause) (map (named_by f.nodes) (take i f.clauses)) _
    ∙ ap (λ (cs : List ℕ). base_clauses (map (named_by f.nodes) (take i f.clauses)) ++ map (lit_at f.nodes) cs ∷ []) (sym read)))))
