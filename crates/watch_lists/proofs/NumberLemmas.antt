-- Variables among literals without a sign.
use Rattle.std.specs.Prelude.{IfNone}
use Rattle.std.proofs.Common.{Option, Some, None, ◌≡◌, ℕ, zero, suc, ◌<◌, Bool, true, false, List, [], ◌∷◌, ◌++◌, length, map, refl, sym, ap, ◌∙◌, arith, inl, inr}
use Rattle.std.proofs.lemmas.List.{length_push, get_or_append_left, get_or_push}
use Rattle.std.proofs.Math.Bool.{and-true}
use Rattle.lits.specs.Clause.{has}
use Rattle.lits.specs.Same.{same_lit, same_node}
use Rattle.lits.specs.declared.node.Node.{Node}
use Rattle.lits.specs.declared.literal.Lit.{Lit}
use Rattle.watch_lists.specs.Numbers.{AreVariables}
use Rattle.watch_lists.proofs.WatchLemmas.{decide}

same_plain : (x : Lit) (node : Node) → x.neg ≡ false → same_lit x (record { node = node; neg = false }) ≡ same_node x.node node
same_plain x node e = go x.neg e
  where
    go : (b : Bool) → b ≡ false → same_lit (record { node = x.node; neg = b }) (record { node = node; neg = false }) ≡ same_node x.node node
    go true f = cc
    go false f = and-true (same_node x.node node)

pub has-variables : (lits : List Lit) (node : Node) → AreVariables lits → has same_lit lits (record { node = node; neg = false }) ≡ has same_node (map (λ l. l.node) lits) node
has-variables [] node are = refl
has-variables (x ∷ xs) node are =
    rw (same_plain x node (are.plain zero x (omega arith)), has-variables xs node (record { plain = λ k d h. are.plain (suc k) d (omega arith) })) refl

pub variables-push : (lits : List Lit) (node : Node) → AreVariables lits → AreVariables (lits ++ record { node = node; neg = false } ∷ [])
variables-push lits node are = record {
  plain = λ k d h. elim (decide k (length lits)) [
    | inr before ↦
        let b : k < length lits = omega (arith, length_push lits (record { node = node; neg = false })) in
        ap (λ (l : Lit). l.neg) (get_or_append_left lits (record { node = node; neg = false } ∷ []) d k b) ∙ are.plain k d b
    | inl last ↦ ap (λ (l : Lit). l.neg) (get_or_push lits (record { node = node; neg = false }) d k (sym last))
  ];
}

pub none-found : (r : Option ℕ) (lits : List Lit) (nodes : List Node) (node : Node) → AreVariables lits → map (λ l. l.node) lits ≡ nodes
    → IfNone r (has same_lit lits (record { node = node; neg = false }) ≡ false) → IfNone r (has same_node nodes node ≡ false)
none-found None lits nodes node are e h = ap (λ (ns : List Node). has same_node ns node) (sym e) ∙ (sym (has-variables lits node are) ∙ h)
none-found (Some n) lits nodes node are e h = tt
