-- Codes among the codes of literals, and a variable's code.
use Rattle.std.proofs.Common.{◌≡◌, ◌<◌, ◌+◌, ◌*◌, ◌/◌, ◌++◌, ◌∙◌, ℕ, arith, true, List, [], ◌∷◌, map, zero, suc, get_or, length, refl, sym, ap, subst, inl, inr}
use Rattle.std.specs.List.{All}
use Rattle.std.proofs.lemmas.List.{map-append}
use Rattle.std.proofs.lemmas.List.Elements.{All-push}
use Rattle.std.proofs.lemmas.Bool.{or_cases, or_left, or_right}
use Rattle.lits.specs.Clause.{has}
use Rattle.lits.specs.Same.{same_lit, opposite}
use Rattle.lits.specs.declared.node.Node.{Node}
use Rattle.lits.specs.declared.node.Node.TheVariants.{Const}
use Rattle.lits.specs.declared.literal.Lit.{Lit}
use Rattle.lits.proofs.Facts.{lit_laws}
use Rattle.flat_base.specs.Codes.{lit_at, IsCode}
use Rattle.watch_lists.specs.Codes.{flip}
use Rattle.watch_lists.specs.Trail.{TrailState, put_at}
use Rattle.watch_lists.proofs.Facts.{lit_at-flip, flip-code}
use Rattle.solver_watch.specs.Marked.{negations_at}

-- a literal of a list of codes has a place there
pub code-of : (nodes : List Node) (codes : List ℕ) (l : Lit) → has same_lit (map (lit_at nodes) codes) l ≡ true
    → (j : ℕ) × (j < length codes) × (lit_at nodes (get_or codes j 0) ≡ l)
code-of nodes [] l h = cc
code-of nodes (c ∷ cs) l h =
    elim (or_cases (same_lit (lit_at nodes c) l) (has same_lit (map (lit_at nodes) cs) l) h) [
      | inl e ↦ (0, omega arith, lit_laws.exact _ _ e)
      | inr e ↦ let w = code-of nodes cs l e in (suc w.0, omega (arith, w.1), w.2)
    ]

pub has-code : (nodes : List Node) (codes : List ℕ) (j : ℕ) → j < length codes
    → has same_lit (map (lit_at nodes) codes) (lit_at nodes (get_or codes j 0)) ≡ true
has-code nodes [] j h = absurd (omega arith)
has-code nodes (c ∷ cs) zero h = or_left _ _ (lit_laws.equivalence.refl (lit_at nodes c))
has-code nodes (c ∷ cs) (suc j) h = or_right (same_lit (lit_at nodes c) _) _ (has-code nodes cs j (omega arith))

pub lit_at-variable : (nodes : List Node) (v : ℕ) → (lit_at nodes (2 * v + 1)).node ≡ get_or nodes v Const
unfolding lit_at
lit_at-variable nodes v = let half : (2 * v + 1) / 2 ≡ v = omega arith in rw half refl

-- the code of one more negation
pub codes-next : (t : TrailState) (codes places : List ℕ) (code negation place : ℕ) → map (lit_at t.nodes) codes ≡ negations_at t.puts places
    → All (IsCode t.nodes) codes → IsCode t.nodes code → lit_at t.nodes code ≡ (put_at t.puts place).lit → negation ≡ flip code
    → (map (lit_at t.nodes) (codes ++ negation ∷ []) ≡ negations_at t.puts (places ++ place ∷ [])) × All (IsCode t.nodes) (codes ++ negation ∷ [])
codes-next t codes places code negation place so_far all is at flipped = (
  map-append (lit_at t.nodes) codes (negation ∷ [])
      ∙ (ap (λ (ls : List Lit). ls ++ lit_at t.nodes negation ∷ []) so_far
      ∙ (ap (λ (l : Lit). negations_at t.puts places ++ l ∷ []) (ap (lit_at t.nodes) flipped ∙ (lit_at-flip t.nodes code ∙ ap opposite at))
      ∙ sym (map-append (λ (k : ℕ). opposite (put_at t.puts k).lit) places (place ∷ [])))),
  All-push (IsCode t.nodes) codes negation all (subst (IsCode t.nodes) (sym flipped) (flip-code t.nodes code is)),
)
