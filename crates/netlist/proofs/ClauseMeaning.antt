-- What assignments of nodes make of the clauses of a gate and of an XOR, and that neither a tautology left out nor a
-- literal repeated changes what a list of clauses asks.
use Rattle.std.proofs.Common.{◌≡◌, Bool, true, false, not, ◌&&◌, ◌||◌, List, [], ◌∷◌, refl, sym, ap, ◌∙◌, if◌then◌else◌}
use Rattle.std.specs.List.{list_any}
use Rattle.std.proofs.lemmas.Map.Views.{any-filter_same}
use Rattle.std.proofs.lemmas.Bool.{or_right}
use Rattle.lits.specs.Clause.{has, firsts, has_pair}
use Rattle.lits.specs.Assignment.{IsAssignment, Meets}
use Rattle.lits.specs.declared.node.Node.{Node}
use Rattle.lits.specs.declared.literal.Lit.{Lit}
use Rattle.netlist.specs.declared.gate.Definition.{Definition}
use Rattle.netlist.specs.Net.{differs, lit_holds}
use Rattle.netlist.specs.Miter.{gate_clauses, xor_clauses, kept}
use Rattle.lits.specs.Same.{same_lit, opposite}
use Rattle.lits.proofs.Facts.{exact-lit}

-- the values of literals by those of nodes are an assignment
pub lit_holds-opposite : (v : Node → Bool) (l : Lit) → lit_holds v (opposite l) ≡ not (lit_holds v l)
lit_holds-opposite v l = go l.neg (v l.node)
  where
    go : (neg value : Bool) → (if not neg then not value else value) ≡ not (if neg then not value else value)
    go true true = refl
    go true false = refl
    go false value = refl

-- values that don't differ are one
pub same-values : (x y : Bool) → not (differs x y) ≡ true → x ≡ y
same-values true true e = refl
same-values true false e = cc
same-values false true e = cc
same-values false false e = refl

pub lit_holds-assigns : (v : Node → Bool) → IsAssignment opposite (lit_holds v)
lit_holds-assigns v = record { negates = lit_holds-opposite v }

module _ {L : Type 0} {eq : L → L → Bool} (exact : (x y : L) → eq x y ≡ true → x ≡ y) (u : L → Bool) where
  -- a literal that holds makes each clause hold that has it
  pub holds-at : (xs : List L) (q : L) → has eq xs q ≡ true → u q ≡ true → list_any u xs ≡ true
  holds-at [] q h t = cc
  holds-at (x ∷ xs) q h t = go (eq x q) refl (holds-at xs q)
    where
      go : (b : Bool) → eq x q ≡ b → (has eq xs q ≡ true → u q ≡ true → list_any u xs ≡ true) → list_any u (x ∷ xs) ≡ true
      go true e rest = let f = ap u (exact x q e) ∙ t in rw f refl
      go false e rest = or_right (u x) _ (rest (rw e at h) t)

  -- a clause with its repeated literals once holds as before
  pub holds-firsts : (xs : List L) → list_any u (firsts eq xs) ≡ list_any u xs
  holds-firsts [] = refl
  holds-firsts (x ∷ xs) = go (u x) refl (holds-firsts xs)
    where
      go : (b : Bool) → u x ≡ b → list_any u (firsts eq xs) ≡ list_any u xs → list_any u (firsts eq (x ∷ xs)) ≡ list_any u (x ∷ xs)
      go true e rest = rw e refl
      go false e rest = rw e (any-filter_same u (λ y. not (eq x y)) true passes (firsts eq xs) ∙ rest)
        where
          passes : (k : L) → u k ≡ true → not (eq x k) ≡ true
          passes k t = here (eq x k) refl
            where
              here : (b : Bool) → eq x k ≡ b → not (eq x k) ≡ true
              here true f = let g : u x ≡ u k = ap u (exact x k f) in cc
              here false f = rw f refl

  -- a clause with a complementary pair holds under each assignment
  pub holds-pair : (opp : L → L) → IsAssignment opp u → (xs : List L) → has_pair eq opp xs ≡ true → list_any u xs ≡ true
  holds-pair opp assigns [] h = cc
  holds-pair opp assigns (x ∷ xs) h = go (u x) (has eq xs (opp x)) refl refl (holds-pair opp assigns xs)
    where
      go : (b c : Bool) → u x ≡ b → has eq xs (opp x) ≡ c → (has_pair eq opp xs ≡ true → list_any u xs ≡ true)
          → list_any u (x ∷ xs) ≡ true
      go true c e f rest = rw e refl
      go false true e f rest = rw e (holds-at xs (opp x) f (assigns.negates x ∙ rw e refl))
      go false false e f rest = rw e (rest (rw f at h))

-- the clauses that stay ask as much as all of them
module _ (v : Node → Bool) where
  pub meets-kept : (cs : List (List Lit)) → Meets (lit_holds v) cs → Meets (lit_holds v) (kept cs)
  meets-kept [] m = tt
  meets-kept (c ∷ cs) m = go (has_pair same_lit opposite c) refl (meets-kept cs m.1)
    where
      go : (b : Bool) → has_pair same_lit opposite c ≡ b → Meets (lit_holds v) (kept cs) → Meets (lit_holds v) (kept (c ∷ cs))
      go true e rest = rw e rest
      go false e rest = rw e (holds-firsts exact-lit (lit_holds v) c ∙ m.0, rest)

  pub meets_from_kept : (cs : List (List Lit)) → Meets (lit_holds v) (kept cs) → Meets (lit_holds v) cs
  meets_from_kept [] m = tt
  meets_from_kept (c ∷ cs) m = go (has_pair same_lit opposite c) refl (meets_from_kept cs)
    where
      go : (b : Bool) → has_pair same_lit opposite c ≡ b → (Meets (lit_holds v) (kept cs) → Meets (lit_holds v) cs)
          → Meets (lit_holds v) (c ∷ cs)
      go true e rest = (holds-pair exact-lit (lit_holds v) opposite (lit_holds-assigns v) c e, rest (rw e at m))
      go false e rest =
          let n = rw e at m in
          (sym (holds-firsts exact-lit (lit_holds v) c) ∙ n.0, rest n.1)

-- the clauses of a gate say that its node is the AND of its fanins
gate_bits_to : (n a b : Bool) → n ≡ (a && b) → ((not n || (a || false)) ≡ true) × ((not n || (b || false)) ≡ true) × ((n || (not a || (not b || false))) ≡ true)
gate_bits_to true true true e = (refl, refl, refl)
gate_bits_to true true false e = cc
gate_bits_to true false b e = cc
gate_bits_to false true true e = cc
gate_bits_to false true false e = (refl, refl, refl)
gate_bits_to false false b e = (refl, refl, refl)

gate_bits_from : (n a b : Bool) → (not n || (a || false)) ≡ true → (not n || (b || false)) ≡ true → (n || (not a || (not b || false))) ≡ true → n ≡ (a && b)
gate_bits_from true true true e f g = refl
gate_bits_from true true false e f g = cc
gate_bits_from true false b e f g = cc
gate_bits_from false true true e f g = cc
gate_bits_from false true false e f g = refl
gate_bits_from false false b e f g = refl

module _ (v : Node → Bool) (d : Definition) where
  pub meets-gate : v d.node ≡ (lit_holds v d.left && lit_holds v d.right) → Meets (lit_holds v) (gate_clauses d)
  meets-gate e =
      let r = gate_bits_to (v d.node) (lit_holds v d.left) (lit_holds v d.right) e in
      (r.0, (r.1, (rw (lit_holds-opposite v d.left, lit_holds-opposite v d.right) r.2, tt)))

  pub gate_from_meets : Meets (lit_holds v) (gate_clauses d) → v d.node ≡ (lit_holds v d.left && lit_holds v d.right)
  gate_from_meets m =
      gate_bits_from (v d.node) (lit_holds v d.left) (lit_holds v d.right) m.0 m.1.0
      (rw (lit_holds-opposite v d.left, lit_holds-opposite v d.right) at m.1.1.0)

-- the clauses of an XOR say that its node is true exactly where its outputs differ
xor_bits_to : (x a b : Bool) → x ≡ differs a b → ((not x || (a || (b || false))) ≡ true) × ((not x || (not a || (not b || false))) ≡ true) × ((x || (not a || (b || false))) ≡ true) × ((x || (a || (not b || false))) ≡ true)
xor_bits_to true true true e = cc
xor_bits_to true true false e = (refl, refl, refl, refl)
xor_bits_to true false true e = (refl, refl, refl, refl)
xor_bits_to true false false e = cc
xor_bits_to false true true e = (refl, refl, refl, refl)
xor_bits_to false true false e = cc
xor_bits_to false false true e = cc
xor_bits_to false false false e = (refl, refl, refl, refl)

xor_bits_from : (x a b : Bool) → (not x || (a || (b || false))) ≡ true → (not x || (not a || (not b || false))) ≡ true → (x || (not a || (b || false))) ≡ true → (x || (a || (not b || false))) ≡ true → x ≡ differs a b
xor_bits_from true true true e f g h = cc
xor_bits_from true true false e f g h = refl
xor_bits_from true false true e f g h = refl
xor_bits_from true false false e f g h = cc
xor_bits_from false true true e f g h = refl
xor_bits_from false true false e f g h = cc
xor_bits_from false false true e f g h = cc
xor_bits_from false false false e f g h = refl

module _ (v : Node → Bool) (x : Node) (a b : Lit) where
  pub meets-xor : v x ≡ differs (lit_holds v a) (lit_holds v b) → Meets (lit_holds v) (xor_clauses x a b)
  meets-xor e =
      let r = xor_bits_to (v x) (lit_holds v a) (lit_holds v b) e in
      (r.0, (rw (lit_holds-opposite v a, lit_holds-opposite v b) r.1, (rw (lit_holds-opposite v a) r.2, (rw (lit_holds-opposite v b) r.3, tt))))

  pub xor_from_meets : Meets (lit_holds v) (xor_clauses x a b) → v x ≡ differs (lit_holds v a) (lit_holds v b)
  xor_from_meets m =
      xor_bits_from (v x) (lit_holds v a) (lit_holds v b) m.0
      (rw (lit_holds-opposite v a, lit_holds-opposite v b) at m.1.0)
      (rw (lit_holds-opposite v a) at m.1.1.0)
      (rw (lit_holds-opposite v b) at m.1.1.1.0)
