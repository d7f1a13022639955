-- Answers that tell whether something holds.
use Rattle.std.proofs.Common.{◌≡◌, ℕ, ◌-◌, ◌≤◌, suc, Bool, true, false, not, ◌≢◌, ◌&&◌, List, [], ◌∷◌, map, length, take, drop, get_or, Option, None, Some, refl, sym, ap, ◌∙◌, subst, arith}
use Rattle.std.specs.Prelude.{is_some, if◌then◌else◌}
use Rattle.std.proofs.Math.Bool.{beq}
use Rattle.std.specs.Option.{IsSome}
use Rattle.std.specs.List.{list_all, AllByRecursion}
use Rattle.std.specs.Bool.{Decides}
use Rattle.std.specs.Cmp.Lexicographic.{pointwise}
use Rattle.std.proofs.lemmas.List.{length-append, length-drop, take-append-drop, get_or-take}
use Rattle.std.proofs.Math.Seq.{drop-append_seam}
use Rattle.std.proofs.lemmas.Slice.Eq.{slice_eq-Decides}
use Rattle.lits.specs.declared.literal.Lit.{Lit}
use Rattle.lits.specs.declared.step.Step.{Step}
use Rattle.lits.specs.Same.{same_lit}
use Rattle.lits.proofs.Facts.{exact-lit, lit_laws}
use Rattle.netlist.specs.Net.{AigPair, value_of, lit_holds}
use Rattle.lits.specs.declared.node.Node.{Node}
use Rattle.netlist.specs.Miter.{variable_of}
use Rattle.lemma_book.specs.Cone.{AreThere}
use Rattle.lemma_book.specs.Good.{AreOver, EndsIn, IsApart}
use Rattle.lemma_book.specs.Judging.{Tells}

pub tells-yes : (P : Type 0) (b : Bool) → b ≡ true → Tells P b → P
tells-yes P true e t = t
tells-yes P false e t = cc

pub tells-no : (P : Type 0) (b : Bool) → b ≡ false → Tells P b → ¬ P
tells-no P true e t = cc
tells-no P false e t = t

pub tells-decided : (P : Type 0) (b : Bool) → Decides b P → Tells P b
tells-decided P true d = d.0 refl
tells-decided P false d = λ p. let e : false ≡ true = d.1 p in cc

pub tells-like : (P Q : Type 0) (b : Bool) → (P → Q) → (Q → P) → Tells P b → Tells Q b
tells-like P Q true f g t = f t
tells-like P Q false f g t = λ q. t (g q)

-- of two facts of which the first holds
pub tells-second : (P Q : Type 0) → P → (b : Bool) → Tells Q b → Tells (P × Q) b
tells-second P Q p true q = (p, q)
tells-second P Q p false q = λ both. q both.1

pub tells-both : (P Q : Type 0) (a b : Bool) → Tells P a → Tells Q b → Tells (P × Q) (a && b)
tells-both P Q true b p q = tells-second P Q p b q
tells-both P Q false b p q = λ both. p both.0

pub tells-all : {X : Type 0} (f : X → Bool) (P : X → Type 0) → ((x : X) → Tells (P x) (f x)) → (xs : List X) → Tells (AllByRecursion P xs) (list_all f xs)
tells-all f P each [] = tt
tells-all f P each (x ∷ xs) = tells-both (P x) (AllByRecursion P xs) (f x) (list_all f xs) (each x) (tells-all f P each xs)

tells-some : (o : Option ℕ) → Tells (IsSome o) (is_some o)
tells-some None = λ e. cc
tells-some (Some k) = refl

-- whether all literals of steps are over nodes with variables
pub tells-over : (net : AigPair) (steps : List Step) (b : Bool) → b ≡ list_all (λ s. list_all (λ l. is_some (variable_of net l.node)) s.clause) steps
    → Tells (AreOver net steps) b
tells-over net steps b e =
    subst (Tells (AreOver net steps)) (sym e)
    (tells-all (λ s. list_all (λ l. is_some (variable_of net l.node)) s.clause) (λ s. AreThere net s.clause)
    (λ s. tells-all (λ l. is_some (variable_of net l.node)) (λ l. IsSome (variable_of net l.node)) (λ l. tells-some (variable_of net l.node)) s.clause) steps)

pub tells-second_over : (P : Type 0) (net : AigPair) (steps read : List Step) → read ≡ steps → P → (b : Bool)
    → b ≡ list_all (λ s. list_all (λ l. is_some (variable_of net l.node)) s.clause) read → Tells (P × AreOver net steps) b
tells-second_over P net steps read same p b e =
    tells-second P (AreOver net steps) p b (subst (λ (l : List Step). Tells (AreOver net l) b) same (tells-over net read b e))

-- whether two clauses are one
pub tells-clause : (xs ys : List Lit) (b : Bool) → b ≡ pointwise same_lit xs ys → Tells (xs ≡ ys) b
tells-clause xs ys b e = tells-decided (xs ≡ ys) b (slice_eq-Decides (λ x y. (exact-lit x y, λ same. ap (same_lit x) (sym same) ∙ lit_laws.equivalence.refl x)) xs ys b e)

mapped : (ss : List Step) → length (map (λ s. s.clause) ss) ≡ length ss
mapped [] = refl
mapped (s ∷ ss) = ap (λ (n : ℕ). suc n) (mapped ss)

-- steps end in clauses exactly where their last ones add these
module _ (clauses : List (List Lit)) (steps : List Step) where
  last-ends : (n : ℕ) → n ≡ length clauses → map (λ s. s.clause) (drop (length steps - n) steps) ≡ clauses → EndsIn clauses steps
  last-ends n e same =
      record { before = take (length steps - n) steps; last = drop (length steps - n) steps; parts = sym (take-append-drop (length steps - n) steps); clauses_are = same }

  ends-last : (n : ℕ) → n ≡ length clauses → EndsIn clauses steps → map (λ s. s.clause) (drop (length steps - n) steps) ≡ clauses
  ends-last n e ends =
      let few : length ends.last ≡ n = sym (mapped ends.last) ∙ ap length ends.clauses_are ∙ sym e in
      let all = ap length ends.parts ∙ length-append ends.before ends.last in
      let place : length steps - n ≡ length ends.before = omega (arith, few, all) in
      ap (λ (k : ℕ). map (λ s. s.clause) (drop k steps)) place
      ∙ ap (λ (l : List Step). map (λ s. s.clause) (drop (length ends.before) l)) ends.parts
      ∙ ap (map (λ (s : Step). s.clause)) (drop-append_seam ends.before ends.last)
      ∙ ends.clauses_are

  pub tells-ends : (n : ℕ) → n ≡ length clauses → (b : Bool) → Tells (map (λ s. s.clause) (drop (length steps - n) steps) ≡ clauses) b → Tells (EndsIn clauses steps) b
  tells-ends n e b t = tells-like (map (λ s. s.clause) (drop (length steps - n) steps) ≡ clauses) (EndsIn clauses steps) b (last-ends n e) (ends-last n e) t

-- two last steps of which the first adds its clause
pub tells-two : (steps : List Step) (c d : List Lit) (s t : Step) → 2 ≤ length steps → drop (length steps - 2) steps ≡ s ∷ t ∷ [] → s.clause ≡ c
    → (b : Bool) → Tells (t.clause ≡ d) b → Tells (EndsIn (c ∷ d ∷ []) steps) b
tells-two steps c d s t long last first b second =
    tells-ends (c ∷ d ∷ []) steps 2 refl b
    (tells-like (t.clause ≡ d) (map (λ x. x.clause) (drop (length steps - 2) steps) ≡ c ∷ d ∷ []) b
    (λ e. ap (map (λ (x : Step). x.clause)) last ∙ ap (λ (l : List Lit). l ∷ t.clause ∷ []) first ∙ ap (λ (l : List Lit). c ∷ l ∷ []) e)
    (λ e. let whole : (s.clause ∷ t.clause ∷ []) ≡ c ∷ d ∷ [] = sym (ap (map (λ (x : Step). x.clause)) last) ∙ e in cc)
    second)

two-items : (xs : List Step) (s t : Step) → length xs ≡ 2 → s ≡ get_or xs 0 s → t ≡ get_or xs 1 t → xs ≡ s ∷ t ∷ []
two-items [] s t e f g = absurd (let h : 0 ≡ 2 = e in omega (arith, h))
two-items (x ∷ []) s t e f g = absurd (let h : 1 ≡ 2 = e in omega (arith, h))
two-items (x ∷ y ∷ []) s t e f g = ap (λ (z : Step). z ∷ y ∷ []) (sym f) ∙ ap (λ (z : Step). s ∷ z ∷ []) (sym g)
two-items (x ∷ y ∷ z ∷ zs) s t e f g = absurd (let h : suc (suc (suc (length zs))) ≡ 2 = e in omega (arith, h))

-- the two last steps, as they are read
pub last-two : (steps : List Step) (s t : Step) → 2 ≤ length steps
    → s ≡ get_or (take (length steps - (length steps - 2)) (drop (length steps - 2) steps)) 0 s
    → t ≡ get_or (take (length steps - (length steps - 2)) (drop (length steps - 2) steps)) 1 t
    → drop (length steps - 2) steps ≡ s ∷ t ∷ []
last-two steps s t long first second =
    let len = length-drop (length steps - 2) steps in
    two-items (drop (length steps - 2) steps) s t (omega (arith, len))
    (first ∙ get_or-take (length steps - (length steps - 2)) (drop (length steps - 2) steps) 0 s (omega arith))
    (second ∙ get_or-take (length steps - (length steps - 2)) (drop (length steps - 2) steps) 1 t (omega arith))

-- two truth values differ, or they don't
tells-differ : (x y n : Bool) → Tells (x ≢ (if n then not y else y)) (not (beq x (not (beq y n))))
tells-differ true true true = λ e. cc
tells-differ true true false = λ f. f refl
tells-differ true false true = λ f. f refl
tells-differ true false false = λ e. cc
tells-differ false true true = λ f. f refl
tells-differ false true false = λ e. cc
tells-differ false false true = λ e. cc
tells-differ false false false = λ f. f refl

-- whether the values of node and literal differ
pub tells-apart : (net : AigPair) (node : Node) (lit : Lit) (input : List Bool) (x y : Bool) → length input ≡ length net.a.inputs
    → x ≡ value_of net input node → y ≡ value_of net input lit.node → Tells (IsApart net node lit input) (not (beq x (not (beq y lit.neg))))
tells-apart net node lit input x y whole first second =
    tells-like (x ≢ (if lit.neg then not y else y)) (IsApart net node lit input) (not (beq x (not (beq y lit.neg))))
    (λ f. record { whole = whole; apart = subst (λ (b : Bool). b ≢ lit_holds (value_of net input) lit) first (subst (λ (b : Bool). x ≢ (if lit.neg then not b else b)) second f) })
    (λ a. subst (λ (b : Bool). x ≢ (if lit.neg then not b else b)) (sym second) (subst (λ (b : Bool). b ≢ lit_holds (value_of net input) lit) (sym first) a.apart))
    (tells-differ x y lit.neg)
