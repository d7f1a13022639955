-- Listed gates: one more is simulated.
use Rattle.std.proofs.Common.{◌≡◌, ◌≢◌, ◌∙◌, ℕ, zero, suc, ◌+◌, ◌*◌, ◌<◌, ◌||◌, ◌&&◌, Bool, true, false, eqb, List, [], ◌∷◌, length, take, refl, sym, ap, subst, inl, inr, add-one}
use native.Mathlib.Omega.{arith}
use Rattle.std.specs.List.{slice_index_or}
use Rattle.std.proofs.lemmas.Bool.{cases_lt, eqb-false}
use Rattle.std.proofs.lemmas.Bool.Decides.{eqb_tells}
use Rattle.word_sim.specs.declared.gates.GateAt.{GateAt}
use Rattle.word_sim.specs.Rows.{HasBits, IsKeptFrom, IsPut, row_at, turned}
use Rattle.word_sim.specs.Gates.{AreAnds, AreInside, HaveRows, IsAnd, IsInside, has_place, known_after, with_place}
use Rattle.word_sim.proofs.RowLemmas.{bits-same, row-behind}

-- the place and its gate
pub inside-at : (places : ℕ) (gates : List GateAt) (k : ℕ) (d : GateAt) → AreInside places gates → k < length gates
    → IsInside places (slice_index_or gates k d)
inside-at places [] k d all below = absurd (omega arith)
inside-at places (g ∷ gs) zero d all below = all.0
inside-at places (g ∷ gs) (suc k) d all below = inside-at places gs k d all.1 (omega arith)

-- gates one after another
pub ands-at : (truth : ℕ → ℕ → Bool) (known : ℕ → Bool) (gates : List GateAt) (k : ℕ) (d : GateAt) → AreAnds truth known gates → k < length gates
    → IsAnd truth (known_after known (take k gates)) (slice_index_or gates k d)
ands-at truth known [] k d all below = absurd (omega arith)
ands-at truth known (g ∷ gs) zero d all below = all.0
ands-at truth known (g ∷ gs) (suc k) d all below = ands-at truth (with_place g.place known) gs k d all.1 (omega arith)

known-next : (known : ℕ → Bool) (gates : List GateAt) (k : ℕ) (d : GateAt) (q : ℕ) → k < length gates
    → known_after known (take (suc k) gates) q ≡ with_place (slice_index_or gates k d).place (known_after known (take k gates)) q
known-next known [] k d q below = absurd (omega arith)
known-next known (g ∷ gs) zero d q below = refl
known-next known (g ∷ gs) (suc k) d q below = known-next (with_place g.place known) gs k d q (omega arith)

-- where no gate so far has a place, neither the last one has it nor those before it
or-parts : (a b : Bool) → (a || b) ≡ false → (a ≡ false) × (b ≡ false)
or-parts true b e = absurd (cc)
or-parts false b e = (refl, e)

place-next : (gates : List GateAt) (k : ℕ) (d : GateAt) (q : ℕ) → k < length gates → has_place (take (suc k) gates) q ≡ false
    → (has_place (take k gates) q ≡ false) × (eqb q (slice_index_or gates k d).place ≡ false)
place-next [] k d q below none = absurd (omega arith)
place-next (g ∷ gs) zero d q below none = (refl, (or-parts (eqb q g.place) false none).0)
place-next (g ∷ gs) (suc k) d q below none =
    let both = or-parts (eqb q g.place) (has_place (take (suc k) gs) q) none in
    let later = place-next gs k d q (omega arith) both.1 in
    (rw (both.0, later.0) refl, later.1)

-- a row of another place than the one that is written
row-other : (words p q : ℕ) (now new : List ℕ) → q ≢ p → IsPut words p now new → IsKeptFrom words (p + 1) now new → row_at words q new ≡ row_at words q now
row-other words p q now new other put rest = elim (cases_lt q p) [
  | inl less ↦ put.before q less
  | inr more ↦ row-behind words p q now new (omega (arith, more, other)) rest
]

-- the rows of the first k gates are known, where those that were known at first are, and rows of other places stay
pub record IsFilling (words : ℕ) (old : List ℕ) (gates : List GateAt) (k : ℕ) (rows : List ℕ) : Type 0 where
  pub size : length rows ≡ length old
  pub have : (truth : ℕ → ℕ → Bool) (known : ℕ → Bool) → AreAnds truth known gates → HaveRows words truth known old
      → HaveRows words truth (known_after known (take k gates)) rows
  pub others : (q : ℕ) → has_place (take k gates) q ≡ false → row_at words q rows ≡ row_at words q old

pub filling-next : (words : ℕ) (old : List ℕ) (gates : List GateAt) (k : ℕ) (d : GateAt) (now new : List ℕ)
    → IsFilling words old gates k now → k < length gates → IsPut words (slice_index_or gates k d).place now new
    → IsKeptFrom words ((slice_index_or gates k d).place + 1) now new
    → ((f g : ℕ → Bool) → HasBits (64 * words) f (row_at words (slice_index_or gates k d).fanins.left.position now)
    → HasBits (64 * words) g (row_at words (slice_index_or gates k d).fanins.right.position now)
    → HasBits (64 * words) (λ p. turned (slice_index_or gates k d).fanins.left.neg (f p) && turned (slice_index_or gates k d).fanins.right.neg (g p))
    (row_at words (slice_index_or gates k d).place new))
    → IsFilling words old gates (k + 1) new
filling-next words old gates k d now new s below put rest row = record {
  size = put.size ∙ s.size;
  have = λ truth known ands given q known-q.
      let gate = slice_index_or gates k d in
      let so-far = known_after known (take k gates) in
      let and = ands-at truth known gates k d ands below in
      let before = s.have truth known ands given in
      let here : with_place gate.place (known_after known (take k gates)) q ≡ true =
      sym (known-next known gates k d q below) ∙ ap (λ (n : ℕ). known_after known (take n gates) q) (sym (add-one k)) ∙ known-q in
      elim (eqb_tells q gate.place) [
        | inl p ↦
            subst (λ (n : ℕ). HasBits (64 * words) (truth n) (row_at words n new)) (sym p.1)
            (bits-same (64 * words) _ (truth gate.place) _ (λ x. sym (and.value x))
            (row (truth gate.fanins.left.position) (truth gate.fanins.right.position)
            (before gate.fanins.left.position and.left) (before gate.fanins.right.position and.right)))
        | inr p ↦
            let old-q : known_after known (take k gates) q ≡ true =
            subst (λ (t : Bool). (t || known_after known (take k gates) q) ≡ true) p.0 here in
            subst (λ (ws : List ℕ). HasBits (64 * words) (truth q) ws) (sym (put.before q (and.behind q old-q))) (before q old-q)
      ];
  others = λ q none.
      let both = place-next gates k d q below (ap (λ (n : ℕ). has_place (take n gates) q) (sym (add-one k)) ∙ none) in
      row-other words (slice_index_or gates k d).place q now new (eqb-false _ _ both.1) put rest ∙ s.others q both.0;
}

-- nothing is simulated yet
pub filling-none : (words : ℕ) (old : List ℕ) (gates : List GateAt) → IsFilling words old gates 0 old
filling-none words old gates = record { size = refl; have = λ truth known ands given. given; others = λ q none. refl }
