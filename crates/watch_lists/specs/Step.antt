-- What single steps make of the engine.
use Rattle.std.specs.Prelude.{◌≡◌, ℕ, true, false, not, ◌&&◌, List, [], ◌∷◌, ◌++◌, slice_set, take, drop, length, Option, None, slice_index_or, nat_eq}
use Rattle.lits.specs.Clause.{has}
use Rattle.watch_lists.specs.declared.engine.Engine.{Engine}
use Rattle.watch_lists.specs.declared.engine.Level.{Level}

-- it holds nothing
pub record IsEmpty (e : Engine) : Type 0 where
  pub clauses : e.clauses ≡ []
  pub pairs : e.pairs.items ≡ []
  pub lists : e.lists ≡ []
  pub truth : e.truth.items ≡ []
  pub places : e.places.items ≡ []
  pub trail : e.trail.items ≡ []
  pub reasons : e.reasons.items ≡ []
  pub levels : e.levels.items ≡ []
  pub head : e.head ≡ 0

-- it holds the same
pub record IsSame (old new : Engine) : Type 0 where
  pub clauses : new.clauses ≡ old.clauses
  pub pairs : new.pairs.items ≡ old.pairs.items
  pub lists : new.lists ≡ old.lists
  pub truth : new.truth.items ≡ old.truth.items
  pub places : new.places.items ≡ old.places.items
  pub trail : new.trail.items ≡ old.trail.items
  pub reasons : new.reasons.items ≡ old.reasons.items
  pub levels : new.levels.items ≡ old.levels.items
  pub head : new.head ≡ old.head

-- the same but for clauses' pairs and watches
pub record IsLike (old new : Engine) : Type 0 where
  pub clauses : new.clauses ≡ old.clauses
  pub truth : new.truth.items ≡ old.truth.items
  pub places : new.places.items ≡ old.places.items
  pub trail : new.trail.items ≡ old.trail.items
  pub reasons : new.reasons.items ≡ old.reasons.items
  pub levels : new.levels.items ≡ old.levels.items
  pub head : new.head ≡ old.head

-- a literal is put, for that reason
pub record IsPut (old : Engine) (lit : ℕ) (by : Option ℕ) (new : Engine) : Type 0 where
  pub clauses : new.clauses ≡ old.clauses
  pub pairs : new.pairs.items ≡ old.pairs.items
  pub lists : new.lists ≡ old.lists
  pub truth : new.truth.items ≡ slice_set old.truth.items lit true
  pub places : new.places.items ≡ slice_set old.places.items lit (length old.trail.items)
  pub trail : new.trail.items ≡ old.trail.items ++ lit ∷ []
  pub reasons : new.reasons.items ≡ old.reasons.items ++ by ∷ []
  pub levels : new.levels.items ≡ old.levels.items
  pub head : new.head ≡ old.head

-- there is one more variable
pub record IsGrown (old new : Engine) : Type 0 where
  pub clauses : new.clauses ≡ old.clauses
  pub pairs : new.pairs.items ≡ old.pairs.items
  pub lists : new.lists ≡ old.lists ++ [] ∷ [] ∷ []
  pub truth : new.truth.items ≡ old.truth.items ++ false ∷ false ∷ []
  pub places : new.places.items ≡ old.places.items ++ 0 ∷ 0 ∷ []
  pub trail : new.trail.items ≡ old.trail.items
  pub reasons : new.reasons.items ≡ old.reasons.items
  pub levels : new.levels.items ≡ old.levels.items
  pub head : new.head ≡ old.head

-- a clause is the last one
pub record IsAdded (old : Engine) (clause : List ℕ) (new : Engine) : Type 0 where
  pub clauses : new.clauses ≡ old.clauses ++ clause ∷ []
  pub pairs : new.pairs.items ≡ old.pairs.items
  pub lists : new.lists ≡ old.lists
  pub truth : new.truth.items ≡ old.truth.items
  pub places : new.places.items ≡ old.places.items
  pub trail : new.trail.items ≡ old.trail.items
  pub reasons : new.reasons.items ≡ old.reasons.items
  pub levels : new.levels.items ≡ old.levels.items
  pub head : new.head ≡ old.head

-- a level begins at that place
pub record IsRaised (old : Engine) (level : Level) (new : Engine) : Type 0 where
  pub clauses : new.clauses ≡ old.clauses
  pub pairs : new.pairs.items ≡ old.pairs.items
  pub lists : new.lists ≡ old.lists
  pub truth : new.truth.items ≡ old.truth.items
  pub places : new.places.items ≡ old.places.items
  pub trail : new.trail.items ≡ old.trail.items
  pub reasons : new.reasons.items ≡ old.reasons.items
  pub levels : new.levels.items ≡ old.levels.items ++ level ∷ []
  pub head : new.head ≡ old.head

-- the levels from that one on are given up
pub record IsCut (old : Engine) (count : ℕ) (level : Level) (new : Engine) : Type 0 where
  pub clauses : new.clauses ≡ old.clauses
  pub pairs : new.pairs.items ≡ old.pairs.items
  pub lists : new.lists ≡ old.lists
  pub size : length new.truth.items ≡ length old.truth.items
  pub marks : (l : ℕ) → slice_index_or new.truth.items l false
      ≡ (slice_index_or old.truth.items l false && not (has nat_eq (drop level.start old.trail.items) l))
  pub places : new.places.items ≡ old.places.items
  pub trail : new.trail.items ≡ take level.start old.trail.items
  pub reasons : new.reasons.items ≡ take level.start old.reasons.items
  pub levels : new.levels.items ≡ take count old.levels.items
  pub head : new.head ≡ level.head

-- a level begins with the literal
pub record IsDecided (old : Engine) (lit : ℕ) (new : Engine) : Type 0 where
  pub clauses : new.clauses ≡ old.clauses
  pub size : length new.truth.items ≡ length old.truth.items
  pub trail : new.trail.items ≡ old.trail.items ++ lit ∷ []
  pub reasons : new.reasons.items ≡ old.reasons.items ++ None ∷ []
  pub levels : new.levels.items ≡ old.levels.items ++ record { start = length old.trail.items; head = old.head } ∷ []
