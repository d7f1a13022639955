-- Lists of names: none, and one name more.
use Rattle.std.proofs.Common.{◌≡◌, ℕ, zero, suc, true, List, [], ◌∷◌, Option, None, Some, set, replicate, length, refl, arith}
use Rattle.std.specs.Prelude.{◌==◌, not}
use Rattle.std.specs.List.{list_all}
use Rattle.std.proofs.lemmas.Bool.{and_parts}
use Rattle.std.proofs.lemmas.List.{length-replicate}
use Rattle.symbol_names.specs.NameList.{is_name, name_of}
use Rattle.symbol_names.specs.Names.{AreNames, unnamed}

abbrev none : Option (List ℕ)
none = None

all-none : (n : ℕ) → list_all is_name (replicate n none) ≡ true
all-none zero = refl
all-none (suc n) = all-none n

-- places without a name
pub AreNames-unnamed : (inputs outputs : ℕ) → AreNames inputs outputs (unnamed inputs outputs)
AreNames-unnamed inputs outputs = record {
  input_places = length-replicate inputs none;
  output_places = length-replicate outputs none;
  of_inputs = all-none inputs;
  of_outputs = all-none outputs;
}

-- bytes without LF are a name, or none
pub is_name-of : (bytes : List ℕ) → list_all (λ b. not (b == 10)) bytes ≡ true → is_name (name_of bytes) ≡ true
is_name-of [] e = refl
is_name-of (b ∷ bs) e = e

-- one place has another name
pub all-set : (names : List (Option (List ℕ))) (k : ℕ) (name : Option (List ℕ)) → list_all is_name names ≡ true → is_name name ≡ true
    → list_all is_name (set names k name) ≡ true
all-set [] k name e is = refl
all-set (n ∷ ns) zero name e is = let parts = and_parts (is_name n) (list_all is_name ns) e in rw (is, parts.1) refl
all-set (n ∷ ns) (suc k) name e is =
    let parts = and_parts (is_name n) (list_all is_name ns) e in rw (parts.0, all-set ns k name parts.1 is) refl
