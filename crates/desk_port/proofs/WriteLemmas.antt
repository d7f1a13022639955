-- Writes that follow each other: what they leave of the file, and their sizes.
use Rattle.std.proofs.Common.{◌≡◌, ℕ, List, [], ◌++◌, Option, Some, None, Bool, true, false, refl, ap, if◌then◌else◌, append_assoc, append-nil, unwrap_or}
use Rattle.std.proofs.Math.Path.{fun_ext}
use Rattle.std.specs.Option.{option_map}
use Rattle.std.specs.Str.{bytes_eq}
use Rattle.desk_port.specs.Desk.{DeskState, Files, Sizes, extended, after_write, and_sizes}

extended-append : (name a b : List ℕ) (files : Files) →
    extended name b (extended name a files) ≡ extended name (a ++ b) files
extended-append name a b files = fun_ext (λ q. at (bytes_eq name q) (files q)) where
  at : (same : Bool) (file : Option (List ℕ)) →
      (let once = if same then option_map (λ old. old ++ a) file else file in
      if same then option_map (λ old. old ++ b) once else once)
      ≡ (if same then option_map (λ old. old ++ (a ++ b)) file else file)
  at true None = refl
  at true (Some old) = ap Some (append_assoc old a b)
  at false file = refl

-- two writes put what one of both would
pub after_write-append : (s : DeskState) (a b : List ℕ) → after_write (after_write s a) b ≡ after_write s (a ++ b)
after_write-append s a b = ap (λ files. record s { files = files }) (at s.files) where
  name : List ℕ
  name = unwrap_or s.started []

  at : (files : Option Files) →
      option_map (extended name b) (option_map (extended name a) files) ≡ option_map (extended name (a ++ b)) files
  at None = refl
  at (Some files) = ap Some (extended-append name a b files)

-- a write of nothing puts nothing
pub after_write-nil : (s : DeskState) → after_write s [] ≡ s
after_write-nil s = ap (λ files. record s { files = files }) (at s.files) where
  name : List ℕ
  name = unwrap_or s.started []

  each : (same : Bool) (file : Option (List ℕ)) →
      (if same then option_map (λ old. old ++ []) file else file) ≡ file
  each true None = refl
  each true (Some old) = ap Some (append-nil old)
  each false file = refl

  at : (files : Option Files) → option_map (extended name []) files ≡ files
  at None = refl
  at (Some files) = ap Some (fun_ext (λ q. each (bytes_eq name q) (files q)))

-- no write has no size
pub and_sizes-nil : (told : Sizes) → and_sizes told [] ≡ told
and_sizes-nil None = refl
and_sizes-nil (Some sizes) = ap Some (append-nil sizes)

-- the sizes of writes that follow each other
pub and_sizes-append : (told : Sizes) (a b : List ℕ) → and_sizes (and_sizes told a) b ≡ and_sizes told (a ++ b)
and_sizes-append None a b = refl
and_sizes-append (Some sizes) a b = ap Some (append_assoc sizes a b)
