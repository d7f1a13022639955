-- A file that is started, gets its bytes and is closed.
use Rattle.std.proofs.Common.{◌≡◌, ℕ, inl, inr, List, [], ◌++◌, length, Option, Some, None, Err, true, false, Bool, refl, sym, ap, ◌∙◌, subst}
use Rattle.std.proofs.Math.Path.{fun_ext}
use Rattle.std.proofs.lemmas.List.{append-nil}
use Rattle.std.specs.Prelude.{if◌then◌else◌}
use Rattle.std.specs.Option.{option_map}
use Rattle.std.specs.Str.{bytes_eq}
use Rattle.desk_port.specs.Desk.{DeskState, Files, Sizes, put, extended, WriteFault, and_sizes, after_start, after_write, after_close, Closes}
use Rattle.desk_port.specs.declared.errors.PutErr.{PutErr}
use Rattle.desk_port.specs.declared.errors.PutErr.TheVariants as not_put
use Rattle.endings.specs.Stops.{stop_of_put}
use Rattle.desk_port.specs.Pieces.{StopsInPieces, piece_sizes}
use Rattle.endings.specs.Writing.{Output, StopsBetweenWrites, StopsIn, after_file, while_writing}

-- the started file holds what was put into it
pub put-started : (a : DeskState) (name bytes : List ℕ) → after_write (after_start a name) bytes ≡ while_writing a name bytes
put-started a name bytes = ap (λ (o : Option Files). record a { files = o; started = Some name }) (files a.files)
  where
    at : (b : Bool) (o : Option (List ℕ)) → (if b then option_map (λ old. old ++ bytes) (if b then Some [] else o) else (if b then Some [] else o))
        ≡ (if b then Some bytes else o)
    at true o = refl
    at false o = refl

    files : (o : Option Files) → option_map (extended name bytes) (option_map (put name []) o) ≡ option_map (put name bytes) o
    files None = refl
    files (Some f) = ap Some (fun_ext (λ q. at (bytes_eq name q) (f q)))

module _ (o : Output) (a b c : DeskState) (started : b ≡ after_start a o.name) where
  put-after-start : (part : List ℕ) → after_write b part ≡ while_writing a o.name part
  put-after-start part = ap (λ (s : DeskState). after_write s part) started ∙ put-started a o.name part

  -- it is all put
  pub whole : c ≡ after_write b o.bytes → c ≡ while_writing a o.name o.bytes
  whole p = p ∙ put-after-start o.bytes

  pub stops-put : (e : PutErr) (sizes told : Sizes) → StopsInPieces o.bytes e b c sizes told → StopsIn o a c (stop_of_put e)
  stops-put not_put.Failed sizes told p =
      inr (inr (inl (p.part, (p.rest, p.split), subst (λ (s : DeskState). WriteFault s c) (put-after-start p.part) p.desk)))
  stops-put not_put.NoMemory sizes told p = inr (p.part, (p.rest, p.split), p.desk ∙ put-after-start p.part)

  pub stops-close : (d : DeskState) (e : PutErr) → c ≡ after_write b o.bytes → Closes c d (Err e)
      → StopsIn o a d (stop_of_put e)
  stops-close d not_put.Failed p q =
      inr (inr (inr (subst (λ (s : DeskState). WriteFault (after_close s) d) (whole p) q)))
  stops-close d not_put.NoMemory p q = inr (o.bytes, ([], sym (append-nil o.bytes)), q ∙ whole p)

  pub closed : (d : DeskState) → c ≡ after_write b o.bytes → d ≡ after_close c → d ≡ after_file a o
  closed d p q = q ∙ ap after_close (whole p)

  -- the sizes of the writes up to the one that was refused, and up to the close that was
  pub between-put : (e : PutErr) (sizes at told : Sizes) → at ≡ sizes → StopsInPieces o.bytes e b c at told
      → StopsBetweenWrites o a c sizes told e
  between-put e sizes at told same p =
      inr (inl (subst (λ (z : Sizes). StopsInPieces o.bytes e (after_start a o.name) c z told) same
      (subst (λ (s : DeskState). StopsInPieces o.bytes e s c at told) started p)))

  pub between-close : (d : DeskState) (e : PutErr) (sizes at written told : Sizes) → at ≡ sizes → c ≡ after_write b o.bytes
      → written ≡ and_sizes at (piece_sizes (length o.bytes)) → told ≡ written → Closes c d (Err e)
      → StopsBetweenWrites o a d sizes told e
  between-close d e sizes at written told same p count kept q =
      inr (inr (
        subst (λ (s : DeskState). Closes s d (Err e)) (whole p) q,
        kept ∙ count ∙ ap (λ (z : Sizes). and_sizes z (piece_sizes (length o.bytes))) same,
      ))
