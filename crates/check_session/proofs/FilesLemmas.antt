-- How the files of a check are left, from how each of the two is.
use Rattle.std.proofs.Common.{◌≡◌, ℕ, inl, inr, List, [], ◌++◌, length, append-nil, Option, Some, Ok, Err, refl, sym, ap, ◌∙◌, subst}
use Rattle.std.specs.Prelude.{IfSome}
use Rattle.desk_port.specs.Desk.{DeskState, Sizes, and_sizes}
use Rattle.desk_port.specs.Pieces.{piece_sizes}
use Rattle.desk_port.proofs.Facts.{and_sizes-append}
use Rattle.desk_port.specs.declared.errors.PutErr.{PutErr}
use Rattle.desk_port.specs.declared.errors.PutErr.TheVariants as not_put
use Rattle.endings.specs.declared.stop.Stop.{Stop}
use Rattle.endings.specs.Stops.{stop_of_put}
use Rattle.endings.specs.Writing.{Output, StopsIn, after_file, sizes_of}
use Rattle.proof_stitch.specs.Text.{refusal_of}
use Rattle.check_session.specs.Finding.{Finding}
use Rattle.check_session.specs.Check.{State}
use Rattle.check_session.specs.Files.{HasSizes, WritesFiles, LeavesAll, files_of, cnf_name, proof_name, cnf_text_of, proof_bytes, stop_of_stitch}

-- a failed write ends a command in one way, by whatever name it goes
same-stop : (e : PutErr) → stop_of_put e ≡ stop_of_stitch (refusal_of e)
same-stop not_put.Failed = refl
same-stop not_put.NoMemory = refl

-- a file by its name and its bytes
abbrev file : List ℕ → List ℕ → Output
file name bytes = record { name = name; bytes = bytes }

stops-so : (name bytes n b : List ℕ) → name ≡ n → bytes ≡ b → (old new : DeskState) (e : PutErr)
    → StopsIn (file name bytes) old new (stop_of_put e) → StopsIn (file n b) old new (stop_of_stitch (refusal_of e))
stops-so name bytes n b named holds old new e p =
    subst (λ (stop : Stop). StopsIn (file n b) old new stop) (same-stop e)
    (subst (λ (x : List ℕ). StopsIn (file x b) old new (stop_of_put e)) named
    (subst (λ (x : List ℕ). StopsIn (file name x) old new (stop_of_put e)) holds p))

after-so : (name bytes n b : List ℕ) → name ≡ n → bytes ≡ b → (old new : DeskState) → new ≡ after_file old (file name bytes)
    → new ≡ after_file old (file n b)
after-so name bytes n b named holds old new p =
    p ∙ (ap (λ (x : List ℕ). after_file old (file x bytes)) named ∙ ap (λ (x : List ℕ). after_file old (file n x)) holds)

-- both went out in pieces
pub sizes-both : (s : State) (f : Finding) → s.found ≡ Some f → (prefix : List ℕ) (number : ℕ) (bytes proof : List ℕ)
    → bytes ≡ cnf_text_of s.net → proof ≡ proof_bytes s.net s.book.entries f → (z0 z1 z2 : Sizes)
    → z1 ≡ and_sizes z0 (piece_sizes (length bytes)) → z2 ≡ and_sizes z1 (piece_sizes (length proof))
    → HasSizes s prefix number z0 z2
sizes-both s f found prefix number bytes proof holds last_holds z0 z1 z2 first second =
    let cnf = piece_sizes (length (cnf_text_of s.net)) in
    let lines = piece_sizes (length (proof_bytes s.net s.book.entries f)) in
    let both : z2 ≡ and_sizes z0 (cnf ++ (lines ++ [])) =
    second
    ∙ ap (λ (l : List ℕ). and_sizes z1 (piece_sizes (length l))) last_holds
    ∙ ap (λ (z : Sizes). and_sizes z lines) (first ∙ ap (λ (l : List ℕ). and_sizes z0 (piece_sizes (length l))) holds)
    ∙ and_sizes-append z0 cnf lines
    ∙ ap (λ (l : List ℕ). and_sizes z0 (cnf ++ l)) (sym (append-nil lines)) in
    subst (λ (o : Option Finding). IfSome o (λ x. z2 ≡ and_sizes z0 (sizes_of (files_of prefix number s.net s.book.entries x)))) (sym found) both

module _ (s : State) (f : Finding) (found : s.found ≡ Some f) (prefix : List ℕ) (number : ℕ) (old mid : DeskState)
    (name bytes : List ℕ) (named : name ≡ cnf_name prefix number) (holds : bytes ≡ cnf_text_of s.net) where
  -- the first isn't written whole
  pub stops-cnf : (A : Type 0) (e : PutErr) → StopsIn (file name bytes) old mid (stop_of_put e)
      → WritesFiles {A = A} s prefix number old mid (Err (refusal_of e))
  stops-cnf A e p =
      subst (λ (o : Option Finding). IfSome o (λ x. LeavesAll {A = A} (files_of prefix number s.net s.book.entries x) old mid (Err (refusal_of e))))
      (sym found) (inl (stops-so name bytes _ _ named holds old mid e p))

  module _ (cnf : mid ≡ after_file old (file name bytes)) (new : DeskState) (last proof : List ℕ)
      (last_named : last ≡ proof_name prefix number) (last_holds : proof ≡ proof_bytes s.net s.book.entries f) where
    at : mid ≡ after_file old (file (cnf_name prefix number) (cnf_text_of s.net))
    at = after-so name bytes _ _ named holds old mid cnf

    -- the second isn't
    pub stops-proof : (A : Type 0) (e : PutErr) → StopsIn (file last proof) mid new (stop_of_put e)
        → WritesFiles {A = A} s prefix number old new (Err (refusal_of e))
    stops-proof A e p =
        subst (λ (o : Option Finding). IfSome o (λ x. LeavesAll {A = A} (files_of prefix number s.net s.book.entries x) old new (Err (refusal_of e))))
        (sym found)
        (inr (inl (subst (λ (t : DeskState). StopsIn (file (proof_name prefix number) (proof_bytes s.net s.book.entries f)) t new
        (stop_of_stitch (refusal_of e))) at (stops-so last proof _ _ last_named last_holds mid new e p))))

    -- both are
    pub leaves-both : {A : Type 0} (a : A) → new ≡ after_file mid (file last proof) → WritesFiles s prefix number old new (Ok a)
    leaves-both {A = A} a p =
        subst (λ (o : Option Finding). IfSome o (λ x. LeavesAll {A = A} (files_of prefix number s.net s.book.entries x) old new (Ok a)))
        (sym found)
        (after-so last proof _ _ last_named last_holds mid new p
        ∙ ap (λ (t : DeskState). after_file t (file (proof_name prefix number) (proof_bytes s.net s.book.entries f))) at)
