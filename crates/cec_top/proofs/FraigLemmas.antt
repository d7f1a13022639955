-- How a run that reduces a circuit answers, from what was read, made and told.
use Rattle.std.proofs.Common.{◌≡◌, ℕ, ◌<◌, inl, inr, List, [], Option, Some, Ok, Err, sym, ap, ◌∙◌, subst, arith}
use Rattle.std.specs.Prelude.{Result, IfOk, IfErr, IfSome}
use Rattle.desk_port.specs.Desk.{DeskState}
use Rattle.netlist.specs.Circuit.{Aig}
use Rattle.netlist.specs.Net.{AigPair, IsNet}
use Rattle.aiger_file.specs.File.{SpellsAiger}
use Rattle.lemma_book.specs.Entry.{Entries}
use Rattle.endings.specs.declared.status.Status.{Status}
use Rattle.endings.specs.Status.{code_of}
use Rattle.endings.specs.declared.stop.Stop.{Stop}
use Rattle.endings.specs.declared.stop.Stop.TheVariants.{OutOfMemory}
use Rattle.endings.specs.Reading.{ReadsAs, StopsAt, after_reads}
use Rattle.endings.specs.Writing.{Output, Says, StopsAmong, StopsIn, after_file, after_files}
use Rattle.check_session.specs.Check.{State}
use Rattle.check_session.specs.Finding.{Finding, Equivalent, Finds}
use Rattle.check_session.specs.Files.{files_of, LeavesAll, WritesFiles}
use Rattle.check_session.specs.Reduction.{IsReduction}
use Rattle.proof_stitch.specs.declared.stitch_err.StitchErr.{StitchErr}
use Rattle.command_line.specs.Words.{FraigCommand}
use Rattle.cec_top.specs.declared.kept.Kept.{Kept}
use Rattle.cec_top.specs.Check.{How, IsProof, outputs_of}
use Rattle.cec_top.specs.Fraig.{AnswersFraig, EndsFraig, ReadsCircuit, Reduction, StopsFraig, TellsReduction, both, circuit_output, fraig_how, fraig_inputs, fraig_outputs, handed_back, reduced_text}
use Rattle.cec_top.specs.FraigSteps.{Reduces, TellsStatus, WritesCircuit, WritesProof, reduction_in}
use Rattle.cec_top.specs.Inputs.{circuit_file}
use Rattle.cec_top.proofs.ClosedLemmas.{IsClosed, IsOther, after-files-closed, after-reads-closed, ends-closed, leaves-code, reads-closed}
use Rattle.cec_top.proofs.TellLemmas.{runs-out, says-behind, stops-among}
use Rattle.cec_top.proofs.ToldLemmas.{left-whole}

-- ---- what is made

-- a reduction is right whose circuits are a net, and whose book shows both equivalent
pub is-right : (how : How) (a circuit : Aig) (book : Entries) (s : State) → IsReduction a how.options circuit book s → IsNet s.net
    → ((f : Finding) → Finds s.net s.book.entries f → IsProof s.net s.book.entries f) → Reduces how a circuit book s
is-right how a circuit book s reduction net proves =
    let a_is : s.net.a ≡ a = ap (λ (n : AigPair). n.a) reduction.net in
    let b_is : s.net.b ≡ circuit = ap (λ (n : AigPair). n.b) reduction.net in
    let r : IsReduction s.net.a how.options s.net.b book s =
    subst (λ (y : Aig). IsReduction s.net.a how.options y book s) (sym b_is)
    (subst (λ (x : Aig). IsReduction x how.options circuit book s) (sym a_is) reduction) in
    record {
      a_is = a_is;
      circuit_is = sym b_is;
      sequence = reduction.sequence;
      found = r.found;
      is_right = record {
        sweep_budget = r.book_of.sweep_is;
        out_budget = r.book_of.budget_is;
        legal = r.book_of.legal;
        alone = r.alone;
        swept = r.swept;
        reduced = r.reduced;
        values = r.values;
        circuit = net.b;
        sequence = r.sequence;
        equivalent = record { settled = r.settled; proof = proves Equivalent r.settled.finds };
      };
    }

-- ---- what is told

-- the session leaves the files of both circuits
pub leaves-proof : {A : Type 0} (s : State) → s.found ≡ Some Equivalent → (prefix : List ℕ) (old new : DeskState) (r : Result A StitchErr)
    → WritesFiles s prefix 0 old new r → LeavesAll (files_of prefix 0 s.net s.book.entries Equivalent) old new r
leaves-proof s found prefix old new r p =
    let Left : Finding → Type 0 = λ f. LeavesAll (files_of prefix 0 s.net s.book.entries f) old new r in
    subst (λ (o : Option Finding). IfSome o Left) found p

module _ (c : FraigCommand) (s : State) (book : Entries) (circuit : Aig) (circuit_is : circuit ≡ s.net.b) (old : DeskState) where
  abbrev made : Reduction
  made = reduction_in s book

  output-is : circuit_output c.reduced circuit ≡ circuit_output c.reduced s.net.b
  output-is = ap (circuit_output c.reduced) circuit_is

  -- the circuit isn't written whole
  pub not-written : (new : DeskState) (stop : Stop) → WritesCircuit c.reduced circuit old new (Err stop)
      → TellsStatus c made old new (Err stop)
  not-written new stop p = inl (subst (λ (o : Output). StopsIn o old new stop) output-is p)

  -- it is
  module _ (mid : DeskState) (written : mid ≡ after_file old (circuit_output c.reduced circuit)) where
    abbrev proofs : List Output
    proofs = outputs_of c.out 0 (both made)

    at : mid ≡ after_file old (circuit_output c.reduced s.net.b)
    at = written ∙ ap (after_file old) output-is

    -- the proof isn't
    pub not-proved : (new : DeskState) (stop : Stop) → WritesProof c.out s mid new (Err stop) → TellsStatus c made old new (Err stop)
    not-proved new stop p =
        inr (stops-among proofs (after_file old (circuit_output c.reduced s.net.b)) new stop
        (subst (λ (d : DeskState). StopsAmong proofs d new stop) at p) (reduced_text s.net))

    -- and it is, too
    module _ (behind : DeskState) (proved : behind ≡ after_files mid proofs) where
      end : behind ≡ after_files old (fraig_outputs c made)
      end = proved ∙ ap (λ (d : DeskState). after_files d proofs) at

      -- memory runs out for the text
      pub no-text : TellsStatus c made old behind (Err OutOfMemory)
      no-text = runs-out (fraig_outputs c made) old behind end (reduced_text s.net)

      -- which is said, or not whole
      pub text-said : (new : DeskState) (result : Result (Unit {0}) Stop) → Says (reduced_text s.net) behind new result
          → TellsReduction c made old new result
      text-said new result p = says-behind (fraig_outputs c made) (reduced_text s.net) old behind new result end p

-- ---- the command

-- the circuit isn't read
pub not-read : (c : FraigCommand) (old mid : DeskState) (kept : List Kept) (stop : Stop) → kept ≡ []
    → ((earlier : List (List ℕ)) → ReadsAs {A = Aig} SpellsAiger 0 (circuit_file c.a) earlier old mid (Err stop))
    → StopsFraig c old kept mid stop
not-read c old mid kept stop none p = inl (none, inl (p []))

-- it is
module _ (c : FraigCommand) (old mid : DeskState) (a : Aig)
    (read : (earlier : List (List ℕ)) → ReadsAs SpellsAiger 0 (circuit_file c.a) earlier old mid (Ok a)) where
  reads : ReadsCircuit c old a
  reads =
      let x = read [] in
      record { bytes = x.0.0; read = (x.0.1, x.0.2, tt); spells = x.0.3 }

  at-read : mid ≡ after_reads old (fraig_inputs c)
  at-read = (read []).1

  pub read-closed : IsClosed old → IsClosed mid
  read-closed none = ap (λ (s : DeskState). s.started) at-read ∙ none

  -- memory runs out behind that
  pub out-behind : (kept : List Kept) (stop : Stop) → kept ≡ [] → stop ≡ OutOfMemory → StopsFraig c old kept mid stop
  out-behind kept stop none out =
      inl (none, inl (subst (λ (t : Stop). StopsAt 0 (circuit_file c.a) [] old mid t) (sym out) (inr at-read)))

  -- it is reduced, and that is told whole or in part
  module _ (circuit : Aig) (book : Entries) (s : State) (made : Reduces (fraig_how c) a circuit book s) (new : DeskState) (kept : List Kept)
      (keeps : kept ≡ handed_back (reduction_in s book)) where
    reads-made : ReadsCircuit c old s.net.a
    reads-made = subst (ReadsCircuit c old) (sym made.a_is) reads

    tells : (result : Result (Unit {0}) Stop) → TellsReduction c (reduction_in s book) mid new result
        → TellsReduction c (reduction_in s book) (after_reads old (fraig_inputs c)) new result
    tells result p = subst (λ (d : DeskState). TellsReduction c (reduction_in s book) d new result) at-read p

    pub fraig-ok : (r : Result Status Stop) → TellsStatus c (reduction_in s book) mid new r
        → IfOk r (λ status. EndsFraig c old new status kept)
    fraig-ok (Ok status) p = record {
      made = reduction_in s book;
      reads = reads-made;
      is_right = made.is_right;
      tells = tells (Ok tt) p.0;
      status_is = p.1;
      keeps = keeps;
    }
    fraig-ok (Err stop) p = tt

    pub fraig-err : (r : Result Status Stop) → TellsStatus c (reduction_in s book) mid new r → IfErr r (StopsFraig c old kept new)
    fraig-err (Ok status) p = tt
    fraig-err (Err stop) p = inr (record {
      made = reduction_in s book;
      reads = reads-made;
      is_right = made.is_right;
      breaks = tells (Err stop) p;
      keeps = keeps;
    })

-- ---- no file is left started

pub fraig-closed : (c : FraigCommand) (old new : DeskState) (status : Status) (kept : List Kept) → AnswersFraig c old new status kept
    → code_of status < 6 → IsClosed old → IsClosed new
fraig-closed c old new status kept (inl p) below none =
    let before = after_reads old (fraig_inputs c) in
    ap (λ (s : DeskState). s.started) (left-whole (fraig_outputs c p.made) (reduced_text p.made.net) before new p.tells)
    ∙ after-files-closed (fraig_outputs c p.made) before (after-reads-closed (fraig_inputs c) old none)
fraig-closed c old new status kept (inr p) below none = ends-closed _ _ new status p causes below
  where
    causes : (mid : DeskState) (stop : Stop) → StopsFraig c old kept mid stop → IsOther stop → IsClosed mid
    causes mid stop (inl q) other = reads-closed 0 [] (fraig_inputs c) old mid stop q.1 other none
    causes mid stop (inr q) other = absurd (omega (
      arith,
      other,
      leaves-code (fraig_outputs c q.made) (reduced_text q.made.net) (after_reads old (fraig_inputs c)) mid stop q.breaks,
    ))
