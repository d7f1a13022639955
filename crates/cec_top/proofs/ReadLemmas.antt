-- How the pair is read, from how each circuit is.
use Rattle.std.proofs.Common.{◌≡◌, ℕ, inl, inr, List, [], ◌∷◌, Option, Some, None, Ok, Err, refl, sym, ap, ◌∙◌, subst}
use Rattle.std.specs.Prelude.{◌⊎◌, ◌≢◌, IfSome, IfNone, Result}
use Rattle.desk_port.specs.Desk.{DeskState}
use Rattle.netlist.specs.Circuit.{Aig}
use Rattle.netlist.specs.Net.{AigPair}
use Rattle.netlist.specs.Pairing.{IsMatched, matched_to, paired, unlike_in}
use Rattle.netlist.specs.declared.unlike.Unlike.{Unlike}
use Rattle.netlist.specs.declared.unlike.Unlike.TheVariants as unlike
use Rattle.aiger_file.specs.File.{SpellsAiger}
use Rattle.endings.specs.declared.stop.Stop.{Stop}
use Rattle.endings.specs.declared.stop.Stop.TheVariants.{OutOfMemory}
use Rattle.endings.specs.Reading.{ReadsAs, StopsAt, FileIs, after_reads}
use Rattle.command_line.specs.Words.{CheckCommand}
use Rattle.check_session.specs.Check.{State, opened}
use Rattle.check_session.specs.declared.options.Options.{Options}
use Rattle.cec_top.specs.Answers.{ReadsCircuits, pair_of}
use Rattle.cec_top.specs.Inputs.{circuit_file}
use Rattle.cec_top.specs.Steps.{ReadsPair, StopsUnlike}

abbrev pub err_is : Unlike → Unlike → Type 0
err_is e u = let r : Result State Unlike = Err e in r ≡ Err u

abbrev cause_or : Unlike → Result State Unlike → Unlike
cause_or d (Ok s) = d
cause_or d (Err e) = e

err-equal : (e u : Unlike) → err_is e u → e ≡ u
err-equal e u same = ap (cause_or e) same

-- a cause that isn't memory is the one that the circuits have
pub cause-is : (o : Option Unlike) (e : Unlike) → IfSome o (λ u. err_is e u ⊎ err_is e unlike.NoMemory)
    → IfNone o (e ≡ unlike.NoMemory) → e ≢ unlike.NoMemory → o ≡ Some e
cause-is None e some none cause = absurd (cause none)
cause-is (Some u) e (inl told) none cause = ap Some (sym (err-equal e u told))
cause-is (Some u) e (inr memory) none cause = absurd (cause (err-equal e unlike.NoMemory memory))

module _ (c : CheckCommand) (old : DeskState) where
  -- the first file ends the check
  pub stops-a : (mid : DeskState) (stop : Stop)
      → ((earlier : List (List ℕ)) → ReadsAs {A = Aig} SpellsAiger 0 (circuit_file c.a) earlier old mid (Err stop))
      → ReadsPair c old mid (Err stop)
  stops-a mid stop p = inl (inl (p []))

  module _ (a : Aig) (mid : DeskState) (read_a : (earlier : List (List ℕ)) → ReadsAs SpellsAiger 0 (circuit_file c.a) earlier old mid (Ok a)) where
    -- and the second one does
    pub stops-b : (new : DeskState) (stop : Stop)
        → ((earlier : List (List ℕ)) → ReadsAs {A = Aig} SpellsAiger 1 (circuit_file c.b) earlier mid new (Err stop))
        → ReadsPair c old new (Err stop)
    stops-b new stop p =
        let at = read_a [] in
        inl (inr (at.0.0, at.0.1, at.0.2, inl (subst (λ (s : DeskState). StopsAt 1 (circuit_file c.b) (at.0.0 ∷ []) s new stop) at.1 (p (at.0.0 ∷ [])))))

    module _ (b : Aig) (new : DeskState) (read_b : (earlier : List (List ℕ)) → ReadsAs SpellsAiger 1 (circuit_file c.b) earlier mid new (Ok b)) where
      here : ReadsCircuits c old a b
      here =
          let x = read_a [] in
          let y = read_b (x.0.0 ∷ []) in
          let file : FileIs old c.b y.0.0 = subst (λ (s : DeskState). FileIs s c.b y.0.0) x.1 y.0.1 in
          record {
            a = x.0.0;
            b = y.0.0;
            read = (x.0.1, x.0.2, (file, y.0.2, tt));
            spells_a = x.0.3;
            spells_b = y.0.3;
          }

      at-end : new ≡ after_reads old (pair_of c)
      at-end =
          let x = read_a [] in
          let y = read_b [] in
          y.1 ∙ ap (λ (s : DeskState). after_reads s (circuit_file c.b ∷ [])) x.1

      pub reads-both : (net : AigPair) → net ≡ paired c.by_name a b → unlike_in c.by_name a b ≡ None
          → IsMatched c.by_name a b (matched_to c.by_name a b) → ReadsPair c old new (Ok net)
      reads-both net is alike matched = subst (λ (n : AigPair). ReadsPair c old new (Ok n)) (sym is) (
        record { second = b; reads = here; alike = alike; net_is = refl; matched = matched },
        at-end,
      )

      -- memory runs out behind both files
      pub runs-out : ReadsPair c old new (Err OutOfMemory)
      runs-out =
          let x = read_a [] in
          let y = read_b (x.0.0 ∷ []) in
          inl (inr (x.0.0, x.0.1, x.0.2, inl (inr at-end)))

      pub unlike-pair : (u : Unlike) (stop : Stop) → StopsUnlike u stop
          → IfSome (unlike_in c.by_name a b) (λ v. err_is u v ⊎ err_is u unlike.NoMemory)
          → IfNone (unlike_in c.by_name a b) (u ≡ unlike.NoMemory) → ReadsPair c old new (Err stop)
      unlike-pair u stop (inl out) some none = subst (λ (s : Stop). ReadsPair c old new (Err s)) (sym out) runs-out
      unlike-pair u stop (inr is) some none = inr (record {
        first = a;
        second = b;
        reads = here;
        unlike = u;
        differ = cause-is (unlike_in c.by_name a b) u some none is.0;
        stop_is = is.1;
        new_is = at-end;
      })

abbrev pub ok_is : State → Unlike → Type 0
ok_is s u = let r : Result State Unlike = Ok s in r ≡ Err u

-- two circuits that are paired can be compared
pub pair-there : (o : Option Unlike) (s t : State) → IfSome o (λ u. ok_is s u ⊎ ok_is s unlike.NoMemory) → IfNone o (s ≡ t) → (o ≡ None) × (s ≡ t)
pair-there None s t some none = (refl, none)
pair-there (Some u) s t (inl told) none = cc
pair-there (Some u) s t (inr memory) none = cc

-- a session that was just opened with a pair is one of its own
pub opened-by : (s : State) (net : AigPair) (o p : Options) → s ≡ opened net o → o ≡ p → s ≡ opened s.net p
opened-by s net o p is same =
    is ∙ ap (opened net) same ∙ ap (λ (n : AigPair). opened n p) (sym (ap (λ (t : State). t.net) is))
