-- The session of the circuits that the program makes.
use Rattle.std.proofs.Common.{◌≡◌, ℕ, inl, inr, false, List, None, Ok, Err, sym, subst}
use Rattle.std.specs.Prelude.{Result, IfOk, IfErr}
use Rattle.desk_port.specs.Desk.{DeskState}
use Rattle.endings.specs.declared.status.Status.{Status}
use Rattle.endings.specs.declared.stop.Stop.{Stop}
use Rattle.check_session.specs.Check.{State, opened}
use Rattle.netlist.specs.Circuit.{Aig}
use Rattle.netlist.specs.Net.{AigPair}
use Rattle.aiger_file.specs.File.{SpellsAiger}
use Rattle.workload_gen.specs.Workload.{first_bytes, second_bytes}
use Rattle.command_line.specs.Words.{SelfCommand}
use Rattle.cec_top.specs.declared.kept.Kept.{Kept}
use Rattle.cec_top.specs.SelfCheck.{AreWorkload, EndsSelf, StopsSelf, after_workload, only, own_how, own_opening}
use Rattle.cec_top.specs.Steps.{RunsPlan, Wanted, how_in, opening_in}

-- it is of the circuits that were read back
pub made-own : (c : SelfCommand) (x y : List ℕ) (a b : Aig) (net : AigPair) → x ≡ first_bytes c.kind c.n → y ≡ second_bytes c.kind c.n
    → SpellsAiger x a → SpellsAiger y b → net ≡ record { a = a; b = b } → AreWorkload c net
made-own c x y a b net x_is y_is a_is b_is is = subst (AreWorkload c) (sym is) (record {
  a = subst (λ (bytes : List ℕ). SpellsAiger bytes a) x_is a_is;
  b = subst (λ (bytes : List ℕ). SpellsAiger bytes b) y_is b_is;
})

-- what was said of one pair was said of the same
pub at-workload : (c : SelfCommand) (one net : AigPair) (old mid : DeskState) → one ≡ net → mid ≡ after_workload c one old
    → mid ≡ after_workload c net old
at-workload c one net old mid is at = subst (λ (n : AigPair). mid ≡ after_workload c n old) is at

-- what is wanted of its check: neither files nor a witness nor statistics nor progress
abbrev own_wanted : Wanted
own_wanted = record { out = None; witness = None; stats = false; progress = false }

-- the check of it, behind what was said of the circuits
module _ (c : SelfCommand) (s : State) (circuits : AreWorkload c s.net) (opens : s ≡ opened s.net own_how.options) (old mid new : DeskState)
    (at : mid ≡ after_workload c s.net old) (kept : List Kept) where
  behind : (r : Result Status Stop) → RunsPlan (how_in s own_wanted) (opening_in s) (only s.net) mid new kept r
      → RunsPlan own_how (own_opening s.net) (only s.net) (after_workload c s.net old) new kept r
  behind r p =
      subst (λ (t : State). RunsPlan (how_in t own_wanted) (opening_in t) (only s.net) (after_workload c s.net old) new kept r) opens
      (subst (λ (t : DeskState). RunsPlan (how_in s own_wanted) (opening_in s) (only s.net) t new kept r) at p)

  -- by what the check answers
  pub own-ok : (r : Result Status Stop) → RunsPlan (how_in s own_wanted) (opening_in s) (only s.net) mid new kept r
      → IfOk r (λ status. EndsSelf c old new status kept)
  own-ok (Ok status) p = record { net = s.net; circuits = circuits; ends = behind (Ok status) p }
  own-ok (Err stop) p = tt

  pub own-err : (r : Result Status Stop) → RunsPlan (how_in s own_wanted) (opening_in s) (only s.net) mid new kept r
      → IfErr r (StopsSelf c old kept new)
  own-err (Ok status) p = tt
  own-err (Err stop) p = inr (inl (record { net = s.net; circuits = circuits; stops = behind (Err stop) p }))
