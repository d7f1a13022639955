use Rattle.std.proofs.Common.{take, subst, Bor, ◌≡◌, ℕ, length, List, None, Some, ◌+◌, ◌<◌, true, false, sym, ap, ◌∙◌, inl, arith}
use Rattle.std.specs.Option.{option_map, option_copied, is_some}
use Rattle.std.specs.BTreeMap.{BTreeMap}
use Rattle.symbol_names.specs.NameList.{name_at}
use Rattle.netlist.specs.declared.unlike.Unlike.TheVariants.{Doubled}
use Rattle.netlist.specs.ByName.{is_doubled}
use Rattle.netlist.specs.NameIndex.{IsIndex}
use Rattle.netlist.proofs.LeastLemmas.{least-next, least-here}
use Rattle.netlist.proofs.IndexLemmas.{found-at, doubled-found, doubled-unnamed, index-unnamed, index-next}
use Rattle.netlist.proofs.name_index.NameIndex.of.Goals as goal
use Rattle.netlist.proofs.name_index.NameIndex.of.Goals.{in-Some+in-Ok-None, in_default}

pub returns-in-Ok-Some : goal.returns-in-Ok-Some
returns-in-Ok-Some c =
    let names = c.args.names.now in
    let name : name_at names c.loop-k.k ≡ Some c.in-Some.name.now = sym c.get.ensures ∙ ap option_copied c.in-Some.is in
    let found : is_doubled names c.loop-k.k ≡ true = doubled-found c.loop-k.places names c.loop-k.k c.in-Some.name.now name c.loop-k.invariant.0 ∙ ap is_some (sym (found-at c.loop-k.places c.number.result c.in-Some.name.now c.number.ensures) ∙ sym c.in-Ok-Some.ensures.old ∙ c.in-Ok-Some.field-0-is) in
    let below : c.loop-k.k < length names = omega (arith, c.requires, c.loop-k-test.true) in
    inl (ap (option_map (λ (k : ℕ). Doubled c.args.side c.args.port k)) (least-here (is_doubled names) c.loop-k.k (length names) below c.loop-k.invariant.1 found))

pub loop-k-preserved : goal.loop-k-preserved
loop-k-preserved c =
    let names = c.args.names.now in
    let below : c.loop-k.k < length names = omega (arith, c.requires, c.loop-k-test.true) in
    elim c.match-get.branch [
      | in-Some+in-Ok-None w ↦
          let name : name_at names c.loop-k.k ≡ Some w.in-Some.name.now = sym c.get.ensures ∙ ap option_copied w.in-Some.is in
          let found : is_doubled names c.loop-k.k ≡ false =
          doubled-found c.loop-k.places names c.loop-k.k w.in-Some.name.now name c.loop-k.invariant.0 ∙ ap is_some (sym (found-at c.loop-k.places w.number.result w.in-Some.name.now w.number.ensures) ∙ sym w.in-Ok-None.ensures.old ∙ w.in-Ok-None.field-0-is) in
          (subst (λ (p : BTreeMap (ℕ × Bor (List ℕ)) ℕ). IsIndex p (take (c.loop-k.k + 1) names)) (sym w.places-is) (index-next names c.loop-k.k below c.loop-k.places w.insert.new.self w.number.result w.in-Some.name.now w.number.ensures name (sym w.in-Ok-None.ensures.old ∙ w.in-Ok-None.field-0-is) w.in-Ok-None.ensures.updates c.loop-k.invariant.0), least-next (is_doubled names) c.loop-k.k c.loop-k.invariant.1 found)
      | in_default w ↦
          let none : name_at names c.loop-k.k ≡ None = sym c.get.ensures ∙ ap option_copied w.in_default.is in (
            subst (λ (p : BTreeMap (ℕ × Bor (List ℕ)) ℕ). IsIndex p (take (c.loop-k.k + 1) names)) (sym w.places-is) (index-unnamed names c.loop-k.k below c.loop-k.places none c.loop-k.invariant.0),
            least-next (is_doubled names) c.loop-k.k c.loop-k.invariant.1 (doubled-unnamed names c.loop-k.k none),
          )
    ]
