use Rattle.std.proofs.Common.{◌≡◌, ◌∙◌, ◌<◌, ℕ, Option, Some, List, length, refl, sym, subst, inl, inr, arith}
use Rattle.std.specs.Prelude.{slice_get, IsSome}
use Rattle.std.specs.Option.{option_map}
use Rattle.std.proofs.lemmas.Option.{slice_get-map, slice_get_cases}
use Rattle.netlist.specs.declared.gate.Fanins.{Fanins}
use Rattle.netlist.specs.Net.{all_fanins, definitions, fanins_of}
use Rattle.lits.proofs.Facts.{take_next}
use Rattle.netlist.proofs.pair.CircuitPair.fill_fanins.Goals as goal

-- within a list there is an element
some-within : {X Y : Type 0} (f : X → Y) (xs : List X) (i : ℕ) → i < length xs → IsSome (option_map f (slice_get xs i))
some-within f xs i lt = elim (slice_get_cases xs i).1 [ inl found ↦ rw found.2 refl | inr past ↦ absurd (omega (arith, past.0, lt)) ]

pub unwrap-requires : goal.unwrap-requires
unwrap-requires c =
    let net = c.args.self.now in
    subst (λ (o : Option Fanins). IsSome o) (sym c.fanins.ensures)
    (some-within (fanins_of net) (definitions net) c.loop-k.k (omega (arith, c.gates-k-end.ensures, c.loop-k-test.true)))

pub loop-k-preserved : goal.loop-k-preserved
loop-k-preserved c =
    let net = c.args.self.now in
    let found : c.fanins.result ≡ Some c.unwrap.result = cc c.unwrap.ensures in
    let there : slice_get (all_fanins net) c.loop-k.k ≡ Some c.unwrap.result = slice_get-map (fanins_of net) (definitions net) c.loop-k.k ∙ sym c.fanins.ensures ∙ found in
    let next = take_next (all_fanins net) c.loop-k.k c.unwrap.result there in (
      cc (c.push_reserved.ensures.items, c.loop-k.invariant.0, next),
      omega (arith, c.push_reserved.ensures.len, c.loop-k.invariant.1),
      c.push_reserved.ensures.capacity ∙ c.loop-k.invariant.2,
    )
