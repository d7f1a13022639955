use Rattle.std.proofs.Common.{◌≡◌, ◌∷◌, map, take}
use Rattle.std.specs.List.{All}
use Rattle.flat_base.specs.Codes.{lit_at, IsCode}
use Rattle.solver_watch.specs.Marked.{negations_at}
use Rattle.solver_watch.proofs.learn.write_codes.Given as goal

abbrev pub invariant-loop-place : goal.invariant-loop-place
invariant-loop-place l = record {
  codes : map (lit_at l.trail.nodes) l.codes.items ≡ negations_at l.trail.puts (l.point ∷ take l.place-index l.below);
  within : All (IsCode l.trail.nodes) l.codes.items;
}
