use Rattle.std.proofs.Common.{ℕ, ◌≤◌, Contains, map, take}
use Rattle.departure_lines.specs.Lines.{travel}
use Rattle.departure_lines.proofs.stop_words.least_travel.Given as goal

abbrev pub invariant-loop-point : goal.invariant-loop-point
invariant-loop-point g l = record {
  reached : Contains (map (travel g.C.ShowsFigures.figures) l.points) l.least;
  none_less : (n : ℕ) → Contains (map (travel g.C.ShowsFigures.figures) (take l.point-index l.points)) n → l.least ≤ n;
}
