use Rattle.std.proofs.Common.{◌≡◌, ◌<◌, ◌^◌, drop}
use Rattle.journeys.specs.Reading.{read_on}
use Rattle.journeys.proofs.reading.value.Given as goal

abbrev pub invariant-loop-digit : goal.invariant-loop-digit
invariant-loop-digit l = record {
  fits : l.value < 2 ^ 32;
  so_far : read_on l.value (drop l.digit-index l.digits) ≡ read_on 0 l.digits;
}
