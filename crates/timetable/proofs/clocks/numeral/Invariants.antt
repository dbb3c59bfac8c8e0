use Rattle.std.proofs.Common.{◌≡◌, ◌<◌, ◌^◌, drop}
use Rattle.std.specs.Str.Parse.{AllDigits, digits_value, digits_value_after}
use Rattle.timetable.proofs.clocks.numeral.Given as goal

abbrev pub invariant-loop-byte : goal.invariant-loop-byte
invariant-loop-byte l = record {
  value : digits_value_after 10 l.number (drop l.byte-index l.digits) ≡ digits_value 10 l.digits;
  ahead : AllDigits 10 l.digits → AllDigits 10 (drop l.byte-index l.digits);
  behind : AllDigits 10 (drop l.byte-index l.digits) → AllDigits 10 l.digits;
  small : l.number < 10 ^ l.byte-index;
}
