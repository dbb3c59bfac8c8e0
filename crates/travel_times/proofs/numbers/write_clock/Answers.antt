use Rattle.std.proofs.Common.{◌/◌, ◌%◌, arith}
use Rattle.travel_times.proofs.Digits.{two_digits_short}
use Rattle.travel_times.proofs.numbers.write_clock.Goals as goal

pub write_two-seconds-requires-clause-room : goal.write_two-seconds-requires-clause-room
write_two-seconds-requires-clause-room c =
    let short = two_digits_short 2 (c.args.time % 60) (omega arith) (omega arith) (omega arith) in
    omega (arith, short, c.requires)

pub write_before_colon-minutes-requires-clause-room : goal.write_before_colon-minutes-requires-clause-room
write_before_colon-minutes-requires-clause-room c =
    let seconds = two_digits_short 2 (c.args.time % 60) (omega arith) (omega arith) (omega arith) in
    let minutes = two_digits_short 2 (c.args.time / 60 % 60) (omega arith) (omega arith) (omega arith) in
    let start = c.write_two-seconds.ensures.start in
    omega (arith, seconds, minutes, start, c.requires)

pub write_before_colon-requires-clause-room : goal.write_before_colon-requires-clause-room
write_before_colon-requires-clause-room c =
    let seconds = two_digits_short 2 (c.args.time % 60) (omega arith) (omega arith) (omega arith) in
    let minutes = two_digits_short 2 (c.args.time / 60 % 60) (omega arith) (omega arith) (omega arith) in
    let fits = c.ranges.time.fits in
    let hours = two_digits_short 7 (c.args.time / 3600) (omega arith) (omega (arith, fits)) (omega (arith, fits)) in
    let start = c.write_two-seconds.ensures.start in
    let before = c.write_before_colon-minutes.ensures.start in
    omega (arith, seconds, minutes, hours, start, before, c.requires)
