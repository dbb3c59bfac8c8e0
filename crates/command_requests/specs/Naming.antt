-- The first service day by its word.
use Rattle.std.specs.Prelude.{◌≡◌, ℕ, List, Some, codes}
use Rattle.command_requests.specs.declared.plans.FirstDay.{FirstDay}
use Rattle.command_requests.specs.declared.plans.FirstDay.TheVariants.{On, Today, Yesterday}
use Rattle.gtfs_rows.specs.Values.{day_of}

-- the word means this day: a date, today, or yesterday
abbrev pub IsWordOf : List ℕ → FirstDay → Type 0
IsWordOf word (On day) = day_of word ≡ Some day
IsWordOf word Today = word ≡ codes "today"
IsWordOf word Yesterday = word ≡ codes "today-1"
