-- What one word of a command line spells.
use Rattle.std.specs.Prelude.{◌≡◌, ◌<◌, ◌++◌, ◌⊎◌, ◌==◌, ℕ, ℤ, List, pos, neg_ℤ, length, codes}
use Rattle.std.specs.List.{after_first, before_first}
use Rattle.std.specs.Str.Parse.{IsNumeral, digits_value}
use Rattle.jiff_core.specs.Calendar.{IsWithin}
use Rattle.command_requests.specs.declared.plans.ZoneText.{ZoneText}
use Rattle.command_requests.specs.declared.plans.ZoneText.TheVariants.{File, Fixed, Posix}
use Rattle.command_requests.specs.declared.requests.NamedFolder.{NamedFolder}

-- decimal digits, and nothing else, that spell this number
abbrev pub SpellsNumber : List ℕ → ℕ → Type 0
SpellsNumber text number = IsNumeral 10 text × (digits_value 10 text ≡ number)

-- the same with a hyphen before the digits, for a number below 0
abbrev pub SpellsSigned : List ℕ → ℤ → Type 0
SpellsSigned text number = ((digits : List ℕ) × (text ≡ codes "-" ++ digits) × IsNumeral 10 digits
    × (number ≡ neg_ℤ (pos (digits_value 10 digits))))
    ⊎ (IsNumeral 10 text × (number ≡ pos (digits_value 10 text)))

abbrev pub SpellsZone : List ℕ → ZoneText → Type 0
SpellsZone text (Fixed ahead) =
    (seconds : List ℕ) × (text ≡ codes "fixed:" ++ seconds) × SpellsSigned seconds ahead.seconds
    × IsWithin 86_399 ahead.seconds
SpellsZone text (Posix rule) = text ≡ codes "posix:" ++ rule.now
SpellsZone text (File path) = text ≡ codes "file:" ++ path.now

-- a name, `=` (61) and a folder, neither of them empty; the first `=` counts
abbrev pub SpellsFolder : List ℕ → NamedFolder → Type 0
SpellsFolder text feed = (feed.name.now ≡ before_first (λ b. b == 61) text)
    × (feed.folder.now ≡ after_first (λ b. b == 61) text) × (0 < length feed.name.now) × (0 < length feed.folder.now)
