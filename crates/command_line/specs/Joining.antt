-- Stop_ids that begin with a hyphen: `--from -1` is `--from=-1`.
use Rattle.std.specs.Prelude.{◌++◌, ◌==◌, ◌&&◌, ◌||◌, if◌then◌else◌, Bool, false, List, [], ◌∷◌, codes, slice_get, unwrap_or}
use Rattle.std.specs.Str.{bytes_eq}
use Rattle.clap.specs.Walk.{Text}

-- commands that ask a question between stops
abbrev pub is_question : Text → Bool
is_question command = bytes_eq command (codes "journey") || bytes_eq command (codes "profile")

-- an option of the command whose value is a stop_id
abbrev pub is_stop_option : Text → Text → Bool
is_stop_option command word = (is_question command && bytes_eq word (codes "--from"))
    || ((is_question command || bytes_eq command (codes "departures")) && bytes_eq word (codes "--to"))

-- a hyphen (45) is first
abbrev pub is_hyphenated : Text → Bool
is_hyphenated [] = false
is_hyphenated (x ∷ xs) = x == 45

-- the word is the stop_id of the option before it, and begins with a hyphen
abbrev pub is_stop_id : Text → Text → Text → Bool
is_stop_id command last word = is_stop_option command last && is_hyphenated word

-- the last word, and those behind it: such a stop_id stands behind an equals sign (61) of its option; no word behind `--` is an option
unfoldable pub joined_from : Text → Text → List Text → List Text
joined_from command last [] = last ∷ []
joined_from command last (word ∷ rest) = if is_stop_id command last word then joined_from command (last ++ 61 ∷ word) rest
    else last ∷ joined_from (if bytes_eq word (codes "--") then [] else command) word rest

-- the same, behind words that are done
abbrev pub line_of : List Text → Text → Text → List Text → List Text
line_of done command last rest = done ++ joined_from command last rest

-- the words of a command line, of which the first is the program's name and the second may be a command
unfoldable pub joined : List Text → List Text
joined [] = []
joined (program ∷ rest) = joined_from (unwrap_or (slice_get rest 0) []) program rest
