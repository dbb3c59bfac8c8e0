-- The grammar of the command line, as `clap` reads it: the arguments of each command.
use Rattle.std.specs.Prelude.{◌++◌, true, List, [], ◌∷◌, fold, map, Some, codes}
use Rattle.std.specs.List.{flat_map}
use Rattle.clap.specs.Lexer.{usize_max}
use Rattle.clap.specs.Walk.{Rule, Text}
use Rattle.clap.specs.Simple.{App, Shape, new_app, new_rule, new_shape, on_top, with_subcommand}
use Rattle.clap.specs.declared.builder.action.ArgAction.TheVariants.{Append, Set, SetTrue}
use Rattle.command_line.specs.declared.commands.Argument.{Argument}
use Rattle.command_line.specs.declared.commands.Argument.TheVariants as argument
use Rattle.command_line.specs.declared.commands.Task.{Task}

-- a word that may be left out
abbrev pub maybe_word : Text → Rule
maybe_word id = record (new_rule id) { value_names = 1; action = Some Set }

-- an option with a value, which may be left out
abbrev pub maybe_option : Text → Rule
maybe_option id = record (maybe_word id) { long = Some id }

-- a word, and an option with a value, that must be given
abbrev pub word : Text → Rule
word id = record (maybe_word id) { required = true }

abbrev pub option : Text → Rule
option id = record (maybe_option id) { required = true }

-- an option that may be given several times
abbrev pub options : Text → Rule
options id = record (option id) { action = Some Append }

-- an option without a value
abbrev pub flag : Text → Rule
flag id = record (new_rule id) { long = Some id; action = Some SetTrue }

-- any number of words
abbrev pub words : Text → Rule
words id =
    record (new_rule id) { value_names = 1; range = Some (record { start_inclusive = 0; end_inclusive = usize_max }) }

abbrev pub rule_of_argument : Argument → Rule
rule_of_argument (argument.Positional id name help) = word id.now
rule_of_argument (argument.MaybeWord id name help) = maybe_word id.now
rule_of_argument (argument.Words id name help) = words id.now
rule_of_argument (argument.Option id name help) = option id.now
rule_of_argument (argument.Options id name help) = options id.now
rule_of_argument (argument.MaybeOption id name help) = maybe_option id.now
rule_of_argument (argument.Flag id help) = flag id.now

abbrev pub command : Text → List Rule → Shape
command name rules = record (new_shape name) { rules = rules }

abbrev pub shape_of_task : Task → Shape
shape_of_task task =
    command task.name.now (flat_map (λ group. map rule_of_argument group.now) task.arguments.now)

-- a command with more arguments
abbrev pub with_rules : App → List Rule → App
with_rules app rules = on_top (λ s. record s { rules = s.rules ++ rules }) app

-- the words and the options of each command
abbrev pub times : List Rule
times = option (codes "after") ∷ option (codes "until") ∷ option (codes "by") ∷ []

abbrev pub service_days : List Rule
service_days = option (codes "first") ∷ option (codes "days") ∷ option (codes "zone") ∷ []

abbrev pub image_shapes : List Shape
image_shapes =
    command (codes "verify") (word (codes "image") ∷ [])
    ∷ command (codes "info") (word (codes "image") ∷ flag (codes "json") ∷ [])
    ∷ command (codes "journey")
    (word (codes "image") ∷ word (codes "text") ∷ option (codes "from") ∷ option (codes "to")
    ∷ times)
    ∷ command (codes "profile")
    (word (codes "image") ∷ options (codes "from") ∷ options (codes "to")
    ∷ option (codes "after") ∷ option (codes "until") ∷ option (codes "by") ∷ option (codes "criterion")
    ∷ maybe_option (codes "picture") ∷ maybe_option (codes "rows") ∷ flag (codes "names") ∷ flag (codes "json")
    ∷ flag (codes "legs") ∷ flag (codes "no-warnings") ∷ [])
    ∷ []

abbrev pub stops_shapes : List Shape
stops_shapes =
    command (codes "departures")
    (word (codes "image") ∷ options (codes "to") ∷ option (codes "after") ∷ option (codes "until") ∷ option (codes "by")
    ∷ option (codes "criterion") ∷ maybe_option (codes "from") ∷ flag (codes "summary") ∷ flag (codes "json")
    ∷ flag (codes "no-journeys") ∷ flag (codes "no-warnings") ∷ [])
    ∷ command (codes "matrix")
    (word (codes "image") ∷ word (codes "out") ∷ option (codes "after") ∷ option (codes "until") ∷ option (codes "by")
    ∷ option (codes "criterion") ∷ option (codes "to") ∷ maybe_option (codes "from") ∷ flag (codes "each")
    ∷ maybe_option (codes "workers") ∷ flag (codes "progress") ∷ flag (codes "no-warnings") ∷ [])
    ∷ command (codes "stops") (word (codes "image") ∷ maybe_word (codes "text") ∷ flag (codes "json") ∷ [])
    ∷ []

abbrev pub other_shapes : List Shape
other_shapes =
    command (codes "tables") (word (codes "folder") ∷ flag (codes "all-faults") ∷ flag (codes "json") ∷ [])
    ∷ command (codes "days") (word (codes "folder") ∷ flag (codes "json") ∷ [])
    ∷ command (codes "stations") (word (codes "folder") ∷ maybe_word (codes "text") ∷ flag (codes "json") ∷ [])
    ∷ command (codes "build")
    (word (codes "folder") ∷ word (codes "out") ∷ option (codes "first") ∷ option (codes "days") ∷ option (codes "zone")
    ∷ flag (codes "strict") ∷ flag (codes "progress") ∷ flag (codes "all-faults") ∷ flag (codes "json")
    ∷ flag (codes "no-warnings") ∷ [])
    ∷ command (codes "upgrade") (word (codes "image") ∷ word (codes "out") ∷ [])
    ∷ command (codes "serve")
    (option (codes "image") ∷ option (codes "port") ∷ option (codes "workers") ∷ option (codes "sessions")
    ∷ flag (codes "legs") ∷ flag (codes "log") ∷ maybe_option (codes "idle") ∷ maybe_option (codes "longest")
    ∷ flag (codes "sets") ∷ words (codes "feeds") ∷ service_days)
    ∷ []

-- the program, without its commands
abbrev pub bare_app : App
bare_app = on_top (λ s. record s { has_version = true; subcommand_required = true }) (new_app (codes "csa"))

-- the program, as `clap` reads it
unfoldable pub csa_app : App
csa_app = fold with_subcommand (fold with_subcommand (fold with_subcommand bare_app image_shapes) stops_shapes) other_shapes
