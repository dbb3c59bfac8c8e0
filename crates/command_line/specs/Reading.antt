-- What a whole command line asks for.
use Rattle.std.specs.Prelude.{◌≡◌, ◌⊎◌, List, [], ◌∷◌, Result, Ok, Err, IsSomeAnd, codes, slice_get}
use Rattle.clap.specs.Faults.{fault_of}
use Rattle.clap.specs.Kinds.{IsAmong}
use Rattle.clap.specs.Simple.{subcommand_of}
use Rattle.clap.specs.Walk.{Text}
use Rattle.clap.specs.declared.error.kind.ErrorKind.{ErrorKind}
use Rattle.clap.specs.declared.error.kind.ErrorKind.TheVariants.{DisplayHelp, DisplayVersion}
use Rattle.command_requests.specs.declared.requests.CommandRequest.{CommandRequest}
use Rattle.command_line.specs.Grammar.{csa_app}
use Rattle.command_line.specs.Joining.{joined}
use Rattle.command_line.specs.Requests.{IsRequest}
use Rattle.command_line.specs.declared.reading.NoCommand.{NoCommand}
use Rattle.command_line.specs.declared.reading.NoCommand.TheVariants.{Help, Mistake, OutOfMemory}

-- the program takes the words, and the request is that of the command which they name and of the values that they give
abbrev pub Names : List Text → CommandRequest → Type 0
Names words request = (fault_of csa_app words ≡ [])
    × IsSomeAnd (subcommand_of csa_app words) (λ command. IsRequest command.0 command.1 request)

-- an error of this kind is a text that was asked for
abbrev pub IsShown : ErrorKind → Type 0
IsShown kind = (kind ≡ DisplayHelp) ⊎ (kind ≡ DisplayVersion)

-- the command is `help`
abbrev pub AsksTopic : List Text → Type 0
AsksTopic words = IsSomeAnd (slice_get words 1) (λ word. word ≡ codes "help")

-- what clap finds first is that the words ask for help, or for the version
abbrev pub AsksForHelp : List Text → Type 0
AsksForHelp words = IsAmong DisplayHelp (fault_of csa_app words) ⊎ IsAmong DisplayVersion (fault_of csa_app words)

-- clap finds nothing but that the words ask for help, or for the version
abbrev pub AsksOnlyForHelp : List Text → Type 0
AsksOnlyForHelp words = (kind : ErrorKind) × IsShown kind × (fault_of csa_app words ≡ kind ∷ [])

-- what is read of a line of words: the request that they name; help, if they ask for it; a message, if they name no request and don't only ask for help;
-- or memory ran out
abbrev pub IsLineRead : List Text → Result CommandRequest NoCommand → Type 0
IsLineRead line (Ok request) = Names line request
IsLineRead line (Err (Help text)) = AsksForHelp line
IsLineRead line (Err (Mistake text)) = ((request : CommandRequest) → ¬ (Names line request)) × (¬ (AsksOnlyForHelp line))
IsLineRead line (Err OutOfMemory) = Unit {0}

-- what is read of the words of a command line
abbrev pub IsRead : List Text → Result CommandRequest NoCommand → Type 0
IsRead words = IsLineRead (joined words)
