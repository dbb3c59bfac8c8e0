use Rattle.std.proofs.Common.{◌≡◌, ◌∙◌, ◌⊎◌, List, Option, [], ap, map, subst, sym, ⊎_elim}
use Rattle.std.specs.Prelude.{IsSomeAnd, string_bytes}
use Rattle.clap.specs.Words.{App, Row, Text, app_of, fault_of, is_simple, is_simple_and_free, kind_of, subcommand_of}
use Rattle.clap.specs.Kinds.{IsAmong, Kinds}
use Rattle.clap.specs.declared.error.kind.ErrorKind.TheVariants.{OutOfMemory}
use Rattle.command_line.specs.Grammar.{csa_app}
use Rattle.command_line.specs.Requests.{IsMistake, IsRequest}
use Rattle.command_line.proofs.Entered.{csa_is_free, csa_is_simple, finds_by, only_shown, read_fault, read_request, shown_is_help}
use Rattle.command_line.proofs.Entered.{topic_is_help}
use Rattle.command_line.proofs.reading.read_line.Goals as goal

pub returns-in-Ok-try_get_matches_from : goal.returns-in-Ok-try_get_matches_from
returns-in-Ok-try_get_matches_from c =
    let words : List Text = map string_bytes c.args.words.now in
    let app_is : app_of c.in-Ok.command ≡ csa_app = c.in-Ok.ensures in
    let parsed = c.in-Ok-try_get_matches_from.ensures in
    let taken = parsed.kinds (ap is_simple_and_free app_is ∙ csa_is_free) in
    let found = parsed.matches (ap is_simple app_is ∙ csa_is_simple) in
    let taken_is : fault_of csa_app words ≡ [] = ap (λ (app : App). fault_of app words) (sym app_is) ∙ taken in
    let entered = found.1 ∙ ap (λ (app : App). subcommand_of app words) app_is in
    read_request words c.request_in.result taken_is (finds_by c.request_in.result _ _
    (λ request is. (
      taken_is,
      subst (λ (command : Option (Text × List Row)). IsSomeAnd command (λ x. IsRequest x.0 x.1 request)) entered is,
    ))
    (λ request is. subst (λ (command : Option (Text × List Row)). IsSomeAnd command (λ x. IsRequest x.0 x.1 request)) (sym entered) is.1)
    c.request_in.ensures)

pub returns-in-Err : goal.returns-in-Err
returns-in-Err c =
    let words : List Text = map string_bytes c.args.words.now in
    let app_is : app_of c.in-Ok.command ≡ csa_app = c.in-Ok.ensures in
    let kinds : (kind_of c.in-Err.error ≡ OutOfMemory) ⊎ IsAmong (kind_of c.in-Err.error) (fault_of csa_app words) =
    subst (λ (app : App). (kind_of c.in-Err.error ≡ OutOfMemory) ⊎ IsAmong (kind_of c.in-Err.error) (fault_of app words)) app_is
    (c.in-Err.ensures.kinds (ap is_simple_and_free app_is ∙ csa_is_free)) in
    read_fault words c.unread.result
    (λ memory request named. ⊎_elim (λ spent. memory (c.unread.ensures.memory spent))
    (λ among. subst (λ (faults : Kinds). IsAmong (kind_of c.in-Err.error) faults) named.0 among) kinds)
    (λ help. ⊎_elim (λ shown. shown_is_help words (kind_of c.in-Err.error) shown kinds) (topic_is_help words) (c.unread.ensures.help help))
    (λ only mistake. ⊎_elim (λ spent. subst IsMistake (c.unread.ensures.memory spent) mistake)
    (λ among. c.unread.ensures.shown (only_shown words (kind_of c.in-Err.error) among only) mistake) kinds)
