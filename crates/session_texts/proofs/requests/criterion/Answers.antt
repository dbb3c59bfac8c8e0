use Rattle.std.proofs.Common.{rules, ◌≡◌, Some, codes}
use Rattle.session_texts.specs.Requests.{text_at}
use Rattle.serde_json.specs.View.{view}
use Rattle.session_texts.proofs.AskLemmas.{criterion_at}
use Rattle.session_texts.proofs.requests.criterion.Goals as goal

pub returns : goal.returns
returns c =
    let stands : text_at (codes "criterion") (view c.args.value.now) ≡ Some c.in_ok-name.name.now = search rules in
    criterion_at c.in_ok-name.name.now (view c.args.value.now) c.of.result stands c.of.ensures
