use Rattle.std.proofs.Common.{◌≡◌, ◌+◌, ◌<◌, List, [], ap, arith, get_or, length, map, refl, subst, sym, take}
use Rattle.std.specs.Prelude.{unwrap_or}
use Rattle.std.specs.List.{AllZip, Any}
use Rattle.std.proofs.lemmas.Bool.{true≢false}
use Rattle.std.proofs.lemmas.Grind.{common_steps}
use Rattle.std.proofs.lemmas.List.{get_or-map}
use Rattle.clap.specs.Words.{Text}
use Rattle.command_requests.specs.declared.requests.NamedFolder.{NamedFolder}
use Rattle.command_line.specs.Requests.{AreDistinct}
use Rattle.command_line.specs.Values.{SpellsFolder}
use Rattle.command_line.proofs.Feeds.{feed_at, feed_more, named_twice, names, names_more}
use Rattle.command_line.proofs.requests.feeds_at.Goals as goal

pub returns-in_default-named_folder : goal.returns-in_default-named_folder
returns-in_default-named_folder c = (
  c.wrong_feed.ensures,
  λ _ feeds has.
      let words : List Text = map (λ word. word.now) c.in-Some.words.now in
      let inside : c.loop-word.word-index < length words = grind (arith, common_steps) in
      let given = feed_at words feeds c.loop-word.word-index
      (subst (λ (values : List Text). AllZip SpellsFolder values feeds) (ap (λ o. unwrap_or o []) (sym c.in-Some.ensures)) has.0) inside in
      c.in_default-named_folder.ensures given.0
      (subst (λ (word : Text). SpellsFolder word given.0) (get_or-map (λ word. word.now) c.in-Some.words.now c.loop-word.word-index _ [] c.loop-word-test.true)
      given.1),
)

pub returns-then-has_name : goal.returns-then-has_name
returns-then-has_name c = (
  c.feed_named_twice.ensures,
  λ _ feeds has.
      let words : List Text = map (λ word. word.now) c.in-Some.words.now in
      let inside : c.loop-word.word-index < length words = grind (arith, common_steps) in
      let feed : NamedFolder = c.in-Some-named_folder.feed in
      let spelled : SpellsFolder (get_or words c.loop-word.word-index []) feed = subst (λ (word : Text). SpellsFolder word feed)
      (sym (get_or-map (λ word. word.now) c.in-Some.words.now c.loop-word.word-index _ [] c.loop-word-test.true)) c.in-Some-named_folder.ensures in
      let named : Any (λ f. f.name.now ≡ feed.name.now) c.loop-word.feeds.items = rw (← c.deref.ensures.value) (c.if-has_name.ensures.0 refl) in
      named_twice words c.loop-word.word-index inside c.loop-word.feeds.items c.loop-word.invariant.spelled feed spelled named feeds
      (subst (λ (values : List Text). AllZip SpellsFolder values feeds) (ap (λ o. unwrap_or o []) (sym c.in-Some.ensures)) has.0) has.1,
)

pub loop-word-preserved : goal.loop-word-preserved
loop-word-preserved c =
    let words : List Text = map (λ word. word.now) c.in-Some.words.now in
    let inside : c.loop-word.word-index < length words = grind (arith, common_steps) in
    let feed : NamedFolder = c.in-Some-named_folder.feed in
    let spelled : SpellsFolder (get_or words c.loop-word.word-index []) feed = subst (λ (word : Text). SpellsFolder word feed)
    (sym (get_or-map (λ word. word.now) c.in-Some.words.now c.loop-word.word-index _ [] c.loop-word-test.true)) c.in-Some-named_folder.ensures in
    let new : ¬ (Any (λ f. f.name.now ≡ feed.name.now) c.loop-word.feeds.items) =
    rw (← c.deref.ensures.value) (λ named. true≢false (sym (c.if-has_name.ensures.1 named))) in
    record {
      spelled = subst (λ (feeds : List NamedFolder). AllZip SpellsFolder (take (c.loop-word.word-index + 1) words) feeds) (sym c.in-Ok.ensures.items)
          (feed_more words c.loop-word.word-index inside c.loop-word.feeds.items c.loop-word.invariant.spelled feed spelled);
      apart = subst (λ (feeds : List NamedFolder). AreDistinct (names feeds)) (sym c.in-Ok.ensures.items)
          (names_more c.loop-word.feeds.items feed c.loop-word.invariant.apart new);
    }
