use Rattle.std.proofs.Common.{arith}
use Rattle.session_texts.proofs.NameLemmas.{no_text_at, one_more_read, pushed_text, text_among, text_is_new, text_twice_at}
use Rattle.session_texts.proofs.names.distinct_texts.Goals as goal

pub returns-in_default : goal.returns-in_default
returns-in_default c = λ texts are once.
    no_text_at c.args.values.now c.loop-value.value-index c.value-item.result texts (omega arith) c.value-item.is c.in_default.ensures are

pub returns-then-contains : goal.returns-then-contains
returns-then-contains c = λ texts are once.
    text_twice_at c.args.values.now c.loop-value.value-index c.value-item.result c.in-Some.text.now _ texts (omega arith) c.value-item.is
    c.in-Some.ensures c.loop-value.invariant.read
    (text_among c.loop-value.texts.items c.deref.result.now c.in-Some.text c.deref.ensures.value c.if-contains.ensures.cases) are once

pub loop-value-preserved : goal.loop-value-preserved
loop-value-preserved c =
    one_more_read c.args.values.now c.loop-value.value-index c.value-item.result c.in-Some.text.now _ _ (omega arith) c.value-item.is
    c.in-Some.ensures c.loop-value.invariant
    (text_is_new c.loop-value.texts.items c.deref.result.now c.in-Some.text c.deref.ensures.value c.if-contains.ensures.cases)
    (pushed_text c.loop-value.texts.items _ c.in-Some.text c.in_ok-push.ensures.items)
