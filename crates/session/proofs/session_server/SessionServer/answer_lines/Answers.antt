use Rattle.std.proofs.Common.{◌≡◌, ◌≢◌, ◌∙◌, ◌<◌, ◌++◌, ℕ, List, [], length, refl, subst, sym, arith, inl}
use Rattle.std.proofs.lemmas.List.Elements.{All-nil}
use Rattle.reasoning.proofs.BoolLemmas.{where_true, where_false}
use Rattle.lines.specs.Cutting.{IsOneLine}
use Rattle.lines.specs.Streams.{AreReadWhile}
use Rattle.lines.proofs.GivenLemmas.{Gives-ended, Gives-nothing, Gives-rest, read_while}
use Rattle.session.proofs.LineLemmas.{AtLine-more, AtLine-start, is_answered}
use Rattle.session.proofs.LineLemmas.{cut_short_at_line, cut_short_at_rest, ends_at_end, ends_with_rest}
use Rattle.session.proofs.LineLemmas.{read_fails, too_many}
use Rattle.session.proofs.LearnLemmas.{goes_on, goes_on_same}
use Rattle.session.proofs.session_server.SessionServer.answer_lines.Goals as goal

pub loop-init : goal.loop-init
loop-init g c =
    record {
      seat = goes_on_same _ _ _ c.requires.fits;
      route = refl;
      at = AtLine-start _ _ c.new-lines.ensures;
    }

pub returns-in-Err-clause-session : goal.returns-in-Err-clause-session
returns-in-Err-clause-session g c =
    let e = c.in-Err.ensures in
    read_fails c.next.new.reader c.loop.invariant.at e.0 e.1 e.2.2 (omega (arith, c.loop-test.true, c.loop.auto.counter-end)) e.2.0

pub returns-in-Ok-Nothing-clause-session : goal.returns-in-Ok-Nothing-clause-session
returns-in-Ok-Nothing-clause-session g c =
    let e = c.in-Ok-Nothing.ensures in
    let nothing = Gives-nothing _ _ _ _ c.in-Ok-Nothing.field-0-is e.2.0 in
    ends_at_end c.next.new.reader c.loop.invariant.at e.0 e.1 _ e.2.1 (omega (arith, c.loop-test.true, c.loop.auto.counter-end)) nothing.0 nothing.2

pub returns-in-Err-answer_line-2-clause-session : goal.returns-in-Err-answer_line-2-clause-session
returns-in-Err-answer_line-2-clause-session g c =
    let e = c.in-Ok-Ended.ensures in
    let gives = Gives-ended _ _ _ _ c.in-Ok-Ended.field-0-is e.2.0 in
    let done = c.in-Err-answer_line-2.ensures.exchange gives.line (c.line-line-in-Ok-Ended.ensures gives.line gives.shown) in
    cut_short_at_line c.next.new.reader c.loop.invariant.at e.0 e.1 (is_answered c.loop.invariant.seat.number done.2 done.3 done.4.1) e.2.1
    done.4.0 refl (omega (arith, c.loop-test.true, c.loop.auto.counter-end)) gives done.1
    c.in-Err-answer_line-2.ensures.calls

pub loop-preserved : goal.loop-preserved
loop-preserved g c =
    let e = c.in-Ok-Ended.ensures in
    let gives = Gives-ended _ _ _ _ c.in-Ok-Ended.field-0-is e.2.0 in
    let done = c.in-Ok-answer_line.ensures.exchange gives.line (c.line-line-in-Ok-Ended.ensures gives.line gives.shown) in
    record {
      seat = goes_on _ _ _ _ _ c.loop.invariant.seat c.in-Ok-answer_line.ensures.seat;
      route = c.in-Ok-answer_line.ensures.route ∙ c.loop.invariant.route;
      at = AtLine-more c.next.new.reader c.loop.invariant.at e.0 e.1 (is_answered c.loop.invariant.seat.number done.2 done.3 done.4) e.2.1
          gives done.1 refl c.in-Ok-answer_line.ensures.calls;
    }

pub returns-in-Ok-clause-session : goal.returns-in-Ok-clause-session
returns-in-Ok-clause-session g c =
    let e = c.in-Ok-Rest.ensures in
    let gives = Gives-rest _ _ _ _ c.in-Ok-Rest.field-0-is e.2.0 in
    let done = c.in-Ok.ensures.exchange _ (c.line-line.ensures _ gives.shown) in
    ends_with_rest c.next.new.reader c.loop.invariant.at e.0 e.1 (is_answered c.loop.invariant.seat.number done.2 done.3 done.4) e.2.1
    _ (omega (arith, c.loop-test.true, c.loop.auto.counter-end)) gives done.1 refl
    c.in-Ok.ensures.calls

pub returns-in-Err-answer_line-clause-session : goal.returns-in-Err-answer_line-clause-session
returns-in-Err-answer_line-clause-session g c =
    let e = c.in-Ok-Rest.ensures in
    let gives = Gives-rest _ _ _ _ c.in-Ok-Rest.field-0-is e.2.0 in
    let done = c.in-Err-answer_line.ensures.exchange _ (c.line-line.ensures _ gives.shown) in
    cut_short_at_rest c.next.new.reader c.loop.invariant.at e.0 e.1 (is_answered c.loop.invariant.seat.number done.2 done.3 done.4.1) e.2.1
    done.4.0 refl (omega (arith, c.loop-test.true, c.loop.auto.counter-end)) gives done.1
    c.in-Err-answer_line.ensures.calls

-- where nothing is unread, a read is for a further line
read_for_line : (unread : List ℕ) (blocks : List (List ℕ)) → AreReadWhile (λ came. unread ++ came ≡ []) blocks
    → AreReadWhile (λ came. IsOneLine (unread ++ came)) blocks
read_for_line unread blocks needed =
    read_while (λ came. unread ++ came ≡ []) (λ came. IsOneLine (unread ++ came)) blocks
    (λ came none. subst IsOneLine (sym none) (All-nil (λ (x : ℕ). x ≢ 10))) needed

pub returns-in-Ok-true-clause-session : goal.returns-in-Ok-true-clause-session
returns-in-Ok-true-clause-session g c =
    let e = c.in-Ok-true.ensures in
    too_many c.has_byte.new.reader c.loop.invariant.at e.0 (read_for_line _ _ e.1) e.3.1 (omega (arith, c.loop-test.false, c.loop.auto.counter-end))
    (subst (λ xs. 0 < length xs) e.2 (where_true _ _ _ c.in-Ok-true.field-0-test e.3.0))

pub returns-in-Ok-false-clause-session : goal.returns-in-Ok-false-clause-session
returns-in-Ok-false-clause-session g c =
    let e = c.in-Ok-false.ensures in
    let none = where_false _ _ _ c.in-Ok-false.field-0-test e.3.0 in
    ends_at_end c.has_byte.new.reader c.loop.invariant.at e.0 (read_for_line _ _ e.1) _ e.3.1 (omega (arith, c.loop-test.false, c.loop.auto.counter-end))
    (sym e.2 ∙ none.0) none.1

pub returns-clause-session : goal.returns-clause-session
returns-clause-session g c =
    let e = c.in-Err-has_byte.ensures in
    read_fails c.has_byte.new.reader c.loop.invariant.at e.0 (read_for_line _ _ e.1) (inl e.3.1) (omega (arith, c.loop-test.false, c.loop.auto.counter-end))
    (subst IsOneLine (sym e.3.0 ∙ e.2) (All-nil (λ (x : ℕ). x ≢ 10)))

pub returns-in-Err-answer_line-2-clause-seat : goal.returns-in-Err-answer_line-2-clause-seat
returns-in-Err-answer_line-2-clause-seat g c = goes_on _ _ _ _ _ c.loop.invariant.seat c.in-Err-answer_line-2.ensures.seat

pub returns-in-Ok-clause-seat : goal.returns-in-Ok-clause-seat
returns-in-Ok-clause-seat g c = goes_on _ _ _ _ _ c.loop.invariant.seat c.in-Ok.ensures.seat

pub returns-in-Err-answer_line-clause-seat : goal.returns-in-Err-answer_line-clause-seat
returns-in-Err-answer_line-clause-seat g c = goes_on _ _ _ _ _ c.loop.invariant.seat c.in-Err-answer_line.ensures.seat
