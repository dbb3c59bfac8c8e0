use Rattle.std.proofs.Common.{◌≡◌, sym, subst, ◌∙◌, append_assoc, append-nil, string_bytes}
use Rattle.std.specs.Prelude.{OnOk}
use Rattle.std.proofs.lemmas.Str.{IsUtf8-past_char, chars_past_char}
use Rattle.std.proofs.StrCases.{chars_of_empty}
use Rattle.answer_pictures.proofs.Cuts.{cut_end, cut_off, cut_step}
use Rattle.answer_pictures.proofs.escaping.put_cut.Goals as goal

pub loop-letter-preserved : goal.loop-letter-preserved
loop-letter-preserved c =
    let held = c.loop-letter.invariant in
    let parts = c.in-Some.ensures.steps.0 in
    let step = cut_step _ _ _ _ c.if-room-eq0.false (chars_past_char _ _ c.in-Some.letter held.0 parts) in
    (IsUtf8-past_char _ _ c.in-Some.letter held.0 parts, rw (c.in_ok-put_letter.ensures, append_assoc) (rw step at held.1))

pub returns-then-room-eq0 : goal.returns-then-room-eq0
returns-then-room-eq0 c =
    let held = c.loop-letter.invariant in
    let off = cut_off _ _ _ _ c.if-room-eq0.true (chars_past_char _ _ c.in-Some.letter held.0 c.in-Some.ensures.steps.0) in
    subst (λ text. OnOk c.put_dots.result (string_bytes c.put_dots.new.out ≡ text)) (rw off at held.1) c.put_dots.ensures

pub returns : goal.returns
returns c =
    let held = c.loop-letter.invariant in
    let end = cut_end c.loop-letter.room _ (chars_of_empty _ c.in-None.ensures.steps.0.0) in
    sym (append-nil _) ∙ (rw end at held.1)
