use Rattle.std.proofs.Common.{◌≡◌, ℕ, ◌++◌, List, length, take, subst, sym, ap, ◌∙◌, arith, inl, inr}
use Rattle.std.specs.Prelude.{slice_get}
use Rattle.std.specs.List.{concat}
use Rattle.std.specs.Str.{IsUtf8}
use Rattle.std.proofs.lemmas.Bool.{cases_eq}
use Rattle.std.proofs.lemmas.Option.{same_Some, slice_get_within}
use Rattle.image_layout.specs.Spelling.{name_list, text_words}
use Rattle.image_writer.specs.Packing.{full_words, rest_of}
use Rattle.image_writer.proofs.Fours.{written_more, rest_more, finished}
use Rattle.image_writer.proofs.NameCounts.{text_next, text_whole}
use Rattle.image_writer.proofs.text.write_text.Goals as goal

pub loop-i-preserved : goal.loop-i-preserved
loop-i-preserved c =
    let names = name_list c.args.names.now in
    let i = c.loop-i.i in
    let next = text_next names i c.name_at.result.now c.name_at.ensures.name in (
      c.in_ok-waiting.ensures.written ∙ written_more _ _ (concat (take i names)) _ c.name_at.result.now
          c.loop-i.invariant.0 c.loop-i.invariant.1
          ∙ ap (λ (bytes : List ℕ). c.args.words.now.items ++ full_words bytes) (sym next),
      c.in_ok-waiting.ensures.rest ∙ rest_more (concat (take i names)) _ c.name_at.result.now c.loop-i.invariant.1 ∙ ap rest_of (sym next),
      λ k name lt at. elim (cases_eq k i) [
        | inl same ↦ subst IsUtf8 (same_Some c.name_at.result.now name (sym c.name_at.ensures.name
            ∙ ap (λ (j : ℕ). slice_get names j) (sym same) ∙ at)) c.name_at.ensures.utf8
        | inr other ↦ c.loop-i.invariant.2 k name (omega (arith, lt, other)) at
      ],
    )

pub returns-clause-written : goal.returns-clause-written
returns-clause-written c =
    let names = name_list c.args.names.now in
    let at_end : c.loop-i.i ≡ length names = omega (arith, c.loop-i-test.false, c.loop-i.auto.i-end, c.name_count-i-end.ensures) in
    c.in_ok-finish.ensures
    ∙ finished _ _ _ _ c.loop-i.invariant.0 c.loop-i.invariant.1
    ∙ ap (λ (bytes : List ℕ). c.args.words.now.items ++ text_words bytes) (ap (λ (k : ℕ). concat (take k names)) at_end ∙ text_whole names)

pub returns-clause-utf8 : goal.returns-clause-utf8
returns-clause-utf8 c =
    let names = name_list c.args.names.now in
    λ i name at. c.loop-i.invariant.2 i name (omega (
      arith,
      slice_get_within names i name at,
      c.loop-i-test.false,
      c.loop-i.auto.i-end,
      c.name_count-i-end.ensures,
    )) at
