use Rattle.std.proofs.Common.{◌≡◌, ℕ, List, [], ◌++◌, sym, subst, ap, ◌∙◌, Result, Ok, Err, OnOk, rules, append_assoc, append-nil}
use Rattle.std.proofs.lemmas.Grind.{flat_map-append}
use Rattle.std.proofs.lemmas.List.{nil_from_length}
use Rattle.std.specs.Int.{w32, to_le_bytes}
use Rattle.std.specs.Io.KnownBytes.{Appends}
use Rattle.std.specs.Slice.Iter.{chunks_rest}
use Rattle.image_layout.specs.Text.{bytes_of}
use Rattle.image_files.proofs.Appended.{appended_and_kept, appended_in_turns, nothing_appended}
use Rattle.image_files.proofs.writing.write_words.Goals as goal

-- what holds in any case holds at a value
at_value : {T E P : Type 0} (r : Result T E) → P → OnOk r P
at_value (Ok t) p = p
at_value (Err e) p = tt

pub loop-piece-init : goal.loop-piece-init
loop-piece-init g c = (search rules, tt, ([], nothing_appended _, search rules))

pub loop-piece-preserved : goal.loop-piece-preserved
loop-piece-preserved g c =
    let written = c.loop-piece.invariant.2 in
    let done = written.0 in
    let piece = c.in-Some.piece.now in
    let is : c.deref.result.now ≡ bytes_of piece = c.deref.ensures.value ∙ c.in_ok-bytes.ensures in
    let step = subst (Appends _ _) is c.in_ok-write_all.ensures.written in (
      search rules,
      tt,
      (
        done ++ piece,
        subst (Appends _ _) (sym (flat_map-append (to_le_bytes w32) done piece)) (appended_in_turns _ _ _ (bytes_of done) (bytes_of piece) written.1 step),
        append_assoc done piece _ ∙ ap (λ (t : List ℕ). done ++ t) (sym c.in-Some.ensures.steps.1.0) ∙ written.2,
      ),
    )

pub returns-clause-bytes : goal.returns-clause-bytes
returns-clause-bytes g c =
    let written = c.loop-piece.invariant.2 in
    let done = written.0 in
    let none = nil_from_length (chunks_rest c.loop-piece.piece-iterator) c.in-None.ensures.steps.1.0 in
    let all : done ≡ c.args.words.now = sym (append-nil done) ∙ ap (λ (t : List ℕ). done ++ t) (sym none) ∙ written.2 in
    let appends : List ℕ → Type 0 = λ ws. Appends (g.W.Write.contents c.args.file.now) (g.W.Write.contents c.finish.new.self) (bytes_of ws) in
    at_value c.finish.result (subst appends all (appended_and_kept _ _ _ (bytes_of done) written.1 c.finish.ensures.bytes))
