-- The bytes are those of the input, or those of the file that was opened.
use Rattle.std.proofs.Common.{◌≡◌, ◌≢◌, ℕ, List, Option, IfSome, codes, refl, rules}
use Rattle.std.proofs.lemmas.Result.{IfOk-weaker}
use Rattle.image_files.specs.Held.{HoldsOfBytes}
use Rattle.image_files.proofs.reading.image_words.Goals as goal

module _ (may_hold : List ℕ → Option (List ℕ) → Type 0) (path : List ℕ) (input : Option (List ℕ)) where
  of_input : (Is : List ℕ → Type 0) → path ≡ codes "-" → IfSome input Is → HoldsOfBytes may_hold path input Is
  of_input Is same is = record { held = input; of_input = λ _. refl; of_file = λ other. absurd (other same); holds = is }

  of_file : (held : Option (List ℕ)) (Is : List ℕ → Type 0) → path ≢ codes "-" → may_hold path held → IfSome held Is
      → HoldsOfBytes may_hold path input Is
  of_file held Is other may is = record { held = held; of_input = λ same. absurd (other same); of_file = λ _. may; holds = is }

pub returns-then-eq-clause-spelled : goal.returns-then-eq-clause-spelled
returns-then-eq-clause-spelled g c =
    let same : c.args.path.now ≡ codes "-" = search rules in
    IfOk-weaker c.words_of.result _ _ (λ words is. of_input (g.H.ImageDisk.may_hold c.args.rt.now) _ _ _ same is) c.words_of.ensures.spelled

pub returns-clause-spelled : goal.returns-clause-spelled
returns-clause-spelled g c =
    let other : c.args.path.now ≢ codes "-" = search rules in
    let held = g.H.Image.Read.remaining c.in_ok-file.file in
    IfOk-weaker c.words_of-2.result _ _ (λ words is.
    of_file (g.H.ImageDisk.may_hold c.args.rt.now) _ _ held _ other c.in_ok-file.ensures.bytes is) c.words_of-2.ensures.spelled
