-- The words that are refused are those of the bytes that were read.
use Rattle.std.proofs.Common.{◌≡◌, ◌≢◌, ℕ, List, Option, None, Some, IfSome, inl, inr, subst}
use Rattle.image_files.specs.Held.{HoldsOfBytes}
use Rattle.image_layout.specs.Text.{bytes_of}
use Rattle.image_verifier.specs.FirstFault.{Tells, first_fault}
use Rattle.image_verifier.specs.declared.fault.ImageFault.{ImageFault}
use Rattle.image_verifier.specs.declared.fault.ImageFault.TheVariants.{OutOfMemory}
use Rattle.command_endings.specs.Ending.{PrintsRefusal}
use Rattle.image_commands.specs.Opening.{HaveWordBits, IsNoImage, IsRefusedImage}
use Rattle.image_commands.specs.Refusing.{refusal_line}
use Rattle.image_commands.specs.declared.refusal.CommandRefusal.TheVariants.{Image}
use Rattle.command_endings.proofs.Outcomes.{outcome_of}
use Rattle.image_commands.proofs.opening.open_image.Goals as goal

some_weaker : (held : Option (List ℕ)) (Is May : List ℕ → Type 0) → ((bytes : List ℕ) → Is bytes → May bytes) → IfSome held Is → IfSome held May
some_weaker None Is May may is = tt
some_weaker (Some bytes) Is May may is = may bytes is

is_first : (words : List ℕ) (fault : ImageFault) → Tells words fault → fault ≢ OutOfMemory → first_fault words ≡ Some fault
is_first words fault (inl first) other = first
is_first words fault (inr none) other = absurd (other none.0)

pub returns-in-Err-clause-refused : goal.returns-in-Err-clause-refused
returns-in-Err-clause-refused g c =
    let may_hold = g.H.ImageDisk.may_hold c.args.rt.now in
    let path = c.args.path.now in
    let input = g.I.Read.remaining c.args.input.now in
    let words = c.in-Ok.words.items in
    let fault = c.in-Err.fault in
    let read = c.in-Ok.ensures.spelled in
    outcome_of (PrintsRefusal (λ line. (fault ≢ OutOfMemory) × (line ≡ refusal_line (Image fault))))
    (PrintsRefusal (IsRefusedImage may_hold path input)) _ _ _ _ _ _
    (λ s line is.
    let first = is_first words fault c.in-Err.ensures.fault is.1.0 in
    let small = subst HaveWordBits c.deref.ensures.value c.have_word_bits.ensures in
    let none : HoldsOfBytes may_hold path input (IsNoImage (Image fault)) = record {
      held = read.held;
      of_input = read.of_input;
      of_file = read.of_file;
      holds = some_weaker read.held (λ bytes. bytes_of words ≡ bytes) (IsNoImage (Image fault)) (λ bytes same. (words, small, same, first)) read.holds;
    } in
    (is.0, (Image fault, is.1.0, none, is.1.1)))
    (λ none. absurd none) c.refuse_words.ensures
