-- A command whose output has a fault is neither done nor refused.
use Rattle.std.proofs.Common.{◌≡◌, ◌≢◌, ◌⊎◌, ◌++◌, ℕ, ℤ, Bool, List, Option, Result, Ok, Err}
use Rattle.std.proofs.Common.{arith, inl, inr, length, refl, subst, string_bytes, sym, take}
use Rattle.std.proofs.lemmas.List.{take_all}
use Rattle.std.specs.Io.KnownBytes.{Appends}
use Rattle.std.specs.declared.io.ErrorKind.{ErrorKind}
use Rattle.command_endings.specs.Ending.{IsOutcome}
use Rattle.command_line.specs.declared.reading.NoCommand.{NoCommand}
use Rattle.command_line.specs.declared.reading.NoCommand.TheVariants.{Help, Mistake, OutOfMemory}
use Rattle.command_requests.specs.declared.requests.CommandRequest.{CommandRequest}
use Rattle.command_requests.specs.declared.requests.CommandRequest.TheVariants as requests
use Rattle.command_requests.specs.declared.requests.MatrixRequest.{MatrixRequest}
use Rattle.command_requests.specs.declared.ends.SessionCounts.{SessionCounts}
use Rattle.command_requests.specs.declared.requests.ServeRequest.{ServeRequest}
use Rattle.command_requests.specs.declared.statuses.TheConstants.{ACCEPTED, COMMAND_LINE, INPUT_OUTPUT, OUT_OF_MEMORY, REFUSED}
use Rattle.csa_program.specs.Running.{IsEnd, IsEndOf, IsServeEnd, IsTableCut, IsTableEnd, IsTextEnd}
use Rattle.csa_program.specs.Serving.{IsEndAt, MayHost, port_text, served_text}
use Rattle.feed_files.specs.Files.{Gives}
use Rattle.image_files.specs.declared.names.NameForm.{NameForm}
use Rattle.image_commands.proofs.MatrixLemmas.{shown_in_part}
use Rattle.image_commands.specs.Matrices.{IsTableRefused}
use Rattle.image_commands.specs.Opening.{IsRefusedImage, SpellsImage}
use Rattle.image_commands.specs.Refusing.{refusal_line}
use Rattle.image_commands.specs.declared.refusal.CommandRefusal.TheVariants.{Query as OfQuery}
use Rattle.timetable.specs.declared.query.QueryFault.TheVariants.{BadWindow}
use Rattle.image_files.proofs.Appended.{begun_by_all}
use Rattle.image_files.specs.Held.{HoldsOfBytes}
use Rattle.image_layout.specs.Image.{ImageValue}
use Rattle.image_files.specs.Out.{OutFiles}
use Rattle.image_files.specs.Watching.{HasFault}

-- what was asked for is done, or refused
abbrev IsSettled : ℕ → Type 0
IsSettled status = (status ≡ ACCEPTED) ⊎ (status ≡ REFUSED)

not_failed : (status : ℕ) → IsSettled status → status ≢ INPUT_OUTPUT
not_failed status (inl done) three = omega (arith, done, three)
not_failed status (inr done) three = omega (arith, done, three)

not_spent : (status : ℕ) → IsSettled status → status ≢ OUT_OF_MEMORY
not_spent status (inl done) four = omega (arith, done, four)
not_spent status (inr done) four = omega (arith, done, four)

not_mistaken : (status : ℕ) → IsSettled status → status ≢ COMMAND_LINE
not_mistaken status (inl done) other = omega (arith, done, other)
not_mistaken status (inr done) other = omega (arith, done, other)

module _ (fault : Option ErrorKind) (has : HasFault fault) where
  -- the whole text is a first part of it
  pub outcome_unwritten : (Is : ℕ → List ℕ → Type 0) (Unusable : Type 0) (status : ℕ) (before after : Option (List ℕ)) → IsSettled status
      → IsOutcome Is Unusable fault status before after → IsOutcome Is Unusable fault INPUT_OUTPUT before after
  outcome_unwritten Is Unusable status before after done (inl (text, is, whole)) =
      inr (inl (refl, has, status, text, is, begun_by_all before after text whole))
  outcome_unwritten Is Unusable status before after done (inr (inl three)) = absurd (not_failed status done three.0)
  outcome_unwritten Is Unusable status before after done (inr (inr (inl (failed, can), silent))) = absurd (not_failed status done failed)
  outcome_unwritten Is Unusable status before after done (inr (inr (inr none, silent))) = absurd (not_spent status done none)

  text_unwritten : (text : List ℕ) (status : ℕ) (before after : Option (List ℕ)) → IsSettled status → IsTextEnd text fault status before after
      → IsTextEnd text fault INPUT_OUTPUT before after
  text_unwritten text status before after done (inl (is, whole)) = inr (refl, has, begun_by_all before after text whole)
  text_unwritten text status before after done (inr three) = absurd (not_failed status done three.0)

  module _ (may_hold : List ℕ → Option (List ℕ) → Type 0) (may_fail : List ℕ → Type 0) (disk : OutFiles) (names : NameForm) (input : Option (List ℕ))
      (input_failed : Type 0) (request : MatrixRequest) (before after : Option (List ℕ)) where
    refused_unwritten : ((line : List ℕ) × IsRefusedImage may_hold request.image.now input line × Appends before after line)
        ⊎ ((image : ImageValue) × HoldsOfBytes may_hold request.image.now input (SpellsImage image)
        × IsTableRefused may_hold image request before after)
        → IsTableCut may_hold may_fail disk names input input_failed request fault before after
    refused_unwritten (inl (line, refused, whole)) = inr (inl (has, line, refused, begun_by_all before after line whole))
    refused_unwritten (inr (image, held, inl (none, whole))) =
        inr (inr (image, held, inl (has, none, begun_by_all before after (refusal_line (OfQuery BadWindow)) whole)))
    refused_unwritten (inr (image, held, inr (window, unknown, same))) = inr (inr (image, held, inr (window, inr (inl (has, unknown, same)))))

    cut_unwritten : (status : ℕ) → IsSettled status → IsTableEnd may_hold may_fail disk names input input_failed request fault status before after
        → IsTableCut may_hold may_fail disk names input input_failed request fault before after
    cut_unwritten status (inl done) ended =
        let (image, held, (window, apart, (table, of, shown))) = ended.printed done in
        inr (inr (image, held, inr (window, inr (inr (table, of, inr (has, shown_in_part disk table request.out.now before after shown))))))
    cut_unwritten status (inr done) ended = refused_unwritten (ended.refused done)

    table_unwritten : (status : ℕ) → IsSettled status → IsTableEnd may_hold may_fail disk names input input_failed request fault status before after
        → IsTableEnd may_hold may_fail disk names input input_failed request fault INPUT_OUTPUT before after
    table_unwritten status done ended = record {
      ends = inl (inr (inr (inl refl)));
      printed = λ e. absurd (omega (arith, e));
      refused = λ e. absurd (omega (arith, e));
      unlisted = λ e. absurd (omega (arith, e));
      cut = λ e. cut_unwritten status done ended;
      spent = λ e. absurd (omega (arith, e));
    }

  at_port_unwritten : (MayEnd : SessionCounts → Bool → Type 0) (port status : ℕ) (before after : Option (List ℕ)) → IsSettled status
      → IsEndAt MayEnd port fault before after status
      → IsEndAt MayEnd port fault before after INPUT_OUTPUT
  at_port_unwritten MayEnd port status before after done (inl (inl three)) = absurd (not_failed status done three.0)
  at_port_unwritten MayEnd port status before after done (inl (inr four)) = absurd (not_spent status done four.0)
  at_port_unwritten MayEnd port status before after done (inr (ends, is_deaf, may, inl (is, whole))) =
      let text = served_text ends in
      let all : take (length text) text ≡ text = take_all (length text) text (omega arith) in
      inr (ends, is_deaf, may, inr (inl (refl, has, length text, subst (λ (t : List ℕ). Appends before after (port_text port ++ t)) (sym all) whole)))
  at_port_unwritten MayEnd port status before after done (inr (ends, is_deaf, may, inr (inl three))) = absurd (not_failed status done three.0)
  at_port_unwritten MayEnd port status before after done (inr (ends, is_deaf, may, inr (inr four))) = absurd (not_spent status done four.0)

  serve_unwritten : (may_hold : List ℕ → Option (List ℕ) → Type 0) (may_fail : List ℕ → Type 0) (may_show : Option ℤ → Type 0)
      (input : Option (List ℕ)) (input_failed : Type 0) (request : ServeRequest) (may_host : MayHost) (status : ℕ) (before after : Option (List ℕ))
      → IsSettled status → IsServeEnd may_hold may_fail may_show input input_failed request may_host fault status before after
      → IsServeEnd may_hold may_fail may_show input input_failed request may_host fault INPUT_OUTPUT before after
  serve_unwritten may_hold may_fail may_show input input_failed request may_host status before after done (inl ended) =
      inl (outcome_unwritten _ _ status before after done ended)
  serve_unwritten may_hold may_fail may_show input input_failed request may_host status before after done (inr run) = inr (record {
    image = run.image;
    zone_bytes = run.zone_bytes;
    port = run.port;
    planned = run.planned;
    held = run.held;
    at = run.at;
    small = run.small;
    ended = at_port_unwritten (may_host request run.image run.zone_bytes) run.port status before after done run.ended;
  })

-- a text's end is as it would be, or its output has a fault
pub text_unwritten_as : (text : List ℕ) (fault : Option ErrorKind) (status result : ℕ) (before after : Option (List ℕ))
    → (result ≡ status) ⊎ (((status ≡ ACCEPTED) ⊎ (status ≡ REFUSED)) × (result ≡ INPUT_OUTPUT) × HasFault fault)
    → IsTextEnd text fault status before after → IsTextEnd text fault result before after
text_unwritten_as text fault status result before after (inl same) ended =
    subst (λ (s : ℕ). IsTextEnd text fault s before after) (sym same) ended
text_unwritten_as text fault status result before after (inr (done, three, has)) ended =
    subst (λ (s : ℕ). IsTextEnd text fault s before after) (sym three) (text_unwritten fault has text status before after done ended)

module _ {D : Type 0} (may_hold : List ℕ → Option (List ℕ) → Type 0) (may_fail : List ℕ → Type 0) (gives : Gives D) (disk : OutFiles)
    (names : NameForm) (may_show : Option ℤ → Type 0) (may_host : MayHost) (input : Option (List ℕ)) (input_failed : Type 0)
    (fault : Option ErrorKind) (has : HasFault fault) (status : ℕ) (before after : Option (List ℕ)) (done : IsSettled status) where
  end_unwritten : (request : CommandRequest) → IsEnd may_hold may_fail gives disk names may_show may_host input input_failed fault request status before after
      → IsEnd may_hold may_fail gives disk names may_show may_host input input_failed fault request INPUT_OUTPUT before after
  end_unwritten (requests.OverImage asked) ended = outcome_unwritten fault has _ _ status before after done ended
  end_unwritten (requests.Matrix request) ended =
      table_unwritten fault has may_hold may_fail disk names input input_failed request before after status done ended
  end_unwritten (requests.Tables request) ended = outcome_unwritten fault has _ _ status before after done ended
  end_unwritten (requests.Days request) ended = outcome_unwritten fault has _ _ status before after done ended
  end_unwritten (requests.Stations request) ended = outcome_unwritten fault has _ _ status before after done ended
  end_unwritten (requests.Build request) ended = outcome_unwritten fault has _ _ status before after done ended
  end_unwritten (requests.Serve request) ended =
      serve_unwritten fault has may_hold may_fail may_show input input_failed request may_host status before after done ended

  asked_unwritten : (asked : Result CommandRequest NoCommand)
      → IsEndOf may_hold may_fail gives disk names may_show may_host input input_failed fault asked status before after
      → IsEndOf may_hold may_fail gives disk names may_show may_host input input_failed fault asked INPUT_OUTPUT before after
  asked_unwritten (Ok request) ended = end_unwritten request ended
  asked_unwritten (Err (Help text)) ended = text_unwritten fault has (string_bytes text) status before after done ended
  asked_unwritten (Err (Mistake text)) (other, same) = absurd (not_mistaken status done other)
  asked_unwritten (Err OutOfMemory) (other, same) = absurd (not_spent status done other)

-- it ended as it would, or its output has a fault
pub unwritten_as : {D : Type 0} (may_hold : List ℕ → Option (List ℕ) → Type 0) (may_fail : List ℕ → Type 0) (gives : Gives D) (disk : OutFiles)
    (names : NameForm) (may_show : Option ℤ → Type 0) (may_host : MayHost) (input : Option (List ℕ)) (input_failed : Type 0)
    (fault : Option ErrorKind) (status result : ℕ) (before after : Option (List ℕ)) (asked : Result CommandRequest NoCommand)
    → (result ≡ status) ⊎ (((status ≡ ACCEPTED) ⊎ (status ≡ REFUSED)) × (result ≡ INPUT_OUTPUT) × HasFault fault)
    → IsEndOf may_hold may_fail gives disk names may_show may_host input input_failed fault asked status before after
    → IsEndOf may_hold may_fail gives disk names may_show may_host input input_failed fault asked result before after
unwritten_as may_hold may_fail gives disk names may_show may_host input input_failed fault status result before after asked (inl same) ended =
    subst (λ (s : ℕ). IsEndOf may_hold may_fail gives disk names may_show may_host input input_failed fault asked s before after) (sym same) ended
unwritten_as may_hold may_fail gives disk names may_show may_host input input_failed fault status result before after asked (inr (done, three, has)) ended =
    subst (λ (s : ℕ). IsEndOf may_hold may_fail gives disk names may_show may_host input input_failed fault asked s before after) (sym three)
    (asked_unwritten may_hold may_fail gives disk names may_show may_host input input_failed fault has status before after done asked ended)
