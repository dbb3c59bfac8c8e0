-- What a command prints over the image that was opened.
use Rattle.std.proofs.Common.{◌≡◌, ◌⊎◌, ℕ, List, Option, arith, inl, inr, subst}
use Rattle.std.specs.declared.io.ErrorKind.{ErrorKind}
use Rattle.image_files.specs.Held.{HoldsOfBytes, IsUnreadable}
use Rattle.image_files.specs.Out.{OutFiles}
use Rattle.image_files.specs.declared.names.NameForm.{NameForm}
use Rattle.image_layout.specs.Image.{ImageValue}
use Rattle.command_requests.specs.declared.requests.MatrixRequest.{MatrixRequest}
use Rattle.command_requests.specs.declared.statuses.TheConstants.{ACCEPTED, COMMAND_LINE, INPUT_OUTPUT, OUT_OF_MEMORY, REFUSED}
use Rattle.command_endings.specs.Ending.{IsOutcome, PrintsRefusal}
use Rattle.image_commands.specs.Opening.{IsRefusedImage, PrintsOver, SpellsImage}
use Rattle.image_commands.specs.Matrices.{EndsTable, IsTableCutShort, IsTablePrinted, IsTableRefused, IsTableSpent, IsTableUnlisted}
use Rattle.csa_program.specs.Running.{IsTableEnd}
use Rattle.command_endings.proofs.Outcomes.{outcome_of}

module _ (may_hold : List ℕ → Option (List ℕ) → Type 0) (path : List ℕ) (input : Option (List ℕ)) (Is : ImageValue → ℕ → List ℕ → Type 0)
    (F : Type 0) (G : ImageValue → Type 0) (fault : Option ErrorKind) (status : ℕ) (before : Option (List ℕ)) where
  -- the image isn't to be had; or what is needed besides isn't
  abbrev Lacks : Type 0
  Lacks = F ⊎ ((image : ImageValue) × HoldsOfBytes may_hold path input (SpellsImage image) × G image)

  -- nothing was printed while it was opened
  pub over_image : (image : ImageValue) (opened after : Option (List ℕ)) → HoldsOfBytes may_hold path input (SpellsImage image)
      → opened ≡ before → IsOutcome (Is image) (G image) fault status opened after
      → IsOutcome (PrintsOver may_hold path input Is) Lacks fault status before after
  over_image image opened after held silent ended =
      subst (λ (was : Option (List ℕ)). IsOutcome (PrintsOver may_hold path input Is) Lacks fault status was after) silent
      (outcome_of (Is image) (PrintsOver may_hold path input Is) (G image) Lacks fault status opened after (λ s text is. inl (image, held, is))
      (λ can. inr (image, held, can)) ended)

  pub over_none : (after : Option (List ℕ)) → IsOutcome (PrintsRefusal (IsRefusedImage may_hold path input)) F fault status before after
      → IsOutcome (PrintsOver may_hold path input Is) Lacks fault status before after
  over_none after ended =
      outcome_of (PrintsRefusal (IsRefusedImage may_hold path input)) (PrintsOver may_hold path input Is) F Lacks fault status before after
      (λ s text is. inr is) (λ can. inl can) ended

module _ (may_hold : List ℕ → Option (List ℕ) → Type 0) (may_fail : List ℕ → Type 0) (disk : OutFiles) (names : NameForm) (input : Option (List ℕ))
    (input_failed : Type 0) (request : MatrixRequest) (fault : Option ErrorKind) (status : ℕ) (before : Option (List ℕ)) where
  pub table_over : (image : ImageValue) (opened after : Option (List ℕ)) → HoldsOfBytes may_hold request.image.now input (SpellsImage image)
      → opened ≡ before → EndsTable status → (status ≡ ACCEPTED → IsTablePrinted may_hold disk names image request opened after)
      → (status ≡ REFUSED → IsTableRefused may_hold image request opened after)
      → (status ≡ COMMAND_LINE → IsTableUnlisted may_hold image request opened after)
      → (status ≡ INPUT_OUTPUT → IsTableCutShort may_hold may_fail disk names image request fault opened after)
      → (status ≡ OUT_OF_MEMORY → IsTableSpent may_hold names image request opened after)
      → IsTableEnd may_hold may_fail disk names input input_failed request fault status before after
  table_over image opened after held kept ends printed refused unlisted cut spent =
      subst (λ (was : Option (List ℕ)). IsTableEnd may_hold may_fail disk names input input_failed request fault status was after) kept (record {
        ends = ends;
        printed = λ is. (image, held, printed is);
        refused = λ is. inr (image, held, refused is);
        unlisted = λ is. (image, held, unlisted is);
        cut = λ is. inr (inr (image, held, cut is));
        spent = λ is. inr (image, held, spent is);
      })

  pub no_table : (after : Option (List ℕ)) → IsOutcome (PrintsRefusal (IsRefusedImage may_hold request.image.now input))
      (IsUnreadable may_fail request.image.now input_failed) fault status before after
      → IsTableEnd may_hold may_fail disk names input input_failed request fault status before after
  no_table after (inl (line, is, whole)) = record {
    ends = inl (inr (inl is.0));
    printed = λ e. absurd (omega (arith, e, is.0));
    refused = λ e. inl (line, is.1, whole);
    unlisted = λ e. absurd (omega (arith, e, is.0));
    cut = λ e. absurd (omega (arith, e, is.0));
    spent = λ e. absurd (omega (arith, e, is.0));
  }
  no_table after (inr (inl (failed, has, s, text, is, begun))) = record {
    ends = inl (inr (inr (inl failed)));
    printed = λ e. absurd (omega (arith, e, failed));
    refused = λ e. absurd (omega (arith, e, failed));
    unlisted = λ e. absurd (omega (arith, e, failed));
    cut = λ e. inr (inl (has, text, is.1, begun));
    spent = λ e. absurd (omega (arith, e, failed));
  }
  no_table after (inr (inr (inl (failed, unread), kept))) = record {
    ends = inl (inr (inr (inl failed)));
    printed = λ e. absurd (omega (arith, e, failed));
    refused = λ e. absurd (omega (arith, e, failed));
    unlisted = λ e. absurd (omega (arith, e, failed));
    cut = λ e. inl (unread, kept);
    spent = λ e. absurd (omega (arith, e, failed));
  }
  no_table after (inr (inr (inr none, kept))) = record {
    ends = inl (inr (inr (inr none)));
    printed = λ e. absurd (omega (arith, e, none));
    refused = λ e. absurd (omega (arith, e, none));
    unlisted = λ e. absurd (omega (arith, e, none));
    cut = λ e. absurd (omega (arith, e, none));
    spent = λ e. inl kept;
  }
