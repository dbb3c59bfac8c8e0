-- The parts are printed one after the other.
use Rattle.std.proofs.Common.{◌++◌, ◌⊎◌, ◌≡◌, ◌≢◌, ℕ, List, Option, arith, codes, inl, inr, refl}
use Rattle.std.specs.declared.io.ErrorKind.{ErrorKind}
use Rattle.command_requests.specs.declared.statuses.TheConstants.{ACCEPTED, INPUT_OUTPUT}
use Rattle.command_endings.specs.Ending.{IsDone}
use Rattle.command_endings.proofs.Outcomes.{fault_of_text}
use Rattle.image_files.proofs.Appended.{begun_after}
use Rattle.image_files.specs.Watching.{HasFault}
use Rattle.std.proofs.KnownBytes.{Appends-trans}
use Rattle.csa_program.proofs.TextEnds.{begun_first, text_told_behind}
use Rattle.csa_program.proofs.put_sources.Goals as goal

-- a part that wasn't printed left a fault
faulty : (status : ℕ) (text : List ℕ) (fault : Option ErrorKind) (before after : Option (List ℕ))
    → (status ≡ ACCEPTED) ⊎ (status ≡ INPUT_OUTPUT) → status ≢ ACCEPTED
    → (status ≡ INPUT_OUTPUT → IsDone ACCEPTED text before after ⊎ HasFault fault) → HasFault fault
faulty status text fault before after (inl e) other failed = absurd (other e)
faulty status text fault before after (inr e) other failed = fault_of_text ACCEPTED text fault before after (λ zero. omega (arith, zero)) (failed e)

pub returns-then-write_text-ne-ACCEPTED : goal.returns-then-write_text-ne-ACCEPTED
returns-then-write_text-ne-ACCEPTED g c =
    inr (
      refl,
      faulty c.write_text.result _ _ _ _ c.write_text.ensures.status c.if-write_text-ne-ACCEPTED.true c.write_text.ensures.failed,
      begun_first _ _ _ (codes "\n") (begun_first _ _ _ c.args.sources.now c.write_text.ensures.begun),
    )

pub returns-then-write_text-ne-ACCEPTED-2 : goal.returns-then-write_text-ne-ACCEPTED-2
returns-then-write_text-ne-ACCEPTED-2 g c =
    let head = c.write_text.ensures.written (λ e. omega (arith, e, c.if-write_text-ne-ACCEPTED.false)) in
    inr (
      refl,
      faulty c.write_text-2.result _ _ _ _ c.write_text-2.ensures.status c.if-write_text-ne-ACCEPTED-2.true c.write_text-2.ensures.failed,
      begun_first _ _ _ (codes "\n") (begun_after _ _ _ (codes "sources ") c.args.sources.now head c.write_text-2.ensures.begun),
    )

pub returns : goal.returns
returns g c =
    let head = c.write_text.ensures.written (λ e. omega (arith, e, c.if-write_text-ne-ACCEPTED.false)) in
    let sum = c.write_text-2.ensures.written (λ e. omega (arith, e, c.if-write_text-ne-ACCEPTED-2.false)) in
    let first = Appends-trans _ _ _ (codes "sources ") c.args.sources.now head sum in
    let last = c.write_text-3.ensures in
    text_told_behind _ _ _ (codes "sources " ++ c.args.sources.now) (codes "\n") _ _ first last.status last.written last.begun last.failed
