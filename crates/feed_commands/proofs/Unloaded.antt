-- How a command ends over a feed that isn't loaded.
use Rattle.std.proofs.Common.{◌≡◌, ◌∙◌, ◌⊎◌, ℕ, List, Option, arith, inl, inr, refl, sym}
use Rattle.std.specs.Io.KnownBytes.{Appends}
use Rattle.std.specs.declared.io.ErrorKind.{ErrorKind}
use Rattle.feed_loader.specs.Refused.{IsWantOfMemory}
use Rattle.feed_loader.specs.declared.fault.LoadFault.{LoadFault}
use Rattle.command_requests.specs.declared.statuses.TheConstants.{INPUT_OUTPUT, OUT_OF_MEMORY, REFUSED}
use Rattle.command_endings.specs.Ending.{EndsUndone, IsDone, IsOutcome}
use Rattle.image_files.specs.Watching.{HasFault, IsBegun}
use Rattle.feed_commands.specs.Refusing.{PrintsOfFeed, RefusesFeed, feed_line, refusal_status}

-- the line of a feed that isn't loaded was printed, or a first part of it, or nothing since memory ran out
pub feed_refused : (IsText : List ℕ → Type 0) (IsFault : LoadFault → Type 0) (fault : LoadFault) (noted : Option ErrorKind) (status : ℕ)
    (before after : Option (List ℕ))
    → (¬ (IsWantOfMemory fault) → IsFault fault) → EndsUndone status → (IsWantOfMemory fault → status ≡ OUT_OF_MEMORY)
    → (status ≡ REFUSED → RefusesFeed fault) → (status ≡ REFUSED → Appends before after (feed_line fault))
    → (status ≡ OUT_OF_MEMORY → after ≡ before) → (status ≡ INPUT_OUTPUT → IsBegun before after (feed_line fault))
    → (status ≡ INPUT_OUTPUT → IsDone (refusal_status fault) (feed_line fault) before after ⊎ HasFault noted)
    → IsOutcome (PrintsOfFeed IsText IsFault) ⊥ noted status before after
feed_refused IsText IsFault fault noted status before after is (inl e) memory refuses whole silent begun failed =
    let judged = refuses e in
    inl (feed_line fault, inr (fault, judged.0, e ∙ sym judged.1, is judged.0, refl), whole e)
feed_refused IsText IsFault fault noted status before after is (inr (inl e)) memory refuses whole silent begun failed =
    let other : ¬ (IsWantOfMemory fault) = λ want. let none = memory want in omega (arith, e, none) in
    elim (failed e) [
      | inl done ↦ inl (feed_line fault, inr (fault, other, e ∙ sym done.0, is other, refl), done.1)
      | inr has ↦ inr (inl (e, has, refusal_status fault, feed_line fault, inr (fault, other, refl, is other, refl), begun e))
    ]
feed_refused IsText IsFault fault noted status before after is (inr (inr e)) memory refuses whole silent begun failed = inr (inr (inr e, silent e))
