-- How the printing of a text ends.
use Rattle.std.proofs.Common.{◌≡◌, ◌≢◌, ◌++◌, ◌∙◌, ◌⊎◌, ℕ, List, Option, arith, inl, inr, length, subst, sym, take}
use Rattle.std.proofs.KnownBytes.{Appends-trans}
use Rattle.std.proofs.lemmas.Bool.{cases_lt}
use Rattle.std.proofs.lemmas.List.{take-append-le, take_all}
use Rattle.std.specs.Io.KnownBytes.{Appends}
use Rattle.std.specs.declared.io.ErrorKind.{ErrorKind}
use Rattle.command_endings.specs.Ending.{IsDone}
use Rattle.command_endings.proofs.Outcomes.{fault_of_text}
use Rattle.image_files.proofs.Appended.{begun_after}
use Rattle.image_files.specs.Watching.{HasFault, IsBegun}
use Rattle.command_requests.specs.declared.statuses.TheConstants.{ACCEPTED, INPUT_OUTPUT}
use Rattle.csa_program.specs.Running.{IsTextEnd}

-- the text that was written is the one that is wanted
pub text_told : (wanted : List ℕ) (fault : Option ErrorKind) (status : ℕ) (text : List ℕ) (before after : Option (List ℕ)) → text ≡ wanted
    → (status ≡ ACCEPTED) ⊎ (status ≡ INPUT_OUTPUT) → (status ≢ INPUT_OUTPUT → Appends before after text) → IsBegun before after text
    → (status ≡ INPUT_OUTPUT → IsDone ACCEPTED text before after ⊎ HasFault fault) → IsTextEnd wanted fault status before after
text_told wanted fault status text before after same (inl e) whole begun failed =
    inl (e, subst (Appends before after) same (whole (λ three. omega (arith, e, three))))
text_told wanted fault status text before after same (inr e) whole begun failed =
    inr (e, fault_of_text ACCEPTED text fault before after (λ zero. omega (arith, zero)) (failed e), subst (IsBegun before after) same begun)

-- a first part of a text is one of a longer text
pub begun_first : (before after : Option (List ℕ)) (u v : List ℕ) → IsBegun before after u → IsBegun before after (u ++ v)
begun_first before after u v part = elim (cases_lt part.count (length u)) [
  | inl less ↦ record {
    count = part.count;
    added = subst (Appends before after) (sym (take-append-le part.count u v (omega arith))) part.added;
  }
  | inr more ↦ record {
    count = length u;
    added = subst (Appends before after)
        (take_all part.count u more ∙ sym (take_all (length u) u (omega arith)) ∙ sym (take-append-le (length u) u v (omega arith))) part.added;
  }
]

-- a text was printed, and then another, or a first part of it
pub text_told_behind : (before then after : Option (List ℕ)) (u v : List ℕ) (fault : Option ErrorKind) (status : ℕ) → Appends before then u
    → (status ≡ ACCEPTED) ⊎ (status ≡ INPUT_OUTPUT) → (status ≢ INPUT_OUTPUT → Appends then after v) → IsBegun then after v
    → (status ≡ INPUT_OUTPUT → IsDone ACCEPTED v then after ⊎ HasFault fault) → IsTextEnd (u ++ v) fault status before after
text_told_behind before then after u v fault status first (inl e) whole begun failed =
    inl (e, Appends-trans before then after u v first (whole (λ three. omega (arith, e, three))))
text_told_behind before then after u v fault status first (inr e) whole begun failed =
    inr (e, fault_of_text ACCEPTED v fault then after (λ zero. omega (arith, zero)) (failed e), begun_after before then after u v first begun)
