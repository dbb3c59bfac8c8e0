-- The outcome of loading files.
use Rattle.std.proofs.Common.{ap, inl, inr, refl, subst, sym, ◌∙◌}
use Rattle.feed_files.specs.Reading.{Content}
use Rattle.feed_loader.specs.Refused.{IsLoadEnd, IsLoadRefusal, IsWantOfMemory}
use Rattle.feed_loader.specs.declared.fault.LoadFault.{LoadFault}
use Rattle.feed_loader.specs.declared.fault.LoadFault.TheVariants as faults
use Rattle.feed_loader.specs.declared.plan.Plan.{Plan}
use Rattle.feed_loader.proofs.MadeLemmas.{memory_wants}

-- unless memory ran out, a load ends with the first thing that is wrong
pub refusal_of : (content : Content) (plan : Plan) (fault : LoadFault) → IsLoadEnd content plan fault → ¬ (IsWantOfMemory fault)
    → IsLoadRefusal content plan fault
refusal_of content plan fault (inl files) unless = inl files
refusal_of content plan fault (inr (inl apart)) unless =
    inr (inl (record {
      t = apart.t;
      held = apart.held;
      refusal = apart.refusal;
      is = apart.is;
      first = apart.first (λ memory. unless (subst (λ (x : LoadFault). IsWantOfMemory x) (sym (apart.is ∙ ap faults.Table memory)) refl));
    }))
refusal_of content plan fault (inr (inr unmade)) unless = elim unmade.why [
  | inl ran ↦ absurd (unless (memory_wants unmade.feed plan fault ran))
  | inr first ↦ inr (inr (record { feed = unmade.feed; read = unmade.read; first = first }))
]
