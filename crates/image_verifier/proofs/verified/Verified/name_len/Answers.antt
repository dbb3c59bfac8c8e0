use Rattle.std.proofs.Common.{length, ap, ◌∙◌}
use Rattle.image_verifier.proofs.NameReads.{within_names, name_as_read}
use Rattle.image_verifier.proofs.verified.Verified.name_len.Goals as goal

pub name_len_at-requires-clause-within : goal.name_len_at-requires-clause-within
name_len_at-requires-clause-within c = within_names _ _ _ c.args.i c.self.view_is c.deref.ensures.value c.requires

pub returns : goal.returns
returns c = λ name at. c.name_len_at.ensures ∙ ap length (name_as_read _ _ _ c.args.i name c.self.view_is c.deref.ensures.value at)
