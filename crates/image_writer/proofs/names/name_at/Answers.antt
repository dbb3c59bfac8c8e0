use Rattle.std.proofs.Common.{subst, sym}
use Rattle.std.specs.Str.{IsUtf8}
use Rattle.std.proofs.lemmas.Str.{IsUtf8-string_bytes}
use Rattle.image_writer.proofs.names.name_at.Goals as goal

pub returns-then-i-stops-clause-utf8 : goal.returns-then-i-stops-clause-utf8
returns-then-i-stops-clause-utf8 c = subst IsUtf8 (sym c.as_bytes.ensures.value) (IsUtf8-string_bytes c.index-name.result.now)

pub returns-clause-utf8 : goal.returns-clause-utf8
returns-clause-utf8 c = subst IsUtf8 (sym c.as_bytes-2.ensures.value) (IsUtf8-string_bytes c.trip.inside.name)
