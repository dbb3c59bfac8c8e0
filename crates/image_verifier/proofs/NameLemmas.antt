-- What the tests of texts say.
use Rattle.std.proofs.lemmas.Str.{IsUtf8-from_is_utf8, is_utf8-from_IsUtf8}

pub ruleset text_tests = (IsUtf8-from_is_utf8, is_utf8-from_IsUtf8)
