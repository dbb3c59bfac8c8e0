use Rattle.std.proofs.Common.{List, ℕ, sym, subst}
use Rattle.std.specs.Str.{IsUtf8}
use Rattle.std.proofs.lemmas.Str.{IsUtf8-from_is_utf8}
use Rattle.image_layout.specs.Shown.{name_of}
use Rattle.image_verifier.proofs.NameReads.{is_a_name}
use Rattle.image_verifier.proofs.unpacked.unpack_name.Goals as goal

pub unreachable-requires : goal.unreachable-requires
unreachable-requires c =
    let w = c.args.words.now in
    let text : IsUtf8 (name_of w c.args.name) =
    IsUtf8-from_is_utf8 (name_of w c.args.name)
    (is_a_name w c.args.name c.requires.accepted c.requires.within).utf8 in
    let utf8 : IsUtf8 c.in_ok-bytes.bytes.items = subst (λ (bytes : List ℕ). IsUtf8 bytes) (sym c.in_ok-bytes.ensures) text in
    let taken = c.in-Err.ensures.succeeds utf8 in
    absurd cc
