use Rattle.std.proofs.Common.{◌∙◌, ap}
use Rattle.image_layout.specs.declared.header.Header.{Header}
use Rattle.image_facts.proofs.Headers.{has_header, name_bytes_of}
use Rattle.image_facts.proofs.facts.header_of.Goals as goal

pub of-requires : goal.of-requires
of-requires c = has_header c.words.result.now c.args.image.now c.words.ensures

pub returns-clause-names : goal.returns-clause-names
returns-clause-names c =
    ap (λ (h : Header). h.name_bytes) c.of.ensures ∙ name_bytes_of c.words.result.now c.args.image.now c.words.ensures
