use Rattle.image_layout.proofs.NameByte.{name_byte_within, name_byte}
use Rattle.image_layout.proofs.fields.name_byte_at.Goals as goal

pub bounds-words-text_offset : goal.bounds-words-text_offset
bounds-words-text_offset c = rw (
  c.text_offset.ensures,
  c.of.ensures,
  c.name_index_at.ensures,
) (name_byte_within c.args.words.now c.args.name c.args.byte c.requires.inside)

pub returns : goal.returns
returns c = rw (
  c.to_le_bytes.ensures,
  c.text_offset.ensures,
  c.of.ensures,
  c.name_index_at.ensures,
) (name_byte c.args.words.now c.args.name c.args.byte c.requires.inside)
