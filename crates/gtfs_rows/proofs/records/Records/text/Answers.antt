use Rattle.gtfs_rows.specs.Source.{last_of}
use Rattle.gtfs_rows.proofs.CellLemmas.{value_text}
use Rattle.gtfs_rows.proofs.records.Records.text.Goals as goal

pub from_utf8_unchecked-requires : goal.from_utf8_unchecked-requires
from_utf8_unchecked-requires c = rw c.get.ensures (value_text c.args.self.now.indices.items c.args.column (last_of c.args.self.now) c.requires)
