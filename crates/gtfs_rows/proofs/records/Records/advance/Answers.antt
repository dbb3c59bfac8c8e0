use Rattle.std.proofs.Common.{◌≡◌, ◌∷◌, []}
use Rattle.std.specs.Bool.{MatchBool}
use Rattle.csv.specs.Reading.{pending_of, source_of}
use Rattle.csv.specs.Records.{fields_of}
use Rattle.gtfs_rows.specs.Source.{IsReading, known, left_of, records_of}
use Rattle.gtfs_rows.proofs.SourceLemmas.{taken_of}
use Rattle.gtfs_rows.proofs.records.Records.advance.Goals as goal
use Rattle.gtfs_rows.proofs.records.Records.advance.Goals.{In-Ok}

-- what was read is the first of the records that were left
took : (c : In-Ok) → IsReading c.args.self.now → MatchBool c.in-Ok.found
    (left_of c.args.self.now ≡ fields_of c.read_byte_record.new.row
    ∷ records_of c.read_byte_record.new.self.state (source_of known c.read_byte_record.new.self))
    (left_of c.args.self.now ≡ [])
took c before =
    let read = c.in-Ok.ensures.reads before.trim before.ready in
    let same : source_of known c.read_byte_record.new.self ≡ pending_of (known c.read_byte_record.new.self.rdr) c.read_byte_record.new.self = rw read.1 in
    rw same (taken_of _ _ _ _ _ _ before.source (rw before.config at read.0))

pub returns-then-not-found-clause-reads : goal.returns-then-not-found-clause-reads
returns-then-not-found-clause-reads c = λ before. rw c.if-not-found.true at (took (goal.at.returns-then-not-found-clause-reads c).In-Ok before)

pub returns-clause-reads : goal.returns-clause-reads
returns-clause-reads c = λ before. rw c.if-not-found.false at (took (goal.at.returns-clause-reads c).In-Ok before)
