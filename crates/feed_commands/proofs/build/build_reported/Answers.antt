-- All files were read before the image was made, and none after that; what is written is the image that was made.
use Rattle.std.proofs.Common.{◌∙◌, inr}
use Rattle.feed_files.specs.Reads.{all_tables}
use Rattle.feed_loader.specs.Refused.{IsLoaded}
use Rattle.connections.specs.declared.report.Report.{Report}
use Rattle.image_files.specs.Writing.{IsWholeImage}
use Rattle.image_layout.specs.Image.{ImageValue}
use Rattle.feed_commands.proofs.OfFolder.{as_failed, whole_of}
use Rattle.feed_commands.proofs.build.build_reported.Goals as goal

pub put_image-requires : goal.put_image-requires
put_image-requires g c =
    let image = c.in-Ok.loaded.0 in
    let whole : IsWholeImage c.words.result.now = record {
      timetable = image.timetable;
      names = image.names;
      image = c.words.ensures.0;
      layout = c.words.ensures.1 ∙ c.in-Ok.ensures.layout;
    } in
    whole

pub returns-clause-built : goal.returns-clause-built
returns-clause-built g c =
    let loaded = c.in-Ok.loaded in
    whole_of g.F.FeedFiles.words.reads (g.F.FeedFiles.words.reads c.args.files.now.files) c.load_reported.new.files.files
    c.report_written.new.self.files
    (λ content. IsLoaded content c.args.plan loaded.0.timetable loaded.0.names loaded.1)
    (c.report_written.ensures ∙ c.report_writing.ensures) c.in-Ok.ensures.all_read
    (λ content read. c.in-Ok.ensures.ok content (inr (all_tables, read)))

pub returns-in-Err-clause-refused : goal.returns-in-Err-clause-refused
returns-in-Err-clause-refused g c unless = (
  c.load_reported.ensures.first_read,
  c.in-Err.ensures.failed ∙ as_failed (ImageValue × Report) (g.F.FeedFiles.words.failed c.args.files.now.files) c.in-Err.fault,
  λ content shows. c.in-Err.ensures.err content shows unless,
)

-- an image was made of all files before it couldn't be written
pub returns-in-Err-put_image-clause-unusable : goal.returns-in-Err-put_image-clause-unusable
returns-in-Err-put_image-clause-unusable g c = λ other.
    let loaded = c.in-Ok.loaded in
    let (content, read, is) =
    whole_of g.F.FeedFiles.words.reads (g.F.FeedFiles.words.reads c.args.files.now.files) c.load_reported.new.files.files
    c.report_writing.new.self.files
    (λ content. IsLoaded content c.args.plan loaded.0.timetable loaded.0.names loaded.1)
    c.report_writing.ensures c.in-Ok.ensures.all_read
    (λ content read. c.in-Ok.ensures.ok content (inr (all_tables, read))) in (
      c.in-Err-put_image.ensures.failed (λ none. other (c.kind.ensures ∙ none)),
      (loaded.0.timetable, loaded.0.names, loaded.1, content, read, is),
    )
