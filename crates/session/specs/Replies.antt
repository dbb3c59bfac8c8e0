-- Replies, and what was read for them.
use Rattle.std.specs.Prelude.{◌≡◌, ℕ, List, [], Option, Some, None, Result, Ok, Err, String, string_bytes}
use Rattle.std.specs.Global.{Global}
use Rattle.std.specs.declared.alloc.AllocError.{AllocError}
use Rattle.lines.specs.LineReads.{WrittenLine, reads_of, written_line}
use Rattle.session.specs.Lines.{memory_line}
use Rattle.session.specs.declared.reply.SessionReply.{SessionReply}
use Rattle.session.specs.declared.reply.ReplyLine.{ReplyLine}
use Rattle.session.specs.declared.reply_log.ReplyLog.{ReplyLog}

-- a reply: its text, with its LF, and the connections that were read for it, by index, in the order of reading
abbrev pub ReplyValue : Type 0
ReplyValue = WrittenLine

-- a reply for which nothing is read
abbrev pub plain : List ℕ → ReplyValue
plain text = written_line text []

abbrev pub line_bytes : ReplyLine → List ℕ
line_bytes (ReplyLine.Fixed line) = line.now
line_bytes (ReplyLine.Short line) = line.bytes
line_bytes (ReplyLine.Made line) = string_bytes line

-- what is noted in the log of a scan; nothing, if none was made
abbrev pub reads_for : Option ReplyLog → List ℕ
reads_for (Some log) = reads_of log.reads
reads_for None = []

abbrev pub reply_value : SessionReply → ReplyValue
reply_value reply = written_line (line_bytes reply.line) (reads_for reply.log)

-- what is replied after a scan: the line that was made, or that memory ran out
abbrev pub scan_text : Result (String Global) AllocError → List ℕ
scan_text (Ok line) = string_bytes line
scan_text (Err error) = memory_line
