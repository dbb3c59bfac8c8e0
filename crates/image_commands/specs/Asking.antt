-- The window of a question on the command line.
use Rattle.command_requests.specs.declared.requests.Question.{Question}
use Rattle.journeys.specs.declared.question.Window.{Window}

-- the earliest and the latest departure, and the latest arrival
abbrev pub window_of : Question → Window
window_of question = record { from = question.after; until = question.until; by = question.by }
