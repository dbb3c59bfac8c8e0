-- What a line asks, and the lines that say why it isn't met.
use Rattle.std.specs.Prelude.{◌<◌, ◌≤◌, ℕ, Bool, List, length}
use Rattle.serde_json.specs.Data.{Data}
use Rattle.timetable.specs.declared.query.QueryFault.{QueryFault}
use Rattle.timetable.specs.Queries.{numbered_fault}
use Rattle.shelves.specs.declared.faults.PinFault.{PinFault}
use Rattle.shelves.specs.FaultNumber.{pin_fault_name, pin_fault_number}
use Rattle.orders.specs.declared.fault.OrderFault.{OrderFault}
use Rattle.orders.specs.Ordering.{order_fault_name, order_fault_number}
use Rattle.station_answers.specs.declared.naming.NoQuestion.{NoQuestion}
use Rattle.session_texts.specs.Judging.{IsJson, IsNoJson}
use Rattle.session_texts.specs.Refusals.{error_line, load_refused_text, moved_text, refusal_name, refusal_number}
use Rattle.session_texts.specs.Requests.{Asks, RequestValue}
use Rattle.session_texts.specs.declared.refusals.Refusal.{Refusal}

pub data LineMeaning : Type 0 where
  too_long : LineMeaning
  no_json : LineMeaning
  no_request : LineMeaning
  asks : RequestValue → LineMeaning

-- a line asks this, where `sets` says whether a profile may name several stops on a side
abbrev pub IsLineMeaning : Bool → List ℕ → LineMeaning → Type 0
IsLineMeaning sets line too_long = 65_536 < length line
IsLineMeaning sets line no_json = (length line ≤ 65_536) × IsNoJson line
IsLineMeaning sets line no_request = (length line ≤ 65_536) × ((d : Data) × IsJson line d × ((request : RequestValue) → ¬ Asks sets d request))
IsLineMeaning sets line (asks request) = (length line ≤ 65_536) × ((d : Data) × IsJson line d × Asks sets d request)

abbrev pub refusal_line : Refusal → List ℕ
refusal_line refusal = error_line (refusal_number refusal) (refusal_name refusal)

-- the line that reports that memory ran out
abbrev pub memory_line : List ℕ
memory_line = refusal_line Refusal.OutOfMemory

abbrev pub pin_fault_line : PinFault → List ℕ
pin_fault_line (PinFault.Moved newest) = moved_text newest
pin_fault_line PinFault.AlreadyPinned = error_line (pin_fault_number PinFault.AlreadyPinned) (pin_fault_name PinFault.AlreadyPinned)
pin_fault_line PinFault.NotPinned = error_line (pin_fault_number PinFault.NotPinned) (pin_fault_name PinFault.NotPinned)
pin_fault_line PinFault.SeatLost = error_line (pin_fault_number PinFault.SeatLost) (pin_fault_name PinFault.SeatLost)
pin_fault_line PinFault.OutOfMemory = memory_line

abbrev pub query_fault_line : QueryFault → List ℕ
query_fault_line fault = error_line (numbered_fault fault).0 (numbered_fault fault).1

abbrev pub no_question_line : NoQuestion → List ℕ
no_question_line (NoQuestion.Bad fault) = query_fault_line fault
no_question_line NoQuestion.OutOfMemory = memory_line

abbrev pub order_fault_line : OrderFault → List ℕ
order_fault_line (OrderFault.LoadRefused refusal) = load_refused_text refusal
order_fault_line OrderFault.UnknownFeed = error_line (order_fault_number OrderFault.UnknownFeed) (order_fault_name OrderFault.UnknownFeed)
order_fault_line OrderFault.OrdersFull = error_line (order_fault_number OrderFault.OrdersFull) (order_fault_name OrderFault.OrdersFull)
order_fault_line OrderFault.OutOfMemory = memory_line
order_fault_line OrderFault.LoaderGone = error_line (order_fault_number OrderFault.LoaderGone) (order_fault_name OrderFault.LoaderGone)
