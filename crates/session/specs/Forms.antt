-- In which form a session replies to profiles, for which windows, and whether they may name several stops on a side.
use Rattle.std.specs.Prelude.{◌<◌, ℕ, Option, Some, None, false}
use Rattle.answer_replies.specs.declared.point_form.PointForm.TheVariants.{Bare}
use Rattle.session.specs.declared.reply_form.ReplyForm.{ReplyForm}

-- bare points, for windows of any length, from one stop to one other
abbrev pub bare : ReplyForm
bare = record { points = Bare; longest = None; sets = false }

-- a window of so many seconds is longer than windows may be
abbrev pub ExceedsLongest : Option ℕ → ℕ → Type 0
ExceedsLongest None span = ⊥
ExceedsLongest (Some longest) span = longest < span
