use Rattle.profile_scan.proofs.Windows.{window_is_read_backward}
use Rattle.profile_scan.proofs.laws.window_is_read_backward.Goals as goal

pub returns : goal.returns
returns c = window_is_read_backward
