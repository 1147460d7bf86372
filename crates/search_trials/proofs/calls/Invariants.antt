-- `search_trials::calls` is safe and ends. The measure is how many rooms are left between the two ends. Assumes nothing.
use Rattle.std.proofs.Common.{◌-◌}
use Rattle.search_trials.proofs.calls.Given as goal

abbrev pub decreases-loop-low : goal.decreases-loop-low
decreases-loop-low l = l.high - l.low
