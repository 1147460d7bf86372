-- `small_systems::distances` is safe and ends. The measure is how many rounds are left. Assumes nothing.
use Rattle.std.proofs.Common.{◌-◌}
use Rattle.small_systems.proofs.distances.Given as goal

abbrev pub decreases-loop-d : goal.decreases-loop-d
decreases-loop-d l = 65536 - l.d
