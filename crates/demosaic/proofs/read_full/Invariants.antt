-- `demosaic::read_full` meets its contract: each turn reads at least one byte, and what is filled is within `buf`.
use Rattle.std.proofs.Common.{length, ◌-◌, ◌≤◌}
use Rattle.demosaic.proofs.read_full.Given as goal

abbrev pub invariant-loop-filled : goal.invariant-loop-filled
invariant-loop-filled g l = l.filled ≤ length l.buf

abbrev pub decreases-loop-filled : goal.decreases-loop-filled
decreases-loop-filled g l = length l.initial.buf - l.filled
