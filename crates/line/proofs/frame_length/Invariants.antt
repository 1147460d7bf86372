-- `line::frame_length` meets its contract: each test that fails tells that the line has not the form. The loop's invariant: the bytes that were passed
-- are digits. Assumes nothing.
use Rattle.line.proofs.Digits.{AllDigits}
use Rattle.line.proofs.frame_length.Given as goal

abbrev pub invariant-loop-c : goal.invariant-loop-c
invariant-loop-c l = AllDigits l.digits l.c-index
