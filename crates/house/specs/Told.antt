-- What `read` tells, in the terms of its promise: a refusal by its number.
use Rattle.std.specs.Prelude.{Result, Ok, Err}
use Rattle.base.specs.Numbers.{number_of}
use Rattle.base.specs.declared.Fault.{Fault}
use Rattle.house.specs.Promise.{Report}
use Rattle.house.specs.declared.House.{House}

abbrev pub report_of : Result House Fault → Report
report_of (Ok h) = record { number = 0; line = 0; n = h.n; start = h.start; step = h.step; bad = h.bad }
report_of (Err f) = record { number = number_of f.refusal; line = f.line; n = 0; start = 0; step = 0; bad = 0 }
