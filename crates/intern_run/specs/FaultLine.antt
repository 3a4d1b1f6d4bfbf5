-- The line on standard error for each fault, without its line feed.
use Rattle.std.specs.Prelude.{ℕ, List, codes}
use Rattle.intern_run.specs.declared.fault.Fault.{Fault}
use Rattle.intern_run.specs.declared.fault.Fault.TheVariants.{Input, NotText, OutOfMemory, Output}

abbrev pub fault_line : Fault → List ℕ
fault_line Input = codes "intern_run: input failed"
fault_line NotText = codes "intern_run: input is not UTF-8"
fault_line OutOfMemory = codes "intern_run: out of memory"
fault_line Output = codes "intern_run: output failed"
