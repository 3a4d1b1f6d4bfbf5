use Rattle.std.proofs.Common.{◌≡◌, drop}
use Rattle.std.specs.Prelude.{IfSome}
use Rattle.queries.specs.Value.{IsWithin, total_from, total_of}
use Rattle.queries.proofs.value.total.Given as goal

-- the values that are left give the total, and what was made of those before them is small
abbrev pub invariant-loop-value : goal.invariant-loop-value
invariant-loop-value l = record {
  total : total_from l.function l.so_far (drop l.value-index l.values) ≡ total_of l.function l.values;
  small : IfSome l.so_far (IsWithin l.value-index);
}
