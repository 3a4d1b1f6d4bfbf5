use Rattle.std.proofs.Common.{ℤ, ◌+◌, Option, None, Some, ℕ, FitsSigned, w64, rules, arith}
use Rattle.std.specs.Int.{w128}
use Rattle.std.proofs.lemmas.Grind.{common_steps}
use Rattle.std.proofs.lemmas.Int.{clamps, ints, to_z-of_z}
use Rattle.std.specs.Prelude.{IfSome}
use Rattle.queries.specs.declared.key.Function.{Function}
use Rattle.queries.specs.declared.key.Function.TheVariants.{Sum, Min, Max, Count}
use Rattle.queries.specs.Value.{IsWithin, included}
use Rattle.queries.proofs.value.total.Goals as goal
use Rattle.queries.proofs.value.total.Goals.{in-Empty, in-Number}

one_more : (f : Function) (so_far : Option ℤ) (n : ℤ) (count : ℕ) → FitsSigned w64 n
    → IfSome so_far (IsWithin count) → IsWithin (count + 1) (included f so_far n)
one_more Sum None n count fits is = (omega (arith, ints), omega (arith, ints))
one_more Min None n count fits is = (omega (arith, ints), omega (arith, ints))
one_more Max None n count fits is = (omega (arith, ints), omega (arith, ints))
one_more Count None n count fits is = (omega (arith, ints), omega (arith, ints))
one_more Sum (Some m) n count fits is = (omega (arith, ints), omega (arith, ints))
one_more Min (Some m) n count fits is = (omega (arith, ints, clamps), omega (arith, ints, clamps))
one_more Max (Some m) n count fits is = (omega (arith, ints, clamps), omega (arith, ints, clamps))
one_more Count (Some m) n count fits is = (omega (arith, ints), omega (arith, ints))

none_more : (so_far : Option ℤ) (count : ℕ) → IfSome so_far (IsWithin count)
    → IfSome so_far (IsWithin (count + 1))
none_more None count is = is
none_more (Some m) count is = (omega (arith, ints), omega (arith, ints))

pub loop-value-preserved : goal.loop-value-preserved
loop-value-preserved c = record {
  total = grind (arith, common_steps);
  small = elim c.match-value.branch [
    | in-Empty w ↦ rw w.so_far-is (none_more _ _ c.loop-value.invariant.small)
    | in-Number w ↦
        let fits : FitsSigned w64 w.in-Number.number = search rules in
        let more : IsWithin (c.loop-value.value-index + 1) w.include.result =
        rw w.include.ensures (rw (to_z-of_z w64 w.in-Number.number fits) (one_more c.args.function
        c.loop-value.so_far w.in-Number.number c.loop-value.value-index fits c.loop-value.invariant.small)) in
        let wide : FitsSigned w128 w.include.result = search rules in
        rw w.so_far-is (rw (to_z-of_z w128 w.include.result wide) more)
  ];
}
