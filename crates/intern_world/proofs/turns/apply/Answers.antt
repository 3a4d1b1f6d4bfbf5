use Rattle.std.proofs.Common.{refl}
use Rattle.intern_world.proofs.Steps.{answered, either, gathered}
use Rattle.intern_world.proofs.turns.apply.Goals as goal

pub returns-in-New-clause-step : goal.returns-in-New-clause-step
returns-in-New-clause-step g c = either _ _ _ _ _ _ c.in-New.is refl c.new_counted.ensures.step

pub returns-in-NewGc-clause-step : goal.returns-in-NewGc-clause-step
returns-in-NewGc-clause-step g c = either _ _ _ _ _ _ c.in-NewGc.is refl c.new_value.ensures.step

pub returns-in-FromHeaderAndSlice-clause-step : goal.returns-in-FromHeaderAndSlice-clause-step
returns-in-FromHeaderAndSlice-clause-step g c = either _ _ _ _ _ _ c.in-FromHeaderAndSlice.is refl
    (rw c.deref.ensures.value at c.new_slice.ensures.step)

pub returns-in-Intern-clause-step : goal.returns-in-Intern-clause-step
returns-in-Intern-clause-step g c = either _ _ _ _ _ _ c.in-Intern.is refl
    (rw c.deref-in-Intern.ensures at c.new_symbol.ensures.step)

pub returns-in-IntegerGet-clause-step : goal.returns-in-IntegerGet-clause-step
returns-in-IntegerGet-clause-step g c = either _ _ _ _ _ _ c.in-IntegerGet.is refl c.new_integer.ensures.step

pub returns-in-GeneratedGet-clause-step : goal.returns-in-GeneratedGet-clause-step
returns-in-GeneratedGet-clause-step g c = either _ _ _ _ _ _ c.in-GeneratedGet.is refl c.new_generated.ensures.step

pub returns-in-FromRaw-clause-step : goal.returns-in-FromRaw-clause-step
returns-in-FromRaw-clause-step g c = answered _ _ _ _ _ _ c.in-FromRaw.is refl c.from_birth.ensures.says

pub returns-in-AsRef-clause-step : goal.returns-in-AsRef-clause-step
returns-in-AsRef-clause-step g c = answered _ _ _ _ _ _ c.in-AsRef.is refl c.refer.ensures.says

pub returns-in-Clone-clause-step : goal.returns-in-Clone-clause-step
returns-in-Clone-clause-step g c = answered _ _ _ _ _ _ c.in-Clone.is refl c.clone_handle.ensures.says

pub returns-in-ToOwned-clause-step : goal.returns-in-ToOwned-clause-step
returns-in-ToOwned-clause-step g c = answered _ _ _ _ _ _ c.in-ToOwned.is refl c.own.ensures.says

pub returns-in-Release-clause-step : goal.returns-in-Release-clause-step
returns-in-Release-clause-step g c = answered _ _ _ _ _ _ c.in-Release.is refl c.release.ensures.says

pub returns-in-Decrement-clause-step : goal.returns-in-Decrement-clause-step
returns-in-Decrement-clause-step g c = answered _ _ _ _ _ _ c.in-Decrement.is refl c.decrement.ensures.says

pub returns-in-AsRaw-clause-step : goal.returns-in-AsRaw-clause-step
returns-in-AsRaw-clause-step g c = answered _ _ _ _ _ _ c.in-AsRaw.is refl c.birth.ensures

pub returns-in-ReadsCounted-clause-step : goal.returns-in-ReadsCounted-clause-step
returns-in-ReadsCounted-clause-step g c = answered _ _ _ _ _ _ c.in-ReadsCounted.is refl c.reads_counted.ensures

pub returns-in-ReadsValue-clause-step : goal.returns-in-ReadsValue-clause-step
returns-in-ReadsValue-clause-step g c = answered _ _ _ _ _ _ c.in-ReadsValue.is refl c.reads_value.ensures

pub returns-in-ReadsSlice-clause-step : goal.returns-in-ReadsSlice-clause-step
returns-in-ReadsSlice-clause-step g c = answered _ _ _ _ _ _ c.in-ReadsSlice.is refl
    (rw c.deref-in-ReadsSlice.ensures.value at c.reads_slice.ensures)

pub returns-in-ReadsText-clause-step : goal.returns-in-ReadsText-clause-step
returns-in-ReadsText-clause-step g c = answered _ _ _ _ _ _ c.in-ReadsText.is refl
    (rw c.deref-in-ReadsText.ensures at c.reads_text.ensures)

pub returns-in-Count-clause-step : goal.returns-in-Count-clause-step
returns-in-Count-clause-step g c = answered _ _ _ _ _ _ c.in-Count.is refl c.count.ensures

pub returns-in-AsUint-clause-step : goal.returns-in-AsUint-clause-step
returns-in-AsUint-clause-step g c = answered _ _ _ _ _ _ c.in-AsUint.is refl c.uint.ensures

pub returns-in-Empty-clause-step : goal.returns-in-Empty-clause-step
returns-in-Empty-clause-step g c = answered _ _ _ _ _ _ c.in-Empty.is refl
    c.new_empty.ensures.says

pub returns-in-Put-clause-step : goal.returns-in-Put-clause-step
returns-in-Put-clause-step g c = answered _ _ _ _ _ _ c.in-Put.is refl c.put.ensures.says

pub returns-in-Same-clause-step : goal.returns-in-Same-clause-step
returns-in-Same-clause-step g c = answered _ _ _ _ _ _ c.in-Same.is refl
    (record { reply_is = c.same.ensures; after_is = refl })

pub returns-in-Len-clause-step : goal.returns-in-Len-clause-step
returns-in-Len-clause-step g c = answered _ _ _ _ _ _ c.in-Len.is refl
    (record { reply_is = c.len.ensures; after_is = refl })

pub returns-in-Collect-clause-step : goal.returns-in-Collect-clause-step
returns-in-Collect-clause-step g c = gathered _ _ _ _ _ c.in-Collect.is c.collect.ensures.step
