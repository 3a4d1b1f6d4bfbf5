use Rattle.std.proofs.Common.{◌≡◌, Some, None, ◌∙◌}
use Rattle.std.proofs.lemmas.Result.{IfOk-weaker}
use Rattle.queries.specs.Sheet.{reads_of}
use Rattle.queries.proofs.Equal.{places_alike}
use Rattle.queries.proofs.Sheets.{found_at, cell_reads}
use Rattle.queries.proofs.sheet.Sheet.reads.Goals as goal

pub returns-in-Some : goal.returns-in-Some
returns-in-Some c =
    let found = found_at _ places_alike _ c.args.self.now c.self.view_is
    c.in-Cell.place (Some c.in-Some.formula.now) c.in-Some.ensures.value in
    IfOk-weaker c.from_slice.result (λ reads. reads.items ≡ c.reads.result.now)
    (λ reads. reads.items ≡ reads_of c.args.self.now c.args.key)
    (λ reads is. is ∙ c.reads.ensures ∙ cell_reads c.args.self.now c.in-Cell.place c.args.key c.in-Cell.is _ found)
    c.from_slice.ensures.items

pub returns-in-None : goal.returns-in-None
returns-in-None c =
    c.new.ensures.items
    ∙ cell_reads c.args.self.now c.in-Cell.place c.args.key c.in-Cell.is None
    (found_at _ places_alike _ c.args.self.now c.self.view_is
    c.in-Cell.place None c.in-None.ensures.value)
