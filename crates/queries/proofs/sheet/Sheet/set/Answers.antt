use Rattle.std.proofs.Common.{Some}
use Rattle.queries.proofs.Equal.{places_alike}
use Rattle.queries.proofs.Sheets.{put_at}
use Rattle.queries.proofs.sheet.Sheet.set.Goals as goal

pub returns-clause-ok : goal.returns-clause-ok
returns-clause-ok c =
    put_at _ places_alike _ c.insert.new.self.entries c.args.self.now
    c.self.view_is c.args.place (Some c.args.formula) c.in_ok-insert.ensures.updates.0
