use Rattle.std.proofs.Common.{None}
use Rattle.queries.proofs.Equal.{places_alike}
use Rattle.queries.proofs.Sheets.{put_at}
use Rattle.queries.proofs.sheet.Sheet.clear.Goals as goal

pub returns : goal.returns
returns c =
    put_at _ places_alike _ c.remove.new.self.entries c.args.self.now
    c.self.view_is c.args.place None c.remove.ensures.updates.0
