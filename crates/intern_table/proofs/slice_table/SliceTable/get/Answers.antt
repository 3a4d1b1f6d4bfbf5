use Rattle.std.proofs.Common.{Some, ap, ◌∙◌}
use Rattle.intern_table.specs.Joined.{sliced_entry}
use Rattle.intern_table.specs.Read.{shown, shown_row}
use Rattle.intern_store.proofs.Maps.{read_seen}
use Rattle.intern_table.proofs.Joins.{reads, unread}
use Rattle.intern_table.proofs.Tabled.{seen_entries}
use Rattle.intern_table.proofs.slice_table.SliceTable.get.Goals as goal

pub returns-in-Some : goal.returns-in-Some
returns-in-Some g c =
    let near = g.A.NearItems.near_of in
    let at = c.in-Some in
    ap Some (c.read-in-Some.ensures ∙ ap (λ xs. shown_row near xs at.row.now at.payload) c.as_slice.ensures.value)
    ∙ reads near _ _ c.args.spot.birth at.row.now at.payload at.ensures.value at.ensures.payload
    ∙ read_seen (sliced_entry near c.self.inside.items.items) _ _ (seen_entries c.self.view_is) shown c.args.spot.birth

pub returns-in-None : goal.returns-in-None
returns-in-None g c = unread g.A.NearItems.near_of _ _ _ (seen_entries c.self.view_is) c.args.spot.birth c.in-None.ensures.payload
