use Rattle.std.proofs.Common.{ap, ◌∙◌}
use Rattle.std.specs.Option.{option_map}
use Rattle.intern_store.specs.Named.{key_name}
use Rattle.intern_store.specs.State.{reads}
use Rattle.intern_marks.specs.Marks.{marks}
use Rattle.ra_ap_intern.specs.Families.{sliced_children}
use Rattle.ra_ap_intern.specs.Slices.{sized}
use Rattle.ra_ap_intern.proofs.Entries.{shown_entry, shown_children, marks-append}
use Rattle.ra_ap_intern.proofs.gc.storages.SlicesVisits.visit_entry.Goals as goal

pub returns-in_default-clause-found : goal.returns-in_default-clause-found
returns-in_default-clause-found g c =
    shown_entry (sliced_children g.T.GcInternedSliceVisit.header_children g.T.GcInternedSliceVisit.slice_children)
    c.args.storage.now (key_name c.args.key) _ (c.in_default.ensures ∙ ap (λ n. option_map sized (reads c.args.storage.now n)) c.new.ensures)

pub returns-in_default-clause-marks : goal.returns-in_default-clause-marks
returns-in_default-clause-marks g c =
    ap (marks c.args.gc.now)
    (shown_children (sliced_children g.T.GcInternedSliceVisit.header_children g.T.GcInternedSliceVisit.slice_children)
    c.args.storage.now (key_name c.args.key) _ (c.in_default.ensures ∙ ap (λ n. option_map sized (reads c.args.storage.now n)) c.new.ensures))

pub returns-clause-found : goal.returns-clause-found
returns-clause-found g c =
    shown_entry (sliced_children g.T.GcInternedSliceVisit.header_children g.T.GcInternedSliceVisit.slice_children)
    c.args.storage.now (key_name c.args.key) _ (c.in-Some.ensures ∙ ap (λ n. option_map sized (reads c.args.storage.now n)) c.new.ensures)

pub returns-clause-marks : goal.returns-clause-marks
returns-clause-marks g c =
    c.visit_slice.ensures
    ∙ ap (λ s. marks s (g.T.GcInternedSliceVisit.slice_children c.in-Some.value.slice.now)) c.visit_header.ensures
    ∙ marks-append c.args.gc.now (g.T.GcInternedSliceVisit.header_children c.in-Some.value.header.header.now) _
    ∙ ap (marks c.args.gc.now)
    (shown_children (sliced_children g.T.GcInternedSliceVisit.header_children g.T.GcInternedSliceVisit.slice_children)
    c.args.storage.now (key_name c.args.key) _ (c.in-Some.ensures ∙ ap (λ n. option_map sized (reads c.args.storage.now n)) c.new.ensures))
