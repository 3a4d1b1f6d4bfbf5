use Rattle.std.proofs.Common.{is_some, sym, ap, ◌∙◌}
use Rattle.intern_store.specs.Named.{key_name}
use Rattle.intern_store.specs.State.{reads}
use Rattle.intern_marks.specs.Marks.{marks}
use Rattle.ra_ap_intern.proofs.CallerLemmas.{entry_read}
use Rattle.ra_ap_intern.proofs.Entries.{declared, read_children}
use Rattle.ra_ap_intern.proofs.gc.storages.ValuesVisits.visit_entry.Goals as goal

pub returns-in_default-clause-found : goal.returns-in_default-clause-found
returns-in_default-clause-found g c =
    ap is_some (c.in_default.ensures ∙ ap (reads c.args.storage.now) c.new.ensures) ∙ sym (entry_read g.T.GcInternedVisit.children c.args.storage.now (key_name c.args.key))

pub returns-in_default-clause-marks : goal.returns-in_default-clause-marks
returns-in_default-clause-marks g c =
    ap (marks c.args.gc.now) (ap (declared g.T.GcInternedVisit.children) (c.in_default.ensures ∙ ap (reads c.args.storage.now) c.new.ensures) ∙ read_children g.T.GcInternedVisit.children c.args.storage.now (key_name c.args.key))

pub returns-clause-found : goal.returns-clause-found
returns-clause-found g c =
    ap is_some (c.in-Some.ensures ∙ ap (reads c.args.storage.now) c.new.ensures) ∙ sym (entry_read g.T.GcInternedVisit.children c.args.storage.now (key_name c.args.key))

pub returns-clause-marks : goal.returns-clause-marks
returns-clause-marks g c =
    c.visit_with.ensures
    ∙ ap (marks c.args.gc.now) (ap (declared g.T.GcInternedVisit.children) (c.in-Some.ensures ∙ ap (reads c.args.storage.now) c.new.ensures) ∙ read_children g.T.GcInternedVisit.children c.args.storage.now (key_name c.args.key))
