use Rattle.std.proofs.Common.{ap, ◌∙◌}
use Rattle.std.proofs.lemmas.Result.{on_ok_weaker}
use Rattle.intern_store.specs.State.{State}
use Rattle.ra_ap_intern.proofs.Learning.{births_apart, storage_learnt}
use Rattle.ra_ap_intern.specs.declared.storage.Storage.TheInside.{Inside}
use Rattle.ra_ap_intern.proofs.gc.storages.StorageFamily.learn.Goals as goal

pub learn_counts-requires-clause-distinct : goal.learn_counts-requires-clause-distinct
learn_counts-requires-clause-distinct g c = births_apart _ c.counts.result c.counts.ensures

pub returns : goal.returns
returns g c =
    let inner = ap (λ (s : Inside _ _ _ _). s.inner.state) c.self-inside.view_is ∙ c.self.view_is in
    on_ok_weaker c.learn_counts.result
    (storage_learnt c.args.roots g.K.Visits.children c.args.self.now _ c.number-number.result c.counts.result
    (c.table.ensures ∙ ap (λ (s : State _). s.map) inner) (c.number-number.ensures.number ∙ ap (λ (s : State _). s.number) inner) c.counts.ensures
    c.args.marks.now c.learn_counts.new.marks)
    c.learn_counts.ensures
